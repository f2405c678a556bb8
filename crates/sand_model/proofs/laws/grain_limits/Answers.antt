use Rattle.sand_model.proofs.Bounds.{topplings_bound, limit_is_high, limit_is_low, limit_has_room}
use Rattle.sand_model.proofs.laws.grain_limits.Goals as goal

pub returns-clause-few : goal.returns-clause-few
returns-clause-few c = topplings_bound

pub returns-clause-high : goal.returns-clause-high
returns-clause-high c = limit_is_high

pub returns-clause-low : goal.returns-clause-low
returns-clause-low c = limit_is_low

pub returns-clause-room : goal.returns-clause-room
returns-clause-room c = limit_has_room
