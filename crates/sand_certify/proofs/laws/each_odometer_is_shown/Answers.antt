use Rattle.sand_certify.proofs.TurnsOfOdometer.{each_odometer_is_shown}
use Rattle.sand_certify.proofs.laws.each_odometer_is_shown.Goals as goal

pub returns : goal.returns
returns c = each_odometer_is_shown
