use Rattle.sand_model.specs.Grid.{sites}
use Rattle.sand_model.proofs.Heights.{sum_is_grains}
use Rattle.sand_model.proofs.Occurrences.{sum_below-occurrences}
use Rattle.sand_model.proofs.SumsBelow.{sum_below-add}
use Rattle.sand_model.proofs.laws.grains_add_up.Goals as goal

pub returns-clause-heights : goal.returns-clause-heights
returns-clause-heights c = sum_is_grains

pub returns-clause-together : goal.returns-clause-together
returns-clause-together c g = sum_below-add (sites g)

pub returns-clause-drops : goal.returns-clause-drops
returns-clause-drops c g = sum_below-occurrences (sites g)
