use Rattle.sand_model.proofs.Edges.{none_farther, middle_farthest, most_is_small}
use Rattle.sand_model.proofs.laws.distances_to_edge.Goals as goal

pub returns-clause-none_farther : goal.returns-clause-none_farther
returns-clause-none_farther c = none_farther

pub returns-clause-middle : goal.returns-clause-middle
returns-clause-middle c = middle_farthest

pub returns-clause-small : goal.returns-clause-small
returns-clause-small c = most_is_small
