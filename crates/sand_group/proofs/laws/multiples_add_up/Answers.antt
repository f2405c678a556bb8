use Rattle.sand_group.proofs.Multiples.{has_one_multiple, none_is_identity, one_is_itself, multiples_add_up}
use Rattle.sand_group.proofs.laws.multiples_add_up.Goals as goal

pub returns : goal.returns
returns c = record {
  one = has_one_multiple;
  none = none_is_identity;
  itself = one_is_itself;
  sum = multiples_add_up;
}
