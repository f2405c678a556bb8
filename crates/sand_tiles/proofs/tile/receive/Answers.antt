-- A place that has had at most 7 with its gain, and comes to 4 now, was not due: so the union with `due` counts it.
use Rattle.sand_tiles.proofs.Common.{refl, arith, le_or_l}
use Rattle.sand_tiles.proofs.Bits.{at_place}
use Rattle.sand_tiles.proofs.tile.receive.Goals as goal

pub returns : goal.returns
returns c = record {
  wave = refl;
  due_grows = λ some. omega (arith, le_or_l);
  due_free = λ p low before. omega (arith, at_place);
  each = λ p low is few. omega (arith, at_place);
  modulo = λ p low. omega (arith, at_place);
}
