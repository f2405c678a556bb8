-- The places from the loop's on are in the tile, moved to its beginning (`so_far`), and each step puts the place
-- before them in front (`place_more`). With the first place, each is where it belongs.
use Rattle.sand_fronts.proofs.Common.{◌≡◌, ◌+◌, ◌∙◌, ap, refl, arith, on_tiles}
use Rattle.sand_fronts.proofs.Filled.{place_more}
use Rattle.sand_fronts.proofs.filling.tile_of.Goals as goal

pub loop-place-init : goal.loop-place-init
loop-place-init g c = record { clear = refl; so_far = λ h tells q low. absurd (omega arith) }

pub loop-place-preserved : goal.loop-place-preserved
loop-place-preserved g c = record {
  clear = c.put_number.ensures.wave ∙ c.loop-place.invariant.clear;
  so_far = λ h tells. place_more (on_tiles c.args.shape h c.args.k) c.loop-place.tile c.put_number.new.tile
      c.loop-place.place c.loop-place-test.true (c.put_number.ensures.first ∙ c.number_at.ensures.each h tells)
      c.put_number.ensures.others (c.loop-place.invariant.so_far h tells);
}

pub returns : goal.returns
returns g c = record {
  clear = c.loop-place.invariant.clear;
  each = λ h tells p low.
      let e : p + c.loop-place.place ≡ p = omega (arith, c.loop-place-test.false) in
      c.loop-place.invariant.so_far h tells p (omega arith) ∙ ap (on_tiles c.args.shape h c.args.k) e;
}
