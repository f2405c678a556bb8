-- Of the sets that are no longer marked all places have been read (`SetsRead`). With an empty list no set is left
-- (`all_empty`), so all have been.
use Rattle.sand_fronts.proofs.Common.{inr, refl, ◌∙◌, ap, arith, length, slice_index, eq-eqb, ne_eqb, sum_below, bit, bit_none}
use Rattle.sand_fronts.proofs.Counted.{few_in_sets, set_less}
use Rattle.sand_fronts.proofs.Marked.{all_empty}
use Rattle.sand_fronts.proofs.Reached.{sets_more}
use Rattle.sand_fronts.proofs.extent.take_all.Goals as goal

pub tiles-init : goal.tiles-init
tiles-init c = record {
  marks_each = refl;
  read = record {
    left = λ m. inr refl;
    within = λ m p none low is. let z = bit_none p in grind arith;
    reached = λ some. absurd (omega arith);
  };
  so_far = omega arith;
}

pub add_set-extent-requires-clause-fits : goal.add_set-extent-requires-clause-fits
add_set-extent-requires-clause-fits c =
    let few = few_in_sets (length c.args.marks.now.sets) (slice_index c.args.marks.now.sets) in (
      c.spot-from.ensures.fits.0,
      c.spot-from.ensures.fits.1,
      omega (arith, c.tiles.invariant.so_far, c.requires.fits),
    )

pub tiles-preserved : goal.tiles-preserved
tiles-preserved c =
    let step = c.take_last-k.ensures in
    let k = c.take_last-k.result.0 in
    let less = set_less (length c.args.marks.now.sets) k (λ i p b. b) (slice_index c.tiles.marks.sets)
    (slice_index c.take_last-k.new.self.sets) (λ i p. refl) (omega (arith, step.tile, c.tiles.invariant.marks_each))
    (rw (eq-eqb k k refl) at (step.each k)) (λ m ne. rw (ne_eqb m k ne) at (step.each m)) in
    let set = ap (λ w. sum_below 64 (bit w)) step.set in
    record {
      marks_each = step.len ∙ c.tiles.invariant.marks_each;
      read = sets_more (slice_index c.take_last-k.new.self.sets) k c.tiles.invariant.read
          (rw c.spot-from.ensures.value at c.add_set-extent.ensures.reach) step.set step.each;
      so_far = omega (arith, c.tiles.invariant.so_far, c.add_set-extent.ensures.area);
    }

-- no tile is marked any more
pub returns : goal.returns
returns c =
    let none = all_empty (length c.args.marks.now.sets) c.tiles.marks.sets c.tiles.marks.tiles
    c.len-in-tiles.ensures.lists (omega (arith, c.len-in-tiles.ensures.value, c.tiles-test.false)) in
    record {
      area = omega (arith, c.tiles.invariant.so_far, none.1);
      reach = record {
        within = λ m p. c.tiles.invariant.read.within m p (none.0 m);
        reached = c.tiles.invariant.read.reached;
      };
      len = c.tiles.invariant.marks_each;
      none = none.0;
    }

-- no tile was marked
pub returns-then-len-eq0 : goal.returns-then-len-eq0
returns-then-len-eq0 c =
    let none = all_empty (length c.args.marks.now.sets) c.args.marks.now.sets c.args.marks.now.tiles c.len.ensures.lists
    (omega (arith, c.len.ensures.value, c.if-len-eq0.true)) in
    record {
      area = omega (arith, none.1);
      reach = record {
        within = λ m p low is. let z = rw none.0 at is in absurd (omega (arith, bit_none p));
        reached = λ some. absurd (omega arith);
      };
      len = refl;
      none = none.0;
    }
