-- That counts and rest add up to the least odometer is required (`IsCompleted`); here they are added, as lists.
use Rattle.sand_shared.proofs.Common.{ℕ, List, length, sym, ap, ◌+◌, ◌∙◌, refl, arith, slice_index, PileView, height_of, occurrences, settled_same, odometer_of}
use Rattle.sand_shared.proofs.settling.record_of.Goals as goal

pub add-requires-clause-fits : goal.add-requires-clause-fits
add-requires-clause-fits c i l =
    let same = ap (λ (l : List ℕ). length l) c.odometers.ensures.value in
    omega (arith, ap (λ (l : List ℕ). slice_index l i) c.odometers.ensures.value, c.requires.fits i (omega arith))

pub of_lists-requires : goal.of_lists-requires
of_lists-requires c =
    let start = c.args.start in
    let counts = c.args.counts.items in
    let odometers = c.odometers.ensures.value in
    let heights = c.into_parts-heights.ensures.heights ∙ ap (λ (q : PileView). q.heights) c.into_pile.ensures in
    let each = ap (λ (l : List ℕ). length l) odometers ∙ c.requires.odometer_each in
    record {
      all_sites = c.requires.all_sites;
      limit = c.requires.limit;
      len = (ap (λ (l : List ℕ). length l) heights ∙ c.requires.heights_each, c.add.ensures.len ∙ c.requires.counts_each);
      settled = settled_same start.grid
          (λ i. height_of start i + occurrences c.args.history.items i) (λ i. height_of start i + occurrences c.args.history.items i)
          (λ i. slice_index counts i + odometer_of c.args.rest i) (slice_index c.add.new.numbers.items)
          (height_of c.args.rest.pile) (slice_index c.into_parts-heights.result.1.items)
          (λ i l. refl)
          (λ i l. sym (c.add.ensures.sums i (omega arith) ∙ ap (λ (l : List ℕ). slice_index counts i + slice_index l i) odometers))
          (λ i l. ap (λ (l : List ℕ). slice_index l i) (sym heights))
          c.requires.settled;
    }

pub returns-clause-never_fall : goal.returns-clause-never_fall
returns-clause-never_fall c = λ i.
    omega (arith, ap (λ (l : List ℕ). slice_index l i) c.of_lists.ensures.odometer, c.add.ensures.never_fall i)
