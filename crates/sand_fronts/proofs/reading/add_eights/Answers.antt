-- The entries before the spot have their numbers added, and those from it on are the old ones (`rest`), so that
-- nothing is added twice. Of eight numbers only those within the grid's row are added (`eights_more`).
use Rattle.sand_fronts.proofs.Common.{◌+◌, ◌*◌, ◌≤◌, ◌-◌, slice_index, ◌∙◌, ap, arith, mul-le-mul_left}
use Rattle.sand_fronts.proofs.Eights.{number_of, eights_more}
use Rattle.sand_fronts.proofs.NewPiles.{by_site_is}
use Rattle.sand_fronts.proofs.reading.add_eights.Goals.{After-numbers}
use Rattle.sand_fronts.proofs.reading.add_eights.Goals as goal

pub add_between-requires-clause-fits : goal.add_between-requires-clause-fits
add_between-requires-clause-fits g c j from to =
    let at = ap (λ w. c.eights.spot.row * w + c.eights.spot.column) c.width-width.ensures.value in
    let above : c.eights.spot.row + 1 ≤ c.args.shape.height = omega (arith, c.eights-test.true, c.height.ensures.value) in
    let rows = mul-le-mul_left c.args.shape.width above in
    let eight = c.requires.fits.1 c.eights.spot c.numbers.result
    (record { row = omega arith; column = c.eights.invariant.column; first = c.eights.invariant.first })
    c.numbers.ensures in
    let read = number_of c.args.shape c.eights.spot c.requires.fits.0 c.numbers.result
    (c.eights.spot.row * c.width-width.result + c.eights.spot.column)
    (0 + (j - (c.eights.spot.row * c.width-width.result + c.eights.spot.column))) j eight at from
    (omega (arith, c.min.ensures, c.width-width.ensures.value)) (omega arith) in
    let within = c.eights.invariant.column in
    omega (arith, read, c.eights.invariant.rest j (omega arith), c.requires.fits.2 j (omega arith))

pub eights-preserved : goal.eights-preserved
eights-preserved g c =
    let at = ap (λ w. c.eights.spot.row * w + c.eights.spot.column) c.width-width.ensures.value in
    let above : c.eights.spot.row + 1 ≤ c.args.shape.height = omega (arith, c.eights-test.true, c.height.ensures.value) in
    let rows = mul-le-mul_left c.args.shape.width above in
    let adds = c.add_between.ensures in
    let before = c.eights.invariant in
    record {
      len = adds.len ∙ before.len;
      column = c.next_eight-spot.ensures.column.0;
      first = c.next_eight-spot.ensures.column.1;
      within = omega (arith, c.next_eight-spot.ensures.next, before.column);
      added = λ v tells j less.
          let eight = tells c.eights.spot c.numbers.result
          (record { row = omega arith; column = before.column; first = before.first }) c.numbers.ensures in
          eights_more c.args.shape c.eights.spot v c.numbers.result c.args.list.now c.eights.list c.add_between.new.list
          (c.eights.spot.row * c.width-width.result + c.eights.spot.column)
          (c.eights.spot.row * c.width-width.result + c.eights.spot.column + c.min.result) eight at
          (omega (arith, c.min.ensures, c.width-width.ensures.value)) adds
          (λ i l. before.added v tells i (omega arith)) (λ i l. before.rest i (omega arith)) j
          (omega (arith, c.next_eight-spot.ensures.next));
      rest = λ j more.
          adds.after j (omega (arith, c.next_eight-spot.ensures.next)) ∙ before.rest j
          (omega (arith, c.next_eight-spot.ensures.next));
    }

pub returns : goal.returns
returns g c v tells =
    let below : c.args.shape.height ≤ c.eights.spot.row = omega (arith, c.eights-test.false, c.height.ensures.value) in
    let rows = mul-le-mul_left c.args.shape.width below in
    let after = c.eights.invariant in
    by_site_is c.args.shape (λ j. slice_index c.args.list.now j + v j) c.eights.list
    (after.len ∙ c.requires.len) (λ j l. after.added v tells j (omega arith))
