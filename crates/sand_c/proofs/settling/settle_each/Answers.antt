-- Each pile is within the limit (`each_within`), so its copy settles in place. Its record is appended to those of the
-- piles before it, and changes none of these (`one_more`).
use Rattle.sand_c.proofs.Common.{◌≡◌, ◌∙◌, ℕ, List, ap, subst, rules, slice_index, slice_chunk, Grid, sites, most_grains_on, SettledView, IsSettledRecord}
use Rattle.sand_settle.specs.InPlace.{record_in_place}
use Rattle.sand_c.proofs.Chunks.{each_within}
use Rattle.sand_c.proofs.Records.{one_more}
use Rattle.sand_c.proofs.settling.settle_each.Goals.{After-copy_from_slice}
use Rattle.sand_c.proofs.settling.settle_each.Goals as goal

-- the list has the heights of the next pile
copied : (c : After-copy_from_slice)
    → c.copy_from_slice.new.self ≡ slice_chunk c.args.heights.now (sites c.args.shape) c.loop-next.next
copied c = c.copy_from_slice.ensures.after ∙ c.heights_at.ensures.value
    ∙ ap (λ n. slice_chunk c.args.heights.now n c.loop-next.next) c.sites-sites.ensures.value

pub settle_in_place-requires : goal.settle_in_place-requires
settle_in_place-requires c = record {
  heights_each = search rules;
  odometer_each = search rules;
  limit = rw (copied (goal.at.settle_in_place-requires c).After-copy_from_slice)
      (each_within (most_grains_on c.args.shape) (sites c.args.shape) c.args.heights.now c.args.count c.requires.within
      c.loop-next.next c.loop-next-test.true);
}

pub loop-next-preserved : goal.loop-next-preserved
loop-next-preserved c =
    let g : Grid = c.args.shape in
    let next : ℕ = c.loop-next.next in
    let was = c.loop-next.invariant in
    let r : SettledView =
    record_in_place g c.settle_in_place.new.heights c.settle_in_place.new.odometer c.in-Ok.totals in
    let settled : IsSettledRecord g (slice_index (slice_chunk c.args.heights.now (sites g) next)) r =
    subst (λ (hs : List ℕ). IsSettledRecord g (slice_index hs) r)
    (copied (goal.at.loop-next-preserved c).After-copy_from_slice) c.in-Ok.ensures.settled in
    record {
      records = one_more g c.args.heights.now next c.loop-next.all _ r was.records settled (record {
        heights = rw c.in_ok-extend_from_slice.was at c.extend_from_slice.ensures.items;
        odometer = rw c.in_ok-extend_from_slice-2.was at c.extend_from_slice-in-loop-next.ensures.items;
        lost = c.push_reserved.ensures.items;
        topplings = c.push_reserved-in-loop-next.ensures.items;
      });
      pile_each = settled.heights_each;
      odometer_each = settled.odometer_each;
      lost_len = search rules;
      topplings_len = search rules;
      lost_room = search rules;
      topplings_room = search rules;
    }
