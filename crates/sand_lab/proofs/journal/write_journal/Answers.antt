use Rattle.sand_lab.proofs.Common.{◌≡◌, ◌*◌, length, vec_len, Some, ap, sym, subst, ◌∙◌, arith, length-map, slice_get, AllBelow, flattened, lists}
use Rattle.sand_lab.proofs.EntriesAtNumbers.{NotedBelow, part_at, part_below, noted_more, all_noted}
use Rattle.sand_lab.proofs.JournalFollowsStreams.{ascends}
use Rattle.sand_lab.proofs.journal.write_journal.Goals as goal
use Rattle.sand_lab.proofs.journal.write_journal.Goals.{After-as_slice}

-- the part being written is the k-th
here : (c : After-as_slice) → slice_get (lists c.args.parts.now) c.loop-dropper.dropper ≡ Some c.as_slice.result.now
here c =
    let part = c.index-parts-dropper.result in
    part_at c.args.parts.now c.loop-dropper.dropper part c.loop-dropper-test.true
    ∙ (λ i. Some (sym c.index-parts-dropper.is i).items) ∙ ap (λ rs. Some rs) (sym c.as_slice.ensures.value)

pub write_part-requires-clause-ascends : goal.write_part-requires-clause-ascends
write_part-requires-clause-ascends c =
    ascends c.requires.are_parts c.loop-dropper.dropper c.as_slice.result.now
    (here (goal.at.write_part-requires-clause-ascends c).After-as_slice)

pub write_part-requires-clause-below : goal.write_part-requires-clause-below
write_part-requires-clause-below c =
    let long : length (flattened (lists c.args.parts.now)) ≡ vec_len c.loop-dropper.journal =
    sym (c.loop-dropper.invariant.len ∙ c.requires.len) in
    part_below c.requires.are_parts c.loop-dropper.dropper c.as_slice.result.now (vec_len c.loop-dropper.journal)
    (here (goal.at.write_part-requires-clause-below c).After-as_slice)
    (subst (λ n. AllBelow n (flattened (lists c.args.parts.now))) long c.requires.below)

pub loop-dropper-preserved : goal.loop-dropper-preserved
loop-dropper-preserved c =
    let done = c.write_part.ensures in
    record {
      len = done.len ∙ c.loop-dropper.invariant.len;
      noted = noted_more c.requires.are_parts c.loop-dropper.dropper c.as_slice.result.now
          c.loop-dropper.journal.items c.write_part.new.journal.items
          (here (goal.at.loop-dropper-preserved c).After-as_slice) c.requires.once
          done.entries done.others c.loop-dropper.invariant.noted;
    }

pub returns : goal.returns
returns c =
    let drops = c.args._drops in
    let parts = lists c.args.parts.now in
    let all = flattened parts in
    let js = c.loop-dropper.journal.items in
    let long : length js ≡ length all = omega (arith, c.loop-dropper.invariant.len, c.requires.len) in
    let end : c.loop-dropper.dropper ≡ length parts = omega (
      arith,
      c.loop-dropper-test.false,
      c.loop-dropper.auto.dropper-end,
      length-map c.args.parts.now (λ part. part.items),
    ) in
    record {
      journal = all_noted c.requires.are_parts js long
          (subst (λ k. NotedBelow drops (k * drops) all js) end c.loop-dropper.invariant.noted);
    }
