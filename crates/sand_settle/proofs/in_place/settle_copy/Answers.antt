use Rattle.sand_settle.proofs.Common.{◌∙◌, ap, rules, subst, get_or, PileView, height_of, IsSettledRecord}
use Rattle.sand_settle.proofs.Records.{same_record}
use Rattle.sand_settle.proofs.in_place.settle_copy.Goals as goal

pub returns : goal.returns
returns c =
    let is = subst (λ (p : PileView). IsSettledRecord p.grid (height_of p) c.in_ok-settled.settled)
    (c.from_counted-start.ensures ∙ ap (λ hs. record { grid = c.args.shape; heights = hs }) c.in_ok-copy.ensures.items)
    c.in_ok-settled.ensures.record in
    record {
      settled = same_record c.args.shape (λ j. get_or c.args.heights.now j 0) c.in_ok-settled.settled _ _ _ _ is
          (c.copy_from_slice.ensures.after ∙ c.heights.ensures.value ∙ ap (λ (p : PileView). p.heights) c.pile.ensures.value)
          (c.copy_from_slice-2.ensures.after ∙ c.odometers.ensures.value) c.topplings.ensures c.lost.ensures;
      heights = search rules;
      odometer = search rules;
    }
