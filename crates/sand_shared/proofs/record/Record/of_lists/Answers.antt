-- The odometer settles the start and the history (`LeadsTo`), so no grains are made and what is not on the pile is
-- lost (`grains_left`). The topplings are bounded by the weight of the grains (`few_topplings`).
use Rattle.sand_shared.proofs.Common.{ℕ, ◌+◌, ◌-◌, List, sum, refl, sym, ap, ◌∙◌, subst, arith, most_grains_on, PileView, SettledView, IsOneThreads}
use Rattle.sand_shared.proofs.RecordSums.{LeadsTo, few_topplings, grains_left, one_threads, settled_record}
use Rattle.sand_shared.proofs.record.Record.of_lists.Goals.{After-grains-2, After-shape}
use Rattle.sand_shared.proofs.record.Record.of_lists.Goals as goal

leads : (c : After-shape) → LeadsTo c.args.start c.args.history.items c.args.heights.items c.args.odometer.items
leads c = record {
  pile = c.shape.ensures.pile;
  all_sites = c.requires.all_sites;
  limit = c.requires.limit;
  heights_each = c.requires.len.0;
  odometer_each = c.requires.len.1;
  settled = c.requires.settled;
}

pub from_vec-pile-requires-clause-limit : goal.from_vec-pile-requires-clause-limit
from_vec-pile-requires-clause-limit c =
    let limit = ap most_grains_on c.shape.ensures.value in
    omega (arith, grains_left (leads (goal.at.from_vec-pile-requires-clause-limit c).After-shape))

pub overflow_sub-lost : goal.overflow_sub-lost
overflow_sub-lost c =
    let left = grains_left (leads (goal.at.overflow_sub-lost c).After-shape) in
    omega (arith, c.grains-2.ensures.value ∙ ap (λ (p : PileView). sum p.heights) c.from_vec-pile.ensures)

-- the record as it is made: what the start and the history have more than the settled pile is lost
made : (c : After-grains-2)
    → LeadsTo c.args.start c.args.history.items c.args.heights.items c.args.odometer.items
    → IsOneThreads (record {
      start = c.args.start;
      history = c.args.history.items;
      settled = record {
        pile = c.from_vec-pile.result;
        odometer = c.args.odometer.items;
        topplings = sum c.args.odometer.items;
        lost = c.grains.result + c.len.result - c.grains-2.result;
      };
    })
made c leads_to =
    let rest = c.grains-2.ensures.value ∙ ap (λ (p : PileView). sum p.heights) c.from_vec-pile.ensures in
    one_threads leads_to _
    (ap (λ (p : PileView). p.grid) c.from_vec-pile.ensures ∙ c.shape.ensures.value)
    (ap (λ (p : PileView). p.heights) c.from_vec-pile.ensures)
    refl refl (omega arith)

pub of_parts-settled-requires-clause-settled : goal.of_parts-settled-requires-clause-settled
of_parts-settled-requires-clause-settled c =
    let at = goal.at.of_parts-settled-requires-clause-settled c in
    settled_record _ (made at.After-grains-2 (leads at.After-shape))

pub of_parts-settled-requires-clause-fits : goal.of_parts-settled-requires-clause-fits
of_parts-settled-requires-clause-fits c =
    let few = few_topplings (leads (goal.at.of_parts-settled-requires-clause-fits c).After-shape)
    in omega arith

pub invariant_of-result : goal.invariant_of-result
invariant_of-result c =
    let at = goal.at.invariant_of-result c in
    subst
    (λ (z : List ℕ × SettledView). IsOneThreads (record { start = c.args.start; history = z.0; settled = z.1 }))
    (λ i. (sym c.of.ensures i, sym c.of_parts-settled.ensures i))
    (made at.After-grains-2 (leads at.After-shape))
