use Rattle.sand_lab.proofs.Common.{rules, arith, ◌≡◌, ℕ, ◌+◌, ◌*◌, ◌/◌, List, [], ◌∷◌, ◌++◌, length, Some, ap, ap₂, sym, subst, ◌∙◌, append_assoc, append-nil, length-append, slice_get, flat_map_more, map-append, nil_from_length, mul-div_cancel_left, into_iter_items, grid_of_terms, PassView, together, Worker, all_counts, HoldsBand}
use Rattle.sand_lab.proofs.RowsInBands.{top, band_joined, band_touches, next_at, share_grows}
use Rattle.sand_lab.proofs.gathering.gather_workers.Goals.{In-Some}
use Rattle.sand_lab.proofs.gathering.gather_workers.Goals as goal

in_order : (c : In-Some)
    → c.loop-worker.yielded ++ c.in-Some.worker ∷ into_iter_items c.next.new.self ≡ c.args.workers.items
in_order c =
    let steps : into_iter_items c.loop-worker.worker-iterator ≡ c.in-Some.worker ∷ into_iter_items c.next.new.self =
    c.in-Some.ensures.steps.0 in
    rw (← steps) c.loop-worker.invariant.items

-- the next worker has the band after those of the workers so far
holds : (c : In-Some)
    → HoldsBand c.args.pile.now (length c.args.workers.items) (length c.loop-worker.yielded) c.in-Some.worker
holds c =
    let xs = c.loop-worker.yielded in
    let x = c.in-Some.worker in
    let at : slice_get c.args.workers.items (length xs) ≡ Some x =
    subst (λ ws. slice_get ws (length xs) ≡ Some x) (in_order c) (next_at xs (into_iter_items c.next.new.self) x) in
    c.requires.workers (length xs) x at

pub take_in-requires-clause-touching : goal.take_in-requires-clause-touching
take_in-requires-clause-touching c =
    let s = c.args.pile.now in
    let height = (grid_of_terms s.terms).height in
    let n = length c.args.workers.items in
    let j = length c.loop-worker.yielded in
    band_touches s c.loop-worker.first c.in-Some.worker.pass (j * height / n) ((j + 1) * height / n)
    (ap (λ (p : PassView). p.rows) c.loop-worker.invariant.first)
    (holds (goal.at.take_in-requires-clause-touching c).In-Some)

pub loop-worker-preserved : goal.loop-worker-preserved
loop-worker-preserved c =
    let at = (goal.at.loop-worker-preserved c).In-Some in
    let i = c.loop-worker.invariant in
    let s = c.args.pile.now in
    let xs = c.loop-worker.yielded in
    let x = c.in-Some.worker in
    let left = into_iter_items c.next.new.self in
    let steps : into_iter_items c.loop-worker.worker-iterator ≡ x ∷ left = c.in-Some.ensures.steps.0 in
    let height = (grid_of_terms s.terms).height in
    let n = length c.args.workers.items in
    let j = length xs in
    let begin = j * height / n in
    let end = (j + 1) * height / n in
    let rows : c.loop-worker.first.rows ≡ top begin = ap (λ (p : PassView). p.rows) i.first in
    let joined = c.in_ok-_none.ensures.first
    ∙ band_joined s c.loop-worker.first x.pass begin end (share_grows j height n) rows (holds at) in
    let long : j + 1 ≡ length (xs ++ x ∷ []) = sym (length-append xs (x ∷ [])) in
    let counts : c.loop-worker.first.counts ++ x.pass.counts ≡ all_counts (xs ++ x ∷ []) =
    ap (λ (p : PassView). p.counts ++ x.pass.counts) i.first
    ∙ flat_map_more (λ (w : Worker). w.pass.counts) [] xs x in
    let seen : (together c.loop-worker.first x.pass).seen ≡ c.take_in.new.first.seen =
    sym (ap (λ (p : PassView). p.seen) joined) in
    let all = c.args.first.now in
    record {
      of_pile = search rules;
      first = joined ∙ ap₂ (λ (p : PassView) (m : ℕ).
          record p { seen = m; rows = top end; counts = c.loop-worker.first.counts ++ x.pass.counts })
          i.first seen
          ∙ ap₂ (λ (m : ℕ) (cs : List ℕ).
          record all { seen = c.take_in.new.first.seen; rows = top (m * height / n); counts = cs })
          long counts;
      items = append_assoc xs (x ∷ []) left ∙ in_order at;
      len = omega (arith, i.len, c.in-Some.ensures.steps.1, ap length steps);
      room = search rules;
      swept = rw (c.push_reserved.ensures.items, i.swept) (sym (map-append (λ (w : Worker). w.swept) xs (x ∷ [])));
    }

pub returns-clause-first : goal.returns-clause-first
returns-clause-first c =
    let i = c.loop-worker.invariant in
    let s = c.args.pile.now in
    let xs = c.loop-worker.yielded in
    let height = (grid_of_terms s.terms).height in
    let n = length c.args.workers.items in
    let none : into_iter_items c.loop-worker.worker-iterator ≡ [] =
    nil_from_length (into_iter_items c.loop-worker.worker-iterator) (i.len ∙ c.in-None.ensures.steps.0) in
    let all : xs ≡ c.args.workers.items = sym (append-nil xs) ∙ rw none at i.items in
    let whole : length xs * height / n ≡ height =
    ap (λ (ws : List Worker). length ws * height / n) all ∙ mul-div_cancel_left height c.requires.some in
    i.first ∙ ap₂ (λ (m : ℕ) (ws : List Worker).
    record c.args.first.now { seen = c.loop-worker.first.seen; rows = top m; counts = all_counts ws })
    whole all
