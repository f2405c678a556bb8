use Rattle.sand_lab.proofs.Common.{rules, arith, ◌≡◌, ℕ, suc, ◌+◌, ◌-◌, ◌*◌, ◌/◌, [], take, drop, refl, ap, ap₂, sym, subst, ◌∙◌, mul-div_cancel_left, Grid, grid_of_terms, PassView, sites_kept, upper_rows, lower_rows, rows_between, Worker, EachAt, IsWorker, banded, upper_part}
use Rattle.sand_lab.proofs.EachAtItsPlace.{each_first, each_none}
use Rattle.sand_lab.proofs.RowsInBands.{band_split, band_left}
use Rattle.sand_lab.proofs.hiring.hire_workers.Goals as goal

pub loop-done-init : goal.loop-done-init
loop-done-init c =
    let s = c.args.pile.now in
    let height = (grid_of_terms s.terms).height in
    let all : c.args.workers ≡ c.args.workers - 0 = omega arith in
    let whole : height ≡ (c.args.workers - 0) * height / c.args.workers =
    sym (mul-div_cancel_left height c.requires.some.0) ∙ ap (λ (n : ℕ). n * height / c.args.workers) all in
    record {
      hired = subst (EachAt (λ i. IsWorker s c.args.workers (c.args.workers - 0 + i)))
          (sym c.in_ok-hired.ensures.items) (each_none (λ i. IsWorker s c.args.workers (c.args.workers - 0 + i)));
      len = search rules;
      first = c.requires.first ∙ ap (λ (n : ℕ). upper_part s 0 n) whole;
    }

pub loop-done-preserved : goal.loop-done-preserved
loop-done-preserved c =
    let s = c.args.pile.now in
    let i = c.loop-done.invariant in
    let height = (grid_of_terms s.terms).height in
    let who = c.args.workers - 1 - c.loop-done.done in
    let begin = c.band_of-begin.result.0 in
    let end = c.band_of-begin.result.1 in
    let more = c.loop-done-test.true in
    let here : who ≡ c.args.workers - (c.loop-done.done + 1) = omega arith in
    let above : who + 1 ≡ c.args.workers - c.loop-done.done = omega (arith, more) in
    let rows = ap (λ (g : Grid). g.height) c.requires.shape in
    let begins : begin ≡ who * height / c.args.workers =
    c.band_of-begin.ensures.begin ∙ ap (λ (n : ℕ). who * n / c.args.workers) rows in
    let ends : end ≡ (who + 1) * height / c.args.workers =
    c.band_of-begin.ensures.end ∙ ap (λ (n : ℕ). (who + 1) * n / c.args.workers) rows in
    let was : c.loop-done.first ≡ upper_part s 0 end =
    i.first ∙ ap (λ (n : ℕ). upper_part s 0 n) (ap (λ (n : ℕ). n * height / c.args.workers) (sym above) ∙ sym ends) in
    let ordered = c.band_of-begin.ensures.ordered in
    let worker : Worker = record { who = who; swept = 0; last = 0; pass = c.in-Ok.pass } in
    let split : PassView → PassView = λ p. record p {
      left = 0;
      receipts = [];
      rows = lower_rows p.rows (end - begin);
      counts = drop (sites_kept p (end - begin)) p.counts;
    } in
    let kept : PassView → PassView =
    λ p. record p { rows = upper_rows p.rows (end - begin); counts = take (sites_kept p (end - begin)) p.counts } in
    let one : IsWorker s c.args.workers who worker = record {
      who = refl;
      swept = refl;
      pass = c.in-Ok.ensures.child ∙ ap split was ∙ band_split s begin end ordered
          ∙ ap₂ (λ (a b : ℕ). banded s (rows_between a b)) begins ends;
    } in
    let next = c.args.workers - (c.loop-done.done + 1) in
    let before : EachAt (λ j. IsWorker s c.args.workers (suc next + j)) c.loop-done.hired.items =
    let same : c.args.workers - c.loop-done.done ≡ suc next = omega (arith, more) in
    subst (λ (n : ℕ). EachAt (λ j. IsWorker s c.args.workers (n + j)) c.loop-done.hired.items) same i.hired in
    record {
      hired = subst (EachAt (λ j. IsWorker s c.args.workers (next + j))) (sym c.in-Ok-insert.ensures.items)
          (each_first (λ n. IsWorker s c.args.workers n) next c.loop-done.hired.items
          worker before (subst (λ (n : ℕ). IsWorker s c.args.workers n worker) here one));
      len = search rules;
      first = c.in-Ok.ensures.parent ∙ ap kept was ∙ band_left s begin end ordered
          ∙ ap (λ (n : ℕ). upper_part s 0 n) (begins ∙ ap (λ (n : ℕ). n * height / c.args.workers) here);
    }

pub returns-clause-workers : goal.returns-clause-workers
returns-clause-workers c i x at =
    let place : c.args.workers - c.loop-done.done + i ≡ i = omega (arith, c.loop-done-test.false) in
    subst (λ (n : ℕ). IsWorker c.args.pile.now c.args.workers n x) place (c.loop-done.invariant.hired i x at)
