use Rattle.sand_settle.proofs.Common.{ℕ, ◌≡◌, ◌∙◌, ◌*◌, ◌<◌, ◌≤◌, refl, inl, ap, arith, ⊎_elim, cases_lt, slice_index}
use Rattle.sand_model.specs.Grid.{distance}
use Rattle.sand_settle.proofs.NearSites.{far_before, far_after, row_near, row_other}
use Rattle.sand_settle.proofs.near.write_near.Goals as goal

pub loop-row-init : goal.loop-row-init
loop-row-init g c = record {
  len = refl;
  near = λ v tells i inside before near. absurd (omega (arith, far_before c.args.shape c.args.site i c.args.reach _ (omega arith) (omega (arith, ap (λ (p : ℕ × ℕ). p.1) c.place-y.ensures)) before));
  other = λ v tells i inside. inl refl;
  rest = λ i past. refl;
}

pub loop-row-preserved : goal.loop-row-preserved
loop-row-preserved g c =
    let now = c.loop-row.invariant in
    let part = c.write_between.ensures in
    let near = c.sites_near-first.ensures in
    record {
      len = part.len ∙ now.len;
      near = λ v tells. row_near c.args.shape c.args.site c.args.reach c.loop-row.row c.sites_near-first.result.0
          c.sites_near-first.result.1 v c.loop-row.list c.write_between.new.list near.near
          (part.written v (λ j r l is. tells j r (omega arith) is)) part.before (now.near v tells) near.inside.0;
      other = λ v tells i inside. row_other c.sites_near-first.result.0 c.sites_near-first.result.1 i
          (slice_index c.args.list.now i) (v i) c.loop-row.list c.write_between.new.list
          (part.written v (λ j r l is. tells j r (omega arith) is) i) (part.before i) (part.after i) (now.other v tells i inside);
      rest = λ i past. part.after i (omega (arith, near.inside.2)) ∙ now.rest i (omega arith);
    }

pub returns-clause-near : goal.returns-clause-near
returns-clause-near g c v tells i l near = ⊎_elim
    (λ (before : i < c.loop-row.row * c.args.shape.width). c.loop-row.invariant.near v tells i l before near)
    (λ (past : c.loop-row.row * c.args.shape.width ≤ i).
    let far = far_after c.args.shape c.args.site i c.args.reach c.min-last.result c.loop-row.row l (omega (arith, ap (λ (p : ℕ × ℕ). p.1) c.place-y.ensures)) (omega arith) past in
    absurd (omega (arith, far, near)))
    (cases_lt i (c.loop-row.row * c.args.shape.width))

pub returns-clause-other : goal.returns-clause-other
returns-clause-other g c v tells i l = c.loop-row.invariant.other v tells i l

pub returns-clause-written : goal.returns-clause-written
returns-clause-written g c v tells far i l = ⊎_elim
    (λ (away : c.args.reach < distance c.args.shape c.args.site i). ⊎_elim
    (λ (same : slice_index c.loop-row.list i ≡ slice_index c.args.list.now i). same ∙ far i l away)
    (λ (now : slice_index c.loop-row.list i ≡ v i). now)
    (c.loop-row.invariant.other v tells i l))
    (λ (close : distance c.args.shape c.args.site i ≤ c.args.reach). returns-clause-near g c v tells i l close)
    (cases_lt c.args.reach (distance c.args.shape c.args.site i))
