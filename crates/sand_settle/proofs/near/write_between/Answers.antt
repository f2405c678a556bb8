use Rattle.sand_settle.proofs.Common.{ℕ, ◌≡◌, ◌∙◌, arith, ⊎_elim, cases_eq, get_or-set_same, get_or-set_other, length-set}
use Rattle.sand_settle.proofs.near.write_between.Goals as goal

pub loop-site-preserved : goal.loop-site-preserved
loop-site-preserved g c =
    let list = c.loop-site.list in let at = c.loop-site.site in let x = c.numbers.result in
    let now = c.loop-site.invariant in
    let other = λ (i : ℕ) (ne : i ≡ at → ⊥). get_or-set_other list at i x 0 ne in
    record {
      len = length-set {A = ℕ} list at x ∙ now.len;
      written = λ v tells i from less. ⊎_elim
          (λ (here : i ≡ at). rw here (get_or-set_same list at x 0 (omega arith) ∙ tells at x (omega arith) c.numbers.ensures))
          (λ (ne : i ≡ at → ⊥). other i ne ∙ now.written v tells i from (omega arith))
          (cases_eq i at);
      before = λ i less. other i (λ e. omega arith) ∙ now.before i less;
      after = λ i more. other i (λ e. omega arith) ∙ now.after i (omega arith);
    }

pub returns-clause-written : goal.returns-clause-written
returns-clause-written g c v tells i from less = c.loop-site.invariant.written v tells i from (omega arith)
