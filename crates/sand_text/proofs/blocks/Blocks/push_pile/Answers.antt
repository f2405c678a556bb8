use Rattle.sand_text.proofs.Common.{IfErr-weaker, IfOk-weaker, err_from_is_err_and}
use Rattle.sand_text.proofs.Growing.{breaks_before, breaks_on, grows_on}
use Rattle.sand_text.proofs.blocks.Blocks.push_pile.Goals as goal

pub returns-in_err-push_shape-clause-err : goal.returns-in_err-push_shape-clause-err
returns-in_err-push_shape-clause-err g c =
    let p = err_from_is_err_and c.from_residual.result c.from_residual.ensures.1 in
    let broken = rw c.shape.ensures.value at c.in_err-push_shape.ensures.err in
    rw (p.1, p.2) (breaks_before _ _ _ _ _ _ broken)

pub returns-clause-ok : goal.returns-clause-ok
returns-clause-ok g c =
    let first = rw c.shape.ensures.value at c.in_ok-push_shape.ensures.ok in
    IfOk-weaker c.push_heights.result _ _ (λ _ second. grows_on _ _ _ _ _ _ _ _ first second) c.push_heights.ensures.ok

pub returns-clause-err : goal.returns-clause-err
returns-clause-err g c =
    let first = rw c.shape.ensures.value at c.in_ok-push_shape.ensures.ok in
    IfErr-weaker c.push_heights.result _ _ (λ fault second. breaks_on _ _ _ _ _ _ _ fault first second)
    c.push_heights.ensures.err
