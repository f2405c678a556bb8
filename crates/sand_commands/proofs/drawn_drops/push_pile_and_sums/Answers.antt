use Rattle.sand_commands.proofs.Common.{◌++◌, codes, IfErr-weaker, IfOk-weaker, err_from_is_err_and, breaks_before, breaks_on, grows_on}
use Rattle.sand_text.specs.Texts.{sum_line, text_of}
use Rattle.sand_commands.proofs.drawn_drops.push_pile_and_sums.Goals as goal

pub returns-in_err-push_pile-clause-err : goal.returns-in_err-push_pile-clause-err
returns-in_err-push_pile-clause-err g c =
    let p = err_from_is_err_and c.from_residual.result c.from_residual.ensures.1 in
    let pile = text_of c.args.last.now.pile in
    let lost = sum_line (codes "lost ") c.args.last.now.lost in
    let topplings = sum_line (codes "topplings ") c.args.last.now.topplings in
    let broken = rw c.pile.ensures.value at c.in_err-push_pile.ensures.err in
    rw (p.1, p.2) (breaks_before _ _ _ (pile ++ lost) topplings _ (breaks_before _ _ _ pile lost _ broken))

pub returns-in_err-push_sum-clause-err : goal.returns-in_err-push_sum-clause-err
returns-in_err-push_sum-clause-err g c =
    let p = err_from_is_err_and c.from_residual-in_err-push_sum.result c.from_residual-in_err-push_sum.ensures.1 in
    let pile = text_of c.args.last.now.pile in
    let lost = sum_line (codes "lost ") c.args.last.now.lost in
    let topplings = sum_line (codes "topplings ") c.args.last.now.topplings in
    let first = rw c.pile.ensures.value at c.in_ok-push_pile.ensures.ok in
    let broken = rw c.lost.ensures at c.in_err-push_sum.ensures.err in
    rw (p.1, p.2) (breaks_before _ _ _ (pile ++ lost) topplings _ (breaks_on _ _ _ _ _ pile lost _ first broken))

pub returns-clause-ok : goal.returns-clause-ok
returns-clause-ok g c =
    let first = rw c.pile.ensures.value at c.in_ok-push_pile.ensures.ok in
    let second = rw c.lost.ensures at c.in_ok-push_sum.ensures.ok in
    IfOk-weaker c.push_sum-2.result _ _
    (λ _ third. grows_on _ _ _ _ _ _ _ _ (grows_on _ _ _ _ _ _ _ _ first second) (rw c.topplings.ensures at third))
    c.push_sum-2.ensures.ok

pub returns-clause-err : goal.returns-clause-err
returns-clause-err g c =
    let first = rw c.pile.ensures.value at c.in_ok-push_pile.ensures.ok in
    let second = rw c.lost.ensures at c.in_ok-push_sum.ensures.ok in
    IfErr-weaker c.push_sum-2.result _ _
    (λ fault third.
    breaks_on _ _ _ _ _ _ _ fault (grows_on _ _ _ _ _ _ _ _ first second) (rw c.topplings.ensures at third))
    c.push_sum-2.ensures.err
