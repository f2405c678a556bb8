use Rattle.sand_group.proofs.Common.{ℕ, List, ◌≡◌, ◌≤◌, ◌∙◌, ap, arith, length, replicate, get_or, get_or-replicate, length-replicate, All-from_get_or, sites}
use Rattle.std.proofs.lemmas.Result.{IfOk-weaker}
use Rattle.sand_group.proofs.OperationsOnHeights.{few_grains}
use Rattle.sand_group.proofs.ReachedIsRecurrent.{record_of_full}
use Rattle.sand_group.proofs.reaching.full_record.Goals as goal

pub returns : goal.returns
returns c =
    let full = c.in_ok-full.ensures.items_if_clones_equal (λ y e. e) ∙ ap (λ n. replicate n 6) c.sites.ensures.value in
    IfOk-weaker c.short_record-2.result _ _
    (λ r is. record_of_full c.args.shape c.in_ok-full.full.items c.from_vec.result r full c.from_vec.ensures is)
    c.short_record-2.ensures

pub from_vec-requires-clause-limit : goal.from_vec-requires-clause-limit
from_vec-requires-clause-limit c =
    let n = sites c.args.shape in
    let full : c.in_ok-full.full.items ≡ replicate n 6 =
    c.in_ok-full.ensures.items_if_clones_equal (λ y e. e) ∙ ap (λ k. replicate k 6) c.sites.ensures.value in
    let long : length c.in_ok-full.full.items ≡ n =
    ap (λ (xs : List ℕ). length xs) full ∙ length-replicate {A = ℕ} n 6 in
    few_grains c.args.shape c.in_ok-full.full.items c.sites.ensures.sides long
    (All-from_get_or (λ h. h ≤ 12) c.in_ok-full.full.items 0
    (λ i l. omega (arith, ap (λ (xs : List ℕ). get_or xs i 0) full, get_or-replicate {A = ℕ} n i 6 0 (omega arith))))
