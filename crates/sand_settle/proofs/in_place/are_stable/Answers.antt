use Rattle.sand_settle.proofs.Common.{ℕ, ◌≡◌, ◌<◌, ◌≤◌, arith, get_or, ⊎_elim, and_parts, cases_lt, ltb-true}
use Rattle.sand_settle.proofs.in_place.are_stable.Goals as goal

pub loop-height-preserved : goal.loop-height-preserved
loop-height-preserved c low j l =
    let both = and_parts _ _ low in
    let i : ℕ = c.loop-height.height-index in
    ⊎_elim (λ (less : j < i). c.loop-height.invariant both.0 j less)
    (λ (last : i ≤ j).
    let e : j ≡ i = omega arith in
    let here = ltb-true (get_or c.args.heights.now i 0) 4 both.1 in
    rw e (omega arith))
    (cases_lt j i)
