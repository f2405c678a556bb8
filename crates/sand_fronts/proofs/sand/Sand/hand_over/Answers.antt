-- Each shift leaves just the grains that cross the rim on that side, at the places that they reach (`Rims`). The four
-- gains add up to one (`gets_more`).
use Rattle.sand_fronts.proofs.Common.{ℕ, ◌+◌, arith, bit, over_north, over_south, over_east, only, over_rim}
use Rattle.sand_fronts.proofs.Rims.{to_north, to_south, to_the_west, to_the_east}
use Rattle.sand_fronts.proofs.TileLists.{gets_more}
use Rattle.sand_fronts.proofs.sand.Sand.hand_over.Goals as goal

pub returns : goal.returns
returns c =
    let b = c.args.beside.now in
    let new = c.args.new in
    let n : ℕ → ℕ → ℕ = only b.north (over_south (bit new)) in
    let s : ℕ → ℕ → ℕ = only b.south (over_north (bit new)) in
    let w : ℕ → ℕ → ℕ = only b.west (over_east b.west_shift (bit new)) in
    gets_more (over_rim b new)
    (gets_more (λ m p. n m p + s m p + w m p)
    (gets_more (λ m p. n m p + s m p) c.gain.ensures c.gain-2.ensures
    (λ m p low.
    let x = to_north b.north new m p low in let y = to_south b.south new m p (omega arith) low in omega arith))
    c.gain-3.ensures
    (λ m p low. let x = to_the_west b.west new b.west_shift m p c.requires.beside.west_shift low in omega arith))
    c.gain-4.ensures
    (λ m p low. let x = to_the_east b.east new b.east_shift m p low in omega arith)
