-- A list to which numbers are added, those of eight sites at a time.
use Rattle.sand_fronts.proofs.Common.{ℕ, List, ◌≡◌, ◌+◌, ◌-◌, ◌*◌, ◌/◌, ◌<◌, ◌≤◌, min, refl, sym, ◌∙◌, ap, arith, ⊎_elim, slice_index, cases_lt, mul-add-lt, Grid, sites, Spot, pitch, tile_of, place_of, IsFirstOfEight, AreOfEight, AddsBetween}
use Rattle.sand_fronts.proofs.Boards.{found_at}

-- entry i of the list of eight numbers is that of site j
pub number_of : (g : Grid) (s : Spot) (v : ℕ → ℕ) (r : List ℕ) (at i j : ℕ) → AreOfEight g s v r
    → at ≡ s.row * g.width + s.column → at ≤ j → j < at + min 8 (g.width - s.column) → i ≡ j - at
    → slice_index r i ≡ v j
number_of g s v r at i j eight is from to e =
    ap (slice_index r) e ∙ eight (j - at) (omega arith) (omega arith) ∙ ap v (omega arith)

-- the numbers of the sites before `at` have been added; now those of the eight are, too
pub eights_more : (g : Grid) (s : Spot) (v : ℕ → ℕ) (r start list new : List ℕ) (at end : ℕ) → AreOfEight g s v r
    → at ≡ s.row * g.width + s.column → end ≡ at + min 8 (g.width - s.column)
    → AddsBetween at end (λ j. slice_index r (0 + (j - at))) list new
    → ((j : ℕ) → j < at → slice_index list j ≡ slice_index start j + v j)
    → ((j : ℕ) → at ≤ j → slice_index list j ≡ slice_index start j)
    → (j : ℕ) → j < end → slice_index new j ≡ slice_index start j + v j
eights_more g s v r start list new at end eight is to adds before rest j less = ⊎_elim
    (λ (l : j < at). omega (arith, adds.before j l, before j l))
    (λ (l : at ≤ j).
    let read = number_of g s v r at (0 + (j - at)) j eight is l (omega arith) (omega arith) in
    omega (arith, adds.added j l less, rest j l))
    (cases_lt j at)

-- ---- eight sites in a row of a tile

-- the sites after the first are at the places after its place
pub eight_there : (g : Grid) (s : Spot) (c : ℕ) → IsFirstOfEight g s → c < 8 → s.column + c < g.width
    → (tile_of g (s.row * g.width + (s.column + c)) ≡ tile_of g (s.row * g.width + s.column))
    × (place_of g (s.row * g.width + (s.column + c)) ≡ place_of g (s.row * g.width + s.column) + c)
eight_there g s c is few inside =
    let first = found_at g s.row s.column (pitch g) is.column refl in
    let here = found_at g s.row (s.column + c) (pitch g) inside refl in
    let columns : (s.column + c) / 8 ≡ s.column / 8 = omega (arith, is.first) in (
      sym here.0 ∙ ap (λ x. (s.row / 8 + 2) * pitch g + (x + 1)) columns ∙ first.0,
      omega (arith, first.1, here.1, is.first),
    )

pub few_places : (g : Grid) (s : Spot) → IsFirstOfEight g s → place_of g (s.row * g.width + s.column) < 57
few_places g s is = omega (arith, (found_at g s.row s.column (pitch g) is.column refl).1, is.first)

pub first_inside : (g : Grid) (s : Spot) (c : ℕ) → IsFirstOfEight g s → s.column + c < g.width
    → s.row * g.width + (s.column + c) < sites g
first_inside g s c is inside = mul-add-lt s.row g.width (s.column + c) g.height is.row inside
