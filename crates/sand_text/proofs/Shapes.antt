-- What the survey of a pile says of the pile at the front of the numbers.
use Rattle.sand_text.proofs.Common.{◌≡◌, ℕ, ◌+◌, ◌-◌, ◌*◌, ◌<◌, ◌≤◌, List, [], ◌∷◌, Bool, true, false, length, take, drop, get_or, ltb, refl, ◌∙◌, ap, arith, length-drop, sum, min, ◌⊎◌, Result, Ok, Err, IsTrue, if◌then◌else◌, mul-le-mul, and_parts, nat_tests, take-take, Edge, Open, Grid, grid_with_edge, is_side, sites, Text, Length, TooManyGrains, Survey, Token, Number, Letter, Strange, numbers, pile_at, filled, is_count, of_shape, IsSurvey, IsFull, IsEnd, IsShaped, edge_or, sites_of, most_grains, usual}
use Rattle.sand_model.specs.declared.faults.ShapeFault.{ShapeFault}
use Rattle.sand_model.specs.declared.faults.ShapeFault.TheVariants.{Side, Narrow}
use Rattle.sand_model.proofs.Bounds.{limit_is_high}
use Rattle.sand_text.specs.Tokens.{edge_behind}

-- ---- the end of a survey

or_open : (e : Edge) → edge_or e Open ≡ e
or_open e = grind (arith, usual)

-- a letter after k numbers is not after more than k
pub no_later_letter : (k n : ℕ) (ws : List Token) → k < n → edge_behind k n ws ≡ Open
unfolding edge_behind
no_later_letter k n [] lt = refl
no_later_letter k n (Number at value ∷ ws) lt = no_later_letter k (n + 1) ws (omega arith)
no_later_letter k n (Letter at ∷ ws) lt = grind (arith, usual, no_later_letter k n ws lt)
no_later_letter k n (Strange at ∷ ws) lt = no_later_letter k n ws lt

-- a full pile has at least one site
pub full_count : (s : Survey) → IsFull s → 3 ≤ s.count
full_count s full = grind (arith, usual, mul-le-mul)

pub all_taken : (ws rest : List Token) (s : Survey) → IsSurvey ws rest s → rest ≡ [] → length (numbers ws) ≡ s.count
all_taken ws rest s h none = omega (
  arith,
  h.counted.within,
  length-drop s.count (numbers ws),
  ap length h.counted.left,
  ap (λ l. length (numbers l)) none,
)

pub count_at_end : (ws : List Token) (s : Survey) → IsSurvey ws [] s → length (numbers ws) ≡ s.count
count_at_end ws s h = all_taken ws [] s h refl

-- a survey ends with the text, or with a full pile that is not the last
by_end : (last : Bool) (rest : List Token) (s : Survey) → IsEnd last rest s → (rest ≡ []) ⊎ ((last ≡ false) × IsFull s)
by_end last rest s end = grind (arith, usual)

-- ---- the pile at the front of the numbers

few : (e : Edge) (last : Bool) (end : ℕ) (ns : List ℕ) → length ns < 2 → pile_at e last end ns ≡ Err (Text end)
few e last end ns lt = grind (arith, usual)

many : (e : Edge) (last : Bool) (end : ℕ) (ns : List ℕ) → 2 ≤ length ns
    → pile_at e last end ns ≡ filled last (grid_with_edge (get_or ns 0 0) (get_or ns 1 0) e) (drop 2 ns)
many e last end ns lt = grind (arith, usual)

module _ (last : Bool) (end : ℕ) (ws rest : List Token) (s : Survey)
    (h : IsSurvey ws rest s) (ends : IsEnd last rest s) where
  edge_found : s.edge ≡ edge_behind 2 0 ws
  unfolding edge_behind
  edge_found = grind (arith, usual, by_end, no_later_letter, full_count, or_open)

  pub too_few : s.count < 2 → pile_at (edge_behind 2 0 ws) last end (numbers ws) ≡ Err (Text end)
  too_few lt = grind (arith, usual, by_end, few, all_taken, full_count)

  -- the sides, and the numbers after them
  sized : (grid : Result Grid ShapeFault) → 2 ≤ s.count → grid ≡ grid_with_edge s.width s.height s.edge
      → pile_at (edge_behind 2 0 ws) last end (numbers ws) ≡ filled last grid (drop 2 (numbers ws))
  sized grid le is = grind (arith, usual, many, edge_found)

  pub no_shape : (fault : ShapeFault) → 2 ≤ s.count → Err fault ≡ grid_with_edge s.width s.height s.edge
      → pile_at (edge_behind 2 0 ws) last end (numbers ws) ≡ Err (of_shape fault)
  no_shape fault le is = sized (Err fault) le is

-- ---- the grid

-- a grid has the sides that it was made of
made_of : (some narrow : Bool) (w h : ℕ) (e : Edge) (g : Grid) → Ok g
    ≡ (if some then (if narrow then Err Narrow else Ok (record { width = w; height = h; edge = e })) else Err Side)
    → (some ≡ true) × (g.width ≡ w) × (g.height ≡ h)
made_of some narrow w h e g is = grind (arith, usual)

-- the sides are in range, so the number of sites fits
record Fits (s : Survey) (g : Grid) : Type 0 where
  width : IsTrue (is_side s.width)
  height : IsTrue (is_side s.height)
  low : g.height ≤ 256
  area : s.width * s.height ≡ sites g
  room : sites_of s ≡ sites g

fits : (s : Survey) (g : Grid) → Ok g ≡ grid_with_edge s.width s.height s.edge → Fits s g
fits s g is = grind (arith, usual, made_of, and_parts, mul-le-mul)

-- ---- the heights

some_heights : (last : Bool) (count expected : ℕ) → is_count last count expected ≡ true → expected ≤ count
some_heights last count expected e = grind (arith, usual)

module _ (last : Bool) (end : ℕ) (ws rest : List Token) (s : Survey) (h : IsSurvey ws rest s) (ends : IsEnd last rest s)
    (g : Grid) (le : 2 ≤ s.count) (is : Ok g ≡ grid_with_edge s.width s.height s.edge) where
  -- the surveyed count is right if and only if the count of all numbers is
  same_count : is_count last (length (drop 2 (numbers ws))) (sites g) ≡ is_count last (s.count - 2) (sites g)
  same_count = grind (arith, usual, by_end, all_taken, length-drop, fits)

  pub wrong_count : is_count last (s.count - 2) (sites g) ≡ false
      → pile_at (edge_behind 2 0 ws) last end (numbers ws) ≡ Err Length
  wrong_count wrong = sized last end ws rest s h ends (Ok g) le is ∙ rw (same_count, wrong) refl

  module _ (right : is_count last (s.count - 2) (sites g) ≡ true) where
    counted : s.grains ≡ min (sum (take (sites g) (drop 2 (numbers ws)))) (most_grains + 1)
    counted = grind (arith, usual, some_heights, take-take, fits)

    pub too_many : most_grains < s.grains → pile_at (edge_behind 2 0 ws) last end (numbers ws) ≡ Err TooManyGrains
    too_many more =
        let over : ltb most_grains (sum (take (sites g) (drop 2 (numbers ws)))) ≡ true =
        grind (arith, nat_tests, counted) in
        sized last end ws rest s h ends (Ok g) le is ∙ rw (same_count, right, over) refl

    pub shaped : s.grains ≤ most_grains → IsShaped last end ws s g
    shaped within =
        let some = some_heights last (s.count - 2) (sites g) right in
        let fit = fits s g is in
        let not_over : ltb most_grains (sum (take (sites g) (drop 2 (numbers ws)))) ≡ false =
        grind (arith, nat_tests, counted) in
        record {
          read = sized last end ws rest s h ends (Ok g) le is ∙ rw (same_count, right, not_over) refl;
          width = fit.width;
          height = fit.height;
          area = fit.area;
          room = fit.room;
          enough = omega (arith, h.counted.within);
          grains = omega (arith, counted);
          limit = omega (arith, within, limit_is_high g fit.low);
        }
