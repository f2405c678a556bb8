-- The written text of a pile is read as the same pile.
use Rattle.std.proofs.lemmas.Grind.{pieces}
use Rattle.sand_text.proofs.Common.{◌≡◌, ℕ, zero, suc, ◌+◌, ◌*◌, ◌<◌, ◌≤◌, ◌^◌, List, [], ◌∷◌, ◌++◌, length, take, drop, None, decimal, refl, ◌∙◌, ap, arith, append_assoc, length-drop, zero-mul, suc-mul, mul_comm, ◌&&◌, ltb, eq-eqb, not, true, false, cond, eqb, min, subst, Ok, Err, if◌then◌else◌, ◌==◌, All, digits_value, take-append-drop, take_all, nil_from_length, position_or_len_is, get_or-le-sum_by, decimal_is_IsNumeral, decimal_nonempty, nat_tests, Edge, Open, Cylinder, Grid, IsGrid, grid_with_edge, joins, is_side, PileView, IsPile, most_grains, Token, Number, is_digit, is_other, is_space, digits_len, tokens_at, tokens, numbers, edge_text, text_of, usual}
use Rattle.std.proofs.lemmas.List.Elements.{All-tail, All-weaker}
use Rattle.sand_model.specs.declared.faults.ShapeFault.TheVariants as shape_faults
use Rattle.sand_text.specs.Laws.{ReadAgain}
use Rattle.sand_text.specs.Tokens.{token_of, tokens_from, first_strange, first_large, edge_behind}
use Rattle.sand_text.specs.Texts.{row_text, rows_text}
use Rattle.sand_text.specs.Reading.{front_of, pile_of}
use Rattle.sand_text.proofs.Cuts.{after_space, after_token}
use Rattle.sand_text.proofs.Decimals.{only_digits}

abbrev AreSmall : List ℕ → Type 0
AreSmall ns = All (λ n. n ≤ most_grains) ns

-- what tokens say of a pile, after n numbers: nothing strange, these numbers, and this edge
record Say (spared : List ℕ) (n : ℕ) (e : Edge) (ws : List Token) (ns : List ℕ) : Type 0 where
  strange : first_strange spared n ws ≡ None
  large : first_large ws ≡ None
  edge : edge_behind 2 n ws ≡ e
  values : numbers ws ≡ ns

-- ---- a number

digit_no_space : (b : ℕ) → is_digit b ≡ true → is_space b ≡ false
digit_no_space b e = grind (arith, nat_tests)

not_large : (n : ℕ) → n ≤ most_grains → ltb most_grains n ≡ false
not_large n le = grind (arith, nat_tests)

-- the digits of a number are a token with its value
number_token : (at n : ℕ) → n ≤ most_grains → token_of at (decimal n) ≡ Number at n
unfolding token_of
number_token at n le =
    let fits : n < 2 ^ 64 = omega arith in
    let all : digits_len (decimal n) ≡ length (decimal n) = position_or_len_is is_other (decimal n)
    (length (decimal n)) 0 (omega arith) (λ k lt. ap not (only_digits n fits k 0 lt)) (λ lt. absurd (omega arith)) in
    let test : eqb (digits_len (decimal n)) (length (decimal n)) ≡ true = eq-eqb _ _ all in
    let value : digits_value 10 (decimal n) ≡ n = (decimal_is_IsNumeral n fits).1 in
    let small : min n (most_grains + 1) ≡ n = omega arith in
    rw (test, value, small) refl

-- a number followed by white space
number_first : (at n y : ℕ) (rest : List ℕ) → n ≤ most_grains → is_space y ≡ true
    → tokens_at at (decimal n ++ y ∷ rest) ≡ Number at n ∷ tokens_at (at + length (decimal n) + 1) rest
number_first at n y rest le e =
    let plain = All-weaker _ (λ b. is_space b ≡ false) digit_no_space (decimal n) (only_digits n (omega arith)) in
    grind (arith, usual, after_token, decimal_nonempty, number_token, after_space)

Say-number : (spared : List ℕ) (k : ℕ) (e : Edge) (at n y : ℕ) (rest ns : List ℕ) → n ≤ most_grains → is_space y ≡ true
    → Say spared (k + 1) e (tokens_at (at + length (decimal n) + 1) rest) ns
    → Say spared k e (tokens_at at (decimal n ++ y ∷ rest)) (n ∷ ns)
unfolding first_strange first_large edge_behind
Say-number spared k e at n y rest ns le space say = grind (arith, usual, number_first, not_large)

-- ---- rows of numbers

separators : (n : ℕ) → is_space (if n == 0 then 10 else 32) ≡ true
separators n = elim (n == 0) as (λ v. is_space (cond v 10 32) ≡ true) [ true ↦ refl | false ↦ refl ]

module _ (spared : List ℕ) where
  -- at any offset and after any count of numbers, a text has only these numbers
  abbrev SayOnly : List ℕ → List ℕ → Type 0
  SayOnly bs ns = (at n : ℕ) → Say spared n Open (tokens_at at bs) ns

  row_again : (ns rest more : List ℕ) → AreSmall ns → SayOnly rest more → SayOnly (row_text ns ++ rest) (ns ++ more)
  unfolding row_text
  row_again [] rest more small behind at k = behind at k
  row_again (n ∷ ns) rest more small behind at k =
      rw (append_assoc (decimal n) ((if length ns == 0 then 10 else 32) ∷ row_text ns) rest)
      (Say-number spared k Open at n (if length ns == 0 then 10 else 32) (row_text ns ++ rest) (ns ++ more)
      (small 0 0 (omega arith)) (separators (length ns))
      (row_again ns rest more (All-tail (λ n. n ≤ most_grains) n ns small) behind _ (k + 1)))

  rows_again : (n w : ℕ) (ns : List ℕ) → AreSmall ns → length ns ≡ n * w → SayOnly (rows_text n w ns) ns
  unfolding rows_text tokens_from first_strange first_large edge_behind
  rows_again zero w ns small e at k =
      rw (nil_from_length ns (e ∙ zero-mul w)) (record { strange = refl; large = refl; edge = refl; values = refl })
  rows_again (suc n) w ns small e at k =
      let m : suc n * w ≡ n * w + w = suc-mul n w in
      let front : AreSmall (take w ns) = search (pieces, arith) in
      let back : AreSmall (drop w ns) = search (pieces, arith) in
      subst (λ (l : List ℕ). Say spared k Open (tokens_at at (row_text (take w ns) ++ rows_text n w (drop w ns))) l)
      (take-append-drop w ns) (row_again (take w ns) (rows_text n w (drop w ns)) (drop w ns) front
      (rows_again n w (drop w ns) back (omega (arith, length-drop w ns))) at k)

-- ---- the whole text

heights_small : (p : PileView) → IsPile p → AreSmall p.heights
heights_small p h = λ k d lt. let b = get_or-le-sum_by (λ x. x) p.heights k d lt in omega (arith, b, h.limit)

-- the height of the grid, the letter of a cylinder, and the heights
tail_again : (e : Edge) (at h w : ℕ) (ns : List ℕ) → h ≤ most_grains → AreSmall ns → length ns ≡ h * w
    → Say (2 ∷ []) 1 e (tokens_at at (decimal h ++ (edge_text e ++ rows_text h w ns))) (h ∷ ns)
unfolding tokens_from token_of first_strange first_large edge_behind
tail_again Open at h w ns le small len =
    Say-number (2 ∷ []) 1 Open at h 10 _ ns le refl (rows_again (2 ∷ []) h w ns small len _ 2)
tail_again Cylinder at h w ns le small len =
    let rows = rows_again [] h w ns small len (at + length (decimal h) + 1 + 1 + 1) 2 in
    Say-number (2 ∷ []) 1 Cylinder at h 32 (99 ∷ 10 ∷ rows_text h w ns) ns le refl
    (record { strange = rows.strange; large = rows.large; edge = refl; values = rows.values })

text_again : (p : PileView) → IsPile p
    → Say (2 ∷ []) 0 p.grid.edge (tokens (text_of p)) (p.grid.width ∷ p.grid.height ∷ p.heights)
text_again p h =
    let w = p.grid.width in
    let rest : List ℕ = decimal p.grid.height ++ (edge_text p.grid.edge ++ rows_text p.grid.height w p.heights) in
    let cut : text_of p ≡ decimal w ++ 32 ∷ rest = simp append_assoc in
    rw cut (Say-number (2 ∷ []) 0 p.grid.edge 0 w 32 rest (p.grid.height ∷ p.heights)
    (omega (arith, h.grid.width_limit)) refl
    (tail_again p.grid.edge (0 + length (decimal w) + 1) p.grid.height w p.heights
    (omega (arith, h.grid.height_limit)) (heights_small p h) (h.len ∙ mul_comm w p.grid.height)))

wide_enough : (e : Edge) (w : ℕ) → (joins e ≡ true → 3 ≤ w) → (joins e && ltb w 3) ≡ false
wide_enough e w h = grind (arith, usual)

-- the sides and the edge of a grid make the same grid, if they are those of a text
grid_again : (g : Grid) → IsGrid g
    → grid_with_edge g.width g.height g.edge ≡ (if is_side g.width && is_side g.height then Ok g else Err shape_faults.Side)
grid_again g h = grind (arith, usual, wide_enough)

pub again : ReadAgain
unfolding pile_of front_of
again p h = grind (arith, usual, text_again, eq-eqb, take_all, not_large, grid_again)
