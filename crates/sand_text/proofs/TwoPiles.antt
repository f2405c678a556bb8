-- What the surveys of two piles say of a text with both.
use Rattle.sand_text.proofs.Common.{◌≡◌, ℕ, ◌+◌, ◌<◌, ◌≤◌, List, [], ◌∷◌, Bool, true, false, length, drop, eqb, not, refl, sym, ◌∙◌, ap, arith, inl, inr, Some, None, slice_index, ◌||◌, sum, subst, Ok, Err, if◌then◌else◌, ◌==◌, filter, nat_tests, drop-drop, option_or, Edge, Grid, sites, TextFault, TooLarge, Survey, Token, Number, Letter, Strange, has_large, tokens, numbers, plain_tokens, pile_at, unless_at, second_letter, second_spared, two_letters, heights_on, behind_heights, heights_behind, IsSurvey, IsFull, IsFront, IsFirstStrange, IsShaped, still_spared, usual}
use Rattle.sand_text.specs.Tokens.{first_strange, edge_behind}
use Rattle.sand_text.specs.Reading.{two_of}
use Rattle.sand_text.proofs.Shapes.{full_count, all_taken}
use Rattle.sand_text.proofs.Readings.{large_is, one_each}
use Rattle.sand_text.proofs.TwoWalks.{later_letter}

-- ---- counts from another number on

-- if no letter is allowed, the number of numbers before does not matter
none_spared : (n m : ℕ) (ws : List Token) → first_strange [] n ws ≡ first_strange [] m ws
unfolding first_strange
none_spared n m [] = refl
none_spared n m (Number at value ∷ ws) = none_spared (n + 1) (m + 1) ws
none_spared n m (Letter at ∷ ws) = refl
none_spared n m (Strange at ∷ ws) = refl

one_letter : (b : Bool) (k l i j at : ℕ) (ws : List Token)
    → (if b || false then first_strange (if not b then k ∷ [] else []) i ws else Some at)
    ≡ (if b || false then first_strange (if not b then l ∷ [] else []) j ws else Some at)
one_letter b k l i j at ws = grind (arith, usual, none_spared)

-- a letter is as far behind if it is counted from another number on
shifted : (k i l j : ℕ) (ws : List Token) → l + i ≡ k + j → first_strange (k ∷ []) i ws ≡ first_strange (l ∷ []) j ws
unfolding first_strange
shifted k i l j [] e = refl
shifted k i l j (Number at value ∷ ws) e = shifted k (i + 1) l (j + 1) ws (omega arith)
shifted k i l j (Letter at ∷ ws) e = grind (arith, usual, one_letter)
shifted k i l j (Strange at ∷ ws) e = refl

edge_shifted : (k i l j : ℕ) (ws : List Token) → l + i ≡ k + j → edge_behind k i ws ≡ edge_behind l j ws
unfolding edge_behind
edge_shifted k i l j [] e = refl
edge_shifted k i l j (Number at value ∷ ws) e = edge_shifted k (i + 1) l (j + 1) ws (omega arith)
edge_shifted k i l j (Letter at ∷ ws) e = grind (arith, usual, edge_shifted k i l j ws e)
edge_shifted k i l j (Strange at ∷ ws) e = edge_shifted k i l j ws e

-- after more than two numbers the first letter is no longer allowed
spared_later : (more : List ℕ) (n : ℕ) (ws : List Token) → 2 < n
    → first_strange (2 ∷ more) n ws ≡ first_strange more n ws
unfolding first_strange
spared_later more n [] lt = refl
spared_later more n (Number at value ∷ ws) lt = spared_later more (n + 1) ws (omega arith)
spared_later more n (Letter at ∷ ws) lt =
    let test : eqb 2 n ≡ false = grind (arith, nat_tests) in
    rw (test, spared_later (filter (λ k. not (k == n)) more) n ws lt) refl
spared_later more n (Strange at ∷ ws) lt = refl

still_later : (e : Edge) (more : List ℕ) (n : ℕ) (ws : List Token) → 2 < n
    → first_strange (still_spared e more) n ws ≡ first_strange more n ws
still_later e more n ws lt = grind (arith, usual, spared_later)

-- ---- from the first pile to the second

-- the second letter follows the first pile and two more numbers
letter_of_full : (ns : List ℕ) (s : Survey) → 2 ≤ length ns
    → s.width ≡ slice_index ns 0 → s.height ≡ slice_index ns 1 → IsFull s
    → second_letter false ns ≡ (2 + s.count) ∷ []
letter_of_full ns s le width height full = grind (arith, usual)

behind_full : (over : Bool) (ws rest : List Token) (s : Survey) → IsFront ws rest s → IsFull s
    → first_strange (second_letter over (numbers ws)) s.count rest ≡ first_strange (if over then [] else 2 ∷ []) 0 rest
behind_full over ws rest s h full = grind (arith, usual, none_spared, full_count, letter_of_full, shifted)

handed : (over : Bool) (ws rest : List Token) (s : Survey) → IsFront ws rest s
    → first_strange (2 ∷ second_letter over (numbers ws)) 0 ws ≡ first_strange (if over then [] else 2 ∷ []) 0 rest
unfolding first_strange
handed over ws rest s h =
    let letter = second_letter over (numbers ws) in
    sym (h.underway.letters.plain letter (later_letter over ws rest s h.underway h.within)) ∙ elim h.end [
      | inl none ↦ rw none refl
      | inr full ↦ still_later s.edge (second_letter over (numbers ws)) s.count rest (omega (arith, full_count s full))
          ∙ behind_full over ws rest s h full
    ]

pub strange_first : (text : List ℕ) (e : TextFault) → IsFirstStrange (two_letters text) (tokens text) e
    → plain_tokens (two_letters text) text ≡ Err e
strange_first text e (at, is, first) = rw (first, is) refl

pub strange_second : (text : List ℕ) (rest : List Token) (s : Survey) (e : TextFault)
    → IsFront (tokens text) rest s → IsFirstStrange (second_spared text) rest e
    → plain_tokens (two_letters text) text ≡ Err e
strange_second text rest s e h (at, is, first) = rw (handed (has_large text) (tokens text) rest s h ∙ first, is) refl

-- without a strange byte, the tokens are plain if no number of either pile is over the limit
pub plain_two : (text : List ℕ) (rest : List Token) (first second : Survey)
    → IsFront (tokens text) rest first → IsSurvey rest [] second
    → first_strange (second_spared text) 0 rest ≡ None
    → plain_tokens (two_letters text) text
    ≡ unless_at (option_or first.large second.large) TooLarge (Ok (tokens text))
plain_two text rest first second h g plain = grind (arith, usual, large_is, handed)

pub front_tokens : (ws vs rest : List Token) (s : Survey) → ws ≡ vs → IsFront ws rest s → IsFront vs rest s
front_tokens ws vs rest s e h = let P : List Token → Type 0 = λ l. IsFront l rest s in subst P e h

-- ---- the second pile

-- the first survey ends at the pile's last height
counted : (end : ℕ) (ws rest : List Token) (s : Survey) (g : Grid) → IsFront ws rest s → IsShaped false end ws s g
    → s.count ≡ 2 + sites g
counted end ws rest s g h shaped = grind (arith, usual, all_taken)

behind_first : (end : ℕ) (ws rest : List Token) (s : Survey) (g : Grid) → IsFront ws rest s → IsShaped false end ws s g
    → drop (sites g) (drop 2 (numbers ws)) ≡ numbers rest
behind_first end ws rest s g h shaped =
    let place = counted end ws rest s g h shaped in
    drop-drop (sites g) 2 (numbers ws) ∙ (ap (λ n. drop n (numbers ws)) (sym place) ∙ h.underway.counted.left)

second_edge : (end : ℕ) (ws rest : List Token) (s : Survey) (g : Grid) → IsFront ws rest s → IsShaped false end ws s g
    → edge_behind (sites g + 4) 0 ws ≡ edge_behind 2 0 rest
second_edge end ws rest s g h shaped = grind (arith, usual, counted, edge_shifted)

-- ---- both piles

-- the second pile, if the first has no fault
second_of : (text : List ℕ) (rest : List Token) (s : Survey) (g : Grid)
    → IsFront (tokens text) rest s → IsShaped false (length text) (tokens text) s g
    → pile_at (edge_behind (sites g + 4) 0 (tokens text)) true (length text) (behind_heights g text)
    ≡ pile_at (edge_behind 2 0 rest) true (length text) (numbers rest)
second_of text rest s g h shaped = grind (arith, usual, second_edge, behind_first)

pub misshapen_second : (text : List ℕ) (rest : List Token) (s : Survey) (g : Grid) (e : TextFault)
    → plain_tokens (two_letters text) text ≡ Ok (tokens text)
    → IsFront (tokens text) rest s → IsShaped false (length text) (tokens text) s g
    → pile_at (edge_behind 2 0 rest) true (length text) (numbers rest) ≡ Err e
    → two_of text ≡ Err e
unfolding two_of
misshapen_second text rest s g e plain h shaped is = grind (arith, usual, second_of)

pub good_two : (text : List ℕ) (rest : List Token) (first second : Survey) (g k : Grid)
    → plain_tokens (two_letters text) text ≡ Ok (tokens text)
    → IsFront (tokens text) rest first
    → IsShaped false (length text) (tokens text) first g
    → IsShaped true (length text) rest second k
    → two_of text
    ≡ Ok (record { grid = g; heights = heights_on g text }, record { grid = k; heights = heights_behind g k text })
unfolding two_of
good_two text rest first second g k plain h shaped next = grind (arith, usual, second_of, behind_first)

-- what is known of the second pile, in terms of the text
pub second_facts : (text : List ℕ) (rest : List Token) (first second : Survey) (g k : Grid)
    → IsFront (tokens text) rest first
    → IsShaped false (length text) (tokens text) first g
    → IsShaped true (length text) rest second k
    → (2 + sites k ≤ length (behind_heights g text)) × (length (heights_behind g k text) ≡ sites k)
    × (second.grains ≡ sum (heights_behind g k text))
second_facts text rest first second g k h shaped next = grind (arith, usual, behind_first, one_each)
