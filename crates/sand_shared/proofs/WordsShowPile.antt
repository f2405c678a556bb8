-- After a step on one word, the words and the views show the open pile after the event.
use Rattle.sand_shared.proofs.Common.{◌≡◌, ℕ, ◌+◌, ◌-◌, ◌*◌, ◌%◌, ◌^◌, ◌<◌, ◌≢◌, List, [], ◌∷◌, length, set, refl, ap, ◌∙◌, arith, mod-eq_of_lt, length-append, common_steps, slice_index, count_by, add-mod_right, get_or-set_same, get_or-set_other, length-set, get_or-le-sum_by, State, sites, View, Terms, OpenPile, nobody, grid_of_terms, held, pass_at, AreTerms, IsLawful, draw, unload, are_for, drew, after_laying, unloaded, arrived, with_pass, May, after, Shows}
use lib.Seq.{set-get_or}
use Rattle.sand_shared.proofs.GrainsAtSite.{amount_here, amount_else}
use Rattle.sand_shared.proofs.HandAfterPlacing.{held-without}
use Rattle.sand_shared.proofs.Lawfulness.{few_present}

-- the state after the seat a takes a step on a word
abbrev pub stepped_to : State ℕ View → ℕ → ℕ → ℕ → View → State ℕ View
stepped_to s word n a w = record { words = set s.words word n; homes = s.homes; views = set s.views a w }

pub pass_at-with : (p : OpenPile) (a : ℕ) (w : View) → a < length p.passes → pass_at (with_pass p a w) a ≡ w
pass_at-with p a w there = get_or-set_same p.passes a w nobody there

-- the views after the pass a becomes w
passes_step : (p : OpenPile) (views : List View) (a : ℕ) (w : View) → views ≡ p.passes → a < length p.passes
    → set views a (pass_at (with_pass p a w) a) ≡ set p.passes a w
passes_step p views a w e there = λ q. set (e q) a (pass_at-with p a w there q)

-- a load leaves the words as they are
pub shows_load : (t : Terms) (p : OpenPile) (s : State ℕ View) (word a : ℕ) (w : View)
    → Shows t p s → a < length p.passes
    → Shows t (with_pass p a w) (stepped_to s word (slice_index s.words word) a (pass_at (with_pass p a w) a))
shows_load t p s word a w h there =
    let same = set-get_or s.words word 0 in
    record {
      wide = ap length same ∙ h.wide;
      number = ap (λ (l : List ℕ). slice_index l 1) same ∙ h.number;
      heights = λ i l. ap (λ (ws : List ℕ). slice_index ws (i + 2)) same ∙ h.heights i l;
      passes = passes_step p s.views a w h.passes there;
    }

-- a draw adds 1 to the number word
pub shows_draw : (t : Terms) (p : OpenPile) (s : State ℕ View) (a i : ℕ)
    → AreTerms t → IsLawful t p → May t p (draw a i) → Shows t p s
    → Shows t (after t p (draw a i))
    (stepped_to s 1 ((slice_index s.words 1 + 1) % 2 ^ 64) a (pass_at (after t p (draw a i)) a))
shows_draw t p s a i terms r may h =
    let n = slice_index s.words 1 in
    let mine = get_or-le-sum_by (λ (u : View). u.left) p.passes a nobody may.there in
    let number = h.number in
    let next : (n + 1) % 2 ^ 64 ≡ n + 1 = mod-eq_of_lt {n = n + 1} {m = 2 ^ 64} (omega arith) in
    record {
      wide = length-set s.words 1 ((n + 1) % 2 ^ 64) ∙ h.wide;
      number = get_or-set_same s.words 1 ((n + 1) % 2 ^ 64) 0 (omega arith)
          ∙ (next ∙ omega (arith, length-append p.drawn (i ∷ [])));
      heights = λ j l.
          get_or-set_other s.words 1 (j + 2) ((n + 1) % 2 ^ 64) 0 (λ e. absurd (omega arith)) ∙ h.heights j l;
      passes = passes_step p s.views a (drew (pass_at p a) (length p.drawn) i) h.passes may.there;
    }

-- the word of a site becomes x, and the others stay
shows_height : (t : Terms) (p q : OpenPile) (s : State ℕ View) (a i x : ℕ)
    → i < sites (grid_of_terms t) → Shows t p s → length p.drawn ≡ length q.drawn
    → set s.views a (pass_at q a) ≡ q.passes
    → q.height i ≡ x → ((j : ℕ) → i ≢ j → q.height j ≡ p.height j)
    → Shows t q (stepped_to s (i + 2) x a (pass_at q a))
shows_height t p q s a i x inside h draws passes here others = record {
  wide = length-set s.words (i + 2) x ∙ h.wide;
  number = get_or-set_other s.words (i + 2) 1 x 0 (λ e. absurd (omega arith)) ∙ h.number ∙ draws;
  heights = λ j l. (let long = h.wide in grind (arith, common_steps, long, here, others j, h.heights j l));
  passes = passes;
}

-- grains laid on a site are added to its word
pub shows_arrived : (t : Terms) (p : OpenPile) (s : State ℕ View) (a i k : ℕ)
    → AreTerms t → IsLawful t p → a < length p.passes
    → 0 < count_by (are_for i k) (pass_at p a).hand
    → i < sites (grid_of_terms t) → Shows t p s
    → Shows t (arrived p a i k)
    (stepped_to s (i + 2) ((slice_index s.words (i + 2) + k) % 2 ^ 64) a (pass_at (arrived p a i k) a))
shows_arrived t p s a i k terms r there in_hand inside h =
    let n = slice_index s.words (i + 2) in
    let is = h.heights i inside in
    let v = pass_at p a in
    let few = few_present t p terms r i inside in
    let mine = get_or-le-sum_by (λ (u : View). held u.hand i) p.passes a nobody there in
    let hand = held-without i k v.hand i in_hand in
    let here = amount_here i k i refl in
    let next : (n + k) % 2 ^ 64 ≡ n + k = mod-eq_of_lt {n = n + k} {m = 2 ^ 64} (omega arith) in
    shows_height t p (arrived p a i k) s a i ((n + k) % 2 ^ 64) inside h refl
    (passes_step p s.views a (after_laying v i k) h.passes there)
    (omega arith) (λ j ne. let e = amount_else i k j ne in omega arith)

-- grains taken from a site are subtracted from its word
pub shows_unload : (t : Terms) (p : OpenPile) (s : State ℕ View) (a i k : ℕ)
    → AreTerms t → IsLawful t p → May t p (unload a i k) → Shows t p s
    → Shows t (after t p (unload a i k)) (stepped_to s (i + 2)
    ((slice_index s.words (i + 2) + (2 ^ 64 - 4 * k)) % 2 ^ 64) a (pass_at (after t p (unload a i k)) a))
shows_unload t p s a i k terms r may h =
    let n = slice_index s.words (i + 2) in
    let is = h.heights i may.inside in
    let few = few_present t p terms r i may.inside in
    let here = amount_here i (4 * k) i refl in
    let x = (n + (2 ^ 64 - 4 * k)) % 2 ^ 64 in
    let next : x ≡ n - 4 * k = ap (λ z. z % 2 ^ 64) {x = n + (2 ^ 64 - 4 * k)} {y = (n - 4 * k) + 2 ^ 64} (omega arith)
    ∙ (add-mod_right (n - 4 * k) (2 ^ 64) ∙ mod-eq_of_lt {n = n - 4 * k} {m = 2 ^ 64} (omega arith)) in
    shows_height t p (after t p (unload a i k)) s a i x may.inside h refl
    (passes_step p s.views a (unloaded t (pass_at p a) i k) h.passes may.there)
    (omega arith) (λ j ne. let e = amount_else i (4 * k) j ne in omega arith)
