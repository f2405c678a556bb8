-- One more token of a survey.
use Rattle.sand_text.proofs.Common.{◌≡◌, ℕ, suc, ◌+◌, ◌-◌, ◌<◌, ◌≤◌, nat_le, List, [], ◌∷◌, true, false, length, take, drop, get_or, eqb, ltb, refl, sym, ◌∙◌, ap, arith, inl, inr, Option, Some, None, Bool, not, nat_lt, sum, subst, if◌then◌else◌, ◌==◌, cases_lt, cases_eq, nat_tests, take_all, drop_all, All, filter, position, list_any_none, option_or, Edge, Open, Cylinder, Text, Survey, Token, Number, Letter, Strange, capped, numbers, AgreeOnLetters, HasCounted, IsNoted, IsSurvey, IsStrangeAt, still_spared, sites_of, grains_with, if_no_site, noted, most_grains, usual}
use Rattle.sand_text.specs.Tokens.{first_strange, first_large, edge_behind}
use Rattle.sand_text.proofs.Taking.{next_of}
use Rattle.sand_text.proofs.Noting.{sum_push, no_site_push, noted-next, length-noted, noted-none}

large_next : (a : Option ℕ) (b : Bool) (start : ℕ) (later : Option ℕ)
    → option_or (option_or a (if b then Some start else None)) later ≡ option_or a (if b then Some start else later)
large_next a b start later = grind (arith, usual)

take-nil : (n : ℕ) → take {A = ℕ} n [] ≡ []
take-nil n = take_all n [] (omega arith)

drop-nil : (n : ℕ) → drop {A = ℕ} n [] ≡ []
drop-nil n = drop_all n [] (omega arith)

-- what a survey says of the numbers after the sides
abbrev IsBehind : List Token → Survey → Type 0
IsBehind ws s = (s.grains ≡ capped (sum (take (sites_of s) (noted s.count ws))))
    × (s.no_site ≡ position (nat_le (sites_of s)) (drop (sites_of s) (noted s.count ws)))

-- one more side, and no number after the sides
side_next : (ws : List Token) (s t : Survey) → s.count < 2 → t.count ≡ s.count + 1
    → IsBehind ws s → t.grains ≡ s.grains → t.no_site ≡ s.no_site → IsBehind ws t
side_next ws s t low count so_far grains no_site = grind (arith, usual, noted-none, take-nil, drop-nil)

-- one more number after the sides
behind_next : (ws : List Token) (s t : Survey) (value : ℕ) → 2 ≤ s.count
    → s.count < length (numbers ws) → get_or (numbers ws) s.count 0 ≡ value
    → t.count ≡ s.count + 1 → sites_of t ≡ sites_of s
    → IsBehind ws s → t.grains ≡ grains_with s (s.count - 2) value
    → t.no_site ≡ option_or s.no_site (if_no_site s (s.count - 2) value)
    → IsBehind ws t
behind_next ws s t value high lt here count same so_far grains no_site =
    grind (arith, usual, noted-next, length-noted, sum_push, no_site_push)

-- a number, either a side or after the sides
noted_step : (ws rest : List Token) (s t : Survey) (start value : ℕ) → IsSurvey ws (Number start value ∷ rest) s
    → IsNoted s t start value → IsBehind ws t
noted_step ws rest s t start value h is = elim (cases_lt s.count 2) [
  | inl low ↦
      let test : ltb s.count 2 ≡ true = grind (arith, nat_tests) in
      side_next ws s t low is.count (h.grains, h.no_site) (rw test at is.grains) (rw test at is.no_site)
  | inr high ↦
      let test : ltb s.count 2 ≡ false = grind (arith, nat_tests) in
      let not_first : eqb s.count 0 ≡ false = grind (arith, nat_tests) in
      let not_second : eqb s.count 1 ≡ false = grind (arith, nat_tests) in
      let width = rw not_first at is.width in
      let height = rw not_second at is.height in
      let next = next_of (numbers ws) (numbers rest) s.count value h.counted.left in
      behind_next ws s t value high next.0 next.1 is.count (rw (width, height) refl)
      (h.grains, h.no_site) (rw test at is.grains) (rw test at is.no_site)
]

pub note_step : (ws rest : List Token) (s t : Survey) (start value : ℕ) → IsSurvey ws (Number start value ∷ rest) s
    → IsNoted s t start value → IsSurvey ws rest t
unfolding first_strange first_large edge_behind
note_step ws rest s t start value h is =
    let next = next_of (numbers ws) (numbers rest) s.count value h.counted.left in
    let behind = noted_step ws rest s t start value h is in
    let count = is.count in
    let edge = is.edge in
    let letters : AgreeOnLetters ws rest t = record {
      plain = λ more later. rw (edge, count)
          (h.letters.plain more (λ k d lt. let behind = later k d lt in omega arith));
      bare = λ is_open. rw count (h.letters.bare (sym edge ∙ is_open));
      edge = rw (edge, count) h.letters.edge;
      later_edge = λ k lt. rw count (h.letters.later_edge k (omega arith));
    } in
    let counted : HasCounted ws rest t = record {
      within = omega (arith, next.0);
      left = rw count next.2;
      width = λ _. elim (cases_eq s.count 0) [
        | inl e ↦ let test : eqb s.count 0 ≡ true = grind (arith, nat_tests) in
            rw test at is.width ∙ (sym next.1 ∙ ap (λ n. get_or (numbers ws) n 0) e)
        | inr ne ↦
            let test : eqb s.count 0 ≡ false = grind (arith, nat_tests) in
            rw test at is.width ∙ h.counted.width (omega arith)
      ];
      height = λ some. elim (cases_eq s.count 1) [
        | inl e ↦ let test : eqb s.count 1 ≡ true = grind (arith, nat_tests) in
            rw test at is.height ∙ (sym next.1 ∙ ap (λ n. get_or (numbers ws) n 0) e)
        | inr ne ↦ let test : eqb s.count 1 ≡ false = grind (arith, nat_tests) in
            rw test at is.height ∙ h.counted.height (omega arith)
      ];
    } in
    record {
      letters = letters;
      counted = counted;
      large = rw (is.large) (large_next s.large (nat_lt most_grains value) start (first_large rest) ∙ h.large);
      grains = behind.0;
      no_site = behind.1;
    }

-- the letter after n numbers is not one of those allowed after more numbers
others : (n : ℕ) (more : List ℕ) → All (λ k. n < k) more → All (λ k. (k == n) ≡ false) more
others n more later = λ k d lt. let behind = later k d lt in grind (arith, nat_tests)

kept : (n : ℕ) (more : List ℕ) → All (λ k. n < k) more → filter (λ k. not (k == n)) more ≡ more
kept n [] later = refl
kept n (k ∷ more) later =
    let behind : n < k = later 0 0 (omega arith) in
    let test : eqb k n ≡ false = grind (arith, nat_tests) in
    let rest = kept n more (λ i d lt. later (suc i) d (omega arith)) in
    rw (test, rest) refl

-- an allowed letter
pub spare_step : (ws rest : List Token) (s t : Survey) (at : ℕ)
    → IsSurvey ws (Letter at ∷ rest) s → s.count ≡ 2 → s.edge ≡ Open
    → t ≡ record s { edge = Cylinder } → IsSurvey ws rest t
unfolding first_strange first_large edge_behind
spare_step ws rest s t at h two is_open is = rw is (record {
  letters = record {
    plain = λ more later.
        let spared = rw (is_open, two) at (h.letters.plain more later) in
        rw two (rw (kept s.count more later) at spared);
    bare = λ closed. absurd (cc);
    edge = rw (is_open, two) at h.letters.edge;
    later_edge = λ k lt.
        let test : eqb k 2 ≡ false = grind (arith, nat_tests) in
        rw two (rw (two, test) at (h.letters.later_edge k lt));
  };
  counted =
      record { within = h.counted.within; left = h.counted.left; width = h.counted.width; height = h.counted.height };
  large = h.large;
  grains = h.grains;
  no_site = h.no_site;
})

letter_first : (e : Edge) (n at : ℕ) (rest : List Token) (more : List ℕ)
    → ((n ≡ 2) × (e ≡ Open) → ⊥) → All (λ k. n < k) more
    → first_strange (still_spared e more) n (Letter at ∷ rest) ≡ Some at
unfolding first_strange
letter_first Open n at rest more not_spared later = grind (arith, usual, list_any_none, others)
letter_first Cylinder n at rest more not_spared later = rw (list_any_none (λ k. k == n) more (others n more later)) refl

-- a letter that is not allowed
pub strange_letter : (ws rest : List Token) (s : Survey) (at : ℕ)
    → IsSurvey ws (Letter at ∷ rest) s → ((s.count ≡ 2) × (s.edge ≡ Open) → ⊥)
    → IsStrangeAt ws s (Text at)
unfolding first_strange
strange_letter ws rest s at h not_spared = record {
  at = at;
  is = refl;
  strange = λ more later. sym (h.letters.plain more later) ∙ letter_first s.edge s.count at rest more not_spared later;
  bare = λ is_open. sym (h.letters.bare is_open);
}

pub strange_token : (ws rest : List Token) (s : Survey) (at : ℕ) → IsSurvey ws (Strange at ∷ rest) s
    → IsStrangeAt ws s (Text at)
unfolding first_strange
strange_token ws rest s at h = record {
  at = at;
  is = refl;
  strange = λ more later. sym (h.letters.plain more later);
  bare = λ is_open. sym (h.letters.bare is_open);
}

pub at_token : (ws rest : List Token) (s : Survey) (w v : Token) → w ≡ v → IsSurvey ws (w ∷ rest) s
    → IsSurvey ws (v ∷ rest) s
at_token ws rest s w v e h = let P : Token → Type 0 = λ x. IsSurvey ws (x ∷ rest) s in subst P e h

pub at_tokens : (ws left rest : List Token) (s : Survey) → left ≡ rest → IsSurvey ws left s → IsSurvey ws rest s
at_tokens ws left rest s e h = let P : List Token → Type 0 = λ l. IsSurvey ws l s in subst P e h
