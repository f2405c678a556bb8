-- Rows in two parts: together the parts hold, and have toppled, what the whole does.
use Rattle.sand_shared.proofs.Common.{◌≡◌, ℕ, ◌+◌, ◌-◌, ◌<◌, ◌≤◌, ◌⊎◌, List, ◌++◌, true, false, length, get_or, leb, ltb, sym, refl, ap, ◌∙◌, subst, inr, ⊎_elim, arith, length-append, slice_index, ◌&&◌, ◌||◌, cases_Bool, nat_tests, get_or-take, get_or-drop, get_or_append_left, get_or-append-add, length-drop, length-take-le, get_or-eq_default, one_if, View, holds_site, toppled_by, base_of, follows, parent, child, joined}
use Rattle.sand_shared.proofs.GrainsAtSite.{toppled_from, toppled_before, toppled_outside}

-- its rows begin at b, or it has none
abbrev pub BeginsAt : View → ℕ → Type 0
BeginsAt v b = (length v.counts ≡ 0) ⊎ (v.base ≡ b)

none_held : (v : View) (i : ℕ) → length v.counts ≡ 0 → holds_site v i ≡ false
none_held v i e = grind (arith, nat_tests)

pub none_toppled : (v : View) (i : ℕ) → length v.counts ≡ 0 → toppled_by v i ≡ 0
none_toppled v i e = toppled_outside v i (none_held v i e)

toppled_past : (v : View) (b i : ℕ) → BeginsAt v b → b ≤ i → toppled_by v i ≡ slice_index v.counts (i - b)
toppled_past v b i begins le =
    let none = get_or-eq_default v.counts 0 {n = i - b} in grind (arith, nat_tests, none_toppled v i, none)

toppled_not_yet : (v : View) (b i : ℕ) → BeginsAt v b → i < b → toppled_by v i ≡ 0
toppled_not_yet v b i begins lt = grind (arith, nat_tests, none_toppled v i)

held_in : (v : View) (b i : ℕ) → BeginsAt v b → holds_site v i ≡ (leb b i && ltb i (b + length v.counts))
held_in v b i begins = grind (arith, nat_tests)

held_together : (b m n i : ℕ)
    → one_if (leb b i && ltb i (b + m)) + one_if (leb (b + m) i && ltb i ((b + m) + n))
    ≡ one_if (leb b i && ltb i (b + (m + n)))
held_together b m n i = grind (arith, nat_tests)

-- x has the first rows of z, and y the rest
pub record AreParts (x y z : View) : Type 0 where
  pub first : BeginsAt x z.base
  pub second : BeginsAt y (z.base + length x.counts)
  pub len : length x.counts + length y.counts ≡ length z.counts
  pub low : (k : ℕ) → k < length x.counts → slice_index x.counts k ≡ slice_index z.counts k
  pub high : (k : ℕ) → slice_index y.counts k ≡ slice_index z.counts (length x.counts + k)

module _ (x y z : View) (parts : AreParts x y z) (i : ℕ) where
  pub parts_hold : one_if (holds_site x i) + one_if (holds_site y i) ≡ one_if (holds_site z i)
  parts_hold =
      let a = ap one_if (held_in x z.base i parts.first) in
      let b = ap one_if (held_in y (z.base + length x.counts) i parts.second) in
      let c = held_together z.base (length x.counts) (length y.counts) i in
      let d = ap (λ n. one_if (leb z.base i && ltb i (z.base + n))) parts.len in omega arith

  pub parts_toppled : toppled_by x i + toppled_by y i ≡ toppled_by z i
  parts_toppled =
      let m = z.base + length x.counts in
      let early = toppled_not_yet x z.base i parts.first in
      let past = toppled_past x z.base i parts.first in
      let lower = toppled_not_yet y m i parts.second in
      let upper = toppled_past y m i parts.second in
      let before = toppled_before z i in
      let from = toppled_from z i in
      let low = parts.low (i - z.base) in
      let high = parts.high (i - m) in
      let behind = get_or-eq_default x.counts 0 {n = i - z.base} in
      let same = λ (le : m ≤ i).
      ap (slice_index z.counts) {x = length x.counts + (i - m)} {y = i - z.base} (omega arith) in
      grind (arith, nat_tests, early, past, lower, upper, before, from, low, high, behind, same)

begins_based : (v : View) (b : ℕ) → v.base ≡ base_of b v.counts → BeginsAt v b
begins_based v b e = grind (arith, nat_tests)

-- what a pass keeps and what it gives away are the parts of what it had
pub cut_parts : (v : View) (q n : ℕ) → n ≤ length v.counts → AreParts (parent v q n) (child v q n) v
cut_parts v q n fits =
    let kept = length v.counts - n in
    let long = length-take-le kept v.counts (omega arith) in
    let rest = length-drop kept v.counts in
    record {
      first = begins_based (parent v q n) v.base refl;
      second = subst (BeginsAt (child v q n)) (ap (λ k. v.base + k) (sym long))
          (begins_based (child v q n) (v.base + kept) refl);
      len = omega arith;
      low = λ k l. get_or-take kept v.counts k 0 (omega arith);
      high = λ k. get_or-drop kept v.counts k 0 ∙ ap (λ m. get_or v.counts (m + k) 0) (sym long);
    }

append_parts : (v w z : View) → follows v w ≡ true → z.base ≡ v.base → z.counts ≡ v.counts ++ w.counts → AreParts v w z
append_parts v w z next base counts =
    let same = ap (λ (l : List ℕ). get_or l) counts in
    record {
      first = inr (sym base);
      second = grind (arith, nat_tests, next, base);
      len = sym (ap length counts ∙ length-append v.counts w.counts);
      low = λ k l. sym (get_or_append_left v.counts w.counts 0 k l) ∙ ap (λ (l : List ℕ). get_or l k 0) (sym counts);
      high = λ k. sym (get_or-append-add v.counts w.counts k 0)
          ∙ ap (λ (l : List ℕ). get_or l (length v.counts + k) 0) (sym counts);
    }

-- the rows of two passes that touch are those of the joined pass
pub record AddRows (v w z : View) (i : ℕ) : Type 0 where
  pub toppled : toppled_by v i + toppled_by w i ≡ toppled_by z i
  pub held : one_if (holds_site v i) + one_if (holds_site w i) ≡ one_if (holds_site z i)

pub joined_rows : (v w : View) (i : ℕ) → (follows v w || follows w v) ≡ true → AddRows v w (joined v w) i
joined_rows v w i touch = ⊎_elim
    (λ (next : follows v w ≡ true).
    let parts = append_parts v w (joined v w) next (rw next) (rw next) in
    record { toppled = parts_toppled v w (joined v w) parts i; held = parts_hold v w (joined v w) parts i })
    (λ (apart : follows v w ≡ false).
    let before : follows w v ≡ true = rw apart at touch in
    let parts = append_parts w v (joined v w) before (rw apart) (rw apart) in
    let a = parts_toppled w v (joined v w) parts i in
    let b = parts_hold w v (joined v w) parts i in
    record { toppled = omega arith; held = omega arith })
    (cases_Bool (follows v w))
