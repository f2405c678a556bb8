-- What holds of each element of a list at its index, as the list grows.
use Rattle.sand_lab.proofs.Common.{◌≡◌, ℕ, zero, suc, ◌+◌, List, [], ◌∷◌, ◌++◌, All, length, get_or, map, refl, subst, arith, AllZip, All-map, none-some, same_Some, slice_get-get_or, EachAt}

module _ {A : Type 0} where
  -- one more element at the end
  pub each_push : (P : ℕ → A → Type 0) (xs : List A) (x : A) → EachAt P xs → P (length xs) x → EachAt P (xs ++ x ∷ [])
  each_push P [] x h p zero y e = subst (λ (z : A). P 0 z) (same_Some _ _ e) p
  each_push P [] x h p (suc i) y e = absurd (none-some y e)
  each_push P (z ∷ xs) x h p zero y e = h zero y e
  each_push P (z ∷ xs) x h p (suc i) y e = each_push (λ j. P (suc j)) xs x (λ j w g. h (suc j) w g) p i y e

  -- one more element in front, with the indices counted from n
  pub each_first : (P : ℕ → A → Type 0) (n : ℕ) (xs : List A) (x : A) → EachAt (λ i. P (suc n + i)) xs → P n x
      → EachAt (λ i. P (n + i)) (x ∷ xs)
  each_first P n xs x h p zero y e =
      let same : n ≡ n + 0 = omega arith in
      subst (λ (m : ℕ). P m y) same (subst (λ (z : A). P n z) (same_Some _ _ e) p)
  each_first P n xs x h p (suc i) y e =
      let same : suc n + i ≡ n + suc i = omega arith in
      subst (λ (m : ℕ). P m y) same (h i y e)

  pub each_none : (P : ℕ → A → Type 0) → EachAt P []
  each_none P i x e = absurd (none-some x e)

  pub each_all : (P : ℕ → A → Type 0) (Q : A → Type 0) (xs : List A) → EachAt P xs → ((i : ℕ) (x : A) → P i x → Q x)
      → All Q xs
  each_all P Q xs h f = λ k d lt. f k (get_or xs k d) (h k (get_or xs k d) (slice_get-get_or xs k d lt))

  pub each_zip : (P Q : ℕ → A → Type 0) (R : A → A → Type 0) (xs ys : List A)
      → EachAt P xs → AllZip R xs ys → ((i : ℕ) (x y : A) → P i x → R x y → Q i y)
      → EachAt Q ys
  each_zip P Q R [] [] h z f i y e = absurd (none-some y e)
  each_zip P Q R [] (y ∷ ys) h z f i v e = absurd z
  each_zip P Q R (x ∷ xs) [] h z f i v e = absurd z
  each_zip P Q R (x ∷ xs) (y ∷ ys) h z f zero v e =
      subst (λ (u : A). Q 0 u) (same_Some _ _ e) (f 0 x y (h 0 x refl) z.0)
  each_zip P Q R (x ∷ xs) (y ∷ ys) h z f (suc i) v e = each_zip (λ j. P (suc j)) (λ j. Q (suc j))
      R xs ys (λ j w g. h (suc j) w g) z.1 (λ j a b p r. f (suc j) a b p r) i v e

module _ {A B : Type 0} where
  pub all_map : (P : ℕ → A → Type 0) (Q : B → Type 0) (v : A → B) (xs : List A)
      → EachAt P xs → ((i : ℕ) (x : A) → P i x → Q (v x)) → All Q (map v xs)
  all_map P Q v xs h f = All-map Q v xs (each_all P (λ x. Q (v x)) xs h f)

  pub each_map : (P : ℕ → A → Type 0) (Q : ℕ → B → Type 0) (v : A → B) (xs : List A)
      → EachAt P xs → ((i : ℕ) (x : A) → P i x → Q i (v x)) → EachAt Q (map v xs)
  each_map P Q v [] h f i y e = absurd (none-some y e)
  each_map P Q v (x ∷ xs) h f zero y e = subst (λ (z : B). Q 0 z) (same_Some _ _ e) (f 0 x (h 0 x refl))
  each_map P Q v (x ∷ xs) h f (suc i) y e =
      each_map (λ j. P (suc j)) (λ j. Q (suc j)) v xs (λ j z g. h (suc j) z g) (λ j z p. f (suc j) z p) i y e
