-- What holds at each index of a list still holds after a push of an element for which it holds.
use Rattle.std.proofs.Common.{◌≡◌, ◌∙◌, ℕ, ◌+◌, ◌<◌, ◌⊎◌, List, [], ◌∷◌, ◌++◌, ap, arith, get_or, inl, inr, length, subst, sym}
use Rattle.std.proofs.Math.Nat.{eq-or-lt_of_le}
use Rattle.std.proofs.lemmas.List.{get_or_append_left, get_or_push}

pub pushed : (P : ℕ → ℕ → Type 0) (xs : List ℕ) (x n : ℕ) {ys : List ℕ} → ys ≡ xs ++ x ∷ [] → length xs ≡ n
    → ((i : ℕ) → i < n → P i (get_or xs i 0)) → P n x → (i : ℕ) → i < n + 1 → P i (get_or ys i 0)
pushed P xs x n {ys} same long each new i l = go (eq-or-lt_of_le (omega (arith, l)))
  where
    go : (i ≡ n) ⊎ (i < n) → P i (get_or ys i 0)
    go (inl e) = subst (λ j. P j (get_or ys j 0)) (sym e)
        (subst (P n) (sym (ap (λ (zs : List ℕ). get_or zs n 0) same ∙ get_or_push xs x 0 n long)) new)
    go (inr before) = subst (P i) (sym (ap (λ (zs : List ℕ). get_or zs i 0) same
        ∙ get_or_append_left xs (x ∷ []) 0 i (omega (arith, long, before))))
        (each i before)
