-- The places around an inner site, all of which are sites.
use Rattle.std.proofs.Common.{ℕ, Some, map, ◌≡◌, refl, sym, ◌∙◌, ap, arith, List, [], ◌∷◌, length, get_or}
use Rattle.std.proofs.lemmas.List.{length-map}
use Rattle.sand_model.specs.Grid.{Grid, places}

four_of : (xs : List ℕ) → length xs ≡ 4
    → (Some (get_or xs 0 0) ∷ Some (get_or xs 1 0) ∷ Some (get_or xs 2 0) ∷ Some (get_or xs 3 0) ∷ []) ≡ map Some xs
four_of [] e = absurd (omega arith)
four_of (a ∷ []) e = absurd (omega arith)
four_of (a ∷ b ∷ []) e = absurd (omega arith)
four_of (a ∷ b ∷ c ∷ []) e = absurd (omega arith)
four_of (a ∷ b ∷ c ∷ d ∷ []) e = refl
four_of (a ∷ b ∷ c ∷ d ∷ x ∷ xs) e = absurd (omega arith)

pub some_four : (g : Grid) (i : ℕ) (xs : List ℕ) → map Some xs ≡ places g i
    → (Some (get_or xs 0 0) ∷ Some (get_or xs 1 0) ∷ Some (get_or xs 2 0) ∷ Some (get_or xs 3 0) ∷ []) ≡ places g i
some_four g i xs e =
    let long : length xs ≡ 4 = sym (length-map xs Some) ∙ ap length e in
    four_of xs long ∙ e
