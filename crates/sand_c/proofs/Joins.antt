-- Why a join of two handles fails before their passes are looked at.
use Rattle.sand_c.proofs.Common.{◌≡◌, ℕ, inl, inr, refl, sym, subst, Option, Some, None, IsOk, IsAnswer}
use Rattle.sand_c.specs.Driving.{held_in}
use Rattle.sand_c.specs.OwnedPasses.{OwnedPassView}
use Rattle.sand_c.specs.Passing.{JoinFails, both_in}
use Rattle.sand_c.specs.declared.faults.Fault.TheVariants.{Empty, OtherPile}

abbrev Answer : ℕ → Option OwnedPassView → Option OwnedPassView → Type 0
Answer n held other = IsAnswer n (λ e. JoinFails e (both_in held other))

-- the first handle is empty
pub first_is_empty : (n : ℕ) (held other : Option OwnedPassView) → held ≡ None → n ≡ 26 → Answer n held other
first_is_empty n held other none e = inr (Empty, e, subst (λ (h : Option OwnedPassView). JoinFails Empty (both_in h other)) (sym none) refl)

-- only the other one is
pub other_is_empty : (n : ℕ) (held other : Option OwnedPassView) → IsOk (held_in held) → other ≡ None → n ≡ 26 → Answer n held other
other_is_empty n None other full none e = absurd (cc)
other_is_empty n (Some v) other full none e = inr (Empty, e, subst (λ (h : Option OwnedPassView). JoinFails Empty (both_in (Some v) h)) (sym none) refl)

-- none is, and both passes may be said to be of two piles
pub are_of_two_piles : (n : ℕ) (held other : Option OwnedPassView) → IsOk (held_in held) → IsOk (held_in other) → n ≡ 27 → Answer n held other
are_of_two_piles n None other full both e = absurd (cc)
are_of_two_piles n (Some v) None full both e = absurd (cc)
are_of_two_piles n (Some v) (Some w) full both e = inr (OtherPile, e, inl refl)
