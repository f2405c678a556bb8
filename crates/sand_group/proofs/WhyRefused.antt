-- Why a call that burns a pile refuses it: the pile is unstable, or it is not recurrent, or memory ran out.
use Rattle.sand_group.proofs.Common.{◌≡◌, ℕ, arith, inl, inr, ◌↔◌, ◌⊎◌, Result, Err, alloc_error, cases_lt, Grid, PileView, height_of, IsStable, IsRecurrent}
use Rattle.sand_group.specs.declared.faults.GroupFault.{GroupFault}
use Rattle.sand_group.specs.declared.faults.GroupFault.TheVariants as group
use Rattle.sand_group.specs.Faults.{IsRefusal}

-- a pile that cannot be unstable is stable
pub stable : (g : Grid) (s : ℕ → ℕ) → ((IsStable g s → ⊥) → ⊥) → IsStable g s
stable g s not_high = record {
  low = λ i lt. elim (cases_lt 3 (s i)) [
    | inl high ↦ absurd (not_high (λ is_stable. omega (arith, is_stable.low i lt)))
    | inr low ↦ low
  ];
}

-- what is known of a refused pile
pub record IsRefused {A : Type 0} (pile : PileView) (answer : Result A GroupFault) (fault : GroupFault) : Type 0 where
  pub is : answer ≡ Err fault
  pub unstable : (answer ≡ Err group.Unstable) ↔ (IsStable pile.grid (height_of pile) → ⊥)
  pub not_recurrent : answer ≡ Err group.NotRecurrent → IsRecurrent pile.grid (height_of pile) → ⊥
  pub others : IsStable pile.grid (height_of pile) → (fault ≡ group.NotRecurrent) ⊎ (fault ≡ group.Memory alloc_error)

not_unstable : {A : Type 0} (pile : PileView) (answer : Result A GroupFault) (fault : GroupFault)
    → IsRefused pile answer fault → (fault ≡ group.Unstable → ⊥)
    → IsStable pile.grid (height_of pile)
not_unstable pile answer fault h other =
    stable pile.grid (height_of pile) (λ high. let is = h.is in let high_is = h.unstable.1 high in other (cc))

pub refusal : {A : Type 0} (pile : PileView) (answer : Result A GroupFault) (fault : GroupFault)
    → IsRefused pile answer fault → IsRefusal pile fault
refusal pile answer group.Unstable h = h.unstable.0 h.is
refusal pile answer group.NotRecurrent h =
    (not_unstable pile answer group.NotRecurrent h (λ e. cc), h.not_recurrent h.is)
refusal pile answer group.Shapes h = elim (h.others (not_unstable pile answer group.Shapes h (λ e. cc))) [
  | inl e ↦ absurd (cc)
  | inr e ↦ absurd (cc)
]
refusal pile answer (group.Memory error) h = tt
