-- The numbers of this crate's faults, and why a pile is refused.
use Rattle.std.specs.Prelude.{ℕ, ⊤}
use Rattle.sand_model.specs.Piles.{PileView, height_of}
use Rattle.sand_model.specs.Sand.{IsStable}
use Rattle.sand_group.specs.Recurrence.{IsRecurrent}
use Rattle.sand_group.specs.declared.faults.GroupFault.{GroupFault}
use Rattle.sand_group.specs.declared.faults.GroupFault.TheVariants.{Unstable, NotRecurrent, Shapes, Memory}

abbrev pub group_fault_number : GroupFault → ℕ
group_fault_number Unstable = 7
group_fault_number NotRecurrent = 8
group_fault_number Shapes = 9
group_fault_number (Memory e) = 4

-- why a pile is refused: a height is over 3; or none is, and a set is forbidden; or memory ran out
abbrev pub IsRefusal : PileView → GroupFault → Type 0
IsRefusal pile Unstable = ¬ IsStable pile.grid (height_of pile)
IsRefusal pile NotRecurrent = IsStable pile.grid (height_of pile) × ¬ IsRecurrent pile.grid (height_of pile)
IsRefusal pile Shapes = ⊥
IsRefusal pile (Memory e) = ⊤
