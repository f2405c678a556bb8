-- Why a command of the group is refused, given why a pile in its input is.
use Rattle.sand_commands.proofs.Common.{◌≡◌, ℕ, common_steps, arith, List, Result, Ok, PileView, pile_of, IsElementFault, IsSumFault, Finds, of_group}
use Rattle.sand_group.specs.declared.faults.GroupFault.{GroupFault}
use Rattle.sand_group.proofs.WhyRefused.{IsRefused, refusal}
use Rattle.sand_commands.specs.GroupCommands.{IsUnfitPair, IsUnfitPile}

pub pair_refused : (input : List ℕ) (fault : GroupFault)
    → IsUnfitPair input fault → Finds (IsSumFault input) (of_group fault)
pair_refused input fault why = grind (arith, common_steps)

unfit_pile : (input : List ℕ) (fault : GroupFault) → IsUnfitPile input fault → Finds (IsElementFault input) (of_group fault)
unfit_pile input fault why = grind (arith, common_steps)

pub pile_refused : {A : Type 0} (input : List ℕ) (pile : PileView) (answer : Result A GroupFault) (fault : GroupFault)
    → pile_of input ≡ Ok pile → IsRefused pile answer fault → Finds (IsElementFault input) (of_group fault)
pile_refused input pile answer fault read refused =
    unfit_pile input fault (record { pile = pile; read = read; unfit = refusal pile answer fault refused })
