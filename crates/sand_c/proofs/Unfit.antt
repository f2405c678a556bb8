-- Why a pile is not recurrent, given what the burning test rejected.
use Rattle.sand_c.proofs.Common.{◌≡◌, refl, Result, alloc_error, PileView, Fault}
use Rattle.sand_group.specs.declared.faults.GroupFault.{GroupFault}
use Rattle.sand_group.specs.declared.faults.GroupFault.TheVariants as group
use Rattle.sand_group.proofs.WhyRefused.{IsRefused, refusal}
use Rattle.sand_c.specs.Group.{IsUnfit}
use Rattle.sand_c.specs.Faults.{of_group}
use Rattle.sand_c.specs.declared.faults.Fault.TheVariants as c

pub unfit : {A : Type 0} (pile : PileView) (answer : Result A GroupFault) (fault : GroupFault)
    → IsRefused pile answer fault
    → IsUnfit pile (of_group fault)
unfit pile answer fault h = record { why = fault; is = refl; refusal = refusal pile answer fault h }

pub out_of_memory : (pile : PileView) (fault : Fault) → fault ≡ c.Memory → IsUnfit pile fault
out_of_memory pile fault is = record { why = group.Memory alloc_error; is = is; refusal = tt }
