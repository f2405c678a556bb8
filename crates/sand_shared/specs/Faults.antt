-- The numbers of the faults of the shared pile.
use Rattle.std.specs.Prelude.{ℕ}
use Rattle.sand_shared.specs.declared.faults.SharedFault.{SharedFault}
use Rattle.sand_shared.specs.declared.faults.SharedFault.TheVariants.{TooManyGrains, Memory as SharedMemory}
use Rattle.sand_shared.specs.declared.faults.SplitFault.{SplitFault}
use Rattle.sand_shared.specs.declared.faults.SplitFault.TheVariants.{TooMuch, Rows, Memory as SplitMemory}
use Rattle.sand_shared.specs.declared.faults.JoinFault.{JoinFault}
use Rattle.sand_shared.specs.declared.faults.JoinFault.TheVariants.{Apart, Memory as JoinMemory}
use Rattle.sand_shared.specs.declared.faults.CloseFault.{CloseFault}
use Rattle.sand_shared.specs.declared.faults.CloseFault.TheVariants.{Missing, Memory as CloseMemory}

abbrev pub shared_fault_number : SharedFault → ℕ
shared_fault_number TooManyGrains = 3
shared_fault_number (SharedMemory e) = 4

abbrev pub split_fault_number : SplitFault → ℕ
split_fault_number TooMuch = 10
split_fault_number Rows = 11
split_fault_number (SplitMemory e) = 4

abbrev pub join_fault_number : JoinFault → ℕ
join_fault_number Apart = 12
join_fault_number (JoinMemory e) = 4

abbrev pub close_fault_number : CloseFault → ℕ
close_fault_number Missing = 14
close_fault_number (CloseMemory e) = 4
