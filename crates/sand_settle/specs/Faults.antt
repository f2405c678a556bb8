-- The numbers of the faults of the pile of one thread.
use Rattle.std.specs.Prelude.{ℕ}
use Rattle.sand_settle.specs.declared.faults.OneFault.{OneFault}
use Rattle.sand_settle.specs.declared.faults.OneFault.TheVariants.{Full, Memory}

abbrev pub one_fault_number : OneFault → ℕ
one_fault_number Full = 6
one_fault_number (Memory e) = 4
