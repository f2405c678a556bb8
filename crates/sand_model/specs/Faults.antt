-- The numbers of this crate's faults.
use Rattle.std.specs.Prelude.{ℕ}
use Rattle.sand_model.specs.declared.faults.ShapeFault.{ShapeFault}
use Rattle.sand_model.specs.declared.faults.ShapeFault.TheVariants.{Side, Narrow}
use Rattle.sand_model.specs.declared.faults.PileFault.{PileFault}
use Rattle.sand_model.specs.declared.faults.PileFault.TheVariants.{Length, TooManyGrains, Memory}

abbrev pub shape_fault_number : ShapeFault → ℕ
shape_fault_number Side = 1
shape_fault_number Narrow = 24

abbrev pub pile_fault_number : PileFault → ℕ
pile_fault_number Length = 2
pile_fault_number TooManyGrains = 3
pile_fault_number (Memory e) = 4
