-- The faults of a run: their numbers, and those that can occur in an epoch.
use Rattle.std.specs.Prelude.{ℕ, ⊤}
use Rattle.sand_lab.specs.declared.faults.LabFault.{LabFault}
use Rattle.sand_lab.specs.declared.faults.LabFault.TheVariants.{TooManyGrains, Memory, Plan, AlbumSize, Taken}

abbrev pub lab_fault_number : LabFault → ℕ
lab_fault_number TooManyGrains = 3
lab_fault_number (Memory e) = 4
lab_fault_number Plan = 15
lab_fault_number AlbumSize = 16
lab_fault_number Taken = 17

abbrev pub IsMemory : LabFault → Type 0
IsMemory (Memory e) = ⊤
IsMemory _ = ⊥

-- a failed allocation, or a place of the album that was already set
abbrev pub IsOfEpoch : LabFault → Type 0
IsOfEpoch (Memory e) = ⊤
IsOfEpoch Taken = ⊤
IsOfEpoch _ = ⊥
