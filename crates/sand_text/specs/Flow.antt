-- What the loops over a stream promise of a reader. If its bytes are not known, they promise nothing of them.
use Rattle.std.specs.Prelude.{◌≡◌, ℕ, ◌≤◌, List, [], length, drop, Option, Some, None}
use Rattle.sand_text.specs.declared.fault.StreamFault.{StreamFault}
use Rattle.sand_text.specs.declared.fault.StreamFault.TheVariants.{Memory, Read, Write, TooLong}

-- the limit of an input, 2^20 bytes
abbrev pub most_bytes : ℕ
most_bytes = 1048576

-- the reader gave these bytes, which are all it had
abbrev pub GivesAll : Option (List ℕ) → Option (List ℕ) → List ℕ → Type 0
GivesAll None new bytes = Unit {0}
GivesAll (Some all) new bytes = (bytes ≡ all) × (new ≡ Some [])

-- the reader had at least n bytes, and gave n of them
abbrev pub IsFurther : Option (List ℕ) → Option (List ℕ) → ℕ → Type 0
IsFurther None new n = Unit {0}
IsFurther (Some all) new n = (n ≤ length all) × (new ≡ Some (drop n all))

-- the reader gave at most `most` bytes
abbrev pub IsFurtherByAtMost : Option (List ℕ) → Option (List ℕ) → ℕ → Type 0
IsFurtherByAtMost old new most = (n : ℕ) × (n ≤ most) × IsFurther old new n

-- the faults of reading
abbrev pub IsOfReading : StreamFault → Type 0
IsOfReading Memory = Unit {0}
IsOfReading Read = Unit {0}
IsOfReading TooLong = Unit {0}
IsOfReading (Write sent) = ⊥
