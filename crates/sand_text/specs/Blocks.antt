-- A text that is written in blocks while it is made: what the writer took, and what waits.
use Rattle.std.specs.Prelude.{ℕ, ◌≡◌, ◌+◌, ◌≤◌, List, ◌++◌, length, take, Option}
use Rattle.std.specs.Io.KnownBytes.{Appends}
use Rattle.sand_text.specs.declared.fault.StreamFault.{StreamFault}
use Rattle.sand_text.specs.declared.fault.StreamFault.TheVariants.{Write}

-- the end of a text, which waits, and the number of bytes sent before it
pub record Waiting : Type 0 where
  pub bytes : List ℕ
  pub sent : ℕ

-- the text grew by this part: the writer took the first of the waiting bytes, and the rest waits
pub record GrowsBy (held held' : Option (List ℕ)) (b b' : Waiting) (part : List ℕ) : Type 0 where
  pub gone : List ℕ
  pub all : b.bytes ++ part ≡ gone ++ b'.bytes
  pub count : b'.sent ≡ b.sent + length gone
  pub written : Appends held held' gone

-- the writer failed after a number of bytes of the text, the last of which are this part
pub record BreaksIn (held held' : Option (List ℕ)) (b : Waiting) (part : List ℕ) (fault : StreamFault) : Type 0 where
  pub taken : ℕ
  pub told : fault ≡ Write (b.sent + taken)
  pub within : taken ≤ length (b.bytes ++ part)
  pub written : Appends held held' (take taken (b.bytes ++ part))
