-- How often each place of a tile has toppled.
use Rattle.std.specs.Prelude.{ℕ, List, ◌+◌, ◌*◌, ◌<◌, ◌≤◌, slice_index}
use Rattle.sand_tiles.specs.declared.counting.Planes.{Planes}
use Rattle.sand_tiles.specs.declared.counting.Recent.{Recent}
use Rattle.sand_tiles.specs.Places.{bit}

-- the number at a place of ten planes
abbrev pub times : Planes → ℕ → ℕ
times c p = bit c.ones p + 2 * bit c.twos p + 4 * bit c.fours p + 8 * bit c.eights p + 16 * bit c.sixteens p
    + 32 * bit c.thirty_twos p + 64 * bit c.sixty_fours p + 128 * bit c.next p
    + 256 * bit c.upper p + 512 * bit c.tops p

-- the topplings of a tile: of all places at once, and of the others the latest, and all earlier ones
pub record Count : Type 0 where
  pub whole : ℕ
  pub recent : Recent
  pub spilled : List ℕ

-- none of all places at once
abbrev pub count_of : Recent → List ℕ → Count
count_of r s = record { whole = 0; recent = r; spilled = s }

abbrev pub counted : Count → ℕ → ℕ
counted c p = c.whole + slice_index c.spilled p + times c.recent.planes p

-- the planes have room for one more set
pub record IsRecent (r : Recent) : Type 0 where
  pub bound : r.sets ≤ 1022
  pub each : (p : ℕ) → p < 64 → times r.planes p ≤ r.sets

abbrev pub IsCount : Count → Type 0
IsCount c = IsRecent c.recent

-- the latest topplings of a tile that is not in a list
abbrev pub no_recent : Recent
no_recent = record {
  planes = record {
    ones = 0;
    twos = 0;
    fours = 0;
    eights = 0;
    sixteens = 0;
    thirty_twos = 0;
    sixty_fours = 0;
    next = 0;
    upper = 0;
    tops = 0;
  };
  sets = 0;
}
