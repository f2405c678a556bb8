-- A tile of 8 by 8 places, numbered row by row from the north-west corner, one bit of a word for each place.
-- Source: waves of topplings (Ivashkevich, Ktitarev and Priezzhev 1994), in which each site topples at most once. Tiles
-- are this project's own.
use Rattle.std.specs.Prelude.{ℕ, ◌≡◌, ◌+◌, ◌-◌, ◌*◌, ◌%◌, ◌<◌, ◌≤◌, max, if◌then◌else◌, nat_lt, ◌==◌}
use Rattle.std.specs.Int.{bit_at}
use Rattle.sand_tiles.specs.declared.tile.Tile.{Tile}

-- 1 if a place is in the set of a word, and otherwise 0
unfoldable pub bit : ℕ → ℕ → ℕ
bit word p = bit_at word p

-- the number of grains at a place
abbrev pub height : Tile → ℕ → ℕ
height t p = bit t.low p + 2 * bit t.high p

-- the height, and 4 more if the place is due: 0 to 7
abbrev pub number : Tile → ℕ → ℕ
number t p = height t p + 4 * bit t.due p

-- f at the neighbour of a place, and 0 if that is outside the tile
unfoldable pub north : (ℕ → ℕ) → ℕ → ℕ
north f p = if nat_lt p 8 then 0 else f (p - 8)

unfoldable pub south : (ℕ → ℕ) → ℕ → ℕ
south f p = if nat_lt p 56 then f (p + 8) else 0

unfoldable pub west : (ℕ → ℕ) → ℕ → ℕ
west f p = if p % 8 == 0 then 0 else f (p - 1)

unfoldable pub east : (ℕ → ℕ) → ℕ → ℕ
east f p = if p % 8 == 7 then 0 else f (p + 1)

-- the sum of f over the neighbours of a place that are inside the tile
abbrev pub around : (ℕ → ℕ) → ℕ → ℕ
around f p = north f p + south f p + west f p + east f p

-- the places that may topple and have not yet
abbrev pub unused : ℕ → ℕ → ℕ → ℕ → ℕ
unused free start set q = max (bit free q) (bit start q) - bit set q

-- the grains that a place has had since the wave began: its height, 4 if it has toppled, and 4 if it is due
abbrev pub had : Tile → ℕ → ℕ
had t p = height t p + 4 * (bit t.wave p + bit t.due p)

-- a tile gets a grain at each place of the set `gain`; a place that reaches 4 has 0, and is due if it is free
pub record Receives (t u : Tile) (gain free : ℕ) : Type 0 where
  pub wave : u.wave ≡ t.wave
  pub due_grows : 0 < t.due → 0 < u.due
  pub due_free : (p : ℕ) → p < 64 → bit t.due p ≤ bit free p → bit u.due p ≤ bit free p
  pub each : (p : ℕ) → p < 64 → bit free p ≡ 1 → had t p + bit gain p ≤ 7 → had u p ≡ had t p + bit gain p
  pub modulo : (p : ℕ) → p < 64 → height u p ≡ (height t p + bit gain p) % 4

-- even if each other place of the tile toppled, no free place would have had 8 grains; places that start have not
-- toppled, and are not free
pub record IsReady (t : Tile) (free start : ℕ) : Type 0 where
  pub low : (p : ℕ) → p < 64 → bit free p ≡ 1 → had t p + around (unused free start t.wave) p ≤ 7
  pub held : (p : ℕ) → p < 64 → bit start p ≡ 1 → (bit free p ≡ 0) × (bit t.wave p ≡ 0)

-- w topples each place that starts, and leaves at most 3 at each free place
pub record Calms (t : Tile) (free start : ℕ) (w : ℕ → ℕ) : Type 0 where
  pub start_in : (p : ℕ) → p < 64 → bit start p ≤ w p
  pub at_most_three : (p : ℕ) → p < 64 → bit free p ≡ 1 → had t p + around w p ≤ 4 * (bit t.wave p + w p) + 3

-- the places that have toppled since the tile was t
abbrev pub since : Tile → Tile → ℕ → ℕ
since t u p = bit u.wave p - bit t.wave p

-- a visit that began with the tile t has come to the tile u, of which each place that is due topples next
pub record IsVisit (t u : Tile) (free start : ℕ) : Type 0 where
  pub kept : (p : ℕ) → p < 64 → bit t.wave p ≤ bit u.wave p
  pub at_open : (p : ℕ) → p < 64 → bit free p ≡ 1 → had u p ≡ had t p + around (since t u) p
  pub at_held : (p : ℕ) → p < 64 → bit free p ≡ 0 → bit u.wave p + bit u.due p ≡ bit t.wave p + bit start p
  pub modulo : (p : ℕ) → p < 64 → height u p ≡ (height t p + around (since t u) p) % 4
  pub least : (w : ℕ → ℕ) → Calms t free start w → (p : ℕ) → p < 64
      → bit u.wave p + bit u.due p ≤ bit t.wave p + w p

-- a visit topples the places that start, the free places that are due, and those that this brings to 4; none is due in
-- the end
pub record Visits (t u : Tile) (free start new : ℕ) : Type 0 where
  pub once : (p : ℕ) → p < 64 → bit u.wave p ≡ bit t.wave p + bit new p
  pub none_due : u.due ≡ 0
  pub at_open : (p : ℕ) → p < 64 → bit free p ≡ 1 → had u p ≡ had t p + around (bit new) p
  pub at_held : (p : ℕ) → p < 64 → bit free p ≡ 0 → bit new p ≡ bit start p
  pub modulo : (p : ℕ) → p < 64 → height u p ≡ (height t p + around (bit new) p) % 4
  pub least : (w : ℕ → ℕ) → Calms t free start w → (p : ℕ) → p < 64 → bit new p ≤ w p
