-- The sites of a grid on tiles of 8 by 8 places, in a border of tiles: one at each end of a row, and two rows above and
-- below. Source: this project's own.
use Rattle.std.specs.Prelude.{ℕ, Bool, ◌+◌, ◌-◌, ◌*◌, ◌/◌, ◌%◌, if◌then◌else◌, nat_lt, nat_le, ◌==◌, ◌&&◌}
use Rattle.sand_model.specs.Grid.{Grid, joins, row, column}
use Rattle.sand_tiles.specs.Places.{around}

-- the number of tiles with sites in a row, and of all tiles in a row
abbrev pub across : Grid → ℕ
across g = (g.width + 7) / 8

abbrev pub pitch : Grid → ℕ
pitch g = across g + 2

-- the number of tiles with sites in a column, and of all tiles
abbrev pub down : Grid → ℕ
down g = (g.height + 7) / 8

abbrev pub tiles : Grid → ℕ
tiles g = (down g + 4) * pitch g

unfoldable pub tile_of : Grid → ℕ → ℕ
tile_of g j = (row g j / 8 + 2) * pitch g + (column g j / 8 + 1)

unfoldable pub place_of : Grid → ℕ → ℕ
place_of g j = row g j % 8 * 8 + column g j % 8

-- f at a place's neighbour in the tile to one side, and 0 if the neighbour is not there; `shift` is the last column of
-- the tile to the west
unfoldable pub over_north : (ℕ → ℕ) → ℕ → ℕ
over_north f p = if nat_lt p 8 then f (p + 56) else 0

unfoldable pub over_south : (ℕ → ℕ) → ℕ → ℕ
over_south f p = if nat_lt p 56 then 0 else f (p - 56)

unfoldable pub over_west : ℕ → (ℕ → ℕ) → ℕ → ℕ
over_west shift f p = if p % 8 == 0 then f (p + shift) else 0

unfoldable pub over_east : ℕ → (ℕ → ℕ) → ℕ → ℕ
over_east shift f p = if p % 8 == shift then f (p - shift) else 0

-- the tiles to the west and east, across the seam on a cylinder, and the last column of the western one of the two
abbrev pub seam_west : Grid → ℕ → Bool
seam_west g k = joins g.edge && (k % pitch g == 1)

abbrev pub seam_east : Grid → ℕ → Bool
seam_east g k = joins g.edge && (k % pitch g == across g)

unfoldable pub to_west : Grid → ℕ → ℕ
to_west g k = if seam_west g k then k + (across g - 1) else k - 1

unfoldable pub to_east : Grid → ℕ → ℕ
to_east g k = if seam_east g k then k - (across g - 1) else k + 1

unfoldable pub shift_west : Grid → ℕ → ℕ
shift_west g k = if seam_west g k then (g.width - 1) % 8 else 7

unfoldable pub shift_east : Grid → ℕ → ℕ
shift_east g k = if seam_east g k then (g.width - 1) % 8 else 7

-- the sum of u over the four neighbours of a place
abbrev pub tile_flow : Grid → (ℕ → ℕ → ℕ) → ℕ → ℕ → ℕ
tile_flow g u k p = around (u k) p + over_north (u (k - pitch g)) p + over_south (u (k + pitch g)) p
    + over_west (shift_west g k) (u (to_west g k)) p + over_east (shift_east g k) (u (to_east g k)) p

-- the row and column of a place, whether it is a site, and which
abbrev pub row_at : Grid → ℕ → ℕ → ℕ
row_at g k p = (k / pitch g - 2) * 8 + p / 8

abbrev pub column_at : Grid → ℕ → ℕ → ℕ
column_at g k p = (k % pitch g - 1) * 8 + p % 8

unfoldable pub is_site : Grid → ℕ → ℕ → Bool
is_site g k p = (nat_le 2 (k / pitch g) && nat_le 1 (k % pitch g))
    && (nat_lt (row_at g k p) g.height && nat_lt (column_at g k p) g.width)

unfoldable pub site_on : Grid → ℕ → ℕ → ℕ
site_on g k p = row_at g k p * g.width + column_at g k p

-- v by tile and place, and 0 at each place that is no site
unfoldable pub on_tiles : Grid → (ℕ → ℕ) → ℕ → ℕ → ℕ
on_tiles g v k p = if is_site g k p then v (site_on g k p) else 0
