-- The sites of a grid, and which of them are neighbours.
-- Source: Bak, Tang and Wiesenfeld 1987 (open edges). The cylinder joins the west and east ends of each row.
use Rattle.std.specs.Prelude.{ℕ, Bool, true, false, ◌≡◌, ◌+◌, ◌-◌, ◌*◌, ◌/◌, ◌%◌, ◌≤◌, List, [], ◌∷◌, Option, Some, None, Result, Ok, Err, nat_lt, nat_le, if◌then◌else◌, length, ◌&&◌, min}
use Rattle.std.specs.Int.{abs_diff}
use Rattle.std.specs.List.{filter_map}
use Rattle.sand_model.specs.declared.shape.Edge.{Edge}
use Rattle.sand_model.specs.declared.shape.Edge.TheVariants.{Open, Cylinder}
use Rattle.sand_model.specs.declared.faults.ShapeFault.{ShapeFault}
use Rattle.sand_model.specs.declared.faults.ShapeFault.TheVariants.{Side, Narrow}

-- a grid of sites, numbered row by row from the north-west corner
pub record Grid : Type 0 where
  pub width : ℕ
  pub height : ℕ
  pub edge : Edge

-- whether the west and east ends of a row are neighbours
abbrev pub joins : Edge → Bool
joins Open = false
joins Cylinder = true

abbrev pub sites : Grid → ℕ
sites g = g.width * g.height

-- each side is from 1 to 8192, and a cylinder is at least 3 wide
pub record IsGrid (g : Grid) : Type 0 where
  pub some_width : 1 ≤ g.width
  pub width_limit : g.width ≤ 8192
  pub some_height : 1 ≤ g.height
  pub height_limit : g.height ≤ 8192
  pub wide : joins g.edge ≡ true → 3 ≤ g.width

-- a side of at least 1 and at most a limit
abbrev pub is_side_up_to : ℕ → ℕ → Bool
is_side_up_to limit n = nat_le 1 n && nat_le n limit

abbrev pub is_side : ℕ → Bool
is_side n = is_side_up_to 256 n

-- the grid with these sides, at most the limit, and this edge, or the error for an invalid one
abbrev pub grid_up_to : ℕ → ℕ → ℕ → Edge → Result Grid ShapeFault
grid_up_to limit w h edge =
    if is_side_up_to limit w && is_side_up_to limit h then
    (if joins edge && nat_lt w 3 then Err Narrow
    else Ok (record { width = w; height = h; edge = edge }))
    else Err Side

-- the grid with these sides, at most 256, as in texts
abbrev pub grid_with_edge : ℕ → ℕ → Edge → Result Grid ShapeFault
grid_with_edge w h edge = grid_up_to 256 w h edge

-- the grid with these sides, at most 8192
abbrev pub large_grid : ℕ → ℕ → Edge → Result Grid ShapeFault
large_grid w h edge = grid_up_to 8192 w h edge

abbrev pub column : Grid → ℕ → ℕ
column g i = i % g.width

abbrev pub row : Grid → ℕ → ℕ
row g i = i / g.width

abbrev pub site_at : Grid → ℕ → ℕ → Option ℕ
site_at g x y = if nat_lt x g.width && nat_lt y g.height then Some (y * g.width + x) else None

-- the site in column width / 2 and row height / 2
abbrev pub middle : Grid → ℕ
middle g = (g.height / 2) * g.width + g.width / 2

-- the places around a site, if they are in the grid; no subtraction goes below 0: there is a row to the north, a site
-- to the west, or the rest of the row
unfoldable pub north : Grid → ℕ → Option ℕ
north g i = if nat_lt 0 (row g i) then Some (i - g.width) else None

unfoldable pub west : Grid → ℕ → Option ℕ
west g i = if nat_lt 0 (column g i) then Some (i - 1) else (if joins g.edge then Some (i + (g.width - 1)) else None)

unfoldable pub east : Grid → ℕ → Option ℕ
east g i =
    if nat_lt (column g i + 1) g.width then Some (i + 1) else (if joins g.edge then Some (i - (g.width - 1)) else None)

unfoldable pub south : Grid → ℕ → Option ℕ
south g i = if nat_lt (row g i + 1) g.height then Some (i + g.width) else None

abbrev pub places : Grid → ℕ → List (Option ℕ)
places g i = north g i ∷ west g i ∷ east g i ∷ south g i ∷ []

-- whether a site is in neither the first nor the last row or column
abbrev pub is_inner : Grid → ℕ → Bool
is_inner g i =
    nat_lt 0 (row g i) && nat_lt (row g i + 1) g.height && nat_lt 0 (column g i) && nat_lt (column g i + 1) g.width

-- the neighbours of a site: those of its places that are in the grid
unfoldable pub neighbours : Grid → ℕ → List ℕ
neighbours g i = filter_map (λ p. p) (places g i)

-- how many of a site's places are outside the grid, in the sink; there are at most 4 neighbours
unfoldable pub missing : Grid → ℕ → ℕ
missing g i = 4 - length (neighbours g i)

-- the number of columns between two sites, the shorter way around on a cylinder
abbrev pub columns_apart : Grid → ℕ → ℕ → ℕ
columns_apart g i j =
    let across = abs_diff (column g i) (column g j) in
    if joins g.edge then min across (g.width - across) else across

-- |dx| + |dy| between two sites
unfoldable pub distance : Grid → ℕ → ℕ → ℕ
distance g i j = columns_apart g i j + abs_diff (row g i) (row g j)
