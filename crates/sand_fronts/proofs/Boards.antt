-- The neighbours of the tile of a site are on the board.
use Rattle.sand_fronts.proofs.Common.{ℕ, Bool, true, false, cond, eqb, ◌&&◌, ◌≡◌, ◌+◌, ◌-◌, ◌*◌, ◌/◌, ◌%◌, ◌<◌, ◌≤◌, List, length, sym, ◌∙◌, ap, arith, refl, with_item, length-set, mul-add-lt, div_below, Grid, IsGrid, sites, joins, Tile, Beside, Sand, across, down, pitch, tiles, place_of, seam_west, seam_east, IsBoard, IsSand, open_beside, IsBeside, AreBeside, beside_at}
use Rattle.sand_model.specs.declared.shape.Edge.TheVariants.{Open}
use Rattle.sand_fronts.specs.declared.board.Board.{Board}
use Rattle.sand_fronts.specs.Tiling.{tile_of, to_west, to_east, shift_west, shift_east}
use Rattle.sand_fronts.proofs.NeighboursOnTiles.{parts_of, site_at}

-- the tile of a site is not in the last row of tiles
pub row_after : (g : Grid) (j : ℕ) → j < sites g → tile_of g j + pitch g < tiles g
unfolding tile_of
row_after g j inside =
    let w = g.width in
    let at = parts_of g j inside in
    let row : j / w < g.height = div_below j w g.height at.some (omega arith) in
    let fits = mul-add-lt (j / w / 8 + 2) (pitch g) (j % w / 8 + 1) (down g + 2) (omega arith) (omega arith) in
    omega arith

-- nor in the first
row_before : (g : Grid) (j : ℕ) → pitch g ≤ tile_of g j
unfolding tile_of
row_before g j = omega arith

pub tile_inside : (g : Grid) (j : ℕ) → j < sites g → tile_of g j < tiles g
tile_inside g j inside = let r = row_after g j inside in omega arith

either_below : (b : Bool) (x y n : ℕ) → x < n → y < n → cond b x y < n
either_below true x y n a b = a
either_below false x y n a b = b

west_below : (g : Grid) (k n : ℕ) → k + pitch g < n → to_west g k < n
unfolding to_west
west_below g k n less = either_below (seam_west g k) (k + (across g - 1)) (k - 1) n (omega arith) (omega arith)

east_below : (g : Grid) (k n : ℕ) → k + pitch g < n → to_east g k < n
unfolding to_east
east_below g k n less = either_below (seam_east g k) (k - (across g - 1)) (k + 1) n (omega arith) (omega arith)

west_shift_below : (g : Grid) (k : ℕ) → shift_west g k < 8
unfolding shift_west
west_shift_below g k = either_below (seam_west g k) ((g.width - 1) % 8) 7 8 (omega arith) (omega arith)

east_shift_below : (g : Grid) (k : ℕ) → shift_east g k < 8
unfolding shift_east
east_shift_below g k = either_below (seam_east g k) ((g.width - 1) % 8) 7 8 (omega arith) (omega arith)

pub board_of : (g : Grid) (all : List Beside) → IsGrid g → length all ≡ tiles g
    → tiles g ≤ 2097152 → ((k : ℕ) → k < tiles g → IsBeside g k (beside_at all k))
    → AreBeside g all
board_of g all sides one_each small each =
    record {
      sides = sides;
      fits = small;
      len = one_each;
      each = λ j l.
          let k = tile_of g j in
          let r = row_after g j l in
          let here : k < tiles g = omega arith in
          let e = each k here in
          record {
            inside = here;
            below = row_before g j;
            each = e;
            on_board = record {
              north = let n = e.north in omega arith;
              south = let s = e.south in omega arith;
              west = let w = west_below g k (tiles g) r in let s = e.west in omega arith;
              east = let w = east_below g k (tiles g) r in let s = e.east in omega arith;
              west_shift = let w = west_shift_below g k in let s = e.west_shift in omega arith;
              east_shift = let w = east_shift_below g k in let s = e.east_shift in omega arith;
            };
          };
    }

pub found_at : (g : Grid) (y x row : ℕ) → x < g.width → row ≡ pitch g
    → ((y / 8 + 2) * row + (x / 8 + 1) ≡ tile_of g (y * g.width + x))
    × (y % 8 * 8 + x % 8 ≡ place_of g (y * g.width + x))
found_at g y x row less er =
    let s = site_at g (y * g.width + x) y x less refl in
    (ap (λ t. (y / 8 + 2) * t + (x / 8 + 1)) er ∙ sym s.0, sym s.1)

-- the column and the row of a site
pub site_parts : (g : Grid) (j : ℕ) (q : ℕ × ℕ) → j < sites g → q ≡ (j % g.width, j / g.width)
    → (q.0 < g.width) × (q.1 * g.width + q.0 ≡ j)
site_parts g j q inside is =
    let at = parts_of g j inside in
    let x = ap (λ (q : ℕ × ℕ). q.0) is in
    (omega arith, ap (λ (q : ℕ × ℕ). q.1 * g.width + q.0) is ∙ sym at.is)

-- ---- one entry of a list is written

pub board_with : (b : Board) (k word : ℕ) → IsBoard b → IsBoard (record b { free = with_item b.free k word })
board_with b k word was = record {
  free_each = length-set {A = ℕ} b.free.items k word ∙ was.free_each;
  beside = was.beside;
  outside_each = was.outside_each;
  outside = was.outside;
  lossless_each = was.lossless_each;
  lossless = was.lossless;
}

pub sand_with : (g : Grid) (s : Sand) (k : ℕ) (t : Tile) → IsSand g s
    → IsSand g (record s { tiles = with_item s.tiles k t })
sand_with g s k t was = record {
  len = length-set {A = Tile} s.tiles.items k t ∙ was.len;
  room = was.room;
}

-- on a grid with open edges the four tiles are known without a table
pub beside_open : (g : Grid) (k : ℕ) (b : Beside) → g.edge ≡ Open → IsBeside g k b → open_beside (pitch g) k ≡ b
unfolding to_west to_east shift_west shift_east
beside_open g k b edge is =
    let seam = ap joins edge in
    let west = is.west ∙ ap (λ j. cond (j && eqb (k % pitch g) 1) (k + (across g - 1)) (k - 1)) seam in
    let east = is.east ∙ ap (λ j. cond (j && eqb (k % pitch g) (across g)) (k - (across g - 1)) (k + 1)) seam in
    let west_shift = is.west_shift ∙ ap (λ j. cond (j && eqb (k % pitch g) 1) ((g.width - 1) % 8) 7) seam in
    let east_shift = is.east_shift ∙ ap (λ j. cond (j && eqb (k % pitch g) (across g)) ((g.width - 1) % 8) 7) seam in
    let with : ℕ → ℕ → Beside =
    λ x y. record { north = b.north; south = b.south; west = b.west; east = b.east; west_shift = x; east_shift = y } in
    rw (← is.north, ← is.south, ← west, ← east) (ap (λ x. with x 7) (sym west_shift) ∙ ap (with b.west_shift) (sym east_shift))
