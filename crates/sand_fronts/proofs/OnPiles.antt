-- The result of a drop on a pile on tiles, as its contracts see it.
use Rattle.sand_fronts.proofs.Common.{ℕ, List, length, ltb, ◌≡◌, ◌+◌, ◌-◌, ◌*◌, ◌<◌, ◌≤◌, refl, sym, ◌∙◌, ap, subst, arith, slice_index, nat_tests, Grid, sites, missing, one_at, one_if, settled_same, sum_below_same, height, counted, Sand, Counts, tile_of, place_of, AreToppled, AreSites, AreAllOpen, HasWaves, heights_on, counted_on, free_of, tiles_of, counts_of, marks_of, grown, IsBoard, IsSand, AreCounts, CountsSites, HasSettled, Spot, IsFirstOfEight, TiledView, IsTiledPile, HasDroppedOnTiles, tiled_view, by_site, toppled_between}
use Rattle.sand_fronts.specs.declared.board.Board.{Board}
use Rattle.sand_fronts.specs.declared.avalanche.Avalanche.{Avalanche}
use Rattle.sand_fronts.specs.Tiling.{on_tiles}
use Rattle.sand_fronts.specs.Avalanches.{IsAvalanche, has_toppled}
use Rattle.sand_fronts.proofs.OnTiles.{height_low, place_below}
use Rattle.sand_fronts.proofs.Eights.{eight_there, first_inside}
use Rattle.sand_fronts.proofs.WaveSizes.{has_same}
use Rattle.sand_fronts.proofs.NewPiles.{by_site_at, by_site_le, by_site_long, by_site_view, few_at_sites}

pub avalanche_same : (g : Grid) (site : ℕ) (u v : ℕ → ℕ) (a : Avalanche)
    → ((j : ℕ) → j < sites g → u j ≡ v j) → IsAvalanche g site u a
    → IsAvalanche g site v a
avalanche_same g site u v a same was = record {
  origin = was.origin;
  size = was.size ∙ sum_below_same (sites g) u v same;
  area = was.area ∙ sum_below_same (sites g) (λ j. one_if (has_toppled u j))
      (λ j. one_if (has_toppled v j)) (λ j l. ap (λ m. one_if (ltb 0 m)) (same j l));
  within = λ j l some. was.within j l (omega (arith, same j l));
  reached = λ far. let one = was.reached far in record {
    at = one.at;
    inside = one.inside;
    topples = omega (arith, same one.at one.inside, one.topples);
    away = one.away;
  };
  all_lost = was.all_lost ∙ sum_below_same (sites g) (λ j. missing g j * u j)
      (λ j. missing g j * v j) (λ j l. ap (λ m. missing g j * m) (same j l));
}

-- the pile after a drop that settled it from the heights h, with counts that may have been written elsewhere since
pub pile_after : {b : Board} {s : Sand} {c d e : Counts} {g : Grid} {h : ℕ → ℕ} → b.shape ≡ g → IsBoard b
    → AreAllOpen g (free_of b) → HasSettled g h s c d → AreCounts g e → CountsSites g e → ((m : ℕ) → marks_of e m ≡ 0)
    → IsTiledPile b s e
pile_after {b} {s} {e = e} same board open' has counts at none = record {
  board = board;
  all_open = subst (λ g. AreAllOpen g (free_of b)) (sym same) open';
  sand = subst (λ g. IsSand g s) (sym same) has.sand;
  quiet = has.quiet;
  counts = subst (λ g. AreCounts g e) (sym same) counts;
  at_sites = subst (λ g. CountsSites g e) (sym same) at;
  unmarked = none;
}

pub sites_toppled : (g : Grid) (v words : ℕ → ℕ) → AreToppled g v words → AreSites g words
unfolding on_tiles
sites_toppled g v words toppled m p low is = let marked = toppled m p low in grind (arith, nat_tests)

pub dropped : {g i : Grid} {site : ℕ} (s : Sand) {t : Sand} {c d : Counts} {v : TiledView} {a : Avalanche}
    → tiled_view g s c ≡ v → i ≡ g → HasSettled g (λ j. heights_on g (tiles_of s) j + one_at site j) t c d
    → IsAvalanche g site (grown g c d) a → HasDroppedOnTiles v site a (tiled_view i t d)
dropped {g} {i} {site} s {t} {c} {d} {v} {a} view shape has is =
    let old = heights_on g (tiles_of s) in let new = heights_on g (tiles_of t) in
    let before = counted_on g (counts_of c) in let after = counted_on g (counts_of d) in
    let moved = toppled_between (tiled_view g s c) (tiled_view g t d) in
    let between : (j : ℕ) → j < sites g → grown g c d j ≡ moved j =
    λ j l. omega (arith, by_site_at g before j l, by_site_at g after j l) in
    subst (λ x. HasDroppedOnTiles x site a (tiled_view i t d)) view
    (subst (λ x. HasDroppedOnTiles (tiled_view g s c) site a (tiled_view x t d)) (sym shape) (record {
      grid = refl;
      by_site = by_site_view g t d;
      never_falls = λ j. by_site_le g before after j
          (λ l. omega (arith, has.counted (tile_of g j) (place_of g j) (place_below g j)));
      settled = settled_same g (λ j. old j + one_at site j) (λ j. slice_index (by_site g old) j + one_at site j)
          (grown g c d) moved new (slice_index (by_site g new)) (λ j l. omega (arith, by_site_at g old j l))
          between (λ j l. sym (by_site_at g new j l)) has.settled;
      avalanche = avalanche_same g site (grown g c d) moved a between is;
    }))

-- the waves of the drop
pub waves_seen : {g i : Grid} {site number : ℕ} (s t : Sand) (c d : Counts) {v : TiledView}
    {before after : List ℕ} → tiled_view g s c ≡ v → i ≡ g → site < sites g
    → HasWaves g site (λ j. heights_on g (tiles_of s) j + one_at site j) (heights_on g (tiles_of t)) number before after
    → HasWaves v.grid site (λ j. slice_index v.heights j + one_at site j) (slice_index (tiled_view i t d).heights)
    number before after
waves_seen {g} {i} {site} {number} s t c d {v} {before} {after} view shape inside has =
    let old = heights_on g (tiles_of s) in let new = heights_on g (tiles_of t) in
    subst (λ (x : TiledView). HasWaves x.grid site (λ j. slice_index x.heights j + one_at site j)
    (slice_index (tiled_view i t d).heights) number before after) view
    (subst (λ x. HasWaves g site (λ j. slice_index (by_site g old) j + one_at site j)
    (slice_index (tiled_view x t d).heights) number before after) (sym shape)
    (has_same inside (λ j l. omega (arith, by_site_at g old j l)) (λ j l. sym (by_site_at g new j l)) has))

pub few_now : (n : ℕ) (g : Grid) (s : Sand) (c : Counts) → 0 < n → CountsSites g c
    → ((j : ℕ) → j < sites g → slice_index (tiled_view g s c).times j < n) → (m p : ℕ) → p < 64
    → counted (counts_of c m) p < n
few_now n g s c some counts few m p low =
    let most = few_at_sites g (counts_of c) (n - 1) counts
    (λ j l. omega (arith, by_site_at g (counted_on g (counts_of c)) j l, few j l)) m p low in
    omega arith

-- ---- reading a site

-- the height and the count at the place of the site in column x and row y
pub site_seen : (g : Grid) (s : Sand) (c : Counts) {v : TiledView} {k p : ℕ} (x y : ℕ) → tiled_view g s c ≡ v
    → y * v.grid.width + x < sites v.grid → k ≡ tile_of g (y * g.width + x) → p ≡ place_of g (y * g.width + x)
    → (height (tiles_of s k) p ≡ slice_index v.heights (y * v.grid.width + x))
    × (counted (counts_of c k) p ≡ slice_index v.times (y * v.grid.width + x))
site_seen g s c {k = k} {p} x y view inside tile place = subst (λ (v : TiledView).
    y * v.grid.width + x < sites v.grid → (height (tiles_of s k) p ≡ slice_index v.heights (y * v.grid.width + x))
    × (counted (counts_of c k) p ≡ slice_index v.times (y * v.grid.width + x))) view
    (λ l.
    let h = by_site_at g (heights_on g (tiles_of s)) (y * g.width + x) l in
    let n = by_site_at g (counted_on g (counts_of c)) (y * g.width + x) l in
    rw (tile, place) (sym h, sym n)) inside

-- the same of eight sites, at the places from that of the first on
pub eight_seen : (g : Grid) (s : Sand) (c : Counts) {v : TiledView} {k p : ℕ} (at : Spot) → tiled_view g s c ≡ v
    → IsFirstOfEight v.grid at → k ≡ tile_of g (at.row * g.width + at.column)
    → p ≡ place_of g (at.row * g.width + at.column) → (i : ℕ) → i < 8 → at.column + i < v.grid.width
    → (height (tiles_of s k) (p + i) ≡ slice_index v.heights (at.row * v.grid.width + (at.column + i)))
    × (counted (counts_of c k) (p + i) ≡ slice_index v.times (at.row * v.grid.width + (at.column + i)))
eight_seen g s c {k = k} {p} at view is tile place i few = subst (λ (v : TiledView).
    IsFirstOfEight v.grid at → at.column + i < v.grid.width
    → (height (tiles_of s k) (p + i) ≡ slice_index v.heights (at.row * v.grid.width + (at.column + i)))
    × (counted (counts_of c k) (p + i) ≡ slice_index v.times (at.row * v.grid.width + (at.column + i)))) view
    (λ first inside.
    let there = eight_there g at i first few inside in
    site_seen g s c (at.column + i) at.row refl (first_inside g at i first inside) (tile ∙ sym there.0)
    (ap (λ q. q + i) place ∙ sym there.1)) is

-- ---- reading all sites

pub heights_seen : (g : Grid) (s : Sand) (c : Counts) {v : TiledView} → tiled_view g s c ≡ v
    → (length v.heights ≡ sites g) × ((j : ℕ) → j < sites g → slice_index v.heights j ≤ 3)
heights_seen g s c view = subst (λ (v : TiledView).
    (length v.heights ≡ sites g) × ((j : ℕ) → j < sites g → slice_index v.heights j ≤ 3)) view (
      by_site_long g (heights_on g (tiles_of s)),
      λ j l.
          let low = height_low (tiles_of s (tile_of g j)) (place_of g j) in
          omega (arith, by_site_at g (heights_on g (tiles_of s)) j l),
    )
