-- What the j-th pile in the arguments settles to.
use Rattle.sand_c.proofs.Common.{◌≡◌, ◌*◌, ◌<◌, ◌≤◌, ℕ, Bool, true, false, List, length, refl, ap, Ok, Err, if◌then◌else◌, sum, slice_chunk, eq-eqb, le-ltb, Grid, sites, most_grains_on, edge_of, grid_of, shaped, settling_of, are_within, IsSettlingAt, AreRecords}
use Rattle.sand_model.specs.declared.shape.Edge.{Edge}
use Rattle.sand_model.specs.declared.faults.ShapeFault.TheVariants.{Side, Narrow}
use Rattle.sand_c.specs.declared.arguments.Sides.{Sides}
use Rattle.sand_c.specs.declared.settling.SettledPiles.{SettledPiles}
use Rattle.sand_c.proofs.Chunks.{has_n, each_within}

-- a grid has the sides that it was made of
sides_kept : (some narrow : Bool) (w h : ℕ) (e : Edge) (g : Grid)
    → shaped (if some then (if narrow then Err Narrow else Ok (record { width = w; height = h; edge = e })) else Err Side)
    ≡ Ok g → w * h ≡ sites g
sides_kept true true w h e g is = absurd (cc)
sides_kept true false w h e g is =
    let same : record { width = w; height = h; edge = e } ≡ g = cc in
    ap sites same
sides_kept false narrow w h e g is = absurd (cc)

sites_are : (s : Sides) (g : Grid) → grid_of s ≡ Ok g → s.width * s.height ≡ sites g
sites_are s g is = sides_kept _ _ s.width s.height (edge_of s.cylinder) g is

-- heights and places that suit a grid are a pile on it
is_meant : (s : Sides) (g : Grid) (heights places : List ℕ) → grid_of s ≡ Ok g
    → length heights ≡ sites g → length places ≡ sites g → sum heights ≤ most_grains_on g
    → settling_of s heights places ≡ Ok (record { grid = g; heights = heights })
is_meant s g heights places grid each place few =
    rw (
      grid,
      eq-eqb (length heights) (sites g) each,
      eq-eqb (length places) (sites g) place,
      le-ltb (most_grains_on g) (sum heights) few,
    ) refl

pub settled_at : (s : Sides) (g : Grid) (heights places : List ℕ) (k : ℕ) (all : SettledPiles)
    → grid_of s ≡ Ok g → length heights ≡ k * sites g → length places ≡ k * sites g
    → are_within (most_grains_on g) (sites g) heights k ≡ true → AreRecords g heights k all → (j : ℕ) → j < k
    → IsSettlingAt j s heights places all.heights.items all.odometer.items all.lost.items all.topplings.items
settled_at s g heights places k all grid each place within are j lt =
    let n = sites g in
    rw (sites_are s g grid) (record {
      start = record { grid = g; heights = slice_chunk heights n j };
      meant = is_meant s g (slice_chunk heights n j) (slice_chunk places n j) grid
          (has_n n j k heights each lt) (has_n n j k places place lt) (each_within (most_grains_on g) n heights k within j lt);
      settled = are.records j lt;
    })
