-- The open pile, as plain data: a pile on which passes drop and topple concurrently, and when it is lawful.
-- Source: this project's own. Balance and stabilising are those of Dhar 1990 and of chip-firing, in `sand_model`.
use Rattle.std.specs.Prelude.{ℕ, Bool, true, ◌≡◌, ◌+◌, ◌-◌, ◌<◌, ◌≤◌, ◌==◌, ◌&&◌, nat_lt, nat_le, if◌then◌else◌, Some, List, [], All, length, sum, sum_by, count_by, slice_get, slice_index, slice_index_or}
use Rattle.sand_model.specs.Grid.{Grid, sites}
use Rattle.sand_model.specs.Sand.{occurrences, flow, IsToppled, Stabilises}
use Rattle.sand_model.specs.Lists.{one_if}
use Rattle.sand_model.specs.Piles.{IsPile, height_of, most_grains, most_grains_on}
use Rattle.sand_shared.specs.declared.view.Receipt.{Receipt}
use Rattle.sand_shared.specs.declared.view.Grains.{Grains}
use Rattle.sand_shared.specs.declared.view.View.{View}
use Rattle.sand_shared.specs.declared.view.Terms.{Terms}

-- the heights by site, the sites of the drops by number, and what each pass has
pub record OpenPile : Type 0 where
  pub height : ℕ → ℕ
  pub drawn : List ℕ
  pub passes : List View

abbrev pub grid_of_terms : Terms → Grid
grid_of_terms t = t.start.grid

-- a start and a quota, which together stay within the limit
pub record AreTerms (t : Terms) : Type 0 where
  pub pile : IsPile t.start
  pub limit : sum t.start.heights + t.quota ≤ most_grains_on t.start.grid

-- What a pass has

-- a pass with nothing
abbrev pub nobody : View
nobody = record { left = 0; seen = 0; receipts = []; hand = []; base = 0; counts = []; spot = 0; least = 0 }

-- k at the site i, and 0 elsewhere
abbrev pub amount_at : ℕ → ℕ → ℕ → ℕ
amount_at i k j = if i == j then k else 0

-- how many grains in hand are for a site
abbrev pub held : List Grains → ℕ → ℕ
held hand j = sum_by (λ g. amount_at g.site g.amount j) hand

-- how many receipts are for the site j
abbrev pub receipts_for : List Receipt → ℕ → ℕ
receipts_for receipts j = count_by (λ r. r.site == j) receipts

-- how many receipts have the number n
abbrev pub numbered : List Receipt → ℕ → ℕ
numbered receipts n = count_by (λ r. r.number == n) receipts

-- the site is in the rows of the pass
abbrev pub holds_site : View → ℕ → Bool
holds_site v i = nat_le v.base i && nat_lt i (v.base + length v.counts)

-- how often a pass has toppled a site, 0 outside its rows
abbrev pub toppled_by : View → ℕ → ℕ
toppled_by v i = if nat_le v.base i then slice_index v.counts (i - v.base) else 0

-- What all passes have

-- the pass with index a, or one with nothing
abbrev pub pass_at : OpenPile → ℕ → View
pass_at p a = slice_index_or p.passes a nobody

-- the sum of f over all passes
abbrev pub in_all : (View → ℕ) → OpenPile → ℕ
in_all f p = sum_by f p.passes

-- how often each site has toppled
abbrev pub toppled : OpenPile → ℕ → ℕ
toppled p i = in_all (λ v. toppled_by v i) p

-- the grains on a site and those in hand for it
abbrev pub present : OpenPile → ℕ → ℕ
present p i = p.height i + in_all (λ v. held v.hand i) p

-- the start and all drawn grains
abbrev pub start_and_drawn : Terms → OpenPile → ℕ → ℕ
start_and_drawn t p i = height_of t.start i + occurrences p.drawn i

-- A pass has seen no more drops than have begun, its receipts have the right sites and numbers, its grains in hand come
-- from its receipts and from its topplings next to their site, and the site at which it looked has at least as many
-- grains as it found.
pub record IsLawfulPass (t : Terms) (p : OpenPile) (v : View) : Type 0 where
  pub seen : v.seen ≤ length p.drawn
  pub receipts : All (λ r. slice_get p.drawn r.number ≡ Some r.site) v.receipts
  pub hand : (i : ℕ) → i < sites (grid_of_terms t)
      → held v.hand i ≤ receipts_for v.receipts i + flow (grid_of_terms t) (toppled_by v) i
  pub least : holds_site v v.spot ≡ true → v.spot < sites (grid_of_terms t) → v.least ≤ p.height v.spot

pub record IsLawful (t : Terms) (p : OpenPile) : Type 0 where
  -- no grain vanishes or is doubled
  pub balance : IsToppled (grid_of_terms t) (start_and_drawn t p) (toppled p) (present p)
  -- no site has toppled more often than in any w that stabilises the start and all drawn grains
  pub needed : (w : ℕ → ℕ) → Stabilises (grid_of_terms t) (start_and_drawn t p) w
      → (i : ℕ) → i < sites (grid_of_terms t)
      → toppled p i ≤ w i
  -- the receipts have the numbers 0 to n - 1, each once, and each site has as many receipts as draws
  pub numbers : (n : ℕ) → in_all (λ v. numbered v.receipts n) p ≡ one_if (nat_lt n (length p.drawn))
  pub receipts : in_all (λ v. length v.receipts) p ≡ length p.drawn
  pub receipts_by_site : (i : ℕ) → in_all (λ v. receipts_for v.receipts i) p ≡ occurrences p.drawn i
  pub all_sites : All (λ i. i < sites (grid_of_terms t)) p.drawn
  -- what is not drawn is left to the passes
  pub quota : in_all (λ v. v.left) p + length p.drawn ≡ t.quota
  -- each site, and so each row, has one holder
  pub holders : (i : ℕ) → i < sites (grid_of_terms t) → count_by (λ v. holds_site v i) p.passes ≡ 1
  pub passes : All (IsLawfulPass t p) p.passes
