-- Why a certificate is a proof, over all grids and all piles.
use Rattle.std.specs.Prelude.{ℕ, ◌≤◌, List, slice_index}
use Rattle.sand_model.specs.Grid.{Grid, sites}
use Rattle.sand_model.specs.Sand.{IsToppled, IsSettled}
use Rattle.sand_model.specs.Forbidden.{IsTight}
use Rattle.sand_certify.specs.Certificate.{ToppledSitesBurn, IsShownEverywhere, IsCertificate}

-- if each site that has toppled burns at its turn, no set of such sites is forbidden
abbrev pub TightIfBurning : Type 0
TightIfBurning = (g : Grid) (t u turn : ℕ → ℕ) → ToppledSitesBurn g t u turn → IsTight g t u

-- a certificate shows that the counts are the odometer
abbrev pub SettledIfShown : Type 0
SettledIfShown = (g : Grid) (s t : ℕ → ℕ) (counts turns : List ℕ) → IsCertificate g s counts turns
    → IsToppled g s (slice_index counts) t → IsSettled g s (slice_index counts) t

-- each odometer has turns that show it, none above the number of sites
abbrev pub EachOdometerIsShown : Type 0
EachOdometerIsShown = (g : Grid) (s u t : ℕ → ℕ) → IsSettled g s u t
    → (turn : ℕ → ℕ) × ((i : ℕ) → turn i ≤ sites g) × IsShownEverywhere g s u turn
