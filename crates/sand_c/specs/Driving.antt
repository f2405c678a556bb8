-- What the calls on a driven pile do.
use Rattle.std.specs.Prelude.{ℕ, ◌≡◌, ◌+◌, ◌<◌, ◌⊎◌, slice_index, nat_lt, if◌then◌else◌, ◌==◌, List, [], ◌∷◌, ◌++◌, length, Option, Some, None, Result, Ok, Err}
use Rattle.sand_model.specs.Grid.{sites}
use Rattle.sand_model.specs.Piles.{PileView, height_of, most_grains_on}
use Rattle.sand_settle.specs.Avalanches.{Avalanche}
use Rattle.sand_settle.specs.Settling.{odometer_of}
use Rattle.sand_settle.specs.Drops.{DrivenView, grid_of_driven, topplings_between, IsAfter, HasAvalanche, AreAvalanches}
use Rattle.sand_c.specs.declared.faults.Fault.{Fault}
use Rattle.sand_c.specs.declared.faults.Fault.TheVariants.{Length, Full, NoSite, Empty, Taken}
use Rattle.sand_c.specs.Arguments.{has_length, ◌>>=◌}
use Rattle.sand_c.specs.Dropping.{are_sites}

-- What a call may do

-- the pile, if it takes so many more grains
abbrev pub with_room_for : ℕ → DrivenView → Result DrivenView Fault
with_room_for count v = if nat_lt (most_grains_on (grid_of_driven v)) (v.grains + count) then Err Full else Ok v

-- the pile, if these drops can be made on it, and there is an avalanche for each
abbrev pub drops_on_drive : DrivenView → List ℕ → ℕ → Result DrivenView Fault
drops_on_drive v drops avalanches = has_length (length drops) avalanches
    >>= λ _. (if are_sites (sites (grid_of_driven v)) drops then with_room_for (length drops) v else Err NoSite)

-- the pile, if a grain can be dropped at this site, and there is a count for each site
abbrev pub drop_on_drive : DrivenView → ℕ → ℕ → Result DrivenView Fault
drop_on_drive v site counts = has_length (sites (grid_of_driven v)) counts
    >>= λ _. (if nat_lt site (sites (grid_of_driven v)) then with_room_for 1 v else Err NoSite)

-- the pile, if an array of this length has an entry for each site, or none
abbrev pub with_entries : ℕ → DrivenView → Result DrivenView Fault
with_entries n v = if n == 0 then Ok v else (if n == sites (grid_of_driven v) then Ok v else Err Length)

-- the pile, if it has this site
abbrev pub with_site : ℕ → DrivenView → Result DrivenView Fault
with_site site v = if nat_lt site (sites (grid_of_driven v)) then Ok v else Err NoSite

-- what a handle holds
abbrev pub held_in : {A : Type 0} → Option A → Result A Fault
held_in None = Err Empty
held_in (Some v) = Ok v

-- nothing, if a handle is empty and can be filled
abbrev pub nothing_in : {A : Type 0} → Option A → Result (Unit {0}) Fault
nothing_in None = Ok tt
nothing_in (Some v) = Err Taken

-- the arguments, if the handle is empty
abbrev pub opening_of : Option DrivenView → Result PileView Fault → Result PileView Fault
opening_of held meaning = nothing_in held >>= λ _. meaning

-- the pile in the handle, if these drops can be made on it
abbrev pub driving_of : Option DrivenView → List ℕ → ℕ → Result DrivenView Fault
driving_of held drops avalanches = held_in held >>= λ v. drops_on_drive v drops avalanches

-- the pile in the handle, if this drop can be made on it
abbrev pub avalanche_of : Option DrivenView → ℕ → ℕ → Result DrivenView Fault
avalanche_of held site counts = held_in held >>= λ v. drop_on_drive v site counts

-- the pile, if arrays of these lengths suit it
abbrev pub entries_of : DrivenView → ℕ → ℕ → Result DrivenView Fault
entries_of v heights odometer = with_entries heights v >>= with_entries odometer

-- the pile in the handle, if arrays of these lengths suit it
abbrev pub reading_of : Option DrivenView → ℕ → ℕ → Result DrivenView Fault
reading_of held heights odometer = held_in held >>= λ v. entries_of v heights odometer

-- the pile in the handle, if it has this site
abbrev pub site_of : Option DrivenView → ℕ → Result DrivenView Fault
site_of held site = held_in held >>= with_site site

-- What a call does

-- drops at these sites lead from v to w: these are their avalanches, and w is the result of any start and drops that led
-- to v, followed by these
pub record HaveDriven (v : DrivenView) (drops : List ℕ) (rows : List Avalanche) (w : DrivenView) : Type 0 where
  pub avalanches : AreAvalanches v drops rows w
  pub after : (start : PileView) (history : List ℕ) → IsAfter start history v → IsAfter start (history ++ drops) w

-- a drop at this site leads from v to w: this is its avalanche, and the counts are how often each site topples in it
pub record HasDriven (v : DrivenView) (site : ℕ) (a : Avalanche) (counts : List ℕ) (w : DrivenView) : Type 0 where
  pub drops : HasAvalanche v site a w
  pub after : (start : PileView) (history : List ℕ) → IsAfter start history v → IsAfter start (history ++ site ∷ []) w
  pub len : length counts ≡ sites (grid_of_driven v)
  pub counts_are : (i : ℕ) → i < sites (grid_of_driven v)
      → slice_index counts i ≡ topplings_between v.settled w.settled i

-- the arguments are a pile, and v is that pile settled
pub record IsDriveOf (meaning : Result PileView Fault) (v : DrivenView) : Type 0 where
  pub start : PileView
  pub meant : meaning ≡ Ok start
  pub after : IsAfter start [] v

-- a call leads from what a handle held to what it holds
pub record LeadsTo {A : Type 0} (old : Option A) (Step : A → A → Type 0) (new : Option A) : Type 0 where
  pub before : A
  pub after : A
  pub held : old ≡ Some before
  pub holds : new ≡ Some after
  pub step : Step before after

-- a handle holds something of this kind
pub record Holds {A : Type 0} (held : Option A) (Is : A → Type 0) : Type 0 where
  pub inside : A
  pub holds : held ≡ Some inside
  pub is : Is inside

-- these are the heights and the odometer of a driven pile, unless the array has no entry, its sums, and the number of drops
pub record IsReading (heights odometer : List ℕ) (topplings lost drops : ℕ) (v : DrivenView) : Type 0 where
  pub heights_each : (length heights ≡ 0) ⊎ (length heights ≡ sites (grid_of_driven v))
  pub odometer_each : (length odometer ≡ 0) ⊎ (length odometer ≡ sites (grid_of_driven v))
  pub heights_are : (length heights ≡ 0) ⊎ (heights ≡ v.settled.pile.heights)
  pub odometer_is : (length odometer ≡ 0) ⊎ (odometer ≡ v.settled.odometer)
  pub topplings_are : topplings ≡ v.settled.topplings
  pub lost_is : lost ≡ v.settled.lost
  pub drops_are : drops ≡ v.number

-- these are the height of a site of a driven pile, and how often it has toppled
pub record IsSiteOf (site height topplings : ℕ) (v : DrivenView) : Type 0 where
  pub inside : site < sites (grid_of_driven v)
  pub height_is : height ≡ height_of v.settled.pile site
  pub topplings_are : topplings ≡ odometer_of v.settled site
