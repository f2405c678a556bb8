-- What `sandpile_drive_waves` does.
use Rattle.std.specs.Prelude.{ℕ, ◌≡◌, ◌+◌, ◌*◌, ◌≤◌, nat_lt, if◌then◌else◌, List, [], ◌∷◌, length, take, drop, Option, Result, Err}
use Rattle.std.specs.List.{flat_map}
use Rattle.sand_model.specs.Sand.{one_at}
use Rattle.sand_model.specs.Piles.{height_of}
use Rattle.sand_model.specs.Edges.{most_to_edge}
use Rattle.sand_settle.specs.Avalanches.{Avalanche, WavesLead}
use Rattle.sand_settle.specs.Drops.{DrivenView, grid_of_driven, Drops, DropsWith}
use Rattle.sand_c.specs.declared.faults.Fault.{Fault}
use Rattle.sand_c.specs.declared.faults.Fault.TheVariants.{Length}
use Rattle.sand_c.specs.declared.waves.SandpileWave.{SandpileWave}
use Rattle.sand_c.specs.Arguments.{◌>>=◌}
use Rattle.sand_c.specs.Driving.{HaveDriven, held_in, drops_on_drive}

-- the pile, if these drops can be made on it, and there is an avalanche for each, and room for all waves that they may have
abbrev pub waves_on_drive : DrivenView → List ℕ → ℕ → ℕ → Result DrivenView Fault
waves_on_drive v drops avalanches room =
    if nat_lt room (length drops * most_to_edge (grid_of_driven v)) then Err Length else drops_on_drive v drops avalanches

-- the pile in the handle, if these drops can be made on it
abbrev pub waves_of : Option DrivenView → List ℕ → ℕ → ℕ → Result DrivenView Fault
waves_of held drops avalanches room = held_in held >>= λ v. waves_on_drive v drops avalanches room

-- waves of these sizes, of one drop, which is number n, from its wave k on
abbrev pub waves_from : ℕ → ℕ → List ℕ → List SandpileWave
waves_from n k [] = []
waves_from n k (size ∷ sizes) = record { number = n; wave = k; size = size } ∷ waves_from n (k + 1) sizes

-- a drop at a site leads from v to w, and these are its waves, in order
pub record AreWavesOf (v : DrivenView) (site : ℕ) (waves : List SandpileWave) (w : DrivenView) : Type 0 where
  pub drops : Drops v site w
  pub sizes : List ℕ
  pub lead : WavesLead (grid_of_driven v) site (λ j. height_of v.settled.pile j + one_at site j) sizes
      (height_of w.settled.pile)
  pub waves_are : waves ≡ waves_from v.number 0 sizes

-- drops at these sites lead from v to w, and the list has the waves of each, one drop after another
pub record AreWaves (v : DrivenView) (drops : List ℕ) (waves : List SandpileWave) (w : DrivenView) : Type 0 where
  pub each : List (List SandpileWave)
  pub dropped : DropsWith AreWavesOf v drops each w
  pub waves_are : waves ≡ flat_map (λ (those : List SandpileWave). those) each

-- what `HaveDriven` says, and a list begins with the waves of the drops, so many; the rest of it stays
pub record HaveDrivenInWaves (v : DrivenView) (drops : List ℕ) (avalanches : List Avalanche)
    (before after : List SandpileWave) (count : ℕ) (w : DrivenView) : Type 0 where
  pub driven : HaveDriven v drops avalanches w
  pub waves : AreWaves v drops (take count after) w
  pub fit : count ≤ length after
  pub rest : drop count after ≡ drop count before
  pub len : length after ≡ length before
