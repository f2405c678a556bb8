-- What the plays of the table pick and tell.
use Rattle.std.specs.Prelude.{ℕ, ◌≡◌, List, [], ◌∷◌}
use Rattle.atomic_table.specs.Table.{Me}
use Rattle.sand_model.specs.declared.shape.Edge.TheVariants.{Open}
use Rattle.sand_shared.specs.declared.view.View.{View}
use Rattle.sand_shared.specs.declared.view.Terms.{Terms}
use Rattle.sand_shared.specs.Events.{Event, split}
use Rattle.sand_shared.specs.Running.{Happened}

-- what a step of these events tells the pass that takes it
abbrev pub Takes : Terms → ℕ → List Event → Me ℕ View → ℕ → Me ℕ View → Type 0
Takes t a es v n w = Happened t a es v.0 n w.0 × (w.1 ≡ v.1)

-- the quota and the number of sites that a split gives away
abbrev pub quota_given : List Event → ℕ
quota_given (split a q n ∷ es) = q
quota_given _ = 0

abbrev pub sites_given : List Event → ℕ
sites_given (split a q n ∷ es) = n
sites_given _ = 0

-- placeholder terms, if nothing is picked
abbrev pub no_terms : Terms
no_terms = record { start = record { grid = record { width = 0; height = 0; edge = Open }; heights = [] }; quota = 0 }
