-- What the burning test returns.
use Rattle.std.specs.Prelude.{ℕ}
use Rattle.sand_group.specs.declared.burning.Burned.{Burned}
use Rattle.sand_group.specs.declared.burning.Burned.TheVariants.{Recurrent, Forbidden}
use Rattle.sand_model.specs.Grid.{Grid}
use Rattle.sand_group.specs.Recurrence.{IsRecurrent, IsBurningOrder, IsGreatestForbidden}

-- a recurrent pile comes with a burning order, any other pile with its greatest forbidden set
abbrev pub IsBurned : Grid → (ℕ → ℕ) → Burned → Type 0
IsBurned g s (Recurrent order) = IsRecurrent g s × IsBurningOrder g s order.items
IsBurned g s (Forbidden set) = IsGreatestForbidden g s set.items
