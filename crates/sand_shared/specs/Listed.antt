-- What contracts see of a history: the site of each drop, by number.
use Rattle.std.specs.Prelude.{ℕ, List}
use Rattle.std.specs.Arc.{arc_slice_items}
use Rattle.sand_shared.specs.declared.history.Sites.{Sites}
use Rattle.sand_shared.specs.declared.history.Sites.TheVariants.{Own, Shared}

abbrev pub listed : Sites → List ℕ
listed (Own sites) = sites.items
listed (Shared sites) = arc_slice_items sites
