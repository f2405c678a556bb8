-- Lists of sites for drops.
use Rattle.std.specs.Prelude.{ℕ, Bool, nat_lt, List}
use Rattle.std.specs.List.{list_all}

-- whether every drop is at a site
abbrev pub are_sites : ℕ → List ℕ → Bool
are_sites n drops = list_all (λ site. nat_lt site n) drops
