-- All drops are at sites.
use Rattle.sand_c.proofs.Common.{◌≡◌, ◌<◌, ℕ, List, true, nat_lt, get_or, All, ltb-true, are_sites}
use Rattle.std.proofs.lemmas.List.Sums.{AllPass-from_list_all}

pub all_sites : (n : ℕ) (drops : List ℕ) → are_sites n drops ≡ true → All (λ site. site < n) drops
all_sites n drops all = λ k d lt.
    ltb-true (get_or drops k d) n (AllPass-from_list_all (λ site. nat_lt site n) drops all k d lt)
