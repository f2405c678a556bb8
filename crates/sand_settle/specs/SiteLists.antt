-- The sites that may topple, and lists of them.
use Rattle.std.specs.Prelude.{ℕ, Bool, List, length, slice_index, nat_le}
use Rattle.sand_model.specs.Lists.{Lists}
use Rattle.sand_model.specs.IndexLists.{ListView, Joins}

-- whether a site may topple at the heights s
abbrev pub may_topple : (ℕ → ℕ) → ℕ → Bool
may_topple s j = nat_le 4 (s j)

-- xs has each of n sites that may topple at the heights h, once, and no other
abbrev pub ListsUnstable : ℕ → List ℕ → List ℕ → Type 0
ListsUnstable n h xs = Lists n (may_topple (slice_index h)) xs

-- as the heights h become k, at most `most` sites join a list: those that may topple from now on
abbrev pub UnstableJoin : ℕ → List ℕ → List ℕ → ListView → ListView → Type 0
UnstableJoin most h k l m = Joins (length h) most (may_topple (slice_index h)) (may_topple (slice_index k)) l m
