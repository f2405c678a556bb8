-- The names that many proofs of this crate use, passed on from one place.
pub use Rattle.std.proofs.Common.{ℕ, suc, ◌≡◌, ◌+◌, ◌/◌, ◌%◌, ◌<◌, ◌≤◌, refl, sym, arith, add-one, None, Bool, true, false, leb, ltb, ◌&&◌, zero, ◌-◌, ◌*◌, ◌^◌, ap, ⊎_elim, ◌⊎◌, inl, inr, eqb, Option, Some, min, ◌∙◌, ap₂, if◌then◌else◌, List, [], ◌∷◌, ℤ, pos, ◌+ℤ◌, ◌-ℤ◌, All, sum_by, count_by, get_or, length, sum, cond, not, ◌++◌, ◌≢◌, drop, append_assoc, length-append, subst, take, is_none, IfSome, negsuc, ◌*ℤ◌, ◌≤ℤ◌, ◌↔◌, rules, vec_len, vec_capacity}
pub use Rattle.std.proofs.lemmas.Bool.Decides.{nat_tests}
pub use Rattle.std.proofs.lemmas.Nat.{le-div, div_below, div-add-mod', mul-le, mod_below, div-mul-add, mod-mul-add, mul-add-lt}
pub use Rattle.std.proofs.Math.Nat.{suc-mod, mod_self, mod-eq_of_lt, mul-le-mul_left}
pub use Rattle.std.proofs.lemmas.Bool.{cases_eq, cases_lt, leb-true, leb-false, cases_Bool, lt-ltb, le-ltb, ltb-true, ltb-false, eq-eqb, eqb-true, ne_eqb}
pub use Rattle.std.proofs.lemmas.List.Sums.{sum_by-cons, sum_by_more_le, get_or-le-sum_by, sum_by_push, sum_by-append}
pub use Rattle.std.proofs.lemmas.List.Elements.{All-head, All-tail, All-from_get_or, All-cons, All-nil}
pub use Rattle.std.proofs.lemmas.List.{get_or-set_same, get_or-set_other, append-nil, drop-append-le, get_or_append_left, get_or_read, length-set, length-take, get_or_default, get_or_push, take_at}
pub use Rattle.sand_model.specs.Grid.{Grid, sites, row, column, is_inner, IsGrid, joins, middle, neighbours, places, missing, north, west, east, south}
pub use Rattle.sand_model.specs.Lists.{one_if, Lists}
pub use Rattle.sand_model.specs.Sand.{IsToppled, grains, topplings, weight, grain_weight, flow, one_at, IsUnderway, IsSettled, value_at, IsStable, IsLeast, Stabilises, sum_below, occurrences, lost}
