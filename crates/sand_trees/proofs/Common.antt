-- The names that many proofs of this crate use, passed on from one place.
pub use Rattle.std.proofs.Common.{ℕ, true, false, ltb, ◌≡◌, ◌+◌, ◌-◌, ◌/◌, ◌<◌, ◌≤◌, ◌∙◌, inl, inr, refl, ap, arith, get_or, Some, None, zero, suc, leb, ◌≢◌, ◌*◌, ◌&&◌, sym, subst, List, [], ◌∷◌, ◌++◌, length, replicate, Option, IfSome, Bool, cond, ◌==◌, map, take, count_by, ◌%◌, ◌||◌, min, sum, not, slice_index, drop, length-set, Err}
pub use Rattle.std.proofs.lemmas.Bool.{cases_Bool, ltb-true, ltb-false, cases_eq, cases_lt}
pub use Rattle.std.proofs.lemmas.Bool.Decides.{nat_tests}
pub use Rattle.std.proofs.lemmas.List.{get_or_push, get_or_append_left, length_push, get_or-set_same, get_or-set_other, get_or-replicate, get_or-map, get_or-take, length-map, length-take-le, take-take, length-take, take_all, take_at, length-replicate}
pub use Rattle.std.proofs.lemmas.List.Sums.{sum_by-cons, sum_by_more_le, count_by-le-length, count_by_more_yes, count_by_more_no}
pub use Rattle.sand_model.specs.Grid.{Grid, IsGrid, sites, places, neighbours, north, west, east, south, is_inner}
pub use Rattle.sand_model.specs.Sand.{value_at, sum_below, one_at, IsStable}
pub use Rattle.sand_model.proofs.Neighbours.{row_above, flow_four, place_inside, some_width, row_below}
pub use Rattle.sand_model.proofs.Bounds.{at_most_sum_below, at_most_all, sites_limit}
pub use Rattle.sand_model.proofs.Lists.{at_most_one, all_or_one}
pub use Rattle.sand_group.specs.Recurrence.{IsRecurrent}
