-- The names that many proofs of this crate use, passed on from one place.
pub use Rattle.std.proofs.Common.{ℕ, Bool, true, false, ◌≡◌, ◌+◌, ◌<◌, ◌≤◌, ap, arith, List, [], ◌∷◌, All, count_by, inl, inr, ◌↔◌, zero, suc, not, leb, ◌≢◌, ◌-◌, refl, sym, ◌∙◌, ◌++◌, length, take, get_or, pos, Option, Some, None, IfSome, append_assoc, append-nil, ◌*◌, ℤ, ◌+ℤ◌, ◌-ℤ◌, negsuc, int_lt, unsigned_abs, ◌/◌, ◌^◌, sum, replicate, eqb, ⊎_elim, ◌≤ℤ◌, ◌⊎◌, Result, Err, alloc_error, rules, slice_index, vec_len, vec_capacity, w64, FitsSigned, subst}
pub use Rattle.std.proofs.lemmas.Bool.{cases_Bool, cases_eq, cases_lt, ltb-true, le-ltb, eq-eqb, eqb-true, le-leb, lt-leb}
pub use Rattle.std.proofs.lemmas.Bool.Decides.{nat_tests}
pub use Rattle.std.proofs.lemmas.List.Elements.{All-nil, All-cons, All-head, All-tail, All-from_get_or, All-get_or}
pub use Rattle.std.proofs.lemmas.List.{take_more, get_or-set_same, get_or-set_other, take-take, length-take, get_or_push, get_or_append_left, ext_get_or, get_or-replicate, get_or_read, get_or_default, length_push, length-set, length-replicate, take_all}
pub use Rattle.std.proofs.lemmas.Int.{ints, to_z-of_z}
pub use Rattle.std.specs.List.Sorted.{IsStrictlyIncreasing}
pub use Rattle.std.proofs.lemmas.List.Sums.{sum_by-le, sum_by_more_le, sum_by_more, sum_by_push}
pub use Rattle.sand_model.specs.Grid.{Grid, IsGrid, joins, sites, neighbours, places, missing}
pub use Rattle.sand_model.specs.Sand.{sum_below, occurrences, one_at, value_at, IsStable, IsToppled, flow, IsSettled}
pub use Rattle.sand_model.specs.Forbidden.{IsForbidden}
pub use Rattle.sand_model.proofs.Neighbours.{flow_four, some_width, neighbours_mutual, neighbours_at_most_four, place_inside, some_from, row_above, occurrences_places}
pub use Rattle.sand_model.proofs.NeighboursInSets.{count_within, flow_at_most_four, north_of_four}
pub use Rattle.sand_model.proofs.Flow.{flow_same, flow-add, indicator, flow-scale, count_is_flow}
pub use Rattle.sand_model.proofs.Occurrences.{occurrences-cons, occurrences-push}
pub use Rattle.sand_model.specs.Lists.{Lists, one_if}
pub use Rattle.sand_model.proofs.Lists.{at_most_once, listed, lists_below, lists_all, lists_leave, read_below, read_fresh, read_passes, unlisted, lists_length, lists_more_no, lists_more_yes, lists_of, lists_room}
pub use Rattle.sand_model.specs.Integers.{whole, IsEquivalent, laplacian}
pub use Rattle.sand_model.specs.Piles.{PileView, height_of, IsPile, most_grains_on}
pub use Rattle.sand_model.proofs.OverIntegers.{toppled_is_integers, above, below, parts, laplacian-parts, settled_equivalent}
pub use Rattle.sand_model.proofs.Sandpile.{settled_same, sum_by_ones, settled_in_parts, settled_once, settled_stable}
pub use Rattle.sand_model.proofs.EquivalenceIsLinear.{equivalent_sym, equivalent_add, equivalent_same, equivalent_times, equivalent_trans}
pub use Rattle.sand_model.proofs.Bounds.{sites_limit, limit_has_room, at_most_sum_below}
pub use Rattle.sand_settle.specs.Settling.{SettledView, IsSettledRecord, odometer_of}
pub use Rattle.sand_group.specs.Classes.{IsFired, integer_at, IsFiredToRecurrent, IsSuperstableOf, IsSuperstable, whole_grains}
pub use Rattle.sand_group.specs.Fire.{may_burn, is_out, CountsUnburnt, FireSpreadsFrom, ListsBurning, ListsUnburnt}
pub use Rattle.sand_group.specs.Group.{SettlesTo, IsSurplus, IsIdentity, Represents, IsSum, IsMultiple, IsEquivalentRecurrent, OnceSettled, IsInverse}
pub use Rattle.sand_group.specs.Recurrence.{IsRecurrent, is_in, BurnsInOrder, IsBurningOrder, IsGreatestForbidden}
