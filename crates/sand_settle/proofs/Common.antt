-- The names that many proofs of this crate use, passed on from one place.
pub use Rattle.std.proofs.Common.{suc, ◌⊎◌, ℕ, List, length, take, ◌≡◌, ◌+◌, ◌^◌, ◌<◌, ◌≤◌, refl, sym, ◌∙◌, ap, subst, arith, sum, slice_index, ◌*◌, [], ◌∷◌, ◌++◌, Option, Some, None, append_assoc, ⊎_elim, MatchOption, Bool, true, false, cond, ltb, min, ◌-◌, ◌/◌, ◌%◌, IfSome, if◌then◌else◌, replicate, get_or, ◌≢◌, drop, leb, not, ◌&&◌, map, inl, inr, rules, Result, IfOk, OnOk}
pub use Rattle.std.proofs.lemmas.List.{ext_get_or, length-append, append-nil, length-replicate, get_or-set_same, get_or-set_other, drop_more, length-map, get_or-replicate, get_or_past, take_at, length-set, nil_from_length}
pub use Rattle.std.proofs.lemmas.Bool.{cases_lt, ltb-true, ltb-false, lt-leb, le-leb, leb-true, leb-false, and_parts, cases_eq}
pub use Rattle.sand_model.specs.Grid.{sites, Grid, missing, joins, column, row, columns_apart, places, IsGrid}
pub use Rattle.sand_model.specs.Sand.{IsSettled, one_at, occurrences, grains, topplings, grain_weight, flow, value_at, lost, IsStable, weight, IsToppled}
pub use Rattle.sand_model.specs.Piles.{most_grains, most_grains_on, heaviest, PileView, IsPile, height_of}
pub use Rattle.sand_model.proofs.Sandpile.{settled_same, laplacian_sum, weight_after, settled_in_parts, settled_stable, settled_once}
pub use Rattle.sand_model.proofs.Bounds.{at_most_sum_below, weight_bound, few_weigh, topplings_bound, sites_limit}
pub use Rattle.sand_model.proofs.SumsBelow.{sum_below-add, sum_below_both, sum_below_same, one_at_other, sum_below_none, sum_below-one_at}
pub use Rattle.sand_model.proofs.Heights.{sum_is_grains, sum_left, counted, toppled_times}
pub use Rattle.sand_model.proofs.Underway.{underway_start, underway_end, underway_step, advances_on}
pub use Rattle.sand_model.specs.Lists.{Lists}
pub use Rattle.sand_model.specs.IndexLists.{ListView}
pub use Rattle.sand_model.proofs.Lists.{lists_pop, front_below, front_passes, none_passes, lists_length, lists_none, lists_more, lists_of}
pub use Rattle.sand_model.proofs.IndexLists.{joins_if, waiting_behind, joins_more}
pub use Rattle.sand_model.specs.Underway.{Advances}
pub use Rattle.sand_settle.specs.Avalanches.{Avalanche, IsAvalanche, HasWaves}
pub use Rattle.sand_settle.specs.Driven.{driven_record, IsDriven}
pub use Rattle.sand_settle.specs.Drops.{IsPaid, TakesGrain, topplings_between, DrivenView, IsAfter, Drops, DropsAll, DropsWith, driven_view, IsOnePile, grid_of_driven}
pub use Rattle.sand_settle.specs.Near.{AgreeFar, Tells}
pub use Rattle.sand_settle.specs.Settling.{SettledView, IsSomeSettledRecord, odometer_of, IsSettledRecord}
pub use Rattle.sand_settle.specs.SiteLists.{may_topple, UnstableJoin}
