-- The names that many proofs of this crate use, passed on from one place.
pub use Rattle.std.proofs.Common.{◌≡◌, ℕ, ◌+◌, ◌<◌, ◌≤◌, List, All, length, sum, arith, zero, suc, ◌-◌, ◌*◌, ◌/◌, ◌%◌, ◌^◌, [], ◌∷◌, ◌++◌, sym, refl, ap, ◌∙◌, subst, length-append, slice_index, count_by, Bool, ◌≢◌, ltb, leb, true, false, take, ◌&&◌, ⊎_elim, eqb, set, get_or, ◌↔◌, reverse, Some, slice_get, sum_by, true≢false, ◌⊎◌, ◌||◌, if◌then◌else◌, drop, max, nat_lt, inr, Option, None, IfSome, map, add-one, mod-eq_of_lt, vec_capacity, rules, Vec, Global}
pub use Rattle.std.proofs.lemmas.List.{append_assoc, append-nil, set-set, length-map, length-replicate, get_or-set_same, length-set, take_all, ext_get_or, get_or-replicate, get_or_read, length-take, reverse-append, reverse-reverse, get_or-set_other, nil_from_length, length-drop, length-take-le, get_or-take, get_or-drop, get_or_append_left, get_or-append-add, drop_all, take-set-le, take_more_same, drop_more, set-get_or}
pub use Rattle.atomic_table.specs.Table.{State, Me, Allows, keeps, Splits, Joins, opening}
pub use Rattle.std.proofs.Math.Nat.{mod-add-div', add-mul-mod_self_right, mul-le-mul_right, eq_of_mul-eq-mul_right, mul-add, mul_comm, add-mod_right}
pub use Rattle.std.proofs.Math.Seq.{lt-length-set, take-length, drop-cons}
pub use Rattle.std.proofs.lemmas.List.Elements.{All-map, All-replicate, All-tail, All-cons, All-nil, All-set, All-weaker, All-push, All-append, All-from_get_or, All-pop}
pub use Rattle.std.proofs.lemmas.Bool.{eq-eqb, ne_eqb, cases_Bool, cases_eq, cases_lt, lt-ltb, le-ltb}
pub use Rattle.std.proofs.lemmas.Bool.Decides.{nat_tests}
pub use Rattle.std.proofs.lemmas.List.Sums.{sum_by-cons, sum_by-append, sum_by_more, count_by-le-length, sum_by-set, sum_by_push, get_or-le-sum_by, sum_by-le, sum_by-le-sum_by}
pub use Rattle.std.proofs.Math.ListN.{get_or-eq_default}
pub use Rattle.std.proofs.lemmas.Grind.{common_steps, same_number_lists}
pub use Rattle.sand_model.specs.Grid.{Grid, sites, neighbours, IsGrid, missing, places}
pub use Rattle.sand_model.specs.Sand.{grains, occurrences, IsToppled, Stabilises, one_at, IsSettled, IsUnderway, flow, grain_weight, lost, topplings}
pub use Rattle.sand_model.specs.Piles.{PileView, IsPile, height_of, most_grains, most_grains_on}
pub use Rattle.sand_model.proofs.SumsBelow.{sum_below-add, sum_below_same, sum_below_le}
pub use Rattle.sand_model.proofs.Occurrences.{sum_below-occurrences, occurrences-cons, occurrences-push, occurrences-append}
pub use Rattle.sand_model.proofs.Heights.{sum_is_grains, counted, get_or-written}
pub use Rattle.sand_model.proofs.Flow.{flow_same, flow-scale, flow-one_at, flow-add, flow_none, flow_le}
pub use Rattle.sand_model.specs.Lists.{one_if}
pub use Rattle.sand_model.proofs.Sandpile.{settled_same, laplacian_sum, settles_after, least_action, weight_after, settled_in_parts}
pub use Rattle.sand_settle.specs.Settling.{odometer_of, SettledView, IsSettledRecord, IsSomeSettledRecord}
pub use Rattle.sand_model.proofs.Bounds.{topplings_bound, at_most_sum_below, sites_limit}
pub use Rattle.sand_shared.specs.Bare.{shown, IsBare}
pub use Rattle.sand_shared.specs.Events.{Event, draw, place, receipt, grains_for, are_for, drew, drew_all, after_laying, receipts_from, one_for_each, all_draws, all_places, May, after, AllHappen, after_all, sent, raised, unloaded, behind_first, without, zeros, looked, count, look, with_pass, arrived, split, join, parent, child, joined, unload, begin, unopened, first_pass, deliver, follows, base_of, delivered_to}
pub use Rattle.sand_shared.specs.OpenPile.{OpenPile, nobody, grid_of_terms, pass_at, AreTerms, IsLawful, amount_at, held, holds_site, toppled_by, toppled, receipts_for, start_and_drawn, numbered, IsLawfulPass, present, in_all}
pub use Rattle.sand_shared.specs.Passes.{EachOnce, AllBelow, PassView, together, together_all, SharedView, IsPass, IsPassOf, IsWhole, at_rest, sites_kept}
pub use Rattle.sand_shared.specs.Plays.{Takes, quota_given, sites_given}
pub use Rattle.sand_shared.specs.Record.{RecordView, Tells, IsLast, IsOneThreads, IsRecordOf, IsCompleted}
pub use Rattle.sand_shared.specs.Rows.{AreApart, count_of, rows_follow, rows_together, AreRowsOf, no_rows, rows_between, upper_rows, lower_rows, HoldsSite}
pub use Rattle.sand_shared.specs.Running.{Shows, IsRunning, Stands, found, Finds, Happened}
pub use Rattle.sand_shared.specs.Seats.{HasAll, AreWords, IsSeatAt, StaysSeated}
pub use Rattle.sand_shared.specs.Sweeps.{IsCalm, start_and_receipts, with_counts, IsRestOf, LeavesAtMost, IsSparing, LeavesAtLeast, TopplesInTurn, coming_to, SweptRows, SweptAll, Swept}
pub use Rattle.sand_shared.specs.declared.bare_pass.BarePass.TheInside.{Inside}
pub use Rattle.sand_shared.specs.declared.rows.Rows.{Rows}
pub use Rattle.sand_shared.specs.declared.view.Grains.{Grains}
pub use Rattle.sand_shared.specs.declared.view.Receipt.{Receipt}
pub use Rattle.sand_shared.specs.declared.view.Terms.{Terms}
pub use Rattle.sand_shared.specs.declared.view.View.{View}
