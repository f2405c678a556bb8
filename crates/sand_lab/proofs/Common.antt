-- The names that many proofs of this crate use, passed on from one place.
pub use Rattle.std.proofs.Common.{◌≡◌, ℕ, zero, suc, ◌+◌, ◌-◌, ◌*◌, ◌/◌, ◌<◌, ◌≤◌, List, [], ◌∷◌, All, length, take, drop, sum, sum_by, get_or, refl, sym, ap, ◌∙◌, subst, arith, slice_index, ◌++◌, map, Some, slice_get, option_map, ◌≢◌, Vec, Global, set, ⊎_elim, ap₂, ◌%◌, length-append, append_assoc, append-nil, add-one, vec_capacity, Bool, true, false, max, cond, ◌||◌, slice_index_or, None, vec_len, true≢false, rules}
pub use Rattle.std.proofs.lemmas.List.{get_or-take, get_or-drop, length-replicate, length-take, length-map, take_all, flat_map_more, map_push, drop-replicate, take-replicate, map-append, nil_from_length}
pub use Rattle.std.proofs.lemmas.List.Sums.{sum_by-cons, sum_by-append}
pub use Rattle.std.specs.List.{AllZip, flat_map}
pub use Rattle.std.proofs.lemmas.List.Elements.{All-map, All-nil, All-append, All-push, All-cons}
pub use Rattle.std.proofs.lemmas.Option.{none-some, same_Some, slice_get-get_or, get_or_from_slice_get, slice_get_within, slice_get-map, gets, slice_get_read}
pub use Rattle.std.proofs.lemmas.Nat.{div-mul-add, div-add-mod', le-div}
pub use Rattle.std.proofs.Math.Nat.{mul-le-mul_right, div-mul-le_self, mul-div_cancel_left}
pub use Rattle.std.specs.Int.{div_ceil}
pub use Rattle.std.specs.Vec.Iter.{into_iter_items, into_iter_len}
pub use Rattle.sand_model.specs.Piles.{height_of, PileView, most_grains_on}
pub use Rattle.sand_shared.specs.Events.{zeros, receipt, receipts_from}
pub use Rattle.sand_shared.specs.OpenPile.{grid_of_terms, toppled_by, numbered, receipts_for}
pub use Rattle.sand_shared.specs.Passes.{SharedView, PassView, IsPassOf, at_rest, EachOnce, AllBelow, IsWhole, sites_kept, together}
pub use Rattle.sand_shared.specs.Rows.{count_of, rows_between, upper_rows, lower_rows, rows_follow, rows_together, AreApart, no_rows}
pub use Rattle.sand_shared.specs.Sweeps.{LeavesAtMost, SweptRows}
pub use Rattle.sand_wish.specs.declared.wish.Wish.{Wish}
pub use Rattle.sand_model.specs.Sand.{sum_below, occurrences, one_at}
pub use Rattle.sand_shared.specs.declared.view.Receipt.{Receipt}
pub use Rattle.sand_shared.specs.Record.{Tells, RecordView, IsOneThreads, IsRecordOf}
pub use Rattle.sand_model.specs.Grid.{sites, Grid}
pub use Rattle.sand_settle.specs.Settling.{odometer_of, SettledView}
pub use Rattle.sand_wish.specs.Plans.{IsPlan, quota_of, all_drops}
pub use Rattle.sand_lab.specs.Crews.{EachAt, band, due, rowless, banded, IsDropper, IsWorker, IsObserver, IsCrew, HasDroppedItsStream, HasSweptItsBand, HasReadItsTallies, HasWorked, tallies_each, upper_part, unshared}
pub use Rattle.sand_lab.specs.Epochs.{AreTallies, AreSwept, IsClosed}
pub use Rattle.sand_lab.specs.Gathering.{parts_of, all_counts, all_swept, readings, HasGathered, HoldsReceipts, HoldsBand, HoldsNothing, all_receipts}
pub use Rattle.sand_lab.specs.Jobs.{CanDrop, CanSweep, CanTally, TookDropTurns, TookSweepTurns, TookTallyTurns, Climbs, IsDropping}
pub use Rattle.sand_lab.specs.Journals.{entry, sites_in, IsJournal, lists, Ascends, AreParts, HasEntries, AgreeBeside, HavePlaces, flattened, receipt_sites, sites_by, FollowsStreams}
pub use Rattle.sand_lab.specs.Reports.{SheetView, ReportView, report_of, IsEpoch, AreEpochs, IsTotal, IsReportOf, IsBoth, HasGrown, last_pile, histories, IsReport, sheet_at}
pub use Rattle.sand_lab.specs.Streams.{Reading, stream_sites, stream_of, site_at}
pub use Rattle.sand_lab.specs.declared.crew.Crew.{Crew}
pub use Rattle.sand_lab.specs.declared.droppers.Dropper.{Dropper}
pub use Rattle.sand_lab.specs.declared.journal.Entry.{Entry}
pub use Rattle.sand_lab.specs.declared.observers.Observer.{Observer}
pub use Rattle.sand_lab.specs.declared.workers.Worker.{Worker}
