-- The names that many proofs of this crate use, passed on from one place.
pub use Rattle.std.proofs.Common.{ℕ, Bool, true, false, cond, eqb, ◌&&◌, ◌≡◌, ◌+◌, ◌-◌, ◌*◌, ◌/◌, ◌%◌, ◌<◌, ◌≤◌, List, length, sym, ◌∙◌, ap, arith, refl, suc, zero, max, [], ◌∷◌, ◌++◌, replicate, Vec, Global, get_or, ◌≢◌, ⊎_elim, inl, inr, subst, ◌⊎◌, bit_or, slice_index, vec_capacity, min, Some, None, ◌^◌, ltb, leb, count_by, is_none, bit_xor, w64, bit_and, not, drop, add-one, drop-cons, sum, take, ap₂, slice_set, rules, vec_len}
pub use Rattle.std.specs.Vec.{with_item, with_items}
pub use Rattle.std.proofs.lemmas.List.{length-set, get_or-set_same, get_or-set_other, get_or-replicate, get_or_append_left, get_or_push, get_or_read, ext_get_or, length-replicate, length-drop, length-take-le, get_or-take, length-append, get_or-append-add, with_items_is, drop_all, drop-set-lt}
pub use Rattle.std.proofs.lemmas.Nat.{mul-add-lt, div_below, div-mul-add, mod-mul-add, div-add-mod', mod_below, le_or_l}
pub use Rattle.std.proofs.Math.Nat.{mul-le-mul_right, mul-le-mul_left}
pub use Rattle.std.proofs.Math.ListN.{set, get_or-eq_default}
pub use Rattle.std.proofs.lemmas.Bool.{cases_eq, cases_lt, eq-eqb, ne_eqb, leb-true, leb-false, lt-ltb, cases_Bool, agree_below_at, ltb-true, ltb-false, and_right}
pub use Rattle.std.proofs.lemmas.Bool.Decides.{nat_tests}
pub use Rattle.std.proofs.lemmas.Nat.Bits.{bit_at_lowest, bit_at_above, bit_at_ones, same_from_bits_below, bit_at-zero, bit_at-trailing_zeros, bit_at-lt}
pub use Rattle.std.proofs.lemmas.Grind.{get_or_default_zero, common_steps}
pub use Rattle.std.specs.Int.{trailing_zeros, bit_at, abs_diff}
pub use Rattle.sand_model.specs.Grid.{Grid, IsGrid, sites, joins, places, missing, column, row}
pub use Rattle.sand_tiles.specs.declared.tile.Tile.{Tile}
pub use Rattle.sand_model.specs.Sand.{sum_below, one_at, Stabilises, IsToppled, flow, IsSettled, topplings, lost, weight, grain_weight, occurrences, value_at, IsUnderway, IsStable}
pub use Rattle.sand_model.proofs.SumsBelow.{sum_below_same, sum_below-add, sum_below-one_at, sum_below_none, one_at_same, one_at_other, one_at_comm, sum_below_le, sum_below-scale, sum_below_swap, sum_below-ones}
pub use Rattle.sand_tiles.specs.Places.{bit, number, height, had, Receives, around, Visits, IsReady, unused, Calms}
pub use Rattle.sand_tiles.specs.Counts.{Count, counted, times, IsRecent, IsCount, no_recent, count_of}
pub use Rattle.sand_tiles.proofs.Bits.{bit_le, bit_none, either, both_le, apart, half}
pub use Rattle.sand_model.proofs.Flow.{flow_le, flow_same, flow-add, flow-one_at, flow_none}
pub use Rattle.sand_model.proofs.Sandpile.{flow_ones, weight_after, laplacian_sum, settled_same, settled_once}
pub use Rattle.sand_tiles.proofs.Moves.{bit_shl, bit_shl_low, cut, bit_shr, bit_above, masked_out, masked_in}
pub use Rattle.sand_model.proofs.Lists.{all_or_one, at_most_one, listed, read_below, lists_from, lists_length, none_passes, front_passes}
pub use Rattle.sand_model.proofs.Underway.{underway_start, underway_end, advances_on}
pub use Rattle.sand_model.specs.Lists.{one_if, Lists}
pub use Rattle.sand_model.specs.IndexLists.{ListView, Joins}
pub use Rattle.sand_model.proofs.IndexLists.{joins_if, joins_more, longer, kept_before, waiting_from, joins_from}
pub use Rattle.sand_fronts.specs.Boards.{IsBoard, IsSand, counts_of, marks_of, AreCounted, AddsSet, tiles_of, free_of, grown, AreCounts, CountsSites, HasSettled, Gets}
pub use Rattle.sand_fronts.specs.Counting.{spilled_at, over_wave, with_wave, count_at, in_wave}
pub use Rattle.sand_fronts.specs.Drops.{heights_on, grown_on, AreOutside, AreLossless, flag_at, AreQuiet, counted_on}
pub use Rattle.sand_fronts.specs.Filling.{Tells, IsFilled, IsInner}
pub use Rattle.sand_fronts.specs.Marking.{MarksView, in_sets, AreMarked, has_mark, AreToppled, AreSites}
pub use Rattle.sand_fronts.specs.Reading.{IsFirstOfEight, AreOfEight, AddsBetween, TellsEights}
pub use Rattle.sand_fronts.specs.TileLists.{IsClear, waits, but, AreKept, AreListed, IsListed}
pub use Rattle.sand_fronts.specs.TiledPiles.{tiled_view, IsTiledView, TiledView, IsTiledPile, HasDroppedOnTiles, by_site, toppled_between}
pub use Rattle.sand_fronts.specs.Tiling.{across, down, pitch, tiles, place_of, seam_west, seam_east, tile_of, row_at, column_at, on_tiles, tile_flow, is_site, site_on, over_north, over_south, over_east}
pub use Rattle.sand_fronts.specs.WaveSizes.{IsOneWave, HasWaves, Covers, WavesLead, AreWrittenTo}
pub use Rattle.sand_fronts.specs.Waves.{open_beside, IsBeside, AreBeside, beside_at, tile_at, toppled, IsWholeWave, AreAtRest, heights_before, only, Gains, IsWave, at_site, AreAllOpen, AreOpen, put, over_rim, AreDueFree, IsNoneDue, PairSteps, AtTile, IsOpenRow, AreVisited}
pub use Rattle.sand_fronts.specs.declared.counts.Counts.{Counts}
pub use Rattle.sand_fronts.specs.declared.reach.Spot.{Spot}
pub use Rattle.sand_fronts.specs.declared.sand.Sand.{Sand}
pub use Rattle.sand_fronts.specs.declared.sides.Beside.{Beside}
