-- The names that many proofs of this crate use, passed on from one place.
pub use Rattle.std.proofs.Common.{◌≡◌, ◌+◌, ◌<◌, ℕ, List, refl, sym, ap, subst, arith, length, sum, Some, Ok, Err, ◌∙◌, ◌≤◌, zero, suc, [], ◌∷◌, ◌++◌, All, drop, append_assoc, append-nil, take, inl, Option, true, false, not, leb, ⊎_elim, None, Result, position, ◌-◌, map, get_or, inr, Bool, if◌then◌else◌, ap₂, codes, vec_len, vec_capacity}
pub use Rattle.std.proofs.lemmas.Grind.{common_steps}
pub use Rattle.std.proofs.lemmas.List.{drop-append-le, drop_all, length-drop, get_or_past, length-append, ext_get_or, length-take-le, take_more}
pub use Rattle.std.proofs.lemmas.List.Elements.{All-drop, All-nil, All-push, All-cons, All-head, All-tail}
pub use Rattle.std.specs.List.{prefix_len, range_with_len, flat_map}
pub use Rattle.std.proofs.lemmas.Bool.{cases_Bool, cases_lt, leb-false, lt-ltb}
pub use Rattle.std.proofs.lemmas.Result.{err_from_is_err_and, IfErr-weaker, IfOk-weaker}
pub use Rattle.sand_model.specs.Grid.{sites, Grid, distance}
pub use Rattle.sand_model.specs.Piles.{PileView, most_grains_on, height_of}
pub use Rattle.sand_text.specs.declared.fault.TextFault.{TextFault}
pub use Rattle.sand_text.specs.Reading.{pile_of, ◌>>=◌, front_of, sites_among, unless_at}
pub use Rattle.sand_cli.specs.declared.task.Draw.{Draw}
pub use Rattle.sand_streams.specs.Streams.{site_at, stream_sites, Reading}
pub use Rattle.sand_settle.specs.Avalanches.{Avalanche, area_of, IsAvalanche}
pub use Rattle.sand_settle.specs.Drops.{DrivenView, IsAfter, grid_of_driven, Drops, TakesGrain, topplings_between, HasAvalanche, AreAvalanches}
pub use Rattle.sand_text.proofs.Growing.{breaks_before, breaks_on, grows_on, breaks_within, stays}
pub use Rattle.sand_text.specs.declared.fault.StreamFault.{StreamFault}
pub use Rattle.sand_cli.specs.declared.task.Part.{Part}
pub use Rattle.sand_settle.specs.Settling.{SettledView, odometer_of}
pub use Rattle.sand_settle.proofs.Drops.{after_drop, avalanche_same, drops_join, one_for_each}
pub use Rattle.sand_commands.specs.Commands.{Finds, IsDropsFault, IsWritten, WorkEnds, IsElementFault, IsSumFault, IsFaultWithoutLab, IsTextWithoutLab}
pub use Rattle.sand_commands.specs.DropsCommand.{IsOverfull, drawn_sites, with_draw, numbered, AreRows, IsDropsText, drops_in, AreNoted, is_pile}
pub use Rattle.sand_commands.specs.Faults.{of_text, of_stream, number_of, of_shape, of_one, of_group, of_read, of_words, KeepNumbers}
pub use Rattle.sand_commands.specs.Streaming.{AreAdded, BreaksInRows, end_in, head_in, rows_in, pile_and_sums, row_in}
pub use Rattle.sand_commands.specs.declared.faults.DeskFault.{DeskFault}
