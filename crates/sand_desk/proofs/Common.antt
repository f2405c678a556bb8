-- The names that many proofs of this crate use, passed on from one place.
pub use Rattle.std.proofs.Common.{◌≡◌, ◌+◌, ◌≤◌, ℕ, Bool, List, true, false, length, sym, ap, ◌∙◌, arith, Option, Some, None, [], ◌∷◌, subst, Result, Ok, Err, ◌++◌, map, sum, ap₂, ◌≢◌, take, refl, ⊎_elim, inl, inr, string_bytes, rules, codes, append_assoc, vec_len, vec_capacity}
pub use Rattle.std.proofs.lemmas.Grind.{common_steps}
pub use Rattle.std.specs.Io.KnownBytes.{Keeps, Appends}
pub use Rattle.std.proofs.lemmas.Result.{IfErr-weaker, on_ok_weaker, err_from_is_err_and}
pub use Rattle.sand_commands.specs.declared.faults.DeskFault.{DeskFault}
pub use Rattle.sand_commands.specs.Faults.{of_stream, status_of}
pub use Rattle.sand_lab.specs.Reports.{AreEpochs, IsReport, ReportView, SheetView, histories}
pub use Rattle.sand_text.specs.Runs.{lab_text_of, epoch_line, journal_line, lines_from, journal_lines}
pub use Rattle.sand_commands.proofs.Endings.{keeps, found_first}
pub use Rattle.sand_desk.specs.Commands.{Call, asks_for_input, IsTextOf, IsFaultOf, IsRead, IsFaulty, IsStarved, EndsBy, HelpsIfAsked, TellsWords, IsMisuse, call_of}
pub use Rattle.sand_desk.specs.Laboratory.{lab_text_of_report, report_text_of, OneLabText, dropper_and_site, sums_of}
