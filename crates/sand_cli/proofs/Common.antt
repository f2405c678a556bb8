-- The names that many proofs of this crate use, passed on from one place.
pub use Rattle.std.proofs.Common.{arith, ◌≡◌, Bool, true, not, ◌&&◌, List, [], ◌∷◌, refl, ◌++◌, IfSome, find, false, Option, Some, None, codes, ℕ, cond, zero, suc, length, ◌≤◌, ◌||◌, is_some, if◌then◌else◌, ap, decimal, option_map, ◌∙◌, ◌<◌, ◌^◌, sym, subst, get_or, fold, true≢false, option_and_then, slice_get, ◌≢◌, Result, Ok, Err, ◌+◌, unwrap_or, drop, ap₂, append_assoc, ◌↔◌, rules}
pub use Rattle.std.proofs.lemmas.Grind.{common_steps}
pub use Rattle.std.specs.Str.{bytes_eq}
pub use Rattle.std.proofs.lemmas.Slice.Eq.{bytes_eq-Decides}
pub use Rattle.clap.specs.Words.{Text, is_simple, is_simple_and_free, ReadsOne, HasKind, HasMatchesOf, fault_of, kind_of, subcommand_rows_of, found_of}
pub use Rattle.clap.proofs.WalkLemmas.{both, one_text-rows}
pub use Rattle.clap.specs.Kinds.{Kinds, check_kinds, or_else, IsAmong, range_kinds, request_kinds, value_kinds, values_kinds}
pub use Rattle.clap.specs.Walk.{answers_to, nothing_held, stop_after, Held, Names, Row, Rule, Step, Walk, arg_by_id, arg_by_long, attached_value, walked, with_default, Outcome, Waiting, action_of, after_flag, after_step, at_row, counted, flag_met, has_row, long_met, long_or_other, option_met, plain_word, one_of, reacted, reading_by, row_text, rows_after, settled, settled_rows, short_met, takes_values, used, used_as, used_by_id, with_count, with_values, without, word_met, finished, is_empty, more_values, idle, next, option, walk_from, walk}
pub use Rattle.clap.specs.Simple.{App, Shape, label_of, names_of, argument_words, built, entered, rows_at, subcommand_of, built_leaf, app_of_fields, on_top}
pub use Rattle.clap.specs.Faults.{built_fault, level_fault, action_fault, count_fault, entered_fault, flag_word_fault, long_fault, option_fault, other_fault, react_fault, set_fault, settle_fault, short_fault, step_fault, turn_fault, use_fault, check_fault, default_fault, values_fault, word_fault, defaults_fault, bundle_fault}
pub use Rattle.std.specs.Option.{option_map_or}
pub use Rattle.clap.specs.declared.builder.value_parser.ValueParser.{ValueParser}
pub use Rattle.std.specs.Str.Parse.{digits_value, without_leading_plus, IsNumeral, ParsesBool, ParsesUnsigned, true_text, ExplainsUnsignedError, HasUnsignedDigitsIfOk}
pub use Rattle.clap.specs.ValueTests.{is_unsigned_in, accepts}
pub use Rattle.sand_cli.specs.Asked.{asked, conflict_among, faults, AskForHelp, GoTogether, IsDraw, IsRun, draw_by, with_settings, IsWithin, conflict_of, freely, task_named, unless, form_in, with_sides}
pub use Rattle.sand_cli.specs.Options.{number_of, value_of, flag_in, setting_in}
pub use Rattle.sand_cli.specs.Spelling.{draw_words, settings_of, Heeds, words_of}
pub use Rattle.sand_cli.specs.declared.fault.Conflict.{Conflict}
pub use Rattle.sand_cli.specs.declared.fault.Conflict.TheVariants.{PileAndJournal, PileAndGraymap, PileAndTable, Uncounted}
pub use Rattle.sand_cli.specs.declared.task.Task.{Task}
pub use Rattle.sand_cli.specs.declared.task.Task.TheVariants.{Drops, Identity, Lab, Settle, Multiple, Add, Burn, Inverse, Recurrent}
