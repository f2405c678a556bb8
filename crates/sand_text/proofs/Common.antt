-- The names that many proofs of this crate use, passed on from one place.
pub use Rattle.std.proofs.Common.{◌≡◌, ℕ, zero, suc, ◌+◌, ◌*◌, ◌<◌, ◌≤◌, ◌^◌, List, [], ◌∷◌, ◌++◌, length, take, drop, None, decimal, refl, ◌∙◌, ap, arith, append_assoc, length-drop, zero-mul, suc-mul, mul_comm, ◌&&◌, ltb, eq-eqb, not, true, false, cond, eqb, min, subst, Ok, ◌-◌, Some, Bor, append-nil, Bool, get_or, sym, add-zero, drop-cons, length-append, inl, inr, map, Option, ◌||◌, nat_lt, nat_le, sum, Err, ◌⊎◌, Result, IsTrue, ◌≢◌, MatchOption, IfErr, slice_index, below_more, vec_len, vec_capacity}
pub use Rattle.std.specs.Bool.{if◌then◌else◌, ◌==◌}
pub use Rattle.std.specs.List.{All, flat_map, position_or_len, position, list_any, onto_first, slice_split, filter}
pub use Rattle.std.specs.Str.Parse.{digits_value, digits_value_after}
pub use Rattle.std.proofs.lemmas.List.{take-append-drop, take_all, nil_from_length, take_min, drop_min, take_at, drop_at, get_or-drop, get_or_default, take-append-le, drop_all, drop_more, drop-append-le, length_push, take_more, length-take-le, length-take, at_drop_all, at_drop_more, take-take, get_or_append_left, get_or-append_right, get_or-append-add, drop-drop}
pub use Rattle.std.proofs.lemmas.List.Sums.{position_or_len_is, get_or-le-sum_by, prefix_len-le-length, fails_before_first, passes_at_first, sum_by_push}
pub use Rattle.std.proofs.lemmas.Fmt.{decimal_is_IsNumeral, decimal_nonempty, decimal_digit, length-decimal-le}
pub use Rattle.std.proofs.lemmas.Bool.Decides.{nat_tests}
pub use Rattle.std.proofs.Math.Nat.{div-eq_of_lt, mod-eq_of_lt, zero-div, zero-mod, add-div_right, add-mod_right, mul-le-mul, sub-zero}
pub use Rattle.std.proofs.lemmas.Bool.{cases_lt, not-true, cases_Bool, cases_cond, and_parts, both_ways, and_right, cond_both, eqb-true, cases_eq}
pub use Rattle.std.proofs.lemmas.List.Folds.{length-prefix_len, position_or_len_push, list_any_none}
pub use Rattle.std.proofs.lemmas.List.Splits.{slice_split_none, slice_split_at, slice_split-cons_yes, slice_split-cons_no}
pub use Rattle.std.specs.Option.{unwrap_or, option_or}
pub use Rattle.std.proofs.Math.Seq.{take-append-add, drop-append_seam, take-add}
pub use Rattle.std.specs.Io.KnownBytes.{Appends, Consumes, IsAtEnd}
pub use Rattle.std.proofs.KnownBytes.{Appends-nil, Appends-trans, Consumes-trans}
pub use Rattle.std.proofs.lemmas.Result.{IfErr-weaker, IfOk-weaker, err_from_is_err_and}
pub use Rattle.sand_model.specs.declared.shape.Edge.{Edge}
pub use Rattle.sand_model.specs.declared.shape.Edge.TheVariants.{Open, Cylinder}
pub use Rattle.sand_model.specs.Grid.{Grid, IsGrid, grid_with_edge, joins, sites, is_side}
pub use Rattle.sand_model.specs.Piles.{PileView, IsPile, most_grains, height_of}
pub use Rattle.sand_text.proofs.Usual.{usual}
pub use Rattle.sand_text.specs.Bytes.{is_digit, is_other, is_space, digits_len, token_len, capped, has_large}
pub use Rattle.sand_text.specs.Left.{numbers_left, tokens_left}
pub use Rattle.sand_text.specs.Pictures.{chunks, lines_text, values_text, pgm_text_of, IsShort, NoLongLine}
pub use Rattle.sand_text.specs.Reading.{plain_tokens, unless_at, pile_at, filled, is_count, of_shape, second_letter, second_spared, two_letters, heights_on, behind_heights, heights_behind}
pub use Rattle.sand_text.specs.Surveys.{noted, IsSurvey, IsShaped, IsStrangeAt, sites_of, IsFull, IsEnd, edge_or, AgreeOnLetters, HasCounted, IsNoted, still_spared, grains_with, if_no_site, IsFront, IsFirstStrange, IsWithinPile, barred_at, edge_with}
pub use Rattle.sand_text.specs.Texts.{edge_text, text_of, row_text, rows_text, sites_text}
pub use Rattle.sand_text.specs.Tokens.{tokens_at, tokens, numbers, token_of}
pub use Rattle.sand_text.specs.declared.fault.TextFault.{TextFault}
pub use Rattle.sand_text.specs.declared.fault.TextFault.TheVariants.{TooLarge, Text, Length, TooManyGrains}
pub use Rattle.sand_text.specs.declared.survey.Survey.{Survey}
pub use Rattle.sand_text.specs.declared.tokens.Token.{Token}
pub use Rattle.sand_text.specs.declared.tokens.Token.TheVariants.{Number, Letter, Strange}
