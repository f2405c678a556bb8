-- The names that many proofs of this crate use, passed on from one place.
pub use Rattle.std.proofs.Common.{◌≡◌, ℕ, refl, inl, inr, ◌↔◌, Result, Ok, Err, IsOk, IfErr, OnOk, ◌∙◌, ◌+◌, ◌*◌, ◌<◌, ◌≤◌, zero, suc, List, [], ◌∷◌, ◌++◌, length, take, get_or, true, false, ap, arith, subst, Option, Some, None, IfNone, is_some, sum, sym, ℤ, pos, ◌⊎◌, ◌-◌, Bool, slice_index, ◌^◌, if◌then◌else◌, nat_lt, All, alloc_error, set, ap₂, take-add, rules, lit<, IfOk, vec_len, vec_capacity, ⊎_elim}
pub use Rattle.std.specs.Fork.{slice_chunk}
pub use Rattle.std.proofs.lemmas.Bool.{cases_lt, and_parts, and_left, and_right, leb-true, lt-leb, eq-eqb, le-ltb, ltb-true}
pub use Rattle.std.proofs.lemmas.List.{length-append, length-drop, length-take-le, take-append-le, drop-append-le, drop_at, take_all, get_or_push, get_or_append_left, get_or_default, length_push, take_more, drop_more, set_at, take_at, drop-drop, append_assoc, append-nil, get_or-replicate, take_more_set, length-set}
pub use Rattle.std.proofs.raw_atomic.Walks.{proved, proved_at}
pub use Rattle.core.proofs.alloc.Calls.{Fits, handle_tells, Goes-blank, token}
pub use Rattle.core.proofs.alloc.Shapes.{after}
pub use Rattle.core.proofs.option.Made.{Some-of, none_of}
pub use Rattle.core.proofs.cell.Inside.{Good}
pub use Rattle.std_alloc.proofs.SendSync.{lies, seen, quiet}
pub use Rattle.std_alloc.proofs.BoxSteps.Form.{Bx, P, handle, D, box_typed, B, R, word, τ}
pub use Rattle.std_alloc.proofs.BoxSteps.Steps.{box_in, box_out}
pub use seplogic.Ra.Ura.{Ura}
pub use mir.Syntax.{Sym, impl, tnil, dnil, Ty, ty_ptr, a_type, dcons, Body, named, seq, assign, place, rv_opd, copy, aggregate, int, w8, w32, w64}
pub use mir.Val.{Val, vunit, vstruct, of_list, vcons, vnil, has_ty, WT, vptr, vint, vnull}
pub use base.Fml.{Fml, fsep, Lft, Incl, feq, flt, fbor, Share, ftrue, fat, flft}
pub use base.Logic.{SProp, ent, guard, via, fst∗, snd∗, never, guard_i, sep, wand, apply∗, never_e, id⊢}
pub use prog.Wp.{WpFn, Wp, after_seq, at_return}
pub use types.ByLocal.{alloc_all, pass_all, free_all, look_at, sets, get, get_in, sets_last, env, lands_last, lands_as, look_in_at, through, holding, forget_but}
pub use types.Kit.{group, Item, Goal, Seq, Step, step, ‵, given, ◌$◌, drop, use1, learn, fsplit, fjoin, fpick, fpack, feq_l, feq_i, raw, ◌⊛◌, later, await, !, qed, use2, split, flt_i, updating, now, done, move, Soaks, ◌∵◌, keep, rewrite, flt_l, join, suffices, at_ret, use0, some, split3, pick, any_q, Sq, prop}
pub use types.Logic.{Logic, sem, lfts}
pub use types.Match.{live}
pub use types.Part.{agg, whole, sub}
pub use types.Run.{skips, un, unit_lit, assigns_last, store, enter, lit, no_more, and_then, returns, stop, fld, bin, of_opd, first, branches, exec, blocks, load, look, addr, from, hop}
pub use contract.Monad.{fact_use, fact}
pub use contract.Running.{tables}
pub use denote.Builtin.{RefOf, u32, u64, usize}
pub use denote.Exit.{yes, no}
pub use denote.Memory.{lone, cell_at, part_at, hidden_shr}
pub use denote.Param.{layout, bounded}
pub use denote.Param.Send.{IsSend, IsSync, Common, AllSend, owning_send, struct_send, sendable}
pub use denote.RattleType.{RattleType, Valss, RowLaws, owns}
pub use denote.RawPtr.{Ptr, RawPtr, block_ptr, null_ptr, ptr_val, lies_at, in_a_block, Testable, count_of, coded_ptr, ptr_own, ptr_row_laws, rawptr_pure, tests_null}
pub use denote.Ref.{ShrRef, MutRef}
pub use denote.Signature.{Slot, plain, types_at, type_at}
pub use denote.Steps.{peeks, nothing, only, looks, shuts, heard}
pub use denote.Struct.Struct.{Shape, Struct, within, Struct-row_laws, exits_of}
pub use denote.Triple.Call.{calls_at_last, calls_at}
pub use denote.Triple.Clauses.{Lasts, lasts, at_exit}
pub use denote.Triple.Spec.{triple_of}
pub use denote.Triple.Table.{framed}
pub use denote.Triple.Walked.{walk_of, says, ends_at, Stays, stay_dropped, Goes-dropped, gave_ref, gave_slice, Goes-gave_ref, Goes-gave_slice}
pub use Rattle.sand_model.specs.Piles.{most_grains_on, PileView, height_of}
pub use Rattle.sand_model.specs.Grid.{Grid, sites}
pub use Rattle.sand_settle.specs.Settling.{SettledView, IsSettledRecord, odometer_of}
pub use Rattle.sand_settle.specs.Avalanches.{Avalanche, IsAvalanche}
pub use Rattle.sand_settle.specs.Drops.{DrivenView, grid_of_driven, topplings_between, Drops, IsAfter, HasAvalanche, AreAvalanches}
pub use Rattle.sand_model.specs.Edges.{most_to_edge}
pub use Rattle.sand_c.specs.Arguments.{Fails, Answers, Returns, IsAnswer, edge_of, grid_of, shaped, sides_of}
pub use Rattle.sand_c.specs.Dropping.{are_sites}
pub use Rattle.sand_c.specs.Handles.{c_heap, may_free, owns_at, is_at, lent_from, seen_in}
pub use Rattle.sand_c.specs.Settling.{are_within, AreRecords, settling_of, IsSettlingAt}
pub use Rattle.sand_c.specs.Waves.{waves_from, AreWavesOf, AreWaves}
pub use Rattle.sand_c.specs.declared.faults.Fault.{Fault}
