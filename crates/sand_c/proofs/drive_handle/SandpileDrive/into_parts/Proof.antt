-- At null there is nothing; else what the handle owns goes with the pointer and an allocator.
use lib.Dec.{T}
use Rattle.sand_c.proofs.Common.{◌≡◌, ◌∙◌, ap, List, [], ◌∷◌, ◌++◌, refl, sym, subst, lit<, Val, vcons, vnil, has_ty, WT, SProp, ent, id⊢, ftrue, WpFn, ‵, raw, ◌⊛◌, at_ret, ◌$◌, ◌∵◌, !, qed, move, keep, drop, use0, use1, join, split, fsplit, fjoin, suffices, done, whole, sub, agg, stop, fld, lit, bin, no_more, and_then, of_opd, first, branches, exec, returns, enter, alloc_all, pass_all, free_all, look_at, get, get_in, sets, sets_last, env, live, tables, yes, layout, RattleType, owns, Slot, plain, types_at, type_at, Ptr, block_ptr, null_ptr, tests_null, nothing, says, Stays, stay_dropped, walk_of, ends_at, Goes-dropped, handle_tells, after, Some-of, none_of, None, Some, proved_at, Bx, D, box_typed, box_in}
use Rattle.std_alloc.proofs.ResultValues.{and_tt}
use Rattle.std_alloc.proofs.BoxSteps.Form as box
use Rattle.sand_c.proofs.HandleSteps.{FromHeap, either, handle_out, in_heap, parts_of, word}
use Rattle.sand_c.specs.contracts.drive.Drive.{the_row as Held}
use Rattle.sand_c.proofs.drive.Drive.TheLaws as held
use Rattle.sand_c.specs.contracts.drive_handle.SandpileDrive as Handle
use Rattle.sand_c.specs.contracts.drive_handle.SandpileDrive.into_parts.{ended, clauses}
use Rattle.sand_c.specs.contracts.drive_handle.SandpileDrive.into_parts.Key.{name as #self}
use Rattle.sand_c.proofs.drive_handle.SandpileDrive.into_parts.Statement.{statement}
use Rattle.sand_c.proofs.drive_handle.SandpileDrive.into_parts.Code as code

pub into_parts_spec : {M : Type 1} → statement M
into_parts_spec 𝓤 𝓛 𝓜 𝓡 wired =
    let E : Bx = in_heap Held held.the_row_laws in let ThePart : RattleType = parts_of Held in
    let FromHandle : Slot 0 = plain (λ _. Handle.the_row) in
    let H = 𝓛.H in let 𝓣 = tables 𝓤 H 𝓜 𝓡 𝓡.env in let fn = code.function in
    let En = ended in let c = clauses 𝓛 𝓜.mem 𝓡.returns in
    let hs : Stays En.signature.params En.kept = (stay_dropped FromHandle yes, (stay_dropped FromHeap yes, tt)) in
    proved_at 𝓛 En hs c 𝓜 𝓡 (Goes-dropped 𝓛 0 FromHandle yes (λ κs x f. refl), (Goes-dropped 𝓛 0 FromHeap yes (λ κs x f. refl), tt)) #self fn (code.unfolded 𝓤 H 𝓜 𝓡 wired) (λ z are.
    let h = z.0.3.0 in let a = z.0.3.1.0 in let vs = z.0.4.0 in let us = z.0.4.1.0 in
    let Out : RattleType = type_at En.signature.result z.0.0 in
    let Post : Val → SProp 𝓤 = (walk_of 𝓛 En hs c).post z in let Run : List Val → SProp 𝓤 = λ ws. WpFn 𝓤 H 𝓣.C 𝓣.Λ fn ws Post in
    qed 𝓛 ((‵ ftrue ⊛ ‵ (owns (types_at En.signature.params z.0.0) z.0.3 z.0.4)) ∷ raw ((c z.0.0 z.0.3).requires z.1) ∷ []) ∵ split ! $ drop ! $ fsplit ! $
    handle_out Held Handle.the_type.name ! h.at h.held vs (λ is_vs. move ! (1 ∷ []) $ fsplit ! $ handle_tells E.al ! a us (λ e is_us fits. move ! (2 ∷ 0 ∷ []) $
    -- [what the pointer owns; the allocator; true; what is required]
    let runs : (p : Ptr) → h.at ≡ p → ent 𝓤 (Run (word p ∷ e ∷ [])) (Run (vs ++ (us ++ []))) =
    λ p at. (let is = is_vs ∙ ap (λ (q : Ptr). word q ∷ []) at in
    subst (λ (q : List Val × List Val). ent 𝓤 (Run (word p ∷ e ∷ [])) (Run (q.0 ++ (q.1 ++ [])))) (λ i. (sym is i, sym is_us i)) (id⊢ 𝓤 _)) in
    either Held ! a h.at h.held
    (λ at none. drop ! $ drop ! $ drop ! $ suffices ! (Run (word null_ptr ∷ e ∷ [])) (runs null_ptr at) $
    enter ! 𝓣.C 𝓣.Λ fn (word null_ptr ∷ e ∷ []) Post $ alloc_all ! (λ l. pass_all ! refl ((tt, (record { fits = lit< tt }, tt)), (fits, tt)) $ let Ev = env fn.locals l in
    sets ! (of_opd ! (get_in ! (fld ! refl (stop !)) (sub ! 0 refl (whole !)))) refl (tt, record { fits = lit< tt }) $
    sets ! (bin ! (get ! refl) (lit ! tt) tt) refl (tt, tt) $ first ! $ branches ! (get ! refl)
    (λ _. sets_last ! (agg ! (and_then ! (lit ! tt) (no_more !))) refl (tt, (record { fits = lit< tt }, tt)) $
    exec ! 𝓣.C 𝓣.Λ Ev (after 3 fn.body) (at_ret Ev Post) $ sets ! (of_opd ! (get ! refl)) refl (tt, (record { fits = lit< tt }, tt)) $
    use0 𝓛 (‵ (Out.own_val None (live 0 vnil ∷ []))) (none_of 𝓛 ThePart) $ returns ! (look_at ! 0 refl) $ free_all ! refl $
    suffices ! _ (ends_at 𝓛 En hs c z (live 0 vnil) None (tt, (tt, tt)) (tt, (tt, tt))) $ says ! none $
    nothing ! $ nothing ! $ fjoin ! $ nothing ! $ fjoin ! $ join ! $ nothing ! $ join ! $ done !)
    (λ wrong. absurd wrong)))
    (λ b o x at one ok. let p = block_ptr b o in let w = box.word E e b o in let v = live 1 (vcons w vnil) in
    let d : D E = record { ptr = p; alloc = a; value = x } in
    let made : ThePart.Denot = record { at = p; alloc = a; value = x } in
    let part = box_typed E e b o fits in
    let good : T (has_ty (layout Out) v) × WT v = (and_tt _ part.0, (record { fits = lit< tt }, (part.1, tt))) in
    fsplit ! $ box_in E ! d b o x refl refl $ use1 𝓛 (‵ (ThePart.own_val made (w ∷ []))) (id⊢ 𝓤 _) $ keep ! (0 ∷ []) $
    suffices ! (Run (word p ∷ e ∷ [])) (runs p at) $
    enter ! 𝓣.C 𝓣.Λ fn (word p ∷ e ∷ []) Post $ alloc_all ! (λ l. pass_all ! refl ((tt, (tt, tt)), (fits, tt)) $ let Ev = env fn.locals l in
    sets ! (of_opd ! (get_in ! (fld ! refl (stop !)) (sub ! 0 refl (whole !)))) refl (tt, tt) $
    sets ! (bin ! (get ! refl) (lit ! tt) (tests_null p ok)) refl (tt, tt) $ first ! $ branches ! (get ! refl)
    (λ wrong. absurd wrong)
    (λ _. sets ! (of_opd ! (get ! refl)) refl (tt, tt) $
    sets ! (agg ! (and_then ! (get ! refl) (and_then ! (get ! refl) (no_more !)))) refl part $
    sets_last ! (agg ! (and_then ! (lit ! tt) (and_then ! (get ! refl) (no_more !)))) refl good $
    exec ! 𝓣.C 𝓣.Λ Ev (after 3 fn.body) (at_ret Ev Post) $ sets ! (of_opd ! (get ! refl)) refl good $
    use1 𝓛 (‵ (Out.own_val (Some made) (v ∷ []))) (Some-of 𝓛 ThePart made w) $ returns ! (look_at ! 0 refl) $ free_all ! refl $
    suffices ! _ (ends_at 𝓛 En hs c z v (Some made) (tt, (tt, tt)) (tt, (tt, tt))) $ says ! one $
    nothing ! $ nothing ! $ fjoin ! $ nothing ! $ fjoin ! $ join ! $ nothing ! $ join ! $ done !))))))
