-- At null nothing is done. Else the handle is read, its own call frees what it holds, and the empty handle is written back.
use Rattle.sand_c.proofs.Common.{◌≡◌, ◌∙◌, ap, List, [], ◌∷◌, ◌++◌, refl, sym, subst, lit<, Val, vnull, vptr, vunit, SProp, ent, id⊢, ftrue, WpFn, ‵, raw, ◌⊛◌, at_ret, ◌$◌, ◌∵◌, !, qed, move, keep, drop, use1, use2, join, split, fsplit, fjoin, feq_l, feq_i, flt_i, heard, await, pick, later, some, rewrite, suffices, done, stop, lit, bin, un, unit_lit, load, look, store, assigns_last, no_more, and_then, of_opd, first, blocks, branches, skips, exec, returns, enter, alloc_all, pass_all, free_all, look_at, get, through, sets, lands_as, env, tables, yes, layout, RattleType, owns, Slot, plain, types_at, Ptr, RawPtr, block_ptr, null_ptr, ptr_val, tests_null, nothing, peeks, only, calls_at, Lasts, lasts, at_exit, triple_of, framed, Stays, stay_dropped, walk_of, ends_at, Goes-dropped, handle_tells, after, None, Some, Option, proved_at, Bx, fat, is_at, owns_at, part_at, group, ◌^◌}
use base.Fraction.{full_share}
use borrow.Table.OneValue.{part_out, part_in}
use denote.Laws.{Is, shows}
use Rattle.sand_c.proofs.HandleSteps.{FromHeap, passed, handle_in, handle_out, in_heap, word}
use Rattle.sand_c.specs.contracts.owned_pass.OwnedPass.{the_row as Held}
use Rattle.sand_c.proofs.owned_pass.OwnedPass.TheLaws as held
use Rattle.sand_c.specs.contracts.pass_handle.SandpilePass as Handle
use Rattle.sand_c.proofs.pass_handle.SandpilePass.TheLaws as handle
use Rattle.sand_c.specs.contracts.pass_handle.SandpilePass.freed as g
use Rattle.sand_c.proofs.pass_handle.SandpilePass.freed.Met.{met}
use Rattle.sand_c.specs.Handles.{freed}
use Rattle.sand_c.specs.contracts.passing.sandpile_pass_free.{ended, clauses}
use Rattle.sand_c.specs.contracts.passing.sandpile_pass_free.Key.{name as #self}
use Rattle.sand_c.proofs.passing.sandpile_pass_free.Statement.{statement}
use Rattle.sand_c.proofs.passing.sandpile_pass_free.Code as code

pub sandpile_pass_free_spec : {M : Type 1} → statement M
sandpile_pass_free_spec 𝓤 𝓛 𝓜 𝓡 wired =
    let E : Bx = in_heap Held held.the_row_laws in let H = 𝓛.H in let 𝓣 = tables 𝓤 H 𝓜 𝓡 𝓡.env in let fn = code.function in
    let En = ended in let c = clauses 𝓛 𝓜.mem 𝓡.returns in let Row : RattleType = Handle.the_row in
    let FromC : Slot 0 = plain (λ _. RawPtr) in
    let hs : Stays En.signature.params En.kept = (stay_dropped FromHeap yes, (stay_dropped FromC yes, tt)) in
    proved_at 𝓛 En hs c 𝓜 𝓡 (Goes-dropped 𝓛 0 FromHeap yes (λ κs x f. refl), (Goes-dropped 𝓛 0 FromC yes (λ κs x f. refl), tt)) #self fn (code.unfolded 𝓤 H 𝓜 𝓡 wired) (λ z are.
    let a = z.0.3.0 in let p = z.0.3.1.0 in let us = z.0.4.0 in
    let Post : Val → SProp 𝓤 = (walk_of 𝓛 En hs c).post z in let Run : List Val → SProp 𝓤 = λ ws. WpFn 𝓤 H 𝓣.C 𝓣.Λ fn ws Post in
    qed 𝓛 ((‵ ftrue ⊛ ‵ (owns (types_at En.signature.params z.0.0) z.0.3 z.0.4)) ∷ raw ((c z.0.0 z.0.3).requires z.1) ∷ []) ∵ split ! $ drop ! $ fsplit ! $
    handle_tells E.al ! a us (λ e is_us fits. move ! (2 ∷ 0 ∷ []) $ use1 𝓛 (‵ (is_at Row p z.1)) (id⊢ 𝓤 _) $
    -- [the handle, or that the pointer is null; the allocator; the pointer]
    let name = Handle.the_type.name in let nil : Row.Denot = record { at = null_ptr; held = None } in
    let runs : (q : Ptr) → p ≡ q → ent 𝓤 (Run (e ∷ ptr_val q ∷ [])) (Run (us ++ (z.0.4.1.0 ++ []))) =
    λ q at. subst (λ (vs : List Val). ent 𝓤 (Run (e ∷ ptr_val q ∷ [])) (Run vs)) (λ i. sym is_us i ++ (sym (are.1.0 ∙ ap (λ (r : Ptr). ptr_val r ∷ []) at) i ++ [])) (id⊢ 𝓤 _) in
    passed Row ! p z.1
    (λ at none. drop ! $ drop ! $ suffices ! (Run (e ∷ vnull ∷ [])) (runs null_ptr at) $
    enter ! 𝓣.C 𝓣.Λ fn (e ∷ vnull ∷ []) Post $ alloc_all ! (λ l. pass_all ! refl (fits, ((tt, record { fits = lit< tt }), tt)) $ let Ev = env fn.locals l in
    sets ! (bin ! (get ! refl) (lit ! tt) tt) refl (tt, tt) $ sets ! (un ! (get ! refl) tt) refl (tt, tt) $ first ! $ branches ! (get ! refl)
    (λ wrong. absurd wrong)
    (λ _. skips ! $ exec ! 𝓣.C 𝓣.Λ Ev (after 3 fn.body) (at_ret Ev Post) $ sets ! (of_opd ! (unit_lit !)) refl (tt, tt) $ returns ! (look_at ! 0 refl) $ free_all ! refl $
    feq_i ! Ptr p null_ptr at $ rewrite ! 0 (λ (m : Option Row.Denot). ‵ (is_at Row p (freed nil m))) (sym none) refl $
    suffices ! _ (ends_at 𝓛 En hs c z vunit tt (tt, (tt, tt)) (tt, (tt, tt))) $
    feq_i ! (List Val) (vunit ∷ []) (vunit ∷ []) refl $ nothing ! $ nothing ! $ join ! $ nothing ! $ join ! $ nothing ! $ group ! 3 $ done !)))
    (λ b o h at one ok. let q : Ptr = block_ptr b o in
    use1 𝓛 (some (λ (v : Val). ‵ (fat full_share (layout Row) b o v) ⊛ ‵ (Row.own_val h (v ∷ [])))) (part_out 𝓛 Row refl full_share h b o) $ pick ! (λ v. split ! $ move ! (1 ∷ []) $
    peeks ! Row (Is Row) (shows 𝓛 Row) h (v ∷ []) (λ is. let good = ((handle.the_row_laws.lawful 𝓛).typed h (v ∷ []) is).0 in
    -- [what the handle owns; its cell; the allocator; the pointer]
    suffices ! (Run (e ∷ vptr b o ∷ [])) (runs q at) $
    enter ! 𝓣.C 𝓣.Λ fn (e ∷ vptr b o ∷ []) Post $ alloc_all ! (λ l. pass_all ! refl (fits, ((tt, tt), tt)) $ let Ev = env fn.locals l in
    sets ! (bin ! (get ! refl) (lit ! tt) (tests_null q ok)) refl (tt, tt) $ sets ! (un ! (get ! refl) tt) refl (tt, tt) $ first ! $ branches ! (get ! refl)
    (λ _. blocks ! $ sets ! (of_opd ! (load ! (through ! refl (stop !)) (look ! 1 refl))) refl good $
    let G = triple_of 𝓛 g.signature (g.spec 𝓛 𝓜.mem 𝓡.returns) in let does = met 𝓤 𝓛 𝓜 𝓡 (code.calls-sand_c::pass_handle::SandpilePass::freed 𝓡.env wired) in
    let y : G.Ghost = ((tt, tt, tt, (h, (a, tt)), (v ∷ [], (e ∷ [], tt))), tt) in
    nothing ! $ move ! (3 ∷ 0 ∷ []) $ join ! $ move ! (1 ∷ 0 ∷ []) $ join ! $ nothing ! $ join ! $ nothing ! $ move ! (1 ∷ 0 ∷ []) $ use2 𝓛 (raw (G.pre y)) (id⊢ 𝓤 _) $
    calls_at ! (framed 𝓤 H 𝓜 𝓣) G does y (and_then ! (get ! refl) (and_then ! (get ! refl) (no_more !))) (λ u.
    use1 𝓛 (later (some (λ (r : Row.Denot). (‵ ftrue ⊛ ‵ (Row.own_val r (u ∷ []))) ⊛
    some (λ (ws : Lasts g.ended y.0.0 y.0.3). ‵ (lasts g.ended y.0.0 y.0.3 ws) ⊛ raw ((g.clauses 𝓛 𝓜.mem 𝓡.returns y.0.0 y.0.3).ensures tt r (at_exit g.ended y.0.0 y.0.3 ws)))))) (id⊢ 𝓤 _) $
    await ! tt $ pick ! (λ r. split ! $ split ! $ drop ! $ move ! (1 ∷ []) $ pick ! (λ ws. split ! $ drop ! $ heard ! (r.held ≡ None) (λ is_none.
    peeks ! Row (Is Row) (shows 𝓛 Row) r (u ∷ []) (λ is'. let good' = ((handle.the_row_laws.lawful 𝓛).typed r (u ∷ []) is').0 in
    handle_out Held name ! r.at r.held (u ∷ []) (λ is_word. rewrite ! 0 (λ (m : Option Held.Denot). ‵ (owns_at Held r.at m)) is_none refl $ feq_l ! (λ is_null.
    lands_as ! refl refl good' $ assigns_last ! (of_opd ! (get ! refl)) (through ! refl (stop !)) (store ! 0 refl good') $
    exec ! 𝓣.C 𝓣.Λ Ev (after 3 fn.body) (at_ret Ev Post) $ sets ! (of_opd ! (unit_lit !)) refl (tt, tt) $ returns ! (look_at ! 0 refl) $ free_all ! refl $
    -- [the cell; the pointer]
    rewrite ! 0 (λ (w : Val). ‵ (fat full_share (layout Row) b o w)) (ap only is_word ∙ ap word is_null) refl $
    feq_i ! Ptr null_ptr null_ptr refl $ handle_in Held name ! null_ptr None $ move ! (1 ∷ 0 ∷ []) $
    use2 𝓛 (‵ (part_at Row full_share nil b o)) (part_in 𝓛 Row refl full_share nil b o (word null_ptr)) $
    flt_i ! o (2 ^ 63) ok $ move ! (1 ∷ 0 ∷ []) $ fjoin ! $ use1 𝓛 (‵ (is_at Row q (Some nil))) (id⊢ 𝓤 _) $
    rewrite ! 0 (λ (r' : Ptr). ‵ (is_at Row r' (Some nil))) (sym at) refl $ rewrite ! 0 (λ (m : Option Row.Denot). ‵ (is_at Row p (freed nil m))) (sym one) refl $
    keep ! (0 ∷ []) $ suffices ! _ (ends_at 𝓛 En hs c z vunit tt (tt, (tt, tt)) (tt, (tt, tt))) $
    feq_i ! (List Val) (vunit ∷ []) (vunit ∷ []) refl $ nothing ! $ nothing ! $ join ! $ nothing ! $ join ! $ nothing ! $ group ! 3 $ done !))))))))
    (λ wrong. absurd wrong)))))))
