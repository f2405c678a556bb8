-- What the pointer leads to is lent; the call that does the work gets it, and all else as it came.
use Rattle.sand_c.proofs.Common.{◌≡◌, ◌+◌, ◌^◌, ℕ, ap, List, [], ◌∷◌, ◌++◌, refl, sym, subst, lit<, Val, vint, vptr, vnull, vcons, vnil, Body, named, seq, assign, place, rv_opd, copy, aggregate, int, w8, w32, SProp, ent, id⊢, ftrue, flft, WpFn, Wp, after_seq, at_return, ‵, raw, ◌⊛◌, at_ret, any_q, ◌$◌, ◌∵◌, !, qed, move, keep, drop, use0, use1, join, split, fsplit, fjoin, feq_i, feq_l, flt_l, flt_i, rewrite, await, pick, use2, some, later, suffices, done, agg, stop, fld, lit, bin, load, look, addr, no_more, and_then, of_opd, first, blocks, branches, exec, returns, enter, alloc_all, pass_all, free_all, look_at, get, through, sets, sets_last, lands_as, env, live, tables, RefOf, u32, yes, layout, RattleType, owns, ShrRef, MutRef, lent_from, Slot, plain, types_at, block_ptr, ptr_val, tests_null, nothing, only, calls_at, Lasts, lasts, at_exit, triple_of, framed, Stays, stay_dropped, gave_ref, walk_of, ends_at, Goes-dropped, Goes-gave_ref, after, Good, Some-of, none_of, Option, None, Some, proved_at, Sq, prop, holding, forget_but, seen_in, Valss}
use Rattle.core.specs.contracts.option.Option as O
use Rattle.sand_c.proofs.ReadSteps.{S, shows_at, at_in, at_out, sees}
use Rattle.sand_c.specs.contracts.owned_pass.OwnedPass.{the_row as Held}
use Rattle.sand_c.specs.contracts.lent.LentPass as Seen
use Rattle.sand_c.specs.contracts.holding.SandpileHolding.{the_row as Out}
use Rattle.sand_c.specs.contracts.reading.holding_in as g
use Rattle.sand_c.proofs.reading.holding_in.Met.{met}
use Rattle.sand_c.specs.contracts.reading.sandpile_pass_holding.{ended, clauses}
use Rattle.sand_c.specs.contracts.reading.sandpile_pass_holding.Key.{name as #self}
use Rattle.sand_c.proofs.reading.sandpile_pass_holding.Statement.{statement}
use Rattle.sand_c.proofs.reading.sandpile_pass_holding.Code as code

abbrev wraps : Body
wraps = seq (assign (place 9 []) (rv_opd (copy (place 10 [])))) (assign (place 8 []) (aggregate (int w8 1 ∷ copy (place 9 []) ∷ [])))

pub sandpile_pass_holding_spec : {M : Type 1} → statement M
sandpile_pass_holding_spec 𝓤 𝓛 𝓜 𝓡 wired =
    let H = 𝓛.H in let 𝓣 = tables 𝓤 H 𝓜 𝓡 𝓡.env in let fn = code.function in
    let En = ended in let c = clauses 𝓛 𝓜.mem 𝓡.returns in
    let Self : Slot 2 = RefOf (0 ∷ []) tt (plain (λ _. Seen.the_row)) (λ _. tt) in
    let hs : Stays En.signature.params En.kept = (stay_dropped Self yes, (gave_ref (1 ∷ []) tt (plain (λ _. Out)), tt)) in
    proved_at 𝓛 En hs c 𝓜 𝓡 (Goes-dropped 𝓛 2 Self yes (λ κs x f. refl), (Goes-gave_ref 𝓛 2 1 tt (plain (λ _. Out)), tt)) #self fn (code.unfolded 𝓤 H 𝓜 𝓡 wired) (λ z are.
    let κ = z.0.0.0 in let q = z.0.1.0 in let κ1 = z.0.0.1.0 in let q1 = z.0.1.1.0 in
    let b = z.0.3.0.ref_ptr.0 in let o = z.0.3.0.ref_ptr.1 in let p = z.0.3.0.now.0 in let l = z.1 in
    let name = Seen.the_type.name in let Ref : RattleType = ShrRef (named 0) l.life Held in let Opt : RattleType = O.the_row Ref in
    let Others : List RattleType = MutRef (named 1) κ1 Out ∷ [] in let Rest = ‵ (flft κ1 q1) ⊛ ‵ ftrue in
    let w2 : Val = vptr z.0.3.1.0.ref_ptr.0 z.0.3.1.0.ref_ptr.1 in let ran : List Val = vptr b o ∷ w2 ∷ [] in let others : Valss Others = (w2 ∷ [], tt) in
    let G = triple_of 𝓛 g.signature (g.spec 𝓛 𝓜.mem 𝓡.returns) in let does = met 𝓤 𝓛 𝓜 𝓡 (code.calls-sand_c::reading::holding_in 𝓡.env wired) in
    let Opt0 : Type 0 = Option Held.Denot in let Says : Opt0 → ℕ → Out.Denot × Unit {0} → SProp 𝓤 = λ h r w. (c z.0.0 z.0.3).ensures (record l { held = h }) r (at_exit En z.0.0 z.0.3 (tt, w)) in
    let Post : Val → SProp 𝓤 = (walk_of 𝓛 En hs c).post z in let Run : List Val → SProp 𝓤 = λ ws. WpFn 𝓤 H 𝓣.C 𝓣.Λ fn ws Post in
    -- the call, with what was seen in local 8
    let call : (λs : ℕ → ℕ) (h : Option Ref.Denot) (v : Val) → Good (layout Opt) v → l.held ≡ seen_in h
    → Sq 𝓛 (‵ (Opt.own_val h (v ∷ [])) ∷ ‵ (flft κ q) ∷ ‵ (S name 𝓛 κ b o p) ∷ ‵ (owns Others z.0.3.1 others) ∷ ‵ (flft l.life l.share) ∷ Rest
    ∷ holding 𝓛 (env fn.locals λs) ((1, vptr b o) ∷ (2, w2) ∷ (8, v) ∷ []))
    (prop (Wp 𝓤 H 𝓣.C 𝓣.Λ (env fn.locals λs) (after 5 fn.body) (at_return 𝓤 H (env fn.locals λs) Post))) =
    λ λs h v good is. (exec ! 𝓣.C 𝓣.Λ (env fn.locals λs) (after 5 fn.body) (at_ret (env fn.locals λs) Post) $
    sets ! (of_opd ! (get ! refl)) refl good $ sets ! (of_opd ! (get ! refl)) refl good $
    sets ! (addr ! (through ! refl (stop !))) refl (tt, tt) $
    move ! (0 ∷ 3 ∷ []) $ fjoin ! $ move ! (3 ∷ 4 ∷ []) $ join ! $ join ! $ nothing ! $ move ! (1 ∷ 0 ∷ []) $
    let y : G.Ghost = (((l.life, (κ1, tt)), (l.share, (q1, tt)), tt, (h, z.0.3.1), (v ∷ [], others)), tt) in
    use2 𝓛 (raw (G.pre y)) (id⊢ 𝓤 _) $
    calls_at ! (framed 𝓤 H 𝓜 𝓣) G does y (and_then ! (get ! refl) (and_then ! (get ! refl) (no_more !))) (λ u.
    use1 𝓛 (later (some (λ (r : ℕ). ((‵ (flft l.life l.share) ⊛ Rest) ⊛ ‵ (u32.own_val r (u ∷ []))) ⊛
    some (λ (ws : Lasts g.ended y.0.0 y.0.3). ‵ (lasts g.ended y.0.0 y.0.3 ws) ⊛ raw ((g.clauses 𝓛 𝓜.mem 𝓡.returns y.0.0 y.0.3).ensures tt r (at_exit g.ended y.0.0 y.0.3 ws)))))) (id⊢ 𝓤 _) $
    await ! tt $ pick ! (λ r. split ! $ move ! (1 ∷ []) $ pick ! (λ ws. split ! $ move ! (2 ∷ []) $ split ! $ move ! (1 ∷ []) $ fsplit ! $ feq_l ! (λ is_u. flt_l ! (λ fits.
    lands_as ! (ap only is_u) refl (tt, record { fits = fits }) $ returns ! (look_at ! 0 refl) $ free_all ! refl $
    -- [the tokens; what the references are at last; what the call promises; the token of the handle; the handle]
    suffices ! _ (ends_at 𝓛 En hs c z (vint w32 r) r (tt, ws.1) (tt, (tt, tt))) $
    split ! $ move ! (0 ∷ 3 ∷ []) $ join ! $ use1 𝓛 (raw (Says (seen_in h) r ws.1)) (id⊢ 𝓤 _) $ rewrite ! 0 (λ (h : Opt0). raw (Says h r ws.1)) (sym is) refl $
    flt_i ! r (2 ^ 32) fits $ feq_i ! (List Val) (vint w32 r ∷ []) (vint w32 r ∷ []) refl $ fjoin ! $ move ! (3 ∷ 0 ∷ []) $ join ! $
    move ! (3 ∷ 2 ∷ []) $ join ! $ join ! $ join ! $ keep ! (0 ∷ []) $ done !)))))) in
    qed 𝓛 (((‵ (flft κ q) ⊛ Rest) ⊛ ‵ (owns (types_at En.signature.params z.0.0) z.0.3 z.0.4)) ∷ raw ((c z.0.0 z.0.3).requires z.1) ∷ []) ∵
    split ! $ split ! $ move ! (3 ∷ []) $ use1 𝓛 (‵ (lent_from Held p l.held l.life) ⊛ ‵ (flft l.life l.share)) (id⊢ 𝓤 _) $ split ! $
    -- [what is lent; its token; the token of the handle; the other tokens; the arguments]
    move ! (4 ∷ []) $ fsplit ! $ move ! (1 ∷ []) $ use1 𝓛 (‵ (owns Others z.0.3.1 z.0.4.1)) (id⊢ 𝓤 _) $
    rewrite ! 0 (λ (us : Valss Others). ‵ (owns Others z.0.3.1 us)) (λ i. (are.1.0.0 i, tt)) refl $
    move ! (1 ∷ []) $ fsplit ! $ drop ! $ move ! (2 ∷ 0 ∷ 4 ∷ 1 ∷ 3 ∷ 5 ∷ []) $
    -- [what is lent; the handle; its token; the other arguments; the token of what is lent; the other tokens]
    suffices ! (Run ran) (subst (λ (us : List Val). ent 𝓤 (Run ran) (Run us)) (sym (λ i. are.0.0 i ++ (are.1.0.0 i ++ []))) (id⊢ 𝓤 (Run ran))) $
    sees Held ! l.life p l.held
    (λ at none. enter ! 𝓣.C 𝓣.Λ fn ran Post $ alloc_all ! (λ λs. pass_all ! refl ((tt, tt), ((tt, tt), tt)) $
    at_in ! tt p vnull (ap ptr_val at) b (o + 0) (shows_at name 𝓛 κ b o p) (λ q''.
    sets ! (of_opd ! (load ! (through ! refl (fld ! refl (stop !))) (look ! 1 refl))) refl (tt, record { fits = lit< tt }) $
    at_out ! tt p vnull (ap ptr_val at) b (o + 0) $
    sets ! (of_opd ! (get ! refl)) refl (tt, record { fits = lit< tt }) $ sets ! (of_opd ! (get ! refl)) refl (tt, record { fits = lit< tt }) $
    sets ! (bin ! (get ! refl) (lit ! tt) tt) refl (tt, tt) $ first ! $ branches ! (get ! refl)
    (λ _. let good : Good (layout Opt) (live 0 vnil) = (tt, (record { fits = lit< tt }, tt)) in
    sets_last ! (agg ! (and_then ! (lit ! tt) (no_more !))) refl good $ forget_but ! (env fn.locals λs) (1 ∷ 2 ∷ 8 ∷ []) refl $
    use0 𝓛 (‵ (Opt.own_val None (live 0 vnil ∷ []))) (none_of 𝓛 Ref) $ call λs None (live 0 vnil) good none)
    (λ wrong. absurd wrong))))
    (λ b' o' x at one ok. enter ! 𝓣.C 𝓣.Λ fn ran Post $ alloc_all ! (λ λs. pass_all ! refl ((tt, tt), ((tt, tt), tt)) $ let Ev = env fn.locals λs in
    let seen' : Ref.Denot = record { ref_ptr = (b', o'); now = x } in let v' : Val = live 1 (vcons (vptr b' o') vnil) in
    let good : Good (layout Opt) v' = (tt, (record { fits = lit< tt }, (tt, tt))) in
    let Then = any_q (after_seq 𝓤 H (Wp 𝓤 H 𝓣.C 𝓣.Λ Ev (after 5 fn.body) (at_return 𝓤 H Ev Post)) (at_return 𝓤 H Ev Post)) in
    move ! (1 ∷ 2 ∷ []) $ at_in ! tt p (vptr b' o') (ap ptr_val at) b (o + 0) (shows_at name 𝓛 κ b o p) (λ q''.
    sets ! (of_opd ! (load ! (through ! refl (fld ! refl (stop !))) (look ! 1 refl))) refl (tt, tt) $
    at_out ! tt p (vptr b' o') (ap ptr_val at) b (o + 0) $
    sets ! (of_opd ! (get ! refl)) refl (tt, tt) $ sets ! (of_opd ! (get ! refl)) refl (tt, tt) $
    sets ! (bin ! (get ! refl) (lit ! tt) (tests_null (block_ptr b' o') ok)) refl (tt, tt) $ first ! $ branches ! (get ! refl)
    (λ wrong. absurd wrong)
    (λ _. first ! $ blocks ! $ sets_last ! (addr ! (through ! refl (stop !))) refl (tt, tt) $ exec ! 𝓣.C 𝓣.Λ Ev wraps Then $
    sets ! (of_opd ! (get ! refl)) refl (tt, tt) $ sets_last ! (agg ! (and_then ! (lit ! tt) (and_then ! (get ! refl) (no_more !)))) refl good $
    forget_but ! Ev (1 ∷ 2 ∷ 8 ∷ []) refl $ move ! (2 ∷ []) $ feq_i ! (List Val) (vptr b' o' ∷ []) (vptr b' o' ∷ []) refl $ fjoin ! $
    use1 𝓛 (‵ (Opt.own_val (Some seen') (v' ∷ []))) (Some-of 𝓛 Ref seen' (vptr b' o')) $ call λs (Some seen') v' good one)))))
