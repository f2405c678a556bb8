-- The call takes the box apart; the parts own what it owned.
use Rattle.sand_c.proofs.Common.{◌≡◌, ◌∙◌, List, [], ◌∷◌, ◌++◌, ap, refl, sym, subst, a_type, dcons, dnil, Val, vstruct, of_list, SProp, ent, id⊢, never, fst∗, ftrue, flft, WpFn, sem, ‵, raw, ◌⊛◌, some, later, ◌$◌, ◌∵◌, !, qed, move, keep, drop, use1, join, split, split3, pick, rewrite, fsplit, fjoin, suffices, await, done, whole, sub, agg, stop, fld, no_more, and_then, of_opd, returns, enter, alloc_all, pass_all, free_all, look_at, get, get_in, sets, lands_as, fact, tables, no, bounded, owns, Ptr, RawPtr, block_ptr, null_ptr, ptr_val, in_a_block, types_at, type_at, plain, heard, nothing, calls_at, Lasts, lasts, triple_of, framed, says, Stays, stay_dropped, walk_of, ends_at, token, Goes-blank, proved_at, Bx, D, τ, R, P, B, word, handle, box_typed, box_out, box_in}
use mir.MapTy.{inst_fn}
use mir.Raw.{raw as bare}
use denote.Struct.Tuple.{Tuple}
use Rattle.std_alloc.specs.Box.Ownership.{box_owns}
use Rattle.std_alloc.specs.contracts.boxed.Box.into_raw_with_allocator as into_raw
use Rattle.std_alloc.proofs.boxed.Box.into_raw_with_allocator.Met.{met}
use Rattle.sand_c.proofs.PartsSteps.{pair_out}
use Rattle.sand_c.specs.contracts.parts.Parts.of.{ended, clauses}
use Rattle.sand_c.specs.contracts.parts.Parts.of.Key.{name as #self}
use Rattle.sand_c.proofs.parts.Parts.of.Statement.{statement}
use Rattle.sand_c.proofs.parts.Parts.of.Code as code

pub of_spec : {M : Type 1} → statement M
of_spec 𝓤 𝓛 𝓜 𝓡 wired X Z LX LZ g d dd dx allocates drops glue =
    let H = 𝓛.H in let 𝓣 = tables 𝓤 H 𝓜 𝓡 𝓡.env in
    let E : Bx = record { row = X; laws = LX; al = record { row = Z; laws = LZ; g = g; d = d; drops = dd } } in
    let inst = bounded (a_type ∷ a_type ∷ []) (X, (Z, tt)) (dcons d (dcons dd (dcons dx dnil))) in
    let fn = inst_fn inst code.function in
    let En = ended X Z g d dd dx in let c = clauses X Z g d dd dx 𝓛 𝓜.mem 𝓡.returns in
    let hs : Stays En.signature.params En.kept = (stay_dropped (plain (λ _. B E)) no, tt) in
    let k = triple_of 𝓛 (into_raw.signature X Z g d dd dx) (into_raw.spec X Z g d dd dx 𝓛 𝓜.mem 𝓡.returns) in
    let parts_to_box = met 𝓤 𝓛 𝓜 𝓡 (code.calls-std_alloc::boxed::Box::into_raw_with_allocator 𝓡.env wired) X Z LX LZ g d dd dx allocates drops glue in
    proved_at 𝓛 En hs c 𝓜 𝓡 (Goes-blank 𝓛 2 (plain (λ _. B E)) no (λ κs x f. tt), tt) (#self inst) fn (code.unfolded 𝓤 H 𝓜 𝓡 wired (X, (Z, tt)) d dd dx) (λ z are.
    let κs = z.0.0 in let qs = z.0.1 in let v = z.0.3.0 in let a = v.alloc in
    let Post : Val → SProp 𝓤 = (walk_of 𝓛 En hs c).post z in let Run : List Val → SProp 𝓤 = λ ws. WpFn 𝓤 H 𝓣.C 𝓣.Λ fn ws Post in
    let To = type_at En.signature.result κs in
    let lives = ‵ (flft κs.0 qs.0) ⊛ ‵ (flft κs.1.0 qs.1.0) ⊛ ‵ ftrue in
    qed 𝓛 ((lives ⊛ ‵ (owns (types_at En.signature.params κs) z.0.3 z.0.4)) ∷ raw ((c κs z.0.3).requires z.1) ∷ []) ∵
    split ! $ move ! (1 ∷ []) $ fsplit ! $ box_out E ! v z.0.4.0 (λ b o h at ws fits. box_in E ! v b o v.value at refl $
    let w = word E h b o in let y : k.Ghost = ((κs, qs, tt, (v, tt), (w ∷ [], tt)), tt) in
    -- [the box; true; the lifetimes; what is required]
    fjoin ! $ move ! (1 ∷ 0 ∷ []) $ join ! $ join ! $ use1 𝓛 (raw (k.pre y)) (id⊢ 𝓤 _) $
    suffices ! (Run (w ∷ [])) (subst (λ (us : List Val). ent 𝓤 (Run (w ∷ [])) (Run us)) (sym (λ i. ws i ++ [])) (id⊢ 𝓤 (Run (w ∷ [])))) $
    enter ! 𝓣.C 𝓣.Λ fn (w ∷ []) Post $ alloc_all ! (λ l. pass_all ! refl (box_typed E h b o fits, tt) $
    sets ! (of_opd ! (get ! refl)) refl (box_typed E h b o fits) $
    calls_at ! (framed 𝓤 H 𝓜 𝓣) k parts_to_box y (and_then ! (get ! refl) (no_more !)) (λ u.
    use1 𝓛 (later (some (λ (r : Ptr × Z.Denot). (lives ⊛ ‵ ((Tuple (RawPtr ∷ P E ∷ [])).own_val r (u ∷ []))) ⊛
    some (λ (ls : Lasts (into_raw.ended X Z g d dd dx) κs y.0.3). ‵ (lasts (into_raw.ended X Z g d dd dx) κs y.0.3 ls)
    ⊛ (raw (fact 𝓤 (r.1 ≡ a)) ⊛ ‵ (box_owns (token E.al a) (R E) r.0 v.value)))))) (id⊢ 𝓤 _) $
    await ! tt $ pick ! (λ r. split ! $ move ! (1 ∷ []) $ pick ! (λ ls. split3 ! $ drop ! $ heard ! (r.1 ≡ a) (λ same.
    in_a_block ! r.0 (λ p. box_owns (token E.al a) (R E) p v.value) (fst∗ 𝓤 (never 𝓤) (sem 𝓛 (token E.al a (bare (τ E)) null_ptr))) (λ b' o' at'.
    move ! (1 ∷ []) $ split ! $ move ! (1 ∷ []) $ pair_out E ! r u (λ h' is_u fits'.
    rewrite ! 0 (λ (x : Z.Denot). ‵ (handle E x h')) same refl $
    -- [the handle; the lifetimes; what the box owned]
    let d' : D E = record { ptr = block_ptr b' o'; alloc = a; value = v.value } in
    let made : To.Denot = record { at = block_ptr b' o'; alloc = a; value = v.value } in
    let good = box_typed E h' b' o' fits' in
    lands_as ! (is_u ∙ ap (λ (p : Ptr). vstruct (of_list (ptr_val p ∷ h' ∷ []))) at') refl good $
    sets ! (of_opd ! (get_in ! (fld ! refl (stop !)) (sub ! 0 refl (whole !)))) refl (tt, tt) $
    sets ! (of_opd ! (get_in ! (fld ! refl (stop !)) (sub ! 1 refl (whole !)))) refl fits' $
    sets ! (of_opd ! (get ! refl)) refl fits' $
    sets ! (agg ! (and_then ! (get ! refl) (and_then ! (get ! refl) (no_more !)))) refl good $
    returns ! (look_at ! 0 refl) $ free_all ! refl $
    move ! (2 ∷ []) $ fsplit ! $ box_in E ! d' b' o' v.value refl refl $ use1 𝓛 (‵ (To.own_val made (word E h' b' o' ∷ []))) (id⊢ 𝓤 _) $ keep ! (0 ∷ 1 ∷ []) $
    suffices ! _ (ends_at 𝓛 En hs c z (word E h' b' o') made ((tt, (tt, tt)), tt) (tt, tt)) $ says ! refl $
    nothing ! $ nothing ! $ fjoin ! $ join ! $ move ! (1 ∷ 0 ∷ []) $ join ! $ done !)))))))))
