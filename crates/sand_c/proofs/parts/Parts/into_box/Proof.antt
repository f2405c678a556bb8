-- What the parts own goes to `from_raw`, which makes a box of it.
use Rattle.sand_c.proofs.Common.{◌≡◌, List, [], ◌∷◌, ◌++◌, ap, refl, sym, subst, a_type, dcons, dnil, Val, vptr, SProp, ent, id⊢, ftrue, flft, WpFn, ‵, raw, ◌⊛◌, some, later, at_ret, ◌$◌, ◌∵◌, !, qed, move, drop, use1, join, split, split3, pick, rewrite, fsplit, fjoin, feq_i, suffices, await, done, whole, sub, stop, fld, no_more, and_then, of_opd, first, blocks, exec, returns, enter, alloc_all, pass_all, free_all, look_at, get, get_in, sets, lands_last, env, fact, tables, no, bounded, RattleType, owns, block_ptr, plain, heard, nothing, only, calls_at_last, Lasts, lasts, triple_of, framed, says, Stays, stay_dropped, walk_of, ends_at, Goes-blank, after, Good, proved_at, Bx, D, R, P, B, word, box_typed, box_out, box_in, layout}
use mir.MapTy.{inst_fn}
use contract.BorrowLft.{◌⊑◌}
use Rattle.std_alloc.specs.contracts.boxed.Box.from_raw as from_raw
use Rattle.std_alloc.proofs.boxed.Box.from_raw.Met.{met}
use Rattle.sand_c.specs.contracts.parts.Parts as Parts
use Rattle.sand_c.specs.contracts.parts.Parts.into_box.{ended, clauses}
use Rattle.sand_c.specs.contracts.parts.Parts.into_box.Key.{name as #self}
use Rattle.sand_c.proofs.parts.Parts.into_box.Statement.{statement}
use Rattle.sand_c.proofs.parts.Parts.into_box.Code as code

pub into_box_spec : {M : Type 1} → statement M
into_box_spec 𝓤 𝓛 𝓜 𝓡 wired X Z LX LZ g d dd allocates drops =
    let H = 𝓛.H in let 𝓣 = tables 𝓤 H 𝓜 𝓡 𝓡.env in
    let E : Bx = record { row = X; laws = LX; al = record { row = Z; laws = LZ; g = g; d = d; drops = dd } } in
    let inst = bounded (a_type ∷ a_type ∷ []) (X, (Z, tt)) (dcons d (dcons dd dnil)) in
    let fn = inst_fn inst code.function in
    let En = ended X Z g d dd in let c = clauses X Z g d dd 𝓛 𝓜.mem 𝓡.returns in
    let From : RattleType = Parts.the_row (R E) (P E) g in
    let hs : Stays En.signature.params En.kept = (stay_dropped (plain (λ _. From)) no, tt) in
    let k = triple_of 𝓛 (from_raw.signature X Z g d dd) (from_raw.spec X Z g d dd 𝓛 𝓜.mem 𝓡.returns) in
    let box_of_parts = met 𝓤 𝓛 𝓜 𝓡 (code.calls-std_alloc::boxed::Box::from_raw 𝓡.env wired) X Z LX LZ g d dd allocates drops in
    proved_at 𝓛 En hs c 𝓜 𝓡 (Goes-blank 𝓛 2 (plain (λ _. From)) no (λ κs x f. tt), tt) (#self inst) fn (code.unfolded 𝓤 H 𝓜 𝓡 wired (X, (Z, tt)) d dd) (λ z are.
    let κs = z.0.0 in let qs = z.0.1 in let a = z.0.3.0.alloc in let x = z.0.3.0.value in
    let v : D E = record { ptr = z.0.3.0.at; alloc = a; value = x } in
    let Post : Val → SProp 𝓤 = (walk_of 𝓛 En hs c).post z in let Run : List Val → SProp 𝓤 = λ ws. WpFn 𝓤 H 𝓣.C 𝓣.Λ fn ws Post in
    let lives = ‵ (flft κs.0 qs.0) ⊛ ‵ (flft κs.1.0 qs.1.0) ⊛ ‵ ftrue in
    let outlives = raw (fact 𝓤 (κs.0 ⊑ X.lives)) ⊛ raw (fact 𝓤 (κs.1.0 ⊑ Z.lives)) ⊛ ‵ ftrue in
    qed 𝓛 ((lives ⊛ ‵ (owns (From ∷ []) (z.0.3.0, tt) z.0.4)) ∷ outlives ∷ []) ∵
    split ! $ move ! (1 ∷ []) $ fsplit ! $ use1 𝓛 (‵ ((B E).own_val v z.0.4.0)) (id⊢ 𝓤 _) $
    box_out E ! v z.0.4.0 (λ b o h at ws fits. fjoin ! $
    let w = word E h b o in let y : k.Ghost = ((κs, qs, tt, (a, (block_ptr b o, tt)), (h ∷ [], (vptr b o ∷ [], tt))), x) in
    -- [what the box owns; the handle; true; the lifetimes; what they outlive]
    move ! (4 ∷ []) $ split3 ! $ move ! (2 ∷ []) $ drop ! $ move ! (1 ∷ 2 ∷ []) $ join ! $ move ! (1 ∷ 0 ∷ []) $ join ! $
    -- [what is required; the handle; true; the lifetimes]
    move ! (2 ∷ []) $ feq_i ! (List Val) (vptr b o ∷ []) (vptr b o ∷ []) refl $ fjoin ! $ move ! (2 ∷ 0 ∷ []) $ fjoin ! $
    move ! (2 ∷ 0 ∷ []) $ join ! $ join ! $ use1 𝓛 (raw (k.pre y)) (id⊢ 𝓤 _) $
    suffices ! (Run (w ∷ [])) (subst (λ (us : List Val). ent 𝓤 (Run (w ∷ [])) (Run us)) (sym (λ i. ws i ++ [])) (id⊢ 𝓤 (Run (w ∷ [])))) $
    enter ! 𝓣.C 𝓣.Λ fn (w ∷ []) Post $ alloc_all ! (λ l. pass_all ! refl (box_typed E h b o fits, tt) $ let Ev = env fn.locals l in
    sets ! (of_opd ! (get_in ! (fld ! refl (stop !)) (sub ! 0 refl (whole !)))) refl (tt, tt) $
    sets ! (of_opd ! (get_in ! (fld ! refl (stop !)) (sub ! 1 refl (whole !)))) refl fits $
    first ! $ blocks ! $ sets ! (of_opd ! (get ! refl)) refl fits $
    calls_at_last ! (framed 𝓤 H 𝓜 𝓣) k box_of_parts y (and_then ! (get ! refl) (and_then ! (get ! refl) (no_more !))) (λ u.
    use1 𝓛 (later (some (λ (r : D E). (lives ⊛ ‵ ((B E).own_val r (u ∷ []))) ⊛
    some (λ (ls : Lasts (from_raw.ended X Z g d dd) κs y.0.3). ‵ (lasts (from_raw.ended X Z g d dd) κs y.0.3 ls)
    ⊛ (raw (fact 𝓤 (r.value ≡ x)) ⊛ raw (fact 𝓤 (r.alloc ≡ a))))))) (id⊢ 𝓤 _) $
    await ! tt $ pick ! (λ r. split ! $ move ! (1 ∷ []) $ pick ! (λ ls. split3 ! $ drop ! $ heard ! (r.value ≡ x) (λ same. drop ! $ split ! $ move ! (1 ∷ []) $
    box_out E ! r (u ∷ []) (λ b' o' h' at' is_u fits'. box_in E ! r b' o' r.value at' refl $ rewrite ! 0 (λ (us : List Val). ‵ ((B E).own_val r us)) (sym is_u) refl $
    -- [the box; true; the lifetimes]
    let good : Good (layout (B E)) u = subst (Good (layout (B E))) (sym (ap only is_u)) (box_typed E h' b' o' fits') in
    lands_last ! refl good $ exec ! 𝓣.C 𝓣.Λ Ev (after 3 fn.body) (at_ret Ev Post) $
    sets ! (of_opd ! (get ! refl)) refl good $ returns ! (look_at ! 0 refl) $ free_all ! refl $
    suffices ! _ (ends_at 𝓛 En hs c z u r ((tt, (tt, tt)), tt) (tt, tt)) $ says ! same $
    nothing ! $ nothing ! $ fjoin ! $ join ! $ move ! (1 ∷ 0 ∷ []) $ join ! $ done !))))))))
