-- The pointer is copied, and what the parts own goes with it. The allocator owns nothing.
use Rattle.sand_c.proofs.Common.{List, [], ◌∷◌, ◌++◌, refl, sym, subst, Val, SProp, ent, id⊢, ftrue, WpFn, ‵, raw, ◌⊛◌, ◌$◌, ◌∵◌, !, qed, keep, drop, use1, join, split, fsplit, fjoin, suffices, done, whole, sub, agg, stop, fld, no_more, and_then, of_opd, returns, enter, alloc_all, pass_all, free_all, look_at, get, get_in, sets, tables, yes, owns, block_ptr, Slot, plain, types_at, nothing, says, Stays, stay_dropped, walk_of, ends_at, Goes-dropped, Some, proved_at, Bx, D, B, box_typed, box_out, owns_at}
use Rattle.std_alloc.proofs.BoxSteps.Form as box
use Rattle.sand_c.proofs.HandleSteps.{handle_in, in_heap, parts_of, word}
use Rattle.sand_c.specs.contracts.drive.Drive.{the_row as Held}
use Rattle.sand_c.proofs.drive.Drive.TheLaws as held
use Rattle.sand_c.specs.contracts.drive_handle.SandpileDrive as Handle
use Rattle.sand_c.specs.contracts.drive_handle.SandpileDrive.of_parts.{ended, clauses}
use Rattle.sand_c.specs.contracts.drive_handle.SandpileDrive.of_parts.Key.{name as #self}
use Rattle.sand_c.proofs.drive_handle.SandpileDrive.of_parts.Statement.{statement}
use Rattle.sand_c.proofs.drive_handle.SandpileDrive.of_parts.Code as code

pub of_parts_spec : {M : Type 1} → statement M
of_parts_spec 𝓤 𝓛 𝓜 𝓡 wired =
    let E : Bx = in_heap Held held.the_row_laws in let FromParts : Slot 0 = plain (λ _. parts_of Held) in
    let H = 𝓛.H in let 𝓣 = tables 𝓤 H 𝓜 𝓡 𝓡.env in let fn = code.function in
    let En = ended in let c = clauses 𝓛 𝓜.mem 𝓡.returns in
    let hs : Stays En.signature.params En.kept = (stay_dropped FromParts yes, tt) in
    proved_at 𝓛 En hs c 𝓜 𝓡 (Goes-dropped 𝓛 0 FromParts yes (λ κs x f. refl), tt) #self fn (code.unfolded 𝓤 H 𝓜 𝓡 wired) (λ z are.
    let Post : Val → SProp 𝓤 = (walk_of 𝓛 En hs c).post z in let Run : List Val → SProp 𝓤 = λ ws. WpFn 𝓤 H 𝓣.C 𝓣.Λ fn ws Post in
    let v : D E = record { ptr = z.0.3.0.at; alloc = z.0.3.0.alloc; value = z.0.3.0.value } in
    qed 𝓛 ((‵ ftrue ⊛ ‵ (owns (types_at En.signature.params z.0.0) z.0.3 z.0.4)) ∷ raw ((c z.0.0 z.0.3).requires z.1) ∷ []) ∵ split ! $ drop ! $ fsplit ! $
    use1 𝓛 (‵ ((B E).own_val v z.0.4.0)) (id⊢ 𝓤 _) $
    box_out E ! v z.0.4.0 (λ b o h at ws fits. fjoin ! $ keep ! (0 ∷ []) $
    let p = block_ptr b o in let w = box.word E h b o in
    use1 𝓛 (‵ (owns_at Held p (Some v.value))) (id⊢ 𝓤 _) $ handle_in Held Handle.the_type.name ! p (Some v.value) $
    suffices ! (Run (w ∷ [])) (subst (λ (us : List Val). ent 𝓤 (Run (w ∷ [])) (Run us)) (sym (λ i. ws i ++ [])) (id⊢ 𝓤 (Run (w ∷ [])))) $
    enter ! 𝓣.C 𝓣.Λ fn (w ∷ []) Post $ alloc_all ! (λ l. pass_all ! refl (box_typed E h b o fits, tt) $
    sets ! (of_opd ! (get_in ! (fld ! refl (stop !)) (sub ! 0 refl (whole !)))) refl (tt, tt) $
    sets ! (of_opd ! (get ! refl)) refl (tt, tt) $
    sets ! (agg ! (and_then ! (get ! refl) (no_more !))) refl (tt, (tt, tt)) $
    returns ! (look_at ! 0 refl) $ free_all ! refl $
    suffices ! _ (ends_at 𝓛 En hs c z (word p) (record { at = p; held = Some v.value }) (tt, tt) (tt, tt)) $ says ! refl $
    nothing ! $ nothing ! $ fjoin ! $ join ! $ nothing ! $ join ! $ done !)))
