-- A null pointer, and nothing with it.
use Rattle.sand_c.proofs.Common.{[], ◌∷◌, refl, lit<, raw, ◌$◌, ◌∵◌, !, qed, drop, join, feq_i, suffices, done, agg, enter, lit, no_more, and_then, returns, alloc_all, pass_all, free_all, look_at, sets, tables, Ptr, null_ptr, nothing, walk_of, says, ends_at, None, proved}
use denote.Triple.Entry.{on_entry}
use Rattle.sand_c.proofs.HandleSteps.{handle_in, word}
use Rattle.sand_c.specs.contracts.drive.Drive.{the_row as Held}
use Rattle.sand_c.specs.contracts.drive_handle.SandpileDrive as Handle
use Rattle.sand_c.specs.contracts.drive_handle.SandpileDrive.empty as f
use Rattle.sand_c.proofs.drive_handle.SandpileDrive.empty.Statement.{statement}
use Rattle.sand_c.proofs.drive_handle.SandpileDrive.empty.Code as code

pub empty_spec : {M : Type 1} → statement M
empty_spec 𝓤 𝓛 𝓜 𝓡 wired =
    let c = f.clauses 𝓛 𝓜.mem 𝓡.returns in let W = walk_of 𝓛 f.ended tt c in let 𝓣 = tables 𝓤 𝓛.H 𝓜 𝓡 𝓡.env in
    proved 𝓛 f.ended tt c 𝓜 𝓡 tt f.Key.name code.function (code.unfolded 𝓤 𝓛.H 𝓜 𝓡 wired) (λ κs. tt) (λ κs. tt) (λ κs qs bounds a g are.
    let y : W.Ghost = ((κs, qs, bounds, a, tt), g) in
    qed 𝓛 (raw (on_entry 𝓛 f.signature κs qs a tt) ∷ raw ((c κs a).requires g) ∷ []) ∵ drop ! $ drop ! $
    enter ! _ _ _ _ _ $ alloc_all ! (λ l. pass_all ! refl tt $
    sets ! (agg ! (and_then ! (lit ! tt) (no_more !))) refl (tt, (record { fits = lit< tt }, tt)) $
    returns ! (look_at ! 0 refl) $ free_all ! refl $
    feq_i ! Ptr null_ptr null_ptr refl $ handle_in Held Handle.the_type.name ! null_ptr None $
    suffices ! _ (ends_at 𝓛 f.ended tt c y (word null_ptr) (record { at = null_ptr; held = None }) tt tt) $ says ! refl $
    nothing ! $ join ! $ nothing ! $ join ! $ done !))
