-- What C lends of a handle to calls that only read: a borrow of what the handle owns becomes it, it can be had twice, and it may be
-- had on another thread.
use Rattle.sand_c.proofs.Common.{◌^◌, [], ◌∷◌, Ura, Fml, Lft, Incl, feq, flt, fbor, ent, sep, wand, apply∗, guard, guard_i, Ty, Logic, sem, lfts, ‵, raw, ◌⊛◌, later, await, ◌$◌, !, qed, given, learn, drop, use1, use2, split, flt_i, updating, now, done, fact_use, lone, IsSync, Common, seen, RattleType, Ptr, null_ptr, count_of, lies_at, Testable, Option, None, Some, c_heap, may_free, owns_at, lent_from}
use base.Fraction.{full_share}
use mir.Raw.{raw as bare}
use denote.Param.Laws.{Laws}
use denote.Shares.{Shares-less}
use denote.Sharing.{ShrLaws, said}
use denote.SharingLaws.{said_shr_laws, beside_shr_laws}
use denote.Struct.Lending.{lent_at, lent_at_shr_laws, Lends, Lends-said, Lends-lies, Lends-both}
use Rattle.std_heap.proofs.GlobalToken.{dealloc_token-Testable}

-- what a reader has can be had twice, and for a shorter time
pub lent_laws : (R : RattleType) → Laws R → (p : Ptr) (held : Option R.Denot) → ShrLaws (lent_from R p held)
lent_laws R L p None = said_shr_laws (feq Ptr p null_ptr) tt
lent_laws R L p (Some x) = beside_shr_laws (lent_at R p x) (said (flt (count_of p) (2 ^ 63))) (lent_at_shr_laws R L.shr_laws p x) (said_shr_laws (flt (count_of p) (2 ^ 63)) tt)

module _ {M : Type 1} {𝓤 : Ura M} (𝓛 : Logic 𝓤) where
  open 𝓛 use {H, A}

  -- whoever may free a block knows, also while that right is lent, that its pointer may be compared with null
  Lends-right : (R : RattleType) (p : Ptr) (l : Lft) → Lends 𝓛 (may_free (bare (lone R.mir)) p) (said (flt (count_of p) (2 ^ 63))) l
  Lends-right R p l κ ts inc sp =
      let P : Fml = may_free (bare (lone R.mir)) p in
      qed 𝓛 (‵ (fbor κ P) ∷ raw (lfts 𝓛 ts) ∷ []) {P = H.⇛ (sep 𝓤 (sem 𝓛 (flt (count_of p) (2 ^ 63))) (lfts 𝓛 ts))} (
      updating ! $ use2 𝓛 (later (‵ P ⊛ raw (wand 𝓤 (sem 𝓛 P) (H.⇛ (sep 𝓤 (A.bor κ P) (lfts 𝓛 ts)))))) (𝓛.more.bor_acc_by κ ts P sp) $ await ! tt $ split ! $
      use1 𝓛 (given (Testable p) (‵ P)) (tells (bare (lone R.mir))) $ learn ! (λ ok.
      use2 𝓛 (later (‵ (fbor κ P) ⊛ raw (lfts 𝓛 ts))) (apply∗ 𝓤 (sem 𝓛 P) (H.⇛ (sep 𝓤 (A.bor κ P) (lfts 𝓛 ts)))) $ await ! tt $ split ! $ drop ! $
      flt_i ! (count_of p) (2 ^ 63) ok $ now ! $ done !))
    where
      tells : (τ : Ty) → ent 𝓤 (sem 𝓛 (may_free τ p)) (guard 𝓤 (Testable p) (sem 𝓛 (may_free τ p)))
      tells τ = fact_use 𝓤 (Testable p) (dealloc_token-Testable 𝓛 c_heap τ p) (guard_i 𝓤 (Testable p) (sem 𝓛 (may_free τ p)))

  -- a borrow of what a handle owns becomes what its reader has
  pub lends_from : (R : RattleType) → Laws R → (l : Lft) → Incl l R.lives → (p : Ptr) (held : Option R.Denot)
      → Lends 𝓛 (owns_at R p held) (lent_from R p held) l
  lends_from R L l inc p None = Lends-said 𝓛 (feq Ptr p null_ptr) tt l
  lends_from R L l inc p (Some x) = Lends-both 𝓛 (lies_at R full_share p x) (may_free (bare (lone R.mir)) p) (lent_at R p x) (said (flt (count_of p) (2 ^ 63))) l
      (Lends-lies 𝓛 R l p x (Shares-less 𝓛 R R.lives l inc (L.shares 𝓛) x)) (Lends-right R p l)

-- what a reader has may be read on another thread
pub crosses_lent : (R : RattleType) → IsSync R → (p : Ptr) (held : Option R.Denot) → Common (lent_from R p held)
crosses_lent R sync p None κ = tt
crosses_lent R sync p (Some x) κ = (seen R sync p x κ, tt)
