-- A pointer and the handle of its allocator, as `Box::into_raw_with_allocator` returns them, are one machine value.
use Rattle.sand_c.proofs.Common.{◌≡◌, ◌∙◌, List, [], ◌∷◌, ◌++◌, ap, Ura, Val, vstruct, of_list, Logic, Item, Goal, Seq, ‵, ◌$◌, move, drop, fsplit, fpick, feq_l, Ptr, RawPtr, ptr_val, only, Fits, handle_tells, Bx, P, handle}
use denote.Struct.Tuple.{Tuple}

module _ (E : Bx) {M : Type 1} {𝓤 : Ura M} {𝓛 : Logic 𝓤} {K : Type 0} {Γ : List (Item 𝓤)} {G : Goal 𝓤 𝓛.H} where
  pub pair_out : K → (r : Ptr × E.al.row.Denot) (u : Val)
      → ((h : Val) → u ≡ vstruct (of_list (ptr_val r.0 ∷ h ∷ [])) → Fits E.al h → Seq K 𝓛 (‵ (handle E r.1 h) ∷ Γ) G)
      → Seq K 𝓛 (‵ ((Tuple (RawPtr ∷ P E ∷ [])).own_val r (u ∷ [])) ∷ Γ) G
  pair_out t r u then =
      fpick t (λ vs. fsplit t $ feq_l t (λ is_u. fsplit t $ feq_l t (λ is_at. fsplit t $
      handle_tells E.al t r.1 vs.1.0 (λ h is_h fits. move t (1 ∷ []) $ drop t $
      then h (ap only (is_u ∙ (λ i. vstruct (of_list (is_at i ++ (is_h i ++ []))) ∷ []))) fits))))
