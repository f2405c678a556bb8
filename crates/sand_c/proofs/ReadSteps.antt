-- Reading through a `&` to a handle.
use Rattle.sand_c.proofs.Common.{◌≡◌, ◌∙◌, ap, ℕ, ◌+◌, List, [], ◌∷◌, refl, sym, Ura, Val, Sym, ty_ptr, ent, sep, never_e, Lft, Share, Fml, ftrue, fat, Logic, sem, Goal, Soaks, Step, step, Seq, Item, ‵, ◌⊛◌, ◌$◌, ◌∵◌, !, qed, given, learn, keep, move, drop, use1, split, rewrite, fsplit, feq_l, feq_i, flt_l, done, flft, cell_at, part_at, hidden_shr, RattleType, RowLaws, Ptr, RawPtr, block_ptr, null_ptr, coded_ptr, ptr_own, ptr_row_laws, rawptr_pure, ptr_val, Testable, Struct, Struct-row_laws, looks, shuts, nothing, Option, None, Some, lent_from}
use denote.Copied.{plain_Copied}
use denote.Struct.Laws.{RawPtr-laws}
use denote.Opens.{Shut, shr_dup, unhide, hide}
use Rattle.sand_c.proofs.HandleSteps.{shape}

module _ (name : Sym) {M : Type 1} {𝓤 : Ura M} (𝓛 : Logic 𝓤) (κ : Lft) (b o : ℕ) (p : Ptr) where
  abbrev Words : RattleType
  Words = Struct (shape name)

  abbrev pub S : Fml
  S = hidden_shr Words κ (p, tt) b o

  laws : RowLaws Words
  laws = Struct-row_laws (shape name) (ptr_row_laws, tt)

  -- a `&` to a handle shows its pointer
  pub shows_at : ent 𝓤 (sem 𝓛 S) (sep 𝓤 (sem 𝓛 (hidden_shr RawPtr κ p b (o + 0))) (sem 𝓛 S))
  shows_at = qed 𝓛 (‵ S ∷ []) ∵ shr_dup ! Words laws (p, tt) b o κ $ unhide ! $ fsplit ! $ fsplit ! $ hide ! $ keep ! (0 ∷ 3 ∷ []) $ done !

module _ {M : Type 1} {𝓤 : Ura M} {𝓛 : Logic 𝓤} {K : Type 0} {Γ : List (Item 𝓤)} {G : Goal 𝓤 𝓛.H} where
  -- [nothing; the pointer; the way back; S]
  pub at_in : K → Soaks G → {κ : Lft} {q : Share} {S : Fml} (p : Ptr) (v : Val) → ptr_val p ≡ v → (b at : ℕ) → ent 𝓤 (sem 𝓛 S) (sep 𝓤 (sem 𝓛 (hidden_shr RawPtr κ p b at)) (sem 𝓛 S))
      → ((q' : Share) → Seq K 𝓛 (‵ ftrue ∷ ‵ (fat q' ty_ptr b at v) ∷ Shut 𝓛 κ q (part_at RawPtr q' p b at) ∷ ‵ S ∷ Γ) G) → Seq K 𝓛 (‵ S ∷ ‵ (flft κ q) ∷ Γ) G
  at_in t z {κ} {q} {S} p v is b at shown k =
      use1 𝓛 (‵ (hidden_shr RawPtr κ p b at) ⊛ ‵ S) shown $ split t $ move t (0 ∷ 2 ∷ []) $
      looks t z RawPtr (plain_Copied 𝓛 Ptr coded_ptr (ty_ptr ∷ []) ptr_own rawptr_pure ptr_val RawPtr-laws.tells).opens p b at (λ q' vs. move t (1 ∷ []) $ feq_l t (λ e.
      rewrite t 0 (λ (us : List Val). ‵ (cell_at q' RawPtr.mir us b at)) (e ∙ ap (λ (w : Val). w ∷ []) is) refl $ move t (2 ∷ []) $ drop t $ nothing t $ k q'))

  pub at_out : K → Soaks G → {κ : Lft} {q q' : Share} (p : Ptr) (v : Val) → ptr_val p ≡ v → (b at : ℕ)
      → Step K 𝓛 (‵ (flft κ q) ∷ Γ) G (‵ ftrue ∷ ‵ (fat q' ty_ptr b at v) ∷ Shut 𝓛 κ q (part_at RawPtr q' p b at) ∷ Γ) G
  at_out t z {q' = q'} p v is b at = step (λ s.
      drop t $ feq_i t (List Val) (v ∷ []) (ptr_val p ∷ []) (ap (λ (w : Val). w ∷ []) (sym is)) $ move t (1 ∷ 0 ∷ []) $ shuts t z RawPtr q' p (v ∷ []) b at $ s)

module _ (R : RattleType) {M : Type 1} {𝓤 : Ura M} {𝓛 : Logic 𝓤} {K : Type 0} {Γ : List (Item 𝓤)} {G : Goal 𝓤 𝓛.H} where
  -- a handle holds nothing and is null, or holds a value and is a pointer that may be compared with null
  pub sees : K → (κ : Lft) (p : Ptr) (held : Option R.Denot)
      → (p ≡ null_ptr → held ≡ None → Seq K 𝓛 Γ G)
      → ((b o : ℕ) (x : R.Denot) → p ≡ block_ptr b o → held ≡ Some x → Testable (block_ptr b o)
      → Seq K 𝓛 (‵ (hidden_shr R κ x b o) ∷ Γ) G)
      → Seq K 𝓛 (‵ (lent_from R p held κ) ∷ Γ) G
  sees t κ p None none one = feq_l t (λ e. none e refl)
  sees t κ null_ptr (Some x) none one = fsplit t $ fsplit t $ use1 𝓛 (given ⊥ (‵ ftrue)) (never_e 𝓤 _) $ learn t (λ z. absurd z)
  sees t κ (block_ptr b o) (Some x) none one = fsplit t $ fsplit t $ drop t $ move t (1 ∷ []) $ flt_l t (λ ok. hide t $ one b o x refl refl ok)
