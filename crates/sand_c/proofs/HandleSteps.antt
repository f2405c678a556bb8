-- A handle is a pointer and what it owns: at null nothing, else a value in a block of its own.
use Rattle.sand_c.proofs.Common.{◌≡◌, ℕ, List, [], ◌∷◌, ◌++◌, refl, subst, Ura, Val, vstruct, of_list, Sym, impl, tnil, dnil, Fml, fsep, SProp, ent, guard, via, fst∗, snd∗, never, guard_i, Logic, sem, Item, Goal, Seq, Step, step, ‵, given, ◌$◌, move, drop, use1, learn, fsplit, fjoin, fpick, fpack, feq_l, feq_i, flt_l, ftrue, never_e, part_at, fact_use, lone, IsSend, RattleType, Valss, Slot, plain, Ptr, RawPtr, block_ptr, null_ptr, ptr_val, lies_at, in_a_block, Testable, nothing, Shape, Struct, within, Option, None, Some, lies, Bx, c_heap, may_free, owns_at, is_at}
use mir.Raw.{raw as bare}
use base.Fraction.{full_share}
use base.Shift.{Keyless}
use denote.Param.Laws.{Laws}
use Rattle.std.proofs.Crossing as crossing
use Rattle.std_alloc.specs.Box.Ownership.{box_owns}
use Rattle.std_heap.proofs.GlobalToken.{dealloc_token-Testable}
use Rattle.std_heap.specs.declared.Global.{Global}
use Rattle.std_heap.specs.contracts.Global as Heap
use Rattle.std_heap.specs.contracts.GlobalAllocator.TheImpl.{ghosts, dict}
use Rattle.std_heap.proofs.Global.TheLaws as heap
use Rattle.sand_c.specs.contracts.parts.Parts as Parts

-- a value in a block of C's heap
abbrev pub in_heap : (R : RattleType) → Laws R → Bx
in_heap R laws = record {
  row = R;
  laws = laws;
  al = record { row = Heap.the_row; laws = heap.the_row_laws; g = ghosts; d = dict; drops = impl [] tnil dnil };
}

abbrev pub parts_of : RattleType → RattleType
parts_of R = Parts.the_row R Heap.the_row ghosts

abbrev pub FromHeap : Slot 0
FromHeap = plain (λ _. Heap.the_row)

-- a handle's machine value
abbrev pub word : Ptr → Val
word p = vstruct (of_list (ptr_val p ∷ []))

-- a handle is a struct with one field
abbrev pub shape : Sym → Shape
shape name = record { name = name; args = []; types = []; fields = RawPtr ∷ [] }

-- a handle of this type, and what it owns
abbrev handle : (R : RattleType) → Sym → Ptr → Option R.Denot → List Val → Fml
handle R name p held vs = fsep ((Struct (shape name)).own_val (p, tt) vs) (owns_at R p held)

-- what a handle owns may go to another thread
pub crosses : (R : RattleType) → IsSend R → (p : Ptr) (held : Option R.Denot) → Keyless (owns_at R p held)
crosses R send p None = tt
crosses R send p (Some x) = (lies R send p x, crossing.frees.frees c_heap (bare (lone R.mir)) p)

module _ (R : RattleType) {M : Type 1} {𝓤 : Ura M} (𝓛 : Logic 𝓤) (a : Global) (p : Ptr) (x : R.Denot) where
  -- a pointer to a block may be compared with null
  testable : ent 𝓤 (sem 𝓛 (box_owns may_free R p x)) (guard 𝓤 (Testable p) (sem 𝓛 (box_owns may_free R p x)))
  testable =
      let right = may_free (bare (lone R.mir)) p in
      let B : SProp 𝓤 = sem 𝓛 (box_owns may_free R p x) in
      fact_use 𝓤 (Testable p)
      (via 𝓤 (sem 𝓛 right) (snd∗ 𝓤 (sem 𝓛 (lies_at R full_share p x)) (sem 𝓛 right))
      (dealloc_token-Testable 𝓛 a (bare (lone R.mir)) p))
      (guard_i 𝓤 (Testable p) B)

module _ (R : RattleType) (name : Sym) {M : Type 1} {𝓤 : Ura M} {𝓛 : Logic 𝓤} {K : Type 0}
    {Γ : List (Item 𝓤)} {G : Goal 𝓤 𝓛.H} where
  -- what a handle is made of
  pub handle_in : K → (p : Ptr) (held : Option R.Denot)
      → Step K 𝓛 (‵ (handle R name p held (word p ∷ [])) ∷ Γ) G (‵ (owns_at R p held) ∷ Γ) G
  handle_in t p held = step (λ s.
      nothing t $ feq_i t (List Val) (ptr_val p ∷ []) (ptr_val p ∷ []) refl $ fjoin t $
      feq_i t (List Val) (word p ∷ []) (word p ∷ []) refl $ fjoin t $
      fpack t (Valss (RawPtr ∷ [])) (within (shape name) (p, tt) (word p ∷ [])) (ptr_val p ∷ [], tt) $
      fjoin t $ s)

  pub handle_out : K → (p : Ptr) (held : Option R.Denot) (vs : List Val)
      → (vs ≡ word p ∷ [] → Seq K 𝓛 (‵ (owns_at R p held) ∷ Γ) G)
      → Seq K 𝓛 (‵ (handle R name p held vs) ∷ Γ) G
  handle_out t p held vs then =
      fsplit t $ fpick t (λ vss. fsplit t $ feq_l t (λ is_vs. fsplit t $ feq_l t (λ is_at. drop t $
      then (subst (λ (ps : List Val). vs ≡ vstruct (of_list (ps ++ [])) ∷ []) is_at is_vs))))

module _ (R : RattleType) {M : Type 1} {𝓤 : Ura M} {𝓛 : Logic 𝓤} {K : Type 0} {Γ : List (Item 𝓤)} {G : Goal 𝓤 𝓛.H} where
  -- a handle holds nothing and is null, or holds a value and is a pointer that may be compared with null
  pub either : K → (a : Global) (p : Ptr) (held : Option R.Denot)
      → (p ≡ null_ptr → held ≡ None → Seq K 𝓛 Γ G)
      → ((b o : ℕ) (x : R.Denot) → p ≡ block_ptr b o → held ≡ Some x → Testable (block_ptr b o)
      → Seq K 𝓛 (‵ (box_owns may_free R (block_ptr b o) x) ∷ Γ) G)
      → Seq K 𝓛 (‵ (owns_at R p held) ∷ Γ) G
  either t a p None none one = feq_l t (λ e. none e refl)
  either t a p (Some x) none one =
      use1 𝓛 (given (Testable p) (‵ (box_owns may_free R p x))) (testable R 𝓛 a p x) $ learn t (λ ok.
      in_a_block t p (λ q. box_owns may_free R q x) (fst∗ 𝓤 (never 𝓤) (sem 𝓛 (may_free (bare (lone R.mir)) null_ptr)))
      (λ b o e. one b o x e refl (subst Testable e ok)))

  -- C passes null, or a pointer to a handle that may be compared with null
  pub passed : K → (p : Ptr) (handle : Option R.Denot)
      → (p ≡ null_ptr → handle ≡ None → Seq K 𝓛 Γ G)
      → ((b o : ℕ) (h : R.Denot) → p ≡ block_ptr b o → handle ≡ Some h → Testable (block_ptr b o)
      → Seq K 𝓛 (‵ (part_at R full_share h b o) ∷ Γ) G)
      → Seq K 𝓛 (‵ (is_at R p handle) ∷ Γ) G
  passed t p None none one = feq_l t (λ e. none e refl)
  passed t null_ptr (Some h) none one = fsplit t $ use1 𝓛 (given ⊥ (‵ ftrue)) (never_e 𝓤 _) $ learn t (λ z. absurd z)
  passed t (block_ptr b o) (Some h) none one = fsplit t $ move t (1 ∷ []) $ flt_l t (λ ok. one b o h refl refl ok)
