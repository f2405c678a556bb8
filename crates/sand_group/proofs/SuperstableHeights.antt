-- Heights are superstable if and only if they are 3 less a recurrent pile, so each class has exactly one.
use Rattle.sand_group.proofs.Common.{ℕ, ◌≡◌, ◌+◌, ◌-◌, ◌<◌, ◌≤◌, inl, inr, refl, ap, arith, eqb, ℤ, pos, negsuc, ◌-ℤ◌, ◌≤ℤ◌, ◌↔◌, unsigned_abs, cases_lt, eq-eqb, eqb-true, ints, Grid, sites, whole, IsEquivalent, equivalent_sym, equivalent_same, IsRecurrent, Represents, IsSuperstable}
use Rattle.sand_group.proofs.OperationsSettle.{class_has_one}
use Rattle.sand_group.proofs.RecurrentIsUnique.{recurrent_unique}

natural : (z : ℤ) → pos 0 ≤ℤ z → z ≡ pos (unsigned_abs z)
natural (pos n) l = refl
natural (negsuc n) l = absurd (omega (arith, ints))

-- a site of more than 3 grains can be fired by itself
low_height : (g : Grid) (s : ℕ → ℤ) → IsSuperstable g s → (i : ℕ) → i < sites g → unsigned_abs (s i) ≤ 3
low_height g s super i l = elim (cases_lt 3 (unsigned_abs (s i))) [
  | inl high ↦ absurd (super.none (λ j. eqb j i) (record {
    some = (i, l, eq-eqb i i refl);
    enough = λ j m in'.
        let at : j ≡ i = eqb-true j i in' in
        omega (arith, ints, natural (s j) (super.no_debt j m), ap (λ k. unsigned_abs (s k)) at);
  }))
  | inr low ↦ omega arith
]

-- ---- 3 less a recurrent pile

pub superstable_from : (g : Grid) (s : ℕ → ℤ) (c : ℕ → ℕ) → IsRecurrent g c
    → ((i : ℕ) → i < sites g → s i ≡ pos 3 -ℤ pos (c i)) → IsSuperstable g s
superstable_from g s c recurrent is = record {
  no_debt = λ i l. omega (arith, ints, is i l, recurrent.stable.low i l);
  none = λ set can. recurrent.none set (record {
    some = can.some;
    low = λ i l in'. omega (arith, ints, is i l, can.enough i l in', recurrent.stable.low i l);
  });
}

recurrent_from : (g : Grid) (s : ℕ → ℤ) → IsSuperstable g s → IsRecurrent g (λ i. 3 - unsigned_abs (s i))
recurrent_from g s super = record {
  stable = record { low = λ i l. omega arith };
  none = λ set bad. super.none set (record {
    some = bad.some;
    enough = λ i l in'. omega (arith, ints, natural (s i) (super.no_debt i l), bad.low i l in');
  });
}

pub duality : (g : Grid) (s : ℕ → ℤ)
    → IsSuperstable g s ↔ ((c : ℕ → ℕ) × IsRecurrent g c × ((i : ℕ) → i < sites g → s i ≡ pos 3 -ℤ pos (c i)))
duality g s = (
  λ super. (
    λ i. 3 - unsigned_abs (s i),
    recurrent_from g s super,
    λ i l. omega (arith, ints, natural (s i) (super.no_debt i l), low_height g s super i l),
  ),
  λ dual. superstable_from g s dual.0 dual.1 dual.2,
)

-- ---- one in each class

pub superstable_of : (g : Grid) (x : ℕ → ℤ) (c t : ℕ → ℕ) → Represents g (λ i. pos 3 -ℤ x i) c
    → ((i : ℕ) → i < sites g → t i + c i ≡ 3)
    → IsSuperstable g (whole t) × IsEquivalent g (whole t) x
superstable_of g x c t is rest = (
  superstable_from g (whole t) c is.recurrent (λ i l. omega (arith, ints, rest i l)),
  equivalent_same g _ _ (whole t) x (equivalent_sym g _ _ is.equivalent) (λ i l. omega (arith, ints, rest i l)),
)

pub superstables_equal : (g : Grid) (s t : ℕ → ℤ) → IsSuperstable g s → IsSuperstable g t → IsEquivalent g s t
    → (i : ℕ) → i < sites g → s i ≡ t i
superstables_equal g s t one two same i l =
    let c = (duality g s).0 one in
    let d = (duality g t).0 two in
    let equal = recurrent_unique g c.0 d.0 c.1 d.1 (equivalent_same g t s (whole c.0) (whole d.0)
    (equivalent_sym g s t same) (λ j m. omega (arith, ints, c.2 j m, d.2 j m))) in
    omega (arith, ints, c.2 i l, d.2 i l, equal i l)

pub class_has_superstable : (g : Grid) (x : ℕ → ℤ)
    → (t : ℕ → ℕ) × IsSuperstable g (whole t) × IsEquivalent g (whole t) x
class_has_superstable g x =
    let some = class_has_one g (λ i. pos 3 -ℤ x i) in
    let done = superstable_of g x some.0 (λ i. 3 - some.0 i) some.1
    (λ i l. omega (arith, some.1.recurrent.stable.low i l)) in
    (λ i. 3 - some.0 i, done.0, done.1)

pub superstable_by_site : (g : Grid) (s t : ℕ → ℤ) → ((i : ℕ) → i < sites g → s i ≡ t i) → IsSuperstable g s
    → IsSuperstable g t
superstable_by_site g s t same is = record {
  no_debt = λ i l. omega (arith, ints, same i l, is.no_debt i l);
  none = λ set can. is.none set (record {
    some = can.some;
    enough = λ i l in'. omega (arith, ints, same i l, can.enough i l in');
  });
}

-- heights are superstable if and only if they are the superstable heights of their class
pub superstable_if_itself : (g : Grid) (x t : ℕ → ℤ) → IsSuperstable g t → IsEquivalent g t x
    → IsSuperstable g x ↔ ((i : ℕ) → i < sites g → x i ≡ t i)
superstable_if_itself g x t super same = (
  λ is i l. superstables_equal g x t is super (equivalent_sym g t x same) i l,
  λ equal. superstable_by_site g t x (λ i l. omega (arith, ints, equal i l)) super,
)
