-- The members of the group: high piles, and recurrent piles with more grains, settle to recurrent piles; a + b, d and
-- 2d - c settle to the sum, the identity and the inverse.
use Rattle.sand_group.proofs.Common.{ℕ, ◌≡◌, ◌+◌, ◌-◌, ◌*◌, ◌<◌, ◌≤◌, refl, arith, ℤ, pos, ◌-ℤ◌, ints, Grid, sites, sum_below, IsSettled, whole, IsEquivalent, settled_in_parts, settled_same, settled_stable, at_most_sum_below, above, below, parts, settled_equivalent, IsRecurrent, OnceSettled, IsSurplus, Represents, IsSum, IsIdentity, IsInverse, equivalent_sym, equivalent_add, equivalent_same, equivalent_times, equivalent_trans}
use Rattle.std.proofs.Math.Nat.{mul-le-mul_left}
use Rattle.sand_model.proofs.EachSettles.{settles}
use Rattle.sand_group.proofs.SettledIsRecurrent.{settled_recurrent}
use Rattle.sand_group.proofs.RecurrentIsUnique.{recurrent_unique}

-- s settles, so it is enough that P is true of each pile that s settles to
pub once_settled : (g : Grid) (s : ℕ → ℕ) (P : (ℕ → ℕ) → Type 0) → ((u t : ℕ → ℕ) → IsSettled g s u t → P t)
    → OnceSettled g s P
once_settled g s P each =
    let done = settles g s in
    record { odometer = done.0; rest = done.1; settled = done.2; each = each }

-- ---- what represents a class

pub represents_itself : (g : Grid) (c : ℕ → ℕ) → IsRecurrent g c → Represents g (whole c) c
represents_itself g c recurrent =
    let done = settles g c in
    let there = settled_equivalent g c done.0 done.1 done.2 in
    record { recurrent = recurrent; equivalent = equivalent_trans g _ _ _ there (equivalent_sym g _ _ there) }

pub represents_by : (g : Grid) (x y : ℕ → ℤ) (c : ℕ → ℕ) → IsEquivalent g x y → Represents g x c → Represents g y c
represents_by g x y c class is = record {
  recurrent = is.recurrent;
  equivalent = equivalent_trans g (whole c) x y is.equivalent class;
}

pub represented_once : (g : Grid) (x : ℕ → ℤ) (c d : ℕ → ℕ)
    → Represents g x c → Represents g x d → (i : ℕ) → i < sites g → c i ≡ d i
represented_once g x c d one two =
    recurrent_unique g c d one.recurrent two.recurrent
    (equivalent_trans g _ _ _ one.equivalent (equivalent_sym g _ _ two.equivalent))

settled_represents : (g : Grid) (s u t : ℕ → ℕ) → IsSettled g s u t → IsRecurrent g t → Represents g (whole s) t
settled_represents g s u t done recurrent = record {
  recurrent = recurrent;
  equivalent = equivalent_sym g _ _ (settled_equivalent g s u t done);
}

-- heights of at least 3 settle to a recurrent pile
pub high_represents : (g : Grid) (s u t : ℕ → ℕ) → IsSettled g s u t → ((i : ℕ) → i < sites g → 3 ≤ s i)
    → Represents g (whole s) t
high_represents g s u t done high =
    settled_represents g s u t done (settled_recurrent g (λ i. s i - 3) u t
    (settled_same g s (λ i. 3 + (s i - 3)) u u t t (λ i l. omega (arith, high i l)) (λ i l. refl) (λ i l. refl) done))

-- d is at least 3 at each site
surplus_high : (g : Grid) (d : ℕ → ℕ) → IsSurplus g d → (i : ℕ) → i < sites g → 3 ≤ d i
surplus_high g d is i l =
    omega (arith, is.difference i l, (settled_stable g (λ j. 6) is.odometer is.rest is.settled).low i l)

surplus_is_none : (g : Grid) (d : ℕ → ℕ) → IsSurplus g d → IsEquivalent g (whole d) (λ i. pos 0)
surplus_is_none g d is =
    equivalent_same g _ _ _ _ (settled_equivalent g (λ i. 6) is.odometer is.rest is.settled)
    (λ i l. omega (arith, ints, is.difference i l))

pub some_surplus : (g : Grid) → (d : ℕ → ℕ) × IsSurplus g d
some_surplus g =
    let full = settles g (λ i. 6) in (
      λ i. 6 - full.1 i,
      record {
        odometer = full.0;
        rest = full.1;
        settled = full.2;
        difference = λ i l. omega (arith, (settled_stable g (λ j. 6) full.0 full.1 full.2).low i l);
      },
    )

-- a recurrent pile is the settled pile of some heights of at least 3
pub recurrent_from_full : (g : Grid) (c : ℕ → ℕ) → IsRecurrent g c
    → (a : ℕ → ℕ) × (u : ℕ → ℕ) × IsSettled g (λ i. 3 + a i) u c
recurrent_from_full g c recurrent =
    let d = some_surplus g in
    let a : ℕ → ℕ = λ i. c i + (d.0 i - 3) in
    let s : ℕ → ℕ = λ i. 3 + a i in
    let done = settles g s in
    let class = equivalent_same g (whole d.0) (λ i. pos 0) (whole s) (whole c) (surplus_is_none g d.0 d.1)
    (λ i l. omega (arith, ints, surplus_high g d.0 d.1 i l)) in
    let same = represented_once g (whole c) done.1 c (represents_by g (whole s) (whole c) done.1 class
    (settled_represents g s done.0 done.1 done.2 (settled_recurrent g a done.0 done.1 done.2)))
    (represents_itself g c recurrent) in
    (a, done.0, settled_same g s s done.0 done.0 done.1 c (λ i l. refl) (λ i l. refl) same done.2)

pub recurrent_plus : (g : Grid) (a b u r : ℕ → ℕ) → IsRecurrent g a → IsSettled g (λ i. a i + b i) u r → IsRecurrent g r
recurrent_plus g a b u r recurrent done =
    let full = recurrent_from_full g a recurrent in
    (high_represents g (λ i. (3 + full.0 i) + b i) (λ i. full.1 i + u i) r
    (settled_in_parts g (λ i. 3 + full.0 i) b full.1 a u r full.2 done) (λ i l. omega arith)).recurrent

-- ---- the operations

pub sum_is_settled : (g : Grid) (a b u r : ℕ → ℕ) → IsRecurrent g a → IsSettled g (λ i. a i + b i) u r → IsSum g a b r
sum_is_settled g a b u r recurrent done =
    settled_represents g (λ i. a i + b i) u r done (recurrent_plus g a b u r recurrent done)

pub identity_is_settled : (g : Grid) (d u e : ℕ → ℕ) → IsSurplus g d → IsSettled g d u e → IsIdentity g e
identity_is_settled g d u e is done =
    represents_by g _ _ e (surplus_is_none g d is) (high_represents g d u e done (surplus_high g d is))

pub inverse_is_settled : (g : Grid) (c d u r : ℕ → ℕ) → IsRecurrent g c
    → IsSurplus g d → IsSettled g (λ i. 2 * d i - c i) u r → IsInverse g c r
inverse_is_settled g c d u r recurrent is done =
    let none = surplus_is_none g d is in
    let enough : (i : ℕ) → i < sites g → c i + 3 ≤ 2 * d i = λ i l.
    omega (arith, surplus_high g d is i l, recurrent.stable.low i l) in
    represents_by g (whole (λ i. 2 * d i - c i)) (λ i. pos 0 -ℤ pos (c i)) r
    (equivalent_same g _ _ _ _ (equivalent_add g _ _ _ _ none none) (λ i l. omega (arith, ints, enough i l)))
    (high_represents g (λ i. 2 * d i - c i) u r done (λ i l. omega (arith, enough i l)))

-- ---- each class has a recurrent pile

-- x plus a large enough multiple of d is at least 3 everywhere, and settles to a recurrent pile
pub class_has_one : (g : Grid) (x : ℕ → ℤ) → (c : ℕ → ℕ) × Represents g x c
class_has_one g x =
    let d = some_surplus g in
    let k = sum_below (sites g) (λ i. below (x i)) + 1 in
    let s : ℕ → ℕ = λ i. above (x i) + k * d.0 i - below (x i) in
    let enough : (i : ℕ) → i < sites g → below (x i) + 3 ≤ k * d.0 i = λ i l. omega (
      arith,
      at_most_sum_below (sites g) (λ j. below (x j)) i l,
      mul-le-mul_left k (surplus_high g d.0 d.1 i l),
    ) in
    let done = settles g s in
    let class = equivalent_same g (λ i. pos (k * d.0 i)) (λ i. pos 0) (whole s) x
    (equivalent_times g d.0 k (surplus_is_none g d.0 d.1)) (λ i l. omega (arith, ints, enough i l, parts (x i))) in (
      done.1,
      represents_by g (whole s) x done.1 class
          (high_represents g s done.0 done.1 done.2 (λ i l. omega (arith, enough i l))),
    )

-- ---- the recurrent pile of a class

pub equivalent_is_settled : (g : Grid) (s u t e v r : ℕ → ℕ) → IsSettled g s u t
    → IsIdentity g e → IsSettled g (λ i. e i + t i) v r → Represents g (whole s) r
equivalent_is_settled g s u t e v r done identity again =
    represents_by g (λ i. pos (e i + t i)) (whole s) r
    (equivalent_same g _ _ _ _ (equivalent_add g _ _ _ _ identity.equivalent
    (equivalent_sym g _ _ (settled_equivalent g s u t done))) (λ i l. omega (arith, ints)))
    (sum_is_settled g e t v r identity.recurrent again)

pub equivalents_add_up : (g : Grid) (a b c d e : ℕ → ℕ) → Represents g (whole a) c
    → Represents g (whole b) d → Represents g (whole (λ i. a i + b i)) e
    → IsSum g c d e
equivalents_add_up g a b c d e one two =
    represents_by g (whole (λ i. a i + b i)) (λ i. pos (c i + d i)) e
    (equivalent_same g _ _ _ _ (equivalent_sym g _ _ (equivalent_add g _ _ _ _ one.equivalent two.equivalent))
    (λ i l. omega (arith, ints)))

-- ---- the laws of the group

pub identity_neutral : (g : Grid) (c e u r : ℕ → ℕ) → IsRecurrent g c
    → IsIdentity g e → IsSettled g (λ i. c i + e i) u r → (i : ℕ) → i < sites g
    → r i ≡ c i
identity_neutral g c e u r recurrent identity done =
    let sum = sum_is_settled g c e u r recurrent done in
    represented_once g (whole c) r c
    (represents_by g (λ i. pos (c i + e i)) (whole c) r
    (equivalent_same g _ _ _ _ identity.equivalent (λ i l. omega (arith, ints))) sum)
    (represents_itself g c recurrent)

pub inverse_cancels : (g : Grid) (c v u r : ℕ → ℕ) → IsRecurrent g c
    → IsInverse g c v → IsSettled g (λ i. c i + v i) u r → IsIdentity g r
inverse_cancels g c v u r recurrent inverse done =
    let sum = sum_is_settled g c v u r recurrent done in
    represents_by g (λ i. pos (c i + v i)) (λ i. pos 0) r
    (equivalent_same g _ _ _ _ inverse.equivalent (λ i l. omega (arith, ints))) sum
