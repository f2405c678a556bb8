-- The n-fold sums of a recurrent pile add up as n does, and its digits make n.
use Rattle.sand_group.proofs.Common.{ℕ, zero, suc, ◌≡◌, ◌+◌, ◌-◌, ◌*◌, ◌/◌, ◌^◌, ◌<◌, ◌≤◌, refl, sym, ◌∙◌, ap, arith, ℤ, pos, ◌+ℤ◌, ◌↔◌, ints, List, length, sum, sum_by-le, All, Grid, IsGrid, sites, whole, IsEquivalent, IsSettled, settled_same, most_grains_on, equivalent_sym, equivalent_add, equivalent_same, equivalent_trans, IsRecurrent, Represents, IsSum, IsMultiple, IsIdentity}
use Rattle.std.proofs.lemmas.Nat.{mul-le, div-add-mod'}
use Rattle.std.proofs.Math.Nat.{mul-le-mul_left, pow-zero, pow-suc, one-le-pow, mul-div_cancel, div-div-eq-div-mul}
use Rattle.std.specs.Prelude.{◌%◌}
use Rattle.sand_group.proofs.OperationsSettle.{class_has_one, represents_itself, represents_by, represented_once, sum_is_settled}

represents_same : (g : Grid) (x y : ℕ → ℤ) (c : ℕ → ℕ) → ((i : ℕ) → i < sites g → x i ≡ y i) → Represents g x c
    → Represents g y c
represents_same g x y c equal is = record {
  recurrent = is.recurrent;
  equivalent = equivalent_same g _ _ _ _ is.equivalent (λ i l. omega (arith, ints, equal i l));
}

pub none_is_identity : (g : Grid) (c e : ℕ → ℕ) → IsMultiple g 0 c e ↔ IsIdentity g e
none_is_identity g c e = (
  represents_same g (λ i. pos (0 * c i)) (λ i. pos 0) e (λ i l. omega (arith, ints)),
  represents_same g (λ i. pos 0) (λ i. pos (0 * c i)) e (λ i l. omega (arith, ints)),
)

pub one_is_itself : (g : Grid) (c : ℕ → ℕ) → IsRecurrent g c → IsMultiple g 1 c c
one_is_itself g c recurrent =
    represents_same g (whole c) (λ i. pos (1 * c i)) c (λ i l. omega (arith, ints)) (represents_itself g c recurrent)

-- the (n + m)-fold sum is the sum of the n-fold and the m-fold sum
pub multiples_add_up : (g : Grid) (n m : ℕ) (c a b e : ℕ → ℕ) → IsMultiple g n c a → IsMultiple g m c b
    → IsMultiple g (n + m) c e ↔ IsSum g a b e
multiples_add_up g n m c a b e one two =
    let class : IsEquivalent g (λ i. pos (a i + b i)) (λ i. pos ((n + m) * c i)) =
    equivalent_same g _ _ _ _ (equivalent_add g _ _ _ _ one.equivalent two.equivalent) (λ i l. omega (arith, ints)) in
    (represents_by g _ _ e (equivalent_sym g _ _ class), represents_by g _ _ e class)

pub has_one_multiple : (g : Grid) (n : ℕ) (c : ℕ → ℕ)
    → (a : ℕ → ℕ) × IsMultiple g n c a × ((b : ℕ → ℕ) → IsMultiple g n c b → (i : ℕ) → i < sites g → b i ≡ a i)
has_one_multiple g n c =
    let some = class_has_one g (λ i. pos (n * c i)) in
    (some.0, some.1, λ b is. represented_once g (λ i. pos (n * c i)) b some.0 is some.1)

-- ---- digit by digit

equivalent_multiples : (g : Grid) (a b : ℕ → ℕ) (n : ℕ) → IsEquivalent g (whole a) (whole b)
    → IsEquivalent g (λ i. pos (n * a i)) (λ i. pos (n * b i))
equivalent_multiples g a b zero same =
    equivalent_same g (whole a) (whole a) (λ i. pos (0 * a i)) (λ i. pos (0 * b i))
    (equivalent_trans g (whole a) (whole b) (whole a) same (equivalent_sym g (whole a) (whole b) same))
    (λ i l. omega (arith, ints))
equivalent_multiples g a b (suc n) same =
    equivalent_same g (λ i. pos (a i) +ℤ pos (n * a i)) (λ i. pos (b i) +ℤ pos (n * b i))
    (λ i. pos (suc n * a i)) (λ i. pos (suc n * b i))
    (equivalent_add g (whole a) (whole b) (λ i. pos (n * a i)) (λ i. pos (n * b i)) same
    (equivalent_multiples g a b n same)) (λ i l. omega (arith, ints))

-- n * a + m * b settles to a recurrent pile, if a is recurrent and n is not 0
pub multiples_settle : (g : Grid) (n m : ℕ) (a b u r : ℕ → ℕ) → 0 < n → IsRecurrent g a
    → IsSettled g (λ i. n * a i + m * b i) u r → Represents g (λ i. pos (n * a i + m * b i)) r
multiples_settle g n m a b u r some recurrent done =
    let more : ℕ → ℕ = λ i. (n - 1) * a i + m * b i in
    let one : n ≡ n - 1 + 1 = omega arith in
    let parts : (i : ℕ) → n * a i + m * b i ≡ a i + more i = λ i. omega (arith, ap (λ k. k * a i) one) in
    represents_same g (λ i. pos (a i + more i)) (λ i. pos (n * a i + m * b i)) r
    (λ i l. omega (arith, ints, parts i))
    (sum_is_settled g a more u r recurrent (settled_same g (λ i. n * a i + m * b i) (λ i. a i + more i) u u r r
    (λ i l. parts i) (λ i l. refl) (λ i l. refl) done))

-- one digit more, d, after those of q
pub next_digit : (g h : Grid) (n q b d : ℕ) (c s r : ℕ → ℕ) → h ≡ g → IsMultiple g q c s
    → Represents h (λ i. pos (b * s i + d * c i)) r → n ≡ q * b + d → IsMultiple g n c r
next_digit g h n q b d c s r same higher is digits =
    let class = equivalent_multiples g s (λ i. q * c i) b higher.equivalent in
    represents_by g (λ i. pos (b * s i + d * c i)) (λ i. pos (n * c i)) r
    (equivalent_same g (λ i. pos (b * s i)) (λ i. pos (b * (q * c i))) _ _ class
    (λ i l. omega (arith, ints, ap (λ k. k * c i) digits))) (rw same at is)

-- ---- powers of the base

pub power_above : (b u : ℕ) → (k : ℕ) × (u ≡ b ^ k) → (k : ℕ) × (u * b ≡ b ^ k)
power_above b u is = (suc is.0, ap (λ v. v * b) is.1 ∙ sym (pow-suc b is.0))

pub power_below : (b u : ℕ) → 2 ≤ b → (k : ℕ) × (u ≡ b ^ k) → ¬ u ≡ 1
    → ((k : ℕ) × (u / b ≡ b ^ k)) × (0 < u / b) × (u ≡ u / b * b)
power_below b u some (zero, is) more = absurd (more (is ∙ pow-zero b))
power_below b u some (suc k, is) more =
    let all : u ≡ b ^ k * b = is ∙ pow-suc b k in
    let less : u / b ≡ b ^ k = ap (λ v. v / b) all ∙ mul-div_cancel (b ^ k) {n = b} (omega arith) in
    ((k, less), omega (arith, less, one-le-pow k b (omega arith)), all ∙ ap (λ v. v * b) (sym less))

-- n / v has the last digit n / v % b after those of n / u
pub digit_of : (n b u v : ℕ) → u ≡ v * b → n / v ≡ n / u * b + n / v % b
digit_of n b u v is = omega (arith, ap (λ w. n / w * b) is, ap (λ q. q * b) (div-div-eq-div-mul n v b), div-add-mod' (n / v) b)

-- ---- heights of at most 3 * (n + m)

pub few_copies : (g : Grid) (k : ℕ) → IsGrid g → 3 * k * sites g ≤ most_grains_on g → k < 2 ^ 40
few_copies g k sides few = omega (
  arith,
  few,
  mul-le-mul_left k (mul-le 1 1 g.width g.height sides.some_width sides.some_height),
)

pub few_if_low : (g : Grid) (k : ℕ) (heights : List ℕ) → length heights ≡ sites g → All (λ h. h ≤ k) heights
    → k * sites g ≤ most_grains_on g → sum heights ≤ most_grains_on g
few_if_low g k heights len low few = omega (arith, few, sum_by-le (λ h. h) k heights low, ap (λ n. n * k) len)
