-- What `reach` settles last is recurrent, and the odometers make the firing vector.
use Rattle.sand_group.proofs.Common.{ℕ, ◌≡◌, ◌+◌, ◌*◌, ◌^◌, ◌<◌, ◌≤◌, ◌∙◌, refl, ap, arith, List, length, get_or, replicate, ℤ, pos, ◌+ℤ◌, ◌-ℤ◌, ints, get_or-replicate, get_or_default, Grid, sites, whole, PileView, height_of, at_most_sum_below, equivalent_sym, flow-add, flow-scale, settled_stable, SettledView, odometer_of, Represents, integer_at, IsFired, IsFiredToRecurrent, IsSuperstableOf}
use Rattle.sand_settle.proofs.OneRecord.{record_by_site}
use Rattle.sand_group.specs.Reaching.{IsShortRecord, IsReached, times_up, times_down}
use Rattle.sand_group.specs.declared.reaching.Reached.{Reached}
use Rattle.sand_group.proofs.FiringVectors.{laplacian-difference, fired_equivalent}
use Rattle.sand_group.proofs.OperationsSettle.{high_represents}
use Rattle.sand_group.proofs.SuperstableHeights.{superstable_of}

pub short_odometer : (g : Grid) (s : ℕ → ℕ) (r : SettledView) → IsShortRecord g s r → (i : ℕ) → i < sites g
    → odometer_of r i < 2 ^ 54
short_odometer g s r is i l =
    omega (arith, at_most_sum_below (sites g) (odometer_of r) i l, is.record_of.all_topplings, is.few)

-- the topplings of p and of the last settling, less those of q and twice those of 6
pub reached_fired : (g : Grid) (p q : ℕ → ℕ) (lift : ℕ) (r : Reached) → IsReached g p q lift r
    → (x z : ℕ → ℤ) → ((i : ℕ) → i < sites g → x i ≡ (pos (p i) -ℤ pos (q i)) +ℤ pos lift)
    → ((i : ℕ) → i < sites g → z i ≡ pos (times_up r i) -ℤ pos (times_down r i))
    → IsFired g x z (whole (height_of r.last.pile))
reached_fired g p q lift r is x z x_is z_is = record {
  difference = λ i l. omega (
    arith,
    ints,
    x_is i l,
    laplacian-difference g z (times_up r) (times_down r) z_is i l,
    is.plus.record_of.settled.toppled.balance i l,
    is.minus.record_of.settled.toppled.balance i l,
    is.full.record_of.settled.toppled.balance i l,
    is.start_is i l,
    is.last.record_of.settled.toppled.balance i l,
    flow-add g (odometer_of r.plus) (odometer_of r.last) i,
    flow-add g (odometer_of r.minus) (λ j. 2 * odometer_of r.full j) i,
    flow-scale g 2 (odometer_of r.full) i,
  );
}

low_there : (g : Grid) (s : ℕ → ℕ) (r : SettledView) → IsShortRecord g s r → (i : ℕ) → i < sites g → height_of r.pile i ≤ 3
low_there g s r is i l = (settled_stable g s (odometer_of r) (height_of r.pile) is.record_of.settled).low i l

pub reached_represents : (g : Grid) (p q : ℕ → ℕ) (lift : ℕ) (r : Reached) → IsReached g p q lift r
    → (x : ℕ → ℤ) → ((i : ℕ) → i < sites g → x i ≡ (pos (p i) -ℤ pos (q i)) +ℤ pos lift)
    → Represents g x (height_of r.last.pile)
reached_represents g p q lift r is x x_is = record {
  recurrent = (high_represents g is.start (odometer_of r.last) (height_of r.last.pile) is.last.record_of.settled
      (λ i l. omega (
        arith,
        is.start_is i l,
        low_there g q r.minus is.minus i l,
        low_there g (λ j. 6) r.full is.full i l,
      ))).recurrent;
  equivalent = equivalent_sym g _ _ (fired_equivalent g x (λ i. pos (times_up r i) -ℤ pos (times_down r i)) _
      (reached_fired g p q lift r is x _ x_is (λ i l. omega (arith, ints))));
}

-- ---- the results, from lists

pub record_of_full : (g : Grid) (full : List ℕ) (p : PileView) (r : SettledView) → full ≡ replicate (sites g) 6
    → p ≡ record { grid = g; heights = full } → IsShortRecord p.grid (height_of p) r → IsShortRecord g (λ i. 6) r
record_of_full g full p r six made is =
    let here : IsShortRecord g (λ i. get_or full i 0) r = rw made at is in
    record {
      record_of = record_by_site g (λ i. get_or full i 0) (λ i. 6) r
          (λ i l. rw six (get_or-replicate (sites g) i 6 0 l)) here.record_of;
      few = here.few;
    }

pub few_topplings : (g : Grid) (s : ℕ → ℕ) (r : SettledView) (xs : List ℕ) → IsShortRecord g s r → xs ≡ r.odometer
    → (k d : ℕ) → k < length xs → get_or xs k d < 2 ^ 54
few_topplings g s r xs is same k d l = omega (
  arith,
  get_or_default xs k d 0 l,
  ap (λ (ys : List ℕ). get_or ys k 0) same,
  short_odometer g s r is k (omega (arith, ap (λ (ys : List ℕ). length ys) same, is.record_of.odometer_each)),
)

pub fired_to_recurrent : (g : Grid) (x : ℕ → ℤ) (p q : ℕ → ℕ) (r : Reached) (c : PileView) (z : List ℤ)
    (up last down full : List ℕ) → IsReached g p q 0 r
    → ((i : ℕ) → i < sites g → x i ≡ pos (p i) -ℤ pos (q i)) → c ≡ r.last.pile
    → up ≡ r.plus.odometer → last ≡ r.last.odometer → down ≡ r.minus.odometer → full ≡ r.full.odometer
    → length z ≡ length up
    → ((i : ℕ) → i < length up → integer_at z i
    ≡ pos (get_or up i 0 + get_or last i 0) -ℤ pos (get_or down i 0 + 2 * get_or full i 0))
    → IsFiredToRecurrent g x c z
fired_to_recurrent g x p q r c z up last down full is x_is pile_is up_is last_is down_is full_is long each =
    let all : length up ≡ sites g = ap (λ (ys : List ℕ). length ys) up_is ∙ is.plus.record_of.odometer_each in
    let x_lifted : (i : ℕ) → i < sites g → x i ≡ (pos (p i) -ℤ pos (q i)) +ℤ pos 0 =
    λ i l. omega (arith, ints, x_is i l) in
    record {
      grid = ap (λ (v : PileView). v.grid) pile_is ∙ is.last.record_of.grid;
      len = ap (λ (v : PileView). length v.heights) pile_is ∙ is.last.record_of.heights_each;
      firing_each = long ∙ all;
      represents = rw pile_is (reached_represents g p q 0 r is x x_lifted);
      fired = rw pile_is (reached_fired g p q 0 r is x (integer_at z) x_lifted (λ i l. omega (
        arith,
        ints,
        each i (omega arith),
        ap (λ (ys : List ℕ). get_or ys i 0) up_is,
        ap (λ (ys : List ℕ). get_or ys i 0) last_is,
        ap (λ (ys : List ℕ). get_or ys i 0) down_is,
        ap (λ (ys : List ℕ). get_or ys i 0) full_is,
      )));
    }

pub superstable_from_reached : (g : Grid) (x : ℕ → ℤ) (p q : ℕ → ℕ) (r : Reached) (h t : List ℕ) (s : PileView)
    → IsReached g q p 3 r → ((i : ℕ) → i < sites g → x i ≡ pos (p i) -ℤ pos (q i)) → length h ≡ sites g
    → ((i : ℕ) → get_or h i 0 ≡ height_of r.last.pile i) → length t ≡ length h
    → ((i : ℕ) → i < length h → get_or t i 0 + get_or h i 0 ≡ 3) → s ≡ record { grid = g; heights = t }
    → IsSuperstableOf g x s
superstable_from_reached g x p q r h t s is x_is all same long rests made =
    let represents = reached_represents g q p 3 r is (λ i. pos 3 -ℤ x i) (λ i l. omega (arith, ints, x_is i l)) in
    let done = superstable_of g x (height_of r.last.pile) (λ i. get_or t i 0) represents
    (λ i l. omega (arith, rests i (omega arith), same i)) in
    rw made (record { grid = refl; len = long ∙ all; superstable = done.0; equivalent = done.1 })
