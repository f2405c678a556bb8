-- The results of the operations of the group, from the lists of heights that they settle.
use Rattle.sand_group.proofs.Common.{ℕ, ◌≡◌, ◌+◌, ◌-◌, ◌*◌, ◌<◌, ◌≤◌, refl, sym, ◌∙◌, ap, arith, List, length, sum, get_or, replicate, All, ext_get_or, get_or-replicate, get_or_read, sum_by-le, All-from_get_or, Grid, IsGrid, sites, IsStable, IsSettled, one_at, whole, PileView, IsPile, height_of, most_grains_on, settled_in_parts, settled_once, settled_same, limit_has_room, SettledView, IsSettledRecord, odometer_of, IsRecurrent, SettlesTo, IsSurplus, IsSum, IsIdentity, IsEquivalentRecurrent}
use Rattle.std.proofs.Math.ListN.{set}
use Rattle.sand_model.proofs.Heights.{get_or-written}
use Rattle.sand_group.proofs.OperationsSettle.{sum_is_settled, equivalent_is_settled, represents_itself, represented_once}

-- far below the limit of a pile
pub few_grains : (g : Grid) (heights : List ℕ) → IsGrid g → length heights ≡ sites g → All (λ h. h ≤ 12) heights
    → sum heights ≤ most_grains_on g
few_grains g heights grid len low = omega (arith, sum_by-le (λ h. h) 12 heights low, limit_has_room g grid)

few_if_stable : (p : PileView) → IsPile p → IsStable p.grid (height_of p) → sum p.heights ≤ 3 * sites p.grid
few_if_stable p is stable =
    let low = All-from_get_or (λ h. h ≤ 3) p.heights 0 (λ i l. stable.low i (omega (arith, is.len))) in
    omega (arith, sum_by-le (λ h. h) 3 p.heights low, is.len)

pub together_small : (a b : PileView) → IsPile a → IsPile b → b.grid ≡ a.grid → IsStable a.grid (height_of a)
    → IsStable b.grid (height_of b) → sum a.heights + sum b.heights ≤ most_grains_on a.grid
together_small a b is_a is_b same stable_a stable_b = omega (
  arith,
  few_if_stable a is_a stable_a,
  few_if_stable b is_b stable_b,
  ap sites same,
  limit_has_room a.grid is_a.grid,
)

-- ---- settled piles

pub settles_to_one : (g : Grid) (s : ℕ → ℕ) (p q : PileView) → SettlesTo g s p → SettlesTo g s q → p ≡ q
settles_to_one g s p q one other =
    let same = ext_get_or 0 p.heights q.heights (one.len ∙ sym other.len)
    (λ i l. (settled_once g s one.odometer other.odometer (height_of p) (height_of q) one.settled other.settled i
    (omega (arith, one.len))).1) in
    λ k. record { grid = (one.grid ∙ sym other.grid) k; heights = same k }

pub settles_in_parts : (g : Grid) (a b : ℕ → ℕ) (p q : PileView) → SettlesTo g a p
    → SettlesTo g (λ i. height_of p i + b i) q → SettlesTo g (λ i. a i + b i) q
settles_in_parts g a b p q first second = record {
  grid = second.grid;
  len = second.len;
  odometer = λ i. first.odometer i + second.odometer i;
  settled = settled_in_parts g a b first.odometer (height_of p) second.odometer (height_of q)
      first.settled second.settled;
}

pile_settles : (g h : Grid) (s r : ℕ → ℕ) (p : PileView) → SettlesTo g s p
    → h ≡ g → ((i : ℕ) → i < sites g → r i ≡ s i) → SettlesTo h r p
pile_settles g h s r p done same equal = rw same (record {
  grid = done.grid;
  len = done.len;
  odometer = done.odometer;
  settled = settled_same g s r done.odometer done.odometer (height_of p) (height_of p)
      (λ i l. sym (equal i l)) (λ i l. refl) (λ i l. refl) done.settled;
})

pub recurrent_there : {g : Grid} {s : ℕ → ℕ} {p : PileView} → SettlesTo g s p → IsRecurrent g (height_of p)
    → IsRecurrent p.grid (height_of p)
recurrent_there done recurrent = rw done.grid recurrent

-- ---- the sum

pub sum_settles : {g : Grid} {a : ℕ → ℕ} (b : ℕ → ℕ) {p : PileView} → IsRecurrent g a → SettlesTo g (λ i. a i + b i) p
    → IsSum g a b (height_of p)
sum_settles b recurrent done = sum_is_settled _ _ b done.odometer _ recurrent done.settled

pub together_settles : (a b both : PileView) (r : SettledView) → both.grid ≡ a.grid
    → ((i : ℕ) → height_of both i ≡ height_of a i + height_of b i) → IsSettledRecord both.grid (height_of both) r
    → SettlesTo a.grid (λ i. height_of a i + height_of b i) r.pile
together_settles a b both r grid sums is =
    pile_settles both.grid a.grid (height_of both) (λ i. height_of a i + height_of b i) r.pile
    (record { grid = is.grid; len = is.heights_each; odometer = odometer_of r; settled = is.settled })
    (sym grid) (λ i l. sym (sums i))

-- ---- sums of multiples

pub combined_settles : (g : Grid) (a b p q : PileView) (n m : ℕ) (ha hb h : List ℕ) (r : SettledView)
    → g ≡ a.grid → IsPile a → ha ≡ a.heights → hb ≡ b.heights
    → ((i : ℕ) → i < length ha → get_or h i 0 ≡ n * get_or ha i 0 + m * get_or hb i 0)
    → p ≡ record { grid = g; heights = h } → IsSettledRecord p.grid (height_of p) r → q ≡ r.pile
    → SettlesTo a.grid (λ i. n * height_of a i + m * height_of b i) q
combined_settles g a b p q n m ha hb h r grid is same_a same_b each made settled same =
    let here : IsSettledRecord g (λ i. get_or h i 0) r = rw made at settled in
    rw same (pile_settles g a.grid (λ i. get_or h i 0) (λ i. n * height_of a i + m * height_of b i) r.pile
    (record { grid = here.grid; len = here.heights_each; odometer = odometer_of r; settled = here.settled }) (sym grid)
    (λ i l. omega (
      arith,
      each i (omega (arith, ap length same_a, is.len, ap sites grid)),
      ap (λ (xs : List ℕ). n * get_or xs i 0) same_a,
      ap (λ (xs : List ℕ). m * get_or xs i 0) same_b,
    )))

-- ---- the recurrent pile of a class

pub equivalent_settles : (p e t c : PileView) (u : ℕ → ℕ) → IsSettled p.grid (height_of p) u (height_of t)
    → e.grid ≡ p.grid → IsIdentity p.grid (height_of e) → SettlesTo e.grid (λ i. height_of e i + height_of t i) c
    → IsEquivalentRecurrent p.grid (height_of p) c
equivalent_settles p e t c u start there identity done =
    let here = pile_settles e.grid p.grid (λ i. height_of e i + height_of t i)
    (λ i. height_of e i + height_of t i) c done (sym there) (λ i l. refl) in
    record {
      grid = here.grid;
      len = here.len;
      represents = equivalent_is_settled p.grid (height_of p) u (height_of t) (height_of e)
          here.odometer (height_of c) start identity here.settled;
    }

pub equivalent_itself : (p c : PileView)
    → IsPile p → IsRecurrent p.grid (height_of p)
    → IsEquivalentRecurrent p.grid (height_of p) c → c ≡ p
equivalent_itself p c is recurrent done =
    let heights : c.heights ≡ p.heights =
    ext_get_or 0 c.heights p.heights (done.len ∙ sym is.len)
    (λ i l. represented_once p.grid (whole (height_of p)) (height_of c) (height_of p) done.represents
    (represents_itself p.grid (height_of p) recurrent) i (omega (arith, done.len))) in
    ap (λ (h : List ℕ). record { grid = c.grid; heights = h }) heights
    ∙ ap (λ (g : Grid). record { grid = g; heights = p.heights }) done.grid

-- ---- d, and the settled pile of 2d - c

pub surplus_is : (g : Grid) (twice v h : List ℕ) (p : PileView)
    → twice ≡ replicate (sites g) 6 → SettlesTo g (λ i. get_or twice i 0) p
    → h ≡ p.heights → ((i : ℕ) → i < length h → get_or v i 0 + get_or h i 0 ≡ 6)
    → IsSurplus g (λ i. get_or v i 0)
surplus_is g twice v h p full done same rests = record {
  odometer = done.odometer;
  rest = height_of p;
  settled = settled_same g (λ i. get_or twice i 0) (λ i. 6) done.odometer done.odometer (height_of p) (height_of p)
      (λ i l. rw full (get_or-replicate (sites g) i 6 0 l)) (λ i l. refl) (λ i l. refl) done.settled;
  difference = λ i l.
      let e = rests i (omega (arith, ap length same, done.len)) in
      omega (arith, ap (λ (xs : List ℕ). get_or xs i 0) same);
}

pub difference_settles : (g : Grid) (c p : PileView) (hc hd d v : List ℕ)
    → g ≡ c.grid → IsPile c → hc ≡ c.heights → hd ≡ d
    → ((i : ℕ) → i < length hc → get_or v i 0 ≡ 2 * get_or hd i 0 - get_or hc i 0)
    → SettlesTo g (λ i. get_or v i 0) p
    → SettlesTo c.grid (λ i. 2 * get_or d i 0 - height_of c i) p
difference_settles g c p hc hd d v grid is same same_d differences done =
    pile_settles g c.grid (λ i. get_or v i 0) (λ i. 2 * get_or d i 0 - height_of c i) p done (sym grid)
    (λ i l. omega (
      arith,
      differences i (omega (arith, ap length same, is.len, ap sites grid)),
      ap (λ (xs : List ℕ). get_or xs i 0) same,
      ap (λ (xs : List ℕ). get_or xs i 0) same_d,
    ))

-- ---- one more grain

pub grain_settles : (g : Grid) (c p : PileView) (h : List ℕ) (site x : ℕ)
    → g ≡ c.grid → IsPile c → h ≡ c.heights → site < sites c.grid
    → x ≡ get_or h site x → SettlesTo g (λ i. get_or (set h site (x + 1)) i 0) p
    → SettlesTo c.grid (λ i. height_of c i + one_at site i) p
grain_settles g c p h site x grid is same inside read done =
    let each : length h ≡ sites c.grid = ap length same ∙ is.len in
    pile_settles g c.grid (λ i. get_or (set h site (x + 1)) i 0) (λ i. height_of c i + one_at site i) p done (sym grid)
    (λ i l. omega (
      arith,
      ap (λ (xs : List ℕ). get_or xs i 0) same,
      ap (λ k. k * one_at site i) (get_or_read h site x (omega arith) read 0),
      get_or-written h site (x + 1) i (omega arith),
    ))
