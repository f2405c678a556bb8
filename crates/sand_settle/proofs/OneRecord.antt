-- Heights have one settled record, which depends only on those at the sites of the grid.
use Rattle.sand_settle.proofs.Common.{ℕ, ◌≡◌, ◌*◌, ◌<◌, ◌∙◌, refl, sym, ap, subst, arith, slice_index, ext_get_or, Grid, sites, missing, topplings, lost, IsStable, IsSettled, height_of, settled_once, settled_same, sum_below_none, underway_start, underway_end, SettledView, IsSettledRecord, IsSomeSettledRecord, odometer_of}

-- records with the same parts are the same
pub same_parts : {r q : SettledView} → r.pile.grid ≡ q.pile.grid → r.pile.heights ≡ q.pile.heights
    → r.odometer ≡ q.odometer → r.topplings ≡ q.topplings → r.lost ≡ q.lost → r ≡ q
same_parts grid heights odometer topplings lost = λ i. record {
  pile = record { grid = grid i; heights = heights i };
  odometer = odometer i;
  topplings = topplings i;
  lost = lost i;
}

pub some_record : {g : Grid} {s : ℕ → ℕ} {r : SettledView} → IsSettledRecord g s r → IsSomeSettledRecord r
some_record {g} {s} {r} is = (s, subst (λ h. IsSettledRecord h s r) (sym is.grid) is)

pub record_by_site : (g : Grid) (s t : ℕ → ℕ) (r : SettledView) → ((i : ℕ) → i < sites g → s i ≡ t i)
    → IsSettledRecord g s r → IsSettledRecord g t r
record_by_site g s t r same is = record {
  grid = is.grid;
  heights_each = is.heights_each;
  odometer_each = is.odometer_each;
  settled = settled_same g s t (odometer_of r) (odometer_of r) (height_of r.pile) (height_of r.pile)
      same (λ i l. refl) (λ i l. refl) is.settled;
  all_topplings = is.all_topplings;
  all_lost = is.all_lost;
}

module _ (g : Grid) (s : ℕ → ℕ) (r q : SettledView)
    (first : IsSettledRecord g s r) (second : IsSettledRecord g s q) where
  once : (i : ℕ) → i < sites g → (odometer_of r i ≡ odometer_of q i) × (height_of r.pile i ≡ height_of q.pile i)
  once = settled_once g s (odometer_of r) (odometer_of q)
      (height_of r.pile) (height_of q.pile) first.settled second.settled

  same_odometer : r.odometer ≡ q.odometer
  same_odometer = ext_get_or 0 r.odometer q.odometer (first.odometer_each ∙ sym second.odometer_each)
      (λ i l. let each = first.odometer_each in (once i (omega arith)).0)

  same_heights : r.pile.heights ≡ q.pile.heights
  same_heights = ext_get_or 0 r.pile.heights q.pile.heights (first.heights_each ∙ sym second.heights_each)
      (λ i l. let each = first.heights_each in (once i (omega arith)).1)

  pub one_record : r ≡ q
  one_record = same_parts (first.grid ∙ sym second.grid) same_heights same_odometer
      (first.all_topplings ∙ (λ k. topplings g (slice_index (same_odometer k))) ∙ sym second.all_topplings)
      (first.all_lost ∙ (λ k. lost g (slice_index (same_odometer k))) ∙ sym second.all_lost)

-- ---- a stable pile

pub stable_is_settled : (g : Grid) (s : ℕ → ℕ) → IsStable g s → IsSettled g s (λ i. 0) s
stable_is_settled g s stable = underway_end g s (λ i. 0) s (underway_start g s (λ i. 0) (λ i l. refl)) stable.low

pub record_of_stable : (g : Grid) (s : ℕ → ℕ) (r : SettledView) → IsStable g s → IsSettledRecord g s r
    → ((i : ℕ) → i < sites g → (height_of r.pile i ≡ s i) × (odometer_of r i ≡ 0)) × (r.topplings ≡ 0) × (r.lost ≡ 0)
record_of_stable g s r stable is =
    let same = settled_once g s (odometer_of r) (λ i. 0) (height_of r.pile) s is.settled (stable_is_settled g s stable) in (
      λ i l. ((same i l).1, (same i l).0),
      is.all_topplings ∙ sum_below_none (sites g) (odometer_of r) (λ i l. (same i l).0),
      is.all_lost ∙ sum_below_none (sites g) (λ i. missing g i * odometer_of r i)
          (λ i l. ap (λ n. missing g i * n) (same i l).0 ∙ omega arith),
    )
