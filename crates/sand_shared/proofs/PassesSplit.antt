-- The rows that a pass keeps and gives away: at which site they begin, and how many sites they have. Splitting a seat
-- gives the seats of a pass that keeps its rows or its upper ones, and of one that gets the lower.
use Rattle.sand_shared.proofs.Common.{◌≡◌, ℕ, ◌+◌, ◌-◌, ◌*◌, ◌<◌, ◌≤◌, List, [], true, false, eqb, ltb, take, drop, length, sym, refl, ap, ◌∙◌, subst, ⊎_elim, arith, mul-le-mul_right, eq_of_mul-eq-mul_right, cases_eq, cases_lt, eq-eqb, ne_eqb, lt-ltb, le-ltb, length-drop, length-take-le, Grid, IsGrid, Rows, View, nobody, base_of, parent, child, PassView, at_rest, sites_kept, IsPass, no_rows, rows_between, count_of, upper_rows, lower_rows, AreRowsOf, take-length, All-nil, Me, Inside, Receipt, shown, IsBare}
use Rattle.sand_shared.proofs.RowSites.{times_plus}

pub between_some : (a b : ℕ) → a < b → rows_between a b ≡ record { first = a; end = b }
between_some a b l = let t : ltb a b ≡ true = lt-ltb a b l in rw t

pub between_none : (a b : ℕ) → b ≤ a → rows_between a b ≡ no_rows
between_none a b l = let t : ltb a b ≡ false = le-ltb a b l in rw t

base_none : (i : ℕ) (l : List ℕ) → length l ≡ 0 → base_of i l ≡ 0
base_none i l e = let t : eqb (length l) 0 ≡ true = eq-eqb (length l) 0 e in rw t

base_some : (i : ℕ) (l : List ℕ) → 0 < length l → base_of i l ≡ i
base_some i l some = let t : eqb (length l) 0 ≡ false = ne_eqb (length l) 0 (λ e. absurd (omega arith)) in rw t

-- the sites of the rows r
pub record AreSitesOf (g : Grid) (r : Rows) (base : ℕ) (cs : List ℕ) : Type 0 where
  pub base_is : base_of base cs ≡ r.first * g.width
  pub len : length cs ≡ count_of r * g.width
  pub rows : AreRowsOf g r

-- the rows from a up to b have the sites from a * width on
pub sites_between : (g : Grid) (a b base : ℕ) (cs : List ℕ) → IsGrid g → a ≤ b
    → b ≤ g.height → base ≡ a * g.width → length cs ≡ (b - a) * g.width
    → AreSitesOf g (rows_between a b) base cs
sites_between g a b base cs sides ordered inside e long =
    let w = g.width in
    let P : Rows → Type 0 = λ r. AreSitesOf g r base cs in
    ⊎_elim
    (λ (some : a < b).
    let wide : 1 * w ≤ (b - a) * w = mul-le-mul_right w (omega arith) in
    subst P (sym (between_some a b some))
    record {
      base_is = base_some base cs (omega arith) ∙ e;
      len = long;
      rows = record { ordered = ordered; inside = inside; none = λ same. absurd (omega arith) };
    })
    (λ (none : b ≤ a).
    let empty : (b - a) * w ≡ 0 = ap (λ n. n * w) {x = b - a} {y = 0} (omega arith) ∙ omega arith in
    subst P (sym (between_none a b none))
    record {
      base_is = base_none base cs (omega arith) ∙ omega arith;
      len = omega arith;
      rows = record { ordered = omega arith; inside = omega arith; none = λ _. refl };
    })
    (cases_lt a b)

-- rows have all sites of their pass
pub whole_sites : (g : Grid) (r : Rows) (cs : List ℕ) → IsGrid g → AreRowsOf g r → length cs ≡ count_of r * g.width
    → AreSitesOf g r (r.first * g.width) cs
whole_sites g r cs sides rows long =
    let w = g.width in
    let base = r.first * w in
    let same_ends = λ (none : count_of r * w ≡ 0).
    let z = eq_of_mul-eq-mul_right w sides.some_width (count_of r) 0 (omega arith) in
    rows.none (omega arith) in
    record {
      base_is = ⊎_elim
          (λ (none : length cs ≡ 0).
          let first = ap (λ n. n * w) (same_ends (omega arith)) in base_none base cs none ∙ omega arith)
          (λ (some : length cs ≡ 0 → ⊥). base_some base cs (omega arith))
          (cases_eq (length cs) 0);
      len = long;
      rows = rows;
    }

module _ (g : Grid) (r : Rows) (cs : List ℕ) (k : ℕ) (sides : IsGrid g) (rows : AreRowsOf g r)
    (one_each : length cs ≡ count_of r * g.width) (few : k ≤ count_of r) where
  kept_sites : (length cs - k * g.width ≡ ((r.end - k) - r.first) * g.width) × (k * g.width ≤ length cs)
  kept_sites =
      let w = g.width in
      let split = ap (λ n. n * w) {x = count_of r} {y = ((r.end - k) - r.first) + k} (omega arith)
      ∙ times_plus ((r.end - k) - r.first) k w in
      (omega arith, omega arith)

  pub upper_sites : AreSitesOf g (upper_rows r k) (r.first * g.width) (take (length cs - k * g.width) cs)
  upper_sites =
      let kept = kept_sites in
      sites_between g r.first (r.end - k) (r.first * g.width) (take (length cs - k * g.width) cs) sides
      (omega arith) (omega arith) refl (length-take-le (length cs - k * g.width) cs (omega arith) ∙ kept.0)

  pub lower_sites : AreSitesOf g (lower_rows r k)
      (r.first * g.width + (length cs - k * g.width)) (drop (length cs - k * g.width) cs)
  lower_sites =
      let w = g.width in
      let kept = kept_sites in
      let inside = rows.inside in
      let base = times_plus r.first ((r.end - k) - r.first) w in
      let base' = ap (λ n. n * w) {x = r.first + ((r.end - k) - r.first)} {y = r.end - k} (omega arith) in
      let count = ap (λ n. n * w) {x = r.end - (r.end - k)} {y = k} (omega arith) in
      sites_between g (r.end - k) r.end (r.first * w + (length cs - k * w)) (drop (length cs - k * w) cs)
      sides (omega arith) inside (omega arith) (length-drop (length cs - k * w) cs ∙ omega arith)

-- the rule's parts of a pass are what the two passes have between calls
module _ (p : PassView) (q spot least kept : ℕ) (r : Rows) (cs : List ℕ) (fits : kept ≤ length p.counts) where
  pub parent_rest : (left : ℕ) → p.left - q ≡ left → take kept p.counts ≡ cs
      → AreSitesOf p.grid r (p.rows.first * p.grid.width) (take kept p.counts)
      → parent (record (at_rest p) { spot = spot; least = least }) q (length p.counts - kept)
      ≡ record (at_rest (record p { left = left; rows = r; counts = cs })) { spot = spot }
  parent_rest left less counts here =
      let v : View = record (at_rest p) { spot = spot; least = least } in
      let all : length p.counts - (length p.counts - kept) ≡ kept = omega arith in
      (λ i. record v {
        left = less i;
        base = base_of v.base (take (all i) p.counts);
        counts = take (all i) p.counts;
        least = 0;
      })
      ∙ (λ i. record v { left = left; base = here.base_is i; counts = counts i; least = 0 })

  pub child_rest : drop kept p.counts ≡ cs
      → AreSitesOf p.grid r (p.rows.first * p.grid.width + kept) (drop kept p.counts)
      → child (record (at_rest p) { spot = spot; least = least }) q (length p.counts - kept)
      ≡ at_rest (record p { left = q; receipts = []; rows = r; counts = cs })
  child_rest counts here =
      let all : length p.counts - (length p.counts - kept) ≡ kept = omega arith in
      let start = p.rows.first * p.grid.width in
      (λ i. record nobody {
        left = q;
        seen = p.seen;
        base = base_of (start + all i) (drop (all i) p.counts);
        counts = drop (all i) p.counts;
      })
      ∙ (λ i. record nobody { left = q; seen = p.seen; base = here.base_is i; counts = counts i })

-- a pass that keeps its rows
pub rows_kept : (x : Inside) (inv : IsBare x) (q : ℕ)
    → parent x.seat.me.0 q (length x.seat.me.0.counts - length x.counts.items)
    ≡ record (at_rest (record (shown x) { left = x.left - q })) { spot = x.seat.me.0.spot }
rows_kept x inv q =
    let cs = x.counts.items in
    let base = x.rows.first * x.shape.width in
    let all = take-length cs in
    let here = whole_sites x.shape x.rows cs inv.pass.grid inv.pass.rows inv.pass.len in
    ap (λ (m : Me ℕ View). parent m.0 q (length m.0.counts - length cs)) inv.me
    ∙ parent_rest (shown x) q x.seat.me.0.spot x.seat.me.0.least (length cs) x.rows cs
    (omega arith) (x.left - q) refl all (subst (AreSitesOf x.shape x.rows base) (sym all) here)

module _ (x : Inside) (k : ℕ) where
  abbrev pub upper : PassView
  upper = record (shown x) { rows = upper_rows x.rows k; counts = take (sites_kept (shown x) k) x.counts.items }

  abbrev pub lower : PassView
  lower = record (shown
      x) { left = 0; receipts = []; rows = lower_rows x.rows k; counts = drop (sites_kept (shown x) k) x.counts.items }

  module _ (inv : IsBare x) (few : k ≤ count_of x.rows) where
    sites_above : AreSitesOf x.shape (upper_rows x.rows k) (x.rows.first * x.shape.width) upper.counts
    sites_above = upper_sites x.shape x.rows x.counts.items k inv.pass.grid inv.pass.rows inv.pass.len few

    sites_below : AreSitesOf x.shape (lower_rows x.rows k)
        (x.rows.first * x.shape.width + sites_kept (shown x) k) lower.counts
    sites_below = lower_sites x.shape x.rows x.counts.items k inv.pass.grid inv.pass.rows inv.pass.len few

    pub upper_pass : IsPass upper
    upper_pass = record {
      once = inv.pass.once;
      below = inv.pass.below;
      grid = inv.pass.grid;
      rows = sites_above.rows;
      len = sites_above.len;
    }

    pub lower_pass : IsPass lower
    lower_pass = record {
      once = λ n. omega arith;
      below = All-nil (λ (r : Receipt). r.number < x.seen);
      grid = inv.pass.grid;
      rows = sites_below.rows;
      len = sites_below.len;
    }

    pub upper_has : parent x.seat.me.0 0 (length x.seat.me.0.counts - sites_kept (shown x) k)
        ≡ record (at_rest upper) { spot = x.seat.me.0.spot }
    upper_has =
        let kept = sites_kept (shown x) k in
        ap (λ (m : Me ℕ View). parent m.0 0 (length m.0.counts - kept)) inv.me
        ∙ parent_rest (shown x) 0 x.seat.me.0.spot x.seat.me.0.least kept
        (upper_rows x.rows k) upper.counts (omega arith) x.left (omega arith) refl sites_above

    pub lower_has : child x.seat.me.0 0 (length x.seat.me.0.counts - sites_kept (shown x) k) ≡ at_rest lower
    lower_has =
        let kept = sites_kept (shown x) k in
        ap (λ (m : Me ℕ View). child m.0 0 (length m.0.counts - kept)) inv.me
        ∙ child_rest (shown x) 0 x.seat.me.0.spot x.seat.me.0.least kept
        (lower_rows x.rows k) lower.counts (omega arith) refl sites_below
