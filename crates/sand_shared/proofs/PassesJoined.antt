-- Two passes whose rows touch, and the joined pass; the seats of two such passes are joined to its seat.
use Rattle.sand_shared.proofs.Common.{◌≡◌, ℕ, ◌+◌, ◌-◌, ◌*◌, ◌⊎◌, ◌++◌, Bool, true, false, eqb, length, sym, refl, ap, ◌∙◌, subst, arith, length-append, ◌||◌, if◌then◌else◌, eq_of_mul-eq-mul_right, nat_tests, Grid, Rows, View, follows, joined, PassView, at_rest, together, IsPass, EachOnce, count_of, rows_follow, rows_together, AreRowsOf, Inside, Terms, shown, IsBare, Stands}
use Rattle.sand_shared.proofs.RowSites.{times_plus, rows_end}
use Rattle.sand_shared.proofs.ReceiptsTellHistory.{below_join, stands_once}

-- the rows of both, in either order
abbrev pub either_rows : Rows → Rows → Bool → Rows
either_rows r q b = if b
    then record { first = r.first; end = r.end + count_of q }
    else record { first = q.first; end = q.end + count_of r }

tests_agree : (a b c d : ℕ) → (a ≡ b → c ≡ d) → (c ≡ d → a ≡ b) → eqb a b ≡ eqb c d
tests_agree a b c d there back = grind (arith, nat_tests)

-- adjacent rows together are rows of the grid
rows_after : (g : Grid) (r s : Rows) → AreRowsOf g r → AreRowsOf g s → (s.first ≡ s.end) ⊎ (s.first ≡ r.end)
    → AreRowsOf g record { first = r.first; end = r.end + count_of s }
rows_after g r s rows more near =
    record {
      ordered = omega arith;
      inside = omega arith;
      none = λ same_ends. rows.none (omega arith);
    }

next_or_none : (r s : Rows) → rows_follow r s ≡ true → (s.first ≡ s.end) ⊎ (s.first ≡ r.end)
next_or_none r s t = grind (arith, nat_tests)

module _ (p q : PassView) (one : IsPass p) (other : IsPass q) (same : q.grid ≡ p.grid) where
  others : AreRowsOf p.grid q.rows
  others = subst (λ (g : Grid). AreRowsOf g q.rows) same other.rows

  widths : q.grid.width ≡ p.grid.width
  widths = ap (λ (g : Grid). g.width) same

  pub follows_is : follows (at_rest p) (at_rest q) ≡ rows_follow p.rows q.rows
  follows_is =
      let w = p.grid.width in
      let some = one.grid.some_width in
      let end = rows_end p.rows w one.rows.ordered in
      let few : length q.counts ≡ count_of q.rows * w = other.len ∙ ap (λ n. count_of q.rows * n) widths in
      let base : q.rows.first * q.grid.width ≡ q.rows.first * w = ap (λ n. q.rows.first * n) widths in
      let none = tests_agree (length q.counts) 0 q.rows.first q.rows.end
      (λ e. let z : count_of q.rows ≡ 0 = eq_of_mul-eq-mul_right w some (count_of q.rows) 0 (omega arith) in omega arith)
      (λ e. let z = ap (λ n. n * w) {x = count_of q.rows} {y = 0} (omega arith) in omega arith) in
      let next = tests_agree (q.rows.first * q.grid.width) (p.rows.first * w + length p.counts) q.rows.first p.rows.end
      (λ e. eq_of_mul-eq-mul_right w some q.rows.first p.rows.end (omega arith))
      (λ e. let z = ap (λ n. n * w) e in omega arith) in
      λ i. none i || next i

  -- joined by the rule, they have what both have
  pub joined_rest : (s l s' l' : ℕ)
      → joined (record (at_rest p) { spot = s; least = l }) (record (at_rest q) { spot = s'; least = l' })
      ≡ at_rest (together p q)
  joined_rest s l s' l' =
      let z : View = at_rest (together p q) in
      (λ i. record z {
        base = if follows_is i then (p.rows.first * p.grid.width) else (q.rows.first * widths i);
        counts = if follows_is i then p.counts ++ q.counts else q.counts ++ p.counts;
      })
      ∙ (λ i. record z { base = first_is (rows_follow p.rows q.rows) i })
    where
      first_is : (b : Bool)
          → (if b then (p.rows.first * p.grid.width) else (q.rows.first * p.grid.width))
          ≡ (either_rows p.rows q.rows b).first * p.grid.width
      first_is true = refl
      first_is false = refl

  module _ (touch : (rows_follow p.rows q.rows || rows_follow q.rows p.rows) ≡ true) where
    both_rows : (b : Bool) → rows_follow p.rows q.rows ≡ b → AreRowsOf p.grid (either_rows p.rows q.rows b)
    both_rows true e = rows_after p.grid p.rows q.rows one.rows others (next_or_none p.rows q.rows e)
    both_rows false e = rows_after p.grid q.rows p.rows others one.rows (next_or_none q.rows p.rows (rw e at touch))

    pub together_rows : AreRowsOf p.grid (rows_together p.rows q.rows)
    together_rows = both_rows (rows_follow p.rows q.rows) refl

    both_each : (b : Bool)
        → length (if b then (p.counts ++ q.counts) else (q.counts ++ p.counts))
        ≡ count_of (either_rows p.rows q.rows b) * p.grid.width
    both_each b =
        let w = p.grid.width in
        let few : length q.counts ≡ count_of q.rows * w = other.len ∙ ap (λ n. count_of q.rows * n) widths in
        let sum = times_plus (count_of p.rows) (count_of q.rows) w in
        elim b as (λ b. length (if b then (p.counts ++ q.counts) else (q.counts ++ p.counts))
        ≡ count_of (either_rows p.rows q.rows b) * p.grid.width) [
          | true ↦ length-append p.counts q.counts ∙ (let e = ap (λ n. n * w)
              {x = (p.rows.end + count_of q.rows) - p.rows.first}
              {y = count_of p.rows + count_of q.rows} (omega arith) in
              omega arith)
          | false ↦ length-append q.counts p.counts ∙ (let e = ap (λ n. n * w)
              {x = (q.rows.end + count_of p.rows) - q.rows.first}
              {y = count_of p.rows + count_of q.rows} (omega arith) in
              omega arith)
        ]

    pub together_each : length (together p q).counts ≡ count_of (together p q).rows * p.grid.width
    together_each = both_each (rows_follow p.rows q.rows)

module _ (x y : Inside) (inv : IsBare x) (inv' : IsBare y) (same : y.shape ≡ x.shape) where
  pub joined_view : joined x.seat.me.0 y.seat.me.0 ≡ at_rest (together (shown x) (shown y))
  joined_view =
      (λ i. joined (inv.me i).0 (inv'.me i).0)
      ∙ joined_rest (shown x) (shown y) inv.pass inv'.pass same
      x.seat.me.0.spot x.seat.me.0.least y.seat.me.0.spot y.seat.me.0.least

  module _ (touch : (rows_follow x.rows y.rows || rows_follow y.rows x.rows) ≡ true) where
    pub seats_touch : (follows x.seat.me.0 y.seat.me.0 || follows y.seat.me.0 x.seat.me.0) ≡ true
    seats_touch =
        let there = follows_is (shown x) (shown y) inv.pass inv'.pass same in
        let back = follows_is (shown y) (shown x) inv'.pass inv.pass (sym same) in
        (λ i. follows (inv.me i).0 (inv'.me i).0 || follows (inv'.me i).0 (inv.me i).0)
        ∙ (λ i. there i || back i) ∙ touch

    pub joined_pass : (t : Terms) (a : ℕ) (v : View) → v ≡ joined x.seat.me.0 y.seat.me.0 → Stands t a v
        → IsPass (together (shown x) (shown y))
    joined_pass t a v made stands =
        let p = shown x in
        let q = shown y in
        record {
          once = subst EachOnce (ap (λ (u : View). u.receipts) (made ∙ joined_view)) (stands_once t a v stands);
          below = below_join p.seen q.seen p.receipts q.receipts inv.pass.below inv'.pass.below;
          grid = inv.pass.grid;
          rows = together_rows p q inv.pass inv'.pass same touch;
          len = together_each p q inv.pass inv'.pass same touch;
        }
