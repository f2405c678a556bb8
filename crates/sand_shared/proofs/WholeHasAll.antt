-- A whole pass holds all sites.
use Rattle.sand_shared.proofs.Common.{◌≡◌, ℕ, ◌+◌, ◌-◌, ◌*◌, List, leb, ltb, length, ap, ◌∙◌, arith, ◌&&◌, mul_comm, nat_tests, sites, Rows, Terms, grid_of_terms, PassView, at_rest, IsWhole, count_of, HasAll}

module _ (t : Terms) (p : PassView) (same : p.grid ≡ grid_of_terms t)
    (each : length p.counts ≡ count_of p.rows * p.grid.width) (whole : IsWhole t p) where
  pub whole_base : (at_rest p).base ≡ 0
  whole_base = ap (λ (r : Rows). r.first * p.grid.width) whole.rows ∙ omega arith

  pub whole_counts : length p.counts ≡ sites (grid_of_terms t)
  whole_counts =
      let g = grid_of_terms t in
      each ∙ (λ i. count_of (whole.rows i) * (same i).width)
      ∙ (ap (λ n. n * g.width) {x = g.height - 0} {y = g.height} (omega arith) ∙ mul_comm g.height g.width)

  pub whole_has_all : HasAll t (at_rest p)
  whole_has_all =
      let base = whole_base in
      let all = whole_counts in
      record { quota = omega arith; all_sites = λ i l. grind (arith, nat_tests, base, all) }

  -- it still does after a sweep
  pub swept_has_all : (counts : List ℕ) (spot least : ℕ) → length counts ≡ length p.counts
      → HasAll t (record (at_rest p) { counts = counts; spot = spot; least = least })
  swept_has_all counts spot least long =
      let all = whole_has_all in
      let base = (at_rest p).base in
      record { quota = all.quota; all_sites = λ i l. ap (λ n. leb base i && ltb i (base + n)) long ∙ all.all_sites i l }
