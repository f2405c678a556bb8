-- The pile stays lawful when a pass takes grains from a site of its rows, to send them to the neighbours.
-- No site topples more often than needed (least action): the grains are on it, so w topples it too.
use Rattle.sand_shared.proofs.Common.{◌≡◌, ℕ, ◌+◌, ◌-◌, ◌*◌, ◌<◌, ◌≤◌, ◌≢◌, true, false, true≢false, length, sym, refl, ap, ◌∙◌, arith, nat_tests, sum_by-set, sites, flow, IsToppled, Stabilises, one_if, flow_same, flow-add, least_action, View, Terms, OpenPile, nobody, grid_of_terms, amount_at, numbered, receipts_for, held, holds_site, toppled_by, toppled, start_and_drawn, present, pass_at, IsLawfulPass, IsLawful, unload, unloaded, sent, May, after}
use Rattle.sand_shared.proofs.SumsOverPasses.{sum_by_kept, all_put}
use Rattle.sand_shared.proofs.GrainsAtSite.{amount_else, flow-amount, held-append, held-sent, toppled-unloaded, holds-unloaded, others_without}

module _ (t : Terms) (p : OpenPile) (a i k : ℕ) (r : IsLawful t p) (may : May t p (unload a i k)) where
  -- what the site loses
  height_given : (j : ℕ) → (p.height j - amount_at i (4 * k) j) + 4 * amount_at i k j ≡ p.height j
  height_given j = grind (arith, nat_tests)

  more_toppled : (j : ℕ) → toppled (after t p (unload a i k)) j ≡ toppled p j + amount_at i k j
  more_toppled j =
      let w = unloaded t (pass_at p a) i k in
      let c = sum_by-set (λ (u : View). toppled_by u j) p.passes a w nobody may.there in
      let e = toppled-unloaded t (pass_at p a) i k j may.own in omega arith

  -- what the hand gets for j
  more_held : (j : ℕ) → j < sites (grid_of_terms t)
      → held (unloaded t (pass_at p a) i k).hand j
      ≡ held (pass_at p a).hand j + flow (grid_of_terms t) (amount_at i k) j
  more_held j l = held-append (pass_at p a).hand (sent t i k) j ∙ ap (λ n. held (pass_at p a).hand j + n)
      (held-sent t i k j ∙ sym (flow-amount (grid_of_terms t) i k j may.inside l))

  -- what the site loses is in hand for its neighbours, so no grain vanishes
  unload_balance : IsToppled (grid_of_terms t) (start_and_drawn t (after t p (unload a i k)))
      (toppled (after t p (unload a i k))) (present (after t p (unload a i k)))
  unload_balance = record {
    balance = λ j l.
        let g = grid_of_terms t in
        let q = after t p (unload a i k) in
        let before = r.balance.balance j l in
        let h = height_given j in
        let u = more_toppled j in
        let c = sum_by-set (λ (u : View). held u.hand j) p.passes a (unloaded t (pass_at p a) i k) nobody may.there in
        let d = more_held j l in
        let e = flow_same g (toppled q) (λ m. toppled p m + amount_at i k m) (λ m _. more_toppled m) j l in
        let f = flow-add g (toppled p) (amount_at i k) j in omega arith;
  }

  -- the grains are on the site, so w topples it as often, too
  unload_needed : (w : ℕ → ℕ) → Stabilises (grid_of_terms t) (start_and_drawn t p) w
      → (j : ℕ) → j < sites (grid_of_terms t)
      → toppled (after t p (unload a i k)) j ≤ w j
  unload_needed w stab j l =
      let b = r.balance.balance i may.inside in
      let step =
      least_action (grid_of_terms t) (start_and_drawn t p) (toppled p)
      w i k may.inside stab (r.needed w stab) (omega arith) in
      grind (arith, nat_tests, more_toppled j, r.needed w stab j l, step)

  unloaded_pass : IsLawfulPass t (after t p (unload a i k)) (unloaded t (pass_at p a) i k)
  unloaded_pass =
      let g = grid_of_terms t in
      let v = pass_at p a in
      let f = r.passes a nobody may.there in
      record {
        seen = f.seen;
        receipts = f.receipts;
        hand = λ j l. (let h = f.hand j l in
            let d = more_held j l in
            let e = flow_same g (toppled_by (unloaded t v i k))
            (λ m. toppled_by v m + amount_at i k m) (λ m _. toppled-unloaded t v i k m may.own) j l in
            let b = flow-add g (toppled_by v) (amount_at i k) j in omega arith);
        least = λ own l. omega arith;
      }

  -- a lower bound that another pass knows on its own rows still holds
  other_pass : (b : ℕ) → b < length p.passes → b ≢ a → IsLawfulPass t (after t p (unload a i k)) (pass_at p b)
  other_pass b lb ne =
      let u = pass_at p b in
      let f = r.passes b nobody lb in
      record {
        seen = f.seen;
        receipts = f.receipts;
        hand = f.hand;
        least = λ own l. (let o = f.least own l in
            let apart : i ≢ u.spot = λ e. true≢false
            (sym (ap (holds_site u) e ∙ own) ∙ others_without t p r a i may.there may.inside may.own b lb ne) in
            let c = amount_else i (4 * k) u.spot apart in omega arith);
      }

  pub unload_keeps : IsLawful t (after t p (unload a i k))
  unload_keeps =
      let v = pass_at p a in
      let w = unloaded t v i k in
      let kept = λ (f : View → ℕ) (e : f w ≡ f v). sum_by_kept f p.passes a w nobody may.there e in
      let q = after t p (unload a i k) in
      record {
        balance = unload_balance;
        needed = unload_needed;
        numbers = λ x. kept (λ u. numbered u.receipts x) refl ∙ r.numbers x;
        receipts = kept (λ u. length u.receipts) refl ∙ r.receipts;
        receipts_by_site = λ j. kept (λ u. receipts_for u.receipts j) refl ∙ r.receipts_by_site j;
        all_sites = r.all_sites;
        quota = (let e = kept (λ u. u.left) refl in omega arith);
        holders = λ j l. kept (λ u. one_if (holds_site u j)) (ap one_if (holds-unloaded t v i k j)) ∙ r.holders j l;
        passes = all_put (IsLawfulPass t q) p.passes a w nobody may.there unloaded_pass other_pass;
      }
