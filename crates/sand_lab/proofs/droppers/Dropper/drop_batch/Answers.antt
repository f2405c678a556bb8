use Rattle.sand_lab.proofs.Common.{arith, ◌≡◌, ◌+◌, ◌-◌, ◌<◌, ◌≤◌, List, ℕ, [], ◌++◌, All, length, ap, sym, subst, ◌∙◌, append-nil, All-nil, div_ceil, sites, Receipt, receipts_from, grid_of_terms, PassView, AllBelow, Ascends, receipt_sites}
use Rattle.sand_lab.proofs.OneTurnMore.{ascends_row, below_row, within_row, sites_row}
use Rattle.sand_lab.proofs.droppers.Dropper.drop_batch.Goals as goal

pub returns-clause-dropped : goal.returns-clause-dropped
returns-clause-dropped c turns read first h =
    let s = c.args.pile.now in
    let p : PassView = c.args.self.now.pass in
    let q : PassView = c.drop_all.new.pass in
    let n = c.in-Ok._number in
    let is : List ℕ = c.args.self.now.batch.items in
    let none : c.clear.new.self.items ≡ [] = c.clear.ensures.items in
    let after : q
    ≡ record p { left = p.left - length is; seen = n + length is; receipts = p.receipts ++ receipts_from n is } =
    c.in-Ok.ensures.pass ∙ ap (λ (xs : List ℕ).
    record p { left = p.left - length xs; seen = n + length xs; receipts = p.receipts ++ receipts_from n xs })
    c.as_slice-batch.ensures.value in
    let left : q.left ≡ p.left - length is = ap (λ (x : PassView). x.left) after in
    let seen : q.seen ≡ n + length is = ap (λ (x : PassView). x.seen) after in
    let receipts : q.receipts ≡ p.receipts ++ receipts_from n is = ap (λ (x : PassView). x.receipts) after in
    let fresh = c.in-Ok.ensures.after_all_seen in
    record {
      who = h.who;
      of_pile = c.in-Ok.ensures.of_pile;
      kept = after
          ∙ ap (λ (x : PassView). record x {
            left = p.left - length is;
            seen = n + length is;
            receipts = p.receipts ++ receipts_from n is;
          }) h.kept
          ∙ (λ i. record first.pass { left = sym left i; seen = sym seen i; receipts = sym receipts i });
      left = omega (arith, h.left, h.may_read, left, ap (λ (xs : List ℕ). length xs) none);
      may_read = h.may_read;
      room = subst (λ (n : ℕ). div_ceil turns 16 ≤ n) (sym c.clear.ensures.capacity) h.room;
      counts = c.drop_all.ensures.counts ∙ h.counts;
      grid = h.grid;
      reading = h.reading;
      inside = subst (All (λ i. i < sites (grid_of_terms s.terms)))
          (sym none) (All-nil (λ i. i < sites (grid_of_terms s.terms)));
      sites = (λ i. receipt_sites (receipts i) ++ none i)
          ∙ append-nil (receipt_sites (p.receipts ++ receipts_from n is)) ∙ sites_row n p.receipts is ∙ h.sites;
      ascends = subst Ascends (sym receipts) (ascends_row p.seen n p.receipts is h.ascends h.below fresh);
      within = subst (AllBelow s.terms.quota) (sym receipts) (within_row n s.terms.quota p.receipts is h.within
          (subst (λ (xs : List ℕ). 0 < length xs → n + length xs ≤ s.terms.quota)
          c.as_slice-batch.ensures.value c.in-Ok.ensures.in_the_quota));
      below = subst (λ (z : ℕ × List Receipt). AllBelow z.0 z.1)
          (λ i. (sym seen i, sym receipts i)) (below_row p.seen n p.receipts is h.below fresh);
    }
