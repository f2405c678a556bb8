use Rattle.sand_lab.proofs.Common.{arith, ◌≡◌, ◌+◌, ◌-◌, ◌<◌, ℕ, List, [], ◌∷◌, ◌++◌, ap, sym, subst, ◌∙◌, append-nil, add-one, All-push, Receipt, receipt, PassView, AllBelow, Ascends, receipt_sites, Reading, site_at}
use Rattle.sand_lab.proofs.OneTurnMore.{ascends_push, below_push, sites_push}
use Rattle.sand_lab.proofs.droppers.Dropper.drop_next.Goals as goal

pub returns-clause-dropped : goal.returns-clause-dropped
returns-clause-dropped c read first more h =
    let none = c.requires.empty in
    let p : PassView = c.args.self.now.pass in
    let q : PassView = c.drop_at.new.pass in
    let n = c.in-Ok._number in
    let at = c.next_site-site.result in
    let after : q ≡ record p { left = p.left - 1; seen = n + 1; receipts = p.receipts ++ receipt n at ∷ [] } =
    c.in-Ok.ensures.pass in
    let left : q.left ≡ p.left - 1 = ap (λ (x : PassView). x.left) after in
    let seen : q.seen ≡ n + 1 = ap (λ (x : PassView). x.seen) after in
    let receipts : q.receipts ≡ p.receipts ++ receipt n at ∷ [] = ap (λ (x : PassView). x.receipts) after in
    let next : at ≡ site_at first.sites.sites first.sites.seed first.sites.stream read =
    c.next_site-site.ensures.site ∙ ap (λ (r : Reading). site_at r.sites r.seed r.stream r.read) h.reading in
    let was = sym (append-nil (receipt_sites p.receipts)) ∙ (λ i. receipt_sites p.receipts ++ sym none i) ∙ h.sites in
    let fresh = c.in-Ok.ensures.after_all_seen in
    let all = h.left in
    record {
      who = h.who;
      of_pile = c.in-Ok.ensures.of_pile;
      kept = after
          ∙ ap (λ (x : PassView).
          record x { left = p.left - 1; seen = n + 1; receipts = p.receipts ++ receipt n at ∷ [] }) h.kept
          ∙ (λ i. record first.pass { left = sym left i; seen = sym seen i; receipts = sym receipts i });
      left = omega (arith, all, more, left);
      may_read = omega (arith, more);
      room = h.room;
      counts = h.counts;
      grid = h.grid;
      reading = c.next_site-site.ensures.read ∙ ap (λ (r : Reading). record r { read = r.read + 1 }) h.reading;
      inside = h.inside;
      sites = rw add-one ((λ i. receipt_sites (receipts i) ++ none i)
          ∙ append-nil (receipt_sites (p.receipts ++ receipt n at ∷ []))
          ∙ sites_push p.receipts (receipt n at) ∙ (λ i. was i ++ next i ∷ []));
      ascends = subst Ascends (sym receipts) (ascends_push p.seen p.receipts (receipt n at) h.ascends h.below fresh);
      within = subst (AllBelow c.args.pile.now.terms.quota) (sym receipts)
          (All-push (λ (r : Receipt). r.number < c.args.pile.now.terms.quota)
          p.receipts (receipt n at) h.within c.in-Ok.ensures.in_the_quota);
      below = subst (λ (z : ℕ × List Receipt). AllBelow z.0 z.1) (λ i. (sym seen i, sym receipts i))
          (below_push p.seen p.receipts (receipt n at) h.below fresh);
    }
