-- What a sweep promises holds of the sites before the next one (`Sweeps`), and each turn carries it on (`next_swept`),
-- that of a site that does not topple, too. At the end it holds of all sites (`sweeps_end`, `sweeps_all`).
use Rattle.sand_shared.proofs.Common.{◌≡◌, ℕ, ◌+◌, ◌<◌, ◌≤◌, List, length, set, get_or, sym, ap, ◌∙◌, subst, arith, get_or_read, set-get_or, sites, View, grid_of_terms, looked, sites_limit}
use Rattle.sand_shared.proofs.StepsOnWords.{stays_on}
use Rattle.sand_shared.proofs.SweptSiteBySite.{Sweeps, Relieved, next_view, next_swept, sweeps_end, sweeps_all, sweeps_few}
use Rattle.sand_shared.proofs.steps.Words.sweep_rows.Goals as goal
use Rattle.sand_shared.proofs.steps.Words.sweep_rows.Goals.{After-relieve-times, After-sites}

pub overflow_add-base : goal.overflow_add-base
overflow_add-base c = omega (arith, sites_limit (grid_of_terms c.args.self.now.terms) c.tell_limits.ensures.pile.grid)

-- the sweep is at a site of the pass and of the grid
inside : (c : After-relieve-times)
    → let v = c.args.seat.now.me.0 in
    (v.base + length v.counts ≤ sites (grid_of_terms c.args.self.now.terms)) × (c.sites.i < length v.counts)
inside c =
    let first = ap (λ (l : List ℕ). length l) c.requires.counts.1 in
    (omega arith, omega arith)

-- what the turn at the site tells, in terms of the sweep
did : (c : After-relieve-times)
    → let v = c.args.seat.now.me.0 in
    let me = c.sites.seat.me.0 in
    Relieved c.args.self.now.terms (record (looked v me.spot me.least) { counts = c.sites.counts.items })
    c.relieve-times.new.seat.me.0 (v.base + c.sites.i) c.relieve-times.result
did c =
    let d = c.relieve-times.ensures in
    subst (λ (z : View × ℕ).
    Relieved c.args.self.now.terms z.0 c.relieve-times.new.seat.me.0 z.1 c.relieve-times.result)
    (λ q. (c.sites.invariant.view q, sym c.requires.counts.0 q + c.sites.i))
    record { view = d.view; bound = d.bound; enough = d.enough; no_more = d.no_more; sparing = d.sparing }

pub sites-preserved-then-times-eq0 : goal.sites-preserved-then-times-eq0
sites-preserved-then-times-eq0 c =
    let inv = c.sites.invariant in
    let v = c.args.seat.now.me.0 in
    let new = c.relieve-times.new.seat.me.0 in
    let cs = c.sites.counts.items in
    let i = c.sites.i in
    let n = c.sites.topplings in
    let here = (goal.at.sites-preserved-then-times-eq0 c).After-relieve-times in
    let at = inside here in
    let same : set cs i (get_or cs i 0 + c.relieve-times.result) ≡ cs =
    ap (set cs i) {x = get_or cs i 0 + c.relieve-times.result} {y = get_or cs i 0} (omega arith) ∙ set-get_or cs i 0 in
    let still : n + c.relieve-times.result ≡ n = omega arith in
    record {
      seat = stays_on inv.seat c.relieve-times.ensures.seat;
      view = next_view v cs i (did here) ∙ (λ q. record (looked v new.spot new.least) { counts = same q });
      swept = subst (λ (z : List ℕ × ℕ). Sweeps c.args.self.now.terms v z.0 (i + 1) z.1) (λ q. (same q, still q))
          (next_swept v cs i (did here) at.0 at.1 inv.swept);
    }

pub sites-preserved : goal.sites-preserved
sites-preserved c =
    let inv = c.sites.invariant in
    let v = c.args.seat.now.me.0 in
    let new = c.relieve-times.new.seat.me.0 in
    let cs = c.sites.counts.items in
    let i = c.sites.i in
    let times = c.relieve-times.result in
    let here = (goal.at.sites-preserved c).After-relieve-times in
    let at = inside here in
    let value : c.index_mut.result.now ≡ get_or cs i 0 = get_or_read cs _ _ (omega arith) c.index_mut.ensures.value 0 in
    record {
      seat = stays_on inv.seat c.relieve-times.ensures.seat;
      view = next_view v cs i (did here) ∙ (λ q. record (looked v new.spot new.least) { counts = set cs i (sym value q + times) });
      swept = subst (λ z. Sweeps c.args.self.now.terms v (set cs i (z + times)) (i + 1) (c.sites.topplings + times))
          (sym value) (next_swept v cs i (did here) at.0 at.1 inv.swept);
    }

swept_all : (c : After-sites)
    → let v = c.args.seat.now.me.0 in
    Sweeps c.args.self.now.terms v c.sites.counts.items (length v.counts) c.sites.topplings
swept_all c =
    let v = c.args.seat.now.me.0 in
    let first = ap (λ (l : List ℕ). length l) c.requires.counts.1 in
    subst (λ k. Sweeps c.args.self.now.terms v c.sites.counts.items k c.sites.topplings)
    (omega arith) c.sites.invariant.swept

pub returns-clause-swept : goal.returns-clause-swept
returns-clause-swept c = sweeps_end (swept_all c)

pub returns-clause-all : goal.returns-clause-all
returns-clause-all c = sweeps_all (swept_all c)

pub returns-clause-bound : goal.returns-clause-bound
returns-clause-bound c = sweeps_few (swept_all c)
