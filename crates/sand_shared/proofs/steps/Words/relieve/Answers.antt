-- What the pass itself knows to be at the site is at most what the look finds (`looked_at_most`), and for a whole pass
-- exactly that (`looked_exactly`). The seat is on a lawful pile, after an unload too (`stands_unloaded`): so its
-- counts are bounded (`stands_few`), and a whole pass topples no more than needed (`stands_sparing`).
use Rattle.sand_shared.proofs.Common.{◌≡◌, ℕ, ◌+◌, ◌-◌, ◌/◌, ◌^◌, ◌<◌, ◌≤◌, length, set, get_or, sum, sym, ap, ◌∙◌, subst, arith, rules, sites, View, Terms, grid_of_terms, looked, unloaded, raised, HasAll, IsSparing}
use Rattle.std.proofs.Common.{length-set}
use lib.Seq.{set-get_or}
use Rattle.sand_shared.proofs.GrainsAtSite.{holds-unloaded}
use Rattle.sand_shared.proofs.SeatOfPass.{looked_is, unloaded_is}
use Rattle.sand_shared.proofs.PassKnowsPile.{stands_few, stands_sparing, looked_at_most, looked_exactly, stands_unloaded}
use Rattle.sand_shared.proofs.steps.Words.relieve.Goals as goal

-- what the seat has after the look and the unload
unloaded_view : (c : goal.After-deliver_around)
    → c.unload.new.seat.me.0 ≡ unloaded c.args.self.now.terms
    (looked c.args.seat.now.me.0 c.args.site c.look-times.result) c.args.site (c.look-times.result / 4)
unloaded_view c =
    let t = c.args.self.now.terms in
    let i = c.args.site in
    let k = c.look-times.result / 4 in
    unloaded_is c.unload.ensures.happened.1
    ∙ ap (λ v. unloaded t v i k) (looked_is c.look-times.ensures.happened)

unloaded_rows : (c : goal.After-deliver_around)
    → c.unload.new.seat.me.0.base + length c.unload.new.seat.me.0.counts ≤ sites (grid_of_terms c.args.self.now.terms)
unloaded_rows c =
    let v = c.args.seat.now.me.0 in
    let i = c.args.site in
    let long = length-set v.counts (i - v.base) (get_or v.counts (i - v.base) 0 + c.look-times.result / 4) in
    subst (λ (u : View). u.base + length u.counts ≤ sites (grid_of_terms c.args.self.now.terms))
    (sym (unloaded_view c)) (omega arith)

-- a pass that had everything has it still
still_all : (t : Terms) (v : View) (i k n : ℕ) → HasAll t v → HasAll t (unloaded t (looked v i n) i k)
still_all t v i k n all =
    record { quota = all.quota; all_sites = λ j l. holds-unloaded t (looked v i n) i k j ∙ all.all_sites j l }

pub returns-then-times-ne0-clause-bound : goal.returns-then-times-ne0-clause-bound
returns-then-times-ne0-clause-bound c =
    subst (λ (v : View). sum v.counts < 2 ^ 54) (sym c.deliver_around.ensures.view)
    (stands_few (stands_unloaded c.unload.ensures.happened.1) (unloaded_rows c))

pub returns-then-times-ne0-clause-enough : goal.returns-then-times-ne0-clause-enough
returns-then-times-ne0-clause-enough c = omega (arith, looked_at_most c.look-times.ensures.happened c.requires.hand)

pub returns-then-times-ne0-clause-no_more : goal.returns-then-times-ne0-clause-no_more
returns-then-times-ne0-clause-no_more c all =
    let left = looked_exactly c.look-times.ensures.happened c.requires.hand all in omega arith

pub returns-then-times-ne0-clause-sparing : goal.returns-then-times-ne0-clause-sparing
returns-then-times-ne0-clause-sparing c all =
    let t = c.args.self.now.terms in
    let k = c.look-times.result / 4 in
    let stands = stands_unloaded c.unload.ensures.happened.1 in
    let has =
    subst (HasAll t) (sym (unloaded_view c)) (still_all t c.args.seat.now.me.0 c.args.site k c.look-times.result all) in
    let s = stands_sparing stands has (unloaded_rows c) in
    subst (IsSparing t) (sym c.deliver_around.ensures.view) record { needed = s.needed; weighed = s.weighed }

pub returns-else-times-ne0-clause-view : goal.returns-else-times-ne0-clause-view
returns-else-times-ne0-clause-view c =
    let v = c.args.seat.now.me.0 in
    let i = c.args.site in
    let k = c.look-times.result / 4 in
    let none : k ≡ 0 = search rules in
    let at = i - v.base in
    let same : v.counts ≡ raised v i k = sym (ap (λ z. set v.counts at z) (omega arith) ∙ set-get_or v.counts at 0) in
    let is = looked_is c.look-times.ensures.happened in
    is ∙ (λ q. record (looked v i ((sym is q).least)) { counts = same q })

pub returns-else-times-ne0-clause-enough : goal.returns-else-times-ne0-clause-enough
returns-else-times-ne0-clause-enough c = omega (arith, looked_at_most c.look-times.ensures.happened c.requires.hand)

pub returns-else-times-ne0-clause-no_more : goal.returns-else-times-ne0-clause-no_more
returns-else-times-ne0-clause-no_more c all =
    let left = looked_exactly c.look-times.ensures.happened c.requires.hand all in omega arith

pub returns-else-times-ne0-clause-bound : goal.returns-else-times-ne0-clause-bound
returns-else-times-ne0-clause-bound c =
    subst (λ (v : View). sum v.counts < 2 ^ 54) (sym (looked_is c.look-times.ensures.happened))
    (stands_few c.look-times.ensures.happened.before c.requires.rows)

pub returns-else-times-ne0-clause-sparing : goal.returns-else-times-ne0-clause-sparing
returns-else-times-ne0-clause-sparing c all =
    let s = stands_sparing c.look-times.ensures.happened.before all c.requires.rows in
    subst (IsSparing c.args.self.now.terms) (sym (looked_is c.look-times.ensures.happened)) record { needed = s.needed; weighed = s.weighed }
