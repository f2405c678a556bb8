-- The counts say how many grains in hand are for each site, and such a site is still to come in the list (`Waits`).
-- When it first comes, all its grains are laid (`waits_laid`); later it has none (`waits_past`). So in the end the
-- hand is empty (`hand_empty`).
use Rattle.sand_shared.proofs.Common.{ℕ, ◌+◌, List, [], drop, get_or, sym, refl, ap, ◌∙◌, subst, arith, Vec, Global, drop_all, drop_more, sites, View, Grains, grid_of_terms, StaysSeated}
use Rattle.atomic_table.specs.declared.shared.Seat.{Seat}
use Rattle.sand_shared.proofs.HandAfterPlacing.{Waits, read_count, waits_all, waits_past, waits_laid, count_is, hand_empty, counts_zero, laid_on}
use Rattle.sand_shared.proofs.EventsInARow.{laid_is}
use Rattle.sand_shared.proofs.StepsOnWords.{stays_on}
use Rattle.sand_shared.proofs.steps.Words.place_all.Goals as goal
use Rattle.sand_shared.proofs.steps.Words.place_all.Goals.{After-drops, then-amount-ne0, else-amount-ne0}

pub drops-init : goal.drops-init
drops-init c =
    let n = sites (grid_of_terms c.args.self.now.terms) in
    record {
      seat = record { table = refl; id = refl; bare = c.requires.seat.bare };
      view = refl;
      waits = subst (λ (l : List Grains). Waits n c.args.counts.now.items l c.args.drops.now) (sym c.requires.hand)
          (waits_all n c.args.counts.now.items c.args.drops.now c.requires.len c.requires.inside c.requires.counted);
    }

pub place-requires-clause-hand : goal.place-requires-clause-hand
place-requires-clause-hand c =
    let n = sites (grid_of_terms c.args.self.now.terms) in
    let ds = c.args.drops.now in
    let k = c.drops.site-index in
    let below = c.drops-test.true in
    let w = c.drops.invariant.waits in
    let read = read_count n k _ c.drops.counts.items ds w.len c.requires.inside below c.index-amount.ensures in
    let counted = w.counted (get_or ds k 0) (c.requires.inside k 0 below) in
    let same = count_is n (get_or ds k 0) c.drops.seat.me.0.hand w.single in omega arith

pub drops-preserved : goal.drops-preserved
drops-preserved c =
    let n = sites (grid_of_terms c.args.self.now.terms) in
    let ds = c.args.drops.now in
    let k = c.drops.site-index in
    let x = get_or ds k 0 in
    let below = c.drops-test.true in
    let inv = c.drops.invariant in
    let cs = c.drops.counts.items in
    let hand = c.drops.seat.me.0.hand in
    let read = read_count n k _ cs ds inv.waits.len c.requires.inside below c.index-amount.ensures in
    let coming = subst (Waits n cs hand) (drop_more ds k 0 below) inv.waits in
    let inside = c.requires.inside k 0 below in
    elim c.if-amount-ne0.branch [
      | then-amount-ne0 w ↦
          (let laid = ap (λ (s : Seat ℕ View). s.me.0) w.seat-is ∙ laid_is _ _ x _ _ _ _ w.place.ensures.happened.1 in
          let hand_is = ap (λ (v : View). v.hand) laid ∙ ap (λ m. laid_on x m hand) read in
          let counts_is = ap (λ (v : Vec ℕ Global). v.items) w.counts-is in
          record {
            seat = subst (StaysSeated c.args.seat.now) (sym w.seat-is) (stays_on inv.seat w.place.ensures.seat);
            view = laid ∙ (λ q. record (inv.view q) { hand = sym (ap (λ (v : View). v.hand) laid) q });
            waits = subst (λ (z : List ℕ × List Grains). Waits n z.0 z.1 (drop (k + 1) ds))
                (λ q. (sym counts_is q, sym hand_is q)) (waits_laid n x (drop (k + 1) ds) cs hand inside coming);
          })
      | else-amount-ne0 w ↦
          (let same = ap (λ (s : Seat ℕ View). s.me.0) w.seat-is in
          let counts_is = ap (λ (v : Vec ℕ Global). v.items) w.counts-is in
          record {
            seat = subst (StaysSeated c.args.seat.now) (sym w.seat-is) inv.seat;
            view = same ∙ (λ q. record (inv.view q) { hand = (sym same q).hand });
            waits = subst (λ (z : List ℕ × List Grains). Waits n z.0 z.1 (drop (k + 1) ds))
                (λ q. (sym counts_is q, (sym same q).hand))
                (waits_past n x (drop (k + 1) ds) cs hand (omega arith) coming);
          })
    ]

none_waits : (c : After-drops)
    → Waits (sites (grid_of_terms c.args.self.now.terms)) c.drops.counts.items c.drops.seat.me.0.hand []
none_waits c =
    let none = drop_all c.drops.site-index c.args.drops.now (omega arith) in
    subst (Waits (sites (grid_of_terms c.args.self.now.terms)) c.drops.counts.items c.drops.seat.me.0.hand)
    none c.drops.invariant.waits

pub returns-clause-view : goal.returns-clause-view
returns-clause-view c =
    let empty = hand_empty (sites (grid_of_terms c.args.self.now.terms))
    c.drops.counts.items c.drops.seat.me.0.hand (none_waits c) in
    c.drops.invariant.view ∙ (λ q. record c.args.seat.now.me.0 { hand = empty q })

pub returns-clause-none : goal.returns-clause-none
returns-clause-none c =
    counts_zero (sites (grid_of_terms c.args.self.now.terms)) c.drops.counts.items c.drops.seat.me.0.hand (none_waits c)
