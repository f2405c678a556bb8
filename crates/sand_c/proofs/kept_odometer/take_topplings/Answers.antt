use Rattle.sand_c.proofs.Common.{rules, ℕ, ◌-◌, ◌<◌, ◌≤◌, ◌∙◌, ap, arith, length, ⊎_elim, slice_index, cases_lt, get_or-replicate, sites, odometer_of, grid_of_driven}
use Rattle.sand_settle.specs.Near.{AgreeFar}
use Rattle.sand_c.proofs.kept_odometer.take_topplings.Goals.{After-fill}
use Rattle.sand_c.proofs.kept_odometer.take_topplings.Goals as goal

-- a site that is farther away has not toppled
still : (c : After-fill) → AgreeFar (grid_of_driven c.args.pile.now) c.args.site c.args.reach
    (slice_index c.args.kept.now) (odometer_of c.args.pile.now.settled)
still c i l far = ⊎_elim
    (λ (some : slice_index c.args.kept.now i < odometer_of c.args.pile.now.settled i).
    absurd (omega (arith, c.requires.within i l some)))
    (λ (none : odometer_of c.args.pile.now.settled i ≤ slice_index c.args.kept.now i).
    omega (arith, c.requires.fewer i l))
    (cases_lt (slice_index c.args.kept.now i) (odometer_of c.args.pile.now.settled i))

pub update_odometer-requires-clause-far : goal.update_odometer-requires-clause-far
update_odometer-requires-clause-far c = still (goal.at.update_odometer-requires-clause-far c).After-fill

-- so its number is still 0
none : (c : After-fill) → AgreeFar (grid_of_driven c.args.pile.now) c.args.site c.args.reach
    (slice_index c.fill.new.self) (λ i. odometer_of c.args.pile.now.settled i - slice_index c.args.kept.now i)
none c i l far = ap (λ xs. slice_index xs i) (c.fill.ensures.after (λ y e. e))
    ∙ get_or-replicate {A = ℕ} (length c.args.topplings.now) i 0 0 (omega (arith, c.requires.topplings_each))
    ∙ omega (arith, still c i l far)

pub returns-clause-topplings : goal.returns-clause-topplings
returns-clause-topplings c i l = c.write_near.ensures.written
    (λ j. odometer_of c.args.pile.now.settled j - slice_index c.args.kept.now j) (λ j r less says. search rules)
    (rw c.shape.ensures.value (none (goal.at.returns-clause-topplings c).After-fill)) i
    (omega (arith, ap sites c.shape.ensures.value))
