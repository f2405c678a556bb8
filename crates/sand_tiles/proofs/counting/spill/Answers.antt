-- Each place is added once: before the loop comes to it, its entry in the list is the old one (`waiting`), so the
-- bound on its count covers the addition.
use Rattle.sand_tiles.proofs.Common.{rules, ℕ, ◌+◌, ◌<◌, ◌∙◌, arith, length, get_or, cases_eq}
use Rattle.std.proofs.lemmas.List.{get_or-set_same, get_or-set_other}
use Rattle.sand_tiles.proofs.counting.spill.Goals as goal

pub overflow_add-spilled : goal.overflow_add-spilled
overflow_add-spilled c =
    let i : ℕ = c.loop-place.place in
    let few = c.requires.bound i (omega (arith, c.loop-place-test.true)) in
    let waiting = c.loop-place.invariant.waiting i (omega arith) in
    omega (arith, c.times_at.ensures)

pub loop-place-preserved : goal.loop-place-preserved
loop-place-preserved c =
    let i : ℕ = c.loop-place.place in
    let before = c.loop-place.spilled in
    let v : ℕ = get_or before i 0 + c.times_at.result in
    let inside : i < length before = search rules in
    let same = get_or-set_same before i v 0 inside in
    let waits = c.loop-place.invariant.waiting i (omega arith) in
    record {
      moved = λ p less.
          let either = cases_eq p i in
          let other = get_or-set_other before i p v 0 in
          let moved = c.loop-place.invariant.moved p in
          grind (arith, c.times_at.ensures);
      waiting = λ p more.
          get_or-set_other before i p v 0 (λ e. omega arith) ∙ c.loop-place.invariant.waiting p (omega arith);
    }

pub returns-clause-kept : goal.returns-clause-kept
returns-clause-kept c p low = omega (arith, c.loop-place.invariant.moved p (omega (arith, c.loop-place-test.false)))
