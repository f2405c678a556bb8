-- The list up to the head has the sites that burn within the steps so far (`before`), and the whole list those that
-- burn within one more (`next_in_list`). When the head is at the end the two are the same: a step burns nothing, and
-- so no later one does (`times_end`).
use Rattle.sand_group.proofs.Common.{ℕ, ◌≡◌, ◌∙◌, arith, ap, sym, List, length, replicate, get_or, take, slice_index, get_or-replicate, length-replicate, take_all, sum_by_more_le, sites, one_at, sites_limit, lists_below, lists_length, is_in}
use Rattle.sand_group.proofs.BurningSteps.{none_before, next_in_list, times_begin, times_on, times_end}
use Rattle.sand_group.proofs.burning_steps.times_of.Goals as goal

pub loop-head-init : goal.loop-head-init
loop-head-init c =
    let g = c.args.lattice.now in
    let full : c.in_ok-times.times.items ≡ replicate (sites g) 0 = c.in_ok-times.ensures.items_if_clones_equal (λ y e. e)
    ∙ ap (λ n. replicate n 0) (c.sites.ensures.value ∙ ap sites c.shape.ensures.value) in
    record {
      len = c.requires.len;
      times_each = ap length full ∙ length-replicate {A = ℕ} (sites g) 0;
      head = omega arith;
      steps = omega arith;
      counts = c.requires.counts;
      all = c.requires.all;
      room = c.requires.room;
      in_turn = tt;
      before = λ i l. sym (none_before g (slice_index c.args.heights.now) i);
      times = times_begin g (slice_index c.args.heights.now) (slice_index c.in_ok-times.times.items)
          (λ i l. ap (λ (xs : List ℕ). get_or xs i 0) full ∙ get_or-replicate {A = ℕ} (sites g) i 0 0 l);
    }

pub overflow_add-step : goal.overflow_add-step
overflow_add-step c = omega (
  arith,
  c.loop-head.invariant.steps,
  c.loop-head-test.true,
  c.len.ensures,
  c.loop-head.burnt.ok,
  lists_length _ _ _ c.loop-head.invariant.all,
  sites_limit c.args.lattice.now c.shape.ensures.sides,
)

pub note_step-requires-clause-inside : goal.note_step-requires-clause-inside
note_step-requires-clause-inside c =
    rw (c.deref.ensures.value, c.loop-head.invariant.times_each) (lists_below _ _ _ c.loop-head.invariant.all)

pub loop-head-smaller : goal.loop-head-smaller
loop-head-smaller c = omega (arith, lists_length _ _ _ c.loop-head.invariant.all, c.loop-head.burnt.ok)

pub loop-head-preserved : goal.loop-head-preserved
loop-head-preserved c =
    let g = c.args.lattice.now in
    let s = slice_index c.args.heights.now in
    let old = c.loop-head.invariant in
    let burnt = c.loop-head.burnt.items in
    let back : take c.burn_step-head.result c.burn_step-head.new.burnt.items ≡ burnt =
    ap (λ n. take n c.burn_step-head.new.burnt.items) c.burn_step-head.ensures.end ∙ c.burn_step-head.ensures.kept in
    let now = next_in_list g s (slice_index c.loop-head.unburnt.items) burnt c.loop-head.head c.loop-head.step old.all
    old.counts old.before in
    record {
      len = c.burn_step-head.ensures.len;
      times_each = c.note_step.ensures.len ∙ old.times_each;
      head = omega (arith, c.burn_step-head.ensures.end, c.burn_step-head.ensures.inside);
      steps = omega (arith, old.steps, c.burn_step-head.ensures.end, c.loop-head-test.true, c.len.ensures);
      counts = rw back c.burn_step-head.ensures.counts;
      all = c.burn_step-head.ensures.all;
      room = c.burn_step-head.ensures.room;
      in_turn = rw back c.burn_step-head.ensures.in_turn;
      before = λ i l. ap (λ xs. is_in xs i) back ∙ now i l;
      times = times_on g s (slice_index c.loop-head.times.items) (slice_index c.note_step.new.times.items)
          (slice_index c.loop-head.unburnt.items) burnt c.loop-head.head c.loop-head.step old.times old.all old.before now
          (rw c.deref.ensures.value at c.note_step.ensures.noted) (rw c.deref.ensures.value at c.note_step.ensures.kept)
          (λ i. omega (
            arith,
            sum_by_more_le (λ j. one_at j i) burnt c.loop-head.head 0
                (omega (arith, c.loop-head-test.true, c.len.ensures, c.loop-head.burnt.ok)),
          ));
    }

pub returns-clause-times : goal.returns-clause-times
returns-clause-times c =
    let g = c.args.lattice.now in
    let s = slice_index c.args.heights.now in
    let old = c.loop-head.invariant in
    let whole = take_all c.loop-head.head c.loop-head.burnt.items
    (omega (arith, c.loop-head-test.false, c.len.ensures, c.loop-head.burnt.ok)) in
    let now = next_in_list g s (slice_index c.loop-head.unburnt.items) c.loop-head.burnt.items c.loop-head.head
    c.loop-head.step old.all old.counts old.before in
    times_end g s (slice_index c.loop-head.times.items) c.loop-head.step old.times
    (λ i l. sym (now i l) ∙ sym (ap (λ xs. is_in xs i) whole) ∙ old.before i l)
