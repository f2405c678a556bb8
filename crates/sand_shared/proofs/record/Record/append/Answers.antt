-- The second record starts from the settled pile of the first, and settling in two parts is settling at once: so the
-- odometers and the sums of both add up (`followed`). All entries are below 2^54, so they fit (`small_entries`).
use Rattle.sand_shared.proofs.Common.{◌≡◌, ℕ, ◌+◌, ◌<◌, ◌++◌, List, length, sum, sym, ap, ◌∙◌, subst, arith, rules, slice_index, SettledView, IsSomeSettledRecord, RecordView, IsOneThreads}
use Rattle.sand_shared.proofs.RecordSums.{AreJoined, small_entries, small_topplings, small_lost, joined_topplings, both, followed, settled_record}
use Rattle.sand_shared.proofs.record.Record.append.Goals.{After-lost-2}
use Rattle.sand_shared.proofs.record.Record.append.Goals as goal

pub add-requires-clause-fits : goal.add-requires-clause-fits
add-requires-clause-fits c i inside =
    let a = small_entries _ c.self.invariant i in
    let b = small_entries _ c.next.invariant i in
    let mine = ap (λ (l : List ℕ). slice_index l i) (c.in_ok-odometer.ensures.items ∙ c.odometers.ensures.value) in
    let theirs = ap (λ (l : List ℕ). slice_index l i) c.odometers-2.ensures.value in omega arith

pub overflow_add-lost : goal.overflow_add-lost
overflow_add-lost c =
    let a = small_lost _ c.self.invariant in
    let b = small_lost _ c.next.invariant in
    omega arith

joined : (c : After-lost-2) → AreJoined c.args.self.now c.args.next.now c.add.new.numbers.items
joined c =
    let mine = c.in_ok-odometer.ensures.items ∙ c.odometers.ensures.value
    ∙ ap (λ (v : RecordView). v.settled.odometer) c.self.view_is in
    let theirs = c.odometers-2.ensures.value ∙ ap (λ (v : RecordView). v.settled.odometer) c.next.view_is in
    record {
      first = subst IsOneThreads c.self.view_is c.self.invariant;
      second = subst IsOneThreads c.next.view_is c.next.invariant;
      joint = c.requires.start;
      limit = c.requires.limit;
      len = c.add.ensures.len ∙ ap (λ (l : List ℕ). length l) mine;
      each = subst (λ (z : List ℕ × List ℕ). (i : ℕ) → i < length z.1
          → slice_index c.add.new.numbers.items i ≡ slice_index z.0 i + slice_index z.1 i)
          (λ i. (mine i, theirs i)) c.add.ensures.sums;
    }

-- the settled record of both histories has these parts
parts : (c : After-lost-2)
    → (both c.args.self.now c.args.next.now c.add.new.numbers.items).settled
    ≡ record {
      pile = c.in_ok-pile.pile;
      odometer = c.add.new.numbers.items;
      topplings = sum c.add.new.numbers.items;
      lost = c.lost.result + c.lost-2.result;
    }
parts c =
    let pile : c.in_ok-pile.pile ≡ c.args.next.now.settled.pile =
    c.in_ok-pile.ensures ∙ c.pile.ensures.value ∙ ap (λ (v : RecordView). v.settled.pile) c.next.view_is in
    let topplings = joined_topplings _ _ _ (joined c) in
    let mine = c.lost.ensures ∙ ap (λ (v : RecordView). v.settled.lost) c.self.view_is in
    let theirs = c.lost-2.ensures ∙ ap (λ (v : RecordView). v.settled.lost) c.next.view_is in
    λ i. record {
      pile = sym pile i;
      odometer = c.add.new.numbers.items;
      topplings = sym topplings i;
      lost = sym mine i + sym theirs i;
    }

pub of_parts-requires-clause-settled : goal.of_parts-requires-clause-settled
of_parts-requires-clause-settled c =
    let at = (goal.at.of_parts-requires-clause-settled c).After-lost-2 in
    subst IsSomeSettledRecord (parts at) (settled_record _ (followed _ _ _ (joined at)))

pub of_parts-requires-clause-fits : goal.of_parts-requires-clause-fits
of_parts-requires-clause-fits c =
    let at = (goal.at.of_parts-requires-clause-fits c).After-lost-2 in
    let few = small_topplings _ (followed _ _ _ (joined at)) in
    let sums = joined_topplings _ _ _ (joined at) in omega arith

pub invariant_of-self-2 : goal.invariant_of-self-2
invariant_of-self-2 c =
    let at = (goal.at.invariant_of-self-2 c).After-lost-2 in
    let start : c.self.inside.start ≡ c.args.self.now.start = ap (λ (v : RecordView). v.start) c.self.view_is in
    let history : c.append.new.self ≡ c.args.self.now.history ++ c.args.next.now.history = search rules in
    let settled = c.of_parts.ensures ∙ sym (parts at) in
    subst IsOneThreads (λ i. record { start = sym start i; history = sym history i; settled = sym settled i })
    (followed _ _ _ (joined at))

pub returns-clause-one_threads : goal.returns-clause-one_threads
returns-clause-one_threads c = invariant_of-self-2 c

pub returns-clause-topplings : goal.returns-clause-topplings
returns-clause-topplings c =
    let at = (goal.at.returns-clause-topplings c).After-lost-2 in
    ap (λ (s : SettledView). s.topplings) (c.of_parts.ensures ∙ sym (parts at))

pub returns-clause-lost : goal.returns-clause-lost
returns-clause-lost c =
    let at = (goal.at.returns-clause-lost c).After-lost-2 in
    ap (λ (s : SettledView). s.lost) (c.of_parts.ensures ∙ sym (parts at))
