use Rattle.sand_lab.proofs.Common.{arith, ◌≡◌, ℕ, ◌+◌, ◌<◌, List, length, Vec, true≢false, ap, sym, subst, ◌∙◌, div_ceil, Dropper, IsDropping}
use Rattle.std.specs.declared.alloc.Global.{Global}
use Rattle.sand_lab.proofs.OneTurnMore.{some_in_a_batch, begins, took_drop_turns}
use Rattle.sand_lab.proofs.droppers.DropperTakeTurns.take_turns.Goals as goal
use Rattle.sand_lab.proofs.droppers.DropperTakeTurns.take_turns.Goals.{then-holds, else-holds}

pub loop-turn-init : goal.loop-turn-init
loop-turn-init g c = record {
  dropping = begins c.args.pile.now c.args.turns c.args.self.now c.requires;
  bound = λ some.
      let one = some_in_a_batch c.args.turns some in
      omega (arith, one, ap (λ (xs : List ℕ). length xs) c.requires.none_read);
  one_by_one = λ holds. c.requires.none_read;
}

pub drop_next-requires-clause-dropping : goal.drop_next-requires-clause-dropping
drop_next-requires-clause-dropping g c = record {
  read = c.loop-turn.turn;
  first = c.args.self.now;
  more = c.loop-turn-test.true;
  dropping = c.loop-turn.invariant.dropping;
}

pub read_next-requires-clause-dropping : goal.read_next-requires-clause-dropping
read_next-requires-clause-dropping g c = record {
  read = c.loop-turn.turn;
  first = c.args.self.now;
  more = c.loop-turn-test.true;
  dropping = c.loop-turn.invariant.dropping;
}

pub read_next-requires-clause-bound : goal.read_next-requires-clause-bound
read_next-requires-clause-bound g c = c.loop-turn.invariant.bound (omega (arith, c.loop-turn-test.true))

pub loop-turn-preserved : goal.loop-turn-preserved
loop-turn-preserved g c =
    let s = c.args.pile.now in
    let turns = c.args.turns in
    let next = c.loop-turn.turn + 1 in
    let was = c.loop-turn.invariant in
    elim c.if-holds.branch [
      | then-holds w ↦ record {
        dropping = subst (IsDropping s turns next c.args.self.now) (sym w.self-is)
            (w.drop_next.ensures.dropped c.loop-turn.turn c.args.self.now c.loop-turn-test.true was.dropping);
        bound = λ some. subst (λ (xs : List ℕ). length xs < div_ceil turns 16)
            (sym (ap (λ (x : Dropper). x.batch.items) w.self-is
            ∙ ap (λ (b : Vec ℕ Global). b.items) w.drop_next.ensures.batch))
            (was.bound some);
        one_by_one = λ holds. ap (λ (x : Dropper). x.batch.items) w.self-is
            ∙ ap (λ (b : Vec ℕ Global). b.items) w.drop_next.ensures.batch ∙ was.one_by_one holds;
      }
      | else-holds w ↦ record {
        dropping = subst (IsDropping s turns next c.args.self.now) (sym w.self-is)
            (w.read_next.ensures.read c.loop-turn.turn c.args.self.now c.loop-turn-test.true was.dropping);
        bound = λ some.
            subst (λ (x : Dropper). length x.batch.items < div_ceil turns 16) (sym w.self-is) w.read_next.ensures.bound;
        one_by_one = λ holds. absurd (true≢false (sym holds ∙ w.if-holds.false));
      }
    ]

pub drop_batch-requires : goal.drop_batch-requires
drop_batch-requires g c = record {
  turns = c.args.turns;
  read = c.loop-turn.turn;
  first = c.args.self.now;
  dropping = c.loop-turn.invariant.dropping;
}

pub returns : goal.returns
returns g c =
    let all : c.loop-turn.turn ≡ c.args.turns =
    omega (arith, c.loop-turn-test.false, c.loop-turn.invariant.dropping.may_read) in
    took_drop_turns c.args.pile.now c.args.turns c.args.self.now c.drop_batch.new.self
    (subst (λ (n : ℕ). IsDropping c.args.pile.now c.args.turns n c.args.self.now c.drop_batch.new.self) all
    (c.drop_batch.ensures.dropped c.args.turns c.loop-turn.turn c.args.self.now c.loop-turn.invariant.dropping))
    c.drop_batch.ensures.all
