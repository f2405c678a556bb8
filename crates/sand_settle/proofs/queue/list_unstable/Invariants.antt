use Rattle.sand_settle.proofs.Common.{◌≡◌, get_or, Lists, may_topple}
use Rattle.sand_settle.proofs.queue.list_unstable.Given as goal

abbrev pub invariant-loop-site : goal.invariant-loop-site
invariant-loop-site l = record {
  listed : Lists l.site (may_topple (λ j. get_or l.heights j 0)) l.generation.items;
  room : l.generation.room ≡ l.fn.generation.room;
}
