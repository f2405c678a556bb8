use Rattle.std.proofs.Common.{◌≡◌, ℕ, ◌<◌, get_or, vec_len, vec_capacity}
use Rattle.sand_model.specs.Grid.{sites}
use Rattle.sand_certify.specs.Emptying.{IsEmptiedAt}
use Rattle.sand_certify.proofs.emptying.heights_emptied.Given as goal

abbrev pub invariant-loop-site : goal.invariant-loop-site
invariant-loop-site l = record {
  made : vec_len l.heights ≡ l.site;
  room : vec_capacity l.heights ≡ sites l.lattice;
  emptied : (i : ℕ) → i < l.site → IsEmptiedAt l.lattice (λ j. get_or l.counts j 0) i (get_or l.heights.items i 0);
}
