use Rattle.std.proofs.Common.{◌≡◌, ℕ, ◌<◌, get_or, vec_len, vec_capacity}
use Rattle.sand_model.specs.Grid.{sites}
use Rattle.sand_certify.specs.Certificate.{IsLeftAt}
use Rattle.sand_certify.proofs.certificate.heights_left.Given as goal

abbrev pub invariant-loop-site : goal.invariant-loop-site
invariant-loop-site l = record {
  made : vec_len l.heights ≡ l.site;
  room : vec_capacity l.heights ≡ sites l.lattice;
  left : (i : ℕ) → i < l.site
      → IsLeftAt l.lattice (λ j. get_or l.start j 0) (λ j. get_or l.counts j 0)
      (λ j. get_or l.turns j 0) i (get_or l.heights.items i 0);
}
