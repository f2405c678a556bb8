use Rattle.sand_c.proofs.Common.{◌≡◌, true, are_within}
use Rattle.sand_c.proofs.settling.are_within.Given as goal

abbrev pub invariant-loop-pile : goal.invariant-loop-pile
invariant-loop-pile l = are_within l.limit l.sites l.heights l.pile ≡ true
