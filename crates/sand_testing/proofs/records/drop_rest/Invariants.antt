use Rattle.sand_shared.specs.Passes.{IsPassOf}
use Rattle.sand_testing.proofs.records.drop_rest.Given as goal

abbrev pub invariant-drops : goal.invariant-drops
invariant-drops l = IsPassOf l.pile l.pass
