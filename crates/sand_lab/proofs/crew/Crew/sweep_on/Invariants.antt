use Rattle.sand_lab.proofs.Common.{ℕ, Wish, HasWorked}
use Rattle.sand_lab.proofs.crew.Crew.sweep_on.Given as goal

abbrev pub invariant-loop : goal.invariant-loop
invariant-loop g l =
    (wish : Wish) (epoch : ℕ) → HasWorked l.pile wish epoch l.fn.self → HasWorked l.pile wish epoch l.self
