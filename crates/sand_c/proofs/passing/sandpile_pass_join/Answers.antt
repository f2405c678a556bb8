use Rattle.sand_c.proofs.Joins.{first_is_empty, other_is_empty, are_of_two_piles}
use Rattle.sand_c.proofs.passing.sandpile_pass_join.Goals as goal

pub returns-in_default-clause-answer : goal.returns-in_default-clause-answer
returns-in_default-clause-answer c = first_is_empty c.number.result c.args.pass.now.held c.args.other.now.held
    c.in_default.ensures.counted c.number.ensures

pub returns-in_default-count_in-clause-answer : goal.returns-in_default-count_in-clause-answer
returns-in_default-count_in-clause-answer c = other_is_empty c.number-in_default-count_in.result c.args.pass.now.held c.args.other.now.held
    c.in-Some.ensures.counted c.in_default-count_in.ensures.counted c.number-in_default-count_in.ensures

pub returns-then-ne-clause-answer : goal.returns-then-ne-clause-answer
returns-then-ne-clause-answer c = are_of_two_piles c.number-then-ne.result c.args.pass.now.held c.args.other.now.held
    c.in-Some.ensures.counted c.in-Some-count_in.ensures.counted c.number-then-ne.ensures
