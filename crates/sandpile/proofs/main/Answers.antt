use Rattle.std.proofs.Common.{rules}
use Rattle.sandpile.proofs.main.Goals as goal

pub answer_and_advise-requires : goal.answer_and_advise-requires
answer_and_advise-requires g c = (search rules, c.is_nothing.ensures c.if-is_nothing.false)
