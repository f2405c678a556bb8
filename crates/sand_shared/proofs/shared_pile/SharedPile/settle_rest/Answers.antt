use Rattle.sand_shared.proofs.LastPileIsSettled.{rest_of}
use Rattle.sand_shared.proofs.shared_pile.SharedPile.settle_rest.Goals as goal

pub returns-in-Ok-clause-rest : goal.returns-in-Ok-clause-rest
returns-in-Ok-clause-rest c =
    rest_of c.args.self.now.terms c.args.pass.now c.current_pile-current.result c.in-Ok.rest
    c.current_pile-current.ensures.grid c.current_pile-current.ensures.underway c.in-Ok.ensures.record
