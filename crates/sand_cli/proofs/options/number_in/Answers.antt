use Rattle.sand_cli.proofs.Common.{◌∙◌, arith, refl, ExplainsUnsignedError, HasUnsignedDigitsIfOk, ParsesUnsigned, found_of, one_text-rows}
use Rattle.sand_cli.proofs.Reading.{number_is}
use Rattle.sand_cli.proofs.options.number_in.Goals as goal

pub returns : goal.returns
returns c =
    let same = one_text-rows (found_of c.args.options.now) c.args.name.now in
    number_is _ (λ bs r. ParsesUnsigned 64 10 bs r × ExplainsUnsignedError 10 bs r × HasUnsignedDigitsIfOk bs r)
    64 _ _ c.get_one.result refl (omega arith) (λ t x g. g.0)
    (λ none. c.get_one.ensures.none (same ∙ none)) (λ t is. c.get_one.ensures.value t (same ∙ is))
