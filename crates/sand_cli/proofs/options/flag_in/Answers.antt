use Rattle.sand_cli.proofs.Common.{◌∙◌, found_of, one_text-rows}
use Rattle.sand_cli.proofs.Reading.{flag_is}
use Rattle.sand_cli.proofs.options.flag_in.Goals as goal

pub returns : goal.returns
returns c =
    let same = one_text-rows (found_of c.args.options.now) c.args.name.now in
    c.unwrap_or.ensures ∙ flag_is _ _ c.get_one.result
    (λ none. c.get_one.ensures.none (same ∙ none)) (λ t is. c.get_one.ensures.value t (same ∙ is))
