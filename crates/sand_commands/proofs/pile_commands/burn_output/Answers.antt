use Rattle.sand_commands.proofs.Common.{IfOk-weaker, height_of}
use Rattle.sand_group.proofs.WhyRefused.{stable}
use Rattle.sand_commands.proofs.pile_commands.burn_output.Goals as goal

pub returns-clause-text : goal.returns-clause-text
returns-clause-text c =
    IfOk-weaker c.burn_text.result _ _
    (λ text written. record {
      pile = c.in_ok-pile.pile;
      burned = c.in_ok-burned.burned;
      read = c.in_ok-pile.ensures;
      stable = stable c.in_ok-pile.pile.grid (height_of c.in_ok-pile.pile)
          (λ high. let is = c.in_ok-burned.ensures.unstable.1 high in cc);
      found = c.in_ok-burned.ensures.burned;
      written = rw c.shape.ensures.value at written;
    })
    c.burn_text.ensures.text
