-- A place that is in no union of sets is in none of them.
use Rattle.sand_fronts.proofs.Common.{bit_or, ◌∙◌, ap, arith, bit, bit_none, either, both_le}
use Rattle.std.proofs.lemmas.Bool.{eqb-true}
use Rattle.sand_fronts.proofs.board.has_none.Goals as goal

pub returns : goal.returns
returns c none p low =
    let t = c.args.numbers.now in
    let word = ap (λ w. bit w p) (eqb-true _ _ none) ∙ bit_none p in
    omega (
      arith,
      either (bit_or t.low t.high) t.due p,
      both_le (bit_or t.low t.high) t.due p,
      either t.low t.high p,
      both_le t.low t.high p,
    )
