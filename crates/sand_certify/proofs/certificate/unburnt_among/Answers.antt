-- To count the neighbours that burn no earlier is to add up a flow of 1 from each of them (`count_is_flow`), and that
-- is a sum over the four places, with 0 from a place outside the grid (`flow_four`).
use Rattle.std.proofs.Common.{ℕ, Bool, arith, leb, get_or}
use Rattle.sand_model.proofs.Neighbours.{flow_four}
use Rattle.sand_model.proofs.Flow.{count_is_flow, indicator}
use Rattle.sand_certify.proofs.certificate.unburnt_among.Goals as goal

pub returns : goal.returns
returns c g site e same =
    let set : ℕ → Bool = λ j. leb c.args.turn (get_or c.args.turns.now j 0) in
    let four = flow_four g (indicator set) site in
    let count = count_is_flow g set site in
    let up = rw e at c.is_no_earlier-up.ensures in
    let left = rw e at c.is_no_earlier-left.ensures in
    let right = rw e at c.is_no_earlier-right.ensures in
    let down = rw e at c.is_no_earlier-down.ensures in
    rw same (omega arith)
