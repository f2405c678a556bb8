use Rattle.sand_text.proofs.Common.{◌+◌, take, length, arith, length-take, usual}
use Rattle.sand_text.proofs.Streams.{further, any_fault}
use Rattle.sand_text.proofs.flow.read_all.Goals as goal

pub returns-then-count-len-clause-too_long : goal.returns-then-count-len-clause-too_long
returns-then-count-len-clause-too_long g c = grind (arith, usual, further, length-take)

pub returns-in_err-extend_from_slice-clause-failed :
    goal.returns-in_err-extend_from_slice-clause-failed
returns-in_err-extend_from_slice-clause-failed g c = any_fault c.from_residual.result _ (λ _ _.
    let bytes = take c.in-Ok.count c.read.new.buf in
    let n = length c.reading.text.items + c.in-Ok.count in
    let bound = c.in-Ok.ensures.bound in (
      n,
      omega arith,
      further (g.R.Read.remaining c.args.reader.now) (g.R.Read.remaining c.reading.reader)
          (g.R.Read.remaining c.read.new.self) c.reading.text.items
          bytes n c.reading.invariant.given c.in-Ok.ensures.bytes.0
          (omega (arith, bound.0, bound.1, length-take c.in-Ok.count c.read.new.buf)),
    ))
