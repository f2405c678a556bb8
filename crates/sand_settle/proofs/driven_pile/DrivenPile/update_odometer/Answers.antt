use Rattle.sand_settle.proofs.Common.{rules, ap, arith, ext_get_or, odometer_of, sites}
use Rattle.sand_settle.proofs.driven_pile.DrivenPile.update_odometer.Goals as goal

pub returns : goal.returns
returns c = ext_get_or 0 c.write_near.new.list c.args.self.now.settled.odometer
    (omega (arith, c.write_near.ensures.len, c.requires.len, c.shape.ensures.paid.odometer_each))
    (λ j l. c.write_near.ensures.written (odometer_of c.args.self.now.settled) (λ i r less says. search rules)
    (rw c.shape.ensures.value c.requires.far) j
    (omega (arith, c.write_near.ensures.len, c.requires.len, ap sites c.shape.ensures.value)))
