use Rattle.std.proofs.Common.{◌∙◌}
use Rattle.sand_shared.proofs.SweptSiteBySite.{calm_at_rest}
use Rattle.sand_shared.proofs.steps.Words.sweep_out.Goals as goal

pub returns-clause-calm : goal.returns-clause-calm
returns-clause-calm c =
    let inv = c.sweeps.invariant in
    calm_at_rest c.args.self.now.terms c.args.seat.now.me.0 c.sweeps.seat.me.0
    c.sweeps.counts.items c.sweep_rows.new.counts.items c.sweep_rows.result
    c.requires.counts.0 (inv.len ∙ c.requires.all) inv.view c.sweep_rows.ensures.swept c.sweeps-test.false
