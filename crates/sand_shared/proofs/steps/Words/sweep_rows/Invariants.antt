use Rattle.sand_shared.proofs.Common.{◌≡◌, looked, StaysSeated}
use Rattle.sand_shared.proofs.SweptSiteBySite.{Sweeps}
use Rattle.sand_shared.proofs.steps.Words.sweep_rows.Given as goal

abbrev pub invariant-sites : goal.invariant-sites
invariant-sites l = record {
  seat : StaysSeated l.initial.seat l.seat;
  view : l.seat.me.0 ≡ record (looked l.initial.seat.me.0
      l.seat.me.0.spot l.seat.me.0.least) { counts = l.counts.items };
  swept : Sweeps l.self.terms l.initial.seat.me.0 l.counts.items l.i l.topplings;
}
