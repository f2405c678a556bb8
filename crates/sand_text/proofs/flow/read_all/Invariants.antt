use Rattle.sand_text.proofs.Common.{length, ◌-◌, ◌≤◌, vec_len, Consumes}
use Rattle.sand_text.proofs.flow.read_all.Given as goal

abbrev pub invariant-reading : goal.invariant-reading
invariant-reading g l = record {
  within : length l.text.items ≤ 1048576;
  given : Consumes (g.R.Read.remaining l.initial.reader) (g.R.Read.remaining l.reader) l.text.items;
}

abbrev pub decreases-reading : goal.decreases-reading
decreases-reading g l = 1048577 - vec_len l.text
