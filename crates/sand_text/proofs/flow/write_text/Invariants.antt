use Rattle.sand_text.proofs.Common.{length, ◌-◌, ◌≤◌, take, Appends}
use Rattle.sand_text.proofs.flow.write_text.Given as goal

abbrev pub invariant-writing : goal.invariant-writing
invariant-writing g l = record {
  within : l.sent ≤ length l.text;
  written : Appends (g.W.Write.contents l.initial.writer) (g.W.Write.contents l.writer) (take l.sent l.text);
}

abbrev pub decreases-writing : goal.decreases-writing
decreases-writing g l = length l.text - l.sent
