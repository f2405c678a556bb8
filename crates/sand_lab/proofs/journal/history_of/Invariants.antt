use Rattle.sand_lab.proofs.Common.{◌≡◌, ◌≤◌, take, length, vec_capacity, sites_in}
use Rattle.sand_lab.proofs.journal.history_of.Given as goal

abbrev pub invariant-loop-entry : goal.invariant-loop-entry
invariant-loop-entry l = record {
  room : length l.journal ≤ vec_capacity l.blank;
  written : l.blank.items ≡ sites_in (take l.entry-index l.journal);
}
