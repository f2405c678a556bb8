use Rattle.std.proofs.Common.{◌≡◌, ◌≤◌, vec_len, vec_capacity}
use Rattle.sand_lab.proofs.album.Album.new.Given as goal

abbrev pub invariant-loop : goal.invariant-loop
invariant-loop l = record {
  len : vec_len l.places ≡ l.counter;
  room : l.epochs ≤ vec_capacity l.places;
}
