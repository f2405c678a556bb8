use Rattle.std.proofs.Common.{◌≡◌, ◌+◌, ◌≤◌, ◌<◌, ℕ, length, sum, take, slice_index, vec_len, vec_capacity}
use Rattle.sand_model.proofs.pile.sums.Given as goal

abbrev pub invariant-loop-site : goal.invariant-loop-site
invariant-loop-site l = record {
  len : vec_len l.sums ≡ l.site;
  room : length l.a ≤ vec_capacity l.sums;
  sums : (k : ℕ) → k < l.site → slice_index l.sums.items k ≡ slice_index l.a k + slice_index l.b k;
  total : sum l.sums.items ≡ sum (take l.site l.a) + sum (take l.site l.b);
}
