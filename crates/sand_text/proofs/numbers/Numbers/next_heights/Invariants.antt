use Rattle.sand_text.proofs.Common.{◌≡◌, take, drop, vec_capacity, numbers_left}
use Rattle.sand_text.proofs.numbers.Numbers.next_heights.Given as goal

abbrev pub invariant-sites : goal.invariant-sites
invariant-sites l = record {
  heights : l.heights.items ≡ take l.counter (drop 2 (numbers_left l.fn.self));
  left : numbers_left l.self ≡ drop l.counter (drop 2 (numbers_left l.fn.self));
  room : vec_capacity l.heights ≡ l.sites;
}
