use Rattle.sand_text.proofs.Common.{◌≡◌, ◌++◌, vec_capacity, numbers_left}
use Rattle.sand_text.proofs.numbers.Numbers.sites.Given as goal

abbrev pub invariant-loop-site : goal.invariant-loop-site
invariant-loop-site l = record {
  taken : l.sites.items ++ numbers_left l.site-iterator ≡ numbers_left l.fn.self;
  room : vec_capacity l.sites ≡ l.count;
}
