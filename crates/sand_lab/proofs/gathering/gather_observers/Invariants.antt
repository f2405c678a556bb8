use Rattle.sand_lab.proofs.Common.{◌≡◌, ◌++◌, ◌+◌, ◌≤◌, All, length, map, vec_len, vec_capacity, into_iter_items, IsPassOf, Observer, readings, HoldsNothing}
use Rattle.sand_lab.proofs.gathering.gather_observers.Given as goal

abbrev pub invariant-loop-observer : goal.invariant-loop-observer
invariant-loop-observer l = record {
  of_pile : IsPassOf l.pile l.first;
  first : l.first ≡ record l.fn.first { seen = l.first.seen };
  items : l.yielded ++ into_iter_items l.observer-iterator ≡ l.fn.observers.items;
  rest : All (λ (o : Observer). HoldsNothing l.pile o.pass) (into_iter_items l.observer-iterator);
  room : vec_len l.all + length (into_iter_items l.observer-iterator) ≤ vec_capacity l.all;
  read : map (λ ts. ts.items) l.all.items ≡ readings l.yielded;
}
