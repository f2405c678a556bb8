-- A place is marked if and only if its site has toppled, so area and reach of the sets are those of the sites
-- (`area_is`, `all_within`, `some_reached`). They fit into 32 bits: there are at most 2^21 tiles of 64 places, and
-- no two sites are 16,384 apart.
use Rattle.sand_fronts.proofs.Common.{◌∙◌, ap, arith, ltb, refl, length, slice_index, one_if, in_sets}
use Rattle.sand_fronts.proofs.Counted.{few_in_sets}
use Rattle.sand_fronts.proofs.Marked.{area_is}
use Rattle.sand_fronts.proofs.Reached.{all_within, some_reached, small_reach}
use Rattle.sand_fronts.proofs.tiled_pile.avalanche_of.Goals as goal

pub overflow_cast-result : goal.overflow_cast-result
overflow_cast-result c = record {
  fits =
      let sets' = few_in_sets (length c.args.marks.now.sets) (slice_index c.args.marks.now.sets) in
      omega (arith, c.take_all-area.ensures.area, c.requires.fits.0, c.requires.len);
}

pub overflow_cast-result-2 : goal.overflow_cast-result-2
overflow_cast-result-2 c = record {
  fits =
      let small = small_reach c.args.shape c.args.site c.requires.fits.1 c.requires.site c.requires.at_sites
      c.take_all-area.ensures.reach in
      omega arith;
}

pub returns-clause-avalanche : goal.returns-clause-avalanche
returns-clause-avalanche c v toppled size lost = record {
  origin = refl;
  size = size;
  area = c.take_all-area.ensures.area ∙ ap (λ n. in_sets n (slice_index c.args.marks.now.sets)) c.requires.len
      ∙ area_is c.args.shape (λ j. one_if (ltb 0 (v j))) (slice_index c.args.marks.now.sets) toppled;
  within = all_within c.args.shape c.args.site v toppled c.take_all-area.ensures.reach;
  reached = some_reached c.args.shape c.args.site v c.requires.at_sites toppled c.take_all-area.ensures.reach;
  all_lost = lost;
}
