-- The places that are no longer in the rest have been read (`Reads`). Each step takes one out of it (`taken`), so it
-- ends with all of them read.
use Rattle.sand_fronts.proofs.Common.{w64, ◌≡◌, arith, bit_xor, trailing_zeros, bit_none}
use Rattle.sand_fronts.proofs.Reached.{IsTaken, taken, fewer_left, reads_more}
use Rattle.sand_fronts.proofs.reach.reach_in.Goals as goal

-- the first place of the rest is taken out of it
taken_of : (c : goal.After-max-far)
    → IsTaken c.places.rest (bit_xor c.places.rest c.set_of-rest.result) (trailing_zeros w64 c.places.rest)
taken_of c = taken c.places.rest c.set_of-rest.result (omega (arith, c.places-test.true))
    (omega (arith, c.places.auto.rest-fits)) c.set_of-rest.ensures

pub places-smaller : goal.places-smaller
places-smaller c = fewer_left (taken_of c)

pub places-preserved : goal.places-preserved
places-preserved c = record {
  reads = reads_more c.distance_to.result c.max-far.result c.places.invariant.reads (taken_of c) c.distance_to.ensures
      c.max-far.ensures;
}

pub returns : goal.returns
returns c =
    let reads = c.places.invariant.reads in
    let none : c.places.rest ≡ 0 = omega (arith, c.places-test.false) in
    record {
      grows = reads.grows;
      within = λ p low is. reads.done p low is (rw none (bit_none p));
      reached = reads.reached;
    }
