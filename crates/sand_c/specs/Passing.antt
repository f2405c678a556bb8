-- What the calls on a pass of a shared pile do.
use Rattle.std.specs.Prelude.{ℕ, ◌≡◌, ◌+◌, ◌-◌, ◌<◌, ◌≤◌, ◌⊎◌, ◌||◌, nat_lt, if◌then◌else◌, List, [], ◌++◌, take, drop, length, sum, Option, Some, Result, Ok, Err}
use Rattle.sand_model.specs.Grid.{sites}
use Rattle.sand_model.specs.Piles.{PileView, most_grains_on}
use Rattle.sand_shared.specs.OpenPile.{grid_of_terms}
use Rattle.sand_shared.specs.Events.{receipts_from}
use Rattle.sand_shared.specs.Passes.{PassView, sites_kept, together, IsWhole}
use Rattle.sand_shared.specs.Record.{RecordView, IsRecordOf}
use Rattle.sand_shared.specs.Rows.{no_rows, count_of, upper_rows, lower_rows, rows_follow}
use Rattle.sand_shared.specs.Sweeps.{Swept}
use Rattle.sand_c.specs.OwnedPasses.{OwnedPassView, IsFirst}
use Rattle.sand_c.specs.Arguments.{has_length, Fails, ◌>>=◌}
use Rattle.sand_c.specs.Dropping.{are_sites}
use Rattle.sand_c.specs.Driving.{held_in, nothing_in}
use Rattle.sand_c.specs.declared.holding.SandpileHolding.{SandpileHolding}
use Rattle.sand_c.specs.declared.faults.Fault.{Fault}
use Rattle.sand_c.specs.declared.faults.Fault.TheVariants.{TooManyGrains, NoSite, Spent, TooMuch, Rows, Apart, Missing, Memory, OtherPile}

-- What a pass may do

-- the pass, if it may make these drops
abbrev pub drops_by : OwnedPassView → List ℕ → Result OwnedPassView Fault
drops_by v drops = if are_sites (sites (grid_of_terms v.pile.terms)) drops
    then (if nat_lt v.pass.left (length drops) then Err Spent else Ok v)
    else Err NoSite

-- the pass, if it has so much quota left
abbrev pub quota_of : OwnedPassView → ℕ → Result OwnedPassView Fault
quota_of v quota = if nat_lt v.pass.left quota then Err TooMuch else Ok v

-- the pass, if it has so many rows
abbrev pub rows_of : OwnedPassView → ℕ → Result OwnedPassView Fault
rows_of v k = if nat_lt (count_of v.pass.rows) k then Err Rows else Ok v

-- the first pass, if the rows of one follow those of the other
abbrev pub are_together : OwnedPassView → OwnedPassView → Result OwnedPassView Fault
are_together v w = if rows_follow v.pass.rows w.pass.rows || rows_follow w.pass.rows v.pass.rows then Ok v else Err Apart

-- why no record can be made with a pass: it is not whole; or it is, and memory runs out
abbrev pub whole_of : OwnedPassView → Fault → Type 0
whole_of v Missing = IsWhole v.pile.terms v.pass → ⊥
whole_of v Memory = IsWhole v.pile.terms v.pass
whole_of v fault = ⊥

-- the start of a pile, if the quota is within the limit
abbrev pub with_quota_of : Result PileView Fault → ℕ → Result PileView Fault
with_quota_of meaning quota =
    meaning >>= λ p. (if nat_lt (most_grains_on p.grid) (sum p.heights + quota) then Err TooManyGrains else Ok p)

-- the pass, if arrays of these lengths suit its pile and its drops
abbrev pub record_to : OwnedPassView → ℕ → ℕ → ℕ → Result OwnedPassView Fault
record_to v heights odometer history = has_length (sites (grid_of_terms v.pile.terms)) heights
    >>= λ _. has_length (sites (grid_of_terms v.pile.terms)) odometer
    >>= λ _. has_length (length v.pass.receipts) history >>= λ _. Ok v

-- What a call does

-- drops with consecutive numbers, from n on, lead from v to w
pub record HaveDropped (v : OwnedPassView) (drops : List ℕ) (n : ℕ) (w : OwnedPassView) : Type 0 where
  pub pile : w.pile ≡ v.pile
  pub after_all_seen : v.pass.seen ≤ n
  pub in_the_quota : 0 < length drops → n + length drops ≤ v.pile.terms.quota
  pub pass : w.pass ≡ record v.pass {
    left = v.pass.left - length drops;
    seen = n + length drops;
    receipts = v.pass.receipts ++ receipts_from n drops;
  }

-- a look at the number of drops
pub record HasCounted (v : OwnedPassView) (drops : ℕ) (w : OwnedPassView) : Type 0 where
  pub pile : w.pile ≡ v.pile
  pub at_least_seen : v.pass.seen ≤ drops
  pub in_the_quota : drops ≤ v.pile.terms.quota
  pub pass : w.pass ≡ record v.pass { seen = drops }

-- a sweep over the rows of the pass
pub record HasSwept (v : OwnedPassView) (topplings : ℕ) (w : OwnedPassView) : Type 0 where
  pub pile : w.pile ≡ v.pile
  pub pass : w.pass ≡ record v.pass { counts = w.pass.counts }
  pub swept : Swept v.pile.terms v.pass w.pass.counts topplings

-- part of the quota goes to a new pass of the same pile
pub record AreSplit (v : OwnedPassView) (quota : ℕ) (w child : OwnedPassView) : Type 0 where
  pub pile : w.pile ≡ v.pile
  pub pile_of_child : child.pile ≡ v.pile
  pub parent : w.pass ≡ record v.pass { left = v.pass.left - quota }
  pub child_pass : child.pass ≡ record v.pass { left = quota; receipts = []; rows = no_rows; counts = [] }

-- the last k rows go to a new pass of the same pile
pub record AreSplitByRows (v : OwnedPassView) (k : ℕ) (w child : OwnedPassView) : Type 0 where
  pub pile : w.pile ≡ v.pile
  pub pile_of_child : child.pile ≡ v.pile
  pub parent : w.pass ≡ record v.pass {
    rows = upper_rows v.pass.rows k;
    counts = take (sites_kept v.pass k) v.pass.counts;
  }
  pub child_pass : child.pass ≡ record v.pass {
    left = 0;
    receipts = [];
    rows = lower_rows v.pass.rows k;
    counts = drop (sites_kept v.pass k) v.pass.counts;
  }

-- a pass takes over all that another one has
pub record AreJoined (v other w : OwnedPassView) : Type 0 where
  pub pile : w.pile ≡ v.pile
  pub pass : w.pass ≡ together v.pass other.pass

-- the numbers of a pass
abbrev pub holding_of : PassView → SandpileHolding
holding_of p = record {
  left = p.left;
  seen = p.seen;
  drops = length p.receipts;
  first_row = p.rows.first;
  end_row = p.rows.end;
}

-- these are the numbers of the pass
abbrev pub IsHolding : SandpileHolding → OwnedPassView → Type 0
IsHolding h v = h ≡ holding_of v.pass

-- What handles hold

-- the arguments, if the handle is empty and the quota is within the limit
abbrev pub sharing_of : Option OwnedPassView → Result PileView Fault → ℕ → Result PileView Fault
sharing_of held meaning quota = nothing_in held >>= λ _. with_quota_of meaning quota

-- the pass in the handle, if it may make these drops
abbrev pub dropping_by : Option OwnedPassView → List ℕ → Result OwnedPassView Fault
dropping_by held drops = held_in held >>= λ v. drops_by v drops

-- the pass in the handle, if it may give so much quota, or so many rows, to an empty handle
abbrev pub splitting_of : Option OwnedPassView → Option OwnedPassView → ℕ → Result OwnedPassView Fault
splitting_of held child quota = nothing_in child >>= λ _. held_in held >>= λ v. quota_of v quota

abbrev pub splitting_rows_of : Option OwnedPassView → Option OwnedPassView → ℕ → Result OwnedPassView Fault
splitting_rows_of held child k = nothing_in child >>= λ _. held_in held >>= λ v. rows_of v k

-- the passes in two handles
abbrev pub both_in : Option OwnedPassView → Option OwnedPassView → Result (OwnedPassView × OwnedPassView) Fault
both_in held other = held_in held >>= λ v. held_in other >>= λ w. Ok (v, w)

-- the pass in the handle, if arrays of these lengths suit its pile and its drops
abbrev pub recording_of : Option OwnedPassView → ℕ → ℕ → ℕ → Result OwnedPassView Fault
recording_of held heights odometer history = held_in held >>= λ v. record_to v heights odometer history

-- a call fails: its arguments have a fault, or the pass is not whole, or memory runs out
abbrev pub RecordFails : Fault → Result OwnedPassView Fault → Type 0
RecordFails fault (Err e) = fault ≡ e
RecordFails fault (Ok v) = whole_of v fault

-- a join fails: a handle is empty; or both passes are said to be of two piles, or are apart, or memory runs out
abbrev pub JoinFails : Fault → Result (OwnedPassView × OwnedPassView) Fault → Type 0
JoinFails fault (Err e) = fault ≡ e
JoinFails fault (Ok (v, w)) = (fault ≡ OtherPile) ⊎ Fails fault (are_together v w)

-- a call gives part of what a handle held to another
pub record GivesAway (old : Option OwnedPassView) (Step : OwnedPassView → OwnedPassView → OwnedPassView → Type 0)
    (new child : Option OwnedPassView) : Type 0 where
  pub before : OwnedPassView
  pub after : OwnedPassView
  pub given : OwnedPassView
  pub held : old ≡ Some before
  pub holds : new ≡ Some after
  pub holds_given : child ≡ Some given
  pub step : Step before after given

-- a call takes what another handle held, whose rows are next to those of its own, unless one has none
pub record TakesOver (old other new : Option OwnedPassView) : Type 0 where
  pub before : OwnedPassView
  pub taken : OwnedPassView
  pub after : OwnedPassView
  pub held : old ≡ Some before
  pub held_other : other ≡ Some taken
  pub may : are_together before taken ≡ Ok before
  pub holds : new ≡ Some after
  pub joined : AreJoined before taken after

-- two handles hold passes of one pile, unless one holds nothing
abbrev pub AreOfOnePile : Option OwnedPassView → Option OwnedPassView → Type 0
AreOfOnePile (Some v) (Some w) = w.pile ≡ v.pile
AreOfOnePile _ _ = Unit {0}

-- the arguments are a pile, and v is the first pass of a shared pile that starts there
pub record IsFirstOf (meaning : Result PileView Fault) (quota : ℕ) (v : OwnedPassView) : Type 0 where
  pub start : PileView
  pub meant : meaning ≡ Ok start
  pub first : IsFirst start quota v

-- these are the parts of the record of the pile with a whole pass: the result of one thread that drops the history in
-- order, each drop once, at the number that its call returned
pub record IsRecordTo (heights odometer history : List ℕ) (topplings lost : ℕ) (v : OwnedPassView) : Type 0 where
  pub settled : RecordView
  pub whole : IsWhole v.pile.terms v.pass
  pub is_record : IsRecordOf v.pile.terms v.pass settled
  pub heights_are : heights ≡ settled.settled.pile.heights
  pub odometer_is : odometer ≡ settled.settled.odometer
  pub history_is : history ≡ settled.history
  pub topplings_are : topplings ≡ settled.settled.topplings
  pub lost_is : lost ≡ settled.settled.lost
