-- The turns of a wave: each waiting tile is visited.
use Rattle.sand_fronts.proofs.Common.{ℕ, Bool, true, eqb, ltb, cond, inl, inr, ◌⊎◌, List, [], ◌∷◌, ◌≡◌, ◌≢◌, ◌+◌, ◌-◌, ◌*◌, ◌%◌, ◌^◌, ◌<◌, ◌≤◌, length, drop, get_or, add-one, drop-cons, refl, sym, ◌∙◌, ap, arith, ⊎_elim, trailing_zeros, ltb-true, ltb-false, eq-eqb, ne_eqb, and_right, nat_tests, common_steps, set, length-drop, get_or-set_same, get_or-set_other, Grid, sites, one_at, topplings, Lists, one_if, ListView, Joins, longer, kept_before, waiting_from, lists_from, lists_length, none_passes, front_passes, sum_below_same, sum_below-add, one_at_same, one_at_other, Tile, bit, IsReady, Visits, bit_le, bit_none, cut, Beside, tiles, tile_of, place_of, site_on, at_site, toppled, only, put, tile_at, AreOpen, AreDueFree, IsNoneDue, Gains, over_rim, PairSteps, IsBeside, AtTile, AreBeside, beside_at, AreAtRest, heights_before, waits, but, IsClear, AreKept, IsListed}
use Rattle.std.specs.Int.{w64}
use Rattle.sand_model.proofs.Bounds.{at_most_sum_below, at_most_all}
use Rattle.sand_fronts.proofs.OnTiles.{place_below, there_again, at_on, on_below, height_low}
use Rattle.sand_fronts.proofs.Waves.{only_same, open_site, free_at, IsStart, Starts, IsUnderWay, wave_ready, handed_over}
use Rattle.sand_fronts.proofs.Steps.{inner, visited_wave}
use Rattle.sand_fronts.proofs.Ends.{first_wave}
use Rattle.sand_fronts.proofs.Filled.{entry_each}
use Rattle.sand_fronts.proofs.Reached.{lowest}
use Rattle.sand_fronts.proofs.Gained.{blank, no_place, cond_each}

starts_none : (g : Grid) (site k : ℕ) → Starts g site 0 k 0
starts_none g site k p low =
    omega (arith, bit_none p, on_below g (λ j. 0 * one_at site j) k p 0 low (λ j l. omega arith))

-- n sites at least have toppled, and the dropped one unless it is still to start; grains are under way
pub record IsTurn (g : Grid) (site : ℕ) (h free : ℕ → ℕ) (τ : ℕ → Tile) (away : ℕ → ℕ → ℕ) (start n : ℕ) : Type 0 where
  pub from : IsStart g site h free
  pub wave : IsUnderWay g site h τ away
  pub due_free : AreDueFree free τ
  pub started : toppled g τ site + start ≡ 1
  pub count : n ≤ topplings g (toppled g τ)

-- a tile whose turn has come: a site of it is due, and it is ready for a visit
pub record HasTurn (g : Grid) (site free : ℕ) (t : Tile) (k : ℕ) (b : Beside) : Type 0 where
  pub j : ℕ
  pub inside : j < sites g
  pub other : j ≢ site
  pub here : tile_of g j ≡ k
  pub due : bit t.due (place_of g j) ≡ 1
  pub tile : AtTile g k b
  pub ready : IsReady t free 0

-- the turn of a tile has come; `rest` lists the others that wait
pub record IsNext (g : Grid) (site : ℕ) (free : ℕ → ℕ) (τ : ℕ → Tile) (j : ℕ) (b : Beside) (rest : List ℕ) : Type 0 where
  pub turn : HasTurn g site (free j) (τ j) j b
  pub waiting : Lists (tiles g) (but j (waits τ)) rest

-- the same of two tiles
pub record HaveTurns (g : Grid) (site : ℕ) (free : ℕ → ℕ) (τ : ℕ → Tile) (j k : ℕ) (b c : Beside) (rest : List ℕ)
    : Type 0 where
  pub different : j ≢ k
  pub one : HasTurn g site (free j) (τ j) j b
  pub two : HasTurn g site (free k) (τ k) k c
  pub waiting : Lists (tiles g) (but k (but j (waits τ))) rest

pub first_low : (g : Grid) (site : ℕ) (τ : ℕ → Tile) (j : ℕ) → j < sites g → j ≢ site → heights_before g site τ j ≤ 3
first_low g site τ j l ne =
    omega (arith, one_at_other site j (λ e. ne (sym e)), height_low (τ (tile_of g j)) (place_of g j))

-- before the first turn the dropped site is to start
pub turn_none : {g : Grid} {site : ℕ} (free : ℕ → ℕ) {τ : ℕ → Tile} → AreOpen g site free → AreAtRest g site τ
    → site < sites g
    → IsTurn g site (heights_before g site τ) free τ (λ m p. 0) 1 0
turn_none {g} {site} free {τ} open' rest inside = record {
  from = record {
    inside = inside;
    low = first_low g site τ;
    all_open = open';
  };
  wave = first_wave g site τ rest inside;
  due_free = λ m p low. omega (arith, rest.quiet.none_due m p low);
  started = omega (arith, rest.quiet.clear (tile_of g site) (place_of g site) (place_below g site));
  count = omega arith;
}

pub few_topplings : (g : Grid) (τ : ℕ → Tile) → topplings g (toppled g τ) ≤ sites g
few_topplings g τ = at_most_all (sites g) (toppled g τ) (λ j l. bit_le _ _)

-- ---- the list of tiles

-- a number passes, and the list has the others that do
record IsFirst (n k : ℕ) (p : ℕ → Bool) (others : List ℕ) : Type 0 where
  passes : p k ≡ true
  listed : Lists n (but k p) others

-- the first tile that waits has its turn, and the others wait
front_of : (n position next k : ℕ) (p : ℕ → Bool) (list : List ℕ)
    → Lists n p (drop position list) → position < length list → next ≡ position + 1 → k ≡ get_or list position 0
    → IsFirst n k p (drop next list)
front_of n position next k p list all less more is =
    let whole : drop position list ≡ k ∷ drop next list = rw (more, add-one, is) (drop-cons list position 0 less) in
    let whole' = rw whole at all in
    record { passes = front_passes n p (drop next list) k whole'; listed = grind (arith, nat_tests, common_steps) }

-- before the first turn no tile waits
pub none_wait : (n k : ℕ) (τ : ℕ → Tile) → IsNoneDue τ → Lists n (but k (waits τ)) []
none_wait n k τ none = lists_from n (but k (waits τ)) []
    (λ j l. sym (ap one_if (and_right _ _ (ap (ltb 0) (no_place (τ j).due (none j)))))) (λ j l. refl)

-- if no tile waits, nothing is due
pub none_left : (ts : List Tile) (n : ℕ) → length ts ≡ n → Lists n (waits (tile_at ts)) [] → IsNoneDue (tile_at ts)
none_left ts n each none m p low = entry_each blank (λ i (t : Tile). bit t.due p ≡ 0) ts n each
    (λ i less.
    let quiet = ltb-false 0 ((tile_at ts i).due % 2 ^ 64) (none_passes n (waits (tile_at ts)) none i less) in
    let e : (tile_at ts i).due % 2 ^ 64 ≡ 0 = omega arith in
    sym (cut (tile_at ts i).due p low) ∙ rw e (bit_none p))
    (λ i past. bit_none p) m

-- ---- the tiles with sites that have toppled

pub kept_on : {n kept : ℕ} {τ σ : ℕ → Tile} {before after : List ℕ} → AreKept n before kept τ
    → ((t : ℕ) → t < kept → get_or after t 0 ≡ get_or before t 0)
    → ((m p : ℕ) → p < 64 → bit (σ m).wave p ≡ bit (τ m).wave p) → AreKept n after kept σ
kept_on {n} {kept} {τ} {σ} {before} {after} all same each = record {
  listed = λ m. ⊎_elim (λ (clear : IsClear (τ m)). inl (λ p low. each m p low ∙ clear p low))
      (λ (at : IsListed before 0 kept m).
      inr (record { index = at.index; low = at.low; high = at.high; is = same at.index at.high ∙ at.is }))
      (all.listed m);
  on_board = λ t below. omega arith;
}

-- the list begins with one tile, which is visited
pub first_kept : (n k : ℕ) (t : Tile) (τ : ℕ → Tile) → ((m : ℕ) → IsClear (τ m)) → k < n
    → AreKept n (k ∷ []) 1 (put k t τ)
first_kept n k t τ clear inside = record {
  listed = cond_each (λ m x. IsClear x ⊎ IsListed (k ∷ []) 0 1 m) τ k t
      (inr (record { index = 0; low = omega arith; high = omega arith; is = refl }))
      (λ m ne. inl (clear m));
  on_board = λ i less. let e : i ≡ 0 = omega arith in rw e inside;
}

-- the kept tiles, of which there is one more at most
pub record HasKept (n kept next : ℕ) (list : List ℕ) (τ : ℕ → Tile) : Type 0 where
  pub all : AreKept n list next τ
  pub few : next ≤ kept + 1

-- a tile whose turn has come is written behind them if no site of it has toppled, and is visited
pub keep_one : {n kept next : ℕ} {τ : ℕ → Tile} {list : List ℕ} {t : Tile} (k : ℕ) (new : Tile) → AreKept n list kept τ
    → k < n → kept < length list → t ≡ τ k → t.wave < 2 ^ 64 → next ≡ cond (eqb t.wave 0) (kept + 1) kept
    → HasKept n kept next (set list kept k) (put k new τ)
keep_one {n} {kept} {next} {τ} {list} {t} k new all inside less read fits is =
    let more : kept ≤ next = grind (arith, nat_tests) in
    let few : next ≤ kept + 1 = grind (arith, nat_tests) in
    let stays : (m : ℕ) → IsListed list 0 kept m → IsListed (set list kept k) 0 next m = λ m at.
    record {
      index = at.index;
      low = at.low;
      high = omega (arith, at.high);
      is = get_or-set_other list kept at.index k 0 (λ e. omega (arith, at.high)) ∙ at.is;
    } in
    record {
      all = record {
        listed = cond_each (λ m x. IsClear x ⊎ IsListed (set list kept k) 0 next m) τ k new
            (⊎_elim
            (λ (clear : IsClear (τ k)).
            let z = no_place t.wave (λ p low. rw read (clear p low)) in
            let first = rw (eq-eqb t.wave 0 (omega arith)) at is in
            inr (record {
              index = kept;
              low = omega arith;
              high = omega arith;
              is = get_or-set_same list kept k 0 less;
            }))
            (λ (at : IsListed list 0 kept k). inr (stays k at)) (all.listed k))
            (λ m ne. ⊎_elim inl (λ (at : IsListed list 0 kept m). inr (stays m at)) (all.listed m));
        on_board = λ i below. let before = all.on_board i in grind (arith, nat_tests, common_steps);
      };
      few = few;
    }

-- ---- between two turns

-- from a position of the list on are the tiles that are left to visit; the first tiles of the list are those to count
pub record HasVisited (g : Grid) (site : ℕ) (h free : ℕ → ℕ) (τ : ℕ → Tile) (away : ℕ → ℕ → ℕ) (left : ℕ → Bool)
    (list : List ℕ) (kept position : ℕ) : Type 0 where
  pub turn : IsTurn g site h free τ away 0 position
  pub waiting : Lists (tiles g) left (drop position list)
  pub all_kept : AreKept (tiles g) list kept τ
  pub few_kept : kept ≤ position
  pub in_list : position ≤ length list

-- all grains have arrived: what is left to visit is what waits
abbrev pub IsOn : Grid → ℕ → (ℕ → ℕ) → (ℕ → ℕ) → (ℕ → Tile) → List ℕ → ℕ → ℕ → Type 0
IsOn g site h free τ = HasVisited g site h free τ (λ m p. 0) (waits τ)

module _ {g : Grid} {site : ℕ} {h free : ℕ → ℕ} where
  -- each tile that waits has its turn
  has_turn : {τ : ℕ → Tile} {n : ℕ} {all : List Beside} (k : ℕ)
      → AreBeside g all → IsTurn g site h free τ (λ m p. 0) 0 n
      → waits τ k ≡ true → HasTurn g site (free k) (τ k) k (beside_at all k)
  has_turn {τ} k board turn wait =
      let a = (τ k).due % 2 ^ 64 in
      let some = ltb-true 0 a wait in
      let low = lowest a (λ e. omega arith) (omega arith) in
      let p = trailing_zeros w64 a in
      let one = sym (cut (τ k).due p low.low) ∙ low.is in
      let yes = open_site g site free k p turn.from.all_open low.low (omega (arith, bit_le (free k) p)) in
      let t = there_again g k p low.low yes.is in
      record {
        j = site_on g k p;
        inside = t.inside;
        other = yes.other;
        here = t.tile;
        due = ap (bit (τ k).due) t.place ∙ one;
        tile = rw t.tile at (board.each (site_on g k p) t.inside);
        ready = wave_ready turn.from k 0 0 turn.wave (starts_none g site k) (omega arith);
      }

  -- a tile is visited, and its site j topples
  turn_visit : {τ : ℕ → Tile} {away : ℕ → ℕ → ℕ} {s n k start new : ℕ}
      {t : Tile} {b : Beside} (more : ℕ → ℕ → ℕ) (j : ℕ)
      → IsTurn g site h free τ away s n → Starts g site s k start → IsBeside g k b → j < sites g → tile_of g j ≡ k
      → bit new (place_of g j) ≡ 1 → s ≤ at_site g (only k (bit new)) site → Visits (τ k) t (free k) start new
      → new < 2 ^ 64 → ((m p : ℕ) → more m p ≡ away m p + over_rim b new m p)
      → IsTurn g site h free (put k t τ) more 0 (n + 1)
  turn_visit {τ} {s = s} {k = k} {new = new} {t = t} more j turn begins beside inside here one own visits fits sums =
      let u : ℕ → ℕ = at_site g (only k (bit new)) in
      let next = visited_wave s more turn.from turn.wave begins (omega arith) (rw here at (inner g j inside)) beside
      visits fits sums in
      let all = sum_below_same (sites g) (toppled g (put k t τ)) (λ i. toppled g τ i + u i) (λ i m. next.once i)
      ∙ sum_below-add (sites g) (toppled g τ) u in
      let topples : u j ≡ 1 = only_same k (tile_of g j) (bit new) (place_of g j) here ∙ one in
      record {
        from = turn.from;
        wave = next.wave;
        due_free = cond_each (λ m x. (p : ℕ) → p < 64 → bit x.due p ≤ bit (free m) p) τ k t
            (λ p low. rw visits.none_due (omega (arith, bit_none p))) (λ m ne. turn.due_free m);
        started = omega (arith, bit_le (put k t τ (tile_of g site)).wave (place_of g site));
        count = omega (arith, turn.count, at_most_sum_below (sites g) u j inside);
      }

  -- a tile whose turn has come is visited
  pub turn_one : {τ : ℕ → Tile} {away : ℕ → ℕ → ℕ} {n k new : ℕ} {t : Tile} {b : Beside} (more : ℕ → ℕ → ℕ)
      → IsTurn g site h free τ away 0 n → HasTurn g site (free k) (τ k) k b → Visits (τ k) t (free k) 0 new
      → new < 2 ^ 64 → ((m p : ℕ) → more m p ≡ away m p + over_rim b new m p)
      → IsTurn g site h free (put k t τ) more 0 (n + 1)
  turn_one {k = k} {new = new} {t = t} more turn has visits fits sums =
      let p = place_of g has.j in
      let low = place_below g has.j in
      let f = rw has.here at (free_at turn.from has.j has.inside has.other) in
      let none : bit t.due p ≡ 0 = rw visits.none_due (bit_none p) in
      let l = height_low t p in
      let few = bit_le new p in
      turn_visit more has.j turn (starts_none g site k) has.tile.each has.inside has.here (omega arith) (omega arith)
      visits fits sums

  -- two tiles: the second one is visited while the grains of the first are under way
  pub turn_two : {τ σ : ℕ → Tile} {j k n : ℕ} {b c : Beside} {rest : List ℕ} → IsTurn g site h free τ (λ m p. 0) 0 n
      → HaveTurns g site free τ j k b c rest → (steps : PairSteps τ σ free b c j k)
      → IsTurn g site h free (put k steps.two.tile (put j steps.one.tile τ))
      (λ m p. over_rim b steps.one.new m p + over_rim c steps.two.new m p) 0 (n + 2)
  turn_two {τ} {j = j} {k = k} {n = n} {b = b} {c = c} turn have steps =
      let one = steps.one in
      let two = steps.two in
      let mid : ℕ → Tile = put j one.tile τ in
      let apart = ne_eqb k j (λ e. have.different (sym e)) in
      let still : HasTurn g site (free k) (mid k) k c = rw apart have.two in
      let visits : Visits (mid k) two.tile (free k) 0 two.new = rw apart two.visits in
      let both : n + 2 ≡ n + 1 + 1 = omega arith in
      rw both (turn_one (λ m p. over_rim b one.new m p + over_rim c two.new m p)
      (turn_one (over_rim b one.new) turn have.one one.visits one.fits (λ m p. omega arith)) still visits two.fits
      (λ m p. refl))

  -- the dropped site's tile is visited first
  pub turn_first : {τ : ℕ → Tile} {k start new : ℕ} {t : Tile} {b : Beside} → IsTurn g site h free τ (λ m p. 0) 1 0
      → k ≡ tile_of g site → Starts g site 1 k start → IsBeside g k b → Visits (τ k) t (free k) start new → new < 2 ^ 64
      → IsTurn g site h free (put k t τ) (over_rim b new) 0 1
  turn_first {k = k} {new = new} {b = b} turn here begins beside visits fits =
      let inside = turn.from.inside in
      let p = place_of g site in
      let a = rw (← here) at (at_on g (λ i. 1 - one_at site i) site inside) in
      let st' = rw (← here) at (at_on g (λ i. 1 * one_at site i) site inside) in
      let s = one_at_same site in
      let lp = place_below g site in
      let held = visits.at_held p lp (omega arith) in
      let own = only_same k (tile_of g site) (bit new) p (sym here) in
      turn_visit (over_rim b new) site turn begins beside inside (sym here) (omega arith) (omega arith) visits fits
      (λ m q. omega arith)

  -- the grains under way arrive, and tiles join the list
  pub turn_over : {τ σ : ℕ → Tile} {away : ℕ → ℕ → ℕ} {a kept position : ℕ} {left : ℕ → Bool} {l m : ListView}
      → Gains free τ σ away → Joins (tiles g) a left (waits σ) l m
      → HasVisited g site h free τ away left l.items kept position → IsOn g site h free σ m.items kept position
  turn_over {τ} {σ} {position = position} gains joins visited =
      let turn = visited.turn in
      let few_kept = visited.few_kept in
      let same : (j : ℕ) → toppled g σ j ≡ toppled g τ j =
      λ j. gains.wave (tile_of g j) (place_of g j) (place_below g j) in
      let sums = sum_below_same (sites g) (toppled g σ) (toppled g τ) (λ j l. same j) in
      record {
        turn = record {
          from = turn.from;
          wave = handed_over turn.from turn.wave gains;
          due_free = gains.due_free turn.due_free;
          started = omega (arith, same site, turn.started);
          count = omega (arith, turn.count);
        };
        waiting = waiting_from joins position visited.in_list visited.waiting;
        all_kept = kept_on visited.all_kept (λ t less. kept_before joins t (omega arith)) gains.wave;
        few_kept = few_kept;
        in_list = omega (arith, visited.in_list, longer joins);
      }

  -- the list never has more tiles than there are sites and tiles
  pub few_listed : {τ : ℕ → Tile} {list : List ℕ} {kept position : ℕ} → IsOn g site h free τ list kept position
      → length list ≤ sites g + tiles g
  few_listed {τ} {list} {position = position} on =
      omega (
        arith,
        few_topplings g τ,
        lists_length (tiles g) (waits τ) (drop position list) on.waiting,
        length-drop position list,
        on.turn.count,
      )

  module _ {τ : ℕ → Tile} {list : List ℕ} {kept position j : ℕ} {all : List Beside} (board : AreBeside g all)
      (on : IsOn g site h free τ list kept position) (is : j ≡ get_or list position 0) where
    -- the tile at the position has its turn
    pub next_one : position < length list
        → IsNext g site free τ j (beside_at all j) (drop (position + 1) list)
    next_one less =
        let one = front_of (tiles g) position (position + 1) j (waits τ) list on.waiting less refl is in
        record { turn = has_turn j board on.turn one.passes; waiting = one.listed }

    -- the next two have their turns, and are not the same
    pub next_two : {k : ℕ} → position + 1 < length list → k ≡ get_or list (position + 1) 0
        → HaveTurns g site free τ j k (beside_at all j) (beside_at all k) (drop (position + 2) list)
    next_two {k} less is' =
        let one = next_one (omega arith) in
        let two =
        front_of (tiles g) (position + 1) (position + 2) k (but j (waits τ)) list one.waiting less (omega arith) is' in
        record {
          different = λ e. grind (arith, nat_tests);
          one = one.turn;
          two = has_turn k board on.turn (grind (arith, nat_tests));
          waiting = two.listed;
        }
