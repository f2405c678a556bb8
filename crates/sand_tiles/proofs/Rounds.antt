-- The rounds of a visit to a tile.
use Rattle.sand_tiles.proofs.Common.{ℕ, ◌≡◌, ◌+◌, ◌*◌, ◌^◌, ◌<◌, ◌≤◌, refl, ◌∙◌, ap, arith, bit_and, bit_or, bit_xor, w64, bit_not, le_or_l, bit, height, had, around, unused, since, IsReady, IsVisit, Calms, Visits}
use Rattle.sand_tiles.specs.declared.tile.Tile.{Tile}
use Rattle.sand_tiles.proofs.Bits.{at_place, bit_none, bit_not_is, apart, apart_words}
use Rattle.sand_tiles.proofs.Around.{around_sum, around_le, around_none}

-- a place that starts is not free, and has not toppled
held : {t : Tile} {free start p : ℕ} → IsReady t free start → p < 64
    → (bit free p + bit start p ≤ 1) × (bit t.wave p + bit start p ≤ 1)
held {t} {free} {start} {p} ready low = (
  grind (arith, at_place, ready.held p low),
  grind (arith, at_place, ready.held p low),
)

pub visit_begins : (t : Tile) (free start : ℕ) → IsReady t free start
    → IsVisit t (record t { due = bit_or (bit_and t.due free) start }) free start
visit_begins t free start ready =
    let none : (p : ℕ) → p < 64 → around (since t t) p ≡ 0 = λ p low.
    around_none (since t t) p low (λ q l. omega arith) in
    record {
      kept = λ p low. omega arith;
      at_open = λ p low is. omega (arith, at_place, held ready low, none p low);
      at_held = λ p low is. omega (arith, at_place);
      modulo = λ p low. omega (arith, at_place, none p low);
      least = λ w calms p low.
          grind (arith, at_place, held ready low, calms.start_in p low, calms.at_most_three p low);
    }

-- places that topple once at most
unused_calms : {t : Tile} {free start : ℕ} → IsReady t free start → Calms t free start (unused free start t.wave)
unused_calms ready = record {
  start_in = λ p low. omega (arith, at_place, held ready low);
  at_most_three = λ p low is. omega (arith, ready.low p low is);
}

-- each place of the set `flood` is free, has 3 grains, and is next to a place that is due
pub record IsFlood (t : Tile) (free flood : ℕ) : Type 0 where
  pub open' : (p : ℕ) → p < 64 → bit flood p ≤ bit free p
  pub three : (p : ℕ) → p < 64 → 3 * bit flood p ≤ height t p
  pub beside : (p : ℕ) → p < 64 → bit flood p ≤ around (bit t.due) p

pub flood_of : (t : Tile) (free next : ℕ) → ((p : ℕ) → p < 64 → bit next p ≤ around (bit t.due) p)
    → IsFlood t free (bit_and (bit_and (bit_and t.low t.high) free) next)
flood_of t free next beside = record {
  open' = λ p low. omega (arith, at_place);
  three = λ p low. omega (arith, at_place);
  beside = λ p low. omega (arith, at_place, beside p low);
}

-- a round: what is due topples, and the flood with it
module _ (t u w : Tile) (free start flood four : ℕ) (ready : IsReady t free start) (visit : IsVisit t u free start)
    (flooded : IsFlood u free flood) where
  abbrev front : ℕ
  front = bit_or u.due flood

  abbrev wave : ℕ
  wave = bit_or u.wave front

  abbrev next : ℕ
  next = bit_and (bit_and four free) (bit_not w64 wave)

  -- whatever calms the tile topples the flood
  needed : {r : ℕ → ℕ} → Calms t free start r → (p : ℕ) → p < 64
      → bit u.wave p + bit u.due p + bit flood p ≤ bit t.wave p + r p
  needed {r} calms p low =
      let toppled = λ (q : ℕ). since t u q + bit u.due q in
      let sum = around_sum (since t u) (bit u.due) toppled p low (λ q l. refl) in
      let le = around_le toppled r p low (λ q l. omega (arith, visit.kept q l, visit.least r calms q l)) in
      grind (
        arith,
        at_place,
        visit.least r calms p low,
        visit.at_open p low,
        calms.at_most_three p low,
        flooded.open' p low,
        flooded.three p low,
        flooded.beside p low,
      )

  none_twice : (p : ℕ) → p < 64 → bit u.wave p + bit u.due p + bit flood p ≤ 1
  none_twice p low = omega (arith, at_place, needed (unused_calms ready) p low)

  front_is : (p : ℕ) → p < 64 → bit front p ≡ bit u.due p + bit flood p
  front_is p low = apart u.due flood p (omega (arith, none_twice p low))

  wave_is : (p : ℕ) → p < 64 → bit wave p ≡ bit u.wave p + bit u.due p + bit flood p
  wave_is p low = omega (arith, at_place, none_twice p low)

  pub wave_grows : u.wave < 2 ^ 64 → u.wave + u.due ≤ wave
  wave_grows fits =
      let sum = apart_words u.wave front fits (λ q l. omega (arith, none_twice q l, front_is q l)) in
      omega (arith, le_or_l u.due flood)

  -- the grains of the front are added
  module _ (round : (p : ℕ) → p < 64 → height u p + around (bit front) p ≡ height w p + 4 * bit four p)
      (fits : wave < 2 ^ 64) where
    abbrev after : Tile
    after = record w { due = next; wave = wave }

    moved : (p : ℕ) → p < 64 → around (since t u) p + around (bit front) p ≡ around (since t after) p
    moved p low = around_sum (since t u) (bit front) (since t after) p low
        (λ q l. omega (arith, wave_is q l, front_is q l, visit.kept q l))

    few : {r : ℕ → ℕ} → Calms t free start r → (p : ℕ) → p < 64 → bit free p ≡ 1
        → had t p + around (since t after) p ≤ 4 * (bit t.wave p + r p) + 3
    few {r} calms p low is =
        let le = around_le (since t after) r p low (λ q l. omega (arith, wave_is q l, needed calms q l)) in
        omega (arith, calms.at_most_three p low is)

    -- a free place of the flood comes to 4, and any other that comes to 4 is due next
    next_is : (p : ℕ) → p < 64 → bit free p ≡ 1 → bit next p + bit flood p ≡ bit four p
    next_is p low is =
        let more = around_le (bit u.due) (bit front) p low (λ q l. omega (arith, front_is q l)) in
        omega (
          arith,
          at_place,
          bit_not_is wave p fits low,
          wave_is p low,
          visit.at_open p low is,
          few (unused_calms ready) p low is,
          moved p low,
          round p low,
          flooded.three p low,
          flooded.beside p low,
        )

    pub visit_goes_on : IsVisit t after free start
    visit_goes_on = record {
      kept = λ p low. omega (arith, visit.kept p low, wave_is p low);
      at_open = λ p low is.
          omega (arith, wave_is p low, next_is p low is, visit.at_open p low is, moved p low, round p low);
      at_held = λ p low is. omega (arith, at_place, wave_is p low, flooded.open' p low, visit.at_held p low is);
      modulo = λ p low. omega (arith, at_place, moved p low, round p low, visit.modulo p low);
      least = λ r calms p low.
          grind (
            arith,
            at_place,
            wave_is p low,
            needed calms p low,
            next_is p low,
            visit.at_open p low,
            moved p low,
            round p low,
            few calms p low,
          );
    }

pub visit_ends : (t u : Tile) (free start : ℕ) → IsVisit t u free start → u.due ≡ 0
    → Visits t (record u { due = 0 }) free start (bit_xor u.wave t.wave)
visit_ends t u free start visit none_due =
    let new = bit_xor u.wave t.wave in
    let none : (p : ℕ) → bit u.due p ≡ 0 = λ p. ap (λ x. bit x p) none_due ∙ bit_none p in
    let new_is : (p : ℕ) → p < 64 → bit u.wave p ≡ bit t.wave p + bit new p = λ p low.
    omega (arith, at_place, visit.kept p low) in
    let same : (p : ℕ) → p < 64 → around (bit new) p ≡ around (since t u) p = λ p low.
    let a = around_le (bit new) (since t u) p low (λ q l. omega (arith, new_is q l)) in
    let b = around_le (since t u) (bit new) p low (λ q l. omega (arith, new_is q l)) in
    omega arith in
    record {
      once = new_is;
      none_due = refl;
      at_open = λ p low is. omega (arith, same p low, visit.at_open p low is, none p, bit_none p);
      at_held = λ p low is. omega (arith, visit.at_held p low is, none p, new_is p low);
      modulo = λ p low. omega (arith, same p low, visit.modulo p low);
      least = λ r calms p low. omega (arith, visit.least r calms p low, none p, new_is p low);
    }
