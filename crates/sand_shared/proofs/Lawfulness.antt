-- The initial pile is lawful, and each event keeps it lawful, so any list of events does.
use Rattle.sand_shared.proofs.Common.{◌≡◌, ℕ, zero, suc, ◌-◌, ◌*◌, ◌<◌, ◌≤◌, [], Some, length, get_or, refl, arith, ◌+◌, List, ◌∷◌, ◌++◌, sum, sum_by, ap, slice_get, nat_tests, length-replicate, All-cons, All-nil, mul-le-mul_right, Grid, IsGrid, sites, one_if, flow_none, Receipt, Terms, grid_of_terms, holds_site, toppled, IsLawfulPass, IsLawful, OpenPile, present, start_and_drawn, AreTerms, begin, unopened, zeros, first_pass, after, Event, draw, place, count, split, join, look, unload, deliver, May, AllHappen, after_all, grains, at_most_sum_below, laplacian_sum, View}
use Rattle.sand_shared.proofs.GrainsAtSite.{toppled_from}
use Rattle.sand_shared.proofs.Balance.{grains_in_all}
use Rattle.sand_shared.proofs.LawfulAfterDrops.{count_keeps, look_keeps, draw_keeps, arrived_keeps}
use Rattle.sand_shared.proofs.LawfulAfterTopplings.{unload_keeps}
use Rattle.sand_shared.proofs.LawfulAfterRegrouping.{split_keeps, join_keeps}

pub get-zeros : (n k : ℕ) → get_or (zeros n) k 0 ≡ 0
get-zeros zero k = refl
get-zeros (suc n) zero = refl
get-zeros (suc n) (suc k) = get-zeros n k

pub some_sites : (g : Grid) → IsGrid g → 0 < sites g
some_sites g sides =
    let m : 1 * g.height ≤ g.width * g.height = mul-le-mul_right g.height sides.some_width in omega arith

module _ (t : Terms) where
  none_yet : (i : ℕ) → toppled (after t (unopened t) begin) i ≡ 0
  none_yet i = omega (arith, toppled_from (first_pass t) i (omega arith), get-zeros (sites (grid_of_terms t)) (i - 0))

  all_held : (i : ℕ) → i < sites (grid_of_terms t) → one_if (holds_site (first_pass t) i) ≡ 1
  all_held i l = grind (arith, nat_tests, length-replicate {A = ℕ} (sites (grid_of_terms t)) 0)

  first_lawful : IsLawfulPass t (after t (unopened t) begin) (first_pass t)
  first_lawful = record {
    seen = omega arith;
    receipts = All-nil (λ (q : Receipt). slice_get [] q.number ≡ Some q.site);
    hand = λ i l. omega arith;
    least = λ own l. omega arith;
  }

  pub begun : IsLawful t (after t (unopened t) begin)
  begun = record {
    balance = record {
      balance = λ i l. (let a = none_yet i in
          omega (arith, flow_none (grid_of_terms t) (toppled (after t (unopened t) begin)) i (λ j _. none_yet j) l));
    };
    needed = λ w stab i l. (let a = none_yet i in omega arith);
    numbers = λ n. grind (arith, nat_tests);
    receipts = refl;
    receipts_by_site = λ i. refl;
    all_sites = All-nil (λ i. i < sites (grid_of_terms t));
    quota = omega arith;
    holders = λ i l. (let a = all_held i l in omega arith);
    passes = All-cons (IsLawfulPass t (after t (unopened t) begin)) (first_pass t)
        [] first_lawful (All-nil (IsLawfulPass t (after t (unopened t) begin)));
  }

pub event_keeps : (t : Terms) (p : OpenPile) (e : Event) → AreTerms t → IsLawful t p → May t p e
    → IsLawful t (after t p e)
-- a pile begins only once: after its begin it has a pass
event_keeps t p begin terms r none =
    let one = r.holders 0 (some_sites (grid_of_terms t) terms.pile.grid) in
    let zero_passes = ap (λ (l : List View). sum_by (λ v. one_if (holds_site v 0)) l) none in absurd (omega arith)
event_keeps t p (draw a i) terms r may = draw_keeps t p a i r may
event_keeps t p (place a i) terms r may = arrived_keeps t p a i 1 r may.there may.in_hand
event_keeps t p (count a) terms r may = count_keeps t p a r may
event_keeps t p (split a q n) terms r may = split_keeps t p a q n r may
event_keeps t p (join a b) terms r may = join_keeps t p a b r may
event_keeps t p (look a i) terms r may = look_keeps t p a i r may
event_keeps t p (unload a i k) terms r may = unload_keeps t p a i k r may
event_keeps t p (deliver a i k) terms r may = arrived_keeps t p a i k r may.there may.in_hand

pub all_keep : (t : Terms) (p : OpenPile) (events : List Event) → AreTerms t → IsLawful t p → AllHappen t p events
    → IsLawful t (after_all t p events)
all_keep t p [] terms r happen = r
all_keep t p (e ∷ es) terms r happen = all_keep t (after t p e) es terms (event_keeps t p e terms r happen.0) happen.1

pub always_lawful : (t : Terms) (events : List Event) → AreTerms t → AllHappen t (unopened t) (begin ∷ events)
    → IsLawful t (after_all t (unopened t) (begin ∷ events))
always_lawful t events terms happen = all_keep t (after t (unopened t) begin) events terms (begun t) happen.1

pub after_all-append : (t : Terms) (p : OpenPile) (es fs : List Event)
    → after_all t p (es ++ fs) ≡ after_all t (after_all t p es) fs
after_all-append t p [] fs = refl
after_all-append t p (e ∷ es) fs = after_all-append t (after t p e) es fs

pub happen_append : (t : Terms) (p : OpenPile) (es fs : List Event)
    → AllHappen t p es → AllHappen t (after_all t p es) fs
    → AllHappen t p (es ++ fs)
happen_append t p [] fs happen more = more
happen_append t p (e ∷ es) fs happen more = (happen.0, happen_append t (after t p e) es fs happen.1 more)

-- all grains, also those that are lost, are at most the start and the quota together
pub few_grains : (t : Terms) (p : OpenPile) → AreTerms t → IsLawful t p
    → grains (grid_of_terms t) (start_and_drawn t p) ≤ sum t.start.heights + t.quota
few_grains t p terms r = let all = grains_in_all t.start p.drawn terms.pile r.all_sites in omega arith

-- so are those on a site and in hand for it
pub few_present : (t : Terms) (p : OpenPile) → AreTerms t → IsLawful t p → (i : ℕ) → i < sites (grid_of_terms t)
    → present p i ≤ sum t.start.heights + t.quota
few_present t p terms r i inside =
    let g = grid_of_terms t in
    let one = at_most_sum_below (sites g) (present p) i inside in
    omega (arith, laplacian_sum g (start_and_drawn t p) (toppled p) (present p) r.balance, few_grains t p terms r)

pub few_drawn : (t : Terms) (p : OpenPile) → IsLawful t p → length p.drawn ≤ t.quota
few_drawn t p r = omega arith
