-- What a pass knows of the pile whatever other threads do: how much is left on a site of its rows, and that it has
-- toppled no more than needed.
use Rattle.sand_shared.proofs.Common.{◌≡◌, ℕ, ◌+◌, ◌*◌, ◌^◌, ◌<◌, ◌≤◌, ◌≢◌, List, [], ◌∷◌, true, length, sum, sum_by, sym, refl, ap, ◌∙◌, subst, ⊎_elim, arith, cases_eq, get_or-le-sum_by, sites, neighbours, occurrences, grain_weight, IsToppled, height_of, sum_below_same, sum_below_le, flow_same, flow_none, weight_after, topplings_bound, View, Receipt, Terms, OpenPile, nobody, grid_of_terms, numbered, receipts_for, held, holds_site, toppled_by, toppled, start_and_drawn, present, in_all, pass_at, AreTerms, IsLawful, look, unload, after, Stands, Happened, HasAll, start_and_receipts, LeavesAtMost, IsSparing, nil_from_length, lt-length-set}
use Rattle.sand_model.specs.Sand.{flow}
use Rattle.sand_shared.proofs.SumsOverPasses.{sum_by_two, sum_by_only, sum_by_none, sum_by_plus, sum_by_beside, sum_by_swap}
use Rattle.sand_shared.proofs.Balance.{stabilises_fewer}
use Rattle.sand_shared.proofs.GrainsAtSite.{toppled_outside, others_without, own_toppled, sum_counts}
use Rattle.sand_shared.proofs.Lawfulness.{event_keeps, few_grains}
use Rattle.sand_shared.proofs.ReceiptsTellHistory.{one_below}

all_flow : (t : Terms) (p : OpenPile) (i : ℕ)
    → sum_by (λ (v : View). flow (grid_of_terms t) (toppled_by v) i) p.passes ≡ flow (grid_of_terms t) (toppled p) i
unfolding flow
all_flow t p i = sum_by_swap toppled_by p.passes (neighbours (grid_of_terms t) i)

-- what a pass that has everything knows of the pile
pub record KnowsAll (t : Terms) (p : OpenPile) (v : View) : Type 0 where
  pub receipts : length v.receipts ≡ length p.drawn
  pub numbers : (n : ℕ) → n < length p.drawn → 0 < numbered v.receipts n
  pub drops : (i : ℕ) → occurrences p.drawn i ≡ receipts_for v.receipts i
  pub topplings : (i : ℕ) → i < sites (grid_of_terms t) → toppled p i ≡ toppled_by v i
  pub hands : v.hand ≡ [] → (i : ℕ) → i < sites (grid_of_terms t) → sum_by (λ (u : View). held u.hand i) p.passes ≡ 0

module _ (t : Terms) (p : OpenPile) (r : IsLawful t p) (a : ℕ) (there : a < length p.passes) where
  -- if its own hand is empty, all other hands hold at most what the others dropped and sent
  at_most : (i : ℕ) → i < sites (grid_of_terms t) → holds_site (pass_at p a) i ≡ true → (pass_at p a).hand ≡ []
      → LeavesAtMost t (pass_at p a) i (p.height i)
  at_most i inside own free =
      let g = grid_of_terms t in
      let v = pass_at p a in
      let b = r.balance.balance i inside in
      let mine = own_toppled t p r a i there inside own in
      let out =
      sum_by_beside (λ (u : View). held u.hand i) (λ (u : View). receipts_for u.receipts i + flow g (toppled_by u) i)
      p.passes a nobody there (ap (λ hand. held hand i) free)
      (λ j l. (r.passes j nobody l).hand i inside) in
      let parts = sum_by_plus (λ (u : View). receipts_for u.receipts i) (λ (u : View). flow g (toppled_by u) i) p.passes in
      omega (arith, all_flow t p i, r.receipts_by_site i)

  few : AreTerms t → (pass_at p a).base + length (pass_at p a).counts ≤ sites (grid_of_terms t)
      → sum (pass_at p a).counts < 2 ^ 54
  few terms fits =
      let g = grid_of_terms t in
      let v = pass_at p a in
      let all = few_grains t p terms r in
      let bound =
      topplings_bound g (start_and_drawn t p) (toppled p) (present p) (omega arith) r.balance in
      let mine = sum_below_le (sites g) (toppled_by v) (toppled p)
      (λ j _. get_or-le-sum_by (λ (u : View). toppled_by u j) p.passes a nobody there) in
      let counts = sum_counts v (sites g) fits in omega arith

  module _ (all : HasAll t (pass_at p a)) where
    -- a pass that has everything leaves no receipts for the others
    no_receipts : (b : ℕ) → b < length p.passes → b ≢ a → (pass_at p b).receipts ≡ []
    no_receipts b lb ne =
        let two = sum_by_two (λ (u : View). u.left + length u.receipts) p.passes a b nobody there lb ne in
        let both = sum_by_plus (λ (u : View). u.left) (λ (u : View). length u.receipts) p.passes in
        nil_from_length (pass_at p b).receipts (omega arith)

    only : (f : List Receipt → ℕ) → f [] ≡ 0 → in_all (λ (u : View). f u.receipts) p ≡ f (pass_at p a).receipts
    only f none = sum_by_only (λ (u : View). f u.receipts) p.passes a nobody there
        (λ b lb ne. ap f (no_receipts b lb ne) ∙ none)

    knows : KnowsAll t p (pass_at p a)
    knows = record {
      receipts = sym (only (λ rs. length rs) refl) ∙ r.receipts;
      numbers = λ n l. omega (arith, only (λ rs. numbered rs n) refl, r.numbers n, one_below n (length p.drawn) l);
      drops = λ i. sym (r.receipts_by_site i) ∙ only (λ rs. receipts_for rs i) refl;
      topplings = λ i l. own_toppled t p r a i there l (all.all_sites i l);
      hands = λ free i l. sum_by_none (λ (u : View). held u.hand i) p.passes nobody (λ b lb. ⊎_elim
          (λ (e : b ≡ a). ap (λ z. held (pass_at p z).hand i) e ∙ ap (λ hand. held hand i) free)
          (λ (ne : b ≡ a → ⊥).
          let hand = (r.passes b nobody lb).hand i l in
          let none = ap (λ rs. receipts_for rs i) (no_receipts b lb ne) in
          let still = flow_none (grid_of_terms t) (toppled_by (pass_at p b)) i
          (λ j lj. toppled_outside (pass_at p b) j (others_without t p r a j there lj (all.all_sites j lj) b lb ne)) l in
          omega arith)
          (cases_eq b a));
    }

-- The same for what a pass has, on whichever lawful pile

pub stands_few : {t : Terms} {a : ℕ} {v : View} → Stands t a v → v.base + length v.counts ≤ sites (grid_of_terms t)
    → sum v.counts < 2 ^ 54
stands_few {t = t} {a = a} s = subst
    (λ (u : View). u.base + length u.counts ≤ sites (grid_of_terms t) → sum u.counts < 2 ^ 54)
    s.pass (few t s.pile s.lawful a s.there s.terms)

pub looked_at_most : {t : Terms} {a i : ℕ} {v w : View} {n : ℕ} → Happened t a (look a i ∷ []) v n w → v.hand ≡ []
    → LeavesAtMost t v i n
looked_at_most {t = t} {a = a} {i = i} h free =
    let s = h.before in
    subst (λ (z : View × ℕ). LeavesAtMost t z.0 i z.1) (λ q. (s.pass q, sym h.number q))
    (at_most t s.pile s.lawful a s.there i h.may.0.inside h.may.0.own (ap (λ (u : View). u.hand) s.pass ∙ free))

pub knows_all : {t : Terms} {a : ℕ} {v : View} (s : Stands t a v) → HasAll t v → KnowsAll t s.pile v
knows_all {t = t} {a = a} s =
    subst (λ (u : View). HasAll t u → KnowsAll t s.pile u) s.pass (knows t s.pile s.lawful a s.there)

module _ {t : Terms} {a : ℕ} {v : View} (s : Stands t a v) (all : HasAll t v) where
  pub left_exactly : v.hand ≡ []
      → IsToppled (grid_of_terms t) (start_and_receipts t v) (toppled_by v) s.pile.height
  left_exactly free = record {
    balance = λ i inside.
        let k = knows_all s all in
        let before = s.lawful.balance.balance i inside in
        let none = k.hands free i inside in
        let own = k.topplings i inside in
        omega (arith, k.drops i, flow_same (grid_of_terms t) (toppled s.pile) (toppled_by v) k.topplings i inside);
  }

  pub stands_sparing : v.base + length v.counts ≤ sites (grid_of_terms t) → IsSparing t v
  stands_sparing fits =
      let g = grid_of_terms t in
      let p = s.pile in
      let k = knows_all s all in
      record {
        needed = λ w stab i inside.
            let own = k.topplings i inside in
            omega (arith, s.lawful.needed w (stabilises_fewer stab (λ j _. let d = k.drops j in omega arith)) i inside);
        weighed = (let falls = weight_after g (start_and_drawn t p) (toppled p) (present p) s.lawful.balance in
            let start =
            sum_below_same (sites g) (λ i. start_and_drawn t p i * grain_weight g i)
            (λ i. start_and_receipts t v i * grain_weight g i)
            (λ i _. ap (λ n. (height_of t.start i + n) * grain_weight g i) (k.drops i)) in
            let counts = sum_counts v (sites g) fits in
            let same = sum_below_same (sites g) (toppled p) (toppled_by v) k.topplings in omega arith);
      }

-- a look by a pass that has everything tells exactly what is left there
pub looked_exactly : {t : Terms} {a i : ℕ} {v w : View} {n : ℕ}
    → Happened t a (look a i ∷ []) v n w → v.hand ≡ [] → HasAll t v
    → n + 4 * toppled_by v i ≡ start_and_receipts t v i + flow (grid_of_terms t) (toppled_by v) i
looked_exactly {i = i} h free all = omega (arith, (left_exactly h.before all free).balance i h.may.0.inside)

-- after an unload the pass still belongs to a lawful pile
pub stands_unloaded : {t : Terms} {a i k : ℕ} {v w : View} {n : ℕ} → Happened t a (unload a i k ∷ []) v n w
    → Stands t a w
stands_unloaded {t = t} {a = a} {i = i} {k = k} h =
    let s = h.before in
    record {
      terms = s.terms;
      pile = after t s.pile (unload a i k);
      lawful = event_keeps t s.pile (unload a i k) s.terms s.lawful h.may.0;
      there = lt-length-set s.pile.passes a _ s.there;
      pass = h.pass_after;
    }
