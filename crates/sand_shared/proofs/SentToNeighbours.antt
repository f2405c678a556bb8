-- The grains of a toppling go to the places around the site, one after another.
use Rattle.sand_shared.proofs.Common.{◌≡◌, ℕ, ◌+◌, ◌<◌, ◌≤◌, List, [], ◌∷◌, length, drop, Option, Some, None, IfSome, map, get_or, sym, ap, ◌∙◌, add-one, arith, drop-cons, drop_all, View, Grains, places, Terms, grid_of_terms, grains_for, sent, behind_first, delivered_to}
use Rattle.std.specs.List.{filter_map}
use Rattle.sand_model.specs.Grid.{neighbours}

-- k grains for each of these places that has a neighbour
abbrev pub sends : ℕ → List (Option ℕ) → List Grains
sends k ps = map (λ j. grains_for j k) (filter_map (λ p. p) ps)

first_sent : (k : ℕ) (p : Option ℕ) (ps : List (Option ℕ)) (hand : List Grains) → hand ≡ sends k (p ∷ ps)
    → IfSome p (λ j. hand ≡ grains_for j k ∷ behind_first hand)
first_sent k None ps hand e = tt
first_sent k (Some j) ps hand e = e ∙ (λ i. grains_for j k ∷ behind_first (sym e i))

rest_sent : (k : ℕ) (p : Option ℕ) (ps : List (Option ℕ)) (v w : View) → v ≡ record w { hand = sends k (p ∷ ps) }
    → delivered_to p v ≡ record w { hand = sends k ps }
rest_sent k None ps v w e = e
rest_sent k (Some j) ps v w e = λ q. record (e q) { hand = behind_first (e q).hand }

-- after an unload, the grains for all places are in hand
pub all_in_hand : (t : Terms) (i k : ℕ) (ps : List (Option ℕ)) (v : View)
    → ps ≡ places (grid_of_terms t) i → v.hand ≡ sent t i k → v ≡ record v { hand = sends k (drop 0 ps) }
unfolding neighbours
all_in_hand t i k ps v around hand =
    let all = hand ∙ ap (sends k) (sym around) in
    λ q. record v { hand = all q }

-- before the n-th place, the grains for it and for the places after it are in hand
module _ (t : Terms) (i k n : ℕ) (ps : List (Option ℕ)) (around : ps ≡ places (grid_of_terms t) i)
    (v w : View) (hand : v ≡ record w { hand = sends k (drop n ps) }) where
  at_place : n < 4 → v ≡ record w { hand = sends k (get_or ps n None ∷ drop (n + 1) ps) }
  at_place before =
      let next : drop n ps ≡ get_or ps n None ∷ drop (n + 1) ps =
      rw add-one (drop-cons ps n None (omega (arith, ap length around))) in
      hand ∙ ap (λ (qs : List (Option ℕ)). record w { hand = sends k qs }) next

  pub first_in_hand : n < 4 → IfSome (get_or ps n None) (λ j. v.hand ≡ grains_for j k ∷ behind_first v.hand)
  first_in_hand before =
      first_sent k (get_or ps n None) (drop (n + 1) ps) v.hand (ap (λ (u : View). u.hand) (at_place before))

  pub rest_in_hand : n < 4 → delivered_to (get_or ps n None) v ≡ record w { hand = sends k (drop (n + 1) ps) }
  rest_in_hand before = rest_sent k (get_or ps n None) (drop (n + 1) ps) v w (at_place before)

  pub none_in_hand : 4 ≤ n → v ≡ record w { hand = [] }
  none_in_hand after =
      hand ∙ ap (λ (qs : List (Option ℕ)). record w { hand = sends k qs }) (drop_all n ps (omega (arith, ap length around)))
