-- The end of a fire: no site of a forbidden set burns, and the order in which the others burn is a burning order.
use Rattle.sand_group.proofs.Common.{Option, Some, None, IfSome, get_or, take, not, ℕ, Bool, true, ◌≡◌, ◌+◌, ◌<◌, ◌≤◌, refl, sym, ◌∙◌, ap, arith, List, [], ◌∷◌, ◌++◌, length, All, count_by, append_assoc, append-nil, nat_tests, take-take, take_more, length-take, IsStrictlyIncreasing, All-head, All-tail, Grid, sites, places, neighbours, occurrences, one_at, value_at, IsStable, Lists, neighbours_mutual, neighbours_at_most_four, place_inside, flow_same, flow-add, indicator, sum_by_ones, occurrences-push, occurrences-cons, listed, at_most_once, lists_below, lists_all, lists_leave, read_below, read_fresh, read_passes, IsRecurrent, is_in, BurnsInOrder, IsBurningOrder, IsGreatestForbidden, IsForbidden, may_burn, is_out, FireSpreadsFrom, CountsUnburnt, count_within}
use Rattle.sand_model.specs.Grid.{missing}
use Rattle.sand_model.specs.Sand.{flow}
use Rattle.sand_model.proofs.SumsBelow.{one_at_same, one_at_other}
use Rattle.sand_group.proofs.SitesInListing.{is_out-none, is_in_listing}

-- the next site that may burn burns after all others
fire_spreads_push : (g : Grid) (s : ℕ → ℕ) (before xs : List ℕ) (i : ℕ)
    → FireSpreadsFrom g s before xs
    → count_by (is_out (before ++ xs)) (neighbours g i) ≤ s i
    → FireSpreadsFrom g s before (xs ++ i ∷ [])
fire_spreads_push g s before [] i burnt high = (rw (sym (append-nil before)) high, tt)
fire_spreads_push g s before (x ∷ xs) i burnt high =
    (burnt.0, fire_spreads_push g s (before ++ x ∷ []) xs i burnt.1 (rw (append_assoc before (x ∷ []) xs) high))

-- no site of a forbidden set burns: the first to burn would have all its neighbours in the set unburnt
forbidden_unburnt : (g : Grid) (s : ℕ → ℕ) (set : ℕ → Bool) (before xs : List ℕ)
    → IsForbidden g s set → All (λ i. i < sites g) xs
    → ((j : ℕ) → set j ≡ true → occurrences before j ≡ 0)
    → FireSpreadsFrom g s before xs → (j : ℕ) → set j ≡ true → occurrences xs j ≡ 0
forbidden_unburnt g s set before [] bad below none burnt j in' = refl
forbidden_unburnt g s set before (x ∷ xs) bad below none burnt j in' =
    let site = All-head (λ i. i < sites g) x xs below in
    let fewer = count_within g set (is_out before) x site (λ m l yes. is_out-none before m (none m yes)) in
    let out : (k : ℕ) → set k ≡ true → one_at x k ≡ 0 = λ k here.
    one_at_other x k (λ e. omega (arith, bad.low x site (ap set e ∙ here), burnt.0)) in
    let rest = forbidden_unburnt g s set (before ++ x ∷ []) xs bad (All-tail (λ i. i < sites g) x xs below)
    (λ k here. omega (arith, occurrences-push before x k, out k here, none k here)) burnt.1 j in' in
    omega (arith, occurrences-cons x xs j, out j in')

-- the neighbours that come later are among those that did not burn before
in_turn : (g : Grid) (s : ℕ → ℕ) (before xs : List ℕ) → All (λ i. i < sites g) xs
    → ((j : ℕ) → occurrences before j + occurrences xs j ≤ 1) → FireSpreadsFrom g s before xs
    → BurnsInOrder g s xs
in_turn g s before [] below once burnt = tt
in_turn g s before (x ∷ xs) below once burnt = (
  omega (
    arith,
    burnt.0,
    count_within g (is_in xs) (is_out before) x (All-head (λ i. i < sites g) x xs below)
        (λ m l yes. grind (arith, nat_tests, occurrences-cons x xs m, once m)),
  ),
  in_turn g s (before ++ x ∷ []) xs (All-tail (λ i. i < sites g) x xs below)
      (λ j. omega (arith, occurrences-push before x j, occurrences-cons x xs j, once j)) burnt.1,
)

-- ---- the numbers of unburnt neighbours

-- a site that burns is subtracted from its neighbours' numbers
split_out : (g : Grid) (burnt : List ℕ) (i j : ℕ) → j < sites g → occurrences burnt i ≡ 0
    → count_by (is_out burnt) (neighbours g j)
    ≡ count_by (is_out (burnt ++ i ∷ [])) (neighbours g j) + occurrences (neighbours g j) i
unfolding flow
split_out g burnt i j l fresh =
    flow_same g (indicator (is_out burnt)) (λ k. indicator (is_out (burnt ++ i ∷ [])) k + one_at k i)
    (λ k m.
    let same = ap (occurrences burnt) {x = k} {y = i} in
    grind (arith, nat_tests, occurrences-push burnt i k)) j l
    ∙ flow-add g (indicator (is_out (burnt ++ i ∷ []))) (λ k. one_at k i) j

pub enough_left : (g : Grid) (burnt : List ℕ) (unburnt : ℕ → ℕ) (i j : ℕ)
    → CountsUnburnt g burnt unburnt → i < sites g → j < sites g → occurrences burnt i ≡ 0
    → occurrences (neighbours g i) j ≤ unburnt j
enough_left g burnt unburnt i j counts li lj fresh =
    omega (arith, split_out g burnt i j lj fresh, neighbours_mutual g i j li lj, counts.each j lj)

-- ---- before the fire

pub missing_at_most_four : (g : Grid) (i : ℕ) → missing g i ≤ 4
unfolding missing
missing_at_most_four g i = omega arith

pub counts_none : (g : Grid) (unburnt : ℕ → ℕ) → ((i : ℕ) → i < sites g → unburnt i + missing g i ≡ 4)
    → CountsUnburnt g [] unburnt
unfolding missing
counts_none g unburnt full = record {
  each = λ i l. omega (arith, full i l, neighbours_at_most_four g i, sum_by_ones (neighbours g i));
}

-- ---- a place around a site that burns

some_left : (n : ℕ) (u : ℕ → ℕ) (p : Option ℕ) → IfSome p (λ j. j < n)
    → ((j : ℕ) → j < n → value_at (λ k. one_at k j) p ≤ u j)
    → IfSome p (λ j. 0 < u j)
some_left n u None inside le = tt
some_left n u (Some i) inside le = omega (arith, one_at_same i, le i inside)

pub place_left : (g : Grid) (i k : ℕ) (ps : List (Option ℕ)) (u : ℕ → ℕ) → ps ≡ places g i → i < sites g
    → ((j : ℕ) → j < sites g → value_at (λ m. one_at m j) (get_or ps k None) ≤ u j)
    → IfSome (get_or ps k None) (λ j. 0 < u j)
place_left g i k ps u e l = some_left (sites g) u (get_or ps k None) (place_inside g i (sites g) k ps e l refl)

-- ---- the head of a fire

-- the next site in the list, x, burns: its neighbours have one unburnt neighbour less
pub one_more_burns : (g : Grid) (s unburnt fewer : ℕ → ℕ) (before after : List ℕ) (n k x : ℕ)
    → Lists (sites g) (may_burn s unburnt) before → n ≡ length before → k < n → x ≡ get_or before k x
    → CountsUnburnt g (take k before) unburnt → FireSpreadsFrom g s [] (take k before)
    → take n after ≡ before → ((j : ℕ) → fewer j + occurrences (neighbours g x) j ≡ unburnt j)
    → (k + 1 ≤ length after) × CountsUnburnt g (take (k + 1) after) fewer × FireSpreadsFrom g s [] (take (k + 1) after)
one_more_burns g s unburnt fewer before after n k x list len l read counts order kept less =
    let inside = read_below (sites g) _ before k x list (omega arith) read in
    let fresh = read_fresh (sites g) _ before k x list (omega arith) read in
    let high = read_passes (sites g) _ before k x list (omega arith) read in
    let taken : take (k + 1) after ≡ take k before ++ x ∷ [] =
    sym (take-take (k + 1) n after (omega arith)) ∙ ap (take (k + 1)) kept
    ∙ take_more before k x (omega arith) ∙ ap (λ y. take k before ++ y ∷ []) (sym read) in (
      omega (arith, length-take n after, ap length kept),
      rw taken (record {
        each = λ j m. omega (
          arith,
          split_out g (take k before) x j m fresh,
          neighbours_mutual g x j inside m,
          counts.each j m,
          less j,
        );
      }),
      rw taken (fire_spreads_push g s [] (take k before) x order (grind (arith, nat_tests, counts.each x inside))),
    )

-- ---- the end of a fire

-- a fire that reaches all sites burns them in a burning order, and the pile is recurrent
pub burned_recurrent : (g : Grid) (s unburnt : ℕ → ℕ) (burnt : List ℕ)
    → IsStable g s → Lists (sites g) (may_burn s unburnt) burnt
    → FireSpreadsFrom g s [] burnt → length burnt ≡ sites g
    → IsRecurrent g s × IsBurningOrder g s burnt
burned_recurrent g s unburnt burnt stable list order full =
    let below = lists_below (sites g) (may_burn s unburnt) burnt list in
    let each = λ (i : ℕ) (l : i < sites g). listed (sites g) (may_burn s unburnt) burnt i list l
    (lists_all (sites g) (may_burn s unburnt) burnt list full i l) in (
      record {
        stable = stable;
        none = λ set bad.
            let some = bad.some in
            let none = forbidden_unburnt g s set [] burnt bad below (λ j here. refl) order some.0 some.2 in
            absurd (omega (arith, each some.0 some.1));
      },
      record {
        only_sites = below;
        each_once = each;
        in_turn = in_turn g s [] burnt below
            (λ j. omega (arith, at_most_once (sites g) (may_burn s unburnt) burnt j list)) order;
      },
    )

-- the sites that a fire does not reach are the greatest forbidden set
pub burned_forbidden : (g : Grid) (s unburnt : ℕ → ℕ) (burnt left : List ℕ)
    → CountsUnburnt g burnt unburnt → Lists (sites g) (may_burn s unburnt) burnt
    → FireSpreadsFrom g s [] burnt → (length burnt ≡ sites g → ⊥)
    → Lists (sites g) (λ i. not (may_burn s unburnt i)) left
    → IsStrictlyIncreasing left → IsGreatestForbidden g s left
burned_forbidden g s unburnt burnt left counts list order short rest rises =
    let member : (i : ℕ) → i < sites g → is_in left i ≡ not (may_burn s unburnt i) =
    is_in_listing (sites g) (λ j. not (may_burn s unburnt j)) left rest in
    let burns : (i : ℕ) → i < sites g → is_in burnt i ≡ may_burn s unburnt i =
    is_in_listing (sites g) (may_burn s unburnt) burnt list in
    let one = lists_leave (sites g) (may_burn s unburnt) burnt list short in
    record {
      only_sites = lists_below (sites g) (λ i. not (may_burn s unburnt i)) left rest;
      ascending = rises;
      forbidden = record {
        some = (one.0, one.1, member one.0 one.1 ∙ ap not one.2);
        low = λ i l here.
            let fewer = count_within g (is_out burnt) (is_in left) i l
            (λ j m free. member j m ∙ ap not (sym (burns j m)) ∙ free) in
            grind (arith, nat_tests, counts.each i l, member i l);
      };
      greatest = λ other bad i l here. member i l ∙ ap not (sym (burns i l)) ∙ is_out-none burnt i
          (forbidden_unburnt g s other [] burnt bad (lists_below (sites g) (may_burn s unburnt) burnt list)
          (λ j in'. refl) order i here);
    }
