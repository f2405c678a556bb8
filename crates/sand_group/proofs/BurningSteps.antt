-- A fire that spreads step by step: its list has, after each step, the sites that burn in it or before.
use Rattle.sand_group.proofs.Common.{ℕ, zero, suc, Bool, false, not, leb, ◌≡◌, ◌≢◌, ◌+◌, ◌-◌, ◌<◌, ◌≤◌, refl, sym, ◌∙◌, ap, arith, List, ◌++◌, ◌∷◌, [], length, take, get_or, count_by, cases_eq, cases_lt, nat_tests, take_more, get_or-set_same, get_or-set_other, Grid, sites, neighbours, occurrences, one_at, Lists, one_if, flow_same, indicator, at_most_once, occurrences-push, is_in, may_burn, is_out, CountsUnburnt}
use Rattle.std.proofs.Math.Numerals.{add-one}
use Rattle.std.proofs.Math.ListN.{set}
use Rattle.sand_model.specs.Sand.{flow}
use Rattle.sand_model.proofs.SumsBelow.{one_at_same, one_at_other}
use Rattle.sand_group.specs.BurningTimes.{burns_within, AreBurningTimes, AreTimesSoFar}
use Rattle.sand_group.proofs.SitesInListing.{is_in_listing}

pub count_same : (g : Grid) (p q : ℕ → Bool) → ((j : ℕ) → j < sites g → p j ≡ q j) → (i : ℕ) → i < sites g
    → count_by p (neighbours g i) ≡ count_by q (neighbours g i)
unfolding flow
count_same g p q same i l = flow_same g (indicator p) (indicator q) (λ j m. ap one_if (same j m)) i l

pub burns_next : (g : Grid) (s : ℕ → ℕ) (t i : ℕ)
    → burns_within g s (suc t) i ≡ leb (count_by (λ j. not (burns_within g s t j)) (neighbours g i)) (s i)
unfolding burns_within
burns_next g s t i = refl

-- who burns next depends only on who has burnt
next_same : (g : Grid) (s : ℕ → ℕ) (t u : ℕ) → ((j : ℕ) → j < sites g → burns_within g s t j ≡ burns_within g s u j)
    → (i : ℕ) → i < sites g → burns_within g s (suc t) i ≡ burns_within g s (suc u) i
unfolding burns_within
next_same g s t u same i l = ap (λ n. leb n (s i))
    (count_same g (λ j. not (burns_within g s t j)) (λ j. not (burns_within g s u j)) (λ j m. ap not (same j m)) i l)

-- once a step burns no site, no later one does
stays : (g : Grid) (s : ℕ → ℕ) (t : ℕ) → ((i : ℕ) → i < sites g → burns_within g s (suc t) i ≡ burns_within g s t i)
    → (k i : ℕ) → i < sites g → burns_within g s (k + t) i ≡ burns_within g s t i
stays g s t same zero i l = ap (λ n. burns_within g s n i) (omega arith)
stays g s t same (suc k) i l =
    let step : suc k + t ≡ suc (k + t) = omega arith in
    ap (λ n. burns_within g s n i) step ∙ next_same g s (k + t) t (stays g s t same k) i l ∙ same i l

-- the list has the sites that burn within one step more than those of its first part
pub next_in_list : (g : Grid) (s unburnt : ℕ → ℕ) (burnt : List ℕ) (k t : ℕ) → Lists (sites g) (may_burn s unburnt) burnt
    → CountsUnburnt g (take k burnt) unburnt
    → ((i : ℕ) → i < sites g → is_in (take k burnt) i ≡ burns_within g s t i)
    → (i : ℕ) → i < sites g → is_in burnt i ≡ burns_within g s (t + 1) i
unfolding burns_within
next_in_list g s unburnt burnt k t list counts before i l =
    is_in_listing (sites g) (may_burn s unburnt) burnt list i l
    ∙ ap (λ n. leb n (s i)) (counts.each i l
    ∙ count_same g (is_out (take k burnt)) (λ j. not (burns_within g s t j)) (λ j m. ap not (before j m)) i l)
    ∙ ap (λ n. burns_within g s n i) (sym (add-one t))

-- ---- the times

pub none_before : (g : Grid) (s : ℕ → ℕ) (i : ℕ) → burns_within g s 0 i ≡ false
unfolding burns_within
none_before g s i = refl

pub times_begin : (g : Grid) (s time : ℕ → ℕ) → ((i : ℕ) → i < sites g → time i ≡ 0) → AreTimesSoFar g s time 0
unfolding burns_within
times_begin g s time none = record {
  each = λ i l u le.
      let first : u ≡ 0 = omega arith in
      let out = ap (λ n. burns_within g s n i) first in
      grind (arith, nat_tests, none i l);
  most = λ i l. omega (arith, none i l);
}

-- the sites that the list has and its first part has not burn in step t + 1
pub times_on : (g : Grid) (s time new unburnt : ℕ → ℕ) (burnt : List ℕ) (k t : ℕ) → AreTimesSoFar g s time t
    → Lists (sites g) (may_burn s unburnt) burnt
    → ((i : ℕ) → i < sites g → is_in (take k burnt) i ≡ burns_within g s t i)
    → ((i : ℕ) → i < sites g → is_in burnt i ≡ burns_within g s (t + 1) i)
    → ((i : ℕ) → occurrences (take k burnt) i < occurrences burnt i → new i ≡ t + 1)
    → ((i : ℕ) → occurrences burnt i ≡ occurrences (take k burnt) i → new i ≡ time i)
    → ((i : ℕ) → occurrences (take k burnt) i ≤ occurrences burnt i)
    → AreTimesSoFar g s new (t + 1)
times_on g s time new unburnt burnt k t old list before now noted kept more = record {
  each = λ i l u le.
      let here = before i l in
      let next = now i l in
      let fresh = noted i in
      let same = kept i in
      let part = more i in
      let once = at_most_once (sites g) (may_burn s unburnt) burnt i list in
      let was = old.each i l u in
      let last = old.each i l t in
      let most = old.most i l in
      let at-next = ap (λ n. burns_within g s n i) {x = u} {y = t + 1} in
      grind (arith, nat_tests, cases_eq u (t + 1), cases_lt (occurrences (take k burnt) i) (occurrences burnt i));
  most = λ i l.
      let fresh = noted i in
      let same = kept i in
      let part = more i in
      grind (arith, old.most i l, cases_lt (occurrences (take k burnt) i) (occurrences burnt i));
}

pub times_end : (g : Grid) (s time : ℕ → ℕ) (t : ℕ) → AreTimesSoFar g s time t
    → ((i : ℕ) → i < sites g → burns_within g s (t + 1) i ≡ burns_within g s t i) → AreBurningTimes g s time
times_end g s time t old same = record {
  each = λ i l u.
      let most = old.most i l in
      let early = old.each i l u in
      let last = old.each i l t in
      let still = stays g s t (λ j m. ap (λ n. burns_within g s n j) (sym (add-one t)) ∙ same j m) (u - t) i l in
      let late : t ≤ u → burns_within g s u i ≡ burns_within g s t i =
      (λ past. ap (λ n. burns_within g s n i) (omega arith) ∙ still) in
      grind (arith, nat_tests, cases_lt t u);
}

-- ---- noting a step

pub note_one : (burnt : List ℕ) (times old : List ℕ) (k n step x : ℕ) → n < length burnt → x ≡ get_or burnt n 0
    → x < length times
    → ((i : ℕ) → occurrences (take k burnt) i ≤ occurrences (take n burnt) i)
    → ((i : ℕ) → occurrences (take k burnt) i < occurrences (take n burnt) i → get_or times i 0 ≡ step)
    → ((i : ℕ) → occurrences (take n burnt) i ≡ occurrences (take k burnt) i → get_or times i 0 ≡ get_or old i 0)
    → ((i : ℕ) → occurrences (take k burnt) i ≤ occurrences (take (n + 1) burnt) i)
    × ((i : ℕ) → occurrences (take k burnt) i < occurrences (take (n + 1) burnt) i → get_or (set times x step) i 0 ≡ step)
    × ((i : ℕ) → occurrences (take (n + 1) burnt) i ≡ occurrences (take k burnt) i
    → get_or (set times x step) i 0 ≡ get_or old i 0)
note_one burnt times old k n step x l read inside more noted kept =
    let taken : take (n + 1) burnt ≡ take n burnt ++ x ∷ [] =
    take_more burnt n 0 l ∙ ap (λ y. take n burnt ++ y ∷ []) (sym read) in
    let longer : (i : ℕ) → occurrences (take (n + 1) burnt) i ≡ occurrences (take n burnt) i + one_at x i =
    (λ i. ap (λ xs. occurrences xs i) taken ∙ occurrences-push (take n burnt) x i) in
    let here : get_or (set times x step) x 0 ≡ step = get_or-set_same times x step 0 inside in
    let others : (i : ℕ) → i ≢ x → get_or (set times x step) i 0 ≡ get_or times i 0 =
    (λ i ne. get_or-set_other times x i step 0 ne) in (
      λ i. omega (arith, longer i, more i),
      λ i some.
          let at-x = ap (λ j. get_or (set times x step) j 0) {x = i} {y = x} in
          let old-one = noted i in
          let rest = others i in
          let no = one_at_other x i in
          grind (arith, cases_eq i x, longer i, more i),
      λ i none.
          let one = ap (one_at x) {x = x} {y = i} in
          let old-one = kept i in
          let rest = others i in
          let no = one_at_other x i in
          grind (arith, cases_eq x i, one_at_same x, longer i, more i),
    )
