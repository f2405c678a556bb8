-- Each step of a call is allowed at any moment: it is an event, or a few, that can happen then.
use Rattle.sand_shared.proofs.Common.{◌≡◌, ℕ, zero, suc, ◌+◌, ◌-◌, ◌*◌, ◌%◌, ◌^◌, ◌<◌, ◌≤◌, List, [], ◌∷◌, ◌++◌, true, length, set, get_or, sym, refl, ap, ◌∙◌, subst, arith, slice_index, count_by, ◌||◌, State, Me, keeps, Allows, Splits, Joins, opening, sites, View, Terms, OpenPile, nobody, grid_of_terms, holds_site, pass_at, AreTerms, IsLawful, Event, begin, count, split, join, look, unload, deliver, are_for, looked, parent, child, joined, follows, first_pass, unopened, May, after, AllHappen, after_all, IsLast, Takes, Shows, IsRunning, Stands, Finds}
use mathlib.Core.Option.{some, some-injective, some-ne-none}
use lib.ListN.{get_elem?}
use lib.Seq.{set-get_or}
use Rattle.atomic_table.proofs.Lists.{set_else}
use Rattle.sand_shared.specs.Events.{counted}
use Rattle.sand_shared.proofs.Lawfulness.{always_lawful, after_all-append, happen_append}
use Rattle.sand_shared.proofs.WordsShowPile.{stepped_to, shows_load, shows_arrived, shows_unload}

module _ {A : Type 0} where
  pub some_inside : (l : List A) (i : ℕ) (x : A) → get_elem? l i ≡ some x → i < length l
  some_inside [] i x e = absurd (some-ne-none x (sym e))
  some_inside (y ∷ ys) zero x e = omega arith
  some_inside (y ∷ ys) (suc i) x e = let b = some_inside ys i x e in omega arith

  pub some_there : (l : List A) (i : ℕ) (x d : A) → get_elem? l i ≡ some x → get_or l i d ≡ x
  some_there [] i x d e = absurd (some-ne-none x (sym e))
  some_there (y ∷ ys) zero x d e = some-injective y x e
  some_there (y ∷ ys) (suc i) x d e = some_there ys i x d e

-- the open pile that the table shows
abbrev pub pile_of : (t : Terms) (s : State ℕ View) → IsRunning t s → OpenPile
pile_of t s h = after_all t (unopened t) (begin ∷ h.events)

pub lawful_now : (t : Terms) (s : State ℕ View) (h : IsRunning t s) → IsLawful t (pile_of t s h)
lawful_now t s h = always_lawful t h.events h.terms h.happened

-- the pass a of the table, on the open pile that the table shows
abbrev pub stands_now : {t : Terms} {s : State ℕ View} (h : IsRunning t s) {a : ℕ} {v : View}
    → get_elem? s.views a ≡ some v → Stands t a v
stands_now {t = t} {s = s} h {a = a} {v = v} at =
    let here = subst (λ (l : List View). get_elem? l a ≡ some v) h.shown.passes at in
    record {
      terms = h.terms;
      pile = pile_of t s h;
      lawful = lawful_now t s h;
      there = some_inside (pile_of t s h).passes a v here;
      pass = some_there (pile_of t s h).passes a v nobody here;
    }

-- the rule holds after further events
more : (t : Terms) (s s' : State ℕ View) (h : IsRunning t s) (es : List Event)
    → AllHappen t (pile_of t s h) es → Shows t (after_all t (pile_of t s h) es) s'
    → IsRunning t s'
more t s s' h es may shown =
    let p = after t (unopened t) begin in
    record {
      terms = h.terms;
      events = h.events ++ es;
      happened = (h.happened.0, happen_append t p h.events es h.happened.1 may);
      shown = subst (λ q. Shows t q s') (sym (after_all-append t p h.events es)) shown;
    }

-- a step is allowed if its events can happen whatever else has happened, and the words show the result
pub takes : (t : Terms) (a : ℕ) (es : List Event) (slots : ℕ) (m : Me ℕ View) (word : ℕ) (f : ℕ → ℕ)
    → ((x : Stands t a m.0) → AllHappen t x.pile es)
    → ((x : Stands t a m.0) (s : State ℕ View) → AllHappen t x.pile es → Shows t x.pile s
    → Finds x.pile es (slice_index s.words word)
    × Shows t (after_all t x.pile es)
    (stepped_to s word (f (slice_index s.words word)) a (pass_at (after_all t x.pile es) a)))
    → Allows (IsRunning t) slots a m word f (Takes t a es m)
takes t a es slots m word f can shows s h _ at fits =
    let x = stands_now h at in
    let may = can x in
    let shown = shows x s may h.shown in
    let w = pass_at (after_all t x.pile es) a in (
      w,
      keeps,
      tt,
      more t s (stepped_to s word (f (slice_index s.words word)) a w) h es may shown.1,
      (record { before = x; may = may; number = shown.0; pass_after = refl }, refl),
    )

pub counts : (t : Terms) (a slots : ℕ) (m : Me ℕ View)
    → Allows (IsRunning t) slots a m 1 (λ n. n) (Takes t a (count a ∷ []) m)
counts t a slots m = takes t a (count a ∷ []) slots m 1 (λ n. n)
    (λ x. (x.there, tt))
    (λ x s may h. (h.number, shows_load t x.pile s 1 a (counted (pass_at x.pile a) (length x.pile.drawn)) h x.there))

pub delivers : (t : Terms) (a i k slots : ℕ) (m : Me ℕ View)
    → i < sites (grid_of_terms t) → 0 < count_by (are_for i k) m.0.hand
    → Allows (IsRunning t) slots a m (i + 2) (λ n. (n + k) % 2 ^ 64) (Takes t a (deliver a i k ∷ []) m)
delivers t a i k slots m inside in_hand = takes t a (deliver a i k ∷ []) slots m (i + 2) (λ n. (n + k) % 2 ^ 64)
    (λ x. (
      record {
        there = x.there;
        in_hand = subst (λ (v : View). 0 < count_by (are_for i k) v.hand) (sym x.pass) in_hand;
        inside = inside;
      },
      tt,
    ))
    (λ x s may h. (
      h.heights i inside,
      shows_arrived t x.pile s a i k x.terms x.lawful x.there may.0.in_hand inside h,
    ))

pub looks : (t : Terms) (a i slots : ℕ) (m : Me ℕ View) → i < sites (grid_of_terms t) → holds_site m.0 i ≡ true
    → Allows (IsRunning t) slots a m (i + 2) (λ n. n) (Takes t a (look a i ∷ []) m)
looks t a i slots m inside own = takes t a (look a i ∷ []) slots m (i + 2) (λ n. n)
    (λ x. (
      record {
        there = x.there;
        inside = inside;
        own = subst (λ (v : View). holds_site v i ≡ true) (sym x.pass) own;
      },
      tt,
    ))
    (λ x s may h. (
      h.heights i inside,
      shows_load t x.pile s (i + 2) a (looked (pass_at x.pile a) i (x.pile.height i)) h x.there,
    ))

-- what a pass found at a site is still there, because nobody else takes grains from it
pub unloads : (t : Terms) (a i k slots : ℕ) (m : Me ℕ View)
    → i < sites (grid_of_terms t) → holds_site m.0 i ≡ true
    → m.0.spot ≡ i → 4 * k ≤ m.0.least
    → Allows (IsRunning t) slots a m (i + 2) (λ n. (n + (2 ^ 64 - 4 * k)) % 2 ^ 64) (Takes t a (unload a i k ∷ []) m)
unloads t a i k slots m inside own spot enough =
    takes t a (unload a i k ∷ []) slots m (i + 2) (λ n. (n + (2 ^ 64 - 4 * k)) % 2 ^ 64)
    (λ x.
    let p = x.pile in
    let mine : holds_site (pass_at p a) i ≡ true = subst (λ (v : View). holds_site v i ≡ true) (sym x.pass) own in
    let at : (pass_at p a).spot ≡ i = ap (λ (v : View). v.spot) x.pass ∙ spot in
    let least = (x.lawful.passes a nobody x.there).least (subst (λ z. holds_site (pass_at p a) z ≡ true) (sym at) mine)
    (subst (λ z. z < sites (grid_of_terms t)) (sym at) inside) in
    let height = ap p.height at in
    let same = ap (λ (v : View). v.least) x.pass in
    (record { there = x.there; inside = inside; own = mine; high = omega arith }, tt))
    (λ x s may h. (h.heights i inside, shows_unload t x.pile s a i k x.terms x.lawful may.0 h))

-- a load of the table's own word, which is no event
pub learns : (t : Terms) (a slots : ℕ) (m : Me ℕ View) → Allows (IsRunning t) slots a m 0 (λ n. n) (Takes t a [] m)
learns t a slots m = takes t a [] slots m 0 (λ n. n)
    (λ x. tt)
    (λ x s may h.
    let mine = (λ q. set (h.passes q) a (pass_at x.pile a)) ∙ set-get_or x.pile.passes a nobody ∙ sym h.passes in (
      tt,
      subst (λ (z : List ℕ × List View). Shows t x.pile record { words = z.0; homes = s.homes; views = z.1 })
          (λ q. (sym (set-get_or s.words 0 0) q, sym mine q)) h,
    ))

pub splits : (t : Terms) (a q n : ℕ) (v : View) → q ≤ v.left → n ≤ length v.counts → v.hand ≡ []
    → Splits (IsRunning t) a v (parent v q n) (child v q n)
splits t a q n v some_left fits free s h at =
    let x = stands_now h at in
    let may : May t x.pile (split a q n) = record {
      there = x.there;
      quota = subst (λ (u : View). q ≤ u.left) (sym x.pass) some_left;
      counts = subst (λ (u : View). n ≤ length u.counts) (sym x.pass) fits;
      free = ap (λ (u : View). u.hand) x.pass ∙ free;
    } in
    more t s record { words = s.words; homes = s.homes; views = set s.views a (parent v q n) ++ child v q n ∷ [] }
    h (split a q n ∷ []) (may, tt)
    record {
      wide = h.shown.wide;
      number = h.shown.number;
      heights = h.shown.heights;
      passes = λ i. set (h.shown.passes i) a (parent (sym x.pass i) q n) ++ child (sym x.pass i) q n ∷ [];
    }

pub joins : (t : Terms) (a : ℕ) (v : View) (b : ℕ) (w : View)
    → v.hand ≡ [] → w.hand ≡ [] → (follows v w || follows w v) ≡ true
    → Joins (IsRunning t) a v b w (joined v w) nobody
joins t a v b w free free' touch s h at apart at' =
    let x = stands_now h at in
    let y = stands_now h (sym (set_else s.views a b (joined v w) apart) ∙ at') in
    let may : May t x.pile (join a b) = record {
      there = x.there;
      other_there = y.there;
      apart = apart;
      free = ap (λ (u : View). u.hand) x.pass ∙ free;
      other_free = ap (λ (u : View). u.hand) y.pass ∙ free';
      touch = (λ i. follows (x.pass i) (y.pass i) || follows (y.pass i) (x.pass i)) ∙ touch;
    } in
    more t s record { words = s.words; homes = s.homes; views = set (set s.views a (joined v w)) b nobody }
    h (join a b ∷ []) (may, tt)
    record {
      wide = h.shown.wide;
      number = h.shown.number;
      heights = h.shown.heights;
      passes = λ i. set (set (h.shown.passes i) a (joined (sym x.pass i) (sym y.pass i))) b nobody;
    }

pub opens : (t : Terms) → AreTerms t → IsRunning t (opening (0 ∷ 0 ∷ t.start.heights) [] (first_pass t))
opens t terms = record {
  terms = terms;
  events = [];
  happened = (refl, tt);
  shown = record {
    wide = omega arith;
    number = refl;
    heights = λ i l. ap (λ k. get_or (0 ∷ 0 ∷ t.start.heights) k 0) {x = i + 2} {y = suc (suc i)} (omega arith);
    passes = refl;
  };
}

-- the heights read when the table is closed are those of the last open pile
pub last_is : (t : Terms) (a : ℕ) (v : View) (s : State ℕ View) (h : IsRunning t s)
    → get_elem? s.views a ≡ some v → (heights : List ℕ)
    → length heights ≡ sites (grid_of_terms t)
    → ((i : ℕ) → i < sites (grid_of_terms t) → slice_index heights i ≡ slice_index s.words (i + 2))
    → IsLast t a v heights
last_is t a v s h at heights long read = record {
  stands = stands_now h at;
  len = long;
  each_height = λ i l. read i l ∙ h.shown.heights i l;
}
