-- The events of an open pile, each with its condition and its effect. A pass is named by its index in the list.
use Rattle.std.specs.Prelude.{ℕ, Bool, true, ◌≡◌, ◌≢◌, ◌+◌, ◌-◌, ◌*◌, ◌<◌, ◌≤◌, ◌==◌, ◌&&◌, ◌||◌, if◌then◌else◌, max, List, [], ◌∷◌, ◌++◌, map, take, drop, length, slice_index, slice_set, replicate, count_by, Option, Some, None}
use Rattle.sand_model.specs.Grid.{sites, neighbours}
use Rattle.sand_model.specs.Piles.{height_of}
use Rattle.sand_shared.specs.declared.view.Receipt.{Receipt}
use Rattle.sand_shared.specs.declared.view.Grains.{Grains}
use Rattle.sand_shared.specs.declared.view.View.{View}
use Rattle.sand_shared.specs.declared.view.Terms.{Terms}
use Rattle.sand_shared.specs.OpenPile.{OpenPile, grid_of_terms, amount_at, nobody, holds_site, pass_at}

pub data Event : Type 0 where
  -- the first pass is made
  begin : Event
  -- a pass draws a number for a grain on a site
  draw : ℕ → ℕ → Event
  -- a pass lays a grain that it drew on its site
  place : ℕ → ℕ → Event
  -- a pass reads how many drops have begun
  count : ℕ → Event
  -- a pass gives part of its quota and the last of its sites to a new one
  split : ℕ → ℕ → ℕ → Event
  -- a pass takes over all that another one has
  join : ℕ → ℕ → Event
  -- a pass reads the height of a site of its rows
  look : ℕ → ℕ → Event
  -- a pass takes 4 * k grains from a site of its rows, and k for each neighbour are in hand
  unload : ℕ → ℕ → ℕ → Event
  -- a pass lays k grains in hand on their site
  deliver : ℕ → ℕ → ℕ → Event

-- Passes

abbrev pub receipt : ℕ → ℕ → Receipt
receipt n i = record { number = n; site = i }

abbrev pub grains_for : ℕ → ℕ → Grains
grains_for i k = record { site = i; amount = k }

abbrev pub zeros : ℕ → List ℕ
zeros n = replicate n 0

-- the first pass has the whole quota and all rows
abbrev pub first_pass : Terms → View
first_pass t = record nobody { left = t.quota; counts = zeros (sites (grid_of_terms t)) }

-- a list without its first entry
abbrev pub behind_first : List Grains → List Grains
behind_first [] = []
behind_first (g ∷ gs) = gs

abbrev pub drew : View → ℕ → ℕ → View
drew v n i = record v {
  left = v.left - 1;
  seen = n + 1;
  receipts = v.receipts ++ receipt n i ∷ [];
  hand = v.hand ++ grains_for i 1 ∷ [];
}

-- the receipts of consecutive drops, numbered from n on
abbrev pub receipts_from : ℕ → List ℕ → List Receipt
receipts_from n [] = []
receipts_from n (i ∷ is) = receipt n i ∷ receipts_from (n + 1) is

-- one grain for each site of a list
abbrev pub one_for_each : List ℕ → List Grains
one_for_each is = map (λ i. grains_for i 1) is

-- a pass after consecutive draws, numbered from n on
abbrev pub drew_all : View → ℕ → List ℕ → View
drew_all v n is = record v {
  left = v.left - length is;
  seen = n + length is;
  receipts = v.receipts ++ receipts_from n is;
  hand = v.hand ++ one_for_each is;
}

-- these are k grains for the site i
abbrev pub are_for : ℕ → ℕ → Grains → Bool
are_for i k g = (g.site == i) && (g.amount == k)

-- a hand without its first entry of k grains for the site i
abbrev pub without : ℕ → ℕ → List Grains → List Grains
without i k [] = []
without i k (g ∷ gs) = if are_for i k g then gs else g ∷ without i k gs

abbrev pub after_laying : View → ℕ → ℕ → View
after_laying v i k = record v { hand = without i k v.hand }

-- the first grains in hand go to a neighbour, if there is one
abbrev pub delivered_to : Option ℕ → View → View
delivered_to None v = v
delivered_to (Some j) v = record v { hand = behind_first v.hand }

abbrev pub counted : View → ℕ → View
counted v n = record v { seen = n }

abbrev pub looked : View → ℕ → ℕ → View
looked v i height = record v { spot = i; least = height }

-- k more topplings at a site of its rows
abbrev pub raised : View → ℕ → ℕ → List ℕ
raised v i k = slice_set v.counts (i - v.base) (slice_index v.counts (i - v.base) + k)

-- k grains for each neighbour
abbrev pub sent : Terms → ℕ → ℕ → List Grains
sent t i k = map (λ j. grains_for j k) (neighbours (grid_of_terms t) i)

abbrev pub unloaded : Terms → View → ℕ → ℕ → View
unloaded t v i k = record v { hand = v.hand ++ sent t i k; counts = raised v i k; least = 0 }

-- the first site of rows that begin at i, 0 if there are none
abbrev pub base_of : ℕ → List ℕ → ℕ
base_of i counts = if length counts == 0 then 0 else i

-- what a pass keeps when it gives away q of its quota and its last n sites
abbrev pub parent : View → ℕ → ℕ → View
parent v q n = let kept = length v.counts - n in record v {
  left = v.left - q;
  base = base_of v.base (take kept v.counts);
  counts = take kept v.counts;
  least = 0;
}

-- what it gives away; the new pass has seen as much
abbrev pub child : View → ℕ → ℕ → View
child v q n = let kept = length v.counts - n in record nobody {
  left = q;
  seen = v.seen;
  base = base_of (v.base + kept) (drop kept v.counts);
  counts = drop kept v.counts;
}

-- w has no rows, or they come directly after those of v
abbrev pub follows : View → View → Bool
follows v w = (length w.counts == 0) || (w.base == v.base + length v.counts)

-- two passes as one, their rows in order
abbrev pub joined : View → View → View
joined v w = record {
  left = v.left + w.left;
  seen = max v.seen w.seen;
  receipts = v.receipts ++ w.receipts;
  hand = [];
  base = if follows v w then v.base else w.base;
  counts = if follows v w then v.counts ++ w.counts else w.counts ++ v.counts;
  spot = 0;
  least = 0;
}

-- Events

abbrev pub with_pass : OpenPile → ℕ → View → OpenPile
with_pass p a v = record p { passes = slice_set p.passes a v }

-- k grains move from a pass's hand to a site
abbrev pub arrived : OpenPile → ℕ → ℕ → ℕ → OpenPile
arrived p a i k = record (with_pass p a (after_laying (pass_at p a) i k)) { height = λ j. p.height j + amount_at i k j }

-- When an event may happen

-- draw: the pass has quota left
pub record MayDraw (t : Terms) (p : OpenPile) (a i : ℕ) : Type 0 where
  pub there : a < length p.passes
  pub some_left : 0 < (pass_at p a).left
  pub inside : i < sites (grid_of_terms t)

-- place, deliver: k grains for the site are in its hand, as one entry
pub record MayLay (t : Terms) (p : OpenPile) (a i k : ℕ) : Type 0 where
  pub there : a < length p.passes
  pub in_hand : 0 < count_by (are_for i k) (pass_at p a).hand
  pub inside : i < sites (grid_of_terms t)

-- split: the pass has that quota and those sites, and nothing in hand
pub record MaySplit (p : OpenPile) (a q n : ℕ) : Type 0 where
  pub there : a < length p.passes
  pub quota : q ≤ (pass_at p a).left
  pub counts : n ≤ length (pass_at p a).counts
  pub free : (pass_at p a).hand ≡ []

-- join: both passes have nothing in hand, and their rows touch
pub record MayJoin (p : OpenPile) (a b : ℕ) : Type 0 where
  pub there : a < length p.passes
  pub other_there : b < length p.passes
  pub apart : b ≢ a
  pub free : (pass_at p a).hand ≡ []
  pub other_free : (pass_at p b).hand ≡ []
  pub touch : (follows (pass_at p a) (pass_at p b) || follows (pass_at p b) (pass_at p a)) ≡ true

-- look: the site is in its rows
pub record MayLook (t : Terms) (p : OpenPile) (a i : ℕ) : Type 0 where
  pub there : a < length p.passes
  pub inside : i < sites (grid_of_terms t)
  pub own : holds_site (pass_at p a) i ≡ true

-- unload: the site is in its rows, and has at least 4 * k grains
pub record MayUnload (t : Terms) (p : OpenPile) (a i k : ℕ) : Type 0 where
  pub there : a < length p.passes
  pub inside : i < sites (grid_of_terms t)
  pub own : holds_site (pass_at p a) i ≡ true
  pub high : 4 * k ≤ p.height i

abbrev pub May : Terms → OpenPile → Event → Type 0
May t p begin = p.passes ≡ []
May t p (draw a i) = MayDraw t p a i
May t p (place a i) = MayLay t p a i 1
May t p (count a) = a < length p.passes
May t p (split a q n) = MaySplit p a q n
May t p (join a b) = MayJoin p a b
May t p (look a i) = MayLook t p a i
May t p (unload a i k) = MayUnload t p a i k
May t p (deliver a i k) = MayLay t p a i k

-- the effect of an event
abbrev pub after : Terms → OpenPile → Event → OpenPile
after t p begin = record p { passes = first_pass t ∷ [] }
after t p (draw a i) = record (with_pass p a (drew (pass_at p a) (length p.drawn) i)) { drawn = p.drawn ++ i ∷ [] }
after t p (place a i) = arrived p a i 1
after t p (count a) = with_pass p a (counted (pass_at p a) (length p.drawn))
after t p (split a q n) =
    record p { passes = slice_set p.passes a (parent (pass_at p a) q n) ++ child (pass_at p a) q n ∷ [] }
after t p (join a b) = with_pass (with_pass p a (joined (pass_at p a) (pass_at p b))) b nobody
after t p (look a i) = with_pass p a (looked (pass_at p a) i (p.height i))
after t p (unload a i k) =
    record (with_pass p a (unloaded t (pass_at p a) i k)) { height = λ j. p.height j - amount_at i (4 * k) j }
after t p (deliver a i k) = arrived p a i k

-- the pile before its first pass is made
abbrev pub unopened : Terms → OpenPile
unopened t = record { height = height_of t.start; drawn = []; passes = [] }

-- the events of a list can happen one after another
abbrev pub AllHappen : Terms → OpenPile → List Event → Type 0
AllHappen t p [] = Unit {0}
AllHappen t p (e ∷ es) = May t p e × AllHappen t (after t p e) es

-- the pile after them
abbrev pub after_all : Terms → OpenPile → List Event → OpenPile
after_all t p [] = p
after_all t p (e ∷ es) = after_all t (after t p e) es

-- a pass draws consecutive numbers for grains on some sites
abbrev pub all_draws : ℕ → List ℕ → List Event
all_draws a is = map (λ i. draw a i) is

-- a pass lays k single grains on one site
abbrev pub all_places : ℕ → ℕ → ℕ → List Event
all_places a i k = replicate k (place a i)
