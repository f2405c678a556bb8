-- One more turn: a receipt, a tally, a sweep. A dropper reads one more site of its stream, and drops on all that it has
-- read.
use Rattle.sand_lab.proofs.Common.{◌≡◌, ℕ, zero, suc, subst, ◌+◌, ◌-◌, ◌*◌, ◌<◌, ◌≤◌, List, [], ◌∷◌, ◌++◌, length, refl, sym, ap, arith, append_assoc, append-nil, All, ◌∙◌, length-append, add-one, AllZip, Receipt, slice_index, vec_capacity, map_push, All-push, All-nil, All-cons, All-append, receipt, receipts_from, PassView, AllBelow, at_rest, SharedView, IsPassOf, LeavesAtMost, SweptRows, Ascends, receipt_sites, Climbs, CanDrop, IsDropping, TookDropTurns, div_ceil, sites, grid_of_terms, Dropper, Reading, site_at}
use Rattle.sand_shared.specs.declared.view.Terms.{Terms}
use Rattle.std.proofs.lemmas.List.Quantifiers.{all_pairs_push}
use Rattle.std.proofs.lemmas.Grind.{div_ceil_times}

-- a receipt whose number is at least what was seen
pub ascends_push : (seen : ℕ) (rs : List Receipt) (r : Receipt) → Ascends rs → AllBelow seen rs → seen ≤ r.number
    → Ascends (rs ++ r ∷ [])
ascends_push seen rs r up below le = all_pairs_push (λ (a b : Receipt). a.number < b.number)
    rs r up (λ k d lt. let one = below k d lt in omega (arith, one, le))

pub below_push : (seen : ℕ) (rs : List Receipt) (r : Receipt) → AllBelow seen rs → seen ≤ r.number
    → AllBelow (r.number + 1) (rs ++ r ∷ [])
below_push seen rs r below le = All-push (λ (a : Receipt). a.number < r.number + 1)
    rs r (λ k d lt. let one = below k d lt in omega (arith, one, le)) (omega arith)

-- receipts of consecutive drops, numbered from at least what was seen
pub ascends_row : (seen n : ℕ) (rs : List Receipt) (is : List ℕ) → Ascends rs → AllBelow seen rs → seen ≤ n
    → Ascends (rs ++ receipts_from n is)
ascends_row seen n rs [] up below le = subst Ascends (sym (append-nil rs)) up
ascends_row seen n rs (i ∷ is) up below le =
    subst Ascends (append_assoc rs (receipt n i ∷ []) (receipts_from (n + 1) is))
    (ascends_row (n + 1) (n + 1) (rs ++ receipt n i ∷ []) is (ascends_push seen rs (receipt n i) up below le)
    (below_push seen rs (receipt n i) below le) (omega arith))

row_below : (n most : ℕ) (is : List ℕ) → n + length is ≤ most → AllBelow most (receipts_from n is)
row_below n most [] le = All-nil (λ (r : Receipt). r.number < most)
row_below n most (i ∷ is) le = All-cons (λ (r : Receipt). r.number < most) (receipt n i)
    (receipts_from (n + 1) is) (omega (arith, le)) (row_below (n + 1) most is (omega (arith, le)))

pub within_row : (n most : ℕ) (rs : List Receipt) (is : List ℕ)
    → AllBelow most rs → (0 < length is → n + length is ≤ most)
    → AllBelow most (rs ++ receipts_from n is)
within_row n most rs [] below le = subst (AllBelow most) (sym (append-nil rs)) below
within_row n most rs (i ∷ is) below le = All-append (λ (r : Receipt). r.number < most)
    rs (receipts_from n (i ∷ is)) below (row_below n most (i ∷ is) (le (omega arith)))

pub below_row : (seen n : ℕ) (rs : List Receipt) (is : List ℕ) → AllBelow seen rs → seen ≤ n
    → AllBelow (n + length is) (rs ++ receipts_from n is)
below_row seen n rs is below le = within_row n (n + length is) rs is
    (λ k d lt. let one = below k d lt in omega (arith, one, le)) (λ some. omega arith)

pub sites_row : (n : ℕ) (rs : List Receipt) (is : List ℕ)
    → receipt_sites (rs ++ receipts_from n is) ≡ receipt_sites rs ++ is
sites_row n [] [] = refl
sites_row n [] (i ∷ is) = ap (λ ns. i ∷ ns) (sites_row (n + 1) [] is)
sites_row n (r ∷ rs) is = ap (λ ns. r.site ∷ ns) (sites_row n rs is)

pub climbs_push : (from mid : ℕ) (ns : List ℕ) (n : ℕ) → Climbs from ns mid → mid ≤ n → Climbs from (ns ++ n ∷ []) n
climbs_push from mid [] n h le = (omega arith, omega arith)
climbs_push from mid (x ∷ ns) n h le = (h.0, climbs_push x mid ns n h.1 le)

pub sites_push : (rs : List Receipt) (r : Receipt) → receipt_sites (rs ++ r ∷ []) ≡ receipt_sites rs ++ r.site ∷ []
sites_push rs r = map_push (λ (x : Receipt). x.site) rs r

pub zip_append : {A B : Type 0} (R : A → B → Type 0) (xs ys : List A) (us vs : List B) → AllZip R xs us → AllZip R ys vs
    → AllZip R (xs ++ ys) (us ++ vs)
zip_append R [] ys [] vs h k = k
zip_append R [] ys (u ∷ us) vs h k = absurd h
zip_append R (x ∷ xs) ys [] vs h k = absurd h
zip_append R (x ∷ xs) ys (u ∷ us) vs h k = (h.0, zip_append R xs ys us vs h.1 k)

-- each site has toppled, since the pass p, as often as its own grains require
abbrev pub EnoughSince : Terms → PassView → List ℕ → Type 0
EnoughSince t p counts = (j : ℕ) → j < length p.counts
    → LeavesAtMost t (at_rest p) ((at_rest p).base + j) (4 * (slice_index counts j - slice_index p.counts j) + 3)

-- the first sweep does enough, and later ones undo nothing
pub enough_after : (t : Terms) (p q : PassView) (counts : List ℕ) (topplings turn : ℕ)
    → (turn ≡ 0 → q ≡ p) → (0 < turn → EnoughSince t p q.counts)
    → SweptRows t (at_rest q) counts topplings → EnoughSince t p counts
enough_after t p q counts topplings zero begun before swept j lt =
    (subst (λ (x : PassView). SweptRows t (at_rest x) counts topplings) (begun refl) swept).enough j lt
enough_after t p q counts topplings (suc n) begun before swept j lt =
    let was = before (omega arith) j lt in
    omega (arith, was, swept.never_fall j)

-- a batch has at least one drop
pub some_in_a_batch : (drops : ℕ) → 0 < drops → 0 < div_ceil drops 16
some_in_a_batch drops some = let enough = (div_ceil_times drops 16 (omega arith)).0 in omega arith

-- a dropper that has not begun has read and dropped nothing
pub begins : (s : SharedView) (turns : ℕ) (d : Dropper) → CanDrop s turns d → IsDropping s turns 0 d d
begins s turns d can =
    let none = can.none_read in
    let bare = can.no_receipts in
    record {
      who = refl;
      of_pile = can.of_pile;
      kept = refl;
      left = omega (arith, ap (λ (xs : List ℕ). length xs) none, can.left);
      may_read = omega arith;
      room = can.room;
      counts = can.counts;
      grid = can.grid;
      reading = (λ i. record d.sites { read = can.unread i });
      inside = subst (All (λ i. i < sites (grid_of_terms s.terms)))
          (sym none) (All-nil (λ i. i < sites (grid_of_terms s.terms)));
      sites = λ i. receipt_sites (bare i) ++ none i;
      ascends = subst Ascends (sym bare) (λ i j e before inside. absurd (omega (arith, before, inside)));
      within = subst (AllBelow s.terms.quota) (sym bare) (All-nil (λ r. r.number < s.terms.quota));
      below = subst (AllBelow d.pass.seen) (sym bare) (All-nil (λ r. r.number < d.pass.seen));
    }

-- it reads the next site
pub reads_one : (s : SharedView) (turns n : ℕ) (d e f : Dropper) (site : ℕ)
    → IsDropping s turns n d e → n < turns → f.who ≡ e.who
    → f.pass ≡ e.pass → f.counts ≡ e.counts
    → f.sites ≡ record e.sites { read = e.sites.read + 1 }
    → f.batch.items ≡ e.batch.items ++ site ∷ []
    → vec_capacity f.batch ≡ vec_capacity e.batch
    → site ≡ site_at e.sites.sites e.sites.seed e.sites.stream e.sites.read → site < e.sites.sites
    → IsDropping s turns (n + 1) d f
reads_one s turns n d e f site h more who pass counts reading items room is inside =
    let next : site ≡ site_at d.sites.sites d.sites.seed d.sites.stream n =
    is ∙ ap (λ (r : Reading). site_at r.sites r.seed r.stream r.read) h.reading in
    let many : e.sites.sites ≡ sites (grid_of_terms s.terms) = ap (λ (r : Reading). r.sites) h.reading ∙ h.grid in
    record {
      who = who ∙ h.who;
      of_pile = subst (IsPassOf s) (sym pass) h.of_pile;
      kept = subst (λ (p : PassView). p ≡ record d.pass { left = p.left; seen = p.seen; receipts = p.receipts })
          (sym pass) h.kept;
      left = (let same = ap (λ (p : PassView). p.left) pass in
          omega (arith, same, ap (λ (xs : List ℕ). length xs) items ∙ length-append e.batch.items (site ∷ []), h.left));
      may_read = omega (arith, more);
      room = subst (λ (n : ℕ). div_ceil turns 16 ≤ n) (sym room) h.room;
      counts = counts ∙ h.counts;
      grid = h.grid;
      reading = reading ∙ ap (λ (r : Reading). record r { read = r.read + 1 }) h.reading;
      inside = subst (All (λ i. i < sites (grid_of_terms s.terms))) (sym items)
          (All-push (λ i. i < sites (grid_of_terms s.terms)) e.batch.items site h.inside (omega (arith, inside, many)));
      sites = rw add-one ((λ i. receipt_sites (pass i).receipts ++ items i)
          ∙ sym (append_assoc (receipt_sites e.pass.receipts) e.batch.items (site ∷ []))
          ∙ (λ i. h.sites i ++ next i ∷ []));
      ascends = subst (λ (p : PassView). Ascends p.receipts) (sym pass) h.ascends;
      within = subst (λ (p : PassView). AllBelow s.terms.quota p.receipts) (sym pass) h.within;
      below = subst (λ (p : PassView). AllBelow p.seen p.receipts) (sym pass) h.below;
    }

-- a dropper that has read all sites and holds none has dropped on all of them
pub took_drop_turns : (s : SharedView) (turns : ℕ) (d e : Dropper) → IsDropping s turns turns d e → e.batch.items ≡ []
    → TookDropTurns s turns d e
took_drop_turns s turns d e h none =
    let left : e.pass.left ≡ 0 = omega (arith, ap (λ (xs : List ℕ). length xs) none, h.left) in
    record {
      who = h.who;
      of_pile = h.of_pile;
      kept = h.kept ∙ (λ i. record d.pass { left = left i; seen = e.pass.seen; receipts = e.pass.receipts });
      sites = sym (append-nil (receipt_sites e.pass.receipts))
          ∙ (λ i. receipt_sites e.pass.receipts ++ sym none i) ∙ h.sites;
      ascends = h.ascends;
      within = h.within;
    }
