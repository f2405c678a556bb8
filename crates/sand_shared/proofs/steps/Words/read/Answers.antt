-- Nobody else can change the pile of a whole pass: each look finds the start and the receipts, less Lu for its counts
-- u (`looked_exactly`). By the load at the end the pass is on a lawful pile, so it has toppled no more than needed
-- (`is_underway`), and the heights are within the limit (`left_few`).
use Rattle.sand_shared.proofs.Common.{ℕ, ◌≡◌, ◌+◌, ◌*◌, ◌<◌, List, [], ◌∷◌, ◌++◌, length, sym, ap, ◌∙◌, subst, arith, length-append, slice_index, common_steps, sites, flow, IsToppled, View, Terms, grid_of_terms, toppled_by, looked, Stands, HasAll, start_and_receipts}
use Rattle.sand_shared.proofs.SeatOfPass.{looked_is}
use Rattle.sand_shared.proofs.LastPileIsSettled.{left_few, is_underway}
use Rattle.sand_shared.proofs.PassKnowsPile.{looked_exactly}
use Rattle.sand_shared.proofs.steps.Words.read.Goals as goal

-- one height more is read
read_more : (xs : List ℕ) (n i : ℕ) (u s : ℕ → ℕ) → length xs ≡ i → ((k : ℕ) → k < i → slice_index xs k + 4 * u k ≡ s k)
    → n + 4 * u i ≡ s i → (k : ℕ) → k < i + 1 → slice_index (xs ++ n ∷ []) k + 4 * u k ≡ s k
read_more xs n i u s len before here k l = grind (arith, common_steps, len, before k, here)

pub sites-preserved : goal.sites-preserved
sites-preserved c =
    let t = c.args.self.now.terms in
    let g = grid_of_terms t in
    let inv = c.sites.invariant in
    let v = c.args.seat.now.me.0 in
    let new = c.look-height.new.seat.me.0 in
    let i = c.sites.site in
    let n = c.look-height.result in
    let xs = c.sites.heights.items in
    let items = c.push_reserved.ensures.items in
    let is : new ≡ looked v i n =
    looked_is c.look-height.ensures.happened ∙ (λ q. looked (inv.view q) i n) in
    let spot = ap (λ (u : View). u.spot) is in
    let least = ap (λ (u : View). u.least) is in
    let exactly =
    looked_exactly c.look-height.ensures.happened (ap (λ (u : View). u.hand) inv.view ∙ c.requires.hand)
    (subst (HasAll t) (sym inv.view) record { quota = c.requires.all.quota; all_sites = c.requires.all.all_sites }) in
    let here = subst (λ (u : View). n + 4 * toppled_by u i ≡ start_and_receipts t u i + flow g (toppled_by u) i)
    inv.view exactly in
    record {
      table = c.look-height.ensures.seat.table ∙ inv.table;
      id = c.look-height.ensures.seat.id ∙ inv.id;
      bare = c.look-height.ensures.seat.bare;
      view = is ∙ (λ q. looked v (sym spot q) (sym least q));
      len = ap (λ l. length l) items ∙ omega (arith, length-append xs (n ∷ []));
      room = omega (arith, c.push_reserved.ensures.capacity, inv.room);
      left = λ k l. rw items (read_more xs n i (toppled_by v)
          (λ j. start_and_receipts t v j + flow g (toppled_by v) j) inv.len inv.left here k (omega arith));
    }

counted : (c : goal.After-learn) → c.sites-sites.result ≡ sites (grid_of_terms c.args.self.now.terms)
counted c = c.sites-sites.ensures.value
    ∙ ap sites (c.shape.ensures.value ∙ ap (λ (t : Terms). grid_of_terms t) c.terms.ensures.value)

-- the heights read are s - Lu, for the start with the receipts s and the counts u
left_there : (c : goal.After-learn)
    → IsToppled (grid_of_terms c.args.self.now.terms) (start_and_receipts c.args.self.now.terms c.args.seat.now.me.0)
    (toppled_by c.args.seat.now.me.0) (slice_index c.sites.heights.items)
left_there c =
    let all = counted c in
    record { balance = λ i l. c.sites.invariant.left i (omega arith) }

pub returns-clause-limit : goal.returns-clause-limit
returns-clause-limit c =
    let t = c.args.self.now.terms in
    let inv = c.sites.invariant in
    let v = c.args.seat.now.me.0 in
    let all = counted c in
    let stands = subst (Stands t _) (c.learn.ensures.view ∙ inv.view) c.learn.ensures.stands in
    left_few stands record { quota = c.requires.all.quota; all_sites = c.requires.all.all_sites }
    (toppled_by v) c.sites.heights.items (inv.len ∙ omega arith) (left_there c)

pub returns-clause-underway : goal.returns-clause-underway
returns-clause-underway c =
    let t = c.args.self.now.terms in
    let inv = c.sites.invariant in
    let stands = subst (Stands t _) (c.learn.ensures.view ∙ inv.view) c.learn.ensures.stands in
    is_underway stands record { quota = c.requires.all.quota; all_sites = c.requires.all.all_sites }
    c.requires.rows (slice_index c.sites.heights.items) (left_there c)
