-- The pile stays lawful when passes are split and joined: together they still have the same.
use Rattle.sand_shared.proofs.Common.{◌≡◌, ℕ, ◌+◌, ◌≤◌, List, [], ◌∷◌, ◌++◌, Some, eqb, All, sum_by, length, set, get_or, sym, refl, ap, ◌∙◌, subst, arith, length-append, slice_get, nat_tests, get_or-set_other, length-set, sum_by-set, sum_by-append, sum_by_push, All-append, All-set, All-cons, All-nil, one_if, View, Receipt, Terms, OpenPile, nobody, numbered, receipts_for, held, holds_site, toppled_by, toppled, pass_at, IsLawfulPass, IsLawful, split, join, parent, child, joined, May, after}
use Rattle.sand_shared.proofs.Balance.{balance_kept}
use Rattle.sand_shared.proofs.RowPartsAddUp.{none_toppled, cut_parts, parts_hold, parts_toppled, joined_rows}

-- x and y together have what v and w have
pub record SharesOut (v w x y : View) : Type 0 where
  pub left : x.left + y.left ≡ v.left + w.left
  pub receipts : length x.receipts + length y.receipts ≡ length v.receipts + length w.receipts
  pub numbers : (n : ℕ) → numbered x.receipts n + numbered y.receipts n ≡ numbered v.receipts n + numbered w.receipts n
  pub drops : (i : ℕ) → receipts_for x.receipts i + receipts_for y.receipts i ≡ receipts_for v.receipts i + receipts_for w.receipts i
  pub hands : (i : ℕ) → held x.hand i + held y.hand i ≡ held v.hand i + held w.hand i
  pub toppled : (i : ℕ) → toppled_by x i + toppled_by y i ≡ toppled_by v i + toppled_by w i
  pub sites_held : (i : ℕ)
      → one_if (holds_site x i) + one_if (holds_site y i) ≡ one_if (holds_site v i) + one_if (holds_site w i)

-- a pass with nothing adds nothing
none_held : (i : ℕ) → one_if (holds_site nobody i) ≡ 0
none_held i = grind (arith, nat_tests)

-- v and w are replaced by x and y, and all passes together still have the same
regrouped : (t : Terms) (p : OpenPile) (views : List View) (v w x y : View) → IsLawful t p → SharesOut v w x y
    → ((f : View → ℕ) → f x + f y ≡ f v + f w → f nobody ≡ 0 → sum_by f views ≡ sum_by f p.passes)
    → All (IsLawfulPass t (record p { passes = views })) views → IsLawful t (record p { passes = views })
regrouped t p views v w x y r a stays each =
    let q = record p { passes = views } in
    let still = λ (i : ℕ). stays (λ u. toppled_by u i) (a.toppled i) (none_toppled nobody i refl) in
    record {
      balance = balance_kept r.balance still (λ i l.
          let h = stays (λ u. held u.hand i) (a.hands i) refl in omega arith);
      needed = λ z stab i l. (let e = still i in let n = r.needed z stab i l in omega arith);
      numbers = λ n. stays (λ u. numbered u.receipts n) (a.numbers n) refl ∙ r.numbers n;
      receipts = stays (λ u. length u.receipts) a.receipts refl ∙ r.receipts;
      receipts_by_site = λ i. stays (λ u. receipts_for u.receipts i) (a.drops i) refl ∙ r.receipts_by_site i;
      all_sites = r.all_sites;
      quota = (let e = stays (λ u. u.left) a.left refl in omega arith);
      holders = λ i l. stays (λ u. one_if (holds_site u i)) (a.sites_held i) (none_held i) ∙ r.holders i l;
      passes = each;
    }

same_pile : (t : Terms) (p : OpenPile) (views : List View) (u : View) → IsLawfulPass t p u
    → IsLawfulPass t (record p { passes = views }) u
same_pile t p views u f = record { seen = f.seen; receipts = f.receipts; hand = f.hand; least = f.least }

-- a pass with nothing in hand, no receipts and no look
bare_pass : (t : Terms) (p : OpenPile) (u : View) → u.seen ≤ length p.drawn
    → u.receipts ≡ [] → u.hand ≡ [] → u.least ≡ 0 → IsLawfulPass t p u
bare_pass t p u seen none free unknown =
    let P : Receipt → Type 0 = λ q. slice_get p.drawn q.number ≡ Some q.site in
    record {
      seen = seen;
      receipts = subst (All P) (sym none) (All-nil P);
      hand = λ i l. (let e : held u.hand i ≡ 0 = ap (λ hand. held hand i) free in omega arith);
      least = λ own l. omega arith;
    }

module _ (t : Terms) (p : OpenPile) (a q n : ℕ) (r : IsLawful t p) (may : May t p (split a q n)) where
  -- parent and child together have what the pass had
  split_shares : SharesOut (pass_at p a) nobody (parent (pass_at p a) q n) (child (pass_at p a) q n)
  split_shares =
      let v = pass_at p a in
      let parts = cut_parts v q n may.counts in
      record {
        left = omega arith;
        receipts = omega arith;
        numbers = λ x. omega arith;
        drops = λ i. omega arith;
        hands = λ i. omega arith;
        toppled = λ i. omega (arith, parts_toppled (parent v q n) (child v q n) v parts i, none_toppled nobody i refl);
        sites_held = λ i.
            (let b = parts_hold (parent v q n) (child v q n) v parts i in let z = none_held i in omega arith);
      }

  pub split_keeps : IsLawful t (after t p (split a q n))
  split_keeps =
      let v = pass_at p a in
      let x = parent v q n in
      let y = child v q n in
      let views = set p.passes a x ++ y ∷ [] in
      let P = IsLawfulPass t (record p { passes = views }) in
      let f = r.passes a nobody may.there in
      let mine : P x = record {
        seen = f.seen;
        receipts = f.receipts;
        hand = λ i l. (let e : held v.hand i ≡ 0 = ap (λ hand. held hand i) may.free in omega arith);
        least = λ own l. omega arith;
      } in
      regrouped t p views v nobody x y r split_shares
      (λ f even zero.
      let c = sum_by-set f p.passes a x nobody may.there in let d = sum_by_push f (set p.passes a x) y in omega arith)
      (All-append P (set p.passes a x) (y ∷ [])
      (All-set P p.passes a x mine (λ k d l. same_pile t p views _ (r.passes k d l)))
      (All-cons P y [] (bare_pass t (record p { passes = views }) y f.seen refl refl refl) (All-nil P)))

module _ (t : Terms) (p : OpenPile) (a b : ℕ) (r : IsLawful t p) (may : May t p (join a b)) where
  -- the joined pass has what both had
  join_shares : SharesOut (pass_at p a) (pass_at p b) (joined (pass_at p a) (pass_at p b)) nobody
  join_shares =
      let v = pass_at p a in
      let w = pass_at p b in
      record {
        left = omega arith;
        receipts = (let c = length-append v.receipts w.receipts in omega arith);
        numbers = λ n.
            (let c = sum_by-append (λ (z : Receipt). one_if (eqb z.number n)) v.receipts w.receipts in omega arith);
        drops = λ i.
            (let c = sum_by-append (λ (z : Receipt). one_if (eqb z.site i)) v.receipts w.receipts in omega arith);
        hands = λ i. (let c : held v.hand i ≡ 0 = ap (λ hand. held hand i) may.free in
            let d : held w.hand i ≡ 0 = ap (λ hand. held hand i) may.other_free in
            omega arith);
        toppled = λ i.
            (let c = (joined_rows v w i may.touch).toppled in let z = none_toppled nobody i refl in omega arith);
        sites_held = λ i. (let c = (joined_rows v w i may.touch).held in let z = none_held i in omega arith);
      }

  joined_pass : (views : List View) → IsLawfulPass t (record p { passes = views }) (joined (pass_at p a) (pass_at p b))
  joined_pass views =
      let v = pass_at p a in
      let w = pass_at p b in
      let f = r.passes a nobody may.there in
      let g = r.passes b nobody may.other_there in
      record {
        seen = omega arith;
        receipts = All-append (λ (z : Receipt). slice_get p.drawn z.number ≡ Some z.site)
            v.receipts w.receipts f.receipts g.receipts;
        hand = λ i l. omega arith;
        least = λ own l. omega arith;
      }

  pub join_keeps : IsLawful t (after t p (join a b))
  join_keeps =
      let v = pass_at p a in
      let w = pass_at p b in
      let x = joined v w in
      let halfway = set p.passes a x in
      let views = set halfway b nobody in
      let P = IsLawfulPass t (record p { passes = views }) in
      let still : get_or halfway b nobody ≡ w = get_or-set_other p.passes a b x nobody may.apart in
      let long = length-set p.passes a x in
      regrouped t p views v w x nobody r join_shares
      (λ f even zero.
      let c = sum_by-set f p.passes a x nobody may.there in
      omega (arith, sum_by-set f halfway b nobody nobody (let l = may.other_there in omega arith), ap f still))
      (All-set P halfway b nobody (bare_pass t (record p { passes = views }) nobody (omega arith) refl refl refl)
      (All-set P p.passes a x (joined_pass views) (λ k d l. same_pile t p views _ (r.passes k d l))))
