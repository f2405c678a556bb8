-- The pile stays lawful when a pass reads the number of drops or the height of a site, draws a number for a grain, or
-- lays grains in hand on their site.
use Rattle.sand_shared.proofs.Common.{◌≡◌, ℕ, ◌+◌, ◌<◌, ◌≤◌, List, true, length, refl, ◌∙◌, arith, [], ◌∷◌, ◌++◌, Some, eqb, length-append, All-set, All-weaker, All-push, sum_by-set, sum_by_push, sites, one_if, View, Grains, Terms, OpenPile, nobody, grid_of_terms, numbered, receipts_for, held, holds_site, toppled_by, pass_at, IsLawfulPass, IsLawful, amount_at, count, look, with_pass, May, after, draw, drew, receipt, grains_for, are_for, without, arrived, slice_get, count_by, common_steps, nat_tests, occurrences-push, Receipt}
use Rattle.sand_shared.proofs.SumsOverPasses.{sum_by_kept}
use Rattle.sand_shared.proofs.Balance.{balance_kept, stabilises_fewer}
use Rattle.std.proofs.lemmas.Option.{gets}
use Rattle.sand_shared.proofs.GrainsAtSite.{held-append}
use Rattle.sand_shared.proofs.HandAfterPlacing.{held-without}

-- a pass that neither drops nor topples: each site has as many grains, on it and in hand, as before
pub still_lawful : (t : Terms) (p : OpenPile) (a seen spot least : ℕ) (hand : List Grains) (height : ℕ → ℕ)
    → IsLawful t p → a < length p.passes
    → let w = record (pass_at p a) { seen = seen; hand = hand; spot = spot; least = least } in
    let q = record (with_pass p a w) { height = height } in
    ((i : ℕ) → held hand i + height i ≡ held (pass_at p a).hand i + p.height i)
    → IsLawfulPass t q w → ((u : View) → IsLawfulPass t p u → IsLawfulPass t q u)
    → IsLawful t q
still_lawful t p a seen spot least hand height r there same mine others =
    let v = pass_at p a in
    let w = record v { seen = seen; hand = hand; spot = spot; least = least } in
    let q = record (with_pass p a w) { height = height } in
    let kept = λ (f : View → ℕ) (e : f w ≡ f v). sum_by_kept f p.passes a w nobody there e in
    let still = λ (i : ℕ). kept (λ u. toppled_by u i) refl in
    record {
      balance = balance_kept r.balance still (λ i l.
          let c = sum_by-set (λ (u : View). held u.hand i) p.passes a w nobody there in let e = same i in omega arith);
      needed = λ x stab i l. (let e = still i in let n = r.needed x stab i l in omega arith);
      numbers = λ n. kept (λ u. numbered u.receipts n) refl ∙ r.numbers n;
      receipts = kept (λ u. length u.receipts) refl ∙ r.receipts;
      receipts_by_site = λ i. kept (λ u. receipts_for u.receipts i) refl ∙ r.receipts_by_site i;
      all_sites = r.all_sites;
      quota = (let e = kept (λ u. u.left) refl in omega arith);
      holders = λ i l. kept (λ u. one_if (holds_site u i)) refl ∙ r.holders i l;
      passes = All-set (IsLawfulPass t q) p.passes a w mine
          (All-weaker (IsLawfulPass t p) (IsLawfulPass t q) others p.passes r.passes);
    }

-- the pile stays lawful when a pass comes to know more
learns : (t : Terms) (p : OpenPile) (a seen spot least : ℕ) → IsLawful t p → a < length p.passes → seen ≤ length p.drawn
    → (holds_site (pass_at p a) spot ≡ true → spot < sites (grid_of_terms t) → least ≤ p.height spot)
    → IsLawful t (with_pass p a (record (pass_at p a) { seen = seen; spot = spot; least = least }))
learns t p a seen spot least r there le found =
    let mine = r.passes a nobody there in
    still_lawful t p a seen spot least (pass_at p a).hand p.height r there (λ i. refl)
    record { seen = le; receipts = mine.receipts; hand = mine.hand; least = found }
    (λ u f. record { seen = f.seen; receipts = f.receipts; hand = f.hand; least = f.least })

pub count_keeps : (t : Terms) (p : OpenPile) (a : ℕ) → IsLawful t p → May t p (count a)
    → IsLawful t (after t p (count a))
count_keeps t p a r may =
    let v = pass_at p a in
    learns t p a (length p.drawn) v.spot v.least r may (omega arith) (r.passes a nobody may).least

pub look_keeps : (t : Terms) (p : OpenPile) (a i : ℕ) → IsLawful t p → May t p (look a i)
    → IsLawful t (after t p (look a i))
look_keeps t p a i r may =
    let v = pass_at p a in
    learns t p a v.seen i (p.height i) r may.there (r.passes a nobody may.there).seen (λ _ _. omega arith)

dropped-push : (rs : List Receipt) (n i j : ℕ) → receipts_for (rs ++ receipt n i ∷ []) j ≡ receipts_for rs j + one_if (eqb i j)
dropped-push rs n i j = sum_by_push (λ (r : Receipt). one_if (eqb r.site j)) rs (receipt n i)

numbered-push : (rs : List Receipt) (n i x : ℕ) → numbered (rs ++ receipt n i ∷ []) x ≡ numbered rs x + one_if (eqb n x)
numbered-push rs n i x = sum_by_push (λ (r : Receipt). one_if (eqb r.number x)) rs (receipt n i)

get_longer : (xs : List ℕ) (y k x : ℕ) → slice_get xs k ≡ Some x → slice_get (xs ++ y ∷ []) k ≡ Some x
get_longer xs y k x e = grind (arith, common_steps, gets)

get_last : (xs : List ℕ) (y : ℕ) → slice_get (xs ++ y ∷ []) (length xs) ≡ Some y
get_last xs y = grind (arith, common_steps, gets)

module _ (t : Terms) (p : OpenPile) (a i : ℕ) (r : IsLawful t p) (may : May t p (draw a i)) where
  -- the pass that drew has the new receipt and its grain; every other pass has what it had
  drawn_pass : IsLawfulPass t (after t p (draw a i)) (drew (pass_at p a) (length p.drawn) i)
  drawn_pass =
      let v = pass_at p a in
      let f = r.passes a nobody may.there in
      let n = length p.drawn in
      record {
        seen = omega (arith, length-append p.drawn (i ∷ []));
        receipts = All-push (λ q. slice_get (p.drawn ++ i ∷ []) q.number ≡ Some q.site) v.receipts (receipt n i)
            (λ k d l. get_longer p.drawn i _ _ (f.receipts k d l)) (get_last p.drawn i);
        hand = λ j l. (let h = f.hand j l in
            omega (arith, held-append v.hand (grains_for i 1 ∷ []) j, dropped-push v.receipts n i j));
        least = f.least;
      }

  other_pass : (u : View) → IsLawfulPass t p u → IsLawfulPass t (after t p (draw a i)) u
  other_pass u f =
      record {
        seen = omega (arith, length-append p.drawn (i ∷ []));
        receipts = λ k d l. get_longer p.drawn i _ _ (f.receipts k d l);
        hand = f.hand;
        least = f.least;
      }

  pub draw_keeps : IsLawful t (after t p (draw a i))
  draw_keeps =
      let v = pass_at p a in
      let n = length p.drawn in
      let w = drew v n i in
      let q = after t p (draw a i) in
      let there = may.there in
      let kept = λ (f : View → ℕ) (e : f w ≡ f v). sum_by_kept f p.passes a w nobody there e in
      let changed = λ (f : View → ℕ). sum_by-set f p.passes a w nobody there in
      let still = λ (j : ℕ). kept (λ u. toppled_by u j) refl in
      let longer = length-append p.drawn (i ∷ []) in
      record {
        balance = balance_kept r.balance still (λ j l.
            let c = changed (λ u. held u.hand j) in
            let h = held-append v.hand (grains_for i 1 ∷ []) j in let d = occurrences-push p.drawn i j in omega arith);
        needed = λ x stab j l. (let e = still j in
            let m = r.needed x (stabilises_fewer stab (λ k _. omega (arith, occurrences-push p.drawn i k))) j l in
            omega arith);
        numbers = λ x. (let c = changed (λ u. numbered u.receipts x) in
            grind (arith, nat_tests, c, numbered-push v.receipts n i x, r.numbers x, longer));
        receipts = omega (arith, changed (λ u. length u.receipts), length-append v.receipts (receipt n i ∷ []));
        receipts_by_site = λ j. (let c = changed (λ u. receipts_for u.receipts j) in
            omega (arith, dropped-push v.receipts n i j, r.receipts_by_site j, occurrences-push p.drawn i j));
        all_sites = All-push (λ j. j < sites (grid_of_terms t)) p.drawn i r.all_sites may.inside;
        quota = (let c = changed (λ u. u.left) in omega arith);
        holders = λ j l. kept (λ u. one_if (holds_site u j)) refl ∙ r.holders j l;
        passes = All-set (IsLawfulPass t q) p.passes a w drawn_pass
            (All-weaker (IsLawfulPass t p) (IsLawfulPass t q) other_pass p.passes r.passes);
      }

module _ (t : Terms) (p : OpenPile) (a i k : ℕ) (r : IsLawful t p) (there : a < length p.passes)
    (in_hand : 0 < count_by (are_for i k) (pass_at p a).hand) where
  pub arrived_keeps : IsLawful t (arrived p a i k)
  arrived_keeps =
      let v = pass_at p a in
      let mine = r.passes a nobody there in
      still_lawful t p a v.seen v.spot v.least (without i k v.hand)
      (λ j. p.height j + amount_at i k j) r there
      (λ j. let h = held-without i k v.hand j in_hand in omega arith)
      record {
        seen = mine.seen;
        receipts = mine.receipts;
        hand = λ j l. (let h = held-without i k v.hand j in_hand in let o = mine.hand j l in omega arith);
        least = λ own l. (let o = mine.least own l in omega arith);
      }
      (λ u f. record {
        seen = f.seen;
        receipts = f.receipts;
        hand = f.hand;
        least = λ own l. (let o = f.least own l in omega arith);
      })
