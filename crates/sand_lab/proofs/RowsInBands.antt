-- Splitting the rows of a pass into bands, starting with the last; the bands, joined in order, are all rows.
use Rattle.sand_lab.proofs.Common.{◌≡◌, ℕ, zero, suc, ◌+◌, ◌-◌, ◌*◌, ◌≤◌, List, [], take, drop, refl, sym, ap, ap₂, ◌∙◌, arith, ◌/◌, Bool, true, false, max, cond, ◌∷◌, ◌++◌, length, Some, append-nil, gets, drop-replicate, take-replicate, length-replicate, zeros, grid_of_terms, SharedView, sites_kept, PassView, together, rows_between, count_of, upper_rows, lower_rows, rows_follow, rows_together, AreApart, rowless, upper_part, banded, slice_get, ◌||◌, le-div, div-mul-le_self, Receipt}
use Rattle.std.proofs.lemmas.Bool.Decides.{nat_tests}
use Rattle.std.proofs.lemmas.Grind.{common_steps}
use Rattle.sand_shared.specs.declared.rows.Rows.{Rows}
use Rattle.sand_shared.proofs.PassesSplit.{between_some}

-- the first n rows
abbrev pub top : ℕ → Rows
top n = record { first = 0; end = n }

pub from_top : (n : ℕ) → rows_between 0 n ≡ top n
from_top zero = refl
from_top (suc n) = between_some 0 (suc n) (omega arith)

pub count_between : (b e : ℕ) → b ≤ e → count_of (rows_between b e) ≡ e - b
count_between b e le = grind (arith, nat_tests)

take_back : (b e : ℕ) → b ≤ e → e - (e - b) ≡ b
take_back b e le = omega (arith, le)

kept : (w b e : ℕ) → b ≤ e → w * e - (e - b) * w ≡ w * b
kept w b e le = let d = e - b in let same : b + d ≡ e = omega arith in grind arith

rest : (w b e : ℕ) → b ≤ e → w * e - w * b ≡ (e - b) * w
rest w b e le = let d = e - b in let same : b + d ≡ e = omega arith in grind arith

module _ (s : SharedView) (b e : ℕ) (le : b ≤ e) where
  abbrev pub w : ℕ
  w = (grid_of_terms s.terms).width

  kept_sites : sites_kept (upper_part s 0 e) (e - b) ≡ w * b
  kept_sites = ap (λ (n : ℕ). n - (e - b) * w) (length-replicate (w * e) 0) ∙ kept w b e le

  -- the part split off has the rows from b to e
  pub band_split : record (upper_part s 0 e) {
    left = 0;
    receipts = [];
    rows = lower_rows (top e) (e - b);
    counts = drop (sites_kept (upper_part s 0 e) (e - b)) (zeros (w * e));
  }
      ≡ banded s (rows_between b e)
  band_split =
      let rows : lower_rows (top e) (e - b) ≡ rows_between b e = ap (λ (n : ℕ). rows_between n e) (take_back b e le) in
      let counts : drop (sites_kept (upper_part s 0 e) (e - b)) (zeros (w * e))
      ≡ zeros (count_of (rows_between b e) * w) =
      ap (λ (n : ℕ). drop n (zeros (w * e))) kept_sites ∙ drop-replicate (w * b) (w * e) 0
      ∙ ap zeros (rest w b e le ∙ ap (λ (n : ℕ). n * w) (sym (count_between b e le))) in
      ap₂ (λ (r : Rows) (c : List ℕ). record (rowless s 0) { rows = r; counts = c }) rows counts

  -- the rest has the rows up to b
  pub band_left : record (upper_part s 0 e) {
    rows = upper_rows (top e) (e - b);
    counts = take (sites_kept (upper_part s 0 e) (e - b)) (zeros (w * e));
  }
      ≡ upper_part s 0 b
  band_left =
      let rows : upper_rows (top e) (e - b) ≡ top b =
      ap (λ (n : ℕ). rows_between 0 n) (take_back b e le) ∙ from_top b in
      let fits : w * b ≤ w * e = grind (arith, le) in
      let counts : take (sites_kept (upper_part s 0 e) (e - b)) (zeros (w * e)) ≡ zeros (w * b) =
      ap (λ (n : ℕ). take n (zeros (w * e))) kept_sites ∙ take-replicate (w * b) (w * e) 0 fits in
      ap₂ (λ (r : Rows) (c : List ℕ). record (rowless s 0) { rows = r; counts = c }) rows counts

follow_band : (b e : ℕ) → rows_follow (top b) (rows_between b e) ≡ true
follow_band b e = grind (arith, nat_tests)

rows_joined : (b e : ℕ) → b ≤ e → rows_together (top b) (rows_between b e) ≡ top e
rows_joined b e le =
    let follow = follow_band b e in
    let all : b + count_of (rows_between b e) ≡ e = omega (arith, count_between b e le, le) in
    rw follow (ap top all)

-- joined with the next band, the rows reach to its end
pub band_joined : (s : SharedView) (p q : PassView) (b e : ℕ)
    → b ≤ e → p.rows ≡ top b
    → q ≡ record (banded s (rows_between b e)) { counts = q.counts }
    → together p q ≡ record p { seen = (together p q).seen; rows = top e; counts = p.counts ++ q.counts }
band_joined s p q b e le above is =
    let rows : rows_together p.rows q.rows ≡ top e =
    ap₂ rows_together above (ap (λ (x : PassView). x.rows) is) ∙ rows_joined b e le in
    let follow : rows_follow p.rows q.rows ≡ true =
    ap₂ rows_follow above (ap (λ (x : PassView). x.rows) is) ∙ follow_band b e in
    let left : p.left + q.left ≡ p.left = omega (arith, ap (λ (x : PassView). x.left) is) in
    let receipts : p.receipts ++ q.receipts ≡ p.receipts =
    ap (λ (x : PassView). p.receipts ++ x.receipts) is ∙ append-nil p.receipts in
    let counts : cond (rows_follow p.rows q.rows) (p.counts ++ q.counts) (q.counts ++ p.counts) ≡ p.counts ++ q.counts =
    rw follow in
    ap₂ (λ (f : (Rows × List ℕ)) (g : (ℕ × List Receipt)).
    record p { left = g.0; seen = max p.seen q.seen; receipts = g.1; rows = f.0; counts = f.1 })
    (ap₂ (λ (r : Rows) (c : List ℕ). (r, c)) rows counts) (ap₂ (λ (l : ℕ) (r : List Receipt). (l, r)) left receipts)

-- and touches them
pub band_touches : (s : SharedView) (p q : PassView) (b e : ℕ) → p.rows ≡ top b
    → q ≡ record (banded s (rows_between b e)) { counts = q.counts }
    → AreApart p.rows q.rows → ⊥
band_touches s p q b e above is apart =
    let follow : rows_follow p.rows q.rows ≡ true =
    ap₂ rows_follow above (ap (λ (x : PassView). x.rows) is) ∙ follow_band b e in
    let no : true ≡ false = sym (ap (λ (x : Bool). x || rows_follow q.rows p.rows) follow) ∙ apart in cc

pub next_at : {A : Type 0} (ys zs : List A) (x : A) → slice_get (ys ++ x ∷ zs) (length ys) ≡ Some x
next_at ys zs x = grind (arith, common_steps, gets)

-- the first j + 1 workers have at least the rows of the first j
pub share_grows : (j h n : ℕ) → j * h / n ≤ (j + 1) * h / n
share_grows j h zero = omega arith
share_grows j h (suc n) = le-div (j * h / suc n) ((j + 1) * h) (suc n) (omega arith)
    (let low = div-mul-le_self (j * h) (suc n) in
    let more : j * h ≤ (j + 1) * h = grind arith in
    omega (arith, low, more))
