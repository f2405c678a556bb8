-- The column that is counted is that of the site to be written. Only if it reaches the width does a new row begin
-- (`next_row`); otherwise the next site is in the same row (`same_row`).
use Rattle.sand_model.proofs.Common.{rules, ◌≡◌, ℕ, ◌+◌, ◌<◌, ◌≤◌, List, [], ◌∷◌, ◌++◌, ◌∙◌, ap, arith, length, get_or, ⊎_elim, cases_lt, get_or_push, get_or_append_left, mod_below, column}
use Rattle.sand_model.proofs.Borders.{next_row, same_row}
use Rattle.sand_model.proofs.lattice.columns_of.Goals as goal
use Rattle.sand_model.proofs.lattice.columns_of.Goals.{then-column-width, else-column-width}

-- the column of the next site, whichever branch was taken
next_column : (c : goal.Joined-column-width) → c.if-column-width.column ≡ column c.args.shape (c.loop.counter + 1)
next_column c =
    let inv = c.loop.invariant in
    let width = c.width-width.ensures.value in
    let below = mod_below c.loop.counter c.args.shape.width c.width-width.ensures.sides.some_width in
    elim c.if-column-width.branch [
      | then-column-width w ↦
          omega (
            arith,
            next_row c.args.shape.width c.loop.counter (omega (arith, inv.column_is, width, w.if-column-width.true)),
            w.column-is,
          )
      | else-column-width w ↦
          omega (
            arith,
            same_row c.args.shape.width c.loop.counter (grind (arith, below, inv.column_is, width, w.if-column-width.false)),
            w.column-is,
            inv.column_is,
          )
    ]

-- a list of f at the numbers below n, after f n is pushed
one_more : (f : ℕ → ℕ) (xs ys : List ℕ) (n x : ℕ) → ys ≡ xs ++ x ∷ []
    → length xs ≡ n → x ≡ f n → ((i : ℕ) → i < n → get_or xs i 0 ≡ f i)
    → (i : ℕ) → i < n + 1 → get_or ys i 0 ≡ f i
one_more f xs ys n x pushed long is each i below =
    ap (λ (zs : List ℕ). get_or zs i 0) pushed
    ∙ ⊎_elim
    (λ (before : i < n). get_or_append_left xs (x ∷ []) 0 i (omega arith) ∙ each i before)
    (λ (last : n ≤ i). let e : n ≡ i = omega arith in get_or_push xs x 0 i (long ∙ e) ∙ is ∙ ap f e)
    (cases_lt i n)

pub loop-preserved : goal.loop-preserved
loop-preserved c =
    let inv = c.loop.invariant in
    record {
      column_is = next_column c;
      made = search rules;
      room = search rules;
      each = one_more (column c.args.shape) c.loop.columns.items _ c.loop.counter
          c.loop.column c.push_reserved.ensures.items (search rules) inv.column_is inv.each;
    }
