-- What the exports on integer heights wrote, from the results of the library.
use Rattle.sand_c.proofs.Common.{ℕ, ◌≡◌, ◌<◌, ◌≤◌, ◌∙◌, sym, ap, subst, arith, List, length, get_or, ℤ, pos, ◌⊎◌, Result, Ok, get_or_default, Grid, sites, PileView, height_of, Fault}
use Rattle.std.proofs.lemmas.Int.{ints}
use Rattle.sand_model.specs.Integers.{whole}
use Rattle.sand_model.proofs.EquivalenceIsLinear.{equivalent_same}
use Rattle.sand_group.specs.Classes.{integer_at, IsFiredToRecurrent, IsSuperstableOf}
use Rattle.sand_group.proofs.SuperstableHeights.{duality, superstable_by_site}
use Rattle.sand_c.specs.Classes.{IsRecurrentOfClass, IsSuperstableOfClass}

pub recurrent_written : (meaning : Result Grid Fault) (before after wanted firing z : List ℤ) (c : PileView)
    → meaning ≡ Ok c.grid → IsFiredToRecurrent c.grid (integer_at before) c z → length after ≡ sites c.grid
    → ((i : ℕ) → i < sites c.grid → integer_at after i ≡ pos (height_of c i))
    → ((length wanted ≡ 0) ⊎ (length wanted ≡ sites c.grid)) → length firing ≡ length wanted
    → (length wanted ≡ length z → firing ≡ z) → IsRecurrentOfClass meaning before after firing
recurrent_written meaning before after wanted firing z c meant is long written either same copied = record {
  grid = c.grid;
  meant = meant;
  len = long;
  pile = height_of c;
  recurrent = is.represents.recurrent;
  heights_are = written;
  equivalent = equivalent_same c.grid (whole (height_of c)) (integer_at before) (integer_at after) (integer_at before)
      is.represents.equivalent (λ i l. omega (arith, ints, written i l));
  firing_each = subst (λ n. (n ≡ 0) ⊎ (n ≡ sites c.grid)) (sym same) either;
  fired = λ all.
      let z_is = copied (sym same ∙ all ∙ sym is.firing_each) in
      record { difference = λ i l. written i l ∙ rw z_is (is.fired.difference i l) };
}

pub superstable_written : (meaning : Result Grid Fault) (before after : List ℤ) (p : PileView)
    → meaning ≡ Ok p.grid → IsSuperstableOf p.grid (integer_at before) p → length after ≡ sites p.grid
    → ((i : ℕ) → i < sites p.grid → integer_at after i ≡ pos (height_of p i))
    → IsSuperstableOfClass meaning before after
superstable_written meaning before after p meant is long written = record {
  grid = p.grid;
  meant = meant;
  len = long;
  superstable = superstable_by_site p.grid (whole (height_of p)) (integer_at after) (λ i l. sym (written i l))
      is.superstable;
  equivalent = equivalent_same p.grid (whole (height_of p)) (integer_at before) (integer_at after) (integer_at before)
      is.equivalent (λ i l. omega (arith, ints, written i l));
}

-- superstable heights are at most 3
pub low_if_superstable : (g : Grid) (x : ℕ → ℤ) (p : PileView) (xs : List ℕ) → IsSuperstableOf g x p → xs ≡ p.heights
    → (k d : ℕ) → k < length xs → get_or xs k d ≤ 3
low_if_superstable g x p xs is same k d l =
    let dual = (duality g (whole (height_of p))).0 is.superstable in omega (
      arith,
      ints,
      get_or_default xs k d 0 l,
      ap (λ (ys : List ℕ). get_or ys k 0) same,
      dual.2 k (omega (arith, is.len, ap (λ (ys : List ℕ). length ys) same)),
    )
