-- The identity from topplings that empty it: a pile that some topplings take to all 0 is equivalent to all 0.
use Rattle.sand_group.proofs.Common.{ℕ, ◌≡◌, refl, arith, length, pos, ints, Grid, sites, IsToppled, whole, IsEquivalent, PileView, height_of, toppled_is_integers, settled_same, SettlesTo, IsSurplus, IsIdentity}
use Rattle.sand_model.proofs.EachSettles.{settles}
use Rattle.sand_group.proofs.OperationsSettle.{some_surplus, identity_is_settled, represented_once}

pub emptied_is_none : (g : Grid) (s w : ℕ → ℕ) → IsToppled g s w (λ i. 0) → IsEquivalent g (whole s) (λ i. pos 0)
emptied_is_none g s w done = record {
  by_topplings = whole w;
  difference = λ i l. omega (arith, ints, (toppled_is_integers g s w (λ i. 0)).0 done i l);
}

-- the identity, however it was found, is the settled pile of some d
pub identity_settles : (g : Grid) (p : PileView) → p.grid ≡ g → length p.heights ≡ sites g → IsIdentity g (height_of p)
    → (d : ℕ → ℕ) × IsSurplus g d × SettlesTo g d p
identity_settles g p grid each identity =
    let d = some_surplus g in
    let done = settles g d.0 in
    let same = represented_once g (λ i. pos 0) done.1 (height_of p)
    (identity_is_settled g d.0 done.0 done.1 d.1 done.2) identity in (
      d.0,
      d.1,
      record {
        grid = grid;
        len = each;
        odometer = done.0;
        settled = settled_same g d.0 d.0 done.0 done.0 done.1 (height_of p) (λ i l. refl) (λ i l. refl) same done.2;
      },
    )
