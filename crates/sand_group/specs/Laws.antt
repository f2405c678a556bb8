-- The laws of recurrent piles and of their group, over all grids.
use Rattle.std.specs.Prelude.{ℕ, ℤ, pos, ◌≡◌, ◌+◌, ◌-◌, ◌*◌, ◌<◌, ◌-ℤ◌, ◌↔◌, List}
use Rattle.sand_model.specs.Grid.{Grid, IsGrid, sites}
use Rattle.sand_model.specs.Sand.{IsStable, IsSettled}
use Rattle.sand_model.specs.Integers.{whole, IsEquivalent}
use Rattle.sand_model.specs.Piles.{PileView, height_of}
use Rattle.sand_group.specs.Recurrence.{IsRecurrent, IsBurningOrder}
use Rattle.sand_group.specs.Group.{SettlesTo, OnceSettled, IsSurplus, Represents, IsSum, IsMultiple, IsIdentity, IsInverse}
use Rattle.sand_group.specs.Classes.{IsFired, IsSuperstable}

-- two piles that the same heights settle to are equal
abbrev pub SettlesToOnePile : Type 0
SettlesToOnePile = (g : Grid) (s : ℕ → ℕ) (p q : PileView) → SettlesTo g s p → SettlesTo g s q → p ≡ q

-- heights a and b together settle to what the settled pile of a and b together settle to
abbrev pub SettlesInParts : Type 0
SettlesInParts = (g : Grid) (a b : ℕ → ℕ) (p q : PileView) → SettlesTo g a p
    → SettlesTo g (λ i. height_of p i + b i) q → SettlesTo g (λ i. a i + b i) q

-- the burning test: a stable pile is recurrent if and only if all its sites burn in some order
abbrev pub BurningDecides : Type 0
BurningDecides =
    (g : Grid) (s : ℕ → ℕ) → IsGrid g → IsStable g s → IsRecurrent g s ↔ ((order : List ℕ) × IsBurningOrder g s order)

-- what is outside the grid does not count: heights that agree at each site are alike recurrent
abbrev pub RecurrentBySite : Type 0
RecurrentBySite =
    (g : Grid) (s t : ℕ → ℕ) → ((i : ℕ) → i < sites g → s i ≡ t i) → IsRecurrent g s → IsRecurrent g t

-- the recurrent piles are those that settle from at least 3 grains at each site
abbrev pub RecurrentFromFull : Type 0
RecurrentFromFull =
    (g : Grid) (c : ℕ → ℕ) → IsRecurrent g c ↔ ((a : ℕ → ℕ) × (u : ℕ → ℕ) × IsSettled g (λ i. 3 + a i) u c)

-- a recurrent pile with more grains settles to a recurrent pile
abbrev pub StaysRecurrent : Type 0
StaysRecurrent = (g : Grid) (c a : ℕ → ℕ) → IsRecurrent g c → OnceSettled g (λ i. c i + a i) (IsRecurrent g)

-- each class of equivalent piles has a recurrent pile
abbrev pub EachClassHasOne : Type 0
EachClassHasOne = (g : Grid) (x : ℕ → ℤ) → (c : ℕ → ℕ) × Represents g x c

-- two equivalent recurrent piles are equal
abbrev pub EquivalentRecurrentsAreEqual : Type 0
EquivalentRecurrentsAreEqual = (g : Grid) (c e : ℕ → ℕ) → IsRecurrent g c → IsRecurrent g e
    → IsEquivalent g (whole c) (whole e) → (i : ℕ) → i < sites g → c i ≡ e i

-- so each class has only one recurrent pile: the sum, the identity and the inverse are unique
abbrev pub RepresentativesAreEqual : Type 0
RepresentativesAreEqual = (g : Grid) (x : ℕ → ℤ) (c e : ℕ → ℕ) → Represents g x c → Represents g x e
    → (i : ℕ) → i < sites g → c i ≡ e i

-- a + b settles to the sum of a and b
abbrev pub SumIsSettled : Type 0
SumIsSettled = (g : Grid) (a b : ℕ → ℕ) → IsRecurrent g a → IsRecurrent g b → OnceSettled g (λ i. a i + b i) (IsSum g a b)

-- there is a d that gives the identity and the inverse
abbrev pub EachGridHasSurplus : Type 0
EachGridHasSurplus = (g : Grid) → (d : ℕ → ℕ) × IsSurplus g d

-- d settles to the identity
abbrev pub IdentityIsSettled : Type 0
IdentityIsSettled = (g : Grid) (d : ℕ → ℕ) → IsSurplus g d → OnceSettled g d (IsIdentity g)

-- 2d - c settles to the inverse of c; d is at least 3 and c at most 3, so 2d - c is at least 3 at each site
abbrev pub InverseIsSettled : Type 0
InverseIsSettled =
    (g : Grid) (c d : ℕ → ℕ) → IsRecurrent g c → IsSurplus g d → OnceSettled g (λ i. 2 * d i - c i) (IsInverse g c)

-- c plus the identity settles to c
abbrev pub IdentityIsNeutral : Type 0
IdentityIsNeutral = (g : Grid) (c e : ℕ → ℕ) → IsRecurrent g c → IsIdentity g e
    → OnceSettled g (λ i. c i + e i) (λ t. (i : ℕ) → i < sites g → t i ≡ c i)

-- c plus its inverse settles to the identity
abbrev pub InverseCancels : Type 0
InverseCancels =
    (g : Grid) (c v : ℕ → ℕ) → IsRecurrent g c → IsInverse g c v → OnceSettled g (λ i. c i + v i) (IsIdentity g)

-- the settled pile of s plus the identity settles to the recurrent pile equivalent to s
abbrev pub EquivalentIsSettled : Type 0
EquivalentIsSettled = (g : Grid) (s e : ℕ → ℕ) → IsIdentity g e
    → OnceSettled g s (λ t. OnceSettled g (λ i. e i + t i) (Represents g (whole s)))

-- a recurrent pile represents itself
abbrev pub RepresentsItself : Type 0
RepresentsItself = (g : Grid) (c : ℕ → ℕ) → IsRecurrent g c → Represents g (whole c) c

-- the recurrent pile equivalent to a + b is the sum of those equivalent to a and to b
abbrev pub EquivalentsAddUp : Type 0
EquivalentsAddUp = (g : Grid) (a b c d e : ℕ → ℕ) → Represents g (whole a) c → Represents g (whole b) d
    → Represents g (whole (λ i. a i + b i)) e → IsSum g c d e

-- each pile has exactly one n-fold sum
abbrev pub EachHasOneMultiple : Type 0
EachHasOneMultiple = (g : Grid) (n : ℕ) (c : ℕ → ℕ) → (a : ℕ → ℕ) × IsMultiple g n c a
    × ((b : ℕ → ℕ) → IsMultiple g n c b → (i : ℕ) → i < sites g → b i ≡ a i)

-- the 0-fold sum is the identity
abbrev pub NoneIsIdentity : Type 0
NoneIsIdentity = (g : Grid) (c e : ℕ → ℕ) → IsMultiple g 0 c e ↔ IsIdentity g e

-- the 1-fold sum of a recurrent pile is the pile itself
abbrev pub OneIsItself : Type 0
OneIsItself = (g : Grid) (c : ℕ → ℕ) → IsRecurrent g c → IsMultiple g 1 c c

-- the (n + m)-fold sum is the sum of the n-fold and the m-fold sum
abbrev pub MultiplesAddUp : Type 0
MultiplesAddUp = (g : Grid) (n m : ℕ) (c a b e : ℕ → ℕ) → IsMultiple g n c a → IsMultiple g m c b
    → IsMultiple g (n + m) c e ↔ IsSum g a b e

-- only one firing vector leads from heights to others
abbrev pub FiringIsUnique : Type 0
FiringIsUnique = (g : Grid) (x z y c : ℕ → ℤ) → IsFired g x z c → IsFired g x y c
    → (i : ℕ) → i < sites g → z i ≡ y i

-- a firing vector leads from heights to others of their class
abbrev pub FiringIsEquivalence : Type 0
FiringIsEquivalence = (g : Grid) (x c : ℕ → ℤ) → IsEquivalent g x c ↔ ((z : ℕ → ℤ) × IsFired g x z c)

-- heights are superstable if and only if they are 3 less a recurrent pile, whose heights are at most 3
abbrev pub SuperstableDuality : Type 0
SuperstableDuality = (g : Grid) (s : ℕ → ℤ)
    → IsSuperstable g s ↔ ((c : ℕ → ℕ) × IsRecurrent g c × ((i : ℕ) → i < sites g → s i ≡ pos 3 -ℤ pos (c i)))

-- each class has superstable heights
abbrev pub EachClassHasSuperstable : Type 0
EachClassHasSuperstable = (g : Grid) (x : ℕ → ℤ) → (t : ℕ → ℕ) × IsSuperstable g (whole t) × IsEquivalent g (whole t) x

-- two equivalent superstable heights are equal
abbrev pub EquivalentSuperstablesAreEqual : Type 0
EquivalentSuperstablesAreEqual = (g : Grid) (s t : ℕ → ℤ) → IsSuperstable g s → IsSuperstable g t
    → IsEquivalent g s t → (i : ℕ) → i < sites g → s i ≡ t i
