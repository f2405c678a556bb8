-- The rows of drops, followed by more drops.
use Rattle.sand_commands.proofs.Common.{◌≡◌, ◌∙◌, ◌+◌, ℕ, Bool, true, false, if◌then◌else◌, List, [], ◌∷◌, ◌++◌, length, refl, sym, ap, ap₂, arith, Avalanche, IsAvalanche, SettledView, DrivenView, grid_of_driven, topplings_between, Drops, Part, HasAvalanche, drops_join, one_for_each, AreNoted, numbered, AreRows, drops_in, is_pile}
use Rattle.sand_cli.specs.declared.task.Part.TheVariants as parts

pub numbered_join : (n m : ℕ) (these others : List Avalanche) → m ≡ n + length these
    → numbered n (these ++ others) ≡ numbered n these ++ numbered m others
numbered_join n m [] others is = let here : n ≡ m = omega (arith, is) in ap (λ k. numbered k others) here
numbered_join n m (a ∷ these) others is =
    ap (λ l. (n, a) ∷ l) (numbered_join (n + 1) m these others (omega (arith, is)))

pub no_drops : (n : ℕ) (v : DrivenView) → AreRows n v [] [] v
no_drops n v = record { avalanches = []; dropped = refl; rows_are = refl }

-- the rows of some drops, then those of the drops after them
pub rows_join : (n m : ℕ) (v u w : DrivenView) (sites later : List ℕ) (rows more : List (ℕ × Avalanche))
    → m ≡ n + length sites → AreRows n v sites rows u → AreRows m u later more w
    → AreRows n v (sites ++ later) (rows ++ more) w
rows_join n m v u w sites later rows more number before after = record {
  avalanches = before.avalanches ++ after.avalanches;
  dropped = drops_join HasAvalanche v u w sites later before.avalanches after.avalanches before.dropped after.dropped;
  rows_are = ap₂ (λ xs ys. xs ++ ys) before.rows_are after.rows_are
      ∙ sym (numbered_join n m before.avalanches after.avalanches
      (omega (arith, number, one_for_each HasAvalanche v u sites before.avalanches before.dropped)));
}

pub rows_first : (n : ℕ) (v u w : DrivenView) (site : ℕ) (sites : List ℕ) (a : Avalanche) (rows : List (ℕ × Avalanche))
    → Drops v site u
    → IsAvalanche (grid_of_driven v) site (topplings_between v.settled u.settled) a → AreRows (n + 1) u sites rows w
    → AreRows n v (site ∷ sites) ((n, a) ∷ rows) w
rows_first n v u w site sites a rows drop is rest = record {
  avalanches = a ∷ rest.avalanches;
  dropped = (u, record { drops = drop; avalanche = is }, rest.dropped);
  rows_are = ap (λ l. (n, a) ∷ l) rest.rows_are;
}

pub rows_push : (n m : ℕ) (v u w : DrivenView) (sites : List ℕ) (rows : List (ℕ × Avalanche)) (site : ℕ) (a : Avalanche)
    → m ≡ n + length sites → AreRows n v sites rows u → Drops u site w
    → IsAvalanche (grid_of_driven u) site (topplings_between u.settled w.settled) a
    → AreRows n v (sites ++ site ∷ []) (rows ++ (m, a) ∷ []) w
rows_push n m v u w sites rows site a number are drop is =
    rows_join n m v u w sites (site ∷ []) rows ((m, a) ∷ []) number
    are (rows_first m u w w site [] a [] drop is (no_drops (m + 1) w))

-- the same, also if only the pile is wanted
pub noted_push : (alone : Bool) (v u w : DrivenView) (sites : List ℕ)
    (noted more : List (ℕ × Avalanche)) (site : ℕ) (a : Avalanche)
    → u.number ≡ v.number + length sites → AreNoted alone v sites noted u
    → Drops u site w
    → IsAvalanche (grid_of_driven u) site (topplings_between u.settled w.settled) a
    → more ≡ (if alone then noted else noted ++ (u.number, a) ∷ [])
    → AreNoted alone v (sites ++ site ∷ []) more w
noted_push true v u w sites noted more site a number (rows, are, none) drop is e =
    (rows ++ (u.number, a) ∷ [], rows_push v.number u.number v u w sites rows site a number are drop is, e ∙ none)
noted_push false v u w sites noted more site a number (rows, are, all) drop is e = (
  rows ++ (u.number, a) ∷ [],
  rows_push v.number u.number v u w sites rows site a number are drop is,
  e ∙ ap (λ l. l ++ (u.number, a) ∷ []) all,
)

-- what is recorded determines the text
pub noted_text : (part : Part) (noted rows : List (ℕ × Avalanche)) (last : SettledView)
    → noted ≡ (if is_pile part then [] else rows)
    → drops_in part noted last ≡ drops_in part rows last
noted_text parts.Pile noted rows last is = refl
noted_text parts.Table noted rows last is = ap (λ l. drops_in parts.Table l last) is
noted_text parts.All noted rows last is = ap (λ l. drops_in parts.All l last) is
