-- The drop sites in a text are sites of its pile.
use Rattle.sand_commands.proofs.Common.{◌≡◌, ◌+◌, ◌<◌, ◌≤◌, ℕ, true, false, not, leb, List, [], ◌∷◌, refl, ap, subst, All, arith, length, ⊎_elim, prefix_len, Option, Some, None, Result, Ok, Err, position, cases_Bool, cases_lt, leb-false, lt-ltb, All-cons, All-nil, Grid, sites, PileView, TextFault, front_of, sites_among, unless_at, ◌>>=◌}
use Rattle.sand_text.specs.declared.fault.TextFault.TheVariants.{NoSite}
use Rattle.sand_text.specs.Reading.{drops_of}

all_below : (n : ℕ) (ns : List ℕ) → length ns ≤ prefix_len (λ x. not (leb n x)) ns → All (λ j. j < n) ns
all_below n [] l = All-nil (λ j. j < n)
all_below n (x ∷ xs) l =
    ⊎_elim
    (λ (high : leb n x ≡ true). let none : length (x ∷ xs) ≤ 0 = rw high at l in absurd (omega arith))
    (λ (low : leb n x ≡ false).
    let rest : length (x ∷ xs) ≤ 1 + prefix_len (λ y. not (leb n y)) xs = rw low at l in
    All-cons (λ j. j < n) x xs (leb-false n x low) (all_below n xs (omega arith)))
    (cases_Bool (leb n x))

none_found : (n : ℕ) (ns : List ℕ) → position (leb n) ns ≡ None → length ns ≤ prefix_len (λ x. not (leb n x)) ns
none_found n ns none =
    ⊎_elim
    (λ (found : prefix_len (λ x. not (leb n x)) ns < length ns).
    let some : Some (prefix_len (λ x. not (leb n x)) ns) ≡ None = rw (lt-ltb _ _ found) at none in
    absurd cc)
    (λ (all : length ns ≤ prefix_len (λ x. not (leb n x)) ns). all)
    (cases_lt (prefix_len (λ x. not (leb n x)) ns) (length ns))

among : (g : Grid) (ns ds : List ℕ) (o : Option ℕ) → position (leb (sites g)) ns ≡ o
    → unless_at o NoSite (Ok ns) ≡ Ok ds → All (λ j. j < sites g) ds
among g ns ds None none read =
    let same : ns ≡ ds = cc in
    let P : List ℕ → Type 0 = λ xs. All (λ j. j < sites g) xs in
    subst P same (all_below (sites g) ns (none_found (sites g) ns none))
among g ns ds (Some place) found read = absurd cc

abbrev with_pile : PileView → List ℕ → Result (PileView × List ℕ) TextFault
with_pile pile ds = Ok (pile, ds)

abbrev drops_behind : PileView × List ℕ → Result (PileView × List ℕ) TextFault
drops_behind front = sites_among front.0.grid front.1 >>= with_pile front.0

behind : (front : PileView × List ℕ) (drops : Result (List ℕ) TextFault) (pile : PileView) (ds : List ℕ)
    → sites_among front.0.grid front.1 ≡ drops
    → (drops >>= with_pile front.0) ≡ Ok (pile, ds)
    → All (λ j. j < sites pile.grid) ds
behind front (Err fault) pile ds was read = absurd cc
behind front (Ok xs) pile ds was read =
    let left : PileView × List ℕ = (front.0, xs) in
    let right : PileView × List ℕ = (pile, ds) in
    let pair : left ≡ right = cc in
    let same : xs ≡ ds = ap (λ (p : PileView × List ℕ). p.1) pair in
    let grid : front.0 ≡ pile = ap (λ (p : PileView × List ℕ). p.0) pair in
    let P : PileView → Type 0 = λ p. All (λ j. j < sites p.grid) ds in
    let Q : List ℕ → Type 0 = λ d. All (λ j. j < sites front.0.grid) d in
    subst P grid (subst Q same (among front.0.grid front.1 xs (position (leb (sites front.0.grid)) front.1) refl was))

held : (front : Result (PileView × List ℕ) TextFault) (pile : PileView) (ds : List ℕ)
    → (front >>= drops_behind) ≡ Ok (pile, ds) → All (λ j. j < sites pile.grid) ds
held (Err fault) pile ds read = absurd cc
held (Ok front) pile ds read = behind front (sites_among front.0.grid front.1) pile ds refl read

pub drops_inside : (text : List ℕ) (pile : PileView) (ds : List ℕ) → drops_of text ≡ Ok (pile, ds)
    → All (λ j. j < sites pile.grid) ds
unfolding drops_of
drops_inside text pile ds read = held (front_of false text) pile ds read
