-- A drop depends only on its site and the pile before it, so a run that continues from the pile of another is the rest
-- of a single run.
use Rattle.sand_commands.proofs.Common.{common_steps, ◌≡◌, ◌∙◌, ◌+◌, ◌<◌, ◌≤◌, ℕ, List, [], ◌∷◌, ◌++◌, drop, length, refl, sym, ap, ap₂, subst, arith, get_or, Result, Ok, Err, cases_lt, ext_get_or, Grid, sites, PileView, Avalanche, IsAvalanche, DrivenView, IsAfter, Drops, grid_of_driven, topplings_between, odometer_of, avalanche_same, one_for_each, stream_sites, TextFault, pile_of, ◌>>=◌, Draw, AreAvalanches, numbered, drawn_sites, with_draw, HasAvalanche}
use Rattle.sand_model.specs.Sand.{one_at, occurrences, IsSettled, IsStable}
use Rattle.sand_model.proofs.Sandpile.{settled_once, settled_stable}
use Rattle.sand_model.proofs.Underway.{underway_start, underway_end}
use Rattle.sand_commands.specs.Parts.{IsCutInTwo, RunsInParts}
use Rattle.sand_commands.proofs.DrawnSites.{drawn_split, length-drawn}
use Rattle.sand_commands.proofs.Rows.{numbered_join}

-- ---- one drop

-- a stable pile is its own settled pile
settled_already : (g : Grid) (s u : ℕ → ℕ) → ((i : ℕ) → i < sites g → s i ≤ 3) → ((i : ℕ) → i < sites g → u i ≡ 0)
    → IsSettled g s u s
settled_already g s u low none = underway_end g s u s (underway_start g s u none) low

-- two piles on one grid with the same heights are equal
same_pile : (p q : PileView) → p.grid ≡ q.grid
    → length p.heights ≡ sites p.grid → length q.heights ≡ sites p.grid
    → ((i : ℕ) → i < sites p.grid → get_or p.heights i 0 ≡ get_or q.heights i 0)
    → p ≡ q
same_pile p q grid one other each =
    let heights : p.heights ≡ q.heights =
    ext_get_or 0 p.heights q.heights (omega (arith, one, other)) (λ i l. each i (omega (arith, l, one))) in
    λ k. record { grid = grid k; heights = heights k }

no_farther : (g : Grid) (site : ℕ) (v : ℕ → ℕ) (a b : Avalanche) → IsAvalanche g site v a → IsAvalanche g site v b
    → a.reach ≤ b.reach
no_farther g site v a b one other = grind (arith, common_steps, cases_lt)

-- the topplings determine the avalanche
same_avalanche : (g : Grid) (site : ℕ) (v : ℕ → ℕ) (a b : Avalanche) → IsAvalanche g site v a → IsAvalanche g site v b
    → a ≡ b
same_avalanche g site v a b one other = grind (arith, common_steps, no_farther)

-- the pile and the site determine the next pile and the avalanche
same_drop : (v w v' w' : DrivenView) (site : ℕ) (a b : Avalanche)
    → v.settled.pile ≡ v'.settled.pile → Drops v site w → Drops v' site w'
    → IsAvalanche (grid_of_driven v) site (topplings_between v.settled w.settled) a
    → IsAvalanche (grid_of_driven v') site (topplings_between v'.settled w'.settled) b
    → (w.settled.pile ≡ w'.settled.pile) × (a ≡ b)
same_drop v w v' w' site a b same drop drop' is is' =
    let p : PileView = v.settled.pile in
    let u' : ℕ → ℕ = topplings_between v'.settled w'.settled in
    let P : PileView → Type 0 =
    λ q. IsSettled q.grid (λ j. get_or q.heights j 0 + one_at site j) u' (λ j. get_or w'.settled.pile.heights j 0) in
    let Q : PileView → Type 0 = λ q. IsAvalanche q.grid site u' b in
    let there : P p = subst P (sym same) drop'.settled.settled in
    let set_off : Q p = subst Q (sym same) is' in
    let once : (i : ℕ) → i < sites p.grid
    → (topplings_between v.settled w.settled i ≡ u' i)
    × (get_or w.settled.pile.heights i 0 ≡ get_or w'.settled.pile.heights i 0) =
    settled_once p.grid (λ j. get_or p.heights j 0 + one_at site j) (topplings_between v.settled w.settled) u'
    (λ j. get_or w.settled.pile.heights j 0) (λ j. get_or w'.settled.pile.heights j 0) drop.settled.settled there in
    let grids : w.settled.pile.grid ≡ w'.settled.pile.grid =
    drop.settled.grid ∙ ap (λ (q : PileView). q.grid) same ∙ sym drop'.settled.grid in
    let here : sites w.settled.pile.grid ≡ sites p.grid = ap sites drop.settled.grid in
    let beyond : sites v'.settled.pile.grid ≡ sites p.grid = ap (λ (q : PileView). sites q.grid) (sym same) in (
      same_pile w.settled.pile w'.settled.pile grids (drop.settled.heights_each ∙ sym here)
          (drop'.settled.heights_each ∙ beyond ∙ sym here) (λ i l. (once i (omega (arith, l, here))).1),
      same_avalanche p.grid site u' a b
          (avalanche_same p.grid site (topplings_between v.settled w.settled) u' a (λ j l. (once j l).0) is) set_off,
    )

-- ---- the avalanches

same_avalanches : (v w v' w' : DrivenView) (places : List ℕ) (these those : List Avalanche)
    → v.settled.pile ≡ v'.settled.pile
    → AreAvalanches v places these w → AreAvalanches v' places those w'
    → (these ≡ those) × (w.settled.pile ≡ w'.settled.pile)
same_avalanches v w v' w' [] [] [] same end end' =
    (refl, ap (λ (x : DrivenView). x.settled.pile) (sym end) ∙ same ∙ ap (λ (x : DrivenView). x.settled.pile) end')
same_avalanches v w v' w' [] (a ∷ these) those same none are = absurd none
same_avalanches v w v' w' [] [] (b ∷ those) same end none = absurd none
same_avalanches v w v' w' (site ∷ places) [] those same none are = absurd none
same_avalanches v w v' w' (site ∷ places) (a ∷ these) [] same are none = absurd none
same_avalanches v w v' w' (site ∷ places) (a ∷ these) (b ∷ those) same (u, first, rest) (u', first', rest') =
    let one = same_drop v u v' u' site a b same first.drops first'.drops first.avalanche first'.avalanche in
    let after = same_avalanches u w u' w' places these those one.0 rest rest' in
    (ap₂ (λ x xs. x ∷ xs) one.1 after.0, after.1)

-- the avalanches of the first drops, and those of the rest
record AreSplit (v : DrivenView) (places later : List ℕ) (all : List Avalanche) (w : DrivenView) : Type 0 where
  middle : DrivenView
  front : List Avalanche
  back : List Avalanche
  begins : AreAvalanches v places front middle
  ends : AreAvalanches middle later back w
  is : all ≡ front ++ back

split : (v w : DrivenView) (places later : List ℕ) (all : List Avalanche) → AreAvalanches v (places ++ later) all w
    → AreSplit v places later all w
split v w [] later all are = record { middle = v; front = []; back = all; begins = refl; ends = are; is = refl }
split v w (site ∷ places) later [] none = absurd none
split v w (site ∷ places) later (a ∷ all) (u, first, rest) =
    let after = split u w places later all rest in
    record {
      middle = after.middle;
      front = a ∷ after.front;
      back = after.back;
      begins = (u, first, after.begins);
      ends = after.ends;
      is = ap (λ xs. a ∷ xs) after.is;
    }

-- ---- what was read

read_or : {A : Type 0} → A → Result A TextFault → A
read_or x (Ok y) = y
read_or x (Err e) = x

same_reading : {A : Type 0} (x y : A) → ◌≡◌ {A = Result A TextFault} (Ok x) (Ok y) → x ≡ y
unfolding read_or
same_reading x y e = ap (read_or x) e

-- the pile that a draw drops on, and its sites
record IsDrawnOn (draw : Draw) (read : Result PileView TextFault) (pile : PileView) (places : List ℕ) : Type 0 where
  held : read ≡ Ok pile
  places_are : drawn_sites (sites pile.grid) draw ≡ places

drawn_on : (draw : Draw) (read : Result PileView TextFault) (pile : PileView) (places : List ℕ)
    → (read >>= with_draw draw) ≡ Ok (pile, places)
    → IsDrawnOn draw read pile places
drawn_on draw read pile places e = grind (arith, common_steps, same_reading)

-- two settled records of one start have the same pile
same_start : (start other : PileView) (v w : DrivenView) → start ≡ other → IsAfter start [] v → IsAfter other [] w
    → v.settled.pile ≡ w.settled.pile
same_start start other v w same one two =
    let P : PileView → Type 0 = λ p. IsAfter p [] w in
    let two : IsAfter start [] w = subst P (sym same) two in
    let g : Grid = start.grid in
    let here : sites v.settled.pile.grid ≡ sites g = ap sites one.settled.grid in
    same_pile v.settled.pile w.settled.pile (one.settled.grid ∙ sym two.settled.grid)
    (one.settled.heights_each ∙ sym here) (two.settled.heights_each ∙ sym here)
    (λ i l. (settled_once g (λ j. get_or start.heights j 0 + occurrences [] j) (odometer_of v.settled)
    (odometer_of w.settled) (λ j. get_or v.settled.pile.heights j 0) (λ j. get_or w.settled.pile.heights j 0)
    one.settled.settled two.settled.settled i (omega (arith, l, here))).1)

-- the pile that a run leaves settles to itself
rests : (start : PileView) (past : List ℕ) (v w : DrivenView) → IsAfter start past v → IsAfter v.settled.pile [] w
    → v.settled.pile ≡ w.settled.pile
rests start past v w left again =
    let p : PileView = v.settled.pile in
    let g : Grid = p.grid in
    let calm : IsStable start.grid (λ j. get_or p.heights j 0) =
    settled_stable start.grid (λ j. get_or start.heights j 0 + occurrences past j)
    (odometer_of v.settled) (λ j. get_or p.heights j 0) left.settled.settled in
    let P : Grid → Type 0 = λ h. IsStable h (λ j. get_or p.heights j 0) in
    let stable : IsStable g (λ j. get_or p.heights j 0) = subst P (sym left.settled.grid) calm in
    let still : IsSettled g (λ j. get_or p.heights j 0 + occurrences [] j) (λ j. 0) (λ j. get_or p.heights j 0 + occurrences [] j) =
    settled_already g (λ j. get_or p.heights j 0 + occurrences [] j) (λ j. 0)
    (λ i l. let low = stable.low i l in omega (arith, low)) (λ i l. refl) in
    let each : length p.heights ≡ sites g = left.settled.heights_each ∙ ap sites (sym left.settled.grid) in
    same_pile p w.settled.pile (sym again.settled.grid) each again.settled.heights_each
    (λ i l.
    let one = (settled_once g (λ j. get_or p.heights j 0 + occurrences [] j)
    (λ j. 0) (odometer_of w.settled) (λ j. get_or p.heights j 0 + occurrences [] j)
    (λ j. get_or w.settled.pile.heights j 0) still again.settled.settled i l).1 in
    omega (arith, one))

-- ---- the law

-- the sites of a draw are those of its two parts
sites_in_parts : (n : ℕ) (whole first second : Draw) → IsCutInTwo whole first second
    → drawn_sites n whole ≡ drawn_sites n first ++ drawn_sites n second
sites_in_parts n whole first second cut =
    let all : first.from + first.count + second.count ≡ whole.from + whole.count =
    let starts = cut.starts in let sum = cut.all in omega (arith, starts, sum) in
    let one : drop first.from (stream_sites n whole.seed whole.stream (first.from + first.count))
    ≡ drawn_sites n first =
    λ k. drop first.from (stream_sites n (sym cut.seeds.0 k) (sym cut.streams.0 k) (first.from + first.count)) in
    let place : first.from + first.count ≡ second.from = sym cut.goes_on in
    let end : whole.from + whole.count ≡ second.from + second.count =
    let goes_on = cut.goes_on in omega (arith, all, goes_on) in
    let two : drop (first.from + first.count) (stream_sites n whole.seed whole.stream (whole.from + whole.count))
    ≡ drawn_sites n second =
    λ k. drop (place k) (stream_sites n (sym cut.seeds.1 k) (sym cut.streams.1 k) (end k)) in
    ap (λ m. drop m (stream_sites n whole.seed whole.stream (whole.from + whole.count))) (sym cut.starts)
    ∙ drawn_split n whole.seed whole.stream first.from (first.from + first.count)
    second.count (whole.from + whole.count) (omega arith) all
    ∙ ap₂ (λ (xs ys : List ℕ). xs ++ ys) one two

pub runs_in_parts : RunsInParts
runs_in_parts whole first second a b c input left all one other cut uncut begun resumed handed =
    let w = drawn_on whole (pile_of input) uncut.pile uncut.sites uncut.read in
    let f = drawn_on first (pile_of input) begun.pile begun.sites begun.read in
    let s = drawn_on second (pile_of left) resumed.pile resumed.sites resumed.read in
    let start : uncut.pile ≡ begun.pile = same_reading uncut.pile begun.pile (sym w.held ∙ f.held) in
    let next : resumed.pile ≡ begun.last.settled.pile =
    same_reading resumed.pile begun.last.settled.pile (sym s.held ∙ handed) in
    let grid : begun.last.settled.pile.grid ≡ begun.pile.grid = begun.end.settled.grid in
    let n : ℕ = sites begun.pile.grid in
    let front : begun.sites ≡ drawn_sites n first = sym f.places_are in
    let back : resumed.sites ≡ drawn_sites n second =
    sym s.places_are ∙ ap (λ (p : PileView). drawn_sites (sites p.grid) second) next
    ∙ ap (λ (g : Grid). drawn_sites (sites g) second) grid in
    let places : uncut.sites ≡ begun.sites ++ resumed.sites =
    sym w.places_are ∙ ap (λ (p : PileView). drawn_sites (sites p.grid) whole) start
    ∙ sites_in_parts n whole first second cut ∙ ap₂ (λ (xs ys : List ℕ). xs ++ ys) (sym front) (sym back) in
    let all = uncut.dropped in let one = begun.dropped in let two = resumed.dropped in
    let P : List ℕ → Type 0 = λ xs. AreAvalanches uncut.first xs all.avalanches uncut.last in
    let parts =
    split uncut.first uncut.last begun.sites resumed.sites all.avalanches (subst P places all.dropped) in
    let first_half = same_avalanches uncut.first parts.middle begun.first begun.last begun.sites parts.front
    one.avalanches (same_start uncut.pile begun.pile uncut.first begun.first start uncut.start begun.start)
    parts.begins one.dropped in
    let R : PileView → Type 0 = λ p. IsAfter p [] resumed.first in
    let again : IsAfter begun.last.settled.pile [] resumed.first = subst R next resumed.start in
    let calm : begun.last.settled.pile ≡ resumed.first.settled.pile =
    rests begun.pile begun.sites begun.last resumed.first begun.end again in
    let long : length begun.sites ≡ first.count =
    ap length front ∙ length-drawn n first.seed first.stream first.from first.count (first.from + first.count) refl in
    let number : second.from ≡ first.from + length one.avalanches =
    omega (arith, cut.goes_on, long, one_for_each HasAvalanche begun.first begun.last begun.sites one.avalanches one.dropped) in
    let second_half = same_avalanches parts.middle uncut.last resumed.first resumed.last
    resumed.sites parts.back two.avalanches (first_half.1 ∙ calm) parts.ends two.dropped in
    let avalanches : all.avalanches ≡ one.avalanches ++ two.avalanches =
    parts.is ∙ ap₂ (λ (xs ys : List Avalanche). xs ++ ys) first_half.0 second_half.0 in (
      all.rows_are ∙ ap₂ numbered (sym cut.starts) avalanches
          ∙ numbered_join first.from second.from one.avalanches two.avalanches number
          ∙ sym (ap₂ (λ (xs ys : List (ℕ × Avalanche)). xs ++ ys) one.rows_are two.rows_are),
      second_half.1,
    )
