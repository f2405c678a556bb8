-- The laws of settled records and of the pile of one thread.
use Rattle.std.specs.Prelude.{ℕ, ◌≡◌, ◌+◌, ◌<◌, List, [], length, sum}
use Rattle.sand_model.specs.Grid.{Grid, sites}
use Rattle.sand_model.specs.Sand.{IsStable, IsSettled, grains, topplings}
use Rattle.sand_model.specs.Piles.{PileView, height_of}
use Rattle.sand_settle.specs.Settling.{SettledView, IsSettledRecord, odometer_of}
use Rattle.sand_settle.specs.Avalanches.{WavesLead}
use Rattle.sand_settle.specs.Drops.{DrivenView, IsAfter, DropsAll}

-- after any list of drops, one by one, the record is the settled record of the start and the list
abbrev pub DropsAddUp : Type 0
DropsAddUp = (start : PileView) (history : List ℕ) (v w : DrivenView) → IsAfter start [] v → DropsAll v history w
    → IsAfter start history w

-- heights that agree at each site have the same settled records
abbrev pub RecordBySite : Type 0
RecordBySite = (g : Grid) (s t : ℕ → ℕ) (r : SettledView) → ((i : ℕ) → i < sites g → s i ≡ t i)
    → IsSettledRecord g s r → IsSettledRecord g t r

-- heights have one settled record: one pile, one odometer, one number of topplings and of grains lost
abbrev pub OneRecord : Type 0
OneRecord = (g : Grid) (s : ℕ → ℕ) (r q : SettledView) → IsSettledRecord g s r → IsSettledRecord g s q → r ≡ q

-- a stable pile settles to itself, and its odometer is 0
abbrev pub StableIsSettled : Type 0
StableIsSettled = (g : Grid) (s : ℕ → ℕ) → IsStable g s → IsSettled g s (λ i. 0) s

-- so its settled record has the same heights, no topplings and no grain lost
abbrev pub RecordOfStable : Type 0
RecordOfStable = (g : Grid) (s : ℕ → ℕ) (r : SettledView) → IsStable g s → IsSettledRecord g s r
    → ((i : ℕ) → i < sites g → (height_of r.pile i ≡ s i) × (odometer_of r i ≡ 0)) × (r.topplings ≡ 0) × (r.lost ≡ 0)

-- the grains of the start are lost, or on the settled pile
abbrev pub GrainsAreKept : Type 0
GrainsAreKept =
    (g : Grid) (s : ℕ → ℕ) (r : SettledView) → IsSettledRecord g s r → r.lost + sum r.pile.heights ≡ grains g s

-- the heights before a drop's topplings determine the sizes of its waves
abbrev pub WavesOnce : Type 0
WavesOnce = (g : Grid) (site : ℕ) (h k m : ℕ → ℕ) (xs ys : List ℕ) → site < sites g → IsStable g k → IsStable g m
    → WavesLead g site h xs k → WavesLead g site h ys m → xs ≡ ys

-- the dropped site topples once a wave, and the sizes of the waves sum to the topplings
abbrev pub WavesAddUp : Type 0
WavesAddUp = (g : Grid) (site : ℕ) (h u k : ℕ → ℕ) (sizes : List ℕ) → site < sites g → WavesLead g site h sizes k
    → IsSettled g h u k → (length sizes ≡ u site) × (sum sizes ≡ topplings g u)
