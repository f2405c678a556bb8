-- The waves of a drop, by site, and their sizes.
-- Source: Ivashkevich, Ktitarev and Priezzhev 1994.
use Rattle.std.specs.Prelude.{ℕ, ◌≡◌, ◌≢◌, ◌+◌, ◌*◌, ◌<◌, ◌≤◌, List, [], ◌∷◌, length, slice_index}
use Rattle.sand_model.specs.Grid.{Grid, sites}
use Rattle.sand_model.specs.Sand.{flow, topplings, IsToppled}

-- w topples the dropped site, and leaves at most 3 at each other one; it may leave a negative number somewhere
pub record Covers (g : Grid) (site : ℕ) (h w : ℕ → ℕ) : Type 0 where
  pub started : 1 ≤ w site
  pub at_most_three : (j : ℕ) → j < sites g → j ≢ site → h j + flow g w j ≤ 4 * w j + 3

-- one wave leads from the heights h to k: the dropped site has 4 or more, and topples once; of the other sites only those topple
-- that this brings to 4, each once, and then they have at most 3; so v is the least that covers h
pub record IsOneWave (g : Grid) (site : ℕ) (h v k : ℕ → ℕ) : Type 0 where
  pub due : 4 ≤ h site
  pub started : v site ≡ 1
  pub once : (j : ℕ) → j < sites g → v j ≤ 1
  pub toppled : IsToppled g h v k
  pub others_rest : (j : ℕ) → j < sites g → j ≢ site → k j ≤ 3
  pub needed : (w : ℕ → ℕ) → Covers g site h w → (j : ℕ) → j < sites g → v j ≤ w j

-- waves of these sizes, one after another, lead from the heights h to k
abbrev pub WavesLead : Grid → ℕ → (ℕ → ℕ) → List ℕ → (ℕ → ℕ) → Type 0
WavesLead g site h [] k = (j : ℕ) → j < sites g → k j ≡ h j
WavesLead g site h (size ∷ sizes) k = (v : ℕ → ℕ) × (m : ℕ → ℕ) × IsOneWave g site h v m × (size ≡ topplings g v)
    × WavesLead g site m sizes k

-- the numbers are written to the list, as many of them as it has room for; the rest of the list stays
pub record AreWrittenTo (numbers before after : List ℕ) : Type 0 where
  pub len : length after ≡ length before
  pub each : (t : ℕ) → t < length numbers → t < length before → slice_index after t ≡ slice_index numbers t
  pub rest : (t : ℕ) → length numbers ≤ t → slice_index after t ≡ slice_index before t

-- `number` waves lead from the heights h to k, and their sizes are written to a list
pub record HasWaves (g : Grid) (site : ℕ) (h k : ℕ → ℕ) (number : ℕ) (before after : List ℕ) : Type 0 where
  pub sizes : List ℕ
  pub lead : WavesLead g site h sizes k
  pub each : length sizes ≡ number
  pub written : AreWrittenTo sizes before after
