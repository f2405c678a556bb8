-- The unique texts of a settled pile, and of a result of the burning test.
use Rattle.std.specs.Prelude.{ℕ, List, ◌++◌, All, ◌<◌, length, decimal, codes}
use Rattle.std.specs.List.{flat_map}
use Rattle.sand_model.specs.Grid.{Grid, column, row, sites}
use Rattle.sand_settle.specs.Settling.{SettledView}
use Rattle.sand_group.specs.declared.burning.Burned.{Burned}
use Rattle.sand_group.specs.declared.burning.Burned.TheVariants.{Recurrent, Forbidden}
use Rattle.sand_text.specs.Texts.{odometer_text, sum_line, text_of}

-- the pile, how often each site toppled, and the sums
abbrev pub settle_text_of : SettledView → List ℕ
settle_text_of r = text_of r.pile ++ odometer_text r.pile.grid r.odometer
    ++ sum_line (codes "lost ") r.lost ++ sum_line (codes "topplings ") r.topplings

-- the line of a site: its column and its row
abbrev pub place_text : Grid → ℕ → List ℕ
place_text g i = decimal (column g i) ++ codes " " ++ decimal (row g i) ++ codes "\n"

-- the line `recurrent`; or the number of sites in the forbidden set, and a line for each
abbrev pub burn_text_of : Grid → Burned → List ℕ
burn_text_of g (Recurrent order) = codes "recurrent\n"
burn_text_of g (Forbidden set) =
    codes "forbidden " ++ decimal (length set.items) ++ codes "\n" ++ flat_map (place_text g) set.items

-- the sites of the result are sites of the grid
abbrev pub AreSitesOf : Grid → Burned → Type 0
AreSitesOf g (Recurrent order) = All (λ i. i < sites g) order.items
AreSitesOf g (Forbidden set) = All (λ i. i < sites g) set.items
