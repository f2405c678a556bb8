-- The unique text of a pile.
use Rattle.std.specs.Prelude.{ℕ, zero, suc, List, [], ◌∷◌, ◌++◌, length, take, drop, decimal, codes, ◌==◌, if◌then◌else◌}
use Rattle.sand_model.specs.declared.shape.Edge.{Edge}
use Rattle.sand_model.specs.declared.shape.Edge.TheVariants.{Open, Cylinder}
use Rattle.sand_model.specs.Grid.{Grid}
use Rattle.sand_model.specs.Piles.{PileView}

-- a line of numbers, separated by spaces
unfoldable pub row_text : List ℕ → List ℕ
row_text [] = []
row_text (n ∷ ns) = decimal n ++ (if length ns == 0 then 10 else 32) ∷ row_text ns

-- a number of rows of equal length
unfoldable pub rows_text : ℕ → ℕ → List ℕ → List ℕ
rows_text zero width ns = []
rows_text (suc height) width ns = row_text (take width ns) ++ rows_text height width (drop width ns)

-- a number for each site, by grid rows
abbrev pub sites_text : Grid → List ℕ → List ℕ
sites_text g ns = rows_text g.height g.width ns

-- what follows the sides in the first line
abbrev pub edge_text : Edge → List ℕ
edge_text Open = codes "\n"
edge_text Cylinder = codes " c\n"

-- the first line: width, height, and the letter of a cylinder
abbrev pub shape_text : Grid → List ℕ
shape_text g = decimal g.width ++ codes " " ++ decimal g.height ++ edge_text g.edge

abbrev pub text_of : PileView → List ℕ
text_of p = shape_text p.grid ++ sites_text p.grid p.heights

abbrev pub odometer_text : Grid → List ℕ → List ℕ
odometer_text g ns = codes "odometer\n" ++ sites_text g ns

-- a line with the name and the value of a sum
abbrev pub sum_line : List ℕ → ℕ → List ℕ
sum_line name n = name ++ decimal n ++ codes "\n"
