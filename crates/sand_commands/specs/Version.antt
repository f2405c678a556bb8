-- What `sandpile --version` writes.
use Rattle.std.specs.Prelude.{ℕ, List, codes}

-- the version, and the logic of the proofs
abbrev pub version_text : List ℕ
version_text = codes "sandpile 1.0.0, proved with Rattle, logic dac8208d650f15bf\n"
