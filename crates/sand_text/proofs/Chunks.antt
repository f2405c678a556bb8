-- Writing the chunks of a list, one after another.
use Rattle.sand_text.proofs.Common.{◌≡◌, ℕ, suc, ◌-◌, ◌<◌, List, [], ◌++◌, length, take, drop, min, Some, None, Bor, arith, append_assoc, append-nil, length-drop, div-eq_of_lt, mod-eq_of_lt, zero-div, zero-mod, add-div_right, add-mod_right, cases_lt, take_min, drop_min, take_at, drop_at, flat_map, usual}
use Rattle.std.specs.Int.{div_ceil}
use Rattle.std.specs.Slice.Iter.{chunks_rest, chunks_size, chunks_steps}
use Rattle.std.specs.declared.slice.Chunks.{Chunks}
use Rattle.sand_text.specs.Pictures.{chunks}

-- after the first chunk there is one chunk less
one_less : (n size : ℕ) → 0 < size → 0 < n → div_ceil n size ≡ suc (div_ceil (n - size) size)
one_less n size some left =
    grind (arith, usual, cases_lt, div-eq_of_lt, mod-eq_of_lt, zero-div, zero-mod, add-div_right, add-mod_right)

-- the first chunk, and the chunks after it
pub chunks-next : (f : List ℕ → List ℕ) (size : ℕ) (ns : List ℕ) → 0 < size → 0 < length ns
    → flat_map f (chunks ns size) ≡ f (take size ns) ++ flat_map f (chunks (drop size ns) size)
unfolding chunks
chunks-next f size ns some left = grind (arith, usual, one_less, length-drop)

pub chunks-end : (f : List ℕ → List ℕ) (size : ℕ) (ns : List ℕ) → length ns ≡ 0 → flat_map f (chunks ns size) ≡ []
unfolding chunks
chunks-end f size ns none = grind (arith, usual, zero-div, zero-mod)

-- a text that becomes whole when the chunks left are written
pub record IsBegun (f : List ℕ → List ℕ) (size : ℕ) (left : Chunks ℕ) (text whole : List ℕ) : Type 0 where
  pub each : chunks_size left ≡ size
  pub rest : text ++ flat_map f (chunks (chunks_rest left) size) ≡ whole

one_chunk : (f : List ℕ → List ℕ) (size : ℕ) (ns chunk after : List ℕ) → 0 < size
    → ns ≡ chunk ++ after → length chunk ≡ min size (length ns) → 0 < length ns
    → flat_map f (chunks ns size) ≡ f chunk ++ flat_map f (chunks after size)
one_chunk f size ns chunk after some cut len left =
    grind (arith, usual, take_min, take_at, drop_min, drop_at, chunks-next)

-- one more chunk is written
pub further : (f : List ℕ → List ℕ) (size : ℕ) (left after : Chunks ℕ) (chunk : Bor (List ℕ)) (text more whole : List ℕ)
    → 0 < size → chunks_steps left (Some chunk) after → more ≡ text ++ f chunk.now
    → IsBegun f size left text whole → IsBegun f size after more whole
further f size left after chunk text more whole some step grown begun = grind (arith, usual, one_chunk, append_assoc)

pub done : (f : List ℕ → List ℕ) (size : ℕ) (left after : Chunks ℕ) (text whole : List ℕ)
    → chunks_steps left None after → IsBegun f size left text whole → text ≡ whole
done f size left after text whole step begun = grind (arith, usual, append-nil, chunks-end)
