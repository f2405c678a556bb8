-- The numbered streams of drop sites.
-- Source: ChaCha8 (Bernstein 2008) with a 64-bit stream number, as in `rand_chacha`; the layout of the seed is this
-- project's.
use Rattle.std.specs.Prelude.{ℕ, zero, suc, ◌+◌, ◌*◌, ◌%◌, ◌^◌, nat_le, if◌then◌else◌, List, [], ◌∷◌, ◌++◌, replicate}
use Rattle.std.specs.Int.{w64, to_le_bytes}
use Rattle.rand_chacha.specs.ChaCha.{word_at, key_of}

-- the seed's eight bytes, the low byte first, and 24 zeros
unfoldable pub key_bytes : ℕ → List ℕ
key_bytes seed = to_le_bytes w64 seed ++ replicate 24 0

unfoldable pub key_of_seed : ℕ → List ℕ
key_of_seed seed = key_of (key_bytes seed)

-- word n of a stream: four double rounds are ChaCha8
unfoldable pub stream_word : ℕ → ℕ → ℕ → ℕ
stream_word seed stream n = word_at 4 (key_of_seed seed) stream n

-- words 2n and 2n + 1 of a stream as one number, the low half first
unfoldable pub stream_pair : ℕ → ℕ → ℕ → ℕ
stream_pair seed stream n = stream_word seed stream (2 * n) + stream_word seed stream (2 * n + 1) * 2 ^ 32

-- how many words a site takes: one, of 32 bits, would favour some of more than 65,536 sites by more than 1 in 65,536
abbrev pub words_per_site : ℕ → ℕ
words_per_site sites = if nat_le sites 65536 then 1 else 2

-- site n of a stream, on a grid with `sites` sites
abbrev pub site_at : ℕ → ℕ → ℕ → ℕ → ℕ
site_at sites seed stream n = (if nat_le sites 65536 then stream_word seed stream n else stream_pair seed stream n) % sites

-- the first n sites of a stream
abbrev pub stream_sites : ℕ → ℕ → ℕ → ℕ → List ℕ
stream_sites sites seed stream zero = []
stream_sites sites seed stream (suc n) = stream_sites sites seed stream n ++ site_at sites seed stream n ∷ []

abbrev pub stream_of : ℕ → ℕ → ℕ
stream_of epoch dropper = epoch * 64 + dropper

-- what contracts see of a reader: the number of sites of the grid, the seed, the stream, and the place of the next site
pub record Reading : Type 0 where
  pub sites : ℕ
  pub seed : ℕ
  pub stream : ℕ
  pub read : ℕ
