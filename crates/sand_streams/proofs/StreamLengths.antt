-- The first n sites of a stream are n sites.
use Rattle.std.proofs.Common.{ℕ, zero, suc, ◌≡◌, [], ◌∷◌, length, refl, arith, length-append}
use Rattle.sand_streams.specs.Streams.{site_at, stream_sites}

pub length-stream_sites : (sites seed stream n : ℕ) → length (stream_sites sites seed stream n) ≡ n
length-stream_sites sites seed stream zero = refl
length-stream_sites sites seed stream (suc n) =
    let rest = length-stream_sites sites seed stream n in
    let one = length-append (stream_sites sites seed stream n) (site_at sites seed stream n ∷ []) in omega arith
