use Rattle.std.proofs.Common.{◌≡◌, ◌+◌, ◌<◌, ℕ, length, get_or}
use Rattle.sand_streams.specs.Streams.{site_at}
use Rattle.sand_c.proofs.streams.sandpile_sites.Given as goal

abbrev pub invariant-loop-site : goal.invariant-loop-site
invariant-loop-site l = record {
  reader : l.reader ≡ record l.initial.reader { read = l.from + l.site-index };
  len : length l.sites ≡ length l.initial.sites;
  drawn : (i : ℕ) → i < l.site-index
      → get_or l.sites i 0 ≡ site_at l.initial.reader.sites l.seed l.stream (l.from + i);
}
