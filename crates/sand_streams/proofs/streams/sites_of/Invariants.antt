use Rattle.std.proofs.Common.{◌≡◌, ◌≤◌, vec_len, vec_capacity}
use Rattle.sand_model.specs.Grid.{sites}
use Rattle.sand_streams.specs.Streams.{stream_sites}
use Rattle.sand_streams.proofs.streams.sites_of.Given as goal

abbrev pub invariant-loop : goal.invariant-loop
invariant-loop l = record {
  reader : l.reader ≡ record { sites = sites l.fn.shape; seed = l.seed; stream = l.stream; read = l.counter };
  room : l.count ≤ vec_capacity l.read;
  len : vec_len l.read ≡ l.counter;
  items : l.read.items ≡ stream_sites (sites l.fn.shape) l.seed l.stream l.counter;
}
