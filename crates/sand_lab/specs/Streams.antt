-- The numbered streams of drop sites, under the names that users of this crate know.
unfoldable pub use Rattle.sand_streams.specs.Streams.{key_bytes, key_of_seed, stream_word, stream_pair}
pub use Rattle.sand_streams.specs.Streams.{site_at, stream_sites, stream_of, words_per_site, Reading}
