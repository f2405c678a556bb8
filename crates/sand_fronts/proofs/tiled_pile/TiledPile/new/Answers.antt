-- Each site has had just its height, at most 3, so no place is due or in a wave (`new_quiet`), and contracts see these
-- heights (`new_heights`).
use Rattle.sand_fronts.proofs.Common.{get_or, ◌∙◌, sym, arith, ap, Grid, sites, ListView, tiles, tile_of, place_of, heights_on, counted_on, tile_at, counts_of}
use Rattle.sand_fronts.proofs.OnTiles.{place_below}
use Rattle.sand_fronts.proofs.NewPiles.{new_quiet, new_heights, counts_no_site, by_site_at, by_site_none, by_site_view}
use Rattle.sand_fronts.proofs.tiled_pile.TiledPile.new.Goals as goal

pub invariant_of-result : goal.invariant_of-result
invariant_of-result c =
    let e = c.in_ok-board.ensures.shape in
    let n = c.tiles-n.ensures.value ∙ sym (ap tiles e) in
    let counts = c.in_ok-counts.ensures in
    record {
      board = c.in_ok-board.ensures.board;
      all_open = c.in_ok-board.ensures.all_open;
      sand = record {
        len = c.in_ok-tiles.ensures.len ∙ sym (ap tiles e);
        room = omega (arith, n, c.sites.ensures.value, ap sites e, ap (λ (l : ListView). l.room) c.in_ok-list.ensures);
      };
      quiet = new_quiet c.args.shape (λ j. get_or c.args.heights.now j 0) (tile_at c.in_ok-tiles.tiles.items)
          c.requires.low c.in_ok-tiles.ensures.heights;
      counts = record {
        whole_each = counts.len.0 ∙ n;
        len = counts.len.1 ∙ n;
        room = counts.room ∙ n;
        marks_each = counts.len.2 ∙ n;
        sound = counts.sound;
      };
      at_sites = counts_no_site c.in_ok-board.board.shape (counts_of c.in_ok-counts.counts) counts.none;
      unmarked = counts.unmarked;
    }

pub returns : goal.returns
returns c =
    let g = c.in_ok-board.board.shape in let e = c.in_ok-board.ensures.shape in
    let τ = tile_at c.in_ok-tiles.tiles.items in
    record {
      grid = e;
      by_site = by_site_view g (record { tiles = c.in_ok-tiles.tiles; list = c.in_ok-list.list }) c.in_ok-counts.counts;
      heights = λ j l. by_site_at g (heights_on g τ) j (omega (arith, ap sites e))
          ∙ ap (λ (h : Grid). heights_on h τ j) e
          ∙ new_heights c.args.shape (λ i. get_or c.args.heights.now i 0) τ j c.requires.low
          c.in_ok-tiles.ensures.heights l;
      none = by_site_none g (counted_on g (counts_of c.in_ok-counts.counts))
          (λ i l. c.in_ok-counts.ensures.none (tile_of g i) (place_of g i) (place_below g i));
    }
