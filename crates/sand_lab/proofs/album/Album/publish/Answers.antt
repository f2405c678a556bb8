use Rattle.sand_lab.proofs.Common.{◌≡◌, ℕ, List, length, slice_get, option_map, sym, ap, ◌∙◌, length-map, slice_get-map, slice_get_read}
use Rattle.once_cell.specs.Once.{cell_name}
use Rattle.sand_lab.proofs.album.Album.publish.Goals as goal

pub returns-in-Ok-set_as-clause-place : goal.returns-in-Ok-set_as-clause-place
returns-in-Ok-set_as-clause-place c =
    let album = c.args.self.now in
    let k = c.args.k in
    let cells = c.self.inside.places.items in
    let long : length album ≡ length cells =
    ap (λ (names : List ℕ). length names) (sym c.self.view_is) ∙ length-map cells cell_name in
    let cell = slice_get_read cells (length album) k c.index-place.result.now long c.requires c.index-place.ensures in
    rw (c.set_as.ensures.cell, c.note-note.ensures.0)
    (ap (λ (names : List ℕ). slice_get names k) (sym c.self.view_is) ∙ slice_get-map cell_name cells k
    ∙ ap (option_map cell_name) cell)
