-- With open edges no tile is at a seam, so the number of tiles in a row tells all four neighbours (`beside_open`).
use Rattle.sand_fronts.proofs.Common.{◌∙◌, ap, open_beside, beside_at, IsOpenRow}
use Rattle.sand_fronts.proofs.Boards.{beside_open}
use Rattle.sand_fronts.proofs.board.Board.beside.Goals as goal

pub returns-in-Some : goal.returns-in-Some
returns-in-Some c =
    let known : IsOpenRow c.args.self.now.shape c.in-Some.row = rw c.in-Some.is at c.requires.row in
    c.open_sides.ensures ∙ ap (λ row. open_beside row c.args.k) known.len
    ∙ beside_open c.args.self.now.shape c.args.k (beside_at c.args.self.now.beside.items c.args.k)
    known.open_edge c.requires.tile.each
