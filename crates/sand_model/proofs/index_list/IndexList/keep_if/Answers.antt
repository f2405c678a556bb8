-- The position is inside the list, so the slot that is written is one that contracts see (`take-set-lt`).
use Rattle.sand_model.proofs.Common.{ℕ, List, ◌≡◌, ◌<◌, length, take, ◌∙◌, ap, arith, length-set, length-take}
use Rattle.std.proofs.Math.ListN.{set}
use Rattle.std.proofs.Math.Seq.{take-set-lt}
use Rattle.sand_model.specs.IndexLists.{ListView}
use Rattle.sand_model.proofs.index_list.IndexList.keep_if.Goals as goal

pub returns-clause-list : goal.returns-clause-list
returns-clause-list c =
    let slots = c.self.inside.slots.items in
    let len = c.self.inside.len in
    let long = ap (λ (v : ListView). length v.items) c.self.view_is in
    let before : c.args.position < len = omega (arith, long, length-take len slots, c.requires.inside) in
    let items : take len (set slots c.args.position c.args.index) ≡ set c.args.self.now.items c.args.position c.args.index =
    take-set-lt len slots c.args.position c.args.index before
    ∙ ap (λ (v : ListView). set v.items c.args.position c.args.index) c.self.view_is in
    let room : length (set slots c.args.position c.args.index) ≡ c.args.self.now.room =
    length-set slots c.args.position c.args.index ∙ ap (λ (v : ListView). v.room) c.self.view_is in
    ap (λ (xs : List ℕ). record { items = xs; room = length (set slots c.args.position c.args.index) }) items
    ∙ ap (λ (n : ℕ). record { items = set c.args.self.now.items c.args.position c.args.index; room = n }) room
