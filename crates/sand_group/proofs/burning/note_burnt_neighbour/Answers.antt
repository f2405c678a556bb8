-- The site's number falls to its height only now, so it is not in the list yet, and the list has room (`lists_room`).
use Rattle.sand_group.proofs.Common.{◌≡◌, ◌-◌, slice_index, get_or, length, arith, lt-leb, get_or_read, get_or-set_same, lists_room, may_burn}
use Rattle.sand_group.proofs.burning.note_burnt_neighbour.Goals as goal

pub unwrap-requires : goal.unwrap-requires
unwrap-requires c =
    let inside = rw c.in-Some.is at c.requires.inside in
    let some = rw c.in-Some.is at c.requires.unburnt in
    let before : c.index_mut.result.now ≡ get_or c.args.unburnt.now.items c.in-Some.site 0 =
    get_or_read c.args.unburnt.now.items c.in-Some.site c.index_mut.result.now
    (omega (arith, inside, c.requires.len)) c.index_mut.ensures.value 0 in
    let now = get_or-set_same c.args.unburnt.now.items c.in-Some.site (c.index_mut.result.now - 1)
    c.index.result.now (omega (arith, inside, c.requires.len)) in
    let room = lists_room (length c.args.heights.now)
    (may_burn (slice_index c.args.heights.now) (slice_index c.args.unburnt.now.items))
    c.args.burnt.now.items c.in-Some.site c.requires.all inside
    (lt-leb (slice_index c.args.unburnt.now.items c.in-Some.site) (slice_index c.args.heights.now c.in-Some.site)
    (omega (arith, some, before, now, c.index.ensures, c.from.ensures, c.if-heights-site.true))) in
    c.push.ensures.succeeds (omega (arith, room, c.args.burnt.now.ok, c.requires.room))
