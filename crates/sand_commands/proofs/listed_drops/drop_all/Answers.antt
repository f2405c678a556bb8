use Rattle.sand_commands.proofs.Common.{◌≡◌, ◌∙◌, ◌+◌, ◌++◌, ◌∷◌, [], ℕ, List, if◌then◌else◌, ap, arith, length, take, get_or, length-take-le, take_more}
use Rattle.sand_commands.proofs.Rows.{noted_push}
use Rattle.sand_commands.proofs.listed_drops.drop_all.Goals as goal

pub note-requires : goal.note-requires
note-requires c = λ is.
    omega (arith, c.loop-site.invariant.len is, c.loop-site.invariant.room is, c.loop-site-test.true)

pub loop-site-preserved : goal.loop-site-preserved
loop-site-preserved c =
    let site : ℕ = get_or c.args.drops.now c.loop-site.site-index 0 in
    let before : List ℕ = take c.loop-site.site-index c.args.drops.now in
    let more = take_more c.args.drops.now c.loop-site.site-index 0 c.loop-site-test.true in
    let long : length before ≡ c.loop-site.site-index =
    length-take-le c.loop-site.site-index c.args.drops.now (omega arith) in
    let number : c.loop-site.pile.number ≡ c.args.pile.now.number + length before =
    omega (arith, c.loop-site.invariant.number, long) in
    let row : c.note.new.rows.items ≡ (if c.args.alone
    then c.loop-site.rows.items
    else c.loop-site.rows.items ++ (c.loop-site.pile.number, c.in_ok-row.row.1) ∷ []) =
    c.note.ensures.rows ∙ ap
    (λ (n : ℕ). if c.args.alone then c.loop-site.rows.items else c.loop-site.rows.items ++ (n, c.in_ok-row.row.1) ∷ [])
    c.in_ok-row.ensures.number in
    let noted = noted_push c.args.alone c.args.pile.now c.loop-site.pile c.drop_at.new.self
    before c.loop-site.rows.items c.note.new.rows.items site c.in_ok-row.row.1 number
    c.loop-site.invariant.rows c.in_ok-row.ensures.drops c.in_ok-row.ensures.avalanche row in
    record {
      rows = rw more noted;
      after = λ start first. rw more (c.in_ok-row.ensures.after start before (c.loop-site.invariant.after start first));
      grid = c.in_ok-row.ensures.drops.settled.grid ∙ c.loop-site.invariant.grid;
      number = omega (arith, c.in_ok-row.ensures.drops.number, c.loop-site.invariant.number);
      grains = omega (arith, c.in_ok-row.ensures.drops.grains, c.loop-site.invariant.grains);
      len = λ is. omega (arith, c.note.ensures.len is, c.loop-site.invariant.len is);
      room = λ is. c.note.ensures.room ∙ c.loop-site.invariant.room is;
    }
