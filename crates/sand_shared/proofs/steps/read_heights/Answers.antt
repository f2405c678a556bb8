use Rattle.sand_shared.proofs.Common.{◌+◌, [], ◌∷◌, length, arith, ap, ◌∙◌, length-append, common_steps}
use Rattle.std.specs.Mem.Slots.{slots_items}
use Rattle.sand_shared.proofs.StepsAreEvents.{some_there}
use Rattle.sand_shared.proofs.steps.read_heights.Goals as goal

pub loop-site-preserved : goal.loop-site-preserved
loop-site-preserved c =
    let inv = c.loop-site.invariant in
    let items = c.push_reserved.ensures.items in
    let ws = slots_items c.args.closed.now.words in
    let xs = c.loop-site.heights.items in
    let a = c.word.result in
    let i = c.loop-site.site in
    record {
      len = ap (λ l. length l) items ∙ omega (arith, length-append xs (a ∷ []));
      room = omega (arith, c.push_reserved.ensures.capacity, inv.room);
      read = λ k l. (let value = some_there ws (i + 2) a 0 c.word.ensures in
          grind (arith, common_steps, items, inv.len, inv.read k, value));
    }
