use Rattle.std.proofs.Common.{arith, ℕ, ◌+◌, List, [], ◌∷◌, length, refl, ap, ◌∙◌, length-append}
use Rattle.sand_lab.proofs.OneTurnMore.{reads_one}
use Rattle.sand_lab.proofs.droppers.Dropper.read_next.Goals as goal

pub drop_batch-requires : goal.drop_batch-requires
drop_batch-requires c =
    let given = c.requires.dropping in
    record {
      turns = c.args.turns;
      read = given.read + 1;
      first = given.first;
      dropping = reads_one c.args.pile.now c.args.turns given.read given.first c.args.self.now _ c.next_site.result
          given.dropping given.more refl refl refl c.next_site.ensures.read c.push_reserved.ensures.items
          c.push_reserved.ensures.capacity c.next_site.ensures.site c.next_site.ensures.inside;
    }

pub returns-then-len-most-clause-read : goal.returns-then-len-most-clause-read
returns-then-len-most-clause-read c read first more h =
    c.drop_batch.ensures.dropped c.args.turns (read + 1) first
    (reads_one c.args.pile.now c.args.turns read first c.args.self.now _ c.next_site.result
    h more refl refl refl c.next_site.ensures.read c.push_reserved.ensures.items
    c.push_reserved.ensures.capacity c.next_site.ensures.site c.next_site.ensures.inside)

pub returns-then-len-most-clause-bound : goal.returns-then-len-most-clause-bound
returns-then-len-most-clause-bound c =
    let was = c.requires.bound in
    omega (arith, was, ap (λ (xs : List ℕ). length xs) c.drop_batch.ensures.all)

pub returns-else-len-most-clause-read : goal.returns-else-len-most-clause-read
returns-else-len-most-clause-read c read first more h =
    reads_one c.args.pile.now c.args.turns read first c.args.self.now _ c.next_site.result
    h more refl refl refl c.next_site.ensures.read c.push_reserved.ensures.items
    c.push_reserved.ensures.capacity c.next_site.ensures.site c.next_site.ensures.inside

pub returns-else-len-most-clause-bound : goal.returns-else-len-most-clause-bound
returns-else-len-most-clause-bound c =
    let was = c.requires.bound in
    let other = c.if-len-most.false in
    let long = c.len.ensures in
    let most = c.batch_size-most.ensures in
    let longer = ap (λ (xs : List ℕ). length xs) c.push_reserved.ensures.items
    ∙ length-append c.args.self.now.batch.items (c.next_site.result ∷ []) in
    omega (arith, was, other, long, most, longer)
