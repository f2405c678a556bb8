use Rattle.std.proofs.Common.{rules, arith, ◌≡◌, ℕ, ◌/◌, sum_by, length, Vec, Global}
use Rattle.std.proofs.lemmas.List.{take_all}
use Rattle.std.proofs.lemmas.List.Sums.{sum_by-take-drop, sum_by_more}
use Rattle.sand_model.specs.Sand.{occurrences}
use Rattle.sand_shared.specs.OpenPile.{receipts_for}
use Rattle.sand_race.proofs.race.+halves.Goals as goal

pub returns-then-lists-eq1-clause-by_site : goal.returns-then-lists-eq1-clause-by_site
returns-then-lists-eq1-clause-by_site g t c i =
    let one = sum_by_more (λ (l : Vec ℕ Global). occurrences l.items i) c.args.lists.now 0 c.index-lists-0.result in
    grind (arith, c.in_ok-drop_all.ensures.by_site i, take_all {A = Vec ℕ Global} 1 c.args.lists.now)

pub returns-in-Ok-clause-by_site : goal.returns-in-Ok-clause-by_site
returns-in-Ok-clause-by_site g t c i =
    let f : Vec ℕ Global → ℕ = λ l. occurrences l.items i in
    let right : receipts_for c.in_ok-other-2.field-0.receipts i ≡ sum_by f c.split_at.result.1.now = search rules in
    let both = sum_by-take-drop f c.args.lists.now (length c.args.lists.now / 2) in
    grind (arith, c.in-Ok.ensures.by_site i)
