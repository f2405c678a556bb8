-- A tile without a list has nothing spilled.
use Rattle.sand_fronts.proofs.Common.{ℕ, List, [], ◌+◌, ◌-◌, ◌≤◌, ◌∙◌, ap, arith, rules, length, slice_index, get_or_read, get_or-replicate, get_or-eq_default, times, no_recent}
use Rattle.sand_tiles.specs.declared.counting.Recent.{Recent}
use Rattle.sand_fronts.proofs.counts.Counts.eight_times.Goals as goal

pub returns-else-k-len : goal.returns-else-k-len
returns-else-k-len c i few =
    let counts = c.args.self.now in
    let place = c.args.place + i in
    let past : length counts.spilled.items ≤ c.args.k = search rules in
    let none = ap (λ (xs : List ℕ). slice_index xs place) (get_or-eq_default counts.spilled.items [] {n = c.args.k} past) in
    let whole = get_or_read counts.whole.items c.args.k _ c.requires.tile.1 c.index-2.ensures 0 in
    let recent = get_or_read counts.each.items c.args.k _ c.requires.tile.0 c.index.ensures no_recent in
    let latest = c.eight_times-times.ensures i few ∙ ap (λ (r : Recent). times r.planes place) recent in
    let all = get_or-replicate {A = ℕ} 8 (0 + (i - 0)) c.index-2.result.now 0 (omega arith) in
    omega (arith, c.add_between.ensures.added i (omega arith) few, all, latest, whole, none)
