-- A drop has no more waves than its site is far from the nearest open edge, so there is room for all sizes (`few_waves`), and
-- for all waves (`waves_of_drop`).
use Rattle.sand_c.proofs.Common.{◌≡◌, ◌≤◌, ℕ, length, take, sym, subst, arith, Result, IfOk, most_to_edge, Avalanche, grid_of_driven}
use Rattle.sand_settle.specs.Waves.{HasDropped, HasDroppedInWaves}
use Rattle.sand_settle.specs.declared.faults.OneFault.{OneFault}
use Rattle.sand_c.proofs.WaveLists.{few_waves, sizes_each, is_written}
use Rattle.sand_c.proofs.waves.drop_in_list.Goals.{After-unwrap-number}
use Rattle.sand_c.proofs.waves.drop_in_list.Goals as goal

has : (c : After-unwrap-number) → HasDroppedInWaves c.args.pile.now c.args.site c.unwrap-number.result.2 c.unwrap-number.result.1
    c.args.sizes.now c.drop_with_waves.new.sizes c.drop_with_waves.new.self
has c = subst (λ (r : Result (ℕ × Avalanche × ℕ) OneFault). IfOk r (λ q.
    HasDroppedInWaves c.args.pile.now c.args.site q.2 q.1 c.args.sizes.now c.drop_with_waves.new.sizes
    c.drop_with_waves.new.self)) c.unwrap-number.ensures c.drop_with_waves.ensures.waves

dropped : (c : After-unwrap-number) → HasDropped c.args.pile.now c.args.site c.unwrap-number.result.0 c.unwrap-number.result.1
    c.drop_with_waves.new.self
dropped c = subst (λ (r : Result (ℕ × Avalanche × ℕ) OneFault). IfOk r (λ q.
    HasDropped c.args.pile.now c.args.site q.0 q.1 c.drop_with_waves.new.self)) c.unwrap-number.ensures
    c.drop_with_waves.ensures.dropped

few : (c : After-unwrap-number) → c.unwrap-number.result.2 ≤ most_to_edge (grid_of_driven c.args.pile.now)
few c = few_waves (has c) c.requires.site

each : (c : After-unwrap-number) → length (take c.unwrap-number.result.2 c.drop_with_waves.new.sizes) ≡ c.unwrap-number.result.2
each c = sizes_each (has c) c.requires.site c.requires.sizes

pub slice_bounds-write_waves-end : goal.slice_bounds-write_waves-end
slice_bounds-write_waves-end c =
    let at = (goal.at.slice_bounds-write_waves-end c).After-unwrap-number in
    omega (arith, (has at).waves.written.len, few at, c.requires.sizes)

pub slice_bounds-write_waves-end-2 : goal.slice_bounds-write_waves-end-2
slice_bounds-write_waves-end-2 c = sym (each (goal.at.slice_bounds-write_waves-end-2 c).After-unwrap-number)

pub write_waves-requires : goal.write_waves-requires
write_waves-requires c =
    let at = (goal.at.write_waves-requires c).After-unwrap-number in omega (arith, each at, few at, c.requires.waves)

pub returns-clause-waves : goal.returns-clause-waves
returns-clause-waves c =
    let at = (goal.at.returns-clause-waves c).After-unwrap-number in
    (is_written (has at) c.requires.site c.requires.sizes (dropped at) c.write_waves.ensures).waves

pub returns-clause-few : goal.returns-clause-few
returns-clause-few c = few (goal.at.returns-clause-few c).After-unwrap-number

pub returns-clause-rest : goal.returns-clause-rest
returns-clause-rest c =
    let at = (goal.at.returns-clause-rest c).After-unwrap-number in
    (is_written (has at) c.requires.site c.requires.sizes (dropped at) c.write_waves.ensures).rest
