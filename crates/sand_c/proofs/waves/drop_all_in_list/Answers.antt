-- The waves so far are those of the drops so far, and the next drop writes its own behind them (`waves_more`, `take_on`); what is
-- behind those stays (`drop_on`).
use Rattle.sand_c.proofs.Common.{ℕ, List, ◌++◌, take, get_or, ◌≡◌, ◌∙◌, length, sym, ap, subst, arith, take_more, take_more_set, length-append, length-set, drop-drop, most_to_edge, DrivenView, HasAvalanche, IsAfter, AreWaves, append_assoc, [], ◌∷◌}
use Rattle.std.proofs.Common.{drop}
use Rattle.sand_c.specs.declared.waves.SandpileWave.{SandpileWave}
use Rattle.sand_settle.proofs.Drops.{drops_push}
use Rattle.sand_c.proofs.WaveLists.{waves_more, take_on, drop_on}
use Rattle.sand_c.proofs.waves.drop_all_in_list.Goals as goal

pub loop-next-preserved : goal.loop-next-preserved
loop-next-preserved c =
    let i : ℕ = c.loop-next.next in
    let site : ℕ = get_or c.args.drops.now i 0 in
    let start : DrivenView = c.args.pile.now in let v : DrivenView = c.loop-next.pile in let w : DrivenView = c.drop_in_list-more.new.pile in
    let was = c.loop-next.invariant in
    let dropped = c.drop_in_list-more.ensures.dropped in
    let more = take_more c.args.drops.now i 0 c.loop-next-test.true in
    let count : ℕ = c.loop-next.count in let n : ℕ = c.drop_in_list-more.result.1 in
    let front : List SandpileWave = c.split_at_mut-rest.result.0.now in
    let rest : List SandpileWave = c.drop_in_list-more.new.waves in
    let front_len : length front ≡ count = c.split_at_mut-rest.ensures.front_len in
    let drops : List ℕ = take i c.args.drops.now in
    record {
      avalanches = rw (
        more,
        take_more_set c.loop-next.avalanches i c.drop_in_list-more.result.0
            (omega (arith, c.loop-next-test.true, was.avalanche_each)),
      )
          (drops_push HasAvalanche start v w drops (take i c.loop-next.avalanches) site c.drop_in_list-more.result.0 was.avalanches
          dropped.drops);
      waves = rw (more, take_on front rest count n front_len) (waves_more start v w drops front site (take n rest)
          (subst (λ l. AreWaves start drops l v) (sym c.split_at_mut-rest.ensures.front) was.waves)
          c.drop_in_list-more.ensures.waves);
      after = λ first history led. rw more (subst (λ (l : List ℕ). IsAfter first l w) (append_assoc history drops (site ∷ []))
          (dropped.after first (history ++ drops) (was.after first history led)));
      grid = dropped.drops.drops.settled.grid ∙ was.grid;
      grains = omega (arith, dropped.drops.drops.grains, was.grains);
      avalanche_each = length-set c.loop-next.avalanches i c.drop_in_list-more.result.0 ∙ was.avalanche_each;
      few = omega (arith, was.few, c.drop_in_list-more.ensures.few, ap (λ g. most_to_edge g) was.grid);
      rest = drop_on front rest count n front_len ∙ c.drop_in_list-more.ensures.rest
          ∙ ap (drop n) (c.split_at_mut-rest.ensures.back ∙ was.rest) ∙ drop-drop n count c.args.waves.now;
      len = omega (
        arith,
        length-append front rest,
        front_len,
        c.drop_in_list-more.ensures.len,
        c.split_at_mut-rest.ensures.back_len,
        was.len,
      );
      room = c.drop_in_list-more.ensures.sizes ∙ was.room;
    }
