use Rattle.sand_settle.proofs.Common.{◌≤◌, ◌*◌, ◌+◌, ◌-◌, ℕ, ap, arith, sym, columns_apart}
use Rattle.std.specs.Int.{abs_diff}
use Rattle.sand_settle.proofs.NearSites.{apart, placed}
use Rattle.sand_settle.proofs.near.sites_near.Goals as goal

pub returns-then-reach-rows-clause-near : goal.returns-then-reach-rows-clause-near
returns-then-reach-rows-clause-near c = λ i at near.
    let far = apart c.args.shape c.args.site i c.args.y c.args.reach at near in
    let here = ap (λ (p : ℕ × ℕ). p.1) c.place-column.ensures in
    let rows = ap (abs_diff c.args.y) here in
    absurd (omega arith)

pub returns-clause-near : goal.returns-clause-near
returns-clause-near c = λ i at near.
    let far = apart c.args.shape c.args.site i c.args.y c.args.reach at near in
    let here = ap (λ (p : ℕ × ℕ). p.1) c.place-column.ensures in
    let there = ap (λ (p : ℕ × ℕ). p.0) c.place-column.ensures in
    let rows = ap (abs_diff c.args.y) here in
    let across : columns_apart c.args.shape c.args.site i ≤ c.args.reach - c.abs_diff-rows.result = omega arith in
    let columns = c.columns_near-from.ensures.near c.args.site i (sym there) across in
    let begin = ap (λ w. c.args.y * w) c.width.ensures.value in
    placed c.args.shape i c.args.y c.columns_near-from.result.0 c.columns_near-from.result.1 _ _ at
    (ap (λ n. n + c.columns_near-from.result.0) begin) (ap (λ n. n + c.columns_near-from.result.1) begin) columns.0 columns.1
