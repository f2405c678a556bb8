-- No site of a stable pile topples, so its odometer is 0 everywhere (`stable_record`).
use Rattle.sand_settle.proofs.Common.{◌∙◌, ap, replicate, sites, height_of, IsSettledRecord}
use Rattle.sand_settle.proofs.OneRecord.{some_record}
use Rattle.sand_settle.proofs.Records.{stable_record}
use Rattle.sand_settle.proofs.settled.Settled.of_stable.Goals.{In_ok-odometer}
use Rattle.sand_settle.proofs.settled.Settled.of_stable.Goals as goal

unchanged : (c : In_ok-odometer) → IsSettledRecord c.args.pile.now.grid (height_of c.args.pile.now) (record {
  pile = c.in-Ok.settled;
  odometer = c.in_ok-odometer.odometer.items;
  topplings = 0;
  lost = 0;
})
unchanged c =
    let zeros = c.in_ok-odometer.ensures.items_if_clones_equal (λ y e. e)
    ∙ ap (λ n. replicate n 0) (c.sites.ensures.value ∙ ap sites c.shape.ensures.value) in
    rw c.in-Ok.ensures.made (stable_record c.args.pile.now.grid c.args.pile.now.heights _
    c.shape.ensures.pile.len zeros c.requires)

pub invariant_of-result : goal.invariant_of-result
invariant_of-result c = some_record (unchanged (goal.at.invariant_of-result c).In_ok-odometer)

pub returns-clause-record : goal.returns-clause-record
returns-clause-record c = unchanged (goal.at.returns-clause-record c).In_ok-odometer
