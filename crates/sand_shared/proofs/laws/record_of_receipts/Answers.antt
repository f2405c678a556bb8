use Rattle.sand_shared.specs.OpenPile.{receipts_for}
use Rattle.sand_shared.proofs.Receipts.{record_of_drops}
use Rattle.sand_shared.proofs.laws.record_of_receipts.Goals as goal

pub returns : goal.returns
returns c = λ t p r is. record_of_drops t.start r (receipts_for p.receipts) is.one_threads is.start is.by_site
