use Rattle.sand_shared.proofs.Receipts.{receipts_by_site, receipts_for-append}
use Rattle.sand_shared.proofs.laws.receipts_by_site.Goals as goal

pub returns-clause-consecutive : goal.returns-clause-consecutive
returns-clause-consecutive c = receipts_by_site

pub returns-clause-together : goal.returns-clause-together
returns-clause-together c = receipts_for-append
