use Rattle.sand_settle.proofs.OneRecord as proved
use Rattle.sand_settle.proofs.laws.one_record.Goals as goal

pub returns-clause-unique : goal.returns-clause-unique
returns-clause-unique c = proved.one_record

pub returns-clause-by_site : goal.returns-clause-by_site
returns-clause-by_site c = proved.record_by_site
