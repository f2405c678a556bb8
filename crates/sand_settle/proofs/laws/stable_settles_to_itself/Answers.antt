use Rattle.sand_settle.proofs.OneRecord.{stable_is_settled, record_of_stable}
use Rattle.sand_settle.proofs.laws.stable_settles_to_itself.Goals as goal

pub returns-clause-settled : goal.returns-clause-settled
returns-clause-settled c = stable_is_settled

pub returns-clause-record : goal.returns-clause-record
returns-clause-record c = record_of_stable
