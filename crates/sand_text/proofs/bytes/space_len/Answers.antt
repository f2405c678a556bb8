use Rattle.sand_text.proofs.Common.{not, is_space}
use Rattle.sand_text.proofs.Cuts.{unwrap_position}
use Rattle.sand_text.proofs.bytes.space_len.Goals as goal

pub returns-clause-first : goal.returns-clause-first
returns-clause-first c = let e = unwrap_position (λ b. not (is_space b)) c.args.text.now in cc
