use Rattle.sand_certify.proofs.TightIfBurning.{tight_if_burning}
use Rattle.sand_certify.proofs.laws.tight_if_burning.Goals as goal

pub returns : goal.returns
returns c = tight_if_burning
