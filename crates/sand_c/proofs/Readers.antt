-- What is lent of a driven pile may be read on any thread. (The toolchain does not show that of a pass, whose seat is only `Send`.)
use Rattle.sand_c.proofs.Common.{Option, Common, Ptr, lent_from}
use Rattle.sand_c.specs.contracts.drive.Drive.{the_row as Drive}
use Rattle.sand_c.proofs.drive.Drive.TheSendSync as drive
use Rattle.sand_c.proofs.LentSteps.{crosses_lent}

pub drive_crosses : (p : Ptr) (held : Option Drive.Denot) → Common (lent_from Drive p held)
drive_crosses = crosses_lent Drive drive.the_sync
