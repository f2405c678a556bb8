use Rattle.sand_c.proofs.Common.{exits_of, IsSend, AllSend, owning_send, struct_send, sendable, quiet}
use denote.Struct.Owning.{shape, fields, to}
use Rattle.sand_c.specs.contracts.owned_pass.OwnedPass.{the_row as Held}
use Rattle.sand_c.proofs.owned_pass.OwnedPass.TheSendSync.{the_send as held_send}
use Rattle.sand_c.specs.contracts.pass_handle.SandpilePass.{the_row, the_type}
use Rattle.sand_c.proofs.HandleSteps.{crosses}

pub send : IsSend the_row
send =
    let all : AllSend (fields the_type) = (search sendable, tt) in
    owning_send the_type all (λ d. crosses Held held_send d.at d.held)
    (λ k. quiet (to the_type) (exits_of k (fields the_type)) ((struct_send (shape the_type) all).leaving k))
