-- A client's session and its answer may go to another thread, in its seat.
use denote.RattleType.{RattleType}
use denote.Param.Send.{IsSend, sendable}
use Rattle.dy_dots.proofs.faults.Fault.TheSendSync as fault
use Rattle.dy_shares.specs.declared.names.Naming.{Ghosts}
use Rattle.dy_shares.proofs.Sent.{session_share_goes}
use Rattle.dy_clients.specs.contracts.seats.Seat as Seat
use Rattle.dy_clients.specs.declared.seats.Telling.{Ghosts as Tells}

pub seat_goes : (J T : RattleType) (name : Ghosts J.Denot) (tells : Tells T.Denot) →
    IsSend T → IsSend (Seat.the_row J T name tells)
seat_goes J T name tells goes =
    let share = session_share_goes J name in
    let refusal = fault.the_send in
    search sendable depth 20
