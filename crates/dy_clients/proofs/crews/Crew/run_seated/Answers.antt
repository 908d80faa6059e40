use denote.Param.{param}
use denote.Param.Send.{IsSend, sendable}
use Rattle.dy_clients.proofs.Sent.{seat_goes}
use Rattle.dy_clients.proofs.crews.Crew.run_seated.Goals as goal

-- a client's session may go to its thread, in its seat
pub run_staffed-is_staffed-requires-send-S : goal.run_staffed-is_staffed-requires-send-S
run_staffed-is_staffed-requires-send-S g c κs within =
    let other : IsSend (param 5 g.row.T) = search sendable in
    let seat = seat_goes (param 4 g.row.J) (param 5 g.row.T) g.J.Naming g.T.Telling other in
    search sendable

pub run_beside-requires-send-S : goal.run_beside-requires-send-S
run_beside-requires-send-S g c κs within =
    let other : IsSend (param 5 g.row.T) = search sendable in
    let seat = seat_goes (param 4 g.row.J) (param 5 g.row.T) g.J.Naming g.T.Telling other in
    search sendable
