-- A session's share may go to another thread. What is seen of its receipts has no bytes, so all of
-- its fields may; they are named one by one, since a search that goes down through them runs out of
-- steps.
use denote.RattleType.{RattleType}
use denote.Builtin.{usize}
use denote.Param.Send.{AllSend, IsSend, sendable}
use denote.Struct.Declared as declared
use Rattle.std.proofs.Crossing.{crosses, Vec-send}
use Rattle.dy_shares.specs.declared.names.Naming.{Ghosts}
use Rattle.dy_shares.specs.contracts.session_shares.Get as Get
use Rattle.dy_shares.specs.contracts.session_shares.SessionShare as SessionShare
use Rattle.dy_shares.specs.contracts.session_shares.Spent as Spent
use Rattle.dy_shares.specs.contracts.step_numbers.StepNumbers as Numbers
use Rattle.dy_shares.proofs.chronicles.Front.TheSendSync as front
use Rattle.dy_shares.proofs.parts.Share.TheSendSync as share

pub session_share_goes : (J : RattleType) (name : Ghosts J.Denot) → IsSend (SessionShare.the_row J name)
session_share_goes J name =
    let seat = share.the_send J name in
    let log = front.the_send J name in
    let one : IsSend (Spent.the_row J name) = search (sendable, crosses) depth 20 in
    let spent = Vec-send (Spent.the_row J name) one in
    let told : IsSend (Get.the_row J name) = search (sendable, crosses) depth 20 in
    let gets = Vec-send (Get.the_row J name) told in
    let numbers : IsSend (Numbers.the_field).row = search (sendable, crosses) depth 20 in
    let number : IsSend usize = search sendable depth 20 in
    let fields : AllSend (declared.shape (SessionShare.TheInside.the_type J name)).fields = (number, (seat, (spent, (gets, (numbers, (number, (log, tt))))))) in
    search sendable depth 20
