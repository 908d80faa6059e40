use Rattle.std.proofs.Common.{◌≡◌, length, rules, ap, ◌∙◌}
use Rattle.dy_shares.specs.Shares.{SessionPart, steps_of}
use Rattle.dy_shares.specs.inside.Parts.{done_acks}
use Rattle.dy_shares.proofs.Sessions.{spent_each}
use Rattle.dy_shares.proofs.session_shares.SessionShare.acks.Goals as goal

-- for each ack something was spent
pub returns : goal.returns
returns g c =
    let s = c.self.inside in
    let count = spent_each (steps_of s.front) (done_acks s.share.part) s.spent.items c.self.invariant.0.spent_are in
    let len : c.len.result ≡ length s.spent.items = search rules in
    len ∙ (count ∙ ap (λ (p : SessionPart). length p.acks) c.self.view_is)
