-- The log, what is counted of it, its acks and the seat of the roll grow alike, by the same entries.
use Rattle.std.proofs.Common.{arith, ◌≡◌, List, ◌+◌, ◌<◌, ◌++◌, ◌∷◌, [], slice_set, length, drop, rules, sym, ap, ◌∙◌, subst}
use Rattle.std.specs.Prelude.{MatchOption}
use Rattle.std.proofs.lemmas.List.{append-nil}
use Rattle.dy_core.specs.Worlds.{layout_of}
use Rattle.dy_core.specs.Logs.{IsLegalFrom, world_after}
use Rattle.dy_core.specs.declared.acks.Acked.{Acked}
use Rattle.dy_shares.specs.declared.entries.Entry.{Entry}
use Rattle.dy_shares.specs.declared.entries.Done.{Done}
use Rattle.dy_shares.specs.Shares.{acks_of, steps_of, Account, AreOwned}
use Rattle.dy_shares.specs.inside.Parts.{entries_of, held, numbered, IsLedger, IsPartOf}
use Rattle.dy_shares.specs.Trails.{AreKept}
use Rattle.dy_shares.proofs.Keeping.{kept_grown}
use Rattle.dy_shares.proofs.Rolls.{roll_means}
use Rattle.dy_shares.proofs.Accounts.{added_are, ledger_grown, seat_part, without_ack}
use Rattle.dy_shares.specs.inside.Agreeing.{IsOut}
use Rattle.dy_shares.proofs.Returning.{numbered_out}
use Rattle.dy_shares.proofs.ledgers.Ledger.append.Goals as goal
use Rattle.dy_shares.proofs.ledgers.Ledger.append.Goals.{in-Some, in_default}

-- the share agrees with its seat of the roll
pub returns-in_err-reserve-clause-belongs : goal.returns-in_err-reserve-clause-belongs
returns-in_err-reserve-clause-belongs g c =
    let l = c.self.inside in
    let layout = layout_of g.J.Naming.ring g.J.Naming.n in
    subst (λ a. IsPartOf g.J.Naming.ring.nodes layout a c.args.share.now) c.self.view_is
    (seat_part g.J.Naming.ring.nodes layout l.steps l.acks.items l.sessions l.chronicle l.roll c.self.invariant.1 c.args.share.now.index c.args.share.now.part c.compare.ensures.agree)

pub returns-in-Err-clause-belongs : goal.returns-in-Err-clause-belongs
returns-in-Err-clause-belongs g c =
    let l = c.self.inside in
    let layout = layout_of g.J.Naming.ring g.J.Naming.n in
    subst (λ a. IsPartOf g.J.Naming.ring.nodes layout a c.args.share.now) c.self.view_is
    (seat_part g.J.Naming.ring.nodes layout l.steps l.acks.items l.sessions l.chronicle l.roll c.self.invariant.1 c.args.share.now.index c.args.share.now.part c.compare.ensures.agree)

pub returns-clause-belongs : goal.returns-clause-belongs
returns-clause-belongs g c =
    let l = c.self.inside in
    let layout = layout_of g.J.Naming.ring g.J.Naming.n in
    subst (λ a. IsPartOf g.J.Naming.ring.nodes layout a c.args.share.now) c.self.view_is
    (seat_part g.J.Naming.ring.nodes layout l.steps l.acks.items l.sessions l.chronicle l.roll c.self.invariant.1 c.args.share.now.index c.args.share.now.part c.compare.ensures.agree)

-- what comes to the log has numbers
pub grow-requires : goal.grow-requires
grow-requires g c = subst IsOut (sym c.added-added.ensures) (numbered_out (c.self.inside.steps + 1) _ (omega arith))

-- the share has done these steps more
pub returns-clause-share : goal.returns-clause-share
returns-clause-share g c =
    let l = c.self.inside in
    let ss = c.args.steps.now in
    let k = c.args.share.now.index in
    let own = c.args.share.now.part in
    let told : c.write.new.chronicle ≡ l.chronicle ++ entries_of c.args.told ss = c.in-Ok.ensures.log in
    let same = c.compare.ensures.same.1 in
    let added : c.added-added.result ≡ numbered (length l.chronicle + 1) ss =
    c.added-added.ensures
    ∙ (ap (λ (es : List Entry). numbered (l.steps + 1) (steps_of (drop l.steps es))) told
    ∙ added_are l.chronicle c.args.told ss l.steps c.self.invariant.1.counted) in
    c.grow.ensures.share
    ∙ ((λ j. held (same j).index ((same j).part ++ added j))
    ∙ ap (λ (a : Account). held k (own ++ numbered (length a.log + 1) ss)) c.self.view_is)

-- log, count, acks and roll grow alike
pub invariant_of-self-2 : goal.invariant_of-self-2
invariant_of-self-2 g c =
    let l = c.self.inside in
    let i = c.self.invariant in
    let nodes = g.J.Naming.ring.nodes in
    let layout = layout_of g.J.Naming.ring g.J.Naming.n in
    let k = c.args.share.now.index in
    let own = c.args.share.now.part in
    let ss = c.args.steps.now in
    let es = entries_of c.args.told ss in
    let within = (roll_means nodes l.chronicle (nodes + l.sessions) l.roll k own i.1.roll_is c.compare.ensures.agree).0 in
    let within_now = subst (λ a. k < nodes + a.sessions) c.self.view_is within in
    let owned = subst (λ a. AreOwned nodes a.sessions es) (sym c.self.view_is) (c.requires.owned within_now) in
    let allowed = subst (λ a. IsLegalFrom layout (world_after (steps_of a.log)) ss) (sym c.self.view_is) c.requires.allowed in
    let told : c.write.new.chronicle ≡ l.chronicle ++ es = c.in-Ok.ensures.log in
    let same = c.compare.ensures.same.1 in
    let added : c.added-added.result ≡ numbered (length l.chronicle + 1) ss =
    c.added-added.ensures
    ∙ (ap (λ (es : List Entry). numbered (l.steps + 1) (steps_of (drop l.steps es))) told
    ∙ added_are l.chronicle c.args.told ss l.steps i.1.counted) in
    let roll : c.grow.new.self ≡ slice_set l.roll k (own ++ numbered (length l.chronicle + 1) ss) =
    c.grow.ensures.roll ∙ (λ j. slice_set (c.compare.ensures.same.0 j) (same j).index ((same j).part ++ added j)) in
    let count : c.in-Ok.total ≡ l.steps + length ss = c.in-Ok.ensures.count in
    let more = c.in-Ok.ensures.kept in
    let kept = subst (λ (xs : List Entry). AreKept c.write.new.trail.items (steps_of xs)) (sym told)
    (kept_grown l.trail.items more.0 c.write.new.trail.items l.chronicle c.args.told ss more.1 i.0.1 more.2) in
    let grown : (new : List Acked) → l.acks.items ++ acks_of ss ≡ new → IsLedger nodes layout c.in-Ok.total new l.sessions c.write.new.chronicle c.grow.new.self = λ new acked.
    subst (λ n. IsLedger nodes layout n new l.sessions c.write.new.chronicle c.grow.new.self) (sym count)
    (subst (λ (es : List Entry). IsLedger nodes layout (l.steps + length ss) new l.sessions es c.grow.new.self) (sym told)
    (subst (λ (parts : List (List Done)). IsLedger nodes layout (l.steps + length ss) new l.sessions (l.chronicle ++ es) parts) (sym roll)
    (ledger_grown nodes layout l.steps l.acks.items l.sessions l.chronicle l.roll i.1 c.args.told ss new k own acked c.compare.ensures.agree c.requires.seat owned allowed))) in
    elim c.match-ack-3.branch [
      | in-Some w ↦
          let one : acks_of ss ≡ w.in-Some.ack ∷ [] = subst (λ o. MatchOption o (acks_of ss ≡ []) (λ a. acks_of ss ≡ a ∷ [])) w.in-Some.is c.requires.ack in
          let pushed : w.push_reserved.new.self.items ≡ l.acks.items ++ w.in-Some.ack ∷ [] = search rules in
          subst (λ s. ((s.nodes ≡ nodes) × AreKept s.trail.items (steps_of s.chronicle)) × IsLedger nodes layout c.in-Ok.total s.acks.items s.sessions s.chronicle s.roll) (sym w.self-inside-is)
          ((i.0.0, kept), grown w.push_reserved.new.self.items (ap (λ xs. l.acks.items ++ xs) one ∙ sym pushed))
      | in_default w ↦
          let none = without_ack c.args.ack (acks_of ss) c.requires.ack w.in_default.not-Some in
          subst (λ s. ((s.nodes ≡ nodes) × AreKept s.trail.items (steps_of s.chronicle)) × IsLedger nodes layout c.in-Ok.total s.acks.items s.sessions s.chronicle s.roll) (sym w.self-inside-is)
          ((i.0.0, kept), grown c.reserve.new.self.items (ap (λ xs. l.acks.items ++ xs) none ∙ (append-nil l.acks.items ∙ sym c.reserve.ensures.items)))
    ]
