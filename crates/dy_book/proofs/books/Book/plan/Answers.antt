use Rattle.std.proofs.Common.{rules, ◌≡◌, ◌+◌, ◌<◌, IfSome, sym, refl, ap, ◌∙◌, subst, arith}
use Rattle.std.specs.FinSet as set
use Rattle.dy_dots.specs.declared.dots.Dot.{Dot}
use Rattle.dy_core.specs.Worlds.{layout_of}
use Rattle.dy_core.specs.Steps.{version_made}
use Rattle.dy_core.specs.Listings.{IsLeastUnknown}
use Rattle.dy_core.specs.Logs.{IsLegal}
use Rattle.dy_core.proofs.OverLogs.{log_sound}
use Rattle.dy_shares.specs.Shares.{steps_of}
use Rattle.dy_book.specs.Books.{HasVersionsLeft, MayIssue, world_of}
use Rattle.dy_index.proofs.Issuing.{past_lacks_next}
use Rattle.dy_book.proofs.books.Book.plan.Goals as goal

-- the least dot that is not known, by the part
pub returns-in-Some-clause-context_unknown : goal.returns-in-Some-clause-context_unknown
returns-in-Some-clause-context_unknown g c =
    let least : IsLeastUnknown (world_of c.args.self.now).versions c.args.key.now
    c.args.context.now c.in-Some.dot =
    c.in-Some.ensures (steps_of c.args.self.now.log) c.args.key.now c.part-part.ensures in
    search rules

pub returns-in-Some-clause-versions_full : goal.returns-in-Some-clause-versions_full
returns-in-Some-clause-versions_full g c =
    let least : IsLeastUnknown (world_of c.args.self.now).versions c.args.key.now
    c.args.context.now c.in-Some.dot =
    c.in-Some.ensures (steps_of c.args.self.now.log) c.args.key.now c.part-part.ensures in
    search rules

pub returns-in-Some-clause-steps_full : goal.returns-in-Some-clause-steps_full
returns-in-Some-clause-steps_full g c =
    let least : IsLeastUnknown (world_of c.args.self.now).versions c.args.key.now
    c.args.context.now c.in-Some.dot =
    c.in-Some.ensures (steps_of c.args.self.now.log) c.args.key.now c.part-part.ensures in
    search rules

pub new-requires-2 : goal.new-requires-2
new-requires-2 g c =
    let layout = layout_of g.J.Naming.ring g.J.Naming.n in
    let legal = subst (λ b. IsLegal layout (steps_of b.log)) c.self.view_is
    c.self.invariant.legal in
    let w = world_of c.args.self.now in
    let known = c.in_default.ensures (steps_of c.args.self.now.log) c.args.key.now
    c.part-part.ensures in
    let dot_is = subst (λ r. IfSome r
    (λ (d : Dot). d ≡ record { node = c.node-node.result; counter = c.last.result + 1 }))
    c.unwrap-dot.ensures c.new.ensures.value
    ∙ (λ i. record {
      node = c.node-node.ensures.value i;
      counter =
          (c.last.ensures (steps_of c.args.self.now.log) c.args.key.now c.part-part.ensures
          ∙ (λ j. w.counters (c.node-node.ensures.value j) c.args.key.now)) i + 1;
    })
    in
    ap (λ s. set.contains s c.unwrap-dot.result)
    (c.in-Ok.ensures.ok (steps_of c.args.self.now.log) c.args.key.now c.part-part.ensures known)
    ∙ past_lacks_next layout w (log_sound layout (steps_of c.args.self.now.log) legal)
    c.args.share.now.node c.args.key.now c.args.context.now c.unwrap-dot.result dot_is

pub returns-in-Ok-new-clause-may : goal.returns-in-Ok-new-clause-may
returns-in-Ok-new-clause-may g c =
    let w = world_of c.args.self.now in
    let steps = steps_of c.args.self.now.log in
    let known = c.in_default.ensures steps c.args.key.now c.part-part.ensures in
    let dot_is = subst (λ r. IfSome r
    (λ (d : Dot). d ≡ record { node = c.node-node.result; counter = c.last.result + 1 }))
    c.unwrap-dot.ensures c.new.ensures.value
    ∙ (λ i. record {
      node = c.node-node.ensures.value i;
      counter =
          (c.last.ensures (steps_of c.args.self.now.log) c.args.key.now c.part-part.ensures
          ∙ (λ j. w.counters (c.node-node.ensures.value j) c.args.key.now)) i + 1;
    })
    in
    let is : c.in-Ok-new.version ≡ version_made w c.args.share.now.node c.args.key.now
    c.args.context.now c.args.value =
    c.in-Ok-new.ensures.value
    ∙ (λ i. record {
      key = c.in-Ok-own_copy.ensures.value i;
      dot = dot_is i;
      past = c.in-Ok.ensures.ok steps c.args.key.now c.part-part.ensures known i;
      value = c.args.value;
    }) in
    let left = subst (λ n. n < c.self.inside.options.versions_limit) c.self.invariant.versions_are
    c.if-self.false in
    subst (MayIssue c.args.self.now c.args.share.now.node) (sym is)
    (record {
      next = record { context = c.args.context.now; known = known; is_made = refl };
      counter_left = c.requires.room;
      versions_left = subst HasVersionsLeft c.self.view_is left;
      room = omega (arith, c.steps_left.ensures, c.if-steps_left-lt2.false);
    })
