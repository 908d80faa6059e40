use Rattle.std.proofs.Common.{subst, sym, IsTrue}
use Rattle.std.specs.FinSet as set
use Rattle.dy_siblings.specs.declared.versions.Version.{Version}
use Rattle.dy_core.specs.Worlds.{layout_of}
use Rattle.dy_book.specs.Books.{world_of}
use Rattle.dy_node.proofs.PlanCauses.{plan_by, plan_done, plan_full}
use Rattle.dy_node.proofs.Followed.{planned_follows}
use Rattle.dy_node.proofs.Kept.{counter_lacks, counter_left}
use Rattle.dy_node.proofs.beginning.plan_next.Goals as goal

-- the counters are all used
pub returns-in-Err-clause-refused : goal.returns-in-Err-clause-refused
returns-in-Err-clause-refused g c =
    plan_full c.args.book.now c.args.share.now.node c.args.key.now c.args.context.now
    (counter_lacks (layout_of g.J.Naming.ring g.J.Naming.n) c.args.book.now c.args.share.now
    c.args.stores.now c.args.key.now c.counter_limit-limit.result c.requires.agreed
    c.requires.shown c.counter_limit-limit.ensures.value c.in-Err.ensures.ok)

-- a counter is left, and the book plans no version
pub returns-in-Err-plan-clause-refused : goal.returns-in-Err-plan-clause-refused
returns-in-Err-plan-clause-refused g c =
    plan_by c.args.book.now c.args.share.now.node c.args.key.now c.args.context.now
    c.in-Err-plan.fault
    (counter_left (layout_of g.J.Naming.ring g.J.Naming.n) c.args.book.now c.args.share.now
    c.args.stores.now c.args.key.now c.counter_limit-limit.result c.requires.agreed
    c.requires.shown c.counter_limit-limit.ensures.value c.in-Ok.ensures.ok.0)
    c.in-Err-plan.ensures.context_unknown c.in-Err-plan.ensures.versions_full
    c.in-Err-plan.ensures.steps_full c.in-Err-plan.ensures.only

-- a counter is left, and the version is planned
pub returns-clause-refused : goal.returns-clause-refused
returns-clause-refused g c =
    plan_done c.args.book.now c.args.share.now.node c.args.key.now c.args.context.now
    c.in-Ok-plan.version
    (counter_left (layout_of g.J.Naming.ring g.J.Naming.n) c.args.book.now c.args.share.now
    c.args.stores.now c.args.key.now c.counter_limit-limit.result c.requires.agreed
    c.requires.shown c.counter_limit-limit.ensures.value c.in-Ok.ensures.ok.0)
    c.in-Ok-plan.ensures.context_unknown c.in-Ok-plan.ensures.versions_full
    c.in-Ok-plan.ensures.steps_full

-- no dot of the context is unknown, so the version follows each
pub returns-clause-follows : goal.returns-clause-follows
returns-clause-follows g c =
    subst (λ (v : Version). IsTrue (set.is_subset c.args.context.now v.past))
    (sym c.in-Ok-plan.ensures.ok)
    (planned_follows c.in-Ok-plan.version (world_of c.args.book.now).versions c.args.key.now
    c.args.context.now c.in-Ok-plan.ensures.context_unknown)
