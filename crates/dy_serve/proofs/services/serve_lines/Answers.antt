-- one more line is answered behind those before it
use Rattle.std.proofs.Common.{◌++◌, ◌∙◌, [], ap, arith, refl, rules}
use Rattle.std.proofs.KnownBytes.{Appends-nil, Appends-trans, Consumes-nil}
use Rattle.std.proofs.lemmas.List.Elements.{All-nil}
use Rattle.dy_cluster.specs.Settings.{setting}
use Rattle.dy_serve.proofs.LineByLine.{meets_in, serves_here, serves_line}
use Rattle.dy_serve.proofs.Lines as lines
use Rattle.dy_serve.proofs.services.serve_lines.Goals as goal

pub loop-init : goal.loop-init
loop-init g c =
    record {
      iterator = search rules;
      together = c.requires.together;
      cluster = refl;
      terms = refl;
      so_far = (
        [],
        [],
        record {
          lines = [];
          none_within = All-nil _;
          lines_are = refl;
          consumed = Consumes-nil _;
          asked = [];
          asked_are = refl;
          answered = (refl, refl);
          count_is = omega arith;
        },
        Appends-nil _,
      );
    }

pub returns-then-is_end-clause-served : goal.returns-then-is_end-clause-served
returns-then-is_end-clause-served g c =
    let so = c.loop.invariant.so_far in
    let read = c.in_ok-is_last.ensures in
    let met = c.in_ok-answered.ensures.answered read.0 read.4 in
    let here = meets_in _ _ _ _ _ _ c.loop.count read.0 c.in_ok-answered.answered _ _ met.0
    (ap (λ cl. setting g.row.J.Denot g.J.Naming.ring g.J.Naming.n g.J.Naming.r cl.options)
    c.loop.invariant.cluster) (ap (λ t. t.ways) c.loop.invariant.terms)
    (ap (λ t. t.nodes) c.loop.invariant.terms) met.1 in (
      so.1 ++ met.0,
      record {
        bytes = so.0 ++ read.1;
        serves = serves_line _ _ _ _ _ c.in_ok-is_last.is_last _ _ _ _ _ _ so.0 so.1 met.0 read.0
            read.1 so.2 read.2 read.3 read.5 c.in_ok-answered.answered here;
        is_all = λ is. lines.all_behind _ _ so.0 read.1 so.2.consumed (read.6 is);
        stops = c.is_end.ensures.0 c.if-is_end.true;
      },
      Appends-trans _ _ _ so.1 met.0 so.3 met.2,
    )

pub loop-preserved : goal.loop-preserved
loop-preserved g c =
    let so = c.loop.invariant.so_far in
    let read = c.in_ok-is_last.ensures in
    let ends = c.in_ok-answered.ensures in
    let met = ends.answered read.0 read.4 in
    let here = meets_in _ _ _ _ _ _ c.loop.count read.0 c.in_ok-answered.answered _ _ met.0
    (ap (λ cl. setting g.row.J.Denot g.J.Naming.ring g.J.Naming.n g.J.Naming.r cl.options)
    c.loop.invariant.cluster) (ap (λ t. t.ways) c.loop.invariant.terms)
    (ap (λ t. t.nodes) c.loop.invariant.terms) met.1 in
    let goes_on = c.is_end.ensures.1 c.if-is_end.false in
    let serves = serves_line _ _ _ _ _ c.in_ok-is_last.is_last _ _ _ _ _ _ so.0 so.1 met.0 read.0
    read.1 so.2 read.2 read.3 read.5 c.in_ok-answered.answered here in
    record {
      iterator = search rules;
      together = ends.together;
      cluster = ends.cluster ∙ c.loop.invariant.cluster;
      terms = ends.terms ∙ c.loop.invariant.terms;
      so_far = (
        so.0 ++ read.1,
        so.1 ++ met.0,
        serves_here _ _ _ _ _ _ _ _ _ _ _ (so.0 ++ read.1) (so.1 ++ met.0) goes_on.0 goes_on.1
            serves,
        Appends-trans _ _ _ so.1 met.0 so.3 met.2,
      );
    }
