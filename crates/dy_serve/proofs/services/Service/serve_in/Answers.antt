-- the rest was served in the cluster that was begun
use Rattle.std.proofs.Common.{◌≡◌, ◌∙◌, [], ℕ, Option, ap, inl, inr, refl, rules, subst}
use Rattle.std.specs.Option.{option_copied}
use Rattle.std.proofs.KnownBytes.{Appends-nil, Appends-trans}
use Rattle.dy_script.specs.Reading.{node_count, script_parts}
use Rattle.dy_cluster.specs.Settings.{setting}
use Rattle.dy_cluster.specs.declared.resting.Closed.{Closed}
use Rattle.dy_serve.specs.Below.{standing}
use Rattle.dy_serve.specs.inside.Shortages.{StopsBeginning, StopsLines, StopsServing}
use Rattle.dy_serve.proofs.Stopping.{begun_count, passed_on}
use Rattle.dy_serve.proofs.LineByLine.{begins_in, lines_rest, none_rest}
use Rattle.dy_serve.proofs.services.Service.serve_in.Goals as goal

pub serve_lines-requires : goal.serve_lines-requires
serve_lines-requires g c = record { together = c.in_ok-count.ensures.begun.together }

pub returns-clause-served : goal.returns-clause-served
returns-clause-served g c =
    let ends = c.in_ok-count.ensures in
    let begun = ends.begun in
    let rest = c.in_ok-stop.ensures.served in
    let closed : option_copied c.as_ref.result ≡ c.args.self.now.progress.now.closed = search
    rules in
    record {
      count = c.in_ok-count.count;
      begun = standing c.begin.new.opened.runner.seats c.begin.new.lent.sessions.items
          c.begin.new.opened.mark;
      first = begun.text;
      begins = begins_in _ _ _ _ _ _ _ _ begun.text closed begun.begins;
      rest = rest.0;
      serves = lines_rest _ _ _ _ _ _ _ _ _ _ _ _ _ rest.0 c.if-is_last.false
          (ap (λ cl. setting g.row.J.Denot g.J.Naming.ring g.J.Naming.n g.J.Naming.r cl.options)
          ends.cluster) (ap (λ t. t.ways) ends.terms)
          (ap (λ t. t.nodes) ends.terms ∙ c.requires.nodes) rest.1;
      wrote = Appends-trans _ _ _ begun.text rest.0 begun.wrote rest.2;
    }

-- no line was left to serve
pub returns-then-is_last-clause-served : goal.returns-then-is_last-clause-served
returns-then-is_last-clause-served g c =
    let begun = c.in_ok-count.ensures.begun in
    let closed : option_copied c.as_ref.result ≡ c.args.self.now.progress.now.closed = search
    rules in
    record {
      count = c.in_ok-count.count;
      begun = standing c.begin.new.opened.runner.seats c.begin.new.lent.sessions.items
          c.begin.new.opened.mark;
      first = begun.text;
      begins = begins_in _ _ _ _ _ _ _ _ begun.text closed begun.begins;
      rest = [];
      serves = none_rest _ _ _ _ _ _ _ _ _ _ [] c.if-is_last.true (record {
        count_is = refl;
        renews = refl;
        is_last = c.if-is_last.true;
        same = refl;
        kept = refl;
        text_is = refl;
      });
      wrote = Appends-trans _ _ _ begun.text [] begun.wrote (Appends-nil _);
    }

-- the cluster was not begun
pub returns-in_err-count-clause-only : goal.returns-in_err-count-clause-only
returns-in_err-count-clause-only g c =
    let given = g.I.Read.remaining c.args.self.now.input.now in
    let before = g.O.Write.contents c.args.self.now.out.now in
    let after = g.O.Write.contents c.begin.new.out in
    let script = script_parts c.args.self.now.script.now in
    let progress = c.args.self.now.progress.now in
    let s = setting g.row.J.Denot g.J.Naming.ring g.J.Naming.n g.J.Naming.r
    c.args.lent.now.cluster.now.options in
    let closed : option_copied c.as_ref.result ≡ progress.closed = search rules in
    passed_on (StopsBeginning s script (option_copied c.as_ref.result) before after)
    (StopsServing s script progress.closed progress.stop given before after)
    c.in_err-count.field-0.0 c.from_residual.result
    c.from_residual.ensures.1 c.in_err-count.ensures.only
    (λ f stops. inl (subst (λ (x : Option Closed). StopsBeginning s script x before after f) closed
    stops))

-- the lines behind it were not all answered
pub returns-in_err-stop-clause-only : goal.returns-in_err-stop-clause-only
returns-in_err-stop-clause-only g c =
    let given = g.I.Read.remaining c.args.self.now.input.now in
    let before = g.O.Write.contents c.args.self.now.out.now in
    let after = g.O.Write.contents c.serve_lines.new.out in
    let script = script_parts c.args.self.now.script.now in
    let progress = c.args.self.now.progress.now in
    let s = setting g.row.J.Denot g.J.Naming.ring g.J.Naming.n g.J.Naming.r
    c.args.lent.now.cluster.now.options in
    let ends = c.in_ok-count.ensures in
    let begun = ends.begun in
    let nodes = c.begin.new.opened.terms.nodes in
    let closed : option_copied c.as_ref.result ≡ progress.closed = search rules in
    let count = begun_count _ _ script progress.closed progress.stop.count _ c.in_ok-count.count
    begun.text (begins_in _ _ _ _ _ _ _ _ begun.text closed begun.begins) in
    passed_on (StopsLines nodes c.in_ok-count.count given)
    (StopsServing s script progress.closed progress.stop given before after)
    c.in_err-stop.field-0.0 c.from_residual-in_err-stop.result
    c.from_residual-in_err-stop.ensures.1 c.in_err-stop.ensures.only
    (λ f lines. inr (
      c.if-is_last.false,
      subst (λ (n : ℕ). StopsLines (node_count script.layout) n given f) count
          (subst (λ (n : ℕ). StopsLines n c.in_ok-count.count given f)
          (ap (λ t. t.nodes) ends.terms ∙ c.requires.nodes) lines),
    ))
