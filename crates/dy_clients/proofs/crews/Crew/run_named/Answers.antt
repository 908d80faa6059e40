-- The sessions are those that were run, and what is said of them and of the answers is what the
-- client says of a cluster of what was opened.
use Rattle.std.proofs.Common.{◌∙◌, ℕ, sym, subst}
use Rattle.dy_ring.specs.Rings.{Tokens}
use Rattle.dy_book.specs.declared.options.Options.{Options}
use Rattle.dy_cluster.specs.Ends.{IsClosed}
use Rattle.dy_cluster.specs.Settings.{setting}
use Rattle.dy_clients.specs.Tellings.{AreAnswered, as_answered}
use Rattle.dy_clients.proofs.crews.Crew.run_named.Goals as goal

pub returns-clause-closed : goal.returns-clause-closed
returns-clause-closed g c =
    let named = c.requires.named in
    let sessions = c.run_seated-answered.new.sessions.items in
    let closed = c.in_ok-closed.closed in
    let answers = c.in_ok-answers.answers.items in
    let says : Tokens → ℕ → ℕ → Options → Type 0 = λ ring n r options. AreAnswered (as_answered (g.C.Client.told
    (setting g.row.J.Denot ring n r options) c.args.self.now.client.now)) answers sessions in
    let ends = c.in_ok-closed.ensures in
    record {
      tellings = sessions;
      closed = subst (λ (t : Tokens). IsClosed t c.args.opened.options.n c.args.opened.options.r
          sessions closed) (sym named.1)
          (subst (λ (n : ℕ). IsClosed g.J.Naming.ring n c.args.opened.options.r sessions closed)
          (sym named.2)
          (subst (λ (r : ℕ). IsClosed g.J.Naming.ring g.J.Naming.n r sessions closed)
          (sym named.3) ends.closed));
      options_are = ends.options ∙ c.in_ok-cluster.ensures.options;
      sessions = c.in_ok-answers.ensures.ok;
      answers = c.in_ok-answers.ensures.answers;
      told = subst (λ (t : Tokens). says t c.args.opened.options.n c.args.opened.options.r
          c.args.opened.options) (sym named.1)
          (subst (λ (n : ℕ). says g.J.Naming.ring n c.args.opened.options.r c.args.opened.options)
          (sym named.2)
          (subst (λ (r : ℕ). says g.J.Naming.ring g.J.Naming.n r c.args.opened.options)
          (sym named.3)
          (subst (λ (o : Options). says g.J.Naming.ring g.J.Naming.n g.J.Naming.r o)
          c.in_ok-cluster.ensures.options c.in_ok-answers.ensures.told)));
    }
