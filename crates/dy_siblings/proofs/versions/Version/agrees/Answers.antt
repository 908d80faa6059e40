use Rattle.std.proofs.Common.{sym, ◌∙◌}
use Rattle.dy_siblings.proofs.Agreeing.{agreed_is, agreed_from}
use Rattle.dy_siblings.proofs.versions.Version.agrees.Goals as goal

pub returns : goal.returns
returns c = (
  (λ yes. agreed_is c.args.self.now c.args.other.now c.requires.one_key c.requires.one_dot
      (sym c.has_rest_of.ensures ∙ yes)),
  (λ same. c.has_rest_of.ensures ∙ agreed_from c.args.self.now c.args.other.now same),
)
