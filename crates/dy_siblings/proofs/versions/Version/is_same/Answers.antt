use Rattle.std.proofs.Common.{sym, ◌∙◌}
use Rattle.dy_siblings.proofs.Agreeing.{same_version_is, same_version_from}
use Rattle.dy_siblings.proofs.versions.Version.is_same.Goals as goal

pub returns : goal.returns
returns c = (
  (λ yes. same_version_is c.args.self.now c.args.other.now (sym c.says_same.ensures ∙ yes)),
  (λ same. c.says_same.ensures ∙ same_version_from c.args.self.now c.args.other.now same),
)
