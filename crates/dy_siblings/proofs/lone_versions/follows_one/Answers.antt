-- It follows no dot.
use Rattle.std.proofs.Common.{◌≡◌, sym, ap, ◌∙◌, not}
use Rattle.std.specs.FinSet as set
use Rattle.std.proofs.lemmas.Bool.{true≢false}
use Rattle.dy_dots.specs.Dots.{dot_cmp}
use Rattle.dy_siblings.specs.Versions.{precedes}
use Rattle.dy_siblings.proofs.Members.{none_from}
use Rattle.dy_siblings.proofs.lone_versions.follows_one.Goals as goal

pub returns-else-not-is_empty : goal.returns-else-not-is_empty
returns-else-not-is_empty c =
    let v = c.args.version.now in
    let none : v.past ≡ set.empty = sym (ap (λ p. p) c.past.ensures.value) ∙ c.is_empty.ensures.0 c.if-not-is_empty.false in
    ap not c.if-not-is_empty.false
    ∙ sym (none_from (λ u. precedes u v) c.args.versions.now (λ u h below.
    true≢false (sym below ∙ ap (λ s. set.contains s u.dot) none ∙ set.contains-empty dot_cmp u.dot)))
