use Rattle.std.proofs.Common.{◌||◌, sym, ap, ◌∙◌}
use Rattle.std.specs.List.{list_any}
use Rattle.std.proofs.lemmas.Bool.{or_left}
use Rattle.dy_siblings.specs.Versions.{precedes}
use Rattle.dy_siblings.proofs.Following.{none_after}
use Rattle.dy_siblings.proofs.Lones.{any_of_either}
use Rattle.dy_siblings.proofs.lone_versions.is_related.Goals as goal

pub returns-then-follows_one : goal.returns-then-follows_one
returns-then-follows_one c =
    let v = c.args.version.now in
    let vs = c.args.versions.now in
    c.if-follows_one.true
    ∙ sym (or_left (list_any (λ u. precedes u v) vs) (list_any (λ u. precedes v u) vs) (sym c.follows_one.ensures ∙ c.if-follows_one.true))
    ∙ sym (any_of_either (λ u. precedes u v) (λ u. precedes v u) vs)

pub returns-then-may_follow : goal.returns-then-may_follow
returns-then-may_follow c =
    let v = c.args.version.now in
    let vs = c.args.versions.now in
    c.is_followed.ensures
    ∙ ap (λ b. b || list_any (λ u. precedes v u) vs) (sym c.if-follows_one.false ∙ c.follows_one.ensures)
    ∙ sym (any_of_either (λ u. precedes u v) (λ u. precedes v u) vs)

-- none of them follows anything
pub returns-else-may_follow : goal.returns-else-may_follow
returns-else-may_follow c =
    let v = c.args.version.now in
    let vs = c.args.versions.now in
    c.if-may_follow.false
    ∙ sym (none_after vs v (c.requires c.if-may_follow.false))
    ∙ ap (λ b. b || list_any (λ u. precedes v u) vs) (sym c.if-follows_one.false ∙ c.follows_one.ensures)
    ∙ sym (any_of_either (λ u. precedes u v) (λ u. precedes v u) vs)
