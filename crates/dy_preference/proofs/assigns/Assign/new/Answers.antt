use Rattle.std.proofs.Common.{◌≡◌, ◌≢◌, ◌==◌, nat_eq, not, false, take, subst, sym}
use Rattle.std.specs.List.{All, IsDistinct, filter}
use Rattle.dy_preference.specs.Preferences.{is_home}
use Rattle.dy_preference.proofs.StandIns.{stand_ins_once, stand_ins_others, stand_ins_past}
use Rattle.dy_preference.proofs.assigns.Assign.new.Goals as goal

-- those past the homes are a part of a list of distinct nodes
pub returns-clause-once : goal.returns-clause-once
returns-clause-once c =
    subst (λ l. IsDistinct nat_eq (filter (λ node. not (node == c.args.coordinator)) l)) (sym c.past_homes.ensures.value)
    (stand_ins_once c.args.list.now.nodes c.args.list.now.n c.args.coordinator c.past_homes.ensures.valid.distinct)

pub returns-clause-others : goal.returns-clause-others
returns-clause-others c =
    subst (λ l. All (λ node. node ≢ c.args.coordinator) (filter (λ node. not (node == c.args.coordinator)) l)) (sym c.past_homes.ensures.value)
    (stand_ins_others c.args.list.now.nodes c.args.list.now.n c.args.coordinator)

pub returns-clause-past : goal.returns-clause-past
returns-clause-past c =
    subst (λ l. All (λ node. is_home (take c.args.list.now.n c.args.list.now.nodes) node ≡ false) (filter (λ node. not (node == c.args.coordinator)) l)) (sym c.past_homes.ensures.value)
    (stand_ins_past c.args.list.now.nodes c.args.list.now.n c.args.coordinator c.past_homes.ensures.valid.distinct)
