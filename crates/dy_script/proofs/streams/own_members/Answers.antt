-- Each member that is read stands behind those before it, and a list of commands behind them all.
use Rattle.std.proofs.Common.{◌≡◌, ◌∷◌, length, codes, sym, ap, ◌∙◌, arith}
use Rattle.std.proofs.lemmas.Slice.Eq.{bytes_eq-Decides}
use Rattle.json.specs.Token.{Token}
use Rattle.dy_script.proofs.CommandsRead.{HasPassed-start, HasPassed-more, HasPassed-opens}
use Rattle.dy_script.proofs.streams.own_members.Goals as goal

pub members-init : goal.members-init
members-init c = HasPassed-start _ _ c.new-own.ensures.items

pub returns-then-eq : goal.returns-then-eq
returns-then-eq c =
    let run : c.in-Some.name.now ≡ codes "run" = (bytes_eq-Decides c.in-Some.name.now (codes "run")).0 (sym c.eq.ensures ∙ c.if-eq.true) in
    HasPassed-opens c.args.reader.now c.begins_object.new.reader c.members.own.items c.members.reader c.key_at.new.reader c.begins_list.new.reader (c.begins_object.ensures c.if-not-begins_object.false)
    c.members.invariant (c.in-Some.ensures ∙ ap (λ name. Token.key name ∷ c.key_at.new.reader) run) (c.begins_list.ensures c.if-not-begins_list.false)

pub members-preserved : goal.members-preserved
members-preserved c =
    HasPassed-more _ c.members.own.items _ (c.in-Some.name, c.in_ok-value.value) c.members.reader c.key_at.new.reader c.value_at.new.reader c.members.invariant c.in-Some.ensures
    c.in_ok-value.ensures c.in_ok-push.ensures.items

pub members-smaller : goal.members-smaller
members-smaller c = omega (arith, ap length c.in-Some.ensures, c.in_ok-value.ensures.shorter)
