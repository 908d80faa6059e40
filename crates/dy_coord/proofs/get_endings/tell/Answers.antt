-- Where no home answered twice, the first answers are all of them.
use Rattle.std.proofs.Common.{◌≡◌, ◌∙◌, ◌<◌, List, ℕ, IfOk, OnOk, length, nat_eq, sym, ap, subst}
use Rattle.std.specs.List.{All, IsDistinct}
use Rattle.dy_siblings.specs.Siblings.{IsSameRow, newest}
use Rattle.dy_core.specs.Logs.{Answer, rows_of}
use Rattle.dy_shares.specs.Shares.{since_of, with_get}
use Rattle.dy_quorum.specs.Gatherings.{answer_homes, first_answers}
use Rattle.dy_coord.proofs.Getting.{firsts_apart}
use Rattle.dy_coord.proofs.get_endings.tell.Goals as goal

pub tell_of-requires-clause-count : goal.tell_of-requires-clause-count
tell_of-requires-clause-count g c =
    let all : first_answers c.args.gathering.now.seens ≡ c.args.gathering.now.seens =
    c.has_firsts_alone.ensures.0 c.if-has_firsts_alone.true in
    ap length (c.seens.ensures ∙ sym all) ∙ c.requires.count

pub tell_of-requires-clause-one_key : goal.tell_of-requires-clause-one_key
tell_of-requires-clause-one_key g c =
    let one = c.requires.one_key in
    let P : List Answer → Type 0 = λ xs. All (λ a. a.key ≡ one.0) xs in
    (one.0, subst P (sym c.seens.ensures) one.1)

pub tell_of-requires-clause-homes : goal.tell_of-requires-clause-homes
tell_of-requires-clause-homes g c =
    let ss : List Answer = c.args.gathering.now.seens in
    let all : first_answers ss ≡ ss = c.has_firsts_alone.ensures.0 c.if-has_firsts_alone.true in
    let P : List Answer → Type 0 = λ xs. IsDistinct nat_eq (answer_homes xs) in
    subst P (all ∙ sym c.seens.ensures) (firsts_apart ss)

pub tell_of-requires-clause-later : goal.tell_of-requires-clause-later
tell_of-requires-clause-later g c =
    let since : ℕ = since_of c.args.session.now in
    let P : List Answer → Type 0 = λ xs. All (λ a. since < a.at) xs in
    subst P (sym c.seens.ensures) c.requires.later

pub returns-then-has_firsts_alone-clause-row : goal.returns-then-has_firsts_alone-clause-row
returns-then-has_firsts_alone-clause-row g c =
    let all : first_answers c.args.gathering.now.seens ≡ c.args.gathering.now.seens =
    c.has_firsts_alone.ensures.0 c.if-has_firsts_alone.true in
    let P : List Answer → Type 0 =
    λ xs. IfOk c.tell_of.result (λ p. IsSameRow p.0.versions (newest (rows_of xs))) in
    subst P (c.seens.ensures ∙ sym all) c.tell_of.ensures.row

pub returns-then-has_firsts_alone-clause-key : goal.returns-then-has_firsts_alone-clause-key
returns-then-has_firsts_alone-clause-key g c key of_key =
    let P : List Answer → Type 0 = λ xs. All (λ a. a.key ≡ key) xs in
    c.tell_of.ensures.key key (subst P (sym c.seens.ensures) of_key)

pub returns-then-has_firsts_alone-clause-told : goal.returns-then-has_firsts_alone-clause-told
returns-then-has_firsts_alone-clause-told g c =
    let all : first_answers c.args.gathering.now.seens ≡ c.args.gathering.now.seens =
    c.has_firsts_alone.ensures.0 c.if-has_firsts_alone.true in
    let P : List Answer → Type 0 = λ xs. OnOk c.tell_of.result
    (c.tell_of.new.session ≡ with_get c.args.session.now (since_of c.args.session.now) xs) in
    subst P (c.seens.ensures ∙ sym all) c.tell_of.ensures.told
