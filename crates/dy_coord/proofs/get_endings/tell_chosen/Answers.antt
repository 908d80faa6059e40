-- What holds of all answers holds of the first of each home.
use Rattle.std.proofs.Common.{◌≡◌, ◌<◌, List, ℕ, nat_eq, sym, subst}
use Rattle.std.specs.List.{All, IsDistinct}
use Rattle.dy_siblings.specs.Siblings.{IsSameRow, newest}
use Rattle.dy_core.specs.Logs.{Answer, rows_of}
use Rattle.dy_shares.specs.Shares.{since_of}
use Rattle.dy_quorum.specs.Gatherings.{answer_homes}
use Rattle.dy_coord.proofs.Getting.{all_firsts, firsts_apart}
use Rattle.dy_coord.proofs.get_endings.tell_chosen.Goals as goal

pub tell_of-requires-clause-one_key : goal.tell_of-requires-clause-one_key
tell_of-requires-clause-one_key g c =
    let ss : List Answer = c.args.gathering.now.seens in
    let one = c.requires.one_key in
    let P : List Answer → Type 0 = λ xs. All (λ a. a.key ≡ one.0) xs in (
      one.0,
      subst P (sym c.in_ok-chosen.ensures.value) (all_firsts (λ a. a.key ≡ one.0) ss one.1),
    )

pub tell_of-requires-clause-homes : goal.tell_of-requires-clause-homes
tell_of-requires-clause-homes g c =
    let P : List Answer → Type 0 = λ xs. IsDistinct nat_eq (answer_homes xs) in
    subst P (sym c.in_ok-chosen.ensures.value) (firsts_apart c.args.gathering.now.seens)

pub tell_of-requires-clause-later : goal.tell_of-requires-clause-later
tell_of-requires-clause-later g c =
    let ss : List Answer = c.args.gathering.now.seens in
    let since : ℕ = since_of c.args.session.now in
    let P : List Answer → Type 0 = λ xs. All (λ a. since < a.at) xs in
    subst P (sym c.in_ok-chosen.ensures.value) (all_firsts (λ a. since < a.at) ss c.requires.later)

pub returns-clause-row : goal.returns-clause-row
returns-clause-row g c =
    let P : List Answer → Type 0 =
    λ xs. IsSameRow c.in_ok-told.told.0.versions (newest (rows_of xs)) in
    subst P c.in_ok-chosen.ensures.value c.in_ok-told.ensures.row

pub returns-clause-key : goal.returns-clause-key
returns-clause-key g c key all =
    let ss : List Answer = c.args.gathering.now.seens in
    let P : List Answer → Type 0 = λ xs. All (λ a. a.key ≡ key) xs in
    c.in_ok-told.ensures.key key
    (subst P (sym c.in_ok-chosen.ensures.value) (all_firsts (λ a. a.key ≡ key) ss all))
