-- The context is of the row, which has the same versions as the newest of the answers; the places are those of the answers.
use Rattle.std.proofs.Common.{◌≡◌, ℕ, List, [], ◌∷◌, true, map, sym, ◌∙◌, ap, subst, ⊎_elim}
use Rattle.std.specs.FinSet as set
use Rattle.std.specs.List.{All, Contains}
use Rattle.std.proofs.lemmas.List.Elements.{All-contains, All-contains_itself, All-map, All-weaker}
use Rattle.dy_dots.specs.declared.dots.Dot.{Dot}
use Rattle.dy_siblings.specs.Siblings.{covers, newest}
use Rattle.dy_siblings.specs.Versions.{in_history}
use Rattle.dy_siblings.specs.declared.versions.Version.{Version}
use Rattle.dy_siblings.proofs.Histories.{in_context}
use Rattle.dy_siblings.proofs.Members.{any_from, any_gives, in_cases, in_head, in_tail, not_in_nil}
use Rattle.dy_preference.specs.Preferences.{is_home}
use Rattle.dy_core.specs.Logs.{Answer, rows_of}
use Rattle.dy_core.specs.declared.places.Place.{Place}
use Rattle.dy_quorum.specs.Gatherings.{answer_place, first_answers}
use Rattle.dy_coord.proofs.laws.gets_give_what_was_told.Goals as goal

-- a row covers what another with the same versions does
moved : (xs ys : List Version) → ((v : Version) → Contains xs v → Contains ys v) → (d : Dot) → covers xs d ≡ true → covers ys d ≡ true
moved xs ys into d c =
    let f = any_gives (λ v. in_history v d) xs c in
    any_from (λ v. in_history v d) ys f.item (into f.item f.in_list) f.passes

pub returns-clause-context : goal.returns-clause-context
returns-clause-context g c = λ list key r since told done is d.
    let row = done.row.versions in
    let shown = newest (rows_of (first_answers done.seen.items)) in
    let same : set.contains done.context d ≡ covers row d = ap (λ s. set.contains s d) is.context ∙ in_context row d in (
      (λ e. moved row shown (λ v. (is.row v).0) d (sym same ∙ e)),
      (λ e. same ∙ moved shown row (λ v. (is.row v).1) d e),
    )

place_in : (answers : List Answer) (a : Answer) → Contains answers a → Contains (map answer_place answers) (answer_place a)
place_in [] a h = absurd (not_in_nil a h)
place_in (x ∷ xs) a h =
    let places = map answer_place xs in
    ⊎_elim
    (λ same. subst (λ y. Contains (answer_place x ∷ places) (answer_place y)) (sym same) (in_head (answer_place x) places))
    (λ later. in_tail (answer_place x) (answer_place a) places (place_in xs a later))
    (in_cases x a xs h)

abbrev IsOwn : List ℕ → Place → Type 0
IsOwn homes p = (is_home homes p.home ≡ true) × (p.holder ≡ p.home)

pub returns-clause-homes : goal.returns-clause-homes
returns-clause-homes g c = λ list key r since told done is homes.
    let answers = first_answers done.seen.items in (
      (λ all.
          All-weaker (Contains answers) (λ a. IsOwn homes (answer_place a))
          (λ a h. All-contains (IsOwn homes) (map answer_place answers) (answer_place a) (subst (All (IsOwn homes)) is.from all) (place_in answers a h))
          answers (All-contains_itself answers)),
      (λ all. subst (All (IsOwn homes)) (sym is.from) (All-map (IsOwn homes) answer_place answers all)),
    )
