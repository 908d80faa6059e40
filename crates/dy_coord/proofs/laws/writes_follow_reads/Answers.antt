use Rattle.std.proofs.Common.{◌≡◌, true, sym, ap, ◌∙◌}
use Rattle.std.specs.FinSet as set
use Rattle.std.specs.List.{Contains}
use Rattle.std.proofs.lemmas.List.Elements.{All-contains_itself, All-weaker}
use Rattle.dy_dots.proofs.Sets.{dot_total}
use Rattle.dy_siblings.specs.Versions.{history_of, in_history}
use Rattle.dy_siblings.proofs.Histories.{in_context, in_history_set}
use Rattle.dy_siblings.proofs.Members.{any_from}
use Rattle.dy_coord.proofs.laws.writes_follow_reads.Goals as goal

-- the get's context has each history of its versions, and the put's version the context in its past
pub returns : goal.returns
returns g c = λ read key r since got done is_got list w value before after told result coordinator begun put.
    let past = put.begun_is.version.past in
    All-weaker (Contains done.row.versions) (λ v. set.is_subset (history_of v) past ≡ true)
    (λ v h.
    set.contains-is_subset dot_total (history_of v) past (λ d e.
    set.is_subset-contains dot_total done.context past put.begun_is.follows d
    (ap (λ s. set.contains s d) is_got.context ∙ in_context done.row.versions d
    ∙ any_from (λ x. in_history x d) done.row.versions v h (sym (in_history_set v d) ∙ e))))
    done.row.versions (All-contains_itself done.row.versions)
