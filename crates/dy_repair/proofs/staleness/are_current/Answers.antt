use Rattle.std.proofs.Common.{arith, ◌≡◌, ◌<◌, ◌∙◌, ℕ, IsTrue, ap, sym, get_or, length}
use Rattle.std.proofs.Common.{refl, true, false}
use Rattle.std.proofs.lemmas.Bool.{true≢false}
use Rattle.dy_core.specs.Logs.{Answer}
use Rattle.dy_siblings.specs.Siblings.{Siblings}
use Rattle.dy_repair.specs.inside.Telling.{tells_stale}
use Rattle.dy_repair.proofs.Telling.{stale_told}
use Rattle.dy_repair.proofs.staleness.are_current.Goals as goal

-- one of the answers is stale
pub returns-then-is_stale : goal.returns-then-is_stale
returns-then-is_stale g c =
    let row : Siblings = c.args.row.now in
    let item : Answer = c.answer-item.result in
    let at : ℕ = c.loop-answer.answer-index in
    let within : at < length c.args.seens.now = c.loop-answer-test.true in
    let told : tells_stale row (get_or c.args.seens.now at item) ≡ true =
    ap (tells_stale row) (sym c.answer-item.is)
    ∙ sym c.is_stale.ensures ∙ c.if-is_stale.true in (
      λ wrong. absurd (true≢false (sym wrong)),
      λ current. absurd (current at item within
          ((stale_told row (get_or c.args.seens.now at item)).0 told)),
    )

-- none of them is
pub returns : goal.returns
returns g c =
    let row : Siblings = c.args.row.now in
    let none = c.loop-answer.invariant in
    let ended = c.loop-answer-test.false in (
      λ _ k d lt stale. true≢false (sym ((stale_told row (get_or c.args.seens.now k d)).1 stale)
          ∙ none k d (omega (arith, ended, lt))),
      λ _. refl,
    )
