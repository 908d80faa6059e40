-- before the line of a step that is no fetch stands what was told of the fetches before it
use Rattle.std.proofs.Common.{◌≡◌, ℕ, List, ◌++◌, Bool, false, if◌then◌else◌, subst, sym, ◌∙◌}
use Rattle.std.proofs.KnownBytes.{Appends-trans}
use Rattle.std.specs.Io.KnownBytes.{Appends}
use Rattle.dy_lines.specs.StepLines.{is_fetch, step_line, told_line}
use Rattle.dy_lines.proofs.step_lines.write_step.Goals as goal

pub returns-clause-wrote : goal.returns-clause-wrote
returns-clause-wrote g c =
    let contents = g.O.Write.contents in
    let s = g.A.Audience.sessions c.args.audience.now in
    let before = c.args.fetches.now.items in
    let step = step_line s c.args.number c.args.step.now in
    let first = contents c.args.out.now in
    let last = contents c.write_line-2.new.out in
    let told : Appends first (contents c.write_told.new.out) (told_line s before) =
    subst (λ (fs : List ℕ). Appends first (contents c.write_told.new.out) (told_line s fs))
    c.as_slice.ensures.value c.in_ok-write_told.ensures in
    let none : is_fetch c.args.step.now ≡ false =
    sym c.is_fetch.ensures ∙ c.if-is_fetch.false in
    subst (λ (b : Bool). Appends first last (if b then step else told_line s before ++ step))
    (sym none) (Appends-trans _ _ _ _ _ told c.in_ok-write_line-2.ensures)
