-- Each text is what the text of its place computes to.
use Rattle.std.proofs.Common.{ℕ, List, sym, ap, ◌∙◌}
use Rattle.std.specs.Fmt.{digits}
use Rattle.dy_core.specs.Steps.{place_for}
use Rattle.dy_lines.specs.Places.{place_text}
use Rattle.dy_lines.proofs.places.own.Goals as goal

abbrev own_text : ℕ → List ℕ
own_text node = place_text (place_for node node)

pub returns-in-0 : goal.returns-in-0
unfolding digits
returns-in-0 c = ap own_text (sym c.in-0.is ∙ c.number.ensures.value)

pub returns-in-1 : goal.returns-in-1
unfolding digits
returns-in-1 c = ap own_text (sym c.in-1.is ∙ c.number.ensures.value)

pub returns-in-2 : goal.returns-in-2
unfolding digits
returns-in-2 c = ap own_text (sym c.in-2.is ∙ c.number.ensures.value)

pub returns-in-3 : goal.returns-in-3
unfolding digits
returns-in-3 c = ap own_text (sym c.in-3.is ∙ c.number.ensures.value)

pub returns-in-4 : goal.returns-in-4
unfolding digits
returns-in-4 c = ap own_text (sym c.in-4.is ∙ c.number.ensures.value)

pub returns-in-5 : goal.returns-in-5
unfolding digits
returns-in-5 c = ap own_text (sym c.in-5.is ∙ c.number.ensures.value)

pub returns-in-6 : goal.returns-in-6
unfolding digits
returns-in-6 c = ap own_text (sym c.in-6.is ∙ c.number.ensures.value)

pub returns-in-7 : goal.returns-in-7
unfolding digits
returns-in-7 c = ap own_text (sym c.in-7.is ∙ c.number.ensures.value)

pub returns-in-8 : goal.returns-in-8
unfolding digits
returns-in-8 c = ap own_text (sym c.in-8.is ∙ c.number.ensures.value)

pub returns-in-9 : goal.returns-in-9
unfolding digits
returns-in-9 c = ap own_text (sym c.in-9.is ∙ c.number.ensures.value)
