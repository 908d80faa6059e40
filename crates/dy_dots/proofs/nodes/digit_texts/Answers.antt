-- Each text is what the texts of its number compute to.
use Rattle.std.proofs.Common.{decimal, sym, ap, ◌∙◌}
use Rattle.std.specs.Fmt.{digits}
use Rattle.dy_dots.specs.Dots.{head_text}
use Rattle.dy_dots.proofs.nodes.digit_texts.Goals as goal

pub returns-in-0 : goal.returns-in-0
unfolding digits
returns-in-0 c =
    (c.texts.ensures.0 ∙ ap decimal (sym c.in-0.is), c.texts.ensures.1 ∙ ap head_text (sym c.in-0.is))

pub returns-in-1 : goal.returns-in-1
unfolding digits
returns-in-1 c =
    (c.texts-in-1.ensures.0 ∙ ap decimal (sym c.in-1.is), c.texts-in-1.ensures.1 ∙ ap head_text (sym c.in-1.is))

pub returns-in-2 : goal.returns-in-2
unfolding digits
returns-in-2 c =
    (c.texts-in-2.ensures.0 ∙ ap decimal (sym c.in-2.is), c.texts-in-2.ensures.1 ∙ ap head_text (sym c.in-2.is))

pub returns-in-3 : goal.returns-in-3
unfolding digits
returns-in-3 c =
    (c.texts-in-3.ensures.0 ∙ ap decimal (sym c.in-3.is), c.texts-in-3.ensures.1 ∙ ap head_text (sym c.in-3.is))

pub returns-in-4 : goal.returns-in-4
unfolding digits
returns-in-4 c =
    (c.texts-in-4.ensures.0 ∙ ap decimal (sym c.in-4.is), c.texts-in-4.ensures.1 ∙ ap head_text (sym c.in-4.is))

pub returns-in-5 : goal.returns-in-5
unfolding digits
returns-in-5 c =
    (c.texts-in-5.ensures.0 ∙ ap decimal (sym c.in-5.is), c.texts-in-5.ensures.1 ∙ ap head_text (sym c.in-5.is))

pub returns-in-6 : goal.returns-in-6
unfolding digits
returns-in-6 c =
    (c.texts-in-6.ensures.0 ∙ ap decimal (sym c.in-6.is), c.texts-in-6.ensures.1 ∙ ap head_text (sym c.in-6.is))

pub returns-in-7 : goal.returns-in-7
unfolding digits
returns-in-7 c =
    (c.texts-in-7.ensures.0 ∙ ap decimal (sym c.in-7.is), c.texts-in-7.ensures.1 ∙ ap head_text (sym c.in-7.is))

pub returns-in-8 : goal.returns-in-8
unfolding digits
returns-in-8 c =
    (c.texts-in-8.ensures.0 ∙ ap decimal (sym c.in-8.is), c.texts-in-8.ensures.1 ∙ ap head_text (sym c.in-8.is))

pub returns-in-9 : goal.returns-in-9
unfolding digits
returns-in-9 c =
    (c.texts-in-9.ensures.0 ∙ ap decimal (sym c.in-9.is), c.texts-in-9.ensures.1 ∙ ap head_text (sym c.in-9.is))
