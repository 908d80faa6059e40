-- The first words that differ decide, and else all are the same.
use Rattle.std.proofs.Common.{◌≡◌, ◌*◌, ◌+◌, ◌∙◌, sym, subst, arith}
use Rattle.std.specs.Cmp.{nat_cmp_is}
use Rattle.std.specs.declared.cmp.Ordering.TheVariants.{Equal}
use Rattle.dy_siblings.specs.inside.Leads.{lead_from, whole_of}
use Rattle.dy_siblings.proofs.Words.{by_word, same_word}
use Rattle.dy_siblings.proofs.long_keys.order_of_words.Goals as goal

pub returns-then-mine-theirs : goal.returns-then-mine-theirs
unfolding whole_of
returns-then-mine-theirs c =
    c.cmp.ensures
    ∙ by_word (8 * c.loop-word.word) 64 c.args.all.now c.args.others.now c.fits-all c.fits-others (omega arith)
    c.loop-word.invariant c.word_at-mine.result c.word_at-theirs.result c.word_at-mine.ensures
    c.word_at-theirs.ensures c.if-mine-theirs.true

pub loop-word-preserved : goal.loop-word-preserved
loop-word-preserved c =
    let next : 8 * (c.loop-word.word + 1) ≡ 8 * c.loop-word.word + 8 = omega arith in
    subst (λ k. lead_from k 0 c.args.all.now ≡ lead_from k 0 c.args.others.now) (sym next)
    (same_word (8 * c.loop-word.word) c.args.all.now c.args.others.now c.loop-word.invariant
    (sym c.word_at-mine.ensures ∙ c.if-mine-theirs.false ∙ c.word_at-theirs.ensures))

pub returns : goal.returns
unfolding whole_of
returns c =
    let all : 8 * c.loop-word.word ≡ 64 = omega arith in
    nat_cmp_is (lead_from 64 0 c.args.all.now) (lead_from 64 0 c.args.others.now) Equal
    (subst (λ k. lead_from k 0 c.args.all.now ≡ lead_from k 0 c.args.others.now) all c.loop-word.invariant)
