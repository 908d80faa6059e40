-- the index of what is left of the numbers tells who was told them
use Rattle.std.proofs.Common.{◌-◌, ap, map, ◌∙◌}
use Rattle.dy_serve.proofs.Printing.{indexed}
use Rattle.dy_serve.proofs.news.News.new.Goals as goal

pub invariant_of-result : goal.invariant_of-result
invariant_of-result c =
    let before = c.args.before in
    record {
      fits = c.requires.fits;
      indexed = indexed before _ c.args.told _ c.in_ok-index.index
          (c.in_ok-acks.ensures.ok ∙ ap (map (λ x. x - before)) c.as_slice.ensures.value)
          (c.in_ok-fetches.ensures.ok ∙ ap (map (λ x. x - before)) c.as_slice-2.ensures.value)
          c.in_ok-index.ensures.ok;
    }
