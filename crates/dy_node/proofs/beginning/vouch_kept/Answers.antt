use Rattle.std.proofs.Common.{List, sym, subst}
use Rattle.dy_siblings.specs.declared.versions.Version.{Version}
use Rattle.dy_shares.specs.Shares.{NodePart}
use Rattle.dy_core.specs.Worlds.{AreMadeOf, layout_of}
use Rattle.dy_book.specs.Books.{world_of}
use Rattle.dy_node.specs.Stored.{Shows}
use Rattle.dy_node.proofs.Kept.{agreed_on, kept_made}
use Rattle.dy_node.proofs.beginning.vouch_kept.Goals as goal

-- what is kept was issued
pub vouch-requires : goal.vouch-requires
vouch-requires g c =
    let layout = layout_of g.J.Naming.ring g.J.Naming.n in
    let row = c.args.row in
    subst (λ (vs : List Version). AreMadeOf (world_of c.agree.new.self) row.key vs)
    (sym c.requires.kept)
    (kept_made layout c.agree.new.self c.agree.new.share c.args.stores.now
    (agreed_on layout c.args.book.now c.agree.new.self c.args.share.now c.agree.new.share
    c.agree.ensures.book c.agree.ensures.share
    (record { belongs = c.agree.ensures.belongs; legal = c.agree.ensures.legal }))
    (subst (λ (q : NodePart). Shows q c.args.stores.now) (sym c.agree.ensures.share)
    c.requires.shown) c.args.home row.key)
