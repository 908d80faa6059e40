-- A short key is written as its front, and a longer one as its bytes.
use Rattle.std.proofs.Common.{◌∙◌, sym, ap}
use Rattle.std.specs.List.{fold}
use Rattle.dy_siblings.proofs.Hashing.{hashed_long, hashed_short}
use Rattle.dy_siblings.proofs.keys.KeyHash.hash.Goals as goal

pub returns-in-Some : goal.returns-in-Some
returns-in-Some g c =
    let mine = c.in-Some.ensures in
    c.write.ensures
    ∙ (λ i. g.H.Hasher.write c.args.state.now (mine.short i))
    ∙ ap (fold g.H.Hasher.write c.args.state.now) (sym (hashed_short c.args.self.now mine.few))

pub returns-in-None : goal.returns-in-None
returns-in-None g c =
    let mine = c.in-None.ensures in
    c.write-in-None.ensures
    ∙ (λ i. g.H.Hasher.write c.args.state.now (c.as_bytes.ensures.value i))
    ∙ ap (fold g.H.Hasher.write c.args.state.now) (sym (hashed_long c.args.self.now mine.many))
