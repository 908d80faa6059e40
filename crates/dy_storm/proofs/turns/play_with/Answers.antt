use Rattle.std.proofs.Common.{◌≡◌, refl, subst}
use Rattle.std.specs.Prelude.{unwrap_or}
use Rattle.std.specs.FinSet as set
use Rattle.dy_dots.specs.Dots.{DotSet}
use Rattle.dy_cluster.specs.Lists.{list_of}
use Rattle.dy_storm.specs.Turns.{IsPutOf}
use Rattle.dy_storm.proofs.Growing.{put_of}
use Rattle.dy_storm.proofs.turns.play_with.Goals as goal

-- the get, and then the put with its context
pub returns : goal.returns
returns g c =
    let got = c.get_one-got in
    let put = c.put_to in
    let key = c.args.key.now in
    let list = list_of g.J.Naming.ring g.J.Naming.n key in
    let before = c.args.connection.now.session in
    let between = got.new.connection.session in
    let after = put.new.self.session in
    let mending = g.T.Transport.told got.new.connection.transport in
    let empty : c.unwrap_or-context.result ≡ unwrap_or got.result.context set.empty =
    rw c.unwrap_or-context.ensures (rw c.new.ensures refl) in
    λ options. record {
      context = got.result.context;
      between = between;
      mending = mending;
      gets = got.ensures;
      puts = subst (λ (x : DotSet). IsPutOf g.row.J.Denot list key x c.args.value between after)
          empty (put_of list key c.unwrap_or-context.result c.args.value between after _ _ put.result
          put.ensures.ends);
    }
