-- One home more: it is asked for itself where it isn't the one that the coordinator holds for.
use Rattle.std.proofs.Common.{◌≡◌, ◌<◌, ◌+◌, ◌++◌, ◌∷◌, ◌==◌, [], not, ℕ, List, true, false}
use Rattle.std.proofs.Common.{length, map, take, get_or, refl}
use Rattle.std.proofs.Common.{sym, ◌∙◌, ap, arith, subst, append_assoc}
use Rattle.std.proofs.Common.{length-append}
use Rattle.std.proofs.lemmas.List.{append-nil, map-append, take_more}
use Rattle.std.proofs.lemmas.List.Elements.{filter-append}
use Rattle.std.specs.List.{All}
use Rattle.dy_transport.specs.declared.asked.Asked.{Asked}
use Rattle.dy_transport.specs.declared.asked.What.{What}
use Rattle.dy_reads.specs.Lists.{asked_homes}
use Rattle.dy_reads.specs.Rules.{MayRequest, ask_of, home_asks, requested}
use Rattle.dy_reads.proofs.reads.ask_homes.Goals as goal
use Rattle.dy_reads.proofs.reads.ask_homes.Goals.{then-ne+in-Fetch-1, then-ne+in-Store-1, else-ne}

homes_more : (held : ℕ) (homes : List ℕ) (i home : ℕ) → i < length homes →
    home ≡ get_or homes i home → asked_homes held (take (i + 1) homes)
    ≡ asked_homes held (take i homes) ++ asked_homes held (home ∷ [])
homes_more held homes i home lt is =
    ap (asked_homes held) (take_more homes i home lt ∙ ap (λ x. take i homes ++ x ∷ []) (sym is))
    ∙ filter-append (λ h. not (h == held)) (take i homes) (home ∷ [])

asks_more : (what : What) (held : ℕ) (homes : List ℕ) (i home : ℕ) → i < length homes →
    home ≡ get_or homes i home → not (home == held) ≡ true →
    home_asks what held (take (i + 1) homes)
    ≡ home_asks what held (take i homes) ++ ask_of what home home 0 ∷ []
asks_more what held homes i home lt is other =
    let e : asked_homes held (home ∷ []) ≡ home ∷ [] = rw other refl in
    ap (map (λ h. ask_of what h h 0))
    (homes_more held homes i home lt is ∙ ap (λ xs. asked_homes held (take i homes) ++ xs) e)
    ∙ map-append (λ h. ask_of what h h 0) (asked_homes held (take i homes)) (home ∷ [])

asks_same : (what : What) (held : ℕ) (homes : List ℕ) (i home : ℕ) → i < length homes →
    home ≡ get_or homes i home → not (home == held) ≡ false →
    home_asks what held (take (i + 1) homes) ≡ home_asks what held (take i homes)
asks_same what held homes i home lt is same =
    let e : asked_homes held (home ∷ []) ≡ [] = rw same refl in
    ap (map (λ h. ask_of what h h 0))
    (homes_more held homes i home lt is ∙ ap (λ xs. asked_homes held (take i homes) ++ xs) e
    ∙ append-nil (asked_homes held (take i homes)))

-- at first nobody is asked, and nothing was read
pub loop-i-init : goal.loop-i-init
loop-i-init g c = record {
  asks = sym (append-nil (g.T.Transport.told c.args.transport.now).asks);
  count = omega arith;
  replies = c.requires.fresh;
  tries = refl;
  room = refl;
}

-- the home may be asked for itself
pub ask-requires-clause-may_ask : goal.ask-requires-clause-may_ask
ask-requires-clause-may_ask g c =
    let home = c.index-homes-i.result in
    let P : ℕ → Type 0 = λ h. MayRequest g.J.Naming.ring g.J.Naming.n c.args.request.now h h in
    let all : All P c.homes-homes.result.now =
    subst (λ (xs : List ℕ). All P xs) (sym c.homes-homes.ensures.value) c.requires.may_ask in
    c.for_home.ensures.allowed home
    (subst P (sym c.index-homes-i.is) (all c.loop-i.i home c.loop-i-test.true))

pub loop-i-preserved : goal.loop-i-preserved
loop-i-preserved g c =
    let inv = c.loop-i.invariant in
    let start : List Asked = (g.T.Transport.told c.args.transport.now).asks in
    let what : What = requested c.args.request.now in
    let homes = c.homes-homes.result.now in
    let home = c.index-homes-i.result in
    let held = c.args.held in
    let few = inv.count in
    let before : List Asked = home_asks what held (take c.loop-i.i homes) in
    elim c.if-ne.branch [
      | then-ne+in-Fetch-1 w ↦ rw (w.transport-is, w.ask.ensures) (record {
        asks = rw (
          w.for_home.ensures.home,
          w.for_home.ensures.what,
          inv.replies,
          inv.asks,
          asks_more what held homes c.loop-i.i home c.loop-i-test.true c.index-homes-i.is
              (sym c.ne.ensures ∙ w.if-ne.true),
        ) (append_assoc start before _);
        count = omega (arith, length-append {A = Asked});
        replies = inv.replies;
        tries = inv.tries;
        room = inv.room;
      })
      | then-ne+in-Store-1 w ↦ rw (w.transport-is, w.ask.ensures) (record {
        asks = rw (
          w.for_home.ensures.home,
          w.for_home.ensures.what,
          inv.replies,
          inv.asks,
          asks_more what held homes c.loop-i.i home c.loop-i-test.true c.index-homes-i.is
              (sym c.ne.ensures ∙ w.if-ne.true),
        ) (append_assoc start before _);
        count = omega (arith, length-append {A = Asked});
        replies = inv.replies;
        tries = inv.tries;
        room = inv.room;
      })
      | else-ne w ↦ rw w.transport-is (record {
        asks = inv.asks ∙ ap (λ xs. start ++ xs) (sym (asks_same what held homes c.loop-i.i home
            c.loop-i-test.true c.index-homes-i.is (sym c.ne.ensures ∙ w.if-ne.false)));
        count = omega arith;
        replies = inv.replies;
        tries = inv.tries;
        room = inv.room;
      })
    ]
