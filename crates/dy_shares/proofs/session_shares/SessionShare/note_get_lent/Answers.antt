use Rattle.std.proofs.Common.{◌≡◌, ℕ, ◌<◌, List, [], ◌∷◌, ◌++◌, length, map, max, rules, sym, ap, ◌∙◌, subst}
use Rattle.std.specs.List.{All}
use Rattle.std.proofs.lemmas.List.{append-nil}
use Rattle.dy_core.specs.Logs.{Answer, IsAnswer}
use Rattle.dy_shares.specs.inside.Parts.{IsSessionShare, done_acks}
use Rattle.dy_shares.specs.Shares.{GetTold, SessionPart, answer_numbers, greatest, since_of, steps_of, with_get}
use Rattle.dy_shares.proofs.Keeping.{answer_numbers-append}
use Rattle.dy_shares.proofs.Sessions.{session_got, spent_each}
use Rattle.dy_shares.proofs.session_shares.SessionShare.note_get_lent.Goals as goal

-- the get matches at the new front, as those before it do
pub invariant_of-self-2 : goal.invariant_of-self-2
invariant_of-self-2 g c =
    let s = c.self.inside in
    let i = c.self.invariant.0 in
    let nodes = g.J.Naming.ring.nodes in
    let part : SessionPart = record { session = s.number; acks = done_acks s.share.part; spent = s.spent.items; gets = s.gets.items } in
    let acks : length s.spent.items ≡ length part.acks = spent_each (steps_of s.front) part.acks s.spent.items i.spent_are in
    let seens = c.args.seens.now.items in
    let l = c.learn_all-self-inside in
    let lent = c.as_slice.ensures.value in
    let are = subst (All (IsAnswer (steps_of l.new.front))) lent l.ensures.are in
    let since : l.result ≡ max s.since (greatest (map (λ a. a.at) seens)) = l.ensures.since ∙ ap (λ xs. max s.since (greatest (map (λ a. a.at) xs))) lent in
    let later = subst (λ (p : SessionPart). All (λ a. since_of p < a.at) seens) (sym c.self.view_is) c.requires.later in
    let got = session_got nodes g.J.Naming.r s.share.index s.since l.result s.front l.new.front part seens i l.ensures.front are since l.ensures.reached c.requires.count c.requires.one_key c.requires.homes later in
    let len : c.len-acks.result ≡ length s.spent.items = search rules in
    let told : ℕ → ℕ → GetTold = λ since acks. record { since = since; answers = seens; acks = acks } in
    let pushed : c.push_reserved.new.self.items ≡ s.gets.items ++ told (since_of part) (length part.acks) ∷ [] =
    c.push_reserved.ensures.items
    ∙ (ap (λ gs. gs ++ c.of.result ∷ []) (search rules)
    ∙ (ap (λ x. s.gets.items ++ x ∷ []) c.of.ensures
    ∙ ap (λ n. s.gets.items ++ told n c.len-acks.result ∷ []) i.since_is
    ∙ ap (λ n. s.gets.items ++ told (since_of part) n ∷ []) (len ∙ acks))) in
    let get = told (since_of part) (length part.acks) in
    let number_of = λ (a : Answer). a.at in
    let one : answer_numbers (get ∷ []) ≡ map number_of seens = append-nil (map number_of seens) in
    let lent-2 = c.as_slice-2.ensures.value in
    let numbers = c.push_numbers.ensures
    ∙ (ap (λ xs. c.reserve-2.new.self.items ++ map number_of xs) lent-2
    ∙ (ap (λ xs. xs ++ map number_of seens) (c.reserve-2.ensures.items ∙ c.self.invariant.1.fetches_are)
    ∙ sym (ap answer_numbers pushed ∙ (answer_numbers-append s.gets.items (get ∷ []) ∙ ap (λ xs. answer_numbers s.gets.items ++ xs) one)))) in (
      subst (λ (gs : List GetTold). IsSessionShare nodes g.J.Naming.r s.share.index l.result l.new.front (record { session = s.number; acks = done_acks s.share.part; spent = s.spent.items; gets = gs })) (sym pushed) got,
      record { acks_are = c.self.invariant.1.acks_are; fetches_are = numbers },
    )

-- it stands behind as many acks as the session was told so far
pub returns-clause-ok : goal.returns-clause-ok
returns-clause-ok g c =
    let s = c.self.inside in
    let i = c.self.invariant.0 in
    let part : SessionPart = record { session = s.number; acks = done_acks s.share.part; spent = s.spent.items; gets = s.gets.items } in
    let acks : length s.spent.items ≡ length part.acks = spent_each (steps_of s.front) part.acks s.spent.items i.spent_are in
    let seens = c.args.seens.now.items in
    let len : c.len-acks.result ≡ length s.spent.items = search rules in
    let told : ℕ → ℕ → GetTold = λ since acks. record { since = since; answers = seens; acks = acks } in
    let pushed : c.push_reserved.new.self.items ≡ s.gets.items ++ told (since_of part) (length part.acks) ∷ [] =
    c.push_reserved.ensures.items
    ∙ (ap (λ gs. gs ++ c.of.result ∷ []) (search rules)
    ∙ (ap (λ x. s.gets.items ++ x ∷ []) c.of.ensures
    ∙ ap (λ n. s.gets.items ++ told n c.len-acks.result ∷ []) i.since_is
    ∙ ap (λ n. s.gets.items ++ told (since_of part) n ∷ []) (len ∙ acks))) in
    let with_gets : List GetTold → SessionPart = λ gs. record { session = s.number; acks = done_acks s.share.part; spent = s.spent.items; gets = gs } in
    ap with_gets pushed ∙ ap (λ p. with_get p (since_of p) seens) c.self.view_is
