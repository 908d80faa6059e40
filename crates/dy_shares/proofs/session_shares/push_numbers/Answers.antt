use Rattle.std.proofs.Common.{◌≡◌, ◌++◌, ◌∷◌, [], map, take, length, length-append, sym, ap, ◌∙◌, arith}
use Rattle.std.proofs.lemmas.List.{append_assoc, length-map, length-take-le, map-append, take_all, take_more}
use Rattle.dy_core.specs.Logs.{Answer}
use Rattle.dy_shares.proofs.session_shares.push_numbers.Goals as goal

-- there is room for as many as are left
pub push_reserved-requires : goal.push_reserved-requires
push_reserved-requires g c =
    let l = c.loop-seen in
    let old = c.args.numbers.now in
    let some = take l.seen-index c.args.seens.now in
    let at = λ (a : Answer). a.at in
    let long = ap length l.invariant.given ∙ length-append old.items (map at some) in
    let mapped = length-map some at ∙ length-take-le l.seen-index c.args.seens.now (omega (arith, c.loop-seen-test.true)) in
    omega (arith, l.numbers.ok.0, old.ok.0, long, mapped, c.loop-seen-test.true, c.requires, l.invariant.room)

-- one number more
pub loop-seen-preserved : goal.loop-seen-preserved
loop-seen-preserved g c =
    let l = c.loop-seen in
    let old = c.args.numbers.now.items in
    let seens = c.args.seens.now in
    let a = c.seen-item.result in
    let at = λ (x : Answer). x.at in
    let some = take l.seen-index seens in
    let more = take_more seens l.seen-index a c.loop-seen-test.true ∙ ap (λ x. some ++ x ∷ []) (sym c.seen-item.is) in
    record {
      given = c.push_reserved.ensures.items
          ∙ (ap (λ n. l.numbers.items ++ n ∷ []) c.at.ensures
          ∙ (ap (λ xs. xs ++ a.at ∷ []) l.invariant.given
          ∙ (append_assoc old (map at some) (a.at ∷ [])
          ∙ ap (λ xs. old ++ xs) (sym (ap (map at) more ∙ map-append at some (a ∷ []))))));
      room = c.push_reserved.ensures.capacity ∙ l.invariant.room;
    }

pub returns : goal.returns
returns g c =
    let l = c.loop-seen in
    l.invariant.given ∙ ap (λ xs. c.args.numbers.now.items ++ map (λ (a : Answer). a.at) xs) (take_all l.seen-index c.args.seens.now c.loop-seen-test.false)
