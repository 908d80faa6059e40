-- Of the members that were gone through, the last one of the name is found.
use Rattle.std.proofs.Common.{◌≡◌, ◌++◌, ◌∷◌, [], true, false, cond, Some, bytes_eq, rules, sym, ap, ◌∙◌, append_assoc}
use Rattle.std.proofs.lemmas.List.{append-nil, nil_from_length}
use Rattle.json.specs.Find as find
use Rattle.json.specs.Value.{value_view, members_view}
use Rattle.dy_script.proofs.LookUps.{last_found, member_taken, object_found}
use Rattle.dy_script.proofs.members.taken.Goals as goal

pub loop-key-preserved-then-eq : goal.loop-key-preserved-then-eq
loop-key-preserved-then-eq c =
    let found = find.get_member c.args.name.now (members_view c.loop-key.yielded) in
    let is : bytes_eq c.in-Some.key.now c.args.name.now ≡ true = search rules in
    record {
      last = sym (last_found c.args.name.now c.loop-key.yielded c.in-Some.key c.in-Some.member ∙ ap (λ b. cond b (Some (value_view c.in-Some.member)) found) is);
      whole =
          append_assoc c.loop-key.yielded ((c.in-Some.key, c.in-Some.member) ∷ []) c.next.new.self.rest.items
          ∙ (ap (λ xs. c.loop-key.yielded ++ xs) (sym c.in-Some.ensures.steps.0) ∙ c.loop-key.invariant.whole);
    }

pub loop-key-preserved-else-eq : goal.loop-key-preserved-else-eq
loop-key-preserved-else-eq c =
    let found = find.get_member c.args.name.now (members_view c.loop-key.yielded) in
    let is : bytes_eq c.in-Some.key.now c.args.name.now ≡ false = search rules in
    record {
      last = c.loop-key.invariant.last ∙ sym (last_found c.args.name.now c.loop-key.yielded c.in-Some.key c.in-Some.member ∙ ap (λ b. cond b (Some (value_view c.in-Some.member)) found) is);
      whole =
          append_assoc c.loop-key.yielded ((c.in-Some.key, c.in-Some.member) ∷ []) c.next.new.self.rest.items
          ∙ (ap (λ xs. c.loop-key.yielded ++ xs) (sym c.in-Some.ensures.steps.0) ∙ c.loop-key.invariant.whole);
    }

pub loop-key-preserved-else-eq-2 : goal.loop-key-preserved-else-eq-2
loop-key-preserved-else-eq-2 c =
    let found = find.get_member c.args.name.now (members_view c.loop-key.yielded) in
    let is : bytes_eq c.in-Some.key.now c.args.name.now ≡ false = search rules in
    record {
      last = c.loop-key.invariant.last ∙ sym (last_found c.args.name.now c.loop-key.yielded c.in-Some.key c.in-Some.member ∙ ap (λ b. cond b (Some (value_view c.in-Some.member)) found) is);
      whole =
          append_assoc c.loop-key.yielded ((c.in-Some.key, c.in-Some.member) ∷ []) c.next.new.self.rest.items
          ∙ (ap (λ xs. c.loop-key.yielded ++ xs) (sym c.in-Some.ensures.steps.0) ∙ c.loop-key.invariant.whole);
    }

pub loop-key-preserved : goal.loop-key-preserved
loop-key-preserved c =
    let found = find.get_member c.args.name.now (members_view c.loop-key.yielded) in
    let is : bytes_eq c.in-Some.key.now c.args.name.now ≡ false = search rules in
    record {
      last = c.loop-key.invariant.last ∙ sym (last_found c.args.name.now c.loop-key.yielded c.in-Some.key c.in-Some.member ∙ ap (λ b. cond b (Some (value_view c.in-Some.member)) found) is);
      whole =
          append_assoc c.loop-key.yielded ((c.in-Some.key, c.in-Some.member) ∷ []) c.next.new.self.rest.items
          ∙ (ap (λ xs. c.loop-key.yielded ++ xs) (sym c.in-Some.ensures.steps.0) ∙ c.loop-key.invariant.whole);
    }

pub returns : goal.returns
returns c =
    let none : c.loop-key.key-iterator.rest.items ≡ [] = nil_from_length _ (sym c.loop-key.key-iterator.rest.ok.0 ∙ c.in-None.ensures.steps.0) in
    let all : c.loop-key.yielded ≡ c.in-Object.members.items =
    sym (append-nil c.loop-key.yielded) ∙ (ap (λ xs. c.loop-key.yielded ++ xs) (sym none) ∙ (c.loop-key.invariant.whole ∙ search rules)) in
    let same : find.get_member c.args.name.now (members_view c.in-Object.members.items) ≡ find.get c.args.name.now (value_view c.args.value) =
    sym (ap (λ v. find.get c.args.name.now (value_view v)) c.in-Object.is ∙ object_found c.args.name.now c.in-Object.members) in
    member_taken c.loop-key.found c.args.name.now (value_view c.args.value)
    (c.loop-key.invariant.last ∙ (ap (λ ms. find.get_member c.args.name.now (members_view ms)) all ∙ same))
