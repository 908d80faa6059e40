use Rattle.std.proofs.Common.{◌≡◌, ◌∙◌, ℕ, length, min, subst, rules}
use Rattle.std.proofs.lemmas.List.{nil_from_length}
use Rattle.std.specs.Slice.Iter.{chunks_rest}
use Rattle.dy_lines.proofs.Telling.{gets_all, gets_next, gets_none}
use Rattle.dy_lines.proofs.tellings.write_gets.Goals as goal

-- all are left
pub loop-used-init : goal.loop-used-init
loop-used-init g c =
    record {
      can_next = search rules;
      is_finite = tt;
      size = search rules;
      so_far = λ gets are. gets_none c.args.r c.args.session _ gets _ (record {
        numbers_are = cc;
        uses = are.uses;
      });
    }

-- this turn writes the next get
pub loop-used-preserved : goal.loop-used-preserved
loop-used-preserved g c =
    let r = c.args.r in
    let session = c.args.session in
    let used = c.in-Some.used.now in
    let steps = c.in-Some.ensures.steps in
    let before = c.loop-used.invariant in
    let all = chunks_rest c.loop-used.used-iterator in
    let left = chunks_rest c.next.new.self in
    let few : length used ≡ min r (length all) =
    subst (λ (n : ℕ). length used ≡ min n (length all)) before.size steps.1.1 in
    record {
      can_next = search rules;
      is_finite = tt;
      size = steps.0 ∙ before.size;
      so_far = λ gets are. gets_next r session all used left gets _ _ _ steps.1.0 few steps.1.2
          (before.so_far gets are) c.in_ok-write_whole.ensures.bytes;
    }

-- no fetch is left
pub returns : goal.returns
returns g c =
    let before = c.loop-used.invariant in
    let none = nil_from_length _ c.in-None.ensures.steps.1.0 in
    λ gets are. gets_all c.args.r c.args.session (chunks_rest c.loop-used.used-iterator) gets _ _
    c.requires.some none (before.so_far gets are)
