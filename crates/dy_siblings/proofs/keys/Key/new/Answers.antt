-- Short bytes lie in place, and what is shown of them is all.
use Rattle.std.proofs.Common.{◌≡◌, ◌∙◌, ◌<◌, ◌++◌, ◌∷◌, [], List, ℕ, length, take, get_or, sym, ap, subst, arith, rules, refl}
use Rattle.std.specs.Arc.{arc_value}
use Rattle.dy_siblings.specs.inside.Leads.{AreFilled, IsLong, IsShort, bytes_from, front_of}
use Rattle.dy_siblings.proofs.Leads.{front_take}
use Rattle.dy_siblings.proofs.Words.{same_front, taken}
use Rattle.dy_siblings.proofs.keys.Key.new.Goals as goal

-- the front, the bytes, and what they were filled up to
fronted : (bytes all front : List ℕ) → AreFilled bytes all →
    front ≡ bytes_from 14 0 all ++ length bytes ∷ [] → front ≡ front_of bytes
unfolding front_of
fronted bytes all front filled is = is ∙ (λ i. same_front 14 0 bytes all filled i ++ length bytes ∷ [])

pub returns-then-bytes-le-SHORT_KEY_BYTES-clause-value : goal.returns-then-bytes-le-SHORT_KEY_BYTES-clause-value
returns-then-bytes-le-SHORT_KEY_BYTES-clause-value c =
    ap (λ front. take (get_or front 14 0) front)
    (fronted c.args.bytes.now c.filled-all.result c.front_of-front.result c.filled-all.ensures.value c.front_of-front.ensures)
    ∙ front_take c.args.bytes.now c.if-bytes-le-SHORT_KEY_BYTES.true

pub invariant_of-result : goal.invariant_of-result
invariant_of-result c =
    let some : 0 < length c.args.bytes.now = search rules in
    subst (IsShort c.front_of-front.result)
    (sym (returns-then-bytes-le-SHORT_KEY_BYTES-clause-value c)) (record {
      size = (some, c.if-bytes-gt-MAX_KEY_BYTES.false);
      small = λ i. let fit = c.type_inv.bytes i in omega arith;
      front_is = fronted c.args.bytes.now c.filled-all.result c.front_of-front.result c.filled-all.ensures.value c.front_of-front.ensures;
      few = c.if-bytes-le-SHORT_KEY_BYTES.true;
    })

-- so many bytes of those filled up are all
pub returns-clause-value : goal.returns-clause-value
returns-clause-value c =
    taken (length c.args.bytes.now) c.args.bytes.now (arc_value c.in_ok-whole.whole) refl
    (subst (AreFilled c.args.bytes.now) (sym c.in_ok-whole.ensures.ok) c.filled-all.ensures.value)
    (omega (arith, ap length c.in_ok-whole.ensures.ok, c.filled-all.ensures.size, c.if-bytes-gt-MAX_KEY_BYTES.false))

pub invariant_of-result-2 : goal.invariant_of-result-2
invariant_of-result-2 c =
    let some : 0 < length c.args.bytes.now = search rules in
    subst (IsLong (length c.args.bytes.now) (arc_value c.in_ok-whole.whole))
    (sym (returns-clause-value c)) (record {
      size = (some, c.if-bytes-gt-MAX_KEY_BYTES.false);
      small = λ i. let fit = c.type_inv.bytes i in omega arith;
      count_is = refl;
      many = c.if-bytes-le-SHORT_KEY_BYTES.false;
      filled = subst (AreFilled c.args.bytes.now) (sym c.in_ok-whole.ensures.ok) c.filled-all.ensures.value;
    })
