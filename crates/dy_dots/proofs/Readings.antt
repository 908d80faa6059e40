-- Every text of runs is read.
use Rattle.std.proofs.Common.{◌≡◌, ◌↔◌, ℕ, ◌+◌, ◌-◌, ◌*◌, ◌/◌, ◌%◌, ◌≤◌, ◌==◌, Bool, IsTrue, true, false, List, [], ◌∷◌, ◌++◌, refl, sym, ap, ◌∙◌, arith, nat_eq, subst, Option, Some, None, codes, decimal, append_assoc, if◌then◌else◌, Result, Ok, Err, inl, inr}
use Rattle.std.proofs.lemmas.Bool.{eqb-true, lt-ltb, le-leb}
use Rattle.std.proofs.lemmas.Fmt.{decimal_by_steps}
use Rattle.std.specs.FinSet as set
use Rattle.std.specs.Cmp.Lexicographic.{pointwise, bytes_decides}
use Rattle.dy_dots.specs.Dots.{DotSet}
use Rattle.dy_dots.specs.Runs.{AreKept, AreRunsOf, set_of}
use Rattle.dy_dots.specs.Spelling.{run_text, later_text, runs_text, Spells, IsReadable, IsFound, IsReading, IsReadAs}
use Rattle.dy_dots.specs.inside.Reading.{run_to, read_from, read_runs, all_allowed}
use Rattle.dy_dots.specs.declared.faults.Fault.{Fault}
use Rattle.dy_dots.specs.declared.runs.Run.{Run}
use Rattle.dy_dots.proofs.Sets.{set_of_is, runs_are}
use Rattle.dy_dots.proofs.Sizes.{IsSmall, AreSmall, smalls_of, readable_runs, own_runs, allowed_kept, allowed_readable, kept_dots}

digit_step : (rs : List Run) (node : ℕ) (first : Option ℕ) (number b : ℕ) (bs : List ℕ) → 48 ≤ b → b ≤ 57 → number ≤ 1000000 → read_from rs node first number (b ∷ bs) ≡ read_from rs node first (number * 10 + (b - 48)) bs
digit_step rs node first number b bs low high fits = rw (le-leb 48 b low, le-leb b 57 high, le-leb number 1000000 fits) refl

digits : (rs : List Run) (node : ℕ) (first : Option ℕ) (n : ℕ) → n ≤ 1000000 → (tail : List ℕ) → read_from rs node first 0 (decimal n ++ tail) ≡ read_from rs node first n tail
digits rs node first n fits =
    decimal_by_steps (λ m ds. m ≤ 1000000 → (tail : List ℕ) → read_from rs node first 0 (ds ++ tail) ≡ read_from rs node first m tail)
    (λ m l f tail. digit_step rs node first 0 (48 + m) tail (omega arith) (omega arith) (omega arith) ∙ ap (λ k. read_from rs node first k tail) (omega arith))
    (λ m ds l before f tail.
    ap (λ bs. read_from rs node first 0 bs) (append_assoc ds ((48 + m % 10) ∷ []) tail)
    ∙ before (omega arith) ((48 + m % 10) ∷ tail)
    ∙ digit_step rs node first (m / 10) (48 + m % 10) tail (omega arith) (omega arith) (omega arith)
    ∙ ap (λ k. read_from rs node first k tail) (omega arith)) n (omega arith) fits

around : (a b c : List ℕ) (byte : ℕ) → ((a ++ byte ∷ []) ++ b) ++ c ≡ a ++ (byte ∷ (b ++ c))
around a b c byte = append_assoc (a ++ byte ∷ []) b c ∙ append_assoc a (byte ∷ []) (b ++ c)

-- after a run's text the reader stands at its last counter
pub record Stands (rs : List Run) (r : Run) : Type 0 where
  first : Option ℕ
  run_is : run_to r.node first r.last ≡ r
  reads : (tail : List ℕ) → read_from rs r.node None 0 (run_text r ++ tail) ≡ read_from rs r.node first r.last tail

run_reads : (rs : List Run) (r : Run) (b : Bool) → (r.first == r.last) ≡ b → IsSmall r → Stands rs r
run_reads rs r true e small =
    let same : r.first ≡ r.last = eqb-true _ _ e in
    record {
      first = None;
      run_is = λ i. record { node = r.node; first = sym same i; last = r.last };
      reads = λ tail.
          ap (λ b. read_from rs r.node None 0 ((if b then decimal r.first else decimal r.first ++ codes "-" ++ decimal r.last) ++ tail)) e
          ∙ digits rs r.node None r.first (omega (arith, small.2, small.3)) tail
          ∙ ap (λ k. read_from rs r.node None k tail) same;
    }
run_reads rs r false e small =
    record {
      first = Some r.first;
      run_is = refl;
      reads = λ tail.
          ap (λ b. read_from rs r.node None 0 ((if b then decimal r.first else decimal r.first ++ codes "-" ++ decimal r.last) ++ tail)) e
          ∙ ap (λ bs. read_from rs r.node None 0 bs) (around (decimal r.first) (decimal r.last) tail 45)
          ∙ digits rs r.node None r.first (omega (arith, small.2, small.3)) (45 ∷ (decimal r.last ++ tail))
          ∙ digits rs r.node (Some r.first) r.last (omega (arith, small.3)) tail;
    }

later_reads : (rs : List Run) (r : Run) (rest : List Run) → AreSmall (r ∷ rest) → read_from rs r.node None 0 (run_text r ++ later_text r.node rest) ≡ Some (rs ++ r ∷ rest)
later_reads rs r [] small =
    let at = run_reads rs r (r.first == r.last) refl small.0 in
    at.reads [] ∙ ap (λ z. Some (rs ++ z ∷ [])) at.run_is
later_reads rs r (x ∷ xs) small = go (later_reads (rs ++ r ∷ []) x xs small.1) (x.node == r.node) refl
  where
    at : Stands rs r
    at = run_reads rs r (r.first == r.last) refl small.0

    joined_up : Some ((rs ++ r ∷ []) ++ x ∷ xs) ≡ Some (rs ++ r ∷ x ∷ xs)
    joined_up = ap Some (append_assoc rs (r ∷ []) (x ∷ xs))

    go : read_from (rs ++ r ∷ []) x.node None 0 (run_text x ++ later_text x.node xs) ≡ Some ((rs ++ r ∷ []) ++ x ∷ xs) → (b : Bool) → (x.node == r.node) ≡ b → read_from rs r.node None 0 (run_text r ++ later_text r.node (x ∷ xs)) ≡ Some (rs ++ r ∷ x ∷ xs)
    go again true e =
        let same : x.node ≡ r.node = eqb-true _ _ e in
        ap (λ b. read_from rs r.node None 0 (run_text r ++ ((if b then codes "," else codes " n" ++ decimal x.node ++ codes ":") ++ run_text x ++ later_text x.node xs))) e
        ∙ at.reads (44 ∷ (run_text x ++ later_text x.node xs))
        ∙ ap (λ z. read_from (rs ++ z ∷ []) r.node None 0 (run_text x ++ later_text x.node xs)) at.run_is
        ∙ ap (λ n. read_from (rs ++ r ∷ []) n None 0 (run_text x ++ later_text x.node xs)) (sym same)
        ∙ again
        ∙ joined_up
    go again false e =
        ap (λ b. read_from rs r.node None 0 (run_text r ++ ((if b then codes "," else codes " n" ++ decimal x.node ++ codes ":") ++ run_text x ++ later_text x.node xs))) e
        ∙ at.reads ((codes " n" ++ decimal x.node ++ codes ":") ++ run_text x ++ later_text x.node xs)
        ∙ ap (λ z. read_from (rs ++ z ∷ []) r.node None 0 ((decimal x.node ++ codes ":") ++ run_text x ++ later_text x.node xs)) at.run_is
        ∙ ap (λ bs. read_from (rs ++ r ∷ []) r.node None 0 bs) (around (decimal x.node) (run_text x) (later_text x.node xs) 58)
        ∙ digits (rs ++ r ∷ []) r.node None x.node (omega (arith, small.1.0.0)) (58 ∷ (run_text x ++ later_text x.node xs))
        ∙ ap (λ b. if b then read_from (rs ++ r ∷ []) x.node None 0 (run_text x ++ later_text x.node xs) else None) (lt-ltb x.node 32 small.1.0.0)
        ∙ again
        ∙ joined_up

pub text_reads : (r : Run) (rest : List Run) → AreSmall (r ∷ rest) → read_runs (runs_text (r ∷ rest)) ≡ Some (r ∷ rest)
text_reads r rest small =
    ap (λ bs. read_from [] 0 None 0 bs) (around (decimal r.node) (run_text r) (later_text r.node rest) 58)
    ∙ digits [] 0 None r.node (omega (arith, small.0.0)) (58 ∷ (run_text r ++ later_text r.node rest))
    ∙ ap (λ b. if b then read_from [] r.node None 0 (run_text r ++ later_text r.node rest) else None) (lt-ltb r.node 32 small.0.0)
    ∙ later_reads [] r rest small

pub no_true : false ≡ true → ⊥
no_true e = cc

-- what reading a spelling of a set that a text may name comes to
pub record ReadsBack (bytes : List ℕ) : Type 0 where
  pub runs : List Run
  pub read : read_runs bytes ≡ Some runs
  pub allowed : all_allowed 0 0 100000 runs ≡ true
  pub bytes_are : bytes ≡ runs_text runs

pub reads_back : (bytes : List ℕ) (s : DotSet) → (bytes ≡ codes "-" → ⊥) → Spells bytes s → IsReadable s → ReadsBack bytes
reads_back bytes s other spells fit = go spells.runs spells.are_runs spells.bytes_are
  where
    go : (rs : List Run) → AreRunsOf rs s → bytes ≡ runs_text rs → ReadsBack bytes
    go [] are e = absurd (other e)
    go (r ∷ rest) are e = record {
      runs = r ∷ rest;
      read = ap read_runs e ∙ text_reads r rest (smalls_of (r ∷ rest) s are spells.are_dots);
      allowed = readable_runs (r ∷ rest) s are spells.are_dots fit;
      bytes_are = e;
    }

pub not_dash : (bytes : List ℕ) → pointwise nat_eq bytes (45 ∷ []) ≡ false → bytes ≡ codes "-" → ⊥
not_dash bytes no_match e = no_true (sym no_match ∙ ap (λ l. pointwise nat_eq l (45 ∷ [])) e)

pub found_runs : (bytes : List ℕ) (rs : List Run) → all_allowed 0 0 100000 rs ≡ true → bytes ≡ runs_text rs → Spells bytes (set_of rs) × IsReadable (set_of rs)
found_runs bytes rs e is =
    let kept = allowed_kept rs e in
    (record { runs = rs; are_runs = own_runs rs kept.apart; are_dots = kept_dots rs _ kept refl; bytes_are = is }, allowed_readable rs e)

-- a comparison with what is the text decides whether the other is the text
pub decided : (text bytes other : List ℕ) (r : Bool) → bytes ≡ text → r ≡ pointwise nat_eq bytes other → IsTrue r ↔ (text ≡ other)
decided text bytes other r is compared = (λ yes. sym is ∙ (bytes_decides bytes other).0 (sym compared ∙ yes), λ same. compared ∙ (bytes_decides bytes other).1 (is ∙ same))

dash : (bytes : List ℕ) → pointwise nat_eq bytes (45 ∷ []) ≡ true → bytes ≡ codes "-"
dash bytes e = (bytes_decides bytes (45 ∷ [])).0 e

pub found_empty : (bytes : List ℕ) (s : DotSet) → s ≡ set.empty → pointwise nat_eq bytes (45 ∷ []) ≡ true → Spells bytes s × IsReadable s
found_empty bytes s none e = subst (λ t. Spells bytes t × IsReadable t) (sym none) (found_runs bytes [] refl (dash bytes e))

-- the three refusals
pub refused_unread : (bytes : List ℕ) → (bytes ≡ codes "-" → ⊥) → read_runs bytes ≡ None → (s : DotSet) → Spells bytes s → IsReadable s → ⊥
refused_unread bytes other none s spells fit =
    let back = reads_back bytes s other spells fit in
    some_none (sym back.read ∙ none)
  where
    some_none : {rs : List Run} → Some rs ≡ None → ⊥
    some_none e = cc

some_same : (xs ys : List Run) → Some xs ≡ Some ys → xs ≡ ys
some_same xs ys e = cc

pub refused_unfit : (bytes : List ℕ) (rs : List Run) → (bytes ≡ codes "-" → ⊥) → read_runs bytes ≡ Some rs → all_allowed 0 0 100000 rs ≡ false → (s : DotSet) → Spells bytes s → IsReadable s → ⊥
refused_unfit bytes rs other read unfit s spells fit =
    let back = reads_back bytes s other spells fit in
    let same = some_same rs back.runs (sym read ∙ back.read) in
    no_true (sym unfit ∙ ap (all_allowed 0 0 100000) same ∙ back.allowed)

pub refused_other : (bytes : List ℕ) (rs : List Run) → (bytes ≡ codes "-" → ⊥) → read_runs bytes ≡ Some rs → (runs_text rs ≡ bytes → ⊥) → (s : DotSet) → Spells bytes s → IsReadable s → ⊥
refused_other bytes rs other read differs s spells fit =
    let back = reads_back bytes s other spells fit in
    let same = some_same rs back.runs (sym read ∙ back.read) in
    differs (ap runs_text same ∙ sym back.bytes_are)

pub written : (rs : List Run) (s : DotSet) (bytes : List ℕ) → AreKept rs → set_of rs ≡ s → bytes ≡ runs_text rs → Spells bytes s
written rs s bytes kept is_set is = record { runs = rs; are_runs = runs_are rs rs s kept.apart is_set refl; are_dots = kept_dots rs s kept is_set; bytes_are = is }

no_head : (tail : List ℕ) → 45 ∷ [] ≡ 110 ∷ tail → ⊥
no_head tail e = cc

pub one_set : (bytes : List ℕ) (s t : DotSet) → Spells bytes s → Spells bytes t → s ≡ t
one_set bytes s t p q = sym (set_of_is p.runs s p.are_runs.members) ∙ ap set_of (go p.runs q.runs p.are_runs q.are_runs (sym p.bytes_are ∙ q.bytes_are)) ∙ set_of_is q.runs t q.are_runs.members
  where
    go : (xs ys : List Run) → AreRunsOf xs s → AreRunsOf ys t → runs_text xs ≡ runs_text ys → xs ≡ ys
    go [] [] x y e = refl
    go [] (b ∷ ys) x y e = absurd (no_head _ e)
    go (a ∷ xs) [] x y e = absurd (no_head _ (sym e))
    go (a ∷ xs) (b ∷ ys) x y e =
        some_same (a ∷ xs) (b ∷ ys) (sym (text_reads a xs (smalls_of (a ∷ xs) s x p.are_dots)) ∙ ap read_runs e ∙ text_reads b ys (smalls_of (b ∷ ys) t y q.are_dots))

-- what spells a set is read as that set, memory aside
pub read_as : (bytes : List ℕ) (s : DotSet) (answer : Result DotSet Fault) → IsFound bytes s → IsReading bytes answer → IsReadAs s answer
read_as bytes s (Ok t) found (ok, err) = inl (ap Ok (one_set bytes t s ok.0 found.0))
read_as bytes s (Err fault) found (ok, inl e) = inr (ap Err e)
read_as bytes s (Err fault) found (ok, inr p) = absurd (p.1 s found.0 found.1)
