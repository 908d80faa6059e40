-- The text of runs, run by run.
use Rattle.std.proofs.Common.{◌≡◌, ℕ, suc, ◌+◌, ◌<◌, ◌==◌, true, false, List, ◌∷◌, ◌++◌, length, get_or, drop, sym, ap, ◌∙◌, arith, append_assoc, codes, decimal, if◌then◌else◌}
use Rattle.std.proofs.lemmas.Bool.{eqb-true}
use Rattle.dy_dots.specs.Spelling.{run_text, later_text}
use Rattle.dy_dots.specs.declared.runs.Run.{Run}
use Rattle.dy_dots.proofs.Lists.{from_place}

-- the text of the runs from a place on
from_run : (node i : ℕ) (rest : List Run) (r : Run) → i < length rest → r ≡ get_or rest i r → later_text node (drop i rest) ≡ later_text node (r ∷ drop (i + 1) rest)
from_run node i rest r lt read =
    let next : suc i ≡ i + 1 = omega arith in
    ap (later_text node) (from_place rest i r lt) ∙ ap (λ z. later_text node (z ∷ drop (suc i) rest)) (sym read) ∙ ap (λ k. later_text node (r ∷ drop k rest)) next

pub one_more : (done all : List ℕ) (node i : ℕ) (rest : List Run) (r : Run) → i < length rest → r ≡ get_or rest i r → (r.node == node) ≡ true → done ++ later_text node (drop i rest) ≡ all → (done ++ (codes "," ++ run_text r)) ++ later_text node (drop (i + 1) rest) ≡ all
one_more done all node i rest r lt read same before =
    let own : r.node ≡ node = eqb-true _ _ same in
    append_assoc done (codes "," ++ run_text r) (later_text node (drop (i + 1) rest))
    ∙ ap (λ n. done ++ ((codes "," ++ run_text r) ++ later_text n (drop (i + 1) rest))) (sym own)
    ∙ ap (λ b. done ++ (((if b then codes "," else codes " n" ++ decimal r.node ++ codes ":") ++ run_text r) ++ later_text r.node (drop (i + 1) rest))) (sym same)
    ∙ ap (λ l. done ++ l) (sym (from_run node i rest r lt read))
    ∙ before

pub one_node_more : (done all : List ℕ) (node i : ℕ) (rest : List Run) (r : Run) → i < length rest → r ≡ get_or rest i r → (r.node == node) ≡ false → done ++ later_text node (drop i rest) ≡ all → (done ++ (codes " n" ++ (decimal r.node ++ (codes ":" ++ run_text r)))) ++ later_text r.node (drop (i + 1) rest) ≡ all
one_node_more done all node i rest r lt read other before =
    ap (λ l. (done ++ l) ++ later_text r.node (drop (i + 1) rest)) (sym (append_assoc (codes " n" ++ decimal r.node) (codes ":") (run_text r)))
    ∙ append_assoc done (codes " n" ++ decimal r.node ++ codes ":" ++ run_text r) (later_text r.node (drop (i + 1) rest))
    ∙ ap (λ b. done ++ (((if b then codes "," else codes " n" ++ decimal r.node ++ codes ":") ++ run_text r) ++ later_text r.node (drop (i + 1) rest))) (sym other)
    ∙ ap (λ l. done ++ l) (sym (from_run node i rest r lt read))
    ∙ before
