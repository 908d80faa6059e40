-- What a seat of the roll has done is what the log says of its node or session.
use Rattle.std.proofs.Common.{◌≡◌, ◌≢◌, ℕ, ◌+◌, ◌<◌, ◌==◌, Bool, true, false, cond, List, [], ◌∷◌, ◌++◌, length, filter, Option, refl, sym, ap, ◌∙◌, arith}
use Rattle.std.proofs.lemmas.List.{append_assoc}
use Rattle.std.proofs.lemmas.List.Elements.{recursion_from_All}
use Rattle.std.proofs.lemmas.Bool.Decides.{nat_tests}
use Rattle.std.specs.List.{AllByRecursion as ByRecursion}
use Rattle.dy_core.specs.declared.steps.Step.{Step}
use Rattle.dy_core.specs.declared.steps.Step.TheVariants.{Issue, Hold, Release, Fetch, Ack}
use Rattle.dy_shares.specs.declared.entries.Entry.{Entry}
use Rattle.dy_shares.specs.declared.entries.Done.{Done}
use Rattle.dy_shares.specs.Shares.{names, node_of, steps_of, ack_at, acks_from, IsOwnedStep, AreOwned, session_acks}
use Rattle.dy_shares.specs.inside.Parts.{seat_by, seat_of, numbered, entries_of, done_from, done_steps, done_acks}
use Rattle.dy_shares.proofs.Rolls.{names_none}

apart_test : (n k : ℕ) → n ≢ k → (n == k) ≡ false
apart_test n k apart = by_test (n == k) refl
  where
    by_test : (b : Bool) → (n == k) ≡ b → b ≡ false
    by_test true h = absurd (apart (grind (arith, nat_tests)))
    by_test false h = refl

shift_test : (m j k : ℕ) → (m + j == m + k) ≡ (j == k)
shift_test m j k = by_test (m + j == m + k) (j == k) refl refl
  where
    by_test : (a b : Bool) → (m + j == m + k) ≡ a → (j == k) ≡ b → a ≡ b
    by_test true true h i = refl
    by_test false false h i = refl
    by_test true false h i = absurd (grind (arith, nat_tests))
    by_test false true h i = absurd (grind (arith, nat_tests))

-- a node's seat has the steps that are the node's own
seat_is_node : (nodes sessions k : ℕ) (told : Option ℕ) (s : Step) → k < nodes → IsOwnedStep nodes sessions told s → names k (seat_by nodes told s) ≡ names k (node_of s)
seat_is_node nodes sessions k told (Issue node key context value) low o = ap (λ t. names k (seat_by nodes t (Issue node key context value))) o.0
seat_is_node nodes sessions k told (Hold p row) low o = ap (λ t. names k (seat_by nodes t (Hold p row))) o.0
seat_is_node nodes sessions k told (Release p key d) low o = ap (λ t. names k (seat_by nodes t (Release p key d))) o.0
seat_is_node nodes sessions k told (Fetch p key) low o = ap (λ t. names k (seat_by nodes t (Fetch p key))) o
seat_is_node nodes sessions k told (Ack key d w) low o =
    ap (λ t. names k (seat_by nodes t (Ack key d w))) o.1 ∙ apart_test (nodes + o.0) k (λ is. omega (arith, is, low))

-- a session's seat has the acks that the session was told
seat_is_session : (nodes sessions j : ℕ) (told : Option ℕ) (s : Step) → IsOwnedStep nodes sessions told s → names (nodes + j) (seat_by nodes told s) ≡ names j told
seat_is_session nodes sessions j told (Issue node key context value) o =
    ap (λ t. names (nodes + j) (seat_by nodes t (Issue node key context value))) o.0 ∙ (apart_test node (nodes + j) (λ is. omega (arith, is, o.1)) ∙ sym (names_none j told o.0))
seat_is_session nodes sessions j told (Hold p row) o =
    ap (λ t. names (nodes + j) (seat_by nodes t (Hold p row))) o.0 ∙ (apart_test p.holder (nodes + j) (λ is. omega (arith, is, o.1)) ∙ sym (names_none j told o.0))
seat_is_session nodes sessions j told (Release p key d) o =
    ap (λ t. names (nodes + j) (seat_by nodes t (Release p key d))) o.0 ∙ (apart_test p.holder (nodes + j) (λ is. omega (arith, is, o.1)) ∙ sym (names_none j told o.0))
seat_is_session nodes sessions j told (Fetch p key) o =
    ap (λ t. names (nodes + j) (seat_by nodes t (Fetch p key))) o ∙ sym (names_none j told o)
seat_is_session nodes sessions j told (Ack key d w) o =
    ap (λ t. names (nodes + j) (seat_by nodes t (Ack key d w))) o.1 ∙ (shift_test nodes o.0 j ∙ ap (names j) (sym o.1))

module _ (nodes sessions : ℕ) where
  abbrev Owned : Entry → Type 0
  Owned e = IsOwnedStep nodes sessions e.told e.step

  node_steps_by : (at k : ℕ) (log : List Entry) → k < nodes → ByRecursion Owned log → done_steps (done_from nodes at k log) ≡ filter (λ s. names k (node_of s)) (steps_of log)
  node_steps_by at k [] low a = refl
  node_steps_by at k (e ∷ es) low a =
      by_test (names k (seat_of nodes e)) (names k (node_of e.step)) (seat_is_node nodes sessions k e.told e.step low a.0) (node_steps_by (at + 1) k es low a.1)
    where
      by_test : (b c : Bool) → b ≡ c → done_steps (done_from nodes (at + 1) k es) ≡ filter (λ s. names k (node_of s)) (steps_of es)
          → done_steps (cond b (record { at = at; step = e.step } ∷ done_from nodes (at + 1) k es) (done_from nodes (at + 1) k es))
          ≡ cond c (e.step ∷ filter (λ s. names k (node_of s)) (steps_of es)) (filter (λ s. names k (node_of s)) (steps_of es))
      by_test true true same rest = ap (λ ss. e.step ∷ ss) rest
      by_test false false same rest = rest
      by_test true false same rest = absurd (cc same)
      by_test false true same rest = absurd (cc same)

  -- what a node's seat has done is the node's part of the log
  pub place_of_node : (k : ℕ) (log : List Entry) → k < nodes → AreOwned nodes sessions log → done_steps (done_from nodes 1 k log) ≡ filter (λ s. names k (node_of s)) (steps_of log)
  place_of_node k log low all = node_steps_by 1 k log low (recursion_from_All Owned log all)

  acks_by : (at j : ℕ) (log : List Entry) → ByRecursion Owned log → done_acks (done_from nodes at (nodes + j) log) ≡ acks_from at j log
  acks_by at j [] a = refl
  acks_by at j (e ∷ es) a =
      by_test (names (nodes + j) (seat_of nodes e)) (names j e.told) (seat_is_session nodes sessions j e.told e.step a.0) (acks_by (at + 1) j es a.1)
    where
      by_test : (b c : Bool) → b ≡ c → done_acks (done_from nodes (at + 1) (nodes + j) es) ≡ acks_from (at + 1) j es
          → done_acks (cond b (record { at = at; step = e.step } ∷ done_from nodes (at + 1) (nodes + j) es) (done_from nodes (at + 1) (nodes + j) es))
          ≡ cond c (ack_at at e.step) [] ++ acks_from (at + 1) j es
      by_test true true same rest = ap (λ acks. ack_at at e.step ++ acks) rest
      by_test false false same rest = rest
      by_test true false same rest = absurd (cc same)
      by_test false true same rest = absurd (cc same)

  -- what a session's seat has done are the acks that the log told the session
  pub place_of_session : (j : ℕ) (log : List Entry) → AreOwned nodes sessions log → done_acks (done_from nodes 1 (nodes + j) log) ≡ session_acks j log
  place_of_session j log all = acks_by 1 j log (recursion_from_All Owned log all)

-- a part with more done
pub done_steps-append : (xs ys : List Done) → done_steps (xs ++ ys) ≡ done_steps xs ++ done_steps ys
done_steps-append [] ys = refl
done_steps-append (x ∷ xs) ys = ap (λ ss. x.step ∷ ss) (done_steps-append xs ys)

pub done_steps-numbered : (at : ℕ) (ss : List Step) → done_steps (numbered at ss) ≡ ss
done_steps-numbered at [] = refl
done_steps-numbered at (s ∷ ss) = ap (λ xs. s ∷ xs) (done_steps-numbered (at + 1) ss)

pub done_acks-append : (xs ys : List Done) → done_acks (xs ++ ys) ≡ done_acks xs ++ done_acks ys
done_acks-append [] ys = refl
done_acks-append (x ∷ xs) ys = ap (λ acks. ack_at x.at x.step ++ acks) (done_acks-append xs ys) ∙ sym (append_assoc (ack_at x.at x.step) (done_acks xs) (done_acks ys))

pub steps_of-append : (xs ys : List Entry) → steps_of (xs ++ ys) ≡ steps_of xs ++ steps_of ys
steps_of-append [] ys = refl
steps_of-append (x ∷ xs) ys = ap (λ ss. x.step ∷ ss) (steps_of-append xs ys)

pub steps_of-entries : (told : Option ℕ) (ss : List Step) → steps_of (entries_of told ss) ≡ ss
steps_of-entries told [] = refl
steps_of-entries told (s ∷ ss) = ap (λ xs. s ∷ xs) (steps_of-entries told ss)

pub steps_of-length : (xs : List Entry) → length (steps_of xs) ≡ length xs
steps_of-length [] = refl
steps_of-length (x ∷ xs) = omega (arith, steps_of-length xs)
