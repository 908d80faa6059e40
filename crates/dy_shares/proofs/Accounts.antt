-- A ledger stays one, and each share that agrees with its roll belongs to its log.
use Rattle.std.proofs.Common.{◌≡◌, ℕ, suc, ◌+◌, ◌<◌, List, [], ◌∷◌, ◌++◌, length, length-append, map, nat_eq, drop, set, Option, None, Some, slice_index_or, refl, sym, ap, ◌∙◌, subst, arith}
use Rattle.std.specs.Prelude.{MatchOption}
use Rattle.std.specs.List.{All, AllByRecursion as ByRecursion, IsDistinct, cons_option}
use Rattle.std.proofs.lemmas.List.Elements.{All-append, All-weaker, All-cons, All-nil, recursion_from_All}
use Rattle.std.proofs.Math.Seq.{drop-append_seam}
use mathlib.Core.Option.{some}
use lib.ListN.{get_elem?}
use Rattle.dy_core.specs.Worlds.{Layout, empty_world}
use Rattle.dy_core.specs.Logs.{world_after, IsLegal, IsLegalFrom}
use Rattle.dy_core.specs.declared.acks.Acked.{Acked}
use Rattle.dy_core.specs.declared.steps.Step.{Step}
use Rattle.dy_core.specs.declared.steps.Step.TheVariants.{Issue, Hold, Release, Fetch, Ack}
use Rattle.dy_core.proofs.OverLogs.{legal_join}
use Rattle.dy_shares.specs.declared.entries.Entry.{Entry}
use Rattle.dy_shares.specs.declared.entries.Done.{Done}
use Rattle.dy_shares.specs.Shares.{ack_at, ack_of, acks_of, node_of, first_parts, with_steps, steps_of, IsOwnedStep, AreOwned, BelongsTo, SessionBelongsTo, NodePart, SessionPart, AreAll, Account, HasNode, HasSession}
use Rattle.dy_shares.specs.inside.Parts.{entries_of, numbered, done_steps, done_acks, AreOf, IsPartOf, IsRollOf, IsLedger, Held, held, done_from, AgreesAsNode, AgreesAsSession}
use Rattle.dy_shares.proofs.Rolls.{roll_free, roll_opened, roll_means, roll_grown}
use Rattle.std.proofs.lemmas.List.{append-nil}
use Rattle.dy_shares.proofs.Owners.{place_of_node, place_of_session, steps_of-append, steps_of-entries, steps_of-length, done_steps-append, done_steps-numbered, done_acks-append}
use Rattle.dy_shares.proofs.Showing.{part_belongs}

-- the acks of more steps
acks_of-append : (xs ys : List Step) → acks_of (xs ++ ys) ≡ acks_of xs ++ acks_of ys
acks_of-append [] ys = refl
acks_of-append (x ∷ xs) ys = ap (cons_option (ack_of x)) (acks_of-append xs ys) ∙ one_more (ack_of x)
  where
    one_more : (o : Option Acked) → cons_option o (acks_of xs ++ acks_of ys) ≡ cons_option o (acks_of xs) ++ acks_of ys
    one_more None = refl
    one_more (Some a) = refl

no_ack : (node : ℕ) (s : Step) → node_of s ≡ Some node → ack_of s ≡ None
no_ack node (Issue n key context value) is = refl
no_ack node (Hold p row) is = refl
no_ack node (Release p key d) is = refl
no_ack node (Fetch p key) is = refl
no_ack node (Ack key d w) is = absurd (cc is)

-- a node's steps are no acks
pub no_acks : (node : ℕ) (ss : List Step) → All (λ s. node_of s ≡ Some node) ss → acks_of ss ≡ []
no_acks node ss all = by_recursion ss (recursion_from_All (λ s. node_of s ≡ Some node) ss all)
  where
    by_recursion : (ss : List Step) → ByRecursion (λ s. node_of s ≡ Some node) ss → acks_of ss ≡ []
    by_recursion [] a = refl
    by_recursion (s ∷ ss) a = rw (no_ack node s a.0) (by_recursion ss a.1)

-- where no ack is given, none is among the steps
pub without_ack : (o : Option Acked) (acks : List Acked) → MatchOption o (acks ≡ []) (λ a. acks ≡ a ∷ []) → ((a : Acked) → o ≡ Some a → ⊥) → acks ≡ []
without_ack None acks m not_some = m
without_ack (Some a) acks m not_some = absurd (not_some a refl)

module _ (nodes : ℕ) (layout : Layout) where
  -- the steps of the log, their number, their acks, and that they are legal, with more steps
  steps_more : (log : List Entry) (told : Option ℕ) (ss : List Step) → steps_of log ++ ss ≡ steps_of (log ++ entries_of told ss)
  steps_more log told ss = ap (λ xs. steps_of log ++ xs) (sym (steps_of-entries told ss)) ∙ sym (steps_of-append log (entries_of told ss))

  counted_more : (steps : ℕ) (log : List Entry) (told : Option ℕ) (ss : List Step) → steps ≡ length log → steps + length ss ≡ length (log ++ entries_of told ss)
  counted_more steps log told ss is =
      omega (arith, is, length-append log (entries_of told ss), steps_of-length (entries_of told ss), ap length (steps_of-entries told ss))

  acked_more : (acks new : List Acked) (log : List Entry) (told : Option ℕ) (ss : List Step) → acks ≡ acks_of (steps_of log) → acks ++ acks_of ss ≡ new → new ≡ acks_of (steps_of (log ++ entries_of told ss))
  acked_more acks new log told ss is new_is =
      sym new_is ∙ (ap (λ xs. xs ++ acks_of ss) is ∙ (sym (acks_of-append (steps_of log) ss) ∙ ap acks_of (steps_more log told ss)))

  legal_more : (log : List Entry) (told : Option ℕ) (ss : List Step) → IsLegal layout (steps_of log) → IsLegalFrom layout (world_after (steps_of log)) ss → IsLegal layout (steps_of (log ++ entries_of told ss))
  legal_more log told ss legal allowed = subst (IsLegal layout) (steps_more log told ss) (legal_join layout empty_world (steps_of log) ss legal allowed)

  owned_on : (sessions : ℕ) (told : Option ℕ) (s : Step) → IsOwnedStep nodes sessions told s → IsOwnedStep nodes (sessions + 1) told s
  owned_on sessions told (Issue node key context value) o = o
  owned_on sessions told (Hold p row) o = o
  owned_on sessions told (Release p key d) o = o
  owned_on sessions told (Fetch p key) o = o
  owned_on sessions told (Ack key d w) o = (o.0, o.1, omega (arith, o.2))

  module _ (steps : ℕ) (acks : List Acked) (sessions : ℕ) (log : List Entry) (roll : List (List Done)) (is : IsLedger nodes layout steps acks sessions log roll) where
    pub ledger_opened : IsLedger nodes layout steps acks (sessions + 1) log (roll ++ [] ∷ [])
    ledger_opened =
        record {
          counted = is.counted;
          acked = is.acked;
          roll_is = subst (λ n. IsRollOf nodes log n (roll ++ [] ∷ [])) (omega arith) (roll_opened nodes log (nodes + sessions) roll is.roll_is);
          owned = All-weaker (λ e. IsOwnedStep nodes sessions e.told e.step) (λ e. IsOwnedStep nodes (sessions + 1) e.told e.step) (λ e. owned_on sessions e.told e.step) log is.owned;
          legal = is.legal;
        }

    pub ledger_free : (told : Option ℕ) (ss : List Step) → AreOf nodes None (entries_of told ss) → AreOwned nodes sessions (entries_of told ss) → IsLegalFrom layout (world_after (steps_of log)) ss
        → acks_of ss ≡ [] → IsLedger nodes layout (steps + length ss) acks sessions (log ++ entries_of told ss) roll
    ledger_free told ss free owned allowed none =
        record {
          counted = counted_more steps log told ss is.counted;
          acked = acked_more acks acks log told ss is.acked (ap (λ xs. acks ++ xs) none ∙ append-nil acks);
          roll_is = roll_free nodes log (entries_of told ss) (nodes + sessions) roll free is.roll_is;
          owned = All-append (λ e. IsOwnedStep nodes sessions e.told e.step) log (entries_of told ss) is.owned owned;
          legal = legal_more log told ss is.legal allowed;
        }

    pub ledger_grown : (told : Option ℕ) (ss : List Step) (new : List Acked) (k : ℕ) (own : List Done) → acks ++ acks_of ss ≡ new → get_elem? roll k ≡ some own → AreOf nodes (Some k) (entries_of told ss) → AreOwned nodes sessions (entries_of told ss) → IsLegalFrom layout (world_after (steps_of log)) ss
        → IsLedger nodes layout (steps + length ss) new sessions (log ++ entries_of told ss) (set roll k (own ++ numbered (length log + 1) ss))
    ledger_grown told ss new k own acked at place owned allowed =
        record {
          counted = counted_more steps log told ss is.counted;
          acked = acked_more acks new log told ss is.acked acked;
          roll_is = roll_grown nodes log told ss (nodes + sessions) roll k own place is.roll_is at;
          owned = All-append (λ e. IsOwnedStep nodes sessions e.told e.step) log (entries_of told ss) is.owned owned;
          legal = legal_more log told ss is.legal allowed;
        }

    -- a share that agrees with its seat is as the log has it
    pub seat_part : (k : ℕ) (own : List Done) → get_elem? roll k ≡ some own → IsPartOf nodes layout (record { log = log; sessions = sessions }) (held k own)
    seat_part k own at =
        let m = roll_means nodes log (nodes + sessions) roll k own is.roll_is at in
        record { is_open = m.0; part_is = m.1; owned = is.owned; legal = is.legal }

    -- a node's share that agrees with its seat belongs to the log
    pub node_belongs : (p : NodePart) → p.node < nodes → AgreesAsNode roll p → BelongsTo (steps_of log) p
    node_belongs p low a =
        let m = roll_means nodes log (nodes + sessions) roll p.node a.part is.roll_is a.seat_has in
        part_belongs layout p (steps_of log) is.legal (a.steps_are ∙ (ap done_steps m.1 ∙ place_of_node nodes sessions p.node log low is.owned))

    -- a session's share that agrees with its seat, and whose gets match, belongs to the log
    pub session_belongs : (r : ℕ) (s : SessionPart) → AgreesAsSession nodes r roll log s → SessionBelongsTo log r s
    session_belongs r s a =
        let m = roll_means nodes log (nodes + sessions) roll (nodes + s.session) a.part is.roll_is a.seat_has in
        record { acks_are = a.acks_are ∙ (ap done_acks m.1 ∙ place_of_session nodes sessions s.session log is.owned); spent_are = a.spent_are; gets_match = a.gets_match; in_turn = a.in_turn }

    pub all_are : (r : ℕ) (parts : List NodePart) (tellings : List SessionPart) → All (λ p. p.node < nodes) parts → All (AgreesAsNode roll) parts → All (AgreesAsSession nodes r roll log) tellings
        → ((node : ℕ) → node < nodes → HasNode node parts) → ((session : ℕ) → session < sessions → HasSession session tellings)
        → IsDistinct nat_eq (map (λ p. p.node) parts) → IsDistinct nat_eq (map (λ s. s.session) tellings)
        → AreAll nodes r (record { log = log; sessions = sessions }) parts tellings
    all_are r parts tellings low as_nodes as_sessions each_node each_session nodes_once sessions_once =
        record {
          nodes_belong = λ k d within. node_belongs (slice_index_or parts k d) (low k d within) (as_nodes k d within);
          sessions_belong = All-weaker (AgreesAsSession nodes r roll log) (SessionBelongsTo log r) (session_belongs r) tellings as_sessions;
          each_node = each_node;
          each_session = each_session;
          nodes_once = nodes_once;
          sessions_once = sessions_once;
          each_entry = is.owned;
        }

-- what the log has behind the steps that it had are those that were added
pub added_are : (log : List Entry) (told : Option ℕ) (ss : List Step) (steps : ℕ) → steps ≡ length log → numbered (steps + 1) (steps_of (drop steps (log ++ entries_of told ss))) ≡ numbered (length log + 1) ss
added_are log told ss steps is =
    ap (λ n. numbered (n + 1) (steps_of (drop n (log ++ entries_of told ss)))) is
    ∙ ap (numbered (length log + 1)) (ap steps_of (drop-append_seam log (entries_of told ss)) ∙ steps_of-entries told ss)

-- what all have that are left, and the one that was taken from the end, all had
pub all_back : {X : Type 0} (P : X → Type 0) (xs rest : List X) (x : X) → xs ≡ rest ++ x ∷ [] → P x → All P rest → All P xs
all_back P xs rest x is here all = subst (All P) (sym is) (All-append P rest (x ∷ []) all (All-cons P x [] here (All-nil P)))

-- a node's share whose roll's share has grown by these steps
pub node_grown : (p : NodePart) (part new : List Done) (at : ℕ) (ss : List Step) → p.steps ≡ done_steps part → new ≡ part ++ numbered at ss → record { node = p.node; steps = done_steps new } ≡ with_steps p ss
node_grown p part new at ss is grown =
    ap (λ xs. record { node = p.node; steps = xs })
    (ap done_steps grown ∙ (done_steps-append part (numbered at ss) ∙ (ap (λ xs. xs ++ done_steps (numbered at ss)) (sym is) ∙ ap (λ xs. p.steps ++ xs) (done_steps-numbered at ss))))

-- the acks of a session's share whose roll's share has grown by an ack
pub acks_grown : (part new : List Done) (at : ℕ) (s : Step) → new ≡ part ++ numbered at (s ∷ []) → done_acks new ≡ done_acks part ++ ack_at at s
acks_grown part new at s grown = ap done_acks grown ∙ (done_acks-append part (numbered at (s ∷ [])) ∙ ap (λ xs. done_acks part ++ xs) (append-nil (ack_at at s)))

pub first_more : (n : ℕ) → first_parts (n + 1) ≡ first_parts n ++ record { node = n; steps = [] } ∷ []
first_more n = ap first_parts (next n)
  where
    next : (n : ℕ) → n + 1 ≡ suc n
    next n = omega arith

-- a node's share that is as the log has it belongs to the log
pub part_is_nodes : (nodes : ℕ) (layout : Layout) (a : Account) (h : Held) (p : NodePart) → h.index ≡ p.node → p.node < nodes → p.steps ≡ done_steps h.part → IsPartOf nodes layout a h → BelongsTo (steps_of a.log) p
part_is_nodes nodes layout a h p same low is part =
    part_belongs layout p (steps_of a.log) part.legal
    (is ∙ (ap done_steps (part.part_is ∙ ap (λ k. done_from nodes 1 k a.log) same) ∙ place_of_node nodes a.sessions p.node a.log low part.owned))
