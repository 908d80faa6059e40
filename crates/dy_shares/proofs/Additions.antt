-- What steps that are added change, and what they leave.
use Rattle.std.proofs.Common.{◌≡◌, ◌≢◌, ℕ, ◌+◌, ◌<◌, Bool, false, cond, List, [], ◌∷◌, ◌++◌, length, filter, Option, None, Some, refl, sym, ap, ◌∙◌, subst, arith}
use Rattle.std.specs.List.{All, AllByRecursion as ByRecursion}
use Rattle.std.proofs.lemmas.List.{append-nil, append_assoc}
use Rattle.std.proofs.lemmas.List.Elements.{recursion_from_All, filter-append, All-map, All-cons, All-nil, All-weaker}
use Rattle.dy_dots.specs.declared.dots.Dot.{Dot}
use Rattle.dy_core.specs.declared.places.Place.{Place}
use Rattle.dy_core.specs.declared.steps.Step.{Step}
use Rattle.dy_core.specs.declared.steps.Step.TheVariants.{Issue, Hold, Release, Fetch, Ack}
use Rattle.dy_shares.specs.declared.entries.Entry.{Entry}
use Rattle.dy_shares.specs.Shares.{names, node_of, steps_of, ack_at, acks_from, session_acks, IsOwnedStep, AreOwned, NodeStays, SessionStays, told_to, untold}
use Rattle.dy_shares.specs.inside.Parts.{seat_of, entries_of, AreOf}
use Rattle.dy_shares.proofs.Rolls.{names_not}
use Rattle.dy_shares.proofs.Owners.{steps_of-append, steps_of-entries}

-- what holds of the one entry holds of all
alone : (P : Entry → Type 0) (e : Entry) → P e → All P (e ∷ [])
alone P e is = All-cons P e [] is (All-nil P)

-- a node's steps are of its seat
pub node_seat : (nodes node : ℕ) (ss : List Step) → All (λ s. node_of s ≡ Some node) ss → AreOf nodes (Some node) (entries_of None ss)
node_seat nodes node ss all = All-map (λ e. seat_of nodes e ≡ Some node) untold ss all

some_is : (a b : ℕ) → Some a ≡ Some b → a ≡ b
some_is a b e = cc e

owned_step : (nodes sessions node : ℕ) (s : Step) → node < nodes → node_of s ≡ Some node → IsOwnedStep nodes sessions None s
owned_step nodes sessions node (Issue n key context value) low is = (refl, subst (λ k. k < nodes) (sym (some_is n node is)) low)
owned_step nodes sessions node (Hold p row) low is = (refl, subst (λ k. k < nodes) (sym (some_is p.holder node is)) low)
owned_step nodes sessions node (Release p key d) low is = (refl, subst (λ k. k < nodes) (sym (some_is p.holder node is)) low)
owned_step nodes sessions node (Fetch p key) low is = refl
owned_step nodes sessions node (Ack key d w) low is = absurd (cc is)

pub node_owned : (nodes sessions node : ℕ) (ss : List Step) → node < nodes → All (λ s. node_of s ≡ Some node) ss → AreOwned nodes sessions (entries_of None ss)
node_owned nodes sessions node ss low all =
    All-map (λ e. IsOwnedStep nodes sessions e.told e.step) untold ss
    (All-weaker (λ s. node_of s ≡ Some node) (IsOwnedStep nodes sessions None) (λ s is. owned_step nodes sessions node s low is) ss all)

-- a fetch is nobody's
pub fetch_seat : (nodes : ℕ) (p : Place) (key : List ℕ) → AreOf nodes None (entries_of None (Fetch p key ∷ []))
fetch_seat nodes p key = alone (λ e. seat_of nodes e ≡ None) (untold (Fetch p key)) refl

pub fetch_owned : (nodes sessions : ℕ) (p : Place) (key : List ℕ) → AreOwned nodes sessions (entries_of None (Fetch p key ∷ []))
fetch_owned nodes sessions p key = alone (λ e. IsOwnedStep nodes sessions e.told e.step) (untold (Fetch p key)) refl

-- an ack is a session's, whose seat is open
pub ack_owned : (nodes sessions session index : ℕ) (key : List ℕ) (d : Dot) (w : ℕ) → index ≡ nodes + session → index < nodes + sessions → AreOwned nodes sessions (entries_of (Some session) (Ack key d w ∷ []))
ack_owned nodes sessions session index key d w is within =
    alone (λ e. IsOwnedStep nodes sessions e.told e.step) (told_to session (Ack key d w)) (session, refl, omega (arith, is, within))

filter_none : {X : Type 0} (test : X → Bool) (xs : List X) → ByRecursion (λ x. test x ≡ false) xs → filter test xs ≡ []
filter_none test [] a = refl
filter_none test (x ∷ xs) a = rw a.0 (filter_none test xs a.1)

-- steps that are not the node's leave its part
node_stays : (log : List Entry) (told : Option ℕ) (ss : List Step) (node : ℕ) → All (λ s. names node (node_of s) ≡ false) ss → NodeStays log (log ++ entries_of told ss) node
node_stays log told ss node all =
    let test = λ (s : Step). names node (node_of s) in
    ap (λ xs. record { node = node; steps = xs })
    (ap (filter test) (steps_of-append log (entries_of told ss) ∙ ap (λ xs. steps_of log ++ xs) (steps_of-entries told ss))
    ∙ (filter-append test (steps_of log) ss
    ∙ (ap (λ xs. filter test (steps_of log) ++ xs) (filter_none test ss (recursion_from_All (λ s. test s ≡ false) ss all))
    ∙ append-nil (filter test (steps_of log)))))

pub others_stay : (log : List Entry) (ss : List Step) (own node : ℕ) → All (λ s. node_of s ≡ Some own) ss → node ≢ own → NodeStays log (log ++ entries_of None ss) node
others_stay log ss own node all apart =
    node_stays log None ss node
    (All-weaker (λ s. node_of s ≡ Some own) (λ s. names node (node_of s) ≡ false) (λ s is. names_not node own (node_of s) apart is) ss all)

acks_append : (at session : ℕ) (xs ys : List Entry) → acks_from at session (xs ++ ys) ≡ acks_from at session xs ++ acks_from (at + length xs) session ys
acks_append at session [] ys = ap (λ n. acks_from n session ys) (omega arith)
acks_append at session (x ∷ xs) ys =
    let here = cond (names session x.told) (ack_at at x.step) [] in
    ap (λ acks. here ++ acks) (acks_append (at + 1) session xs ys ∙ ap (λ n. acks_from (at + 1) session xs ++ acks_from n session ys) (omega arith))
    ∙ sym (append_assoc here (acks_from (at + 1) session xs) (acks_from (at + length (x ∷ xs)) session ys))

acks_none : (at session : ℕ) (told : Option ℕ) (ss : List Step) → names session told ≡ false → acks_from at session (entries_of told ss) ≡ []
acks_none at session told [] e = refl
acks_none at session told (s ∷ ss) e = rw e (acks_none (at + 1) session told ss e)

-- steps that others were told, or nobody, tell the session nothing
pub sessions_stay : (log : List Entry) (told : Option ℕ) (ss : List Step) (session : ℕ) → names session told ≡ false → SessionStays log (log ++ entries_of told ss) session
sessions_stay log told ss session e =
    acks_append 1 session log (entries_of told ss)
    ∙ (ap (λ acks. session_acks session log ++ acks) (acks_none (1 + length log) session told ss e) ∙ append-nil (session_acks session log))

pub untold_stay : (log : List Entry) (ss : List Step) (session : ℕ) → SessionStays log (log ++ entries_of None ss) session
untold_stay log ss session = sessions_stay log None ss session refl

pub told_stay : (log : List Entry) (s : Step) (own session : ℕ) → session ≢ own → SessionStays log (log ++ entries_of (Some own) (s ∷ [])) session
told_stay log s own session apart = sessions_stay log (Some own) (s ∷ []) session (names_not session own (Some own) apart refl)
