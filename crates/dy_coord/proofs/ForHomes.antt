-- Whatever is asked and read is for the homes that were asked for at first: an ask past these is for
-- the home of an answer, and an answer is for the home of its ask.
use Rattle.std.proofs.Common.{Some, ◌≡◌, ◌∷◌, [], List, ℕ, zero, suc, sym, ◌∙◌, ap, subst}
use Rattle.std.proofs.Common.{inl, inr}
use Rattle.std.proofs.lemmas.Bool.{cases_Bool}
use Rattle.std.proofs.lemmas.List.Elements.{All-head, All-map, All-filter}
use Rattle.std.proofs.lemmas.List.Elements.{All-push, All-tail, Contains-get_or}
use Rattle.std.specs.List.{All, Contains, slice_get}
use Rattle.dy_core.specs.Logs.{Answer as SeenParts}
use Rattle.dy_node.specs.declared.asks.Answer.{Answer}
use Rattle.dy_node.specs.declared.asks.Answer.TheVariants.{Stored, Rows, Down, NoAnswer, Refused}
use Rattle.dy_transport.specs.Asking.{FitsWhat, IsSeenAt}
use Rattle.dy_transport.specs.Snapshots.{snapshot_of}
use Rattle.dy_transport.specs.Told.{Answers, Told}
use Rattle.dy_transport.specs.declared.asked.Asked.{Asked}
use Rattle.dy_transport.specs.declared.asked.What.{What}
use Rattle.dy_transport.specs.declared.asked.What.TheVariants.{Fetch}
use Rattle.dy_reads.specs.Lists.{asked_homes}
use Rattle.dy_reads.specs.Rules.{Reads, after_answer, ask_of, home_asks, is_served, next_stand_in}
use Rattle.dy_coord.specs.Gets.{seen_in}
use Rattle.dy_coord.proofs.Getting.{what_at}

-- the ask is for one of the homes
abbrev IsFor : List ℕ → Asked → Type 0
IsFor homes a = Contains homes a.home

-- so is each of the asks to the homes
pub home_asks_for : (what : What) (held : ℕ) (homes : List ℕ) →
    All (λ a. Contains homes a.home) (home_asks what held homes)
home_asks_for what held homes =
    All-map (IsFor homes) (λ h. ask_of what h h 0) (asked_homes held homes)
    (All-filter _ (Contains homes) homes (λ k d lt. Contains-get_or homes k d lt))

home_at : (homes : List ℕ) (asks : List Asked) (k : ℕ) (a : Asked) → All (IsFor homes) asks →
    slice_get asks k ≡ Some a → Contains homes a.home
home_at homes [] k a all e = absurd (cc)
home_at homes (b ∷ asks) zero a all e =
    let s : b ≡ a = cc in
    subst (IsFor homes) s (All-head (IsFor homes) b asks all)
home_at homes (b ∷ asks) (suc k) a all e =
    home_at homes asks k a (All-tail (IsFor homes) b asks all) e

next_for : (homes : List ℕ) (what : What) (read : ℕ) (asks : List Asked) (left : List ℕ)
    (home : ℕ) → All (IsFor homes) asks → Contains homes home →
    All (IsFor homes) (next_stand_in what read asks left home).0
next_for homes what read asks [] home all is = all
next_for homes what read asks (s ∷ left) home all is =
    All-push (IsFor homes) asks (ask_of what s home read) all is

module _ {J : Type 0} where
  after_for : (homes : List ℕ) (what : What) (read : ℕ) (asks : List Asked) (left : List ℕ)
      (home : ℕ) (x : Answer J) → All (IsFor homes) asks → Contains homes home →
      All (IsFor homes) (after_answer what read (asks, left) home x).0
  after_for homes what read asks left home x all is = elim (cases_Bool (is_served what x)) [
    | inl t ↦ rw t all
    | inr f ↦ rw f (next_for homes what read asks left home all is)
  ]

  -- with an answer read, each ask is for one of the homes
  pub asks_for : (homes : List ℕ) (what : What) (old new : Told J) (left after : List ℕ)
      (number node home : ℕ) (x : Answer J) → All (λ a. Contains homes a.home) old.asks →
      Reads what old left number node home x new after →
      All (λ a. Contains homes a.home) new.asks
  asks_for homes what old new left after number node home x all q =
      let a = q.answers in
      let is = subst (Contains homes) a.3 (home_at homes old.asks number a.0 all a.1) in
      subst (All (IsFor homes)) (sym (ap (λ p. p.0) q.asks))
      (after_for homes what _ old.asks left home x all is)

  seen_home : (to home : ℕ) (w : What) (key : List ℕ) (since : ℕ) (x : Answer J)
      (s : SeenParts) → w ≡ Fetch (snapshot_of key) since → FitsWhat to home w x →
      seen_in x ≡ s ∷ [] → s.home ≡ home
  seen_home to home w key since (Rows seen) s e f is =
      let P : What → Type 0 = λ v. FitsWhat {J = J} to home v (Rows seen) in
      let g : IsSeenAt to home key since seen = subst P e f in
      let same : seen ≡ s = cc in
      ap (λ (y : SeenParts). y.home) (sym same) ∙ g.home_is
  seen_home to home w key since (Stored rs) s e f is = absurd (cc)
  seen_home to home w key since Down s e f is = absurd (cc)
  seen_home to home w key since NoAnswer s e f is = absurd (cc)
  seen_home to home w key since (Refused g) s e f is = absurd (cc)

  -- and so is the row of the answer
  pub seen_for : (homes : List ℕ) (asks : List Asked) (number node home : ℕ) (x : Answer J)
      (s : SeenParts) (key : List ℕ) (since : ℕ) →
      All (λ a. a.what ≡ Fetch (snapshot_of key) since) asks →
      All (λ a. Contains homes a.home) asks → Answers asks number node home x →
      seen_in x ≡ s ∷ [] → Contains homes s.home
  seen_for homes asks number node home x s key since whats all is one =
      let a : Asked = is.0 in
      let what = what_at (Fetch (snapshot_of key) since) asks number a whats is.1 in
      subst (Contains homes) (sym (seen_home a.to a.home a.what key since x s what is.4 one))
      (home_at homes asks number a all is.1)
