-- Who may be asked for whom: a home for itself, and a node past the homes for any home. A stand-in
-- is asked for a home that was asked for before, so this stays while answers are read.
use Rattle.std.proofs.Common.{not, ◌==◌, ◌≡◌, ◌++◌, ◌∷◌, [], List, ℕ, zero, suc, false, Some, map}
use Rattle.std.proofs.Common.{take, get_or, refl, sym, ◌∙◌, ap, subst, inl, inr, IsTrue, ◌||◌}
use Rattle.std.proofs.lemmas.Bool.{eq-eqb, and_from, or_left, or_right}
use Rattle.std.proofs.lemmas.List.{map-append}
use Rattle.std.proofs.lemmas.List.Elements.{All-tail, Contains-get_or, Contains-append_cases}
use Rattle.std.specs.List.{All, Contains, slice_get}
use Rattle.dy_siblings.proofs.Members.{any_from, filter_from, in_head, in_tail, in_cases}
use Rattle.dy_siblings.proofs.Members.{not_in_nil}
use Rattle.dy_ring.specs.Rings.{Tokens}
use Rattle.dy_preference.specs.Preferences.{Preferred, IsPreferred, homes_of, is_home, may_hold}
use Rattle.dy_preference.specs.Preferences.{preference_of, stand_ins_of}
use Rattle.dy_preference.proofs.StandIns.{stand_ins_past}
use Rattle.dy_node.specs.declared.asks.Answer.{Answer}
use Rattle.dy_transport.specs.declared.asked.Asked.{Asked}
use Rattle.dy_transport.specs.declared.asked.What.{What}
use Rattle.dy_transport.specs.Told.{Answers}
use Rattle.dy_reads.specs.declared.requests.Request.{Request}
use Rattle.dy_reads.specs.declared.requests.Request.TheVariants as request
use Rattle.dy_reads.specs.Lists.{homes_in, asked_homes}
use Rattle.dy_reads.specs.Rules.{ask_of, homes_asked, home_asks, next_stand_in, MayRequest}
use Rattle.dy_reads.specs.Rules.{MayStandIn}

-- an ask that is there is for one of the homes asked for
asked_for : (asks : List Asked) (k : ℕ) (a : Asked) → slice_get asks k ≡ Some a → Contains
    (homes_asked asks) a.home
asked_for [] k a e = absurd (cc)
asked_for (b ∷ asks) zero a e = let same : b ≡ a = cc in
    subst (λ (x : Asked). Contains (homes_asked (b ∷ asks)) x.home) same (in_head b.home
    (homes_asked asks))
asked_for (b ∷ asks) (suc k) a e = in_tail b.home a.home (homes_asked asks) (asked_for asks k a e)

own_may : (homes : List ℕ) (home : ℕ) → Contains homes home → IsTrue (may_hold homes home home)
own_may homes home c =
    and_from (is_home homes home) ((home == home) || not (is_home homes home))
    (any_from (λ h. h == home) homes home c (eq-eqb home home refl))
    (or_left (home == home) (not (is_home homes home)) (eq-eqb home home refl))

past_may : (homes : List ℕ) (node home : ℕ) → Contains homes home → is_home homes node ≡ false →
    IsTrue (may_hold homes node home)
past_may homes node home c past =
    and_from (is_home homes home) ((node == home) || not (is_home homes node))
    (any_from (λ h. h == home) homes home c (eq-eqb home home refl))
    (or_right (node == home) (not (is_home homes node)) (rw past refl))

same_homes : (ring : Tokens) (n : ℕ) (key : List ℕ) (list : Preferred) → list.nodes ≡ preference_of
    ring key → list.n ≡ n → homes_in list ≡ homes_of ring n key
same_homes ring n key list nodes count = ap (λ k. take k list.nodes) count ∙ ap (λ xs. take n xs)
    nodes

homes_asked_are : (what : What) (hs : List ℕ) → homes_asked (map (λ h. ask_of what h h 0) hs) ≡ hs
homes_asked_are what [] = refl
homes_asked_are what (h ∷ hs) = ap (λ xs. h ∷ xs) (homes_asked_are what hs)

module _ {J : Type 0} where
  -- the list is the preference list of the key of a row that is to be held
  abbrev pub IsListFor : Tokens → ℕ → Request J → Preferred → Type 0
  IsListFor ring n (request.Store row) list =
      (list.nodes ≡ preference_of ring row.now.key) × (list.n ≡ n)
  IsListFor ring n (request.Fetch key since) list = Unit {0}

  -- a home may be asked for itself
  pub homes_may : (ring : Tokens) (n : ℕ) (r : Request J) (list : Preferred) → IsListFor ring n r
      list → All (λ home. MayRequest ring n r home home) (homes_in list)
  homes_may ring n (request.Store row) list for k d lt =
      let home : ℕ = get_or (homes_in list) k d in
      let P : List ℕ → Type 0 = λ homes. IsTrue (may_hold homes home home) in
      subst P (same_homes ring n row.now.key list for.0 for.1) (own_may (homes_in list) home
      (Contains-get_or (homes_in list) k d lt))
  homes_may ring n (request.Fetch key since) list for k d lt = tt {0}

  -- those who may stand in may be asked for each home that is asked first
  pub stand_ins_may : (ring : Tokens) (n : ℕ) (r : Request J) (what : What) (held c : ℕ)
      (list : Preferred) → IsPreferred list → IsListFor ring n r list
      → MayStandIn ring n r (home_asks what held (homes_in list)) (stand_ins_of list.nodes list.n c)
  stand_ins_may ring n (request.Store row) what held c list p for home in_asked k d lt =
      let node : ℕ = get_or (stand_ins_of list.nodes list.n c) k d in
      let P : List ℕ → Type 0 = λ homes. IsTrue (may_hold homes node home) in
      let Q : List ℕ → Type 0 = λ homes. Contains homes home in
      let among : Contains (asked_homes held (homes_in list)) home = subst Q (homes_asked_are what
      (asked_homes held (homes_in list))) in_asked in
      subst P (same_homes ring n row.now.key list for.0 for.1)
      (past_may (homes_in list) node home (filter_from (λ h. not (h == held)) (homes_in list) home
      among).0
      (stand_ins_past list.nodes list.n c p.distinct k d lt))
  stand_ins_may ring n (request.Fetch key since) what held c list p for home in_asked k d lt =
      tt {0}

  may_next : (ring : Tokens) (n : ℕ) (r : Request J) (what : What) (read : ℕ) (asks : List Asked)
      (left : List ℕ) (home : ℕ) → Contains (homes_asked asks) home → MayStandIn ring n r asks left
      → MayStandIn ring n r (next_stand_in what read asks left home).0 (next_stand_in what read asks
      left home).1
  may_next ring n r what read asks [] home here may other in_more = may other in_more
  may_next ring n r what read asks (s ∷ left) home here may other in_more =
      let P : ℕ → Type 0 = λ node. MayRequest ring n r node other in
      let Q : List ℕ → Type 0 = λ xs. Contains xs other in
      let more : Contains (homes_asked asks ++ home ∷ []) other = subst Q
      (map-append (λ (a : Asked). a.home) asks (ask_of what s home read ∷ [])) in_more in
      let known : Contains (homes_asked asks) other = elim (Contains-append_cases (homes_asked asks)
      (home ∷ []) other more) [
        | inl old ↦ old
        | inr last ↦ elim (in_cases home other [] last) [
          | inl same ↦ (let R : ℕ → Type 0 = λ x. Contains (homes_asked asks) x in subst R
              (sym same) here)
          | inr none ↦ absurd (not_in_nil other none)
        ]
      ] in
      All-tail P s left (may other known)

  -- it stays so where a stand-in was asked for the home of an answer
  pub may_after : (ring : Tokens) (n : ℕ) (r : Request J) (what : What) (read : ℕ) (old mid asks :
      List Asked) (left after : List ℕ) (number node home : ℕ) (x : Answer J)
      → mid ≡ old → Answers old number node home x → (asks, after) ≡ next_stand_in what read mid
      left home → MayStandIn ring n r old left → MayStandIn ring n r asks after
  may_after ring n r what read old mid asks left after number node home x same answers e may =
      let P : List Asked × List ℕ → Type 0 = λ p. MayStandIn ring n r p.0 p.1 in
      let Q : ℕ → Type 0 = λ h. Contains (homes_asked old) h in
      let R : List Asked → Type 0 = λ xs. (asks, after) ≡ next_stand_in what read xs left home in
      let here : Contains (homes_asked old) home = subst Q answers.3 (asked_for old number answers.0
      answers.1) in
      subst P (sym (subst R same e)) (may_next ring n r what read old left home here may)
