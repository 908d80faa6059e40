-- What holds after every run.
use Rattle.std.proofs.Common.{◌≡◌, ℕ, true, List, [], ◌∷◌, ◌++◌, ◌+◌, ◌<◌, length, get_or, take, drop, refl, sym, ap, ◌∙◌, subst, arith}
use Rattle.std.specs.List.{All, Contains}
use Rattle.std.proofs.lemmas.Bool.{or_left}
use Rattle.std.proofs.lemmas.List.{drop_more, take-append-drop}
use Rattle.std.proofs.lemmas.List.Elements.{All-cons, All-weaker}
use Rattle.dy_core.specs.Worlds.{Layout, World, empty_world}
use Rattle.dy_core.specs.Covers.{HasCover, covers_at, AcksAreCovered, receipt_holds}
use Rattle.dy_core.specs.Steps.{version_made, IsAllowed, world_after_step}
use Rattle.dy_core.specs.Logs.{world_from, world_after, IsLegalFrom, IsLegal}
use Rattle.dy_dots.specs.declared.dots.Dot.{Dot}
use Rattle.dy_siblings.specs.declared.versions.Version.{Version}
use Rattle.dy_core.specs.declared.steps.Step.TheVariants.{Issue, Hold, Release, Fetch, Ack}
use Rattle.dy_core.specs.declared.steps.Step.{Step}
use Rattle.dy_core.proofs.Kept.{IsSound, empty_sound, step_sound}
use Rattle.dy_core.proofs.Receipts.{step_keeps_own, step_keeps_receipt, cover_from_receipts}
use Rattle.dy_siblings.proofs.Members.{in_tail}

pub sound_from : (layout : Layout) (w : World) → IsSound layout w → (ss : List Step) → IsLegalFrom layout w ss → IsSound layout (world_from w ss)
sound_from layout w sound [] r = sound
sound_from layout w sound (s ∷ ss) r = sound_from layout (world_after_step w s) (step_sound layout w sound s r.0) ss r.1

pub log_sound : (layout : Layout) (ss : List Step) → IsLegal layout ss → IsSound layout (world_after ss)
log_sound layout ss r = sound_from layout empty_world (empty_sound layout) ss r

pub world_from-append : (w : World) (xs ys : List Step) → world_from w (xs ++ ys) ≡ world_from (world_from w xs) ys
world_from-append w [] ys = refl
world_from-append w (x ∷ xs) ys = world_from-append (world_after_step w x) xs ys

pub legal_front : (layout : Layout) (w : World) (xs ys : List Step) → IsLegalFrom layout w (xs ++ ys) → IsLegalFrom layout w xs
legal_front layout w [] ys r = tt
legal_front layout w (x ∷ xs) ys r = (r.0, legal_front layout (world_after_step w x) xs ys r.1)

pub legal_rest : (layout : Layout) (w : World) (xs ys : List Step) → IsLegalFrom layout w (xs ++ ys) → IsLegalFrom layout (world_from w xs) ys
legal_rest layout w [] ys r = r
legal_rest layout w (x ∷ xs) ys r = legal_rest layout (world_after_step w x) xs ys r.1

pub legal_join : (layout : Layout) (w : World) (xs ys : List Step) → IsLegalFrom layout w xs → IsLegalFrom layout (world_from w xs) ys → IsLegalFrom layout w (xs ++ ys)
legal_join layout w [] ys r q = q
legal_join layout w (x ∷ xs) ys r q = (r.0, legal_join layout (world_after_step w x) xs ys r.1 q)

-- what each step keeps, a run keeps
pub kept_from : (layout : Layout) (P : World → Type 0) → ((w : World) → IsSound layout w → (s : Step) → IsAllowed layout w s → P w → P (world_after_step w s)) →
    (w : World) → IsSound layout w → (ss : List Step) → IsLegalFrom layout w ss → P w → P (world_from w ss)
kept_from layout P step w sound [] r p = p
kept_from layout P step w sound (s ∷ ss) r p = kept_from layout P step (world_after_step w s) (step_sound layout w sound s r.0) ss r.1 (step w sound s r.0 p)

-- a step keeps a cover, in other pairs where one of them was released
pub step_keeps_cover : (layout : Layout) (w : World) → IsSound layout w → (s : Step) → IsAllowed layout w s →
    (key : List ℕ) (d : Dot) (n : ℕ) → HasCover layout w key d n → HasCover layout (world_after_step w s) key d n
step_keeps_cover layout w sound s a key d n has =
    let c = has.is_cover in
    subst (HasCover layout (world_after_step w s) key d) c.count_is
    (cover_from_receipts layout (world_after_step w s) (step_sound layout w sound s a) key d has.places
    (All-weaker (λ p. covers_at w key d p.holder p.home ≡ true) (λ p. receipt_holds (world_after_step w s) key d p.holder p.home ≡ true)
    (λ p covers. step_keeps_receipt layout w sound key d p.home p.holder s a (or_left (covers_at w key d p.holder p.home) (covers_at w key d p.home p.home) covers))
    has.places c.each_covers)
    c.homes_distinct c.holders_distinct)

still_covered : (layout : Layout) (w : World) → IsSound layout w → (s : Step) → IsAllowed layout w s → AcksAreCovered layout w →
    All (λ a. HasCover layout (world_after_step w s) a.key a.dot a.w) w.acks
still_covered layout w sound s a covered =
    All-weaker (λ a. HasCover layout w a.key a.dot a.w) (λ a. HasCover layout (world_after_step w s) a.key a.dot a.w)
    (λ t has. step_keeps_cover layout w sound s a t.key t.dot t.w has) w.acks covered

step_keeps_acks : (layout : Layout) (w : World) → IsSound layout w → (s : Step) → IsAllowed layout w s → AcksAreCovered layout w → AcksAreCovered layout (world_after_step w s)
step_keeps_acks layout w sound (Issue node key context value) a covered = still_covered layout w sound (Issue node key context value) a covered
step_keeps_acks layout w sound (Hold p row) a covered = still_covered layout w sound (Hold p row) a covered
step_keeps_acks layout w sound (Release p key d) a covered = still_covered layout w sound (Release p key d) a covered
step_keeps_acks layout w sound (Fetch p key) a covered = covered
step_keeps_acks layout w sound (Ack key d n) a covered =
    All-cons (λ t. HasCover layout (world_after_step w (Ack key d n)) t.key t.dot t.w) (record { key = key; dot = d; w = n }) w.acks
    (step_keeps_cover layout w sound (Ack key d n) a key d n a.2)
    (still_covered layout w sound (Ack key d n) a covered)

-- each acked triple has its cover, after every run
pub acks_covered_from : (layout : Layout) (w : World) → IsSound layout w → AcksAreCovered layout w → (ss : List Step) → IsLegalFrom layout w ss → AcksAreCovered layout (world_from w ss)
acks_covered_from layout w sound covered ss r = kept_from layout (AcksAreCovered layout) (step_keeps_acks layout) w sound ss r covered

pub acks_covered : (layout : Layout) (ss : List Step) → IsLegal layout ss → AcksAreCovered layout (world_after ss)
acks_covered layout ss r = acks_covered_from layout empty_world (empty_sound layout) (λ k x lt. absurd (omega (arith, lt))) ss r

-- what each step keeps stays from the world after some steps to that after more
pub stays : (layout : Layout) (P : World → Type 0) → ((w : World) → IsSound layout w → (s : Step) → IsAllowed layout w s → P w → P (world_after_step w s)) →
    (steps more : List Step) → IsLegal layout (steps ++ more) → P (world_after steps) → P (world_after (steps ++ more))
stays layout P step steps more legal p =
    subst P (sym (world_from-append empty_world steps more))
    (kept_from layout P step (world_after steps)
    (log_sound layout steps (legal_front layout empty_world steps more legal)) more (legal_rest layout empty_world steps more legal) p)

pub own_stays : (layout : Layout) (steps more : List Step) → IsLegal layout (steps ++ more) → (key : List ℕ) (d : Dot) (home : ℕ) →
    covers_at (world_after steps) key d home home ≡ true → covers_at (world_after (steps ++ more)) key d home home ≡ true
own_stays layout steps more legal key d home =
    stays layout (λ w. covers_at w key d home home ≡ true) (λ w sound s a. step_keeps_own layout w sound key d home s a) steps more legal

pub receipt_stays : (layout : Layout) (steps more : List Step) → IsLegal layout (steps ++ more) → (key : List ℕ) (d : Dot) (home holder : ℕ) →
    receipt_holds (world_after steps) key d holder home ≡ true → receipt_holds (world_after (steps ++ more)) key d holder home ≡ true
receipt_stays layout steps more legal key d home holder =
    stays layout (λ w. receipt_holds w key d holder home ≡ true) (λ w sound s a. step_keeps_receipt layout w sound key d home holder s a) steps more legal

step_keeps_issued : (layout : Layout) (v : Version) (w : World) → IsSound layout w → (s : Step) → IsAllowed layout w s → Contains w.versions v → Contains (world_after_step w s).versions v
step_keeps_issued layout v w sound (Issue node key context value) a h = in_tail (version_made w node key context value) v w.versions h
step_keeps_issued layout v w sound (Hold p row) a h = h
step_keeps_issued layout v w sound (Release p key d) a h = h
step_keeps_issued layout v w sound (Fetch p key) a h = h
step_keeps_issued layout v w sound (Ack key d n) a h = h

-- what was made stays made
pub issued_stays : (layout : Layout) (steps more : List Step) → IsLegal layout (steps ++ more) → (v : Version) →
    Contains (world_after steps).versions v → Contains (world_after (steps ++ more)).versions v
issued_stays layout steps more legal v = stays layout (λ w. Contains w.versions v) (step_keeps_issued layout v) steps more legal

-- each step of a legal log is allowed in the world after those before it
pub legal_at : (layout : Layout) (steps : List Step) → IsLegal layout steps → (k : ℕ) (s : Step) → k < length steps → s ≡ get_or steps k s →
    IsAllowed layout (world_after (take k steps)) s
legal_at layout steps legal k s lt is =
    (subst (IsLegalFrom layout (world_after (take k steps))) (drop_more steps k s lt ∙ ap (λ t. t ∷ drop (k + 1) steps) (sym is))
    (legal_rest layout empty_world (take k steps) (drop k steps) (subst (IsLegal layout) (sym (take-append-drop k steps)) legal))).0
