-- A trail grows with its log, and keeps each of the log's steps.
use Rattle.std.proofs.Common.{◌≡◌, ℕ, zero, suc, List, [], ◌∷◌, ◌++◌, length, map, slice_get, Option, Some, refl, sym, ap, ◌∙◌, subst}
use Rattle.std.proofs.lemmas.List.{append_assoc}
use Rattle.dy_core.specs.Logs.{Answer}
use Rattle.dy_core.specs.declared.steps.Step.{Step}
use Rattle.dy_shares.specs.declared.entries.Entry.{Entry}
use Rattle.dy_shares.specs.declared.kept_steps.KeptStep.{KeptStep}
use Rattle.dy_shares.specs.Shares.{GetTold, answer_numbers, steps_of}
use Rattle.dy_shares.specs.Trails.{AreKept, Keeps}
use Rattle.dy_shares.specs.inside.Parts.{entries_of}
use Rattle.dy_shares.proofs.Owners.{steps_of-append, steps_of-entries}

-- one trail behind another keeps the one's steps, and then the other's
pub kept_on : (ks more : List KeptStep) (ss added : List Step) → AreKept ks ss → AreKept more added → AreKept (ks ++ more) (ss ++ added)
kept_on [] more [] added all rest = rest
kept_on [] more (s ∷ ss) added all rest = absurd all
kept_on (k ∷ ks) more [] added all rest = absurd all
kept_on (k ∷ ks) more (s ∷ ss) added all rest = (all.0, kept_on ks more ss added all.1 rest)

-- one step more
pub kept_next : (ks : List KeptStep) (ss : List Step) (k : KeptStep) (s : Step) → AreKept ks ss → Keeps k s → AreKept (ks ++ k ∷ []) (ss ++ s ∷ [])
kept_next ks ss k s all one = kept_on ks (k ∷ []) ss (s ∷ []) all (one, tt)

-- a trail is as long as what it keeps
pub kept_many : (ks : List KeptStep) (ss : List Step) → AreKept ks ss → length ks ≡ length ss
kept_many [] [] all = refl
kept_many [] (s ∷ ss) all = absurd all
kept_many (k ∷ ks) [] all = absurd all
kept_many (k ∷ ks) (s ∷ ss) all = ap suc (kept_many ks ss all.1)

-- at each place it keeps the step of that place
pub kept_at : (ks : List KeptStep) (ss : List Step) (i : ℕ) (k : KeptStep) → AreKept ks ss → slice_get ks i ≡ Some k → (s : Step) × (slice_get ss i ≡ Some s) × Keeps k s
kept_at [] [] i k all at = absurd (cc at)
kept_at [] (s ∷ ss) i k all at = absurd all
kept_at (h ∷ ks) [] i k all at = absurd all
kept_at (h ∷ ks) (s ∷ ss) zero k all at = (s, refl, subst (λ x. Keeps x s) (cc at) all.0)
kept_at (h ∷ ks) (s ∷ ss) (suc i) k all at = kept_at ks ss i k all.1 at

-- the trail of a log that grows by these steps
pub kept_grown : (ks more new : List KeptStep) (log : List Entry) (told : Option ℕ) (ss : List Step) → new ≡ ks ++ more → AreKept ks (steps_of log) → AreKept more ss → AreKept new (steps_of (log ++ entries_of told ss))
kept_grown ks more new log told ss is all rest =
    subst (λ xs. AreKept xs (steps_of (log ++ entries_of told ss))) (sym is)
    (subst (AreKept (ks ++ more)) (sym (steps_of-append log (entries_of told ss) ∙ ap (λ xs. steps_of log ++ xs) (steps_of-entries told ss)))
    (kept_on ks more (steps_of log) ss all rest))

-- the numbers of the answers of more gets
pub answer_numbers-append : (gs hs : List GetTold) → answer_numbers (gs ++ hs) ≡ answer_numbers gs ++ answer_numbers hs
answer_numbers-append [] hs = refl
answer_numbers-append (g ∷ gs) hs =
    let own = map (λ (a : Answer). a.at) g.answers in
    ap (λ xs. own ++ xs) (answer_numbers-append gs hs) ∙ sym (append_assoc own (answer_numbers gs) (answer_numbers hs))
