-- What a trail keeps behind a beginning of its log.
use Rattle.std.proofs.Common.{◌≡◌, ◌∙◌, ◌≤◌, ◌++◌, ◌∷◌, [], ℕ, suc, List, length, drop}
use Rattle.std.proofs.Common.{◌+◌, ◌<◌, take, slice_index_or, refl, sym, ap, subst, arith}
use Rattle.std.proofs.Common.{length-append}
use Rattle.std.proofs.lemmas.List.{length-map, map-append, take_more}
use mathlib.Core.List.{IsPrefix}
use Rattle.dy_core.specs.declared.steps.Step.{Step}
use Rattle.dy_shares.specs.Shares.{steps_of}
use Rattle.dy_shares.specs.Trails.{AreKept}
use Rattle.dy_shares.specs.declared.entries.Entry.{Entry}
use Rattle.dy_shares.specs.declared.kept_steps.KeptStep.{KeptStep}
use Rattle.dy_cluster.specs.Marks.{IsMoved}
use Rattle.dy_cluster.specs.inside.Copies.{AreCopies, IsCopy}

-- behind as many as these steps are, the trail keeps those behind them
pub kept_rest : (ks : List KeptStep) (ss added : List Step) → AreKept ks (ss ++ added) →
    AreKept (drop (length ss) ks) added
kept_rest ks [] added all = all
kept_rest [] (s ∷ ss) added all = absurd all
kept_rest (k ∷ ks) (s ∷ ss) added all = kept_rest ks ss added all.1

-- a trail is as long as what it keeps
pub kept_many : (ks : List KeptStep) (ss : List Step) → AreKept ks ss → length ks ≡ length ss
kept_many [] [] all = refl
kept_many [] (s ∷ ss) all = absurd all
kept_many (k ∷ ks) [] all = absurd all
kept_many (k ∷ ks) (s ∷ ss) all = ap suc (kept_many ks ss all.1)

pub parts_of : (old log : List Entry) (begins : IsPrefix old log) →
    steps_of log ≡ steps_of old ++ steps_of begins.0
parts_of old log begins =
    ap steps_of (sym begins.1) ∙ map-append (λ e. e.step) old begins.0

-- behind a beginning of the log, the trail keeps what comes behind it
pub kept_behind : (trail : List KeptStep) (old log : List Entry) (begins : IsPrefix old log) →
    AreKept trail (steps_of log) → AreKept (drop (length old) trail) (steps_of begins.0)
kept_behind trail old log begins all =
    subst (λ (n : ℕ). AreKept (drop n trail) (steps_of begins.0)) (length-map old (λ e. e.step))
    (kept_rest trail (steps_of old) (steps_of begins.0)
    (subst (AreKept trail) (parts_of old log begins) all))

-- and is no shorter than that beginning
pub kept_no_fewer : (trail : List KeptStep) (old log : List Entry) → IsPrefix old log →
    AreKept trail (steps_of log) → length old ≤ length trail
kept_no_fewer trail old log begins all =
    omega (
      arith,
      kept_many trail (steps_of log) all,
      length-map log (λ e. e.step),
      sym (ap length begins.1) ∙ length-append old begins.0,
    )

-- one copy behind others
pub copies_on : (ks cs : List KeptStep) (k c : KeptStep) → AreCopies ks cs → IsCopy k c →
    AreCopies (ks ++ k ∷ []) (cs ++ c ∷ [])
copies_on [] [] k c all one = (one, tt)
copies_on [] (d ∷ cs) k c all one = absurd all
copies_on (h ∷ ks) [] k c all one = absurd all
copies_on (h ∷ ks) (d ∷ cs) k c all one = (all.0, copies_on ks cs k c all.1 one)

-- copies keep what those keep of which they are copies
pub copies_keep : (ks cs : List KeptStep) (ss : List Step) → AreCopies ks cs → AreKept ks ss →
    AreKept cs ss
copies_keep [] [] ss all kept = kept
copies_keep [] (c ∷ cs) ss all kept = absurd all
copies_keep (k ∷ ks) [] ss all kept = absurd all
copies_keep (k ∷ ks) (c ∷ cs) [] all kept = absurd kept
copies_keep (k ∷ ks) (c ∷ cs) (s ∷ ss) all kept =
    (all.0 s kept.0, copies_keep ks cs ss all.1 kept.1)

-- one more of a list is copied
pub copies_next : (ks cs ds : List KeptStep) (k c : KeptStep) (i : ℕ) → i < length ks →
    k ≡ slice_index_or ks i k → AreCopies (take i ks) cs → IsCopy k c → ds ≡ cs ++ c ∷ [] →
    AreCopies (take (i + 1) ks) ds
copies_next ks cs ds k c i within here all one is =
    let more : take (i + 1) ks ≡ take i ks ++ k ∷ [] =
    take_more ks i k within ∙ ap (λ (x : KeptStep). take i ks ++ x ∷ []) (sym here) in
    subst (λ (l : List KeptStep). AreCopies l ds) (sym more)
    (subst (AreCopies (take i ks ++ k ∷ [])) (sym is) (copies_on (take i ks) cs k c all one))

-- a trail is as long as its log
pub kept_as_many : (trail : List KeptStep) (log : List Entry) → AreKept trail (steps_of log) →
    length trail ≡ length log
kept_as_many trail log all =
    kept_many trail (steps_of log) all ∙ length-map log (λ e. e.step)

-- the mark moves behind the log, where these are copies of its trail's rest
pub moved : (trail kept rest : List KeptStep) (old log now : List Entry) (steps : ℕ) →
    IsPrefix old log → AreKept trail (steps_of log) → steps ≡ length old →
    rest ≡ drop steps trail → AreCopies rest kept → now ≡ log → IsMoved old now kept
moved trail kept rest old log now steps begins all steps_are rest_is copies is =
    let added = steps_of begins.0 in
    record {
      added = begins.0;
      after_is = is ∙ sym begins.1;
      are_kept = copies_keep rest kept added copies
          (subst (λ (l : List KeptStep). AreKept l added) (sym rest_is)
          (subst (λ (n : ℕ). AreKept (drop n trail) added) (sym steps_are)
          (kept_behind trail old log begins all)));
    }
