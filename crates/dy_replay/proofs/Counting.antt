-- Of each key a node's last counter is the number of versions that it made.
use Rattle.std.proofs.Common.{◌≡◌, ℕ, ◌+◌, Bool, true, false, cond, ◌&&◌, eqb, List, [], ◌∷◌, length, refl, sym, ap, subst, arith}
use Rattle.std.specs.List.{filter}
use Rattle.std.proofs.lemmas.Bool.{and_parts, eqb-true}
use Rattle.dy_siblings.specs.Siblings.{same_key}
use Rattle.dy_siblings.specs.declared.versions.Version.{Version}
use Rattle.dy_siblings.proofs.SameKeys.{same_key_is}
use Rattle.dy_core.specs.Worlds.{World}
use Rattle.dy_core.specs.Steps.{world_after_step}
use Rattle.dy_core.specs.Logs.{world_from}
use Rattle.dy_core.specs.declared.steps.Step.{Step}
use Rattle.dy_core.specs.declared.steps.Step.TheVariants.{Issue}
use Rattle.dy_shares.specs.Trails.{AreKept, Keeps}
use Rattle.dy_shares.specs.declared.kept_steps.KeptStep.{KeptStep}
use Rattle.dy_shares.specs.declared.kept_steps.KeptStep.TheVariants.{Issued, Held, HeldRuns, Released, Fetched, Acked}
use Rattle.dy_replay.specs.Replays.{count_made, is_made_by}

-- one where it is so
abbrev pub one_if : Bool → ℕ
one_if b = cond b 1 0

-- the first kept step counts where it is such an issue
count_first : (k : KeptStep) (ks : List KeptStep) (node : ℕ) (key : List ℕ) →
    count_made (k ∷ ks) node key ≡ one_if (is_made_by node key k) + count_made ks node key
count_first k ks node key = go (is_made_by node key k)
  where
    go : (b : Bool) → length (cond b (k ∷ filter (is_made_by node key) ks) (filter (is_made_by node key) ks)) ≡ one_if b + count_made ks node key
    go true = omega arith
    go false = omega arith

module _ (w : World) (node : ℕ) (key : List ℕ) where
  -- an issue counts the counter of its node and key up by one
  issue_counts : (v : Version) →
      (world_after_step w (Issue v.dot.node v.key v.past v.value)).counters node key
      ≡ one_if (is_made_by node key (Issued v)) + w.counters node key
  issue_counts v = go (eqb node v.dot.node && same_key key v.key) refl
    where
      go : (b : Bool) → (eqb node v.dot.node && same_key key v.key) ≡ b →
          cond b (w.counters v.dot.node v.key + 1) (w.counters node key) ≡ one_if b + w.counters node key
      go true is =
          let parts = and_parts (eqb node v.dot.node) (same_key key v.key) is in
          let node_is = eqb-true node v.dot.node parts.0 in
          let key_is = same_key_is key v.key parts.1 in
          let last_is : w.counters node key ≡ w.counters v.dot.node v.key = λ i. w.counters (node_is i) (key_is i) in
          omega (arith, last_is)
      go false is = omega arith

  -- another step counts nothing up
  unmoved : (n : ℕ) → n ≡ w.counters node key → n ≡ 0 + w.counters node key
  unmoved n is = omega (arith, is)

  -- so each step counts up where it is such an issue
  step_counts : (k : KeptStep) (s : Step) → Keeps k s →
      (world_after_step w s).counters node key ≡ one_if (is_made_by node key k) + w.counters node key
  step_counts (Issued v) s keeps =
      subst (λ (x : Step). (world_after_step w x).counters node key ≡ one_if (is_made_by node key (Issued v)) + w.counters node key)
      (sym keeps) (issue_counts v)
  step_counts (HeldRuns p k dots) s keeps = unmoved _ (ap (λ (x : Step). (world_after_step w x).counters node key) keeps.1)
  step_counts (Held p run k) s keeps = unmoved _ (ap (λ (x : Step). (world_after_step w x).counters node key) keeps.1)
  step_counts (Released p d k) s keeps = unmoved _ (ap (λ (x : Step). (world_after_step w x).counters node key) keeps)
  step_counts (Fetched p k) s keeps = unmoved _ (ap (λ (x : Step). (world_after_step w x).counters node key) keeps)
  step_counts (Acked n d k) s keeps = unmoved _ (ap (λ (x : Step). (world_after_step w x).counters node key) keeps)

-- so step by step it grows by the number of issues
pub counted_from : (ks : List KeptStep) (ss : List Step) (w : World) (node : ℕ) (key : List ℕ) → AreKept ks ss →
    (world_from w ss).counters node key ≡ count_made ks node key + w.counters node key
counted_from [] [] w node key all = omega arith
counted_from [] (s ∷ ss) w node key all = absurd all
counted_from (k ∷ ks) [] w node key all = absurd all
counted_from (k ∷ ks) (s ∷ ss) w node key all =
    let later = counted_from ks ss (world_after_step w s) node key all.1 in
    let here = step_counts w node key k s all.0 in
    let more = count_first k ks node key in
    omega (arith, later, here, more)
