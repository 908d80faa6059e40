-- What was asked and answered, one more behind those before it.
use Rattle.std.proofs.Common.{◌≡◌, ◌∙◌, ◌+◌, ◌++◌, ◌∷◌, [], Bool, true, false, ℕ, List, Ok, Err}
use Rattle.std.proofs.Common.{length, cond, refl, sym, ap, subst, arith, append_assoc, append-nil}
use Rattle.std.proofs.Common.{◌<◌, inl, inr, length-take-le, map, slice_index_or, take}
use Rattle.std.proofs.lemmas.List.{length-map, map-append, take_more}
use Rattle.dy_cluster.specs.Settings.{Setting}
use Rattle.dy_script.specs.Orders.{command_parts}
use Rattle.dy_script.specs.Requests.{does, renews}
use Rattle.dy_script.specs.declared.commands.Command.{Command}
use Rattle.dy_serve.specs.Answers.{AreAnswered, Asked, IsAnswered, IsDone, asked_by, asked_in}
use Rattle.dy_serve.specs.Answers.{asked_of}
use Rattle.dy_serve.specs.Below.{Standing, none_standing}
use Rattle.dy_serve.specs.Closings.{Service}
use Rattle.dy_serve.specs.InputLines.{is_nothing}
use Rattle.dy_serve.specs.declared.served_clusters.Ways.{Ways}
use Rattle.dy_serve.specs.inside.Meeting.{AreAnsweredHere, IsAnsweredHere}
use Rattle.dy_serve.specs.inside.Stretches.{ways_of}

-- what more lines ask for is numbered on, behind one that asks or does not
asked_behind_one : (nodes number : ℕ) (one : Asked) (ls more : List (List ℕ)) →
    asked_in nodes number (ls ++ more)
    ≡ asked_in nodes number ls
    ++ asked_in nodes (number + length (asked_in nodes number ls)) more →
    asked_in nodes (number + 1) (ls ++ more)
    ≡ asked_in nodes (number + 1) ls
    ++ asked_in nodes (number + 1 + length (asked_in nodes (number + 1) ls)) more → (b : Bool) →
    cond b (asked_in nodes number (ls ++ more))
    (one ∷ asked_in nodes (number + 1) (ls ++ more))
    ≡ cond b (asked_in nodes number ls) (one ∷ asked_in nodes (number + 1) ls)
    ++ asked_in nodes (number + length
    (cond b (asked_in nodes number ls) (one ∷ asked_in nodes (number + 1) ls))) more
asked_behind_one nodes number one ls more same next true = same
asked_behind_one nodes number one ls more same next false =
    ap (λ l. one ∷ l) (next
    ∙ ap (λ n. asked_in nodes (number + 1) ls ++ asked_in nodes n more) (omega arith))

pub asked_behind : (nodes number : ℕ) (lines more : List (List ℕ)) →
    asked_in nodes number (lines ++ more)
    ≡ asked_in nodes number lines
    ++ asked_in nodes (number + length (asked_in nodes number lines)) more
asked_behind nodes number [] more = ap (λ n. asked_in nodes n more) (omega arith)
asked_behind nodes number (l ∷ ls) more =
    asked_behind_one nodes number (asked_by nodes number l) ls more
    (asked_behind nodes number ls more) (asked_behind nodes (number + 1) ls more) (is_nothing l)

-- one command more of a script is asked for
pub asked_next : (cs : List Command) (i : ℕ) (c : Command) → i < length cs →
    c ≡ slice_index_or cs i c →
    asked_of (map command_parts (take (i + 1) cs))
    ≡ asked_of (map command_parts (take i cs)) ++ Ok (does (command_parts c)) ∷ []
asked_next cs i c within here =
    let next = take_more cs i c within ∙ ap (λ (x : Command). take i cs ++ x ∷ []) (sym here) in
    ap (λ l. asked_of (map command_parts l)) next
    ∙ ap asked_of (map-append command_parts (take i cs) (c ∷ []))
    ∙ map-append {B = Asked} (λ x. Ok (does x)) (map command_parts (take i cs))
    (command_parts c ∷ [])

-- one more is answered in the cluster behind the others
pub answered_behind : (s : Setting) (w : Ways) (asked : List Asked) (a : Asked) (number : ℕ)
    (first between last : Standing) (text more : List ℕ) →
    AreAnsweredHere s w asked number first between text →
    IsAnsweredHere s w a (number + length asked) between last more →
    AreAnsweredHere s w (asked ++ a ∷ []) number first last (text ++ more)
answered_behind s w [] a number first between last text more done one = (
  last,
  more,
  [],
  subst (λ (n : ℕ). IsAnsweredHere s w a n first last more) (omega arith)
      (subst (λ (x : Standing). IsAnsweredHere s w a (number + 0) x last more) done.0 one),
  (refl, refl),
  ap (λ t. t ++ more) done.1 ∙ sym (append-nil more),
)
answered_behind s w (b ∷ bs) a number first between last text more done one = (
  done.0,
  done.1,
  done.2 ++ more,
  done.3,
  answered_behind s w bs a (number + 1) done.0 between last done.2 more done.4
      (subst (λ (n : ℕ). IsAnsweredHere s w a n between last more) (omega arith) one),
  ap (λ t. t ++ more) done.5 ∙ append_assoc done.1 done.2 more,
)

-- one command more of a script is done, in the cluster as it was opened
pub script_next : (s t : Setting) (w v : Ways) (cs : List Command) (i : ℕ) (c : Command)
    (number : ℕ)
    (between last : Standing) (text more : List ℕ) → i < length cs → c ≡ slice_index_or cs i c →
    AreAnsweredHere s w (asked_of (map command_parts (take i cs))) 1 none_standing between text →
    number ≡ i + 1 → t ≡ s → v ≡ w →
    IsDone t v.w v.with_steps (command_parts c) number between last more →
    AreAnsweredHere s w (asked_of (map command_parts (take (i + 1) cs))) 1 none_standing last
    (text ++ more)
script_next s t w v cs i c number between last text more within here so_far is same_setting same_w
    done =
    let asked = asked_of (map command_parts (take i cs)) in
    let count : length asked ≡ i =
    length-map {B = Asked} (map command_parts (take i cs)) (λ x. Ok (does x))
    ∙ length-map (take i cs) command_parts ∙ length-take-le i cs (omega arith) in
    let at : number ≡ 1 + length asked = omega (arith, is, count) in
    let one : IsDone s w.w w.with_steps (command_parts c) (1 + length asked) between last more =
    subst (λ (x : Setting). IsDone x w.w w.with_steps (command_parts c) (1 + length asked) between
    last more)
    same_setting
    (subst (λ (x : Ways). IsDone t x.w x.with_steps (command_parts c) (1 + length asked) between
    last more) same_w
    (subst (λ (n : ℕ). IsDone t v.w v.with_steps (command_parts c) n between last more) at done)) in
    subst (λ (l : List Asked). AreAnsweredHere s w l 1 none_standing last (text ++ more))
    (sym (asked_next cs i c within here))
    (answered_behind s w asked (Ok (does (command_parts c))) 1 none_standing between last text more
    so_far (inl one))

-- what was answered in the cluster was answered
pub answered : (v : Service) (a : Asked) (number : ℕ) (before after : Standing) (text : List ℕ) →
    IsAnsweredHere v.setting (ways_of v) a number before after text →
    IsAnswered v a number before after text
answered v (Err f) number before after text one = one
answered v (Ok (does c)) number before after text one = one
answered v (Ok renews) number before after text (inl met) = absurd met
answered v (Ok renews) number before after text (inr refused) = inr refused

pub all_answered : (v : Service) (asked : List Asked) (number : ℕ) (before after : Standing)
    (text : List ℕ) → AreAnsweredHere v.setting (ways_of v) asked number before after text →
    AreAnswered v asked number before after text
all_answered v [] number before after text done = done
all_answered v (a ∷ more) number before after text done = (
  done.0,
  done.1,
  done.2,
  answered v a number before done.0 done.1 done.3,
  all_answered v more (number + 1) done.0 after done.2 done.4,
  done.5,
)

-- more is answered behind the others
pub all_behind : (v : Service) (asked more : List Asked) (number : ℕ)
    (first between last : Standing) (text rest : List ℕ) →
    AreAnswered v asked number first between text →
    AreAnswered v more (number + length asked) between last rest →
    AreAnswered v (asked ++ more) number first last (text ++ rest)
all_behind v [] more number first between last text rest done others =
    subst (λ (t : List ℕ). AreAnswered v more number first last t)
    (sym (ap (λ t. t ++ rest) done.1))
    (subst (λ (n : ℕ). AreAnswered v more n first last rest) (omega arith)
    (subst (λ (x : Standing). AreAnswered v more (number + 0) x last rest) done.0 others))
all_behind v (a ∷ others_asked) more number first between last text rest done others = (
  done.0,
  done.1,
  done.2 ++ rest,
  done.3,
  all_behind v others_asked more (number + 1) done.0 between last done.2 rest done.4
      (subst (λ (n : ℕ). AreAnswered v more n between last rest) (omega arith) others),
  ap (λ t. t ++ rest) done.5 ∙ append_assoc done.1 done.2 rest,
)
