-- One line more is answered behind those before it.
use Rattle.std.proofs.Common.{◌≡◌, ◌≢◌, ◌∙◌, ◌+◌, ◌++◌, ◌∷◌, [], All, Bool, true, false, ℕ, List}
use Rattle.std.proofs.Common.{Option, None, Ok, cond, length, refl, sym, ap, subst, arith, append-nil}
use Rattle.std.proofs.Common.{inl, inr, length-append}
use Rattle.std.proofs.KnownBytes.{Consumes-trans}
use Rattle.std.proofs.lemmas.List.Elements.{All-append, All-cons, All-nil}
use Rattle.std.specs.Prelude.{Result, Err, IfOk}
use Rattle.std.specs.Io.KnownBytes.{Appends, Consumes}
use Rattle.dy_cluster.specs.Settings.{Setting}
use Rattle.dy_cluster.specs.declared.resting.Closed.{Closed}
use Rattle.dy_lines.specs.declared.stops.Stopped.{Stopped}
use Rattle.dy_script.specs.Reading.{ScriptParts}
use Rattle.dy_script.specs.Requests.{renews}
use Rattle.dy_serve.specs.Answers.{Asked, asked_by, asked_in}
use Rattle.dy_serve.specs.Below.{Standing}
use Rattle.dy_serve.specs.InputLines.{AreLines, IsRead}
use Rattle.dy_serve.specs.declared.answering.Answered.{Answered}
use Rattle.dy_serve.specs.declared.served_clusters.Ways.{Ways}
use Rattle.dy_serve.specs.declared.services.Stop.{Stop}
use Rattle.dy_serve.specs.inside.Meeting.{AreAnsweredHere, IsAnsweredHere, MeetsLine}
use Rattle.dy_serve.specs.inside.Stretches.{Begins, HasBegun, RunsScript, ServesLines, ServesNone}
use Rattle.dy_serve.specs.inside.Stretches.{ServesRest, ServesTo, with_renewal}
use Rattle.dy_serve.proofs.Asking.{answered_behind, asked_behind}
use Rattle.dy_serve.proofs.Stretching.{are_lines_behind}

-- a line that was read is a line
one_line : (is_last : Bool) (whole bytes : List ℕ) → IsRead is_last whole bytes →
    AreLines is_last bytes (whole ∷ [])
one_line false whole bytes read = read ∙ sym (append-nil (whole ++ 10 ∷ []))
one_line true whole bytes read =
    ap (λ b. b ++ 10 ∷ []) read ∙ sym (append-nil (whole ++ 10 ∷ []))

module _ (s : Setting) (w : Ways) (nodes first count : ℕ) (is_last : Bool)
    (before between after : Standing)
    (in_old in_mid in_new : Option (List ℕ)) (were text more whole bytes : List ℕ)
    (so : ServesTo s w nodes first count false false before between in_old in_mid were text)
    (read : IsRead is_last whole bytes) (none_within : All (λ x. x ≢ 10) whole)
    (taken : Consumes in_mid in_new bytes) where
  -- where this is what the line asks for, and all was answered
  serves_asked : (one asked : List Asked) (does_renew : Bool) (now : ℕ) →
      asked_in nodes (count + 1) (whole ∷ []) ≡ one →
      so.asked ++ one ≡ with_renewal does_renew asked →
      AreAnsweredHere s w asked (first + 1) before after (text ++ more) →
      now ≡ count + length one →
      ServesTo s w nodes first now does_renew is_last before after in_old in_new (were ++ bytes)
      (text ++ more)
  serves_asked one asked does_renew now one_is asked_is answered now_is =
      let ls = so.lines in
      let number : first + 1 + length (asked_in nodes (first + 1) ls) ≡ count + 1 =
      omega (arith, so.count_is) in
      let all : asked_in nodes (first + 1) (ls ++ whole ∷ []) ≡ so.asked ++ one =
      asked_behind nodes (first + 1) ls (whole ∷ [])
      ∙ ap (λ n. asked_in nodes (first + 1) ls ++ asked_in nodes n (whole ∷ [])) number
      ∙ ap (λ l. asked_in nodes (first + 1) ls ++ l) one_is
      ∙ ap (λ l. l ++ one) so.asked_are in
      let long : length (asked_in nodes (first + 1) (ls ++ whole ∷ []))
      ≡ length so.asked + length one =
      ap length all ∙ length-append so.asked one in
      let had : length (asked_in nodes (first + 1) ls) ≡ length so.asked =
      ap length so.asked_are in
      record {
        lines = ls ++ whole ∷ [];
        none_within = All-append (λ l. All (λ x. x ≢ 10) l) ls (whole ∷ []) so.none_within
            (All-cons (λ l. All (λ x. x ≢ 10) l) whole [] none_within
            (All-nil (λ l. All (λ x. x ≢ 10) l)));
        lines_are = are_lines_behind is_last were bytes ls (whole ∷ []) so.lines_are
            (one_line is_last whole bytes read);
        consumed = Consumes-trans in_old in_mid in_new were bytes so.consumed taken;
        asked = asked;
        asked_are = all ∙ asked_is;
        answered = answered;
        count_is = omega (arith, now_is, so.count_is, long, had);
      }

  number : first + 1 + length so.asked ≡ count + 1
  number = omega (arith, so.count_is, ap length so.asked_are)

  -- whatever the line asks for
  pub serves_line : (answered : Answered) →
      MeetsLine s w nodes count whole answered between after more →
      ServesTo s w nodes first answered.count answered.renews is_last before after in_old in_new
      (were ++ bytes) (text ++ more)
  serves_line answered (inl (is, counts, goes_on, (same, none))) =
      subst (λ (b : Bool). ServesTo s w nodes first answered.count b is_last before after in_old
      in_new (were ++ bytes) (text ++ more)) (sym goes_on)
      (serves_asked [] so.asked false answered.count
      (ap (λ b. cond b [] (asked_by nodes (count + 1) whole ∷ [])) is)
      (append-nil so.asked)
      (subst (λ (x : Standing). AreAnsweredHere s w so.asked (first + 1) before x (text ++ more))
      (sym same)
      (subst (λ (t : List ℕ). AreAnsweredHere s w so.asked (first + 1) before between t)
      (sym (ap (λ t. text ++ t) none ∙ append-nil text)) so.answered))
      (counts ∙ omega arith))
  serves_line answered (inr (is, counts, inl (renewal, asks, (same, none)))) =
      subst (λ (b : Bool). ServesTo s w nodes first answered.count b is_last before after in_old
      in_new (were ++ bytes) (text ++ more)) (sym renewal)
      (serves_asked (Ok renews ∷ []) so.asked true answered.count
      (ap (λ b. cond b [] (asked_by nodes (count + 1) whole ∷ [])) is
      ∙ ap (λ a. a ∷ []) asks)
      refl
      (subst (λ (x : Standing). AreAnsweredHere s w so.asked (first + 1) before x (text ++ more))
      (sym same)
      (subst (λ (t : List ℕ). AreAnsweredHere s w so.asked (first + 1) before between t)
      (sym (ap (λ t. text ++ t) none ∙ append-nil text)) so.answered))
      counts)
  serves_line answered (inr (is, counts, inr (goes_on, here))) =
      let asked = asked_by nodes (count + 1) whole in
      subst (λ (b : Bool). ServesTo s w nodes first answered.count b is_last before after in_old
      in_new (were ++ bytes) (text ++ more)) (sym goes_on)
      (serves_asked (asked ∷ []) (so.asked ++ asked ∷ []) false answered.count
      (ap (λ b. cond b [] (asked ∷ [])) is)
      refl
      (answered_behind s w so.asked asked (first + 1) before between after text more so.answered
      (subst (λ (n : ℕ). IsAnsweredHere s w asked n between after more) (sym number) here))
      counts)

-- in the cluster as it was opened
pub meets_in : (s t : Setting) (w v : Ways) (nodes m count : ℕ) (whole : List ℕ)
    (answered : Answered)
    (before after : Standing) (text : List ℕ) → t ≡ s → v ≡ w → m ≡ nodes →
    MeetsLine t v m count whole answered before after text →
    MeetsLine s w nodes count whole answered before after text
meets_in s t w v nodes m count whole answered before after text same_setting same_w same_nodes met =
    subst (λ (x : Setting). MeetsLine x w nodes count whole answered before after text) same_setting
    (subst (λ (x : Ways). MeetsLine t x nodes count whole answered before after text) same_w
    (subst (λ (x : ℕ). MeetsLine t v x count whole answered before after text) same_nodes met))

pub rest_in : (s t : Setting) (w v : Ways) (nodes m count : ℕ) (is_last : Bool) (stop : Stop)
    (before after : Standing) (in_old in_new : Option (List ℕ)) (text : List ℕ) →
    t ≡ s → v ≡ w → m ≡ nodes →
    ServesRest is_last t v m count stop before after in_old in_new text →
    ServesRest is_last s w nodes count stop before after in_old in_new text
rest_in s t w v nodes m count is_last stop before after in_old in_new text same_setting same_w
    same_nodes rest =
    subst (λ (x : Setting). ServesRest is_last x w nodes count stop before after in_old in_new text)
    same_setting
    (subst (λ (x : Ways). ServesRest is_last t x nodes count stop before after in_old in_new text)
    same_w
    (subst (λ (x : ℕ). ServesRest is_last t v x count stop before after in_old in_new text)
    same_nodes rest))

-- where there is more input
pub lines_rest : (s t : Setting) (w v : Ways) (nodes m count : ℕ) (is_last : Bool) (stop : Stop)
    (before after : Standing) (in_old in_new : Option (List ℕ)) (text : List ℕ) →
    is_last ≡ false → t ≡ s → v ≡ w → m ≡ nodes →
    ServesLines t v m count stop before after in_old in_new text →
    ServesRest is_last s w nodes count stop before after in_old in_new text
lines_rest s t w v nodes m count is_last stop before after in_old in_new text more same_setting
    same_w same_nodes lines =
    subst (λ (b : Bool). ServesRest b s w nodes count stop before after in_old in_new text)
    (sym more)
    (rest_in s t w v nodes m count false stop before after in_old in_new text same_setting same_w
    same_nodes lines)

-- and where there is none
pub none_rest : (s : Setting) (w : Ways) (nodes count : ℕ) (is_last : Bool) (stop : Stop)
    (before after : Standing) (in_old in_new : Option (List ℕ)) (text : List ℕ) →
    is_last ≡ true → ServesNone count stop before after in_old in_new text →
    ServesRest is_last s w nodes count stop before after in_old in_new text
none_rest s w nodes count is_last stop before after in_old in_new text ended none =
    subst (λ (b : Bool). ServesRest b s w nodes count stop before after in_old in_new text)
    (sym ended) none

-- where no renewal is asked for, and the input goes on
pub serves_here : (s : Setting) (w : Ways) (nodes first count : ℕ) (does_renew is_last : Bool)
    (before after : Standing) (in_old in_new : Option (List ℕ)) (bytes text : List ℕ) →
    does_renew ≡ false → is_last ≡ false →
    ServesTo s w nodes first count does_renew is_last before after in_old in_new bytes text →
    ServesTo s w nodes first count false false before after in_old in_new bytes text
serves_here s w nodes first count does_renew is_last before after in_old in_new bytes text goes_on
    more serves =
    subst (λ (b : Bool). ServesTo s w nodes first count false b before after in_old in_new bytes
    text) more
    (subst (λ (b : Bool). ServesTo s w nodes first count b is_last before after in_old in_new bytes
    text) goes_on serves)

pub begins_in : (s : Setting) (w : Ways) (script : ScriptParts) (x y : Option Closed) (number : ℕ)
    (after : Standing) (count : ℕ) (text : List ℕ) → x ≡ y →
    Begins s w script x number after count text → Begins s w script y number after count text
begins_in s w script x y number after count text same begins =
    subst (λ (c : Option Closed). Begins s w script c number after count text) same begins

-- a cluster begins with the commands of the script, where none was before it
pub begun_by : (s : Setting) (w : Ways) (script : ScriptParts) (closed : Option Closed)
    (n : ℕ) (after : Standing) (out_old out_new : Option (List ℕ))
    (r : Result ℕ Stopped) → closed ≡ None →
    IfOk r (λ _. length after.sessions.numbers ≡ length after.sessions.tellings) →
    IfOk r (λ count. (text : List ℕ) × RunsScript s w script after count text
    × Appends out_old out_new text) →
    IfOk r (λ count. HasBegun s w script closed n after count out_old out_new)
begun_by s w script closed n after out_old out_new (Ok count) none together wrote = record {
  together = together;
  text = wrote.0;
  begins = begins_in s w script None closed n after count wrote.0 (sym none) wrote.1;
  wrote = wrote.2;
}
begun_by s w script closed n after out_old out_new (Err e) none together wrote = tt
