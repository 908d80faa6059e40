-- What commands do, one more behind those before it.
use Rattle.std.proofs.Common.{◌≡◌, ◌∙◌, ◌+◌, ◌<◌, ◌++◌, ◌∷◌, [], ℕ, List, Option, length}
use Rattle.std.proofs.Common.{map, take, slice_index_or, refl, sym, ap, subst, arith}
use Rattle.std.proofs.Common.{append_assoc, append-nil}
use Rattle.std.proofs.KnownBytes.{Appends-trans}
use Rattle.std.proofs.lemmas.List.{length-map, length-take-le, map-append, take_more}
use Rattle.std.specs.Io.KnownBytes.{Appends}
use Rattle.dy_cluster.specs.Settings.{Setting}
use Rattle.dy_lines.specs.Outcomes.{command_text}
use Rattle.dy_lines.specs.Texts.{line}
use Rattle.dy_lines.specs.declared.outcomes.Outcome.{Outcome}
use Rattle.dy_commands.specs.Commands.{Does}
use Rattle.dy_runner.specs.Runs.{DoAll, lines_from, outcomes_in}
use Rattle.dy_commands.specs.Seats.{Seated}
use Rattle.dy_runner.specs.declared.recordings.Played.{Played}
use Rattle.dy_script.specs.Orders.{CommandParts, command_parts}
use Rattle.dy_script.specs.declared.commands.Command.{Command}

-- as many outcomes as commands
done_length : (s : Setting) (w : ℕ) (cs : List CommandParts) (os : List Outcome)
    (before after : Seated) → DoAll s w cs os before after → length os ≡ length cs
done_length s w [] [] before after done = refl
done_length s w [] (o ∷ os) before after done = absurd done
done_length s w (c ∷ cs) [] before after done = absurd done
done_length s w (c ∷ cs) (o ∷ os) before after done =
    omega (arith, done_length s w cs os done.0 after done.2)

-- one more command is done behind the others
done_behind : (s : Setting) (w : ℕ) (cs : List CommandParts) (os : List Outcome)
    (c : CommandParts) (o : Outcome) (first between last : Seated) →
    DoAll s w cs os first between → Does s w c o between last →
    DoAll s w (cs ++ c ∷ []) (os ++ o ∷ []) first last
done_behind s w [] [] c o first between last done one =
    (last, subst (λ (x : Seated). Does s w c o x last) done one, refl)
done_behind s w [] (p ∷ ps) c o first between last done one = absurd done
done_behind s w (d ∷ ds) [] c o first between last done one = absurd done
done_behind s w (d ∷ ds) (p ∷ ps) c o first between last done one =
    (done.0, done.1, done_behind s w ds ps c o done.0 between last done.2 one)

-- its line stands behind theirs
lines_behind : (number : ℕ) (os : List Outcome) (o : Outcome) →
    lines_from number (os ++ o ∷ [])
    ≡ lines_from number os ++ line (command_text (number + length os) o)
lines_behind number [] o =
    append-nil (line (command_text number o))
    ∙ ap (λ (n : ℕ). line (command_text n o)) (omega arith)
lines_behind number (p ∷ ps) o =
    let first = line (command_text number p) in
    ap (λ l. first ++ l) (lines_behind (number + 1) ps o)
    ∙ sym (append_assoc first (lines_from (number + 1) ps) _)
    ∙ ap (λ (n : ℕ). first ++ lines_from (number + 1) ps ++ line (command_text n o)) (omega arith)

-- the command at this place is done behind those before it, with an outcome for each
pub record IsDoneNext (s : Setting) (w : ℕ) (cs : List Command) (i : ℕ) (os : List Outcome)
    (o : Outcome) (first last : Seated) : Type 0 where
  pub count : length os ≡ i
  pub done : DoAll s w (map command_parts (take (i + 1) cs)) (os ++ o ∷ []) first last

pub done_next : (s t : Setting) (w : ℕ) (cs : List Command) (i : ℕ) (os : List Outcome)
    (c : Command) (o : Outcome) (first between last : Seated) →
    i < length cs → c ≡ slice_index_or cs i c →
    DoAll s w (map command_parts (take i cs)) os first between → t ≡ s →
    Does t w (command_parts c) o between last →
    IsDoneNext s w cs i os o first last
done_next s t w cs i os c o first between last within here done same one =
    let before = map command_parts (take i cs) in
    let next = take_more cs i c within ∙ ap (λ (x : Command). take i cs ++ x ∷ []) (sym here) in
    record {
      count = done_length s w before os first between done
          ∙ length-map (take i cs) command_parts ∙ length-take-le i cs (omega arith);
      done = subst (λ (l : List CommandParts). DoAll s w l (os ++ o ∷ []) first last)
          (sym (ap (map command_parts) next ∙ map-append command_parts (take i cs) (c ∷ [])))
          (done_behind s w before os (command_parts c) o first between last done
          (subst (λ (x : Setting). Does x w (command_parts c) o between last) same one));
    }

-- and its line is written behind theirs
pub lines_next : (first before after : Option (List ℕ)) (i : ℕ) (os : List Outcome)
    (o : Outcome) → length os ≡ i → Appends first before (lines_from 1 os) →
    Appends before after (line (command_text (i + 1) o)) →
    Appends first after (lines_from 1 (os ++ o ∷ []))
lines_next first before after i os o count so_far one =
    let text = lines_behind 1 os o
    ∙ ap (λ (n : ℕ). lines_from 1 os ++ line (command_text n o)) (omega (arith, count)) in
    subst (Appends first after) (sym text) (Appends-trans first before after _ _ so_far one)

-- what came of it is recorded behind theirs
pub outcomes_next : (plays room more : List Played) (play : Played) → room ≡ plays →
    more ≡ room ++ play ∷ [] → outcomes_in more ≡ outcomes_in plays ++ play.outcome ∷ []
outcomes_next plays room more play same pushed =
    ap outcomes_in (pushed ∙ ap (λ ps. ps ++ play ∷ []) same)
    ∙ map-append (λ p. p.outcome) plays (play ∷ [])
