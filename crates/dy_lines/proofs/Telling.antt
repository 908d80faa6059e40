-- What is written of gets and of sessions, one behind the other: the last ones are left.
use Rattle.std.proofs.Common.{◌≡◌, ◌∙◌, ◌+◌, ◌<◌, ℕ, List, [], ◌∷◌, ◌++◌, Option, length, map, min}
use Rattle.std.proofs.Common.{take, drop, slice_index_or, append_assoc, append-nil, length-append}
use Rattle.std.proofs.Common.{refl, sym, ap, subst, arith}
use Rattle.std.proofs.KnownBytes.{Appends-nil, Appends-trans}
use Rattle.std.proofs.Math.Seq.{drop-append_seam, take-append_seam}
use Rattle.std.proofs.lemmas.List.{drop_more, length-map}
use Rattle.std.proofs.lemmas.List.Elements.{All-head, All-tail}
use Rattle.std.specs.Io.KnownBytes.{Appends}
use Rattle.std.specs.List.{All, enumerate_from, flat_map}
use Rattle.dy_ring.specs.Rings.{Tokens}
use Rattle.dy_shares.specs.Shares.{GetTold, NodePart, SessionPart, answer_numbers}
use Rattle.dy_shares.specs.declared.step_numbers.StepNumbers.{StepNumbers}
use Rattle.dy_book.specs.Audits.{IsAuditOf}
use Rattle.dy_book.specs.Books.{BookParts}
use Rattle.dy_book.specs.declared.audits.Audit.{Audit}
use Rattle.dy_lines.specs.Steps.{told_text}
use Rattle.dy_lines.specs.Tellings.{AreFetchesOf, AreToldBy, Uses, get_line}
use Rattle.dy_lines.specs.Texts.{line}

-- two cuts of a list at one place have the same parts
same_parts : (xs ys ps qs : List ℕ) → length xs ≡ length ps → xs ++ ys ≡ ps ++ qs →
    (xs ≡ ps) × (ys ≡ qs)
same_parts xs ys ps qs long same = (
  sym (take-append_seam xs ys) ∙ ap (λ (n : ℕ). take n (xs ++ ys)) long ∙ ap (take (length ps)) same
      ∙ take-append_seam ps qs,
  sym (drop-append_seam xs ys) ∙ ap (λ (n : ℕ). drop n (xs ++ ys)) long ∙ ap (drop (length ps)) same
      ∙ drop-append_seam ps qs,
)

-- of these gets the last ones are left, which used these fetches
pub record GetsSoFar (r session : ℕ) (numbers : List ℕ) (gets : List GetTold)
    (first now : Option (List ℕ)) : Type 0 where
  pub rest : List GetTold
  pub are : AreFetchesOf r numbers rest
  pub wrote : List ℕ
  pub appended : Appends first now wrote
  pub makes : wrote ++ flat_map (get_line session) rest ≡ flat_map (get_line session) gets

-- none is written yet
pub gets_none : (r session : ℕ) (numbers : List ℕ) (gets : List GetTold)
    (now : Option (List ℕ)) → AreFetchesOf r numbers gets →
    GetsSoFar r session numbers gets now now
gets_none r session numbers gets now are = record {
  rest = gets;
  are = are;
  wrote = [];
  appended = Appends-nil now;
  makes = refl;
}

-- of those that are left the first used these numbers
gets_step : (r session : ℕ) (all used left : List ℕ) (rest gets : List GetTold)
    (wrote : List ℕ) (first now next : Option (List ℕ)) →
    all ≡ used ++ left → length used ≡ min r (length all) → 0 < length all →
    AreFetchesOf r all rest → Appends first now wrote →
    wrote ++ flat_map (get_line session) rest ≡ flat_map (get_line session) gets →
    Appends now next (line (told_text used session)) →
    GetsSoFar r session left gets first next
gets_step r session all used left [] gets wrote first now next is few some are before makes one =
    let none : length all ≡ 0 = ap length are.numbers_are in
    absurd (omega (arith, none, some))
gets_step r session all used left (g ∷ gs) gets wrote first now next is few some are before makes
    one =
    let numbers : List ℕ = map (λ a. a.at) g.answers in
    let lines : List ℕ = flat_map (get_line session) gs in
    let long : length numbers ≡ r =
    length-map g.answers (λ a. a.at) ∙ All-head (Uses r) g gs are.uses in
    let total : length all ≡ length numbers + length (answer_numbers gs) =
    ap length are.numbers_are ∙ length-append numbers (answer_numbers gs) in
    let parts = same_parts numbers (answer_numbers gs) used left (omega (arith, long, total, few))
    (sym are.numbers_are ∙ is) in
    let own : line (told_text used session) ≡ get_line session g =
    ap (λ (l : List ℕ). line (told_text l session)) (sym parts.0) in
    record {
      rest = gs;
      are = record { numbers_are = sym parts.1; uses = All-tail (Uses r) g gs are.uses };
      wrote = wrote ++ line (told_text used session);
      appended = Appends-trans first now next wrote (line (told_text used session)) before one;
      makes = append_assoc wrote (line (told_text used session)) lines
          ∙ ap (λ (l : List ℕ). wrote ++ (l ++ lines)) own ∙ makes;
    }

-- one more is written
pub gets_next : (r session : ℕ) (all used left : List ℕ) (gets : List GetTold)
    (first now next : Option (List ℕ)) →
    all ≡ used ++ left → length used ≡ min r (length all) → 0 < length all →
    GetsSoFar r session all gets first now → Appends now next (line (told_text used session)) →
    GetsSoFar r session left gets first next
gets_next r session all used left gets first now next is few some before one =
    gets_step r session all used left before.rest gets before.wrote first now next is few some
    before.are before.appended before.makes one

gets_end : (r session : ℕ) (rest gets : List GetTold) (wrote : List ℕ)
    (first now : Option (List ℕ)) → 0 < r → AreFetchesOf r [] rest → Appends first now wrote →
    wrote ++ flat_map (get_line session) rest ≡ flat_map (get_line session) gets →
    Appends first now (flat_map (get_line session) gets)
gets_end r session [] gets wrote first now some are before makes =
    subst (Appends first now) (sym (append-nil wrote) ∙ makes) before
gets_end r session (g ∷ gs) gets wrote first now some are before makes =
    let numbers : List ℕ = map (λ a. a.at) g.answers in
    let long : length numbers ≡ r =
    length-map g.answers (λ a. a.at) ∙ All-head (Uses r) g gs are.uses in
    let total : 0 ≡ length numbers + length (answer_numbers gs) =
    ap length are.numbers_are ∙ length-append numbers (answer_numbers gs) in
    absurd (omega (arith, some, long, total))

-- where no fetch is left all are written, since each used one
pub gets_all : (r session : ℕ) (numbers : List ℕ) (gets : List GetTold)
    (first now : Option (List ℕ)) → 0 < r → numbers ≡ [] →
    GetsSoFar r session numbers gets first now →
    Appends first now (flat_map (get_line session) gets)
gets_all r session numbers gets first now some none before =
    gets_end r session before.rest gets before.wrote first now some
    (subst (λ (l : List ℕ). AreFetchesOf r l before.rest) none before.are) before.appended
    before.makes

-- of these sessions the last ones are left, from this place on
pub record SessionsSoFar (lines_of : ℕ × SessionPart → List ℕ) (r place : ℕ)
    (told : List StepNumbers) (tellings : List SessionPart) (first now : Option (List ℕ))
    : Type 0 where
  pub rest : List SessionPart
  pub are : AreToldBy r (drop place told) rest
  pub wrote : List ℕ
  pub appended : Appends first now wrote
  pub makes : wrote ++ flat_map lines_of (enumerate_from place rest)
      ≡ flat_map lines_of (enumerate_from 0 tellings)

-- none is written yet
pub sessions_none : (lines_of : ℕ × SessionPart → List ℕ) (r : ℕ) (told : List StepNumbers)
    (tellings : List SessionPart) (now : Option (List ℕ)) → AreToldBy r told tellings →
    SessionsSoFar lines_of r 0 told tellings now now
sessions_none lines_of r told tellings now are = record {
  rest = tellings;
  are = are;
  wrote = [];
  appended = Appends-nil now;
  makes = refl;
}

-- of those that are left the first was told this
sessions_step : (lines_of : ℕ × SessionPart → List ℕ) (r place : ℕ) (told : List StepNumbers)
    (n : StepNumbers) (rest tellings : List SessionPart) (wrote : List ℕ)
    (first now next : Option (List ℕ)) → AreToldBy r (n ∷ drop (place + 1) told) rest →
    Appends first now wrote →
    wrote ++ flat_map lines_of (enumerate_from place rest)
    ≡ flat_map lines_of (enumerate_from 0 tellings) →
    ((s : SessionPart) → AreFetchesOf r n.fetches.items s.gets →
    Appends now next (lines_of (place, s))) →
    SessionsSoFar lines_of r (place + 1) told tellings first next
sessions_step lines_of r place told n [] tellings wrote first now next are before makes one =
    absurd are.told_are
sessions_step lines_of r place told n (s ∷ ss) tellings wrote first now next are before makes one =
    let used = λ (t : SessionPart). All (Uses r) t.gets in
    let own = lines_of (place, s) in
    let fetches : AreFetchesOf r n.fetches.items s.gets = record {
      numbers_are = are.told_are.0.fetches_are;
      uses = All-head used s ss are.uses;
    } in
    record {
      rest = ss;
      are = record { told_are = are.told_are.1; uses = All-tail used s ss are.uses };
      wrote = wrote ++ own;
      appended = Appends-trans first now next wrote own before (one s fetches);
      makes = append_assoc wrote own (flat_map lines_of (enumerate_from (place + 1) ss)) ∙ makes;
    }

-- one more is written
pub sessions_next : (lines_of : ℕ × SessionPart → List ℕ) (r place : ℕ) (told : List StepNumbers)
    (n : StepNumbers) (tellings : List SessionPart) (first now next : Option (List ℕ)) →
    place < length told → n ≡ slice_index_or told place n →
    SessionsSoFar lines_of r place told tellings first now →
    ((s : SessionPart) → AreFetchesOf r n.fetches.items s.gets →
    Appends now next (lines_of (place, s))) →
    SessionsSoFar lines_of r (place + 1) told tellings first next
sessions_next lines_of r place told n tellings first now next within here before one =
    let left : drop place told ≡ n ∷ drop (place + 1) told =
    drop_more told place n within
    ∙ ap (λ (x : StepNumbers). x ∷ drop (place + 1) told) (sym here) in
    sessions_step lines_of r place told n before.rest tellings before.wrote first now next
    (subst (λ (l : List StepNumbers). AreToldBy r l before.rest) left before.are) before.appended
    before.makes one

sessions_end : (lines_of : ℕ × SessionPart → List ℕ) (r place : ℕ)
    (rest tellings : List SessionPart) (wrote : List ℕ) (first now : Option (List ℕ)) →
    AreToldBy r [] rest → Appends first now wrote →
    wrote ++ flat_map lines_of (enumerate_from place rest)
    ≡ flat_map lines_of (enumerate_from 0 tellings) →
    Appends first now (flat_map lines_of (enumerate_from 0 tellings))
sessions_end lines_of r place [] tellings wrote first now are before makes =
    subst (Appends first now) (sym (append-nil wrote) ∙ makes) before
sessions_end lines_of r place (s ∷ ss) tellings wrote first now are before makes =
    absurd are.told_are

-- at the end all are written
pub sessions_all : (lines_of : ℕ × SessionPart → List ℕ) (r place : ℕ) (told : List StepNumbers)
    (tellings : List SessionPart) (first now : Option (List ℕ)) → drop place told ≡ [] →
    SessionsSoFar lines_of r place told tellings first now →
    Appends first now (flat_map lines_of (enumerate_from 0 tellings))
sessions_all lines_of r place told tellings first now none before =
    sessions_end lines_of r place before.rest tellings before.wrote first now
    (subst (λ (l : List StepNumbers). AreToldBy r l before.rest) none before.are) before.appended
    before.makes

-- an audit has the numbers that its sessions were told
pub told_by : (ring : Tokens) (n r : ℕ) (b : BookParts) (parts : List NodePart)
    (tellings : List SessionPart) (a : Audit) → IsAuditOf ring n r b parts tellings a →
    AreToldBy r a.told.items tellings
told_by ring n r b parts tellings a is = record {
  told_are = is.tells.told;
  uses = λ place s within. λ index g below.
      ((is.all.sessions_belong place s within).gets_match index g below).1.count_is;
}
