-- What was served in one cluster, behind those before it.
use Rattle.std.proofs.Common.{◌≡◌, ◌≢◌, ◌∙◌, ◌+◌, ◌++◌, ◌∷◌, [], All, Bool, true, false, ℕ, List}
use Rattle.std.proofs.Common.{Ok}
use Rattle.std.proofs.Common.{Option, Some, None, IsTrue, length, refl, sym, ap, subst, arith}
use Rattle.std.proofs.Common.{append_assoc, append-nil, length-append, inl}
use Rattle.std.proofs.lemmas.List.{length-map}
use Rattle.std.proofs.lemmas.List.Elements.{All-append}
use Rattle.std.proofs.KnownBytes.{Appends-trans, Consumes-trans}
use Rattle.std.specs.Io.KnownBytes.{Consumes}
use Rattle.std.specs.declared.marker.Brand.{Brand}
use Rattle.dy_ring.specs.Rings.{Tokens}
use Rattle.dy_book.specs.Limits.{AreLimits, IsQuorum}
use Rattle.dy_book.specs.declared.options.Options.{Options}
use Rattle.dy_cluster.specs.Settings.{setting}
use Rattle.dy_cluster.specs.declared.resting.Closed.{Closed}
use Rattle.dy_lines.specs.Served.{renewed_text}
use Rattle.dy_lines.specs.Texts.{line}
use Rattle.dy_script.specs.Reading.{ScriptParts, node_count}
use Rattle.dy_script.specs.Requests.{does, renews}
use Rattle.dy_plans.specs.Openings.{options_for}
use Rattle.dy_plans.specs.RingLines.{IsLaidOut}
use Rattle.dy_serve.specs.Answers.{AreAnswered, Asked, IsRenewed, asked_in, asked_of}
use Rattle.dy_serve.specs.Below.{Standing, none_standing}
use Rattle.dy_serve.specs.Closings.{IsClosing, Service}
use Rattle.dy_serve.specs.InputLines.{AreLines, IsAllOf, ended}
use Rattle.dy_serve.specs.Served.{IsServed, asked_of_all, first_lines, service_of}
use Rattle.dy_serve.specs.declared.services.Stop.{Stop}
use Rattle.dy_serve.specs.inside.Stretches.{GoesOn, HasServed, ServedSo, ServesLines}
use Rattle.dy_serve.specs.inside.Stretches.{HasServedSo, ServesCluster}
use Rattle.dy_serve.specs.inside.Stretches.{ServesRest, ways_of, with_renewal}
use Rattle.dy_serve.proofs.Asking.{all_answered, all_behind, asked_behind}
use Rattle.dy_serve.proofs.Lines as lines

-- a renewal stays the last
renewal_behind : (is : Bool) (asked more : List Asked) →
    asked ++ with_renewal is more ≡ with_renewal is (asked ++ more)
renewal_behind false asked more = refl
renewal_behind true asked more = sym (append_assoc asked more (Ok renews ∷ []))

-- lines stand behind lines
ended_behind : (ls more : List (List ℕ)) → ended (ls ++ more) ≡ ended ls ++ ended more
ended_behind [] more = refl
ended_behind (l ∷ ls) more =
    ap (λ t. (l ++ 10 ∷ []) ++ t) (ended_behind ls more)
    ∙ sym (append_assoc (l ++ 10 ∷ []) (ended ls) (ended more))

pub are_lines_behind : (is_last : Bool) (before bytes : List ℕ) (ls more : List (List ℕ)) →
    AreLines false before ls → AreLines is_last bytes more →
    AreLines is_last (before ++ bytes) (ls ++ more)
are_lines_behind false before bytes ls more first rest =
    ap (λ t. t ++ bytes) first ∙ ap (λ t. ended ls ++ t) rest ∙ sym (ended_behind ls more)
are_lines_behind true before bytes ls more first rest =
    append_assoc before bytes (10 ∷ []) ∙ ap (λ t. t ++ (bytes ++ 10 ∷ [])) first
    ∙ ap (λ t. ended ls ++ t) rest ∙ sym (ended_behind ls more)

-- as many are asked for as the script has commands, and the lines behind them
pub asked_count : (v : Service) (ls : List (List ℕ)) →
    length (asked_of_all v.script ls)
    ≡ length v.script.run
    + length (asked_in (node_count v.script.layout) (length v.script.run + 1) ls)
asked_count v ls =
    length-append (asked_of v.script.run)
    (asked_in (node_count v.script.layout) (length v.script.run + 1) ls)
    ∙ ap (λ n. n + length (asked_in (node_count v.script.layout) (length v.script.run + 1) ls))
    (length-map {B = Asked} v.script.run (λ c. Ok (does c)))

-- more lines ask behind those before them
pub asked_by_more : (v : Service) (ls more : List (List ℕ)) →
    asked_of_all v.script (ls ++ more)
    ≡ asked_of_all v.script ls
    ++ asked_in (node_count v.script.layout) (length (asked_of_all v.script ls) + 1) more
asked_by_more v ls more =
    let nodes = node_count v.script.layout in
    let first = length v.script.run + 1 in
    ap (λ t. asked_of v.script.run ++ t) (asked_behind nodes first ls more)
    ∙ sym (append_assoc (asked_of v.script.run) (asked_in nodes first ls) _)
    ∙ ap (λ n. asked_of_all v.script ls ++ asked_in nodes n more)
    (omega (arith, asked_count v ls))

-- what was served first, in the cluster in which the commands of the script were done
pub served_first : (v : Service) (begin stop : Stop) (after : Standing)
    (in_old in_new out_old out_new : Option (List ℕ)) →
    begin.is_last ≡ false →
    (h : HasServed v.setting (ways_of v) v.script None begin stop after in_old in_new out_old
    out_new) →
    (last : Closed) (closing : List ℕ) → IsClosing v after last closing →
    ServedSo v stop last in_old in_new (h.first ++ h.rest ++ closing)
served_first v begin stop after in_old in_new out_old out_new more h last closing closed_so =
    let s = v.script in
    let nodes = node_count s.layout in
    let rest : ServesLines v.setting (ways_of v) nodes h.count stop h.begun after in_old in_new
    h.rest =
    subst (λ (b : Bool). ServesRest b v.setting (ways_of v) nodes h.count stop h.begun after
    in_old in_new
    h.rest) more h.serves in
    let count = h.begins.count_is in
    let asked_are : asked_in nodes (length s.run + 1) rest.serves.lines
    ≡ with_renewal stop.renews rest.serves.asked =
    subst (λ (n : ℕ). asked_in nodes (n + 1) rest.serves.lines ≡ with_renewal stop.renews
    rest.serves.asked)
    count rest.serves.asked_are in
    let of_lines = all_answered v rest.serves.asked (h.count + 1) h.begun after h.rest
    rest.serves.answered in
    record {
      bytes = rest.bytes;
      lines = rest.serves.lines;
      none_within = rest.serves.none_within;
      lines_are = rest.serves.lines_are;
      consumed = rest.serves.consumed;
      is_all = rest.is_all;
      asked = asked_of s.run ++ rest.serves.asked;
      asked_are = ap (λ t. asked_of s.run ++ t) asked_are
          ∙ renewal_behind stop.renews (asked_of s.run) rest.serves.asked;
      stands = after;
      answers = h.first ++ h.rest;
      answered = all_behind v (asked_of s.run) rest.serves.asked 1 none_standing h.begun after
          h.first h.rest
          (all_answered v (asked_of s.run) 1 none_standing h.begun h.first h.begins.answered)
          (subst (λ (n : ℕ). AreAnswered v rest.serves.asked n h.begun after h.rest)
          (omega (arith, count, length-map {B = Asked} s.run (λ c. Ok (does c)))) of_lines);
      closing = closing;
      closed_so = closed_so;
      count_is = rest.serves.count_is
          ∙ subst (λ (n : ℕ). n + length (asked_in nodes (n + 1) rest.serves.lines)
          ≡ length (asked_of_all s rest.serves.lines)) (sym count)
          (sym (asked_count v rest.serves.lines));
      stops = rest.stops;
      text_is = refl;
    }

-- the renewal that stood out is done, and no other request is
record IsRenewedSo (v : Service) (count : ℕ) (asked : List Asked) (begun : Standing)
    (text : List ℕ) : Type 0 where
  pub answered : AreAnswered v (asked ++ Ok renews ∷ []) 1 none_standing begun text
  pub count_is : length (asked ++ Ok renews ∷ []) ≡ count

renewed_so : (v : Service) (last : Closed) (asked : List Asked) (sessions begun : Standing)
    (answers closing first : List ℕ) (number count : ℕ) →
    AreAnswered v asked 1 none_standing sessions answers → IsClosing v sessions last closing →
    number ≡ length (asked ++ Ok renews ∷ []) →
    GoesOn v.setting v.with_steps last number begun count first →
    IsRenewedSo v count asked begun (answers ++ closing ++ first)
renewed_so v last asked sessions begun answers closing first number count done closed_so is goes =
    let long = length-append asked (Ok renews ∷ []) in
    let at : number ≡ 1 + length asked = is ∙ long ∙ omega arith in
    let renewed : IsRenewed v (1 + length asked) sessions begun (closing ++ first) = record {
      closed = last;
      closing = closing;
      closed_so = closed_so;
      count = goes.carried;
      carried = goes.is_carried;
      below = goes.below;
      is_below = goes.is_below;
      text_is = ap (λ t. closing ++ t) (goes.text_is
          ∙ ap (λ n. line (renewed_text n goes.carried) ++ goes.below) at)
          ∙ sym (append_assoc closing (line (renewed_text (1 + length asked) goes.carried))
          goes.below);
    } in
    record {
      answered = subst (AreAnswered v (asked ++ Ok renews ∷ []) 1 none_standing begun)
          (sym (append_assoc answers closing first))
          (all_behind v asked (Ok renews ∷ []) 1 none_standing sessions begun answers
          (closing ++ first) done (
            begun,
            closing ++ first,
            [],
            inl renewed,
            (refl, refl),
            sym (append-nil (closing ++ first)),
          ));
      count_is = sym (goes.count_is ∙ is);
    }

-- behind a renewal there is nothing left to serve, or more lines are served
served_rest : (v : Service) (begin stop : Stop) (last now : Closed) (begun after : Standing)
    (in_old in_mid in_new : Option (List ℕ)) (text first rest closing : List ℕ) (count : ℕ) →
    (so : ServedSo v begin last in_old in_mid text) → begin.renews ≡ true →
    IsRenewedSo v count so.asked begun (text ++ first) →
    (is_last : Bool) → begin.is_last ≡ is_last →
    ServesRest is_last v.setting (ways_of v) (node_count v.script.layout) count stop begun after
    in_mid in_new rest → IsClosing v after now closing →
    ServedSo v stop now in_old in_new (text ++ first ++ rest ++ closing)
served_rest v begin stop last now begun after in_old in_mid in_new text first rest closing count
    so renewed done true is_last none closed_so =
    let s = v.script in
    let asked_are : asked_of_all s so.lines ≡ so.asked ++ Ok renews ∷ [] =
    so.asked_are ∙ ap (λ b. with_renewal b so.asked) renewed in
    record {
      bytes = so.bytes;
      lines = so.lines;
      none_within = so.none_within;
      lines_are = subst (λ (b : Bool). AreLines b so.bytes so.lines)
          (is_last ∙ sym none.is_last) so.lines_are;
      consumed = subst (λ (x : Option (List ℕ)). Consumes in_old x so.bytes) (sym none.kept)
          so.consumed;
      is_all = λ _. so.is_all (subst IsTrue (sym is_last) refl);
      asked = so.asked ++ Ok renews ∷ [];
      asked_are = asked_are ∙ ap (λ b. with_renewal b (so.asked ++ Ok renews ∷ []))
          (sym none.renews);
      stands = after;
      answers = text ++ first ++ rest;
      answered = subst (λ (x : Standing). AreAnswered v (so.asked ++ Ok renews ∷ []) 1
          none_standing x
          (text ++ first ++ rest)) (sym none.same)
          (subst (λ (t : List ℕ). AreAnswered v (so.asked ++ Ok renews ∷ []) 1 none_standing begun
          t)
          (sym (ap (λ t. text ++ first ++ t) none.text_is ∙ append-nil (text ++ first)))
          done.answered);
      closing = closing;
      closed_so = closed_so;
      count_is = none.count_is ∙ sym done.count_is ∙ ap length (sym asked_are);
      stops = λ _. none.is_last;
      text_is = refl;
    }
served_rest v begin stop last now begun after in_old in_mid in_new text first rest closing count
    so renewed done false is_last more closed_so =
    let s = v.script in
    let nodes = node_count s.layout in
    let asked_are : asked_of_all s so.lines ≡ so.asked ++ Ok renews ∷ [] =
    so.asked_are ∙ ap (λ b. with_renewal b so.asked) renewed in
    let long : length (asked_of_all s so.lines) ≡ count = ap length asked_are ∙ done.count_is in
    let here : asked_in nodes (length (asked_of_all s so.lines) + 1) more.serves.lines
    ≡ with_renewal stop.renews more.serves.asked =
    subst (λ (n : ℕ). asked_in nodes (n + 1) more.serves.lines ≡ with_renewal stop.renews
    more.serves.asked)
    (sym long) more.serves.asked_are in
    let together : asked_of_all s (so.lines ++ more.serves.lines)
    ≡ with_renewal stop.renews (so.asked ++ Ok renews ∷ [] ++ more.serves.asked) =
    asked_by_more v so.lines more.serves.lines
    ∙ ap (λ t. asked_of_all s so.lines ++ t) here
    ∙ ap (λ t. t ++ with_renewal stop.renews more.serves.asked) asked_are
    ∙ renewal_behind stop.renews (so.asked ++ Ok renews ∷ []) more.serves.asked in
    record {
      bytes = so.bytes ++ more.bytes;
      lines = so.lines ++ more.serves.lines;
      none_within = All-append (λ l. All (λ x. x ≢ 10) l) so.lines more.serves.lines
          so.none_within more.serves.none_within;
      lines_are = are_lines_behind stop.is_last so.bytes more.bytes so.lines more.serves.lines
          (subst (λ (b : Bool). AreLines b so.bytes so.lines) is_last so.lines_are)
          more.serves.lines_are;
      consumed = Consumes-trans in_old in_mid in_new so.bytes more.bytes so.consumed
          more.serves.consumed;
      is_all = λ is. lines.all_behind in_old in_mid so.bytes more.bytes so.consumed
          (more.is_all is);
      asked = so.asked ++ Ok renews ∷ [] ++ more.serves.asked;
      asked_are = together;
      stands = after;
      answers = text ++ first ++ rest;
      answered = all_behind v (so.asked ++ Ok renews ∷ []) more.serves.asked 1 none_standing begun
          after
          (text ++ first) rest done.answered
          (subst (λ (n : ℕ). AreAnswered v more.serves.asked n begun after rest)
          (omega (arith, done.count_is))
          (all_answered v more.serves.asked (count + 1) begun after rest more.serves.answered));
      closing = closing;
      closed_so = closed_so;
      count_is = more.serves.count_is
          ∙ subst (λ (n : ℕ). n + length (asked_in nodes (n + 1) more.serves.lines)
          ≡ length (asked_of_all s (so.lines ++ more.serves.lines))) long
          (sym (ap length (asked_by_more v so.lines more.serves.lines)
          ∙ length-append (asked_of_all s so.lines) _));
      stops = more.stops;
      text_is = refl;
    }

-- what was served in a cluster that was opened behind a renewal
pub served_next : (v : Service) (begin stop : Stop) (after : Standing) (last now : Closed)
    (in_old in_mid in_new out_old out_new : Option (List ℕ)) (text closing : List ℕ) →
    (so : ServedSo v begin last in_old in_mid text) → begin.renews ≡ true →
    (h : HasServed v.setting (ways_of v) v.script (Some last) begin stop after in_mid in_new
    out_old out_new) →
    IsClosing v after now closing →
    ServedSo v stop now in_old in_new (text ++ (h.first ++ h.rest ++ closing))
served_next v begin stop after last now in_old in_mid in_new out_old out_new text closing so
    renewed h closed_so =
    let number : begin.count ≡ length (so.asked ++ Ok renews ∷ []) =
    so.count_is ∙ ap length (so.asked_are ∙ ap (λ b. with_renewal b so.asked) renewed) in
    let one = renewed_so v last so.asked so.stands h.begun so.answers so.closing h.first
    begin.count h.count so.answered so.closed_so number h.begins in
    let whole : IsRenewedSo v h.count so.asked h.begun (text ++ h.first) =
    subst (λ (t : List ℕ). IsRenewedSo v h.count so.asked h.begun (t ++ h.first)) (sym so.text_is)
    one in
    subst (ServedSo v stop now in_old in_new)
    (append_assoc (text ++ h.first) h.rest closing
    ∙ append_assoc text h.first (h.rest ++ closing)
    ∙ ap (λ t. text ++ t) (sym (append_assoc h.first h.rest closing)))
    (served_rest v begin stop last now h.begun after in_old in_mid in_new text h.first h.rest
    closing h.count so renewed whole begin.is_last refl h.serves closed_so)

-- a cluster was opened with these options on this ring, for a service of this script
abbrev pub service_with : Tokens → Options → ScriptParts → Bool → Service
service_with ring options s with_steps = record {
  setting = setting Brand ring options.n options.r options;
  script = s;
  with_steps = with_steps;
}

-- what a call of the first cluster tells
pub has_served_first : (ring : Tokens) (options : Options) (s : ScriptParts) (with_steps : Bool)
    (before after : Option Closed) (begin stop : Stop)
    (in_old in_new out_old out_new : Option (List ℕ)) → options ≡ options_for s →
    before ≡ None → begin.is_last ≡ false →
    ServesCluster (service_with ring options s with_steps) before begin after stop in_old in_new
    out_old out_new →
    HasServedSo (service_of s ring with_steps) after stop in_old in_new out_old out_new
has_served_first ring options s with_steps before after begin stop in_old in_new out_old out_new
    is none more call =
    let v = service_of s ring with_steps in
    let made : ServesCluster v None begin after stop in_old in_new out_old out_new =
    subst (λ (x : Option Closed). ServesCluster v x begin after stop in_old in_new out_old out_new)
    none
    (subst (λ (o : Options). ServesCluster (service_with ring o s with_steps) before begin after
    stop
    in_old in_new out_old out_new) is call) in
    record {
      text = made.served.first ++ made.served.rest ++ made.closing;
      last = made.last;
      last_is = made.last_is;
      so = served_first v begin stop made.stands in_old in_new out_old made.between more
          made.served made.last made.closing made.closed_so;
      wrote = Appends-trans out_old made.between out_new _ made.closing made.served.wrote
          made.wrote;
    }

-- what a call of one more tells
pub has_served_next : (ring : Tokens) (options : Options) (s t : ScriptParts) (with_steps : Bool)
    (before after : Option Closed) (begin stop : Stop)
    (in_old in_mid in_new out_old out_mid out_new : Option (List ℕ)) → options ≡ options_for s →
    t ≡ s → begin.renews ≡ true →
    HasServedSo (service_of s ring with_steps) before begin in_old in_mid out_old out_mid →
    ServesCluster (service_with ring options t with_steps) before begin after stop in_mid in_new
    out_mid out_new →
    HasServedSo (service_of s ring with_steps) after stop in_old in_new out_old out_new
has_served_next ring options s t with_steps before after begin stop in_old in_mid in_new out_old
    out_mid out_new is same renewed had call =
    let v = service_of s ring with_steps in
    let made : ServesCluster v (Some had.last) begin after stop in_mid in_new out_mid out_new =
    subst (λ (x : Option Closed). ServesCluster v x begin after stop in_mid in_new out_mid out_new)
    had.last_is
    (subst (λ (o : Options). ServesCluster (service_with ring o s with_steps) before begin after
    stop
    in_mid in_new out_mid out_new) is
    (subst (λ (x : ScriptParts). ServesCluster (service_with ring options x with_steps) before begin
    after stop in_mid in_new out_mid out_new) same call)) in
    let more = made.served.first ++ made.served.rest ++ made.closing in
    record {
      text = had.text ++ more;
      last = made.last;
      last_is = made.last_is;
      so = served_next v begin stop made.stands had.last made.last in_old in_mid in_new out_mid
          made.between had.text made.closing had.so renewed made.served made.closed_so;
      wrote = Appends-trans out_old out_mid out_new had.text more had.wrote
          (Appends-trans out_mid made.between out_new _ made.closing made.served.wrote made.wrote);
    }

-- all was served where no renewal stands out
pub all_served : (ring : Tokens) (s : ScriptParts) (with_steps : Bool) (stop : Stop)
    (last : Closed) (in_old in_new : Option (List ℕ)) (text : List ℕ) →
    IsLaidOut s.layout ring → AreLimits (options_for s) → IsQuorum (options_for s) ring.nodes →
    stop.renews ≡ false →
    (so : ServedSo (service_of s ring with_steps) stop last in_old in_new text) →
    IsServed s with_steps so.bytes (first_lines s ring with_steps ++ text)
    × IsAllOf in_old so.bytes
all_served ring s with_steps stop last in_old in_new text laid_out limits quorum ended so =
    let v = service_of s ring with_steps in
    let at_end : stop.is_last ≡ true = so.stops ended in
    let asked : asked_of_all s so.lines ≡ so.asked =
    so.asked_are ∙ ap (λ b. with_renewal b so.asked) ended in (
      record {
        ring = ring;
        laid_out = laid_out;
        limits = limits;
        quorum = quorum;
        lines = so.lines;
        lines_of = record {
          none_within = so.none_within;
          lines_are = subst (λ (b : Bool). AreLines b so.bytes so.lines) at_end so.lines_are;
        };
        stands = so.stands;
        answers = so.answers;
        answered = subst (λ (l : List Asked). AreAnswered v l 1 none_standing so.stands so.answers)
            (sym asked) so.answered;
        closed = last;
        closing = so.closing;
        closed_so = so.closed_so;
        wrote_is = ap (λ t. first_lines s ring with_steps ++ t) so.text_is
            ∙ sym (append_assoc (first_lines s ring with_steps) so.answers so.closing);
      },
      so.is_all at_end,
    )
