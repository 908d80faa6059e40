-- Why no more is served, and what that says of a service.
use Rattle.std.proofs.Common.{◌≡◌, ◌≢◌, ◌≤◌, ◌∙◌, ◌+◌, ◌++◌, ◌^◌, [], All, Bool, true, false, ℕ}
use Rattle.std.proofs.Common.{List, Option, Some, None, length, length-append, ap, arith, inl, inr}
use Rattle.std.proofs.Common.{is_some, refl, subst, sym, ⊎_elim}
use Rattle.std.proofs.lemmas.Bool.{true≢false}
use Rattle.std.proofs.lemmas.List.Elements.{All-append, All-nil}
use Rattle.std.proofs.KnownBytes.{Appends-trans, Consumes-nil, Consumes-trans}
use Rattle.std.specs.Prelude.{◌⊎◌, Result, Ok, Err, IfErr, IsErrAnd}
use Rattle.std.specs.Io.KnownBytes.{Appends}
use Rattle.std.specs.declared.marker.Brand.{Brand}
use Rattle.dy_dots.specs.declared.faults.Fault.{Fault}
use Rattle.dy_dots.specs.declared.faults.Fault.TheVariants.{OutOfMemory, SharesMissing}
use Rattle.dy_ring.specs.Rings.{Tokens}
use Rattle.dy_book.specs.Limits.{AreLimits, IsQuorum}
use Rattle.dy_book.specs.declared.options.Options.{Options}
use Rattle.dy_cluster.specs.Refusals.{IsOpenRefusal}
use Rattle.dy_cluster.specs.Settings.{Setting, setting}
use Rattle.dy_cluster.specs.declared.resting.Closed.{Closed}
use Rattle.dy_lines.specs.Stops.{IsStoppedFor}
use Rattle.dy_lines.specs.declared.stops.Stopped.{Stopped}
use Rattle.dy_lines.specs.declared.stops.Stopped.TheVariants.{Refused}
use Rattle.dy_script.specs.Reading.{ScriptParts, node_count}
use Rattle.dy_plans.specs.Openings.{IsPlanOf, options_for}
use Rattle.dy_plans.specs.Refusals.{HasFailed}
use Rattle.dy_plans.specs.RingLines.{IsLaidOut}
use Rattle.dy_plans.specs.declared.plans.Plan.{Plan}
use Rattle.dy_plans.proofs.Refusing.{same_stop}
use Rattle.dy_serve.specs.Answers.{asked_in}
use Rattle.dy_serve.specs.Below.{Standing}
use Rattle.dy_serve.specs.Closings.{Service}
use Rattle.dy_serve.specs.InputLines.{AreFirstLines, AreLines}
use Rattle.dy_serve.specs.Refusals.{CutsService, IsNotCarried, IsOutOfNumbers, IsRenewalRefused}
use Rattle.dy_serve.specs.Served.{asked_of_all, first_lines, service_of}
use Rattle.dy_serve.specs.declared.served_clusters.Ways.{Ways}
use Rattle.dy_serve.specs.declared.services.Stop.{Stop}
use Rattle.dy_serve.specs.inside.Shortages.{StopsCluster, StopsClusters}
use Rattle.dy_serve.specs.inside.Shortages.{StopsServing, begun_at}
use Rattle.dy_serve.specs.inside.Stretches.{Begins, HasServedSo, ServedSo, with_renewal}
use Rattle.dy_serve.proofs.Stretching.{are_lines_behind, asked_by_more, asked_count}

-- what stops for these causes stops for all that they are among
pub stopped_too : {T : Type 0} (Causes More : Fault → Type 0) (r : Result T Stopped) →
    ((f : Fault) → Causes f → More f) → IfErr r (IsStoppedFor Causes) →
    IfErr r (IsStoppedFor More)
stopped_too Causes More (Ok x) more only = tt
stopped_too Causes More (Err e) more only = λ f stops. more f (only f stops)

-- what stops a call that is passed on
pub passed_on : {T : Type 0} (Causes More : Fault → Type 0) (e : Stopped) (r : Result T Stopped) →
    IsErrAnd r (λ y. y ≡ e) → IsStoppedFor Causes e → ((f : Fault) → Causes f → More f) →
    IfErr r (IsStoppedFor More)
passed_on Causes More e (Ok x) same only more = tt
passed_on Causes More e (Err y) same only more = λ f stops. more f (only f (sym same ∙ stops))

-- a refusal that is passed on
pub refused_for : {T : Type 0} (More : Fault → Type 0) (e : Fault) (r : Result T Stopped) →
    IsErrAnd r (λ y. y ≡ Refused e) → More e → IfErr r (IsStoppedFor More)
refused_for More e (Ok x) same more = tt
refused_for More e (Err y) same more =
    λ f stops. subst More (same_stop e f (sym same ∙ stops)) more

-- a cluster that was begun is at this number
pub begun_count : (s : Setting) (w : Ways) (script : ScriptParts) (closed : Option Closed)
    (number : ℕ) (after : Standing) (count : ℕ) (text : List ℕ) →
    Begins s w script closed number after count text → count ≡ begun_at script closed number
begun_count s w script None number after count text begins = begins.count_is
begun_count s w script (Some closed) number after count text begins = begins.count_is

-- a cluster of a plan is refused for want of memory, for a share, or by what is done in it
pub plan_stops : (s : ScriptParts) (plan : Plan) (f : Fault) (Stops : Type 0) → IsPlanOf s plan →
    (f ≡ OutOfMemory → Stops) →
    IsOpenRefusal plan.options plan.ring.nodes f ⊎ (f ≡ SharesMissing) ⊎ Stops →
    (f ≡ SharesMissing) ⊎ Stops
plan_stops s plan f Stops planned memory =
    let limits : AreLimits plan.options = subst AreLimits (sym planned.options) planned.limits in
    let fits : IsQuorum plan.options plan.ring.nodes =
    subst (λ (o : Options). IsQuorum o plan.ring.nodes) (sym planned.options) planned.quorum in
    ⊎_elim
    (⊎_elim (λ limit. absurd (limit.1 limits))
    (⊎_elim (λ quorum. absurd (quorum.1 fits)) (λ wanting. inr (memory wanting))))
    (λ others. others)

-- the cluster, where there is one
abbrev closed_or : Closed → Option Closed → Closed
closed_or other None = other
closed_or other (Some closed) = closed

-- there is one or there is none
none_or : {X : Type 0} (last : Closed) (closed : Option Closed) → closed ≡ None →
    closed ≡ Some last → X
none_or last closed none some = absurd (true≢false (sym (ap is_some some) ∙ ap is_some none))

-- the script alone asks for so much
of_script : (v : Service) (given : Option (List ℕ)) → 2 ^ 32 ≤ length v.script.run + 1 →
    IsOutOfNumbers v.script given
of_script v given many = (
  [],
  record {
    bytes = [];
    left = given;
    consumed = Consumes-nil given;
    none_within = All-nil _;
    lines_are = refl;
  },
  omega (arith, many, asked_count v []),
)

-- the script and these lines ask for so much
of_lines : (v : Service) (given : Option (List ℕ)) (lines : List (List ℕ)) →
    AreFirstLines false given lines →
    2 ^ 32 ≤ length v.script.run
    + length (asked_in (node_count v.script.layout) (length v.script.run + 1) lines) + 1 →
    IsOutOfNumbers v.script given
of_lines v given lines first many = (lines, first, omega (arith, many, asked_count v lines))

-- the lines until a renewal, and more behind them, ask for so much
of_more : (v : Service) (begin : Stop) (last : Closed) (given left : Option (List ℕ))
    (text : List ℕ) (lines : List (List ℕ)) →
    (so : ServedSo v begin last given left text) → begin.is_last ≡ false →
    (more : AreFirstLines false left lines) →
    2 ^ 32 ≤ begin.count
    + length (asked_in (node_count v.script.layout) (begin.count + 1) lines) + 1 →
    IsOutOfNumbers v.script given
of_more v begin last given left text lines so goes_on more many =
    let nodes = node_count v.script.layout in
    let before = length (asked_of_all v.script so.lines) in
    let long : length (asked_of_all v.script (so.lines ++ lines))
    ≡ before + length (asked_in nodes (before + 1) lines) =
    ap length (asked_by_more v so.lines lines)
    ∙ length-append (asked_of_all v.script so.lines) (asked_in nodes (before + 1) lines) in
    let many_so : 2 ^ 32 ≤ before + length (asked_in nodes (before + 1) lines) + 1 =
    subst (λ (n : ℕ). 2 ^ 32 ≤ n + length (asked_in nodes (n + 1) lines) + 1) so.count_is many in (
      so.lines ++ lines,
      record {
        bytes = so.bytes ++ more.bytes;
        left = more.left;
        consumed = Consumes-trans given left more.left so.bytes more.bytes so.consumed
            more.consumed;
        none_within = All-append (λ l. All (λ x. x ≢ 10) l) so.lines lines so.none_within
            more.none_within;
        lines_are = are_lines_behind false so.bytes more.bytes so.lines lines
            (subst (λ (b : Bool). AreLines b so.bytes so.lines) goes_on so.lines_are)
            more.lines_are;
      },
      omega (arith, many_so, long),
    )

-- why no more is served in the first cluster
first_so : (v : Service) (at : Setting) (begin : Stop) (given before after : Option (List ℕ))
    (f : Fault) → StopsServing at v.script None begin given before after f →
    StopsClusters v given before after f
first_so v at begin given before after f =
    ⊎_elim
    (⊎_elim (λ memory. inl (inl memory))
    (⊎_elim (λ script. ⊎_elim (λ memory. inl (inl memory))
    (λ many. inr (inl (many.0, of_script v given many.1))) script.1)
    (λ not. none_or not.0 None refl not.1)))
    (λ lines. ⊎_elim (λ memory. inl (inl memory))
    (λ many. inr (inl (many.0, of_lines v given many.1.0 many.1.1 many.1.2))) lines.1)

pub stops_first : (v : Service) (at : Setting) (closed : Option Closed) (begin : Stop)
    (given before after : Option (List ℕ)) (f : Fault) → closed ≡ None →
    StopsCluster at v.script closed begin given before after f →
    StopsClusters v given before after f
stops_first v at closed begin given before after f none stops =
    ⊎_elim (λ missing. inl (inr missing)) (first_so v at begin given before after f)
    (subst (λ (x : Option Closed). StopsCluster at v.script x begin given before after f) none
    stops)

-- what was present in the cluster before was not put into the next one, behind all that was served
-- before
refused_so : (v : Service) (begin : Stop) (last : Closed) (given left first between
    : Option (List ℕ)) (f : Fault) (closed : Option Closed) → begin.renews ≡ true →
    (had : HasServedSo v closed begin given left first between) → Some had.last ≡ Some last →
    IsNotCarried v.setting last f → IsRenewalRefused v given had.text f
refused_so v begin last given left first between f closed renewed had is not =
    let so = had.so in
    record {
      is_last = begin.is_last;
      lines = so.lines;
      first = record {
        bytes = so.bytes;
        left = left;
        consumed = so.consumed;
        none_within = so.none_within;
        lines_are = so.lines_are;
      };
      asked = so.asked;
      asked_are = so.asked_are ∙ ap (λ b. with_renewal b so.asked) renewed;
      stands = so.stands;
      answers = so.answers;
      answered = so.answered;
      closed = had.last;
      closing = so.closing;
      closed_so = so.closed_so;
      wrote_is = so.text_is;
      not_carried = subst (λ (c : Closed). IsNotCarried v.setting c f)
          (sym (ap (closed_or last) is)) not;
    }

-- why no more is served in another cluster, behind those before it
next_so : (v : Service) (begin : Stop) (closed : Option Closed)
    (given left first between after : Option (List ℕ)) (f : Fault) → begin.renews ≡ true →
    (had : HasServedSo v closed begin given left first between) →
    StopsServing v.setting v.script (Some had.last) begin left between after f →
    StopsClusters v given first after f
next_so v begin closed given left first between after f renewed had =
    ⊎_elim
    (⊎_elim (λ memory. inl (inl memory))
    (⊎_elim (λ script. none_or had.last (Some had.last) script.0 refl)
    (λ not. inr (inr (
      had.text,
      refused_so v begin not.0 given left first between f closed renewed had not.1 not.2,
      subst (λ (x : Option (List ℕ)). Appends first x had.text) (sym not.3) had.wrote,
    )))))
    (λ lines. ⊎_elim (λ memory. inl (inl memory))
    (λ many. inr (inl (
      many.0,
      of_more v begin had.last given left had.text many.1.0 had.so lines.0 many.1.1 many.1.2,
    ))) lines.1)

pub stops_next : (ring : Tokens) (options : Options) (s : ScriptParts) (with_steps : Bool)
    (begin : Stop) (closed : Option Closed) (given left first between after : Option (List ℕ))
    (f : Fault) → options ≡ options_for s → begin.renews ≡ true →
    HasServedSo (service_of s ring with_steps) closed begin given left first between →
    StopsCluster (setting Brand ring options.n options.r options) s closed begin left between after
    f →
    StopsClusters (service_of s ring with_steps) given first after f
stops_next ring options s with_steps begin closed given left first between after f is renewed had
    stops =
    let v = service_of s ring with_steps in
    let here : StopsCluster v.setting s (Some had.last) begin left between after f =
    subst (λ (x : Option Closed). StopsCluster v.setting s x begin left between after f)
    had.last_is
    (subst (λ (o : Options). StopsCluster (setting Brand ring o.n o.r o) s closed begin left between
    after f) is stops) in
    ⊎_elim (λ missing. inl (inr missing))
    (next_so v begin closed given left first between after f renewed had) here

-- so a service is cut, behind its first lines, or it has failed
pub cuts_behind : (s : ScriptParts) (ring : Tokens) (with_steps : Bool)
    (given first between after : Option (List ℕ)) (f : Fault) → IsLaidOut s.layout ring →
    Appends first between (first_lines s ring with_steps) →
    StopsClusters (service_of s ring with_steps) given between after f →
    CutsService s with_steps given first after f ⊎ HasFailed f
cuts_behind s ring with_steps given first between after f laid_out head =
    ⊎_elim inr
    (⊎_elim (λ many. inl (inl many))
    (λ cut. inl (inr (
      ring,
      laid_out,
      (
        cut.0,
        cut.1,
        Appends-trans first between after (first_lines s ring with_steps) cut.0 head cut.2,
      ),
    ))))
