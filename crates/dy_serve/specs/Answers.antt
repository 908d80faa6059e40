-- How lines are answered.
use Rattle.std.specs.Prelude.{◌≡◌, ◌⊎◌, ◌+◌, ◌++◌, ◌∷◌, [], List, ℕ, Bool, false, if◌then◌else◌}
use Rattle.std.specs.Prelude.{Result, Ok, Err, map}
use Rattle.dy_dots.specs.declared.faults.Fault.{Fault}
use Rattle.dy_dots.specs.declared.faults.Fault.TheVariants.{OutOfMemory, ScriptSyntax}
use Rattle.dy_shares.specs.Shares.{SessionPart}
use Rattle.dy_transport.specs.Told.{Told}
use Rattle.dy_cluster.specs.Carrying.{IsCarriedOver}
use Rattle.dy_cluster.specs.Settings.{Setting}
use Rattle.dy_cluster.specs.Tellings.{IsUntold}
use Rattle.dy_cluster.specs.declared.resting.Closed.{Closed}
use Rattle.dy_lines.specs.Outcomes.{command_text}
use Rattle.dy_lines.specs.Served.{refused_text, renewed_text}
use Rattle.dy_lines.specs.Texts.{line}
use Rattle.dy_lines.specs.declared.outcomes.Outcome.{Outcome}
use Rattle.dy_script.specs.Orders.{CommandParts}
use Rattle.dy_script.specs.Requests.{RequestParts, does, renews, request_of_text}
use Rattle.dy_commands.specs.Commands.{Does}
use Rattle.dy_commands.specs.Seats.{Seated}
use Rattle.dy_serve.specs.Below.{IsBelow, Standing, none_standing, session_in}
use Rattle.dy_serve.specs.Closings.{IsClosing, Service}
use Rattle.dy_serve.specs.InputLines.{is_nothing, is_too_long}

-- what a line asks for, or what is wrong with it
abbrev pub Asked : Type 0
Asked = Result RequestParts Fault

-- what a line asks for, of a store with so many nodes, by this number
abbrev pub asked_by : ℕ → ℕ → List ℕ → Asked
asked_by nodes number bytes =
    if is_too_long bytes then Err (ScriptSyntax number) else request_of_text nodes number bytes

-- what these lines ask for; the first that is not blank has this number
abbrev pub asked_in : ℕ → ℕ → List (List ℕ) → List Asked
asked_in nodes number [] = []
asked_in nodes number (l ∷ ls) =
    if is_nothing l then asked_in nodes number ls
    else asked_by nodes number l ∷ asked_in nodes (number + 1) ls

-- the commands of a script, as lines would ask for them
abbrev pub asked_of : List CommandParts → List Asked
asked_of commands = map (λ c. Ok (does c)) commands

-- the command was done, and its line is that of a run;
-- and below it stand those of the steps that the book made meanwhile, if they are wanted
abbrev pub IsDone :
    Setting → ℕ → Bool → CommandParts → ℕ → Standing → Standing → List ℕ → Type 0
IsDone s w with_steps c number before after text =
    (outcome : Outcome) × Does s w c outcome before.sessions after.sessions
    × (below : List ℕ) × IsBelow with_steps (session_in c) before after below
    × (text ≡ line (command_text number outcome) ++ below)

-- nothing was done, and the line tells this refusal
abbrev pub IsRefused : Fault → ℕ → Standing → Standing → List ℕ → Type 0
IsRefused fault number before after text =
    (after ≡ before) × (text ≡ line (refused_text number fault))

-- what was present in the closed cluster was put in the only session of another one, its session 0;
-- so many values they were
pub record IsCarriedInto (s : Setting) (closed : Closed) (after : Seated) (count : ℕ)
    : Type 0 where
  pub first : SessionPart
  pub untold : IsUntold first
  pub session : SessionPart
  pub old : Told s.book
  pub new : Told s.book
  pub carried : IsCarriedOver {J = s.book} s.ring s.n s.w closed.audit.held.items first session
      old new count
  pub after_is : after
      ≡ record { numbers = 0 ∷ []; tellings = session ∷ []; refused = false }

-- the cluster was closed and printed, and another one has what was present in it; below the line of
-- the renewal stand the steps of that, if they are wanted
pub record IsRenewed (v : Service) (number : ℕ) (before after : Standing) (text : List ℕ)
    : Type 0 where
  pub closed : Closed
  pub closing : List ℕ
  pub closed_so : IsClosing v before closed closing
  pub count : ℕ
  pub carried : IsCarriedInto v.setting closed after.sessions count
  pub below : List ℕ
  pub is_below : IsBelow v.with_steps 0 none_standing after below
  pub text_is : text ≡ closing ++ line (renewed_text number count) ++ below

-- what was asked for was done, or what is wrong with it was told
abbrev pub IsMet : Service → Asked → ℕ → Standing → Standing → List ℕ → Type 0
IsMet v (Err fault) number before after text = IsRefused fault number before after text
IsMet v (Ok (does c)) number before after text =
    IsDone v.setting v.script.w v.with_steps c number before after text
IsMet v (Ok renews) number before after text = IsRenewed v number before after text

-- so it was, or memory was wanting to read it
abbrev pub IsAnswered : Service → Asked → ℕ → Standing → Standing → List ℕ → Type 0
IsAnswered v asked number before after text =
    IsMet v asked number before after text ⊎ IsRefused OutOfMemory number before after text

-- all that was asked was answered, one after another, numbered from here
abbrev pub AreAnswered : Service → List Asked → ℕ → Standing → Standing → List ℕ → Type 0
AreAnswered v [] number before after text = (after ≡ before) × (text ≡ [])
AreAnswered v (a ∷ more) number before after text =
    (between : Standing) × (first rest : List ℕ) × IsAnswered v a number before between first
    × AreAnswered v more (number + 1) between after rest × (text ≡ first ++ rest)
