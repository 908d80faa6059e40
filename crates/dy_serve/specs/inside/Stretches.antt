-- What was served in one cluster.
use Rattle.std.specs.Prelude.{◌≡◌, ◌+◌, ◌++◌, ◌∷◌, [], List, ℕ, Bool, true, false, Ok}
use Rattle.std.specs.Prelude.{All, IsTrue, Option, None, Some, length, ◌≢◌}
use Rattle.std.specs.Io.KnownBytes.{Appends, Consumes}
use Rattle.dy_cluster.specs.Settings.{Setting}
use Rattle.dy_cluster.specs.declared.resting.Closed.{Closed}
use Rattle.dy_lines.specs.Served.{renewed_text}
use Rattle.dy_lines.specs.Texts.{line}
use Rattle.dy_script.specs.Reading.{ScriptParts, node_count}
use Rattle.dy_script.specs.Requests.{renews}
use Rattle.dy_serve.specs.Answers.{AreAnswered, Asked, IsCarriedInto, asked_in, asked_of}
use Rattle.dy_serve.specs.Below.{IsBelow, Standing, none_standing}
use Rattle.dy_serve.specs.Closings.{IsClosing, Service}
use Rattle.dy_serve.specs.InputLines.{AreLines, IsAllOf}
use Rattle.dy_serve.specs.Served.{asked_of_all}
use Rattle.dy_serve.specs.inside.Meeting.{AreAnsweredHere}
use Rattle.dy_serve.specs.declared.served_clusters.Ways.{Ways}
use Rattle.dy_serve.specs.declared.services.Stop.{Stop}

-- how the commands of a service are done and told
abbrev pub ways_of : Service → Ways
ways_of v = record { w = v.script.w; with_steps = v.with_steps }

-- these, and a renewal behind them if there is one
abbrev pub with_renewal : Bool → List Asked → List Asked
with_renewal false asked = asked
with_renewal true asked = asked ++ Ok renews ∷ []

-- the commands of the script were done, from the first
pub record RunsScript (s : Setting) (w : Ways) (script : ScriptParts) (after : Standing) (count : ℕ)
    (text : List ℕ) : Type 0 where
  pub answered : AreAnsweredHere s w (asked_of script.run) 1 none_standing after text
  pub count_is : count ≡ length script.run

-- what was present in the closed cluster was put, and the line of the renewal has this number
pub record GoesOn (s : Setting) (with_steps : Bool) (closed : Closed) (number : ℕ)
    (after : Standing) (count : ℕ)
    (text : List ℕ) : Type 0 where
  pub carried : ℕ
  pub is_carried : IsCarriedInto s closed after.sessions carried
  pub count_is : count ≡ number
  pub below : List ℕ
  pub is_below : IsBelow with_steps 0 none_standing after below
  pub text_is : text ≡ line (renewed_text number carried) ++ below

-- a cluster begins with the commands of the script, or with what was present in the one before
abbrev pub Begins :
    Setting → Ways → ScriptParts → Option Closed → ℕ → Standing → ℕ → List ℕ → Type 0
Begins s w script None number after count text = RunsScript s w script after count text
Begins s w script (Some closed) number after count text =
    GoesOn s w.with_steps closed number after count text

-- it began so, each of its sessions has a number, and this was written
pub record HasBegun (s : Setting) (w : Ways) (script : ScriptParts) (closed : Option Closed)
    (number : ℕ) (after : Standing) (count : ℕ) (out_old out_new : Option (List ℕ))
    : Type 0 where
  pub together : length after.sessions.numbers ≡ length after.sessions.tellings
  pub text : List ℕ
  pub begins : Begins s w script closed number after count text
  pub wrote : Appends out_old out_new text

-- each line of these bytes was answered, from the number behind the first on; the last may ask to
-- renew the cluster
pub record ServesTo (s : Setting) (w : Ways) (nodes first count : ℕ) (does_renew is_last : Bool)
    (before after : Standing) (in_old in_new : Option (List ℕ)) (bytes text : List ℕ)
    : Type 0 where
  pub lines : List (List ℕ)
  pub none_within : All (λ l. All (λ x. x ≢ 10) l) lines
  pub lines_are : AreLines is_last bytes lines
  pub consumed : Consumes in_old in_new bytes
  pub asked : List Asked
  pub asked_are : asked_in nodes (first + 1) lines ≡ with_renewal does_renew asked
  pub answered : AreAnsweredHere s w asked (first + 1) before after text
  pub count_is : count ≡ first + length (asked_in nodes (first + 1) lines)

-- so it was until one asks to renew the cluster, or the input is at its end
pub record ServesLines (s : Setting) (w : Ways) (nodes first : ℕ) (stop : Stop)
    (before after : Standing)
    (in_old in_new : Option (List ℕ)) (text : List ℕ) : Type 0 where
  pub bytes : List ℕ
  pub serves : ServesTo s w nodes first stop.count stop.renews stop.is_last before after in_old
      in_new bytes text
  pub is_all : IsTrue stop.is_last → IsAllOf in_old bytes
  pub stops : stop.renews ≡ false → stop.is_last ≡ true

-- there was no line left to serve
pub record ServesNone (count : ℕ) (stop : Stop) (before after : Standing)
    (in_old in_new : Option (List ℕ)) (text : List ℕ) : Type 0 where
  pub count_is : stop.count ≡ count
  pub renews : stop.renews ≡ false
  pub is_last : stop.is_last ≡ true
  pub same : after ≡ before
  pub kept : in_new ≡ in_old
  pub text_is : text ≡ []

-- lines were served if there were any left
abbrev pub ServesRest :
    Bool → Setting → Ways → ℕ → ℕ → Stop → Standing → Standing → Option (List ℕ) → Option (List ℕ)
    → List ℕ → Type 0
ServesRest false s w nodes count stop before after in_old in_new text =
    ServesLines s w nodes count stop before after in_old in_new text
ServesRest true s w nodes count stop before after in_old in_new text =
    ServesNone count stop before after in_old in_new text

-- in one cluster, which was opened behind this one where there is one and behind this stop, all
-- this was done and written until that stop
pub record HasServed (s : Setting) (w : Ways) (script : ScriptParts) (closed : Option Closed)
    (begin stop : Stop) (after : Standing) (in_old in_new out_old out_new : Option (List ℕ))
    : Type 0 where
  pub count : ℕ
  pub begun : Standing
  pub first : List ℕ
  pub begins : Begins s w script closed begin.count begun count first
  pub rest : List ℕ
  pub serves : ServesRest begin.is_last s w (node_count script.layout) count stop begun after
      in_old in_new rest
  pub wrote : Appends out_old out_new (first ++ rest)

-- in clusters one after another, of which this is the last, all that the script and these bytes ask
-- for was answered, and how each cluster was closed was printed; a renewal is still to be done
pub record ServedSo (v : Service) (stop : Stop) (last : Closed)
    (in_old in_new : Option (List ℕ)) (text : List ℕ) : Type 0 where
  pub bytes : List ℕ
  pub lines : List (List ℕ)
  pub none_within : All (λ l. All (λ x. x ≢ 10) l) lines
  pub lines_are : AreLines stop.is_last bytes lines
  pub consumed : Consumes in_old in_new bytes
  pub is_all : IsTrue stop.is_last → IsAllOf in_old bytes
  pub asked : List Asked
  pub asked_are : asked_of_all v.script lines ≡ with_renewal stop.renews asked
  pub stands : Standing
  pub answers : List ℕ
  pub answered : AreAnswered v asked 1 none_standing stands answers
  pub closing : List ℕ
  pub closed_so : IsClosing v stands last closing
  pub count_is : stop.count ≡ length (asked_of_all v.script lines)
  pub stops : stop.renews ≡ false → stop.is_last ≡ true
  pub text_is : text ≡ answers ++ closing

-- in one cluster all this was done, and then it was closed, and printed so
pub record ServesCluster (v : Service) (before : Option Closed) (begin : Stop)
    (after : Option Closed) (stop : Stop) (in_old in_new out_old out_new : Option (List ℕ))
    : Type 0 where
  pub stands : Standing
  pub between : Option (List ℕ)
  pub served : HasServed v.setting (ways_of v) v.script before begin stop stands in_old in_new
      out_old
      between
  pub last : Closed
  pub last_is : after ≡ Some last
  pub closing : List ℕ
  pub closed_so : IsClosing v stands last closing
  pub wrote : Appends between out_new closing

-- so it was until the last cluster, which was closed so; and this was written behind what was there
pub record HasServedSo (v : Service) (closed : Option Closed) (stop : Stop)
    (in_old in_new out_old out_new : Option (List ℕ)) : Type 0 where
  pub text : List ℕ
  pub last : Closed
  pub last_is : closed ≡ Some last
  pub so : ServedSo v stop last in_old in_new text
  pub wrote : Appends out_old out_new text

-- so it was, and no line asks to renew the last cluster
pub record HasServedAll (v : Service) (in_old in_new out_old out_new : Option (List ℕ))
    : Type 0 where
  pub closed : Option Closed
  pub stop : Stop
  pub ended : stop.renews ≡ false
  pub served : HasServedSo v closed stop in_old in_new out_old out_new
