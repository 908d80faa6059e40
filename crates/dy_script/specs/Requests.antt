-- What a line asks of a store that serves lines, and the first fault of one that asks for nothing.
use Rattle.std.specs.Prelude.{ℕ, List, [], ◌∷◌, codes, bytes_eq, if◌then◌else◌, Result, Ok}
use Rattle.serde_json.specs.Data.{Data}
use Rattle.dy_dots.specs.declared.faults.Fault.{Fault}
use Rattle.dy_script.specs.Members.{◌>>=◌, need, allow_only, text}
use Rattle.dy_script.specs.Orders.{CommandParts, command_of, command_parts}
use Rattle.dy_script.specs.Reading.{data_of}
use Rattle.dy_script.specs.declared.requests.Request.{Request}
use Rattle.dy_script.specs.declared.requests.Request.TheVariants as request

-- a command is to be done, or the cluster is to be renewed
pub data RequestParts : Type 0 where
  does : CommandParts → RequestParts
  renews : RequestParts

abbrev pub request_parts : Request → RequestParts
request_parts (request.Do command) = does (command_parts command)
request_parts request.Renew = renews

-- the request of this word; to renew has no other member
unfoldable pub request_by : ℕ → ℕ → Data → List ℕ → Result RequestParts Fault
request_by nodes k d word =
    if bytes_eq word (codes "renew")
    then allow_only k (codes "do" ∷ []) d >>= (λ _. Ok renews)
    else command_of nodes k d >>= (λ command. Ok (does command))

-- request k, of a store with so many nodes
unfoldable pub request_of : ℕ → ℕ → Data → Result RequestParts Fault
request_of nodes k d = do
  word ← text k (codes "do") d
  request_by nodes k d word

-- the request of a text
unfoldable pub request_of_text : ℕ → ℕ → List ℕ → Result RequestParts Fault
request_of_text nodes k bytes = need k (data_of bytes) >>= request_of nodes k
