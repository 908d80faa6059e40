-- Whom a repair asks, and for what (Dynamo, section 5).
use Rattle.std.specs.Prelude.{◌≡◌, ◌++◌, ◌∷◌, [], List, ℕ, map, if◌then◌else◌}
use Rattle.std.specs.List.{filter, fold}
use Rattle.dy_preference.specs.Preferences.{is_home}
use Rattle.dy_siblings.specs.Siblings.{Siblings}
use Rattle.dy_core.specs.Logs.{Answer}
use Rattle.dy_transport.specs.Snapshots.{snapshot_of}
use Rattle.dy_transport.specs.Told.{Told}
use Rattle.dy_transport.specs.declared.asked.Asked.{Asked}
use Rattle.dy_transport.specs.declared.asked.What.TheVariants.{Store}
use Rattle.dy_reads.specs.Rules.{IsReadOut, ask_of}
use Rattle.dy_repair.specs.Stales.{AreStale}

-- with the node at the end, where it is not there
abbrev pub with_node : List ℕ → ℕ → List ℕ
with_node nodes node = if is_home nodes node then nodes else nodes ++ node ∷ []

-- each of these nodes once, in the order in which it is first there
abbrev pub each_once : List ℕ → List ℕ
each_once nodes = fold with_node [] nodes

-- those of these homes for which an answer is, each once, in the order of the answers
abbrev pub homes_once : List ℕ → List Answer → List ℕ
homes_once homes answers = each_once (filter (is_home homes) (map (λ a. a.home) answers))

-- the asks to the homes to store the row, each for itself and before any answer was read
abbrev pub store_asks : Siblings → List ℕ → List Asked
store_asks row homes = map (λ home. ask_of (Store (snapshot_of row)) home home 0) homes

module _ {J : Type 0} where
  -- exactly those of these homes that gave a stale answer were asked, once each, to store the row
  -- for themselves, and every answer of theirs was read
  pub record IsRepaired (homes : List ℕ) (row : Siblings) (answers : List Answer)
      (told : Told J) : Type 0 where
    pub stale : List Answer
    pub are_stale : AreStale row answers stale
    pub asks : told.asks ≡ store_asks row (homes_once homes stale)
    pub out : IsReadOut told
