-- Steps: when each is allowed, and the world after it.
use Rattle.std.specs.Prelude.{◌≡◌, ◌≢◌, ℕ, ◌+◌, ◌<◌, ◌≤◌, ◌==◌, Bool, ◌&&◌, not, IsTrue}
use Rattle.std.specs.Prelude.{if◌then◌else◌, Option, List, [], ◌∷◌}
use Rattle.std.specs.FinSet as set
use Rattle.dy_dots.specs.Dots.{DotSet, same_dot}
use Rattle.dy_dots.specs.declared.dots.TheConstants.{MAX_COUNTER}
use Rattle.dy_siblings.specs.Versions.{history_of}
use Rattle.dy_siblings.specs.Siblings.{Siblings, same_key, has_dot, merge}
use Rattle.dy_preference.specs.Preferences.{may_hold}
use Rattle.dy_core.specs.Worlds.{Layout, World, AreMadeOf, is_issued, row_at}
use Rattle.dy_core.specs.Covers.{CoversAt, HasCover}
use Rattle.dy_dots.specs.declared.dots.Dot.{Dot}
use Rattle.dy_siblings.specs.declared.versions.Version.{Version}
use Rattle.dy_core.specs.declared.places.Place.{Place}
use Rattle.dy_core.specs.declared.steps.Step.{Step}
use Rattle.dy_core.specs.declared.steps.Step.TheVariants.{Issue, Hold, Release, Fetch, Ack}

-- the place of the holder for the home
abbrev pub place_for : ℕ → ℕ → Place
place_for holder home = record { holder = holder; home = home }

-- the past that a context gives: the histories, together, of the versions of the key that it names
-- (Preguiça et al., section 4)
abbrev pub past_of : List Version → List ℕ → DotSet → DotSet
past_of [] key context = set.empty
past_of (v ∷ vs) key context =
    if same_key v.key key && set.contains context v.dot
    then set.union (history_of v) (past_of vs key context)
    else past_of vs key context

-- the version that a node makes: its next counter for the key, the context's past, and the value
-- (Preguiça et al., section 4)
abbrev pub version_made : World → ℕ → List ℕ → DotSet → Option (List ℕ) → Version
version_made w node key context value =
    record {
      key = key;
      dot = record { node = node; counter = w.counters node key + 1 };
      past = past_of w.versions key context;
      value = value;
    }

-- each dot of the context is of a version of the key
abbrev pub IsKnown : World → List ℕ → DotSet → Type 0
IsKnown w key context =
    (d : Dot) → IsTrue (set.contains context d) → IsTrue (is_issued w.versions key d)

-- a step is allowed: a put names known versions and has a counter left; a row goes only where it
-- may be held; a stand-in gives up a dot only once the home covers it; a put is acknowledged only
-- with its cover (Dynamo, sections 4.4 to 4.6)
abbrev pub IsAllowed : Layout → World → Step → Type 0
IsAllowed layout w (Issue node key context value) =
    IsKnown w key context × (w.counters node key < MAX_COUNTER)
IsAllowed layout w (Hold p row) =
    IsTrue (may_hold (layout.homes row.key) p.holder p.home) × AreMadeOf w row.key row.versions
IsAllowed layout w (Release p key d) =
    (p.holder ≢ p.home) × IsTrue (w.holdings p.holder p.home key d) × CoversAt w key d p.home p.home
IsAllowed layout w (Fetch p key) = Unit {0}
IsAllowed layout w (Ack key d count) =
    (1 ≤ count) × (count ≤ layout.count) × HasCover layout w key d count

-- whether these are the holder, the home and the key of a place
abbrev pub same_place : ℕ → ℕ → List ℕ → ℕ → ℕ → List ℕ → Bool
same_place holder home key p o k = (p == holder) && ((o == home) && same_key k key)

-- a version more was made, and its node's counter for the key is its own
abbrev pub after_issue : World → Version → World
after_issue w v =
    record w {
      versions = v ∷ w.versions;
      counters = λ n k.
          if (n == v.dot.node) && same_key k v.key then v.dot.counter else w.counters n k;
    }

-- at the place the row is merged with what was held there (Dynamo, section 4.4)
abbrev pub after_hold : World → ℕ → ℕ → Siblings → World
after_hold w holder home row =
    record w {
      holdings = λ p o k d.
          if same_place holder home row.key p o k
          then has_dot (merge (row_at w holder home row.key) row.versions) d
          else w.holdings p o k d;
    }

-- at the place the one dot is no longer held (Dynamo, section 4.6)
abbrev pub after_release : World → ℕ → ℕ → List ℕ → Dot → World
after_release w holder home key e =
    record w {
      holdings = λ p o k d.
          w.holdings p o k d && not (same_place holder home key p o k && same_dot d e);
    }

-- the world after a step; a fetch changes nothing
abbrev pub world_after_step : World → Step → World
world_after_step w (Issue node key context value) =
    after_issue w (version_made w node key context value)
world_after_step w (Hold p row) = after_hold w p.holder p.home row
world_after_step w (Release p key d) = after_release w p.holder p.home key d
world_after_step w (Fetch p key) = w
world_after_step w (Ack key d count) =
    record w { acks = record { key = key; dot = d; w = count } ∷ w.acks }

-- the row that a step answers: a fetch answers the row at its place, and any other step no version
abbrev pub row_answered : World → Step → List Version
row_answered w (Issue node key context value) = []
row_answered w (Hold p row) = []
row_answered w (Release p key d) = []
row_answered w (Fetch p key) = row_at w p.holder p.home key
row_answered w (Ack key d count) = []

-- the key of a step
abbrev pub key_of : Step → List ℕ
key_of (Issue node key context value) = key
key_of (Hold p row) = row.key
key_of (Release p key d) = key
key_of (Fetch p key) = key
key_of (Ack key d count) = key

-- the step is a release at this place
abbrev pub IsReleaseAt : ℕ → ℕ → List ℕ → Step → Type 0
IsReleaseAt holder home key (Issue node k context value) = ⊥
IsReleaseAt holder home key (Hold p row) = ⊥
IsReleaseAt holder home key (Release p k d) = (p.holder ≡ holder) × (p.home ≡ home) × (k ≡ key)
IsReleaseAt holder home key (Fetch p k) = ⊥
IsReleaseAt holder home key (Ack k d count) = ⊥
