-- What sessions are sure to read (session guarantees, Terry et al., 1994).
use Rattle.std.specs.Prelude.{◌≡◌, ◌<◌, ◌≤◌, ◌+◌, ℕ, List, IsTrue, Some, false, length, map}
use Rattle.std.specs.Prelude.{slice_get}
use Rattle.std.specs.List.{All, Contains}
use Rattle.dy_dots.specs.declared.dots.Dot.{Dot}
use Rattle.dy_siblings.specs.Siblings.{covers, newest}
use Rattle.dy_siblings.specs.Versions.{precedes}
use Rattle.dy_siblings.specs.declared.versions.Version.{Version}
use Rattle.dy_ring.specs.Rings.{Tokens}
use Rattle.dy_core.specs.Logs.{rows_of}
use Rattle.dy_shares.specs.Shares.{AckTold, GetTold, IsAckSpent, IsOfHomes, ReceiptParts}
use Rattle.dy_shares.specs.Shares.{SessionPart, own_homes}

-- the get has the version of the dot, or one that causally follows it
abbrev pub IsRead : GetTold → Dot → Type 0
IsRead g d = IsTrue (covers (newest (rows_of g.answers)) d)

-- a get of homes themselves is bound to read a put of the key: they and the homes that took the put
-- themselves are together more than the homes of the key
abbrev pub MustRead : Tokens → ℕ → ℕ → AckTold → List ReceiptParts → GetTold → Type 0
MustRead ring n r t spent g = IsOfHomes ring n t.key g × (n < r + length (own_homes spent))

-- each get of the reader reads each put of the writer that was acknowledged before, where it must
abbrev pub ReadsWritesOf : Tokens → ℕ → ℕ → SessionPart → SessionPart → Type 0
ReadsWritesOf ring n r writer reader =
    (i : ℕ) (t : AckTold) (spent : List ReceiptParts) → IsAckSpent writer i t spent →
    (g : GetTold) → Contains reader.gets g → t.at ≤ g.since → MustRead ring n r t spent g →
    IsRead g t.dot

-- each get of a session reads each put that the session was told of before it, where it must
abbrev pub ReadsOwnWrites : Tokens → ℕ → ℕ → SessionPart → Type 0
ReadsOwnWrites ring n r s =
    (i : ℕ) (t : AckTold) (spent : List ReceiptParts) → IsAckSpent s i t spent →
    (g : GetTold) → Contains s.gets g → i < g.acks → MustRead ring n r t spent g →
    IsRead g t.dot

-- of two gets of a key by a session, of homes themselves, the later has what the earlier had, where
-- each home that answered the earlier answered it too
abbrev pub NeverGoesBack : Tokens → ℕ → SessionPart → Type 0
NeverGoesBack ring n s =
    (i j : ℕ) (f g : GetTold) → slice_get s.gets i ≡ Some f → slice_get s.gets j ≡ Some g →
    i < j → (key : List ℕ) → IsOfHomes ring n key f → IsOfHomes ring n key g →
    All (λ a. Contains (map (λ b. b.home) g.answers) a.home) f.answers →
    (d : Dot) → IsRead f d → IsRead g d

-- a get that has a version, as a deletion, gives none that precedes it: of the versions that some
-- get of the other session showed
abbrev pub GivesNothingDeleted : SessionPart → SessionPart → Type 0
GivesNothingDeleted other reader =
    (f g : GetTold) → Contains other.gets f → Contains reader.gets g →
    (v : Version) → Contains (rows_of f.answers) v → All (λ a. a.key ≡ v.key) g.answers →
    IsRead g v.dot → All (λ u. precedes u v ≡ false) (newest (rows_of g.answers))
