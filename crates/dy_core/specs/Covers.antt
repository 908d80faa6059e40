-- Covers: at which places a dot, or one that follows it, is held.
use Rattle.std.specs.Prelude.{◌≡◌, ℕ, Bool, ◌||◌, IsTrue, nat_eq, length, map, List}
use Rattle.std.specs.List.{All, IsDistinct}
use Rattle.dy_siblings.specs.Siblings.{covers}
use Rattle.dy_preference.specs.Preferences.{is_home}
use Rattle.dy_core.specs.Worlds.{Layout, World, row_at}
use Rattle.dy_dots.specs.declared.dots.Dot.{Dot}
use Rattle.dy_core.specs.declared.places.Place.{Place}

-- whether the home's row at the holder covers the dot: it has the dot's version, or one that
-- causally follows it (Preguiça et al., dotted version vectors, section 4)
abbrev pub covers_at : World → List ℕ → Dot → ℕ → ℕ → Bool
covers_at w key d holder home = covers (row_at w holder home key) d

-- the place covers the dot
abbrev pub CoversAt : World → List ℕ → Dot → ℕ → ℕ → Type 0
CoversAt w key d holder home = IsTrue (covers_at w key d holder home)

-- each of these homes, which are distinct, covers the dot for itself
abbrev pub CoverThemselves : World → List ℕ → Dot → List ℕ → Type 0
CoverThemselves w key d homes =
    IsDistinct nat_eq homes × All (λ h. CoversAt w key d h h) homes

-- places are a cover for these homes, where `Covers` says which holder covers for which home: so
-- many, each of one of the homes, with distinct homes and distinct holders, and each covers
-- (Dynamo, sections 4.5 and 4.6, with each node and each home counted once)
pub record AreCover (homes : List ℕ) (Covers : ℕ → ℕ → Type 0) (count : ℕ) (places : List Place)
    : Type 0 where
  pub count_is : length places ≡ count
  pub each_home : All (λ p. IsTrue (is_home homes p.home)) places
  pub homes_distinct : IsDistinct nat_eq (map (λ p. p.home) places)
  pub holders_distinct : IsDistinct nat_eq (map (λ p. p.holder) places)
  pub each_covers : All (λ p. Covers p.holder p.home) places

-- places are a cover of the dot: for the homes of the key, by what the places hold in this world
abbrev pub IsCover : Layout → World → List ℕ → Dot → ℕ → List Place → Type 0
IsCover layout w key d count places = AreCover (layout.homes key) (CoversAt w key d) count places

-- there is a cover of so many places
pub record HasCover (layout : Layout) (w : World) (key : List ℕ) (d : Dot) (count : ℕ)
    : Type 0 where
  pub places : List Place
  pub is_cover : IsCover layout w key d count places

-- each ack has a cover of w places, as many as its put named homes (Dynamo, sections 4.5 and 4.6)
abbrev pub AcksAreCovered : Layout → World → Type 0
AcksAreCovered layout w = All (λ a. HasCover layout w a.key a.dot a.w) w.acks

-- whether the holder, or the home itself, covers the dot for the home
abbrev pub receipt_holds : World → List ℕ → Dot → ℕ → ℕ → Bool
receipt_holds w key d holder home = covers_at w key d holder home || covers_at w key d home home

-- a receipt of a dot for a home holds: its holder, or the home itself, covers the dot for the home
-- (Dynamo, section 4.6)
abbrev pub ReceiptHolds : World → List ℕ → Dot → ℕ → ℕ → Type 0
ReceiptHolds w key d holder home = IsTrue (receipt_holds w key d holder home)
