-- The rule of the book behind a history, and what its steps tell.
use Rattle.std.specs.Prelude.{ℕ, suc, ◌+◌, ◌≡◌, true, false, List, [], ◌∷◌, ◌++◌, length, replicate}
use Rattle.logbook.specs.Pages.{Cell, Step, View, Book, Named, nib, may_make}

-- the words that were brought home, one for each entry, and then those that are away
abbrev pub batons : ℕ → ℕ → List Cell
batons home away = replicate home (0, true) ++ replicate away (0, false)

-- the first word counts the batons, the second is not used, and only who has the first baton that
-- is away can append
abbrev pub IsKept : {E : Type 0} → List Cell → List E → Type 0
IsKept cells log =
    (away : ℕ) × (cells ≡ (length log + away, true) ∷ (0, true) ∷ batons (length log) away)

-- the word at which the log grows: the first of the book
abbrev pub head_of : Book → Named
head_of b = record { tracked = true; key = 0; book = b }

module _ {E : Type 0} where
  -- where the count was as expected, there is a new baton, of this number
  abbrev pub Readies : Step E → View E ℕ → ℕ → View E ℕ → Type 0
  Readies s v found w = found ≡ s.old → w.1.0 ≡ nib may_make (suc (suc s.old)) 0

  -- the history is as many entries long as the number of the baton says
  abbrev pub Looks : Step E → View E ℕ → ℕ → View E ℕ → Type 0
  Looks s v found w = (suc (suc (length w.0)) ≡ v.1.0.key) × (w.1.0 ≡ v.1.0)

  -- the entry was added to all that had been seen
  abbrev pub Appends : Step E → View E ℕ → ℕ → View E ℕ → Type 0
  Appends s v found w = w.0 ≡ v.0 ++ s.ask ∷ []

  -- all entries of some batches, in their order
  abbrev pub joined : List (List E) → List E
  joined [] = []
  joined (b ∷ bs) = b ++ joined bs
