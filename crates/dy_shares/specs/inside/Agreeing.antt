-- The rule of a roll of shares, and what its steps tell.
use Rattle.std.specs.Prelude.{ℕ, ◌≡◌, ◌≤◌, true, false, List, [], ◌∷◌, ◌++◌, length, slice_set}
use Rattle.std.specs.List.{All}
use mathlib.Core.Option.{some}
use lib.ListN.{get_elem?}
use Rattle.atomic_table.specs.Table.{Step, Me}
use Rattle.atomic_table.specs.Seated.{TableId}
use Rattle.dy_core.specs.declared.steps.Step.TheVariants.{Ack}
use Rattle.dy_shares.specs.declared.entries.Done.{Done}
use Rattle.dy_shares.specs.declared.parts.View.{View}

-- the party that knows all parts, and holds no share: the keeper
abbrev pub knower : List (List Done) → View
knower parts = record { keeps = true; parts = parts; shares = false; index = 0; own = [] }

-- the party that has the share of this seat, and no more
abbrev pub share_of : ℕ → List Done → View
share_of index own = record { keeps = false; parts = []; shares = true; index = index; own = own }

-- a party that has nothing
abbrev pub nobody : View
nobody = record { keeps = false; parts = []; shares = false; index = 0; own = [] }

-- the keeper with a share that it holds
abbrev pub knower_with : List (List Done) → ℕ → List Done → View
knower_with parts index own =
    record { keeps = true; parts = parts; shares = true; index = index; own = own }

-- one party at most knows all parts, and one at most has the share of a seat, whose part is that of
-- the roll
abbrev pub Fits : ℕ → List (List Done) → (ℕ → ℕ) → ℕ → View → Type 0
Fits keeper parts owner id v =
    (v.keeps ≡ true → (id ≡ keeper) × (v.parts ≡ parts))
    × (v.shares ≡ true → (id ≡ owner v.index) × (get_elem? parts v.index ≡ some v.own))

-- the parties fit each other, and the roll
abbrev pub Agree : List View → Type 0
Agree views =
    (keeper : ℕ) × (parts : List (List Done)) × (owner : ℕ → ℕ)
    × ((id : ℕ) (v : View) → get_elem? views id ≡ some v → Fits keeper parts owner id v)

-- a new seat, with an empty part
abbrev pub opened : View → View
opened v =
    record {
      keeps = v.keeps;
      parts = v.parts ++ [] ∷ [];
      shares = v.shares;
      index = v.index;
      own = v.own;
    }

-- the share of that new seat
abbrev pub newest_share : View → View
newest_share v = share_of (length v.parts) []

-- the first party with the share that the second had
abbrev pub holding : View → View → View
holding v w =
    record { keeps = v.keeps; parts = v.parts; shares = w.shares; index = w.index; own = w.own }

-- the keeper that has given out the share which it held
abbrev pub alone : View → View
alone v = knower v.parts

-- the share that the keeper gave out
abbrev pub lent : View → View
lent v = share_of v.index v.own

-- the share that the keeper holds is that of the roll
abbrev pub Compares : {S : Type 0} → Step S → Me S View → ℕ → Me S View → Type 0
Compares s me found after = (after ≡ me) × (get_elem? me.0.parts me.0.index ≡ some me.0.own)

-- the keeper with these steps at the end of the share that it holds, and of its seat
abbrev pub grown : View → List Done → View
grown v xs = knower_with (slice_set v.parts v.index (v.own ++ xs)) v.index (v.own ++ xs)

-- the steps that were said go to both
abbrev pub Grows :
    Step (List Done) → Me (List Done) View → ℕ → Me (List Done) View → Type 0
Grows s me found after = (xs : List Done) → s.said ≡ some xs → after ≡ (grown me.0 xs, me.1)

-- the part of a seat whose share came back for good: a step without a number is its mark
abbrev pub retired : List Done → List Done
retired part = part ++ record { at = 0; step = Ack [] (record { node = 0; counter = 0 }) 0 } ∷ []

-- the part is that of a share which did not come back for good: each of its steps has a number
abbrev pub IsOut : List Done → Type 0
IsOut part = All (λ x. 1 ≤ x.at) part

-- the share that the keeper holds is that of the roll, and is gone; its seat is marked
abbrev pub Retires : {S : Type 0} → Step S → Me S View → ℕ → Me S View → Type 0
Retires s me found after =
    (after ≡ (knower (slice_set me.0.parts me.0.index (retired me.0.own)), me.1))
    × (get_elem? me.0.parts me.0.index ≡ some me.0.own)

-- the part that the first party has for its own
abbrev pub part_of : List View → List Done
part_of [] = []
part_of (v ∷ vs) = v.own

-- the name of no table
abbrev pub no_table : TableId
no_table =
    record {
      words = 0;
      slots = 0;
      views_name = 0;
      atom = 0;
      block = 0;
      offset = 0;
      slot_names = [];
    }
