-- What is asked, on its way: copies.
use Rattle.std.specs.Prelude.{◌≡◌, ℕ, Bool, true}
use Rattle.dy_ring.specs.Rings.{Tokens}
use Rattle.dy_preference.specs.Preferences.{homes_of, may_hold}
use Rattle.dy_node.specs.declared.asks.Ask.{Ask}
use Rattle.dy_transport.specs.Asking.{home_of, what_of}
use Rattle.dy_transport.specs.declared.asked.What.{What}
use Rattle.dy_transport.specs.declared.asked.What.TheVariants as what
use Rattle.dy_mailboxes.specs.declared.parcels.Parcel.{Parcel}
use Rattle.dy_mailboxes.specs.declared.parcels.Parcel.TheVariants.{Store, Fetch}

module _ {J : Type 0} where
  -- the home that a copy names
  abbrev pub home_in : Parcel J → ℕ
  home_in (Store home row) = home
  home_in (Fetch home key since) = home

  -- the copy is of what is asked
  abbrev pub IsCopy : What → Parcel J → Type 0
  IsCopy (what.Store row) (Store home copy) = row.value ≡ copy
  IsCopy (what.Store row) (Fetch home key since) = ⊥
  IsCopy (what.Fetch key since) (Store home row) = ⊥
  IsCopy (what.Fetch key since) (Fetch home copy same) = (key.value ≡ copy) × (since ≡ same)

  -- the copy is of the ask
  abbrev pub IsParcelOf : Ask J → Parcel J → Type 0
  IsParcelOf ask parcel = (home_of ask ≡ home_in parcel) × IsCopy (what_of ask) parcel

  -- whether the node may hold what a copy carries
  abbrev pub may_carry : Tokens → ℕ → ℕ → Parcel J → Bool
  may_carry ring n node (Store home row) = may_hold (homes_of ring n row.key) node home
  may_carry ring n node (Fetch home key since) = true
