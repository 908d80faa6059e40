-- Copies of what is asked.
use Rattle.std.proofs.Common.{◌≡◌, ℕ, refl, subst, true}
use Rattle.dy_ring.specs.Rings.{Tokens}
use Rattle.dy_preference.specs.Preferences.{homes_of, may_hold}
use Rattle.dy_siblings.specs.Siblings.{Siblings}
use Rattle.dy_node.specs.Answers.{MayAsk}
use Rattle.dy_node.specs.declared.asks.Ask.{Ask}
use Rattle.dy_node.specs.declared.asks.Ask.TheVariants as ask
use Rattle.dy_mailboxes.specs.Parcels.{IsParcelOf, may_carry}
use Rattle.dy_mailboxes.specs.declared.parcels.Parcel.{Parcel}
use Rattle.dy_mailboxes.specs.declared.parcels.Parcel.TheVariants.{Store, Fetch}

module _ {J : Type 0} where
  -- what may be asked may be carried
  pub may_be_carried : (ring : Tokens) (n to : ℕ) (a : Ask J) (p : Parcel J) → IsParcelOf a p →
      MayAsk ring n to a → may_carry ring n to p ≡ true
  may_be_carried ring n to (ask.Store home row) (Store h copy) is may =
      let P : ℕ → Siblings → Type 0 =
      λ k r. may_hold (homes_of ring n r.key) to k ≡ true in
      subst (P h) is.1 (subst (λ k. P k row) is.0 may)
  may_be_carried ring n to (ask.Store home row) (Fetch h key since) is may = absurd is.1
  may_be_carried ring n to (ask.Fetch home key since) (Store h copy) is may = absurd is.1
  may_be_carried ring n to (ask.Fetch home key since) (Fetch h copy same) is may = refl
