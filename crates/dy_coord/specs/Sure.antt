-- Which gets are sure to see a put.
use Rattle.std.specs.Prelude.{◌≡◌, ◌<◌, ◌≤◌, ◌+◌, List, ℕ, length}
use Rattle.std.specs.List.{All}
use Rattle.dy_shares.specs.Shares.{AckTold, GetTold, own_homes}
use Rattle.dy_quorum.specs.Gatherings.{first_answers}
use Rattle.dy_coord.specs.declared.get_done.GetDone.{GetDone}
use Rattle.dy_coord.specs.declared.put_results.PutDone.{PutDone}

module _ {J : Type 0} where
  -- where a key has n homes, a get is sure to see a put: it is of the put's key, and came later;
  -- homes themselves gave its rows; and these and the homes that took the put themselves are
  -- together more than n, so that one home is among both
  pub record IsSureOf (n : ℕ) (get : GetDone J) (put : PutDone J) : Type 0 where
    pub of_key : All (λ r. r.key ≡ get.row.key) put.spent.items
    pub later : put.at ≤ get.since
    pub of_homes : All (λ p. p.holder ≡ p.home) get.from.items
    pub enough : n < length get.from.items + length (own_homes put.spent.items)

  -- a put of the key that named so many homes, as its session was told it
  abbrev pub ack_of : List ℕ → ℕ → PutDone J → AckTold
  ack_of key w put = record { at = put.at; key = key; dot = put.dot; w = w }

  -- a get, as its session was told it behind so many acks
  abbrev pub get_of : ℕ → GetDone J → GetTold
  get_of acks get =
      record { since = get.since; answers = first_answers get.seen.items; acks = acks }
