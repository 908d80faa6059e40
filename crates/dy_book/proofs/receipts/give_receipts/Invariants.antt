use Rattle.std.proofs.Common.{◌≡◌, ◌+◌, ◌<◌, length, take, vec_capacity}
use Rattle.std.specs.List.{All}
use Rattle.dy_siblings.specs.declared.keys.TheConstants.{SHORT_KEY_BYTES}
use Rattle.dy_book.specs.Books.{receipts_of}
use Rattle.dy_book.proofs.receipts.give_receipts.Given as goal

abbrev pub invariant-loop-version : goal.invariant-loop-version
invariant-loop-version g l = record {
  given : l.receipts.items ≡ receipts_of
      (take l.version-index l.others) l.place.holder l.place.home;
  left : SHORT_KEY_BYTES < length l.row.key →
      length l.keys.items + l.version-index ≡ length l.others;
  same : All (λ key. key ≡ l.row.key) l.keys.items;
  room : vec_capacity l.receipts ≡ vec_capacity l.initial.receipts;
}
