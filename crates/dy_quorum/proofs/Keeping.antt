-- The first receipt of each home, found in place: what was looked at leaves its firsts, and the rest
-- stands behind them.
use Rattle.std.proofs.Common.{◌≡◌, ◌++◌, ◌∷◌, [], ◌<◌, ◌≤◌, ◌+◌, List, ℕ, true, false, suc}
use Rattle.std.proofs.Common.{length, take, drop, get_or, refl, sym, ◌∙◌, ap, subst, arith}
use Rattle.std.proofs.Common.{append_assoc, length-append}
use Rattle.std.proofs.lemmas.List.{append-nil}
use Rattle.std.proofs.lemmas.List.Elements.{All-push}
use Rattle.std.specs.List.{All, remove}
use Rattle.dy_dots.specs.declared.nodes.TheConstants.{MAX_NODES}
use Rattle.dy_shares.specs.Shares.{ReceiptParts}
use Rattle.dy_quorum.specs.inside.Counting.{firsts, receipt_homes}
use Rattle.dy_quorum.proofs.Firsts.{are_firsts, home_in, firsts_same, firsts_more, homes_same}
use Rattle.dy_quorum.proofs.Firsts.{homes_more, room_for}

-- of all, these are left, and those before this index were looked at
pub record AreKept (all now : List ReceiptParts) (homes : List ℕ) (at : ℕ) : Type 0 where
  pub seen : List ReceiptParts
  pub rest : List ReceiptParts
  pub all_are : all ≡ seen ++ rest
  pub now_are : now ≡ firsts seen ++ rest
  pub at_is : at ≡ length (firsts seen)
  pub homes_are : homes ≡ receipt_homes (firsts seen)
  pub nodes : All (λ r. r.home < MAX_NODES) seen

pub none_seen : (all : List ReceiptParts) (homes : List ℕ) → homes ≡ [] → AreKept all all homes 0
none_seen all homes none = record {
  seen = [];
  rest = all;
  all_are = refl;
  now_are = refl;
  at_is = refl;
  homes_are = none;
  nodes = λ k d l. absurd (omega arith);
}

-- a list that is cut at the end of its first part
before : (fs ys : List ReceiptParts) → take (length fs) (fs ++ ys) ≡ fs
before [] ys = refl
before (f ∷ fs) ys = ap (λ l. f ∷ l) (before fs ys)

behind : (fs : List ReceiptParts) (y : ReceiptParts) (ys : List ReceiptParts) → drop (suc (length fs)) (fs ++ y ∷ ys) ≡ ys
behind [] y ys = refl
behind (f ∷ fs) y ys = behind fs y ys

read : (fs : List ReceiptParts) (y : ReceiptParts) (ys : List ReceiptParts) (d : ReceiptParts) → get_or (fs ++ y ∷ ys) (length fs) d ≡ y
read [] y ys d = refl
read (f ∷ fs) y ys d = read fs y ys d

-- the next one, and what stands behind it
record IsNext (fs rest : List ReceiptParts) (x : ReceiptParts) : Type 0 where
  pub more : List ReceiptParts
  pub rest_is : rest ≡ x ∷ more

next : (fs rest : List ReceiptParts) (x : ReceiptParts) → length fs < length (fs ++ rest) → x ≡ get_or (fs ++ rest) (length fs) x → IsNext fs rest x
next fs [] x inside is = absurd (let none : List ReceiptParts = [] in let l = length-append fs none in omega (arith, inside))
next fs (y ∷ ys) x inside is = record {
  more = ys;
  rest_is = ap (λ z. z ∷ ys) (sym (is ∙ read fs y ys x));
}

found : (all now : List ReceiptParts) (homes : List ℕ) (at : ℕ) (k : AreKept all now homes at) (x : ReceiptParts) → at < length now → x ≡ get_or now at x → IsNext (firsts k.seen) k.rest x
found all now homes at k x inside is =
    next (firsts k.seen) k.rest x
    (subst (λ n. n < length (firsts k.seen ++ k.rest)) k.at_is (subst (λ l. at < length l) k.now_are inside))
    (is ∙ ap (λ l. get_or l at x) k.now_are ∙ ap (λ n. get_or (firsts k.seen ++ k.rest) n x) k.at_is)

-- all of them, with one more looked at
moved : (all seen rest more : List ReceiptParts) (x : ReceiptParts) → all ≡ seen ++ rest → rest ≡ x ∷ more → all ≡ (seen ++ x ∷ []) ++ more
moved all seen rest more x are is = are ∙ ap (λ l. seen ++ l) is ∙ sym (append_assoc seen (x ∷ []) more)

-- one whose home was there is taken out
pub taken_out : (all now : List ReceiptParts) (homes : List ℕ) (at : ℕ) (x : ReceiptParts) → AreKept all now homes at → at < length now → x ≡ get_or now at x → x.home < MAX_NODES → home_in homes x.home ≡ true → AreKept all (remove now at) homes at
taken_out all now homes at x k inside is node has =
    let n = found all now homes at k x inside is in
    let fs = firsts k.seen in
    let known = ap (λ hs. home_in hs x.home) (sym k.homes_are) ∙ has in
    let same = firsts_same (λ (r : ReceiptParts). r.home) k.seen x known in
    let here : now ≡ fs ++ x ∷ n.more = k.now_are ∙ ap (λ l. fs ++ l) n.rest_is in
    let cut : remove now at ≡ fs ++ n.more =
    ap (λ l. remove l at) here ∙ ap (λ i. remove (fs ++ x ∷ n.more) i) k.at_is
    ∙ ap (λ l. l ++ drop (suc (length fs)) (fs ++ x ∷ n.more)) (before fs (x ∷ n.more))
    ∙ ap (λ l. fs ++ l) (behind fs x n.more) in
    record {
      seen = k.seen ++ x ∷ [];
      rest = n.more;
      all_are = moved all k.seen k.rest n.more x k.all_are n.rest_is;
      now_are = cut ∙ ap (λ l. l ++ n.more) (sym same);
      at_is = k.at_is ∙ ap length (sym same);
      homes_are = homes_same (λ (r : ReceiptParts). r.home) k.seen x homes k.homes_are has;
      nodes = All-push (λ r. r.home < MAX_NODES) k.seen x k.nodes node;
    }

-- one whose home is new stays
pub left_in : (all now : List ReceiptParts) (homes : List ℕ) (at : ℕ) (x : ReceiptParts) → AreKept all now homes at → at < length now → x ≡ get_or now at x → x.home < MAX_NODES → home_in homes x.home ≡ false → AreKept all now (homes ++ x.home ∷ []) (at + 1)
left_in all now homes at x k inside is node lacks =
    let n = found all now homes at k x inside is in
    let fs = firsts k.seen in
    let known = ap (λ hs. home_in hs x.home) (sym k.homes_are) ∙ lacks in
    let more = firsts_more (λ (r : ReceiptParts). r.home) k.seen x known in
    record {
      seen = k.seen ++ x ∷ [];
      rest = n.more;
      all_are = moved all k.seen k.rest n.more x k.all_are n.rest_is;
      now_are = moved now fs k.rest n.more x k.now_are n.rest_is ∙ ap (λ l. l ++ n.more) (sym more);
      at_is = ap (λ i. i + 1) k.at_is ∙ sym (length-append fs (x ∷ [])) ∙ ap length (sym more);
      homes_are = homes_more (λ (r : ReceiptParts). r.home) k.seen x homes k.homes_are lacks;
      nodes = All-push (λ r. r.home < MAX_NODES) k.seen x k.nodes node;
    }

-- a home that is new has room among them
pub has_room : (all now : List ReceiptParts) (homes : List ℕ) (at : ℕ) (x : ReceiptParts) → AreKept all now homes at → x.home < MAX_NODES → home_in homes x.home ≡ false → length homes < MAX_NODES
has_room all now homes at x k node lacks =
    room_for (λ (r : ReceiptParts). r.home) MAX_NODES k.seen x homes k.homes_are
    (are_firsts (λ (r : ReceiptParts). r.home) k.seen)
    (All-push (λ r. r.home < MAX_NODES) k.seen x k.nodes node) lacks

-- once all were looked at, the firsts of all are left
pub all_seen : (all now : List ReceiptParts) (homes : List ℕ) (at : ℕ) → AreKept all now homes at → length now ≤ at → now ≡ firsts all
all_seen all now homes at k end = ended k.rest k.all_are k.now_are
    (subst (λ l. length l ≤ at) k.now_are end)
  where
    ended : (rest : List ReceiptParts) → all ≡ k.seen ++ rest → now ≡ firsts k.seen ++ rest → length (firsts k.seen ++ rest) ≤ at → now ≡ firsts all
    ended [] all_are now_are few = now_are ∙ append-nil (firsts k.seen) ∙ ap firsts (sym (all_are ∙ append-nil k.seen))
    ended (x ∷ rest) all_are now_are few = absurd (let l = length-append (firsts k.seen) (x ∷ rest) in let a = k.at_is in omega (arith, few))
