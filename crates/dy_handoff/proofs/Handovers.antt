-- Handing over, hint by hint: what one more adds to those before it, and what all are together.
use Rattle.std.proofs.Common.{◌≡◌, ◌++◌, ◌∷◌, ◌<◌, ◌≤◌, ◌+◌, [], ℕ, List, Ok, true, false, length, length-append, take, get_or, refl, sym, ◌∙◌, ap, subst, arith}
use Rattle.std.proofs.lemmas.List.{take_more, take_all, take-take, length-take-le}
use Rattle.std.proofs.lemmas.List.Elements.{All-nil, All-push, All-tail}
use Rattle.std.specs.List.{All}
use Rattle.std.specs.declared.alloc.Global.{Global}
use Rattle.std.specs.declared.vec.Vec.{Vec}
use Rattle.dy_siblings.specs.Siblings.{Siblings}
use Rattle.dy_reads.proofs.Readings.{slice_get-grows}
use Rattle.dy_transport.specs.Snapshots.{snapshot_of}
use Rattle.dy_transport.specs.Told.{Told, with_none, with_try}
use Rattle.dy_transport.specs.declared.asked.Asked.{Asked}
use Rattle.dy_transport.specs.declared.replies.Reply.{Reply}
use Rattle.dy_transport.specs.declared.tries.Try.{Try}
use Rattle.dy_transport.specs.declared.tries.Try.TheVariants.{Offer}
use Rattle.dy_reads.specs.Rules.{IsReadOut, IsReplyTo}
use Rattle.dy_handoff.specs.Passes.{HandsOver, HandsOverInTurn, IsPass, listed, offer_ask, settle_tries, stored_of}
use Rattle.dy_handoff.specs.declared.counts.Pass.{Pass}
use Rattle.dy_handoff.specs.inside.Settling.{IsUnderWay, Settles}
use Rattle.dy_handoff.proofs.Settlings.{stored_few}

all_later : {X : Type 0} (P : X → Type 0) (xs ys : List X) → All P (xs ++ ys) → All P ys
all_later P [] ys all = all
all_later P (x ∷ xs) ys all = all_later P xs ys (All-tail P x (xs ++ ys) all)

module _ {X : Type 0} where
  -- of one hint more, while there is room
  pub took_more : (room i n : ℕ) (xs : List X) (d : X) → n ≡ i + 1 → i < length xs → i < room → take room (take n xs) ≡ take room (take i xs) ++ get_or xs i d ∷ []
  took_more room i n xs d e lt less =
      let a : length (take n xs) ≡ n = length-take-le n xs (omega arith) in
      let b : length (take i xs) ≡ i = length-take-le i xs (omega arith) in
      take_all room (take n xs) (omega arith) ∙ (ap (λ k. take k xs) e ∙ (take_more xs i d lt
      ∙ ap (λ ys. ys ++ get_or xs i d ∷ []) (sym (take_all room (take i xs) (omega arith)))))

  -- of one hint more, where there is no room for it
  pub took_same : (room i n : ℕ) (xs : List X) → room ≤ i → i ≤ n → take room (take n xs) ≡ take room (take i xs)
  took_same room i n xs full le = take-take room n xs (omega arith) ∙ sym (take-take room i xs full)

module _ {J : Type 0} where
  -- a reply to one of these asks is one where more is asked
  known_longer : (asks : List Asked) (a : Asked) (replies : List (Reply J)) → All (IsReplyTo asks) replies → All (IsReplyTo (asks ++ a ∷ [])) replies
  known_longer asks a replies known = λ k d lt. let h = known k d lt in (h.0, slice_get-grows asks (a ∷ []) _ h.0 h.1, h.2, h.3, h.4)

  -- at first a pass is under way
  pub way_start : (node room : ℕ) (hints : Vec (ℕ × Siblings) Global) → IsUnderWay (listed {J = J} node hints room) (record { offers = 0; stored = 0; released = 0 })
  way_start node room hints = record {
    known = λ k d lt. absurd (omega arith);
    apart = λ i j d l k. absurd (omega arith);
    homes = All-nil (λ (a : Asked). a.to ≡ a.home);
    few = omega arith;
    tries = omega arith;
    offers_are = refl;
    stored_are = refl;
  }

  -- with the home of a hint asked
  abbrev pub with_offer : Told J → ℕ × Siblings → Told J
  with_offer old hint = record old { asks = old.asks ++ offer_ask hint (length old.replies) ∷ []; drained = false }

  -- a home more was asked for itself
  pub way_asked : (old : Told J) (hint : ℕ × Siblings) (done : Pass) → IsUnderWay old done → length old.asks < old.room
      → IsUnderWay (with_offer old hint) (record { offers = done.offers + 1; stored = done.stored; released = done.released })
  way_asked old hint done way less =
      let b : Asked = offer_ask hint (length old.replies) in
      let l : length (old.asks ++ b ∷ []) ≡ length old.asks + 1 = length-append old.asks (b ∷ []) in
      record {
        known = known_longer old.asks b old.replies way.known;
        apart = way.apart;
        homes = All-push (λ (x : Asked). x.to ≡ x.home) old.asks b way.homes refl;
        few = omega arith;
        tries = way.tries;
        offers_are = (let e = way.offers_are in omega arith);
        stored_are = way.stored_are;
      }

  -- a home was asked, and what it answered was settled
  pub over_is : (node before after : ℕ) (hint : ℕ × Siblings) (old mid new : Told J) (done : Pass) → mid ≡ with_offer old hint
      → new.asks ≡ mid.asks → Settles node mid new before after → IsUnderWay new done → IsReadOut new → HandsOver node hint old new
  over_is node before after hint old mid new done e same s way out =
      let more : new.replies ≡ old.replies ++ s.came = s.replies ∙ ap (λ (t : Told J). t.replies ++ s.came) e in
      record {
        came = s.came;
        gave = s.gave;
        each = s.each;
        asks = same ∙ ap (λ (t : Told J). t.asks) e;
        replies = more;
        known = all_later (IsReplyTo new.asks) old.replies s.came (let P : List (Reply J) → Type 0 = λ rs. All (IsReplyTo new.asks) rs in subst P more way.known);
        out = out;
        tries = s.tries ∙ ap (λ (t : Told J). t.tries ++ settle_tries node (stored_of s.came) s.gave) e;
      }

  -- one hint more is handed over
  pub turn_more : (node : ℕ) (hints : List (ℕ × Siblings)) (hint : ℕ × Siblings) (old mid new : Told J) → HandsOverInTurn node hints old mid → HandsOver node hint mid new
      → HandsOverInTurn node (hints ++ hint ∷ []) old new
  turn_more node [] hint old mid new same h = (new, subst (λ (t : Told J). HandsOver node hint t new) same h, refl)
  turn_more node (x ∷ hints) hint old mid new s h = (s.0, s.1, turn_more node hints hint s.0 mid new s.2 h)

  -- the hints were listed, and nothing was told before
  pub listed_is : (node : ℕ) (hints : Vec (ℕ × Siblings) Global) (old mid new : Told J) → old.tries ≡ [] → old.asks ≡ [] → old.replies ≡ []
      → mid ≡ with_try old (Offer node (snapshot_of (Ok hints))) → new ≡ with_none mid → new ≡ listed node hints old.room
  listed_is node hints old mid new no_tries no_asks no_replies first e =
      let x : Try J = Offer node (snapshot_of (Ok hints)) in
      let at : List (Try J) → List Asked → List (Reply J) → Told J = λ ts qs rs. record { tries = ts ++ x ∷ []; asks = qs; replies = rs; drained = true; room = old.room } in
      e ∙ (ap (λ (t : Told J). with_none t) first ∙ (ap (λ ts. at ts old.asks old.replies) no_tries
      ∙ (ap (λ qs. at [] qs old.replies) no_asks ∙ ap (λ rs. at [] [] rs) no_replies)))

  -- a pass is whole
  pub pass_is : (node : ℕ) (hints : Vec (ℕ × Siblings) Global) (items : List (ℕ × Siblings)) (old new : Told J) (done : Pass) → old ≡ listed node hints old.room → new.room ≡ old.room
      → items ≡ hints.items → IsUnderWay new done → HandsOverInTurn node (take old.room items) old new → Settles node old new 0 done.released → IsReadOut new → IsPass node new done
  pass_is node hints items old new done start room same way turns s out =
      let x : Try J = Offer node (snapshot_of (Ok hints)) in
      let came : new.replies ≡ s.came = s.replies ∙ ap (λ (t : Told J). t.replies ++ s.came) start in
      let of_all : HandsOverInTurn node (take old.room hints.items) old new = subst (λ (ys : List (ℕ × Siblings)). HandsOverInTurn node (take old.room ys) old new) same turns in
      let of_start : HandsOverInTurn node (take old.room hints.items) (listed node hints old.room) new = subst (λ (t : Told J). HandsOverInTurn node (take old.room hints.items) t new) start of_all in
      record {
        hints = hints;
        gave = s.gave;
        each = s.each ∙ ap (λ rs. length (stored_of rs)) (sym came);
        tries = s.tries ∙ (ap (λ (t : Told J). t.tries ++ settle_tries node (stored_of s.came) s.gave) start ∙ ap (λ rs. x ∷ settle_tries node (stored_of rs) s.gave) (sym came));
        turns = subst (λ (n : ℕ). HandsOverInTurn node (take n hints.items) (listed node hints n) new) (sym room) of_start;
        known = way.known;
        out = out;
        offers_are = way.offers_are;
        stored_are = way.stored_are;
        released_are = s.after_is;
        fewer = (let few = stored_few new.asks new.replies way.known way.apart in let a = way.offers_are in let b = way.stored_are in omega arith);
      }
