-- How releases follow a log, and the book after them.
use Rattle.std.proofs.Common.{◌≡◌, ◌≢◌, ℕ, ◌+◌, ◌≤◌, true, ◌&&◌, not, List, []}
use Rattle.std.proofs.Common.{◌∷◌, ◌++◌, map, length, length-append, take, get_or}
use Rattle.std.proofs.Common.{Some, refl, sym, ap, ◌∙◌, subst, ⊎_elim, suc, arith}
use Rattle.std.specs.List.{All, Contains}
use Rattle.std.proofs.lemmas.Bool.{cases_Bool, and_parts, and_from, or_cases}
use Rattle.std.proofs.lemmas.Bool.{not_from_false}
use Rattle.std.proofs.lemmas.List.Elements.{All-contains}
use Rattle.std.proofs.lemmas.List.{map-append}
use Rattle.dy_dots.specs.Dots.{same_dot}
use Rattle.dy_ring.specs.Rings.{Tokens}
use Rattle.dy_core.specs.Worlds.{Layout, World, layout_of}
use Rattle.dy_core.specs.Covers.{covers_at}
use Rattle.dy_core.specs.Steps.{same_place, after_release, place_for}
use Rattle.dy_core.specs.Logs.{world_from, world_after, IsLegalFrom}
use Rattle.dy_core.specs.declared.steps.Step.{Step}
use Rattle.dy_core.specs.declared.steps.Step.TheVariants.{Release}
use Rattle.dy_siblings.proofs.Members.{in_head, in_tail, map_from}
use Rattle.dy_dots.proofs.SameDots.{same_dot_is}
use Rattle.dy_core.proofs.Standing.{place_is, release_keeps_own}
use Rattle.dy_core.proofs.Keeping.{all_from}
use Rattle.dy_core.proofs.OverLogs.{world_from-append}
use Rattle.dy_shares.specs.declared.entries.Entry.{Entry}
use Rattle.dy_shares.specs.Shares.{steps_of, untold, ReceiptParts, IsReceipt, node_of}
use Rattle.dy_book.specs.declared.options.Options.{Options}
use Rattle.dy_index.specs.declared.parts.KeyPart.{KeyPart}
use Rattle.dy_book.specs.Books.{AreOneDot, AreOfDistinctDots, MayRelease, release_steps}
use Rattle.dy_book.specs.inside.Kept.{IsBook}
use Rattle.dy_index.specs.Indexes.{IsIndex}
use Rattle.dy_book.proofs.Holding.{legal_grown, world_grown}
use Rattle.dy_book.proofs.Bookkeeping.{book_goes}

-- ---- releases one after another

-- the node may give the dot up, and its home covers it itself
Ready : World → ℕ → ReceiptParts → Type 0
Ready w node r = MayRelease w node r × (covers_at w r.key r.dot r.home r.home ≡ true)

still_ready : (w : World) (node : ℕ) (r s : ReceiptParts) → r.home ≢ node →
    (AreOneDot r s → ⊥) → Ready w node s → Ready (after_release w node r.home r.key r.dot) node s
unfolding Ready
still_ready w node r s other apart ready = (
  record {
    own = ready.0.own;
    other = ready.0.other;
    held =
        and_from (w.holdings node s.home s.key s.dot)
        (not (same_place node r.home r.key node s.home s.key && same_dot s.dot r.dot))
        ready.0.held
        (not_from_false (same_place node r.home r.key node s.home s.key && same_dot s.dot r.dot)
        (⊎_elim
        (λ yes.
        let parts = and_parts (same_place node r.home r.key node s.home s.key)
        (same_dot s.dot r.dot) yes in
        let place = place_is node r.home r.key node s.home s.key parts.0 in
        absurd (apart (sym place.home_is, sym place.key_is, sym (same_dot_is s.dot r.dot parts.1))))
        (λ no. no)
        (cases_Bool (same_place node r.home r.key node s.home s.key && same_dot s.dot r.dot))));
  },
  release_keeps_own w node r.home r.key r.dot (λ same. other (sym same)) s.key s.dot s.home ready.1,
)

releases_allowed : (layout : Layout) (w : World) (node : ℕ) (rs : List ReceiptParts) →
    ((r : ReceiptParts) → Contains rs r → Ready w node r) → AreOfDistinctDots rs →
    IsLegalFrom layout w (release_steps node rs)
unfolding Ready
releases_allowed layout w node [] ready once = tt
releases_allowed layout w node (r ∷ rs) ready once =
    let first = ready r (in_head r rs) in (
      ((λ same. first.0.other (sym same)), first.0.held, first.1),
      releases_allowed layout (after_release w node r.home r.key r.dot) node rs
          (λ s inside. still_ready w node r s first.0.other
          (All-contains (λ s. AreOneDot r s → ⊥) rs s once.0 inside)
          (ready s (in_tail r s rs inside)))
          once.1,
    )

-- receipts that their homes gave
pub releases_follow : (layout : Layout) (steps : List Step) (node : ℕ) (rs : List ReceiptParts) →
    All (MayRelease (world_after steps) node) rs → AreOfDistinctDots rs →
    All (IsReceipt steps) rs → IsLegalFrom layout (world_after steps) (release_steps node rs)
unfolding Ready
releases_follow layout steps node rs each once hold =
    releases_allowed layout (world_after steps) node rs
    (λ r inside.
    let may = All-contains (MayRelease (world_after steps) node) rs r each inside in
    let holds = All-contains (IsReceipt steps) rs r hold inside in (
      may,
      ⊎_elim
          (λ c. subst (λ h. covers_at (world_after steps) r.key r.dot h r.home ≡ true) may.own c)
          (λ c. c)
          (or_cases (covers_at (world_after steps) r.key r.dot r.holder r.home)
          (covers_at (world_after steps) r.key r.dot r.home r.home) holds),
    ))
    once

pub of_node : (node : ℕ) (rs : List ReceiptParts) →
    All (λ s. node_of s ≡ Some node) (release_steps node rs)
of_node node rs = all_from (λ s. node_of s ≡ Some node) (release_steps node rs) (λ s inside.
    let m = map_from (λ (r : ReceiptParts). Release (place_for node r.home) r.key r.dot)
    rs s inside in
    subst (λ x. node_of x ≡ Some node) m.gives refl)

same_versions : (node : ℕ) (rs : List ReceiptParts) (w : World) →
    (world_from w (release_steps node rs)).versions ≡ w.versions
same_versions node [] w = refl
same_versions node (r ∷ rs) w = same_versions node rs (after_release w node r.home r.key r.dot)

count_steps : (node : ℕ) (rs : List ReceiptParts) →
    length (map untold (release_steps node rs)) ≡ length rs
count_steps node [] = refl
count_steps node (r ∷ rs) = ap suc (count_steps node rs)

-- the steps of one receipt more
pub steps_more : (node : ℕ) (rs : List ReceiptParts) (i : ℕ) (r : ReceiptParts) →
    get_or rs i r ≡ r → take (i + 1) rs ≡ take i rs ++ get_or rs i r ∷ [] →
    release_steps node (take (i + 1) rs) ≡ release_steps node
    (take i rs) ++ Release (place_for node r.home) r.key r.dot ∷ []
steps_more node rs i r is more =
    ap (release_steps node) (more ∙ ap (λ x. take i rs ++ x ∷ []) is)
    ∙ map-append (λ (x : ReceiptParts). Release (place_for node x.home) x.key x.dot)
    (take i rs) (r ∷ [])

pub world_more : (node : ℕ) (rs : List ReceiptParts) (i : ℕ) (r : ReceiptParts) →
    release_steps node (take (i + 1) rs) ≡ release_steps node
    (take i rs) ++ Release (place_for node r.home) r.key r.dot ∷ [] →
    (w : World) → world_from w (release_steps node (take (i + 1) rs)) ≡ after_release
    (world_from w (release_steps node (take i rs))) node r.home r.key r.dot
world_more node rs i r more w =
    ap (world_from w) more
    ∙ world_from-append w (release_steps node (take i rs))
    (Release (place_for node r.home) r.key r.dot ∷ [])

-- ---- the book

pub release_book : (ring : Tokens) (n r : ℕ) (log : List Entry) (options : Options)
    (versions : ℕ) (es : List (List ℕ × KeyPart)) → IsBook ring n r log options versions es →
    (node : ℕ) (rs : List ReceiptParts) →
    IsLegalFrom (layout_of ring n) (world_after (steps_of log)) (release_steps node rs) →
    length log + length rs ≤ options.steps_limit →
    (fs : List (List ℕ × KeyPart)) →
    ((w : World) → IsIndex w es → IsIndex (world_from w (release_steps node rs)) fs) →
    (log2 : List Entry) → log2 ≡ log ++ map untold (release_steps node rs) →
    IsBook ring n r log2 options versions fs
release_book ring n r log options versions es book node rs allowed room fs goes log2 log_is =
    let ss = release_steps node rs in
    let count = length-append log (map untold ss) in
    let few = count_steps node rs in
    let world_is = world_grown log ss in
    subst (λ (l : List Entry). IsBook ring n r l options versions fs) (sym log_is)
    (book_goes ring n r log options versions es book (log ++ map untold ss) versions fs
    (legal_grown (layout_of ring n) log ss book.legal allowed)
    (omega (arith, count, few, room)) book.versions_few
    (book.versions_are ∙ sym
    (ap length (ap (λ x. x.versions) world_is
    ∙ same_versions node rs (world_after (steps_of log)))))
    (subst (λ x. IsIndex x fs) (sym world_is) (goes (world_after (steps_of log)) book.index)))
