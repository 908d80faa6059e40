-- What is printed of an audit, a line at a time.
use Rattle.std.proofs.Common.{◌≡◌, ℕ, List, [], ◌∷◌, ◌++◌, ◌+◌, ◌<◌, length, take, slice_index_or}
use Rattle.std.proofs.Common.{append-nil, sym, ap, ◌∙◌, Option}
use Rattle.std.specs.List.{flat_map}
use Rattle.std.proofs.lemmas.Grind.{flat_map-append}
use Rattle.std.proofs.lemmas.List.{take_more}
use Rattle.dy_dots.specs.Dots.{DotSet}
use Rattle.dy_dots.specs.declared.dots.Dot.{Dot}
use Rattle.dy_siblings.specs.Siblings.{own_dots}
use Rattle.dy_core.specs.declared.holdings.Holding.{Holding}
use Rattle.dy_core.specs.declared.places.Place.{Place}
use Rattle.dy_book.specs.declared.audits.AckedAt.{AckedAt}
use Rattle.dy_lines.specs.Audits.{held_text, acked_text, own_w_of}
use Rattle.dy_plans.specs.AuditLines.{held_line, acked_line}
use Rattle.dy_lines.specs.Texts.{line}

-- the next one's line comes behind those before it
pub flat_map-next : {X : Type 0} (f : X → List ℕ) (xs : List X) (i : ℕ) (x : X)
    → i < length xs → x ≡ slice_index_or xs i x →
    flat_map f (take (i + 1) xs) ≡ flat_map f (take i xs) ++ f x
flat_map-next f xs i x within here =
    ap (flat_map f) (take_more xs i x within ∙ ap (λ y. take i xs ++ y ∷ []) (sym here))
    ∙ flat_map-append f (take i xs) (x ∷ [])
    ∙ ap (λ l. flat_map f (take i xs) ++ l) (append-nil (f x))

-- a line with the parts of the ack
pub acked_line-is : (w : ℕ) (a : AckedAt) (key : List ℕ) (dot : Dot) (own : Option ℕ)
    (places : List Place)
    → key ≡ a.ack.key → dot ≡ a.ack.dot → own ≡ own_w_of w a.ack.w → places ≡ a.places.items →
    line (acked_text key dot own places) ≡ acked_line w a
acked_line-is w a key dot own places k d o p i = line (acked_text (k i) (d i) (o i) (p i))

-- a line with the parts of the holding
pub held_line-is : (h : Holding) (place : Place) (key : List ℕ) (dots : DotSet)
    → place.holder ≡ h.holder → place.home ≡ h.home → key ≡ h.row.key
    → dots ≡ own_dots h.row.versions →
    line (held_text place key dots) ≡ held_line h
held_line-is h place key dots holder home k d i =
    line (held_text (record { holder = holder i; home = home i }) (k i) (d i))
