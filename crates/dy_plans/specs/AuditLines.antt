-- What `dynamo run` prints of an audit.
use Rattle.std.specs.Prelude.{ℕ, List, ◌++◌, length, codes, Bool, if◌then◌else◌}
use Rattle.std.specs.List.{flat_map, sum_by}
use Rattle.dy_siblings.specs.Siblings.{own_dots}
use Rattle.dy_core.specs.declared.holdings.Holding.{Holding}
use Rattle.dy_book.specs.declared.audits.AckedAt.{AckedAt}
use Rattle.dy_book.specs.declared.audits.Audit.{Audit}
use Rattle.dy_lines.specs.Audits.{held_text, acked_text, own_w_of, settled_text, end_text}
use Rattle.dy_lines.specs.Texts.{line}

-- what a place holds of a key
abbrev pub held_line : Holding → List ℕ
held_line h =
    line (held_text (record { holder = h.holder; home = h.home }) h.row.key
    (own_dots h.row.versions))

-- an acknowledged put, where puts name w homes unless they name a number of their own
abbrev pub acked_line : ℕ → AckedAt → List ℕ
acked_line w a =
    line (acked_text a.ack.key a.ack.dot (own_w_of w a.ack.w) a.places.items)

-- a settled key
abbrev pub settled_line : List ℕ → List ℕ
settled_line key = line (settled_text key)

-- the settled keys, where they are wanted
abbrev pub settled_lines : Bool → List (List ℕ) → List ℕ
settled_lines is_wanted keys = if is_wanted then flat_map settled_line keys else codes ""

-- the sums
abbrev pub end_line : Audit → List ℕ
end_line a =
    line (end_text (sum_by (λ h. length h.row.versions) a.held.items) (length a.acked.items)
    a.gets a.steps)

-- what is held, what was acknowledged, what is settled where that is wanted, and the sums
abbrev pub audit_lines : ℕ → Bool → Audit → List ℕ
audit_lines w is_settled a =
    flat_map held_line a.held.items ++ flat_map (acked_line w) a.acked.items
    ++ settled_lines is_settled a.settled.items ++ end_line a
