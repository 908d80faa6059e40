-- What a cluster that has ended tells.
use Rattle.std.specs.Prelude.{◌≡◌, ℕ, List, length, refl}
use Rattle.std.specs.Coded.{Coded, coded×, coded_list, code_by}
use Rattle.std.specs.List.{All, AllZip}
use Rattle.dy_ring.specs.Rings.{Tokens}
use Rattle.dy_core.specs.Worlds.{layout_of}
use Rattle.dy_core.specs.Logs.{IsLegal}
use Rattle.dy_shares.specs.Shares.{NodePart, SessionBelongsTo, SessionPart, steps_of}
use Rattle.dy_shares.specs.Codes.{node_part_code}
use Rattle.dy_book.specs.Audits.{IsAuditOf, TellsNow}
use Rattle.dy_book.specs.declared.audits.Audit.{Audit}
use Rattle.dy_book.specs.Books.{BookParts, book_code}
use Rattle.dy_book.specs.contracts.options.Options as options
use Rattle.dy_book.specs.declared.options.Options.{Options}
use Rattle.dy_node.specs.Nodes.{AreDeferred, RestState, rest_code}
use Rattle.dy_node.specs.Stored.{Shows}
use Rattle.dy_cluster.specs.declared.resting.Closed.{Closed}

-- what a cluster at rest is seen as: its options, its book, its nodes' shares, and what the nodes
-- keep
pub record AtRest : Type 0 where
  pub options : Options
  pub book : BookParts
  pub parts : List NodePart
  pub rests : List RestState

-- a cluster at rest as plain data
abbrev pub at_rest_code : Coded AtRest
at_rest_code =
    code_by (Options × (BookParts × (List NodePart × List RestState)))
    (coded× options.the_row.coded
    (coded× book_code (coded× (coded_list node_part_code) (coded_list rest_code))))
    (λ c. (c.options, (c.book, (c.parts, c.rests))))
    (λ p. record { options = p.0; book = p.1.0; parts = p.1.1.0; rests = p.1.1.1 }) (λ _. refl)

-- what a node keeps is what its share shows, and it may hold what it has deferred
abbrev pub GoesWith : Tokens → ℕ → NodePart → RestState → Type 0
GoesWith ring n part rest = Shows part rest.stored × AreDeferred ring n part.node rest.waiting

-- each share goes with what its node keeps
abbrev pub GoTogether : Tokens → ℕ → List NodePart → List RestState → Type 0
GoTogether ring n parts rests = AllZip (GoesWith ring n) parts rests

-- the cluster at rest ended so: its log is legal, the audit is that of the book with these sessions
-- and the nodes' shares, of which there is one a node, each node kept what its share shows, and the
-- options are those of the book
pub record IsEndOf (ring : Tokens) (n r : ℕ) (c : AtRest) (tellings : List SessionPart)
    (closed : Closed) : Type 0 where
  pub legal : IsLegal (layout_of ring n) (steps_of c.book.log)
  pub audit : IsAuditOf ring n r c.book c.parts tellings closed.audit
  pub count : length c.parts ≡ ring.nodes
  pub rests_are : closed.rests.items ≡ c.rests
  pub together : GoTogether ring n c.parts c.rests
  pub options_are : closed.options ≡ c.book.options

-- the audit is of a cluster that is open: at some moment the log was legal, these sessions belonged
-- to it, and the audit told what the book had then
pub record IsOpenAudit (ring : Tokens) (n r : ℕ) (tellings : List SessionPart) (a : Audit)
    : Type 0 where
  pub book : BookParts
  pub legal : IsLegal (layout_of ring n) (steps_of book.log)
  pub belong : All (SessionBelongsTo book.log r) tellings
  pub tells : TellsNow book tellings a

-- a cluster of this ring ended so
abbrev pub IsClosed : Tokens → ℕ → ℕ → List SessionPart → Closed → Type 0
IsClosed ring n r tellings closed = (c : AtRest) × IsEndOf ring n r c tellings closed
