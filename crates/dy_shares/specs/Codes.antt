-- Codes of what shares, receipts and accounts are seen as: how lists and threads may carry them.
use Rattle.std.specs.Prelude.{ℕ, List, refl}
use Rattle.std.specs.Coded.{Coded, coded×, coded_ℕ, coded_list, code_by}
use Rattle.dy_dots.specs.Dots.{dot_code}
use Rattle.dy_dots.specs.declared.dots.Dot.{Dot}
use Rattle.dy_siblings.specs.Versions.{version_code}
use Rattle.dy_siblings.specs.declared.versions.Version.{Version}
use Rattle.dy_core.specs.Logs.{Answer}
use Rattle.dy_core.specs.contracts.steps.Step as step
use Rattle.dy_core.specs.declared.steps.Step.{Step}
use Rattle.dy_shares.specs.Shares.{Account, AckTold, GetTold, NodePart, ReceiptParts, SessionPart}
use Rattle.dy_shares.specs.contracts.entries.Entry as entry
use Rattle.dy_shares.specs.declared.entries.Entry.{Entry}

abbrev pub step_code : Coded Step
step_code = step.the_row.coded

abbrev pub entries_code : Coded (List Entry)
entries_code = coded_list entry.the_row.coded

abbrev pub account_code : Coded Account
account_code =
    code_by (List Entry × ℕ) (coded× entries_code coded_ℕ)
    (λ a. (a.log, a.sessions)) (λ p. record { log = p.0; sessions = p.1 }) (λ _. refl)

abbrev pub node_part_code : Coded NodePart
node_part_code =
    code_by (ℕ × List Step) (coded× coded_ℕ (coded_list step_code))
    (λ p. (p.node, p.steps)) (λ p. record { node = p.0; steps = p.1 }) (λ _. refl)

abbrev pub receipt_parts_code : Coded ReceiptParts
receipt_parts_code =
    code_by (List ℕ × (Dot × (ℕ × ℕ)))
    (coded× (coded_list coded_ℕ) (coded× dot_code (coded× coded_ℕ coded_ℕ)))
    (λ r. (r.key, (r.dot, (r.holder, r.home))))
    (λ p. record { key = p.0; dot = p.1.0; holder = p.1.1.0; home = p.1.1.1 }) (λ _. refl)

abbrev pub ack_told_code : Coded AckTold
ack_told_code =
    code_by (ℕ × (List ℕ × (Dot × ℕ)))
    (coded× coded_ℕ (coded× (coded_list coded_ℕ) (coded× dot_code coded_ℕ)))
    (λ a. (a.at, (a.key, (a.dot, a.w))))
    (λ p. record { at = p.0; key = p.1.0; dot = p.1.1.0; w = p.1.1.1 }) (λ _. refl)

abbrev pub answer_code : Coded Answer
answer_code =
    code_by (ℕ × (ℕ × (ℕ × (List ℕ × List Version))))
    (coded× coded_ℕ (coded× coded_ℕ (coded× coded_ℕ
    (coded× (coded_list coded_ℕ) (coded_list version_code)))))
    (λ a. (a.at, (a.holder, (a.home, (a.key, a.row)))))
    (λ p. record { at = p.0; holder = p.1.0; home = p.1.1.0; key = p.1.1.1.0; row = p.1.1.1.1 })
    (λ _. refl)

abbrev pub get_told_code : Coded GetTold
get_told_code =
    code_by (ℕ × (List Answer × ℕ)) (coded× coded_ℕ (coded× (coded_list answer_code) coded_ℕ))
    (λ g. (g.since, (g.answers, g.acks)))
    (λ p. record { since = p.0; answers = p.1.0; acks = p.1.1 }) (λ _. refl)

abbrev pub spent_code : Coded (List ReceiptParts)
spent_code = coded_list receipt_parts_code

abbrev pub session_part_code : Coded SessionPart
session_part_code =
    code_by (ℕ × (List AckTold × (List (List ReceiptParts) × List GetTold)))
    (coded× coded_ℕ (coded× (coded_list ack_told_code)
    (coded× (coded_list spent_code) (coded_list get_told_code))))
    (λ s. (s.session, (s.acks, (s.spent, s.gets))))
    (λ p. record { session = p.0; acks = p.1.0; spent = p.1.1.0; gets = p.1.1.1 }) (λ _. refl)
