-- The lines of tokens, one at a time.
use Rattle.std.proofs.Common.{◌≡◌, ℕ, List, [], ◌∷◌, ◌++◌, ◌+◌, ◌<◌, length, take, slice_index_or}
use Rattle.std.proofs.Common.{append-nil, append_assoc, sym, ap, ◌∙◌}
use Rattle.std.proofs.lemmas.List.{take_more}
use Rattle.dy_lines.specs.Audits.{token_text}
use Rattle.dy_lines.specs.Clusters.{token_lines}
use Rattle.dy_lines.specs.Texts.{line}

token_lines-last : (ts : List (ℕ × ℕ)) (t : ℕ × ℕ) →
    token_lines (ts ++ t ∷ []) ≡ token_lines ts ++ line (token_text t.0 t.1)
token_lines-last [] t = append-nil _
token_lines-last (x ∷ xs) t =
    ap (λ l. line (token_text x.0 x.1) ++ l) (token_lines-last xs t)
    ∙ sym (append_assoc (line (token_text x.0 x.1)) (token_lines xs) _)

-- the next token's line comes behind those before it
pub token_lines-next : (ts : List (ℕ × ℕ)) (i : ℕ) (t : ℕ × ℕ)
    → i < length ts → t ≡ slice_index_or ts i t →
    token_lines (take (i + 1) ts) ≡ token_lines (take i ts) ++ line (token_text t.0 t.1)
token_lines-next ts i t within here =
    ap token_lines (take_more ts i t within ∙ ap (λ x. take i ts ++ x ∷ []) (sym here))
    ∙ token_lines-last (take i ts) t
