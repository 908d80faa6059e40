-- What `dynamo ring` prints, a line at a time.
use Rattle.std.proofs.Common.{◌≡◌, ℕ, List, [], ◌∷◌, ◌++◌, ◌+◌, ◌<◌, length, take, slice_index_or}
use Rattle.std.proofs.Common.{append-nil, append_assoc, sym, ap, ◌∙◌}
use Rattle.std.proofs.lemmas.List.{take_more}
use Rattle.dy_ring.specs.Rings.{Tokens, position_of}
use Rattle.dy_preference.specs.Preferences.{preference_of}
use Rattle.dy_lines.specs.Audits.{key_text}
use Rattle.dy_lines.specs.Texts.{line}
use Rattle.dy_plans.specs.RingLines.{key_lines}

key_lines-last : (ring : Tokens) (ks : List (List ℕ)) (k : List ℕ) →
    key_lines ring (ks ++ k ∷ [])
    ≡ key_lines ring ks ++ line (key_text k (position_of k) (preference_of ring k))
key_lines-last ring [] k = append-nil _
key_lines-last ring (x ∷ xs) k =
    let first = line (key_text x (position_of x) (preference_of ring x)) in
    ap (λ l. first ++ l) (key_lines-last ring xs k)
    ∙ sym (append_assoc first (key_lines ring xs) _)

-- the next key's line comes behind those before it
pub key_lines-next : (ring : Tokens) (ks : List (List ℕ)) (i : ℕ) (k : List ℕ)
    → i < length ks → k ≡ slice_index_or ks i k →
    key_lines ring (take (i + 1) ks)
    ≡ key_lines ring (take i ks) ++ line (key_text k (position_of k) (preference_of ring k))
key_lines-next ring ks i k within here =
    ap (key_lines ring) (take_more ks i k within ∙ ap (λ x. take i ks ++ x ∷ []) (sym here))
    ∙ key_lines-last ring (take i ks) k

-- a key's line has its position, and all nodes in the order in which it prefers them
pub key_line-is : (ring : Tokens) (k : List ℕ) (p : ℕ) (ns : List ℕ)
    → p ≡ position_of k → ns ≡ preference_of ring k →
    line (key_text k p ns) ≡ line (key_text k (position_of k) (preference_of ring k))
key_line-is ring k p ns at order i = line (key_text k (at i) (order i))
