-- A token's bytes as they stand in room for 16.
use Rattle.std.proofs.Common.{◌≡◌, ◌⊎◌, inl, inr, ℕ, ◌-◌, ◌*◌, ◌/◌, ◌<◌, ◌≤◌, ◌&&◌, nat_le, true, false, List, ◌++◌, length, take, drop, replicate, Some, None, Result, Ok, Err, MatchResult, refl, sym, ap, ◌∙◌, arith}
use Rattle.std.proofs.lemmas.Bool.Decides.{nat_tests}
use Rattle.std.proofs.lemmas.List.{drop-replicate, length-take-le}
use Rattle.std.specs.Int.{w128, from_be_bytes}
use Rattle.hex.specs.Hex.{decode_of, decode_sized}
use Rattle.hex.specs.declared.error.FromHexError.{FromHexError}
use Rattle.hex.proofs.HexLemmas.{decode_of-ok}
use Rattle.dy_script.specs.Tokens.{token_of, position_read}

-- decoding into room answered well
pub sized_ok : (r : Result (List ℕ) FromHexError) (answer : Result (Unit {0}) FromHexError) (out : List ℕ) (u : Unit {0})
    → MatchResult r (λ bytes. (answer ≡ Ok tt) × (out ≡ bytes)) (λ e. answer ≡ Err e) → answer ≡ Ok u → r ≡ Ok out
sized_ok (Ok b) answer out u h i = ap Ok (sym h.1)
sized_ok (Err e) answer out u h i = let g : answer ≡ Err e = h in cc

-- and badly
pub sized_err : (r : Result (List ℕ) FromHexError) (answer : Result (Unit {0}) FromHexError) (out : List ℕ) (e : FromHexError)
    → MatchResult r (λ bytes. (answer ≡ Ok tt) × (out ≡ bytes)) (λ x. answer ≡ Err x) → answer ≡ Err e → r ≡ Err e
sized_err (Ok b) answer out e h i = let g = h.0 in cc
sized_err (Err x) answer out e h i = let g : answer ≡ Err x = h in cc

-- room for half the text's length is the right one
sized_half : (text : List ℕ) (n : ℕ) → n ≡ length text / 2 → decode_sized text n ≡ decode_of text
sized_half text n e = grind (arith, nat_tests)

-- the length is one of a token
fits : (n : ℕ) → 2 ≤ n → n ≤ 32 → (nat_le 2 n && nat_le n 32) ≡ true
fits n low high = grind (arith, nat_tests)

misfits : (n : ℕ) → (n / 2 ≡ 0) ⊎ ((n / 2 ≡ 0 → ⊥) × (32 < n)) → (nat_le 2 n && nat_le n 32) ≡ false
misfits n (inl h) = grind (arith, nat_tests)
misfits n (inr h) = let l = h.1 in grind (arith, nat_tests)

-- a text of another length names no position
pub token_misfit : (text : List ℕ) → (length text / 2 ≡ 0) ⊎ ((length text / 2 ≡ 0 → ⊥) × (32 < length text)) → token_of text ≡ None
token_misfit text h = rw (misfits (length text) h) refl

-- what decoding answers is what the token is read from
read_within : (text : List ℕ) → 2 ≤ length text → length text ≤ 32 → token_of text ≡ position_read (decode_of text)
read_within text low high = rw (fits (length text) low high) refl

-- the decoded bytes before what was left of sixteen zeros are the position
pub token_good : (text bytes out : List ℕ) (n position : ℕ) → position ≡ from_be_bytes w128 bytes → bytes ≡ out ++ drop (length text / 2) (replicate 16 0)
    → n ≡ length text / 2 → 2 ≤ length text → length text ≤ 32 → decode_sized text n ≡ Ok out → Some position ≡ token_of text
token_good text bytes out n position p b e low high h =
    let d = sym (sized_half text n e) ∙ h in
    let l : length text ≡ 2 * length out = (decode_of-ok text out d).2 in
    let m : 16 - length text / 2 ≡ 16 - length out = omega arith in
    let z = drop-replicate (length text / 2) 16 0 ∙ ap (λ k. replicate k 0) m in
    let t = read_within text low high ∙ ap position_read d in
    sym (t ∙ sym (ap Some (p ∙ ap (from_be_bytes w128) (b ∙ ap (λ zs. out ++ zs) z))))

-- digits that don't decode name no position
pub token_bad : (text : List ℕ) (n : ℕ) (e : FromHexError) → n ≡ length text / 2 → 2 ≤ length text → length text ≤ 32 → decode_sized text n ≡ Err e
    → token_of text ≡ None
token_bad text n e i low high h = read_within text low high ∙ ap position_read (sym (sized_half text n i) ∙ h)

-- the first m of sixteen are m
pub room : (m : ℕ) → m ≤ 16 → length {A = ℕ} (take m (replicate 16 0)) ≡ m
room m h = length-take-le m (replicate 16 0) h
