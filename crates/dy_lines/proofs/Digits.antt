-- The digits of bytes that are printed a part at a time.
use Rattle.std.proofs.Common.{◌≡◌, ◌++◌, ◌∷◌, [], List, ℕ, ◌*◌, ◌/◌, ◌%◌, length, slice_index, lit<, refl, ap}
use Rattle.std.specs.Prelude.{codes}
use Rattle.std.specs.Str.{IsAscii}
use Rattle.std.proofs.lemmas.Str.Ascii.{IsAscii-cons, IsAscii-nil}
use Rattle.hex.specs.Hex.{encode_with, lower_digits}
use Rattle.dy_lines.specs.Texts.{hex_text}
use Rattle.hex.proofs.HexLemmas.{IsAscii-encode_with, length-encode_with}

encode_append : (t xs ys : List ℕ) →
    encode_with t (xs ++ ys) ≡ encode_with t xs ++ encode_with t ys
unfolding encode_with
encode_append t [] ys = refl
encode_append t (b ∷ xs) ys =
    ap (λ rest. slice_index t (b / 16) ∷ slice_index t (b % 16) ∷ rest) (encode_append t xs ys)

pub hex_append : (xs ys : List ℕ) → hex_text (xs ++ ys) ≡ hex_text xs ++ hex_text ys
hex_append xs ys = encode_append lower_digits xs ys

pub hex_nil : hex_text [] ≡ []
unfolding encode_with
hex_nil = refl

digits_ascii : IsAscii lower_digits
digits_ascii =
    (IsAscii-cons 48 (codes "123456789abcdef") (lit< tt)
    (IsAscii-cons 49 (codes "23456789abcdef") (lit< tt)
    (IsAscii-cons 50 (codes "3456789abcdef") (lit< tt)
    (IsAscii-cons 51 (codes "456789abcdef") (lit< tt)
    (IsAscii-cons 52 (codes "56789abcdef") (lit< tt)
    (IsAscii-cons 53 (codes "6789abcdef") (lit< tt)
    (IsAscii-cons 54 (codes "789abcdef") (lit< tt)
    (IsAscii-cons 55 (codes "89abcdef") (lit< tt)
    (IsAscii-cons 56 (codes "9abcdef") (lit< tt)
    (IsAscii-cons 57 (codes "abcdef") (lit< tt)
    (IsAscii-cons 97 (codes "bcdef") (lit< tt)
    (IsAscii-cons 98 (codes "cdef") (lit< tt)
    (IsAscii-cons 99 (codes "def") (lit< tt)
    (IsAscii-cons 100 (codes "ef") (lit< tt)
    (IsAscii-cons 101 (codes "f") (lit< tt)
    (IsAscii-cons 102 [] (lit< tt) IsAscii-nil))))))))))))))))

-- digits are ASCII
pub hex_ascii : (xs : List ℕ) → IsAscii (hex_text xs)
hex_ascii xs = IsAscii-encode_with lower_digits xs digits_ascii

pub length-hex : (xs : List ℕ) → length (hex_text xs) ≡ 2 * length xs
length-hex xs = length-encode_with lower_digits xs
