-- The lines of an input, and what is kept of one that is read.
use Rattle.std.specs.Prelude.{◌≡◌, ◌≢◌, ◌==◌, ◌||◌, ◌++◌, ◌∷◌, [], List, ℕ, Bool, false}
use Rattle.std.specs.Prelude.{All, IfSome, Option, true, if◌then◌else◌, length, nat_lt}
use Rattle.std.specs.Io.KnownBytes.{Consumes}
use Rattle.std.specs.List.{flat_map, list_all}
use Rattle.dy_serve.specs.declared.input_lines.Piece.{Piece}
use Rattle.dy_serve.specs.declared.input_lines.Piece.TheVariants.{Part, Rest, End}
use Rattle.dy_serve.specs.declared.input_lines.TheConstants.{MAX_LINE_BYTES}

-- these are all bytes that are given, where those are known
abbrev pub IsAllOf : Option (List ℕ) → List ℕ → Type 0
IsAllOf given bytes = IfSome given (λ all. bytes ≡ all)

-- a blank, a tab or a carriage return
abbrev pub is_space : ℕ → Bool
is_space x = (x == 32) || (x == 9) || (x == 13)

-- a line of such bytes alone
abbrev pub is_blank : List ℕ → Bool
is_blank bytes = list_all is_space bytes

-- a line has more bytes than it may
abbrev pub is_too_long : List ℕ → Bool
is_too_long bytes = nat_lt MAX_LINE_BYTES (length bytes)

-- a line that asks for nothing: a blank one, as long as a line may be
abbrev pub is_nothing : List ℕ → Bool
is_nothing bytes = if is_too_long bytes then false else is_blank bytes

-- the lines, each with a line feed behind it
abbrev pub ended : List (List ℕ) → List ℕ
ended lines = flat_map (λ l. l ++ 10 ∷ []) lines

-- these are lines of a text, each with its line feed; the last line of a whole text has none
abbrev pub AreLines : Bool → List ℕ → List (List ℕ) → Type 0
AreLines false text lines = text ≡ ended lines
AreLines true text lines = text ++ 10 ∷ [] ≡ ended lines

-- these are the lines of a whole text, between its line feeds
pub record AreLinesOf (text : List ℕ) (lines : List (List ℕ)) : Type 0 where
  pub none_within : All (λ l. All (λ x. x ≢ 10) l) lines
  pub lines_are : AreLines true text lines

-- these are the first lines of what was given
pub record AreFirstLines (is_last : Bool) (given : Option (List ℕ)) (lines : List (List ℕ))
    : Type 0 where
  pub bytes : List ℕ
  pub left : Option (List ℕ)
  pub consumed : Consumes given left bytes
  pub none_within : All (λ l. All (λ x. x ≢ 10) l) lines
  pub lines_are : AreLines is_last bytes lines

-- of so much that was read of a line these bytes are kept, unless it is too long
pub record IsKept (is_long : Bool) (kept whole : List ℕ) : Type 0 where
  pub long : is_long ≡ is_too_long whole
  pub bytes : is_long ≡ false → kept ≡ whole

-- the bytes that were taken of an input, of which this is a part of a line
abbrev pub taken : Piece → List ℕ → List ℕ
taken Part part = part
taken Rest part = part ++ 10 ∷ []
taken End part = part

-- these bytes were read of an input for this line: with its line feed, which the last has not
abbrev pub IsRead : Bool → List ℕ → List ℕ → Type 0
IsRead false whole bytes = bytes ≡ whole ++ 10 ∷ []
IsRead true whole bytes = bytes ≡ whole
