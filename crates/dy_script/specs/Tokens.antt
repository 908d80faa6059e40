-- What a token's text names.
use Rattle.std.specs.Prelude.{ℕ, ◌-◌, ◌&&◌, nat_le, List, ◌++◌, length, replicate}
use Rattle.std.specs.Prelude.{Option, Some, None, Result, Ok, Err, if◌then◌else◌}
use Rattle.std.specs.Int.{w128, from_be_bytes}
use Rattle.hex.specs.Hex.{decode_of}
use Rattle.hex.specs.declared.error.FromHexError.{FromHexError}

-- the bytes, filled with zero bytes at the end to 16, are a number, the greatest byte first
abbrev pub position_of_bytes : List ℕ → ℕ
position_of_bytes bytes = from_be_bytes w128 (bytes ++ replicate (16 - length bytes) 0)

-- the position of the bytes, where the digits are good
abbrev pub position_read : Result (List ℕ) FromHexError → Option ℕ
position_read (Ok bytes) = Some (position_of_bytes bytes)
position_read (Err e) = None

-- a text names a position where it is 2 to 32 hexadecimal digits, even in number
abbrev pub token_of : List ℕ → Option ℕ
token_of text =
    if nat_le 2 (length text) && nat_le (length text) 32
    then position_read (decode_of text) else None
