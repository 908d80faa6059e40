-- What clients write.
use Rattle.std.specs.Prelude.{ℕ, List, ◌++◌, codes, decimal}

-- the key of a number
abbrev pub key_text : ℕ → List ℕ
key_text number = codes "k" ++ decimal number

-- the value that a client puts in a turn
abbrev pub value_text : ℕ → ℕ → List ℕ
value_text client turn = codes "t" ++ (decimal client ++ (codes "-" ++ decimal turn))
