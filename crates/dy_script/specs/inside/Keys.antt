-- The keys of an object beside the names that it may have.
use denote.Ref.{Bor}
use Rattle.std.specs.Prelude.{ℕ, List, Bool, bytes_eq}
use Rattle.std.specs.List.{list_any}

-- some name has the key's bytes
abbrev pub is_one_of : List (Bor (List ℕ)) → List ℕ → Bool
is_one_of names key = list_any (λ name. bytes_eq name.now key) names
