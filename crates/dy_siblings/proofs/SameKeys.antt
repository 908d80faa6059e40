-- What the test on the bytes of two keys says.
use Rattle.std.proofs.Common.{◌≡◌, ℕ, true, List, refl}
use Rattle.std.specs.Cmp.Lexicographic.{bytes_decides}
use Rattle.dy_siblings.specs.Siblings.{same_key}

pub same_key_is : (j k : List ℕ) → same_key j k ≡ true → j ≡ k
same_key_is j k e = (bytes_decides j k).0 e

pub same_key_self : (k : List ℕ) → same_key k k ≡ true
same_key_self k = (bytes_decides k k).1 refl
