-- Worked values of the ring.
use Rattle.std.proofs.Common.{◌≡◌, [], ◌∷◌, refl}
use Rattle.dy_ring.specs.Rings.{Tokens, node_distance}
use Rattle.dy_preference.specs.Preferences.{nodes_by}

five : Tokens
five = record {
  nodes = 5;
  tokens = (0x20000000000000000000000000000000, 0) ∷ (0x60000000000000000000000000000000, 1) ∷ (0xa0000000000000000000000000000000, 2)
      ∷ (0xd0000000000000000000000000000000, 3) ∷ (0xf0000000000000000000000000000000, 4) ∷ [];
}

-- of a key at the position of abc
list_of_abc : nodes_by (node_distance five 0x900150983cd24fb0d6963f7d28e17f72) 5 ≡ 2 ∷ 3 ∷ 4 ∷ 0 ∷ 1 ∷ []
unfolding five
list_of_abc = refl
