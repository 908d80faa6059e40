-- The bytes of a value, in whatever form they are kept.
use Rattle.std.specs.Prelude.{ℕ, ◌<◌, List, [], length}
use Rattle.std.specs.Arc.{arc_slice_items}
use Rattle.dy_siblings.specs.declared.keys.TheConstants.{SHORT_KEY_BYTES}
use Rattle.dy_siblings.specs.declared.values.Bytes.{Bytes}
use Rattle.dy_siblings.specs.declared.values.Bytes.TheVariants.{Nothing, Few, Many}

abbrev pub bytes_in : Bytes → List ℕ
bytes_in Nothing = []
bytes_in (Few bytes) = bytes
bytes_in (Many bytes) = arc_slice_items bytes

-- those that are not a key's are more than lie in place
abbrev pub AreMany : Bytes → Type 0
AreMany Nothing = Unit {0}
AreMany (Few bytes) = Unit {0}
AreMany (Many bytes) = SHORT_KEY_BYTES < length (arc_slice_items bytes)
