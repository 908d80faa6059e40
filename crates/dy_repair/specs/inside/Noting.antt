-- Homes that are noted once.
use Rattle.std.specs.Prelude.{List, ℕ, if◌then◌else◌}
use Rattle.dy_preference.specs.Preferences.{is_home}
use Rattle.dy_repair.specs.Repairs.{with_node}

-- with the node at the end, where it is one of the homes and is not there
abbrev pub with_home : List ℕ → List ℕ → ℕ → List ℕ
with_home homes noted node = if is_home homes node then with_node noted node else noted
