-- The words that scripts have for modes.
use Rattle.std.specs.Prelude.{ℕ, List, codes, string_bytes, bytes_eq}
use Rattle.std.specs.Prelude.{if◌then◌else◌, Option, Some, None}
use Rattle.dy_modes.specs.declared.modes.Mode.{Mode}
use Rattle.dy_modes.specs.declared.modes.Mode.TheVariants.{Plain, Mute, Late, Repeat, Delay}

-- the mode of this word
unfoldable pub mode_named : List ℕ → Option Mode
mode_named word =
    if bytes_eq word (codes "none") then Some Plain
    else if bytes_eq word (codes "mute") then Some Mute
    else if bytes_eq word (codes "late") then Some Late
    else if bytes_eq word (codes "repeat") then Some Repeat
    else if bytes_eq word (codes "delay") then Some Delay
    else None
