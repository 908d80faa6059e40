-- What fails next in a storm.
use Rattle.std.specs.Prelude.{◌≡◌, ℕ, ◌%◌, true, false}
use Rattle.dy_modes.specs.declared.modes.Mode.{Mode}
use Rattle.dy_modes.specs.declared.modes.Mode.TheVariants.{Plain, Mute, Late, Repeat}
use Rattle.rand_pcg.specs.Lcg.{Lcg}
use Rattle.rand_pcg.specs.Pcg.{pcg32}
use Rattle.dy_storm.specs.declared.events.Event.{Event}
use Rattle.dy_storm.specs.declared.events.Event.TheVariants.{SetUp, Handoff, SetMode}
use Rattle.dy_storm.specs.declared.events.Outage.{Outage}

-- of four, the mode of this number
abbrev pub IsModeOf : ℕ → Mode → Type 0
IsModeOf number mode =
    (number ≡ 0 → mode ≡ Plain) × (number ≡ 1 → mode ≡ Mute) × (number ≡ 2 → mode ≡ Late)
    × (number ≡ 3 → mode ≡ Repeat)

-- the mode that the next word picks
abbrev pub IsModeDrawn : Lcg → Mode → Lcg → Type 0
IsModeDrawn before mode after =
    IsModeOf ((pcg32 before).0 % 4) mode × (after ≡ (pcg32 before).1)

-- the next word picks what happens to a node, and the one behind it a mode where that is it
pub record IsEventDrawn (before : Lcg) (event : Event) (after : Lcg) : Type 0 where
  pub down : (pcg32 before).0 % 4 ≡ 0 → (event ≡ SetUp false) × (after ≡ (pcg32 before).1)
  pub up : (pcg32 before).0 % 4 ≡ 1 → (event ≡ SetUp true) × (after ≡ (pcg32 before).1)
  pub handoff : (pcg32 before).0 % 4 ≡ 2 → (event ≡ Handoff) × (after ≡ (pcg32 before).1)
  pub mode : (pcg32 before).0 % 4 ≡ 3 →
      (mode : Mode) × (event ≡ SetMode mode) × IsModeDrawn (pcg32 before).1 mode after

-- the next word picks one of five nodes, and those behind it what happens to that
abbrev pub IsOutageDrawn : Lcg → Outage → Lcg → Type 0
IsOutageDrawn before outage after =
    (outage.node ≡ (pcg32 before).0 % 5) × IsEventDrawn (pcg32 before).1 outage.event after
