-- The cluster of a storm.
use Rattle.std.specs.Prelude.{ℕ, List, [], ◌∷◌, ◌*◌, ◌^◌}
use Rattle.dy_dots.specs.declared.dots.TheConstants.{MAX_COUNTER}
use Rattle.dy_book.specs.declared.options.Options.{Options}
use Rattle.dy_book.specs.declared.options.TheConstants.{MAX_STEPS, MAX_VERSIONS}

-- the positions of the nodes' tokens, one a node, whose first bytes are 20, 60, a0, d0 and f0 in
-- hexadecimal, and the others 0
abbrev pub five_tokens : List (List ℕ)
five_tokens =
    (32 * 2 ^ 120 ∷ []) ∷ (96 * 2 ^ 120 ∷ []) ∷ (160 * 2 ^ 120 ∷ [])
    ∷ (208 * 2 ^ 120 ∷ []) ∷ (240 * 2 ^ 120 ∷ []) ∷ []

-- three homes a key, of which a put and a get need two, and the greatest limits
abbrev pub storm_options : Options
storm_options = record {
  n = 3;
  r = 2;
  w = 2;
  counter_limit = MAX_COUNTER;
  versions_limit = MAX_VERSIONS;
  steps_limit = MAX_STEPS;
}
