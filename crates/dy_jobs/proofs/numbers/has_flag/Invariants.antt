use Rattle.std.proofs.Common.{map}
use Rattle.std.specs.Prelude.{string_bytes}
use Rattle.dy_jobs.proofs.Flags.{ArePassed}
use Rattle.dy_jobs.proofs.numbers.has_flag.Given as goal

-- none of the words before is the flag, or two dashes alone
abbrev pub invariant-loop-word : goal.invariant-loop-word
invariant-loop-word l = ArePassed (map string_bytes l.words) l.flag l.word-index
