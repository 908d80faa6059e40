-- What the words of a command line say.
use Rattle.std.specs.Prelude.{◌≡◌, ◌≢◌, ◌<◌, ◌↔◌, ℕ, List, [], Some, IsTrue, codes, length}
use Rattle.std.specs.Prelude.{get_or, slice_get, string_bytes}
use Rattle.std.specs.List.{Contains}
use Rattle.std.specs.Str.Parse.{IsNumeral, digits_value}
use Rattle.dy_plans.specs.declared.storms.Storm.{Storm}
use Rattle.dy_jobs.specs.declared.jobs.Job.{Job}
use Rattle.dy_jobs.specs.declared.jobs.Job.TheVariants as job

-- a word of one or more decimal digits, leading zeros allowed, and the number that they write
abbrev pub IsNumberWord : List ℕ → ℕ → Type 0
IsNumberWord word n = IsNumeral 10 word × (n ≡ digits_value 10 word)

-- the word at this place says this number
abbrev pub SaysAt : List (List ℕ) → ℕ → ℕ → Type 0
SaysAt words at n = (word : List ℕ) × (slice_get words at ≡ Some word) × IsNumberWord word n

-- the flag is one of the words, and no word before it is two dashes alone
abbrev pub HasFlag : List (List ℕ) → List ℕ → Type 0
HasFlag words flag =
    (at : ℕ) × (at < length words) × (get_or words at [] ≡ flag)
    × ((k : ℕ) → k < at → get_or words k [] ≢ codes "--")

-- three words behind the first say the numbers of the storm, in their order; it has the faults and
-- the steps where the words have these flags
pub record IsStormOf (words : List (List ℕ)) (storm : Storm) : Type 0 where
  pub seed_at : ℕ
  pub threads_at : ℕ
  pub puts_at : ℕ
  pub seed : SaysAt words seed_at storm.seed
  pub threads : SaysAt words threads_at storm.threads
  pub puts : SaysAt words puts_at storm.puts
  pub behind : 0 < seed_at
  pub between : seed_at < threads_at
  pub last : threads_at < puts_at
  pub faults : IsTrue storm.faults ↔ HasFlag words (codes "--faults")
  pub steps : IsTrue storm.steps ↔ HasFlag words (codes "--steps")

-- a job of this name, and its file, are among the words
abbrev pub AreNamed : List (List ℕ) → List ℕ → List ℕ → Type 0
AreNamed words name file = Contains words name × Contains words file

-- the words name this job, and its file or its numbers; a run and a service have the steps exactly
-- where the words have this flag
abbrev pub IsJobOf : List (List ℕ) → Job → Type 0
IsJobOf words (job.Run file with_steps) =
    AreNamed words (codes "run") (string_bytes file)
    × (IsTrue with_steps ↔ HasFlag words (codes "--steps"))
IsJobOf words (job.Serve file with_steps) =
    AreNamed words (codes "serve") (string_bytes file)
    × (IsTrue with_steps ↔ HasFlag words (codes "--steps"))
IsJobOf words (job.Ring file) = AreNamed words (codes "ring") (string_bytes file)
IsJobOf words (job.Storm storm) = Contains words (codes "storm") × IsStormOf words storm
