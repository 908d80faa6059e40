-- What a cluster is opened with.
use Rattle.std.specs.Prelude.{ℕ}
use Rattle.dy_ring.specs.Rings.{Tokens}
use Rattle.dy_book.specs.declared.options.Options.{Options}

-- the name of a cluster's book, its ring, how many homes a key has and how many a get needs, how
-- many a put names that names none of its own, and the limits of the book
pub record Setting : Type 1 where
  pub book : Type 0
  pub ring : Tokens
  pub n : ℕ
  pub r : ℕ
  pub w : ℕ
  pub counter_limit : ℕ
  pub versions_limit : ℕ
  pub steps_limit : ℕ

-- what a cluster of this book is opened with, where these options have w and the limits
abbrev pub setting : Type 0 → Tokens → ℕ → ℕ → Options → Setting
setting book ring n r options =
    record {
      book = book;
      ring = ring;
      n = n;
      r = r;
      w = options.w;
      counter_limit = options.counter_limit;
      versions_limit = options.versions_limit;
      steps_limit = options.steps_limit;
    }
