-- The lines that tell the cluster of an output with steps.
use Rattle.std.specs.Prelude.{ℕ, List, [], ◌∷◌, ◌++◌, codes, decimal}
use Rattle.dy_lines.specs.Audits.{token_text}
use Rattle.dy_lines.specs.Texts.{line}

-- how many homes a key has, a get needs, and a put needs
abbrev pub cluster_text : ℕ → ℕ → ℕ → List ℕ
cluster_text n r w =
    codes "cluster n " ++ decimal n ++ codes " r " ++ decimal r ++ codes " w " ++ decimal w

-- a line for each token
abbrev pub token_lines : List (ℕ × ℕ) → List ℕ
token_lines [] = []
token_lines (t ∷ ts) = line (token_text t.0 t.1) ++ token_lines ts

-- the cluster's numbers, and then its tokens
abbrev pub cluster_lines : ℕ → ℕ → ℕ → List (ℕ × ℕ) → List ℕ
cluster_lines n r w tokens = line (cluster_text n r w) ++ token_lines tokens
