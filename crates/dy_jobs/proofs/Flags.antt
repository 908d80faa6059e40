-- Where a flag stands among words.
use Rattle.std.proofs.Common.{◌≡◌, ◌≢◌, ◌<◌, ◌+◌, ℕ, List, [], length, get_or, codes, subst, arith}
use Rattle.std.proofs.Common.{⊎_elim}
use Rattle.std.proofs.lemmas.Bool.{cases_lt}
use Rattle.dy_jobs.specs.Words.{HasFlag}

-- none of so many words is the flag, or two dashes alone
abbrev pub ArePassed : List (List ℕ) → List ℕ → ℕ → Type 0
ArePassed words flag n =
    (k : ℕ) → k < n → (get_or words k [] ≢ flag) × (get_or words k [] ≢ codes "--")

-- the next one is none of these either
pub passed_next : (words : List (List ℕ)) (flag : List ℕ) (n : ℕ) → ArePassed words flag n →
    get_or words n [] ≢ flag → get_or words n [] ≢ codes "--" → ArePassed words flag (n + 1)
passed_next words flag n passed other dashes k within =
    ⊎_elim (λ below. passed k below)
    (λ behind.
    let same : n ≡ k = omega (arith, behind, within) in
    subst (λ (i : ℕ). (get_or words i [] ≢ flag) × (get_or words i [] ≢ codes "--")) same
    (other, dashes))
    (cases_lt k n)

-- it stands here
pub flag_here : (words : List (List ℕ)) (flag : List ℕ) (n : ℕ) → n < length words →
    ArePassed words flag n → get_or words n [] ≡ flag → HasFlag words flag
flag_here words flag n within passed here = (n, within, here, λ k below. (passed k below).1)

-- it does not stand behind two dashes
pub no_flag_behind : (words : List (List ℕ)) (flag : List ℕ) (n : ℕ) → ArePassed words flag n →
    get_or words n [] ≢ flag → get_or words n [] ≡ codes "--" → ¬ (HasFlag words flag)
no_flag_behind words flag n passed other dashes has =
    ⊎_elim (λ below. (passed has.0 below).0 has.2)
    (λ behind.
    ⊎_elim (λ above. has.3 n above dashes)
    (λ least.
    let same : has.0 ≡ n = omega (arith, behind, least) in
    other (subst (λ (i : ℕ). get_or words i [] ≡ flag) same has.2))
    (cases_lt n has.0))
    (cases_lt has.0 n)

-- it stands nowhere
pub no_flag : (words : List (List ℕ)) (flag : List ℕ) → ArePassed words flag (length words) →
    ¬ (HasFlag words flag)
no_flag words flag passed has = (passed has.0 has.1).0 has.2
