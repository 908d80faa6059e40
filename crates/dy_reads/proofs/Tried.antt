-- The tries so far, as a loop over the list keeps them.
use Rattle.std.proofs.Common.{◌≡◌, ◌<◌, ◌+◌, ◌++◌, ◌∷◌, [], List, ℕ, length, take, get_or}
use Rattle.std.proofs.Common.{Result, Err, sym, ◌∙◌, ap}
use Rattle.std.proofs.lemmas.List.{get_or_default, map-append, take_more}
use Rattle.dy_dots.specs.declared.faults.Fault.{Fault}
use Rattle.dy_dots.specs.declared.faults.Fault.TheVariants.{Down}
use Rattle.dy_transport.specs.declared.tries.Try.{Try}
use Rattle.dy_reads.specs.Tries.{TriesAt, downs}

module _ {J X : Type 0} where
  -- one node more is down
  pub downs_more : (tried : ℕ → Result X Fault → Try J) (nodes : List ℕ) (i node : ℕ) →
      i < length nodes → node ≡ get_or nodes i node →
      downs tried (take (i + 1) nodes) ≡ downs tried (take i nodes) ++ tried node (Err Down) ∷ []
  downs_more tried nodes i node lt is =
      ap (downs tried)
      (take_more nodes i node lt ∙ ap (λ x. take i nodes ++ x ∷ []) (sym is))
      ∙ map-append (λ n. tried n (Err Down)) (take i nodes) (node ∷ [])

  -- after the nodes that are down this one gave this
  pub tries_at : (tried : ℕ → Result X Fault → Try J) (nodes given : List ℕ) (tries : List (Try J))
      (i node : ℕ) (gave : Result X Fault) → given ≡ nodes → i < length given →
      node ≡ get_or given i node → tries ≡ downs tried (take i given) ++ tried node gave ∷ [] →
      TriesAt tried nodes tries node gave
  tries_at tried nodes given tries i node gave same lt is e =
      let inside : i < length nodes = rw same at lt in
      let here : node ≡ get_or nodes i node = rw same at is in (
        i,
        inside,
        here ∙ get_or_default nodes i node 0 inside,
        e ∙ ap (λ xs. downs tried (take i xs) ++ tried node gave ∷ []) same,
      )
