-- A fact for each member of a list, at its first one and at the others; what is held of a body.
use Rattle.std.proofs.Common.{◌≡◌, suc, List, ◌∷◌, All, subst, arith}
use Rattle.trees.specs.Tree.{Tree}
use Rattle.tasks.specs.declared.declaration.Body.{Body}
use Rattle.tasks.specs.declared.declaration.Body.TheVariants.{Inductives, Algebraics}
use Rattle.tasks.specs.declared.declaration.Ind.{Ind}
use Rattle.tasks.specs.declared.declaration.Alg.{Alg}
use Rattle.tasks.specs.Meaning.{InductiveHeld, AlgebraicHeld, BodyHeld}

pub split_all : {X : Type 0} (P : X → Type 0) (xs : List X) (x : X) (rest : List X) → xs ≡ x ∷ rest → All P xs → P x × All P rest
split_all P xs x rest e a =
    let b : All P (x ∷ rest) = rw e at a in
    (b 0 x (omega arith), λ k d l. b (suc k) d (omega arith))

pub inductives_held : (s : List Tree) (b : Body) (is : List Ind) → b ≡ Inductives is → BodyHeld s b → All (InductiveHeld s) is
inductives_held s b is e h = subst (BodyHeld s) e h

pub algebraics_held : (s : List Tree) (b : Body) (ts : List Alg) → b ≡ Algebraics ts → BodyHeld s b → All (AlgebraicHeld s) ts
algebraics_held s b ts e h = subst (BodyHeld s) e h
