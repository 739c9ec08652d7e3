-- The symbols of a stored body are those of its tree.
use Rattle.std.proofs.Common.{◌≡◌, ℕ, List, [], ◌∷◌, ◌++◌, map, refl, ap}
use Rattle.trees.specs.Tree.{Tree}
use Rattle.tasks.specs.declared.declaration.Body.{Body}
use Rattle.tasks.specs.declared.declaration.Body.TheVariants.{TypeSymbol, Symbol, Defs, Inductives, Algebraics, Prop}
use Rattle.tasks.specs.declared.declaration.Def.{Def}
use Rattle.tasks.specs.declared.declaration.Ind.{Ind}
use Rattle.tasks.specs.declared.declaration.Con.{Con}
use Rattle.tasks.specs.declared.declaration.Alg.{Alg}
use Rattle.tasks.specs.Task.{DefinitionTree, InductiveTree, made_by, made_by_cons, made_by_types}
use Rattle.tasks.specs.Meaning.{definitions_at, inductives_at, cons_at, algebraics_at, body_at}
use Rattle.tasks.specs.Looking.{made_cons, made_types, made_in}

defs_are : (s : List Tree) (ds : List Def) → map (λ (d : Def). d.symbol) ds ≡ map (λ (d : DefinitionTree). d.symbol) (definitions_at s ds)
defs_are s [] = refl
defs_are s (d ∷ ds) = ap (λ l. d.symbol ∷ l) (defs_are s ds)

inductives_are : (s : List Tree) (is : List Ind) → map (λ (i : Ind). i.symbol) is ≡ map (λ (i : InductiveTree). i.symbol) (inductives_at s is)
inductives_are s [] = refl
inductives_are s (i ∷ is) = ap (λ l. i.symbol ∷ l) (inductives_are s is)

cons_are : (s : List Tree) (cs : List Con) → made_cons cs ≡ made_by_cons (cons_at s cs)
cons_are s [] = refl
cons_are s (c ∷ cs) = ap (λ l. (c.symbol ∷ c.projections) ++ l) (cons_are s cs)

types_are : (s : List Tree) (ts : List Alg) → made_types ts ≡ made_by_types (algebraics_at s ts)
types_are s [] = refl
types_are s (a ∷ ts) = cc (cons_are s a.cons, types_are s ts)

pub made_is : (b : Body) (s : List Tree) → made_in b ≡ made_by (body_at s b)
made_is (TypeSymbol k) s = refl
made_is (Symbol k) s = refl
made_is (Defs ds) s = defs_are s ds
made_is (Inductives is) s = inductives_are s is
made_is (Algebraics ts) s = types_are s ts
made_is (Prop a) s = refl
