-- The names of what groups say, by places.
use Rattle.std.proofs.Common.{◌≡◌, ℕ, ◌<◌, Bool, false, if◌then◌else◌, zero, suc, List, [], ◌∷◌, map, length, get_or, slice_get, Some, None, refl, ap, ◌∙◌, arith}
use Rattle.trees.specs.Tree.{Tree}
use Rattle.tasks.specs.declared.declaration.Def.{Def}
use Rattle.tasks.specs.declared.declaration.Body.{Body}
use Rattle.tasks.specs.declared.declaration.Body.TheVariants.{TypeSymbol, Symbol, Defs, Inductives, Algebraics, Prop}
use Rattle.tasks.specs.declared.facts.Fact.TheVariants.{Equation}
use Rattle.tasks.specs.Task.{SymbolTree, DeclarationTree}
use Rattle.tasks.specs.Facts.{equation_fact}
use Rattle.tasks.specs.Looking.{fact_name}
use Rattle.tasks.specs.Meaning.{definitions_at, body_at}
use Rattle.checks.specs.recursive_groups.Groups.{is_recursive}
use Rattle.declarations.specs.spelled_groups.Groups.{definition_facts}
use Rattle.declarations.specs.Said.{own_said}
use Rattle.declarations.specs.spelled_groups.Spelled.{said_of}

pub defs_at : (s : List Tree) (symbols : List SymbolTree) (defs : List Def) (k : ℕ) (e : Def) → k < length defs → slice_get (map fact_name (map (equation_fact symbols) (definitions_at s defs))) k ≡ Some (Equation (get_or defs k e).symbol)
defs_at s symbols [] k e l = absurd (omega arith)
defs_at s symbols (x ∷ xs) zero e l = refl
defs_at s symbols (x ∷ xs) (suc k) e l = defs_at s symbols xs k e (omega arith)

pub defs_said : (s : List Tree) (symbols : List SymbolTree) (n : ℕ) (d : DeclarationTree) (b : Body) (defs : List Def) → b ≡ Defs defs → is_recursive (definitions_at s defs) ≡ false
    → map fact_name (said_of n d (definition_facts symbols (body_at s b))) ≡ map fact_name (map (equation_fact symbols) (definitions_at s defs))
defs_said s symbols n d b defs e r =
    ap (λ (z : Body). map fact_name (said_of n d (definition_facts symbols (body_at s z)))) e
    ∙ ap (λ (z : Bool). map fact_name (said_of n d (if z then None else Some (map (equation_fact symbols) (definitions_at s defs))))) r

pub defs_long : (s : List Tree) (symbols : List SymbolTree) (defs : List Def) → length (map fact_name (map (equation_fact symbols) (definitions_at s defs))) ≡ length defs
defs_long s symbols [] = refl
defs_long s symbols (x ∷ xs) = omega (arith, defs_long s symbols xs)

-- what stays says what it says itself
pub others_stay : (s : List Tree) (symbols : List SymbolTree) (n : ℕ) (d : DeclarationTree) (b : Body) → ((defs : List Def) → b ≡ Defs defs → ⊥) → said_of n d (definition_facts symbols (body_at s b)) ≡ own_said n d d.body
others_stay s symbols n d (Defs defs) h = absurd (h defs refl)
others_stay s symbols n d (TypeSymbol k) h = refl
others_stay s symbols n d (Symbol k) h = refl
others_stay s symbols n d (Inductives is) h = refl
others_stay s symbols n d (Algebraics ts) h = refl
others_stay s symbols n d (Prop a) h = refl
