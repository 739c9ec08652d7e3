-- What propositions of rewritten declarations say, each with the name of the fact of the old task
-- from which it follows.
use Rattle.std.specs.Prelude.{◌≡◌, ℕ, ◌+◌, List, [], ◌∷◌, ◌++◌, map, length, slice_get, Contains, Some}
use Rattle.tasks.specs.declared.facts.Fact.{Fact}
use Rattle.tasks.specs.Task.{SymbolTree, BodyTree, Says, DeclarationTree, TaskTree, PropositionTree, props_of}
use Rattle.tasks.specs.Facts.{FactTree, said_in, body_facts}
use Rattle.declarations.specs.declared.rule.FactSearch.{FactSearch}
use Rattle.declarations.specs.declared.rule.FactSearch.TheVariants.{Here, After}
use Rattle.declarations.specs.Rewritten.{DeclarationRule}

-- what the propositions in the place of a declaration say, where so many propositions are before it
abbrev pub Sayings : Type 0
Sayings = List SymbolTree → ℕ → DeclarationTree → List FactTree

abbrev pub said_from : Sayings → List SymbolTree → ℕ → List DeclarationTree → List FactTree
said_from w symbols n [] = []
said_from w symbols n (d ∷ ds) = w symbols n d ++ said_from w symbols (n + said_in d.body) ds

-- in the order of the new task's propositions
abbrev pub all_said : Sayings → TaskTree → List FactTree
all_said w t = said_from w t.symbols 0 t.decls

abbrev pub content : FactTree → PropositionTree
content f = record { vars = f.vars; formula = f.formula }

-- the propositions of what is put in the place of a declaration say this
abbrev pub AreSaid : DeclarationRule → Sayings → Type 0
AreSaid g w = (symbols : List SymbolTree) (n : ℕ) (d : DeclarationTree)
    → props_of (g symbols d) ≡ map content (w symbols n d)

-- they are facts of the declaration themselves
abbrev pub AreOwnFacts : Sayings → Type 0
AreOwnFacts w = (symbols : List SymbolTree) (n : ℕ) (d : DeclarationTree) (f : FactTree)
    → Contains (w symbols n d) f → Contains (body_facts symbols n d.vars d.body) f

-- what a declaration that stays says
abbrev pub own_said : ℕ → DeclarationTree → BodyTree → List FactTree
own_said n d (Says a) = body_facts [] n d.vars (Says a)
own_said n d _ = []

-- a name that is looked for in a list of names is there, or so many are left after them
abbrev pub IsFactSearch : List Fact → ℕ → FactSearch → Type 0
IsFactSearch names k (Here name) = slice_get names k ≡ Some name
IsFactSearch names k (After left) = length names + left ≡ k
