-- Groups that are spelled out: in the place of a group of definitions or of inductive predicates
-- stand its symbols, without what defines them, and then formulas that say of them what the group
-- does, as propositions. Each of these declarations has the group's theory and name, and counts the
-- type variables of its symbol.
use Rattle.std.specs.Prelude.{◌≡◌, ℕ, List, [], ◌∷◌, ◌++◌, map, All, Option, Some, None, IsTrue}
use Rattle.trees.specs.Tree.{Tree}
use Rattle.tasks.specs.Task.{SymbolTree, symbol_or, BodyTree, Makes, Defines, Induces, Says, DeclarationTree, made_by}
use Rattle.tasks.specs.Facts.{FactTree, body_facts}
use Rattle.tasks.specs.Vocabulary.{Vocabulary}
use Rattle.tasks.specs.Valid.{IsFormulaOver, IsValidBody}
use Rattle.declarations.specs.Rewritten.{DeclarationRule, AreUsable}
use Rattle.declarations.specs.Said.{Sayings, own_said}

-- What a group says, where it is to be spelled out: its formulas, each with the name of the fact of
-- the group from which it follows. A body that stays gives none.
abbrev pub GroupFacts : Type 0
GroupFacts = List SymbolTree → BodyTree → Option (List FactTree)

abbrev pub as_symbol : List SymbolTree → DeclarationTree → ℕ → DeclarationTree
as_symbol symbols d k =
    record { theory = d.theory; name = d.name; vars = (symbol_or symbols k).vars; body = Makes k }

abbrev pub as_proposition : DeclarationTree → FactTree → DeclarationTree
as_proposition d f =
    record { theory = d.theory; name = d.name; vars = f.vars; body = Says f.formula }

-- a group's symbols, and then what it says
abbrev pub spelled_out : List SymbolTree → DeclarationTree → List FactTree → List DeclarationTree
spelled_out symbols d fs = map (as_symbol symbols d) (made_by d.body) ++ map (as_proposition d) fs

abbrev pub in_place : List SymbolTree → DeclarationTree → Option (List FactTree)
    → List DeclarationTree
in_place symbols d None = d ∷ []
in_place symbols d (Some fs) = spelled_out symbols d fs

abbrev pub spelling_rule : GroupFacts → DeclarationRule
spelling_rule f symbols d = in_place symbols d (f symbols d.body)

abbrev pub said_of : ℕ → DeclarationTree → Option (List FactTree) → List FactTree
said_of n d None = own_said n d d.body
said_of n d (Some fs) = fs

-- what the propositions in the place of a declaration say
abbrev pub spelling_said : GroupFacts → Sayings
spelling_said f symbols n d = said_of n d (f symbols d.body)

-- what may be spelled out
abbrev pub IsSpellable : BodyTree → Type 0
IsSpellable (Defines ds) = Unit {0}
IsSpellable (Induces is) = Unit {0}
IsSpellable _ = ⊥

-- a closed formula over a vocabulary, with its type variables
abbrev pub IsSayable : Vocabulary → FactTree → Type 0
IsSayable v f = IsFormulaOver v [] f.vars f.formula

-- a proposition whose formula is small, or no proposition
abbrev pub SaysSmall : (Tree → Type 0) → BodyTree → Type 0
SaysSmall Small (Says a) = Small a
SaysSmall Small _ = Unit {0}

-- the constructors of patterns may be named
abbrev pub PatternsAreUsable : Vocabulary → Type 0
PatternsAreUsable v = (k : ℕ) → IsTrue (v.matched k) → IsTrue (v.usable k)

-- Only definitions and inductive predicates are spelled out, and what they say are formulas
-- wherever the group is valid and they are small.
pub record IsSpelling (Small : Tree → Type 0) (f : GroupFacts) : Type 0 where
  pub only : (symbols : List SymbolTree) (b : BodyTree) (fs : List FactTree) → f symbols b ≡ Some fs
      → IsSpellable b
  pub valid : (v : Vocabulary) (vars : ℕ) (b : BodyTree) (fs : List FactTree) → PatternsAreUsable v
      → AreUsable v (made_by b) → IsValidBody v vars b → f v.symbols b ≡ Some fs
      → All (λ (x : FactTree). Small x.formula) fs → All (IsSayable v) fs

-- what a group says is its facts themselves, in their order
abbrev pub SaysFacts : GroupFacts → Type 0
SaysFacts f = (symbols : List SymbolTree) (n vars : ℕ) (b : BodyTree) (fs : List FactTree)
    → f symbols b ≡ Some fs → fs ≡ body_facts symbols n vars b
