-- What lines make, on a list at int, by a table of whole symbols and by one of the same symbols at int.
use Rattle.std.specs.Prelude.{◌≡◌, pos, List, [], ◌∷◌, codes, refl, Some, None}
use Rattle.tasks.specs.trees.Tree.{Tree, Leaf, One, Two, Three, HTyVar, HTyApp, HEnd, HFun, HPred, HNum, HPatVar, HPatCon, HCase, HArm}
use Rattle.tasks.specs.declared.signature.SymbolKind.TheVariants.{Kind, Constructor, Predicate}
use Rattle.tasks.specs.Task.{SymbolTree, int_symbol, TaskTree}
use Rattle.step_writing.specs.name_tables.declared.name_entries.names.NameOf.TheVariants.{Int, Symbol}
use Rattle.step_writing.specs.name_tables.declared.name_entries.names.NameEntry.{NameEntry}
use Rattle.step_lines.specs.tree_lines.Named.{cells, meaning}
use Rattle.step_lines.specs.tree_lines.Lines.{Earlier, type_of_line, pattern_of_line, expression_of_line}

abbrev int : Tree
int = One (HTyApp 0) (Leaf HEnd)

abbrev list_of : Tree → Tree
list_of type = One (HTyApp 1) (cells (type ∷ []))

abbrev variable : Tree
variable = Leaf (HTyVar 0)

abbrev symbol_list : SymbolTree
symbol_list = record { theory = []; name = codes "list"; kind = Kind; vars = 1; args = []; result = None }

abbrev symbol_nil : SymbolTree
symbol_nil = record { theory = []; name = codes "Nil"; kind = Constructor; vars = 1; args = []; result = Some (list_of variable) }

abbrev symbol_cons : SymbolTree
symbol_cons = record { theory = []; name = codes "Cons"; kind = Constructor; vars = 1; args = variable ∷ list_of variable ∷ []; result = Some (list_of variable) }

abbrev symbol_mem : SymbolTree
symbol_mem = record { theory = []; name = codes "mem"; kind = Predicate; vars = 1; args = variable ∷ list_of variable ∷ []; result = None }

abbrev task : TaskTree
task = record { symbols = int_symbol ∷ symbol_list ∷ symbol_nil ∷ symbol_cons ∷ symbol_mem ∷ []; ints = None; rigid = []; decls = []; params = []; locals = []; goal = Leaf HEnd }

abbrev at_int : List NameEntry
at_int = record { name = codes "int_0"; symbol = Int; types = [] } ∷ record { name = codes "list_1"; symbol = Symbol 1; types = 0 ∷ [] } ∷ record { name = codes "nil_2"; symbol = Symbol 2; types = 0 ∷ [] } ∷ record { name = codes "cons_3"; symbol = Symbol 3; types = 0 ∷ [] } ∷ record { name = codes "mem_4"; symbol = Symbol 4; types = 0 ∷ [] } ∷ record { name = codes "lists_5"; symbol = Symbol 1; types = 1 ∷ [] } ∷ record { name = codes "lost_6"; symbol = Symbol 1; types = 6 ∷ [] } ∷ []

abbrev whole : List NameEntry
whole = record { name = codes "int_0"; symbol = Int; types = [] } ∷ record { name = codes "list_1"; symbol = Symbol 1; types = [] } ∷ record { name = codes "nil_2"; symbol = Symbol 2; types = [] } ∷ record { name = codes "cons_3"; symbol = Symbol 3; types = [] } ∷ record { name = codes "mem_4"; symbol = Symbol 4; types = [] } ∷ []

abbrev nil : Tree
nil = Three (HFun 2) (cells (int ∷ [])) (Leaf HEnd) (list_of int)

abbrev one : Tree
one = Leaf (HNum (pos 1))

abbrev before : Earlier
before = record { types = int ∷ list_of int ∷ []; patterns = One HPatVar int ∷ One HPatVar (list_of int) ∷ []; expressions = one ∷ nil ∷ [] }

type_at_int : type_of_line task at_int before (codes "list_1" ∷ []) ≡ Some (list_of int)
type_at_int = refl

type_whole : type_of_line task whole before (codes "list_1" ∷ codes "0" ∷ []) ≡ Some (list_of int)
type_whole = refl

type_twice : type_of_line task at_int before (codes "lists_5" ∷ []) ≡ Some (list_of (list_of int))
type_twice = refl

-- an entry that is reached from itself stands for no type
type_lost : meaning at_int (codes "lost_6") ≡ None
type_lost = refl

nil_at_int : expression_of_line task at_int before (codes "sym" ∷ codes "nil_2" ∷ []) ≡ Some nil
nil_at_int = refl

nil_whole : expression_of_line task whole before (codes "sym" ∷ codes "nil_2" ∷ codes "0" ∷ []) ≡ Some nil
nil_whole = refl

cons_whole : expression_of_line task whole before (codes "sym" ∷ codes "cons_3" ∷ codes "0" ∷ codes "0" ∷ codes "1" ∷ []) ≡ Some (Three (HFun 3) (cells (int ∷ [])) (cells (one ∷ nil ∷ [])) (list_of int))
cons_whole = refl

-- too few arguments make a tree that isn't well typed
cons_short : expression_of_line task whole before (codes "sym" ∷ codes "cons_3" ∷ codes "0" ∷ codes "0" ∷ []) ≡ Some (Three (HFun 3) (cells (int ∷ [])) (cells (one ∷ [])) (list_of int))
cons_short = refl

mem_at_int : expression_of_line task at_int before (codes "sym" ∷ codes "mem_4" ∷ codes "0" ∷ codes "1" ∷ []) ≡ Some (Two (HPred 4) (cells (int ∷ [])) (cells (one ∷ nil ∷ [])))
mem_at_int = refl

pattern_whole : pattern_of_line task whole before (codes "con" ∷ codes "cons_3" ∷ codes "0" ∷ codes "0" ∷ codes "1" ∷ []) ≡ Some (Three (HPatCon 3) (cells (int ∷ [])) (cells (One HPatVar int ∷ One HPatVar (list_of int) ∷ [])) (list_of int))
pattern_whole = refl

no_such_line : expression_of_line task whole before (codes "eq" ∷ codes "0" ∷ codes "2" ∷ []) ≡ None
no_such_line = refl

match_line : expression_of_line task whole before (codes "match" ∷ codes "1" ∷ codes "1" ∷ codes "0" ∷ []) ≡ Some (Two HCase nil (cells (Two HArm (One HPatVar (list_of int)) one ∷ [])))
match_line = refl
