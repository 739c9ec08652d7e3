-- Names, and the table of a small task.
use Rattle.std.specs.Prelude.{◌≡◌, List, [], ◌∷◌, codes, refl, Option, Some, None}
use Rattle.trees.specs.Tree.{Tree, Leaf, One, Two, Three, HTyVar, HTyApp, HTyRigid, HEnd, HCell, HFun, HEq}
use Rattle.tasks.specs.declared.signature.SymbolKind.TheVariants.{Kind, Constructor}
use Rattle.tasks.specs.Task.{SymbolTree, int_symbol, DeclarationTree, MakesType, Makes, TaskTree}
use Rattle.name_tables.specs.declared.name_entries.names.NameOf.TheVariants.{Int, Rigid, Symbol}
use Rattle.name_tables.specs.declared.name_entries.names.NameEntry.{NameEntry}
use Rattle.name_tables.specs.Spelling.{own_name, clean, name_at_place}
use Rattle.name_tables.specs.Occurrences.{Occurrence, occurrence, whole_occurrence}
use Rattle.name_tables.specs.Tables.{problem_things, task_things, problem_names}

prefix_name : clean (codes "-_") ≡ codes "prefix_minus"
prefix_name = refl

plus_name : clean (codes "++") ≡ codes "infix_plus_plus"
plus_name = refl

first_name : clean (codes "_Foo") ≡ codes "u_Foo"
first_name = refl

projection_name : clean (own_name (codes "S.Cons'1")) ≡ codes "consq1"
projection_name = refl

variable_name : clean (own_name (codes "'a")) ≡ codes "qa"
variable_name = refl

-- `type list 'a`, `function nil : list 'a`, and the goal `nil = nil` at lists of the goal's type
-- variable
abbrev list_of : Tree → Tree
list_of type = One (HTyApp 2) (Two HCell type (Leaf HEnd))

abbrev mine : Tree
mine = Leaf (HTyRigid 1)

abbrev nil : Tree
nil = Three (HFun 3) (Two HCell mine (Leaf HEnd)) (Leaf HEnd) (list_of mine)

abbrev variable : SymbolTree
variable =
    record { theory = []; name = codes "'a"; kind = Kind; vars = 0; args = []; result = None }

abbrev list : SymbolTree
list = record {
  theory = codes "T";
  name = codes "list";
  kind = Kind;
  vars = 1;
  args =
      [];
  result = None;
}

abbrev empty : SymbolTree
empty = record {
  theory = codes "T";
  name = codes "S.Nil";
  kind = Constructor;
  vars = 1;
  args =
      [];
  result = Some (list_of (Leaf (HTyVar 0)));
}

abbrev made_list : DeclarationTree
made_list = record { theory = codes "T"; name = codes "list"; vars = 1; body = MakesType 2 }

abbrev made_nil : DeclarationTree
made_nil = record { theory = codes "T"; name = codes "S.Nil"; vars = 1; body = Makes 3 }

abbrev task : TaskTree
task = record {
  symbols = int_symbol ∷ variable ∷ list ∷ empty ∷ [];
  ints = None;
  rigid =
      1 ∷ [];
  decls = made_list ∷ made_nil ∷ [];
  params = [];
  locals = [];
  goal = Two HEq nil nil;
}

problem_has : problem_things task
    ≡ whole_occurrence 0 ∷ whole_occurrence 1 ∷ occurrence 2 (Two HCell mine (Leaf HEnd))
    ∷ occurrence 3 (Two HCell mine (Leaf HEnd)) ∷ []
problem_has = refl

task_has : task_things task ≡ whole_occurrence 0 ∷ whole_occurrence 1 ∷ whole_occurrence 2
    ∷ whole_occurrence 3 ∷ []
task_has = refl

problem_table : problem_names task ≡
    record { name = name_at_place (codes "int") 0; symbol = Int; types = [] }
    ∷ record { name = name_at_place (codes "'a") 1; symbol = Rigid 1; types = [] }
    ∷ record { name = name_at_place (codes "list") 2; symbol = Symbol 2; types = 1 ∷ [] }
    ∷ record { name = name_at_place (codes "Nil") 3; symbol = Symbol 3; types = 1 ∷ [] } ∷ []
problem_table = refl
