-- What the variables, equations and matches in code stand for, and what the walk asks for and
-- gives.
use Rattle.std.specs.Prelude.{◌≡◌, ℕ, length, Bool, true, false, List, [], ◌∷◌, ◌++◌, map, reverse, replicate, All, Option, Some, None, IfSome}
use Rattle.trees.specs.declared.TermId.{TermId}
use Rattle.trees.specs.declared.Sort.{Sort}
use Rattle.trees.specs.declared.Sort.TheVariants.{Kind, Term, Formula, Pattern, Branch}
use Rattle.trees.specs.declared.Sort.TheVariants as sorts
use Rattle.trees.specs.Tree.{Tree, Two, HCell, HArm, head_of}
use Rattle.trees.specs.Node.{tree_at, Holds}
use Rattle.trees.specs.Sorts.{sort_of, yield, IsList}
use Rattle.trees.specs.Binding.{change, inst_types}
use Rattle.tasks.specs.Meaning.{symbol_at, trees_at}
use Rattle.tasks.specs.Equations.{cells, type_variables}
use Rattle.tasks.specs.Task.{SymbolTree, int_symbol}
use Rattle.tasks.specs.declared.signature.SymbolInfo.{SymbolInfo}
use Rattle.open_types.specs.unify_types.Pairs.{HoldEquations, equations_at}
use Rattle.scopes.specs.Names.{TypeName}
use Rattle.scopes.specs.declared.Referent.TheVariants as stands
use Rattle.surface.specs.Lexeme.{Word}
use Rattle.name_resolution.specs.declared.world.World.{World}
use Rattle.name_resolution.specs.Abstract.{Expression, Expressions, MatchBranches, no_expressions, more_expressions, expression_of, expressions_of, field_values_of}
use Rattle.name_resolution.specs.Faults.{fault, faults, triggers_fault, branches_fault}
use Rattle.name_resolution.specs.Naming.{where_at, type_named}
use Rattle.open_types.specs.declared.draft.Constraints.{Constraints}
use Rattle.open_types.specs.declared.draft.MatchAt.{MatchAt}
use Rattle.open_types.specs.declared.locals.Local.{Local}
use Rattle.open_types.specs.declared.locals.Locals.{Locals, Outside, Inside'}
use Rattle.open_types.specs.declared.operands.Operands.{Operands}
use Rattle.open_types.specs.declared.operands.Operands.TheVariants.{Many, One, Two, Values}
use Rattle.open_types.specs.declared.patterns.Alternative.{Alternative}
use Rattle.open_types.specs.declared.patterns.Alternative.TheVariants.{First, Later}
use Rattle.open_types.specs.declared.patterns.LaterPattern.{LaterPattern}
use Rattle.open_types.specs.declared.patterns.Part.{Part}
use Rattle.open_types.specs.declared.patterns.BranchPatterns.{BranchPatterns}
use Rattle.name_resolution.specs.Records.{put_at_places}
use Rattle.open_types.specs.Patterns.{Notes, no_notes, Matched, PatternTree, pattern_tree, tree_of_matched, arms, pattern_trees, first_variables, all_notes, places_among, reordering, noted, follow, LocalTree, at_unknowns, result_or_int}
use Rattle.open_types.specs.Pieces.{NotedTree, Arms, wanting}
use Rattle.open_types.specs.Sizes.{sizes_of, values_size}

-- the number is held, of a type
pub record HoldsType (s : List Tree) (id : TermId) : Type 0 where
  pub held : Holds s id
  pub kind : sort_of (tree_at s id) ≡ Kind

-- ---- names and variables
abbrev pub MeaningHeld : List Tree → TypeName → Type 0
MeaningHeld s (stands.Entry k) = Unit {0}
MeaningHeld s (stands.Alias vars ty) = HoldsType s (record { 0 = ty })

pub record SymbolTyped (s : List Tree) (i : SymbolInfo) : Type 0 where
  pub args : All (HoldsType s) i.args
  pub result : IfSome i.result (HoldsType s)

pub record WorldHeld (s : List Tree) (w : World) : Type 0 where
  pub symbols : All (SymbolTyped s) w.symbols.now
  pub types : (qs : List Word) (x : Word) → IfSome (type_named w.scope.now qs x) (MeaningHeld s)

-- an entry that was looked up; where there is none it is that of `int`
abbrev pub symbol_got : List Tree → Option SymbolInfo → SymbolTree
symbol_got s None = int_symbol
symbol_got s (Some i) = symbol_at s i

abbrev pub local_at : List Tree → Local → LocalTree
local_at s l = record { name = l.name.now; type = tree_at s l.ty }

-- innermost first
abbrev pub locals_at : List Tree → Locals → List LocalTree
locals_at s Outside = []
locals_at s (Inside' ls p outer) = reverse (map (local_at s) ls.now) ++ locals_at s outer

abbrev pub LocalsHeld : List Tree → Locals → Type 0
LocalsHeld s Outside = Unit {0}
LocalsHeld s (Inside' ls p outer) =
    All (λ (l : Local). HoldsType s l.ty) ls.now × LocalsHeld s outer

abbrev pub local_name : Local → List ℕ
local_name l = l.name.now

-- the names of the variables, innermost first
abbrev pub names_of_locals : Locals → List (List ℕ)
names_of_locals Outside = []
names_of_locals (Inside' ls p outer) = reverse (map local_name ls.now) ++ names_of_locals outer

abbrev pub place_pair_at : List Tree → ℕ × TermId → ℕ × Tree
place_pair_at s p = (p.0, tree_at s p.1)

abbrev pub operands_at : Operands → Expressions
operands_at (Many es) = expressions_of es.now
operands_at (One e) = more_expressions (expression_of e.now) no_expressions
operands_at (Two a b) =
    more_expressions (expression_of a.now) (more_expressions (expression_of b.now) no_expressions)
operands_at (Values fs) = field_values_of fs.now

abbrev pub operands_size : Operands → ℕ
operands_size (Many es) = sizes_of es.now
operands_size (One e) = sizes_of (e.now ∷ [])
operands_size (Two a b) = sizes_of (a.now ∷ b.now ∷ [])
operands_size (Values fs) = values_size fs.now

-- ---- drafts
abbrev pub match_at : List Tree → MatchAt → ℕ × List Tree
match_at s m = (m.token, trees_at s m.patterns)

abbrev pub notes_at : List Tree → Constraints → Notes
notes_at s d = record {
  equations = equations_at s d.equations;
  takers = d.takers;
  matches =
      map (match_at s) d.matches;
}

abbrev pub MatchHeld : List Tree → MatchAt → Type 0
MatchHeld s m = All (Holds s) m.patterns

pub record IsReady (s : List Tree) (d : Constraints) : Type 0 where
  pub equations : HoldEquations s d.equations
  pub matches : All (MatchHeld s) d.matches

-- a node more, under which the draft stays
pub record IsMade (s : List Tree) (d : Constraints) (s' : List Tree) (e : Tree)
    (id : TermId) : Type 0 where
  pub held : Holds s' id
  pub tree : tree_at s' id ≡ e
  pub notes : notes_at s' d ≡ notes_at s d
  pub ready : IsReady s' d

-- these notes more
pub record IsNoted (s : List Tree) (d : Constraints) (s' : List Tree) (d' : Constraints)
    (more : Notes) : Type 0 where
  pub notes : notes_at s' d' ≡ follow (notes_at s d) more
  pub ready : IsReady s' d'

-- unknowns that a node takes, from the next one on
pub record IsTaken (s : List Tree) (d : Constraints) (s' : List Tree) (d' : Constraints)
    (token count : ℕ) (ids : List TermId) : Type 0 where
  pub held : All (HoldsType s') ids
  pub trees : trees_at s' ids ≡ type_variables (length d.takers) count
  pub noted : IsNoted s d s' d' (noted [] (replicate count token))

-- variables after others, so many of which take an unknown
pub record IsBound (s : List Tree) (d : Constraints) (ls : List Local) (s' : List Tree)
    (d' : Constraints) (ls' : List Local) (token count : ℕ) (more : List LocalTree) : Type 0 where
  pub held : All (λ (l : Local). HoldsType s' l.ty) ls'
  pub locals : map (local_at s') ls' ≡ map (local_at s) ls ++ more
  pub noted : IsNoted s d s' d' (noted [] (replicate count token))

-- ---- patterns
-- the variables of the first alternative, in a later one
abbrev pub earlier_variables : List Tree → Alternative → Option (List LocalTree)
earlier_variables s First = None
earlier_variables s (Later ls) = Some (map (local_at s) ls.now)

abbrev pub EarlierHeld : List Tree → Alternative → Type 0
EarlierHeld s First = Unit {0}
EarlierHeld s (Later ls) = All (λ (l : Local). HoldsType s l.ty) ls.now

-- variables after others, and notes
pub record AreBound (s : List Tree) (d : Constraints) (ls : List Local) (s' : List Tree)
    (d' : Constraints) (ls' : List Local) (notes : Notes) (more : List LocalTree) : Type 0 where
  pub held : All (λ (l : Local). HoldsType s' l.ty) ls'
  pub locals : map (local_at s') ls' ≡ map (local_at s) ls ++ more
  pub noted : IsNoted s d s' d' notes

-- what a walk of a pattern asks for
pub record CanMatch (s : List Tree) (d : Constraints) (w : World) (ls : List Local) (ty : TermId)
    (a : Alternative) : Type 0 where
  pub world : WorldHeld s w
  pub ready : IsReady s d
  pub held : All (λ (l : Local). HoldsType s l.ty) ls
  pub wanted : HoldsType s ty
  pub earlier : EarlierHeld s a

pub record CanMatchAll (s : List Tree) (d : Constraints) (w : World) (ls : List Local)
    (ts : List TermId) (a : Alternative) : Type 0 where
  pub world : WorldHeld s w
  pub ready : IsReady s d
  pub held : All (λ (l : Local). HoldsType s l.ty) ls
  pub wanted : All (HoldsType s) ts
  pub earlier : EarlierHeld s a

-- the number of the pattern's tree; its notes and variables after those that were there
pub record IsMatched (m : Matched) (s : List Tree) (d : Constraints) (ls : List Local)
    (s' : List Tree) (d' : Constraints) (ls' : List Local) (id : TermId) : Type 0 where
  pub held : Holds s' id
  pub tree : tree_at s' id ≡ m.tree
  pub sort : sort_of (tree_at s' id) ≡ Pattern
  pub bound : AreBound s d ls s' d' ls' m.notes m.variables

-- the number of the list of the patterns' trees; their notes and variables after those that were
-- there
pub record AreMatched (m : Matched) (s : List Tree) (d : Constraints) (ls : List Local)
    (s' : List Tree) (d' : Constraints) (ls' : List Local) (id : TermId) : Type 0 where
  pub held : Holds s' id
  pub tree : tree_at s' id ≡ m.tree
  pub patterns : IsList Pattern (tree_at s' id)
  pub bound : AreBound s d ls s' d' ls' m.notes m.variables

-- ---- the parts of a record
pub record HoldsPattern (s : List Tree) (id : TermId) : Type 0 where
  pub held : Holds s id
  pub sort : sort_of (tree_at s id) ≡ Pattern

abbrev pub part_at : List Tree → Part → PatternTree
part_at s p = pattern_tree (tree_at s p.pattern) (map (local_at s) p.variables)

pub record PartHeld (s : List Tree) (p : Part) : Type 0 where
  pub pattern : HoldsPattern s p.pattern
  pub variables : All (λ (l : Local). HoldsType s l.ty) p.variables

-- what a walk of the fields of a record asks for
pub record CanMatchFields (s : List Tree) (d : Constraints) (w : World) (parts : List Part)
    (ts : List TermId) (a : Alternative) : Type 0 where
  pub world : WorldHeld s w
  pub ready : IsReady s d
  pub held : All (PartHeld s) parts
  pub wanted : All (HoldsType s) ts
  pub earlier : EarlierHeld s a

-- patterns at their places among parts
pub record ArePut (places : List ℕ) (ms : List Matched) (s : List Tree) (d : Constraints)
    (parts : List Part) (s' : List Tree) (d' : Constraints) (parts' : List Part) : Type 0 where
  pub held : All (PartHeld s') parts'
  pub trees : map (part_at s') parts'
      ≡ put_at_places places (map tree_of_matched ms) (map (part_at s) parts)
  pub noted : IsNoted s d s' d' (all_notes ms)

-- the number of their list, and their variables after those that were there
pub record ArePartsJoined (p : PatternTree) (s : List Tree) (d : Constraints) (ls : List Local)
    (s' : List Tree) (ls' : List Local) (id : TermId) : Type 0 where
  pub held : Holds s' id
  pub tree : tree_at s' id ≡ p.tree
  pub patterns : IsList Pattern (tree_at s' id)
  pub bound : AreBound s d ls s' d ls' no_notes p.variables

-- a later alternative's pattern, and where the first one's variables are in it
abbrev pub later_at : List Tree → LaterPattern → Tree × List ℕ
later_at s l = (tree_at s l.pattern, l.places)

abbrev pub later_of : List LocalTree → Matched → Tree × List ℕ
later_of first m = (m.tree, places_among (reverse first) (reverse m.variables))

-- an arm of a later alternative
abbrev pub later_arm : Tree → Tree × List ℕ → Tree
later_arm body p = Two HArm p.0 (change (reordering p.1) 0 body)

abbrev pub LaterHeld : List Tree → LaterPattern → Type 0
LaterHeld s l = HoldsPattern s l.pattern

-- a later alternative, and later ones after others, whose first one has these variables
pub record IsLater (m : Matched) (first : List LocalTree) (s : List Tree) (d : Constraints)
    (s' : List Tree) (d' : Constraints) (l : LaterPattern) : Type 0 where
  pub held : LaterHeld s' l
  pub is : later_at s' l ≡ later_of first m
  pub noted : IsNoted s d s' d' m.notes

pub record AreLater (ms : List Matched) (first : List LocalTree) (s : List Tree) (d : Constraints)
    (ls : List LaterPattern) (s' : List Tree) (d' : Constraints)
    (ls' : List LaterPattern) : Type 0 where
  pub held : All (LaterHeld s') ls'
  pub are : map (later_at s') ls' ≡ map (later_at s) ls ++ map (later_of first) ms
  pub noted : IsNoted s d s' d' (all_notes ms)

-- the patterns of a branch; their numbers in order; and the arms that they make of a body
pub record PatternsHeld (s : List Tree) (b : BranchPatterns) : Type 0 where
  pub first : HoldsPattern s b.first
  pub later : All (LaterHeld s) b.later

abbrev pub branch_trees : List Tree → BranchPatterns → List Tree
branch_trees s b = tree_at s b.first ∷ map (λ (l : LaterPattern). tree_at s l.pattern) b.later

abbrev pub branch_arms : List Tree → BranchPatterns → Tree → List Tree
branch_arms s b body =
    Two HArm (tree_at s b.first) body ∷ map (later_arm body) (map (later_at s) b.later)

-- alternatives; the variables of the first one stand by themselves
pub record AreDraftedAlternatives (ms : List Matched) (s : List Tree) (d : Constraints)
    (s' : List Tree) (d' : Constraints) (ls : List Local) (b : BranchPatterns) : Type 0 where
  pub patterns : PatternsHeld s' b
  pub trees : branch_trees s' b ≡ pattern_trees ms
  pub arms : (body : Tree) → branch_arms s' b body ≡ arms body ms
  pub held : All (λ (l : Local). HoldsType s' l.ty) ls
  pub locals : map (local_at s') ls ≡ first_variables ms
  pub noted : IsNoted s d s' d' (all_notes ms)

-- types at types
abbrev pub instances : List Tree → List Tree → List Tree
instances types args = map (λ (t : Tree). inst_types t types) args

-- the unknowns of a use of an entry, and the equation of its result
pub record IsBegun (s : List Tree) (d : Constraints) (s' : List Tree) (d' : Constraints) (token : ℕ)
    (e : SymbolTree) (t : Option Tree) (ids : List TermId) : Type 0 where
  pub held : All (HoldsType s') ids
  pub trees : trees_at s' ids ≡ type_variables (length d.takers) e.vars
  pub noted : IsNoted s d s' d'
      (noted (wanting (at_unknowns (length d.takers) e (result_or_int e.result)) t)
      (replicate e.vars token))

-- ---- walks
-- the number of the piece's tree, and its notes after those that were there
pub record IsWalked (p : NotedTree) (k : Sort) (s : List Tree) (d : Constraints) (s' : List Tree)
    (d' : Constraints) (id : TermId) : Type 0 where
  pub held : Holds s' id
  pub tree : tree_at s' id ≡ p.tree
  pub sort : sort_of (tree_at s' id) ≡ k
  pub noted : IsNoted s d s' d' p.notes

-- the number of the list of the arguments' trees, and their notes after those that were there
pub record AreWalked (p : NotedTree) (s : List Tree) (d : Constraints) (s' : List Tree)
    (d' : Constraints) (id : TermId) : Type 0 where
  pub walked : IsWalked p sorts.List s d s' d' id
  pub terms : IsList Term (tree_at s' id)

-- whether a formula is due, and what is
abbrev pub is_due : Option TermId → Bool
is_due None = true
is_due (Some w) = false

abbrev pub due : Option TermId → Sort
due None = Formula
due (Some w) = Term

-- what every walk asks for
pub record IsSet (s : List Tree) (d : Constraints) (w : World) (ls : Locals) : Type 0 where
  pub world : WorldHeld s w
  pub locals : LocalsHeld s ls
  pub ready : IsReady s d

-- what a walk of an expression asks for
pub record CanWalk (s : List Tree) (d : Constraints) (w : World) (ls : Locals) (t : Option TermId)
    (e : Expression) : Type 0 where
  pub set : IsSet s d w ls
  pub wanted : IfSome t (HoldsType s)
  pub resolved : fault (where_at s w) false (names_of_locals ls) (is_due t) e ≡ None

-- what a walk of an entry's operands asks for
pub record CanUse (s : List Tree) (d : Constraints) (w : World) (ls : Locals) (t : Option TermId)
    (es : Expressions) : Type 0 where
  pub set : IsSet s d w ls
  pub wanted : IfSome t (HoldsType s)
  pub resolved : faults (where_at s w) false (names_of_locals ls) es ≡ None

-- what a walk of arguments asks for
pub record CanWalkAll (s : List Tree) (d : Constraints) (w : World) (ls : Locals) (ts : List TermId)
    (es : Expressions) : Type 0 where
  pub set : IsSet s d w ls
  pub wanted : All (HoldsType s) ts
  pub resolved : faults (where_at s w) false (names_of_locals ls) es ≡ None

-- what a walk of triggers asks for
pub record CanWalkTriggers (s : List Tree) (d : Constraints) (w : World) (ls : Locals)
    (es : Expressions) : Type 0 where
  pub set : IsSet s d w ls
  pub resolved : triggers_fault (where_at s w) false (names_of_locals ls) es ≡ None

-- what a walk of branches asks for, whose patterns have a type
pub record CanWalkBranches (s : List Tree) (d : Constraints) (w : World) (ls : Locals)
    (t : Option TermId) (id : TermId) (ps : List TermId) (bs : MatchBranches) : Type 0 where
  pub set : IsSet s d w ls
  pub wanted : IfSome t (HoldsType s)
  pub subject : HoldsType s id
  pub patterns : All (Holds s) ps
  pub resolved : branches_fault (where_at s w) false (names_of_locals ls) (is_due t) bs ≡ None

-- the number of the arms' list, whose bodies are of a sort; and the numbers of their patterns after
-- others
pub record AreArms (a : Arms) (k : Sort) (s : List Tree) (d : Constraints) (ps : List TermId)
    (s' : List Tree) (d' : Constraints) (ps' : List TermId) (id : TermId) : Type 0 where
  pub held : Holds s' id
  pub tree : tree_at s' id ≡ cells a.trees
  pub branches : IsList Branch (tree_at s' id)
  pub bodies : head_of (tree_at s' id) ≡ HCell → yield (tree_at s' id) ≡ k
  pub patterns : All (Holds s') ps'
  pub trees : trees_at s' ps' ≡ trees_at s ps ++ a.patterns
  pub noted : IsNoted s d s' d' a.notes
