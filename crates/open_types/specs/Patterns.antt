-- What a pattern gives before its types are known: its tree over unknowns, what it notes, and its
-- variables in order.
use Rattle.std.specs.Prelude.{ℕ, suc, ◌+◌, ◌-◌, nat_lt, cond, if◌then◌else◌, List, [], ◌∷◌, ◌++◌, map, reverse, replicate, length, get_or, Option, Some, None}
use Rattle.std.specs.Str.{bytes_eq}
use Rattle.trees.specs.Tree.{Tree, Leaf, One, Two, Three, HEnd, HCell, HArm, HPatAny, HPatVar, HPatCon, HPatAlias}
use Rattle.trees.specs.Sorts.{int_type}
use Rattle.trees.specs.Binding.{Change, change, Bound, Param, TyVar, inst_types}
use Rattle.tasks.specs.Task.{SymbolTree, symbol_or}
use Rattle.tasks.specs.Equations.{cells, type_variables}
use Rattle.surface.specs.Lexeme.{Word}
use Rattle.name_resolution.specs.Abstract.{Pattern, Patterns, wildcard_pattern, variable_pattern, constructor_pattern, tuple_pattern, alias_pattern, record_pattern, no_patterns, more_patterns, Alternatives, no_alternatives, more_alternatives, count_patterns}
use Rattle.name_resolution.specs.Records.{record_named, places_named, standing_at, put_at_places}
use Rattle.name_resolution.specs.Where.{Where}

-- what is noted in preorder beside the tree: the type equations; for each unknown the token of the
-- node that takes it; and the matches, each by its token with its patterns
pub record Notes : Type 0 where
  pub equations : List (Tree × Tree)
  pub takers : List ℕ
  pub matches : List (ℕ × List Tree)

abbrev pub noted : List (Tree × Tree) → List ℕ → Notes
noted es ts = record { equations = es; takers = ts; matches = [] }

abbrev pub no_notes : Notes
no_notes = noted [] []

-- a match with its patterns
abbrev pub with_match : ℕ → List Tree → Notes
with_match i ts = record { equations = []; takers = []; matches = (i, ts) ∷ [] }

abbrev pub follow : Notes → Notes → Notes
follow a b = record {
  equations = a.equations ++ b.equations;
  takers =
      a.takers ++ b.takers;
  matches = a.matches ++ b.matches;
}

-- the number of unknowns that are taken
abbrev pub taken : Notes → ℕ
taken a = length a.takers

-- a bound variable and its type
pub record LocalTree : Type 0 where
  pub name : Word
  pub type : Tree

abbrev pub local : Word → Tree → LocalTree
local x t = record { name = x; type = t }

-- ---- entries at unknowns
-- a type of an entry at unknowns from n on
abbrev pub at_unknowns : ℕ → SymbolTree → Tree → Tree
at_unknowns n e t = inst_types t (type_variables n e.vars)

abbrev pub result_or_int : Option Tree → Tree
result_or_int None = int_type
result_or_int (Some t) = t

abbrev pub first_or_int : List Tree → Tree
first_or_int [] = int_type
first_or_int (t ∷ ts) = t

abbrev pub rest_of : {A : Type 0} → List A → List A
rest_of [] = []
rest_of (t ∷ ts) = ts

-- an entry with its number
pub record NumberedEntry : Type 0 where
  pub number : ℕ
  pub symbol : SymbolTree

abbrev pub entry_of : List SymbolTree → Option ℕ → NumberedEntry
entry_of symbols None = record { number = 0; symbol = symbol_or symbols 0 }
entry_of symbols (Some k) = record { number = k; symbol = symbol_or symbols k }

-- ---- patterns
pub record Matched : Type 0 where
  pub tree : Tree
  pub notes : Notes
  pub variables : List LocalTree

abbrev pub matched_piece : Tree → Notes → List LocalTree → Matched
matched_piece t n vs = record { tree = t; notes = n; variables = vs }

abbrev pub all_notes : List Matched → Notes
all_notes [] = no_notes
all_notes (m ∷ ms) = follow m.notes (all_notes ms)

abbrev pub local_type : Word → List LocalTree → Tree
local_type x [] = int_type
local_type x (l ∷ ls) = cond (bytes_eq l.name x) l.type (local_type x ls)

-- a variable has the wanted type; in a later alternative its type is that of the first one's
abbrev pub variable_equations : Option (List LocalTree) → Word → Tree → List (Tree × Tree)
variable_equations None x t = []
variable_equations (Some first) x t = (local_type x first, t) ∷ []

-- a constructor that takes its types from n on, before its parts
abbrev pub constructed_by : ℕ → ℕ → Tree → NumberedEntry → Matched → Matched
constructed_by n i t c parts =
    matched_piece (Three (HPatCon c.number) (cells (type_variables n c.symbol.vars)) parts.tree t)
    (follow (noted ((at_unknowns n c.symbol (result_or_int c.symbol.result), t) ∷ [])
    (replicate c.symbol.vars i)) parts.notes) parts.variables

abbrev pub part_types : ℕ → NumberedEntry → List Tree
part_types n c = map (at_unknowns n c.symbol) c.symbol.args

-- ---- the parts of a record
-- these types at places
abbrev pub place_types : List ℕ → List Tree → List Tree
place_types places ts = standing_at int_type places ts

-- a pattern's tree with its variables
pub record PatternTree : Type 0 where
  pub tree : Tree
  pub variables : List LocalTree

abbrev pub pattern_tree : Tree → List LocalTree → PatternTree
pattern_tree e vs = record { tree = e; variables = vs }

abbrev pub tree_of_matched : Matched → PatternTree
tree_of_matched m = pattern_tree m.tree m.variables

abbrev pub beside : PatternTree → PatternTree → PatternTree
beside p q = pattern_tree (Two HCell p.tree q.tree) (p.variables ++ q.variables)

-- patterns side by side
abbrev pub side_by_side_trees : List PatternTree → PatternTree
side_by_side_trees [] = pattern_tree (Leaf HEnd) []
side_by_side_trees (p ∷ ps) = beside p (side_by_side_trees ps)

abbrev pub wildcard_tree : Tree → PatternTree
wildcard_tree t = pattern_tree (One HPatAny t) []

-- patterns at places among the fields of a record of these types; any other field is a wildcard
abbrev pub fields_tree : List ℕ → List Tree → List PatternTree → PatternTree
fields_tree places ts ps = side_by_side_trees (put_at_places places ps (map wildcard_tree ts))

-- What the patterns note is in the order in which they are written, and their variables are in that
-- of the fields.
abbrev pub fields_piece : List ℕ → List Tree → List Matched → Matched
fields_piece places ts ms =
    let whole = fields_tree places ts (map tree_of_matched ms) in
    matched_piece whole.tree (all_notes ms) whole.variables

-- Of a pattern that takes a type, with the next unknown n; `first` has the variables of the first
-- alternative, in a later one.
abbrev mutual
  pub pattern_piece : Where → Option (List LocalTree) → ℕ → Tree → Pattern → Matched
  pattern_piece w first n t (wildcard_pattern i) = matched_piece (One HPatAny t) no_notes []
  pattern_piece w first n t (variable_pattern i x) =
      matched_piece (One HPatVar t) (noted (variable_equations first x t) []) (local x t ∷ [])
  pattern_piece w first n t (constructor_pattern i qs x ps) =
      let c = entry_of w.symbols (w.names qs x) in
      constructed_by n i t c (patterns_piece w first (n + c.symbol.vars) (part_types n c) ps)
  pattern_piece w first n t (tuple_pattern i ps) =
      let c = entry_of w.symbols (w.tuples (count_patterns ps)) in
      constructed_by n i t c (patterns_piece w first (n + c.symbol.vars) (part_types n c) ps)
  pattern_piece w first n t (alias_pattern p i x) =
      let inner = pattern_piece w first n t p in
      matched_piece (One HPatAlias inner.tree)
      (follow inner.notes (noted (variable_equations first x t) []))
      (inner.variables ++ local x t ∷ [])
  pattern_piece w first n t (record_pattern i fs ps) =
      let k = record_named w.symbols w.names fs in
      let c = entry_of w.symbols (Some k) in
      let places = places_named w.symbols w.names k fs in
      constructed_by n i t c (fields_piece places (part_types n c)
      (part_pieces w first (n + c.symbol.vars) (place_types places (part_types n c)) ps))

  pub patterns_piece : Where → Option (List LocalTree) → ℕ → List Tree → Patterns → Matched
  patterns_piece w first n ts no_patterns = matched_piece (Leaf HEnd) no_notes []
  patterns_piece w first n ts (more_patterns p ps) =
      let one = pattern_piece w first n (first_or_int ts) p in
      let rest = patterns_piece w first (n + taken one.notes) (rest_of ts) ps in
      matched_piece (Two HCell one.tree rest.tree) (follow one.notes rest.notes)
      (one.variables ++ rest.variables)

  -- each by itself
  pub part_pieces : Where → Option (List LocalTree) → ℕ → List Tree → Patterns → List Matched
  part_pieces w first n ts no_patterns = []
  part_pieces w first n ts (more_patterns p ps) =
      let one = pattern_piece w first n (first_or_int ts) p in
      one ∷ part_pieces w first (n + taken one.notes) (rest_of ts) ps

-- a constructor's entry before its parts
abbrev pub constructor_piece : Where → Option (List LocalTree) → ℕ → Tree → ℕ → NumberedEntry
    → Patterns → Matched
constructor_piece w first n t i c ps =
    constructed_by n i t c (patterns_piece w first (n + c.symbol.vars) (part_types n c) ps)

-- ---- alternatives
-- the later ones
abbrev pub later_pieces : Where → List LocalTree → ℕ → Tree → Alternatives → List Matched
later_pieces w first n t no_alternatives = []
later_pieces w first n t (more_alternatives i p ps) =
    let one = pattern_piece w (Some first) n t p in
    one ∷ later_pieces w first (n + taken one.notes) t ps

abbrev pub alternatives_pieces : Where → ℕ → Tree → Alternatives → List Matched
alternatives_pieces w n t no_alternatives = []
alternatives_pieces w n t (more_alternatives i p ps) =
    let one = pattern_piece w None n t p in
    one ∷ later_pieces w one.variables (n + taken one.notes) t ps

-- the variables of the first alternative, which the body is under
abbrev pub first_variables : List Matched → List LocalTree
first_variables [] = []
first_variables (m ∷ ms) = m.variables

abbrev pub pattern_trees : List Matched → List Tree
pattern_trees ms = map (λ (m : Matched). m.tree) ms

-- the place of a variable among others, the innermost first
abbrev pub place_among : Word → List LocalTree → ℕ
place_among x [] = 0
place_among x (l ∷ ls) = cond (bytes_eq l.name x) 0 (suc (place_among x ls))

abbrev pub places_among : List LocalTree → List LocalTree → List ℕ
places_among [] others = []
places_among (v ∷ vs) others = place_among v.name others ∷ places_among vs others

-- `Bound (d + i)` becomes `Bound (d + p)` for the i-th of these places p
abbrev pub reordering : List ℕ → Change
reordering places = record {
  bound = λ d i ty. Bound (if nat_lt i d then i
      else (if nat_lt i (d + length places) then d + get_or places (i - d) 0 else i)) ty;
  param = λ d n ty. Param n ty;
  ty_var = λ j. TyVar j;
}

-- a body under the variables of the first alternative, with those of another in their order
abbrev pub reordered : List LocalTree → List LocalTree → Tree → Tree
reordered first later body =
    change (reordering (places_among (reverse first) (reverse later))) 0 body

abbrev pub later_arms : List LocalTree → Tree → List Matched → List Tree
later_arms first body [] = []
later_arms first body (m ∷ ms) =
    Two HArm m.tree (reordered first m.variables body) ∷ later_arms first body ms

abbrev pub arms : Tree → List Matched → List Tree
arms body [] = []
arms body (m ∷ ms) = Two HArm m.tree body ∷ later_arms m.variables body ms

-- a list's cells before another list
abbrev pub cells_onto : List Tree → Tree → Tree
cells_onto [] rest = rest
cells_onto (t ∷ ts) rest = Two HCell t (cells_onto ts rest)
