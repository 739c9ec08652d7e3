-- What an expression gives before its types are known: its tree over unknowns, and what it notes.
-- Both are in preorder. A type variable below the number of the declaration's own stands for
-- itself; the others are the unknowns, numbered as they are taken (rank-1 polymorphism: a use of a
-- symbol takes fresh unknowns for its type variables).
use Rattle.std.specs.Prelude.{ℕ, suc, ℤ, pos, ◌+◌, Bool, true, false, cond, List, [], ◌∷◌, ◌++◌, map, reverse, replicate, length, Option, Some, None}
use Rattle.std.specs.Option.{option_map}
use Rattle.std.specs.Str.{bytes_eq}
use Rattle.trees.specs.Tree.{Tree, Leaf, One, Two, Three, HTyVar, HTyApp, HEnd, HCell, HBound, HNum, HFun, HPred, HEq, HTrue, HFalse, HNot, HJoin, HForall, HExists, HLet, HIf, HCase}
use Rattle.trees.specs.Sorts.{int_type}
use Rattle.trees.specs.Binding.{inst_types}
use Rattle.tasks.specs.Equations.{cells, type_variables}
use Rattle.tasks.specs.Typing.{members}
use Rattle.surface.specs.Lexeme.{Word}
use Rattle.name_resolution.specs.Abstract.{FieldName, TypeExpression, TypeExpressions, variable_type, composed_type, product_type, no_types, more_types, BoundNames, Expression, Expressions, MatchBranches, applied_expression, infix_expression, integer_expression, true_expression, false_expression, tuple_expression, cast_expression, field_expression, record_expression, not_expression, connected_expression, equality_expression, if_expression, let_expression, match_expression, quantified_expression, no_expressions, more_expressions, no_branches, more_branches, count_forms, count_expressions}
use Rattle.name_resolution.specs.Faults.{is_formula_trigger, token}
use Rattle.name_resolution.specs.Records.{record_named, places_named, put_at_places}
use Rattle.name_resolution.specs.Where.{Where, MeaningTree, place_of}
use Rattle.scopes.specs.declared.Referent.TheVariants as stands
use Rattle.open_types.specs.Patterns.{Notes, noted, no_notes, follow, taken, LocalTree, local, at_unknowns, result_or_int, first_or_int, rest_of, place_types, NumberedEntry, entry_of, Matched, alternatives_pieces, all_notes, first_variables, pattern_trees, arms}

-- ---- types
-- the type that a name with arguments stands for
abbrev pub applied_meaning : Option MeaningTree → List Tree → Tree
applied_meaning None ts = int_type
applied_meaning (Some (stands.Entry k)) ts = One (HTyApp k) (cells ts)
applied_meaning (Some (stands.Alias vars t)) ts = inst_types t ts

abbrev pub variable_at : Option ℕ → Tree
variable_at None = int_type
variable_at (Some j) = Leaf (HTyVar j)

-- a tuple's type is the result of its constructor
abbrev pub tuple_type : Where → ℕ → List Tree → Tree
tuple_type w n ts = inst_types (result_or_int (entry_of w.symbols (w.tuples n)).symbol.result) ts

abbrev mutual
  pub type_at : Where → TypeExpression → Tree
  type_at w (variable_type i v) = variable_at (place_of v w.vars)
  type_at w (composed_type i qs x fs) = applied_meaning (w.types qs x) (types_at w fs)
  type_at w (product_type i fs) = tuple_type w (count_forms fs) (types_at w fs)

  pub types_at : Where → TypeExpressions → List Tree
  types_at w no_types = []
  types_at w (more_types f fs) = type_at w f ∷ types_at w fs

-- of types in parentheses
abbrev pub group_type : Where → List Tree → Tree
group_type w (t ∷ []) = t
group_type w ts = tuple_type w (length ts) ts

-- ---- pieces
pub record NotedTree : Type 0 where
  pub tree : Tree
  pub notes : Notes

-- the type on the left is wanted, if a term is due
abbrev pub wanting : Tree → Option Tree → List (Tree × Tree)
wanting t None = []
wanting t (Some w) = (t, w) ∷ []

abbrev pub bare_piece : Tree → NotedTree
bare_piece e = record { tree = e; notes = no_notes }

abbrev pub piece_under : (Tree → Tree) → NotedTree → NotedTree
piece_under make p = record { tree = make p.tree; notes = p.notes }

abbrev pub both_pieces : (Tree → Tree → Tree) → NotedTree → NotedTree → NotedTree
both_pieces make a b = record { tree = make a.tree b.tree; notes = follow a.notes b.notes }

-- what a node notes before its parts
abbrev pub noted_before : Notes → NotedTree → NotedTree
noted_before n p = record { tree = p.tree; notes = follow n p.notes }

abbrev pub unknown : ℕ → Tree
unknown n = Leaf (HTyVar n)

-- the next unknown after a piece
abbrev pub unknown_after : ℕ → NotedTree → ℕ
unknown_after n p = n + taken p.notes

abbrev pub literal_piece : ℤ → Option Tree → NotedTree
literal_piece z t = noted_before (noted (wanting int_type t) []) (bare_piece (Leaf (HNum z)))

-- ---- names
-- what a name is used as
pub data Use : Type 0 where
  Local' : ℕ → Tree → Use
  Symbol' : NumberedEntry → Use

-- the place and type of a variable, the innermost first
abbrev pub variable_named : Word → List LocalTree → Option (ℕ × Tree)
variable_named x [] = None
variable_named x (l ∷ ls) = cond (bytes_eq l.name x) (Some (0, l.type))
    (option_map (λ (p : ℕ × Tree). (suc p.0, p.1)) (variable_named x ls))

abbrev pub found_local : List Word → Word → List LocalTree → Option (ℕ × Tree)
found_local [] x ls = variable_named x ls
found_local (q ∷ qs) x ls = None

abbrev pub use_or : Option (ℕ × Tree) → Use → Use
use_or None u = u
use_or (Some p) u = Local' p.0 p.1

abbrev pub use_of_name : Where → List LocalTree → List Word → Word → Use
use_of_name w ls qs x = use_or (found_local qs x ls) (Symbol' (entry_of w.symbols (w.names qs x)))

-- a field is no local variable
abbrev pub field_use : Where → List Word → Word → Use
field_use w qs x = Symbol' (entry_of w.symbols (w.names qs x))

abbrev pub tuple_use : Where → ℕ → Use
tuple_use w n = Symbol' (entry_of w.symbols (w.tuples n))

-- the constructor of the record to which fields belong
abbrev pub record_use : Where → List FieldName → Use
record_use w fs = Symbol' (entry_of w.symbols (Some (record_named w.symbols w.names fs)))

abbrev pub field_places : Where → List FieldName → List ℕ
field_places w fs = places_named w.symbols w.names (record_named w.symbols w.names fs) fs

abbrev pub use_vars : Use → ℕ
use_vars (Local' i t) = 0
use_vars (Symbol' e) = e.symbol.vars

-- the types that are wanted of the arguments
abbrev pub parameters : ℕ → Use → List Tree
parameters n (Local' i t) = []
parameters n (Symbol' e) = map (at_unknowns n e.symbol) e.symbol.args

-- a symbol at types, a term where a type is wanted of it
abbrev pub symbol_at_types : ℕ → List Tree → Option Tree → Tree → Tree
symbol_at_types k ts None args = Two (HPred k) (cells ts) args
symbol_at_types k ts (Some w) args = Three (HFun k) (cells ts) args w

abbrev pub local_piece : ℕ → Tree → Option Tree → NotedTree
local_piece i ty t = noted_before (noted (wanting ty t) []) (bare_piece (One (HBound i) ty))

abbrev pub used_piece : ℕ → Option Tree → ℕ → Use → NotedTree → NotedTree
used_piece n t i (Local' p ty) args = local_piece p ty t
used_piece n t i (Symbol' e) args =
    noted_before (noted (wanting (at_unknowns n e.symbol (result_or_int e.symbol.result)) t)
    (replicate e.symbol.vars i))
    (piece_under (symbol_at_types e.number (type_variables n e.symbol.vars) t) args)

-- The values of a record's fields, which are a list in the order in which they are written, in the
-- order of the fields. Where a field has no value it is 0, which no right source has.
abbrev pub values_placed : List ℕ → ℕ → Tree → Tree
values_placed places count values =
    cells (put_at_places places (members values) (replicate count (Leaf (HNum (pos 0)))))

-- ---- binders
-- each name with the unknown that it takes, from n on
abbrev pub untyped : ℕ → List Word → List LocalTree
untyped n [] = []
untyped n (x ∷ xs) = local x (unknown n) ∷ untyped (suc n) xs

abbrev pub locals_of_type : Tree → List Word → List LocalTree
locals_of_type t [] = []
locals_of_type t (x ∷ xs) = local x t ∷ locals_of_type t xs

abbrev pub binder_locals : Where → ℕ → List Word → Option TypeExpression → List LocalTree
binder_locals w n xs None = untyped n xs
binder_locals w n xs (Some f) = locals_of_type (type_at w f) xs

abbrev pub binder_vars : List Word → Option TypeExpression → ℕ
binder_vars xs None = length xs
binder_vars xs (Some f) = 0

-- how many unknowns binders take
abbrev pub binders_vars : List BoundNames → ℕ
binders_vars [] = 0
binders_vars (b ∷ bs) = binder_vars b.names b.of_type + binders_vars bs

-- the variables of binders in order
abbrev pub bound : Where → ℕ → List BoundNames → List LocalTree
bound w n [] = []
bound w n (b ∷ bs) =
    binder_locals w n b.names b.of_type ++ bound w (n + binder_vars b.names b.of_type) bs

abbrev pub quantified_tree : Bool → Tree → Tree → Tree
quantified_tree true t e = Two HForall t e
quantified_tree false t e = Two HExists t e

-- a formula under quantifiers, the first one outermost
abbrev pub quantify : Bool → List LocalTree → Tree → Tree
quantify all [] e = e
quantify all (l ∷ ls) e = quantified_tree all l.type (quantify all ls e)

abbrev pub equality : Bool → Tree → Tree → Tree
equality true a b = Two HEq a b
equality false a b = One HNot (Two HEq a b)

abbrev pub names : List LocalTree → List Word
names ls = map (λ (l : LocalTree). l.name) ls

-- ---- branches
-- the arms of branches in order, the patterns of all their alternatives, and what they note
pub record Arms : Type 0 where
  pub trees : List Tree
  pub patterns : List Tree
  pub notes : Notes

-- the alternatives of a branch and its body, before other branches
abbrev pub with_branch : List Matched → NotedTree → Arms → Arms
with_branch ms body rest = record {
  trees = arms body.tree ms ++ rest.trees;
  patterns = pattern_trees ms ++ rest.patterns;
  notes = follow (follow (all_notes ms) body.notes) rest.notes;
}

-- a `match` at a token, whose scrutinee takes an unknown
abbrev pub match_piece : ℕ → NotedTree → Arms → NotedTree
match_piece i subject rest = record {
  tree = Two HCase subject.tree (cells rest.trees);
  notes = follow (record { equations = []; takers = i ∷ []; matches = (i, rest.patterns) ∷ [] })
      (follow subject.notes rest.notes);
}

-- Under these variables, innermost first, with the next unknown n; a term of the type t is due, or
-- a formula. The unknown that is left open first, in the order in which they are taken, is the one
-- whose taker has the first type that is left open. A node's types are its wanted type and the
-- unknowns that it takes. A wanted type is an unknown that the parent takes, a type of a signature
-- at unknowns that the parent takes, the parent's own wanted type or a type of the source, and a
-- variable has the type of its binder. So each unknown in a type of a node was taken by that node
-- or by an earlier one.
abbrev mutual
  pub piece : Where → List LocalTree → ℕ → Option Tree → Expression → NotedTree
  piece w ls n t (applied_expression i qs x es) =
      let u = use_of_name w ls qs x in
      used_piece n t i u (pieces w ls (n + use_vars u) (parameters n u) es)
  piece w ls n t (infix_expression i x a b) =
      let u = use_of_name w ls [] x in
      let m = n + use_vars u in
      let left = piece w ls m (Some (first_or_int (parameters n u))) a in
      let right = piece w ls (unknown_after m left)
      (Some (first_or_int (rest_of (parameters n u)))) b in
      used_piece n t i u (both_pieces (Two HCell) left
      (both_pieces (Two HCell) right (bare_piece (Leaf HEnd))))
  piece w ls n t (integer_expression i z) = literal_piece z t
  piece w ls n t (true_expression i) = bare_piece (Leaf HTrue)
  piece w ls n t (false_expression i) = bare_piece (Leaf HFalse)
  piece w ls n t (tuple_expression i es) =
      let u = tuple_use w (count_expressions es) in
      used_piece n t i u (pieces w ls (n + use_vars u) (parameters n u) es)
  piece w ls n t (cast_expression i e f) =
      noted_before (noted (wanting (type_at w f) t) []) (piece w ls n (Some (type_at w f)) e)
  piece w ls n t (field_expression i e k qs x) =
      let u = field_use w qs x in
      used_piece n t i u (both_pieces (Two HCell)
      (piece w ls (n + use_vars u) (Some (first_or_int (parameters n u))) e)
      (bare_piece (Leaf HEnd)))
  piece w ls n t (record_expression i fs es) =
      let u = record_use w fs in
      let places = field_places w fs in
      let ts = parameters n u in
      used_piece n t i u (piece_under (values_placed places (length ts))
      (pieces w ls (n + use_vars u) (place_types places ts) es))
  piece w ls n t (not_expression i e) = piece_under (One HNot) (piece w ls n None e)
  piece w ls n t (connected_expression i a o b) =
      let left = piece w ls n None a in
      both_pieces (Two (HJoin o)) left (piece w ls (unknown_after n left) None b)
  piece w ls n t (equality_expression i same a b) =
      let left = piece w ls (n + 1) (Some (unknown n)) a in
      noted_before (noted [] (i ∷ []))
      (both_pieces (equality same) left
      (piece w ls (unknown_after (n + 1) left) (Some (unknown n)) b))
  piece w ls n t (if_expression i c a b) =
      let test = piece w ls n None c in
      let left = piece w ls (unknown_after n test) t a in
      let right = piece w ls (unknown_after (unknown_after n test) left) t b in
      both_pieces (λ x y. y) test (both_pieces (λ x y. Three HIf test.tree x y) left right)
  piece w ls n t (let_expression i x a b) =
      let value = piece w ls (n + 1) (Some (unknown n)) a in
      noted_before (noted [] (i ∷ []))
      (both_pieces (Two HLet) value
      (piece w (local x (unknown n) ∷ ls) (unknown_after (n + 1) value) t b))
  piece w ls n t (match_expression i is_let e bs) =
      let subject = piece w ls (n + 1) (Some (unknown n)) e in
      match_piece i subject (branches_arms w ls (unknown_after (n + 1) subject) (unknown n) t bs)
  piece w ls n t (quantified_expression i all bs gs b) =
      let inside = reverse (bound w n bs) ++ ls in
      let m = n + binders_vars bs in
      let triggers = triggers_notes w inside m gs in
      noted_before (noted [] (replicate (binders_vars bs) i))
      (piece_under (quantify all (bound w n bs))
      (noted_before triggers (piece w inside (m + taken triggers) None b)))

  -- of arguments, of which these types are wanted
  pub pieces : Where → List LocalTree → ℕ → List Tree → Expressions → NotedTree
  pieces w ls n ts no_expressions = bare_piece (Leaf HEnd)
  pieces w ls n ts (more_expressions e es) =
      let first = piece w ls n (Some (first_or_int ts)) e in
      both_pieces (Two HCell) first (pieces w ls (unknown_after n first) (rest_of ts) es)

  -- triggers are typed and dropped; one that is a term takes an unknown
  pub triggers_notes : Where → List LocalTree → ℕ → Expressions → Notes
  triggers_notes w ls n no_expressions = no_notes
  triggers_notes w ls n (more_expressions e es) =
      let one = cond (is_formula_trigger w (names ls) e) (piece w ls n None e)
      (noted_before (noted [] (token e ∷ [])) (piece w ls (n + 1) (Some (unknown n)) e)) in
      follow one.notes (triggers_notes w ls (unknown_after n one) es)

  -- of branches that take a type
  pub branches_arms : Where → List LocalTree → ℕ → Tree → Option Tree → MatchBranches → Arms
  branches_arms w ls n subject t no_branches =
      record { trees = []; patterns = []; notes = no_notes }
  branches_arms w ls n subject t (more_branches ps b bs) =
      let ms = alternatives_pieces w n subject ps in
      let m = n + taken (all_notes ms) in
      let body = piece w (reverse (first_variables ms) ++ ls) m t b in
      with_branch ms body (branches_arms w ls (unknown_after m body) subject t bs)

-- a use of an entry before operands
abbrev pub symbol_piece : Where → List LocalTree → ℕ → Option Tree → ℕ → NumberedEntry → Expressions
    → NotedTree
symbol_piece w ls n t i e es =
    used_piece n t i (Symbol' e)
    (pieces w ls (n + e.symbol.vars) (map (at_unknowns n e.symbol) e.symbol.args) es)

-- the type that is wanted of a trigger, if it is a term, and the notes of that
abbrev pub trigger_wanted : Where → List LocalTree → ℕ → Expression → Option Tree
trigger_wanted w ls n e = cond (is_formula_trigger w (names ls) e) None (Some (unknown n))

abbrev pub trigger_taken : Where → List LocalTree → Expression → Notes
trigger_taken w ls e = cond (is_formula_trigger w (names ls) e) no_notes (noted [] (token e ∷ []))
