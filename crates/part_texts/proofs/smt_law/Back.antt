-- What a reader makes of an S-expression: the tree that it was printed of.
use Rattle.std.proofs.Common.{ℕ, ℤ, pos, negsuc, zero, suc, ◌-◌, ◌==◌, ◌&&◌, ◌||◌, not, Bool, true, false, if◌then◌else◌, List, [], ◌∷◌, ◌++◌, length, get_or, drop, slice_get, codes, Option, Some, None, bytes_eq, option_map}
use Rattle.std.specs.List.{position_or_len}
use Rattle.std.specs.Str.Parse.{digits_value}
use Rattle.tasks.specs.trees.declared.Sort.{Sort}
use Rattle.tasks.specs.trees.declared.Sort.TheVariants.{Formula}
use Rattle.tasks.specs.trees.declared.Op.TheVariants.{And, Or, Imp, Iff}
use Rattle.tasks.specs.trees.Tree.{Tree, Leaf, One, Two, Three, HTyRigid, HTyApp, HEnd, HBound, HParam, HNum, HFun, HPred, HEq, HTrue, HFalse, HNot, HJoin, HForall, HExists, HLet, HIf}
use Rattle.tasks.specs.trees.Sorts.{sort_of, type_of}
use Rattle.tasks.specs.trees.Binding.{inst_types}
use Rattle.tasks.specs.declared.signature.SymbolKind.{SymbolKind}
use Rattle.tasks.specs.declared.signature.SymbolKind.TheVariants.{Predicate}
use Rattle.tasks.specs.Task.{SymbolTree, symbol_or}
use Rattle.tasks.specs.Typing.{members, option_list}
use Rattle.tasks.specs.Equations.{cells}
use Rattle.linear_leaf.specs.Valuations.{same_tree}
use Rattle.name_tables.specs.declared.name_entries.names.NameOf.{NameOf}
use Rattle.name_tables.specs.declared.name_entries.names.NameOf.TheVariants.{Rigid}
use Rattle.name_tables.specs.declared.name_entries.names.NameEntry.{NameEntry}
use Rattle.name_tables.specs.Occurrences.{Occurrence, whole_occurrence}
use Rattle.name_tables.specs.Tables.{occurrence_place}
use Rattle.printed_problems.specs.Templates.{has_template}
use Rattle.part_texts.specs.smt_law.s_expressions.Sexps.{Sexp, SexpWord, Group, Nothing, Then}
use Rattle.part_texts.specs.smt_law.Plain.{begins_number, is_local, syntax_words, is_reserved, is_type, arity}
use Rattle.part_texts.specs.smt_law.Reading.{tree_as_read}
use Rattle.part_texts.proofs.smt_law.Forms.{Known, word_of}

-- ---- words
pub data Role : Type 0 where
  Number : Role
  Local : Role
  Syntax : ℕ → Role
  Free : Role

abbrev pub role : List ℕ → Role
role w = if begins_number w then Number else (if is_local w then Local else (if is_reserved w then Syntax (position_or_len (bytes_eq w) syntax_words) else Free))

abbrev pub negative : ℕ → ℤ
negative zero = pos 0
negative (suc n) = negsuc n

abbrev pub integer_of : List ℕ → ℤ
integer_of [] = pos 0
integer_of (b ∷ bs) = if b == 45 then negative (digits_value 10 bs) else pos (digits_value 10 (b ∷ bs))

-- ---- the things of the table
abbrev pub first_where : (Occurrence → Bool) → List Occurrence → Occurrence
first_where test [] = whole_occurrence 0
first_where test (o ∷ os) = if test o then o else first_where test os

-- where a template is for symbols without type variables, it is at no types
abbrev pub at_none : Known → Occurrence → Bool
at_none c o = not (has_template c.printing.driver o.symbol) || same_tree o.types (Leaf HEnd)

abbrev pub is_called : Known → List ℕ → Occurrence → Bool
is_called c w o = bytes_eq w (word_of c o) && at_none c o

abbrev pub is_type_called : Known → List ℕ → Occurrence → Bool
is_type_called c w o = is_type c.vocabulary.symbols o.symbol && is_called c w o

abbrev pub is_symbol_called : Known → List ℕ → ℕ → Occurrence → Bool
is_symbol_called c w n o = not (is_type c.vocabulary.symbols o.symbol) && ((arity c.vocabulary.symbols o.symbol == n) && is_called c w o)

abbrev pub is_rigid_name : NameOf → Bool
is_rigid_name (Rigid k) = true
is_rigid_name _ = false

abbrev pub is_rigid_entry : Option NameEntry → Bool
is_rigid_entry None = false
is_rigid_entry (Some e) = is_rigid_name e.symbol

abbrev pub is_rigid : Known → Occurrence → Bool
is_rigid c o = is_rigid_entry (slice_get c.printing.names (occurrence_place c.printing.things o))

abbrev pub type_at : Known → Occurrence → Tree
type_at c o = if is_rigid c o then Leaf (HTyRigid o.symbol) else One (HTyApp o.symbol) o.types

abbrev pub type_called : Known → List ℕ → Tree
type_called c w = type_at c (first_where (is_type_called c w) c.printing.things)

abbrev pub or_end : Option Tree → Tree
or_end None = Leaf HEnd
or_end (Some e) = e

abbrev pub is_predicate : SymbolKind → Bool
is_predicate Predicate = true
is_predicate _ = false

abbrev pub made_by : SymbolTree → Occurrence → List Tree → Tree
made_by e o args =
    if is_predicate e.kind then Two (HPred o.symbol) (tree_as_read o.types) (cells args)
    else Three (HFun o.symbol) (tree_as_read o.types) (cells args) (tree_as_read (or_end (option_map (λ r. inst_types r (members o.types)) e.result)))

abbrev pub made : Known → Occurrence → List Tree → Tree
made c o args = made_by (symbol_or c.vocabulary.symbols o.symbol) o args

abbrev pub symbol_tree : Known → List ℕ → List Tree → Tree
symbol_tree c w args = made c (first_where (is_symbol_called c w (length args)) c.printing.things) args

-- ---- equations
abbrev pub is_formula_sort : Sort → Bool
is_formula_sort Formula = true
is_formula_sort _ = false

abbrev pub is_formula : Tree → Bool
is_formula e = is_formula_sort (sort_of e)

abbrev pub is_equality_word : Known → List ℕ → Bool
is_equality_word c w = bytes_eq w (codes "=") || bytes_eq w c.words.of_equality

abbrev pub equation : Tree → Tree → Tree
equation a b = if is_formula a then Two (HJoin Iff) a b else Two HEq a b

-- a word that is none of the syntax, on arguments
abbrev pub free_tree : Known → List ℕ → List Tree → Tree
free_tree c w (a ∷ b ∷ []) = if is_equality_word c w then equation a b else symbol_tree c w (a ∷ b ∷ [])
free_tree c w args = symbol_tree c w args

-- ---- words alone
abbrev pub local_tree : Known → List ℕ → List Tree → Tree
local_tree c [] types = Leaf HEnd
local_tree c (b ∷ bs) types =
    if b == 99 then One (HParam (digits_value 10 bs)) (tree_as_read (get_or c.params (digits_value 10 bs) (Leaf HEnd)))
    else One (HBound (length types - suc (digits_value 10 bs))) (get_or types (length types - suc (digits_value 10 bs)) (Leaf HEnd))

abbrev pub word_tree : Known → List ℕ → List Tree → Role → Tree
word_tree c w types Number = Leaf (HNum (integer_of w))
word_tree c w types Local = local_tree c w types
word_tree c w types (Syntax n) = if n == 0 then Leaf HTrue else Leaf HFalse
word_tree c w types Free = symbol_tree c w []

-- ---- groups
-- the expression, or the members of a list, under binders of these types
pub record Back : Type 0 where
  pub one : List Tree → Tree
  pub list : List Tree → List Tree

abbrev pub nth : List Tree → ℕ → Tree
nth es n = get_or es n (Leaf HEnd)

-- the sort of a binder's variable
abbrev pub bound_word : Sexp → List ℕ
bound_word (Then head (Then (Group (Then (Group (Then x (Then (SexpWord w) rest))) more)) body)) = w
bound_word _ = []

abbrev pub let_tree : Tree → List Tree → (List Tree → List Tree) → Tree
let_tree value types inner = Two HLet value (nth (inner (option_list (type_of value) ++ types)) 2)

abbrev pub syntax_tree : Known → ℕ → Sexp → List Tree → (List Tree → List Tree) → Tree
syntax_tree c n s types inner =
    if n == 2 then One HNot (nth (inner types) 1)
    else (if n == 3 then Two (HJoin And) (nth (inner types) 1) (nth (inner types) 2)
    else (if n == 4 then Two (HJoin Or) (nth (inner types) 1) (nth (inner types) 2)
    else (if n == 5 then Two (HJoin Imp) (nth (inner types) 1) (nth (inner types) 2)
    else (if n == 6 then Three HIf (nth (inner types) 1) (nth (inner types) 2) (nth (inner types) 3)
    else (if n == 7 then let_tree (nth (inner types) 1) types inner
    else (if n == 8 then Two HForall (tree_as_read (type_called c (bound_word s))) (nth (inner (tree_as_read (type_called c (bound_word s)) ∷ types)) 2)
    else Two HExists (tree_as_read (type_called c (bound_word s))) (nth (inner (tree_as_read (type_called c (bound_word s)) ∷ types)) 2)))))))

-- by the role of the first word; a binding is read as its value
abbrev pub group_tree : Known → List ℕ → Sexp → List Tree → (List Tree → List Tree) → Role → Tree
group_tree c w s types inner Number = Leaf HEnd
group_tree c w s types inner Local = nth (inner types) 1
group_tree c w s types inner (Syntax n) = syntax_tree c n s types inner
group_tree c w s types inner Free = free_tree c w (drop 1 (inner types))

-- a list of bindings is read as its first
abbrev pub members_tree : Known → Sexp → List Tree → (List Tree → List Tree) → Tree
members_tree c (Then (SexpWord w) rest) types inner = group_tree c w (Then (SexpWord w) rest) types inner (role w)
members_tree c _ types inner = nth (inner types) 0

abbrev pub back : Known → Sexp → Back
back c (SexpWord w) = record { one = λ types. word_tree c w types (role w); list = λ types. [] }
back c (Group s) = record { one = λ types. members_tree c s types (back c s).list; list = λ types. [] }
back c Nothing = record { one = λ types. Leaf HEnd; list = λ types. [] }
back c (Then a rest) = record { one = λ types. Leaf HEnd; list = λ types. (back c a).one types ∷ (back c rest).list types }
