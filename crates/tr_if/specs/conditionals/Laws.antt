-- The laws of the crate, as statements.
use Rattle.std.specs.Prelude.{◌≡◌, ℕ, ◌≤◌, List, get_or, Some, None, false}
use Rattle.trees.specs.declared.Sort.TheVariants.{Formula}
use Rattle.trees.specs.Tree.{Tree, Two, Three, Head, HIf, HPred, HEq, size}
use Rattle.trees.specs.Sorts.{sort_of}
use Rattle.trees.specs.Binding.{inst_types, TyVar}
use Rattle.tasks.specs.Vocabulary.{Vocabulary}
use Rattle.evidence.specs.images.typing_laws.HasTyping.{HasTyping, IsTypeAt, KeepsTyping}
use Rattle.tr_if.specs.conditionals.Conditionals.{implications, first_if, replace_first, without_ifs, has_let_or_match}

-- a predicate or an equation
abbrev pub is_atom_head : Head → Type 0
is_atom_head (HPred p) = Unit {0}
is_atom_head HEq = Unit {0}
is_atom_head _ = ⊥

-- an atom whose first conditional is `if c then x else y` says that by cases: the atom with `x`
-- there where `c` holds, and with `y` there where it doesn't
abbrev pub FirstComesFirst : Type 0
FirstComesFirst =
    (v : Vocabulary) (types : List Tree) (h : Head) (a b c x y : Tree) → is_atom_head h
    → HasTyping v types (Two h a b) → first_if (Two h a b) ≡ Some (Three HIf c x y)
    → without_ifs (Two h a b)
    ≡ implications (without_ifs c) (without_ifs (replace_first (Two h a b) x))
    (without_ifs (replace_first (Two h a b) y))

-- an atom without conditionals stays
abbrev pub OthersStay : Type 0
OthersStay =
    (v : Vocabulary) (types : List Tree) (h : Head) (a b : Tree) → is_atom_head h
    → HasTyping v types (Two h a b) → first_if (Two h a b) ≡ None
    → has_let_or_match (Two h a b) ≡ false → without_ifs (Two h a b) ≡ Two h a b

-- a conditional formula becomes two implications
abbrev pub FormulasBecomeImplications : Type 0
FormulasBecomeImplications =
    (v : Vocabulary) (types : List Tree) (c a b : Tree) → HasTyping v types (Three HIf c a b)
    → sort_of a ≡ Formula
    → without_ifs (Three HIf c a b)
    ≡ implications (without_ifs c) (without_ifs a) (without_ifs b)

-- no formula has fewer nodes than it had
abbrev pub NodesGrow : Type 0
NodesGrow = (e : Tree) → size e ≤ size (without_ifs e)

-- what is made of a typed formula is typed alike, at types too
abbrev pub TypingIsKept : Type 0
TypingIsKept = (v : Vocabulary) (types : List Tree) (e : Tree) → HasTyping v types e
    → KeepsTyping v types e (without_ifs e)

abbrev pub CommutesWithPutTypes : Type 0
CommutesWithPutTypes =
    (v : Vocabulary) (ys : List Tree) → ((j : ℕ) → IsTypeAt v (get_or ys j (TyVar j)))
    → (types : List Tree) (e : Tree) → HasTyping v types e
    → without_ifs (inst_types e ys) ≡ inst_types (without_ifs e) ys
