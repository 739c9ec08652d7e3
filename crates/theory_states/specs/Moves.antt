-- The names that a theory passes on, as moves in a scope: a name is brought in, or a scope is
-- opened or left (Why3 manual, "use and clone").
use Rattle.std.specs.Prelude.{ℕ, false, nat_lt, if◌then◌else◌, List, [], ◌∷◌, length, Option, Some, None}
use Rattle.trees.specs.Tree.{Tree}
use Rattle.scopes.specs.Names.{NamesOf, with_name, with_scope, closed, referent_with}
use Rattle.surface.specs.declared.declarations.Link.{Link}
use Rattle.surface.specs.declared.declarations.Link.TheVariants.{Bare, Import, Export}
use Rattle.theory_states.specs.declared.moves.Move.{Move}
use Rattle.theory_states.specs.declared.moves.Move.TheVariants.{Brings, Opens, Closes}

-- in definitions the type of an alias is a tree
abbrev pub MoveTree : Type 0
MoveTree = Move Tree

-- the same move with another type
abbrev pub move_with : {A B : Type 0} → (A → B) → Move A → Move B
move_with f (Brings table x thing) = Brings table x (referent_with f thing)
move_with f (Opens x) = Opens x
move_with f Closes = Closes

-- the innermost scope is left, if it is in another one
abbrev pub left : {A : Type 0} → NamesOf A → NamesOf A
left names = if nat_lt 1 (length names.nested) then closed names else names

abbrev pub moved : {A : Type 0} → Move A → NamesOf A → NamesOf A
moved (Brings table x thing) names = with_name table x thing false names
moved (Opens x) names = with_scope x false names
moved Closes names = left names

-- each name is imported
abbrev pub replayed : {A : Type 0} → List (Move A) → NamesOf A → NamesOf A
replayed [] names = names
replayed (m ∷ ms) names = replayed ms (moved m names)

abbrev pub name_or : List ℕ → Option (List ℕ) → List ℕ
name_or x None = x
name_or x (Some y) = y

-- a scope of this name with the names
abbrev pub in_scope : {A : Type 0} → List ℕ → List (Move A) → NamesOf A → NamesOf A
in_scope x ms names = left (replayed ms (with_scope x false names))

-- `use T` makes the scope and imports, `use T as N` makes the scope alone, and `use export T` makes
-- none
abbrev pub brought : {A : Type 0} → Link → List ℕ → Option (List ℕ) → List (Move A) → NamesOf A
    → NamesOf A
brought Export last alias ms names = replayed ms names
brought Import last alias ms names = replayed ms (in_scope (name_or last alias) ms names)
brought Bare last (Some x) ms names = in_scope x ms names
brought Bare last None ms names = replayed ms (in_scope last ms names)

-- what is passed on
abbrev pub handed : {A : Type 0} → Link → List (Move A) → List (Move A)
handed Export ms = ms
handed Import ms = []
handed Bare ms = []
