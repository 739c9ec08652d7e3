-- Which instances of a polymorphic formula are wanted (Why3 manual, "discriminate").
use Rattle.std.specs.Prelude.{ℕ, ◌+◌, zero, suc, ◌==◌, Bool, true, ◌&&◌, ◌||◌, not, if◌then◌else◌, List, [], ◌∷◌, map, filter}
use Rattle.std.specs.List.{flat_map, list_any}
use Rattle.tasks.specs.trees.Tree.{Tree, above_ty_vars}
use Rattle.tasks.specs.trees.Sorts.{int_type}
use Rattle.tasks.specs.trees.Binding.{inst_types}
use Rattle.tasks.specs.Task.{PropositionTree}
use Rattle.name_tables.specs.Occurrences.{Occurrence}
use Rattle.name_tables.specs.Seen.{has, with_all}
use Rattle.tr_discriminate.specs.wanted_instances.Instances.{inner_instances, at_types, types_of, has_variable, mentions}

-- whether a test holds of each number below n
abbrev pub each_below : ℕ → (ℕ → Bool) → Bool
each_below zero p = true
each_below (suc n) p = each_below n p && p n

-- whether these instances mention each type variable, of so many, that is in a formula
abbrev pub mention_all : ℕ → Tree → List Occurrence → Bool
mention_all n a os = each_below n (λ j. not (has_variable j a) || list_any (mentions j) os)

-- whether it is one of a symbol, and not of `=`
abbrev pub is_of_symbol : Occurrence → Bool
is_of_symbol o = not (o.symbol == 0)

-- the instances in a formula, each once
abbrev pub occurring : Tree → List Occurrence
occurring a = with_all [] (inner_instances a)

abbrev pub of_symbols : Tree → List Occurrence
of_symbols a = filter is_of_symbol (occurring a)

-- whether those of symbols mention all its type variables
abbrev pub named_suffice : Tree → Bool
named_suffice a = mention_all (above_ty_vars a) a (of_symbols a)

-- Those that ask for instances of the formula: those of symbols, if they mention all its type
-- variables, else all.
abbrev pub driving : Tree → List Occurrence
driving a = if named_suffice a then of_symbols a else occurring a

-- the driving ones whose instances at these types are in a set mention each type variable
abbrev pub is_wanted : List Occurrence → Tree → List Tree → Bool
is_wanted s a ys = mention_all (above_ty_vars a) a (filter (λ o. has s (at_types ys o)) (driving a))

-- Types for type variables from a number on: each that is in the formula has one of these, in their
-- order, the first variable first. Others, which a declaration counts without need, have `int`.
abbrev pub type_choices : List Tree → Tree → ℕ → List Tree
type_choices types a j = if has_variable j a then types else int_type ∷ []

abbrev pub assignments : List Tree → Tree → ℕ → ℕ → List (List Tree)
assignments types a from zero = [] ∷ []
assignments types a from (suc n) =
    flat_map (λ ty. map (λ ys. ty ∷ ys) (assignments types a (from + 1) n))
    (type_choices types a from)

-- the wanted ones of all assignments of the types of these instances to a proposition's type
-- variables
abbrev pub wanted_types : List Occurrence → PropositionTree → List (List Tree)
wanted_types s p = filter (is_wanted s p.formula) (assignments (types_of s) p.formula 0 p.vars)

abbrev pub wanted_formulas : List Occurrence → PropositionTree → List Tree
wanted_formulas s p = map (inst_types p.formula) (wanted_types s p)
