-- The laws of the crate, as statements.
use Rattle.std.specs.Prelude.{◌⊎◌}
use Rattle.trees.specs.declared.Sort.TheVariants.{Term}
use Rattle.trees.specs.Tree.{Tree}
use Rattle.trees.specs.Sorts.{sort_of, IsExpression, IsList, WellSorted}
use Rattle.tasks.specs.Vocabulary.{Vocabulary}
use Rattle.declarations.specs.Rewritten.{KeepsMade, KeepsValid}
use Rattle.declarations.specs.Within.{NamesAll, MatchesNone}
use Rattle.tr_algebraic.specs.algebraic_forms.Groups.{algebraic_rule}
use Rattle.tr_algebraic.specs.algebraic_forms.NoMatch.{HasNoMatch, IsMatchFree}

-- what is put in the place of a declaration makes the same symbols in the same order, those of
-- algebraic types as nothing more than symbols
abbrev pub AlgebraicTypesKeepMade : Type 0
AlgebraicTypesKeepMade = KeepsMade algebraic_rule

-- and it is valid where the declaration is, over any vocabulary that names as much, whatever
-- patterns may name there
abbrev pub AlgebraicTypesStayValid : Type 0
AlgebraicTypesStayValid =
    (v w : Vocabulary) → NamesAll v w → KeepsValid IsMatchFree algebraic_rule v w

-- an expression without a `match` has no pattern's constructor in it
abbrev pub NoMatchMatchesNone : Type 0
NoMatchMatchesNone = (e : Tree) → WellSorted e → IsExpression (sort_of e) ⊎ IsList Term e
    → HasNoMatch e → MatchesNone e
