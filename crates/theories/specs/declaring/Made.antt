-- The names that a declaration made in a scope, as moves that bring them into others (Why3 manual,
-- "use and clone").
use Rattle.std.specs.Prelude.{List, [], ◌∷◌, ◌++◌, Option, Some, None, option_map}
use Rattle.elab_groups.specs.scopes.Names.{NamesOf, find_number, find_name}
use Rattle.elab_groups.specs.scopes.declared.Referent.{Referent}
use Rattle.elab_groups.specs.scopes.declared.Table.{Table}
use Rattle.elab_groups.specs.scopes.declared.Table.TheVariants.{Types, Symbols, Propositions, Scopes}
use Rattle.elab_groups.specs.scopes.declared.Referent.TheVariants as stands
use Rattle.surface.specs.Lexeme.{Word}
use Rattle.surface.specs.Declarations as source
use Rattle.elab_groups.specs.parts.Declarations.{Declaration, Made, makes, binds_names, made_names, declaration}
use Rattle.theory_states.specs.declared.moves.Move.{Move}
use Rattle.theory_states.specs.declared.moves.Move.TheVariants.{Brings}

-- what a name in a table stands for: in the table of types an entry or an alias, in another one a
-- number
abbrev pub thing_named : {A : Type 0} → NamesOf A → Table → Word → Option (Referent A)
thing_named names Types x = find_name names Types (x ∷ [])
thing_named names Symbols x = option_map stands.Entry (find_number names Symbols (x ∷ []))
thing_named names Propositions x = option_map stands.Entry (find_number names Propositions (x ∷ []))
thing_named names Scopes x = option_map stands.Entry (find_number names Scopes (x ∷ []))

abbrev pub brought_as : {A : Type 0} → Table → Word → Option (Referent A) → List (Move A)
brought_as table x None = []
brought_as table x (Some thing) = Brings table x thing ∷ []

-- the names that are made in tables, in reading order, each with what it stands for
abbrev pub moves_made : {A : Type 0} → NamesOf A → List Made → List (Move A)
moves_made names [] = []
moves_made names (makes table c ∷ ms) =
    brought_as table c.name (thing_named names table c.name) ++ moves_made names ms
moves_made names (binds_names cs ∷ ms) = moves_made names ms

-- those of a declaration of a source; a `use`, a `clone` and a `scope` make none here
abbrev pub moves_of : {A : Type 0} → NamesOf A → Option Declaration → List (Move A)
moves_of names None = []
moves_of names (Some d) = moves_made names (made_names d)

abbrev pub moves_declared : {A : Type 0} → NamesOf A → source.SyntaxDeclaration → List (Move A)
moves_declared names d = moves_of names (declaration d)
