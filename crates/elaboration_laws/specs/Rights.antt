-- A type on the right side of a clone's element, over a signature with the tuples that are seen in
-- it.
use Rattle.std.specs.Prelude.{List, ◌++◌, length}
use Rattle.elab_groups.specs.tasks.Task.{SymbolTree}
use Rattle.elab_groups.specs.tasks.Vocabulary.{Vocabulary}
use Rattle.elab_groups.specs.tasks.Valid.{IsTypeIn}
use Rattle.elab_groups.specs.surface.Lexeme.{Word}
use Rattle.elab_groups.specs.name_resolution.Abstract.{TypeExpression}
use Rattle.elab_groups.specs.name_resolution.variables.Seen.{form_seen}
use Rattle.elab_groups.specs.open_types.Pieces.{type_at}
use Rattle.elab_groups.specs.parts.Elaborated.{unseen}
use Rattle.elab_groups.specs.parts.Entries.{wanting_tuples}
use Rattle.elab_groups.specs.parts.Outcomes.{Setting, over}
use Rattle.elaboration_laws.specs.Signature.{with_entries}
use Rattle.elaboration_laws.specs.Scopes.{IsTypedSignature, AreTypedScopes}

abbrev pub with_tuples : Setting → TypeExpression → List SymbolTree
with_tuples c f = c.symbols ++ wanting_tuples c.symbols (form_seen unseen f).widths

-- it is a type over that signature, which is typed, as the scopes are over it
pub record IsTypedForm (base : Vocabulary) (c : Setting) (vars : List Word)
    (f : TypeExpression) : Type 0 where
  pub type : IsTypeIn (with_entries base (with_tuples c f)) (length vars)
      (type_at (over (with_tuples c f) c.scope vars) f)
  pub signature : IsTypedSignature base (with_tuples c f)
  pub scopes : AreTypedScopes (with_entries base (with_tuples c f)) c.scope
