-- When all that is known while a source is typed is typed over its signature.
use Rattle.std.specs.Prelude.{◌≡◌, false, All}
use Rattle.std.specs.Str.{bytes_eq}
use Rattle.elab_groups.specs.tasks.Vocabulary.{is_empty, of_signature}
use Rattle.elab_groups.specs.parts.Entries.{builtin}
use Rattle.elab_groups.specs.parts.Outcomes.{Setting}
use Rattle.elaboration_laws.specs.Scopes.{IsTypedSignature, AreTypedScopes}
use Rattle.elaboration_laws.specs.Moves.{AreTypedMoves}
use Rattle.elaboration_laws.specs.Built.{IsBuiltRight}
use Rattle.theory_states.specs.States.{KnownTree, StateTree}

-- where a declaration stands
abbrev pub state_setting : StateTree → Setting
state_setting c = record {
  theory = c.opened.path;
  within = c.opened.within;
  decl =
      c.number;
  symbols = c.symbols;
  scope = c.opened.scope;
}

-- the signature is typed, and so are the names that the theories before pass on
pub record AreTypedTheories (c : StateTree) : Type 0 where
  pub signature : IsTypedSignature (of_signature c.symbols) c.symbols
  pub built : IsBuiltRight c.symbols
  pub known : All (λ (t : KnownTree). AreTypedMoves (of_signature c.symbols) t.moves) c.known

-- and so are the names of the open theory, whose path isn't that of what is built in
pub record IsTypedState (c : StateTree) : Type 0 where
  pub theories : AreTypedTheories c
  pub theory : is_empty c.opened.path ≡ false
  pub source : bytes_eq c.opened.path builtin ≡ false
  pub scopes : AreTypedScopes (of_signature c.symbols) c.opened.scope
  pub moves : AreTypedMoves (of_signature c.symbols) c.opened.moves
