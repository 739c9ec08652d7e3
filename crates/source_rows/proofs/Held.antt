-- The entries of a signature are held, and scopes stay well kept where one is opened.
use Rattle.std.proofs.Common.{ℕ, Bool, List, [], ◌∷◌, length}
use Rattle.std.specs.List.{All}
use Rattle.std.proofs.lemmas.List.Elements.{All-nil, All-cons, All-append}
use Rattle.tasks.specs.trees.Tree.{Tree}
use Rattle.elab_groups.specs.scopes.declared.Table.TheVariants.{Scopes}
use Rattle.elab_groups.specs.scopes.declared.Referent.TheVariants as stands
use Rattle.elab_groups.specs.scopes.Names.{ScopeNames, ScopeEntry, with_entry, with_scope}
use Rattle.surface.specs.Lexeme.{Word}
use Rattle.elab_groups.specs.parts.Entries.{IsEntry, AreScopes}
use Rattle.elab_groups.proofs.parts.Scopes.{scopes_more}
pub use Rattle.theories.proofs.Ending.{symbols_held}

pub opened_scopes : (s : List Tree) (n : ℕ) (x : Word) (d : Bool) (names : ScopeNames) → AreScopes s n names → AreScopes s n (with_scope x d names)
opened_scopes s n x d names h =
    let P : List ScopeEntry → Type 0 = λ (es : List ScopeEntry). All (IsEntry s n) es in
    let own = with_entry Scopes x (length names.entries) d names in
    All-append P own.entries ([] ∷ []) (scopes_more s n names Scopes x (stands.Entry (length names.entries)) d tt h) (All-cons P [] [] (All-nil (IsEntry s n)) (All-nil P))
