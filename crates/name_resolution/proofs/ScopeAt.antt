-- What a name means is the same in the scopes of code, whose types have numbers of a store, and in those of definitions, whose types are trees.
use Rattle.std.proofs.Common.{◌≡◌, Bool, true, false, cond, List, [], ◌∷◌, ◌++◌, Option, Some, None, refl, ap, ◌∙◌}
use Rattle.std.specs.Prelude.{codes}
use Rattle.std.specs.Option.{option_map}
use Rattle.std.specs.Str.{bytes_eq}
use Rattle.tasks.specs.trees.Tree.{Tree}
use Rattle.surface.specs.Lexeme.{Word}
use Rattle.scopes.specs.declared.Referent.{Referent}
use Rattle.scopes.specs.declared.Referent.TheVariants as stands
use Rattle.scopes.specs.declared.Table.TheVariants.{Types, Symbols}
use Rattle.scopes.specs.Names.{NamesOf, ScopeNames, find_name, referent_with, names_with}
use Rattle.scopes.proofs.Mapped.{found_with, number_found_with}
use Rattle.name_resolution.specs.Naming.{symbol_named, or_int, type_named, type_tree_at, meaning_at, scope_at}

module _ {A B : Type 0} (f : A → B) where
  or_int_with : (qs : List Word) (x : Word) (m : Option (Referent A)) → or_int qs x (option_map (referent_with f) m) ≡ option_map (referent_with f) (or_int qs x m)
  or_int_with [] x None = of (bytes_eq x (codes "int"))
    where
      of : (b : Bool) → cond b (Some (stands.Entry 0)) None ≡ option_map (referent_with f) (cond b (Some (stands.Entry 0)) None)
      of true = refl
      of false = refl
  or_int_with [] x (Some t) = refl
  or_int_with (q ∷ qs) x m = refl

  pub types_with : (names : NamesOf A) (qs : List Word) (x : Word) → type_named (names_with f names) qs x ≡ option_map (referent_with f) (type_named names qs x)
  types_with names qs x = ap (or_int qs x) (found_with f names Types (qs ++ x ∷ [])) ∙ or_int_with qs x (find_name names Types (qs ++ x ∷ []))

  pub symbols_with : (names : NamesOf A) (qs : List Word) (x : Word) → symbol_named (names_with f names) qs x ≡ symbol_named names qs x
  symbols_with names qs x = number_found_with f names Symbols (qs ++ x ∷ [])

pub type_named_at : (s : List Tree) (names : ScopeNames) (qs : List Word) (x : Word) → type_named (scope_at s names) qs x ≡ option_map (meaning_at s) (type_named names qs x)
type_named_at s names qs x = types_with (type_tree_at s) names qs x

pub symbol_named_at : (s : List Tree) (names : ScopeNames) (qs : List Word) (x : Word) → symbol_named (scope_at s names) qs x ≡ symbol_named names qs x
symbol_named_at s names qs x = symbols_with (type_tree_at s) names qs x
