-- What names mean where further entries are made for the tuples of a declaration: types and formulas without a fault of names.
use Rattle.std.proofs.Common.{◌≡◌, ℕ, ◌+◌, ◌<◌, true, false, List, [], ◌++◌, length, None, refl, sym, ap, subst, ◌∙◌, arith}
use Rattle.std.proofs.Math.ListN.{length-map}
use Rattle.tasks.specs.trees.Tree.{Tree}
use Rattle.tasks.specs.trees.Node.{Grows}
use Rattle.tasks.specs.trees.Facts.{TyVarsBelow}
use Rattle.tasks.specs.Task.{SymbolTree}
use Rattle.tasks.specs.Meaning.{symbol_at, symbols_at}
use Rattle.tasks.specs.declared.signature.Signature.{Signature}
use Rattle.scopes.specs.Names.{ScopeNames}
use Rattle.surface.specs.Lexeme.{Word}
use Rattle.name_resolution.specs.Abstract.{TypeExpression, Expression}
use Rattle.name_resolution.specs.Faults.{form_fault, fault}
use Rattle.name_resolution.specs.variables.Seen.{seen}
use Rattle.name_resolution.proofs.variables.Closing.{closed}
use Rattle.open_types.specs.Pieces.{type_at}
use Rattle.open_types.specs.Scoped.{IsScoped}
use Rattle.open_types.proofs.Below.{form_below}
use Rattle.elab_groups.specs.parts.Alike.{AreScopesAlike}
use Rattle.name_resolution.specs.Naming.{scope_at}
use Rattle.elab_groups.specs.parts.Elaborated.{unseen}
use Rattle.elab_groups.specs.parts.Entries.{IsSignature, IsExtended, AreScopes}
use Rattle.elab_groups.specs.parts.Outcomes.{over}
use Rattle.elab_groups.proofs.parts.Alike.{form_alike, alike}
use Rattle.elab_groups.proofs.parts.Scopes.{scoped_at, scopes_grow, alike_more, tuples_below}
use Rattle.elab_groups.proofs.parts.Overs.{some_entry, over_stays}
use Rattle.elab_groups.proofs.parts.Keeping.{length_extended}

module _ (s s1 : List Tree) (grows : Grows s s1) (a b : Signature) (more : List SymbolTree) (names : ScopeNames) (sig : IsSignature s a.symbols) (scopes : AreScopes s (length a.symbols) names) (ext : IsExtended s a s1 b more) where
  -- over a store that grew
  pub over_extended : (vars : List Word) → over (symbols_at s1 b.symbols) (scope_at s1 names) vars ≡ over (symbols_at s a.symbols ++ more) (scope_at s names) vars
  over_extended vars =
      ap (λ (es : List SymbolTree). over es (scope_at s1 names) vars) ext.symbols ∙ over_stays s s1 grows (length a.symbols) (symbols_at s a.symbols ++ more) names vars scopes

  counted : length (symbols_at s a.symbols) ≡ length a.symbols
  counted = length-map a.symbols (symbol_at s)

  pub alike_extended : (vars : List Word) → AreScopesAlike (over (symbols_at s a.symbols) (scope_at s names) vars) (over (symbols_at s a.symbols ++ more) (scope_at s names) vars)
  alike_extended vars =
      let p : 0 < length a.symbols = some_entry s a.symbols sig in
      alike_more s (symbols_at s a.symbols) more names (scope_at s names) vars (subst (λ (n : ℕ). AreScopes s n names) (sym counted) scopes) (omega (arith, counted)) (λ qs x. refl) (λ qs x. refl)

  pub scopes_extended : AreScopes s1 (length b.symbols) names
  scopes_extended = let l : length b.symbols ≡ length a.symbols + length more = length_extended more ext in scopes_grow s s1 grows (length a.symbols) (length b.symbols) (omega (arith, l)) names scopes

  pub scoped_extended : (vars : List Word) → IsScoped (over (symbols_at s a.symbols ++ more) (scope_at s names) vars)
  scoped_extended vars = subst IsScoped (over_extended vars) (record {
    symbols = ext.signature.scoped;
    types = λ qs x. scoped_at s1 (length b.symbols) names scopes_extended (some_entry s1 b.symbols ext.signature) qs x;
    tuples = tuples_below (symbols_at s1 b.symbols) ext.signature.int;
  })

  -- a type has the declaration's type variables alone
  pub form_within : (vars : List Word) (f : TypeExpression) → form_fault (over (symbols_at s a.symbols) (scope_at s names) vars) false f ≡ None → TyVarsBelow (length vars) (type_at (over (symbols_at s a.symbols ++ more) (scope_at s names) vars) f)
  form_within vars f h =
      let w = over (symbols_at s a.symbols) (scope_at s names) vars in
      let v = over (symbols_at s a.symbols ++ more) (scope_at s names) vars in
      form_below v (scoped_extended vars) f (sym (form_alike w v (alike_extended vars).forms false f) ∙ h)

  -- the names of a formula are there with the list of type variables closed
  pub formula_resolved : (e : Expression) → fault (over (symbols_at s a.symbols) (scope_at s names) []) true [] true e ≡ None
      → fault (over (symbols_at s a.symbols ++ more) (scope_at s names) (seen unseen e).vars) false [] true e ≡ None
  formula_resolved e h =
      let vs = (seen unseen e).vars in
      let w = over (symbols_at s a.symbols) (scope_at s names) vs in
      let v = over (symbols_at s a.symbols ++ more) (scope_at s names) vs in
      sym (alike w v (alike_extended vs) e false [] true) ∙ closed (over (symbols_at s a.symbols) (scope_at s names) []) vs e unseen [] true h (λ u k. k)
