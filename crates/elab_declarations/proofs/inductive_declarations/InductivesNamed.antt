-- What names mean among the predicates of a group.
use Rattle.std.proofs.Common.{◌≡◌, ℕ, ◌+◌, ◌≤◌, true, List, [], ◌∷◌, length, suc, refl, ap, ◌∙◌, arith}
use Rattle.tasks.specs.trees.Tree.{Tree}
use Rattle.name_resolution.specs.scopes.declared.Table.TheVariants.{Symbols, Propositions}
use Rattle.name_resolution.specs.scopes.declared.Referent.TheVariants as stands
use Rattle.name_resolution.specs.scopes.Names.{NamesOf, ScopeNames, with_name, with_entry, names_with}
use Rattle.surface.specs.Lexeme.{Word}
use Rattle.name_resolution.specs.Naming.{type_named}
use Rattle.elab_groups.specs.parts.Declarations.{InductiveClause, InductivePredicate}
use Rattle.elab_groups.specs.parts.Entries.{AreScopes}
use Rattle.elab_groups.proofs.parts.AtScope.{entered_with}
use Rattle.elab_groups.proofs.parts.Scopes.{types_past, scopes_more}
use Rattle.elab_declarations.specs.inductive_declarations.Inductives.{with_clauses, with_inductives}

-- ---- no type is hidden
clauses_types : {A : Type 0} (n : ℕ) (cs : List InductiveClause) (names : NamesOf A) (qs : List Word) (x : Word) → type_named (with_clauses n cs names) qs x ≡ type_named names qs x
clauses_types n [] names qs x = refl
clauses_types n (c ∷ cs) names qs x =
    clauses_types n cs (with_name Propositions c.called.name (stands.Entry n) true names) qs x ∙ types_past Propositions refl c.called.name (stands.Entry n) true names refl qs x

pub inductives_types : {A : Type 0} (n k : ℕ) (ds : List InductivePredicate) (names : NamesOf A) (qs : List Word) (x : Word) → type_named (with_inductives n k ds names) qs x ≡ type_named names qs x
inductives_types n k [] names qs x = refl
inductives_types n k (d ∷ ds) names qs x =
    let own = with_name Symbols d.called.name (stands.Entry k) true names in
    inductives_types n (suc k) ds (with_clauses n d.clauses own) qs x ∙ (clauses_types n d.clauses own qs x ∙ types_past Symbols refl d.called.name (stands.Entry k) true names refl qs x)

-- ---- in the scopes of definitions
module _ {A B : Type 0} (f : A → B) where
  clauses_with : (n : ℕ) (cs : List InductiveClause) (names : NamesOf A) → names_with f (with_clauses n cs names) ≡ with_clauses n cs (names_with f names)
  clauses_with n [] names = refl
  clauses_with n (c ∷ cs) names = clauses_with n cs (with_entry Propositions c.called.name n true names) ∙ ap (with_clauses n cs) (entered_with f Propositions c.called.name n names)

  pub inductives_with : (n k : ℕ) (ds : List InductivePredicate) (names : NamesOf A) → names_with f (with_inductives n k ds names) ≡ with_inductives n k ds (names_with f names)
  inductives_with n k [] names = refl
  inductives_with n k (d ∷ ds) names =
      let own = with_entry Symbols d.called.name k true names in
      inductives_with n (suc k) ds (with_clauses n d.clauses own)
      ∙ ap (with_inductives n (suc k) ds) (clauses_with n d.clauses own ∙ ap (with_clauses n d.clauses) (entered_with f Symbols d.called.name k names))

-- ---- each name stands for what it may
clauses_scopes : (s : List Tree) (m n : ℕ) (cs : List InductiveClause) (names : ScopeNames) → AreScopes s m names → AreScopes s m (with_clauses n cs names)
clauses_scopes s m n [] names h = h
clauses_scopes s m n (c ∷ cs) names h = clauses_scopes s m n cs (with_name Propositions c.called.name (stands.Entry n) true names) (scopes_more s m names Propositions c.called.name (stands.Entry n) true tt h)

pub inductives_scopes : (s : List Tree) (m n k : ℕ) (ds : List InductivePredicate) (names : ScopeNames) → k + length ds ≤ m → AreScopes s m names → AreScopes s m (with_inductives n k ds names)
inductives_scopes s m n k [] names l h = h
inductives_scopes s m n k (d ∷ ds) names l h =
    let own = with_name Symbols d.called.name (stands.Entry k) true names in
    inductives_scopes s m n (suc k) ds (with_clauses n d.clauses own) (omega arith) (clauses_scopes s m n d.clauses own (scopes_more s m names Symbols d.called.name (stands.Entry k) true (omega arith) h))
