-- How the parts of a type's declaration make its elaboration.
use Rattle.std.proofs.Common.{◌≡◌, ℕ, ◌+◌, true, false, List, [], ◌∷◌, ◌++◌, map, length, None, refl, sym, ap, subst, ◌∙◌, arith}
use Rattle.std.proofs.Math.ListN.{length-map}
use Rattle.std.specs.List.{All}
use Rattle.std.proofs.lemmas.List.Elements.{All-nil, All-cons}
use Rattle.tasks.specs.trees.declared.TermId.{TermId}
use Rattle.tasks.specs.trees.Tree.{Tree}
use Rattle.tasks.specs.trees.Node.{tree_at, Grows}
use Rattle.tasks.proofs.trees.Nodes.{Grows_refl}
use Rattle.tasks.specs.trees.Facts.{TyVarsBelow}
use Rattle.tasks.specs.Task.{MakesType, BodyTree, DeclarationTree}
use Rattle.tasks.specs.Meaning.{symbol_at, symbols_at, body_at, declarations_at, BodyHeld, DeclHeld}
use Rattle.tasks.specs.declared.declaration.Body.{Body}
use Rattle.tasks.specs.declared.declaration.Body.TheVariants.{TypeSymbol, Symbol, Defs, Inductives, Algebraics, Prop}
use Rattle.tasks.specs.declared.declaration.Decl.{Decl}
use Rattle.surface.specs.Lexeme.{Word}
use Rattle.tasks.specs.declared.signature.Signature.{Signature}
use Rattle.name_resolution.specs.scopes.declared.Table.TheVariants.{Types}
use Rattle.name_resolution.specs.scopes.declared.Referent.TheVariants as stands
use Rattle.name_resolution.specs.scopes.Names.{ScopeNames, with_name}
use Rattle.name_resolution.proofs.scopes.Mapped.{named_with}
use Rattle.name_resolution.specs.Abstract.{TypeExpression}
use Rattle.name_resolution.specs.Faults.{form_fault}
use Rattle.name_resolution.specs.Naming.{type_tree_at, scope_at}
use Rattle.elab_groups.specs.open_types.Drafts.{HoldsType, MatchHeld, match_at}
use Rattle.elab_groups.specs.declared.parts.made.Elaborated.{Elaborated}
use Rattle.elab_groups.specs.declared.parts.made.Place.{Place}
use Rattle.elab_groups.specs.parts.Declarations.{TokenName, words, abstract_type, alias, made_names, made_fault}
use Rattle.elab_groups.specs.parts.Entries.{type_entry, IsExtended, AreScopes, wanting_tuples}
use Rattle.elab_groups.specs.parts.Outcomes.{around, setting, declared_in, IsKept}
use Rattle.elab_declarations.specs.Outcomes.{type_outcome, alias_seen, aliased_type, alias_outcome, IsElaborated}
use Rattle.elab_groups.proofs.parts.AtScope.{entered_with}
use Rattle.elab_groups.proofs.parts.Overs.{scope_stays}
use Rattle.elab_groups.proofs.parts.Scopes.{scopes_grow, scopes_more}
use Rattle.elab_groups.proofs.parts.Refused.{no_fault}
use Rattle.elab_groups.proofs.parts.Keeping.{length_extended}
use Rattle.elab_declarations.proofs.Over.{made_at}

-- the declaration of a type holds no tree
body_held : (s : List Tree) (b : Body) (k : ℕ) → body_at s b ≡ MakesType k → BodyHeld s b
body_held s (TypeSymbol j) k h = tt
body_held s (Symbol j) k h = tt
body_held s (Defs ds) k h = absurd (cc)
body_held s (Inductives ds) k h = absurd (cc)
body_held s (Algebraics ds) k h = absurd (cc)
body_held s (Prop a) k h = absurd (cc)

abbrev first_body : List DeclarationTree → BodyTree
first_body [] = MakesType 0
first_body (d ∷ ds) = d.body

pub types_held : (s : List Tree) (ds : List Decl) (theory name : Word) (n k : ℕ) → declarations_at s ds ≡ record { theory = theory; name = name; vars = n; body = MakesType k } ∷ [] → All (DeclHeld s) ds
types_held s [] theory name n k h = All-nil (DeclHeld s)
types_held s (d ∷ []) theory name n k h = let q : body_at s d.body ≡ MakesType k = ap first_body h in All-cons (DeclHeld s) d [] (body_held s d.body k q) (All-nil (DeclHeld s))
types_held s (d ∷ e ∷ ds) theory name n k h = absurd (cc)

module _ (p : Place) (s : List Tree) (g g' : Signature) (names : ScopeNames) (x : TokenName) (vs : List TokenName) (made : Elaborated) where
  counted : length (symbols_at s g.symbols) ≡ length g.symbols
  counted = length-map g.symbols (symbol_at s)

  pub type_elaborated : made_fault (declared_in names) [] (made_names (abstract_type x vs)) ≡ None
      → IsExtended s g s g' (type_entry p.theory.now (p.within.now ++ x.name) (length vs) ∷ [])
      → declarations_at s made.decls ≡ record { theory = p.theory.now; name = p.within.now ++ x.name; vars = length vs; body = MakesType (length g.symbols) } ∷ []
      → made.rigid ≡ [] → made.matches ≡ []
      → IsElaborated (setting p s g names) (abstract_type x vs) g s g' (with_name Types x.name (stands.Entry (length g.symbols)) true names) made
  type_elaborated free h d r m = record {
    outcome = type_outcome (setting p s g names) x (length vs);
    is = refl;
    named = no_fault (made_fault (declared_in (scope_at s names)) [] (made_names (abstract_type x vs))) None (made_at s names (made_names (abstract_type x vs)) ∙ free) refl;
    symbols_are = h.symbols;
    ints = h.ints;
    scope = entered_with (type_tree_at s) Types x.name (length g.symbols) names ∙ ap (λ (k : ℕ). with_name Types x.name (stands.Entry k) true (scope_at s names)) (sym counted);
    decls = d ∙ ap (λ (k : ℕ). record { theory = p.theory.now; name = p.within.now ++ x.name; vars = length vs; body = MakesType k } ∷ []) (sym counted);
    rigid = r;
    matches = ap (map (match_at s)) m;
  }

  pub type_kept : IsExtended s g s g' (type_entry p.theory.now (p.within.now ++ x.name) (length vs) ∷ []) → AreScopes s (length g.symbols) names → made.matches ≡ [] → All (DeclHeld s) made.decls
      → IsKept s g' (with_name Types x.name (stands.Entry (length g.symbols)) true names) made
  type_kept h w m d =
      let l : length g'.symbols ≡ length g.symbols + 1 = length_extended (type_entry p.theory.now (p.within.now ++ x.name) (length vs) ∷ []) h in
      record {
        signature = h.signature;
        scopes = scopes_more s (length g'.symbols) names Types x.name (stands.Entry (length g.symbols)) true (omega (arith, l)) (scopes_grow s s (Grows_refl s) (length g.symbols) (length g'.symbols) (omega (arith, l)) names w);
        decls = d;
        matches = subst (All (MatchHeld s)) (sym m) (All-nil (MatchHeld s));
      }

-- an alias, whose name stands for its type afterwards
module _ (p : Place) (s s' : List Tree) (grows : Grows s s') (g g' : Signature) (names : ScopeNames) (x : TokenName) (vs : List TokenName) (f : TypeExpression) (made : Elaborated) (id : TermId) where
  pub alias_elaborated : made_fault (declared_in names) [] (made_names (alias x vs f)) ≡ None → form_fault (around (setting p s g names) (words vs)) false f ≡ None
      → AreScopes s (length g.symbols) names → IsExtended s g s' g' (wanting_tuples (symbols_at s g.symbols) (alias_seen f).widths) → tree_at s' id ≡ aliased_type (setting p s g names) vs f
      → made.decls ≡ [] → made.rigid ≡ [] → made.matches ≡ []
      → IsElaborated (setting p s g names) (alias x vs f) g s' g' (with_name Types x.name (stands.Alias (length vs) id.0) true names) made
  alias_elaborated free right w h tree d r m = record {
    outcome = alias_outcome (setting p s g names) x vs f;
    is = refl;
    named = no_fault (made_fault (declared_in (scope_at s names)) [] (made_names (alias x vs f))) (form_fault (around (setting p s g names) (words vs)) false f) (made_at s names (made_names (alias x vs f)) ∙ free) right;
    symbols_are = h.symbols;
    ints = h.ints;
    scope =
        named_with (type_tree_at s') Types x.name (stands.Alias (length vs) id.0) true names
        ∙ (ap (λ (t : Tree). with_name Types x.name (stands.Alias (length vs) t) true (scope_at s' names)) tree
        ∙ ap (with_name Types x.name (stands.Alias (length vs) (aliased_type (setting p s g names) vs f)) true) (scope_stays s s' grows (length g.symbols) names w));
    decls = ap (declarations_at s') d;
    rigid = r;
    matches = ap (map (match_at s')) m;
  }

  pub alias_kept : IsExtended s g s' g' (wanting_tuples (symbols_at s g.symbols) (alias_seen f).widths) → AreScopes s (length g.symbols) names → HoldsType s' id → TyVarsBelow (length vs) (tree_at s' id)
      → made.decls ≡ [] → made.matches ≡ [] → IsKept s' g' (with_name Types x.name (stands.Alias (length vs) id.0) true names) made
  alias_kept h w held below d m =
      let l : length g'.symbols ≡ length g.symbols + length (wanting_tuples (symbols_at s g.symbols) (alias_seen f).widths) = length_extended (wanting_tuples (symbols_at s g.symbols) (alias_seen f).widths) h in
      record {
        signature = h.signature;
        scopes = scopes_more s' (length g'.symbols) names Types x.name (stands.Alias (length vs) id.0) true (held, below) (scopes_grow s s' grows (length g.symbols) (length g'.symbols) (omega (arith, l)) names w);
        decls = subst (All (DeclHeld s')) (sym d) (All-nil (DeclHeld s'));
        matches = subst (All (MatchHeld s')) (sym m) (All-nil (MatchHeld s'));
      }
