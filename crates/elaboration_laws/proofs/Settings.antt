-- Where a declaration stands with the entries of its tuples: what is typed there, and what its names mean.
use Rattle.std.proofs.Common.{◌≡◌, ℕ, ◌<◌, true, false, List, [], ◌∷◌, ◌++◌, map, length, get_or, slice_get, Option, Some, None, IfSome, option_map, refl, sym, ap, All, arith}
use Rattle.std.proofs.Math.ListN.{get_or-append}
use Rattle.elab_groups.specs.trees.Tree.{Tree, Leaf, One, Two, Three, Head, HTyVar}
use Rattle.elab_groups.specs.trees.Facts.{TyVarsBelow, leaf_below}
use Rattle.elab_groups.specs.tasks.Task.{SymbolTree, symbol_or, int_symbol}
use Rattle.elab_groups.specs.tasks.Vocabulary.{Vocabulary}
use Rattle.elab_groups.specs.tasks.Valid.{VariablesBelow, LeafBelow, IsTypeIn}
use Rattle.elab_groups.specs.scopes.Names.{EntryOf, ScopeNames, TypeName, entry_with}
use Rattle.elab_groups.specs.scopes.declared.Table.{Table}
use Rattle.elab_groups.specs.scopes.declared.Table.TheVariants.{Types, Symbols, Propositions, Scopes}
use Rattle.elab_groups.specs.scopes.declared.Referent.TheVariants as stands
use Rattle.elab_groups.specs.surface.Lexeme.{Word}
use Rattle.elab_groups.specs.name_resolution.Abstract.{TypeExpression}
use Rattle.elab_groups.specs.name_resolution.Faults.{form_fault}
use Rattle.elab_groups.specs.name_resolution.Naming.{symbol_named, type_named, type_tree_at, meaning_at, scope_at}
use Rattle.elab_groups.specs.name_resolution.Where.{Where, MeaningTree, NamesTree}
use Rattle.elab_groups.specs.name_resolution.variables.Seen.{SeenTree, has_width}
use Rattle.elab_groups.specs.open_types.Scoped.{IsScoped, IsScopedMeaning}
use Rattle.elab_groups.specs.open_types.Drafts.{MeaningHeld}
use Rattle.elab_groups.specs.open_types.Pieces.{type_at}
use Rattle.elab_groups.proofs.open_types.Below.{form_below}
use Rattle.elab_groups.specs.parts.Alike.{meaning_arity, shape, RecordShape, record_shape, AreScopesAlike}
use Rattle.elab_groups.proofs.parts.RecordsKept.{record_kept}
use Rattle.elab_groups.specs.parts.Entries.{IsThing, AreScopes}
use Rattle.elab_groups.specs.parts.Outcomes.{Setting, over, tuples_wanting}
use Rattle.elab_groups.proofs.parts.Scopes.{tuples_below}
use Rattle.theory_states.specs.Meaning.{NamesHeld}
use Rattle.elaboration_laws.specs.Signature.{with_entries, IsSymbol, IsMeaning, IsWellFormed, HasTuple, FormTuples}
use Rattle.elaboration_laws.specs.Scopes.{IsTypedSignature, NamesNew, IsTypedThing, AreTypedScopes}
use Rattle.elaboration_laws.proofs.Declarations.{unmap}
use Rattle.elaboration_laws.proofs.Over.{over_good}
use Rattle.elaboration_laws.proofs.Signed.{form_over}
use Rattle.elaboration_laws.proofs.Scopes.{over_well_formed}
use Rattle.elaboration_laws.proofs.Extended.{scopes_extended}
use Rattle.elaboration_laws.proofs.Tuples.{tuples_typed, tuples_there, tuple_of}
use Rattle.elaboration_laws.specs.Valid.{IsTypedSetting}
use Rattle.elab_groups.proofs.tasks.TypeInstances.{below as below_of}

-- ---- type variables below a number, in both words

of_leaf_below : (n : ℕ) (h : Head) → leaf_below h n → LeafBelow n h
of_leaf_below n (HTyVar j) x = x
of_leaf_below n _ x = tt

pub of_below : (n : ℕ) (e : Tree) → TyVarsBelow n e → VariablesBelow n e
of_below n (Leaf h) x = of_leaf_below n h x
of_below n (One h a) x = of_below n a x
of_below n (Two h a b) x = (of_below n a x.0, of_below n b x.1)
of_below n (Three h a b c) x = (of_below n a x.0, of_below n b x.1, of_below n c x.2)

-- ---- scopes of code that are typed, whose types are held
module _ (v : Vocabulary) (s : List Tree) where
  thing_of : (table : Table) (t : TypeName) → MeaningHeld s t → IsTypedThing v table (meaning_at s t) → IsThing s (length v.symbols) table t
  thing_of Types (stands.Entry k) held h = h.there
  thing_of Types (stands.Alias vars ty) held h = (held, below_of vars (type_tree_at s ty) h.variables)
  thing_of Symbols (stands.Entry k) held h = h.there
  thing_of Symbols (stands.Alias vars ty) held h = absurd h
  thing_of Propositions (stands.Entry k) held h = tt
  thing_of Propositions (stands.Alias vars ty) held h = absurd h
  thing_of Scopes (stands.Entry k) held h = tt
  thing_of Scopes (stands.Alias vars ty) held h = absurd h

  abbrev IsTyped : EntryOf Tree → Type 0
  IsTyped e = IsTypedThing v e.table e.thing

  pub scopes_of : (names : ScopeNames) → NamesHeld s names → AreTypedScopes v (scope_at s names) → AreScopes s (length v.symbols) names
  scopes_of names held h = λ k es i.
      let typed : All IsTyped (map (entry_with (type_tree_at s)) (get_or names.entries k es)) = unmap (All IsTyped) (map (entry_with (type_tree_at s))) names.entries h k es i in
      λ j e x. thing_of (get_or (get_or names.entries k es) j e).table (get_or (get_or names.entries k es) j e).thing (held k es i j e x) (unmap IsTyped (entry_with (type_tree_at s)) (get_or names.entries k es) typed j e x)

-- ---- what is scoped
module _ (v : Vocabulary) where
  pub meaning_scoped : (m : Option MeaningTree) → IfSome m (IsMeaning v) → IfSome m IsScopedMeaning
  meaning_scoped None h = tt
  meaning_scoped (Some (stands.Entry k)) h = tt
  meaning_scoped (Some (stands.Alias vars t)) h = below_of vars t h.variables

pub over_scoped : (base : Vocabulary) (symbols : List SymbolTree) (names : NamesTree) (vars : List Word) → IsTypedSignature base symbols → IsWellFormed base (over symbols names vars) → IsScoped (over symbols names vars)
over_scoped base symbols names vars sig good = record {
  symbols = sig.scoped;
  types = λ qs x. meaning_scoped (with_entries base symbols) _ (good.types qs x);
  tuples = tuples_below symbols sig.int;
}

-- ---- names mean alike over further entries
module _ (base : Vocabulary) (symbols more : List SymbolTree) where
  pub arity_kept : (m : Option MeaningTree) → IfSome m (IsMeaning (with_entries base symbols)) → option_map (meaning_arity symbols) m ≡ option_map (meaning_arity (symbols ++ more)) m
  arity_kept None h = refl
  arity_kept (Some (stands.Entry k)) h = ap (λ (e : SymbolTree). Some e.vars) (sym (get_or-append symbols more int_symbol k h.1.entry))
  arity_kept (Some (stands.Alias vars t)) h = refl

  shape_kept : (m : Option ℕ) → IfSome m (IsSymbol (with_entries base symbols)) → option_map (shape symbols) m ≡ option_map (shape (symbols ++ more)) m
  shape_kept None h = refl
  shape_kept (Some k) h = let q : symbol_or symbols k ≡ symbol_or (symbols ++ more) k = sym (get_or-append symbols more int_symbol k h.signature.entry) in cc

  record_of : (m : Option ℕ) → IfSome m (IsSymbol (with_entries base symbols)) → option_map (record_shape symbols) m ≡ option_map (record_shape (symbols ++ more)) m
  record_of None h = refl
  record_of (Some k) h = ap (λ (s : RecordShape). Some s) (record_kept symbols more k h.signature.entry)

  some_there : (es : List SymbolTree) → slice_get es 0 ≡ Some int_symbol → 0 < length es
  some_there [] h = absurd (cc (h))
  some_there (e ∷ es) h = omega arith

  alike_more : (names : NamesTree) (vars : List Word) → IsWellFormed base (over symbols names vars) → AreScopesAlike (over symbols names vars) (over (symbols ++ more) names vars)
  alike_more names vars good = record {
    forms = record { types = λ qs x. arity_kept (type_named names qs x) (good.types qs x); vars = refl };
    names = λ qs x. shape_kept (symbol_named names qs x) (good.names qs x);
    records = λ qs x. record_of (symbol_named names qs x) (good.names qs x);
    first = record_kept symbols more 0 (some_there symbols good.int);
  }

-- ---- with the entries of tuples
module _ (base : Vocabulary) (c : Setting) (h : IsTypedSetting base c) (seen : SeenTree) where
  abbrev pub inside : List SymbolTree
  inside = c.symbols ++ tuples_wanting c seen

  pub inside_scopes : AreTypedScopes (with_entries base inside) c.scope
  inside_scopes = scopes_extended base c.symbols (tuples_wanting c seen) c.scope h.scopes

  abbrev pub world : List Word → Where
  world vars = over inside c.scope vars

  pub same_names : (vars : List Word) → AreScopesAlike (over c.symbols c.scope vars) (world vars)
  same_names vars = alike_more base c.symbols (tuples_wanting c seen) c.scope vars (over_well_formed base c.symbols h.signature c.scope h.scopes vars)

  -- what is new may be named
  module _ (news : NamesNew base (length c.symbols) inside) where
    pub inside_typed : IsTypedSignature base inside
    inside_typed = tuples_typed base c.symbols seen.widths news h.signature

    pub formed : (vars : List Word) → IsWellFormed base (world vars)
    formed vars = over_well_formed base inside inside_typed c.scope inside_scopes vars

    pub tuples : (vars : List Word) (n : ℕ) → has_width n seen.widths ≡ true → HasTuple base (world vars) n
    tuples vars n q = tuple_of base inside inside_typed n (tuples_there c.symbols seen.widths n q)

    -- a type of the source
    pub form_in : (vars : List Word) (f : TypeExpression) → form_fault (world vars) false f ≡ None → FormTuples base (world vars) f → IsTypeIn (with_entries base inside) (length vars) (type_at (world vars) f)
    form_in vars f q u =
        let w = world vars in
        let g = over_good (with_entries base inside) true [] (type_at w f) (form_over base w (formed vars) f q u) in
        record { sort = g.1; typed = g.0.0; variables = of_below (length vars) (type_at w f) (form_below w (over_scoped base inside c.scope vars inside_typed (formed vars)) f q) }
