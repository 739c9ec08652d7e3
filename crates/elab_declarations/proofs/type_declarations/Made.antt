-- How the parts of a group's declaration make its elaboration.
use Rattle.std.proofs.Common.{◌≡◌, ℕ, ◌+◌, suc, List, [], ◌∷◌, ◌++◌, map, length, None, refl, sym, ap, subst, ◌∙◌, arith, length-append, append_assoc, Err}
use Rattle.std.proofs.Math.ListN.{length-map}
use Rattle.std.specs.List.{All}
use Rattle.std.proofs.lemmas.List.Elements.{All-nil}
use Rattle.trees.specs.Tree.{Tree}
use Rattle.trees.specs.Node.{Grows}
use Rattle.tasks.specs.Task.{SymbolTree, AlgebraicTree, Constructs, DeclarationTree}
use Rattle.tasks.specs.Valid.{own_type}
use Rattle.tasks.specs.Meaning.{symbol_at, symbols_at, declarations_at, DeclHeld}
use Rattle.tasks.specs.declared.signature.Signature.{Signature}
use Rattle.scopes.specs.Names.{ScopeNames}
use Rattle.surface.specs.Lexeme.{Word}
use Rattle.name_resolution.specs.Naming.{Tells, type_tree_at, scope_at}
use Rattle.name_resolution.specs.Where.{Where, NamesTree}
use Rattle.name_resolution.specs.declared.NamingFault.{NamingFault}
use Rattle.open_types.specs.Drafts.{MatchHeld, match_at}
use Rattle.open_types.specs.Patterns.{no_notes}
use Rattle.elab_groups.specs.declared.parts.made.Elaborated.{Elaborated}
use Rattle.elab_groups.specs.declared.parts.made.Place.{Place}
use Rattle.elab_groups.specs.parts.Elaborated.{elab_naming_fault}
use Rattle.elab_groups.specs.parts.Declarations.{AlgebraicConstructor, AlgebraicType, words, made_type_names, with_vars, types_fault}
use Rattle.elab_groups.specs.parts.Entries.{wanting_tuples, other_words, field_entries, named_entries, IsExtended, AreScopes}
use Rattle.elab_groups.specs.members.Members.{parameter_types, words_of_parameters}
use Rattle.elab_groups.proofs.members.MembersScoped.{types_count}
use Rattle.elab_groups.specs.parts.Outcomes.{Setting, over, setting, IsKept}
use Rattle.elab_groups.proofs.parts.Entering.{extended_both, extended_grows}
use Rattle.elab_groups.proofs.parts.Keeping.{length_extended}
use Rattle.elab_groups.proofs.parts.Overs.{scope_stays}
use Rattle.elab_groups.proofs.parts.Refused.{no_fault, used_refusal}
use Rattle.elab_groups.proofs.parts.Scopes.{scopes_grow}
use Rattle.elab_declarations.specs.type_declarations.Algebraics.{group_seen, count_fields, entry_count, group_count, first_type, first_constructor, with_types, group_names, type_entries, inside_types, constructor_trees, algebraic_trees, group_trees, constructors_entries, group_entries, first_name, first_vars, group_outcome, group_made, AreTypesElaborated, IsTypesRefusal}
use Rattle.elab_declarations.proofs.Over.{made_at}
use Rattle.elab_declarations.proofs.type_declarations.Placed.{scopes_types, types_with}

-- ---- so many entries
pub fields_length : (theory within x : Word) (n : ℕ) (t : Tree) (i : ℕ) (ws : List Word) (fs : List Tree) → length (field_entries theory within x n t i ws fs) ≡ length fs
fields_length theory within x n t i ws [] = refl
fields_length theory within x n t i ws (f ∷ fs) = ap suc (fields_length theory within x n t (suc i) (other_words ws) fs)

pub cons_length : (theory within : Word) (v : ℕ) (t : Tree) (w : Where) (n : ℕ) (ks : List AlgebraicConstructor) → length (constructors_entries theory within v t ks (constructor_trees w n ks)) ≡ entry_count ks
cons_length theory within v t w n [] = refl
cons_length theory within v t w n (k ∷ ks) =
    let fs = parameter_types w k.fields in
    let ws = words_of_parameters k.fields in
    let m = n + (count_fields k.fields + 1) in
    let here : List SymbolTree = named_entries theory within k.own v t ws fs in
    let rest : List SymbolTree = constructors_entries theory within v t ks (constructor_trees w m ks) in
    let a : length (here ++ rest) ≡ length here + length rest = length-append here rest in
    let b : length here ≡ suc (count_fields k.fields) = ap suc (fields_length theory within k.own v t 1 ws fs ∙ types_count w k.fields) in
    let d : length rest ≡ entry_count ks = cons_length theory within v t w m ks in
    let e : length (here ++ rest) ≡ (count_fields k.fields + 1) + entry_count ks = omega (arith, a, b, d) in e

group_length : (theory within : Word) (w : Where) (i n : ℕ) (ts : List AlgebraicType) → length (group_entries theory within ts (algebraic_trees w i n ts)) ≡ group_count ts
group_length theory within w i n [] = refl
group_length theory within w i n (a ∷ ts) =
    let v = with_vars w (words a.vars) in
    let m = n + entry_count a.constructors in
    let here : List SymbolTree = constructors_entries theory within (length a.vars) (own_type i (length a.vars)) a.constructors (constructor_trees v n a.constructors) in
    let rest : List SymbolTree = group_entries theory within ts (algebraic_trees w (i + 1) m ts) in
    let p : length (here ++ rest) ≡ length here + length rest = length-append here rest in
    let q : length here ≡ entry_count a.constructors = cons_length theory within (length a.vars) (own_type i (length a.vars)) v n a.constructors in
    let r : length rest ≡ group_count ts = group_length theory within w (i + 1) m ts in
    let e : length (here ++ rest) ≡ entry_count a.constructors + group_count ts = omega (arith, p, q, r) in e

-- a declaration of a group whose parts are the same
pub group_same : {t t' n n' : Word} {v v' : ℕ} {ys ys' : List AlgebraicTree} → t ≡ t' → n ≡ n' → v ≡ v' → ys ≡ ys'
    → ◌≡◌ {A = List DeclarationTree} (record { theory = t; name = n; vars = v; body = Constructs ys } ∷ []) (record { theory = t'; name = n'; vars = v'; body = Constructs ys' } ∷ [])
group_same p q e f = cc

module _ (p : Place) (s s1 : List Tree) (grows : Grows s s1) (g g1 : Signature) (names after : ScopeNames) (ts : List AlgebraicType) (symbol number : ℕ)
    (scopes : AreScopes s (length g.symbols) names)
    (ext : IsExtended s g s1 g1 (wanting_tuples (symbols_at s g.symbols) (group_seen ts).widths ++ type_entries p.theory.now p.within.now ts))
    (first : symbol ≡ length g.symbols + length (wanting_tuples (symbols_at s g.symbols) (group_seen ts).widths))
    (following : length g1.symbols ≡ symbol + length ts) (begins : number ≡ length g1.symbols) (declared : after ≡ with_types symbol number ts names) where
  abbrev tuples : List SymbolTree
  tuples = wanting_tuples (symbols_at s g.symbols) (group_seen ts).widths

  abbrev c : Setting
  c = setting p s g names

  abbrev there : Where
  there = over (symbols_at s1 g1.symbols) (scope_at s1 after) []

  is_first : first_type c ts ≡ symbol
  is_first = length-append (symbols_at s g.symbols) tuples ∙ (ap (λ (n : ℕ). n + length tuples) (length-map g.symbols (symbol_at s)) ∙ sym first)

  is_constructor : first_constructor c ts ≡ number
  is_constructor = ap (λ (n : ℕ). n + length ts) is_first ∙ sym (begins ∙ following)

  -- the scopes have its names
  scope_is : (s' : List Tree) → Grows s s' → scope_at s' after ≡ group_names c ts
  scope_is s' g' =
      ap (scope_at s') declared ∙ (types_with (type_tree_at s') symbol number ts names ∙ (ap (with_types symbol number ts) (scope_stays s s' g' (length g.symbols) names scopes)
      ∙ (ap (λ (i : ℕ). with_types i number ts (scope_at s names)) (sym is_first) ∙ ap (λ (n : ℕ). with_types (first_type c ts) n ts (scope_at s names)) (sym is_constructor))))

  abbrev all : ℕ
  all = number + group_count ts

  pub all_scopes : (s' : List Tree) → Grows s s' → AreScopes s' all after
  all_scopes s' g' =
      let k : AreScopes s' all names = scopes_grow s s' g' (length g.symbols) all (omega (arith, first, following, begins)) names scopes in
      subst (λ (ns : ScopeNames). AreScopes s' all ns) (sym declared) (scopes_types s' all symbol number ts names (omega (arith, following, begins)) (omega arith) k)

  is_inside : there ≡ inside_types c ts
  is_inside =
      ap (λ (es : List SymbolTree). over es (scope_at s1 after) []) ext.symbols
      ∙ ap (λ (ns : NamesTree). over (symbols_at s g.symbols ++ (tuples ++ type_entries p.theory.now p.within.now ts)) ns []) (scope_is s1 grows)

  is_trees : algebraic_trees there symbol number ts ≡ group_trees c ts
  is_trees =
      ap (λ (w : Where). algebraic_trees w symbol number ts) is_inside
      ∙ (ap (λ (i : ℕ). algebraic_trees (inside_types c ts) i number ts) (sym is_first) ∙ ap (λ (n : ℕ). algebraic_trees (inside_types c ts) (first_type c ts) n ts) (sym is_constructor))

  pub group_refused : (f : NamingFault) → group_made names ts ≡ None → Tells (Err f) (types_fault there ts) → IsTypesRefusal c ts (elab_naming_fault p.decl f)
  group_refused f free h = used_refusal p.decl 0 no_notes (group_made (scope_at s names) ts) (types_fault (inside_types c ts) ts) f (made_at s names (made_type_names ts) ∙ free) (subst (λ (w : Where). Tells (Err f) (types_fault w ts)) is_inside h)

  -- with its types and its declaration
  module _ (s2 s3 : List Tree) (more : Grows s1 s2) (g3 : Signature) (made : Elaborated) (ys : List AlgebraicTree) (trees : ys ≡ algebraic_trees there symbol number ts)
      (entries : IsExtended s2 g1 s3 g3 (group_entries p.theory.now p.within.now ts ys)) where
    are : ys ≡ group_trees c ts
    are = trees ∙ is_trees

    whole : IsExtended s g s3 g3 ((tuples ++ type_entries p.theory.now p.within.now ts) ++ group_entries p.theory.now p.within.now ts ys)
    whole = extended_both (tuples ++ type_entries p.theory.now p.within.now ts) (group_entries p.theory.now p.within.now ts ys) (extended_grows (tuples ++ type_entries p.theory.now p.within.now ts) more ext) entries

    pub group_elaborated : Grows s s3 → group_made names ts ≡ None → types_fault there ts ≡ None
        → declarations_at s3 made.decls ≡ record { theory = p.theory.now; name = p.within.now ++ first_name ts; vars = first_vars ts; body = Constructs ys } ∷ []
        → made.rigid ≡ [] → made.matches ≡ [] → AreTypesElaborated c ts g s3 g3 after made
    group_elaborated w free right decls rigid matches = record {
      outcome = group_outcome c ts;
      is = refl;
      named = no_fault (group_made (scope_at s names) ts) (types_fault (inside_types c ts) ts) (made_at s names (made_type_names ts) ∙ free) (subst (λ (w : Where). types_fault w ts ≡ None) is_inside right);
      symbols_are = whole.symbols ∙ ap (λ (es : List SymbolTree). symbols_at s g.symbols ++ es) (append_assoc tuples (type_entries p.theory.now p.within.now ts) (group_entries p.theory.now p.within.now ts ys) ∙ ap (λ (zs : List AlgebraicTree). tuples ++ (type_entries p.theory.now p.within.now ts ++ group_entries p.theory.now p.within.now ts zs)) are);
      ints = whole.ints;
      scope = scope_is s3 w;
      decls = decls ∙ ap (λ (zs : List AlgebraicTree). record { theory = p.theory.now; name = p.within.now ++ first_name ts; vars = first_vars ts; body = Constructs zs } ∷ []) are;
      rigid = rigid;
      matches = ap (map (match_at s3)) matches;
    }

    pub group_kept : Grows s s3 → All (DeclHeld s3) made.decls → made.matches ≡ [] → IsKept s3 g3 after made
    group_kept w d m =
        let n : length (group_entries p.theory.now p.within.now ts ys) ≡ group_count ts = ap (λ (zs : List AlgebraicTree). length (group_entries p.theory.now p.within.now ts zs)) trees ∙ group_length p.theory.now p.within.now there symbol number ts in
        let l : length g3.symbols ≡ length g1.symbols + length (group_entries p.theory.now p.within.now ts ys) = length_extended (group_entries p.theory.now p.within.now ts ys) entries in
        let e : all ≡ length g3.symbols = omega (arith, n, l, begins) in
        record {
          signature = entries.signature;
          scopes = subst (λ (k : ℕ). AreScopes s3 k after) e (all_scopes s3 w);
          decls = d;
          matches = subst (All (MatchHeld s3)) (sym m) (All-nil (MatchHeld s3));
        }
