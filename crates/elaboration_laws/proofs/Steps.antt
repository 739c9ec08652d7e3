-- One more declaration after others: signature and scopes stay typed over what all make, and it is valid where it is.
use Rattle.std.proofs.Common.{◌≡◌, ◌⊎◌, inl, inr, ℕ, ◌+◌, ◌-◌, ◌<◌, ◌≤◌, ◌==◌, ◌&&◌, ◌||◌, not, Bool, true, false, List, [], ◌∷◌, ◌++◌, map, length, get_or, slice_get, All, Option, Some, None, IfSome, IsTrue, refl, sym, ap, subst, ◌∙◌, arith, length-append, append_assoc}
use Rattle.std.specs.Option.{is_some, option_or}
use Rattle.std.specs.List.{list_any}
use Rattle.std.proofs.lemmas.List.Elements.{All-append}
use Rattle.elab_groups.specs.trees.Tree.{Tree}
use Rattle.elab_groups.specs.trees.declared.TermId.{TermId}
use Rattle.elab_groups.specs.trees.Node.{Holds, tree_at}
use Rattle.elab_groups.specs.trees.Sorts.{WellSorted}
use Rattle.elab_groups.specs.tasks.declared.signature.SymbolKind.TheVariants.{Kind, Constructor}
use Rattle.elab_groups.specs.tasks.declared.signature.Signature.{Signature}
use Rattle.elab_groups.specs.tasks.Task.{SymbolTree, int_symbol, DeclarationTree, made, made_by}
use Rattle.elab_groups.specs.tasks.Meaning.{symbols_at, declarations_at, DeclHeld}
use Rattle.elab_groups.specs.tasks.Roles.{is_constructor, maker, role_by}
use Rattle.elab_groups.specs.tasks.Vocabulary.{Vocabulary, passes, is_constructor_kind}
use Rattle.elab_groups.specs.tasks.Valid.{IsValidDecl}
use Rattle.elab_groups.proofs.tasks.Declared.{maker_made, made_maker, con_maker as con_some}
use Rattle.elab_groups.specs.scopes.Names.{ScopeNames}
use Rattle.elab_groups.specs.name_resolution.Naming.{scope_at}
use Rattle.elab_groups.specs.surface.declared.declarations.PropKind.TheVariants as kind
use Rattle.elab_groups.specs.surface.Declarations as source
use Rattle.elab_groups.specs.declared.parts.made.Elaborated.{Elaborated}
use Rattle.elab_groups.specs.parts.Entries.{builtin}
use Rattle.elab_groups.specs.parts.Declarations.{Declaration, group_member, declaration}
use Rattle.elab_groups.specs.parts.Outcomes.{Setting, Outcome}
use Rattle.elab_declarations.specs.Outcomes.{IsElaborated}
use Rattle.elaboration_laws.specs.Scopes.{is_projection_kind, IsNamedBy, NamesNew, AgreeBelow}
use Rattle.elaboration_laws.proofs.Extended.{further, in_either}
use Rattle.elaboration_laws.specs.Valid.{IsTypedSetting, HaveNoFault, MayNameRigid, IsValidElaborated}
use Rattle.elaboration_laws.specs.Lists.{is_built, after, AreValidAfter, MakesBelow, IsGroupWhole, IsNoGoal, IsNextDeclaration}
use Rattle.elaboration_laws.proofs.Begin.{agrees}
use Rattle.elaboration_laws.proofs.Lists.{or_more, maker_both}
use Rattle.elaboration_laws.proofs.Made.{IsOwn, IsNewEntry}
use Rattle.elaboration_laws.proofs.Outcomes.{IsMade, IsAlone, outcome_made}
use Rattle.elaboration_laws.proofs.Elaborated.{elaborated_valid}
use Rattle.std.proofs.lemmas.Option.{slice_get-get_or as some_at}
use Rattle.elaboration_laws.proofs.Declarations.{below as slice_below}

-- ---- makers
pub none_of : (o : Option DeclarationTree) → (IsTrue (is_some o) → ⊥) → o ≡ None
none_of None f = refl
none_of (Some d) f = absurd (f refl)

pub or_none : (o : Option DeclarationTree) → option_or o None ≡ o
or_none None = refl
or_none (Some d) = refl

some_either : (o p : Option DeclarationTree) → IsTrue (is_some p) → IsTrue (is_some (option_or o p))
some_either None p h = h
some_either (Some d) p h = refl

pub made_both : (xs ys : List DeclarationTree) → made (xs ++ ys) ≡ made xs ++ made ys
made_both [] ys = refl
made_both (x ∷ xs) ys = ap (λ (ks : List ℕ). made_by x.body ++ ks) (made_both xs ys) ∙ sym (append_assoc (made_by x.body) (made xs) (made ys))

-- what isn't made by others
not_made : (n k : ℕ) (ds : List DeclarationTree) → All (λ (i : ℕ). i < n) (made ds) → n ≤ k → maker ds k ≡ None
not_made n k ds h l = none_of (maker ds k) (λ t.
    let c = maker_made k ds t in
    let z : get_or (made ds) c.0 k < n = h c.0 k c.1 in
    let e : get_or (made ds) c.0 k ≡ k = c.2 in
    omega (arith, l, z, e))

not_before : (n m k : ℕ) (ds : List DeclarationTree) → All (λ (i : ℕ). (n ≤ i) × (i < m)) (made ds) → k < n → maker ds k ≡ None
not_before n m k ds h l = none_of (maker ds k) (λ t.
    let c = maker_made k ds t in
    let z = h c.0 k c.1 in
    let e : get_or (made ds) c.0 k ≡ k = c.2 in
    let y : n ≤ get_or (made ds) c.0 k = z.0 in
    omega (arith, l, y, e))

-- ---- constructors may be used

first_true : (a b c : Bool) → IsTrue ((a && b) || c) → IsTrue (a || c)
first_true true b c h = refl
first_true false b c h = h

pattern_usable : (symbols : List SymbolTree) (r : List ℕ) (ds : List DeclarationTree) (k : ℕ) → IsTrue ((after symbols r ds).matched k) → IsTrue ((after symbols r ds).usable k)
pattern_usable symbols r ds k h = of (slice_get symbols k) h
  where
    of : (o : Option SymbolTree) → IsTrue (passes (λ e. is_built e && is_constructor_kind e.kind) o || is_constructor (role_by k (maker ds k))) → IsTrue (passes is_built o || is_some (maker ds k))
    of None x = con_some k (maker ds k) x
    of (Some e) x = or_more (is_built e) (is_constructor (role_by k (maker ds k))) (is_some (maker ds k)) (con_some k (maker ds k)) (first_true (is_built e) (is_constructor_kind e.kind) (is_constructor (role_by k (maker ds k))) x)

-- ---- new entries may be named
built_of : (p : Bool) → IsTrue (not (p && true)) → IsTrue (not p)
built_of true h = h
built_of false h = h

module _ (symbols : List SymbolTree) (r : List ℕ) (ds new : List DeclarationTree) (k : ℕ) (e : SymbolTree) (here : slice_get symbols k ≡ Some e) (before : maker ds k ≡ None) where
  abbrev v : Vocabulary
  v = after symbols r (ds ++ new)

  now : maker (ds ++ new) k ≡ maker new k
  now = let z = maker_both ds new k in rw (z, before) refl

  tuple_named : e.theory ≡ builtin → IsNamedBy v k e
  tuple_named q = record {
    usable = λ h. let z : IsTrue (not (is_projection_kind e.kind && true)) = (rw q at h) in rw (here, q) (first_or (not (is_projection_kind e.kind)) (is_some (maker (ds ++ new) k)) (built_of (is_projection_kind e.kind) z));
    matched = λ c. rw (here, q, c) refl;
    pattern = pattern_usable symbols r (ds ++ new) k;
  }
    where
      first_or : (a b : Bool) → IsTrue a → IsTrue (a || b)
      first_or true b h = refl
      first_or false b h = absurd (let z : true ≡ false = sym h in cc)

  rigid_named : (e.theory ≡ []) × (e.kind ≡ Kind) → IsNamedBy v k e
  rigid_named q = let t = q.0 in record {
    usable = λ h. absurd (let z : false ≡ true = (rw t at h) in cc);
    matched = λ c. absurd (let z : Kind ≡ Constructor = sym q.1 ∙ c in cc);
    pattern = pattern_usable symbols r (ds ++ new) k;
  }

  own_named : IsOwn new k e → IsNamedBy v k e
  own_named o = record {
    usable = λ h. second_or (passes is_built (slice_get symbols k)) (is_some (maker (ds ++ new) k)) (let y = now in rw y (made_maker k new o.made));
    matched = λ c. second_or (passes (λ (i : SymbolTree). is_built i && is_constructor_kind i.kind) (slice_get symbols k)) (is_constructor (role_by k (maker (ds ++ new) k))) (let y = now in rw y (o.constructor c));
    pattern = pattern_usable symbols r (ds ++ new) k;
  }
    where
      second_or : (a b : Bool) → IsTrue b → IsTrue (a || b)
      second_or true b h = refl
      second_or false b h = h

  entry_named : IsNewEntry new k e → IsNamedBy v k e
  entry_named (inl q) = tuple_named q
  entry_named (inr (inl q)) = rigid_named q
  entry_named (inr (inr o)) = own_named o

module _ (c : Setting) (ds : List DeclarationTree) (below : MakesBelow (length c.symbols) ds) (o : Outcome) (made' : IsMade c o) (r : List ℕ) where
  abbrev A : List SymbolTree
  A = c.symbols ++ o.symbols

  new_named : NamesNew (after A r (ds ++ o.decls)) (length c.symbols) A
  new_named k e l q = of (in_either c.symbols o.symbols k e q)
    where
      of : (slice_get c.symbols k ≡ Some e) ⊎ ((length c.symbols ≤ k) × (slice_get o.symbols (k - length c.symbols) ≡ Some e)) → IsNamedBy (after A r (ds ++ o.decls)) k e
      of (inl z) = absurd (let b = slice_below c.symbols k e z in omega (arith, b, l))
      of (inr z) =
          let s : length c.symbols + (k - length c.symbols) ≡ k = omega (arith, l) in
          entry_named A r ds o.decls k e q (not_made (length c.symbols) k ds below l) (subst (λ (i : ℕ). IsNewEntry o.decls i e) s (made'.new (k - length c.symbols) e z.1))

  -- the entries that were there are named as before
  front_same : (k : ℕ) → k < length c.symbols → slice_get c.symbols k ≡ slice_get A k
  front_same k l = let q = some_at c.symbols k int_symbol l in q ∙ sym (further c.symbols o.symbols k _ q)

  makers_same : (k : ℕ) → k < length c.symbols → maker ds k ≡ maker (ds ++ o.decls) k
  makers_same k l =
      let z = maker_both ds o.decls k in
      let n = not_before (length c.symbols) (length A) k o.decls made'.between l in
      sym (z ∙ (ap (option_or (maker ds k)) n ∙ or_none (maker ds k)))

  agree : ((k : ℕ) → k < length c.symbols → list_any (λ j. j == k) r ≡ false) → AgreeBelow (after c.symbols [] ds) (after A r (ds ++ o.decls)) (length c.symbols)
  agree far = record {
    rigid = λ k l. sym (far k l);
    usable = λ k l. let p = front_same k l in let q = makers_same k l in cc;
    matched = λ k l. let p = front_same k l in let q = makers_same k l in cc;
  }

-- ---- where a declaration stands
valid_single : (symbols : List SymbolTree) (ds new : List DeclarationTree) → length new ≤ 1 → All (IsValidDecl (after symbols [] (ds ++ new))) new → AreValidAfter symbols ds new
valid_single symbols ds [] l h = tt
valid_single symbols ds (d ∷ []) l h = (h 0 d (omega arith), tt)
valid_single symbols ds (d ∷ e ∷ es) l h = absurd (omega arith)

-- ---- what is told of a source's declaration
is_alone : (d : source.SyntaxDeclaration) → IsGroupWhole d → IfSome (declaration d) IsAlone
is_alone (source.type_decl a n vs None) w = tt
is_alone (source.type_decl a n vs (Some f)) w = tt
is_alone (source.algebraic_decl a ts) w = tt
is_alone (source.function_decl a c ps f None ms) w = λ z. ap (map group_member) w
is_alone (source.function_decl a c ps f (Some e) ms) w = λ z. absurd (cc)
is_alone (source.predicate_decl a c ps None ms) w = λ z. ap (map group_member) w
is_alone (source.predicate_decl a c ps (Some e) ms) w = λ z. absurd (cc)
is_alone (source.constant_decl a c f e) w = λ z. refl
is_alone (source.inductive_decl a ds) w = tt
is_alone (source.prop_decl a k c e) w = tt
is_alone _ w = tt

alone : (d : source.SyntaxDeclaration) (x : Declaration) → IsGroupWhole d → declaration d ≡ Some x → IsAlone x
alone d x w q = let P : Option Declaration → Type 0 = λ o. IfSome o IsAlone in subst P q (is_alone d w)

abbrev NeedsNoRigid : Declaration → Type 0
NeedsNoRigid x = (v : Vocabulary) (ks : List ℕ) → MayNameRigid v x ks

no_goal : (d : source.SyntaxDeclaration) → IsNoGoal d → IfSome (declaration d) NeedsNoRigid
no_goal (source.type_decl a n vs None) w = λ v ks. tt
no_goal (source.type_decl a n vs (Some f)) w = λ v ks. tt
no_goal (source.algebraic_decl a ts) w = λ v ks. tt
no_goal (source.function_decl a c ps f e ms) w = λ v ks. tt
no_goal (source.predicate_decl a c ps e ms) w = λ v ks. tt
no_goal (source.constant_decl a c f e) w = λ v ks. tt
no_goal (source.inductive_decl a ds) w = λ v ks. tt
no_goal (source.prop_decl a kind.Axiom c e) w = λ v ks. tt
no_goal (source.prop_decl a kind.Lemma c e) w = λ v ks. tt
no_goal (source.prop_decl a kind.Goal c e) w = absurd w
no_goal _ w = tt

needs_none : (d : source.SyntaxDeclaration) (x : Declaration) → IsNoGoal d → declaration d ≡ Some x → NeedsNoRigid x
needs_none d x w q = let P : Option Declaration → Type 0 = λ o. IfSome o NeedsNoRigid in subst P q (no_goal d w)

pub makes_all : (n m : ℕ) (ds new : List DeclarationTree) → n ≤ m → MakesBelow n ds → All (λ (k : ℕ). (n ≤ k) × (k < m)) (made new) → MakesBelow m (ds ++ new)
makes_all n m ds new longer below between =
    let P : ℕ → Type 0 = λ k. k < m in
    let b : All P (made ds ++ made new) = All-append P (made ds) (made new) (λ k i l. let z : get_or (made ds) k i < n = below k i l in omega (arith, z, longer)) (λ k i l. (between k i l).1) in
    let z = made_both ds new in
    rw z b

module _ (c : Setting) (ds : List DeclarationTree) (x : Declaration) (g : Signature) (s : List Tree) (g' : Signature) (names : ScopeNames) (it : Elaborated) (h : IsTypedSetting (after c.symbols [] ds) c) (below : MakesBelow (length c.symbols) ds) (w : IsAlone x)
    (e : IsElaborated c x g s g' names it) where
  abbrev pub n : ℕ
  n = length c.symbols

  abbrev pub all : List SymbolTree
  all = symbols_at s g'.symbols

  abbrev pub new : List DeclarationTree
  new = declarations_at s it.decls

  pub made' : IsMade c e.outcome
  made' = outcome_made c x e.outcome w e.is

  pub setting : (rigid : List ℕ) → ((k : ℕ) → k < n → list_any (λ j. j == k) rigid ≡ false) → IsTypedSetting (after all rigid (ds ++ new)) c
  setting rigid far =
      let agree' : AgreeBelow (after c.symbols [] ds) (after all rigid (ds ++ new)) n = rw (e.symbols_are, e.decls) (agree c ds below e.outcome made' rigid far) in
      agrees (after c.symbols [] ds) (after all rigid (ds ++ new)) c agree' h

  pub news : (rigid : List ℕ) → NamesNew (after all rigid (ds ++ new)) n all
  news rigid = rw (e.symbols_are, e.decls) (new_named c ds below e.outcome made' rigid)

  pub longer : n ≤ length all
  longer = rw e.symbols_are (omega (arith, length-append c.symbols e.outcome.symbols))

  pub between : All (λ (k : ℕ). (n ≤ k) × (k < length all)) (made new)
  between = rw (e.symbols_are, e.decls) made'.between

pub next_declaration : (c : Setting) (ds : List DeclarationTree) (d : source.SyntaxDeclaration) (x : Declaration) (g : Signature) (s : List Tree) (g' : Signature) (names : ScopeNames) (it : Elaborated) → IsTypedSetting (after c.symbols [] ds) c → MakesBelow (length c.symbols) ds
    → declaration d ≡ Some x → IsGroupWhole d → IsNoGoal d → IsElaborated c x g s g' names it → ((id : TermId) → Holds s id → WellSorted (tree_at s id)) → All (DeclHeld s) it.decls → HaveNoFault (symbols_at s g'.symbols) (declarations_at s it.decls)
    → IsNextDeclaration (symbols_at s g'.symbols) (scope_at s names) ds (declarations_at s it.decls)
next_declaration c ds d x g s g' names it h below q w p e sorted held passes =
    let a = alone d x w q in
    let all' = symbols_at s g'.symbols in
    let new' = declarations_at s it.decls in
    let v = after all' [] (ds ++ new') in
    let y : IsValidElaborated v s g' names it = elaborated_valid v c (setting c ds x g s g' names it h below a e [] (λ k l. refl)) d x g s g' names it q e sorted held passes (news c ds x g s g' names it h below a e []) (needs_none d x p q v it.rigid) in
    let single : length new' ≤ 1 = rw e.decls (made' c ds x g s g' names it h below a e).single in
    record {
      signature = y.signature;
      scopes = y.scopes;
      valid = valid_single all' ds new' single y.decls;
      makes = makes_all (length c.symbols) (length all') ds new' (longer c ds x g s g' names it h below a e) below (between c ds x g s g' names it h below a e);
    }
