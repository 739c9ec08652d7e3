-- What is put in the place of algebraic types makes the same symbols, as nothing more than symbols,
-- and is valid where the types are, over a vocabulary in which patterns name nothing.
use Rattle.std.specs.Prelude.{IfSome, ◌≢◌}
use Rattle.std.proofs.Common.{◌≡◌, ℕ, ◌≤◌, ◌<◌, suc, Bool, true, false, if◌then◌else◌, List, [], ◌∷◌, ◌++◌, map, length, All, Option, Some, None, inl, inr, refl, sym, ap, subst, ◌∙◌, arith, append_assoc}
use Rattle.std.proofs.lemmas.List.{append-nil}
use Rattle.std.proofs.lemmas.List.Elements.{All-cons, All-nil, All-append, All-weaker, Contains-append_left, Contains-append_right}
use Rattle.plain_laws.proofs.Lists.{All-left, All-right}
use Rattle.trees.specs.Tree.{Tree, size}
use Rattle.tasks.specs.declared.signature.SymbolKind.TheVariants.{Kind}
use Rattle.tasks.specs.Task.{SymbolTree, symbol_or, ConstructorTree, AlgebraicTree, BodyTree, MakesType, Makes, Defines, Induces, Constructs, Says, DeclarationTree, made, made_by, made_by_cons, made_by_types}
use Rattle.tasks.specs.Roles.{PlainRole, maker, role_by, role_in, is_made_by}
use Rattle.tasks.specs.Vocabulary.{Vocabulary}
use Rattle.tasks.specs.Valid.{IsFormulaOver, IsTypeIn, HasTypes, IsTypeEntry, IsSignatureOf, AreProjections, IsConstructorOf, IsAlgebraic, IsValidBody, IsValidDecl}
use Rattle.tasks.proofs.Closing.{typed_sorted}
use Rattle.tasks.proofs.Declared.{contains_step}
use Rattle.declarations.specs.Rewritten.{AreUsable, IsAsBefore, KeepsMade, KeepsValid}
use Rattle.declarations.specs.Within.{NamesAll}
use Rattle.declarations.specs.lemmas.Rewritten.{alone_made, alone_role}
use Rattle.declarations.proofs.Within.{formula_there, type_there}
use Rattle.declarations.specs.spelled_groups.Spelled.{as_symbol}
use Rattle.tr_algebraic.specs.declared.algebraic_forms.origins.LawKind.{LawKind}
use Rattle.tr_algebraic.specs.declared.algebraic_forms.origins.LawKind.TheVariants.{Projection, Distinctness, Exhaustion}
use Rattle.tr_algebraic.specs.algebraic_forms.Formulas.{all_projection_laws, distinctness_laws, exhaustion_law}
use Rattle.tr_algebraic.specs.algebraic_forms.Groups.{LawTree, law, type_laws, type_vars, group_laws, as_type, as_law, group_symbols, group_place, algebraic_rule}
use Rattle.tr_algebraic.specs.algebraic_forms.NoMatch.{HasNoMatch, IsMatchFreeBody, IsMatchFree}
use Rattle.tr_algebraic.specs.algebraic_forms.lemmas.NoMatch.{kinds_match_none, matches_none, laws_have_no_match}
use Rattle.tr_algebraic.specs.algebraic_forms.lemmas.Typed.{IsConstructor, all_projections_good, all_distinctness_good, exhaustion_good, own_type_in}

made_append : (xs ys : List DeclarationTree) → made (xs ++ ys) ≡ made xs ++ made ys
made_append [] ys = refl
made_append (d ∷ xs) ys = ap (λ (z : List ℕ). made_by d.body ++ z) (made_append xs ys)
    ∙ sym (append_assoc (made_by d.body) (made xs) (made ys))

plain_if : (k : ℕ) (x : DeclarationTree) (b : Bool) (o : Option DeclarationTree)
    → role_in k x.body ≡ PlainRole → role_by k o ≡ PlainRole
    → role_by k (if b then Some x else o) ≡ PlainRole
plain_if k x true o e q = e
plain_if k x false o e q = q

module _ (symbols : List SymbolTree) (d : DeclarationTree) where
  -- ---- the same symbols
  made_laws : (xs : List LawTree) → made (map (as_law d) xs) ≡ []
  made_laws [] = refl
  made_laws (x ∷ xs) = made_laws xs

  made_symbols : (ks : List ℕ) → made (map (as_symbol symbols d) ks) ≡ ks
  made_symbols [] = refl
  made_symbols (k ∷ ks) = ap (λ (z : List ℕ). k ∷ z) (made_symbols ks)

  made_types : (ts : List AlgebraicTree) → made (group_symbols symbols d ts) ≡ made_by_types ts
  made_types [] = refl
  made_types (a ∷ ts) =
      let ks = made_by_cons a.cons in
      ap (λ (z : List ℕ). a.symbol ∷ z)
      (made_append (map (as_symbol symbols d) ks) (group_symbols symbols d ts)
      ∙ ap (λ (z : List ℕ). z ++ made (group_symbols symbols d ts)) (made_symbols ks)
      ∙ ap (λ (z : List ℕ). ks ++ z) (made_types ts))

  made_place : (b : BodyTree) → d.body ≡ b → made (group_place symbols d b) ≡ made_by d.body
  made_place (Constructs ts) q =
      made_append (group_symbols symbols d ts) (map (as_law d) (group_laws symbols ts))
      ∙ ap (λ (z : List ℕ). made (group_symbols symbols d ts) ++ z)
      (made_laws (group_laws symbols ts)) ∙ append-nil (made (group_symbols symbols d ts))
      ∙ made_types ts
      ∙ sym (ap made_by q)
  made_place (Says a) q = alone_made d
  made_place (MakesType k) q = alone_made d
  made_place (Makes k) q = alone_made d
  made_place (Defines ds) q = alone_made d
  made_place (Induces is) q = alone_made d

  -- ---- as nothing more than symbols
  plain_laws : (k : ℕ) (xs : List LawTree) → role_by k (maker (map (as_law d) xs) k) ≡ PlainRole
  plain_laws k [] = refl
  plain_laws k (x ∷ xs) = plain_laws k xs

  plain_symbols : (k : ℕ) (ks : List ℕ) (zs : List DeclarationTree)
      → role_by k (maker zs k) ≡ PlainRole
      → role_by k (maker (map (as_symbol symbols d) ks ++ zs) k) ≡ PlainRole
  plain_symbols k [] zs e = e
  plain_symbols k (j ∷ ks) zs e =
      plain_if k (as_symbol symbols d j) _ (maker (map (as_symbol symbols d) ks ++ zs) k) refl
      (plain_symbols k ks zs e)

  plain_types : (k : ℕ) (ts : List AlgebraicTree) (zs : List DeclarationTree)
      → role_by k (maker zs k) ≡ PlainRole
      → role_by k (maker (group_symbols symbols d ts ++ zs) k) ≡ PlainRole
  plain_types k [] zs e = e
  plain_types k (a ∷ ts) zs e =
      let xs = map (as_symbol symbols d) (made_by_cons a.cons) in
      let gs = group_symbols symbols d ts in
      plain_if k (as_type symbols d a.symbol) _ (maker ((xs ++ gs) ++ zs) k) refl
      (subst (λ (z : List DeclarationTree). role_by k (maker z k) ≡ PlainRole)
      (sym (append_assoc xs gs zs))
      (plain_symbols k (made_by_cons a.cons) (gs ++ zs) (plain_types k ts zs e)))

  role_place : (k : ℕ) (b : BodyTree) → d.body ≡ b → is_made_by k d.body ≡ true
      → IsAsBefore (role_by k (maker (group_place symbols d b) k)) (role_in k d.body)
  role_place k (Constructs ts) q m =
      inl (plain_types k ts (map (as_law d) (group_laws symbols ts))
      (plain_laws k (group_laws symbols ts)))
  role_place k (Says a) q m = inr (alone_role k d m)
  role_place k (MakesType j) q m = inr (alone_role k d m)
  role_place k (Makes j) q m = inr (alone_role k d m)
  role_place k (Defines ds) q m = inr (alone_role k d m)
  role_place k (Induces is) q m = inr (alone_role k d m)

pub algebraic_keeps : KeepsMade algebraic_rule
algebraic_keeps = record {
  made = λ symbols d. made_place symbols d d.body refl;
  roles = λ symbols d k m. role_place symbols d k d.body refl m;
}

-- ---- the laws of types of a vocabulary
module _ (v : Vocabulary) where
  abbrev IsGood : LawTree → Type 0
  IsGood x = IsFormulaOver v [] x.vars x.formula

  abbrev IsFew : LawTree → Type 0
  IsFew x = size x.formula ≤ 1048576

  constructors : (type vars : ℕ) (cs : List ConstructorTree) → All (IsConstructorOf v type vars) cs
      → AreUsable v (made_by_cons cs) → All (IsConstructor v vars type) cs
  constructors type vars [] h u = All-nil (IsConstructor v vars type)
  constructors type vars (c ∷ cs) h u =
      let own = c.symbol ∷ c.projections in
      let rest = made_by_cons cs in
      All-cons (IsConstructor v vars type) c cs
      (record {
        is = h 0 c (omega arith);
        usable =
            u c.symbol (Contains-append_left own rest c.symbol
            (contains_step c.symbol c.symbol c.projections (inl refl)));
        projections =
            λ k p. u k (Contains-append_left own rest k
            (contains_step c.symbol k c.projections (inr p)));
      })
      (constructors type vars cs (λ k d l. h (suc k) d (omega arith))
      (λ k p. u k (Contains-append_right own rest k p)))

  few : (kind : LawKind) (vars : ℕ) (es : List Tree) → All IsFew (map (law kind vars) es)
      → All (λ (e : Tree). size e ≤ 1048576) es
  few kind vars [] a = All-nil (λ (e : Tree). size e ≤ 1048576)
  few kind vars (e ∷ es) a = All-cons (λ (z : Tree). size z ≤ 1048576) e es
      (a 0 (law kind vars e) (omega arith)) (few kind vars es (λ k d l. a (suc k) d (omega arith)))

  good : (kind : LawKind) (vars : ℕ) (es : List Tree)
      → All (λ (e : Tree). IsFormulaOver v [] vars e) es → All IsGood (map (law kind vars) es)
  good kind vars [] a = All-nil IsGood
  good kind vars (e ∷ es) a =
      All-cons IsGood (law kind vars e) (map (law kind vars) es) (a 0 e (omega arith))
      (good kind vars es (λ k d l. a (suc k) d (omega arith)))

  type_laws_good : (a : AlgebraicTree) → IsAlgebraic v a
      → AreUsable v (a.symbol ∷ made_by_cons a.cons)
      → All IsFew (type_laws (type_vars v.symbols a) a)
      → All IsGood (type_laws (type_vars v.symbols a) a)
  type_laws_good a h u l =
      let vars = type_vars v.symbols a in
      let ps = all_projection_laws a.symbol vars a.cons in
      let ds = distinctness_laws a.symbol vars a.cons in
      let last = law Exhaustion vars (exhaustion_law a.symbol vars a.cons) in
      let cs = constructors a.symbol vars a.cons h.cons
      (λ k p. u k (contains_step a.symbol k (made_by_cons a.cons) (inr p))) in
      let k = own_type_in v vars a.symbol h.entry
      (u a.symbol (contains_step a.symbol a.symbol (made_by_cons a.cons) (inl refl))) refl in
      let lp = All-left IsFew (map (law Projection vars) ps)
      (map (law Distinctness vars) ds ++ last ∷ []) l in
      let lr = All-right IsFew (map (law Projection vars) ps)
      (map (law Distinctness vars) ds ++ last ∷ []) l in
      All-append IsGood (map (law Projection vars) ps) (map (law Distinctness vars) ds ++ last ∷ [])
      (good Projection vars ps
      (all_projections_good v vars a.symbol a.cons cs (few Projection vars ps lp)))
      (All-append IsGood (map (law Distinctness vars) ds) (last ∷ [])
      (good Distinctness vars ds
      (all_distinctness_good v vars a.symbol a.cons cs
      (few Distinctness vars ds
      (All-left IsFew (map (law Distinctness vars) ds) (last ∷ []) lr))))
      (All-cons IsGood last [] (exhaustion_good v vars a.symbol k a.cons cs) (All-nil IsGood)))

  group_laws_good : (ts : List AlgebraicTree) → All (IsAlgebraic v) ts
      → AreUsable v (made_by_types ts) → All IsFew (group_laws v.symbols ts)
      → All IsGood (group_laws v.symbols ts)
  group_laws_good [] h u l = All-nil IsGood
  group_laws_good (a ∷ ts) h u l =
      let own = type_laws (type_vars v.symbols a) a in
      let rest = group_laws v.symbols ts in
      let ks = a.symbol ∷ made_by_cons a.cons in
      All-append IsGood own rest
      (type_laws_good a (h 0 a (omega arith))
      (λ k p. u k (Contains-append_left ks (made_by_types ts) k p)) (All-left IsFew own rest l))
      (group_laws_good ts (λ k d m. h (suc k) d (omega arith))
      (λ k p. u k (Contains-append_right ks (made_by_types ts) k p))
      (All-right IsFew own rest l))

  -- ---- over the other vocabulary
  module _ (w : Vocabulary) (names : NamesAll v w) where
    kind_there : (vars : ℕ) (ty : Tree) → IsTypeIn v vars ty → IsTypeIn w vars ty
    kind_there vars ty k = type_there v w names vars ty
        (kinds_match_none ty (typed_sorted v [] ty k.typed) (inl k.sort)) k

    says_there : (vars : ℕ) (e : Tree) → HasNoMatch e → IsFormulaOver v [] vars e
        → IsFormulaOver w [] vars e
    says_there vars e n f = formula_there v w names [] vars e
        (matches_none e (typed_sorted v [] e f.typed) (inl (inr f.sort)) n) f

    result_there : (vars : ℕ) (o : Option Tree) → IfSome o (IsTypeIn v vars)
        → IfSome o (IsTypeIn w vars)
    result_there vars None h = tt
    result_there vars (Some ty) h = kind_there vars ty h

    types_there : (k : ℕ) → HasTypes v (symbol_or v.symbols k) → HasTypes w (symbol_or w.symbols k)
    types_there k h =
        let e = symbol_or v.symbols k in
        subst (λ (z : List SymbolTree). HasTypes w (symbol_or z k)) names.symbols
        (record {
          args = All-weaker (IsTypeIn v e.vars) (IsTypeIn w e.vars) (kind_there e.vars)
              e.args h.args;
          result = result_there e.vars e.result h.result;
        })

    signature_there : (k : ℕ) → IsSignatureOf v k → IsSignatureOf w k
    signature_there k h = record {
      entry = subst (λ (z : List SymbolTree). k < length z) names.symbols h.entry;
      kind = subst (λ (z : List SymbolTree). (symbol_or z k).kind ≢ Kind) names.symbols h.kind;
      types = types_there k h.types;
    }

    entry_there : (k : ℕ) → IsTypeEntry v k → IsTypeEntry w k
    entry_there k h = record {
      entry = subst (λ (z : List SymbolTree). k < length z) names.symbols h.entry;
      kind = subst (λ (z : List SymbolTree). (symbol_or z k).kind ≡ Kind) names.symbols h.kind;
      types = types_there k h.types;
    }

    module _ (d : DeclarationTree) where
      abbrev Valid : DeclarationTree → Type 0
      Valid x = IsValidDecl w x

      projections_valid : (type vars : ℕ) (types : List Tree) (ps : List ℕ)
          → AreProjections v type vars types ps → All Valid (map (as_symbol v.symbols d) ps)
      projections_valid type vars [] [] a = All-nil Valid
      projections_valid type vars [] (p ∷ ps) a = absurd a
      projections_valid type vars (ty ∷ types) [] a = absurd a
      projections_valid type vars (ty ∷ types) (p ∷ ps) a =
          All-cons Valid (as_symbol v.symbols d p) (map (as_symbol v.symbols d) ps)
          (signature_there p a.0.signature) (projections_valid type vars types ps a.1)

      cons_valid : (type vars : ℕ) (cs : List ConstructorTree)
          → All (IsConstructorOf v type vars) cs
          → All Valid (map (as_symbol v.symbols d) (made_by_cons cs))
      cons_valid type vars [] h = All-nil Valid
      cons_valid type vars (c ∷ cs) h =
          let k = h 0 c (omega arith) in
          subst (All Valid) (sym
          (map_after (as_symbol v.symbols d) (c.symbol ∷ c.projections) (made_by_cons cs)))
          (All-append Valid (map (as_symbol v.symbols d) (c.symbol ∷ c.projections))
          (map (as_symbol v.symbols d) (made_by_cons cs))
          (All-cons Valid (as_symbol v.symbols d c.symbol)
          (map (as_symbol v.symbols d) c.projections) (signature_there c.symbol k.signature)
          (projections_valid type vars c.fields c.projections k.projections))
          (cons_valid type vars cs (λ j x l. h (suc j) x (omega arith))))
        where
          map_after : {X Y : Type 0} (f : X → Y) (xs ys : List X)
              → map f (xs ++ ys) ≡ map f xs ++ map f ys
          map_after f [] ys = refl
          map_after f (x ∷ xs) ys = ap (λ z. f x ∷ z) (map_after f xs ys)

      types_valid : (ts : List AlgebraicTree) → All (IsAlgebraic v) ts
          → All Valid (group_symbols v.symbols d ts)
      types_valid [] h = All-nil Valid
      types_valid (a ∷ ts) h =
          let k = h 0 a (omega arith) in
          let xs = map (as_symbol v.symbols d) (made_by_cons a.cons) in
          All-cons Valid (as_type v.symbols d a.symbol) (xs ++ group_symbols v.symbols d ts)
          (entry_there a.symbol k.entry)
          (All-append Valid xs (group_symbols v.symbols d ts)
          (cons_valid a.symbol (type_vars v.symbols a) a.cons k.cons)
          (types_valid ts (λ j x l. h (suc j) x (omega arith))))

      laws_valid : (xs : List LawTree) → All IsGood xs
          → All (λ (x : LawTree). HasNoMatch x.formula) xs → All Valid (map (as_law d) xs)
      laws_valid [] g n = All-nil Valid
      laws_valid (x ∷ xs) g n =
          All-cons Valid (as_law d x) (map (as_law d) xs)
          (says_there x.vars x.formula (n 0 x (omega arith)) (g 0 x (omega arith)))
          (laws_valid xs (λ j y l. g (suc j) y (omega arith)) (λ j y l. n (suc j) y (omega arith)))

      few_laws : (xs : List LawTree) → All IsMatchFree (map (as_law d) xs) → All IsFew xs
      few_laws [] a = All-nil IsFew
      few_laws (x ∷ xs) a = All-cons IsFew x xs (a 0 (as_law d x) (omega arith)).0
          (few_laws xs (λ j y l. a (suc j) y (omega arith)))

      place_valid : (b : BodyTree) → d.body ≡ b → AreUsable v (made_by b)
          → All IsMatchFree (group_place v.symbols d b) → IsValidBody v d.vars b
          → All Valid (group_place v.symbols d b)
      place_valid (Constructs ts) q u n a =
          let laws = group_laws v.symbols ts in
          All-append Valid (group_symbols v.symbols d ts) (map (as_law d) laws) (types_valid ts a)
          (laws_valid laws
          (group_laws_good ts a u
          (few_laws laws (All-right IsMatchFree (group_symbols v.symbols d ts)
          (map (as_law d) laws) n))) (laws_have_no_match v.symbols ts))
      place_valid (Says e) q u n a =
          alone (subst (λ (z : BodyTree). IsValidBody w d.vars z) (sym q)
          (says_there d.vars e
          (subst (λ (z : BodyTree). IsMatchFreeBody z) q (n 0 d (omega arith))).1 a))
        where
          alone : Valid d → All Valid (d ∷ [])
          alone h = All-cons Valid d [] h (All-nil Valid)
      place_valid (MakesType k) q u n a =
          All-cons Valid d []
          (subst (λ (z : BodyTree). IsValidBody w d.vars z) (sym q) (entry_there k a))
          (All-nil Valid)
      place_valid (Makes k) q u n a =
          All-cons Valid d []
          (subst (λ (z : BodyTree). IsValidBody w d.vars z) (sym q) (signature_there k a))
          (All-nil Valid)
      place_valid (Defines ds) q u n a =
          absurd (subst (λ (z : BodyTree). IsMatchFreeBody z) q (n 0 d (omega arith)))
      place_valid (Induces is) q u n a =
          absurd (subst (λ (z : BodyTree). IsMatchFreeBody z) q (n 0 d (omega arith)))

pub algebraic_valid : (v w : Vocabulary) → NamesAll v w → KeepsValid IsMatchFree algebraic_rule v w
algebraic_valid v w names = λ d u n a. place_valid v w names d d.body refl u n a
