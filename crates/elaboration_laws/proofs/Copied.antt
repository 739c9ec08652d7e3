-- A declaration that is copied: the copy is valid after what those before became, and its symbols may be named.
use Rattle.std.proofs.Common.{◌≡◌, ◌≢◌, ℕ, ◌+◌, ◌<◌, ◌==◌, ◌&&◌, zero, suc, cond, Bool, true, false, List, [], ◌∷◌, ◌++◌, map, length, get_or, slice_get, All, Contains, Option, Some, None, IsTrue, refl, sym, ap, subst, ◌∙◌, arith, append-nil}
use Rattle.std.specs.List.{position_from}
use Rattle.std.specs.Option.{is_some, option_or}
use Rattle.std.specs.Str.{bytes_eq}
use Rattle.std.proofs.lemmas.Bool.Decides.{nat_tests}
use Rattle.std.proofs.lemmas.List.{map-append}
use Rattle.std.proofs.lemmas.List.Elements.{All-nil, All-cons, All-head, All-tail, All-append, All-map, All-contains, Contains-get_or, Contains-append_left, Contains-append_right}
use Rattle.elab_groups.specs.trees.Tree.{Tree}
use Rattle.elab_groups.specs.tasks.declared.signature.SymbolKind.{SymbolKind}
use Rattle.elab_groups.specs.tasks.declared.signature.SymbolKind.TheVariants.{Kind, Predicate}
use Rattle.elab_groups.specs.tasks.Task.{SymbolTree, symbol_or, DefinitionTree, InductiveTree, ConstructorTree, AlgebraicTree, BodyTree, MakesType, Makes, Defines, Induces, Constructs, Says, DeclarationTree, made, made_by, made_by_cons, made_by_types}
use Rattle.elab_groups.specs.tasks.Roles.{RoleTree, DefinedRole, InductiveRole, defined_as, inductive_as, is_plain, is_constructor, or_role, projection_at, projected_as, constructed_as, algebraic_as, is_made_by, maker, role_in, role_by}
use Rattle.elab_groups.specs.tasks.Vocabulary.{Vocabulary, is_empty, passes, is_constructor_kind}
use Rattle.elab_groups.specs.tasks.Valid.{IsValidDecl}
use Rattle.elab_groups.proofs.tasks.Declared.{none_in, any_iff, maker_made, made_maker}
use Rattle.clones.specs.Mapped.{Map}
use Rattle.clones.specs.Copies.{definition_mapped, inductive_mapped, con_mapped, algebraic_mapped, body_mapped, declaration_copied, entry_copied}
use Rattle.elab_groups.specs.parts.Entries.{builtin}
use Rattle.elaboration_laws.specs.Lists.{is_built, after}
use Rattle.elaboration_laws.proofs.Lists.{maker_both, list_part, list_valid}
use Rattle.elab_groups.specs.name_resolution.Records.{is_projection}
use Rattle.elaboration_laws.specs.Steps.{BecomesNumbered}
use Rattle.elaboration_laws.proofs.MadeRecords.{numbered_records}
use Rattle.elaboration_laws.specs.Tasks.{IsOwnSymbol, IsOfTheory, AreSound, HasRecords}
use Rattle.elaboration_laws.proofs.Distinct.{IsDistinct, distinct_pairs, pairs_distinct, distinct_both}
use Rattle.elaboration_laws.proofs.TupleDecls.{made_both}
use Rattle.elaboration_laws.proofs.Grown.{then_valid, front_distinct}
use Rattle.elaboration_laws.specs.Morphisms.{TypeBecomes, KindBecomes, HasMappedTypes, IsMorphism, IsCopied}
use Rattle.elaboration_laws.proofs.Declarations.{declaration_valid, below as slice_below}
use Rattle.elaboration_laws.specs.Cloning.{IsImage, BecomesNew, IsCloning}
use Rattle.elaboration_laws.proofs.Vocabularies.{typed_list, made_below}
use Rattle.elaboration_laws.proofs.Extending.{morphism_more, morphism_next}
use Rattle.elaboration_laws.proofs.Joined.{distinct_last}
use Rattle.elaboration_laws.proofs.Names.{or_right as right_of}
use Rattle.elaboration_laws.proofs.Begun.{slice_or}

module _ {X : Type 0} (P : X → Type 0) where
  front : (xs ys : List X) → All P (xs ++ ys) → All P xs
  front [] ys h = All-nil P
  front (x ∷ xs) ys h = All-cons P x xs (All-head P x (xs ++ ys) h) (front xs ys (All-tail P x (xs ++ ys) h))

  back : (xs ys : List X) → All P (xs ++ ys) → All P ys
  back [] ys h = h
  back (x ∷ xs) ys h = back xs ys (All-tail P x (xs ++ ys) h)

pub distinct_middle : (xs ys zs : List ℕ) → IsDistinct (xs ++ (ys ++ zs)) → IsDistinct ys
distinct_middle xs ys zs h = front_distinct ys zs (distinct_last xs (ys ++ zs) h)

-- ---- what copies make
module _ (m : Map) where
  cons_mapped : (cs : List ConstructorTree) → made_by_cons (map (con_mapped m) cs) ≡ map m.symbols (made_by_cons cs)
  cons_mapped [] = refl
  cons_mapped (c ∷ cs) = ap (λ (ks : List ℕ). (m.symbols c.symbol ∷ map m.symbols c.projections) ++ ks) (cons_mapped cs) ∙ sym (map-append m.symbols (c.symbol ∷ c.projections) (made_by_cons cs))

  types_mapped : (ts : List AlgebraicTree) → made_by_types (map (algebraic_mapped m) ts) ≡ map m.symbols (made_by_types ts)
  types_mapped [] = refl
  types_mapped (a ∷ ts) =
      ap (λ (ks : List ℕ). (m.symbols a.symbol ∷ ks) ++ made_by_types (map (algebraic_mapped m) ts)) (cons_mapped a.cons)
      ∙ ap (λ (ks : List ℕ). (m.symbols a.symbol ∷ map m.symbols (made_by_cons a.cons)) ++ ks) (types_mapped ts)
      ∙ sym (map-append m.symbols (a.symbol ∷ made_by_cons a.cons) (made_by_types ts))

  definitions_mapped : (ds : List DefinitionTree) → map (λ (d : DefinitionTree). d.symbol) (map (definition_mapped m) ds) ≡ map m.symbols (map (λ (d : DefinitionTree). d.symbol) ds)
  definitions_mapped [] = refl
  definitions_mapped (d ∷ ds) = ap (λ (ks : List ℕ). m.symbols d.symbol ∷ ks) (definitions_mapped ds)

  inductives_mapped : (is : List InductiveTree) → map (λ (i : InductiveTree). i.symbol) (map (inductive_mapped m) is) ≡ map m.symbols (map (λ (i : InductiveTree). i.symbol) is)
  inductives_mapped [] = refl
  inductives_mapped (i ∷ is) = ap (λ (ks : List ℕ). m.symbols i.symbol ∷ ks) (inductives_mapped is)

  pub made_mapped : (b : BodyTree) → made_by (body_mapped m b) ≡ map m.symbols (made_by b)
  made_mapped (MakesType k) = refl
  made_mapped (Makes k) = refl
  made_mapped (Defines ds) = definitions_mapped ds
  made_mapped (Induces is) = inductives_mapped is
  made_mapped (Constructs ts) = types_mapped ts
  made_mapped (Says a) = refl

  -- a constructor becomes a constructor
  module _ (k : ℕ) where
    abbrev IsAlone : List ℕ → Type 0
    IsAlone ks = All (λ (j : ℕ). m.symbols j ≡ m.symbols k → j ≡ k) ks

    test_mapped : (j : ℕ) → (m.symbols j ≡ m.symbols k → j ≡ k) → (m.symbols j == m.symbols k) ≡ (j == k)
    test_mapped j h = of (j == k) refl
      where
        of : (b : Bool) → (j == k) ≡ b → (m.symbols j == m.symbols k) ≡ b
        of true q = let e : j ≡ k = grind (arith, nat_tests) in let f : m.symbols j ≡ m.symbols k = ap m.symbols e in grind (arith, nat_tests)
        of false q = let n : j ≢ k = grind (arith, nat_tests) in let f : m.symbols j ≢ m.symbols k = λ e. n (h e) in grind (arith, nat_tests)

    position_mapped : (n : ℕ) (ps : List ℕ) → IsAlone ps → position_from (λ j. j == m.symbols k) n (map m.symbols ps) ≡ position_from (λ j. j == k) n ps
    position_mapped n [] h = refl
    position_mapped n (p ∷ ps) h = cc (test_mapped p (All-head (λ (j : ℕ). m.symbols j ≡ m.symbols k → j ≡ k) p ps h), position_mapped (n + 1) ps (All-tail (λ (j : ℕ). m.symbols j ≡ m.symbols k → j ≡ k) p ps h))

    abbrev IsSameRole : RoleTree → RoleTree → Type 0
    IsSameRole q r = (is_plain q ≡ is_plain r) × (is_constructor q ≡ is_constructor r)

    or_mapped : (q q' r r' : RoleTree) → IsSameRole q q' → IsSameRole r r' → IsSameRole (or_role q r) (or_role q' r')
    or_mapped q q' r r' a b = of (is_plain q) (is_plain q') refl refl a.0
      where
        of : (x y : Bool) → is_plain q ≡ x → is_plain q' ≡ y → x ≡ y → IsSameRole (cond x r q) (cond y r' q')
        of true true c d e = b
        of false false c d e = a
        of true false c d e = absurd (cc)
        of false true c d e = absurd (cc)

    at_mapped : (c c' : ConstructorTree) (o : Option ℕ) → IsSameRole (projection_at c' o) (projection_at c o)
    at_mapped c c' None = (refl, refl)
    at_mapped c c' (Some n) = (refl, refl)

    projected_mapped : (c : ConstructorTree) → IsAlone c.projections → IsSameRole (projected_as (m.symbols k) (con_mapped m c)) (projected_as k c)
    projected_mapped c h = subst (λ (o : Option ℕ). IsSameRole (projection_at (con_mapped m c) o) (projected_as k c)) (sym (position_mapped 0 c.projections h)) (at_mapped c (con_mapped m c) (position_from (λ j. j == k) 0 c.projections))

    test_roles : (a b : Bool) (p p' q q' : RoleTree) → a ≡ b → IsSameRole p p' → IsSameRole q q' → IsSameRole (cond a p q) (cond b p' q')
    test_roles true true p p' q q' e x y = x
    test_roles false false p p' q q' e x y = y
    test_roles true false p p' q q' e x y = absurd (cc)
    test_roles false true p p' q q' e x y = absurd (cc)

    constructed_mapped : (cs : List ConstructorTree) → IsAlone (made_by_cons cs) → IsSameRole (constructed_as (m.symbols k) (map (con_mapped m) cs)) (constructed_as k cs)
    constructed_mapped [] h = (refl, refl)
    constructed_mapped (c ∷ cs) h =
        let P : ℕ → Type 0 = λ j. m.symbols j ≡ m.symbols k → j ≡ k in
        let own : All P (c.symbol ∷ c.projections) = front P (c.symbol ∷ c.projections) (made_by_cons cs) h in
        test_roles (m.symbols c.symbol == m.symbols k) (c.symbol == k) _ _ _ _ (test_mapped c.symbol (All-head P c.symbol c.projections own)) (refl, refl)
        (or_mapped _ _ _ _ (projected_mapped c (All-tail P c.symbol c.projections own)) (constructed_mapped cs (back P (c.symbol ∷ c.projections) (made_by_cons cs) h)))

    algebraic_role : (ts : List AlgebraicTree) → IsAlone (made_by_types ts) → IsSameRole (algebraic_as (m.symbols k) (map (algebraic_mapped m) ts)) (algebraic_as k ts)
    algebraic_role [] h = (refl, refl)
    algebraic_role (a ∷ ts) h =
        let P : ℕ → Type 0 = λ j. m.symbols j ≡ m.symbols k → j ≡ k in
        let own : All P (a.symbol ∷ made_by_cons a.cons) = front P (a.symbol ∷ made_by_cons a.cons) (made_by_types ts) h in
        test_roles (m.symbols a.symbol == m.symbols k) (a.symbol == k) _ _ _ _ (test_mapped a.symbol (All-head P a.symbol (made_by_cons a.cons) own)) (refl, refl)
        (or_mapped _ _ _ _ (constructed_mapped a.cons (All-tail P a.symbol (made_by_cons a.cons) own)) (algebraic_role ts (back P (a.symbol ∷ made_by_cons a.cons) (made_by_types ts) h)))

    defined_no : (ds : List DefinitionTree) → is_constructor (defined_as k ds) ≡ false
    defined_no [] = refl
    defined_no (d ∷ ds) = of (d.symbol == k) (defined_no ds)
      where
        of : (b : Bool) → is_constructor (defined_as k ds) ≡ false → is_constructor (cond b (DefinedRole d.equation) (defined_as k ds)) ≡ false
        of true h = refl
        of false h = h

    inductive_no : (is : List InductiveTree) → is_constructor (inductive_as k is) ≡ false
    inductive_no [] = refl
    inductive_no (i ∷ is) = of (i.symbol == k) (inductive_no is)
      where
        of : (b : Bool) → is_constructor (inductive_as k is) ≡ false → is_constructor (cond b (InductiveRole i.clauses) (inductive_as k is)) ≡ false
        of true h = refl
        of false h = h

    never : (b : Bool) → b ≡ false → IsTrue b → ⊥
    never true q h = let e : true ≡ false = q in cc
    never false q h = let e : false ≡ true = h in cc

    pub role_mapped : (b : BodyTree) → IsAlone (made_by b) → IsTrue (is_constructor (role_in k b)) → IsTrue (is_constructor (role_in (m.symbols k) (body_mapped m b)))
    role_mapped (MakesType j) h c = absurd (never false refl c)
    role_mapped (Makes j) h c = absurd (never false refl c)
    role_mapped (Defines ds) h c = absurd (never (is_constructor (defined_as k ds)) (defined_no ds) c)
    role_mapped (Induces is) h c = absurd (never (is_constructor (inductive_as k is)) (inductive_no is) c)
    role_mapped (Constructs ts) h c = subst (λ (b : Bool). IsTrue b) (sym (algebraic_role ts h).1) c
    role_mapped (Says a) h c = absurd (never false refl c)

-- ---- numbers under a map
pub in_mapped : (f : ℕ → ℕ) (ks : List ℕ) (j : ℕ) → Contains (map f ks) j → (k : ℕ) × (Contains ks k) × (f k ≡ j)
in_mapped f [] j c = absurd (none_in j c)
in_mapped f (k ∷ ks) j (zero, l, q) = (k, (0, omega arith, refl), q)
in_mapped f (k ∷ ks) j (suc i, l, q) = let r = in_mapped f ks j (i, omega (arith, l), q) in (r.0, (suc r.1.0, let b = r.1.1 in omega (arith, b), r.1.2), r.2)

mapped_in : (f : ℕ → ℕ) (ks : List ℕ) (k : ℕ) → Contains ks k → Contains (map f ks) (f k)
mapped_in f [] k c = absurd (none_in k c)
mapped_in f (x ∷ ks) k (zero, l, q) = (0, omega arith, ap f q)
mapped_in f (x ∷ ks) k (suc i, l, q) = let r = mapped_in f ks k (i, omega (arith, l), q) in (suc r.0, let b = r.1 in omega (arith, b), r.2)

distinct_mapped : (f : ℕ → ℕ) (ks : List ℕ) → ((j k : ℕ) → Contains ks j → Contains ks k → f j ≡ f k → j ≡ k) → IsDistinct ks → IsDistinct (map f ks)
distinct_mapped f [] h d = tt
distinct_mapped f (k ∷ ks) h d = (
  (λ c. let r = in_mapped f ks (f k) c in let e : r.0 ≡ k = h r.0 k (suc r.1.0, let b = r.1.1 in omega (arith, b), r.1.2) (0, omega arith, refl) r.2 in d.0 (subst (λ (i : ℕ). Contains ks i) e r.1)),
  distinct_mapped f ks (λ i j a b e. h i j (suc a.0, let x = a.1 in omega (arith, x), a.2) (suc b.0, let x = b.1 in omega (arith, x), b.2) e) d.1,
)

pub kinds_become : (k : SymbolKind) → k ≢ Kind → KindBecomes k k
kinds_become Kind n = absurd (n refl)
kinds_become Predicate n = refl
kinds_become _ n = tt

-- ---- a copy
module _ (xs : List SymbolTree) (pre : List DeclarationTree) (m : Map) (symbols : List SymbolTree) (now : List DeclarationTree) (h : IsCloning xs pre m symbols now) (d : DeclarationTree) (whole : AreSound xs (pre ++ d ∷ []))
    (theory within : List ℕ) (named : is_empty theory ≡ false) (source : bytes_eq theory builtin ≡ false) (news : All (BecomesNew xs symbols m theory within) (made_by d.body)) (apart : (k : ℕ) → Contains (made_by d.body) k → Contains (made now) (m.symbols k) → ⊥) (numbers : BecomesNumbered m d) where
  abbrev copy : DeclarationTree
  copy = declaration_copied m theory within d

  abbrev w : Vocabulary
  w = after symbols [] (now ++ copy ∷ [])

  new_at : (k : ℕ) → Contains (made_by d.body) k → BecomesNew xs symbols m theory within k
  new_at k c = All-contains (BecomesNew xs symbols m theory within) (made_by d.body) k news c

  last_made : (k : ℕ) → Contains (made_by d.body) k → Contains (made (pre ++ d ∷ [])) k
  last_made k c = subst (λ (ks : List ℕ). Contains ks k) (sym (made_both pre (d ∷ []))) (Contains-append_right (made pre) (made (d ∷ [])) k (Contains-append_left (made_by d.body) [] k c))

  there : (k : ℕ) → Contains (made_by d.body) k → k < length xs
  there k c = made_below xs (pre ++ d ∷ []) whole k (last_made k c)

  entry_is : (k : ℕ) → Contains (made_by d.body) k → symbol_or symbols (m.symbols k) ≡ entry_copied m theory within (symbol_or xs k)
  entry_is k c = slice_or symbols (m.symbols k) (entry_copied m theory within (symbol_or xs k)) (new_at k c).entry

  types_kept : (k : ℕ) → HasMappedTypes m (symbol_or xs k) (entry_copied m theory within (symbol_or xs k))
  types_kept k = record { vars = refl; args = refl; result = refl }

  copy_makes : (k : ℕ) → Contains (made_by d.body) k → Contains (made_by copy.body) (m.symbols k)
  copy_makes k c = subst (λ (ks : List ℕ). Contains ks (m.symbols k)) (sym (made_mapped m d.body)) (mapped_in m.symbols (made_by d.body) k c)

  copy_made : (k : ℕ) → Contains (made_by d.body) k → Contains (made (now ++ copy ∷ [])) (m.symbols k)
  copy_made k c = subst (λ (ks : List ℕ). Contains ks (m.symbols k)) (sym (made_both now (copy ∷ []))) (Contains-append_right (made now) (made (copy ∷ [])) (m.symbols k) (Contains-append_left (made_by copy.body) [] (m.symbols k) (copy_makes k c)))

  usable_copy : (k : ℕ) → Contains (made_by d.body) k → IsTrue (w.usable (m.symbols k))
  usable_copy k c = right_of (passes is_built (slice_get symbols (m.symbols k))) (is_some (maker (now ++ copy ∷ []) (m.symbols k))) (made_maker (m.symbols k) (now ++ copy ∷ []) (copy_made k c))

  none_before : (k : ℕ) → Contains (made_by d.body) k → maker now (m.symbols k) ≡ None
  none_before k c = of (maker now (m.symbols k)) refl
    where
      of : (o : Option DeclarationTree) → maker now (m.symbols k) ≡ o → o ≡ None
      of None q = refl
      of (Some b) q = absurd (apart k c (maker_made (m.symbols k) now (subst (λ (o : Option DeclarationTree). IsTrue (is_some o)) (sym q) refl)))

  maker_copy : (k : ℕ) → Contains (made_by d.body) k → maker (now ++ copy ∷ []) (m.symbols k) ≡ Some copy
  maker_copy k c =
      let is : is_made_by (m.symbols k) copy.body ≡ true = (any_iff (m.symbols k) (made_by copy.body)).1 (copy_makes k c) in
      maker_both now (copy ∷ []) (m.symbols k) ∙ ap (λ (o : Option DeclarationTree). option_or o (maker (copy ∷ []) (m.symbols k))) (none_before k c) ∙ ap (λ (b : Bool). cond b (Some copy) None) is

  alone_in : (k : ℕ) → Contains (made_by d.body) k → All (λ (j : ℕ). m.symbols j ≡ m.symbols k → j ≡ k) (made_by d.body)
  alone_in k c = λ i j l e. (new_at k c).alone (get_or (made_by d.body) i j) (there (get_or (made_by d.body) i j) (Contains-get_or (made_by d.body) i j l)) e

  matched_copy : (k : ℕ) → Contains (made_by d.body) k → IsTrue (is_constructor (role_in k d.body)) → IsTrue (w.matched (m.symbols k))
  matched_copy k c r =
      right_of (passes (λ (e : SymbolTree). is_built e && is_constructor_kind e.kind) (slice_get symbols (m.symbols k))) (is_constructor (role_by (m.symbols k) (maker (now ++ copy ∷ []) (m.symbols k))))
      (subst (λ (o : Option DeclarationTree). IsTrue (is_constructor (role_by (m.symbols k) o))) (sym (maker_copy k c)) (role_mapped m k d.body (alone_in k c) r))

  image : (k : ℕ) → Contains (made_by d.body) k → IsImage w m (symbol_or xs k) k (is_constructor (role_in k d.body))
  image k c =
      let n = new_at k c in
      record {
        type = λ q. subst (λ (o : Option Tree). TypeBecomes w (symbol_or xs k).vars (m.symbols k) o) (sym n.kept) (usable_copy k c, rw n.entry (q, refl));
        symbol = λ z. (usable_copy k c, rw n.entry (kinds_become (symbol_or xs k).kind z, types_kept k));
        constructor = λ r q. (matched_copy k c r, rw n.entry (q, types_kept k));
      }

  pub morphism_copied : IsMorphism (after xs [] (pre ++ d ∷ [])) w m
  morphism_copied = morphism_next xs pre d w m (morphism_more (after symbols [] now) w (list_part symbols [] now (copy ∷ [])) (after xs [] pre) m h.morphism) image

  copied_at : (k : ℕ) → Contains (made_by d.body) k → IsCopied (after xs [] (pre ++ d ∷ [])) w m k
  copied_at k c =
      let n = new_at k c in
      record {
        kept = n.kept;
        there = slice_below symbols (m.symbols k) (entry_copied m theory within (symbol_or xs k)) n.entry;
        kind = ap (λ (e : SymbolTree). e.kind) (entry_is k c);
        types = subst (HasMappedTypes m (symbol_or xs k)) (sym (entry_is k c)) (types_kept k);
        alone = n.alone;
      }

  valid_last : IsValidDecl (after xs [] (pre ++ d ∷ [])) d
  valid_last = All-contains (IsValidDecl (after xs [] (pre ++ d ∷ []))) (pre ++ d ∷ []) d (list_valid xs [] (pre ++ d ∷ []) whole.valid) (Contains-append_right pre (d ∷ []) d (0, omega arith, refl))

  valid_copy : IsValidDecl w copy
  valid_copy = declaration_valid (after xs [] (pre ++ d ∷ [])) w m morphism_copied (typed_list xs (pre ++ d ∷ []) whole) theory within d (λ i j l. copied_at (get_or (made_by d.body) i j) (Contains-get_or (made_by d.body) i j l)) valid_last

  own_copied : All (IsOwnSymbol symbols) (made_by copy.body)
  own_copied = subst (All (IsOwnSymbol symbols)) (sym (made_mapped m d.body)) (All-map (IsOwnSymbol symbols) m.symbols (made_by d.body) (λ i j l. own_at (get_or (made_by d.body) i j) (Contains-get_or (made_by d.body) i j l)))
    where
      own_at : (k : ℕ) → Contains (made_by d.body) k → IsOwnSymbol symbols (m.symbols k)
      own_at k c = record { stands = ap (λ (e : SymbolTree). is_empty e.theory) (entry_is k c) ∙ named; other = ap (λ (e : SymbolTree). bytes_eq e.theory builtin) (entry_is k c) ∙ source }

  of_theory : IsOfTheory symbols copy
  of_theory = subst (All (λ (k : ℕ). (symbol_or symbols k).theory ≡ theory)) (sym (made_mapped m d.body)) (All-map (λ (k : ℕ). (symbol_or symbols k).theory ≡ theory) m.symbols (made_by d.body) (λ i j l. ap (λ (e : SymbolTree). e.theory) (entry_is (get_or (made_by d.body) i j) (Contains-get_or (made_by d.body) i j l))))

  abbrev HasTheirs : DeclarationTree → Type 0
  HasTheirs b = HasRecords symbols (made_by b.body)

  records_copied : HasTheirs copy
  records_copied = subst (HasRecords symbols) (sym (made_mapped m d.body)) (numbered_records symbols numbers.0 (map m.symbols (made_by d.body)) numbers.1 (first (made_by d.body) refl))
    where
      old : HasRecords xs (made_by d.body)
      old = All-contains (λ (b : DeclarationTree). HasRecords xs (made_by b.body)) (pre ++ d ∷ []) d whole.records (Contains-append_right pre (d ∷ []) d (0, omega arith, refl))

      first : (ks : List ℕ) → made_by d.body ≡ ks → (k : ℕ) → slice_get (map m.symbols ks) 0 ≡ Some k → is_projection (symbol_or symbols k).kind ≡ false
      first [] q k e = absurd (cc (e))
      first (j ∷ js) q k e =
          let z : m.symbols j ≡ k = cc (e) in
          let c : Contains (made_by d.body) j = subst (λ (ks : List ℕ). Contains ks j) (sym q) (0, omega arith, refl) in
          let kind : (symbol_or symbols (m.symbols j)).kind ≡ (symbol_or xs j).kind = ap (λ (i : SymbolTree). i.kind) (entry_is j c) in
          subst (λ (i : ℕ). is_projection (symbol_or symbols i).kind ≡ false) z (ap is_projection kind ∙ old.first j (ap (λ (ks : List ℕ). slice_get ks 0) q))

  made_copy : made (now ++ copy ∷ []) ≡ made now ++ map m.symbols (made_by d.body)
  made_copy = made_both now (copy ∷ []) ∙ ap (λ (ks : List ℕ). made now ++ ks) (append-nil (made_by copy.body) ∙ made_mapped m d.body)

  distinct_copy : IsDistinct (made (now ++ copy ∷ []))
  distinct_copy =
      let old : IsDistinct (made_by d.body) = distinct_middle (made pre) (made_by d.body) [] (subst IsDistinct (made_both pre (d ∷ [])) (pairs_distinct (made (pre ++ d ∷ [])) whole.once)) in
      subst IsDistinct (sym made_copy)
      (distinct_both (made now) (map m.symbols (made_by d.body)) (pairs_distinct (made now) h.sound.once)
      (distinct_mapped m.symbols (made_by d.body) (λ j k a b e. (new_at k b).alone j (there j a) e) old)
      (λ i a b. let r = in_mapped m.symbols (made_by d.body) i b in apart r.0 r.1 (subst (λ (j : ℕ). Contains (made now) j) (sym r.2) a)))

  pub cloning_copied : IsCloning xs (pre ++ d ∷ []) m symbols (now ++ copy ∷ [])
  cloning_copied = record {
    source = whole;
    sound = record {
      built = h.sound.built;
      valid = then_valid symbols [] now (copy ∷ []) h.sound.valid (valid_copy, tt);
      once = distinct_pairs (made (now ++ copy ∷ [])) distinct_copy;
      own = subst (All (IsOwnSymbol symbols)) (sym (made_both now (copy ∷ []) ∙ ap (λ (ks : List ℕ). made now ++ ks) (append-nil (made_by copy.body)))) (All-append (IsOwnSymbol symbols) (made now) (made_by copy.body) h.sound.own own_copied);
      theories = All-append (IsOfTheory symbols) now (copy ∷ []) h.sound.theories (All-cons (IsOfTheory symbols) copy [] of_theory (All-nil (IsOfTheory symbols)));
      records = All-append HasTheirs now (copy ∷ []) h.sound.records (All-cons HasTheirs copy [] records_copied (All-nil HasTheirs));
    };
    morphism = morphism_copied;
  }
