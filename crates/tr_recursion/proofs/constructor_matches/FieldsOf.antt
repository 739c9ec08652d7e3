-- The projections of a constructor's application with the fields that they give, and what a pattern of variables and wildcards asks.
use Rattle.std.proofs.Common.{◌≡◌, ℕ, suc, ◌+◌, ◌<◌, IsSomeAnd, Bool, true, false, if◌then◌else◌, List, [], ◌∷◌, ◌++◌, map, length, slice_get, Option, Some, inl, inr, refl, sym, subst, ap, ◌∙◌, arith}
use Rattle.std.specs.List.{list_all}
use Rattle.std.proofs.lemmas.Option.{slice_get-get_or}
use Rattle.tasks.proofs.plain_laws.Bools.{and_first, and_second}
use Rattle.trees.specs.declared.Sort.{Sort}
use Rattle.trees.specs.declared.Sort.TheVariants.{Term}
use Rattle.trees.specs.declared.Sort.TheVariants as sort
use Rattle.trees.specs.Tree.{Tree, Leaf, One, Two, Three, Head, HEnd, HCell, HEq, HFun, HPatVar, HPatAlias, HPatAny, HPatCon}
use Rattle.trees.specs.Sorts.{WellSorted, IsList, sort_of, type_of}
use Rattle.trees.specs.Binding.{inst_types}
use Rattle.trees.specs.Facts.{Each}
use Rattle.tasks.specs.Task.{TaskTree, SymbolTree, ConstructorTree, int_symbol, symbol_or}
use Rattle.tasks.specs.Roles.{ProjectionRole, role}
use Rattle.tasks.specs.Vocabulary.{of_task}
use Rattle.tasks.specs.Typing.{members, IsUse, HasResult, MakesTerms, TypedUnder}
use Rattle.tasks.specs.Equations.{cells}
use Rattle.tasks.specs.Conjunctions.{conjunction}
use Rattle.tasks.proofs.Closing.{typed_sorted}
use Rattle.tasks.specs.MatchTests.{result_at, fields, rebuilt, constructor_projections, tests, test, pattern_terms, bind, other_terms, top}
use Rattle.tasks.specs.Valid.{IsGround, IsValid, own_type}
use Rattle.congruence.specs.kernel.Right.{IsGroundExpression}
use Rattle.tr_inline.proofs.inlining.images.Constructors.{con_projections}
use Rattle.tr_inline.proofs.inlining.images.PatternTyping.{IsConPattern, con_pattern}
use Rattle.tr_inline.proofs.inlining.images.DataTerms.{IsTermUnder, cells_list, cells_typed, con_fields_typed, con_fields_types, rebuilt_typed, cells_members}
use Rattle.tr_recursion.proofs.branch_instances.Projections.{projection_role}
use Rattle.tr_inline.specs.inlining.branch_equations.Branches.{is_plain_field, is_variable_field, bound_fields}
use Rattle.tr_recursion.specs.constructor_matches.Fields.{IsFieldOf, IsClosedField, AreEach}

-- ---- a pattern of variables and wildcards
module _ (t : TaskTree) where
  one_plain : (p : Tree) (ss : List Tree) → is_plain_field p ≡ true → tests t p ss ≡ []
  one_plain (One HPatVar ty) ss k = refl
  one_plain (One HPatAny ty) ss k = refl
  one_plain _ ss k = absurd (cc)

  one_tested : (h : Head) (p : Tree) (ss : List Tree) → sort_of (One h p) ≡ sort.List → tests t (One h p) ss ≡ []
  one_tested HPatAlias p ss l = absurd (cc)
  one_tested _ p ss l = refl

  three_tested : (h : Head) (a b c : Tree) (ss : List Tree) → sort_of (Three h a b c) ≡ sort.List → tests t (Three h a b c) ss ≡ []
  three_tested (HPatCon k) a b c ss l = absurd (cc)
  three_tested _ a b c ss l = refl

  pub plain_tests : (ps : Tree) (ss : List Tree) → list_all is_plain_field (members ps) ≡ true → sort_of ps ≡ sort.List → WellSorted ps → tests t ps ss ≡ []
  plain_tests (Leaf h) ss k l w = refl
  plain_tests (One h p) ss k l w = one_tested h p ss l
  plain_tests (Two HCell p ps) ss k l w =
      let a = one_plain p (top ss ∷ []) (and_first (is_plain_field p) (list_all is_plain_field (members ps)) k) in
      ap (λ (z : List Tree). z ++ tests t ps (other_terms ss)) a ∙ plain_tests ps (other_terms ss) (and_second (is_plain_field p) (list_all is_plain_field (members ps)) k) w.0.0.1.0 w.2
  plain_tests (Two _ p ps) ss k l w = refl
  plain_tests (Three h a b c) ss k l w = three_tested h a b c ss l

  one_bound : (p s : Tree) (more : List Tree) → is_plain_field p ≡ true → pattern_terms t p (s ∷ []) ++ more ≡ (if is_variable_field p then s ∷ more else more)
  one_bound (One HPatVar ty) s more k = refl
  one_bound (One HPatAny ty) s more k = refl
  one_bound _ s more k = absurd (cc)

  one_listed : (h : Head) (p : Tree) (ss : List Tree) → sort_of (One h p) ≡ sort.List → pattern_terms t (One h p) ss ≡ []
  one_listed HPatVar p ss l = absurd (cc)
  one_listed HPatAlias p ss l = absurd (cc)
  one_listed _ p ss l = refl

  three_listed : (h : Head) (a b c : Tree) (ss : List Tree) → sort_of (Three h a b c) ≡ sort.List → pattern_terms t (Three h a b c) ss ≡ []
  three_listed (HPatCon k) a b c ss l = absurd (cc)
  three_listed _ a b c ss l = refl

  -- the terms for its variables, where there is one for each of its parts
  pub plain_bound : (ps : Tree) (ss : List Tree) → list_all is_plain_field (members ps) ≡ true → sort_of ps ≡ sort.List → WellSorted ps → length (members ps) ≡ length ss → pattern_terms t ps ss ≡ bound_fields (members ps) ss
  plain_bound (Leaf h) [] k l w n = refl
  plain_bound (Leaf h) (s ∷ ss) k l w n = absurd (omega (arith, n))
  plain_bound (One h p) ss k l w n = one_listed h p ss l
  plain_bound (Two HCell p ps) (s ∷ ss) k l w n =
      one_bound p s (pattern_terms t ps ss) (and_first (is_plain_field p) (list_all is_plain_field (members ps)) k)
      ∙ ap (λ (z : List Tree). if is_variable_field p then s ∷ z else z) (plain_bound ps ss (and_second (is_plain_field p) (list_all is_plain_field (members ps)) k) w.0.0.1.0 w.2 (omega (arith, n)))
  plain_bound (Two HCell p ps) [] k l w n = absurd (omega (arith, n))
  plain_bound (Two _ p ps) ss k l w n = refl
  plain_bound (Three h a b c) ss k l w n = three_listed h a b c ss l

-- its test
pub plain_test : (t : TaskTree) (k : ℕ) (a ps c s : Tree) → list_all is_plain_field (members ps) ≡ true → TypedUnder (of_task t) [] (Three (HPatCon k) a ps c) → test t (Three (HPatCon k) a ps c) s ≡ Two HEq s (rebuilt t k (constructor_projections t k) a s)
plain_test t k a ps c s plain p =
    ap (λ (es : List Tree). conjunction (Two HEq s (rebuilt t k (constructor_projections t k) a s) ∷ es)) (plain_tests t ps (fields t (constructor_projections t k) a s) plain p.0.1.0 (typed_sorted (of_task t) [] ps p.3))

pub bound_each : (R : Tree → Tree → Type 0) (qs ps zs : List Tree) → AreEach R ps zs → AreEach R (bound_fields qs ps) (bound_fields qs zs)
bound_each R [] [] [] h = tt
bound_each R [] (p ∷ ps) (z ∷ zs) h = tt
bound_each R [] [] (z ∷ zs) h = absurd h
bound_each R [] (p ∷ ps) [] h = absurd h
bound_each R (q ∷ qs) [] [] h = tt
bound_each R (q ∷ qs) [] (z ∷ zs) h = absurd h
bound_each R (q ∷ qs) (p ∷ ps) [] h = absurd h
bound_each R (q ∷ qs) (p ∷ ps) (z ∷ zs) h = by (is_variable_field q) (bound_each R qs ps zs h.1)
  where
    by : (b : Bool) → AreEach R (bound_fields qs ps) (bound_fields qs zs) → AreEach R (if b then p ∷ bound_fields qs ps else bound_fields qs ps) (if b then z ∷ bound_fields qs zs else bound_fields qs zs)
    by true g = (h.0, g)
    by false g = g

length_types : (f : Tree → Option Tree) (g : Tree → Option Tree) (xs ys : List Tree) → map f xs ≡ map g ys → length xs ≡ length ys
length_types f g [] [] e = refl
length_types f g [] (y ∷ ys) e = absurd (cc)
length_types f g (x ∷ xs) [] e = absurd (cc)
length_types f g (x ∷ xs) (y ∷ ys) e = let q : map f xs ≡ map g ys = cc in ap suc (length_types f g xs ys q)

-- the members of a list of closed terms
abbrev pub IsGroundTerm : TaskTree → Tree → Type 0
IsGroundTerm t e = (sort_of e ≡ Term) × IsGroundExpression t e

pub ground_members : (t : TaskTree) (us : List Tree) → IsList Term (cells us) → TypedUnder (of_task t) [] (cells us) → IsGround (cells us) → Each (IsGroundTerm t) us
ground_members t [] l x g = tt
ground_members t (u ∷ us) l x g =
    let k : sort_of u ≡ Term = elim l.1 [ inl n ↦ absurd (cc) | inr s ↦ cc ] in
    ((k, record { sort = inl k; typed = x.2; ground = g.0 }), ground_members t us (subst (λ (z : Sort). IsList z (cells us)) k x.0.0.1) x.3 g.1)

pub closed_fields : (t : TaskTree) (ps zs : List Tree) → AreEach (IsFieldOf t) ps zs → Each (IsGroundTerm t) ps → Each (IsGroundTerm t) zs → map type_of ps ≡ map type_of zs → AreEach (IsClosedField t) ps zs
closed_fields t [] [] h a b e = tt
closed_fields t [] (z ∷ zs) h a b e = absurd h
closed_fields t (p ∷ ps) [] h a b e = absurd h
closed_fields t (p ∷ ps) (z ∷ zs) h a b e =
    let q : type_of p ≡ type_of z = cc in
    let r : map type_of ps ≡ map type_of zs = cc in
    (record { field = h.0; projected = a.0.1; given = b.0.1; term = a.0.0; given_term = b.0.0; type = sym q }, closed_fields t ps zs h.1 a.1 b.1 r)

-- ---- a constructor's application, asked by a pattern of the constructor
module _ (t : TaskTree) (valid : IsValid t) (k : ℕ) (a c ps : Tree) (zs : List Tree) (s : TypedUnder (of_task t) [] (Three (HFun k) a (cells zs) c)) (p : TypedUnder (of_task t) [] (Three (HPatCon k) a ps c)) where
  abbrev S : Tree
  S = Three (HFun k) a (cells zs) c

  abbrev pub own_fields : List Tree
  own_fields = fields t (constructor_projections t k) a S

  pattern : IsConPattern t valid [] k a ps c
  pattern = con_pattern t valid [] k a ps c p

  abbrev con : ConstructorTree
  con = pattern.con.con

  js : constructor_projections t k ≡ con.projections
  js = con_projections t valid k pattern.con

  asked_type : type_of S ≡ Some (inst_types (own_type pattern.con.known.type pattern.con.known.vars) (members a))
  asked_type = pattern.type

  term : IsTermUnder (of_task t) [] S
  term = (refl, s)

  pub fields_typed : Each (IsTermUnder (of_task t) []) own_fields
  fields_typed = subst (λ (is : List ℕ). Each (IsTermUnder (of_task t) []) (fields t is a S)) (sym js)
      (con_fields_typed t [] a p.0.0 p.2 pattern.con.known.type pattern.con.known.vars S pattern.count term asked_type con pattern.con.known.is pattern.con.known.made)

  types_of_fields : map type_of own_fields ≡ map (λ (z : Tree). Some (inst_types z (members a))) con.fields
  types_of_fields = ap (λ (is : List ℕ). map type_of (fields t is a S)) js ∙ con_fields_types t [] a p.0.0 p.2 pattern.con.known.type pattern.con.known.vars S pattern.count term asked_type con pattern.con.known.is pattern.con.known.made

  own_use : IsUse (symbol_or t.symbols k) a (cells zs)
  own_use =
      let l : k < length t.symbols = subst (λ (n : ℕ). n < length t.symbols) pattern.con.symbol pattern.con.known.is.signature.entry in
      (subst (λ (o : Option SymbolTree). IsSomeAnd o (λ e. MakesTerms e.kind × IsUse e a (cells zs) × HasResult e a c)) (slice_get-get_or t.symbols k int_symbol l) s.1.1).1

  types_of_own : map type_of zs ≡ map (λ (z : Tree). Some (inst_types z (members a))) con.fields
  types_of_own =
      let same : (symbol_or t.symbols k).args ≡ con.fields = sym (ap (λ (n : ℕ). (symbol_or t.symbols n).args) pattern.con.symbol) ∙ pattern.con.known.is.args in
      ap (map type_of) (sym (cells_members zs)) ∙ own_use.fit ∙ ap (map (λ (z : Tree). Some (inst_types z (members a)))) same

  pub types_same : map type_of own_fields ≡ map type_of zs
  types_same = types_of_fields ∙ sym types_of_own

  as_many : length own_fields ≡ length zs
  as_many = length_types type_of type_of own_fields zs types_same

  fields_from : (n : ℕ) (is : List ℕ) (rs : List Tree) → ((j i : ℕ) → slice_get is j ≡ Some i → role t i ≡ ProjectionRole con (n + j)) → ((j : ℕ) (z : Tree) → slice_get rs j ≡ Some z → slice_get zs (n + j) ≡ Some z) → length is ≡ length rs → AreEach (IsFieldOf t) (fields t is a S) rs
  fields_from n [] [] f g l = tt
  fields_from n [] (r ∷ rs) f g l = absurd (omega (arith, l))
  fields_from n (i ∷ is) [] f g l = absurd (omega (arith, l))
  fields_from n (i ∷ is) (r ∷ rs) f g l = (
    record {
      projection = i;
      types = a;
      result = result_at (symbol_or t.symbols i).result a;
      con = con;
      place = n;
      con_types = a;
      args = cells zs;
      con_type = c;
      is = ap (λ (m : ℕ). Three (HFun i) a (Two HCell (Three (HFun m) a (cells zs) c) (Leaf HEnd)) (result_at (symbol_or t.symbols i).result a)) (sym pattern.con.symbol);
      role = let m : n + 0 ≡ n = omega arith in f 0 i refl ∙ ap (ProjectionRole con) m;
      there = let m : n + 0 ≡ n = omega arith in ap (λ (us : List Tree). slice_get us n) (cells_members zs) ∙ ap (slice_get zs) (sym m) ∙ g 0 r refl;
    },
    fields_from (n + 1) is rs (λ j i e. let m : n + suc j ≡ n + 1 + j = omega arith in f (suc j) i e ∙ ap (ProjectionRole con) m)
        (λ j z e. let m : n + 1 + j ≡ n + suc j = omega arith in ap (slice_get zs) m ∙ g (suc j) z e) (omega (arith, l)),
  )

  length_fields : (is : List ℕ) → length (fields t is a S) ≡ length is
  length_fields [] = refl
  length_fields (i ∷ is) = ap suc (length_fields is)

  fields_of : AreEach (IsFieldOf t) own_fields zs
  fields_of =
      let is = constructor_projections t k in
      fields_from 0 is zs
      (λ j i e. projection_role k i j con (subst (λ (z : List ℕ). slice_get z j ≡ Some i) js e) t valid pattern.con.role ∙ (let m : j ≡ 0 + j = omega arith in ap (ProjectionRole con) m))
      (λ j z e. let m : 0 + j ≡ j = omega arith in ap (slice_get zs) m ∙ e) (sym (length_fields is) ∙ as_many)

  -- the constructor on these projections
  pub rebuilt_is : rebuilt t k (constructor_projections t k) a S ≡ Three (HFun k) a (cells own_fields) c
  rebuilt_is =
      let r = con_fields_typed t [] a p.0.0 p.2 pattern.con.known.type pattern.con.known.vars S pattern.count term asked_type con pattern.con.known.is pattern.con.known.made in
      let w = rebuilt_typed t [] a p.0.0 p.2 pattern.con.known.type pattern.con.known.vars S pattern.count term asked_type con pattern.con.known.is pattern.con.known.made in
      let q : Some (result_at (symbol_or t.symbols con.symbol).result a) ≡ Some c = w.1 in
      let y : result_at (symbol_or t.symbols k).result a ≡ c = ap (λ (n : ℕ). result_at (symbol_or t.symbols n).result a) (sym pattern.con.symbol) ∙ (let z : result_at (symbol_or t.symbols con.symbol).result a ≡ c = cc in z) in
      ap (Three (HFun k) a (cells own_fields)) y

  pub own_closed : IsGround S → IsGround (cells own_fields) → AreEach (IsClosedField t) own_fields zs
  own_closed g h =
      closed_fields t own_fields zs fields_of (ground_members t own_fields (cells_list (of_task t) [] own_fields fields_typed) (cells_typed (of_task t) [] own_fields fields_typed) h) (ground_members t zs s.0.1 s.3 g.1) types_same

  module _ (plain : list_all is_plain_field (members ps) ≡ true) where
    sorted : WellSorted ps
    sorted = typed_sorted (of_task t) [] ps p.3

    pub test_is : test t (Three (HPatCon k) a ps c) S ≡ Two HEq S (Three (HFun k) a (cells own_fields) c)
    test_is = plain_test t k a ps c S plain p ∙ ap (Two HEq S) rebuilt_is

    pub bind_is : bind t (Three (HPatCon k) a ps c) S ≡ bound_fields (members ps) own_fields
    bind_is = plain_bound t ps own_fields plain p.0.1.0 sorted (length_types type_of (λ (z : Tree). Some (inst_types z (members a))) (members ps) con.fields pattern.fit ∙ sym (length_types type_of (λ (z : Tree). Some (inst_types z (members a))) own_fields con.fields types_of_fields))
