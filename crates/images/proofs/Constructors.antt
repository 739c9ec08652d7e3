-- The constructors of a valid task: what its declarations make a symbol as, and the entries of constructors and projections.
use Rattle.std.proofs.Common.{◌≡◌, ℕ, zero, suc, ◌==◌, Bool, true, false, cond, IsTrue, List, [], ◌∷◌, ◌++◌, get_or, All, Contains, Some, None, Option, refl, sym, subst, ap, IfSome, arith}
use Rattle.std.proofs.lemmas.Bool.Decides.{nat_tests}
use Rattle.std.proofs.lemmas.List.Elements.{Contains-append_left, Contains-append_right}
use Rattle.trees.specs.Tree.{Tree}
use Rattle.trees.proofs.Types.{type_closed}
use Rattle.tasks.specs.Task.{DefinitionTree, InductiveTree, ConstructorTree, AlgebraicTree, BodyTree, MakesType, Makes, Defines, Induces, Constructs, Says, DeclarationTree, TaskTree, made, made_by, made_by_cons, made_by_types, symbol_or}
use Rattle.tasks.specs.Roles.{RoleTree, PlainRole, DefinedRole, InductiveRole, AlgebraicRole, ConstructorRole, ProjectionRole, is_plain, is_constructor, or_role, defined_as, inductive_as, projection_at, projected_as, constructed_as, algebraic_as, role_in, is_made_by, maker, role_by, role}
use Rattle.tasks.specs.Vocabulary.{Vocabulary, of_task}
use Rattle.tasks.specs.MatchTests.{projections_by, constructor_projections}
use Rattle.tasks.specs.Valid.{IsTypeIn, IsSignatureOf, AreProjections, IsConstructorOf, IsAlgebraic, IsValidBody, IsValidDecl, IsValid, own_type}
use Rattle.tasks.proofs.Closing.{typed_sorted}
use Rattle.images.specs.PatternTerms.{HasClosedResult}

-- these numbers are among those
abbrev AreAmong : List ℕ → List ℕ → Type 0
AreAmong ks ms = (j : ℕ) → Contains ks j → Contains ms j

-- a constructor of a valid task, which its declarations make with its projections
pub record IsConOf (v : Vocabulary) (ms : List ℕ) (c : ConstructorTree) : Type 0 where
  pub type : ℕ
  pub vars : ℕ
  pub is : IsConstructorOf v type vars c
  pub made : AreAmong (c.symbol ∷ c.projections) ms

-- an algebraic type of a valid task
pub record IsDataOf (v : Vocabulary) (k : ℕ) (ms : List ℕ) (cs : List ConstructorTree) : Type 0 where
  pub vars : ℕ
  pub are : All (IsConstructorOf v k vars) cs
  pub made : AreAmong (made_by_cons cs) ms

-- what is known of a symbol by its role
abbrev IsKnown : Vocabulary → ℕ → List ℕ → RoleTree → Type 0
IsKnown v k ms (ConstructorRole c) = (c.symbol ≡ k) × IsConOf v ms c
IsKnown v k ms (AlgebraicRole cs) = IsDataOf v k ms cs
IsKnown v k ms _ = Unit {0}

module _ (v : Vocabulary) (k : ℕ) where
  among_wider : (ks ms ns : List ℕ) → AreAmong ms ns → AreAmong ks ms → AreAmong ks ns
  among_wider ks ms ns w a j c = w j (a j c)

  wider : (ms ns : List ℕ) (r : RoleTree) → AreAmong ms ns → IsKnown v k ms r → IsKnown v k ns r
  wider ms ns (ConstructorRole c) w h = (h.0, record { type = h.1.type; vars = h.1.vars; is = h.1.is; made = λ j x. w j (h.1.made j x) })
  wider ms ns (AlgebraicRole cs) w h = record { vars = h.vars; are = h.are; made = λ j x. w j (h.made j x) }
  wider ms ns _ w h = tt

  either : (ms : List ℕ) (b : Bool) (q r : RoleTree) → (b ≡ true → IsKnown v k ms q) → IsKnown v k ms r → IsKnown v k ms (cond b q r)
  either ms true q r f h = f refl
  either ms false q r f h = h

  or_known : (ms : List ℕ) (q r : RoleTree) → IsKnown v k ms q → IsKnown v k ms r → IsKnown v k ms (or_role q r)
  or_known ms q r f h = either ms (is_plain q) r q (λ _. h) f

  defined_known : (ms : List ℕ) (ds : List DefinitionTree) → IsKnown v k ms (defined_as k ds)
  defined_known ms [] = tt
  defined_known ms (d ∷ ds) = either ms (d.symbol == k) (DefinedRole d.equation) (defined_as k ds) (λ _. tt) (defined_known ms ds)

  inductive_known : (ms : List ℕ) (is : List InductiveTree) → IsKnown v k ms (inductive_as k is)
  inductive_known ms [] = tt
  inductive_known ms (i ∷ is) = either ms (i.symbol == k) (InductiveRole i.clauses) (inductive_as k is) (λ _. tt) (inductive_known ms is)

  projected_known : (ms : List ℕ) (c : ConstructorTree) (o : Option ℕ) → IsKnown v k ms (projection_at c o)
  projected_known ms c None = tt
  projected_known ms c (Some n) = tt

  cons_known : (type vars : ℕ) (cs : List ConstructorTree) → All (IsConstructorOf v type vars) cs → IsKnown v k (made_by_cons cs) (constructed_as k cs)
  cons_known type vars [] a = tt
  cons_known type vars (c ∷ cs) a =
      let all : List ℕ = (c.symbol ∷ c.projections) ++ made_by_cons cs in
      either all (c.symbol == k) (ConstructorRole c) (or_role (projected_as k c) (constructed_as k cs))
      (λ q. (grind (arith, nat_tests), record { type = type; vars = vars; is = a 0 c (omega arith); made = λ j x. Contains-append_left (c.symbol ∷ c.projections) (made_by_cons cs) j x }))
      (or_known all (projected_as k c) (constructed_as k cs) (projected_known all c _)
      (wider (made_by_cons cs) all (constructed_as k cs) (λ j x. Contains-append_right (c.symbol ∷ c.projections) (made_by_cons cs) j x) (cons_known type vars cs (λ j e l. a (suc j) e (omega arith)))))

  types_known : (ts : List AlgebraicTree) → All (IsAlgebraic v) ts → IsKnown v k (made_by_types ts) (algebraic_as k ts)
  types_known [] a = tt
  types_known (x ∷ ts) a =
      let here : IsAlgebraic v x = a 0 x (omega arith) in
      let all : List ℕ = (x.symbol ∷ made_by_cons x.cons) ++ made_by_types ts in
      let inner : AreAmong (made_by_cons x.cons) all = λ j c. Contains-append_left (x.symbol ∷ made_by_cons x.cons) (made_by_types ts) j (Contains-append_right (x.symbol ∷ []) (made_by_cons x.cons) j c) in
      either all (x.symbol == k) (AlgebraicRole x.cons) (or_role (constructed_as k x.cons) (algebraic_as k ts))
      (λ q. let e : x.symbol ≡ k = grind (arith, nat_tests) in
      record { vars = (symbol_or v.symbols x.symbol).vars; are = subst (λ (n : ℕ). All (IsConstructorOf v n (symbol_or v.symbols x.symbol).vars) x.cons) e here.cons; made = inner })
      (or_known all (constructed_as k x.cons) (algebraic_as k ts)
      (wider (made_by_cons x.cons) all (constructed_as k x.cons) inner (cons_known x.symbol (symbol_or v.symbols x.symbol).vars x.cons here.cons))
      (wider (made_by_types ts) all (algebraic_as k ts) (λ j c. Contains-append_right (x.symbol ∷ made_by_cons x.cons) (made_by_types ts) j c) (types_known ts (λ j e l. a (suc j) e (omega arith)))))

  body_known : (n : ℕ) (b : BodyTree) → IsValidBody v n b → IsKnown v k (made_by b) (role_in k b)
  body_known n (MakesType j) a = tt
  body_known n (Makes j) a = tt
  body_known n (Defines ds) a = defined_known _ ds
  body_known n (Induces is) a = inductive_known _ is
  body_known n (Constructs ts) a = types_known ts a
  body_known n (Says e) a = tt

  by_maker : (b : Bool) (d : DeclarationTree) (o : Option DeclarationTree) (ms : List ℕ) → IsKnown v k ms (role_in k d.body) → IsKnown v k ms (role_by k o) → IsKnown v k ms (role_by k (cond b (Some d) o))
  by_maker true d o ms h g = h
  by_maker false d o ms h g = g

  maker_known : (ds : List DeclarationTree) → All (IsValidDecl v) ds → IsKnown v k (made ds) (role_by k (maker ds k))
  maker_known [] a = tt
  maker_known (d ∷ ds) a =
      by_maker (is_made_by k d.body) d (maker ds k) (made_by d.body ++ made ds)
      (wider (made_by d.body) (made_by d.body ++ made ds) (role_in k d.body) (λ j c. Contains-append_left (made_by d.body) (made ds) j c) (body_known d.vars d.body (a 0 d (omega arith))))
      (wider (made ds) (made_by d.body ++ made ds) (role_by k (maker ds k)) (λ j c. Contains-append_right (made_by d.body) (made ds) j c) (maker_known ds (λ j e l. a (suc j) e (omega arith))))

-- ---- the constructor that a symbol is made as
pub record IsMadeCon (t : TaskTree) (k : ℕ) : Type 0 where
  pub con : ConstructorTree
  pub role : role t k ≡ ConstructorRole con
  pub symbol : con.symbol ≡ k
  pub known : IsConOf (of_task t) (made t.decls) con

module _ (t : TaskTree) (valid : IsValid t) where
  known : (k : ℕ) → IsKnown (of_task t) k (made t.decls) (role t k)
  known k = maker_known (of_task t) k t.decls valid.decls

  made_as : (k : ℕ) (r : RoleTree) → role t k ≡ r → IsTrue (is_constructor r) → IsKnown (of_task t) k (made t.decls) r → IsMadeCon t k
  made_as k (ConstructorRole c) q h g = record { con = c; role = q; symbol = g.0; known = g.1 }
  made_as k PlainRole q h g = absurd (let e : true ≡ false = sym h in cc)
  made_as k (DefinedRole x) q h g = absurd (let e : true ≡ false = sym h in cc)
  made_as k (InductiveRole x) q h g = absurd (let e : true ≡ false = sym h in cc)
  made_as k (AlgebraicRole x) q h g = absurd (let e : true ≡ false = sym h in cc)
  made_as k (ProjectionRole x n) q h g = absurd (let e : true ≡ false = sym h in cc)

  pub made_con : (k : ℕ) → IsTrue (is_constructor (role t k)) → IsMadeCon t k
  made_con k h = made_as k (role t k) refl h (known k)

  pub con_projections : (k : ℕ) (m : IsMadeCon t k) → constructor_projections t k ≡ m.con.projections
  con_projections k m = ap projections_by m.role

  pub type_cons : (k : ℕ) (cs : List ConstructorTree) → role t k ≡ AlgebraicRole cs → IsDataOf (of_task t) k (made t.decls) cs
  type_cons k cs q = subst (IsKnown (of_task t) k (made t.decls)) q (known k)

-- a constructor of an algebraic type, with what is known of it
pub con_of_type : (v : Vocabulary) (k : ℕ) (ms : List ℕ) (cs : List ConstructorTree) → IsDataOf v k ms cs → All (IsConOf v ms) cs
con_of_type v k ms cs d = go d.vars cs d.are d.made
  where
    go : (n : ℕ) (cs : List ConstructorTree) → All (IsConstructorOf v k n) cs → AreAmong (made_by_cons cs) ms → All (IsConOf v ms) cs
    go n [] a m j e l = absurd (omega arith)
    go n (c ∷ cs) a m zero e l = record { type = k; vars = n; is = a 0 c (omega arith); made = λ j x. m j (Contains-append_left (c.symbol ∷ c.projections) (made_by_cons cs) j x) }
    go n (c ∷ cs) a m (suc j) e l = go n cs (λ i d h. a (suc i) d (omega arith)) (λ i x. m i (Contains-append_right (c.symbol ∷ c.projections) (made_by_cons cs) i x)) j e (omega arith)

-- ---- results
module _ (t : TaskTree) where
  closed_result : (k : ℕ) (r : Tree) (n : ℕ) → (symbol_or t.symbols k).result ≡ Some r → IsTypeIn (of_task t) n r → HasClosedResult t k
  closed_result k r n q o = record { result = r; is = q; kind = o.sort; closed = type_closed r (typed_sorted (of_task t) [] r o.typed) o.sort }

  -- the result of an entry is a type of the vocabulary
  pub result_type : (k : ℕ) (r : Tree) → IsSignatureOf (of_task t) k → (symbol_or t.symbols k).result ≡ Some r → IsTypeIn (of_task t) (symbol_or t.symbols k).vars r
  result_type k r s q = subst (λ (o : Option Tree). IfSome o (IsTypeIn (of_task t) (symbol_or t.symbols k).vars)) q s.types.result

  pub entry_result : (k : ℕ) (r : Tree) → IsSignatureOf (of_task t) k → (symbol_or t.symbols k).result ≡ Some r → HasClosedResult t k
  entry_result k r s q = closed_result k r (symbol_or t.symbols k).vars q (result_type k r s q)

  -- a symbol whose result is a type at so many type variables
  pub record HasResultOver (vars k : ℕ) : Type 0 where
    pub result : Tree
    pub is : (symbol_or t.symbols k).result ≡ Some result
    pub type : IsTypeIn (of_task t) vars result

  over : (vars k : ℕ) (r : Tree) → IsSignatureOf (of_task t) k → (symbol_or t.symbols k).vars ≡ vars → (symbol_or t.symbols k).result ≡ Some r → HasResultOver vars k
  over vars k r s n q = record { result = r; is = q; type = subst (λ (m : ℕ). IsTypeIn (of_task t) m r) n (result_type k r s q) }

  projection_results : (type vars : ℕ) (fs : List Tree) (js : List ℕ) → AreProjections (of_task t) type vars fs js → All (HasResultOver vars) js
  projection_results type vars [] [] a j e l = absurd (omega arith)
  projection_results type vars (f ∷ fs) (k ∷ js) a zero e l = over vars k f a.0.signature a.0.vars_are a.0.result
  projection_results type vars (f ∷ fs) (k ∷ js) a (suc j) e l = projection_results type vars fs js a.1 j e (omega arith)
  projection_results type vars [] (k ∷ js) a j e l = absurd a
  projection_results type vars (f ∷ fs) [] a j e l = absurd a

  pub con_results : (type vars : ℕ) (c : ConstructorTree) → IsConstructorOf (of_task t) type vars c → All (HasResultOver vars) (c.symbol ∷ c.projections)
  con_results type vars c h zero e l = over vars c.symbol (own_type type vars) h.signature h.vars_are h.result
  con_results type vars c h (suc j) e l = projection_results type vars c.fields c.projections h.projections j e (omega arith)

  pub closed_results : (type vars : ℕ) (c : ConstructorTree) → IsConstructorOf (of_task t) type vars c → All (HasClosedResult t) (c.symbol ∷ c.projections)
  closed_results type vars c h j e l = let r = con_results type vars c h j e l in closed_result (get_or (c.symbol ∷ c.projections) j e) r.result vars r.is r.type
