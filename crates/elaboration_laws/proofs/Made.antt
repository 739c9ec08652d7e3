-- Each new entry of an outcome is one of a tuple, a rigid type variable, or made by its declaration.
use Rattle.std.proofs.Common.{◌≡◌, ◌≢◌, ◌⊎◌, inl, inr, ℕ, ◌+◌, ◌-◌, ◌<◌, ◌≤◌, zero, suc, List, [], ◌∷◌, ◌++◌, map, drop, length, slice_get, All, Option, Some, None, IsTrue, codes, decimal, refl, ap, subst, arith}
use Rattle.std.specs.List.{Contains}
use Rattle.std.proofs.lemmas.List.Elements.{All-nil, All-cons, All-append}
use Rattle.elab_groups.specs.trees.Tree.{Tree}
use Rattle.elab_groups.specs.tasks.declared.signature.SymbolKind.TheVariants.{Kind, Constructor}
use Rattle.elab_groups.specs.tasks.Equations.{type_variables}
use Rattle.elab_groups.specs.tasks.Valid.{own_type}
use Rattle.elab_groups.specs.tasks.Rigid.{rigid_symbol}
use Rattle.elab_groups.specs.tasks.Task.{SymbolTree, DefinitionTree, InductiveTree, DeclarationTree, made}
use Rattle.elab_groups.specs.tasks.Roles.{is_constructor, maker, role_by}
use Rattle.elab_groups.proofs.tasks.Declared.{contains_step}
use Rattle.elab_groups.specs.surface.Lexeme.{Word}
use Rattle.elab_groups.specs.name_resolution.Abstract.{TypeExpression}
use Rattle.elab_groups.specs.parts.Entries.{type_entry, projections, constructor_entries, builtin, tuple_in, wanting_tuple, wanting_tuples}
use Rattle.elab_groups.specs.parts.Declarations.{GroupMember, InductivePredicate}
use Rattle.elab_declarations.specs.elab_groups.members.Members.{SignatureTree, signed_entries, symbol_kind_of}
use Rattle.elab_declarations.specs.elab_groups.Groups.{definitions}
use Rattle.elab_declarations.specs.inductive_declarations.Inductives.{induced}
use Rattle.elaboration_laws.proofs.Extended.{in_either, slice_all}
use Rattle.elaboration_laws.proofs.Declarations.{below as slice_below}

-- ---- what a new entry is
abbrev IsTupleEntry : SymbolTree → Type 0
IsTupleEntry e = e.theory ≡ builtin

abbrev IsRigidVariable : SymbolTree → Type 0
IsRigidVariable e = (e.theory ≡ []) × (e.kind ≡ Kind)

-- made by a declaration, as a constructor if it is one
pub record IsOwn (ds : List DeclarationTree) (k : ℕ) (e : SymbolTree) : Type 0 where
  pub made : Contains (made ds) k
  pub constructor : e.kind ≡ Constructor → IsTrue (is_constructor (role_by k (maker ds k)))

abbrev pub IsNewEntry : List DeclarationTree → ℕ → SymbolTree → Type 0
IsNewEntry ds k e = IsTupleEntry e ⊎ (IsRigidVariable e ⊎ IsOwn ds k e)

-- each of these from a place on is one
abbrev pub AreNew : List DeclarationTree → ℕ → List SymbolTree → Type 0
AreNew ds n es = (j : ℕ) (e : SymbolTree) → slice_get es j ≡ Some e → IsNewEntry ds (n + j) e

pub both_new : (ds : List DeclarationTree) (n m : ℕ) (xs ys : List SymbolTree) → m ≡ n + length xs → AreNew ds n xs → AreNew ds m ys → AreNew ds n (xs ++ ys)
both_new ds n m xs ys q h k = λ j e z. of j e (in_either xs ys j e z)
  where
    of : (j : ℕ) (e : SymbolTree) → (slice_get xs j ≡ Some e) ⊎ ((length xs ≤ j) × (slice_get ys (j - length xs) ≡ Some e)) → IsNewEntry ds (n + j) e
    of j e (inl z) = h j e z
    of j e (inr z) = let s : m + (j - length xs) ≡ n + j = omega (arith, q, z.0) in subst (λ (i : ℕ). IsNewEntry ds i e) s (k (j - length xs) e z.1)

pub none_new : (ds : List DeclarationTree) (n : ℕ) → AreNew ds n []
none_new ds n = λ j e z. absurd (cc)

-- ---- tuples
projections_built : (name : Word) (n : ℕ) (t : Tree) (i : ℕ) (fs : List Tree) → All IsTupleEntry (projections builtin name n t i fs)
projections_built name n t i [] = All-nil IsTupleEntry
projections_built name n t i (f ∷ fs) = All-cons IsTupleEntry _ (projections builtin name n t (suc i) fs) refl (projections_built name n t (suc i) fs)

constructor_built : (name : Word) (n : ℕ) (t : Tree) (fs : List Tree) → All IsTupleEntry (constructor_entries builtin name n t fs)
constructor_built name n t fs = All-cons IsTupleEntry (record { theory = builtin; name = name; kind = Constructor; vars = n; args = fs; result = Some t }) (projections builtin name n t 1 fs) refl (projections_built name n t 1 fs)

tuple_built : (symbols : List SymbolTree) (n : ℕ) (m : Option ℕ) → All IsTupleEntry (wanting_tuple symbols n m)
tuple_built symbols n None =
    let name = codes "Tuple" ++ decimal n in
    let t = own_type (length symbols) n in
    All-cons IsTupleEntry (type_entry builtin (codes "tuple" ++ decimal n) n) (constructor_entries builtin name n t (type_variables 0 n)) refl (constructor_built name n t (type_variables 0 n))
tuple_built symbols n (Some k) = All-nil IsTupleEntry

pub tuples_built : (symbols : List SymbolTree) (ns : List ℕ) → All IsTupleEntry (wanting_tuples symbols ns)
tuples_built symbols [] = All-nil IsTupleEntry
tuples_built symbols (n ∷ ns) =
    let more = wanting_tuple symbols n (tuple_in symbols n) in
    All-append IsTupleEntry more (wanting_tuples (symbols ++ more) ns) (tuple_built symbols n (tuple_in symbols n)) (tuples_built (symbols ++ more) ns)

pub tuples_new : (ds : List DeclarationTree) (n : ℕ) (symbols : List SymbolTree) (ns : List ℕ) → AreNew ds n (wanting_tuples symbols ns)
tuples_new ds n symbols ns = λ j e z. inl (slice_all IsTupleEntry (wanting_tuples symbols ns) (tuples_built symbols ns) j e z)

-- ---- rigid type variables
rigids : (names : List Word) → All IsRigidVariable (map rigid_symbol names)
rigids [] = All-nil IsRigidVariable
rigids (x ∷ xs) = All-cons IsRigidVariable (rigid_symbol x) (map rigid_symbol xs) (refl, refl) (rigids xs)

pub rigids_new : (ds : List DeclarationTree) (n : ℕ) (names : List Word) → AreNew ds n (map rigid_symbol names)
rigids_new ds n names = λ j e z. inr (inl (slice_all IsRigidVariable (map rigid_symbol names) (rigids names) j e z))

-- ---- numbers in order
-- a list has each number from one on
abbrev pub HasFrom : List ℕ → ℕ → ℕ → Type 0
HasFrom ks n m = (j : ℕ) → j < m → Contains ks (n + j)

pub from_step : (k : ℕ) (ks : List ℕ) (m : ℕ) → HasFrom ks (suc k) m → HasFrom (k ∷ ks) k (suc m)
from_step k ks m h zero l = contains_step k (k + 0) ks (inl (omega arith))
from_step k ks m h (suc j) l = contains_step k (k + suc j) ks (inr (let q : suc k + j ≡ k + suc j = omega arith in subst (λ (i : ℕ). Contains ks i) q (h j (omega arith))))

-- ---- functions and predicates, which are no constructors
no_constructor : (f : Option TypeExpression) → symbol_kind_of f ≢ Constructor
no_constructor None = λ q. cc
no_constructor (Some f) = λ q. cc

signed_kinds : (theory within : Word) (ms : List GroupMember) (gs : List SignatureTree) → All (λ (e : SymbolTree). e.kind ≢ Constructor) (signed_entries theory within ms gs)
signed_kinds theory within [] gs = All-nil (λ (e : SymbolTree). e.kind ≢ Constructor)
signed_kinds theory within (m ∷ ms) [] = All-nil (λ (e : SymbolTree). e.kind ≢ Constructor)
signed_kinds theory within (m ∷ ms) (g ∷ gs) = All-cons (λ (e : SymbolTree). e.kind ≢ Constructor) _ (signed_entries theory within ms gs) (no_constructor m.result) (signed_kinds theory within ms gs)

pub signed_length : (theory within : Word) (ms : List GroupMember) (gs : List SignatureTree) → length gs ≡ length ms → length (signed_entries theory within ms gs) ≡ length gs
signed_length theory within [] [] q = refl
signed_length theory within [] (g ∷ gs) q = absurd (cc)
signed_length theory within (m ∷ ms) [] q = absurd (cc)
signed_length theory within (m ∷ ms) (g ∷ gs) q = ap suc (signed_length theory within ms gs (omega (arith, q)))

pub signed_new : (ds : List DeclarationTree) (n : ℕ) (theory within : Word) (ms : List GroupMember) (gs : List SignatureTree) → HasFrom (made ds) n (length (signed_entries theory within ms gs)) → AreNew ds n (signed_entries theory within ms gs)
signed_new ds n theory within ms gs h = λ j e z.
    let es = signed_entries theory within ms gs in
    inr (inr (record { made = h j (slice_below es j e z); constructor = λ q. absurd (slice_all (λ (i : SymbolTree). i.kind ≢ Constructor) es (signed_kinds theory within ms gs) j e z q) }))

-- definitions, as many as bodies
pub defined_from : (k : ℕ) (gs : List SignatureTree) (bs : List Tree) → length bs ≡ length gs → HasFrom (map (λ (d : DefinitionTree). d.symbol) (definitions k gs bs)) k (length gs)
defined_from k [] bs q = λ j l. absurd (omega arith)
defined_from k (g ∷ gs) [] q = absurd (cc)
defined_from k (g ∷ gs) (b ∷ bs) q = from_step k (map (λ (d : DefinitionTree). d.symbol) (definitions (suc k) gs bs)) (length gs) (defined_from (suc k) gs bs (omega (arith, q)))

pub induced_from : (k : ℕ) (is : List InductivePredicate) (bs : List Tree) → HasFrom (map (λ (i : InductiveTree). i.symbol) (induced k is bs)) k (length is)
induced_from k [] bs = λ j l. absurd (omega arith)
induced_from k (d ∷ is) bs = from_step k (map (λ (i : InductiveTree). i.symbol) (induced (suc k) is (drop (length d.clauses) bs))) (length is) (induced_from (suc k) is (drop (length d.clauses) bs))

-- numbers at or past a place, and below another
abbrev pub AreBetween : ℕ → ℕ → List ℕ → Type 0
AreBetween n m ks = All (λ (k : ℕ). (n ≤ k) × (k < m)) ks

pub wider : (n n' m m' : ℕ) (ks : List ℕ) → n' ≤ n → m ≤ m' → AreBetween n m ks → AreBetween n' m' ks
wider n n' m m' ks l r h = λ k d z. let x = h k d z in (omega (arith, x.0), omega (arith, x.1))

pub one_between : (k n m : ℕ) (ks : List ℕ) → n ≤ k → k < m → AreBetween n m ks → AreBetween n m (k ∷ ks)
one_between k n m ks l r h = All-cons (λ (i : ℕ). (n ≤ i) × (i < m)) k ks (l, r) h

pub no_numbers : (n m : ℕ) → AreBetween n m []
no_numbers n m = All-nil (λ (i : ℕ). (n ≤ i) × (i < m))

pub defined_between : (k m : ℕ) (gs : List SignatureTree) (bs : List Tree) → k + length gs ≤ m → AreBetween k m (map (λ (d : DefinitionTree). d.symbol) (definitions k gs bs))
defined_between k m [] bs l = no_numbers k m
defined_between k m (g ∷ gs) [] l = no_numbers k m
defined_between k m (g ∷ gs) (b ∷ bs) l =
    let ks = map (λ (d : DefinitionTree). d.symbol) (definitions (suc k) gs bs) in
    one_between k k m ks (omega arith) (omega arith) (wider (suc k) k m m ks (omega arith) (omega arith) (defined_between (suc k) m gs bs (omega arith)))

pub induced_between : (k m : ℕ) (is : List InductivePredicate) (bs : List Tree) → k + length is ≤ m → AreBetween k m (map (λ (i : InductiveTree). i.symbol) (induced k is bs))
induced_between k m [] bs l = no_numbers k m
induced_between k m (d ∷ is) bs l =
    let ks = map (λ (i : InductiveTree). i.symbol) (induced (suc k) is (drop (length d.clauses) bs)) in
    one_between k k m ks (omega arith) (omega arith) (wider (suc k) k m m ks (omega arith) (omega arith) (induced_between (suc k) m is (drop (length d.clauses) bs) (omega arith)))
