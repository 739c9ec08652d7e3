-- The facts of a valid task: each is that of its name, and no two have one name.
use Rattle.std.proofs.Common.{◌≡◌, ◌≢◌, ◌⊎◌, inl, inr, AllPairs, All, Bool, true, false, ◌==◌, if◌then◌else◌, ℕ, ◌+◌, ◌<◌, ◌≤◌, suc, zero, List, [], ◌∷◌, ◌++◌, map, length, slice_get, Some, refl, sym, subst, ap, ◌∙◌, arith, append_assoc, length-append}
use Rattle.std.specs.List.{Contains}
use Rattle.std.specs.Option.{option_map, option_and_then}
use Rattle.std.proofs.lemmas.Bool.Decides.{nat_tests}
use Rattle.std.proofs.lemmas.List.{append-nil, get_or_append_left}
use Rattle.std.proofs.lemmas.List.Kept.{AllPairs-cons}
use Rattle.std.proofs.lemmas.List.Elements.{Contains-append_left, Contains-append_right, Contains-append_cases}
use Rattle.trees.specs.Tree.{Tree}
use Rattle.tasks.specs.declared.facts.Fact.{Fact}
use Rattle.tasks.specs.declared.facts.Fact.TheVariants as fact
use Rattle.tasks.specs.Task.{SymbolTree, symbol_or, DefinitionTree, InductiveTree, BodyTree, MakesType, Makes, Defines, Induces, Constructs, Says, DeclarationTree, TaskTree, PropositionTree, made, made_by, props_of, said_by}
use Rattle.tasks.specs.Roles.{RoleTree, DefinedRole, InductiveRole, maker, role, role_by, role_in, is_made_by, defined_as, inductive_as}
use Rattle.tasks.specs.Facts.{FactTree, facts, facts_from, body_facts, equation_fact, inversion_fact, clause_facts, all_clause_facts, said_in}
use Rattle.tasks.specs.Inversion.{inversion}
use Rattle.tasks.specs.Valid.{IsValid}
use Rattle.tasks.proofs.Declared.{contains_cases, contains_step, none_in, any_iff}
use Rattle.rules.specs.Rows.{equation, clauses}
use Rattle.evidence.specs.Facts.{at_symbol, fact_named, IsFoundByName}
pub use Rattle.tasks.proofs.plain_laws.Lists.{first_contained}

-- ---- what a list contains
pub first_or_rest : {A : Type 0} (y x : A) (xs : List A) → Contains (x ∷ xs) y → (x ≡ y) ⊎ Contains xs y
first_or_rest y x xs (zero, l, e) = inl e
first_or_rest y x xs (suc j, l, e) = inr (j, omega arith, e)

pub rest_contains : {A : Type 0} (y x : A) (xs : List A) → Contains xs y → Contains (x ∷ xs) y
rest_contains y x xs (j, l, e) = (suc j, omega arith, e)

pub nothing_in : {A : Type 0} (y : A) → Contains {X = A} [] y → ⊥
nothing_in y h = omega (arith, h.1)

map_contains : {A : Type 0} (f : A → ℕ) (xs : List A) (x : A) → Contains xs x → Contains (map f xs) (f x)
map_contains f [] x h = absurd (nothing_in x h)
map_contains f (y ∷ xs) x h = elim (first_or_rest x y xs h) [
  | inl e ↦ contains_step (f y) (f x) (map f xs) (inl (ap f (sym e)))
  | inr c ↦ contains_step (f y) (f x) (map f xs) (inr (map_contains f xs x c))
]

mapped_from : {A B : Type 0} (f : A → B) (xs : List A) (y : B) → Contains (map f xs) y → (x : A) × Contains xs x × (f x ≡ y)
mapped_from f [] y h = absurd (nothing_in y h)
mapped_from {A} f (x ∷ xs) y h = elim (first_or_rest y (f x) (map f xs) h) [
  | inl e ↦ (x, first_contained x xs, e)
  | inr c ↦ let r = mapped_from f xs y c in (r.0, rest_contains r.0 x xs r.1, r.2)
]

-- so of each member of a list
all_of : {A : Type 0} (P : A → Type 0) (xs : List A) → ((x : A) → Contains xs x → P x) → All P xs
all_of P [] f k d l = absurd (omega arith)
all_of P (x ∷ xs) f zero d l = f x (first_contained x xs)
all_of P (x ∷ xs) f (suc k) d l = all_of P xs (λ y c. f y (rest_contains y x xs c)) k d (omega arith)

-- ---- no number is twice in a list
abbrev Apart : List ℕ → Type 0
Apart ks = AllPairs (λ j k. j ≢ k) ks

rest_apart : (x : ℕ) (xs : List ℕ) → Apart (x ∷ xs) → Apart xs
rest_apart x xs a i j d l w = a (suc i) (suc j) d (omega (arith, l)) (omega (arith, w))

head_apart : (x : ℕ) (xs : List ℕ) (k : ℕ) → Apart (x ∷ xs) → Contains xs k → x ≡ k → ⊥
head_apart x xs k a h e = a 0 (suc h.0) k (omega arith) (omega (arith, h.1)) (e ∙ sym h.2)

right_apart : (xs ys : List ℕ) → Apart (xs ++ ys) → Apart ys
right_apart [] ys a = a
right_apart (x ∷ xs) ys a = right_apart xs ys (rest_apart x (xs ++ ys) a)

halves_apart : (xs ys : List ℕ) (k : ℕ) → Apart (xs ++ ys) → Contains xs k → Contains ys k → ⊥
halves_apart [] ys k a h m = none_in k h
halves_apart (x ∷ xs) ys k a h m = elim (contains_cases x k xs h) [
  | inl e ↦ head_apart x (xs ++ ys) k a (Contains-append_right xs ys k m) (sym e)
  | inr n ↦ halves_apart xs ys k (rest_apart x (xs ++ ys) a) n m
]

left_apart : (xs ys : List ℕ) → Apart (xs ++ ys) → Apart xs
left_apart xs ys a i j d l w =
    let k : j < length xs = w in
    let n : i < length xs = omega arith in
    let m : j < length (xs ++ ys) = omega (arith, length-append xs ys) in
    λ e. a i j d l m (get_or_append_left xs ys d i n ∙ e ∙ sym (get_or_append_left xs ys d j k))

other : (k j : ℕ) → (j ≡ k → ⊥) → (j == k) ≡ false
other k j h = grind (arith, nat_tests)

same : (k j : ℕ) → j ≡ k → (j == k) ≡ true
same k j h = grind (arith, nat_tests)

-- ---- a member of a group is made as what the group says
module _ (k : ℕ) where
  defined_member : (ds : List DefinitionTree) (m : DefinitionTree) → Apart (map (λ (d : DefinitionTree). d.symbol) ds) → Contains ds m → m.symbol ≡ k → defined_as k ds ≡ DefinedRole m.equation
  defined_member [] m a h q = absurd (nothing_in m h)
  defined_member (d ∷ ds) m a h q = elim (first_or_rest m d ds h) [
    | inl e ↦
        let t : (d.symbol == k) ≡ true = same k d.symbol (ap (λ (x : DefinitionTree). x.symbol) e ∙ q) in
        ap (λ (b : Bool). if b then DefinedRole d.equation else defined_as k ds) t ∙ ap (λ (x : DefinitionTree). DefinedRole x.equation) e
    | inr c ↦
        let t : (d.symbol == k) ≡ false = other k d.symbol (λ e. head_apart d.symbol (map (λ (x : DefinitionTree). x.symbol) ds) m.symbol a (map_contains (λ (x : DefinitionTree). x.symbol) ds m c) (e ∙ sym q)) in
        ap (λ (b : Bool). if b then DefinedRole d.equation else defined_as k ds) t ∙ defined_member ds m (rest_apart d.symbol (map (λ (x : DefinitionTree). x.symbol) ds) a) c q
  ]

  inductive_member : (is : List InductiveTree) (m : InductiveTree) → Apart (map (λ (i : InductiveTree). i.symbol) is) → Contains is m → m.symbol ≡ k → inductive_as k is ≡ InductiveRole m.clauses
  inductive_member [] m a h q = absurd (nothing_in m h)
  inductive_member (d ∷ ds) m a h q = elim (first_or_rest m d ds h) [
    | inl e ↦
        let t : (d.symbol == k) ≡ true = same k d.symbol (ap (λ (x : InductiveTree). x.symbol) e ∙ q) in
        ap (λ (b : Bool). if b then InductiveRole d.clauses else inductive_as k ds) t ∙ ap (λ (x : InductiveTree). InductiveRole x.clauses) e
    | inr c ↦
        let t : (d.symbol == k) ≡ false = other k d.symbol (λ e. head_apart d.symbol (map (λ (x : InductiveTree). x.symbol) ds) m.symbol a (map_contains (λ (x : InductiveTree). x.symbol) ds m c) (e ∙ sym q)) in
        ap (λ (b : Bool). if b then InductiveRole d.clauses else inductive_as k ds) t ∙ inductive_member ds m (rest_apart d.symbol (map (λ (x : InductiveTree). x.symbol) ds) a) c q
  ]

-- ---- the clauses that a group lists
record IsClauseAt (k vars n : ℕ) (cs : List Tree) (x : FactTree) : Type 0 where
  place : ℕ
  name : x.name ≡ fact.Clause k (n + place)
  clause : slice_get cs place ≡ Some x.formula
  same_vars : x.vars ≡ vars

clause_listed : (k vars n : ℕ) (cs : List Tree) (x : FactTree) → Contains (clause_facts k vars n cs) x → IsClauseAt k vars n cs x
clause_listed k vars n [] x h = absurd (nothing_in x h)
clause_listed k vars n (c ∷ cs) x h = elim (first_or_rest x _ (clause_facts k vars (n + 1) cs) h) [
  | inl e ↦ record {
    place = 0;
    name = let i : n ≡ n + 0 = omega arith in ap (λ (y : FactTree). y.name) (sym e) ∙ ap (fact.Clause k) i;
    clause = ap (λ (y : FactTree). Some y.formula) e;
    same_vars = ap (λ (y : FactTree). y.vars) (sym e);
  }
  | inr m ↦
      let r = clause_listed k vars (n + 1) cs x m in
      record { place = suc r.place; name = let i : n + 1 + r.place ≡ n + suc r.place = omega arith in r.name ∙ ap (fact.Clause k) i; clause = r.clause; same_vars = r.same_vars }
]

record IsClauseFact (symbols : List SymbolTree) (is : List InductiveTree) (x : FactTree) : Type 0 where
  member : InductiveTree
  there : Contains is member
  at : IsClauseAt member.symbol (symbol_or symbols member.symbol).vars 0 member.clauses x

all_clauses_listed : (symbols : List SymbolTree) (is : List InductiveTree) (x : FactTree) → Contains (all_clause_facts symbols is) x → IsClauseFact symbols is x
all_clauses_listed symbols [] x h = absurd (nothing_in x h)
all_clauses_listed symbols (i ∷ is) x h = elim (Contains-append_cases (clause_facts i.symbol (symbol_or symbols i.symbol).vars 0 i.clauses) (all_clause_facts symbols is) x h) [
  | inl c ↦ record { member = i; there = first_contained i is; at = clause_listed i.symbol (symbol_or symbols i.symbol).vars 0 i.clauses x c }
  | inr c ↦ let r = all_clauses_listed symbols is x c in record { member = r.member; there = rest_contains r.member i is r.there; at = r.at }
]

-- ---- names differ
abbrev Differ : List FactTree → Type 0
Differ [] = Unit {0}
Differ (x ∷ xs) = ((y : FactTree) → Contains xs y → x.name ≡ y.name → ⊥) × Differ xs

differ_append : (xs ys : List FactTree) → Differ xs → Differ ys → ((x y : FactTree) → Contains xs x → Contains ys y → x.name ≡ y.name → ⊥) → Differ (xs ++ ys)
differ_append [] ys a b f = b
differ_append (x ∷ xs) ys a b f = (
  λ y h e. elim (Contains-append_cases xs ys y h) [ inl c ↦ a.0 y c e | inr c ↦ f x y (first_contained x xs) c e ],
  differ_append xs ys a.1 b (λ z y c. f z y (rest_contains z x xs c)),
)

map_differ : {A : Type 0} (f : A → FactTree) (g : A → ℕ) (xs : List A) → ((x y : A) → (f x).name ≡ (f y).name → g x ≡ g y) → Apart (map g xs) → Differ (map f xs)
map_differ f g [] i a = tt
map_differ f g (x ∷ xs) i a = (
  λ y h e. let r = mapped_from f xs y h in head_apart (g x) (map g xs) (g r.0) a (map_contains g xs r.0 r.1) (i x r.0 (e ∙ ap (λ (z : FactTree). z.name) (sym r.2))),
  map_differ f g xs i (rest_apart (g x) (map g xs) a),
)

all_pairs : (xs : List FactTree) → Differ xs → AllPairs (λ (x y : FactTree). x.name ≢ y.name) xs
all_pairs [] d = λ i j e l w. absurd (omega arith)
all_pairs (x ∷ xs) d = AllPairs-cons (λ (x y : FactTree). x.name ≢ y.name) x xs (all_of (λ (y : FactTree). x.name ≢ y.name) xs d.0) (all_pairs xs d.1)

clauses_differ : (k vars n : ℕ) (cs : List Tree) → Differ (clause_facts k vars n cs)
clauses_differ k vars n [] = tt
clauses_differ k vars n (c ∷ cs) = (
  λ y h e.
      let r = clause_listed k vars (n + 1) cs y h in
      let q : fact.Clause k n ≡ fact.Clause k (n + 1 + r.place) = e ∙ r.name in
      let z : n ≡ n + 1 + r.place = cc in
      omega arith,
  clauses_differ k vars (n + 1) cs,
)

all_clauses_differ : (symbols : List SymbolTree) (is : List InductiveTree) → Apart (map (λ (i : InductiveTree). i.symbol) is) → Differ (all_clause_facts symbols is)
all_clauses_differ symbols [] a = tt
all_clauses_differ symbols (i ∷ is) a =
    let vars = (symbol_or symbols i.symbol).vars in
    differ_append (clause_facts i.symbol vars 0 i.clauses) (all_clause_facts symbols is) (clauses_differ i.symbol vars 0 i.clauses)
    (all_clauses_differ symbols is (rest_apart i.symbol (map (λ (j : InductiveTree). j.symbol) is) a))
    (λ x y c h e.
    let here = clause_listed i.symbol vars 0 i.clauses x c in
    let r = all_clauses_listed symbols is y h in
    let q : fact.Clause i.symbol (0 + here.place) ≡ fact.Clause r.member.symbol (0 + r.at.place) = sym here.name ∙ e ∙ r.at.name in
    let z : i.symbol ≡ r.member.symbol = cc in
    head_apart i.symbol (map (λ (j : InductiveTree). j.symbol) is) r.member.symbol a (map_contains (λ (j : InductiveTree). j.symbol) is r.member r.there) z)

pub equation_symbol : (j k : ℕ) → fact.Equation j ≡ fact.Equation k → j ≡ k
equation_symbol j k e = cc

inversion_symbol : (j k : ℕ) → fact.Inversion j ≡ fact.Inversion k → j ≡ k
inversion_symbol j k e = cc

no_inversion : (j c k : ℕ) → fact.Clause j c ≡ fact.Inversion k → ⊥
no_inversion j c k e = cc

-- of one declaration
body_differ : (symbols : List SymbolTree) (n vars : ℕ) (b : BodyTree) → Apart (made_by b) → Differ (body_facts symbols n vars b)
body_differ symbols n vars (Says a) w = (λ y h e. nothing_in y h, tt)
body_differ symbols n vars (Defines ds) w = map_differ (equation_fact symbols) (λ (d : DefinitionTree). d.symbol) ds (λ x y e. equation_symbol x.symbol y.symbol e) w
body_differ symbols n vars (Induces is) w =
    differ_append (all_clause_facts symbols is) (map (inversion_fact symbols) is) (all_clauses_differ symbols is w)
    (map_differ (inversion_fact symbols) (λ (i : InductiveTree). i.symbol) is (λ x y e. inversion_symbol x.symbol y.symbol e) w)
    (λ x y c h e.
    let r = all_clauses_listed symbols is x c in
    let m = mapped_from (inversion_fact symbols) is y h in
    no_inversion r.member.symbol (0 + r.at.place) m.0.symbol (sym r.at.name ∙ e ∙ ap (λ (z : FactTree). z.name) (sym m.2)))
body_differ symbols n vars (MakesType k) w = tt
body_differ symbols n vars (Makes k) w = tt
body_differ symbols n vars (Constructs ts) w = tt

-- a fact of a declaration is its proposition, or about a symbol that it makes; so of declarations
abbrev IsOf : ℕ → BodyTree → Fact → Type 0
IsOf n b (fact.Proposition m) = (m ≡ n) × (said_in b ≡ 1)
IsOf n b (fact.Equation k) = Contains (made_by b) k
IsOf n b (fact.Clause k c) = Contains (made_by b) k
IsOf n b (fact.Inversion k) = Contains (made_by b) k

abbrev IsOfAny : ℕ → List DeclarationTree → Fact → Type 0
IsOfAny n ds (fact.Proposition m) = n ≤ m
IsOfAny n ds (fact.Equation k) = Contains (made ds) k
IsOfAny n ds (fact.Clause k c) = Contains (made ds) k
IsOfAny n ds (fact.Inversion k) = Contains (made ds) k

of_body : (symbols : List SymbolTree) (n vars : ℕ) (b : BodyTree) (x : FactTree) → Contains (body_facts symbols n vars b) x → IsOf n b x.name
of_body symbols n vars (Says a) x h = elim (first_or_rest x _ [] h) [ inl e ↦ subst (λ (z : FactTree). IsOf n (Says a) z.name) e ((refl, refl)) | inr c ↦ absurd (nothing_in x c) ]
of_body symbols n vars (Defines ds) x h =
    let r = mapped_from (equation_fact symbols) ds x h in
    subst (λ (z : FactTree). IsOf n (Defines ds) z.name) r.2 (map_contains (λ (d : DefinitionTree). d.symbol) ds r.0 r.1)
of_body symbols n vars (Induces is) x h = elim (Contains-append_cases (all_clause_facts symbols is) (map (inversion_fact symbols) is) x h) [
  | inl c ↦ let r = all_clauses_listed symbols is x c in subst (IsOf n (Induces is)) (sym r.at.name) (map_contains (λ (i : InductiveTree). i.symbol) is r.member r.there)
  | inr c ↦
      let r = mapped_from (inversion_fact symbols) is x c in
      subst (λ (z : FactTree). IsOf n (Induces is) z.name) r.2 (map_contains (λ (i : InductiveTree). i.symbol) is r.0 r.1)
]
of_body symbols n vars (MakesType k) x h = absurd (nothing_in x h)
of_body symbols n vars (Makes k) x h = absurd (nothing_in x h)
of_body symbols n vars (Constructs ts) x h = absurd (nothing_in x h)

first_of : (n : ℕ) (d : DeclarationTree) (ds : List DeclarationTree) (name : Fact) → IsOf n d.body name → IsOfAny n (d ∷ ds) name
first_of n d ds (fact.Proposition m) h = omega (arith, h.0)
first_of n d ds (fact.Equation k) h = Contains-append_left (made_by d.body) (made ds) k h
first_of n d ds (fact.Clause k c) h = Contains-append_left (made_by d.body) (made ds) k h
first_of n d ds (fact.Inversion k) h = Contains-append_left (made_by d.body) (made ds) k h

others_of : (n : ℕ) (d : DeclarationTree) (ds : List DeclarationTree) (name : Fact) → IsOfAny (n + said_in d.body) ds name → IsOfAny n (d ∷ ds) name
others_of n d ds (fact.Proposition m) h = omega (arith, h)
others_of n d ds (fact.Equation k) h = Contains-append_right (made_by d.body) (made ds) k h
others_of n d ds (fact.Clause k c) h = Contains-append_right (made_by d.body) (made ds) k h
others_of n d ds (fact.Inversion k) h = Contains-append_right (made_by d.body) (made ds) k h

of_any : (symbols : List SymbolTree) (n : ℕ) (ds : List DeclarationTree) (x : FactTree) → Contains (facts_from symbols n ds) x → IsOfAny n ds x.name
of_any symbols n [] x h = absurd (nothing_in x h)
of_any symbols n (d ∷ ds) x h = elim (Contains-append_cases (body_facts symbols n d.vars d.body) (facts_from symbols (n + said_in d.body) ds) x h) [
  | inl c ↦ first_of n d ds x.name (of_body symbols n d.vars d.body x c)
  | inr c ↦ others_of n d ds x.name (of_any symbols (n + said_in d.body) ds x c)
]

not_both : (n : ℕ) (d : DeclarationTree) (ds : List DeclarationTree) (name : Fact) → Apart (made_by d.body ++ made ds) → IsOf n d.body name → IsOfAny (n + said_in d.body) ds name → ⊥
not_both n d ds (fact.Proposition m) a h g = omega (arith, h.0, h.1, g)
not_both n d ds (fact.Equation k) a h g = halves_apart (made_by d.body) (made ds) k a h g
not_both n d ds (fact.Clause k c) a h g = halves_apart (made_by d.body) (made ds) k a h g
not_both n d ds (fact.Inversion k) a h g = halves_apart (made_by d.body) (made ds) k a h g

facts_differ : (symbols : List SymbolTree) (n : ℕ) (ds : List DeclarationTree) → Apart (made ds) → Differ (facts_from symbols n ds)
facts_differ symbols n [] a = tt
facts_differ symbols n (d ∷ ds) a =
    differ_append (body_facts symbols n d.vars d.body) (facts_from symbols (n + said_in d.body) ds) (body_differ symbols n d.vars d.body (left_apart (made_by d.body) (made ds) a))
    (facts_differ symbols (n + said_in d.body) ds (right_apart (made_by d.body) (made ds) a))
    (λ x y c h e. not_both n d ds x.name a (of_body symbols n d.vars d.body x c) (subst (IsOfAny (n + said_in d.body) ds) (sym e) (of_any symbols (n + said_in d.body) ds y h)))

-- ---- declarations one after another
made_append : (xs ys : List DeclarationTree) → made (xs ++ ys) ≡ made xs ++ made ys
made_append [] ys = refl
made_append (d ∷ xs) ys = ap (λ (z : List ℕ). made_by d.body ++ z) (made_append xs ys) ∙ sym (append_assoc (made_by d.body) (made xs) (made ys))

pub props_append : (xs ys : List DeclarationTree) → props_of (xs ++ ys) ≡ props_of xs ++ props_of ys
props_append [] ys = refl
props_append (d ∷ xs) ys = ap (λ (z : List PropositionTree). said_by d d.body ++ z) (props_append xs ys) ∙ sym (append_assoc (said_by d d.body) (props_of xs) (props_of ys))

after : (xs : List PropositionTree) (x : PropositionTree) (ys : List PropositionTree) → slice_get (xs ++ x ∷ ys) (length xs) ≡ Some x
after [] x ys = refl
after (y ∷ xs) x ys = after xs x ys

count_said : (d : DeclarationTree) (b : BodyTree) → length (said_by d b) ≡ said_in b
count_said d (Says a) = refl
count_said d (MakesType k) = refl
count_said d (Makes k) = refl
count_said d (Defines ds) = refl
count_said d (Induces is) = refl
count_said d (Constructs ts) = refl

-- the maker of a symbol is the declaration that makes it, where none before it does
maker_after : (before rest : List DeclarationTree) (d : DeclarationTree) (k : ℕ) → Apart (made (before ++ d ∷ rest)) → Contains (made_by d.body) k → maker (before ++ d ∷ rest) k ≡ Some d
maker_after [] rest d k a h = ap (λ (b : Bool). if b then Some d else maker rest k) ((any_iff k (made_by d.body)).1 h)
maker_after (x ∷ before) rest d k a h = by (is_made_by k x.body) refl (maker_after before rest d k (right_apart (made_by x.body) (made (before ++ d ∷ rest)) a) h)
  where
    here : Contains (made (before ++ d ∷ rest)) k
    here = subst (λ (z : List ℕ). Contains z k) (sym (made_append before (d ∷ rest))) (Contains-append_right (made before) (made_by d.body ++ made rest) k (Contains-append_left (made_by d.body) (made rest) k h))

    by : (b : Bool) → is_made_by k x.body ≡ b → maker (before ++ d ∷ rest) k ≡ Some d → (if b then Some x else maker (before ++ d ∷ rest) k) ≡ Some d
    by true e m = absurd (halves_apart (made_by x.body) (made (before ++ d ∷ rest)) k a ((any_iff k (made_by x.body)).0 e) here)
    by false e m = m

module _ (t : TaskTree) (valid : IsValid t) where
  all_apart : Apart (made t.decls)
  all_apart = right_apart t.rigid (made t.decls) (rest_apart 0 (t.rigid ++ made t.decls) valid.once)

  module _ (before rest : List DeclarationTree) (d : DeclarationTree) (is : t.decls ≡ before ++ d ∷ rest) where
    group_apart : Apart (made_by d.body)
    group_apart = left_apart (made_by d.body) (made rest) (right_apart (made before) (made_by d.body ++ made rest) (subst Apart (ap made is ∙ made_append before (d ∷ rest)) all_apart))

    role_is : (k : ℕ) → Contains (made_by d.body) k → role t k ≡ role_in k d.body
    role_is k h = ap (role_by k) (ap (λ (ds : List DeclarationTree). maker ds k) is ∙ maker_after before rest d k (subst (λ (ds : List DeclarationTree). Apart (made ds)) is all_apart) h)

    body_named : (b : BodyTree) → d.body ≡ b → (x : FactTree) → Contains (body_facts t.symbols (length (props_of before)) d.vars b) x → IsFoundByName t x
    body_named (Says a) q x h = elim (first_or_rest x _ [] h) [
      | inl e ↦ subst (IsFoundByName t) e (
          ap (λ (ds : List DeclarationTree). slice_get (props_of ds) (length (props_of before))) is
          ∙ ap (λ (ps : List PropositionTree). slice_get ps (length (props_of before))) (props_append before (d ∷ rest) ∙ ap (λ (b : BodyTree). props_of before ++ (said_by d b ++ props_of rest)) q)
          ∙ after (props_of before) (record { vars = d.vars; formula = a }) (props_of rest))
      | inr c ↦ absurd (nothing_in x c)
    ]
    body_named (Defines ds) q x h =
        let r = mapped_from (equation_fact t.symbols) ds x h in
        let k = r.0.symbol in
        let c : Contains (made_by d.body) k = subst (λ (b : BodyTree). Contains (made_by b) k) (sym q) (map_contains (λ (m : DefinitionTree). m.symbol) ds r.0 r.1) in
        let a : Apart (map (λ (m : DefinitionTree). m.symbol) ds) = subst (λ (b : BodyTree). Apart (made_by b)) q group_apart in
        let is_role : role t k ≡ DefinedRole r.0.equation = role_is k c ∙ ap (role_in k) q ∙ defined_member k ds r.0 a r.1 refl in
        subst (IsFoundByName t) r.2 (ap (λ (z : RoleTree). option_map (at_symbol t k) (equation z)) is_role)
    body_named (Induces is') q x h = by (Contains-append_cases (all_clause_facts t.symbols is') (map (inversion_fact t.symbols) is') x h)
      where
        member_role : (m : InductiveTree) → Contains is' m → role t m.symbol ≡ InductiveRole m.clauses
        member_role m c =
            let i : Contains (made_by d.body) m.symbol = subst (λ (b : BodyTree). Contains (made_by b) m.symbol) (sym q) (map_contains (λ (j : InductiveTree). j.symbol) is' m c) in
            let a : Apart (map (λ (j : InductiveTree). j.symbol) is') = subst (λ (b : BodyTree). Apart (made_by b)) q group_apart in
            role_is m.symbol i ∙ ap (role_in m.symbol) q ∙ inductive_member m.symbol is' m a c refl

        clause_named : (k place : ℕ) (cs : List Tree) → role t k ≡ InductiveRole cs → slice_get cs place ≡ Some x.formula → x.vars ≡ (symbol_or t.symbols k).vars → fact_named t (fact.Clause k place) ≡ Some (record { vars = x.vars; formula = x.formula })
        clause_named k place cs r e v =
            ap (λ (z : RoleTree). option_map (at_symbol t k) (option_and_then (λ cs. slice_get cs place) (clauses z))) r
            ∙ ap (option_map (at_symbol t k)) e ∙ ap (λ (n : ℕ). Some (record { vars = n; formula = x.formula })) (sym v)

        by : Contains (all_clause_facts t.symbols is') x ⊎ Contains (map (inversion_fact t.symbols) is') x → IsFoundByName t x
        by (inl c) =
            let r = all_clauses_listed t.symbols is' x c in
            let n : 0 + r.at.place ≡ r.at.place = omega arith in
            ap (fact_named t) (r.at.name ∙ ap (fact.Clause r.member.symbol) n) ∙ clause_named r.member.symbol r.at.place r.member.clauses (member_role r.member r.there) r.at.clause r.at.same_vars
        by (inr c) =
            let r = mapped_from (inversion_fact t.symbols) is' x c in
            let k = r.0.symbol in
            subst (IsFoundByName t) r.2 (ap (λ (z : RoleTree). option_map (λ cs. at_symbol t k (inversion k (symbol_or t.symbols k) cs)) (clauses z)) (member_role r.0 r.1))
    body_named (MakesType k) q x h = absurd (nothing_in x h)
    body_named (Makes k) q x h = absurd (nothing_in x h)
    body_named (Constructs ts) q x h = absurd (nothing_in x h)

  named_from : (before ds : List DeclarationTree) → t.decls ≡ before ++ ds → (x : FactTree) → Contains (facts_from t.symbols (length (props_of before)) ds) x → IsFoundByName t x
  named_from before [] is x h = absurd (nothing_in x h)
  named_from before (d ∷ ds) is x h = elim (Contains-append_cases (body_facts t.symbols (length (props_of before)) d.vars d.body) (facts_from t.symbols (length (props_of before) + said_in d.body) ds) x h) [
    | inl c ↦ body_named before ds d is d.body refl x c
    | inr c ↦
        let n : length (props_of (before ++ d ∷ [])) ≡ length (props_of before) + said_in d.body =
        ap length (props_append before (d ∷ []) ∙ ap (λ (z : List PropositionTree). props_of before ++ z) (append-nil (said_by d d.body)))
        ∙ length-append (props_of before) (said_by d d.body) ∙ ap (λ (m : ℕ). length (props_of before) + m) (count_said d d.body) in
        named_from (before ++ d ∷ []) ds (is ∙ sym (append_assoc before (d ∷ []) ds)) x (subst (λ (m : ℕ). Contains (facts_from t.symbols m ds) x) (sym n) c)
  ]

  pub all_named : All (IsFoundByName t) (facts t)
  all_named = all_of (IsFoundByName t) (facts t) (named_from [] t.decls refl)

  pub names_apart : AllPairs (λ (x y : FactTree). x.name ≢ y.name) (facts t)
  names_apart = all_pairs (facts t) (facts_differ t.symbols 0 t.decls all_apart)
