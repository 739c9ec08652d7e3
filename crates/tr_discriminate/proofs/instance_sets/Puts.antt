-- Declarations put after others, one list after the other.
use Rattle.std.proofs.Common.{◌≡◌, ◌+◌, ◌*◌, ◌/◌, ◌-◌, ◌<◌, ◌≤◌, ℕ, zero, suc, Bool, true, false, if◌then◌else◌, Some, None, List, [], ◌∷◌, ◌++◌, map, length, get_or, take, All, refl, sym, ap, subst, ◌∙◌, arith, append_assoc, mul-le-mul}
use Rattle.std.specs.List.{flat_map}
use Rattle.std.proofs.lemmas.List.{append-nil, map-append, length-take, take_all}
use Rattle.std.proofs.lemmas.List.Elements.{All-cons, All-nil, All-push, All-weaker}
use Rattle.std.proofs.lemmas.List.Sums.{sum_by-cons, sum_by-append}
use Rattle.std.proofs.Math.Nat.{suc-mul, mul_comm, lt-mul-div-succ}
use Rattle.tasks.proofs.plain_laws.Lists.{flat_take}
use Rattle.tasks.specs.trees.declared.TermId.{TermId}
use Rattle.tasks.specs.trees.declared.Sort.TheVariants.{Kind}
use Rattle.tasks.specs.trees.Tree.{Tree, Leaf, One, Two, Three, Head, HTyVar, HBound, HParam, size, binders_over}
use Rattle.tasks.specs.trees.Binding.{TyVar, change, leaf_by, one_by, typing, inst_types}
use Rattle.tasks.specs.trees.Node.{tree_at, Holds, Grows}
use Rattle.tasks.proofs.trees.Nodes.{Grows_refl}
use Rattle.tasks.specs.declared.declaration.Decl.{Decl}
use Rattle.tasks.specs.declared.declaration.Body.TheVariants.{Prop}
use Rattle.tasks.specs.Task.{BodyTree, MakesType, Makes, Defines, Induces, Constructs, Says, DeclarationTree, body_nodes, declaration_nodes, formula_nodes}
use Rattle.tasks.specs.Meaning.{trees_at, body_at, declaration_at, declarations_at, DeclHeld}
use Rattle.tasks.proofs.Growth.{tree_later, trees_later, declaration_later, declarations_later, decl_held_later}
use Rattle.trees.specs.binders.Visits.{HoldTypes, held_stays}
use Rattle.evidence.specs.declared.stage.StageFault.{StageFault}
use Rattle.evidence.specs.declared.stage.StageFault.TheVariants as fault
use Rattle.name_tables.specs.Occurrences.{Occurrence}
use Rattle.tr_discriminate.specs.wanted_instances.Wanted.{wanted_formulas}
use Rattle.tr_discriminate.specs.wanted_instances.Discriminated.{is_monomorphic, said_at, proposition_of, put_in_place, discriminated_decls}
use Rattle.tr_discriminate.proofs.wanted_instances.Nodes.{said_nodes}
use Rattle.tr_discriminate.specs.instance_sets.Made.{IsTypeTree, AreTypeLists, IsSearchable, IsSearchableBody, polymorphic_formula, PutsDeclarations, IsAboveAllowed, instances_of}
pub use Rattle.tr_discriminate.proofs.Early.{fault_there as fault_passed}
pub use Rattle.tr_discriminate.proofs.Searching.{holds_all as types_held}
pub use Rattle.trees.proofs.Sizes.{size_some as size_positive}

two_nodes : (ds es : List DeclarationTree) → declaration_nodes (ds ++ es) ≡ declaration_nodes ds + declaration_nodes es
two_nodes ds es = sum_by-append (λ (d : DeclarationTree). body_nodes d.body) ds es

pub puts_none : (s : List Tree) (old : List Decl) (n : ℕ) → All (DeclHeld s) old → PutsDeclarations s old n [] s old n
puts_none s old n h = record { held = h; are = sym (append-nil (declarations_at s old)); few = omega arith; spent = omega arith }

puts_then : (s s1 s2 : List Tree) (old mid new : List Decl) (n m k : ℕ) (ds es : List DeclarationTree) → PutsDeclarations s old n ds s1 mid m → PutsDeclarations s1 mid m es s2 new k → PutsDeclarations s old n (ds ++ es) s2 new k
puts_then s s1 s2 old mid new n m k ds es h g =
    let e = two_nodes ds es in
    record { held = g.held; are = g.are ∙ ap (λ (z : List DeclarationTree). z ++ es) h.are ∙ append_assoc (declarations_at s old) ds es; few = omega (arith, h.few, g.few); spent = omega (arith, e, h.spent, g.spent) }

pub puts_as : (s s1 : List Tree) (old new : List Decl) (n k : ℕ) (ds es : List DeclarationTree) → ds ≡ es → PutsDeclarations s old n ds s1 new k → PutsDeclarations s old n es s1 new k
puts_as s s1 old new n k ds es e h = subst (λ (z : List DeclarationTree). PutsDeclarations s old n z s1 new k) e h

-- one declaration
pub puts_one : (s s1 : List Tree) → Grows s s1 → (old : List Decl) → All (DeclHeld s) old → (d : Decl) → DeclHeld s1 d → (new : List Decl) → new ≡ old ++ d ∷ [] → (x : DeclarationTree) → declaration_at s1 d ≡ x
    → (n k : ℕ) → k ≤ n → n ≤ k + body_nodes x.body → PutsDeclarations s old n (x ∷ []) s1 new k
puts_one s s1 g old a d h new e x q n k l m =
    let one = sum_by-cons (λ (y : DeclarationTree). body_nodes y.body) x [] in
    record {
      held = subst (All (DeclHeld s1)) (sym e) (All-push (DeclHeld s1) old d (All-weaker (DeclHeld s) (DeclHeld s1) (decl_held_later s s1 g) old a) h);
      are = ap (declarations_at s1) e ∙ map-append (declaration_at s1) old (d ∷ []) ∙ ap (λ (z : List DeclarationTree). z ++ declaration_at s1 d ∷ []) (declarations_later s s1 g old a) ∙ ap (λ (z : DeclarationTree). declarations_at s old ++ z ∷ []) q;
      few = l;
      spent = omega (arith, one, m);
    }

pub pushed : (s s1 : List Tree) → Grows s s1 → (old : List Decl) → All (DeclHeld s) old → (d : Decl) (a : TermId) → Holds s1 a → (made : Decl) → made ≡ record d { vars = 0; body = Prop a } → (new : List Decl) → new ≡ old ++ made ∷ [] → (e : Tree) → tree_at s1 a ≡ e
    → (n k : ℕ) → k ≤ n → k ≤ size (tree_at s1 a) → PutsDeclarations s old n (said_at (declaration_at s d) e ∷ []) s1 new (n - k)
pushed s s1 g old h d a held made p new q e r n k l m =
    let size_is : size (tree_at s1 a) ≡ size e = ap size r in
    puts_one s s1 g old h made (subst (DeclHeld s1) (sym p) held) new q (said_at (declaration_at s d) e) (ap (declaration_at s1) p ∙ ap (said_at (declaration_at s d)) r) n (n - k) (omega (arith, l)) (omega (arith, l, m, size_is))

pub copied : (s : List Tree) (old : List Decl) → All (DeclHeld s) old → (d : Decl) → DeclHeld s d → (same : Decl) → same ≡ d → (new : List Decl) → new ≡ old ++ same ∷ [] → (n : ℕ) → PutsDeclarations s old n (declaration_at s d ∷ []) s new n
copied s old h d held same p new q n = puts_one s s (Grows_refl s) old h same (subst (DeclHeld s) (sym p) held) new q (declaration_at s d) (ap (declaration_at s) p) n n (omega arith) (omega arith)

-- ---- types for the type variables of a proposition
pub hold_types : (s : List Tree) (ids : List TermId) → All (Holds s) ids → All IsTypeTree (trees_at s ids) → HoldTypes s ids
hold_types s [] a k = tt
hold_types s (id ∷ ids) a k = ((a 0 id (omega arith), k 0 (tree_at s id) (omega arith)), hold_types s ids (λ i x l. a (suc i) x (omega arith)) (λ i x l. k (suc i) x (omega arith)))

pub type_lists : (s : List Tree) (yss : List (List TermId)) → All (All (Holds s)) yss → All (All IsTypeTree) (map (trees_at s) yss) → AreTypeLists s yss
type_lists s [] a k = All-nil (HoldTypes s)
type_lists s (ids ∷ yss) a k =
    All-cons (HoldTypes s) ids yss (hold_types s ids (a 0 ids (omega arith)) (k 0 (trees_at s ids) (omega arith))) (type_lists s yss (λ i x l. a (suc i) x (omega arith)) (λ i x l. k (suc i) x (omega arith)))

-- ---- what is in the place of a declaration
pub says_many : (o : List Occurrence) (d : DeclarationTree) (b : BodyTree) (a : Tree) → Some a ≡ polymorphic_formula b → put_in_place o d b ≡ map (said_at d) (wanted_formulas o (proposition_of d.vars a))
says_many o d (Says e) a q = by (is_monomorphic e) q
  where
    by : (m : Bool) → Some a ≡ (if m then None else Some e) → (if m then d ∷ [] else map (said_at d) (wanted_formulas o (proposition_of d.vars e))) ≡ map (said_at d) (wanted_formulas o (proposition_of d.vars a))
    by true r = absurd (cc)
    by false r = let same : e ≡ a = cc in ap (λ (z : Tree). map (said_at d) (wanted_formulas o (proposition_of d.vars z))) same
says_many o d (MakesType k) a q = absurd (cc)
says_many o d (Makes k) a q = absurd (cc)
says_many o d (Defines ds) a q = absurd (cc)
says_many o d (Induces is) a q = absurd (cc)
says_many o d (Constructs ts) a q = absurd (cc)

pub says_one : (o : List Occurrence) (d : DeclarationTree) (b : BodyTree) → None ≡ polymorphic_formula b → put_in_place o d b ≡ d ∷ []
says_one o d (Says e) q = by (is_monomorphic e) q
  where
    by : (m : Bool) → None ≡ (if m then None else Some e) → (if m then d ∷ [] else map (said_at d) (wanted_formulas o (proposition_of d.vars e))) ≡ d ∷ []
    by true r = refl
    by false r = absurd (cc)
says_one o d (MakesType k) q = refl
says_one o d (Makes k) q = refl
says_one o d (Defines ds) q = refl
says_one o d (Induces is) q = refl
says_one o d (Constructs ts) q = refl

pub many_ready : (o : List Occurrence) (vars : ℕ) (b : BodyTree) (a : Tree) → Some a ≡ polymorphic_formula b → IsSearchableBody o vars b → IsSearchable o vars a
many_ready o vars (Says e) a q h = by (is_monomorphic e) q
  where
    by : (m : Bool) → Some a ≡ (if m then None else Some e) → IsSearchable o vars a
    by true r = absurd (cc)
    by false r = let same : e ≡ a = cc in subst (IsSearchable o vars) same h
many_ready o vars (MakesType k) a q h = absurd (cc)
many_ready o vars (Makes k) a q h = absurd (cc)
many_ready o vars (Defines ds) a q h = absurd (cc)
many_ready o vars (Induces is) a q h = absurd (cc)
many_ready o vars (Constructs ts) a q h = absurd (cc)

-- ---- faults
pub above_weaker : (n m : ℕ) (ds es : List DeclarationTree) → (n < declaration_nodes ds → m < declaration_nodes es) → (f : StageFault) → IsAboveAllowed n ds f → IsAboveAllowed m es f
above_weaker n m ds es w fault.Memory x = tt
above_weaker n m ds es w (fault.Misplaced decl) x = absurd x
above_weaker n m ds es w fault.TooLarge x = w x

-- ---- a loop that puts a list for each item
module _ {X : Type 0} (put : X → List DeclarationTree) (xs : List X) where
  pub puts_more : (s s1 s2 : List Tree) (old mid new : List Decl) (n m k : ℕ) (i : ℕ) (x : X) → i < length xs → x ≡ get_or xs i x → PutsDeclarations s old n (flat_map put (take i xs)) s1 mid m → PutsDeclarations s1 mid m (put x) s2 new k → PutsDeclarations s old n (flat_map put (take (i + 1) xs)) s2 new k
  puts_more s s1 s2 old mid new n m k i x l q h g =
      puts_as s s2 old new n k (flat_map put (take i xs) ++ put x) (flat_map put (take (i + 1) xs)) (ap (λ (z : X). flat_map put (take i xs) ++ put z) q ∙ sym (flat_take put xs i x l))
      (puts_then s s1 s2 old mid new n m k (flat_map put (take i xs)) (put x) h g)

  pub puts_all : (i : ℕ) → length xs ≤ i → flat_map put (take i xs) ≡ flat_map put xs
  puts_all i l = ap (flat_map put) (take_all i xs l)

nodes_here : {X : Type 0} (put : X → List DeclarationTree) (xs : List X) (i : ℕ) (d : X) → i < length xs → declaration_nodes (flat_map put (take i xs)) + declaration_nodes (put (get_or xs i d)) ≤ declaration_nodes (flat_map put xs)
nodes_here put [] i d l = absurd (omega (arith, l))
nodes_here put (x ∷ xs) zero d l = omega (arith, two_nodes (put x) (flat_map put xs))
nodes_here put (x ∷ xs) (suc i) d l = omega (arith, two_nodes (put x) (flat_map put xs), two_nodes (put x) (flat_map put (take i xs)), nodes_here put xs i d (omega (arith, l)))

pub above_here : {X : Type 0} (put : X → List DeclarationTree) (xs : List X) (s s1 : List Tree) (old mid : List Decl) (n m : ℕ) (i : ℕ) (x : X) → i < length xs → x ≡ get_or xs i x → PutsDeclarations s old n (flat_map put (take i xs)) s1 mid m
    → (f : StageFault) → IsAboveAllowed m (put x) f → IsAboveAllowed n (flat_map put xs) f
above_here put xs s s1 old mid n m i x l q h f =
    let here = nodes_here put xs i x l in
    let e : declaration_nodes (put (get_or xs i x)) ≡ declaration_nodes (put x) = ap (λ z. declaration_nodes (put z)) (sym q) in
    above_weaker m n (put x) (flat_map put xs) (λ b. omega (arith, here, e, h.spent, b)) f

-- ---- the wanted instances of a proposition
module _ (ys : List Tree) where
  leaf_size : (h : Head) → 1 ≤ size (leaf_by (typing ys) h)
  leaf_size (HTyVar j) = size_positive (get_or ys j (TyVar j))
  leaf_size _ = omega arith

  one_size : (d : ℕ) (h : Head) (a : Tree) → size (one_by (typing ys) d h a) ≡ size a + 1
  one_size d (HBound i) a = refl
  one_size d (HParam n) a = refl
  one_size d _ a = refl

  -- types that are put in make no tree smaller
  typed_size : (d : ℕ) (e : Tree) → size e ≤ size (change (typing ys) d e)
  typed_size d (Leaf h) = leaf_size h
  typed_size d (One h a) = omega (arith, one_size d h (change (typing ys) d a), typed_size d a)
  typed_size d (Two h a b) = omega (arith, typed_size d a, typed_size (d + binders_over h a) b)
  typed_size d (Three h a b c) = omega (arith, typed_size d a, typed_size d b, typed_size d c)

instances_nodes : (a : Tree) (yss : List (List Tree)) → length yss * size a ≤ formula_nodes (map (inst_types a) yss)
instances_nodes a [] = omega arith
instances_nodes a (ys ∷ yss) =
    omega (arith, suc-mul (length yss) (size a), sum_by-cons size (inst_types a ys) (map (inst_types a) yss), typed_size ys 0 a, instances_nodes a yss)

pub too_many : (a : Tree) (d : DeclarationTree) (all found : List (List Tree)) (n k m : ℕ) → found ≡ take (m + 1) all → m < length found → k ≤ size a → 0 < k → m ≡ n / k → n < declaration_nodes (instances_of d a all)
too_many a d all found n k m e l b w q =
    let t = ap length e ∙ length-take (m + 1) all in
    let long : m + 1 ≤ length all = omega (arith, t, l) in
    let p : (m + 1) * k ≤ length all * size a = mul-le-mul long b in
    let x : n < k * (n / k + 1) = lt-mul-div-succ n w in
    let y : k * (n / k + 1) ≡ (m + 1) * k = ap (λ z. k * (z + 1)) (sym q) ∙ mul_comm k (m + 1) in
    omega (arith, said_nodes d (map (inst_types a) all), instances_nodes a all, p, x, y)

pub few_enough : (all found : List (List Tree)) (m : ℕ) → found ≡ take (m + 1) all → length found ≤ m → found ≡ all
few_enough all found m e l =
    let t = ap length e ∙ length-take (m + 1) all in
    e ∙ take_all (m + 1) all (omega (arith, t, l))

-- ---- what is put stays the same as the store grows
-- the instance at a list of types, over a store
abbrev pub instance_of : List Tree → Decl → TermId → List TermId → List DeclarationTree
instance_of s d a types = said_at (declaration_at s d) (inst_types (tree_at s a) (trees_at s types)) ∷ []

-- all of them, in trees
pub all_instances : (s : List Tree) (d : Decl) (a : TermId) (yss : List (List TermId)) → flat_map (instance_of s d a) yss ≡ instances_of (declaration_at s d) (tree_at s a) (map (trees_at s) yss)
all_instances s d a [] = refl
all_instances s d a (ys ∷ yss) = ap (λ (z : List DeclarationTree). said_at (declaration_at s d) (inst_types (tree_at s a) (trees_at s ys)) ∷ z) (all_instances s d a yss)

-- what is in the place of a declaration, over a store
abbrev pub placed_of : List Tree → List Occurrence → Decl → List DeclarationTree
placed_of s o d = put_in_place o (declaration_at s d) (body_at s d.body)

pub all_placed : (s : List Tree) (o : List Occurrence) (ds : List Decl) → flat_map (placed_of s o) ds ≡ discriminated_decls o (declarations_at s ds)
all_placed s o [] = refl
all_placed s o (d ∷ ds) = ap (λ (z : List DeclarationTree). placed_of s o d ++ z) (all_placed s o ds)

module _ (s s1 : List Tree) (g : Grows s s1) where
  pub instance_later : (d : Decl) (a : TermId) (types : List TermId) → Holds s a → All (Holds s) types
      → instance_of s1 d a types ≡ instance_of s d a types
  instance_later d a types k t =
      ap (λ (z : Tree). said_at (declaration_at s d) (inst_types z (trees_at s1 types)) ∷ []) (tree_later s s1 g a k)
      ∙ ap (λ (z : List Tree). said_at (declaration_at s d) (inst_types (tree_at s a) z) ∷ []) (trees_later s s1 g types t)

  pub place_later : (d : Decl) (o p : List Occurrence) → DeclHeld s d → o ≡ p → placed_of s1 o d ≡ placed_of s p d
  place_later d o p h e =
      ap (λ (z : List Occurrence). put_in_place z (declaration_at s1 d) (body_at s1 d.body)) e
      ∙ ap (λ (z : DeclarationTree). put_in_place p z z.body) (declaration_later s s1 g d h)

  -- one list of types more
  pub instance_more : (old mid new : List Decl) (n m k : ℕ) (s2 : List Tree) (d : Decl) (a : TermId) → Holds s a → (yss : List (List TermId)) → AreTypeLists s yss → (i : ℕ) (types : List TermId) → i < length yss → types ≡ get_or yss i types → (slice : List TermId) → slice ≡ types
      → PutsDeclarations s old n (flat_map (instance_of s d a) (take i yss)) s1 mid m → PutsDeclarations s1 mid m (instance_of s1 d a slice) s2 new k → PutsDeclarations s old n (flat_map (instance_of s d a) (take (i + 1) yss)) s2 new k
  instance_more old mid new n m k s2 d a held yss h i types l q slice e puts one =
      let here : HoldTypes s types = subst (HoldTypes s) (sym q) (h i types l) in
      puts_more (instance_of s d a) yss s s1 s2 old mid new n m k i types l q puts
      (puts_as s1 s2 mid new m k (instance_of s1 d a slice) (instance_of s d a types) (ap (instance_of s1 d a) e ∙ instance_later d a types held (types_held s types here)) one)

  pub instance_fault : (old mid : List Decl) (n m : ℕ) (d : Decl) (a : TermId) → Holds s a → (yss : List (List TermId)) → AreTypeLists s yss → (i : ℕ) (types : List TermId) → i < length yss → types ≡ get_or yss i types → (slice : List TermId) → slice ≡ types
      → PutsDeclarations s old n (flat_map (instance_of s d a) (take i yss)) s1 mid m → (f : StageFault) → IsAboveAllowed m (instance_of s1 d a slice) f → IsAboveAllowed n (instances_of (declaration_at s d) (tree_at s a) (map (trees_at s) yss)) f
  instance_fault old mid n m d a held yss h i types l q slice e puts f x =
      let here : HoldTypes s types = subst (HoldTypes s) (sym q) (h i types l) in
      let same : instance_of s1 d a slice ≡ instance_of s d a types = ap (instance_of s1 d a) e ∙ instance_later d a types held (types_held s types here) in
      subst (λ (z : List DeclarationTree). IsAboveAllowed n z f) (all_instances s d a yss)
      (above_here (instance_of s d a) yss s s1 old mid n m i types l q puts f (subst (λ (z : List DeclarationTree). IsAboveAllowed m z f) same x))

  pub types_later : (yss : List (List TermId)) → AreTypeLists s yss → (i : ℕ) (types : List TermId) → i < length yss → types ≡ get_or yss i types → (slice : List TermId) → slice ≡ types → HoldTypes s1 slice
  types_later yss h i types l q slice e = subst (HoldTypes s1) (sym e) (held_stays Kind s s1 types g (subst (HoldTypes s) (sym q) (h i types l)))

  -- one declaration more
  pub place_more : (old mid new : List Decl) (n m k : ℕ) (s2 : List Tree) (o p : List Occurrence) → o ≡ p → (ds : List Decl) (i : ℕ) (d : Decl) → DeclHeld s d → i < length ds → d ≡ get_or ds i d
      → PutsDeclarations s old n (flat_map (placed_of s p) (take i ds)) s1 mid m → PutsDeclarations s1 mid m (placed_of s1 o d) s2 new k → PutsDeclarations s old n (flat_map (placed_of s p) (take (i + 1) ds)) s2 new k
  place_more old mid new n m k s2 o p e ds i d h l q puts one =
      puts_more (placed_of s p) ds s s1 s2 old mid new n m k i d l q puts (puts_as s1 s2 mid new m k (placed_of s1 o d) (placed_of s p d) (place_later d o p h e) one)

  pub place_fault : (old mid : List Decl) (n m : ℕ) (o p : List Occurrence) → o ≡ p → (ds : List Decl) (i : ℕ) (d : Decl) → DeclHeld s d → i < length ds → d ≡ get_or ds i d
      → PutsDeclarations s old n (flat_map (placed_of s p) (take i ds)) s1 mid m → (f : StageFault) → IsAboveAllowed m (placed_of s1 o d) f → IsAboveAllowed n (discriminated_decls p (declarations_at s ds)) f
  place_fault old mid n m o p e ds i d h l q puts f x =
      subst (λ (z : List DeclarationTree). IsAboveAllowed n z f) (all_placed s p ds)
      (above_here (placed_of s p) ds s s1 old mid n m i d l q puts f (subst (λ (z : List DeclarationTree). IsAboveAllowed m z f) (place_later d o p h e) x))
