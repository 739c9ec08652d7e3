-- Lists: a list is the empty one or has a member; the members of a list of terms, and their types at an environment.
use Rattle.std.proofs.Common.{◌≡◌, ℕ, ◌⊎◌, inl, inr, List, [], ◌∷◌, ◌++◌, map, All, Some, None, refl, sym, ap, subst, ◌∙◌, arith}
use Rattle.std.proofs.lemmas.List.Elements.{All-cons, All-nil}
use Rattle.trees.specs.declared.TermId.{TermId}
use Rattle.trees.specs.declared.Node.{Node}
use Rattle.trees.specs.declared.Node.TheVariants as node
use Rattle.trees.specs.declared.Sort.{Sort}
use Rattle.trees.specs.declared.Sort.TheVariants.{Term}
use Rattle.trees.specs.declared.Sort.TheVariants as sort
use Rattle.trees.specs.Tree.{Tree, Leaf, One, Two, Three, Head, HEnd, HCell, HArm, HNum, HTrue, HFalse, HBound, HParam, HNot, HPatAny, HPatVar, HPatAlias, HLet, HCase, HFun, HIf, loose}
use Rattle.trees.specs.Node.{tree_at, trees_at, node_tree}
use Rattle.trees.specs.Binding.{inst_many}
use Rattle.trees.specs.Sorts.{Fits, LeafFits, WellSorted, sort_of, yield, leaf_sort, one_sort, two_sort, three_sort, top_sort, first_sort, type_of, IsList, IsListOf}
use Rattle.images.proofs.Images.{leaf_no_list}
use Rattle.tasks.proofs.typed_trees.instances.Typed.{many_sort, many_type}
use Rattle.tasks.specs.typed_trees.instances.Instances.{AreFor}
use Rattle.tasks.specs.Vocabulary.{Vocabulary}
use Rattle.tasks.specs.Typing.{TypedUnder, members}
use Rattle.tasks.specs.Valid.{VariablesBelow}
use Rattle.tasks.proofs.Closing.{typed_closed, typed_sorted}
use Rattle.images.specs.Templates.{listed, AreAllClosed}

-- ---- what a tree yields is no list
leaf_no_yield : (h : Head) → leaf_sort h ≡ sort.List → ⊥
leaf_no_yield (HNum z) q = cc
leaf_no_yield HTrue q = cc
leaf_no_yield HFalse q = cc
leaf_no_yield _ q = cc

one_no_yield : (h : Head) → one_sort h ≡ sort.List → ⊥
one_no_yield (HBound i) q = cc
one_no_yield (HParam n) q = cc
one_no_yield HNot q = cc
one_no_yield HPatAny q = cc
one_no_yield HPatVar q = cc
one_no_yield HPatAlias q = cc
one_no_yield _ q = cc

two_no_yield : (h : Head) (a b : Sort) → (a ≡ sort.List → ⊥) → (b ≡ sort.List → ⊥) → two_sort h a b ≡ sort.List → ⊥
two_no_yield HCell a b x y q = x q
two_no_yield HLet a b x y q = y q
two_no_yield HCase a b x y q = y q
two_no_yield HArm a b x y q = y q
two_no_yield _ a b x y q = cc

three_no_yield : (h : Head) (b : Sort) → (b ≡ sort.List → ⊥) → three_sort h b ≡ sort.List → ⊥
three_no_yield (HFun f) b y q = cc
three_no_yield HIf b y q = y q
three_no_yield _ b y q = cc

no_yield : (e : Tree) → yield e ≡ sort.List → ⊥
no_yield (Leaf h) q = leaf_no_yield h q
no_yield (One h a) q = one_no_yield h q
no_yield (Two h a b) q = two_no_yield h (yield a) (yield b) (no_yield a) (no_yield b) q
no_yield (Three h a b c) q = three_no_yield h (yield b) (no_yield b) q

list_head : (h : Head) (s : Sort) → (s ≡ sort.List → ⊥) → top_sort h s ≡ sort.List → (h ≡ HEnd) ⊎ (h ≡ HCell)
list_head HEnd s n q = inl refl
list_head HCell s n q = inr refl
list_head HArm s n q = absurd (let z : sort.Branch ≡ sort.List = q in cc)
list_head _ s n q = absurd (n q)

-- a list is empty or has a member
leaf_list : (h : Head) → LeafFits h → (h ≡ HEnd) ⊎ (h ≡ HCell) → Leaf h ≡ Leaf HEnd
leaf_list h w (inl q) = ap Leaf q
leaf_list h w (inr q) = absurd (leaf_no_list h w q)

one_list : (h : Head) (a : Tree) → Fits (One h a) → (h ≡ HEnd) ⊎ (h ≡ HCell) → ⊥
one_list h a w (inl q) = subst (λ (z : Head). Fits (One z a)) q w
one_list h a w (inr q) = subst (λ (z : Head). Fits (One z a)) q w

two_list : (h : Head) (a b : Tree) → Fits (Two h a b) → (h ≡ HEnd) ⊎ (h ≡ HCell) → h ≡ HCell
two_list h a b w (inl q) = absurd (subst (λ (z : Head). Fits (Two z a b)) q w).0
two_list h a b w (inr q) = q

three_list : (h : Head) (a b c : Tree) → Fits (Three h a b c) → (h ≡ HEnd) ⊎ (h ≡ HCell) → ⊥
three_list h a b c w (inl q) = subst (λ (z : Head). Fits (Three z a b c)) q w
three_list h a b c w (inr q) = subst (λ (z : Head). Fits (Three z a b c)) q w

pub list_shape : (e : Tree) → WellSorted e → sort_of e ≡ sort.List → (e ≡ Leaf HEnd) ⊎ ((a : Tree) × ((b : Tree) × (e ≡ Two HCell a b)))
list_shape (Leaf h) w q = inl (leaf_list h w (list_head h (leaf_sort h) (leaf_no_yield h) q))
list_shape (One h a) w q = absurd (one_list h a w.0 (list_head h (one_sort h) (one_no_yield h) q))
list_shape (Two h a b) w q = inr (a, (b, ap (λ (z : Head). Two z a b) (two_list h a b w.0 (list_head h (yield (Two h a b)) (no_yield (Two h a b)) q))))
list_shape (Three h a b c) w q = absurd (three_list h a b c w.0 (list_head h (yield (Three h a b c)) (no_yield (Three h a b c)) q))

-- ---- lists of terms
some_first : (s : Sort) (a : Tree) → (Some (sort_of a) ≡ None) ⊎ (Some (sort_of a) ≡ Some s) → sort_of a ≡ s
some_first s a (inl q) = absurd (cc)
some_first s a (inr q) = cc

-- the first member and the others
pub first_term : (s : Sort) (a b : Tree) → IsList s (Two HCell a b) → sort_of a ≡ s
first_term s a b l = some_first s a l.1

pub other_terms : (s : Sort) (a b : Tree) → Fits (Two HCell a b) → IsList s (Two HCell a b) → IsList s b
other_terms s a b f l = subst (λ (z : Sort). IsListOf z (sort_of b) (first_sort b)) (first_term s a b l) f.0.1

term_no_list : Term ≡ sort.List → ⊥
term_no_list q = cc

pub cell_of_terms : (a b : Tree) → sort_of a ≡ Term → IsList Term b → Fits (Two HCell a b) × IsList Term (Two HCell a b)
cell_of_terms a b s l = ((((λ q. term_no_list (sym s ∙ q)), subst (λ (z : Sort). IsListOf z (sort_of b) (first_sort b)) (sym s) l), tt), (refl, inr (ap Some s)))

-- the types of the members at an environment are the same
module _ (v : Vocabulary) (types env : List Tree) (good : AreFor v types env) where
  by_shape : (e : Tree) → (e ≡ Leaf HEnd) → map type_of (members (inst_many e env)) ≡ map type_of (members e)
  by_shape e q = ap (λ (z : Tree). map type_of (members (inst_many z env))) q ∙ ap (λ (z : Tree). map type_of (members z)) (sym q)

  pub members_many : (e : Tree) → TypedUnder v types e → IsList Term e → map type_of (members (inst_many e env)) ≡ map type_of (members e)
  members_many (Two HCell a b) x l = cc (many_type v types env good a x.2, members_many b x.3 (other_terms Term a b x.0 l))
  members_many (Leaf h) x l = ends (Leaf h) (list_shape (Leaf h) (typed_sorted v types (Leaf h) x) l.0) (λ a b q. cc)
    where
      ends : (e : Tree) → (e ≡ Leaf HEnd) ⊎ ((a : Tree) × ((b : Tree) × (e ≡ Two HCell a b))) → ((a b : Tree) → e ≡ Two HCell a b → ⊥) → map type_of (members (inst_many e env)) ≡ map type_of (members e)
      ends e (inl q) n = by_shape e q
      ends e (inr p) n = absurd (n p.0 p.1.0 p.1.1)
  members_many (One h a) x l = absurd (one_list h a x.0 (list_head h (one_sort h) (one_no_yield h) l.0))
  members_many (Two h a b) x l = let q : h ≡ HCell = two_list h a b x.0 (list_head h (yield (Two h a b)) (no_yield (Two h a b)) l.0) in absurd (cc)
  members_many (Three h a b c) x l = absurd (three_list h a b c x.0 (list_head h (yield (Three h a b c)) (no_yield (Three h a b c)) l.0))

-- ---- a list with these members first
pub listed_closed : (v : Vocabulary) (before : List Tree) (a rest : Tree) → TypedUnder v [] (listed before (Two HCell a rest)) → AreAllClosed before × (loose rest ≡ 0)
listed_closed v [] a rest x = (tt, omega (arith, typed_closed v [] rest x.3))
listed_closed v (b ∷ bs) a rest x = let r = listed_closed v bs a rest x.3 in ((omega (arith, typed_closed v [] b x.2), r.0), r.1)

pub listed_ground : (n : ℕ) (before : List Tree) (a b rest : Tree) → VariablesBelow n b → VariablesBelow n (listed before (Two HCell a rest)) → VariablesBelow n (listed before (Two HCell b rest))
listed_ground n [] a b rest g x = (g, x.1)
listed_ground n (c ∷ cs) a b rest g x = (x.0, listed_ground n cs a b rest g x.1)

pub listed_one_more : (before : List Tree) (a rest : Tree) → listed (before ++ a ∷ []) rest ≡ listed before (Two HCell a rest)
listed_one_more [] a rest = refl
listed_one_more (b ∷ bs) a rest = ap (Two HCell b) (listed_one_more bs a rest)

-- they are terms, as all members are
pub listed_terms : (s : List Tree) (ids : List TermId) (rest : Tree) → WellSorted (listed (trees_at s ids) rest) → IsList Term (listed (trees_at s ids) rest)
    → All (λ id. sort_of (tree_at s id) ≡ Term) ids × IsList Term rest
listed_terms s [] rest w l = (All-nil (λ (id : TermId). sort_of (tree_at s id) ≡ Term), l)
listed_terms s (i ∷ ids) rest w l =
    let m = listed_terms s ids rest w.2 (other_terms Term (tree_at s i) (listed (trees_at s ids) rest) w.0 l) in
    (All-cons (λ (id : TermId). sort_of (tree_at s id) ≡ Term) i ids (first_term Term (tree_at s i) (listed (trees_at s ids) rest) l) m.0, m.1)

-- an instance of a list of terms is one
module _ (v : Vocabulary) (types env : List Tree) (good : AreFor v types env) where
  terms_at : (e : Tree) → (e ≡ Leaf HEnd) ⊎ ((a : Tree) × ((b : Tree) × (e ≡ Two HCell a b))) → IsList Term e → IsList Term (inst_many e env)
  terms_at e (inl q) l = subst (λ (z : Tree). IsList Term (inst_many z env)) (sym q) (refl, inl refl)
  terms_at e (inr (a, (b, q))) l =
      let s : sort_of a ≡ Term = first_term Term a b (subst (λ (z : Tree). IsList Term z) q l) in
      subst (λ (z : Tree). IsList Term (inst_many z env)) (sym q) (refl, inr (ap Some (many_sort v types env good a ∙ s)))

  pub terms_many : (e : Tree) → WellSorted e → IsList Term e → IsList Term (inst_many e env)
  terms_many e w l = terms_at e (list_shape e w l.0) l

-- what is after the first members is well sorted
pub listed_sorted : (before : List Tree) (rest : Tree) → WellSorted (listed before rest) → WellSorted rest
listed_sorted [] rest w = w
listed_sorted (b ∷ bs) rest w = listed_sorted bs rest w.2

-- ---- the node of a list
node_end : (s : List Tree) (n : Node) → node_tree s n ≡ Leaf HEnd → n ≡ node.End
node_end s node.End q = refl
node_end s _ q = absurd (cc)

node_cell : (s : List Tree) (n : Node) (a b : Tree) → node_tree s n ≡ Two HCell a b → (x : TermId) × ((y : TermId) × (n ≡ node.Cell x y))
node_cell s (node.Cell x y) a b q = (x, (y, refl))
node_cell s _ a b q = absurd (cc)

no_node : (s : List Tree) (n : Node) → (node_tree s n ≡ Leaf HEnd) ⊎ ((a : Tree) × ((b : Tree) × (node_tree s n ≡ Two HCell a b))) → (n ≡ node.End → ⊥) → ((x y : TermId) → n ≡ node.Cell x y → ⊥) → ⊥
no_node s n (inl q) e c = e (node_end s n q)
no_node s n (inr (a, (b, q))) e c = let p = node_cell s n a b q in c p.0 p.1.0 p.1.1

pub list_node : (s : List Tree) (e : Tree) (n : Node) → e ≡ node_tree s n → WellSorted e → sort_of e ≡ sort.List → (n ≡ node.End → ⊥) → ((x y : TermId) → n ≡ node.Cell x y → ⊥) → ⊥
list_node s e n q w k = no_node s n (list_shape (node_tree s n) (subst WellSorted q w) (subst (λ (z : Tree). sort_of z ≡ sort.List) q k))
