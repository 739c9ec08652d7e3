-- The tests of a constructor's pattern, by what the code has of its term; and a test by its conjunction.
use Rattle.std.proofs.Common.{◌≡◌, ◌↔◌, ℕ, List, [], ◌∷◌, ◌++◌, Option, Some, None, IfSome, refl, sym, ap, ◌∙◌}
use Rattle.trees.specs.Tree.{Tree, Leaf, Two, Three, HTrue, HCell, HPatCon}
use Rattle.tasks.specs.Task.{TaskTree}
use Rattle.tasks.specs.Conjunctions.{conjunction}
use Rattle.tasks.specs.MatchTests.{tests, top, other_terms, constructor_projections, fields, con_equation}
use Rattle.rules.specs.term_rules.Conjuncts.{conjunction_with, conjunction_before}

pub un_some : {X : Type 0} (a b : X) → Some a ≡ Some b → a ≡ b
un_some a b h = cc

before_joined : (xs ys : List Tree) (left : Option Tree) → conjunction_before (xs ++ ys) left ≡ conjunction_before xs (conjunction_before ys left)
before_joined [] ys left = refl
before_joined (x ∷ xs) ys left = ap (conjunction_with x) (before_joined xs ys left)

-- the tests of a list of patterns: those of the first, then those of the others
module _ (t : TaskTree) (p first more a : Tree) (ss others : List Tree) (e : p ≡ Two HCell first more) (q : a ≡ top ss) (o : others ≡ other_terms ss) where
  list_here : (left : Option Tree) → conjunction_before (tests t p ss) left ≡ conjunction_before (tests t first (a ∷ [])) (conjunction_before (tests t more others) left)
  list_here left = rw (e, q, o) (before_joined (tests t first (top ss ∷ [])) (tests t more (other_terms ss)) left)

  pub is_list : (m rest left : Option Tree) → m ≡ conjunction_before (tests t first (a ∷ [])) rest → rest ≡ conjunction_before (tests t more others) left → m ≡ conjunction_before (tests t p ss) left
  is_list m rest left h i = h ∙ ap (conjunction_before (tests t first (a ∷ []))) i ∙ sym (list_here left)

  pub from_list : (m left : Option Tree) → m ≡ conjunction_before (tests t p ss) left → m ≡ conjunction_before (tests t first (a ∷ [])) (conjunction_before (tests t more others) left)
  from_list m left h = h ∙ list_here left

-- and those of a constructor's pattern
module _ (t : TaskTree) (k : ℕ) (types parts ty p a : Tree) (ss : List Tree) (js : List ℕ) (e : p ≡ Three (HPatCon k) types parts ty) (q : a ≡ top ss) (j : js ≡ constructor_projections t k) where
  abbrev pub inner : Option Tree → Option Tree
  inner left = conjunction_before (tests t parts (fields t js types a)) left

  pub tests_here : (left : Option Tree) → conjunction_before (tests t p ss) left ≡ conjunction_with (con_equation t k types a) (inner left)
  tests_here left = rw (e, q, j) refl

  pub is_here : (m n left : Option Tree) → m ≡ conjunction_with (con_equation t k types a) n → n ≡ inner left → m ≡ conjunction_before (tests t p ss) left
  is_here m n left h i = h ∙ ap (conjunction_with (con_equation t k types a)) i ∙ sym (tests_here left)

  pub from_here : (m left : Option Tree) → m ≡ conjunction_before (tests t p ss) left → m ≡ conjunction_with (con_equation t k types a) (inner left)
  from_here m left h = h ∙ tests_here left

-- where nothing is left, it is the conjunction of the list
whole : (a : Tree) (more : List Tree) → conjunction_before (a ∷ more) None ≡ Some (conjunction (a ∷ more))
whole a [] = refl
whole a (b ∷ more) = ap (conjunction_with a) (whole b more)

-- a tree is the test where it is the conjunction, or is `true` and nothing is asked
pub some_test : (m : Tree) (as' : List Tree) → Some m ≡ conjunction_before as' None → m ≡ conjunction as'
some_test m [] e = absurd (cc)
some_test m (a ∷ more) e = un_some m (conjunction (a ∷ more)) (e ∙ whole a more)

is_before : (m a : Tree) (more : List Tree) → m ≡ conjunction (a ∷ more) → Some m ≡ conjunction_before (a ∷ more) None
is_before m a more e = ap (λ (x : Tree). Some x) e ∙ sym (whole a more)

pub true_test : (m : Tree) (as' : List Tree) → m ≡ Leaf HTrue → (Some m ≡ conjunction_before as' None → ⊥) → (None ≡ conjunction_before as' None) ↔ (m ≡ conjunction as')
true_test m [] e n = (λ h. e, λ h. refl)
true_test m (a ∷ more) e n = (λ h. absurd (let k : None ≡ Some (conjunction (a ∷ more)) = h ∙ whole a more in cc), λ h. absurd (n (is_before m a more h)))

pub other_test : (m : Tree) (as' : List Tree) → (m ≡ Leaf HTrue → ⊥) → (Some m ≡ conjunction_before as' None → ⊥) → m ≡ conjunction as' → ⊥
other_test m [] e n h = e h
other_test m (a ∷ more) e n h = n (is_before m a more h)
