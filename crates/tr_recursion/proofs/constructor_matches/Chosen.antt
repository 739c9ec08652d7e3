-- The first branch of a `match` of a constructor's application: it is the constructor's, or on another constructor.
use Rattle.std.proofs.Common.{◌≡◌, ◌≢◌, ℕ, ◌==◌, Bool, true, false, if◌then◌else◌, IsTrue, List, [], ◌∷◌, Some, refl, sym, ap, subst, ◌∙◌, arith}
use Rattle.std.specs.List.{list_all}
use Rattle.std.proofs.lemmas.Bool.Decides.{nat_tests}
use Rattle.tasks.proofs.plain_laws.Bools.{and_first, and_second}
use Rattle.trees.specs.Tree.{Tree, Leaf, Two, HEnd, HCell, HArm}
use Rattle.tasks.specs.Task.{TaskTree}
use Rattle.tasks.specs.Roles.{role, is_constructor}
use Rattle.tasks.specs.Vocabulary.{of_task}
use Rattle.tasks.specs.Typing.{TypedUnder}
use Rattle.tr_inline.specs.inlining.branch_equations.Branches.{ConstructorBranch}
use Rattle.tr_recursion.specs.branch_instances.Chosen.{branch_pattern, arms_of, has_plain_fields, chosen_branch, IsChosen}

-- the first branch, and the others
pub record HasFirst (s arms right : Tree) (h : IsChosen s arms right) : Type 0 where
  pub branch : ConstructorBranch
  pub others : List ConstructorBranch
  pub is : h.branches ≡ branch ∷ others
  pub choice : (if branch.symbol == h.branch.symbol then Some branch else chosen_branch h.branch.symbol others) ≡ Some h.branch

module _ (s arms right : Tree) (h : IsChosen s arms right) where
  pub has_first : HasFirst s arms right h
  has_first = by h.branches refl h.chosen
    where
      by : (bs : List ConstructorBranch) → h.branches ≡ bs → chosen_branch h.branch.symbol bs ≡ Some h.branch → HasFirst s arms right h
      by [] e q = absurd (cc)
      by (b ∷ bs) e q = record { branch = b; others = bs; is = e; choice = q }

  pub arms_are : arms ≡ Two HCell (Two HArm (branch_pattern has_first.branch) has_first.branch.body) (arms_of has_first.others)
  arms_are = h.are ∙ ap arms_of has_first.is

  all_plain : list_all has_plain_fields (has_first.branch ∷ has_first.others) ≡ true
  all_plain = subst (λ (z : List ConstructorBranch). list_all has_plain_fields z ≡ true) has_first.is h.plain

  pub first_plain : has_plain_fields has_first.branch ≡ true
  first_plain = and_first (has_plain_fields has_first.branch) (list_all has_plain_fields has_first.others) all_plain

  -- by the numbers of its parts
  module _ (p a r : Tree) (e : arms ≡ Two HCell (Two HArm p a) r) where
    same : Two HCell (Two HArm p a) r ≡ Two HCell (Two HArm (branch_pattern has_first.branch) has_first.branch.body) (arms_of has_first.others)
    same = sym e ∙ arms_are

    pub pattern_is : p ≡ branch_pattern has_first.branch
    pattern_is = cc same

    pub body_is : a ≡ has_first.branch.body
    body_is = cc same

    pub others_are : r ≡ arms_of has_first.others
    others_are = cc same

    -- it is chosen where it is on the constructor, or the last one
    pub chosen_first : (has_first.branch.symbol == h.branch.symbol) ≡ true → has_first.branch ≡ h.branch
    chosen_first t = let q : Some has_first.branch ≡ Some h.branch = ap (λ (z : Bool). if z then Some has_first.branch else chosen_branch h.branch.symbol has_first.others) (sym t) ∙ has_first.choice in cc

    pub chosen_last : r ≡ Leaf HEnd → has_first.branch ≡ h.branch
    chosen_last n = by has_first.others others_are has_first.choice
      where
        by_test : (z : Bool) → (if z then Some has_first.branch else chosen_branch h.branch.symbol []) ≡ Some h.branch → has_first.branch ≡ h.branch
        by_test true q = cc
        by_test false q = absurd (cc)

        by : (bs : List ConstructorBranch) → r ≡ arms_of bs → (if has_first.branch.symbol == h.branch.symbol then Some has_first.branch else chosen_branch h.branch.symbol bs) ≡ Some h.branch → has_first.branch ≡ h.branch
        by [] o q = by_test (has_first.branch.symbol == h.branch.symbol) q
        by (b ∷ bs) o q = absurd (let z : Two HCell (Two HArm (branch_pattern b) b.body) (arms_of bs) ≡ Leaf HEnd = sym o ∙ n in cc)

    -- else among the others
    pub chosen_later : (has_first.branch.symbol == h.branch.symbol) ≡ false → IsChosen s r right
    chosen_later t = record {
      branches = has_first.others;
      are = others_are;
      plain = and_second (has_plain_fields has_first.branch) (list_all has_plain_fields has_first.others) all_plain;
      branch = h.branch;
      args = h.args;
      is = h.is;
      chosen = ap (λ (z : Bool). if z then Some has_first.branch else chosen_branch h.branch.symbol has_first.others) (sym t) ∙ has_first.choice;
      gives = h.gives;
    }

-- the others have a first one, where there are any
pub record HasArm (r : Tree) : Type 0 where
  pub pattern : Tree
  pub body : Tree
  pub rest : Tree
  pub is : r ≡ Two HCell (Two HArm pattern body) rest

pub more_arms : (bs : List ConstructorBranch) (r x y : Tree) → r ≡ arms_of bs → r ≡ Two HCell x y → HasArm r
more_arms [] r x y e q = absurd (let z : Leaf HEnd ≡ Two HCell x y = sym e ∙ q in cc)
more_arms (b ∷ bs) r x y e q = record { pattern = branch_pattern b; body = b.body; rest = arms_of bs; is = e }

-- a branch that is chosen is on a constructor
pub chosen_constructor : (t : TaskTree) (types : List Tree) (c : ℕ) (bs : List ConstructorBranch) (b : ConstructorBranch) → TypedUnder (of_task t) types (arms_of bs) → chosen_branch c bs ≡ Some b → IsTrue (is_constructor (role t b.symbol))
chosen_constructor t types c [] b x e = absurd (cc)
chosen_constructor t types c (d ∷ bs) b x e = by (d.symbol == c) e (chosen_constructor t types c bs b x.3)
  where
    by : (z : Bool) → (if z then Some d else chosen_branch c bs) ≡ Some b → (chosen_branch c bs ≡ Some b → IsTrue (is_constructor (role t b.symbol))) → IsTrue (is_constructor (role t b.symbol))
    by true q f = let s : d ≡ b = cc in subst (λ (z : ConstructorBranch). IsTrue (is_constructor (role t z.symbol))) s x.2.2.1.0
    by false q f = f q

pub numbers_turned : (m n : ℕ) (b : Bool) → (m == n) ≡ b → (n == m) ≡ b
numbers_turned m n true q = grind (arith, nat_tests)
numbers_turned m n false q = grind (arith, nat_tests)

pub numbers_differ : (m n : ℕ) → (m == n) ≡ false → m ≢ n
numbers_differ m n q = grind (arith, nat_tests)
