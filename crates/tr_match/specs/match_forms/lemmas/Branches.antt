-- The branches of a typed list of branches.
use Rattle.std.proofs.Common.{◌≡◌, ◌⊎◌, inl, inr, List, [], ◌∷◌, Option, refl, ap}
use Rattle.trees.specs.declared.Sort.TheVariants as sort
use Rattle.trees.specs.Tree.{Tree, Leaf, One, Two, Three, HEnd, HCell, HArm, HBound, HParam, HNum, HTrue, HFalse, HNot, HPatAny, HPatVar, HPatAlias, HFun, HLet, HIf, HCase}
use Rattle.trees.specs.Sorts.{sort_of, yield}
use Rattle.tasks.specs.Vocabulary.{Vocabulary}
use Rattle.tasks.specs.Typing.{BranchesFit}
use Rattle.images.specs.typing_laws.HasTyping.{HasTyping}
use Rattle.tr_match.specs.match_forms.Branches.{ArmTree, arms_tree, AreTypedBranches}

pub record HasBranches (v : Vocabulary) (types : List Tree) (ty : Option Tree)
    (first e : Tree) : Type 0 where
  pub list : List ArmTree
  pub is : e ≡ arms_tree list
  pub typed : AreTypedBranches v types ty first list

-- ---- a list is the empty one or has a member
abbrev IsEndOrCell : Tree → Type 0
IsEndOrCell e = (e ≡ Leaf HEnd) ⊎ ((a : Tree) × ((b : Tree) × (e ≡ Two HCell a b)))

module _ (v : Vocabulary) (types : List Tree) where
  no_list : (e : Tree) → yield e ≡ sort.List → ⊥
  no_list (Leaf (HNum z)) q = cc
  no_list (Leaf HTrue) q = cc
  no_list (Leaf HFalse) q = cc
  no_list (Leaf _) q = cc
  no_list (One (HBound i) a) q = cc
  no_list (One (HParam n) a) q = cc
  no_list (One HNot a) q = cc
  no_list (One HPatAny a) q = cc
  no_list (One HPatVar a) q = cc
  no_list (One HPatAlias a) q = cc
  no_list (One _ a) q = cc
  no_list (Two HCell a b) q = no_list a q
  no_list (Two HLet a b) q = no_list b q
  no_list (Two HCase a b) q = no_list b q
  no_list (Two HArm a b) q = no_list b q
  no_list (Two _ a b) q = cc
  no_list (Three (HFun f) a b c) q = cc
  no_list (Three HIf a b c) q = no_list b q
  no_list (Three _ a b c) q = cc

  end_or_cell : (e : Tree) → HasTyping v types e → sort_of e ≡ sort.List → IsEndOrCell e
  end_or_cell (Leaf HEnd) x k = inl refl
  end_or_cell (Leaf HCell) x k = absurd x.0
  end_or_cell (Leaf HArm) x k = absurd x.0
  end_or_cell (Leaf h) x k = absurd (no_list (Leaf h) k)
  end_or_cell (One HEnd a) x k = absurd x.0
  end_or_cell (One HCell a) x k = absurd x.0
  end_or_cell (One HArm a) x k = absurd x.0
  end_or_cell (One h a) x k = absurd (no_list (One h a) k)
  end_or_cell (Two HCell a b) x k = inr (a, (b, refl))
  end_or_cell (Two HEnd a b) x k = absurd x.0.0
  end_or_cell (Two HArm a b) x k = absurd (cc)
  end_or_cell (Two h a b) x k = absurd (no_list (Two h a b) k)
  end_or_cell (Three HEnd a b c) x k = absurd x.0
  end_or_cell (Three HCell a b c) x k = absurd x.0
  end_or_cell (Three HArm a b c) x k = absurd x.0
  end_or_cell (Three h a b c) x k = absurd (no_list (Three h a b c) k)

-- ---- the branches of a list
module _ (v : Vocabulary) (types : List Tree) (ty : Option Tree) (first : Tree) where
  ended : (e : Tree) → IsEndOrCell e → ((a b : Tree) → e ≡ Two HCell a b → ⊥)
      → HasBranches v types ty first e
  ended e (inl q) n = record { list = []; is = q; typed = tt }
  ended e (inr q) n = absurd (n q.0 q.1.0 q.1.1)

  pub branches_of : (e : Tree) → HasTyping v types e → sort_of e ≡ sort.List
      → BranchesFit ty first e → HasBranches v types ty first e
  branches_of (Two HCell (Two HArm p a) b) x k f =
      let r = branches_of b x.3 x.0.0.1.0 f.1 in
      record {
        list = record { pattern = p; body = a } ∷ r.list;
        is = ap (Two HCell (Two HArm p a)) r.is;
        typed = (
          record {
            pattern = x.2.0.0.0;
            pattern_typed = x.2.2;
            pattern_type = f.0.0;
            body =
                x.2.0.0.1;
            body_typed = x.2.3;
            body_sort = f.0.1;
            body_type = f.0.2;
          },
          r.typed,
        );
      }
  branches_of (Two HCell a b) x k f = absurd f.0
  branches_of (Two h a b) x k f =
      ended (Two h a b) (end_or_cell v types (Two h a b) x k) (λ c d q. cc)
  branches_of (Leaf h) x k f = ended (Leaf h) (end_or_cell v types (Leaf h) x k) (λ c d q. cc)
  branches_of (One h a) x k f = ended (One h a) (end_or_cell v types (One h a) x k) (λ c d q. cc)
  branches_of (Three h a b c) x k f =
      ended (Three h a b c) (end_or_cell v types (Three h a b c) x k) (λ d g q. cc)
