-- Branches on constructors, read off the tree of a definition's body.
use Rattle.std.proofs.Common.{◌≡◌, ◌&&◌, Bool, true, false, if◌then◌else◌, List, [], ◌∷◌, Option, Some, None, refl, sym, ap, subst, ◌∙◌}
use Rattle.std.specs.List.{list_all}
use Rattle.trees.specs.Tree.{Tree, Leaf, Two, Three, HEnd, HCell, HArm, HPatCon}
use Rattle.trees.specs.Sorts.{WellSorted}
use Rattle.tasks.specs.Typing.{members}
use Rattle.tr_inline.specs.inlining.branch_equations.Branches.{ConstructorBranch, is_plain_field, constructor_branch, add_branch, constructor_branches}
use Rattle.tr_recursion.specs.branch_instances.Chosen.{branch_pattern, arms_of, has_plain_fields}
use Rattle.tr_inline.proofs.Members.{cells_of}

-- each branch, read off a tree
record IsArm (arm : Tree) (b : ConstructorBranch) : Type 0 where
  is : arm ≡ Two HArm (branch_pattern b) b.body
  plain : has_plain_fields b ≡ true

arm_of : (arm : Tree) (b : ConstructorBranch) → constructor_branch arm ≡ Some b → WellSorted arm → IsArm arm b
arm_of (Two HArm (Three (HPatCon c) types ps ty) a) b q w = by (list_all is_plain_field (members ps)) refl q
  where
    made : ConstructorBranch
    made = record { symbol = c; types = types; fields = members ps; type = ty; body = a }

    by : (t : Bool) → list_all is_plain_field (members ps) ≡ t → (if t then Some made else None) ≡ Some b → IsArm (Two HArm (Three (HPatCon c) types ps ty) a) b
    by true e r =
        let s : made ≡ b = cc in
        subst (IsArm (Two HArm (Three (HPatCon c) types ps ty) a)) s (record { is = ap (λ (z : Tree). Two HArm (Three (HPatCon c) types z ty) a) (sym (cells_of ps w.1.2 w.1.0.1.0)); plain = e })
    by false e r = absurd (cc)
arm_of _ b q w = absurd (cc)

pub record AreArms (arms : Tree) (bs : List ConstructorBranch) : Type 0 where
  pub is : arms ≡ arms_of bs
  pub plain : list_all has_plain_fields bs ≡ true

joined : (arm rest : Tree) (o : Option ConstructorBranch) (os : Option (List ConstructorBranch)) (bs : List ConstructorBranch) → constructor_branch arm ≡ o → add_branch o os ≡ Some bs → ((b : ConstructorBranch) → constructor_branch arm ≡ Some b → IsArm arm b)
    → ((cs : List ConstructorBranch) → os ≡ Some cs → AreArms rest cs) → AreArms (Two HCell arm rest) bs
joined arm rest (Some b) (Some cs) bs d r f g =
    let s : b ∷ cs ≡ bs = cc in
    let x = f b d in
    let y = g cs refl in
    subst (AreArms (Two HCell arm rest)) s (record { is = ap (λ (z : Tree). Two HCell z rest) x.is ∙ ap (Two HCell (Two HArm (branch_pattern b) b.body)) y.is; plain = ap (λ (z : Bool). z && list_all has_plain_fields cs) x.plain ∙ y.plain })
joined arm rest (Some b) None bs d r f g = absurd (cc)
joined arm rest None os bs d r f g = absurd (cc)

pub arms_are : (arms : Tree) (bs : List ConstructorBranch) → constructor_branches arms ≡ Some bs → WellSorted arms → AreArms arms bs
arms_are (Leaf HEnd) bs q w = let s : [] ≡ bs = cc in subst (AreArms (Leaf HEnd)) s (record { is = refl; plain = refl })
arms_are (Two HCell arm rest) bs q w =
    joined arm rest (constructor_branch arm) (constructor_branches rest) bs refl q (λ b r. arm_of arm b r w.1) (λ cs r. arms_are rest cs r w.2)
arms_are _ bs q w = absurd (cc)
