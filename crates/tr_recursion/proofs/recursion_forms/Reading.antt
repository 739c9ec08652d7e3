-- Whether branches are on constructors, pairwise different, told from the first one and the others.
use Rattle.std.proofs.Common.{◌≡◌, ℕ, nat_lt, ◌==◌, ◌||◌, ◌&&◌, not, Bool, true, false, if◌then◌else◌, List, [], ◌∷◌, Option, Some, None, refl, sym, ap, ◌∙◌}
use Rattle.std.specs.List.{list_any}
use Rattle.std.specs.Option.{option_map, is_some}
use Rattle.trees.specs.Tree.{Tree, One, Two, HBound, HCell, HCase}
use Rattle.trees.specs.laws.Indices.{eqb_true, eqb_other}
use Rattle.tr_inline.specs.inlining.branch_equations.Branches.{ConstructorBranch, constructor_branch, add_branch, constructor_branches, are_different, if_different, matched_parameter}
use Rattle.tr_recursion.specs.recursion_forms.Read.{branches_or_none}

abbrev pub Names : ℕ → List ConstructorBranch → Bool
Names k bs = list_any (λ (x : ConstructorBranch). x.symbol == k) bs

-- the first one's constructor, or one of the others'
any_of : (k : ℕ) (o : Option ConstructorBranch) (os : Option (List ConstructorBranch)) (b : ConstructorBranch) (bs : List ConstructorBranch) (r : Bool) → o ≡ Some b → ((cs : List ConstructorBranch) → os ≡ Some cs → r ≡ Names k cs)
    → add_branch o os ≡ Some bs → ((b.symbol == k) || r) ≡ Names k bs
any_of k (Some a) (Some cs) b bs r q h w =
    let same : a ≡ b = cc in
    let are : a ∷ cs ≡ bs = cc in
    ap (λ (z : Bool). (b.symbol == k) || z) (h cs refl) ∙ ap (λ (z : ConstructorBranch). (z.symbol == k) || Names k cs) (sym same) ∙ ap (Names k) are
any_of k (Some a) None b bs r q h w = absurd (cc)
any_of k None os b bs r q h w = absurd (cc)

pub any_step : (k : ℕ) (e first rest : Tree) (b : ConstructorBranch) (r : Bool) → e ≡ Two HCell first rest → Some b ≡ constructor_branch first → ((cs : List ConstructorBranch) → constructor_branches rest ≡ Some cs → r ≡ Names k cs)
    → (bs : List ConstructorBranch) → constructor_branches e ≡ Some bs → ((b.symbol == k) || r) ≡ Names k bs
any_step k e first rest b r c q h bs w = any_of k (constructor_branch first) (constructor_branches rest) b bs r (sym q) h (sym (ap constructor_branches c) ∙ w)

-- where that is the first one's, whatever the others are
pub any_first : (k : ℕ) (e first rest : Tree) (b : ConstructorBranch) → e ≡ Two HCell first rest → Some b ≡ constructor_branch first → b.symbol ≡ k → (bs : List ConstructorBranch) → constructor_branches e ≡ Some bs → true ≡ Names k bs
any_first k e first rest b c q n bs w =
    let r = Names k (branches_or_none (constructor_branches rest)) in
    ap (λ (z : Bool). z || r) (sym (eqb_true b.symbol k n)) ∙ any_step k e first rest b r c q (λ cs x. ap (λ (z : Option (List ConstructorBranch)). Names k (branches_or_none z)) x) bs w

pub any_other : (k : ℕ) (e first rest : Tree) (b : ConstructorBranch) (r : Bool) → e ≡ Two HCell first rest → Some b ≡ constructor_branch first → (b.symbol ≡ k → ⊥) → ((cs : List ConstructorBranch) → constructor_branches rest ≡ Some cs → r ≡ Names k cs)
    → (bs : List ConstructorBranch) → constructor_branches e ≡ Some bs → r ≡ Names k bs
any_other k e first rest b r c q n h bs w = ap (λ (z : Bool). z || r) (sym (eqb_other b.symbol k n)) ∙ any_step k e first rest b r c q h bs w

different_of : (o : Option ConstructorBranch) (os : Option (List ConstructorBranch)) (b : ConstructorBranch) (t u : Bool) → o ≡ Some b → t ≡ is_some (if_different os) → ((cs : List ConstructorBranch) → os ≡ Some cs → u ≡ Names b.symbol cs) → (t && not u) ≡ is_some (if_different (add_branch o os))
different_of (Some a) None b false u q e h = refl
different_of (Some a) None b true u q e h = absurd (cc)
different_of (Some a) (Some cs) b t u q e h =
    let same : a ≡ b = cc in
    ap (λ (z : Bool). t && not z) (h cs refl) ∙ ap (λ (z : Bool). z && not (Names b.symbol cs)) e ∙ ap (λ (z : ConstructorBranch). is_some (if_different (Some cs)) && not (Names z.symbol cs)) (sym same) ∙ by (are_different cs) (Names a.symbol cs)
  where
    by : (x y : Bool) → (is_some (if x then Some cs else None) && not y) ≡ is_some (if not y && x then Some (a ∷ cs) else None)
    by true true = refl
    by true false = refl
    by false true = refl
    by false false = refl
different_of None os b t u q e h = absurd (cc)

pub different_step : (e first rest : Tree) (b : ConstructorBranch) (t u : Bool) → e ≡ Two HCell first rest → Some b ≡ constructor_branch first → t ≡ is_some (if_different (constructor_branches rest))
    → ((cs : List ConstructorBranch) → constructor_branches rest ≡ Some cs → u ≡ Names b.symbol cs) → (t && not u) ≡ is_some (if_different (constructor_branches e))
different_step e first rest b t u c q d h = different_of (constructor_branch first) (constructor_branches rest) b t u (sym q) d h ∙ ap (λ (z : Tree). is_some (if_different (constructor_branches z))) (sym c)

-- ---- the parameter that is matched
abbrev pub AtIndex : ℕ → Option (List ConstructorBranch) → Option (ℕ × List ConstructorBranch)
AtIndex i o = option_map (λ xs. (i, xs)) o

some_match : (i : ℕ) (o : Option (List ConstructorBranch)) → is_some (if_different o) ≡ true → AtIndex i (Some (branches_or_none o)) ≡ AtIndex i (if_different o)
some_match i None q = absurd (cc)
some_match i (Some xs) q = by (are_different xs) q
  where
    by : (t : Bool) → is_some (if t then Some xs else None) ≡ true → AtIndex i (Some xs) ≡ AtIndex i (if t then Some xs else None)
    by true r = refl
    by false r = absurd (cc)

none_match : (i : ℕ) (o : Option (List ConstructorBranch)) → is_some (if_different o) ≡ false → None ≡ AtIndex i (if_different o)
none_match i None q = refl
none_match i (Some xs) q = by (are_different xs) q
  where
    by : (t : Bool) → is_some (if t then Some xs else None) ≡ false → None ≡ AtIndex i (if t then Some xs else None)
    by true r = absurd (cc)
    by false r = refl

module _ (m i : ℕ) (body asked ty arms : Tree) (b : body ≡ Two HCase asked arms) (a : asked ≡ One (HBound i) ty) where
  same_match : (t : Bool) → nat_lt i m ≡ t → (if t then AtIndex i (if_different (constructor_branches arms)) else None) ≡ matched_parameter m body
  same_match t l =
      ap (λ (z : Bool). if z then AtIndex i (if_different (constructor_branches arms)) else None) (sym l)
      ∙ ap (λ (z : Tree). matched_parameter m (Two HCase z arms)) (sym a) ∙ ap (matched_parameter m) (sym b)

  pub matched_here : nat_lt i m ≡ true → is_some (if_different (constructor_branches arms)) ≡ true → AtIndex i (Some (branches_or_none (constructor_branches arms))) ≡ matched_parameter m body
  matched_here l d = some_match i (constructor_branches arms) d ∙ same_match true l

  pub no_branches : nat_lt i m ≡ true → is_some (if_different (constructor_branches arms)) ≡ false → None ≡ matched_parameter m body
  no_branches l d = none_match i (constructor_branches arms) d ∙ same_match true l

  pub not_matched : nat_lt i m ≡ false → None ≡ matched_parameter m body
  not_matched l = same_match false l
