-- Lines of scripts: what each rule asks of the tail.
use Rattle.std.proofs.Common.{◌≡◌, ℕ, List, [], ◌∷◌, ◌++◌, slice_get, Some, IsSomeAnd, refl, sym, ap, subst, ◌∙◌}
use Rattle.std.proofs.lemmas.List.Elements.{All-nil}
use Rattle.trees.specs.Tree.{Tree, Leaf, One, Two, Three, HEnd, HTrue, HForall, HExists, HLet, HIf, HCase, HCell, HArm, head_of}
use Rattle.trees.specs.Binding.{inst, inst_many}
use Rattle.trees.specs.Sorts.{type_of}
use Rattle.tasks.specs.Task.{TaskTree, neg}
use Rattle.tasks.specs.Valid.{IsTypeOver}
use Rattle.tasks.specs.MatchTests.{test, bind}
use Rattle.rules.specs.Trees.{RNotTrue, RClash, RIrrefl, RNotNot, RForall, RNotForall, RExists, RNotExists, RReplace, RLetDef, RIfDef, RMatchDef}
use Rattle.rules.specs.Forms.{equal, alike, by_cases}
use Rattle.rules.specs.Rows.{IsNew, IsTemplate, unfolded}
use Rattle.kernel.specs.Right.{IsGroundExpression}
use Rattle.evidence.proofs.Formulas.{clash_names}
use Rattle.evidence.specs.Rules.{NamesOwn}
use Rattle.evidence.specs.proof_scripts.Scripts.{IsOfTail, IsByRule}

module _ (t : TaskTree) (s : List Tree) where
  pub clash_line : (i j : ℕ) (a : Tree) → slice_get s i ≡ Some a → slice_get s j ≡ Some (neg a) → IsOfTail t s (RClash i j)
  clash_line i j a e f = record { names = clash_names t i j; row = rw (e, f) (refl, refl) }

  pub true_line : (i : ℕ) → slice_get s i ≡ Some (neg (Leaf HTrue)) → IsOfTail t s (RNotTrue i)
  true_line i e = record { names = record { trees = tt; types = All-nil (IsTypeOver t 0) }; row = (e, refl) }

  pub forall_line : (i : ℕ) (ty b u : Tree) → slice_get s i ≡ Some (Two HForall ty b) → type_of u ≡ Some ty → IsGroundExpression t u → IsOfTail t s (RForall i u)
  forall_line i ty b u e q g = record { names = record { trees = (g, tt); types = All-nil (IsTypeOver t 0) }; row = rw e (q, refl) }

  pub not_forall_line : (i n : ℕ) (ty b : Tree) → slice_get s i ≡ Some (neg (Two HForall ty b)) → IsNew n s → IsOfTail t s (RNotForall i n)
  not_forall_line i n ty b e q = record { names = record { trees = tt; types = All-nil (IsTypeOver t 0) }; row = rw e (q, refl) }

  pub let_line : (v b : Tree) → IsGroundExpression t (Two HLet v b) → IsOfTail t s (RLetDef (Two HLet v b))
  let_line v b g = record { names = record { trees = (g, tt); types = All-nil (IsTypeOver t 0) }; row = refl }

  pub if_line : (c a b : Tree) → IsGroundExpression t (Three HIf c a b) → IsOfTail t s (RIfDef (Three HIf c a b))
  if_line c a b g = record { names = record { trees = (g, tt); types = All-nil (IsTypeOver t 0) }; row = refl }

  pub irrefl_line : (i : ℕ) (a : Tree) → slice_get s i ≡ Some (neg (equal a a)) → IsOfTail t s (RIrrefl i)
  irrefl_line i a e = record { names = record { trees = tt; types = All-nil (IsTypeOver t 0) }; row = rw e (refl, refl) }

  pub not_not_line : (i : ℕ) (a : Tree) → slice_get s i ≡ Some (neg (neg a)) → IsOfTail t s (RNotNot i)
  not_not_line i a e = record { names = record { trees = tt; types = All-nil (IsTypeOver t 0) }; row = rw e refl }

  pub exists_line : (i n : ℕ) (ty b : Tree) → slice_get s i ≡ Some (Two HExists ty b) → IsNew n s → IsOfTail t s (RExists i n)
  exists_line i n ty b e q = record { names = record { trees = tt; types = All-nil (IsTypeOver t 0) }; row = rw e (q, refl) }

  pub not_exists_line : (i : ℕ) (ty b u : Tree) → slice_get s i ≡ Some (neg (Two HExists ty b)) → type_of u ≡ Some ty → IsGroundExpression t u → IsOfTail t s (RNotExists i u)
  not_exists_line i ty b u e q g = record { names = record { trees = (g, tt); types = All-nil (IsTypeOver t 0) }; row = rw e (q, refl) }

  pub replace_line : (i j : ℕ) (a b e : Tree) → slice_get s i ≡ Some (equal a b) → slice_get s j ≡ Some (inst e a) → IsSomeAnd (type_of a) (λ ty. IsTemplate t ty e) → IsOfTail t s (RReplace i j e)
  replace_line i j a b e p q h = record { names = record { trees = tt; types = All-nil (IsTypeOver t 0) }; row = rw p (h, q, refl) }

  -- a `match` with one branch, and one with more
  names_own : (w : Tree) → IsGroundExpression t w → NamesOwn t (RMatchDef w)
  names_own w g = record { trees = (g, tt); types = All-nil (IsTypeOver t 0) }

  pub branch_unfolds : (w x sc p a : Tree) → IsGroundExpression t w → w ≡ Two HCase sc (Two HCell (Two HArm p a) (Leaf HEnd)) → x ≡ inst_many a (bind t p sc) → IsByRule t s (RMatchDef w) ((alike w x ∷ []) ∷ [])
  branch_unfolds w x sc p a g e q =
      let v : Tree = Two HCase sc (Two HCell (Two HArm p a) (Leaf HEnd)) in
      subst (λ (z : Tree). IsByRule t s (RMatchDef z) ((alike z x ∷ []) ∷ [])) (sym e) (record { names = names_own v (subst (IsGroundExpression t) e g); row = ap (λ (z : Tree). (s ++ alike v z ∷ []) ∷ []) q })

  unfolded_more : (c : Tree) (ts : List Tree) (e sc a r : Tree) → head_of r ≡ HCell → unfolded c ts e sc a r ≡ by_cases c e (inst_many a ts) (Two HCase sc r)
  unfolded_more c ts e sc a (Leaf HEnd) h = absurd (cc)
  unfolded_more c ts e sc a (Leaf _) h = refl
  unfolded_more c ts e sc a (One _ x) h = refl
  unfolded_more c ts e sc a (Two _ x y) h = refl
  unfolded_more c ts e sc a (Three _ x y z) h = refl

  pub branches_unfold : (w c x y sc p a r : Tree) → IsGroundExpression t w → w ≡ Two HCase sc (Two HCell (Two HArm p a) r) → head_of r ≡ HCell → c ≡ test t p sc → x ≡ inst_many a (bind t p sc) → y ≡ Two HCase sc r
      → IsByRule t s (RMatchDef w) ((by_cases c w x y ∷ []) ∷ [])
  branches_unfold w c x y sc p a r g e h k q m =
      let v : Tree = Two HCase sc (Two HCell (Two HArm p a) r) in
      let f : by_cases c v x y ≡ unfolded (test t p sc) (bind t p sc) v sc a r =
      ap (λ (z : Tree). by_cases z v x y) k ∙ ap (λ (z : Tree). by_cases (test t p sc) v z y) q ∙ ap (by_cases (test t p sc) v (inst_many a (bind t p sc))) m ∙ sym (unfolded_more (test t p sc) (bind t p sc) v sc a r h) in
      subst (λ (z : Tree). IsByRule t s (RMatchDef z) ((by_cases c z x y ∷ []) ∷ [])) (sym e)
      (record { names = names_own v (subst (IsGroundExpression t) e g); row = ap (λ (z : Tree). (s ++ z ∷ []) ∷ []) f })
