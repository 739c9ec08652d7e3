-- A quantifier whose variable isn't used and its body, by their numbers in drafts that grow.
use Rattle.std.proofs.Common.{◌≡◌, ℕ, ◌≤◌, inl, Bool, true, false, [], ◌∷◌, sym, ap, subst, ◌∙◌, refl, arith}
use Rattle.trees.specs.declared.TermId.{TermId}
use Rattle.trees.specs.declared.Op.TheVariants.{Iff}
use Rattle.trees.specs.Tree.{Tree, Two, HForall, HExists, above_params}
use Rattle.trees.specs.Node.{tree_at, Holds}
use Rattle.trees.specs.Binding.{Param}
use Rattle.trees.specs.Facts.{is_open}
use Rattle.tasks.specs.Task.{TaskTree, neg}
use Rattle.rules.specs.Trees.{RClash, RForall, RNotForall, RExists, RNotExists}
use Rattle.rules.specs.Forms.{alike}
use Rattle.congruence.specs.kernel.Right.{IsGroundExpression}
use Rattle.evidence.specs.Drafts.{DraftTree, Extends, AddsTrees}
use Rattle.evidence.specs.Laws.{Extends_trans, AddsTrees_extends}
use Rattle.evidence.specs.proof_scripts.Scripts.{TailLine, FailingLine, Follows}
use Rattle.congruence.specs.Alike.{ArePair}
use Rattle.congruence.specs.Quantifiers.{quantifier_head}
use Rattle.congruence.proofs.Later.{tree_later}
use Rattle.tr_simplify.specs.Laws.{simplify_rule}
use Rattle.tr_simplify.proofs.Evidence.{forall_law, exists_law}

-- a new parameter of a quantifier's type
forall_parameter : (t : TaskTree) (ty b : Tree) (n : ℕ) → IsGroundExpression t (Two HForall ty b) → IsGroundExpression t (Param n ty)
forall_parameter t ty b n g = record { sort = inl refl; typed = (g.typed.0.0.0, tt, g.typed.2); ground = g.ground.0 }

exists_parameter : (t : TaskTree) (ty b : Tree) (n : ℕ) → IsGroundExpression t (Two HExists ty b) → IsGroundExpression t (Param n ty)
exists_parameter t ty b n g = record { sort = inl refl; typed = (g.typed.0.0.0, tt, g.typed.2); ground = g.ground.0 }

module _ (d d1 d2 : DraftTree) (a : AddsTrees d d1) (y : Extends d1 d2) (u : Bool) (left right ty body term : TermId) (n : ℕ) (p : ArePair d left right) (above : above_params (tree_at d.trees left) ≤ n)
    (node : tree_at d.trees left ≡ Two (quantifier_head u) (tree_at d.trees ty) (tree_at d.trees body)) (free : is_open 0 (tree_at d.trees body) ≡ false) (is : tree_at d.trees right ≡ simplify_rule (tree_at d.trees left))
    (held : Holds d1.trees term) (term_is : tree_at d1.trees term ≡ Param n (tree_at d.trees ty)) where
  x : Extends d d1
  x = AddsTrees_extends d d1 a

  xy : Extends d d2
  xy = Extends_trans d d1 d2 x y

  left_is : tree_at d1.trees left ≡ tree_at d.trees left
  left_is = tree_later d d1 x left p.left.held

  right_is : tree_at d1.trees right ≡ simplify_rule (tree_at d1.trees left)
  right_is = tree_later d d1 x right p.right.held ∙ is ∙ ap simplify_rule (sym left_is)

  term_later : tree_at d2.trees term ≡ Param n (tree_at d.trees ty)
  term_later = tree_later d1 d2 y term held ∙ term_is

  low : above_params (tree_at d1.trees left) ≤ n
  low = subst (λ (z : Tree). above_params z ≤ n) (sym left_is) above

  ground : IsGroundExpression d2.task (tree_at d.trees left)
  ground = subst (λ (t : TaskTree). IsGroundExpression t (tree_at d.trees left)) (sym xy.task) p.left.ground

  body_low : (e : Tree) → e ≡ Two (quantifier_head u) (tree_at d.trees ty) (tree_at d.trees body) → above_params e ≤ n → above_params (tree_at d.trees body) ≤ n
  body_low e q l = let m : above_params (Two (quantifier_head u) (tree_at d.trees ty) (tree_at d.trees body)) ≤ n = subst (λ (z : Tree). above_params z ≤ n) q l in omega (arith, m)

  pub forall_body : u ≡ true → Follows d2 [] (FailingLine Iff 0 ∷ TailLine (RForall 1 (tree_at d2.trees term)) ∷ TailLine (RClash 3 2) ∷ TailLine (RNotForall 1 n) ∷ TailLine (RClash 2 3) ∷ []) ((neg (alike (tree_at d1.trees left) (tree_at d1.trees right)) ∷ []) ∷ [])
  forall_body q =
      let e : tree_at d.trees left ≡ Two HForall (tree_at d.trees ty) (tree_at d.trees body) = node ∙ ap (λ (z : Bool). Two (quantifier_head z) (tree_at d.trees ty) (tree_at d.trees body)) q in
      let g = forall_parameter d2.task (tree_at d.trees ty) (tree_at d.trees body) n (subst (IsGroundExpression d2.task) e ground) in
      forall_law d2 (tree_at d.trees ty) (tree_at d.trees body) (tree_at d2.trees term) n free term_later (subst (IsGroundExpression d2.task) (sym term_later) g) (body_low (tree_at d.trees left) node above)
      (tree_at d1.trees left) (tree_at d1.trees right) (left_is ∙ e) right_is low

  pub exists_body : u ≡ false → Follows d2 [] (FailingLine Iff 0 ∷ TailLine (RExists 1 n) ∷ TailLine (RClash 3 2) ∷ TailLine (RNotExists 1 (tree_at d2.trees term)) ∷ TailLine (RClash 2 3) ∷ []) ((neg (alike (tree_at d1.trees left) (tree_at d1.trees right)) ∷ []) ∷ [])
  exists_body q =
      let e : tree_at d.trees left ≡ Two HExists (tree_at d.trees ty) (tree_at d.trees body) = node ∙ ap (λ (z : Bool). Two (quantifier_head z) (tree_at d.trees ty) (tree_at d.trees body)) q in
      let g = exists_parameter d2.task (tree_at d.trees ty) (tree_at d.trees body) n (subst (IsGroundExpression d2.task) e ground) in
      exists_law d2 (tree_at d.trees ty) (tree_at d.trees body) (tree_at d2.trees term) n free term_later (subst (IsGroundExpression d2.task) (sym term_later) g) (body_low (tree_at d.trees left) node above)
      (tree_at d1.trees left) (tree_at d1.trees right) (left_is ∙ e) right_is low
