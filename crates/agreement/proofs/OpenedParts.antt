-- The bodies of two quantified formulas at the next parameter, and of two `let`s at their values, are pairs of closed expressions,
-- asked before the whole is answered.
use Rattle.std.proofs.Common.{◌≡◌, ℕ, ◌+◌, ◌<◌, ◌≤◌, inl, Bool, true, false, [], ◌∷◌, ◌++◌, Option, refl, sym, ap, subst, ◌∙◌, arith}
use Rattle.trees.specs.declared.TermId.{TermId}
use Rattle.trees.specs.declared.Sort.TheVariants.{Term, Formula}
use Rattle.trees.specs.Tree.{Tree, Two, HLet, above_params, loose}
use Rattle.trees.specs.Node.{tree_at, Holds}
use Rattle.trees.specs.Binding.{inst, Param}
use Rattle.trees.specs.Sorts.{sort_of, type_of, IsExpression}
use Rattle.trees.specs.laws.Sorts.{term_no_vars}
use Rattle.tasks.specs.Vocabulary.{of_task}
use Rattle.tasks.specs.Typing.{TypedUnder, option_list}
use Rattle.tasks.specs.Valid.{IsGround}
use Rattle.tasks.proofs.Closing.{typed_closed}
use Rattle.evidence.specs.Drafts.{DraftTree, IsFormulaAt}
use Rattle.congruence.specs.tasks.typed_trees.instances.Instances.{IsTermOf, IsInstance, IsClosedTerm}
use Rattle.images.proofs.Images.{expression_sort, expression_type}
use Rattle.images.proofs.Changes.{open_inst_type, open_inst_sort}
use Rattle.images.proofs.Templates.{term_has_type}
use Rattle.congruence.specs.Alike.{IsClosedAt, ArePair}
use Rattle.congruence.specs.Quantifiers.{quantifier_head}
use Rattle.congruence.proofs.CaseParts.{closed_formula, formula_pair, parts_pair}
use Rattle.agreement.specs.declared.questions.Question.{Question}
use Rattle.agreement.specs.Ranks.{rank, zero_ranks, ranks_put}
use Rattle.agreement.specs.Agreement.{ArePartsOf, number_under}
use Rattle.agreement.specs.Questions.{IsAsked, AreQuestions}
use Rattle.agreement.proofs.Ranks.{expression_rank}
use Rattle.agreement.proofs.BinderRanks.{inst_rank}
use Rattle.agreement.proofs.PartLists.{Pairs}
use Rattle.agreement.proofs.PlainParts.{question, formula_at, one_part}

-- what is over a body and has a rank above it
quantified_rank : (u : Bool) (ty a : Tree) → rank a (ranks_put 1 0 zero_ranks) 0 < rank (Two (quantifier_head u) ty a) zero_ranks 0
quantified_rank true ty a = omega arith
quantified_rank false ty a = omega arith

quantified_typed : (d : DraftTree) (u : Bool) (ty a : Tree) → TypedUnder (of_task d.task) [] (Two (quantifier_head u) ty a) → (sort_of a ≡ Formula) × IsTermOf (of_task d.task) ty (Param 0 ty) × TypedUnder (of_task d.task) (ty ∷ []) a × ((n : ℕ) → IsTermOf (of_task d.task) ty (Param n ty))
quantified_typed d true ty a x = (x.0.0.1, record { sort = refl; typed = (x.0.0.0, tt, x.2); type = refl }, x.3, λ n. record { sort = refl; typed = (x.0.0.0, tt, x.2); type = refl })
quantified_typed d false ty a x = (x.0.0.1, record { sort = refl; typed = (x.0.0.0, tt, x.2); type = refl }, x.3, λ n. record { sort = refl; typed = (x.0.0.0, tt, x.2); type = refl })

pub quantified_formula : (d : DraftTree) (u : Bool) (id : TermId) (ty a : Tree) → IsClosedAt d id → tree_at d.trees id ≡ Two (quantifier_head u) ty a → IsFormulaAt d id
quantified_formula d true id ty a c q = closed_formula d id c (ap sort_of q)
quantified_formula d false id ty a c q = closed_formula d id c (ap sort_of q)

quantified_ground : (u : Bool) (ty a : Tree) → IsGround (Two (quantifier_head u) ty a) → IsGround ty × IsGround a
quantified_ground true ty a g = g
quantified_ground false ty a g = g

quantified_above : (u : Bool) (n : ℕ) (ty a : Tree) → above_params (Two (quantifier_head u) ty a) ≤ n → (above_params ty ≤ n) × (above_params a ≤ n)
quantified_above true n ty a l = (omega (arith, l), omega (arith, l))
quantified_above false n ty a l = (omega (arith, l), omega (arith, l))

quantified_number : (u : Bool) (n : ℕ) (ty a : Tree) → number_under n (Two (quantifier_head u) ty a) ≡ n + 1
quantified_number true n ty a = refl
quantified_number false n ty a = refl

quantified_parts : (d : DraftTree) (u : Bool) (n : ℕ) (ty a b : Tree) → ArePartsOf d.task n (Two (quantifier_head u) ty a) (Two (quantifier_head u) ty b) ((inst a (Param n ty), inst b (Param n ty)) ∷ [])
quantified_parts d true n ty a b = (refl, refl)
quantified_parts d false n ty a b = (refl, refl)

-- the two are over one type
pub one_type : (d : DraftTree) (u : Bool) (n : ℕ) (ty a b uy : Tree) (ps : Pairs) → ArePartsOf d.task n (Two (quantifier_head u) ty a) (Two (quantifier_head u) uy b) ps → uy ≡ ty
one_type d true n ty a b uy ps x = x.0
one_type d false n ty a b uy ps x = x.0

-- the body of a quantified formula at the parameter
module _ (d : DraftTree) (u : Bool) (n : ℕ) (id body x : TermId) (ty : Tree) (c : IsClosedAt d id) (q : tree_at d.trees id ≡ Two (quantifier_head u) ty (tree_at d.trees body)) (l : above_params (tree_at d.trees id) ≤ n)
    (h : Holds d.trees x) (k : IsInstance (tree_at d.trees body) (Param n ty) (tree_at d.trees x)) where
  pub opened_formula : IsFormulaAt d x
  opened_formula =
      let A = tree_at d.trees body in
      let t = quantified_typed d u ty A (subst (TypedUnder (of_task d.task) []) q c.ground.typed) in
      let g = quantified_ground u ty A (subst IsGround q c.ground.ground) in
      formula_at d x h (k.sort ∙ t.0) (k.typed (of_task d.task) ty (t.3 n) t.2) (k.variables 0 g.0 g.1)

  pub opened_above : above_params (tree_at d.trees x) ≤ n + 1
  opened_above =
      let a = quantified_above u n ty (tree_at d.trees body) (subst (λ (z : Tree). above_params z ≤ n) q l) in
      k.above (n + 1) (omega (arith, a.0)) (omega (arith, a.1))

module _ (d : DraftTree) (q : Question) (i : IsAsked d q) where
  pub under_asked : (u : Bool) (ty : Tree) (a b x y : TermId) → tree_at d.trees q.left ≡ Two (quantifier_head u) ty (tree_at d.trees a) → tree_at d.trees q.right ≡ Two (quantifier_head u) ty (tree_at d.trees b) → Holds d.trees x → Holds d.trees y
      → tree_at d.trees x ≡ inst (tree_at d.trees a) (Param q.number ty) → tree_at d.trees y ≡ inst (tree_at d.trees b) (Param q.number ty) → IsInstance (tree_at d.trees a) (Param q.number ty) (tree_at d.trees x) → IsInstance (tree_at d.trees b) (Param q.number ty) (tree_at d.trees y)
      → AreQuestions d q (question x y (q.number + 1) ∷ [])
  under_asked u ty a b x y ql qr hx hy ex ey kx ky =
      let n = q.number in
      let A = tree_at d.trees a in
      let B = tree_at d.trees b in
      let p : Tree × Tree = (tree_at d.trees x, tree_at d.trees y) in
      let ty_closed : loose (Param n ty) ≡ 0 = let t = quantified_typed d u ty A (subst (TypedUnder (of_task d.task) []) ql i.pair.left.ground.typed) in omega (arith, typed_closed (of_task d.task) [] (Param n ty) (t.3 n).typed) in
      let r : rank (inst A (Param n ty)) zero_ranks 0 ≤ rank A (ranks_put 1 0 zero_ranks) 0 = inst_rank A (Param n ty) 0 ty_closed refl (λ w. omega arith) in
      let s : rank (tree_at d.trees x) zero_ranks 0 < rank (tree_at d.trees q.left) zero_ranks 0
      = subst (λ (z : Tree). rank z zero_ranks 0 < rank (tree_at d.trees q.left) zero_ranks 0) (sym ex) (subst (λ (z : Tree). rank (inst A (Param n ty)) zero_ranks 0 < rank z zero_ranks 0) (sym ql) (omega (arith, r, quantified_rank u ty A))) in
      one_part d q (question x y (n + 1))
      (record {
        pair = formula_pair d x y (opened_formula d u n q.left a x ty i.pair.left ql i.left_above hx kx) (opened_formula d u n q.right b y ty i.pair.right qr i.right_above hy ky);
        left_above = opened_above d u n q.left a x ty i.pair.left ql i.left_above hx kx;
        right_above = opened_above d u n q.right b y ty i.pair.right qr i.right_above hy ky;
      })
      (sym (ap (number_under n) ql ∙ quantified_number u n ty A)) (inl s)
      (subst (λ (z : Tree). ArePartsOf d.task n (tree_at d.trees q.left) z (p ∷ [])) (sym qr) (subst (λ (z : Tree). ArePartsOf d.task n z (Two (quantifier_head u) ty B) (p ∷ [])) (sym ql)
      (subst (λ (z : Tree). ArePartsOf d.task n (Two (quantifier_head u) ty A) (Two (quantifier_head u) ty B) ((z, tree_at d.trees y) ∷ [])) (sym ex)
      (subst (λ (z : Tree). ArePartsOf d.task n (Two (quantifier_head u) ty A) (Two (quantifier_head u) ty B) ((inst A (Param n ty), z) ∷ [])) (sym ey) (quantified_parts d u n ty A B)))))

-- ---- `let`
let_rank : (v a : Tree) → rank a (ranks_put 1 (rank v zero_ranks 0) zero_ranks) 0 < rank (Two HLet v a) zero_ranks 0
let_rank v a = omega arith

record LetBody (d : DraftTree) (v a x : Tree) : Type 0 where
  pub sort : sort_of x ≡ sort_of (Two HLet v a)
  pub type : type_of x ≡ type_of (Two HLet v a)
  pub expression : IsExpression (sort_of x)
  pub typed : TypedUnder (of_task d.task) [] x
  pub ground : IsGround x

let_body : (d : DraftTree) (v a : Tree) → TypedUnder (of_task d.task) [] (Two HLet v a) → IsGround (Two HLet v a) → IsInstance a v (inst a v) → LetBody d v a (inst a v)
let_body d v a x g k =
    let sv : sort_of v ≡ Term = x.0.0.0 in
    let sa : IsExpression (sort_of a) = x.0.0.1 in
    let h = term_has_type (of_task d.task) [] v sv x.2 in
    let y : TypedUnder (of_task d.task) (h.0 ∷ []) a = subst (λ (o : Option Tree). TypedUnder (of_task d.task) (option_list o ++ []) a) h.1 x.3 in
    let ty : type_of (inst a v) ≡ type_of a = open_inst_type (of_task d.task) h.0 [] v sv h.1 x.2 a y in
    record {
      sort = k.sort ∙ sym (expression_sort a sa);
      type = ty ∙ expression_type a sa;
      expression = subst IsExpression (sym k.sort) sa;
      typed = k.typed (of_task d.task) h.0 (record { sort = sv; typed = x.2; type = h.1 }) y;
      ground = k.variables 0 g.0 g.1;
    }

module _ (d : DraftTree) (id x : TermId) (v a : Tree) (c : IsClosedAt d id) (q : tree_at d.trees id ≡ Two HLet v a) (h : Holds d.trees x) (e : tree_at d.trees x ≡ inst a v) (k : IsInstance a v (tree_at d.trees x)) where
  pub let_pair : ArePair d id x
  let_pair =
      let b = let_body d v a (subst (TypedUnder (of_task d.task) []) q c.ground.typed) (subst IsGround q c.ground.ground) (subst (IsInstance a v) e k) in
      record {
        left = c;
        right = record { held = h; ground = record { sort = subst (λ (z : Tree). IsExpression (sort_of z)) (sym e) b.expression; typed = subst (TypedUnder (of_task d.task) []) (sym e) b.typed; ground = subst IsGround (sym e) b.ground } };
        sort = ap sort_of e ∙ b.sort ∙ ap sort_of (sym q);
        type = ap type_of e ∙ b.type ∙ ap type_of (sym q);
      }

  pub let_above : (n : ℕ) → above_params (tree_at d.trees id) ≤ n → above_params (tree_at d.trees x) ≤ n
  let_above n l = let m : above_params (Two HLet v a) ≤ n = subst (λ (z : Tree). above_params z ≤ n) q l in k.above n (omega (arith, m)) (omega (arith, m))

pub let_lower : (d : DraftTree) (id x : TermId) (v a : Tree) → IsClosedAt d id → tree_at d.trees id ≡ Two HLet v a → tree_at d.trees x ≡ inst a v → rank (tree_at d.trees x) zero_ranks 0 < rank (tree_at d.trees id) zero_ranks 0
let_lower d id x v a c q e =
    let t : TypedUnder (of_task d.task) [] (Two HLet v a) = subst (TypedUnder (of_task d.task) []) q c.ground.typed in
    let r = inst_rank a v (rank v zero_ranks 0) (omega (arith, typed_closed (of_task d.task) [] v t.2)) (term_no_vars v t.0.0.0) (λ w. let z = expression_rank v zero_ranks w 0 (inl t.0.0.0) in omega (arith, z)) in
    subst (λ (z : Tree). rank z zero_ranks 0 < rank (tree_at d.trees id) zero_ranks 0) (sym e) (subst (λ (z : Tree). rank (inst a v) zero_ranks 0 < rank z zero_ranks 0) (sym q) (omega (arith, r, let_rank v a)))

-- the value of a `let` is a closed term
pub let_value : (d : DraftTree) (id : TermId) (v a : Tree) → IsClosedAt d id → tree_at d.trees id ≡ Two HLet v a → IsClosedTerm v
let_value d id v a c q =
    let t : TypedUnder (of_task d.task) [] (Two HLet v a) = subst (TypedUnder (of_task d.task) []) q c.ground.typed in
    record { sort = t.0.0.0; closed = omega (arith, typed_closed (of_task d.task) [] v t.2) }

pub let_asked : (d : DraftTree) (q : Question) (i : IsAsked d q) (v a w b : Tree) (x y : TermId) → tree_at d.trees q.left ≡ Two HLet v a → tree_at d.trees q.right ≡ Two HLet w b → Holds d.trees x → Holds d.trees y
    → tree_at d.trees x ≡ inst a v → tree_at d.trees y ≡ inst b w → IsInstance a v (tree_at d.trees x) → IsInstance b w (tree_at d.trees y) → AreQuestions d q (question x y q.number ∷ [])
let_asked d q i v a w b x y ql qr hx hy ex ey kx ky =
    let X = tree_at d.trees x in
    let Y = tree_at d.trees y in
    let e : (X, Y) ∷ [] ≡ (inst a v, inst b w) ∷ [] = cc (ex, ey) in
    one_part d q (question x y q.number)
    (record {
      pair = parts_pair d q.left q.right x y i.pair (let_pair d q.left x v a i.pair.left ql hx ex kx) (let_pair d q.right y w b i.pair.right qr hy ey ky);
      left_above = let_above d q.left x v a i.pair.left ql hx ex kx q.number i.left_above;
      right_above = let_above d q.right y w b i.pair.right qr hy ey ky q.number i.right_above;
    })
    (sym (ap (number_under q.number) ql)) (inl (let_lower d q.left x v a i.pair.left ql ex))
    (subst (λ (z : Tree). ArePartsOf d.task q.number (tree_at d.trees q.left) z ((X, Y) ∷ [])) (sym qr) (subst (λ (z : Tree). ArePartsOf d.task q.number z (Two HLet w b) ((X, Y) ∷ [])) (sym ql) e))

-- ---- bodies that are known to be closed
pub value_pair : (d : DraftTree) (id x : TermId) (v a : Tree) → IsClosedAt d id → tree_at d.trees id ≡ Two HLet v a → IsClosedAt d x → tree_at d.trees x ≡ inst a v → ArePair d id x
value_pair d id x v a c q k e =
    let t : TypedUnder (of_task d.task) [] (Two HLet v a) = subst (TypedUnder (of_task d.task) []) q c.ground.typed in
    let sv : sort_of v ≡ Term = t.0.0.0 in
    let sa : IsExpression (sort_of a) = t.0.0.1 in
    let h = term_has_type (of_task d.task) [] v sv t.2 in
    let y : TypedUnder (of_task d.task) (h.0 ∷ []) a = subst (λ (o : Option Tree). TypedUnder (of_task d.task) (option_list o ++ []) a) h.1 t.3 in
    let so : sort_of (inst a v) ≡ sort_of a = open_inst_sort (of_task d.task) h.0 [] v sv h.1 t.2 a y in
    let ty : type_of (inst a v) ≡ type_of a = open_inst_type (of_task d.task) h.0 [] v sv h.1 t.2 a y in
    record { left = c; right = k; sort = ap sort_of e ∙ so ∙ sym (expression_sort a sa) ∙ ap sort_of (sym q); type = ap type_of e ∙ ty ∙ expression_type a sa ∙ ap type_of (sym q) }

pub opened_sort : (d : DraftTree) (u : Bool) (n : ℕ) (id x : TermId) (ty a : Tree) → IsClosedAt d id → tree_at d.trees id ≡ Two (quantifier_head u) ty a → tree_at d.trees x ≡ inst a (Param n ty) → sort_of (tree_at d.trees x) ≡ Formula
opened_sort d u n id x ty a c q e =
    let t = quantified_typed d u ty a (subst (TypedUnder (of_task d.task) []) q c.ground.typed) in
    let p = t.3 n in
    ap sort_of e ∙ open_inst_sort (of_task d.task) ty [] (Param n ty) p.sort p.type p.typed a t.2 ∙ t.0
