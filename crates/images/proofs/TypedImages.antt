-- The image of a tree under a rule that keeps typing has the tree's sort, type and typing.
use Rattle.std.proofs.Common.{◌≡◌, ℕ, ◌≤◌, ◌⊎◌, inl, inr, List, [], ◌++◌, map, get_or, Option, Some, None, subst, refl, sym, ap, ◌∙◌, arith}
use Rattle.trees.specs.declared.Sort.{Sort}
use Rattle.trees.specs.declared.Sort.TheVariants.{Kind, Term, Formula, Pattern, Branch}
use Rattle.trees.specs.Tree.{Tree, Leaf, One, Two, Three, Head, HTyVar, HTyRigid, HTyApp, HEnd, HCell, HBound, HParam, HNum, HFun, HPred, HEq, HTrue, HFalse, HNot, HJoin, HForall, HExists, HLet, HIf, HCase, HArm, HPatAny, HPatVar, HPatCon, HPatAlias, head_of, above_params}
use Rattle.trees.specs.Sorts.{Fits, sort_of, yield, yield_type, type_of, first_sort, IsList, IsListOf, IsExpression}
use Rattle.trees.specs.Binding.{inst_types, TyVar}
use Rattle.trees.proofs.Instances.{inst_two}
use Rattle.trees.proofs.Types.{AreKinds, expression_yield, three_no_cell}
use Rattle.tasks.specs.Vocabulary.{Vocabulary}
use Rattle.tasks.specs.Typing.{members, entry, IsUse, option_list, bound_types, BranchFits, BranchesFit, first_body}
use Rattle.tasks.specs.Valid.{VariablesBelow, ParametersOf}
use Rattle.tasks.specs.Task.{SymbolTree}
use Rattle.tasks.proofs.TypeInstances.{some_kept}
use Rattle.images.specs.Images.{image, IsOtherHead}
use Rattle.images.proofs.Images.{ArePatterns, expression_sort, expression_type, expression_members, expression_branches, leaf_no_list, branches_alike, others_type, no_patterns, expression_no_patterns, expression_first, expression_cell, expression_arm, first_of}
use Rattle.images.specs.typing_laws.HasTyping.{Suits, HasSorts, HasTyping, IsTypeAt, KeepsTyping, IsTypedRule, over_parts}
use Rattle.images.proofs.typing_laws.TypeInstances.{at_one}
use Rattle.images.proofs.typing_laws.Sorted.{has_sorts, kinds_sorted, one_is_no_cell}

module _ (v : Vocabulary) (f : Tree → Tree) (r : IsTypedRule v f) where
  pub image_type : (e : Tree) → HasSorts e → AreKinds e → image f e ≡ e
  image_type e w k = others_type f r.others e (kinds_sorted e w k) k

  -- patterns and lists of patterns
  pub image_patterns : (types : List Tree) (e : Tree) → HasTyping v types e → ArePatterns e → image f e ≡ e
  image_patterns types (Leaf HEnd) x k = r.others (Leaf HEnd) tt
  image_patterns types (Leaf (HTyVar j)) x k = r.others (Leaf (HTyVar j)) tt
  image_patterns types (Leaf (HTyRigid j)) x k = r.others (Leaf (HTyRigid j)) tt
  image_patterns types (Leaf (HNum z)) x k = absurd (no_patterns Term Term None refl (λ e. cc) (λ e. cc) k)
  image_patterns types (Leaf HTrue) x k = absurd (no_patterns Formula Formula None refl (λ e. cc) (λ e. cc) k)
  image_patterns types (Leaf HFalse) x k = absurd (no_patterns Formula Formula None refl (λ e. cc) (λ e. cc) k)
  image_patterns types (Leaf _) x k = absurd x.0
  image_patterns types (One HPatAny a) x k = ap (λ (z : Tree). f (One HPatAny z)) (image_type a (has_sorts v types a x.2) (inl x.0)) ∙ r.others (One HPatAny a) tt
  image_patterns types (One HPatVar a) x k = ap (λ (z : Tree). f (One HPatVar z)) (image_type a (has_sorts v types a x.2) (inl x.0)) ∙ r.others (One HPatVar a) tt
  image_patterns types (One HPatAlias a) x k = ap (λ (z : Tree). f (One HPatAlias z)) (image_patterns types a x.2 (inl x.0)) ∙ r.others (One HPatAlias a) tt
  image_patterns types (One (HBound n) a) x k = absurd (no_patterns Term Term None refl (λ e. cc) (λ e. cc) k)
  image_patterns types (One (HParam n) a) x k = absurd (no_patterns Term Term None refl (λ e. cc) (λ e. cc) k)
  image_patterns types (One HNot a) x k = absurd (no_patterns Formula Formula None refl (λ e. cc) (λ e. cc) k)
  image_patterns types (One (HTyApp n) a) x k = absurd (no_patterns Kind Kind None refl (λ e. cc) (λ e. cc) k)
  image_patterns types (One _ a) x k = absurd x.0
  image_patterns types (Two HCell a b) x (inl e) = absurd (cc)
  image_patterns types (Two HCell a b) x (inr l) =
      let p = first_of Pattern a b x.0 l in
      ap (λ (z : Tree). f (Two HCell z (image f b))) (image_patterns types a x.2 (inl p.0)) ∙ ap (λ (z : Tree). f (Two HCell a z)) (image_patterns types b x.3 (inr p.1)) ∙ r.others (Two HCell a b) tt
  image_patterns types (Two HLet a b) x k = absurd (expression_no_patterns (yield b) None (expression_yield b x.0.0.1) k)
  image_patterns types (Two HCase a (Two HCell (Two HArm p e) b)) x k = absurd (expression_no_patterns (yield e) None (expression_yield e x.3.2.0.0.1) k)
  image_patterns types (Two HCase a (Two HCell c b)) x k = absurd x.1.0
  image_patterns types (Two HCase a (Two _ c b)) x k = absurd (let q = x.0.1 in cc)
  image_patterns types (Two HCase a (Leaf h)) x k = absurd (leaf_no_list h x.3.0 x.0.1)
  image_patterns types (Two HCase a (One h b)) x k = absurd (one_is_no_cell h b x.3.0 x.0.1)
  image_patterns types (Two HCase a (Three h b c d)) x k = absurd (three_no_cell h b c d x.3.0 x.0.1)
  image_patterns types (Two HArm a b) x k = absurd (no_patterns Branch Branch None refl (λ e. cc) (λ e. cc) k)
  image_patterns types (Two (HPred p) a b) x k = absurd (no_patterns Formula Formula None refl (λ e. cc) (λ e. cc) k)
  image_patterns types (Two HEq a b) x k = absurd (no_patterns Formula Formula None refl (λ e. cc) (λ e. cc) k)
  image_patterns types (Two (HJoin op) a b) x k = absurd (no_patterns Formula Formula None refl (λ e. cc) (λ e. cc) k)
  image_patterns types (Two HForall a b) x k = absurd (no_patterns Formula Formula None refl (λ e. cc) (λ e. cc) k)
  image_patterns types (Two HExists a b) x k = absurd (no_patterns Formula Formula None refl (λ e. cc) (λ e. cc) k)
  image_patterns types (Two _ a b) x k = absurd x.0.0
  image_patterns types (Three (HPatCon n) a b c) x k =
      ap (λ (z : Tree). f (Three (HPatCon n) z (image f b) (image f c))) (image_type a (has_sorts v types a x.2) (inr x.0.0))
      ∙ ap (λ (z : Tree). f (Three (HPatCon n) a z (image f c))) (image_patterns types b x.3 (inr x.0.1))
      ∙ ap (λ (z : Tree). f (Three (HPatCon n) a b z)) (image_type c (has_sorts v types c x.4) (inl x.0.2)) ∙ r.others (Three (HPatCon n) a b c) tt
  image_patterns types (Three (HFun n) a b c) x k = absurd (no_patterns Term Term None refl (λ e. cc) (λ e. cc) k)
  image_patterns types (Three HIf a b c) x k = absurd (expression_no_patterns (yield b) None (expression_yield b x.0.1) k)
  image_patterns types (Three _ a b c) x k = absurd x.0

  -- ---- what is made of a typed tree, expression or not
  pub record Like (types : List Tree) (e m : Tree) : Type 0 where
    pub typed : HasTyping v types m
    pub sort : sort_of m ≡ sort_of e
    pub yields : yield m ≡ yield e
    pub first : first_sort m ≡ first_sort e
    pub type : type_of m ≡ type_of e
    pub yield_types : yield_type m ≡ yield_type e
    pub types_of : map type_of (members m) ≡ map type_of (members e)
    pub cell : head_of e ≡ HCell → head_of m ≡ HCell
    pub arm : (p x : Tree) → e ≡ Two HArm p x → (y : Tree) × ((m ≡ Two HArm p y) × ((sort_of y ≡ sort_of x) × (type_of y ≡ type_of x)))
    pub branches : (ty : Option Tree) (one : Tree) → BranchesFit ty one e → BranchesFit ty one m
    pub body : (ty : Option Tree) (one : Tree) → head_of e ≡ HCell → BranchesFit ty one e → (sort_of (first_body m) ≡ sort_of (first_body e)) × (type_of (first_body m) ≡ type_of (first_body e))
    pub variables : (n : ℕ) → VariablesBelow n e → VariablesBelow n m
    pub above : (n : ℕ) → above_params e ≤ n → above_params m ≤ n
    pub parameters : (ps : List Tree) → ParametersOf ps e → ParametersOf ps m

  like_refl : (types : List Tree) (e : Tree) → HasTyping v types e → Like types e e
  like_refl types e x = record {
    typed = x;
    sort = refl;
    yields = refl;
    first = refl;
    type = refl;
    yield_types = refl;
    types_of = refl;
    cell = λ h. h;
    arm = λ p y q. (y, (q, (refl, refl)));
    branches = λ ty one h. h;
    body = λ ty one c h. (refl, refl);
    variables = λ n h. h;
    above = λ n h. h;
    parameters = λ ps h. h;
  }

  like_expression : (types : List Tree) (e m : Tree) → IsExpression (sort_of e) → KeepsTyping v types e m → Like types e m
  like_expression types e m s k =
      let t : IsExpression (sort_of m) = subst IsExpression (sym k.sort) s in record {
        typed = k.typed;
        sort = k.sort;
        yields = expression_sort m t ∙ k.sort ∙ sym (expression_sort e s);
        first = expression_first m t ∙ sym (expression_first e s);
        type = k.type;
        yield_types = sym (expression_type m t) ∙ k.type ∙ expression_type e s;
        types_of = ap (map type_of) (expression_members m t ∙ sym (expression_members e s));
        cell = λ h. absurd (expression_cell e s h);
        arm = λ p x q. absurd (expression_arm p x (subst (λ (z : Tree). IsExpression (sort_of z)) q s));
        branches = λ ty one h. expression_branches ty one m t;
        body = λ ty one c h. absurd (expression_cell e s c);
        variables = k.variables;
        above = k.above;
        parameters = k.parameters;
      }

  -- the rule at a node that has what typing sees of the tree
  by_rule : (types : List Tree) (e o : Tree) → IsExpression (sort_of e) → KeepsTyping v types e o → Like types e (f o)
  by_rule types e o s k =
      let n = r.keeps types o (subst IsExpression (sym k.sort) s) k.typed in
      like_expression types e (f o) s (record {
        typed = n.typed;
        sort = n.sort ∙ k.sort;
        type = n.type ∙ k.type;
        variables = λ j h. n.variables j (k.variables j h);
        above = λ j h. n.above j (k.above j h);
        parameters = λ ps h. n.parameters ps (k.parameters ps h);
      })

  via : (types : List Tree) (e o m : Tree) → m ≡ o → Like types e o → Like types e m
  via types e o m q l = subst (λ (z : Tree). Like types e z) (sym q) l

  list_kept : (s : Sort) (a b : Tree) → sort_of b ≡ sort_of a → first_sort b ≡ first_sort a → IsList s a → IsList s b
  list_kept s a b p q l = (p ∙ l.0, first (first_sort b) (q) l.1)
    where
      first : (o : Option Sort) → o ≡ first_sort a → (first_sort a ≡ None) ⊎ (first_sort a ≡ Some s) → (o ≡ None) ⊎ (o ≡ Some s)
      first o e (inl n) = inl (e ∙ n)
      first o e (inr n) = inr (e ∙ n)

  kind : (types : List Tree) (a : Tree) → HasTyping v types a → AreKinds a → image f a ≡ a
  kind types a x k = image_type a (has_sorts v types a x) k

  use_kept : (e : SymbolTree) (types args made : Tree) → map type_of (members made) ≡ map type_of (members args) → IsUse e types args → IsUse e types made
  use_kept e types args made q u = record { as_many = u.as_many; fit = q ∙ u.fit }

  branch_kept : (types : List Tree) (a : Tree) → Like types a (image f a) → (ty : Option Tree) (one : Tree) → BranchFits ty one a → BranchFits ty one (image f a)
  branch_kept types (Two HArm p e) l ty one h = let y = l.arm p e refl in subst (BranchFits ty one) (sym y.1.0) (h.0, y.1.1.0 ∙ h.1, y.1.1.1 ∙ h.2)
  branch_kept types _ l ty one h = absurd h

  body_kept : (types : List Tree) (a b : Tree) → Like types a (image f a) → (ty : Option Tree) (one : Tree) → BranchFits ty one a
      → (sort_of (first_body (Two HCell (image f a) (image f b))) ≡ sort_of (first_body (Two HCell a b))) × (type_of (first_body (Two HCell (image f a) (image f b))) ≡ type_of (first_body (Two HCell a b)))
  body_kept types (Two HArm p e) b l ty one h =
      let y = l.arm p e refl in
      subst (λ (z : Tree). (sort_of (first_body (Two HCell z (image f b))) ≡ sort_of e) × (type_of (first_body (Two HCell z (image f b))) ≡ type_of e)) (sym y.1.0) y.1.1
  body_kept types _ b l ty one h = absurd h

  case_sort : (types : List Tree) (a b : Tree) → HasTyping v types (Two HCase a b) → IsExpression (sort_of (Two HCase a b))
  case_sort types a (Two HCell (Two HArm p e) b) x = subst IsExpression (sym (expression_sort e x.3.2.0.0.1)) x.3.2.0.0.1
  case_sort types a (Two HCell c b) x = absurd x.1.0
  case_sort types a (Two _ c b) x = absurd (let q = x.0.1 in cc)
  case_sort types a (Leaf h) x = absurd (leaf_no_list h x.3.0 x.0.1)
  case_sort types a (One h b) x = absurd (one_is_no_cell h b x.3.0 x.0.1)
  case_sort types a (Three h b c d) x = absurd (three_no_cell h b c d x.3.0 x.0.1)

  -- what the head of a typed tree tells: one of types, patterns, lists and branches, or of terms and formulas
  leaf_head : (types : List Tree) (h : Head) → HasTyping v types (Leaf h) → IsOtherHead h ⊎ IsExpression (sort_of (Leaf h))
  leaf_head types (HNum z) x = inr (inl refl)
  leaf_head types HTrue x = inr (inr refl)
  leaf_head types HFalse x = inr (inr refl)
  leaf_head types (HTyVar j) x = inl tt
  leaf_head types (HTyRigid j) x = inl tt
  leaf_head types HEnd x = inl tt
  leaf_head types _ x = absurd x.0

  one_head : (types : List Tree) (h : Head) (a : Tree) → HasTyping v types (One h a) → IsOtherHead h ⊎ IsExpression (sort_of (One h a))
  one_head types (HTyApp n) a x = inl tt
  one_head types (HBound i) a x = inr (inl refl)
  one_head types (HParam n) a x = inr (inl refl)
  one_head types HNot a x = inr (inr refl)
  one_head types HPatAny a x = inl tt
  one_head types HPatVar a x = inl tt
  one_head types HPatAlias a x = inl tt
  one_head types _ a x = absurd x.0

  two_head : (types : List Tree) (h : Head) (a b : Tree) → HasTyping v types (Two h a b) → IsOtherHead h ⊎ IsExpression (sort_of (Two h a b))
  two_head types HCell a b x = inl tt
  two_head types HArm a b x = inl tt
  two_head types (HPred p) a b x = inr (inr refl)
  two_head types HEq a b x = inr (inr refl)
  two_head types (HJoin op) a b x = inr (inr refl)
  two_head types HForall a b x = inr (inr refl)
  two_head types HExists a b x = inr (inr refl)
  two_head types HLet a b x = inr (subst IsExpression (sym (expression_sort b x.0.0.1)) x.0.0.1)
  two_head types HCase a b x = inr (case_sort types a b x)
  two_head types _ a b x = absurd x.0.0

  three_head : (types : List Tree) (h : Head) (a b c : Tree) → HasTyping v types (Three h a b c) → IsOtherHead h ⊎ IsExpression (sort_of (Three h a b c))
  three_head types (HFun k) a b c x = inr (inl refl)
  three_head types HIf a b c x = inr (subst IsExpression (sym (expression_sort b x.0.1)) x.0.1)
  three_head types (HPatCon k) a b c x = inl tt
  three_head types _ a b c x = absurd x.0

  -- the rule at a node that is like the tree
  finish : (types : List Tree) (e o : Tree) → IsOtherHead (head_of o) ⊎ IsExpression (sort_of e) → Like types e o → Like types e (f o)
  finish types e o (inl h) l = subst (λ (z : Tree). Like types e z) (sym (r.others o h)) l
  finish types e o (inr s) l = by_rule types e o s (record { typed = l.typed; sort = l.sort; type = l.type; variables = l.variables; above = l.above; parameters = l.parameters })

  -- a tree that is its own image
  itself : (types : List Tree) (e m : Tree) → m ≡ e → HasTyping v types e → Like types e m
  itself types e m q x = subst (λ (z : Tree). Like types e z) (sym q) (like_refl types e x)

  -- ---- the node over the images of its parts
  one_over : (types : List Tree) (h : Head) (a : Tree) → HasTyping v types (One h a) → Like types a (image f a) → Like types (One h a) (One h (image f a))
  one_over types (HTyApp n) a x l = itself types (One (HTyApp n) a) (One (HTyApp n) (image f a)) (ap (λ (z : Tree). One (HTyApp n) z) (kind types a x.2 (inr x.0))) x
  one_over types (HBound i) a x l = itself types (One (HBound i) a) (One (HBound i) (image f a)) (ap (λ (z : Tree). One (HBound i) z) (kind types a x.2 (inl x.0.0))) x
  one_over types (HParam n) a x l = itself types (One (HParam n) a) (One (HParam n) (image f a)) (ap (λ (z : Tree). One (HParam n) z) (kind types a x.2 (inl x.0))) x
  one_over types HNot a x l =
      like_expression types (One HNot a) (One HNot (image f a)) (inr refl) (record {
        typed = (l.sort ∙ x.0, tt, l.typed);
        sort = refl;
        type = refl;
        variables = l.variables;
        above = l.above;
        parameters = λ ps h. (tt, l.parameters ps h.1);
      })
  one_over types HPatAny a x l = itself types (One HPatAny a) (One HPatAny (image f a)) (ap (λ (z : Tree). One HPatAny z) (kind types a x.2 (inl x.0))) x
  one_over types HPatVar a x l = itself types (One HPatVar a) (One HPatVar (image f a)) (ap (λ (z : Tree). One HPatVar z) (kind types a x.2 (inl x.0))) x
  one_over types HPatAlias a x l = itself types (One HPatAlias a) (One HPatAlias (image f a)) (ap (λ (z : Tree). One HPatAlias z) (image_patterns types a x.2 (inl x.0))) x
  one_over types _ a x l = absurd x.0

  two_over : (types : List Tree) (h : Head) (a b : Tree) → HasTyping v types (Two h a b) → Like types a (image f a) → Like (bound_types h a ++ types) b (image f b) → Like types (Two h a b) (Two h (image f a) (image f b))
  two_over types HCell a b x l m = record {
    typed = (((λ q. x.0.0.0 (sym l.sort ∙ q), subst (λ (z : Sort). IsListOf z (sort_of (image f b)) (first_sort (image f b))) (sym l.sort) (list_kept (sort_of a) b (image f b) m.sort m.first x.0.0.1)), tt), tt, l.typed, m.typed);
    sort = refl;
    yields = l.yields;
    first = ap Some l.sort;
    type = refl;
    yield_types = l.yield_types;
    types_of = cc (l.type, m.types_of);
    cell = λ h. refl;
    arm = λ p y q. absurd (cc);
    branches = λ ty one h. (branch_kept types a l ty one h.0, m.branches ty one h.1);
    body = λ ty one c h. body_kept types a b l ty one h.0;
    variables = λ n h. (l.variables n h.0, m.variables n h.1);
    above = λ n h. omega (arith, l.above n (omega arith), m.above n (omega arith));
    parameters = λ ps h. (l.parameters ps h.0, m.parameters ps h.1);
  }
  two_over types HArm p e x l m =
      via types (Two HArm p e) (Two HArm p (image f e)) (Two HArm (image f p) (image f e)) (ap (λ (z : Tree). Two HArm z (image f e)) (image_patterns types p x.2 (inl x.0.0.0))) (record {
        typed = (((x.0.0.0, subst IsExpression (sym m.sort) x.0.0.1), tt), tt, x.2, m.typed);
        sort = refl;
        yields = m.yields;
        first = refl;
        type = refl;
        yield_types = m.yield_types;
        types_of = refl;
        cell = λ h. absurd (cc);
        arm = λ q y z. let g : e ≡ y = cc (z) in let n : p ≡ q = cc (z) in (image f e, (ap (λ (w : Tree). Two HArm w (image f e)) n, (m.sort ∙ ap sort_of g, m.type ∙ ap type_of g)));
        branches = λ ty one h. tt;
        body = λ ty one c h. absurd (cc);
        variables = λ n h. (h.0, m.variables n h.1);
        above = λ n h. omega (arith, m.above n (omega arith));
        parameters = λ ps h. (h.0, m.parameters ps h.1);
      })
  two_over types (HPred p) a b x l m =
      via types (Two (HPred p) a b) (Two (HPred p) a (image f b)) (Two (HPred p) (image f a) (image f b)) (ap (λ (z : Tree). Two (HPred p) z (image f b)) (kind types a x.2 (inr x.0.0.0)))
      (like_expression types (Two (HPred p) a b) (Two (HPred p) a (image f b)) (inr refl) (record {
        typed = (((x.0.0.0, list_kept Term b (image f b) m.sort m.first x.0.0.1), tt), (x.1.0, some_kept (entry v p) _ _ (λ e q u. (u.0, use_kept e a b (image f b) m.types_of u.1)) x.1.1), x.2, m.typed);
        sort = refl;
        type = refl;
        variables = λ n h. (h.0, m.variables n h.1);
        above = λ n h. omega (arith, m.above n (omega arith));
        parameters = λ ps h. (h.0, m.parameters ps h.1);
      }))
  two_over types HEq a b x l m =
      like_expression types (Two HEq a b) (Two HEq (image f a) (image f b)) (inr refl) (record {
        typed = (((l.sort ∙ x.0.0.0, m.sort ∙ x.0.0.1), tt), l.type ∙ x.1 ∙ sym m.type, l.typed, m.typed);
        sort = refl;
        type = refl;
        variables = λ n h. (l.variables n h.0, m.variables n h.1);
        above = λ n h. omega (arith, l.above n (omega arith), m.above n (omega arith));
        parameters = λ ps h. (l.parameters ps h.0, m.parameters ps h.1);
      })
  two_over types (HJoin op) a b x l m =
      like_expression types (Two (HJoin op) a b) (Two (HJoin op) (image f a) (image f b)) (inr refl) (record {
        typed = (((l.sort ∙ x.0.0.0, m.sort ∙ x.0.0.1), tt), tt, l.typed, m.typed);
        sort = refl;
        type = refl;
        variables = λ n h. (l.variables n h.0, m.variables n h.1);
        above = λ n h. omega (arith, l.above n (omega arith), m.above n (omega arith));
        parameters = λ ps h. (l.parameters ps h.0, m.parameters ps h.1);
      })
  two_over types HForall a b x l m =
      via types (Two HForall a b) (Two HForall a (image f b)) (Two HForall (image f a) (image f b)) (ap (λ (z : Tree). Two HForall z (image f b)) (kind types a x.2 (inl x.0.0.0)))
      (like_expression types (Two HForall a b) (Two HForall a (image f b)) (inr refl) (record {
        typed = (((x.0.0.0, m.sort ∙ x.0.0.1), tt), tt, x.2, m.typed);
        sort = refl;
        type = refl;
        variables = λ n h. (h.0, m.variables n h.1);
        above = λ n h. omega (arith, m.above n (omega arith));
        parameters = λ ps h. (h.0, m.parameters ps h.1);
      }))
  two_over types HExists a b x l m =
      via types (Two HExists a b) (Two HExists a (image f b)) (Two HExists (image f a) (image f b)) (ap (λ (z : Tree). Two HExists z (image f b)) (kind types a x.2 (inl x.0.0.0)))
      (like_expression types (Two HExists a b) (Two HExists a (image f b)) (inr refl) (record {
        typed = (((x.0.0.0, m.sort ∙ x.0.0.1), tt), tt, x.2, m.typed);
        sort = refl;
        type = refl;
        variables = λ n h. (h.0, m.variables n h.1);
        above = λ n h. omega (arith, m.above n (omega arith));
        parameters = λ ps h. (h.0, m.parameters ps h.1);
      }))
  two_over types HLet a b x l m =
      like_expression types (Two HLet a b) (Two HLet (image f a) (image f b)) (subst IsExpression (sym (expression_sort b x.0.0.1)) x.0.0.1) (record {
        typed = (((l.sort ∙ x.0.0.0, subst IsExpression (sym m.sort) x.0.0.1), tt), tt, l.typed, subst (λ (o : Option Tree). HasTyping v (option_list o ++ types) (image f b)) (sym l.type) m.typed);
        sort = m.yields;
        type = m.yield_types;
        variables = λ n h. (l.variables n h.0, m.variables n h.1);
        above = λ n h. omega (arith, l.above n (omega arith), m.above n (omega arith));
        parameters = λ ps h. (l.parameters ps h.0, m.parameters ps h.1);
      })
  two_over types HCase a b x l m =
      let y = m.body (type_of a) (first_body b) x.0.1 x.1 in
      like_expression types (Two HCase a b) (Two HCase (image f a) (image f b)) (case_sort types a b x) (record {
        typed = (
          ((l.sort ∙ x.0.0.0, list_kept Branch b (image f b) m.sort m.first x.0.0.1), m.cell x.0.1),
          branches_alike (type_of a) (type_of (image f a)) (first_body b) (first_body (image f b)) (image f b) l.type y.0 y.1 (m.branches (type_of a) (first_body b) x.1),
          l.typed,
          m.typed,
        );
        sort = m.yields;
        type = m.yield_types;
        variables = λ n h. (l.variables n h.0, m.variables n h.1);
        above = λ n h. omega (arith, l.above n (omega arith), m.above n (omega arith));
        parameters = λ ps h. (l.parameters ps h.0, m.parameters ps h.1);
      })
  two_over types _ a b x l m = absurd x.0.0

  three_over : (types : List Tree) (h : Head) (a b c : Tree) → HasTyping v types (Three h a b c) → Like types a (image f a) → Like types b (image f b) → Like types c (image f c) → Like types (Three h a b c) (Three h (image f a) (image f b) (image f c))
  three_over types (HFun k) a b c x l m n =
      let q : image f a ≡ a = kind types a x.2 (inr x.0.0) in
      let p : image f c ≡ c = kind types c x.4 (inl x.0.2) in
      via types (Three (HFun k) a b c) (Three (HFun k) a (image f b) c) (Three (HFun k) (image f a) (image f b) (image f c)) (ap (λ (z : Tree). Three (HFun k) z (image f b) (image f c)) q ∙ ap (λ (z : Tree). Three (HFun k) a (image f b) z) p)
      (like_expression types (Three (HFun k) a b c) (Three (HFun k) a (image f b) c) (inl refl) (record {
        typed = (
          (x.0.0, list_kept Term b (image f b) m.sort m.first x.0.1, x.0.2),
          (x.1.0, some_kept (entry v k) _ _ (λ e q u. (u.0, use_kept e a b (image f b) m.types_of u.1, u.2)) x.1.1),
          x.2,
          m.typed,
          x.4,
        );
        sort = refl;
        type = refl;
        variables = λ n h. (h.0, m.variables n h.1, h.2);
        above = λ n h. omega (arith, m.above n (omega arith));
        parameters = λ ps h. (h.0, m.parameters ps h.1, h.2);
      }))
  three_over types HIf a b c x l m n =
      like_expression types (Three HIf a b c) (Three HIf (image f a) (image f b) (image f c)) (subst IsExpression (sym (expression_sort b x.0.1)) x.0.1) (record {
        typed = ((l.sort ∙ x.0.0, subst IsExpression (sym m.sort) x.0.1, n.sort ∙ x.0.2 ∙ sym m.sort), m.type ∙ x.1 ∙ sym n.type, l.typed, m.typed, n.typed);
        sort = m.yields;
        type = m.yield_types;
        variables = λ j h. (l.variables j h.0, m.variables j h.1, n.variables j h.2);
        above = λ j h. omega (arith, l.above j (omega arith), m.above j (omega arith), n.above j (omega arith));
        parameters = λ ps h. (l.parameters ps h.0, m.parameters ps h.1, n.parameters ps h.2);
      })
  three_over types (HPatCon k) a b c x l m n =
      itself types (Three (HPatCon k) a b c) (Three (HPatCon k) (image f a) (image f b) (image f c))
      (ap (λ (z : Tree). Three (HPatCon k) z (image f b) (image f c)) (kind types a x.2 (inr x.0.0)) ∙ ap (λ (z : Tree). Three (HPatCon k) a z (image f c)) (image_patterns types b x.3 (inr x.0.1)) ∙ ap (λ (z : Tree). Three (HPatCon k) a b z) (kind types c x.4 (inl x.0.2))) x
  three_over types _ a b c x l m n = absurd x.0

  pub like : (types : List Tree) (e : Tree) → HasTyping v types e → Like types e (image f e)
  like types (Leaf h) x = finish types (Leaf h) (Leaf h) (leaf_head types h x) (like_refl types (Leaf h) x)
  like types (One h a) x = finish types (One h a) (One h (image f a)) (one_head types h a x) (one_over types h a x (like types a x.2))
  like types (Two h a b) x = finish types (Two h a b) (Two h (image f a) (image f b)) (two_head types h a b x) (two_over types h a b x (like types a x.2) (like (bound_types h a ++ types) b x.3))
  like types (Three h a b c) x = finish types (Three h a b c) (Three h (image f a) (image f b) (image f c)) (three_head types h a b c x) (three_over types h a b c x (like types a x.2) (like types b x.3) (like types c x.4))

  -- a typed expression
  pub image_keeps_typing : (types : List Tree) (e : Tree) → HasTyping v types e → KeepsTyping v types e (image f e)
  image_keeps_typing types e x = let l = like types e x in record { typed = l.typed; sort = l.sort; type = l.type; variables = l.variables; above = l.above; parameters = l.parameters }

  -- the node over the images of its parts is typed as the tree is, and its children fit
  pub over_typed : (types : List Tree) (e : Tree) → HasTyping v types e → HasTyping v types (over_parts f e)
  over_typed types (Leaf h) x = x
  over_typed types (One h a) x = (one_over types h a x (like types a x.2)).typed
  over_typed types (Two h a b) x = (two_over types h a b x (like types a x.2) (like (bound_types h a ++ types) b x.3)).typed
  over_typed types (Three h a b c) x = (three_over types h a b c x (like types a x.2) (like types b x.3) (like types c x.4)).typed

  one_fits_too : (types : List Tree) (h : Head) (a : Tree) → HasTyping v types (One h a) → Fits (One h a) → Suits (One h (image f a)) → Fits (One h (image f a))
  one_fits_too types (HBound i) a x t s = (s.0, t.1)
  one_fits_too types h a x t s = s

  pub over_fits : (types : List Tree) (e : Tree) → HasTyping v types e → Fits e → Fits (over_parts f e)
  over_fits types (Leaf h) x t = t
  over_fits types (One h a) x t = one_fits_too types h a x t (over_typed types (One h a) x).0
  over_fits types (Two h a b) x t = (over_typed types (Two h a b) x).0
  over_fits types (Three h a b c) x t = (over_typed types (Three h a b c) x).0

  -- ---- type instances
  -- where the rule at the type instance of a typed node is the instance of the rule there, so it is of the image of a typed tree
  module _ (ys : List Tree) (each : (j : ℕ) → IsTypeAt v (get_or ys j (TyVar j))) (node : (types : List Tree) (e : Tree) → HasTyping v types e → f (inst_types e ys) ≡ inst_types (f e) ys) where
    type_itself : (e : Tree) → sort_of e ≡ Kind → HasTyping v [] e → image f e ≡ e
    type_itself e k x = image_type e (has_sorts v [] e x) (inl k)

    leaf_at_types : (types : List Tree) (h : Head) → HasTyping v types (Leaf h) → image f (inst_types (Leaf h) ys) ≡ inst_types (f (Leaf h)) ys
    leaf_at_types types (HTyVar j) x =
        type_itself (get_or ys j (TyVar j)) (each j).0 (each j).1 ∙ sym (ap (λ (z : Tree). inst_types z ys) (r.others (Leaf (HTyVar j)) tt))
    leaf_at_types types h x = node types (Leaf h) x

    image_one : (h : Head) (a : Tree) → image f (inst_types (One h a) ys) ≡ f (One h (image f (inst_types a ys)))
    image_one h a = ap (image f) (at_one v ys each h a)

    pub image_at_types : (types : List Tree) (e : Tree) → HasTyping v types e → image f (inst_types e ys) ≡ inst_types (image f e) ys
    image_at_types types (Leaf h) x = leaf_at_types types h x
    image_at_types types (One h a) x =
        image_one h a ∙ ap (λ (z : Tree). f (One h z)) (image_at_types types a x.2) ∙ ap f (sym (at_one v ys each h (image f a)))
        ∙ node types (One h (image f a)) (one_over types h a x (like types a x.2)).typed
    image_at_types types (Two h a b) x =
        ap (image f) (inst_two ys h a b) ∙ ap (λ (z : Tree). f (Two h z (image f (inst_types b ys)))) (image_at_types types a x.2)
        ∙ ap (λ (z : Tree). f (Two h (inst_types (image f a) ys) z)) (image_at_types (bound_types h a ++ types) b x.3) ∙ ap f (sym (inst_two ys h (image f a) (image f b)))
        ∙ node types (Two h (image f a) (image f b)) (two_over types h a b x (like types a x.2) (like (bound_types h a ++ types) b x.3)).typed
    image_at_types types (Three h a b c) x =
        ap (λ (z : Tree). f (Three h z (image f (inst_types b ys)) (image f (inst_types c ys)))) (image_at_types types a x.2)
        ∙ ap (λ (z : Tree). f (Three h (inst_types (image f a) ys) z (image f (inst_types c ys)))) (image_at_types types b x.3)
        ∙ ap (λ (z : Tree). f (Three h (inst_types (image f a) ys) (inst_types (image f b) ys) z)) (image_at_types types c x.4)
        ∙ node types (Three h (image f a) (image f b) (image f c)) (three_over types h a b c x (like types a x.2) (like types b x.3) (like types c x.4)).typed

pub image_over : (f : Tree → Tree) (e : Tree) → image f e ≡ f (over_parts f e)
image_over f (Leaf h) = refl
image_over f (One h a) = refl
image_over f (Two h a b) = refl
image_over f (Three h a b c) = refl
