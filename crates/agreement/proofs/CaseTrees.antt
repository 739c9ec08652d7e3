-- Closed `match`es: the first pattern's test, the first body at the terms for the pattern's variables, and the `match` with the
-- other branches are closed, of the sort and type of the whole, of its parameters, and of no greater rank.
use Rattle.std.proofs.Common.{◌≡◌, ℕ, ◌<◌, ◌≤◌, inl, List, [], ◌∷◌, length, get_or, All, refl, sym, ap, subst, ◌∙◌, arith}
use Rattle.std.proofs.lemmas.List.{append-nil}
use Rattle.std.proofs.lemmas.List.Elements.{All-cons, All-nil}
use Rattle.trees.specs.declared.Sort.TheVariants.{Term, Branch}
use Rattle.trees.specs.Tree.{Tree, Two, HCase, HCell, HArm, above_params, pat_vars, loose}
use Rattle.trees.specs.Facts.{Each, IndicesFit}
use Rattle.trees.specs.Binding.{inst_many}
use Rattle.trees.specs.Sorts.{sort_of, type_of, IsExpression, IsList}
use Rattle.trees.proofs.RaisesNoIndex.{closed_many_fits}
use Rattle.trees.proofs.Sizes.{sorted_fits}
use Rattle.tasks.specs.Task.{TaskTree}
use Rattle.tasks.specs.Vocabulary.{of_task}
use Rattle.tasks.specs.Typing.{TypedUnder, BranchesFit, pattern_types}
use Rattle.tasks.specs.MatchTests.{bind}
use Rattle.tasks.specs.MatchTests.{test as match_test}
use Rattle.tasks.specs.Valid.{IsGround, IsGroundFormula, IsValid}
use Rattle.tasks.proofs.Closing.{typed_sorted}
use Rattle.tasks.proofs.Counts.{bound_count}
use Rattle.congruence.specs.kernel.Right.{IsGroundExpression}
use Rattle.congruence.specs.tasks.typed_trees.instances.Instances.{AreFor}
use Rattle.congruence.proofs.tasks.typed_trees.instances.Typed.{many_sort, many_type}
use Rattle.images.specs.Open.{IsEnvironment, IsOpenUnder}
use Rattle.images.specs.PatternTerms.{IsTypedPattern, HasPartsOf, HasOfBoth}
use Rattle.images.proofs.Images.{expression_sort, expression_type, branches_alike}
use Rattle.images.proofs.Environments.{at_open, closed_for, term_for}
use Rattle.images.proofs.PatternLaws.{matches_typed, matches_closed, matches_parts}
use Rattle.agreement.specs.Ranks.{rank, zero_ranks, ranks_put}
use Rattle.agreement.proofs.Ranks.{Below, put_below, put_outer, rank_more, expression_rank}
use Rattle.agreement.proofs.PatternRanks.{test_rank, bind_rank}

each_all : (P : Tree → Type 0) (es : List Tree) → Each P es → All P es
each_all P [] h = All-nil P
each_all P (e ∷ es) h = All-cons P e es h.0 (each_all P es h.1)

each_weaker : (P Q : Tree → Type 0) → ((e : Tree) → P e → Q e) → (es : List Tree) → Each P es → Each Q es
each_weaker P Q f [] h = tt
each_weaker P Q f (e ∷ es) h = (f e h.0, each_weaker P Q f es h.1)

-- least ranks of variables, with none put in
zero_below : (n r : ℕ) (more : ℕ → ℕ) → Below n (ranks_put 0 r zero_ranks) more
zero_below n r more i l = let p = put_outer 0 r zero_ranks i (omega arith) in omega (arith, p)

module _ (t : TaskTree) (v : IsValid t) (s p a r : Tree) (g : IsGroundExpression t (Two HCase s (Two HCell (Two HArm p a) r))) where
  abbrev pub whole : Tree
  whole = Two HCase s (Two HCell (Two HArm p a) r)

  abbrev pub inner : Tree
  inner = inst_many a (bind t p s)

  x : TypedUnder (of_task t) [] (Two HCase s (Two HCell (Two HArm p a) r))
  x = g.typed

  pub scrutinee_term : sort_of s ≡ Term
  scrutinee_term = x.0.0.0

  pub typed_pattern : IsTypedPattern t [] p
  typed_pattern = record { sort = x.3.2.0.0.0; typed = x.3.2.2 }

  body_expression : IsExpression (sort_of a)
  body_expression = x.3.2.0.0.1

  body_typed : TypedUnder (of_task t) (pattern_types p) a
  body_typed = subst (λ (z : List Tree). TypedUnder (of_task t) z a) (append-nil (pattern_types p)) x.3.2.3

  same_type : type_of s ≡ type_of p
  same_type = sym x.1.0.0

  pub terms_for : AreFor (of_task t) (pattern_types p) (bind t p s)
  terms_for = matches_closed t v p s typed_pattern scrutinee_term x.2 same_type

  parts : HasPartsOf t p s
  parts = matches_parts t v [] p s typed_pattern

  pub body_fits : IndicesFit (inst_many a (bind t p s))
  body_fits =
      let f = terms_for in
      closed_many_fits a (bind t p s) (sorted_fits a (typed_sorted (of_task t) (pattern_types p) a body_typed)) (closed_for (of_task t) (pattern_types p) (bind t p s) f)
      (λ j y l. sorted_fits (get_or (bind t p s) j y) (typed_sorted (of_task t) [] (get_or (bind t p s) j y) (term_for (of_task t) (pattern_types p) (bind t p s) f j y l).1.typed))

  pub test_formula : IsGroundFormula t (match_test t p s)
  test_formula =
      let m = matches_typed t v [] p s typed_pattern scrutinee_term x.2 same_type in
      record { sort = m.sort; typed = m.formula; ground = parts.formula.variables 0 g.ground.1.0.0 g.ground.0 }

  module _ (n : ℕ) (l : above_params (Two HCase s (Two HCell (Two HArm p a) r)) ≤ n) where
    pub test_above : above_params (match_test t p s) ≤ n
    test_above = parts.formula.above n (omega (arith, l))

    around : IsEnvironment t (pattern_types p) (bind t p s) n
    around =
        let o : above_params s ≤ n = omega (arith, l) in
        record {
          terms = terms_for;
          ground = each_all IsGround (bind t p s) (each_weaker (HasOfBoth p s) IsGround (λ z h. h.variables 0 g.ground.1.0.0 g.ground.0) (bind t p s) parts.terms);
          above = each_all (λ z. above_params z ≤ n) (bind t p s) (each_weaker (HasOfBoth p s) (λ z. above_params z ≤ n) (λ z h. h.above n o) (bind t p s) parts.terms);
        }

    pub inner_open : IsOpenUnder t [] (inst_many a (bind t p s)) n
    inner_open = at_open t (pattern_types p) (bind t p s) n around a (record { typed = body_typed; ground = g.ground.1.0.1; above = omega (arith, l) })

    pub rest_above : above_params (Two HCase s r) ≤ n
    rest_above = omega (arith, l)

  whole_sort : sort_of (Two HCase s (Two HCell (Two HArm p a) r)) ≡ sort_of a
  whole_sort = expression_sort a body_expression

  whole_type : type_of (Two HCase s (Two HCell (Two HArm p a) r)) ≡ type_of a
  whole_type = sym (expression_type a body_expression)

  pub inner_sort : sort_of (inst_many a (bind t p s)) ≡ sort_of (Two HCase s (Two HCell (Two HArm p a) r))
  inner_sort = many_sort (of_task t) (pattern_types p) (bind t p s) terms_for a ∙ sym whole_sort

  pub inner_type : type_of (inst_many a (bind t p s)) ≡ type_of (Two HCase s (Two HCell (Two HArm p a) r))
  inner_type = many_type (of_task t) (pattern_types p) (bind t p s) terms_for a body_typed ∙ sym whole_type

  pub inner_ground : IsGroundExpression t (inst_many a (bind t p s))
  inner_ground =
      let o = inner_open (above_params (Two HCase s (Two HCell (Two HArm p a) r))) (omega arith) in
      record { sort = subst IsExpression (sym inner_sort) g.sort; typed = o.typed; ground = o.ground }

  -- the other branches, where there are any
  module _ (p2 a2 r2 : Tree) (q : r ≡ Two HCell (Two HArm p2 a2) r2) where
    abbrev others : Tree
    others = Two HCell (Two HArm p2 a2) r2

    y : TypedUnder (of_task t) [] (Two HCell (Two HArm p2 a2) r2)
    y = subst (TypedUnder (of_task t) []) q x.3.3

    fits : BranchesFit (type_of s) a (Two HCell (Two HArm p2 a2) r2)
    fits = subst (BranchesFit (type_of s) a) q x.1.1

    rest_sort_at : sort_of (Two HCase s (Two HCell (Two HArm p2 a2) r2)) ≡ sort_of (Two HCase s (Two HCell (Two HArm p a) r))
    rest_sort_at = expression_sort a2 y.2.0.0.1 ∙ fits.0.1 ∙ sym whole_sort

    rest_type_at : type_of (Two HCase s (Two HCell (Two HArm p2 a2) r2)) ≡ type_of (Two HCase s (Two HCell (Two HArm p a) r))
    rest_type_at = sym (expression_type a2 y.2.0.0.1) ∙ fits.0.2 ∙ sym whole_type

    rest_at : IsGroundExpression t (Two HCase s (Two HCell (Two HArm p2 a2) r2))
    rest_at = record {
      sort = subst IsExpression (sym rest_sort_at) g.sort;
      typed = (((x.0.0.0, subst (λ (z : Tree). IsList Branch z) q x.3.0.0.1), refl), branches_alike (type_of s) (type_of s) a a2 (Two HCell (Two HArm p2 a2) r2) refl (fits.0.1) (fits.0.2) fits, x.2, y);
      ground = (g.ground.0, subst IsGround q g.ground.1.1);
    }

    pub rest_sort : sort_of (Two HCase s r) ≡ sort_of (Two HCase s (Two HCell (Two HArm p a) r))
    rest_sort = ap (λ (z : Tree). sort_of (Two HCase s z)) q ∙ rest_sort_at

    pub rest_type : type_of (Two HCase s r) ≡ type_of (Two HCase s (Two HCell (Two HArm p a) r))
    rest_type = ap (λ (z : Tree). type_of (Two HCase s z)) q ∙ rest_type_at

    pub rest_ground : IsGroundExpression t (Two HCase s r)
    rest_ground = subst (λ (z : Tree). IsGroundExpression t (Two HCase s z)) (sym q) rest_at

  -- ---- ranks
  abbrev w : ℕ
  w = rank s zero_ranks 0

  s_rank : (k : ℕ) → rank s zero_ranks k ≤ rank s zero_ranks 0
  s_rank k = let e = expression_rank s zero_ranks k 0 (inl scrutinee_term) in omega (arith, e)

  pub test_ranked : rank (match_test t p s) zero_ranks 0 < rank (Two HCase s (Two HCell (Two HArm p a) r)) zero_ranks 0
  test_ranked = let e = test_rank (rank s zero_ranks 0) t p s s_rank 0 in omega (arith, e)

  pub inner_ranked : rank (inst_many a (bind t p s)) zero_ranks 0 < rank (Two HCase s (Two HCell (Two HArm p a) r)) zero_ranks 0
  inner_ranked =
      let c = bound_count HArm p a ((x.3.2.0.0.0, x.3.2.0.0.1), tt) (typed_sorted (of_task t) [] p x.3.2.2) in
      let k : pat_vars p ≡ length (bind t p s) = omega (arith, terms_for.as_many, c) in
      let e = bind_rank t p s a (rank s zero_ranks 0) (closed_for (of_task t) (pattern_types p) (bind t p s) terms_for) k s_rank in
      let m = pat_vars p in
      let f = rank_more a (loose a) 0 0 (ranks_put m (rank s zero_ranks 0) zero_ranks) (ranks_put m (rank s zero_ranks 0) (ranks_put 0 0 zero_ranks)) (omega arith) (put_below (loose a) m (loose a) (rank s zero_ranks 0) (rank s zero_ranks 0) zero_ranks (ranks_put 0 0 zero_ranks) (omega arith) (omega arith) (λ i l. omega arith)) (omega arith) in
      omega (arith, e, f)

  pub rest_ranked : rank (Two HCase s r) zero_ranks 0 ≤ rank (Two HCase s (Two HCell (Two HArm p a) r)) zero_ranks 0
  rest_ranked =
      let f = rank_more r (loose r) (rank s zero_ranks 0) (rank s zero_ranks 0) (ranks_put 0 0 zero_ranks) (ranks_put 0 0 (ranks_put 0 0 zero_ranks)) (omega arith) (zero_below (loose r) 0 (ranks_put 0 0 (ranks_put 0 0 zero_ranks))) (omega arith) in
      omega (arith, f)
