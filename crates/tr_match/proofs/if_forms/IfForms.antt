-- The `if` form of a `match`: its parts and the `match` with the branches after the first are closed expressions of its sort and type.
use Rattle.std.proofs.Common.{◌≡◌, ◌⊎◌, List, [], Option, refl, sym, ap, subst, ◌∙◌}
use Rattle.tasks.specs.trees.declared.TermId.{TermId}
use Rattle.tasks.specs.trees.declared.Sort.{Sort}
use Rattle.tasks.specs.trees.declared.Sort.TheVariants.{Term, Formula}
use Rattle.tasks.specs.trees.declared.Sort.TheVariants as sort
use Rattle.tasks.specs.trees.Tree.{Tree, Leaf, One, Two, Three, HEnd, HCell, HArm, HCase, HIf, head_of}
use Rattle.tasks.specs.trees.Node.{tree_at, Holds}
use Rattle.tasks.specs.trees.Binding.{inst_many}
use Rattle.tasks.specs.trees.Sorts.{Fits, IsExpression, sort_of, type_of, yield, yield_type}
use Rattle.tasks.proofs.trees.Types.{one_no_cell, three_no_cell}
use Rattle.tasks.specs.Task.{TaskTree}
use Rattle.tasks.specs.Vocabulary.{Vocabulary, of_task}
use Rattle.tasks.specs.Typing.{TypedUnder, BranchesFit, first_body}
use Rattle.tasks.specs.MatchTests.{test, bind}
use Rattle.congruence.specs.kernel.Right.{IsGroundExpression}
use Rattle.images.proofs.Images.{leaf_no_list, branches_alike, expression_sort, expression_type}
use Rattle.evidence.specs.Drafts.{DraftTree, Extends}
use Rattle.congruence.specs.declared.conditionals.Conditional.{Conditional}
use Rattle.congruence.specs.Alike.{IsClosedAt, ArePair}
use Rattle.congruence.specs.Conditionals.{IsConditional, IsIfAt, IsMatchAt, IsLastBranch}
use Rattle.tr_match.specs.match_forms.Forms.{branch_form, if_form}
use Rattle.tr_match.specs.if_forms.IfForms.{IsIfForm, HasOthers, HasIf}
use Rattle.congruence.proofs.Later.{tree_later, closed_later, pair_later}
use Rattle.congruence.proofs.CaseParts.{if_parts, parts_later, pair_turned, pair_through}

-- ---- branches
record HasBranch (r : Tree) : Type 0 where
  pattern : Tree
  body : Tree
  others : Tree
  is : r ≡ Two HCell (Two HArm pattern body) others

branch_first : (v : Vocabulary) (types : List Tree) (ty : Option Tree) (one r : Tree) → TypedUnder v types r → BranchesFit ty one r → head_of r ≡ HCell → HasBranch r
branch_first v types ty one (Two HCell (Two HArm p e) b) w f q = record { pattern = p; body = e; others = b; is = refl }
branch_first v types ty one (Two HCell c b) w f q = absurd f.0
branch_first v types ty one (Two _ c b) w f q = absurd (cc)
branch_first v types ty one (Leaf h) w f q = absurd (leaf_no_list h w.0 q)
branch_first v types ty one (One h b) w f q = absurd (one_no_cell h b w.0 q)
branch_first v types ty one (Three h b c e) w f q = absurd (three_no_cell h b c e w.0 q)

-- ---- the `match` with the branches after the first
module _ (t : TaskTree) (s p a r : Tree) (g : IsGroundExpression t (Two HCase s (Two HCell (Two HArm p a) r))) where
  others_list : sort_of r ≡ sort.List
  others_list = g.typed.3.0.0.1.0

  module _ (h : head_of r ≡ HCell) where
    second : HasBranch r
    second = branch_first (of_task t) [] (type_of s) a r g.typed.3.3 g.typed.1.1 h

    own : (sort_of second.body ≡ sort_of a) × (type_of second.body ≡ type_of a)
    own = let f : BranchesFit (type_of s) a (Two HCell (Two HArm second.pattern second.body) second.others) = subst (BranchesFit (type_of s) a) second.is g.typed.1.1 in (f.0.1, f.0.2)

    others_fit : BranchesFit (type_of s) (first_body r) r
    others_fit = let b : first_body r ≡ second.body = ap first_body second.is in branches_alike (type_of s) (type_of s) a (first_body r) r refl (ap sort_of b ∙ own.0) (ap type_of b ∙ own.1) g.typed.1.1

    rest_fits : Fits (Two HCase s r)
    rest_fits = ((g.typed.0.0.0, g.typed.3.0.0.1), h)

    body_sort : IsExpression (sort_of a)
    body_sort = g.typed.3.2.0.0.1

    second_sort : IsExpression (sort_of second.body)
    second_sort = subst IsExpression (sym own.0) body_sort

    rest_sort : sort_of (Two HCase s r) ≡ sort_of (Two HCase s (Two HCell (Two HArm p a) r))
    rest_sort = ap yield second.is ∙ expression_sort second.body second_sort ∙ own.0 ∙ sym (expression_sort a body_sort)

    rest_type : type_of (Two HCase s r) ≡ type_of (Two HCase s (Two HCell (Two HArm p a) r))
    rest_type = ap yield_type second.is ∙ sym (expression_type second.body second_sort) ∙ own.1 ∙ expression_type a body_sort

    rest_ground : IsGroundExpression t (Two HCase s r)
    rest_ground = record {
      sort = subst (λ (z : Sort). (z ≡ Term) ⊎ (z ≡ Formula)) (sym rest_sort) g.sort;
      typed = (rest_fits, others_fit, g.typed.2, g.typed.3.3);
      ground = (g.ground.0, g.ground.1.1);
    }

-- ---- the parts of a form
cell_form : (c x o f y z : Tree) → o ≡ Two HCell y z → branch_form c x o f ≡ Three HIf c x f
cell_form c x o f y z q = ap (λ (w : Tree). branch_form c x w f) q

end_form : (c x o f : Tree) → o ≡ Leaf HEnd → branch_form c x o f ≡ x
end_form c x o f q = ap (λ (w : Tree). branch_form c x w f) q

pub record IsOpened (t : TaskTree) (w f s r : Tree) : Type 0 where
  pub pattern : Tree
  pub body : Tree
  pub is : w ≡ Two HCase s (Two HCell (Two HArm pattern body) r)
  pub form : f ≡ branch_form (test t pattern s) (inst_many body (bind t pattern s)) r (if_form t s r)

module _ (t : TaskTree) (w f : Tree) (g : IsGroundExpression t w) (q : IsIfForm t w f) where
  at_case : IsGroundExpression t (Two HCase q.scrutinee q.branches)
  at_case = subst (IsGroundExpression t) q.is g

  first : HasBranch q.branches
  first = branch_first (of_task t) [] (type_of q.scrutinee) (first_body q.branches) q.branches at_case.typed.3 at_case.typed.1 at_case.typed.0.1

  pub has_others : HasOthers w
  has_others = record { scrutinee = q.scrutinee; first = Two HArm first.pattern first.body; others = first.others; is = q.is ∙ ap (Two HCase q.scrutinee) first.is }

  pub opened : (s x r : Tree) → w ≡ Two HCase s (Two HCell x r) → IsOpened t w f s r
  unfolding has_others first
  opened s x r e =
      let m : Two HCase q.scrutinee (Two HCell (Two HArm first.pattern first.body) first.others) ≡ Two HCase s (Two HCell x r) = sym has_others.is ∙ e in
      let a : q.scrutinee ≡ s = cc m in
      let b : first.others ≡ r = cc m in
      record {
        pattern = first.pattern;
        body = first.body;
        is = has_others.is ∙ cc (a, b);
        form = q.form ∙ ap (if_form t q.scrutinee) first.is ∙ ap (λ (z : Tree). branch_form (test t first.pattern z) (inst_many first.body (bind t first.pattern z)) first.others (if_form t z first.others)) a
            ∙ ap (λ (z : Tree). branch_form (test t first.pattern s) (inst_many first.body (bind t first.pattern s)) z (if_form t s z)) b;
      }

  module _ (s r : Tree) (o : IsOpened t w f s r) where
    here : IsGroundExpression t (Two HCase s (Two HCell (Two HArm o.pattern o.body) r))
    here = subst (IsGroundExpression t) o.is g

    pub branches_list : sort_of r ≡ sort.List
    branches_list = others_list t s o.pattern o.body r here

    pub last_branch : r ≡ Leaf HEnd → IsLastBranch t w f
    last_branch e = record {
      scrutinee = s;
      pattern = o.pattern;
      body = o.body;
      is = o.is ∙ ap (λ (z : Tree). Two HCase s (Two HCell (Two HArm o.pattern o.body) z)) e;
      first = o.form ∙ end_form (test t o.pattern s) (inst_many o.body (bind t o.pattern s)) r (if_form t s r) e;
    }

    module _ (y z : Tree) (e : r ≡ Two HCell y z) where
      form_is : f ≡ Three HIf (test t o.pattern s) (inst_many o.body (bind t o.pattern s)) (if_form t s r)
      form_is = o.form ∙ cell_form (test t o.pattern s) (inst_many o.body (bind t o.pattern s)) r (if_form t s r) y z e

      pub has_if : HasIf f
      has_if = record { condition = test t o.pattern s; then_part = inst_many o.body (bind t o.pattern s); else_part = if_form t s r; is = form_is }

      pub case_fits : Fits (Two HCase s r)
      case_fits = rest_fits t s o.pattern o.body r here (ap head_of e)

      pub case_ground : IsGroundExpression t (Two HCase s r)
      case_ground = rest_ground t s o.pattern o.body r here (ap head_of e)

      pub case_sort : sort_of (Two HCase s r) ≡ sort_of w
      case_sort = rest_sort t s o.pattern o.body r here (ap head_of e) ∙ ap sort_of (sym o.is)

      pub case_type : type_of (Two HCase s r) ≡ type_of w
      case_type = rest_type t s o.pattern o.body r here (ap head_of e) ∙ ap type_of (sym o.is)

-- ---- over a draft
module _ (d : DraftTree) (whole form : TermId) (p : ArePair d whole form) (q : IsIfForm d.task (tree_at d.trees whole) (tree_at d.trees form)) (scrutinee branches : TermId) (x y z : Tree)
    (e : tree_at d.trees whole ≡ Two HCase (tree_at d.trees scrutinee) (Two HCell x (tree_at d.trees branches))) (m : tree_at d.trees branches ≡ Two HCell y z) (k : Conditional) (kw : k.whole ≡ form) (ki : IsIfAt d k) (hc : Holds d.trees k.condition) (ht : Holds d.trees k.then_part) (he : Holds d.trees k.else_part) where
  abbrev W : Tree
  W = tree_at d.trees whole

  abbrev F : Tree
  F = tree_at d.trees form

  abbrev S : Tree
  S = tree_at d.trees scrutinee

  abbrev R : Tree
  R = tree_at d.trees branches

  o : IsOpened d.task W F S R
  o = opened d.task W F p.left.ground q S x R e

  form_parts : Three HIf (tree_at d.trees k.condition) (tree_at d.trees k.then_part) (tree_at d.trees k.else_part) ≡ Three HIf (test d.task o.pattern S) (inst_many o.body (bind d.task o.pattern S)) (if_form d.task S R)
  form_parts = sym ki ∙ ap (tree_at d.trees) kw ∙ form_is d.task W F p.left.ground q S R o y z m

  pub right_parts : IsConditional d k
  right_parts = if_parts d k (subst (IsClosedAt d) (sym kw) p.right) ki hc ht he

  right_pair : (id : TermId) → ArePair d k.whole id → ArePair d form id
  right_pair id w = subst (λ (u : TermId). ArePair d u id) kw w

  -- with the `match` of the branches after the first
  module _ (d1 : DraftTree) (u : Extends d d1) (rest : TermId) (hr : Holds d1.trees rest) (is : tree_at d1.trees rest ≡ Two HCase S R) where
    rest_closed : IsClosedAt d1 rest
    rest_closed = record {
      held = hr;
      ground = subst (λ (t : TaskTree). IsGroundExpression t (tree_at d1.trees rest)) (sym u.task) (subst (IsGroundExpression d.task) (sym is) (case_ground d.task W F p.left.ground q S R o y z m));
    }

    pub whole_rest : ArePair d1 whole rest
    whole_rest = record {
      left = closed_later d d1 u whole p.left;
      right = rest_closed;
      sort = ap sort_of is ∙ case_sort d.task W F p.left.ground q S R o y z m ∙ ap sort_of (sym (tree_later d d1 u whole p.left.held));
      type = ap type_of is ∙ case_type d.task W F p.left.ground q S R o y z m ∙ ap type_of (sym (tree_later d d1 u whole p.left.held));
    }

    whole_form : ArePair d1 whole form
    whole_form = pair_later d d1 u whole form p

    form_else : ArePair d1 form k.else_part
    form_else = pair_later d d1 u form k.else_part (right_pair k.else_part right_parts.else_part)

    pub rest_else : ArePair d1 rest k.else_part
    rest_else = pair_through d1 rest whole k.else_part (pair_turned d1 whole rest whole_rest) (pair_through d1 whole form k.else_part whole_form form_else)

    pub rest_form : IsIfForm d1.task (tree_at d1.trees rest) (tree_at d1.trees k.else_part)
    rest_form =
        let a : tree_at d.trees k.else_part ≡ if_form d.task S R = cc form_parts in
        record { scrutinee = S; branches = R; is = is; form = tree_later d d1 u k.else_part he ∙ a ∙ ap (λ (t : TaskTree). if_form t S R) (sym u.task) }

    -- the conditionals
    module _ (l : Conditional) (lw : l.whole ≡ whole) (lc : l.condition ≡ k.condition) (lt : l.then_part ≡ k.then_part) (le : l.else_part ≡ rest) where
      then_pair : ArePair d1 whole k.then_part
      then_pair = pair_through d1 whole form k.then_part whole_form (pair_later d d1 u form k.then_part (right_pair k.then_part right_parts.then_part))

      pub left_parts : IsConditional d1 l
      left_parts = rw (lw, lc, lt, le) (record {
        whole = closed_later d d1 u whole p.left;
        condition = (parts_later d d1 u k right_parts).condition;
        then_part = then_pair;
        else_part = whole_rest;
      })

      pub left_match : IsMatchAt d1 l
      left_match =
          let c : tree_at d.trees k.condition ≡ test d.task o.pattern S = cc form_parts in
          let a : tree_at d.trees k.then_part ≡ inst_many o.body (bind d.task o.pattern S) = cc form_parts in
          rw (lw, lc, lt, le) (record {
            scrutinee = S;
            pattern = o.pattern;
            body = o.body;
            rest = R;
            is = tree_later d d1 u whole p.left.held ∙ o.is;
            more = ap head_of m;
            condition = tree_later d d1 u k.condition hc ∙ c ∙ ap (λ (t : TaskTree). test t o.pattern S) (sym u.task);
            first = tree_later d d1 u k.then_part ht ∙ a ∙ ap (λ (t : TaskTree). inst_many o.body (bind t o.pattern S)) (sym u.task);
            others = is;
          })
