-- The image of a typed tree has its sort and type, and is typed under the same binders.
use Rattle.std.proofs.Common.{◌≡◌, ℕ, ◌≤◌, ◌⊎◌, inl, inr, List, [], ◌∷◌, ◌++◌, map, Option, Some, None, subst, refl, sym, ap, ◌∙◌, arith}
use Rattle.trees.specs.declared.Sort.{Sort}
use Rattle.trees.specs.declared.Sort.TheVariants.{Kind, Term, Formula, Pattern, Branch}
use Rattle.trees.specs.declared.Sort.TheVariants as sort
use Rattle.trees.specs.Tree.{Tree, Leaf, One, Two, Three, Head, HTyVar, HTyRigid, HTyApp, HEnd, HCell, HBound, HParam, HNum, HFun, HPred, HEq, HTrue, HFalse, HNot, HJoin, HForall, HExists, HLet, HIf, HCase, HArm, HPatAny, HPatVar, HPatCon, HPatAlias, head_of, above_params}
use Rattle.trees.specs.Sorts.{Fits, WellSorted, sort_of, yield, yield_type, type_of, top_sort, top_type, first_sort, IsList, IsListOf, IsExpression}
use Rattle.trees.specs.laws.Sorts.{first_sort_none}
use Rattle.trees.proofs.Types.{OnlyTypes, only_types, AreKinds, expression_yield, one_no_cell, three_no_cell}
use Rattle.tasks.specs.Vocabulary.{Vocabulary}
use Rattle.tasks.specs.Typing.{TypedUnder, members, entry, IsUse, option_list, pattern_types, BranchFits, BranchesFit, first_body}
use Rattle.tasks.specs.Valid.{VariablesBelow, ParametersOf}
use Rattle.tasks.specs.Task.{SymbolTree}
use Rattle.tasks.proofs.Closing.{typed_sorted}
use Rattle.tasks.proofs.TypeInstances.{some_kept}
use Rattle.images.specs.Images.{image, KeepsTree, AllSorted, IsOtherHead, IsNodeRule}

abbrev pub ArePatterns : Tree → Type 0
ArePatterns e = (sort_of e ≡ Pattern) ⊎ IsList Pattern e

no_kinds : (s : Sort) (o : Option Sort) → (s ≡ Kind → ⊥) → (s ≡ sort.List → ⊥) → (s ≡ Kind) ⊎ IsListOf Kind s o → ⊥
no_kinds s o a b (inl e) = a e
no_kinds s o a b (inr l) = b l.0

pub no_patterns : (s t : Sort) (o : Option Sort) → s ≡ t → (t ≡ Pattern → ⊥) → (t ≡ sort.List → ⊥) → (s ≡ Pattern) ⊎ IsListOf Pattern s o → ⊥
no_patterns s t o q a b (inl e) = a (sym q ∙ e)
no_patterns s t o q a b (inr l) = b (sym q ∙ l.0)

pub expression_no_patterns : (s : Sort) (o : Option Sort) → IsExpression s → (s ≡ Pattern) ⊎ IsListOf Pattern s o → ⊥
expression_no_patterns s o (inl t) k = no_patterns s Term o t (λ e. cc) (λ e. cc) k
expression_no_patterns s o (inr t) k = no_patterns s Formula o t (λ e. cc) (λ e. cc) k

-- what is known of an expression by its sort
top_sorted : (h : Head) (s : Sort) → IsExpression (top_sort h s) → s ≡ top_sort h s
top_sorted HEnd s (inl e) = absurd (cc)
top_sorted HEnd s (inr e) = absurd (cc)
top_sorted HCell s (inl e) = absurd (cc)
top_sorted HCell s (inr e) = absurd (cc)
top_sorted HArm s (inl e) = absurd (cc)
top_sorted HArm s (inr e) = absurd (cc)
top_sorted _ s k = refl

pub expression_sort : (e : Tree) → IsExpression (sort_of e) → yield e ≡ sort_of e
expression_sort e k = top_sorted (head_of e) (yield e) k

top_typed : (h : Head) (s : Sort) (t : Option Tree) → IsExpression (top_sort h s) → top_type h t ≡ t
top_typed HCell s t (inl e) = absurd (cc)
top_typed HCell s t (inr e) = absurd (cc)
top_typed HArm s t (inl e) = absurd (cc)
top_typed HArm s t (inr e) = absurd (cc)
top_typed _ s t k = refl

pub expression_type : (e : Tree) → IsExpression (sort_of e) → type_of e ≡ yield_type e
expression_type e k = top_typed (head_of e) (yield e) (yield_type e) k

not_list : (s : Sort) → IsExpression s → s ≡ sort.List → ⊥
not_list s (inl e) q = let z : Term ≡ sort.List = sym e ∙ q in cc
not_list s (inr e) q = let z : Formula ≡ sort.List = sym e ∙ q in cc

pub expression_first : (e : Tree) → IsExpression (sort_of e) → first_sort e ≡ None
expression_first e k = first_sort_none e (not_list (sort_of e) k)

pub expression_members : (e : Tree) → IsExpression (sort_of e) → members e ≡ []
expression_members (Leaf h) k = refl
expression_members (One h a) k = refl
expression_members (Two HCell a b) k = absurd (not_list sort.List k refl)
expression_members (Two _ a b) k = refl
expression_members (Three h a b c) k = refl

top_cell : (h : Head) (s : Sort) → IsExpression (top_sort h s) → h ≡ HCell → ⊥
top_cell HCell s k q = not_list sort.List k refl
top_cell _ s k q = cc

pub expression_cell : (e : Tree) → IsExpression (sort_of e) → head_of e ≡ HCell → ⊥
expression_cell e k q = top_cell (head_of e) (yield e) k q

pub expression_arm : (p x : Tree) → IsExpression (sort_of (Two HArm p x)) → ⊥
expression_arm p x (inl e) = cc
expression_arm p x (inr e) = cc

pub expression_branches : (ty : Option Tree) (one e : Tree) → IsExpression (sort_of e) → BranchesFit ty one e
expression_branches ty one (Leaf h) k = tt
expression_branches ty one (One h a) k = tt
expression_branches ty one (Two HCell a b) k = absurd (not_list sort.List k refl)
expression_branches ty one (Two _ a b) k = tt
expression_branches ty one (Three h a b c) k = tt

-- a leaf is no list with members
pub leaf_no_list : (h : Head) → WellSorted (Leaf h) → h ≡ HCell → ⊥
leaf_no_list HCell w e = w
leaf_no_list _ w e = cc

not_pattern : (s : Sort) → IsExpression s → s ≡ Pattern → ⊥
not_pattern s (inl e) q = let z : Term ≡ Pattern = sym e ∙ q in cc
not_pattern s (inr e) q = let z : Formula ≡ Pattern = sym e ∙ q in cc

pub expression_variables : (e : Tree) → IsExpression (sort_of e) → pattern_types e ≡ []
expression_variables (Leaf h) k = refl
expression_variables (One HPatVar a) k = absurd (not_pattern Pattern k refl)
expression_variables (One HPatAlias a) k = absurd (not_pattern Pattern k refl)
expression_variables (One _ a) k = refl
expression_variables (Two HCell a b) k = absurd (not_list sort.List k refl)
expression_variables (Two _ a b) k = refl
expression_variables (Three (HPatCon n) a b c) k = absurd (not_pattern Pattern k refl)
expression_variables (Three _ a b c) k = refl

-- branches are compared with the first by sort and type, and their patterns with the scrutinee by type
pub branches_alike : (ty uy : Option Tree) (one other b : Tree) → uy ≡ ty → sort_of other ≡ sort_of one → type_of other ≡ type_of one → BranchesFit ty one b → BranchesFit uy other b
branches_alike ty uy one other (Leaf h) r s q x = tt
branches_alike ty uy one other (One h a) r s q x = tt
branches_alike ty uy one other (Two HCell (Two HArm p e) bs) r s q x = ((x.0.0 ∙ sym r, x.0.1 ∙ sym s, x.0.2 ∙ sym q), branches_alike ty uy one other bs r s q x.1)
branches_alike ty uy one other (Two HCell b bs) r s q x = absurd x.0
branches_alike ty uy one other (Two _ a b) r s q x = tt
branches_alike ty uy one other (Three h a b c) r s q x = tt

-- the members of a list of one sort
pub first_of : (s : Sort) (a b : Tree) → Fits (Two HCell a b) → IsList s (Two HCell a b) → (sort_of a ≡ s) × IsList s b
first_of s a b w (q, inl n) = absurd (cc)
first_of s a b w (q, inr n) = let e : sort_of a ≡ s = cc in (e, subst (λ (z : Sort). IsListOf z (sort_of b) (first_sort b)) e w.0.1)

module _ (f : Tree → Tree) (others : (e : Tree) → IsOtherHead (head_of e) → f e ≡ e) where
  -- types and lists of types are images of themselves
  others_kinds : (e : Tree) → OnlyTypes e → WellSorted e → AreKinds e → image f e ≡ e
  others_kinds (Leaf (HTyVar j)) o w k = others (Leaf (HTyVar j)) tt
  others_kinds (Leaf (HTyRigid j)) o w k = others (Leaf (HTyRigid j)) tt
  others_kinds (Leaf HEnd) o w k = others (Leaf HEnd) tt
  others_kinds (Leaf (HNum z)) o w k = absurd (no_kinds Term None (λ e. cc) (λ e. cc) k)
  others_kinds (Leaf HTrue) o w k = absurd (no_kinds Formula None (λ e. cc) (λ e. cc) k)
  others_kinds (Leaf HFalse) o w k = absurd (no_kinds Formula None (λ e. cc) (λ e. cc) k)
  others_kinds (Leaf _) o w k = absurd w
  others_kinds (One h a) o w k =
      let q : h ≡ HTyApp o.0.0 = o.0.1 in
      let l : IsList Kind a = args h a o.0.0 q w.0 in
      ap (λ (z : Tree). f (One h z)) (others_kinds a o.1 w.1 (inr l)) ∙ others (One h a) (subst IsOtherHead (sym q) tt)
    where
      args : (g : Head) (a : Tree) (n : ℕ) → g ≡ HTyApp n → Fits (One g a) → IsList Kind a
      args (HTyApp m) a n q w = w
      args g a n q w = absurd (cc)
  others_kinds (Two HCell a b) o w (inl e) = absurd (cc)
  others_kinds (Two HCell a b) o w (inr l) =
      let p = first_of Kind a b w.0 l in
      ap (λ (z : Tree). f (Two HCell z (image f b))) (others_kinds a o.1 w.1 (inl p.0)) ∙ ap (λ (z : Tree). f (Two HCell a z)) (others_kinds b o.2 w.2 (inr p.1)) ∙ others (Two HCell a b) tt
  others_kinds (Two h a b) o w k = let q = o.0 in absurd (cc)
  others_kinds (Three h a b c) o w k = absurd o

  pub others_type : (e : Tree) → WellSorted e → AreKinds e → image f e ≡ e
  others_type e w k = others_kinds e (only_types e w k) w k

module _ (v : Vocabulary) (f : Tree → Tree) (r : IsNodeRule v f) where
  pub image_type : (e : Tree) → WellSorted e → AreKinds e → image f e ≡ e
  image_type e w k = others_type f r.others e w k

  -- patterns and lists of patterns
  pub image_patterns : (types : List Tree) (e : Tree) → TypedUnder v types e → ArePatterns e → image f e ≡ e
  image_patterns types (Leaf HEnd) x k = r.others (Leaf HEnd) tt
  image_patterns types (Leaf (HTyVar j)) x k = r.others (Leaf (HTyVar j)) tt
  image_patterns types (Leaf (HTyRigid j)) x k = r.others (Leaf (HTyRigid j)) tt
  image_patterns types (Leaf (HNum z)) x k = absurd (no_patterns Term Term None refl (λ e. cc) (λ e. cc) k)
  image_patterns types (Leaf HTrue) x k = absurd (no_patterns Formula Formula None refl (λ e. cc) (λ e. cc) k)
  image_patterns types (Leaf HFalse) x k = absurd (no_patterns Formula Formula None refl (λ e. cc) (λ e. cc) k)
  image_patterns types (Leaf _) x k = absurd x.0
  image_patterns types (One HPatAny a) x k = ap (λ (z : Tree). f (One HPatAny z)) (image_type a (typed_sorted v types a x.2) (inl x.0)) ∙ r.others (One HPatAny a) tt
  image_patterns types (One HPatVar a) x k = ap (λ (z : Tree). f (One HPatVar z)) (image_type a (typed_sorted v types a x.2) (inl x.0)) ∙ r.others (One HPatVar a) tt
  image_patterns types (One HPatAlias a) x k = ap (λ (z : Tree). f (One HPatAlias z)) (image_patterns types a x.2 (inl x.0)) ∙ r.others (One HPatAlias a) tt
  image_patterns types (One (HBound n) a) x k = absurd (no_patterns Term Term None refl (λ e. cc) (λ e. cc) k)
  image_patterns types (One (HParam n) a) x k = absurd (no_patterns Term Term None refl (λ e. cc) (λ e. cc) k)
  image_patterns types (One HNot a) x k = absurd (no_patterns Formula Formula None refl (λ e. cc) (λ e. cc) k)
  image_patterns types (One (HTyApp n) a) x k = absurd (no_patterns Kind Kind None refl (λ e. cc) (λ e. cc) k)
  image_patterns types (One _ a) x k = absurd x.0
  image_patterns types (Two HCell a b) x (inl e) = absurd (cc)
  image_patterns types (Two HCell a b) x (inr l) =
      let p = first_of Pattern a b x.0 l in
      ap (λ (z : Tree). f (Two HCell z (image f b))) (image_patterns types a x.2 (inl p.0)) ∙ ap (λ (z : Tree). f (Two HCell a z)) (image_patterns types b x.3 (inr p.1)) ∙ r.others (Two HCell a b) tt
  image_patterns types (Two HLet a b) x k = absurd (expression_no_patterns (yield b) None (expression_yield b x.0.0.1) k)
  image_patterns types (Two HCase a (Two HCell (Two HArm p e) b)) x k = absurd (expression_no_patterns (yield e) None (expression_yield e x.3.2.0.0.1) k)
  image_patterns types (Two HCase a (Two HCell c b)) x k = absurd x.1.0
  image_patterns types (Two HCase a (Two _ c b)) x k = absurd (let q = x.0.1 in cc)
  image_patterns types (Two HCase a (Leaf h)) x k = absurd (leaf_no_list h x.3.0 x.0.1)
  image_patterns types (Two HCase a (One h b)) x k = absurd (one_no_cell h b x.3.0 x.0.1)
  image_patterns types (Two HCase a (Three h b c d)) x k = absurd (three_no_cell h b c d x.3.0 x.0.1)
  image_patterns types (Two HArm a b) x k = absurd (no_patterns Branch Branch None refl (λ e. cc) (λ e. cc) k)
  image_patterns types (Two (HPred p) a b) x k = absurd (no_patterns Formula Formula None refl (λ e. cc) (λ e. cc) k)
  image_patterns types (Two HEq a b) x k = absurd (no_patterns Formula Formula None refl (λ e. cc) (λ e. cc) k)
  image_patterns types (Two (HJoin op) a b) x k = absurd (no_patterns Formula Formula None refl (λ e. cc) (λ e. cc) k)
  image_patterns types (Two HForall a b) x k = absurd (no_patterns Formula Formula None refl (λ e. cc) (λ e. cc) k)
  image_patterns types (Two HExists a b) x k = absurd (no_patterns Formula Formula None refl (λ e. cc) (λ e. cc) k)
  image_patterns types (Two _ a b) x k = absurd x.0.0
  image_patterns types (Three (HPatCon n) a b c) x k =
      ap (λ (z : Tree). f (Three (HPatCon n) z (image f b) (image f c))) (image_type a (typed_sorted v types a x.2) (inr x.0.0))
      ∙ ap (λ (z : Tree). f (Three (HPatCon n) a z (image f c))) (image_patterns types b x.3 (inr x.0.1))
      ∙ ap (λ (z : Tree). f (Three (HPatCon n) a b z)) (image_type c (typed_sorted v types c x.4) (inl x.0.2)) ∙ r.others (Three (HPatCon n) a b c) tt
  image_patterns types (Three (HFun n) a b c) x k = absurd (no_patterns Term Term None refl (λ e. cc) (λ e. cc) k)
  image_patterns types (Three HIf a b c) x k = absurd (expression_no_patterns (yield b) None (expression_yield b x.0.1) k)
  image_patterns types (Three _ a b c) x k = absurd x.0

  -- ---- what is made of a typed tree, expression or not
  pub record Like (types : List Tree) (e m : Tree) : Type 0 where
    pub typed : TypedUnder v types m
    pub sort : sort_of m ≡ sort_of e
    pub yields : yield m ≡ yield e
    pub first : first_sort m ≡ first_sort e
    pub type : type_of m ≡ type_of e
    pub yield_types : yield_type m ≡ yield_type e
    pub types_of : map type_of (members m) ≡ map type_of (members e)
    pub cell : head_of e ≡ HCell → head_of m ≡ HCell
    pub arm : (p x : Tree) → e ≡ Two HArm p x → (y : Tree) × ((m ≡ Two HArm p y) × ((sort_of y ≡ sort_of x) × (type_of y ≡ type_of x)))
    pub branches : (ty : Option Tree) (one : Tree) → BranchesFit ty one e → BranchesFit ty one m
    pub body : (ty : Option Tree) (one : Tree) → head_of e ≡ HCell → BranchesFit ty one e → (sort_of (first_body m) ≡ sort_of (first_body e)) × (type_of (first_body m) ≡ type_of (first_body e))
    pub variables : (n : ℕ) → VariablesBelow n e → VariablesBelow n m
    pub above : (n : ℕ) → above_params e ≤ n → above_params m ≤ n
    pub parameters : (ps : List Tree) → ParametersOf ps e → ParametersOf ps m

  like_refl : (types : List Tree) (e : Tree) → TypedUnder v types e → Like types e e
  like_refl types e x = record {
    typed = x;
    sort = refl;
    yields = refl;
    first = refl;
    type = refl;
    yield_types = refl;
    types_of = refl;
    cell = λ h. h;
    arm = λ p y q. (y, (q, (refl, refl)));
    branches = λ ty one h. h;
    body = λ ty one c h. (refl, refl);
    variables = λ n h. h;
    above = λ n h. h;
    parameters = λ ps h. h;
  }

  keeps_refl : (types : List Tree) (e : Tree) → TypedUnder v types e → KeepsTree v types e e
  keeps_refl types e x = record { typed = x; sort = refl; type = refl; variables = λ n h. h; above = λ m h. h; parameters = λ ps h. h }

  like_expression : (types : List Tree) (e m : Tree) → IsExpression (sort_of e) → KeepsTree v types e m → Like types e m
  like_expression types e m s k =
      let t : IsExpression (sort_of m) = subst IsExpression (sym k.sort) s in record {
        typed = k.typed;
        sort = k.sort;
        yields = expression_sort m t ∙ k.sort ∙ sym (expression_sort e s);
        first = expression_first m t ∙ sym (expression_first e s);
        type = k.type;
        yield_types = sym (expression_type m t) ∙ k.type ∙ expression_type e s;
        types_of = ap (map type_of) (expression_members m t ∙ sym (expression_members e s));
        cell = λ h. absurd (expression_cell e s h);
        arm = λ p x q. absurd (expression_arm p x (subst (λ (z : Tree). IsExpression (sort_of z)) q s));
        branches = λ ty one h. expression_branches ty one m t;
        body = λ ty one c h. absurd (expression_cell e s c);
        variables = k.variables;
        above = k.above;
        parameters = k.parameters;
      }

  -- the rule at a node that has what typing sees of the tree
  by_rule : (types : List Tree) (e o : Tree) → IsExpression (sort_of e) → WellSorted (f o) → KeepsTree v types e o → Like types e (f o)
  by_rule types e o s w k =
      let n = r.keeps types o (subst IsExpression (sym k.sort) s) k.typed w in
      like_expression types e (f o) s (record {
        typed = n.typed;
        sort = n.sort ∙ k.sort;
        type = n.type ∙ k.type;
        variables = λ j h. n.variables j (k.variables j h);
        above = λ j h. n.above j (k.above j h);
        parameters = λ ps h. n.parameters ps (k.parameters ps h);
      })

  whole : (types : List Tree) (e : Tree) → TypedUnder v types e → image f e ≡ e → Like types e (image f e)
  whole types e x q = subst (λ (m : Tree). Like types e m) (sym q) (like_refl types e x)

  via : (types : List Tree) (e o m : Tree) → m ≡ o → Like types e o → Like types e m
  via types e o m q l = subst (λ (z : Tree). Like types e z) (sym q) l

  list_kept : (s : Sort) (a b : Tree) → sort_of b ≡ sort_of a → first_sort b ≡ first_sort a → IsList s a → IsList s b
  list_kept s a b p q l = (p ∙ l.0, first (first_sort b) (q) l.1)
    where
      first : (o : Option Sort) → o ≡ first_sort a → (first_sort a ≡ None) ⊎ (first_sort a ≡ Some s) → (o ≡ None) ⊎ (o ≡ Some s)
      first o e (inl n) = inl (e ∙ n)
      first o e (inr n) = inr (e ∙ n)

  kind : (types : List Tree) (a : Tree) → TypedUnder v types a → AreKinds a → image f a ≡ a
  kind types a x k = image_type a (typed_sorted v types a x) k

  use_kept : (e : SymbolTree) (types args made : Tree) → map type_of (members made) ≡ map type_of (members args) → IsUse e types args → IsUse e types made
  use_kept e types args made q u = record { as_many = u.as_many; fit = q ∙ u.fit }

  branch_kept : (types : List Tree) (a : Tree) → Like types a (image f a) → (ty : Option Tree) (one : Tree) → BranchFits ty one a → BranchFits ty one (image f a)
  branch_kept types (Two HArm p e) l ty one h = let y = l.arm p e refl in subst (BranchFits ty one) (sym y.1.0) (h.0, y.1.1.0 ∙ h.1, y.1.1.1 ∙ h.2)
  branch_kept types _ l ty one h = absurd h

  body_kept : (types : List Tree) (a b : Tree) → Like types a (image f a) → (ty : Option Tree) (one : Tree) → BranchFits ty one a
      → (sort_of (first_body (Two HCell (image f a) (image f b))) ≡ sort_of (first_body (Two HCell a b))) × (type_of (first_body (Two HCell (image f a) (image f b))) ≡ type_of (first_body (Two HCell a b)))
  body_kept types (Two HArm p e) b l ty one h =
      let y = l.arm p e refl in
      subst (λ (z : Tree). (sort_of (first_body (Two HCell z (image f b))) ≡ sort_of e) × (type_of (first_body (Two HCell z (image f b))) ≡ type_of e)) (sym y.1.0) y.1.1
  body_kept types _ b l ty one h = absurd h

  case_sort : (types : List Tree) (a b : Tree) → TypedUnder v types (Two HCase a b) → IsExpression (sort_of (Two HCase a b))
  case_sort types a (Two HCell (Two HArm p e) b) x = subst IsExpression (sym (expression_sort e x.3.2.0.0.1)) x.3.2.0.0.1
  case_sort types a (Two HCell c b) x = absurd x.1.0
  case_sort types a (Two _ c b) x = absurd (let q = x.0.1 in cc)
  case_sort types a (Leaf h) x = absurd (leaf_no_list h x.3.0 x.0.1)
  case_sort types a (One h b) x = absurd (one_no_cell h b x.3.0 x.0.1)
  case_sort types a (Three h b c d) x = absurd (three_no_cell h b c d x.3.0 x.0.1)

  pub like : (types : List Tree) (e : Tree) → TypedUnder v types e → AllSorted f e → Like types e (image f e)
  like types (Leaf (HNum z)) x w = by_rule types (Leaf (HNum z)) (Leaf (HNum z)) (inl refl) w (keeps_refl types (Leaf (HNum z)) x)
  like types (Leaf HTrue) x w = by_rule types (Leaf HTrue) (Leaf HTrue) (inr refl) w (keeps_refl types (Leaf HTrue) x)
  like types (Leaf HFalse) x w = by_rule types (Leaf HFalse) (Leaf HFalse) (inr refl) w (keeps_refl types (Leaf HFalse) x)
  like types (Leaf (HTyVar j)) x w = whole types (Leaf (HTyVar j)) x (r.others (Leaf (HTyVar j)) tt)
  like types (Leaf (HTyRigid j)) x w = whole types (Leaf (HTyRigid j)) x (r.others (Leaf (HTyRigid j)) tt)
  like types (Leaf HEnd) x w = whole types (Leaf HEnd) x (r.others (Leaf HEnd) tt)
  like types (Leaf _) x w = absurd x.0
  like types (One (HTyApp n) a) x w = whole types (One (HTyApp n) a) x (kind types (One (HTyApp n) a) x (inl refl))
  like types (One (HBound i) a) x w =
      let e = One (HBound i) a in
      via types e (f e) (image f e) (ap (λ (z : Tree). f (One (HBound i) z)) (kind types a x.2 (inl x.0.0))) (by_rule types e e (inl refl) (subst (λ (z : Tree). WellSorted (f (One (HBound i) z))) (kind types a x.2 (inl x.0.0)) w.0) (keeps_refl types e x))
  like types (One (HParam n) a) x w =
      let e = One (HParam n) a in
      via types e (f e) (image f e) (ap (λ (z : Tree). f (One (HParam n) z)) (kind types a x.2 (inl x.0))) (by_rule types e e (inl refl) (subst (λ (z : Tree). WellSorted (f (One (HParam n) z))) (kind types a x.2 (inl x.0)) w.0) (keeps_refl types e x))
  like types (One HNot a) x w =
      let l = like types a x.2 w.1 in
      by_rule types (One HNot a) (One HNot (image f a)) (inr refl) w.0 (record {
        typed = (l.sort ∙ x.0, tt, l.typed);
        sort = refl;
        type = refl;
        variables = l.variables;
        above = l.above;
        parameters = λ ps h. (tt, l.parameters ps h.1);
      })
  like types (One HPatAny a) x w = whole types (One HPatAny a) x (image_patterns types (One HPatAny a) x (inl refl))
  like types (One HPatVar a) x w = whole types (One HPatVar a) x (image_patterns types (One HPatVar a) x (inl refl))
  like types (One HPatAlias a) x w = whole types (One HPatAlias a) x (image_patterns types (One HPatAlias a) x (inl refl))
  like types (One _ a) x w = absurd x.0
  like types (Two HCell a b) x w =
      let l = like types a x.2 w.1 in
      let m = like types b x.3 w.2 in
      via types (Two HCell a b) (Two HCell (image f a) (image f b)) (image f (Two HCell a b)) (r.others (Two HCell (image f a) (image f b)) tt) (record {
        typed = (((λ q. x.0.0.0 (sym l.sort ∙ q), subst (λ (z : Sort). IsListOf z (sort_of (image f b)) (first_sort (image f b))) (sym l.sort) (list_kept (sort_of a) b (image f b) m.sort m.first x.0.0.1)), tt), tt, l.typed, m.typed);
        sort = refl;
        yields = l.yields;
        first = ap Some l.sort;
        type = refl;
        yield_types = l.yield_types;
        types_of = cc (l.type, m.types_of);
        cell = λ h. refl;
        arm = λ p y q. absurd (cc);
        branches = λ ty one h. (branch_kept types a l ty one h.0, m.branches ty one h.1);
        body = λ ty one c h. body_kept types a b l ty one h.0;
        variables = λ n h. (l.variables n h.0, m.variables n h.1);
        above = λ n h. omega (arith, l.above n (omega arith), m.above n (omega arith));
        parameters = λ ps h. (l.parameters ps h.0, m.parameters ps h.1);
      })
  like types (Two HArm p e) x w =
      let m = like (pattern_types p ++ types) e x.3 w.2 in
      via types (Two HArm p e) (Two HArm p (image f e)) (image f (Two HArm p e))
      (r.others (Two HArm (image f p) (image f e)) tt ∙ ap (λ (z : Tree). Two HArm z (image f e)) (image_patterns types p x.2 (inl x.0.0.0))) (record {
        typed = (((x.0.0.0, subst IsExpression (sym m.sort) x.0.0.1), tt), tt, x.2, m.typed);
        sort = refl;
        yields = m.yields;
        first = refl;
        type = refl;
        yield_types = m.yield_types;
        types_of = refl;
        cell = λ h. absurd (cc);
        arm = λ q y z. let g : e ≡ y = cc (z) in let n : p ≡ q = cc (z) in (image f e, (ap (λ (w : Tree). Two HArm w (image f e)) n, (m.sort ∙ ap sort_of g, m.type ∙ ap type_of g)));
        branches = λ ty one h. tt;
        body = λ ty one c h. absurd (cc);
        variables = λ n h. (h.0, m.variables n h.1);
        above = λ n h. omega (arith, m.above n (omega arith));
        parameters = λ ps h. (h.0, m.parameters ps h.1);
      })
  like types (Two (HPred p) a b) x w =
      let m = like types b x.3 w.2 in
      let q : image f a ≡ a = kind types a x.2 (inr x.0.0.0) in
      via types (Two (HPred p) a b) (f (Two (HPred p) a (image f b))) (image f (Two (HPred p) a b)) (ap (λ (z : Tree). f (Two (HPred p) z (image f b))) q)
      (by_rule types (Two (HPred p) a b) (Two (HPred p) a (image f b)) (inr refl) (subst (λ (z : Tree). WellSorted (f (Two (HPred p) z (image f b)))) q w.0) (record {
        typed = (((x.0.0.0, list_kept Term b (image f b) m.sort m.first x.0.0.1), tt), (x.1.0, some_kept (entry v p) _ _ (λ e q u. (u.0, use_kept e a b (image f b) m.types_of u.1)) x.1.1), x.2, m.typed);
        sort = refl;
        type = refl;
        variables = λ n h. (h.0, m.variables n h.1);
        above = λ n h. omega (arith, m.above n (omega arith));
        parameters = λ ps h. (h.0, m.parameters ps h.1);
      }))
  like types (Two HEq a b) x w =
      let l = like types a x.2 w.1 in
      let m = like types b x.3 w.2 in
      by_rule types (Two HEq a b) (Two HEq (image f a) (image f b)) (inr refl) w.0 (record {
        typed = (((l.sort ∙ x.0.0.0, m.sort ∙ x.0.0.1), tt), l.type ∙ x.1 ∙ sym m.type, l.typed, m.typed);
        sort = refl;
        type = refl;
        variables = λ n h. (l.variables n h.0, m.variables n h.1);
        above = λ n h. omega (arith, l.above n (omega arith), m.above n (omega arith));
        parameters = λ ps h. (l.parameters ps h.0, m.parameters ps h.1);
      })
  like types (Two (HJoin op) a b) x w =
      let l = like types a x.2 w.1 in
      let m = like types b x.3 w.2 in
      by_rule types (Two (HJoin op) a b) (Two (HJoin op) (image f a) (image f b)) (inr refl) w.0 (record {
        typed = (((l.sort ∙ x.0.0.0, m.sort ∙ x.0.0.1), tt), tt, l.typed, m.typed);
        sort = refl;
        type = refl;
        variables = λ n h. (l.variables n h.0, m.variables n h.1);
        above = λ n h. omega (arith, l.above n (omega arith), m.above n (omega arith));
        parameters = λ ps h. (l.parameters ps h.0, m.parameters ps h.1);
      })
  like types (Two HForall a b) x w =
      let m = like (a ∷ types) b x.3 w.2 in
      via types (Two HForall a b) (f (Two HForall a (image f b))) (image f (Two HForall a b)) (ap (λ (z : Tree). f (Two HForall z (image f b))) (kind types a x.2 (inl x.0.0.0)))
      (by_rule types (Two HForall a b) (Two HForall a (image f b)) (inr refl) (subst (λ (z : Tree). WellSorted (f (Two HForall z (image f b)))) (kind types a x.2 (inl x.0.0.0)) w.0) (record {
        typed = (((x.0.0.0, m.sort ∙ x.0.0.1), tt), tt, x.2, m.typed);
        sort = refl;
        type = refl;
        variables = λ n h. (h.0, m.variables n h.1);
        above = λ n h. omega (arith, m.above n (omega arith));
        parameters = λ ps h. (h.0, m.parameters ps h.1);
      }))
  like types (Two HExists a b) x w =
      let m = like (a ∷ types) b x.3 w.2 in
      via types (Two HExists a b) (f (Two HExists a (image f b))) (image f (Two HExists a b)) (ap (λ (z : Tree). f (Two HExists z (image f b))) (kind types a x.2 (inl x.0.0.0)))
      (by_rule types (Two HExists a b) (Two HExists a (image f b)) (inr refl) (subst (λ (z : Tree). WellSorted (f (Two HExists z (image f b)))) (kind types a x.2 (inl x.0.0.0)) w.0) (record {
        typed = (((x.0.0.0, m.sort ∙ x.0.0.1), tt), tt, x.2, m.typed);
        sort = refl;
        type = refl;
        variables = λ n h. (h.0, m.variables n h.1);
        above = λ n h. omega (arith, m.above n (omega arith));
        parameters = λ ps h. (h.0, m.parameters ps h.1);
      }))
  like types (Two HLet a b) x w =
      let l = like types a x.2 w.1 in
      let m = like (option_list (type_of a) ++ types) b x.3 w.2 in
      by_rule types (Two HLet a b) (Two HLet (image f a) (image f b)) (subst IsExpression (sym (expression_sort b x.0.0.1)) x.0.0.1) w.0 (record {
        typed = (((l.sort ∙ x.0.0.0, subst IsExpression (sym m.sort) x.0.0.1), tt), tt, l.typed, subst (λ (o : Option Tree). TypedUnder v (option_list o ++ types) (image f b)) (sym l.type) m.typed);
        sort = m.yields;
        type = m.yield_types;
        variables = λ n h. (l.variables n h.0, m.variables n h.1);
        above = λ n h. omega (arith, l.above n (omega arith), m.above n (omega arith));
        parameters = λ ps h. (l.parameters ps h.0, m.parameters ps h.1);
      })
  like types (Two HCase a b) x w =
      let l = like types a x.2 w.1 in
      let m = like types b x.3 w.2 in
      let y = m.body (type_of a) (first_body b) x.0.1 x.1 in
      by_rule types (Two HCase a b) (Two HCase (image f a) (image f b)) (case_sort types a b x) w.0 (record {
        typed = (
          ((l.sort ∙ x.0.0.0, list_kept Branch b (image f b) m.sort m.first x.0.0.1), m.cell x.0.1),
          branches_alike (type_of a) (type_of (image f a)) (first_body b) (first_body (image f b)) (image f b) l.type y.0 y.1 (m.branches (type_of a) (first_body b) x.1),
          l.typed,
          m.typed,
        );
        sort = m.yields;
        type = m.yield_types;
        variables = λ n h. (l.variables n h.0, m.variables n h.1);
        above = λ n h. omega (arith, l.above n (omega arith), m.above n (omega arith));
        parameters = λ ps h. (l.parameters ps h.0, m.parameters ps h.1);
      })
  like types (Two _ a b) x w = absurd x.0.0
  like types (Three (HFun k) a b c) x w =
      let m = like types b x.3 w.2 in
      let q : image f a ≡ a = kind types a x.2 (inr x.0.0) in
      let p : image f c ≡ c = kind types c x.4 (inl x.0.2) in
      via types (Three (HFun k) a b c) (f (Three (HFun k) a (image f b) c)) (image f (Three (HFun k) a b c)) (ap (λ (z : Tree). f (Three (HFun k) z (image f b) (image f c))) q ∙ ap (λ (z : Tree). f (Three (HFun k) a (image f b) z)) p)
      (by_rule types (Three (HFun k) a b c) (Three (HFun k) a (image f b) c) (inl refl) (subst (λ (z : Tree). WellSorted (f (Three (HFun k) a (image f b) z))) p (subst (λ (z : Tree). WellSorted (f (Three (HFun k) z (image f b) (image f c)))) q w.0)) (record {
        typed = (
          (x.0.0, list_kept Term b (image f b) m.sort m.first x.0.1, x.0.2),
          (x.1.0, some_kept (entry v k) _ _ (λ e q u. (u.0, use_kept e a b (image f b) m.types_of u.1, u.2)) x.1.1),
          x.2,
          m.typed,
          x.4,
        );
        sort = refl;
        type = refl;
        variables = λ n h. (h.0, m.variables n h.1, h.2);
        above = λ n h. omega (arith, m.above n (omega arith));
        parameters = λ ps h. (h.0, m.parameters ps h.1, h.2);
      }))
  like types (Three HIf a b c) x w =
      let l = like types a x.2 w.1 in
      let m = like types b x.3 w.2 in
      let n = like types c x.4 w.3 in
      by_rule types (Three HIf a b c) (Three HIf (image f a) (image f b) (image f c)) (subst IsExpression (sym (expression_sort b x.0.1)) x.0.1) w.0 (record {
        typed = ((l.sort ∙ x.0.0, subst IsExpression (sym m.sort) x.0.1, n.sort ∙ x.0.2 ∙ sym m.sort), m.type ∙ x.1 ∙ sym n.type, l.typed, m.typed, n.typed);
        sort = m.yields;
        type = m.yield_types;
        variables = λ j h. (l.variables j h.0, m.variables j h.1, n.variables j h.2);
        above = λ j h. omega (arith, l.above j (omega arith), m.above j (omega arith), n.above j (omega arith));
        parameters = λ ps h. (l.parameters ps h.0, m.parameters ps h.1, n.parameters ps h.2);
      })
  like types (Three (HPatCon k) a b c) x w = whole types (Three (HPatCon k) a b c) x (image_patterns types (Three (HPatCon k) a b c) x (inl refl))
  like types (Three _ a b c) x w = absurd x.0

  -- a typed expression
  pub image_keeps : (types : List Tree) (e : Tree) → TypedUnder v types e → AllSorted f e → KeepsTree v types e (image f e)
  image_keeps types e x w = let l = like types e x w in record { typed = l.typed; sort = l.sort; type = l.type; variables = l.variables; above = l.above; parameters = l.parameters }
