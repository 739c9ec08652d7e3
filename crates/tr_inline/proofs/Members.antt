-- The members of the lists of a use: its types, and its arguments, which the quantifiers of an equation take.
use Rattle.std.proofs.Common.{◌≡◌, ℕ, inl, inr, List, [], ◌∷◌, ◌++◌, map, All, Some, subst, refl, sym, ap, ◌∙◌, arith}
use Rattle.std.proofs.lemmas.List.Elements.{All-cons, All-nil}
use Rattle.trees.specs.declared.Sort.TheVariants.{Kind, Term}
use Rattle.trees.specs.declared.Sort.TheVariants as sort
use Rattle.trees.specs.Tree.{Tree, Leaf, One, Two, Three, Head, HEnd, HCell, HForall, loose}
use Rattle.trees.specs.Binding.{inst, inst_many, instantiating_many, change, AreClosed}
use Rattle.trees.specs.Sorts.{Fits, WellSorted, sort_of, type_of, IsList}
use Rattle.trees.proofs.Many.{inst_many_closed}
use Rattle.trees.specs.laws.Sorts.{term_no_vars}
use Rattle.tasks.specs.Task.{TaskTree}
use Rattle.tasks.specs.Equations.{cells, for_all}
use Rattle.tasks.specs.Vocabulary.{of_task}
use Rattle.tasks.specs.Typing.{TypedUnder, members}
use Rattle.tasks.specs.Valid.{IsGround, IsTypeOver}
use Rattle.tasks.proofs.Closing.{typed_closed}
use Rattle.congruence.specs.kernel.Right.{IsGroundExpression}
use Rattle.congruence.proofs.Lists.{list_shape}
use Rattle.inlining.specs.images.Instances.{AreTypesClosed}
use Rattle.inlining.proofs.images.Images.{first_of}
use Rattle.inlining.proofs.Equations.{forall_next}
use Rattle.tr_inline.specs.Lemmas.{TakesTerm, TakesTerms}

-- a list is that of its members
cell_of : (h : Head) (a b : Tree) → h ≡ HCell → Fits (Two h a b) → (sort_of b ≡ sort.List → cells (members b) ≡ b) → cells (members (Two h a b)) ≡ Two h a b
cell_of h a b q w k =
    let f : Fits (Two HCell a b) = subst (λ (g : Head). Fits (Two g a b)) q w in
    subst (λ (g : Head). cells (members (Two g a b)) ≡ Two g a b) (sym q) (ap (Two HCell a) (k f.0.1.0))

pub cells_of : (e : Tree) → WellSorted e → sort_of e ≡ sort.List → cells (members e) ≡ e
cells_of (Leaf h) w q = elim (list_shape (Leaf h) w q) [ inl n ↦ sym n | inr p ↦ absurd (let k = p.1.1 in cc) ]
cells_of (One h a) w q = elim (list_shape (One h a) w q) [ inl n ↦ absurd (cc) | inr p ↦ absurd (let k = p.1.1 in cc) ]
cells_of (Two h a b) w q = elim (list_shape (Two h a b) w q) [ inl n ↦ absurd (cc) | inr p ↦ cell_of h a b (let k = p.1.1 in cc) w.0 (cells_of b w.2) ]
cells_of (Three h a b c) w q = elim (list_shape (Three h a b c) w q) [ inl n ↦ absurd (cc) | inr p ↦ absurd (let k = p.1.1 in cc) ]

closed_push : (us : List Tree) (u : Tree) → AreClosed us → sort_of u ≡ Term → loose u ≡ 0 → AreClosed (us ++ u ∷ [])
closed_push [] u c q l = ((l, term_no_vars u q), tt)
closed_push (x ∷ xs) u c q l = (c.0, closed_push xs u c.1 q l)

module _ (t : TaskTree) where
  -- the members of a list of types
  pub types_over : (e : Tree) → IsList Kind e → TypedUnder (of_task t) [] e → IsGround e → All (IsTypeOver t 0) (members e)
  types_over (Two HCell a b) l x g =
      let p = first_of Kind a b x.0 l in
      All-cons (IsTypeOver t 0) a (members b) (record { sort = p.0; typed = x.2; variables = g.0 }) (types_over b p.1 x.3 g.1)
  types_over (Two _ a b) l x g = All-nil (IsTypeOver t 0)
  types_over (Leaf h) l x g = All-nil (IsTypeOver t 0)
  types_over (One h a) l x g = All-nil (IsTypeOver t 0)
  types_over (Three h a b c) l x g = All-nil (IsTypeOver t 0)

  closed_term : (e : Tree) → TypedUnder (of_task t) [] e → loose e ≡ 0
  closed_term e x = let l = typed_closed (of_task t) [] e x in omega (arith, l)

  pub terms_closed : (e : Tree) → IsList Term e → TypedUnder (of_task t) [] e → AreClosed (members e)
  terms_closed (Two HCell a b) l x = let p = first_of Term a b x.0 l in ((closed_term a x.2, term_no_vars a p.0), terms_closed b p.1 x.3)
  terms_closed (Two _ a b) l x = tt
  terms_closed (Leaf h) l x = tt
  terms_closed (One h a) l x = tt
  terms_closed (Three h a b c) l x = tt

  -- quantifiers over these types, below which closed terms were put in, take terms of the types that are left
  module _ (at : Tree → Tree) where
    pub takes_from : (args : List Tree) (e : Tree) → AreTypesClosed (map at args) → (before : List Tree) → AreClosed before → (ts : Tree) → IsList Term ts → TypedUnder (of_task t) [] ts → IsGround ts
        → map type_of (members ts) ≡ map (λ a. Some (at a)) args → (f : Tree) → f ≡ inst_many (for_all (map at args) e) before → TakesTerms t f ts
    takes_from (arg ∷ args) e c before k (Two HCell a b) l x g q f i =
        let p = first_of Term a b x.0 l in
        let inner = change (instantiating_many before) 1 (for_all (map at args) e) in
        let n = forall_next before (at arg) (for_all (map at args) e) a k in
        let w : TakesTerm t f a = record {
          ty = at arg;
          body = inner;
          is = i ∙ n.0 ∙ ap (λ (z : Tree). Two HForall z inner) (inst_many_closed before 0 (at arg) c.0);
          type = cc;
          term = p.0;
          ground = record { sort = inl p.0; typed = x.2; ground = g.0 };
        } in
        let rest : map type_of (members b) ≡ map (λ a. Some (at a)) args = cc in
        (w, takes_from args e c.1 (before ++ a ∷ []) (closed_push before a k p.0 (closed_term a x.2)) b p.1 x.3 g.1 rest (inst inner a) n.1)
    takes_from [] e c before k (Two HCell a b) l x g q f i = absurd (cc)
    takes_from args e c before k (Two _ a b) l x g q f i = tt
    takes_from args e c before k (Leaf h) l x g q f i = tt
    takes_from args e c before k (One h a) l x g q f i = tt
    takes_from args e c before k (Three h a b d) l x g q f i = tt
