-- The first conditional of an open atom is a typed term, and the atom stays typed with another term of its type in the place of that.
use Rattle.std.proofs.Common.{◌≡◌, ◌⊎◌, inl, inr, List, [], map, Option, Some, None, IfSome, subst, refl, sym, ap, ◌∙◌}
use Rattle.tasks.specs.trees.declared.Sort.{Sort}
use Rattle.tasks.specs.trees.declared.Sort.TheVariants.{Term, Formula}
use Rattle.tasks.specs.trees.declared.Sort.TheVariants as sort
use Rattle.tasks.specs.trees.Tree.{Tree, Leaf, One, Two, Three, HCell, HFun, HPred, HEq, HIf, head_of}
use Rattle.tasks.specs.trees.Sorts.{sort_of, type_of, first_sort, IsList, IsListOf, IsExpression}
use Rattle.tasks.specs.trees.Binding.{inst_many}
use Rattle.tasks.specs.Task.{SymbolTree}
use Rattle.tasks.specs.Vocabulary.{Vocabulary}
use Rattle.tasks.specs.Typing.{members, entry, IsUse, TypedUnder}
use Rattle.tasks.proofs.TypeInstances.{some_kept}
use Rattle.evidence.proofs.images.Images.{expression_sort, expression_first, expression_members, first_of}
use Rattle.evidence.proofs.images.OpenInstances.{for_all_opens}
use Rattle.tr_if.specs.conditionals.Conditionals.{earlier, first_if, one_changed, replace_first}
use Rattle.tr_if.specs.conditionals.Laws.{is_atom_head}

-- ---- the first conditional
module _ (v : Vocabulary) (types : List Tree) where
  -- a term or a list of terms
  abbrev AreTerms : Tree → Type 0
  AreTerms e = (sort_of e ≡ Term) ⊎ IsList Term e

  abbrev pub IsTypedTerm : Tree → Type 0
  IsTypedTerm w = (sort_of w ≡ Term) × TypedUnder v types w

  no_formula : (o : Option Sort) → (Formula ≡ Term) ⊎ IsListOf Term Formula o → ⊥
  no_formula o (inl e) = cc
  no_formula o (inr l) = let q = l.0 in cc

  no_list : (a : Tree) → IsExpression (sort_of a) → sort_of a ≡ sort.List → ⊥
  no_list a (inl t) q = let e : Term ≡ sort.List = sym t ∙ q in cc
  no_list a (inr t) q = let e : Formula ≡ sort.List = sym t ∙ q in cc

  in_two : (a b w : Tree) (o : Option Tree) → first_if a ≡ o → (first_if a ≡ Some w → IsTypedTerm w) → (first_if b ≡ Some w → IsTypedTerm w) → earlier o (first_if b) ≡ Some w → IsTypedTerm w
  in_two a b w (Some e) m left right q = left (m ∙ q)
  in_two a b w None m left right q = right q

  first_among : (e w : Tree) → TypedUnder v types e → AreTerms e → first_if e ≡ Some w → IsTypedTerm w
  first_among (Leaf h) w x k q = absurd (cc)
  first_among (One h a) w x k q = absurd (cc)
  first_among (Two (HPred p) a b) w x k q = absurd (no_formula None k)
  first_among (Two HEq a b) w x k q = absurd (no_formula None k)
  first_among (Two HCell a b) w x (inl s) q = absurd (cc)
  first_among (Two HCell a b) w x (inr l) q =
      let p = first_of Term a b x.0 l in in_two a b w (first_if a) refl (first_among a w x.2 (inl p.0)) (first_among b w x.3 (inr p.1)) q
  first_among (Two _ a b) w x k q = absurd (cc)
  first_among (Three HIf c a b) w x (inl s) q = let r : Three HIf c a b ≡ w = cc in subst IsTypedTerm r (s, x)
  first_among (Three HIf c a b) w x (inr l) q = absurd (no_list a x.0.1 (sym (expression_sort a x.0.1) ∙ l.0))
  first_among (Three (HFun f) tys args ty) w x k q = first_among args w x.3 (inr x.0.1) q
  first_among (Three _ a b c) w x k q = absurd (cc)

  pub first_typed : (e w : Tree) → is_atom_head (head_of e) → TypedUnder v types e → first_if e ≡ Some w → IsTypedTerm w
  first_typed (Leaf h) w k x q = absurd (cc)
  first_typed (One h a) w k x q = absurd (cc)
  first_typed (Two (HPred p) a b) w k x q = first_among b w x.3 (inr x.0.0.1) q
  first_typed (Two HEq a b) w k x q = in_two a b w (first_if a) refl (first_among a w x.2 (inl x.0.0.0)) (first_among b w x.3 (inl x.0.0.1)) q
  first_typed (Two _ a b) w k x q = absurd k
  first_typed (Three HIf a b c) w k x q = absurd k
  first_typed (Three (HFun f) a b c) w k x q = absurd k
  first_typed (Three _ a b c) w k x q = absurd (cc)

-- an atom is a formula
pub atom_formula : (v : Vocabulary) (types : List Tree) (e : Tree) → is_atom_head (head_of e) → TypedUnder v types e → sort_of e ≡ Formula
atom_formula v types (Leaf (HPred p)) k x = absurd x.0
atom_formula v types (Leaf HEq) k x = absurd x.0
atom_formula v types (Leaf _) k x = absurd k
atom_formula v types (One (HPred p) a) k x = absurd x.0
atom_formula v types (One HEq a) k x = absurd x.0
atom_formula v types (One _ a) k x = absurd k
atom_formula v types (Two (HPred p) a b) k x = refl
atom_formula v types (Two HEq a b) k x = refl
atom_formula v types (Two _ a b) k x = absurd k
atom_formula v types (Three (HPred p) a b c) k x = absurd x.0
atom_formula v types (Three HEq a b c) k x = absurd x.0
atom_formula v types (Three _ a b c) k x = absurd k

-- an atom stays one
pub atom_stays : (e z : Tree) → is_atom_head (head_of e) → is_atom_head (head_of (replace_first e z))
atom_stays (Leaf h) z k = k
atom_stays (One h a) z k = k
atom_stays (Two (HPred p) a b) z k = tt
atom_stays (Two HEq a b) z k = by (first_if a)
  where
    by : (o : Option Tree) → is_atom_head (head_of (one_changed o HEq a b (replace_first a z) (replace_first b z)))
    by (Some w) = tt
    by None = tt
atom_stays (Two _ a b) z k = absurd k
atom_stays (Three HIf a b c) z k = absurd k
atom_stays (Three (HFun f) a b c) z k = absurd k
atom_stays (Three h a b c) z k = k

-- ---- another term there
-- An open tree that is typed at an environment, under some binders, stays typed under others with a term of the type of its first
-- conditional in the place of that.
module _ (v : Vocabulary) (env types more : List Tree) (further : (u : Tree) → TypedUnder v types u → TypedUnder v more u) (z ty : Tree) (z_typed : TypedUnder v more (inst_many z env)) (z_term : sort_of (inst_many z env) ≡ Term)
    (z_type : type_of (inst_many z env) ≡ Some ty) where
  abbrev at : Tree → Tree
  at e = inst_many e env

  -- what typing sees of a term, of a list of terms or of an atom
  pub record IsLike (e m : Tree) : Type 0 where
    pub typed : TypedUnder v more m
    pub sort : sort_of m ≡ sort_of e
    pub first : first_sort m ≡ first_sort e
    pub type : type_of m ≡ type_of e
    pub types_of : map type_of (members m) ≡ map type_of (members e)

  -- the first conditional, at the environment, is a term of the type
  abbrev pub IsOfType : Option Tree → Type 0
  IsOfType o = IfSome o (λ w. (sort_of (at w) ≡ Term) × (type_of (at w) ≡ Some ty))

  same : (e : Tree) → TypedUnder v types e → IsLike e e
  same e x = record { typed = further e x; sort = refl; first = refl; type = refl; types_of = refl }

  list_like : (s : Sort) (e m : Tree) → IsLike e m → IsList s e → IsList s m
  list_like s e m w l = (w.sort ∙ l.0, by (first_sort m) w.first l.1)
    where
      by : (o : Option Sort) → o ≡ first_sort e → (first_sort e ≡ None) ⊎ (first_sort e ≡ Some s) → (o ≡ None) ⊎ (o ≡ Some s)
      by o q (inl n) = inl (q ∙ n)
      by o q (inr n) = inr (q ∙ n)

  use_like : (e : SymbolTree) (tys args made : Tree) → IsLike args made → IsUse e tys args → IsUse e tys made
  use_like e tys args made w u = record { as_many = u.as_many; fit = w.types_of ∙ u.fit }

  cell_like : (a b m n : Tree) → TypedUnder v types (Two HCell a b) → IsLike a m → IsLike b n → IsLike (Two HCell a b) (Two HCell m n)
  cell_like a b m n x w u = record {
    typed = (((λ q. x.0.0.0 (sym w.sort ∙ q), subst (λ (s : Sort). IsList s n) (sym w.sort) (list_like (sort_of a) b n u x.0.0.1)), tt), tt, w.typed, u.typed);
    sort = refl;
    first = ap Some w.sort;
    type = refl;
    types_of = cc (w.type, u.types_of);
  }

  equation_like : (a b m n : Tree) → TypedUnder v types (Two HEq a b) → IsLike a m → IsLike b n → IsLike (Two HEq a b) (Two HEq m n)
  equation_like a b m n x w u = record {
    typed = (((w.sort ∙ x.0.0.0, u.sort ∙ x.0.0.1), tt), w.type ∙ x.1 ∙ sym u.type, w.typed, u.typed);
    sort = refl;
    first = refl;
    type = refl;
    types_of = refl;
  }

  cell_placed : (o : Option Tree) (a b : Tree) → first_if a ≡ o → TypedUnder v types (Two HCell (at a) (at b)) → IsOfType (earlier o (first_if b)) → (IsOfType (first_if a) → IsLike (at a) (at (replace_first a z)))
      → (IsOfType (first_if b) → IsLike (at b) (at (replace_first b z))) → IsLike (Two HCell (at a) (at b)) (at (one_changed o HCell a b (replace_first a z) (replace_first b z)))
  cell_placed (Some e) a b m x q left right = cell_like (at a) (at b) (at (replace_first a z)) (at b) x (left (subst IsOfType (sym m) q)) (same (at b) x.3)
  cell_placed None a b m x q left right = cell_like (at a) (at b) (at a) (at (replace_first b z)) x (same (at a) x.2) (right q)

  equation_placed : (o : Option Tree) (a b : Tree) → first_if a ≡ o → TypedUnder v types (Two HEq (at a) (at b)) → IsOfType (earlier o (first_if b)) → (IsOfType (first_if a) → IsLike (at a) (at (replace_first a z)))
      → (IsOfType (first_if b) → IsLike (at b) (at (replace_first b z))) → IsLike (Two HEq (at a) (at b)) (at (one_changed o HEq a b (replace_first a z) (replace_first b z)))
  equation_placed (Some e) a b m x q left right = equation_like (at a) (at b) (at (replace_first a z)) (at b) x (left (subst IsOfType (sym m) q)) (same (at b) x.3)
  equation_placed None a b m x q left right = equation_like (at a) (at b) (at a) (at (replace_first b z)) x (same (at a) x.2) (right q)

  pub placed_like : (e : Tree) → TypedUnder v types (at e) → IsOfType (first_if e) → IsLike (at e) (at (replace_first e z))
  placed_like (Leaf h) x q = same (at (Leaf h)) x
  placed_like (One h a) x q = same (at (One h a)) x
  placed_like (Two (HPred p) tys args) x q =
      let w = placed_like args x.3 q in record {
        typed = (((x.0.0.0, list_like Term (at args) (at (replace_first args z)) w x.0.0.1), tt), (x.1.0, some_kept (entry v p) _ _ (λ e r u. (u.0, use_like e (at tys) (at args) (at (replace_first args z)) w u.1)) x.1.1), further (at tys) x.2, w.typed);
        sort = refl;
        first = refl;
        type = refl;
        types_of = refl;
      }
  placed_like (Two HEq a b) x q = equation_placed (first_if a) a b refl x q (placed_like a x.2) (placed_like b x.3)
  placed_like (Two HCell a b) x q = cell_placed (first_if a) a b refl x q (placed_like a x.2) (placed_like b x.3)
  placed_like (Two h a b) x q = same (at (Two h a b)) x
  placed_like (Three HIf c a b) x q =
      let k : IsExpression (sort_of (at z)) = inl z_term in record {
        typed = z_typed;
        sort = z_term ∙ sym q.0;
        first = expression_first (at z) k;
        type = z_type ∙ sym q.1;
        types_of = ap (map type_of) (expression_members (at z) k);
      }
  placed_like (Three (HFun f) tys args r) x q =
      let w = placed_like args x.3 q in record {
        typed = (
          (x.0.0, list_like Term (at args) (at (replace_first args z)) w x.0.1, x.0.2),
          (x.1.0, some_kept (entry v f) _ _ (λ e s u. (u.0, use_like e (at tys) (at args) (at (replace_first args z)) w u.1, u.2)) x.1.1),
          further (at tys) x.2,
          w.typed,
          further (at r) x.4,
        );
        sort = refl;
        first = refl;
        type = refl;
        types_of = refl;
      }
  placed_like (Three h a b c) x q = same (at (Three h a b c)) x

-- the tree itself, with another open term there
pub replaced_typed : (v : Vocabulary) (types : List Tree) (e w z ty : Tree) → TypedUnder v types e → first_if e ≡ Some w → sort_of w ≡ Term → type_of w ≡ Some ty → TypedUnder v types z → sort_of z ≡ Term → type_of z ≡ Some ty → TypedUnder v types (replace_first e z)
replaced_typed v types e w z ty x q s t xz sz tz =
    subst (TypedUnder v types) (sym (at_none (replace_first e z)))
    (placed_like v [] types types (λ u h. h) z ty (subst (TypedUnder v types) (at_none z) xz) (ap sort_of (sym (at_none z)) ∙ sz) (ap type_of (sym (at_none z)) ∙ tz) e (subst (TypedUnder v types) (at_none e) x) first_of_type).typed
  where
    at_none : (u : Tree) → u ≡ inst_many u []
    at_none u = for_all_opens [] [] u tt tt refl

    first_of_type : IfSome (first_if e) (λ u. (sort_of (inst_many u []) ≡ Term) × (type_of (inst_many u []) ≡ Some ty))
    first_of_type = subst (λ (o : Option Tree). IfSome o (λ u. (sort_of (inst_many u []) ≡ Term) × (type_of (inst_many u []) ≡ Some ty))) (sym q) (ap sort_of (sym (at_none w)) ∙ s, ap type_of (sym (at_none w)) ∙ t)
