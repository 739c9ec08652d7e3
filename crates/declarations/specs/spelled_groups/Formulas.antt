-- Formulas and terms over a vocabulary under binders, put together.
use Rattle.std.specs.Prelude.{◌≡◌, ℕ, ◌+◌, ◌<◌, ◌≤◌, zero, suc, List, [], ◌∷◌, ◌++◌, map, length, get_or, slice_get, All, Option, Some, refl}
use Rattle.std.proofs.Common.{inl, inr, sym, subst, ap, ◌∙◌, arith}
use Rattle.trees.specs.declared.Op.{Op}
use Rattle.trees.specs.declared.Sort.{Sort}
use Rattle.trees.specs.declared.Sort.TheVariants.{Kind, Term, Formula}
use Rattle.trees.specs.Tree.{Tree, Leaf, One, Two, Three, Head, HTyVar, HTyApp, HEnd, HBound, HParam, HEq, HTrue, HFalse, HJoin, HForall, HExists, binders_over}
use Rattle.trees.specs.Sorts.{sort_of, type_of, IsList}
use Rattle.trees.specs.Binding.{typing, inst_types, change, TyVar, one_by, leaf_by}
use Rattle.trees.proofs.Types.{OnlyTypes, only_types}
use Rattle.tasks.specs.Task.{SymbolTree}
use Rattle.tasks.specs.Vocabulary.{Vocabulary}
use Rattle.tasks.specs.Typing.{members, TypedUnder, IsUse}
use Rattle.tasks.specs.Equations.{cells, type_variables, bound_variables, for_all}
use Rattle.tasks.specs.Valid.{VariablesBelow, ParametersOf, OneOf, IsFormulaOver, IsTypeIn}
use Rattle.tasks.proofs.Closing.{typed_sorted}
use Rattle.tasks.proofs.TypeInstances.{typed_further}

-- ---- a symbol's own type variables
pub members_cells : (ts : List Tree) → members (cells ts) ≡ ts
members_cells [] = refl
members_cells (t ∷ ts) = ap (λ (z : List Tree). t ∷ z) (members_cells ts)

pub count_variables : (from n : ℕ) → length (type_variables from n) ≡ n
count_variables from zero = refl
count_variables from (suc n) = omega (arith, count_variables (from + 1) n)

own_at : (from n j : ℕ) → get_or (type_variables from n) j (TyVar (from + j)) ≡ TyVar (from + j)
own_at from zero j = refl
own_at from (suc n) zero = let e : from + 0 ≡ from = omega arith in ap TyVar (sym e)
own_at from (suc n) (suc j) = let e : from + 1 + j ≡ from + suc j =
    omega arith in
    subst (λ (k : ℕ). get_or (type_variables (from + 1) n) j (TyVar k) ≡ TyVar k) e
    (own_at (from + 1) n j)

module _ (tys : List Tree) (h : (j : ℕ) → get_or tys j (TyVar j) ≡ TyVar j) where
  leaf_same : (g : Head) → leaf_by (typing tys) g ≡ Leaf g
  leaf_same (HTyVar j) = h j
  leaf_same _ = refl

  one_same : (d : ℕ) (g : Head) (a : Tree) → one_by (typing tys) d g a ≡ One g a
  one_same d (HBound i) a = refl
  one_same d (HParam i) a = refl
  one_same d _ a = refl

  all_same : (d : ℕ) (e : Tree) → change (typing tys) d e ≡ e
  all_same d (Leaf g) = leaf_same g
  all_same d (One g a) = one_same d g (change (typing tys) d a) ∙ ap (One g) (all_same d a)
  all_same d (Two g a b) = ap (λ (z : Tree). Two g z (change (typing tys) (d + binders_over g a) b))
      (all_same d a) ∙ ap (Two g a) (all_same (d + binders_over g a) b)
  all_same d (Three g a b c) =
      ap (λ (z : Tree). Three g z (change (typing tys) d b) (change (typing tys) d c))
      (all_same d a) ∙ ap (λ (z : Tree). Three g a z (change (typing tys) d c)) (all_same d b)
      ∙ ap (Three g a b) (all_same d c)

-- they leave a tree as it is
pub own_variables_stay : (e : Tree) (n : ℕ) → inst_types e (type_variables 0 n) ≡ e
own_variables_stay e n = all_same (type_variables 0 n)
    (λ j. let k : 0 + j ≡ j =
    omega arith in
    subst (λ (i : ℕ). get_or (type_variables 0 n) j (TyVar i) ≡ TyVar i) k (own_at 0 n j)) 0 e

-- ---- a type has no parameters
no_parameter : (types : List Tree) (h : Head) (a : Tree) (n : ℕ) → h ≡ HTyApp n → OneOf types h a
no_parameter types (HParam m) a n q = absurd (cc)
no_parameter types _ a n q = tt

only_parameters : (types : List Tree) (e : Tree) → OnlyTypes e → ParametersOf types e
only_parameters types (Leaf h) o = tt
only_parameters types (One h a) o =
    (no_parameter types h a o.0.0 o.0.1, only_parameters types a o.1)
only_parameters types (Two h a b) o = (only_parameters types a o.1, only_parameters types b o.2)
only_parameters types (Three h a b c) o = absurd o

-- ---- a term or formula of this sort under binders of these types, with no parameters and the type
-- variables below this number
pub record IsGoodUnder (v : Vocabulary) (vars : ℕ) (bs : List Tree) (s : Sort)
    (e : Tree) : Type 0 where
  pub sort : sort_of e ≡ s
  pub typed : TypedUnder v bs e
  pub parameters : ParametersOf [] e
  pub variables : VariablesBelow vars e

-- the types that binders give, the last one innermost, inside others
abbrev pub under : List Tree → List Tree → List Tree
under [] bs = bs
under (ty ∷ types) bs = under types (ty ∷ bs)

pub under_at : (types bs : List Tree) (i : ℕ)
    → slice_get (under types bs) (length types + i) ≡ slice_get bs i
under_at [] bs i = let e : 0 + i ≡ i = omega arith in ap (slice_get bs) e
under_at (ty ∷ types) bs i = let e : length (ty ∷ types) + i ≡ length types + suc i =
    omega arith in
    ap (slice_get (under types (ty ∷ bs))) e ∙ under_at types (ty ∷ bs) (suc i)

module _ (v : Vocabulary) (vars : ℕ) where
  pub formula_good : (e : Tree) → IsFormulaOver v [] vars e → IsGoodUnder v vars [] Formula e
  formula_good e f =
      record { sort = f.sort; typed = f.typed; parameters = f.parameters; variables = f.variables }

  pub good_formula : (e : Tree) → IsGoodUnder v vars [] Formula e → IsFormulaOver v [] vars e
  good_formula e f =
      record { sort = f.sort; typed = f.typed; parameters = f.parameters; variables = f.variables }

  pub good_further : (bs more : List Tree) (s : Sort) (e : Tree) → IsGoodUnder v vars bs s e
      → IsGoodUnder v vars (bs ++ more) s e
  good_further bs more s e g =
      record {
        sort = g.sort;
        typed = typed_further v bs more e g.typed;
        parameters =
            g.parameters;
        variables = g.variables;
      }

  -- a type is one under any binders
  kind_under : (bs : List Tree) (ty : Tree) → IsTypeIn v vars ty → TypedUnder v bs ty
  kind_under bs ty k = typed_further v [] bs ty k.typed

  kind_parameters : (ty : Tree) → IsTypeIn v vars ty → ParametersOf [] ty
  kind_parameters ty k =
      only_parameters [] ty (only_types ty (typed_sorted v [] ty k.typed) (inl k.sort))

  pub true_good : (bs : List Tree) → IsGoodUnder v vars bs Formula (Leaf HTrue)
  true_good bs = record { sort = refl; typed = (tt, tt); parameters = tt; variables = tt }

  pub false_good : (bs : List Tree) → IsGoodUnder v vars bs Formula (Leaf HFalse)
  false_good bs = record { sort = refl; typed = (tt, tt); parameters = tt; variables = tt }

  pub join_good : (bs : List Tree) (op : Op) (a b : Tree) → IsGoodUnder v vars bs Formula a
      → IsGoodUnder v vars bs Formula b → IsGoodUnder v vars bs Formula (Two (HJoin op) a b)
  join_good bs op a b f g = record {
    sort = refl;
    typed = (((f.sort, g.sort), tt), tt, f.typed, g.typed);
    parameters = (f.parameters, g.parameters);
    variables = (f.variables, g.variables);
  }

  pub forall_good : (bs : List Tree) (ty e : Tree) → IsTypeIn v vars ty
      → IsGoodUnder v vars (ty ∷ bs) Formula e → IsGoodUnder v vars bs Formula (Two HForall ty e)
  forall_good bs ty e k g = record {
    sort = refl;
    typed = (((k.sort, g.sort), tt), tt, kind_under bs ty k, g.typed);
    parameters = (kind_parameters ty k, g.parameters);
    variables = (k.variables, g.variables);
  }

  pub exists_good : (bs : List Tree) (ty e : Tree) → IsGoodUnder v vars bs Kind ty
      → IsGoodUnder v vars (ty ∷ bs) Formula e → IsGoodUnder v vars bs Formula (Two HExists ty e)
  exists_good bs ty e k g = record {
    sort = refl;
    typed = (((k.sort, g.sort), tt), tt, k.typed, g.typed);
    parameters = (k.parameters, g.parameters);
    variables = (k.variables, g.variables);
  }

  pub equal_good : (bs : List Tree) (a b : Tree) → IsGoodUnder v vars bs Term a
      → IsGoodUnder v vars bs Term b → type_of a ≡ type_of b
      → IsGoodUnder v vars bs Formula (Two HEq a b)
  equal_good bs a b f g e = record {
    sort = refl;
    typed = (((f.sort, g.sort), tt), e, f.typed, g.typed);
    parameters = (f.parameters, g.parameters);
    variables = (f.variables, g.variables);
  }

  pub variable_good : (bs : List Tree) (i : ℕ) (ty : Tree) → IsTypeIn v vars ty
      → i < 18446744073709551615 → slice_get bs i ≡ Some ty
      → IsGoodUnder v vars bs Term (One (HBound i) ty)
  variable_good bs i ty k l q = record {
    sort = refl;
    typed = ((k.sort, l), q, kind_under bs ty k);
    parameters = (tt, kind_parameters ty k);
    variables = k.variables;
  }

  pub for_all_good : (types bs : List Tree) (e : Tree) → All (IsTypeIn v vars) types
      → IsGoodUnder v vars (under types bs) Formula e
      → IsGoodUnder v vars bs Formula (for_all types e)
  for_all_good [] bs e k g = g
  for_all_good (ty ∷ types) bs e k g =
      forall_good bs ty (for_all types e) (k 0 ty (omega arith))
      (for_all_good types (ty ∷ bs) e (λ j d l. k (suc j) d (omega arith)) g)

  -- a list of terms
  pub record AreGood (bs : List Tree) (s : Sort) (es : Tree) : Type 0 where
    pub list : IsList s es
    pub typed : TypedUnder v bs es
    pub parameters : ParametersOf [] es
    pub variables : VariablesBelow vars es

  end_good : (bs : List Tree) (s : Sort) → AreGood bs s (Leaf HEnd)
  end_good bs s =
      record { list = (refl, inl refl); typed = (tt, tt); parameters = tt; variables = tt }

  -- the variables that quantifiers over these types bind
  pub variables_good : (types bs : List Tree) → All (IsTypeIn v vars) types
      → length types < 18446744073709551616
      → AreGood (under types bs) Term (cells (bound_variables types))
  variables_good [] bs k l = end_good bs Term
  variables_good (ty ∷ types) bs k l =
      let at : slice_get (under types (ty ∷ bs)) (length types) ≡ Some ty =
      let e : length types ≡ length types + 0 =
      omega arith in ap (slice_get (under types (ty ∷ bs))) e ∙ under_at types (ty ∷ bs) 0 in
      let first = variable_good (under types (ty ∷ bs)) (length types) ty (k 0 ty (omega arith))
      (omega arith) at in
      let rest = variables_good types (ty ∷ bs) (λ j d m. k (suc j) d (omega arith))
      (omega arith) in
      record {
        list = (refl, inr refl);
        typed = ((((λ q. absurd (cc)), rest.list), tt), tt, first.typed, rest.typed);
        parameters = (first.parameters, rest.parameters);
        variables = (first.variables, rest.variables);
      }

  -- type variables from a number on
  pub own_good : (bs : List Tree) (from n : ℕ) → from + n ≤ vars
      → AreGood bs Kind (cells (type_variables from n))
  own_good bs from zero l = end_good bs Kind
  own_good bs from (suc n) l =
      let rest = own_good bs (from + 1) n (omega arith) in
      record {
        list = (refl, inr refl);
        typed = ((((λ q. absurd (cc)), rest.list), tt), tt, (tt, tt), rest.typed);
        parameters = (tt, rest.parameters);
        variables = (omega arith, rest.variables);
      }

  variable_types : (types : List Tree)
      → map type_of (members (cells (bound_variables types))) ≡ map (λ a. Some a) types
  variable_types [] = refl
  variable_types (ty ∷ types) = ap (λ (z : List (Option Tree)). Some ty ∷ z) (variable_types types)

  pub own_fit : (n : ℕ) (types : List Tree)
      → map (λ a. Some a) types
      ≡ map (λ a. Some (inst_types a (members (cells (type_variables 0 n))))) types
  own_fit n [] = refl
  own_fit n (ty ∷ types) =
      let e : inst_types ty (members (cells (type_variables 0 n))) ≡ ty =
      ap (inst_types ty) (members_cells (type_variables 0 n)) ∙ own_variables_stay ty n in
      ap (λ (z : Tree). Some z ∷ map (λ a. Some a) types) (sym e)
      ∙ ap (λ (z : List (Option Tree)).
      Some (inst_types ty (members (cells (type_variables 0 n)))) ∷ z) (own_fit n types)

  -- a symbol at its own type variables, on the variables that quantifiers over the types of its
  -- arguments bind
  pub own_use : (e : SymbolTree)
      → IsUse e (cells (type_variables 0 e.vars)) (cells (bound_variables e.args))
  own_use e = record {
    as_many = ap length (members_cells (type_variables 0 e.vars)) ∙ count_variables 0 e.vars;
    fit = variable_types e.args ∙ own_fit e.vars e.args;
  }
