-- Type variables below a number: of instances, of types that forms stand for, of variables and of patterns.
use Rattle.std.proofs.Common.{◌≡◌, ℕ, ◌+◌, ◌<◌, ◌≤◌, Bool, true, false, not, cond, List, [], ◌∷◌, ◌++◌, map, reverse, length, get_or, zero, suc, Option, Some, None, IfSome, option_map, refl, ap, arith, ◌==◌}
use Rattle.std.specs.Str.{bytes_eq}
use Rattle.std.specs.List.{AllByRecursion}
use Rattle.std.proofs.lemmas.List.Elements.{recursion_from_All, All-nil}
use mathlib.Core.List.{reverse-cons}
use Rattle.std.proofs.lemmas.Bool.{eqb-true}
use Rattle.trees.specs.Tree.{Tree, Leaf, One, Two, Three, Head, HTyVar, HBound, HParam, binders_over}
use Rattle.trees.specs.Binding.{change, leaf_by, one_by, typing, TyVar}
use Rattle.trees.specs.Facts.{TyVarsBelow, leaf_below}
use Rattle.tasks.specs.Task.{SymbolTree, symbol_or, int_symbol}
use Rattle.tasks.specs.Equations.{cells, type_variables}
use Rattle.surface.specs.Lexeme.{Word}
use Rattle.name_resolution.specs.Abstract.{TypeExpression, TypeExpressions, variable_type, composed_type, product_type, no_types, more_types, BoundNames, count_forms}
use Rattle.name_resolution.specs.declared.NamingFault.TheVariants.{Arity}
use Rattle.name_resolution.specs.Faults.{meaning_fault, form_fault, forms_fault, type_fault, binders_fault}
use Rattle.name_resolution.specs.Where.{Where, MeaningTree, place_of}
use Rattle.scopes.specs.declared.Referent.TheVariants as stands
use Rattle.open_types.specs.Patterns.{LocalTree, at_unknowns, result_or_int, first_or_int, rest_of, entry_of, reordering}
use Rattle.open_types.specs.Pieces.{type_at, types_at, applied_meaning, variable_at, Use, Local', Symbol', variable_named, found_local, use_of_name, use_or, use_vars, parameters, symbol_at_types, untyped, locals_of_type, binder_locals, binder_vars, binders_vars, bound, quantify}
use Rattle.open_types.specs.Scoped.{IsScoped, IsScopedEntry, IsScopedMeaning}
use Rattle.open_types.proofs.Walking.{none_both, not_if, not_not}

leaf_more : (h : Head) (m n : ℕ) → m ≤ n → leaf_below h m → leaf_below h n
leaf_more (HTyVar j) m n l b = omega arith
leaf_more _ m n l b = tt

pub below_more : (e : Tree) (m n : ℕ) → m ≤ n → TyVarsBelow m e → TyVarsBelow n e
below_more (Leaf h) m n l b = leaf_more h m n l b
below_more (One h a) m n l b = below_more a m n l b
below_more (Two h a b) m n l w = (below_more a m n l w.0, below_more b m n l w.1)
below_more (Three h a b c) m n l w = (below_more a m n l w.0, below_more b m n l w.1, below_more c m n l w.2)

abbrev pub AreBelow : ℕ → List Tree → Type 0
AreBelow n ts = AllByRecursion (TyVarsBelow n) ts

abbrev pub LocalsBelow : ℕ → List LocalTree → Type 0
LocalsBelow n ls = AllByRecursion (λ (l : LocalTree). TyVarsBelow n l.type) ls

pub locals_more : (ls : List LocalTree) (m n : ℕ) → m ≤ n → LocalsBelow m ls → LocalsBelow n ls
locals_more [] m n l h = tt
locals_more (x ∷ xs) m n l h = (below_more x.type m n l h.0, locals_more xs m n l h.1)

pub wanted_more : (t : Option Tree) (m n : ℕ) → m ≤ n → IfSome t (TyVarsBelow m) → IfSome t (TyVarsBelow n)
wanted_more None m n l h = tt
wanted_more (Some t) m n l h = below_more t m n l h

pub list_more : (ts : List Tree) (m n : ℕ) → m ≤ n → AreBelow m ts → AreBelow n ts
list_more [] m n l h = tt
list_more (t ∷ ts) m n l h = (below_more t m n l h.0, list_more ts m n l h.1)

pub each : {A : Type 0} (P : A → Type 0) (xs : List A) → AllByRecursion P xs → (k : ℕ) (d : A) → P d → P (get_or xs k d)
each P [] h k d p = p
each P (x ∷ xs) h zero d p = h.0
each P (x ∷ xs) h (suc k) d p = each P xs h.1 k d p

pub both_all : {A : Type 0} (P : A → Type 0) (xs ys : List A) → AllByRecursion P xs → AllByRecursion P ys → AllByRecursion P (xs ++ ys)
both_all P [] ys h k = k
both_all P (x ∷ xs) ys h k = (h.0, both_all P xs ys h.1 k)

pub reversed : (m : ℕ) (ls : List LocalTree) → LocalsBelow m ls → LocalsBelow m (reverse ls)
reversed m [] h = h
reversed m (l ∷ ls) h = rw (reverse-cons l ls) (both_all (λ (x : LocalTree). TyVarsBelow m x.type) (reverse ls) (l ∷ []) (reversed m ls h.1) (h.0, tt))

-- ---- a tree at types
module _ (m n : ℕ) (tys : List Tree) (g : (j : ℕ) → j < m → TyVarsBelow n (get_or tys j (TyVar j))) where
  leaf_inst : (h : Head) → leaf_below h m → TyVarsBelow n (leaf_by (typing tys) h)
  leaf_inst (HTyVar j) b = g j b
  leaf_inst _ b = tt

  one_inst : (d : ℕ) (h : Head) (a : Tree) → TyVarsBelow n a → TyVarsBelow n (one_by (typing tys) d h a)
  one_inst d (HBound i) a b = b
  one_inst d (HParam i) a b = b
  one_inst d _ a b = b

  inst_below : (d : ℕ) (e : Tree) → TyVarsBelow m e → TyVarsBelow n (change (typing tys) d e)
  inst_below d (Leaf h) b = leaf_inst h b
  inst_below d (One h a) b = one_inst d h (change (typing tys) d a) (inst_below d a b)
  inst_below d (Two h a b) w = (inst_below d a w.0, inst_below (d + binders_over h a) b w.1)
  inst_below d (Three h a b c) w = (inst_below d a w.0, inst_below d b w.1, inst_below d c w.2)

-- variables in another order
module _ (n : ℕ) (places : List ℕ) where
  leaf_reordered : (h : Head) → leaf_below h n → TyVarsBelow n (leaf_by (reordering places) h)
  leaf_reordered (HTyVar j) b = b
  leaf_reordered _ b = tt

  one_reordered : (d : ℕ) (h : Head) (a : Tree) → TyVarsBelow n a → TyVarsBelow n (one_by (reordering places) d h a)
  one_reordered d (HBound i) a b = b
  one_reordered d (HParam i) a b = b
  one_reordered d _ a b = b

  pub reordered_below : (d : ℕ) (e : Tree) → TyVarsBelow n e → TyVarsBelow n (change (reordering places) d e)
  reordered_below d (Leaf h) b = leaf_reordered h b
  reordered_below d (One h a) b = one_reordered d h (change (reordering places) d a) (reordered_below d a b)
  reordered_below d (Two h a b) w = (reordered_below d a w.0, reordered_below (d + binders_over h a) b w.1)
  reordered_below d (Three h a b c) w = (reordered_below d a w.0, reordered_below d b w.1, reordered_below d c w.2)

variables_below : (n k m : ℕ) → n + k ≤ m → (j : ℕ) (d : Tree) → j < k → TyVarsBelow m (get_or (type_variables n k) j d)
variables_below n zero m l j d b = absurd (omega arith)
variables_below n (suc k) m l zero d b = omega arith
variables_below n (suc k) m l (suc j) d b = variables_below (n + 1) k m (omega arith) j d (omega arith)

pub variables_all : (n k m : ℕ) → n + k ≤ m → AreBelow m (type_variables n k)
variables_all n zero m l = tt
variables_all n (suc k) m l = (omega arith, variables_all (n + 1) k m (omega arith))

pub cells_below : (n : ℕ) (ts : List Tree) → AreBelow n ts → TyVarsBelow n (cells ts)
cells_below n [] h = tt
cells_below n (t ∷ ts) h = (h.0, cells_below n ts h.1)

at_below : (n : ℕ) (e : SymbolTree) (t : Tree) → TyVarsBelow e.vars t → TyVarsBelow (n + e.vars) (at_unknowns n e t)
at_below n e t h = inst_below e.vars (n + e.vars) (type_variables n e.vars) (λ j l. variables_below n e.vars (n + e.vars) (omega arith) j (TyVar j) l) 0 t h

parameters_below : (n : ℕ) (e : SymbolTree) (ts : List Tree) → AreBelow e.vars ts → AreBelow (n + e.vars) (map (at_unknowns n e) ts)
parameters_below n e [] h = tt
parameters_below n e (t ∷ ts) h = (at_below n e t h.0, parameters_below n e ts h.1)

pub first_below : (n : ℕ) (ts : List Tree) → AreBelow n ts → TyVarsBelow n (first_or_int ts)
first_below n [] h = tt
first_below n (t ∷ ts) h = h.0

pub rest_below : (n : ℕ) (ts : List Tree) → AreBelow n ts → AreBelow n (rest_of ts)
rest_below n [] h = tt
rest_below n (t ∷ ts) h = h.1

variable_found : (c : Word) (n : ℕ) (ls : List LocalTree) → LocalsBelow n ls → IfSome (variable_named c ls) (λ (p : ℕ × Tree). TyVarsBelow n p.1)
variable_found c n [] h = tt
variable_found c n (l ∷ ls) h = of (bytes_eq l.name c) (variable_named c ls) (variable_found c n ls h.1)
  where
    of : (b : Bool) (x : Option (ℕ × Tree)) → IfSome x (λ (p : ℕ × Tree). TyVarsBelow n p.1) → IfSome (cond b (Some (0, l.type)) (option_map (λ (p : ℕ × Tree). (suc p.0, p.1)) x)) (λ (p : ℕ × Tree). TyVarsBelow n p.1)
    of true x k = h.0
    of false None k = tt
    of false (Some p) k = k

found_below : (qs : List Word) (c : Word) (n : ℕ) (ls : List LocalTree) → LocalsBelow n ls → IfSome (found_local qs c ls) (λ (p : ℕ × Tree). TyVarsBelow n p.1)
found_below [] c n ls h = variable_found c n ls h
found_below (q ∷ qs) c n ls h = tt

place_below : (v : Word) (vs : List Word) → IfSome (place_of v vs) (λ (j : ℕ). j < length vs)
place_below v [] = tt
place_below v (u ∷ us) = of (bytes_eq u v) (place_of v us) (place_below v us)
  where
    of : (b : Bool) (x : Option ℕ) → IfSome x (λ (j : ℕ). j < length us) → IfSome (cond b (Some 0) (option_map suc x)) (λ (j : ℕ). j < length (u ∷ us))
    of true x k = omega arith
    of false None k = tt
    of false (Some j) k = omega (arith, k)

-- with what a name stands for
abbrev pub UseBelow : ℕ → Use → Type 0
UseBelow n (Local' i ty) = TyVarsBelow n ty
UseBelow n (Symbol' e) = IsScopedEntry e.symbol

pub parameters_of : (n : ℕ) (u : Use) → UseBelow n u → AreBelow (n + use_vars u) (parameters n u)
parameters_of n (Local' i ty) h = tt
parameters_of n (Symbol' e) h = parameters_below n e.symbol e.symbol.args (recursion_from_All (TyVarsBelow e.symbol.vars) e.symbol.args h.args)

pub typed_use : (m k : ℕ) (ts : List Tree) (t : Option Tree) (a : Tree) → AreBelow m ts → IfSome t (TyVarsBelow m) → TyVarsBelow m a → TyVarsBelow m (symbol_at_types k ts t a)
typed_use m k ts None a h o b = (cells_below m ts h, b)
typed_use m k ts (Some x) a h o b = (cells_below m ts h, b, o)

pub quantified_below : (m : ℕ) (all : Bool) (ls : List LocalTree) (e : Tree) → LocalsBelow m ls → TyVarsBelow m e → TyVarsBelow m (quantify all ls e)
quantified_below m all [] e h k = k
quantified_below m true (l ∷ ls) e h k = (h.0, quantified_below m true ls e h.1 k)
quantified_below m false (l ∷ ls) e h k = (h.0, quantified_below m false ls e h.1 k)

module _ (w : Where) (sc : IsScoped w) where
  entry_scoped : (k : ℕ) → IsScopedEntry (symbol_or w.symbols k)
  entry_scoped k = each IsScopedEntry w.symbols (recursion_from_All IsScopedEntry w.symbols sc.symbols) k int_symbol (record { args = All-nil (TyVarsBelow 0); result = tt })

  pub symbol_scoped : (m : Option ℕ) → IsScopedEntry (entry_of w.symbols m).symbol
  symbol_scoped None = entry_scoped 0
  symbol_scoped (Some k) = entry_scoped k

  pub use_below : (n : ℕ) (ls : List LocalTree) (qs : List Word) (c : Word) → LocalsBelow n ls → UseBelow n (use_of_name w ls qs c)
  use_below n ls qs c h = of (found_local qs c ls) (found_below qs c n ls h)
    where
      of : (x : Option (ℕ × Tree)) → IfSome x (λ (p : ℕ × Tree). TyVarsBelow n p.1) → UseBelow n (use_or x (Symbol' (entry_of w.symbols (w.names qs c))))
      of None k = symbol_scoped (w.names qs c)
      of (Some p) k = k

  variable_below : (x : Option ℕ) → IfSome x (λ (j : ℕ). j < length w.vars) → TyVarsBelow (length w.vars) (variable_at x)
  variable_below None h = tt
  variable_below (Some j) h = h

  count_types : (fs : TypeExpressions) → length (types_at w fs) ≡ count_forms fs
  count_types no_types = refl
  count_types (more_types f fs) = ap suc (count_types fs)

  found_at : (xs : List Tree) → AreBelow (length w.vars) xs → (j : ℕ) (d : Tree) → j < length xs → TyVarsBelow (length w.vars) (get_or xs j d)
  found_at [] h j d b = absurd (omega arith)
  found_at (x ∷ xs) h zero d b = h.0
  found_at (x ∷ xs) h (suc j) d b = found_at xs h.1 j d (omega arith)

  applied_below : (m : Option MeaningTree) (i n : ℕ) (ts : List Tree) → meaning_fault w i n m ≡ None → length ts ≡ n → IfSome m IsScopedMeaning → AreBelow (length w.vars) ts → TyVarsBelow (length w.vars) (applied_meaning m ts)
  applied_below None i n ts f l s h = tt
  applied_below (Some (stands.Entry k)) i n ts f l s h = cells_below (length w.vars) ts h
  applied_below (Some (stands.Alias vars t)) i n ts f l s h =
      let q : vars ≡ n = eqb-true vars n (not_not (vars == n) (not_if (not (vars == n)) (Arity i) f)) in
      inst_below vars (length w.vars) ts (λ j b. found_at ts h j (TyVar j) (omega (arith, q, l, b))) 0 t s

  result_below : (e : SymbolTree) → IsScopedEntry e → TyVarsBelow e.vars (result_or_int e.result)
  result_below e h = of e.result h.result
    where
      of : (r : Option Tree) → IfSome r (TyVarsBelow e.vars) → TyVarsBelow e.vars (result_or_int r)
      of None k = tt
      of (Some t) k = k

  mutual
    pub form_below : (f : TypeExpression) → form_fault w false f ≡ None → TyVarsBelow (length w.vars) (type_at w f)
    form_below (variable_type i v) h = variable_below (place_of v w.vars) (place_below v w.vars)
    form_below (composed_type i qs x fs) h =
        let p = none_both (meaning_fault w i (count_forms fs) (w.types qs x)) (forms_fault w false fs) h in
        applied_below (w.types qs x) i (count_forms fs) (types_at w fs) p.0 (count_types fs) (sc.types qs x) (forms_below fs p.1)
    form_below (product_type i fs) h =
        let e = (entry_of w.symbols (w.tuples (count_forms fs))).symbol in
        let l : e.vars ≤ count_forms fs = sc.tuples (count_forms fs) in
        let ts = forms_below fs h in
        inst_below e.vars (length w.vars) (types_at w fs) (λ j b. found_at (types_at w fs) ts j (TyVar j) (omega (arith, l, b, count_types fs))) 0 (result_or_int e.result) (result_below e (symbol_scoped (w.tuples (count_forms fs))))

    pub forms_below : (fs : TypeExpressions) → forms_fault w false fs ≡ None → AreBelow (length w.vars) (types_at w fs)
    forms_below no_types h = tt
    forms_below (more_types f fs) h = let p = none_both (form_fault w false f) (forms_fault w false fs) h in (form_below f p.0, forms_below fs p.1)

  untyped_below : (n m : ℕ) (xs : List Word) → n + length xs ≤ m → LocalsBelow m (untyped n xs)
  untyped_below n m [] l = tt
  untyped_below n m (x ∷ xs) l = (omega arith, untyped_below (suc n) m xs (omega arith))

  typed_below : (m : ℕ) (t : Tree) (xs : List Word) → TyVarsBelow m t → LocalsBelow m (locals_of_type t xs)
  typed_below m t [] h = tt
  typed_below m t (x ∷ xs) h = (h, typed_below m t xs h)

  binder_below : (n m : ℕ) (xs : List Word) (f : Option TypeExpression) → length w.vars ≤ n → n + binder_vars xs f ≤ m → type_fault w false f ≡ None → LocalsBelow m (binder_locals w n xs f)
  binder_below n m xs None o l h = untyped_below n m xs l
  binder_below n m xs (Some f) o l h = typed_below m (type_at w f) xs (below_more (type_at w f) (length w.vars) m (omega arith) (form_below f h))

  pub bound_below : (n m : ℕ) (bs : List BoundNames) → length w.vars ≤ n → n + binders_vars bs ≤ m → binders_fault w false bs ≡ None → LocalsBelow m (bound w n bs)
  bound_below n m [] o l h = tt
  bound_below n m (b ∷ bs) o l h =
      let p = none_both (type_fault w false b.of_type) (binders_fault w false bs) h in
      both_all (λ (x : LocalTree). TyVarsBelow m x.type) (binder_locals w n b.names b.of_type) (bound w (n + binder_vars b.names b.of_type) bs)
      (binder_below n m b.names b.of_type o (omega arith) p.0) (bound_below (n + binder_vars b.names b.of_type) m bs (omega arith) (omega arith) p.1)
