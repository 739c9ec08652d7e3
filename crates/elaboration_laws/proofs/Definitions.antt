-- A symbol that is defined by a body of its type is defined validly: its equation is a closed formula.
use Rattle.std.proofs.Common.{◌≡◌, ℕ, ◌+◌, ◌<◌, zero, suc, true, List, [], ◌∷◌, ◌++◌, map, reverse, length, get_or, slice_get, All, Option, Some, None, IsTrue, refl, sym, ap, subst, ◌∙◌, arith, append_assoc, append-nil}
use Rattle.std.proofs.lemmas.List.{length-reverse}
use mathlib.Core.List.{reverse-cons}
use Rattle.elab_groups.specs.trees.declared.Op.TheVariants.{Iff}
use Rattle.elab_groups.specs.trees.declared.Sort.TheVariants.{Term}
use Rattle.elab_groups.specs.trees.Tree.{Tree, One, Two, Three, HBound, HFun, HPred, HEq, HJoin}
use Rattle.elab_groups.specs.trees.Binding.{inst_types, TyVar}
use Rattle.elab_groups.specs.trees.Facts.{IndicesFit}
use Rattle.elab_groups.specs.tasks.declared.signature.SymbolKind.{SymbolKind}
use Rattle.elab_groups.specs.tasks.declared.signature.SymbolKind.TheVariants.{Function, Predicate}
use Rattle.elab_groups.specs.tasks.declared.signature.SymbolKind.TheVariants as kinds
use Rattle.elab_groups.specs.tasks.Equations.{cells, type_variables, bound_variables, for_all, equated}
use Rattle.elab_groups.specs.tasks.Task.{SymbolTree, symbol_or}
use Rattle.elab_groups.specs.tasks.Vocabulary.{Vocabulary}
use Rattle.elab_groups.specs.tasks.Typing.{entry}
use Rattle.elab_groups.specs.tasks.Valid.{VariablesBelow, IsTypeIn, IsFormulaOver, IsSignatureOf, IsDefinition}
use Rattle.elab_groups.proofs.open_types.unify_types.Assigning.{assign-same, assign-variables}
use Rattle.elaboration_laws.specs.Typed.{IsTypedAs, IsTypedIn}
use Rattle.elaboration_laws.proofs.Over.{AreOver, type_over}
use Rattle.elaboration_laws.proofs.Instances.{variables_over, put, put_assigns}
use Rattle.elaboration_laws.proofs.Forms.{TypedAs, ListTyped, variable_typed, equality_typed, joined_typed, quantifier_typed, end_typed, cell_typed, predicate_typed, function_typed}
use Rattle.theory_states.proofs.goal_tasks.TuplesMade.{variables_count as count_variables}

-- ---- a type at the type variables in order is itself
variable_got : (m k j : ℕ) → get_or (type_variables m k) j (TyVar (m + j)) ≡ TyVar (m + j)
variable_got m zero j = refl
variable_got m (suc k) zero = ap TyVar (let q : m ≡ m + 0 = omega arith in q)
variable_got m (suc k) (suc j) = let q : m + suc j ≡ (m + 1) + j = omega arith in subst (λ (i : ℕ). get_or (type_variables (m + 1) k) j (TyVar i) ≡ TyVar i) (sym q) (variable_got (m + 1) k j)

at_own : (n : ℕ) (t : Tree) → inst_types t (type_variables 0 n) ≡ t
at_own n t =
    put_assigns (type_variables 0 n) 0 t ∙ assign-same 0 (put (type_variables 0 n)) TyVar (λ j l. let q : 0 + j ≡ j = omega arith in subst (λ (i : ℕ). get_or (type_variables 0 n) j (TyVar i) ≡ TyVar i) q (variable_got 0 n j)) t ∙ assign-variables 0 t

all_own : (n : ℕ) (ts : List Tree) → map (λ t. inst_types t (type_variables 0 n)) ts ≡ ts
all_own n [] = refl
all_own n (t ∷ ts) = cc (at_own n t, all_own n ts)

-- ---- variables and quantifiers
middle : (xs : List Tree) (t : Tree) (ys : List Tree) (i : ℕ) → i ≡ length xs → slice_get (xs ++ t ∷ ys) i ≡ Some t
middle [] t ys i q = rw q refl
middle (x ∷ xs) t ys zero q = absurd (omega (arith, q))
middle (x ∷ xs) t ys (suc i) q = middle xs t ys i (omega (arith, q))

module _ (v : Vocabulary) where
  all_over : (n : ℕ) (ts : List Tree) → All (IsTypeIn v n) ts → AreOver v ts
  all_over n [] a = tt
  all_over n (t ∷ ts) a = (type_over v n t (a 0 t (omega arith)), all_over n ts (λ k d l. a (suc k) d (omega arith)))

  -- the parameters in order, under themselves
  bound_typed : (ts more : List Tree) → AreOver v ts → IndicesFit (cells (bound_variables ts)) → ListTyped v Term (reverse ts ++ more) ts (cells (bound_variables ts))
  bound_typed [] more o i = end_typed v more Term
  bound_typed (t ∷ ts) more o i =
      let types = reverse ts ++ t ∷ more in
      let split : types ≡ reverse (t ∷ ts) ++ more = sym (append_assoc (reverse ts) (t ∷ []) more) ∙ ap (λ (xs : List Tree). xs ++ more) (sym (reverse-cons t ts)) in
      let here : slice_get types (length ts) ≡ Some t = middle (reverse ts) t more (length ts) (sym (length-reverse ts)) in
      let x = variable_typed v types (length ts) t i.0.0 here o.0 in
      let rest = bound_typed ts (t ∷ more) o.1 i.1 in
      subst (λ (xs : List Tree). ListTyped v Term xs (t ∷ ts) (cells (bound_variables (t ∷ ts)))) split
      (cell_typed v types Term t ts (One (HBound (length ts)) t) (cells (bound_variables ts)) (λ q. cc) x.0 x.1.0 x.1.1 rest)

  for_all_typed : (ts more : List Tree) (e : Tree) → AreOver v ts → IndicesFit (for_all ts e) → (IndicesFit e → TypedAs v (reverse ts ++ more) None e) → TypedAs v more None (for_all ts e)
  for_all_typed [] more e o i f = f i
  for_all_typed (t ∷ ts) more e o i f =
      let split : reverse (t ∷ ts) ++ more ≡ reverse ts ++ t ∷ more = ap (λ (xs : List Tree). xs ++ more) (reverse-cons t ts) ∙ append_assoc (reverse ts) (t ∷ []) more in
      quantifier_typed v more true t (for_all ts e) o.0 (for_all_typed ts (t ∷ more) e o.1 i.1 (λ j. subst (λ (xs : List Tree). TypedAs v xs None e) split (f j)))

  fits_inside : (ts : List Tree) (e : Tree) → IndicesFit (for_all ts e) → IndicesFit e
  fits_inside [] e i = i
  fits_inside (t ∷ ts) e i = fits_inside ts e i.1

  -- ---- type variables
  variables_below : (m k n : ℕ) → m + k ≡ n → VariablesBelow n (cells (type_variables m k))
  variables_below m zero n q = tt
  variables_below m (suc k) n q = (omega (arith, q), variables_below (m + 1) k n (omega (arith, q)))

  bound_below : (n : ℕ) (ts : List Tree) → All (IsTypeIn v n) ts → VariablesBelow n (cells (bound_variables ts))
  bound_below n [] a = tt
  bound_below n (t ∷ ts) a = let x : IsTypeIn v n t = a 0 t (omega arith) in (x.variables, bound_below n ts (λ k d l. a (suc k) d (omega arith)))

  for_all_below : (n : ℕ) (ts : List Tree) (e : Tree) → All (IsTypeIn v n) ts → VariablesBelow n e → VariablesBelow n (for_all ts e)
  for_all_below n [] e a x = x
  for_all_below n (t ∷ ts) e a x = let y : IsTypeIn v n t = a 0 t (omega arith) in (y.variables, for_all_below n ts e (λ k d l. a (suc k) d (omega arith)) x)

-- ---- the equation
some_at : (es : List SymbolTree) (k : ℕ) → k < length es → slice_get es k ≡ Some (symbol_or es k)
some_at [] k l = absurd (omega arith)
some_at (e ∷ es) zero l = refl
some_at (e ∷ es) (suc k) l = some_at es k (omega arith)

module _ (v : Vocabulary) (k : ℕ) (s : IsSignatureOf v k) (u : IsTrue (v.usable k)) where
  abbrev e : SymbolTree
  e = symbol_or v.symbols k

  abbrev own : List Tree
  own = type_variables 0 e.vars

  abbrev params : Tree
  params = cells (bound_variables e.args)

  here : entry v k ≡ Some e
  here = some_at v.symbols k s.entry

  given : IndicesFit params → ListTyped v Term (reverse e.args ++ []) (map (λ a. inst_types a own) e.args) params
  given i = rw (all_own e.vars e.args) (bound_typed v e.args [] (all_over v e.vars e.args s.types.args) i)

  body_typed : (types : List Tree) (t : Option Tree) (b : Tree) → IsTypedAs v types t b → TypedAs v (types ++ []) t b
  body_typed types t b x = let q : types ++ [] ≡ types = append-nil types in rw q ((x.typed, x.parameters), (x.sort, x.type))

  function_equation : (t b : Tree) → e.kind ≡ Function → e.result ≡ Some t → IsTypedIn v e.vars (reverse e.args) (Some t) b
      → IndicesFit (for_all e.args (Two HEq (Three (HFun k) (cells own) params t) b)) → IsFormulaOver v [] e.vars (for_all e.args (Two HEq (Three (HFun k) (cells own) params t) b))
  function_equation t b q r x i =
      let j = fits_inside v e.args (Two HEq (Three (HFun k) (cells own) params t) b) i in
      let in_ : IsTypeIn v e.vars t = (rw r at s.types.result) in
      let types = reverse e.args ++ [] in
      let f : TypedAs v types (Some t) (Three (HFun k) (cells own) params t) =
      function_typed v types k e own params t t u here (rw q tt) (count_variables 0 e.vars) (variables_over v 0 e.vars) (given j.0.1) r (at_own e.vars t) (type_over v e.vars t in_) in
      let y = for_all_typed v e.args [] _ (all_over v e.vars e.args s.types.args) i (λ z. equality_typed v types t (Three (HFun k) (cells own) params t) b f (body_typed (reverse e.args) (Some t) b x.typed)) in
      record {
        sort = y.1.0;
        typed = y.0.0;
        parameters = y.0.1;
        variables = for_all_below v e.vars e.args _ s.types.args ((variables_below v 0 e.vars e.vars (omega arith), bound_below v e.vars e.args s.types.args, in_.variables), x.variables);
      }

  predicate_equation : (b : Tree) → e.kind ≡ Predicate → IsTypedIn v e.vars (reverse e.args) None b
      → IndicesFit (for_all e.args (Two (HJoin Iff) (Two (HPred k) (cells own) params) b)) → IsFormulaOver v [] e.vars (for_all e.args (Two (HJoin Iff) (Two (HPred k) (cells own) params) b))
  predicate_equation b q x i =
      let j = fits_inside v e.args (Two (HJoin Iff) (Two (HPred k) (cells own) params) b) i in
      let types = reverse e.args ++ [] in
      let f : TypedAs v types None (Two (HPred k) (cells own) params) = predicate_typed v types k e own params u here q (count_variables 0 e.vars) (variables_over v 0 e.vars) (given j.0.1) in
      let y = for_all_typed v e.args [] _ (all_over v e.vars e.args s.types.args) i (λ z. joined_typed v types Iff (Two (HPred k) (cells own) params) b f (body_typed (reverse e.args) None b x.typed)) in
      record {
        sort = y.1.0;
        typed = y.0.0;
        parameters = y.0.1;
        variables = for_all_below v e.vars e.args _ s.types.args ((variables_below v 0 e.vars e.vars (omega arith), bound_below v e.vars e.args s.types.args), x.variables);
      }

  by_kind : (d : SymbolKind) (r : Option Tree) (b inner : Tree) → e.kind ≡ d → e.result ≡ r → equated d k (cells own) params r b ≡ Some inner → IsTypedIn v e.vars (reverse e.args) r b → IndicesFit (for_all e.args inner) → IsFormulaOver v [] e.vars (for_all e.args inner)
  by_kind Function (Some t) b inner q r h x i =
      let same : Two HEq (Three (HFun k) (cells own) params t) b ≡ inner = cc in
      subst (λ (z : Tree). IsFormulaOver v [] e.vars (for_all e.args z)) same (function_equation t b q r x (rw same i))
  by_kind Function None b inner q r h x i = absurd (cc)
  by_kind Predicate None b inner q r h x i =
      let same : Two (HJoin Iff) (Two (HPred k) (cells own) params) b ≡ inner = cc in
      subst (λ (z : Tree). IsFormulaOver v [] e.vars (for_all e.args z)) same (predicate_equation b q x (rw same i))
  by_kind Predicate (Some t) b inner q r h x i = absurd (cc)
  by_kind kinds.Kind r b inner q r' h x i = absurd (cc)
  by_kind kinds.Constructor r b inner q r' h x i = absurd (cc)
  by_kind kinds.Projection r b inner q r' h x i = absurd (cc)

  pub definition_valid : (b inner : Tree) → equated e.kind k (cells own) params e.result b ≡ Some inner → IsTypedIn v e.vars (reverse e.args) e.result b → IndicesFit (for_all e.args inner) → IsDefinition v (record { symbol = k; equation = for_all e.args inner })
  definition_valid b inner h x i = record {
    signature = s;
    form = record { body = b; inner = inner; equated = h; is = refl };
    formula = by_kind e.kind e.result b inner refl refl h x i;
  }
