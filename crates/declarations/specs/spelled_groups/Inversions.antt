-- The inversion formula of an inductive predicate is a formula wherever its clauses are, and where
-- it is not too large.
use Rattle.std.specs.Prelude.{◌≡◌, ℕ, ◌+◌, ◌<◌, ◌≤◌, zero, suc, List, [], ◌∷◌, ◌++◌, map, length, slice_get, All, Option, Some, IsTrue, IsSomeAnd, refl}
use Rattle.std.proofs.lemmas.List.Elements.{All-cons, All-nil}
use Rattle.std.proofs.Common.{inl, inr, sym, subst, ap, ◌∙◌, arith}
use Rattle.trees.specs.declared.Op.TheVariants.{And, Or, Imp}
use Rattle.trees.specs.declared.Sort.{Sort}
use Rattle.trees.specs.declared.Sort.TheVariants.{Kind, Term, Formula}
use Rattle.trees.specs.Tree.{Tree, Leaf, One, Two, Three, HCell, HBound, HPred, HEq, HJoin, HForall, size}
use Rattle.trees.specs.Sorts.{sort_of, type_of, IsList}
use Rattle.trees.specs.Binding.{inst_types}
use Rattle.tasks.specs.Task.{SymbolTree, symbol_or, InductiveTree}
use Rattle.tasks.specs.Vocabulary.{Vocabulary}
use Rattle.tasks.specs.Typing.{members, IsUse, entry}
use Rattle.tasks.specs.Equations.{cells, type_variables, bound_variables, for_all}
use Rattle.tasks.specs.Clauses.{IsClauseOf, IsRule}
use Rattle.tasks.specs.Conjunctions.{conjunction}
use Rattle.tasks.specs.Inversion.{argument_equations, clause_parts, given_by, given_by_any, inversion}
use Rattle.tasks.specs.Valid.{IsFormulaOver, IsTypeIn, IsInductive}
use Rattle.tasks.specs.declared.signature.SymbolKind.TheVariants.{Predicate}
use Rattle.declarations.specs.spelled_groups.Formulas.{IsGoodUnder, AreGood, under, under_at, formula_good, good_formula, good_further, true_good, false_good, join_good, exists_good, equal_good, variable_good, for_all_good, variables_good, own_good, own_use, own_fit}

-- the entry of a number that is there
entry_there : (xs : List SymbolTree) (k : ℕ) → k < length xs
    → slice_get xs k ≡ Some (symbol_or xs k)
entry_there [] k l = absurd (omega arith)
entry_there (x ∷ xs) zero l = refl
entry_there (x ∷ xs) (suc k) l = entry_there xs k (omega arith)

-- a predicate's clause, and its variables' types
module _ (v : Vocabulary) (vars p : ℕ) (group : List ℕ) (own : Tree) where
  abbrev Good : List Tree → Tree → Type 0
  Good bs e = IsGoodUnder v vars bs Formula e

  conjunction_good : (bs es : List Tree) → All (Good bs) es → Good bs (conjunction es)
  conjunction_good bs [] a = true_good v vars bs
  conjunction_good bs (e ∷ []) a = a 0 e (omega arith)
  conjunction_good bs (e ∷ f ∷ es) a =
      join_good v vars bs And e (conjunction (f ∷ es)) (a 0 e (omega arith))
      (conjunction_good bs (f ∷ es) (λ k d l. a (suc k) d (omega arith)))

shifted_at : (bs zs : List Tree) (i : ℕ) → slice_get (bs ++ zs) (length bs + i) ≡ slice_get zs i
shifted_at [] zs i = let e : 0 + i ≡ i = omega arith in ap (slice_get zs) e
shifted_at (b ∷ bs) zs i = let e : length (b ∷ bs) + i ≡ suc (length bs + i) =
    omega arith in
    ap (slice_get (b ∷ (bs ++ zs))) e ∙ shifted_at bs zs i

first_term : (t ts : Tree) → IsList Term (Two HCell t ts) → sort_of t ≡ Term
first_term t ts (a, inl q) = absurd (cc)
first_term t ts (a, inr q) = cc

for_all_size : (types : List Tree) (e : Tree) → length types + size e ≤ size (for_all types e)
for_all_size [] e = omega arith
for_all_size (ty ∷ types) e =
    let l : length types + size e ≤ size (for_all types e) = for_all_size types e in
    let n : size (for_all (ty ∷ types) e) ≡ size ty + size (for_all types e) + 1 = refl in
    omega arith

module _ (v : Vocabulary) (p : ℕ) (group : List ℕ) (there : p < length v.symbols)
    (kinds : All (IsTypeIn v (symbol_or v.symbols p).vars) (symbol_or v.symbols p).args) where
  abbrev entry_of : SymbolTree
  entry_of = symbol_or v.symbols p

  abbrev vars : ℕ
  vars = entry_of.vars

  abbrev own : Tree
  own = cells (type_variables 0 entry_of.vars)

  abbrev ctx : List Tree
  ctx = under entry_of.args []

  abbrev xs : List Tree
  xs = bound_variables entry_of.args

  is_entry : (P : SymbolTree → Type 0) → IsSomeAnd (entry v p) P → P entry_of
  is_entry P h = subst (λ (o : Option SymbolTree). IsSomeAnd o P) (entry_there v.symbols p there) h

  from_entry : (P : SymbolTree → Type 0) → P entry_of → IsSomeAnd (entry v p) P
  from_entry P h =
      subst (λ (o : Option SymbolTree). IsSomeAnd o P) (sym (entry_there v.symbols p there)) h

  -- the equations on the arguments of a conclusion, which is under binders of these types
  module _ (bs : List Tree) (n : ℕ) (many : length bs ≡ n) where
    equations : (types zs : List Tree) (args : Tree) → All (IsTypeIn v vars) types
        → AreGood v vars bs Term args → map type_of (members args) ≡ map (λ a. Some a) types
        → n + length types ≤ 18446744073709551615
        → All (IsGoodUnder v vars (bs ++ under types zs) Formula)
        (argument_equations n (bound_variables types) args)
    equations [] zs args k g f l = All-nil (IsGoodUnder v vars (bs ++ under [] zs) Formula)
    equations (ty ∷ types) zs (Leaf h) k g f l =
        All-nil (IsGoodUnder v vars (bs ++ under (ty ∷ types) zs) Formula)
    equations (ty ∷ types) zs (One h a) k g f l =
        All-nil (IsGoodUnder v vars (bs ++ under (ty ∷ types) zs) Formula)
    equations (ty ∷ types) zs (Three h a b c) k g f l =
        All-nil (IsGoodUnder v vars (bs ++ under (ty ∷ types) zs) Formula)
    equations (ty ∷ types) zs (Two HCell t ts) k g f l =
        let s : sort_of t ≡ Term = first_term t ts g.list in
        let type : type_of t ≡ Some ty = cc in
        let rest : map type_of (members ts) ≡ map (λ a. Some a) types = cc in
        let place : slice_get (bs ++ under types (ty ∷ zs)) (n + length types) ≡ Some ty =
        let e : n + length types ≡ length bs + (length types + 0) = omega (arith, many) in
        ap (slice_get (bs ++ under types (ty ∷ zs))) e
        ∙ shifted_at bs (under types (ty ∷ zs)) (length types + 0)
        ∙ under_at types (ty ∷ zs) 0 in
        let x = variable_good v vars (bs ++ under types (ty ∷ zs)) (n + length types) ty
        (k 0 ty (omega arith)) (omega arith) place in
        let y : IsGoodUnder v vars bs Term t =
        record {
          sort = s;
          typed = g.typed.2;
          parameters = g.parameters.0;
          variables =
              g.variables.0;
        } in
        All-cons (IsGoodUnder v vars (bs ++ under types (ty ∷ zs)) Formula)
        (Two HEq (One (HBound (n + length types)) ty) t)
        (argument_equations n (bound_variables types) ts)
        (equal_good v vars (bs ++ under types (ty ∷ zs)) (One (HBound (n + length types)) ty) t x
        (good_further v vars bs (under types (ty ∷ zs)) Term t y) (sym type))
        (equations types (ty ∷ zs) ts (λ j d m. k (suc j) d (omega arith)) (record {
          list = subst (λ (z : Sort). IsList z ts) s g.typed.0.0.1;
          typed = g.typed.3;
          parameters = g.parameters.1;
          variables = g.variables.1;
        }) rest (omega arith))
    equations (ty ∷ types) zs (Two _ a b) k g f l =
        All-nil (IsGoodUnder v vars (bs ++ under (ty ∷ types) zs) Formula)

    -- the premises and the equations
    parts : (b : Tree) → IsRule group p own b → IsGoodUnder v vars bs Formula b
        → n + length entry_of.args ≤ 18446744073709551615
        → All (IsGoodUnder v vars (bs ++ ctx) Formula) (clause_parts n xs b)
    parts (Two (HJoin Imp) a b) r g l =
        All-cons (IsGoodUnder v vars (bs ++ ctx) Formula) a (clause_parts n xs b)
        (good_further v vars bs ctx Formula a
        (record {
          sort = g.typed.0.0.0;
          typed = g.typed.2;
          parameters =
              g.parameters.0;
          variables = g.variables.0;
        }))
        (parts b r.1 (record {
          sort = g.typed.0.0.1;
          typed = g.typed.3;
          parameters =
              g.parameters.1;
          variables = g.variables.1;
        }) l)
    parts (Two (HPred q) types args) r g l =
        let used : IsUse entry_of types args =
        (is_entry (λ e. (e.kind ≡ Predicate) × IsUse e types args)
        (subst (λ (k : ℕ).
        IsSomeAnd (entry v k) (λ e. (e.kind ≡ Predicate) × IsUse e types args)) r.0
        g.typed.1.1)).1 in
        let fit : map type_of (members args) ≡ map (λ a. Some a) entry_of.args =
        used.fit ∙ ap (λ (z : Tree). map (λ a. Some (inst_types a (members z))) entry_of.args) r.1.0
        ∙ sym (own_fit v vars entry_of.vars entry_of.args) in
        equations entry_of.args [] args kinds
        (record {
          list = g.typed.0.0.1;
          typed = g.typed.3;
          parameters =
              g.parameters.1;
          variables = g.variables.1;
        }) fit l
    parts e r g l = absurd r

  -- a clause
  given : (c : Tree) (bs : List Tree) (n : ℕ) → length bs ≡ n → IsClauseOf group p own c
      → IsGoodUnder v vars bs Formula c
      → n + length entry_of.args + size (given_by n xs c) ≤ 18446744073709551615
      → IsGoodUnder v vars (bs ++ ctx) Formula (given_by n xs c)
  given (Two HForall y b) bs n many r g l =
      let m : size (given_by n xs (Two HForall y b))
      ≡ size y + size (given_by (n + 1) xs b) + 1 = refl in
      let k : IsGoodUnder v vars bs Kind y =
      record {
        sort = g.typed.0.0.0;
        typed = g.typed.2;
        parameters =
            g.parameters.0;
        variables = g.variables.0;
      } in
      exists_good v vars (bs ++ ctx) y (given_by (n + 1) xs b) (good_further v vars bs ctx Kind y k)
      (given b (y ∷ bs) (n + 1) (omega (arith, many)) r
      (record {
        sort = g.typed.0.0.1;
        typed = g.typed.3;
        parameters =
            g.parameters.1;
        variables = g.variables.1;
      }) (omega (arith, m, l)))
  given c bs n many r g l = conjunction_good v vars p group own (bs ++ ctx) (clause_parts n xs c)
      (parts bs n many c r g (omega (arith, l)))

  -- some clause
  any : (cs : List Tree) → All (IsClauseOf group p own) cs → All (IsFormulaOver v [] vars) cs
      → length entry_of.args + size (given_by_any xs cs) ≤ 18446744073709551615
      → IsGoodUnder v vars ctx Formula (given_by_any xs cs)
  any [] r g l = false_good v vars ctx
  any (c ∷ []) r g l = given c [] 0 refl (r 0 c (omega arith))
      (formula_good v vars c (g 0 c (omega arith))) (omega (arith, l))
  any (c ∷ d ∷ cs) r g l =
      let m : size (given_by_any xs (c ∷ d ∷ cs))
      ≡ size (given_by 0 xs c) + size (given_by_any xs (d ∷ cs)) + 1 = refl in
      join_good v vars ctx Or (given_by 0 xs c) (given_by_any xs (d ∷ cs))
      (given c [] 0 refl (r 0 c (omega arith)) (formula_good v vars c (g 0 c (omega arith)))
      (omega (arith, m, l)))
      (any (d ∷ cs) (λ j e k. r (suc j) e (omega arith)) (λ j e k. g (suc j) e (omega arith))
      (omega (arith, m, l)))

  atom : IsTrue (v.usable p) → entry_of.kind ≡ Predicate
      → length entry_of.args < 18446744073709551616
      → IsGoodUnder v vars ctx Formula (Two (HPred p) own (cells xs))
  atom u k l =
      let types = own_good v vars ctx 0 entry_of.vars (omega arith) in
      let terms = variables_good v vars entry_of.args [] kinds l in
      record {
        sort = refl;
        typed = (
          ((types.list, terms.list), tt),
          (
            u,
            from_entry (λ e. (e.kind ≡ Predicate) × IsUse e own (cells xs))
                (k, own_use v vars entry_of),
          ),
          types.typed,
          terms.typed,
        );
        parameters = (types.parameters, terms.parameters);
        variables = (types.variables, terms.variables);
      }

-- the inversion formula of a predicate of a valid group
pub inversion_formula : (v : Vocabulary) (group : List ℕ) (i : InductiveTree)
    → IsInductive v group i → IsTrue (v.usable i.symbol)
    → size (inversion i.symbol (symbol_or v.symbols i.symbol) i.clauses) ≤ 1048576
    → IsFormulaOver v [] (symbol_or v.symbols i.symbol).vars
    (inversion i.symbol (symbol_or v.symbols i.symbol) i.clauses)
inversion_formula v group i h u l =
    let e = symbol_or v.symbols i.symbol in
    let head : Tree = Two (HPred i.symbol) (cells (type_variables 0 e.vars))
    (cells (bound_variables e.args)) in
    let body : Tree = given_by_any (bound_variables e.args) i.clauses in
    let m : length e.args + size (Two (HJoin Imp) head body)
    ≤ size (for_all e.args (Two (HJoin Imp) head body)) =
    for_all_size e.args (Two (HJoin Imp) head body) in
    let n : size (Two (HJoin Imp) head body) ≡ size head + size body + 1 = refl in
    let kinds = h.signature.types.args in
    good_formula v e.vars (inversion i.symbol e i.clauses)
    (for_all_good v e.vars e.args [] (Two (HJoin Imp) head body) kinds
    (join_good v e.vars (under e.args []) Imp head body
    (atom v i.symbol group h.signature.entry kinds u h.kind (omega (arith, m, n, l)))
    (any v i.symbol group h.signature.entry kinds i.clauses h.forms h.formulas
    (omega (arith, m, n, l)))))
