-- Equations and clauses under a map of symbols keep their form.
use Rattle.std.proofs.Common.{◌≡◌, ℕ, ◌+◌, zero, suc, true, List, [], ◌∷◌, ◌++◌, map, length, Contains, Option, Some, None, IsSomeAnd, option_map, refl, sym, ap, ◌∙◌}
use Rattle.elab_groups.specs.trees.declared.Op.TheVariants.{And, AndThen, Or, OrElse, Imp}
use Rattle.elab_groups.specs.trees.Tree.{Tree, Leaf, One, Two, Three, Head, HTyApp, HBound, HPred, HJoin, HForall, HExists}
use Rattle.elab_groups.specs.tasks.declared.signature.SymbolKind.{SymbolKind}
use Rattle.elab_groups.specs.tasks.declared.signature.SymbolKind.TheVariants.{Function, Predicate}
use Rattle.elab_groups.specs.tasks.Task.{SymbolTree}
use Rattle.elab_groups.specs.tasks.Equations.{cells, type_variables, bound_variables, for_all, equated, IsEquationOf}
use Rattle.elab_groups.specs.tasks.Clauses.{TwoFree, IsFree, IsPremise, IsRule, IsClauseOf}
use Rattle.elab_groups.specs.tasks.Vocabulary.{Vocabulary}
use Rattle.elab_groups.specs.tasks.Typing.{entry, bound_types, TypedUnder}
use Rattle.clones.specs.Mapped.{Map, head_mapped, mapped}
use Rattle.elaboration_laws.specs.Morphisms.{HasMappedTypes, IsMorphism}
use Rattle.elaboration_laws.proofs.CopiedTypes.{over_free, over_premise}
use Rattle.elaboration_laws.proofs.Trees.{type_at}

-- ---- equations
module _ (m : Map) where
  pub cells_mapped : (ts : List Tree) → mapped m (cells ts) ≡ cells (map (mapped m) ts)
  cells_mapped [] = refl
  cells_mapped (t ∷ ts) = cc (cells_mapped ts)

  variables_mapped : (from n : ℕ) → map (mapped m) (type_variables from n) ≡ type_variables from n
  variables_mapped from zero = refl
  variables_mapped from (suc n) = cc (variables_mapped (from + 1) n)

  pub own_mapped : (from n : ℕ) → mapped m (cells (type_variables from n)) ≡ cells (type_variables from n)
  own_mapped from n = cells_mapped (type_variables from n) ∙ ap cells (variables_mapped from n)

  count_mapped : (ts : List Tree) → length (map (mapped m) ts) ≡ length ts
  count_mapped [] = refl
  count_mapped (t ∷ ts) = ap suc (count_mapped ts)

  bound_mapped : (ts : List Tree) → map (mapped m) (bound_variables ts) ≡ bound_variables (map (mapped m) ts)
  bound_mapped [] = refl
  bound_mapped (t ∷ ts) = cc (sym (ap (λ (i : ℕ). One (HBound i) (mapped m t)) (count_mapped ts)), bound_mapped ts)

  for_all_mapped : (ts : List Tree) (e : Tree) → mapped m (for_all ts e) ≡ for_all (map (mapped m) ts) (mapped m e)
  for_all_mapped [] e = refl
  for_all_mapped (t ∷ ts) e = ap (Two HForall (mapped m t)) (for_all_mapped ts e)

  equated_mapped : (kind : SymbolKind) (k : ℕ) (types args : Tree) (r : Option Tree) (body inner : Tree) → equated kind k types args r body ≡ Some inner
      → equated kind (m.symbols k) (mapped m types) (mapped m args) (option_map (mapped m) r) (mapped m body) ≡ Some (mapped m inner)
  equated_mapped Function k types args (Some ty) body inner q = ap (option_map (mapped m)) q
  equated_mapped Predicate k types args None body inner q = ap (option_map (mapped m)) q
  equated_mapped _ k types args r body inner q = absurd (cc)

  pub equation_mapped : (k : ℕ) (e j : SymbolTree) (equation : Tree) → j.kind ≡ e.kind → HasMappedTypes m e j → IsEquationOf k e equation → IsEquationOf (m.symbols k) j (mapped m equation)
  equation_mapped k e j equation q h x = record {
    body = mapped m x.body;
    inner = mapped m x.inner;
    equated =
        let p = equated_mapped e.kind k (cells (type_variables 0 e.vars)) (cells (bound_variables e.args)) e.result x.body x.inner x.equated in
        let types : mapped m (cells (type_variables 0 e.vars)) ≡ cells (type_variables 0 j.vars) = own_mapped 0 e.vars ∙ ap (λ (n : ℕ). cells (type_variables 0 n)) (sym h.vars) in
        let args : mapped m (cells (bound_variables e.args)) ≡ cells (bound_variables j.args) = cells_mapped (bound_variables e.args) ∙ ap cells (bound_mapped e.args) ∙ ap (λ (l : List Tree). cells (bound_variables l)) (sym h.args) in
        ap (λ (c : SymbolKind). equated c (m.symbols k) (cells (type_variables 0 j.vars)) (cells (bound_variables j.args)) j.result (mapped m x.body)) q
        ∙ ap (λ (t : Tree). equated e.kind (m.symbols k) t (cells (bound_variables j.args)) j.result (mapped m x.body)) (sym types)
        ∙ ap (λ (t : Tree). equated e.kind (m.symbols k) (mapped m (cells (type_variables 0 e.vars))) t j.result (mapped m x.body)) (sym args)
        ∙ ap (λ (r : Option Tree). equated e.kind (m.symbols k) (mapped m (cells (type_variables 0 e.vars))) (mapped m (cells (bound_variables e.args))) r (mapped m x.body)) h.result
        ∙ p;
    is = ap (mapped m) x.is ∙ for_all_mapped e.args x.inner ∙ ap (λ (l : List Tree). for_all l (mapped m x.inner)) (sym h.args);
  }

-- ---- clauses
module _ (v w : Vocabulary) (m : Map) (morphism : IsMorphism v w m) (group : List ℕ)
    (alone : (p : ℕ) (e : SymbolTree) → entry v p ≡ Some e → Contains (map m.symbols group) (m.symbols p) → Contains group p) where
  there : (p : ℕ) (o : Option SymbolTree) (P : SymbolTree → Type 0) → entry v p ≡ o → IsSomeAnd o P → Contains (map m.symbols group) (m.symbols p) → Contains group p
  there p None P q h c = absurd h
  there p (Some e) P q h c = alone p e q c

  two_free : (us : List Tree) (h : Head) (a b : Tree) → TypedUnder v us (Two h a b) → TwoFree group h → TwoFree (map m.symbols group) (head_mapped m.symbols h)
  two_free us (HPred p) a b x f = λ c. f (there p (entry v p) _ refl x.1.1 c)
  two_free us _ a b x f = tt

  pub free_mapped : (us : List Tree) (e : Tree) → TypedUnder v us e → IsFree group e → IsFree (map m.symbols group) (mapped m e)
  free_mapped us (Leaf h) x f = tt
  free_mapped us (One (HTyApp k) a) x f = over_free w (map m.symbols group) true (mapped m (One (HTyApp k) a)) (type_at v w m morphism us k a x)
  free_mapped us (One h a) x f = free_mapped us a x.2 f
  free_mapped us (Two h a b) x f = (two_free us h a b x f.0, free_mapped us a x.2 f.1, free_mapped (bound_types h a ++ us) b x.3 f.2)
  free_mapped us (Three h a b c) x f = (free_mapped us a x.2 f.0, free_mapped us b x.3 f.1, free_mapped us c x.4 f.2)

  module _ (types : Tree) where
    premise_mapped : (us : List Tree) (e : Tree) → TypedUnder v us e → IsPremise group types e → IsPremise (map m.symbols group) (mapped m types) (mapped m e)
    premise_mapped us (Two (HPred p) a b) x y = ((λ c. ap (mapped m) (y.0 (there p (entry v p) _ refl x.1.1 c))), free_mapped us b x.3 y.1)
    premise_mapped us (Two (HJoin And) a b) x y = (premise_mapped us a x.2 y.0, premise_mapped us b x.3 y.1)
    premise_mapped us (Two (HJoin AndThen) a b) x y = (premise_mapped us a x.2 y.0, premise_mapped us b x.3 y.1)
    premise_mapped us (Two (HJoin Or) a b) x y = (premise_mapped us a x.2 y.0, premise_mapped us b x.3 y.1)
    premise_mapped us (Two (HJoin OrElse) a b) x y = (premise_mapped us a x.2 y.0, premise_mapped us b x.3 y.1)
    premise_mapped us (Two (HJoin Imp) a b) x y = (free_mapped us a x.2 y.0, premise_mapped us b x.3 y.1)
    premise_mapped us (Two HForall a b) x y = premise_mapped (a ∷ us) b x.3 y
    premise_mapped us (Two HExists a b) x y = premise_mapped (a ∷ us) b x.3 y
    premise_mapped us (One (HTyApp k) a) x y = over_premise w (map m.symbols group) (mapped m types) (mapped m (One (HTyApp k) a)) (type_at v w m morphism us k a x)
    premise_mapped us (One h a) x y = free_mapped us a x.2 y
    premise_mapped us (Leaf h) x y = tt
    premise_mapped us (Three h a b c) x y = (free_mapped us a x.2 y.0, free_mapped us b x.3 y.1, free_mapped us c x.4 y.2)
    premise_mapped us (Two h a b) x y = free_mapped us (Two h a b) x y

    rule_mapped : (us : List Tree) (k : ℕ) (e : Tree) → TypedUnder v us e → IsRule group k types e → IsRule (map m.symbols group) (m.symbols k) (mapped m types) (mapped m e)
    rule_mapped us k (Two (HJoin Imp) a b) x y = (premise_mapped us a x.2 y.0, rule_mapped us k b x.3 y.1)
    rule_mapped us k (Two (HPred p) a b) x y = (ap m.symbols y.0, (ap (mapped m) y.1.0, free_mapped us b x.3 y.1.1))
    rule_mapped us k _ x y = absurd y

    pub clause_mapped : (us : List Tree) (k : ℕ) (e : Tree) → TypedUnder v us e → IsClauseOf group k types e → IsClauseOf (map m.symbols group) (m.symbols k) (mapped m types) (mapped m e)
    clause_mapped us k (Two HForall a b) x y = clause_mapped (a ∷ us) k b x.3 y
    clause_mapped us k (Two h a b) x y = rule_mapped us k (Two h a b) x y
    clause_mapped us k (Leaf h) x y = absurd y
    clause_mapped us k (One h a) x y = absurd y
    clause_mapped us k (Three h a b c) x y = absurd y
