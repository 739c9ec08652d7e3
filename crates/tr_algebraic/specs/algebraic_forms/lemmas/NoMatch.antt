-- A well-sorted expression without a `match` has no pattern's constructor in it; the laws of
-- algebraic types have no `match`.
use Rattle.std.specs.Prelude.{◌⊎◌}
use Rattle.std.proofs.Common.{◌≡◌, ℕ, suc, List, [], ◌∷◌, ◌++◌, map, All, inl, inr, sym, subst, arith}
use Rattle.std.proofs.lemmas.List.Elements.{All-cons, All-nil, All-append}
use Rattle.trees.specs.declared.Sort.{Sort}
use Rattle.trees.specs.declared.Sort.TheVariants.{Kind, Term}
use Rattle.trees.specs.Tree.{Tree, Leaf, One, Two, Three, HTyApp, HCell, HBound, HParam, HNot, HPred, HEq, HJoin, HForall, HExists, HLet, HIf, HCase, HArm, HFun, HPatAny, HPatVar, HPatCon, HPatAlias}
use Rattle.trees.specs.Sorts.{sort_of, IsExpression, IsList, WellSorted}
use Rattle.trees.proofs.Types.{OnlyTypes, only_types}
use Rattle.tasks.specs.Task.{ConstructorTree, AlgebraicTree, SymbolTree}
use Rattle.tasks.specs.Equations.{cells, for_all}
use Rattle.declarations.specs.Within.{MatchesNone}
use Rattle.tr_algebraic.specs.algebraic_forms.Formulas.{variables_under, projected_fields, projection_laws, all_projection_laws, distinctness_law, distinctness_laws, different, case_equation, disjunction, own_variable, exhaustion_law}
use Rattle.tr_algebraic.specs.algebraic_forms.Groups.{LawTree, law, type_laws, type_vars, group_laws}
use Rattle.tr_algebraic.specs.declared.algebraic_forms.origins.LawKind.{LawKind}
use Rattle.tr_algebraic.specs.declared.algebraic_forms.origins.LawKind.TheVariants.{Projection, Distinctness, Exhaustion}
use Rattle.tr_algebraic.specs.algebraic_forms.NoMatch.{HasNoMatch}

none_types : (e : Tree) → OnlyTypes e → MatchesNone e
none_types (Leaf h) o = tt
none_types (One h a) o = none_types a o.1
none_types (Two h a b) o = (none_types a o.1, none_types b o.2)
none_types (Three h a b c) o = absurd o

-- a type, or a list of types
pub kinds_match_none : (e : Tree) → WellSorted e → (sort_of e ≡ Kind) ⊎ IsList Kind e
    → MatchesNone e
kinds_match_none e w k = none_types e (only_types e w k)

-- an expression, or a list of terms
abbrev IsOfTerms : Tree → Type 0
IsOfTerms e = IsExpression (sort_of e) ⊎ IsList Term e

pub matches_none : (e : Tree) → WellSorted e → IsOfTerms e → HasNoMatch e → MatchesNone e
matches_none (Leaf h) w k n = tt
matches_none (One (HBound i) a) w k n = kinds_match_none a w.1 (inl w.0.0)
matches_none (One (HParam i) a) w k n = kinds_match_none a w.1 (inl w.0)
matches_none (One (HTyApp i) a) w k n = kinds_match_none a w.1 (inr w.0)
matches_none (One HNot a) w k n = matches_none a w.1 (inl (inr w.0)) n
matches_none (One HPatAny a) w k n = kinds_match_none a w.1 (inl w.0)
matches_none (One HPatVar a) w k n = kinds_match_none a w.1 (inl w.0)
matches_none (One HPatAlias a) w (inl (inl k)) n = absurd (cc)
matches_none (One HPatAlias a) w (inl (inr k)) n = absurd (cc)
matches_none (One HPatAlias a) w (inr k) n = absurd (let q = k.0 in cc)
matches_none (One _ a) w k n = absurd w.0
matches_none (Two HCell a b) w (inl (inl k)) n = absurd (cc)
matches_none (Two HCell a b) w (inl (inr k)) n = absurd (cc)
matches_none (Two HCell a b) w (inr (k, inl q)) n = absurd (cc)
matches_none (Two HCell a b) w (inr (k, inr q)) n =
    let e : sort_of a ≡ Term = cc in (
      matches_none a w.1 (inl (inl e)) n.0,
      matches_none b w.2
          (inr (subst (λ (z : Sort). IsList z b) e w.0.0.1)) n.1,
    )
matches_none (Two (HPred p) a b) w k n =
    (kinds_match_none a w.1 (inr w.0.0.0), matches_none b w.2 (inr w.0.0.1) n)
matches_none (Two HEq a b) w k n =
    (matches_none a w.1 (inl (inl w.0.0.0)) n.0, matches_none b w.2 (inl (inl w.0.0.1)) n.1)
matches_none (Two (HJoin op) a b) w k n =
    (matches_none a w.1 (inl (inr w.0.0.0)) n.0, matches_none b w.2 (inl (inr w.0.0.1)) n.1)
matches_none (Two HForall a b) w k n =
    (kinds_match_none a w.1 (inl w.0.0.0), matches_none b w.2 (inl (inr w.0.0.1)) n)
matches_none (Two HExists a b) w k n =
    (kinds_match_none a w.1 (inl w.0.0.0), matches_none b w.2 (inl (inr w.0.0.1)) n)
matches_none (Two HLet a b) w k n =
    (matches_none a w.1 (inl (inl w.0.0.0)) n.0, matches_none b w.2 (inl w.0.0.1) n.1)
matches_none (Two HCase a b) w k n = absurd n
matches_none (Two HArm a b) w (inl (inl k)) n = absurd (cc)
matches_none (Two HArm a b) w (inl (inr k)) n = absurd (cc)
matches_none (Two HArm a b) w (inr k) n = absurd (let q = k.0 in cc)
matches_none (Two _ a b) w k n = absurd w.0.0
matches_none (Three (HFun f) a b c) w k n = (
  tt,
  kinds_match_none a w.1 (inr w.0.0),
  matches_none b w.2 (inr w.0.1) n,
  kinds_match_none c
      w.3 (inl w.0.2),
)
matches_none (Three HIf a b c) w k n = (
  tt,
  matches_none a w.1 (inl (inr w.0.0)) n.0,
  matches_none b w.2 (inl w.0.1) n.1,
  matches_none
      c w.3 (inl (subst IsExpression (sym w.0.2) w.0.1)) n.2,
)
matches_none (Three (HPatCon j) a b c) w (inl (inl k)) n = absurd (cc)
matches_none (Three (HPatCon j) a b c) w (inl (inr k)) n = absurd (cc)
matches_none (Three (HPatCon j) a b c) w (inr k) n = absurd (let q = k.0 in cc)
matches_none (Three _ a b c) w k n = absurd w.0

-- ---- the laws
no_variables : (n : ℕ) (types : List Tree) → HasNoMatch (cells (variables_under n types))
no_variables n [] = tt
no_variables n (ty ∷ types) = (tt, no_variables n types)

no_quantified : (types : List Tree) (e : Tree) → HasNoMatch e → HasNoMatch (for_all types e)
no_quantified [] e n = n
no_quantified (ty ∷ types) e n = no_quantified types e n

no_fields : (vars : ℕ) (ps : List ℕ) (types : List Tree) (x : Tree) → HasNoMatch x
    → HasNoMatch (cells (projected_fields vars ps types x))
no_fields vars [] types x n = tt
no_fields vars (p ∷ ps) [] x n = tt
no_fields vars (p ∷ ps) (ty ∷ types) x n = ((n, tt), no_fields vars ps types x n)

no_projections : (type vars : ℕ) (c : ConstructorTree) (ps : List ℕ) (types : List Tree)
    → All HasNoMatch (projection_laws type vars c ps types)
no_projections type vars c [] types = All-nil HasNoMatch
no_projections type vars c (p ∷ ps) [] = All-nil HasNoMatch
no_projections type vars c (p ∷ ps) (ty ∷ types) =
    All-cons HasNoMatch _ (projection_laws type vars c ps types)
    (no_quantified c.fields _ ((no_variables 0 c.fields, tt), tt))
    (no_projections type vars c ps types)

no_all_projections : (type vars : ℕ) (cs : List ConstructorTree)
    → All HasNoMatch (all_projection_laws type vars cs)
no_all_projections type vars [] = All-nil HasNoMatch
no_all_projections type vars (c ∷ cs) =
    All-append HasNoMatch (projection_laws type vars c c.projections c.fields)
    (all_projection_laws type vars cs) (no_projections type vars c c.projections c.fields)
    (no_all_projections type vars cs)

no_differences : (type vars : ℕ) (c : ConstructorTree) (cs : List ConstructorTree)
    → All HasNoMatch (map (distinctness_law type vars c) cs)
no_differences type vars c [] = All-nil HasNoMatch
no_differences type vars c (d ∷ cs) =
    All-cons HasNoMatch (distinctness_law type vars c d) (map (distinctness_law type vars c) cs)
    (no_quantified (c.fields ++ d.fields) (different type vars c d)
    (no_variables _ c.fields, no_variables 0 d.fields)) (no_differences type vars c cs)

no_distinctness : (type vars : ℕ) (cs : List ConstructorTree)
    → All HasNoMatch (distinctness_laws type vars cs)
no_distinctness type vars [] = All-nil HasNoMatch
no_distinctness type vars (c ∷ cs) =
    All-append HasNoMatch (map (distinctness_law type vars c) cs) (distinctness_laws type vars cs)
    (no_differences type vars c cs) (no_distinctness type vars cs)

no_cases : (type vars : ℕ) (cs : List ConstructorTree)
    → HasNoMatch (disjunction (map (case_equation type vars (own_variable type vars)) cs))
no_cases type vars [] = tt
no_cases type vars (c ∷ []) =
    (tt, no_fields vars c.projections c.fields (own_variable type vars) tt)
no_cases type vars (c ∷ d ∷ cs) = (
  (tt, no_fields vars c.projections c.fields (own_variable type vars) tt),
  no_cases type vars
      (d ∷ cs),
)

abbrev HasNone : LawTree → Type 0
HasNone x = HasNoMatch x.formula

as_laws : (kind : LawKind) (vars : ℕ) (es : List Tree) → All HasNoMatch es
    → All HasNone (map (law kind vars) es)
as_laws kind vars [] a = All-nil HasNone
as_laws kind vars (e ∷ es) a =
    All-cons HasNone (law kind vars e) (map (law kind vars) es) (a 0 e (omega arith))
    (as_laws kind vars es (λ k d l. a (suc k) d (omega arith)))

pub laws_have_no_match : (symbols : List SymbolTree) (ts : List AlgebraicTree)
    → All HasNone (group_laws symbols ts)
laws_have_no_match symbols [] = All-nil HasNone
laws_have_no_match symbols (a ∷ ts) =
    let vars = type_vars symbols a in
    let last = law Exhaustion vars (exhaustion_law a.symbol vars a.cons) in
    All-append HasNone (type_laws vars a) (group_laws symbols ts)
    (All-append HasNone (map (law Projection vars) (all_projection_laws a.symbol vars a.cons))
    (map (law Distinctness vars) (distinctness_laws a.symbol vars a.cons) ++ last ∷ [])
    (as_laws Projection vars (all_projection_laws a.symbol vars a.cons)
    (no_all_projections a.symbol vars a.cons))
    (All-append HasNone (map (law Distinctness vars) (distinctness_laws a.symbol vars a.cons))
    (last ∷ []) (as_laws Distinctness vars (distinctness_laws a.symbol vars a.cons)
    (no_distinctness a.symbol vars a.cons))
    (All-cons HasNone last [] (no_cases a.symbol vars a.cons) (All-nil HasNone))))
    (laws_have_no_match symbols ts)
