-- The groups of inductive predicates, spelled out, say formulas where these aren't too large, and
-- say what they are.
use Rattle.std.specs.Prelude.{◌≡◌, ℕ, ◌+◌, ◌≤◌, suc, List, [], ◌∷◌, ◌++◌, map, All, Some, refl}
use Rattle.std.proofs.Common.{sym, subst, arith, inr}
use Rattle.std.proofs.lemmas.List.Elements.{All-cons, All-nil, All-append}
use Rattle.plain_laws.proofs.Lists.{All-right}
use Rattle.trees.specs.Tree.{Tree, size}
use Rattle.tasks.specs.Task.{SymbolTree, symbol_or, InductiveTree, BodyTree, MakesType, Makes, Defines, Induces, Constructs, Says, made_by}
use Rattle.tasks.specs.Facts.{FactTree, inversion_fact, clause_facts, all_clause_facts}
use Rattle.tasks.specs.Vocabulary.{Vocabulary}
use Rattle.tasks.specs.Valid.{IsFormulaOver, IsInductive, IsValidBody}
use Rattle.tasks.proofs.Declared.{contains_step}
use Rattle.declarations.specs.Rewritten.{AreUsable}
use Rattle.declarations.specs.spelled_groups.Spelled.{IsSpellable, IsSayable, PatternsAreUsable, IsSpelling, SaysFacts}
use Rattle.declarations.specs.spelled_groups.Groups.{inductive_facts}
use Rattle.declarations.specs.spelled_groups.Inversions.{inversion_formula}

-- an index of a bound variable is below a number of the machine, so a formula is one only where it
-- has fewer binders than that
abbrev pub IsSmallTree : Tree → Type 0
IsSmallTree e = size e ≤ 1048576

abbrev IsSmall : FactTree → Type 0
IsSmall f = IsSmallTree f.formula

module _ (v : Vocabulary) where
  clauses_sayable : (k n : ℕ) (vars : ℕ) (cs : List Tree) → All (IsFormulaOver v [] vars) cs
      → All (IsSayable v) (clause_facts k vars n cs)
  clauses_sayable k n vars [] a = All-nil (IsSayable v)
  clauses_sayable k n vars (c ∷ cs) a =
      All-cons (IsSayable v) _ (clause_facts k vars (n + 1) cs) (a 0 c (omega arith))
      (clauses_sayable k (n + 1) vars cs (λ j d l. a (suc j) d (omega arith)))

  all_clauses_sayable : (group : List ℕ) (is : List InductiveTree) → All (IsInductive v group) is
      → All (IsSayable v) (all_clause_facts v.symbols is)
  all_clauses_sayable group [] a = All-nil (IsSayable v)
  all_clauses_sayable group (i ∷ is) a =
      All-append (IsSayable v)
      (clause_facts i.symbol (symbol_or v.symbols i.symbol).vars 0 i.clauses)
      (all_clause_facts v.symbols is)
      (clauses_sayable i.symbol 0 (symbol_or v.symbols i.symbol).vars i.clauses
      (a 0 i (omega arith)).formulas)
      (all_clauses_sayable group is (λ j d l. a (suc j) d (omega arith)))

  inversions_sayable : (group : List ℕ) (is : List InductiveTree)
      → AreUsable v (map (λ (i : InductiveTree). i.symbol) is) → All (IsInductive v group) is
      → All IsSmall (map (inversion_fact v.symbols) is)
      → All (IsSayable v) (map (inversion_fact v.symbols) is)
  inversions_sayable group [] u a n = All-nil (IsSayable v)
  inversions_sayable group (i ∷ is) u a n =
      All-cons (IsSayable v) (inversion_fact v.symbols i) (map (inversion_fact v.symbols) is)
      (inversion_formula v group i (a 0 i (omega arith)) (u i.symbol (0, omega arith, refl))
      (n 0 (inversion_fact v.symbols i) (omega arith)))
      (inversions_sayable group is
      (λ k c. u k (contains_step i.symbol k (map (λ (j : InductiveTree). j.symbol) is) (inr c)))
      (λ j d l. a (suc j) d (omega arith)) (λ j d l. n (suc j) d (omega arith)))

inductives_only : (symbols : List SymbolTree) (b : BodyTree) (fs : List FactTree)
    → inductive_facts symbols b ≡ Some fs → IsSpellable b
inductives_only symbols (Defines ds) fs q = tt
inductives_only symbols (Induces is) fs q = tt
inductives_only symbols (MakesType k) fs q = absurd (cc)
inductives_only symbols (Makes k) fs q = absurd (cc)
inductives_only symbols (Constructs ts) fs q = absurd (cc)
inductives_only symbols (Says a) fs q = absurd (cc)

same_facts : (fs gs : List FactTree) → Some fs ≡ Some gs → gs ≡ fs
same_facts fs gs q = cc

inductives_valid : (v : Vocabulary) (vars : ℕ) (b : BodyTree) (fs : List FactTree)
    → PatternsAreUsable v → AreUsable v (made_by b) → IsValidBody v vars b
    → inductive_facts v.symbols b ≡ Some fs → All IsSmall fs → All (IsSayable v) fs
inductives_valid v vars (Induces is) fs p u a q n =
    let e : fs ≡ all_clause_facts v.symbols is ++ map (inversion_fact v.symbols) is =
    same_facts _ fs q in
    let m : All IsSmall (map (inversion_fact v.symbols) is) =
    All-right IsSmall (all_clause_facts v.symbols is) (map (inversion_fact v.symbols) is)
    (subst (All IsSmall) e n) in
    subst (All (IsSayable v)) (sym e)
    (All-append (IsSayable v) (all_clause_facts v.symbols is)
    (map (inversion_fact v.symbols) is) (all_clauses_sayable v _ is a)
    (inversions_sayable v _ is u a m))
inductives_valid v vars (Defines ds) fs p u a q n = absurd (cc)
inductives_valid v vars (MakesType k) fs p u a q n = absurd (cc)
inductives_valid v vars (Makes k) fs p u a q n = absurd (cc)
inductives_valid v vars (Constructs ts) fs p u a q n = absurd (cc)
inductives_valid v vars (Says e) fs p u a q n = absurd (cc)

pub inductives_spelling : IsSpelling IsSmallTree inductive_facts
inductives_spelling = record { only = inductives_only; valid = inductives_valid }

pub inductives_say_facts : SaysFacts inductive_facts
inductives_say_facts symbols n vars (Induces is) fs q = same_facts _ fs q
inductives_say_facts symbols n vars (Defines ds) fs q = absurd (cc)
inductives_say_facts symbols n vars (MakesType k) fs q = absurd (cc)
inductives_say_facts symbols n vars (Makes k) fs q = absurd (cc)
inductives_say_facts symbols n vars (Constructs ts) fs q = absurd (cc)
inductives_say_facts symbols n vars (Says e) fs q = absurd (cc)
