-- The names of what groups of inductive predicates say, by places.
use Rattle.std.proofs.Common.{◌≡◌, ◌≢◌, length-append, ℕ, ◌+◌, ◌-◌, ◌<◌, zero, suc, List, [], ◌∷◌, ◌++◌, map, length, slice_get, Some, refl, sym, ap, subst, ◌∙◌, arith}
use Rattle.std.proofs.lemmas.List.{map-append}
use Rattle.trees.specs.Tree.{Tree}
use Rattle.tasks.specs.declared.declaration.Ind.{Ind}
use Rattle.tasks.specs.declared.declaration.Body.{Body}
use Rattle.tasks.specs.declared.declaration.Body.TheVariants.{TypeSymbol, Symbol, Defs, Inductives, Algebraics, Prop}
use Rattle.tasks.specs.declared.facts.Fact.{Fact}
use Rattle.tasks.specs.declared.facts.Fact.TheVariants.{Clause}
use Rattle.tasks.specs.Task.{SymbolTree, symbol_or, DeclarationTree}
use Rattle.tasks.specs.Facts.{clause_facts, all_clause_facts, inversion_fact}
use Rattle.tasks.specs.Looking.{fact_name}
use Rattle.tasks.specs.Meaning.{inductives_at, trees_at, body_at}
use Rattle.declarations.specs.declared.rule.FactSearch.{FactSearch}
use Rattle.declarations.specs.declared.rule.FactSearch.TheVariants.{Here, After}
use Rattle.declarations.specs.Said.{own_said, IsFactSearch}
use Rattle.declarations.proofs.Places.{slice_left, slice_right}
use Rattle.declarations.specs.spelled_groups.Groups.{inductive_facts}
use Rattle.declarations.specs.spelled_groups.Spelled.{said_of}

clauses_from : (symbol vars n : ℕ) (cs : List Tree) (j : ℕ) → j < length cs → slice_get (map fact_name (clause_facts symbol vars n cs)) j ≡ Some (Clause symbol (n + j))
clauses_from symbol vars n [] j l = absurd (omega arith)
clauses_from symbol vars n (c ∷ cs) zero l = let e : n ≡ n + 0 = omega arith in ap (λ (i : ℕ). Some (Clause symbol i)) e
clauses_from symbol vars n (c ∷ cs) (suc j) l = let e : n + 1 + j ≡ n + suc j = omega arith in clauses_from symbol vars (n + 1) cs j (omega arith) ∙ ap (λ (i : ℕ). Some (Clause symbol i)) e

pub clauses_at : (symbol vars : ℕ) (cs : List Tree) (j : ℕ) → j < length cs → slice_get (map fact_name (clause_facts symbol vars 0 cs)) j ≡ Some (Clause symbol j)
clauses_at symbol vars cs j l = let e : 0 + j ≡ j = omega arith in clauses_from symbol vars 0 cs j l ∙ ap (λ (i : ℕ). Some (Clause symbol i)) e

pub clauses_long : (symbol vars n : ℕ) (cs : List Tree) → length (map fact_name (clause_facts symbol vars n cs)) ≡ length cs
clauses_long symbol vars n [] = refl
clauses_long symbol vars n (c ∷ cs) = omega (arith, clauses_long symbol vars (n + 1) cs)

pub after_right : (xs ys : List Fact) (k left : ℕ) (r : FactSearch) → length xs + left ≡ k → IsFactSearch ys left r → IsFactSearch (xs ++ ys) k r
after_right xs ys k left (Here name) e h = slice_right xs ys k left e ∙ h
after_right xs ys k left (After m) e h = omega (arith, length-append xs ys, e, h)

pub after_one : (x : Fact) (ys : List Fact) (k : ℕ) (r : FactSearch) → k ≢ 0 → IsFactSearch ys (k - 1) r → IsFactSearch (x ∷ ys) k r
after_one x ys k r n h = after_right (x ∷ []) ys k (k - 1) r (omega arith) h

module _ (s : List Tree) (symbols : List SymbolTree) (i : Ind) (rest : List Ind) (k : ℕ) where
  abbrev own : List Fact
  own = map fact_name (clause_facts i.symbol (symbol_or symbols i.symbol).vars 0 (trees_at s i.clauses))

  joined : map fact_name (all_clause_facts symbols (inductives_at s (i ∷ rest))) ≡ own ++ map fact_name (all_clause_facts symbols (inductives_at s rest))
  joined = map-append fact_name (clause_facts i.symbol (symbol_or symbols i.symbol).vars 0 (trees_at s i.clauses)) (all_clause_facts symbols (inductives_at s rest))

  pub all_here : (name : Fact) → slice_get own k ≡ Some name → slice_get (map fact_name (all_clause_facts symbols (inductives_at s (i ∷ rest)))) k ≡ Some name
  all_here name e = slice_left own (map fact_name (all_clause_facts symbols (inductives_at s rest))) (map fact_name (all_clause_facts symbols (inductives_at s (i ∷ rest)))) k name joined e

  pub all_after : (left : ℕ) (r : FactSearch) → length own + left ≡ k → IsFactSearch (map fact_name (all_clause_facts symbols (inductives_at s rest))) left r → IsFactSearch (map fact_name (all_clause_facts symbols (inductives_at s (i ∷ rest)))) k r
  all_after left r e h = subst (λ (z : List Fact). IsFactSearch z k r) (sym joined) (after_right own (map fact_name (all_clause_facts symbols (inductives_at s rest))) k left r e h)

module _ (s : List Tree) (symbols : List SymbolTree) (n : ℕ) (d : DeclarationTree) (b : Body) (is : List Ind) (e : b ≡ Inductives is) (k : ℕ) where
  abbrev clause_names : List Fact
  clause_names = map fact_name (all_clause_facts symbols (inductives_at s is))

  abbrev inversion_names : List Fact
  inversion_names = map fact_name (map (inversion_fact symbols) (inductives_at s is))

  both_said : map fact_name (said_of n d (inductive_facts symbols (body_at s b))) ≡ clause_names ++ inversion_names
  both_said = ap (λ (z : Body). map fact_name (said_of n d (inductive_facts symbols (body_at s z)))) e ∙ map-append fact_name (all_clause_facts symbols (inductives_at s is)) (map (inversion_fact symbols) (inductives_at s is))

  pub said_here : (name : Fact) → slice_get clause_names k ≡ Some name → slice_get (map fact_name (said_of n d (inductive_facts symbols (body_at s b)))) k ≡ Some name
  said_here name h = slice_left clause_names inversion_names (map fact_name (said_of n d (inductive_facts symbols (body_at s b)))) k name both_said h

  pub said_after : (left : ℕ) (r : FactSearch) → length clause_names + left ≡ k → IsFactSearch inversion_names left r → IsFactSearch (map fact_name (said_of n d (inductive_facts symbols (body_at s b)))) k r
  said_after left r q h = subst (λ (z : List Fact). IsFactSearch z k r) (sym both_said) (after_right clause_names inversion_names k left r q h)

-- what stays says what it says itself
pub others_stay : (s : List Tree) (symbols : List SymbolTree) (n : ℕ) (d : DeclarationTree) (b : Body) → ((is : List Ind) → b ≡ Inductives is → ⊥) → said_of n d (inductive_facts symbols (body_at s b)) ≡ own_said n d d.body
others_stay s symbols n d (Inductives is) h = absurd (h is refl)
others_stay s symbols n d (TypeSymbol k) h = refl
others_stay s symbols n d (Symbol k) h = refl
others_stay s symbols n d (Defs ds) h = refl
others_stay s symbols n d (Algebraics ts) h = refl
others_stay s symbols n d (Prop a) h = refl
