-- What groups say stays as the store grows; an inversion formula more.
use Rattle.std.proofs.Common.{◌≡◌, ℕ, ◌<◌, zero, suc, List, [], ◌∷◌, ◌++◌, map, length, get_or, slice_get, All, Option, Some, None, IfSome, option_map, sym, ap, ◌∙◌, arith, append_assoc}
use Rattle.std.proofs.lemmas.Option.{slice_get-map, get_or_from_slice_get}
use Rattle.std.proofs.lemmas.List.{map-append}
use Rattle.std.proofs.lemmas.List.Elements.{All-weaker}
use Rattle.trees.specs.Tree.{Tree}
use Rattle.trees.specs.Node.{trees_at, Holds, Grows}
use Rattle.tasks.specs.declared.signature.SymbolInfo.{SymbolInfo}
use Rattle.tasks.specs.declared.declaration.Ind.{Ind}
use Rattle.tasks.specs.declared.facts.Fact.TheVariants.{Inversion}
use Rattle.tasks.specs.Task.{SymbolTree, int_symbol, InductiveTree}
use Rattle.tasks.specs.Facts.{FactTree, inversion_fact}
use Rattle.tasks.specs.Inversion.{inversion}
use Rattle.tasks.specs.Meaning.{symbol_at, symbols_at, inductive_at, inductives_at, SymbolHeld}
use Rattle.tasks.proofs.Growth.{map_agree, tree_later, trees_later, symbols_later}
use Rattle.declarations.specs.declared.spelled_groups.said.Said.{Said}
use Rattle.declarations.specs.spelled_groups.Making.{IsFormulaId, IsKindAt, MemberIsFit}
use Rattle.declarations.specs.spelled_groups.Stored.{fact_at, facts_at, SaidHeld}
use Rattle.declarations.proofs.spelled_groups.Making.{kinds_later, formulas_later}

-- an entry that is there, of a mapped list
pub got_some : {X Y : Type 0} (f : X → Y) (xs : List X) (k : ℕ) (z : Y) (x : X) → slice_get xs k ≡ Some x → get_or (map f xs) k z ≡ f x
got_some f xs k z x e = get_or_from_slice_get (map f xs) k (f x) z (slice_get-map f xs k ∙ ap (option_map f) e)

pub no_entry : (is : List SymbolInfo) (k : ℕ) → k < length is → slice_get is k ≡ None → ⊥
no_entry [] k l e = omega arith
no_entry (i ∷ is) zero l e = cc
no_entry (i ∷ is) (suc k) l e = no_entry is k (omega arith) e

pub inversion_said : (s : List Tree) (infos : List SymbolInfo) (i : Ind) (info : SymbolInfo) → slice_get infos i.symbol ≡ Some info → (e : Tree) → e ≡ inversion i.symbol (symbol_at s info) (trees_at s i.clauses)
    → ◌≡◌ {A = FactTree} (record { name = Inversion i.symbol; vars = info.vars; formula = e }) (inversion_fact (symbols_at s infos) (inductive_at s i))
inversion_said s infos i info q e p =
    let mk : SymbolTree → FactTree = λ x. record { name = Inversion i.symbol; vars = x.vars; formula = inversion i.symbol x (trees_at s i.clauses) } in
    ap (λ (z : Tree). record { name = Inversion i.symbol; vars = info.vars; formula = z }) p ∙ ap mk (sym (got_some (symbol_at s) infos i.symbol int_symbol info q))

module _ (s s1 : List Tree) (g : Grows s s1) where
  pub facts_later : (xs : List Said) → All (SaidHeld s) xs → facts_at s1 xs ≡ facts_at s xs
  facts_later xs a = map_agree (fact_at s1) (fact_at s) xs (All-weaker (SaidHeld s) (λ x. fact_at s1 x ≡ fact_at s x) (λ x h. ap (λ (e : Tree). record { name = x.name; vars = x.vars; formula = e }) (tree_later s s1 g x.formula h)) xs a)

  pub one_said : (old new : List Said) (x : Said) (y : FactTree) → All (SaidHeld s) old → new ≡ old ++ x ∷ [] → fact_at s1 x ≡ y → facts_at s1 new ≡ facts_at s old ++ y ∷ []
  one_said old new x y a e q =
      ap (facts_at s1) e ∙ map-append (fact_at s1) old (x ∷ []) ∙ ap (λ (z : List FactTree). z ++ fact_at s1 x ∷ []) (facts_later old a) ∙ ap (λ (z : FactTree). facts_at s old ++ z ∷ []) q

  entry_fits : (o : Option SymbolInfo) → IfSome o (λ (e : SymbolInfo). All (IsKindAt s) e.args) → IfSome o (λ (e : SymbolInfo). All (IsKindAt s1) e.args)
  entry_fits (Some e) h = kinds_later s s1 g e.args h
  entry_fits _ h = tt

  pub member_later : (infos : List SymbolInfo) (i : Ind) → MemberIsFit s infos i → MemberIsFit s1 infos i
  member_later infos i h = record { entry = h.entry; args = entry_fits (slice_get infos i.symbol) h.args; clauses = formulas_later s s1 g i.clauses h.clauses }

  inductive_same : (infos : List SymbolInfo) (i : Ind) → MemberIsFit s infos i → inductive_at s1 i ≡ inductive_at s i
  inductive_same infos i h = ap (λ (z : List Tree). record { symbol = i.symbol; clauses = z }) (trees_later s s1 g i.clauses (All-weaker (IsFormulaId s) (Holds s) (λ id k. k.held) i.clauses h.clauses))

  pub inductives_same : (infos : List SymbolInfo) (is : List Ind) → All (MemberIsFit s infos) is → inductives_at s1 is ≡ inductives_at s is
  inductives_same infos is a = map_agree (inductive_at s1) (inductive_at s) is (All-weaker (MemberIsFit s infos) (λ i. inductive_at s1 i ≡ inductive_at s i) (inductive_same infos) is a)

  -- one predicate more
  pub inversions_more : (infos : List SymbolInfo) → All (SymbolHeld s) infos → (i : Ind) (rest : List Ind) → All (MemberIsFit s infos) rest → (old one new : List FactTree)
      → one ≡ old ++ inversion_fact (symbols_at s infos) (inductive_at s i) ∷ [] → new ≡ one ++ map (inversion_fact (symbols_at s1 infos)) (inductives_at s1 rest)
      → new ≡ old ++ map (inversion_fact (symbols_at s infos)) (inductives_at s (i ∷ rest))
  inversions_more infos h i rest a old one new e q =
      let x = inversion_fact (symbols_at s infos) (inductive_at s i) in
      let r = map (inversion_fact (symbols_at s infos)) (inductives_at s rest) in
      q ∙ ap (λ (z : List SymbolTree). one ++ map (inversion_fact z) (inductives_at s1 rest)) (symbols_later s s1 g infos h)
      ∙ ap (λ (z : List InductiveTree). one ++ map (inversion_fact (symbols_at s infos)) z) (inductives_same infos rest a)
      ∙ ap (λ (z : List FactTree). z ++ r) e ∙ append_assoc old (x ∷ []) r
