-- What definitions say stays as the store grows; a branch more, and a definition more.
use Rattle.std.specs.List.{flat_map}
use Rattle.std.proofs.Common.{◌≡◌, ℕ, suc, List, [], ◌∷◌, ◌++◌, map, length, slice_get, All, Option, Some, None, IfSome, refl, sym, ap, subst, ◌∙◌, arith, append_assoc}
use Rattle.std.proofs.lemmas.List.Elements.{All-weaker}
use Rattle.trees.specs.declared.TermId.{TermId}
use Rattle.trees.specs.declared.Sort.TheVariants.{Kind}
use Rattle.trees.specs.Tree.{Tree, Two, HCell}
use Rattle.trees.specs.Node.{tree_at, trees_at, Holds, Grows}
use Rattle.trees.specs.Sorts.{sort_of}
use Rattle.trees.specs.binders.Visits.{HoldTypes, held_stays, trees_stay}
use Rattle.tasks.specs.declared.signature.SymbolInfo.{SymbolInfo}
use Rattle.tasks.specs.declared.declaration.Def.{Def}
use Rattle.tasks.specs.declared.facts.Fact.TheVariants.{Equation}
use Rattle.tasks.specs.Task.{SymbolTree, symbol_or, int_symbol, DefinitionTree}
use Rattle.tasks.specs.Facts.{FactTree}
use Rattle.tasks.specs.Meaning.{symbol_at, symbols_at, definition_at, definitions_at, SymbolHeld}
use Rattle.tasks.proofs.Growth.{symbols_later, definitions_later}
use Rattle.declarations.specs.declared.spelled_groups.said.Said.{Said}
use Rattle.declarations.specs.spelled_groups.Stored.{facts_at}
use Rattle.tr_inline.specs.inlining.branch_equations.Branches.{ConstructorBranch, constructor_branch, constructor_branches, add_branch, below_quantifiers, HasSides, matched_parameter, quantifiers, branch_equation, facts_by, member_facts}
use Rattle.checks.specs.decl_checks.Structure.{defining_body}
use Rattle.declarations.proofs.spelled_groups.Saying.{got_some}
use Rattle.tr_recursion.specs.declared.recursion_forms.branches.Branch.{Branch}
use Rattle.tr_recursion.specs.declared.recursion_forms.saying.Member.{Member}
use Rattle.tr_recursion.specs.declared.recursion_forms.branches.Matched.{Matched}
use Rattle.tr_recursion.specs.recursion_forms.Read.{constructor_branch_at, branches_or_none, matched_at, HasBranches}
use Rattle.tr_recursion.specs.recursion_forms.Made.{AreSided, DefinitionIsFit}
use Rattle.tr_recursion.specs.recursion_forms.Members.{member_branch_fact, MemberIsHeld, BranchesAreSided}

-- the first of branches, and the others
pub record IsFirst (o : Option ConstructorBranch) (os : Option (List ConstructorBranch)) (bs : List ConstructorBranch) : Type 0 where
  pub first : ConstructorBranch
  pub others : List ConstructorBranch
  pub first_is : o ≡ Some first
  pub others_are : os ≡ Some others
  pub are : bs ≡ first ∷ others

pub first_of : (o : Option ConstructorBranch) (os : Option (List ConstructorBranch)) (bs : List ConstructorBranch) → add_branch o os ≡ Some bs → IsFirst o os bs
first_of (Some b) (Some cs) bs q = record { first = b; others = cs; first_is = refl; others_are = refl; are = cc }
first_of (Some b) None bs q = absurd (cc)
first_of None os bs q = absurd (cc)

module _ (s s1 : List Tree) (g : Grows s s1) where
  module _ (m : Member) (h : MemberIsHeld s m) where
    pub member_later : MemberIsHeld s1 m
    member_later = record { args = held_stays Kind s s1 m.args.now g h.args; equation = omega (arith, h.equation, g.longer) }

    pub same_facts : (bs : List ConstructorBranch) → map (member_branch_fact s1 m) bs ≡ map (member_branch_fact s m) bs
    same_facts bs =
        let mk : List Tree → Tree → ConstructorBranch → FactTree = λ args e b. record { name = Equation m.symbol; vars = m.vars; formula = branch_equation args e m.index b } in
        ap (λ (z : List Tree). map (mk z (tree_at s1 m.equation)) bs) (trees_stay Kind s s1 m.args.now g h.args) ∙ ap (λ (z : Tree). map (mk (trees_at s m.args.now) z) bs) (g.same m.equation.0 h.equation)

    module _ (arms first rest : TermId) (cell : tree_at s arms ≡ Two HCell (tree_at s first) (tree_at s rest)) (k : Holds s rest) where
      split : (bs : List ConstructorBranch) → constructor_branches (tree_at s arms) ≡ Some bs → IsFirst (constructor_branch (tree_at s first)) (constructor_branches (tree_at s rest)) bs
      split bs q = first_of (constructor_branch (tree_at s first)) (constructor_branches (tree_at s rest)) bs (sym (ap constructor_branches cell) ∙ q)

      pub no_branch : BranchesAreSided s m arms → None ≡ constructor_branch (tree_at s first) → ⊥
      no_branch x q = let t = split x.branches x.are in let both : None ≡ Some t.first = q ∙ t.first_is in cc

      pub first_sided : BranchesAreSided s m arms → (b : Branch) → Some (constructor_branch_at s b) ≡ constructor_branch (tree_at s first) → HasSides (sort_of (tree_at s b.body)) (below_quantifiers (tree_at s m.equation))
      first_sided x b q =
          let t = split x.branches x.are in
          let both : Some (constructor_branch_at s b) ≡ Some t.first = q ∙ t.first_is in
          let same : t.first ≡ constructor_branch_at s b = cc in
          let a = subst (All (λ (y : ConstructorBranch). HasSides (sort_of y.body) (below_quantifiers (tree_at s m.equation)))) t.are x.sided in
          subst (λ (y : ConstructorBranch). HasSides (sort_of y.body) (below_quantifiers (tree_at s m.equation))) same (a 0 t.first (omega arith))

      pub others_sided : BranchesAreSided s m arms → BranchesAreSided s1 m rest
      others_sided x =
          let t = split x.branches x.are in
          let a = subst (All (λ (y : ConstructorBranch). HasSides (sort_of y.body) (below_quantifiers (tree_at s m.equation)))) t.are x.sided in
          record {
            branches = t.others;
            are = ap constructor_branches (g.same rest.0 k) ∙ t.others_are;
            sided = subst (λ (e : Tree). All (λ (y : ConstructorBranch). HasSides (sort_of y.body) (below_quantifiers e)) t.others) (sym (g.same m.equation.0 h.equation)) (λ j y l. a (suc j) y (omega (arith, l)));
          }

      -- one branch more
      pub branches_more : (s2 : List Tree) (b : Branch) (old one new : List Said) → Some (constructor_branch_at s b) ≡ constructor_branch (tree_at s first) → facts_at s1 one ≡ facts_at s old ++ member_branch_fact s m (constructor_branch_at s b) ∷ []
          → ((bs : List ConstructorBranch) → constructor_branches (tree_at s1 rest) ≡ Some bs → facts_at s2 new ≡ facts_at s1 one ++ map (member_branch_fact s1 m) bs)
          → (bs : List ConstructorBranch) → constructor_branches (tree_at s arms) ≡ Some bs → facts_at s2 new ≡ facts_at s old ++ map (member_branch_fact s m) bs
      branches_more s2 b old one new q e r bs w =
          let t = split bs w in
          let both : Some (constructor_branch_at s b) ≡ Some t.first = q ∙ t.first_is in
          let same : constructor_branch_at s b ≡ t.first = cc in
          let f = member_branch_fact s m in
          r t.others (ap constructor_branches (g.same rest.0 k) ∙ t.others_are)
          ∙ ap (λ (z : List FactTree). z ++ map (member_branch_fact s1 m) t.others) e
          ∙ ap (λ (z : List FactTree). (facts_at s old ++ f (constructor_branch_at s b) ∷ []) ++ z) (same_facts t.others)
          ∙ append_assoc (facts_at s old) (f (constructor_branch_at s b) ∷ []) (map f t.others)
          ∙ ap (λ (z : ConstructorBranch). facts_at s old ++ f z ∷ map f t.others) same
          ∙ ap (λ (z : List ConstructorBranch). facts_at s old ++ map f z) (sym t.are)

  -- ---- definitions
  entry_later : (o : Option SymbolInfo) → IfSome o (λ (e : SymbolInfo). HoldTypes s e.args) → IfSome o (λ (e : SymbolInfo). HoldTypes s1 e.args)
  entry_later (Some e) h = held_stays Kind s s1 e.args g h
  entry_later None h = tt

  pub fit_later : (infos : List SymbolInfo) (d : Def) → DefinitionIsFit s infos d → DefinitionIsFit s1 infos d
  fit_later infos d h = record {
    held = omega (arith, h.held, g.longer);
    entry = h.entry;
    args = entry_later (slice_get infos d.symbol) h.args;
    sided = subst AreSided (sym (g.same d.equation.0 h.held)) h.sided;
  }

  -- one definition more
  pub members_more : (infos : List SymbolInfo) → All (SymbolHeld s) infos → (d : Def) (rest : List Def) → All (DefinitionIsFit s infos) rest → (old one new : List FactTree)
      → one ≡ old ++ member_facts (symbols_at s infos) (definition_at s d) → new ≡ one ++ flat_map (member_facts (symbols_at s1 infos)) (definitions_at s1 rest)
      → new ≡ old ++ flat_map (member_facts (symbols_at s infos)) (definitions_at s (d ∷ rest))
  members_more infos h d rest a old one new e q =
      let x = member_facts (symbols_at s infos) (definition_at s d) in
      let r = flat_map (member_facts (symbols_at s infos)) (definitions_at s rest) in
      q ∙ ap (λ (z : List SymbolTree). one ++ flat_map (member_facts z) (definitions_at s1 rest)) (symbols_later s s1 g infos h)
      ∙ ap (λ (z : List DefinitionTree). one ++ flat_map (member_facts (symbols_at s infos)) z) (definitions_later s s1 g rest (All-weaker (DefinitionIsFit s infos) (λ (y : Def). Holds s y.equation) (λ y k. k.held) rest a))
      ∙ ap (λ (z : List FactTree). z ++ r) e ∙ append_assoc old x r

-- ---- what a definition says, by its entry
module _ (s : List Tree) (infos : List SymbolInfo) (d : Def) (info : SymbolInfo) (here : slice_get infos d.symbol ≡ Some info) (fit : DefinitionIsFit s infos d) where
  entry_is : symbol_or (symbols_at s infos) d.symbol ≡ symbol_at s info
  entry_is = got_some (symbol_at s) infos d.symbol int_symbol info here

  pub member_held : (m : Member) → m.args.now ≡ info.args → m.equation ≡ d.equation → MemberIsHeld s m
  member_held m a e = record {
    args = subst (HoldTypes s) (sym a) (subst (λ (o : Option SymbolInfo). IfSome o (λ (x : SymbolInfo). HoldTypes s x.args)) here fit.args);
    equation = subst (Holds s) (sym e) fit.held;
  }

  module _ (m : Member) (x : Matched) (is : Some (matched_at s x) ≡ matched_parameter (quantifiers (tree_at s d.equation)) (defining_body (tree_at s d.equation))) where
    abbrev branches : List ConstructorBranch
    branches = branches_or_none (constructor_branches (tree_at s x.arms))

    pub matched_sided : m.equation ≡ d.equation → HasBranches (tree_at s x.arms) → BranchesAreSided s m x.arms
    matched_sided e h = record {
      branches = branches;
      are = h;
      sided = subst (λ (id : TermId). All (λ (b : ConstructorBranch). HasSides (sort_of b.body) (below_quantifiers (tree_at s id))) branches) (sym e) (fit.sided (matched_at s x) (sym is));
    }

    pub branches_said : m.symbol ≡ d.symbol → m.vars ≡ info.vars → m.args.now ≡ info.args → m.equation ≡ d.equation → m.index ≡ x.index → map (member_branch_fact s m) branches ≡ member_facts (symbols_at s infos) (definition_at s d)
    branches_said k n a e i =
        let mk : ℕ → ℕ → List Tree → Tree → ℕ → List FactTree = λ symbol vars args equation index. map (λ (b : ConstructorBranch). record { name = Equation symbol; vars = vars; formula = branch_equation args equation index b }) branches in
        ap (λ (z : ℕ). mk z m.vars (trees_at s m.args.now) (tree_at s m.equation) m.index) k
        ∙ ap (λ (z : ℕ). mk d.symbol z (trees_at s m.args.now) (tree_at s m.equation) m.index) n
        ∙ ap (λ (z : List TermId). mk d.symbol info.vars (trees_at s z) (tree_at s m.equation) m.index) a
        ∙ ap (λ (z : TermId). mk d.symbol info.vars (trees_at s info.args) (tree_at s z) m.index) e
        ∙ ap (mk d.symbol info.vars (trees_at s info.args) (tree_at s d.equation)) i
        ∙ ap (λ (z : SymbolTree). mk d.symbol z.vars z.args (tree_at s d.equation) x.index) (sym entry_is)
        ∙ ap (facts_by (symbols_at s infos) (definition_at s d)) is

  pub whole_said : None ≡ matched_parameter (quantifiers (tree_at s d.equation)) (defining_body (tree_at s d.equation))
      → ◌≡◌ {A = List FactTree} (record { name = Equation d.symbol; vars = info.vars; formula = tree_at s d.equation } ∷ []) (member_facts (symbols_at s infos) (definition_at s d))
  whole_said q =
      ap (λ (z : SymbolTree). record { name = Equation d.symbol; vars = z.vars; formula = tree_at s d.equation } ∷ []) (sym entry_is) ∙ ap (facts_by (symbols_at s infos) (definition_at s d)) q
