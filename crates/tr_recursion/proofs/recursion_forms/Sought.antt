-- The names of what recursive definitions say, by places.
use Rattle.std.specs.List.{flat_map}
use Rattle.std.proofs.Common.{◌≡◌, ◌≢◌, ℕ, ◌+◌, ◌-◌, Bool, if◌then◌else◌, List, [], ◌∷◌, ◌++◌, map, length, slice_get, Some, None, refl, sym, ap, subst, ◌∙◌}
use Rattle.std.proofs.lemmas.List.{map-append}
use Rattle.trees.specs.Tree.{Tree, Two, HCell}
use Rattle.tasks.specs.declared.declaration.Def.{Def}
use Rattle.tasks.specs.declared.declaration.Body.{Body}
use Rattle.tasks.specs.declared.declaration.Body.TheVariants.{TypeSymbol, Symbol, Defs, Inductives, Algebraics, Prop}
use Rattle.tasks.specs.declared.facts.Fact.{Fact}
use Rattle.tasks.specs.declared.facts.Fact.TheVariants.{Equation}
use Rattle.tasks.specs.Task.{SymbolTree, DefinitionTree, DeclarationTree}
use Rattle.tasks.specs.Looking.{fact_name}
use Rattle.tasks.specs.Meaning.{definition_at, definitions_at, body_at}
use Rattle.declarations.specs.declared.rule.FactSearch.{FactSearch}
use Rattle.declarations.specs.Said.{own_said, IsFactSearch}
use Rattle.declarations.proofs.Places.{slice_left}
use Rattle.checks.specs.recursive_groups.Groups.{is_recursive}
use Rattle.declarations.specs.spelled_groups.Spelled.{said_of}
use Rattle.declarations.proofs.spelled_groups.SoughtClauses.{after_right, after_one}
use Rattle.tr_inline.specs.inlining.branch_equations.Branches.{ConstructorBranch, constructor_branch, constructor_branches, branch_fact, member_facts, recursion_facts}
use Rattle.tr_recursion.proofs.recursion_forms.Definitions.{first_of}

-- ---- the branches of a definition
module _ (symbols : List SymbolTree) (d : DefinitionTree) (i : ℕ) where
  abbrev pub branch_names : List ConstructorBranch → List Fact
  branch_names bs = map fact_name (map (branch_fact symbols d i) bs)

  module _ (e first rest : Tree) (cell : e ≡ Two HCell first rest) (bs : List ConstructorBranch) (w : constructor_branches e ≡ Some bs) where
    pub here_in_branches : slice_get (branch_names bs) 0 ≡ Some (Equation d.symbol)
    here_in_branches =
        let t = first_of (constructor_branch first) (constructor_branches rest) bs (sym (ap constructor_branches cell) ∙ w) in
        ap (λ (z : List ConstructorBranch). slice_get (branch_names z) 0) t.are

    pub after_in_branches : (k : ℕ) (r : FactSearch) → k ≢ 0 → ((cs : List ConstructorBranch) → constructor_branches rest ≡ Some cs → IsFactSearch (branch_names cs) (k - 1) r) → IsFactSearch (branch_names bs) k r
    after_in_branches k r n h =
        let t = first_of (constructor_branch first) (constructor_branches rest) bs (sym (ap constructor_branches cell) ∙ w) in
        subst (λ (z : List ConstructorBranch). IsFactSearch (branch_names z) k r) (sym t.are) (after_one (Equation d.symbol) (branch_names t.others) k r n (h t.others t.others_are))

-- ---- definitions
module _ (s : List Tree) (symbols : List SymbolTree) (d : Def) (rest : List Def) (k : ℕ) where
  abbrev own : List Fact
  own = map fact_name (member_facts symbols (definition_at s d))

  abbrev later : List Fact
  later = map fact_name (flat_map (member_facts symbols) (definitions_at s rest))

  joined : map fact_name (flat_map (member_facts symbols) (definitions_at s (d ∷ rest))) ≡ own ++ later
  joined = map-append fact_name (member_facts symbols (definition_at s d)) (flat_map (member_facts symbols) (definitions_at s rest))

  pub members_here : (name : Fact) → slice_get own k ≡ Some name → slice_get (map fact_name (flat_map (member_facts symbols) (definitions_at s (d ∷ rest)))) k ≡ Some name
  members_here name e = slice_left own later (map fact_name (flat_map (member_facts symbols) (definitions_at s (d ∷ rest)))) k name joined e

  pub members_after : (left : ℕ) (r : FactSearch) → length own + left ≡ k → IsFactSearch later left r → IsFactSearch (map fact_name (flat_map (member_facts symbols) (definitions_at s (d ∷ rest)))) k r
  members_after left r e h = subst (λ (z : List Fact). IsFactSearch z k r) (sym joined) (after_right own later k left r e h)

-- ---- groups
module _ (s : List Tree) (symbols : List SymbolTree) (n : ℕ) (d : DeclarationTree) (b : Body) where
  pub group_said : (defs : List Def) (t : Bool) → b ≡ Defs defs → is_recursive (definitions_at s defs) ≡ t
      → said_of n d (recursion_facts symbols (body_at s b)) ≡ said_of n d (if t then Some (flat_map (member_facts symbols) (definitions_at s defs)) else None)
  group_said defs t e r =
      ap (λ (z : Body). said_of n d (recursion_facts symbols (body_at s z))) e ∙ ap (λ (z : Bool). said_of n d (if z then Some (flat_map (member_facts symbols) (definitions_at s defs)) else None)) r

-- what stays says what it says itself
pub others_said : (s : List Tree) (symbols : List SymbolTree) (n : ℕ) (d : DeclarationTree) (b : Body) → ((defs : List Def) → b ≡ Defs defs → ⊥) → said_of n d (recursion_facts symbols (body_at s b)) ≡ own_said n d d.body
others_said s symbols n d (Defs defs) h = absurd (h defs refl)
others_said s symbols n d (TypeSymbol k) h = refl
others_said s symbols n d (Symbol k) h = refl
others_said s symbols n d (Inductives is) h = refl
others_said s symbols n d (Algebraics ts) h = refl
others_said s symbols n d (Prop a) h = refl
