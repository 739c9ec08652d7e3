-- What follows from a definition's equation: the equation at types, or that of a branch.
use Rattle.std.specs.Prelude.{IsSomeAnd}
use Rattle.std.specs.Option.{option_map}
use Rattle.std.proofs.Common.{◌≡◌, inl, inr, ℕ, suc, List, [], ◌∷◌, length, All, Option, Some, refl, sym, ap, subst, ◌∙◌, arith}
use Rattle.tasks.specs.trees.declared.TermId.{TermId}
use Rattle.tasks.specs.trees.Tree.{Tree}
use Rattle.tasks.specs.trees.Node.{tree_at, trees_at, Holds}
use Rattle.tasks.specs.trees.Binding.{inst_types}
use Rattle.tasks.specs.declared.declaration.Def.{Def}
use Rattle.tasks.specs.declared.facts.Fact.{Fact}
use Rattle.tasks.specs.declared.facts.Fact.TheVariants as fact
use Rattle.tasks.specs.Task.{TaskTree, DefinitionTree, PropositionTree, symbol_or}
use Rattle.tasks.specs.declared.roles.Role.{Role}
use Rattle.tasks.specs.declared.roles.Role.TheVariants as made
use Rattle.tasks.specs.declared.task.Task.{Task}
use Rattle.tasks.specs.Roles.{RoleTree, DefinedRole, role}
use Rattle.tasks.specs.Looking.{role_at}
use Rattle.tasks.specs.Meaning.{definition_at, task_at}
use Rattle.tasks.specs.Vocabulary.{of_task}
use Rattle.tasks.specs.Valid.{IsTypeOver, IsDefinition, IsValid}
use Rattle.evidence.specs.Drafts.{DraftTree}
use Rattle.evidence.specs.Facts.{at_symbol, fact_named, IsFact}
use Rattle.evidence.specs.Stages.{IsOwnTask}
use Rattle.trees.specs.binders.Visits.{HoldTypes}
use Rattle.tr_recursion.specs.branch_steps.Instances.{IsBranchAt}
use Rattle.congruence.specs.kernel.rules.Rows.{equation}
use Rattle.tr_inline.specs.Definitions.{IsDefinedIn}
use Rattle.tr_recursion.specs.Followed.{IsBranchFact, FollowsFrom, FollowsFromEquation}
use Rattle.tr_recursion.proofs.Followed.{IsAtTypes}
use Rattle.evidence.proofs.FactNames.{equation_symbol as same_symbol}

module _ (t : TaskTree) (k : ℕ) where
  role_by_some : (r : RoleTree) → role t k ≡ r → (P : PropositionTree → Type 0) → IsSomeAnd (option_map (at_symbol t k) (equation r)) P → (e : Tree) × (role t k ≡ DefinedRole e)
  role_by_some (DefinedRole e) q P s = (e, q)
  role_by_some _ q P s = absurd s

  named_defined : (p : PropositionTree) → fact_named t (fact.Equation k) ≡ Some p → (e : Tree) × (role t k ≡ DefinedRole e)
  named_defined p q = role_by_some (role t k) refl (λ z. Unit {0}) (subst (λ (o : Option PropositionTree). IsSomeAnd o (λ z. Unit {0})) (sym q) tt)

  pub is_defined : (types : List Tree) (formula : Tree) → FollowsFromEquation t k types formula → (e : Tree) × (role t k ≡ DefinedRole e)
  is_defined types formula (inl i) = role_by_some (role t k) refl (IsAtTypes types formula) i.said
  is_defined types formula (inr b) =
      let s : b.member.symbol ≡ k = sym (same_symbol k b.member.symbol b.name_is) in
      named_defined (at_symbol t b.member.symbol b.member.equation) (ap (λ (j : ℕ). fact_named t (fact.Equation j)) (sym s) ∙ b.named)

  pub ground_types : (types : List Tree) (formula : Tree) → FollowsFromEquation t k types formula → All (IsTypeOver t 0) types
  ground_types types formula (inl i) = i.ground
  ground_types types formula (inr b) = b.branch.ground

-- types of the task, by number
pub hold_types : (t : TaskTree) (s : List Tree) (ids : List TermId) → All (Holds s) ids → All (IsTypeOver t 0) (trees_at s ids) → HoldTypes s ids
hold_types t s [] h g = tt
hold_types t s (id ∷ ids) h g =
    ((h 0 id (omega arith), (g 0 (tree_at s id) (omega arith)).sort), hold_types t s ids (λ i e l. h (suc i) e (omega (arith, l))) (λ i e l. g (suc i) e (omega (arith, l))))

some_proposition : (p q : PropositionTree) → Some p ≡ Some q → p ≡ q
some_proposition p q e = cc

module _ (d : DraftTree) (def : Def) (r : role d.task def.symbol ≡ DefinedRole (tree_at d.trees def.equation)) (types : List Tree) (formula : Tree) where
  abbrev t : TaskTree
  t = d.task

  abbrev k : ℕ
  k = def.symbol

  abbrev e : Tree
  e = tree_at d.trees def.equation

  named : fact_named t (fact.Equation k) ≡ Some (at_symbol t k e)
  named = ap (λ (z : RoleTree). option_map (at_symbol t k) (equation z)) r

  at_types : IsFact t t (fact.Equation k) types formula → IsAtTypes types formula (at_symbol t k e)
  at_types i = subst (λ (o : Option PropositionTree). IsSomeAnd o (IsAtTypes types formula)) named i.said

  as_many : FollowsFromEquation t k types formula → length types ≡ (symbol_or t.symbols k).vars
  as_many (inl i) = (at_types i).0
  as_many (inr b) = b.branch.as_many ∙ ap (λ (j : ℕ). (symbol_or t.symbols j).vars) (sym (same_symbol k b.member.symbol b.name_is))

  -- the equation itself
  pub whole_fact : FollowsFromEquation t k types formula → formula ≡ inst_types e types → IsFact t t (fact.Equation k) types formula
  whole_fact f q = record {
    said = subst (λ (o : Option PropositionTree). IsSomeAnd o (IsAtTypes types formula)) (sym named) (as_many f, q);
    ground = ground_types t k types formula f;
  }

  -- a branch
  branch_of : FollowsFromEquation t k types formula → (formula ≡ inst_types e types → ⊥) → IsBranchFact t (fact.Equation k) types formula
  branch_of (inl i) n = absurd (n (at_types i).1)
  branch_of (inr b) n = b

  member_is : (b : IsBranchFact t (fact.Equation k) types formula) → b.member ≡ definition_at d.trees def
  member_is b =
      let s : b.member.symbol ≡ k = sym (same_symbol k b.member.symbol b.name_is) in
      let n : Some (at_symbol t b.member.symbol b.member.equation) ≡ Some (at_symbol t k e) = sym b.named ∙ ap (λ (j : ℕ). fact_named t (fact.Equation j)) s ∙ named in
      let q : b.member.equation ≡ e = ap (λ (p : PropositionTree). p.formula) (some_proposition _ _ n) in
      ap (λ (j : ℕ). record { symbol = j; equation = b.member.equation }) s ∙ ap (λ (z : Tree). record { symbol = k; equation = z }) q

  pub branch_defined : FollowsFromEquation t k types formula → (formula ≡ inst_types e types → ⊥) → Holds d.trees def.equation → IsValid t → IsDefinedIn d def
  branch_defined f n h valid =
      let b = branch_of f n in
      record { held = h; valid = valid; defined = subst (IsDefinition (of_task t)) (member_is b) b.defined; named = named }

  pub branch_at : FollowsFromEquation t k types formula → (formula ≡ inst_types e types → ⊥) → IsBranchAt t (definition_at d.trees def) types formula
  branch_at f n = let b = branch_of f n in subst (λ (m : DefinitionTree). IsBranchAt t m types formula) (member_is b) b.branch

-- ---- a fact of another name is that of the old task
pub other_fact : (t : TaskTree) (name : Fact) (types : List Tree) (formula : Tree) → ((k : ℕ) → name ≡ fact.Equation k → ⊥) → FollowsFrom t name types formula → IsFact t t name types formula
other_fact t name types formula n (inl i) = i
other_fact t name types formula n (inr b) = absurd (n b.member.symbol b.name_is)

-- ---- the equation of a symbol, read off the draft's own task
pub none_else : (s : List Tree) (r : Role) → ((e : TermId) → r ≡ made.Defined e → ⊥) → (e : Tree) → role_at s r ≡ DefinedRole e → ⊥
none_else s (made.Defined x) n e q = n x refl
none_else s made.Plain n e q = cc
none_else s (made.Inductive cs) n e q = cc
none_else s (made.Algebraic cs) n e q = cc
none_else s (made.Constructor c) n e q = cc
none_else s (made.Projection c j) n e q = cc

pub read_role : (d : DraftTree) (from look : Task) (s : List Tree) (k : ℕ) (r : Role) → IsOwnTask d from → s ≡ d.trees → look ≡ from → role_at s r ≡ role (task_at s look) k → role_at d.trees r ≡ role d.task k
read_role d from look s k r own e l q =
    subst (λ (z : List Tree). role_at z r ≡ role (task_at z look) k) e q ∙ ap (λ (z : Task). role (task_at d.trees z) k) l ∙ ap (λ (z : TaskTree). role z k) own.is
