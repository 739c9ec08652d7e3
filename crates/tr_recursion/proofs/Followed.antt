-- Facts of the spelled-out task: from which facts of the old one they follow.
use Rattle.std.specs.Prelude.{IsSomeAnd}
use Rattle.std.specs.Option.{option_map, option_and_then}
use Rattle.std.proofs.Common.{◌≡◌, inl, inr, ℕ, List, [], ◌∷◌, map, length, slice_get, Option, Some, None, refl, sym, ap, subst, ◌∙◌, arith}
use Rattle.tasks.specs.trees.Tree.{Tree}
use Rattle.tasks.specs.trees.Binding.{inst_types}
use Rattle.tasks.specs.declared.facts.Fact.{Fact}
use Rattle.tasks.specs.declared.facts.Fact.TheVariants as fact
use Rattle.tasks.specs.Task.{TaskTree, PropositionTree, symbol_or}
use Rattle.tasks.specs.Roles.{RoleTree, PlainRole, role}
use Rattle.tasks.specs.Facts.{FactTree}
use Rattle.tasks.specs.Inversion.{inversion}
use Rattle.tasks.specs.Looking.{fact_name}
use Rattle.tasks.specs.Vocabulary.{of_task}
use Rattle.tasks.specs.Valid.{IsValid}
use Rattle.evidence.specs.Facts.{at_symbol, fact_named, IsFact}
use Rattle.evidence.specs.Stages.{Gives, IsAmong, task_or}
use Rattle.declarations.specs.Rewritten.{rewritten_task}
use Rattle.declarations.specs.Said.{all_said, content}
use Rattle.declarations.specs.Names.{IsOldName}
use Rattle.declarations.specs.lemmas.Rewritten.{roles_rewritten}
use Rattle.declarations.proofs.Names.{fact_there}
use Rattle.declarations.proofs.Stage.{one_task}
use Rattle.tr_define.specs.declarations.spelled_groups.Spelled.{spelling_rule, spelling_said}
use Rattle.tr_define.specs.declarations.spelled_groups.Kept.{spelling_keeps, spelling_props}
use Rattle.tr_define.specs.declarations.spelled_groups.Inductives.{IsSmallTree}
use Rattle.tr_inline.specs.inlining.branch_equations.Branches.{branch_fact, recursion_facts}
use Rattle.tr_inline.proofs.inlining.branch_equations.Formulas.{recursions_spelling}
use Rattle.tr_recursion.specs.branch_instances.Origins.{IsBranchOf, IsOldFact}
use Rattle.tr_recursion.proofs.branch_instances.Origins.{old_fact_of, some_old}
use Rattle.congruence.specs.kernel.rules.Rows.{equation, clauses}
use Rattle.tr_recursion.specs.Kept.{recursions_equation}
use Rattle.tr_recursion.specs.Followed.{IsBranchFact, FollowsFrom}

-- a fact of a formula at types
abbrev pub IsAtTypes : List Tree → Tree → PropositionTree → Type 0
IsAtTypes types formula p = (length types ≡ p.vars) × (formula ≡ inst_types p.formula types)

module _ (t : TaskTree) (valid : IsValid t) where
  abbrev new : TaskTree
  new = rewritten_task (spelling_rule recursion_facts) t

  module _ (u : TaskTree) (a : IsAmong (Gives recursions_equation t) u) where
    new_is : u ≡ new
    new_is =
        let one : a.tasks ≡ new ∷ [] = one_task (spelling_rule recursion_facts) t a.tasks a.is in
        let n : a.place ≡ 0 = omega (arith, a.within, ap length one) in
        sym a.there ∙ ap (λ (ts : List TaskTree). task_or ts a.place) one ∙ ap (task_or (new ∷ [])) n

    there : (name : Fact) (types : List Tree) (formula : Tree) → IsFact t u name types formula → IsFact t new name types formula
    there name types formula i = subst (λ (z : TaskTree). IsFact t z name types formula) new_is i

    -- ---- a proposition
    pub followed : (k : ℕ) (old : Fact) (types : List Tree) (formula : Tree) → Some old ≡ slice_get (map fact_name (all_said (spelling_said recursion_facts) t)) k → IsFact t u (fact.Proposition k) types formula → FollowsFrom t old types formula
    followed k old types formula e i = by (fact_named new (fact.Proposition k)) refl (there (fact.Proposition k) types formula i).said
      where
        same : (p : PropositionTree) (o : IsOldFact t old p) → o.said ≡ o.fact → IsAtTypes types formula p → IsFact t t old types formula
        same p o q s =
            let n : fact_named t old ≡ Some p = o.named ∙ ap (λ (f : FactTree). Some (content f)) (sym q) ∙ ap (λ (z : PropositionTree). Some z) o.content_is in
            record { said = subst (λ (z : Option PropositionTree). IsSomeAnd z (IsAtTypes types formula)) (sym n) s; ground = i.ground }

        branch : (p : PropositionTree) (o : IsOldFact t old p) → IsBranchOf (of_task t) o.said o.fact → IsAtTypes types formula p → IsBranchFact t old types formula
        branch p o b s =
            let n : old ≡ fact.Equation b.member.symbol = sym o.name ∙ ap (λ (f : FactTree). f.name) b.equation in
            let c : p ≡ content (branch_fact t.symbols b.member b.index b.branch) = sym o.content_is ∙ ap content b.is in
            record {
              member = b.member;
              name_is = n;
              defined = b.defined;
              named = ap (fact_named t) (sym n) ∙ o.named ∙ ap (λ (f : FactTree). Some (content f)) b.equation;
              branch = record {
                index = b.index;
                branches = b.branches;
                matched = b.matched;
                place = b.place;
                branch = b.branch;
                there = b.there;
                as_many = s.0 ∙ ap (λ (z : PropositionTree). z.vars) c;
                ground = i.ground;
                is = s.1 ∙ ap (λ (z : PropositionTree). inst_types z.formula types) c;
              };
            }

        either : (p : PropositionTree) (o : IsOldFact t old p) → IsAtTypes types formula p → FollowsFrom t old types formula
        either p o s = elim o.from [
          | inl q ↦ inl (same p o q s)
          | inr b ↦ inr (branch p o b s)
        ]

        by : (o : Option PropositionTree) → fact_named new (fact.Proposition k) ≡ o → IsSomeAnd o (IsAtTypes types formula) → FollowsFrom t old types formula
        by None q s = absurd s
        by (Some p) q s = either p (old_fact_of t valid (spelling_props recursion_facts) k p old q (sym e)) s

    pub none_followed : (k : ℕ) (types : List Tree) (formula : Tree) → None ≡ slice_get (map fact_name (all_said (spelling_said recursion_facts) t)) k → IsFact t u (fact.Proposition k) types formula → ⊥
    none_followed k types formula e i = by (fact_named new (fact.Proposition k)) refl (there (fact.Proposition k) types formula i).said
      where
        by : (o : Option PropositionTree) → fact_named new (fact.Proposition k) ≡ o → IsSomeAnd o (IsAtTypes types formula) → ⊥
        by None q s = s
        by (Some p) q s = some_old t valid (spelling_props recursion_facts) k p q (sym e)

    -- ---- a fact of a group that stays
    by_role : (k : ℕ) (of : RoleTree → Option PropositionTree) → of PlainRole ≡ None → (p : PropositionTree) → of (role new k) ≡ Some p → of (role t k) ≡ Some p
    by_role k of none p e = elim (roles_rewritten (spelling_rule recursion_facts) (spelling_keeps IsSmallTree recursion_facts recursions_spelling) t k) [
      | inl q ↦ absurd (let both : None ≡ Some p = sym none ∙ sym (ap of q) ∙ e in cc)
      | inr q ↦ sym (ap of q) ∙ e
    ]

    same_name : (name : Fact) → ((k : ℕ) → name ≡ fact.Proposition k → ⊥) → IsOldName t new name name
    same_name (fact.Proposition k) n = absurd (n k refl)
    same_name (fact.Equation k) n = λ p e. by_role k (λ r. option_map (at_symbol t k) (equation r)) refl p e
    same_name (fact.Clause k c) n = λ p e. by_role k (λ r. option_map (at_symbol t k) (option_and_then (λ cs. slice_get cs c) (clauses r))) refl p e
    same_name (fact.Inversion k) n = λ p e. by_role k (λ r. option_map (λ cs. at_symbol t k (inversion k (symbol_or t.symbols k) cs)) (clauses r)) refl p e

    pub fact_stays : (name : Fact) (types : List Tree) (formula : Tree) → ((k : ℕ) → name ≡ fact.Proposition k → ⊥) → IsFact t u name types formula → IsFact t t name types formula
    fact_stays name types formula n i = fact_there t new name name types formula (same_name name n) (there name types formula i)
