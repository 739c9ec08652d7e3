-- The facts of a task whose declarations are rewritten, by their names in the old one.
use Rattle.std.specs.Prelude.{IsSomeAnd}
use Rattle.std.specs.Option.{option_map, option_and_then}
use Rattle.std.specs.List.{Contains}
use Rattle.std.proofs.Common.{Option, Some, None, inl, inr, ◌≡◌, ℕ, zero, suc, List, [], ◌∷◌, map, length, slice_get, refl, sym, ap, subst, ◌∙◌, arith}
use Rattle.trees.specs.Tree.{Tree}
use Rattle.trees.specs.Binding.{inst_types}
use Rattle.tasks.specs.declared.facts.Fact.{Fact}
use Rattle.tasks.specs.declared.facts.Fact.TheVariants as fact
use Rattle.tasks.specs.Task.{TaskTree, PropositionTree, symbol_or}
use Rattle.tasks.specs.Roles.{RoleTree, PlainRole, role}
use Rattle.tasks.specs.Facts.{FactTree}
use Rattle.tasks.specs.Inversion.{inversion}
use Rattle.tasks.specs.Looking.{fact_name}
use Rattle.tasks.specs.Valid.{IsValid}
use Rattle.rules.specs.Rows.{equation, clauses}
use Rattle.evidence.specs.Facts.{at_symbol, fact_named, IsFoundByName, IsFact}
use Rattle.evidence.proofs.FactNames.{all_named}
use Rattle.declarations.specs.Rewritten.{DeclarationRule, rewritten_task, KeepsMade}
use Rattle.declarations.specs.Said.{Sayings, all_said, content, AreSaid, AreOwnFacts}
use Rattle.declarations.specs.Names.{IsOldName}
use Rattle.declarations.specs.lemmas.Rewritten.{roles_rewritten}
use Rattle.declarations.specs.lemmas.Said.{said_props, said_listed}

-- what is at a place of a list of contents
record IsAt (xs : List FactTree) (k : ℕ) (p : PropositionTree) (x : FactTree) : Type 0 where
  there : Contains xs x
  name : slice_get (map fact_name xs) k ≡ Some x.name
  content_is : content x ≡ p

at_place : (xs : List FactTree) (k : ℕ) (p : PropositionTree) → slice_get (map content xs) k ≡ Some p → (x : FactTree) × IsAt xs k p x
at_place [] k p e = absurd (cc)
at_place (x ∷ xs) zero p e = (x, record { there = (0, omega arith, refl); name = refl; content_is = cc })
at_place (x ∷ xs) (suc k) p e =
    let r = at_place xs k p e in
    let l = r.1.there.1 in
    (r.0, record { there = (suc r.1.there.0, omega arith, r.1.there.2); name = r.1.name; content_is = r.1.content_is })

module _ (g : DeclarationRule) (h : KeepsMade g) (w : Sayings) (says : AreSaid g w) (are : AreOwnFacts w) (t : TaskTree) (valid : IsValid t) where
  abbrev new : TaskTree
  new = rewritten_task g t

  found : (x : FactTree) → Contains (all_said w t) x → IsFoundByName t x
  found x c =
      let f = said_listed w are t.symbols 0 t.decls x c in
      subst (IsFoundByName t) f.2 (all_named t valid f.0 x f.1)

  said_at : (k : ℕ) (p : PropositionTree) → fact_named new (fact.Proposition k) ≡ Some p → (x : FactTree) × IsAt (all_said w t) k p x
  said_at k p e = at_place (all_said w t) k p (ap (λ (ps : List PropositionTree). slice_get ps k) (sym (said_props g w says t.symbols 0 t.decls)) ∙ e)

  pub old_proposition : (k : ℕ) (old : Fact) → slice_get (map fact_name (all_said w t)) k ≡ Some old → IsOldName t new (fact.Proposition k) old
  old_proposition k old q p e =
      let r = said_at k p e in
      let same : r.0.name ≡ old = let both : Some r.0.name ≡ Some old = sym r.1.name ∙ q in cc in
      ap (fact_named t) (sym same) ∙ found r.0 r.1.there ∙ ap (λ (z : PropositionTree). Some z) r.1.content_is

  pub no_proposition : (k : ℕ) (old : Fact) → slice_get (map fact_name (all_said w t)) k ≡ None → IsOldName t new (fact.Proposition k) old
  no_proposition k old q p e = let r = said_at k p e in absurd (let both : Some r.0.name ≡ None = sym r.1.name ∙ q in cc)

  -- a fact of a group that stays has its name
  by_role : (k : ℕ) (of : RoleTree → Option PropositionTree) → of PlainRole ≡ None → (p : PropositionTree) → of (role new k) ≡ Some p → of (role t k) ≡ Some p
  by_role k of none p e = elim (roles_rewritten g h t k) [
    | inl q ↦ absurd (let both : None ≡ Some p = sym none ∙ sym (ap of q) ∙ e in cc)
    | inr q ↦ sym (ap of q) ∙ e
  ]

  pub old_equation : (k : ℕ) → IsOldName t new (fact.Equation k) (fact.Equation k)
  old_equation k p e = by_role k (λ r. option_map (at_symbol t k) (equation r)) refl p e

  pub old_clause : (k c : ℕ) → IsOldName t new (fact.Clause k c) (fact.Clause k c)
  old_clause k c p e = by_role k (λ r. option_map (at_symbol t k) (option_and_then (λ cs. slice_get cs c) (clauses r))) refl p e

  pub old_inversion : (k : ℕ) → IsOldName t new (fact.Inversion k) (fact.Inversion k)
  old_inversion k p e = by_role k (λ r. option_map (λ cs. at_symbol t k (inversion k (symbol_or t.symbols k) cs)) (clauses r)) refl p e

-- a fact of the new task is, by its name in the old one, a fact of the old task
pub fact_there : (t new : TaskTree) (name old : Fact) (types : List Tree) (formula : Tree) → IsOldName t new name old → IsFact t new name types formula → IsFact t t old types formula
fact_there t new name old types formula o i = record { said = by (fact_named new name) refl i.said; ground = i.ground }
  where
    by : (n : Option PropositionTree) → fact_named new name ≡ n → IsSomeAnd n (λ p. (length types ≡ p.vars) × (formula ≡ inst_types p.formula types)) → IsSomeAnd (fact_named t old) (λ p. (length types ≡ p.vars) × (formula ≡ inst_types p.formula types))
    by None e s = absurd s
    by (Some p) e s = subst (λ (n : Option PropositionTree). IsSomeAnd n (λ q. (length types ≡ q.vars) × (formula ≡ inst_types q.formula types))) (sym (o p e)) s
