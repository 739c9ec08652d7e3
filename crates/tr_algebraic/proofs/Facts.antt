-- Facts of the task that is made, and where they come from.
use Rattle.std.specs.Prelude.{IsSomeAnd}
use Rattle.std.proofs.Common.{◌≡◌, ℕ, ◌≤◌, List, length, slice_get, Option, Some, None, All, refl, sym, ap, subst, ◌∙◌}
use Rattle.tasks.specs.trees.Tree.{Tree, above_params}
use Rattle.tasks.specs.trees.Binding.{inst_types}
use Rattle.tasks.specs.declared.facts.Fact.{Fact}
use Rattle.tasks.specs.declared.facts.Fact.TheVariants as fact
use Rattle.tasks.specs.declared.declaration.Decl.{Decl}
use Rattle.tasks.specs.declared.task.Task.{Task}
use Rattle.tasks.specs.Task.{SymbolTree, DeclarationTree, TaskTree, PropositionTree, props}
use Rattle.tasks.specs.Meaning.{declarations_at, task_at}
use Rattle.tasks.specs.Valid.{IsTypeOver, IsValid}
use Rattle.evidence.specs.Drafts.{DraftTree}
use Rattle.evidence.specs.Facts.{IsFact}
use Rattle.evidence.specs.Stages.{Gives, IsAmong, IsOwnTask}
use Rattle.evidence.proofs.task_parts.One.{among_one}
use Rattle.walking.proofs.rewriting.Facts.{own_proposition}
use Rattle.walking.specs.rewriting.Facts.{IsImageAt}
use Rattle.tr_match.specs.match_forms.Forms.{without_matches}
use Rattle.tr_algebraic.specs.declared.algebraic_forms.origins.LawKind.{LawKind}
use Rattle.tr_algebraic.specs.declared.algebraic_tasks.origins.PropositionOrigin.{PropositionOrigin}
use Rattle.tr_algebraic.specs.declared.algebraic_tasks.origins.PropositionOrigin.TheVariants.{Proposition, Law}
use Rattle.tr_algebraic.specs.algebraic_tasks.Origins.{placed_from, origins, IsLawThere, ComesFrom}
use Rattle.tr_algebraic.proofs.algebraic_tasks.Named.{fact_before}
use Rattle.tr_algebraic.proofs.algebraic_tasks.Placed.{proposition_from, proposition_listed}
use Rattle.tr_algebraic.specs.law_evidence.Laws.{IsLawOf}
use Rattle.tr_algebraic.proofs.law_evidence.GroupLaws.{group_laws_are_laws}
use Rattle.tr_algebraic.specs.Equation.{algebraic_task, algebraic_equation}
use Rattle.tr_algebraic.specs.Kept.{algebraic_one, algebraic_kept}
use Rattle.tr_algebraic.proofs.Parameters.{no_parameters_at}

-- the list of origins by which one is looked for
pub origin_is : (d : DraftTree) (from : Task) → IsOwnTask d from → (s : List Tree) (ds : List Decl) (k : ℕ) (r : Option PropositionOrigin) → s ≡ d.trees → ds ≡ from.decls
    → ((symbols : List SymbolTree) → r ≡ slice_get (origins (placed_from symbols 0 (declarations_at s ds))) k) → slice_get (origins (placed_from d.task.symbols 0 d.task.decls)) k ≡ r
origin_is d from own s ds k r p q h =
    let at : List DeclarationTree → Option PropositionOrigin = λ xs. slice_get (origins (placed_from d.task.symbols 0 xs)) k in
    let e : declarations_at s ds ≡ d.task.decls = ap (λ (z : List Tree). declarations_at z ds) p ∙ ap (declarations_at d.trees) q ∙ ap (λ (t : TaskTree). t.decls) own.is in
    sym (h d.task.symbols ∙ ap at e)

module _ (t u : TaskTree) (valid : IsValid t) (a : IsAmong (Gives algebraic_equation t) u) (types : List Tree) (formula : Tree) where
  abbrev new : TaskTree
  new = algebraic_task t

  is_made : u ≡ new
  is_made = among_one (λ (z : TaskTree). z ≡ new) (Gives algebraic_equation t) new u a (algebraic_one t a.tasks a.is).0 refl

  of_made : (name : Fact) → IsFact t u name types formula → IsFact t new name types formula
  of_made name f = subst (λ (z : TaskTree). IsFact t z name types formula) is_made f

  -- other facts than propositions
  pub other_old : (name : Fact) → ((k : ℕ) → name ≡ fact.Proposition k → ⊥) → IsFact t u name types formula → IsFact t t name types formula
  other_old name n f = fact_before t (without_matches t) name types formula n (of_made name f)

  -- the formula is a proposition at the types
  record IsSaid (k : ℕ) (p : PropositionTree) : Type 0 where
    there : slice_get (props new) k ≡ Some p
    as_many : length types ≡ p.vars
    is : formula ≡ inst_types p.formula types

  said_by_some : (k : ℕ) (o : Option PropositionTree) → slice_get (props new) k ≡ o → IsSomeAnd o (λ p. (length types ≡ p.vars) × (formula ≡ inst_types p.formula types)) → (p : PropositionTree) × IsSaid k p
  said_by_some k None e h = absurd h
  said_by_some k (Some p) e h = (p, record { there = e; as_many = h.0; is = h.1 })

  said_there : (k : ℕ) → IsFact t u (fact.Proposition k) types formula → (p : PropositionTree) × IsSaid k p
  said_there k f = said_by_some k (slice_get (props new) k) refl (of_made (fact.Proposition k) f).said

  abbrev origin_at : ℕ → Option PropositionOrigin
  origin_at k = slice_get (origins (placed_from t.symbols 0 t.decls)) k

  -- it comes from the proposition of a number
  pub image_there : (k number : ℕ) → IsFact t u (fact.Proposition k) types formula → origin_at k ≡ Some (Proposition number) → IsImageAt t (without_matches t) number types formula
  image_there k number f e =
      let s = said_there k f in
      let o : ComesFrom t (without_matches t) (Proposition number) s.0 = proposition_from t (without_matches t) k (Proposition number) s.0 s.1.there e in
      record {
        at = record { proposition = o.0; there = o.1; as_many = s.1.as_many ∙ ap (λ (p : PropositionTree). p.vars) o.2; ground = f.ground };
        is = s.1.is ∙ ap (λ (p : PropositionTree). inst_types p.formula types) o.2;
      }

  -- or it is a law
  law_of_kind : (kind : LawKind) (p : PropositionTree) → IsLawThere t.symbols t.decls kind p → length types ≡ p.vars → formula ≡ inst_types p.formula types → All (IsTypeOver t 0) types → IsLawOf t kind formula
  law_of_kind kind p l n e ground =
      let m : IsLawOf t l.law.kind (inst_types l.law.formula types) = group_laws_are_laws t valid l.decl l.there l.types l.body l.law l.among types (n ∙ sym (ap (λ (q : PropositionTree). q.vars) l.says)) ground in
      let is : inst_types l.law.formula types ≡ formula = ap (λ (q : PropositionTree). inst_types q.formula types) l.says ∙ sym e in
      subst (λ (k : LawKind). IsLawOf t k formula) l.kind_is (subst (IsLawOf t l.law.kind) is m)

  pub law_there : (k : ℕ) (kind : LawKind) → IsFact t u (fact.Proposition k) types formula → origin_at k ≡ Some (Law kind) → IsLawOf t kind formula
  law_there k kind f e =
      let s = said_there k f in
      law_of_kind kind s.0 (proposition_from t (without_matches t) k (Law kind) s.0 s.1.there e) s.1.as_many s.1.is f.ground

  pub law_below : (k : ℕ) → IsFact t u (fact.Proposition k) types formula → above_params formula ≤ 0
  law_below k f =
      let s = said_there k f in
      let good = own_proposition new (algebraic_kept t a.tasks valid a.is).valid k s.0 s.1.there in
      subst (λ (z : Tree). above_params z ≤ 0) (sym s.1.is) (no_parameters_at t types f.ground s.0.formula good.parameters)

  pub none_there : (k : ℕ) → IsFact t u (fact.Proposition k) types formula → origin_at k ≡ None → ⊥
  none_there k f e = let s = said_there k f in proposition_listed t (without_matches t) k s.0 s.1.there e
