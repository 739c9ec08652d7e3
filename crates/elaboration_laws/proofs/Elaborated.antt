-- What `elaborate` gives is valid.
use Rattle.std.proofs.Common.{◌≡◌, ℕ, length, List, [], ◌∷◌, ◌++◌, map, All, Option, Some, None, IfSome, refl, sym, ap, subst, suc, arith}
use Rattle.std.proofs.lemmas.List.Elements.{All-nil, All-cons}
use Rattle.elab_groups.specs.trees.Tree.{Tree}
use Rattle.elab_groups.specs.trees.declared.TermId.{TermId}
use Rattle.elab_groups.specs.trees.Node.{Holds, tree_at}
use Rattle.elab_groups.specs.trees.Sorts.{WellSorted}
use Rattle.elab_groups.specs.trees.Facts.{IndicesFit}
use Rattle.elab_groups.proofs.trees.Sizes.{sorted_fits}
use Rattle.elab_groups.specs.tasks.declared.declaration.Body.{Body}
use Rattle.elab_groups.specs.tasks.declared.declaration.Body.TheVariants.{Prop, Defs, Inductives}
use Rattle.elab_groups.specs.tasks.declared.declaration.Def.{Def}
use Rattle.elab_groups.specs.tasks.declared.declaration.Ind.{Ind}
use Rattle.elab_groups.specs.tasks.declared.declaration.Decl.{Decl}
use Rattle.elab_groups.specs.tasks.Task.{DeclarationTree, DefinitionTree, InductiveTree}
use Rattle.elab_groups.specs.tasks.Meaning.{symbols_at, trees_at, declarations_at, definitions_at, inductives_at, body_at, InductiveHeld, BodyHeld, DeclHeld}
use Rattle.elab_groups.specs.tasks.declared.signature.Signature.{Signature}
use Rattle.elab_groups.specs.scopes.Names.{ScopeNames}
use Rattle.elab_groups.specs.surface.Declarations as source
use Rattle.elab_groups.specs.open_types.Drafts.{match_at}
use Rattle.elab_groups.proofs.open_types.Walking.{none_both}
use Rattle.elab_groups.specs.declared.parts.made.Elaborated.{Elaborated}
use Rattle.elab_groups.specs.parts.Declarations.{Declaration, abstract_type, alias, algebraic, member_group, inductive, proposition_declaration, group_member, declaration, made_names, made_fault}
use Rattle.elab_groups.specs.parts.Outcomes.{Setting, Outcome, declared_in}
use Rattle.elab_declarations.specs.elab_groups.Bodies.{AreDefined, AllHaveBodies}
use Rattle.elab_declarations.specs.Outcomes.{IsOutcome, used_fault, IsElaborated}
use Rattle.elab_groups.specs.tasks.Vocabulary.{Vocabulary}
use Rattle.elaboration_laws.specs.Signature.{with_entries}
use Rattle.elaboration_laws.specs.Scopes.{NamesNew, AreTypedScopes}
use Rattle.elaboration_laws.specs.Typed.{ArePatterns}
use Rattle.elaboration_laws.specs.Valid.{IsTypedSetting, BodyFits, DeclsFit, HaveNoFault, MayNameRigid, IsValidOutcome, IsValidElaborated}
use Rattle.elaboration_laws.proofs.Types.{type_valid, alias_valid}
use Rattle.elaboration_laws.proofs.Groups.{group_valid}
use Rattle.elaboration_laws.proofs.Members.{members_valid, members_patterns}
use Rattle.elaboration_laws.proofs.Inductives.{inductives_valid, inductives_patterns}
use Rattle.elaboration_laws.proofs.Propositions.{proposition_valid, proposition_patterns}

-- ---- in a store
body_fits : (s : List Tree) → ((id : TermId) → Holds s id → WellSorted (tree_at s id)) → (b : Body) → BodyHeld s b → BodyFits (body_at s b)
body_fits s f (Prop a) h = sorted_fits (tree_at s a) (f a h)
body_fits s f (Defs ds) h = definitions_fit ds h
  where
    definitions_fit : (ds : List Def) → All (λ (d : Def). Holds s d.equation) ds → All (λ (d : DefinitionTree). IndicesFit d.equation) (definitions_at s ds)
    definitions_fit [] k = All-nil (λ (d : DefinitionTree). IndicesFit d.equation)
    definitions_fit (d ∷ ds) k = All-cons (λ (d : DefinitionTree). IndicesFit d.equation) _ (definitions_at s ds) (sorted_fits (tree_at s d.equation) (f d.equation (k 0 d (omega arith)))) (definitions_fit ds (λ i e l. k (suc i) e (omega arith)))
body_fits s f (Inductives is) h = predicates_fit is h
  where
    trees_fit : (ids : List TermId) → All (Holds s) ids → All IndicesFit (trees_at s ids)
    trees_fit [] k = All-nil IndicesFit
    trees_fit (id ∷ ids) k = All-cons IndicesFit (tree_at s id) (trees_at s ids) (sorted_fits (tree_at s id) (f id (k 0 id (omega arith)))) (trees_fit ids (λ i e l. k (suc i) e (omega arith)))

    predicates_fit : (is : List Ind) → All (InductiveHeld s) is → All (λ (i : InductiveTree). All IndicesFit i.clauses) (inductives_at s is)
    predicates_fit [] k = All-nil (λ (i : InductiveTree). All IndicesFit i.clauses)
    predicates_fit (i ∷ is) k =
        let x : InductiveHeld s i = k 0 i (omega arith) in
        All-cons (λ (j : InductiveTree). All IndicesFit j.clauses) _ (inductives_at s is) (trees_fit i.clauses x.clauses) (predicates_fit is (λ j e l. k (suc j) e (omega arith)))
body_fits s f _ h = tt

declarations_fit : (s : List Tree) → ((id : TermId) → Holds s id → WellSorted (tree_at s id)) → (ds : List Decl) → All (DeclHeld s) ds → DeclsFit (declarations_at s ds)
declarations_fit s f [] h = All-nil (λ (i : DeclarationTree). BodyFits i.body)
declarations_fit s f (d ∷ ds) h = All-cons (λ (i : DeclarationTree). BodyFits i.body) _ (declarations_at s ds) (body_fits s f d.body (h 0 d (omega arith))) (declarations_fit s f ds (λ k e l. h (suc k) e (omega arith)))

-- ---- declarations of a source: where the first member of a group has a body, so has each
abbrev IsSource : Declaration → Type 0
IsSource (member_group ms) = AllHaveBodies ms
IsSource _ = Unit {0}

others_defined : (ms : List source.Member) → AreDefined (map group_member ms)
others_defined [] = tt
others_defined (m ∷ ms) = (refl, others_defined ms)

from_source : (d : source.SyntaxDeclaration) → IfSome (declaration d) IsSource
from_source (source.type_decl a n vs None) = tt
from_source (source.type_decl a n vs (Some f)) = tt
from_source (source.algebraic_decl a ts) = tt
from_source (source.function_decl a c ps f e ms) = λ q. others_defined ms
from_source (source.predicate_decl a c ps e ms) = λ q. others_defined ms
from_source (source.constant_decl a c f e) = λ q. tt
from_source (source.inductive_decl a ds) = tt
from_source (source.prop_decl a k c e) = tt
from_source _ = tt

is_source : (d : source.SyntaxDeclaration) (x : Declaration) → declaration d ≡ Some x → IsSource x
is_source d x q = let P : Option Declaration → Type 0 = λ o. IfSome o IsSource in subst P q (from_source d)

module _ (base : Vocabulary) (c : Setting) (h : IsTypedSetting base c) where
  outcome_valid : (d : Declaration) (o : Outcome) → used_fault c d ≡ None → IsSource d → IsOutcome c d o → DeclsFit o.decls → HaveNoFault (c.symbols ++ o.symbols) o.decls → NamesNew base (length c.symbols) (c.symbols ++ o.symbols) → MayNameRigid base d o.rigid → IsValidOutcome base c o
  outcome_valid (abstract_type x vs) o q w e fits passes news may = rw e (type_valid base c h x _ (rw e at news))
  outcome_valid (alias x vs f) o q w e fits passes news may = rw e (alias_valid base c h x vs f q (rw e at news))
  outcome_valid (proposition_declaration k x e) o q w p fits passes news may = proposition_valid base c h k x e o q p news fits may
  outcome_valid (algebraic ts) o q w e fits passes news may = rw e (group_valid base c h ts q (rw e at news))
  outcome_valid (member_group ms) o q w e fits passes news may = members_valid base c h ms q o e news w fits
  outcome_valid (inductive ds) o q w e fits passes news may = inductives_valid base c h ds q o e news fits passes

  pub elaborated_valid : (d : source.SyntaxDeclaration) (x : Declaration) (g : Signature) (s : List Tree) (g' : Signature) (names : ScopeNames) (made : Elaborated) → declaration d ≡ Some x → IsElaborated c x g s g' names made → ((id : TermId) → Holds s id → WellSorted (tree_at s id)) → All (DeclHeld s) made.decls
      → HaveNoFault (symbols_at s g'.symbols) (declarations_at s made.decls) → NamesNew base (length c.symbols) (symbols_at s g'.symbols) → MayNameRigid base x made.rigid → IsValidElaborated base s g' names made
  elaborated_valid d x g s g' names made w e sorted held passes news may =
      let fits = declarations_fit s sorted made.decls held in
      let q = none_both (made_fault (declared_in c.scope) [] (made_names x)) (used_fault c x) e.named in
      let y = outcome_valid x e.outcome q.1 (is_source d x w) e.is (rw e.decls at fits) (rw (e.symbols_are, e.decls) at passes) (rw e.symbols_are at news) (rw e.rigid at may) in
      let v = with_entries base (symbols_at s g'.symbols) in
      let scopes : AreTypedScopes v e.outcome.scope = rw e.symbols_are y.scopes in
      record {
        signature = rw e.symbols_are y.signature;
        scopes = subst (AreTypedScopes v) (sym e.scope) scopes;
        decls = rw (e.symbols_are, e.decls) y.decls;
      }

  -- ---- the patterns of each match are well typed, and of one type
  no_patterns : (v : Vocabulary) (ms : List (ℕ × List Tree)) → ms ≡ [] → All (λ (m : ℕ × List Tree). ArePatterns v m.1) ms
  no_patterns v ms q = rw q (All-nil (λ (m : ℕ × List Tree). ArePatterns v m.1))

  outcome_patterns : (d : Declaration) (o : Outcome) → used_fault c d ≡ None → IsOutcome c d o → NamesNew base (length c.symbols) (c.symbols ++ o.symbols) → All (λ (m : ℕ × List Tree). ArePatterns (with_entries base (c.symbols ++ o.symbols)) m.1) o.matches
  outcome_patterns (abstract_type x vs) o q e news = no_patterns _ o.matches (ap (λ (i : Outcome). i.matches) e)
  outcome_patterns (alias x vs f) o q e news = no_patterns _ o.matches (ap (λ (i : Outcome). i.matches) e)
  outcome_patterns (proposition_declaration k x e) o q p news = proposition_patterns base c h k x e o q p news
  outcome_patterns (algebraic ts) o q e news = no_patterns _ o.matches (ap (λ (i : Outcome). i.matches) e)
  outcome_patterns (member_group ms) o q e news = members_patterns base c h ms q o e news
  outcome_patterns (inductive ds) o q e news = inductives_patterns base c h ds q o e news

  pub elaborated_patterns : (x : Declaration) (g : Signature) (s : List Tree) (g' : Signature) (names : ScopeNames) (made : Elaborated) → IsElaborated c x g s g' names made → NamesNew base (length c.symbols) (symbols_at s g'.symbols)
      → All (λ (m : ℕ × List Tree). ArePatterns (with_entries base (symbols_at s g'.symbols)) m.1) (map (match_at s) made.matches)
  elaborated_patterns x g s g' names made e news =
      let q = none_both (made_fault (declared_in c.scope) [] (made_names x)) (used_fault c x) e.named in
      rw (e.symbols_are, e.matches) (outcome_patterns x e.outcome q.1 e.is (rw e.symbols_are at news))
