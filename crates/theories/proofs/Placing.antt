-- Of the entries after a declaration only those of type variables have no theory.
use Rattle.std.proofs.Common.{◌≡◌, ℕ, false, List, [], ◌∷◌, ◌++◌, Option, Some, None, refl, sym, ap, subst, ◌∙◌}
use Rattle.std.proofs.lemmas.List.Elements.{All-append}
use Rattle.tasks.specs.Task.{DeclarationTree}
use Rattle.tasks.specs.Vocabulary.{is_empty}
use Rattle.surface.specs.Lexeme.{Word}
use Rattle.surface.specs.Declarations.{SyntaxDeclaration}
use Rattle.surface.specs.declared.declarations.PropKind.{PropKind}
use Rattle.surface.specs.declared.declarations.PropKind.TheVariants as kind
use Rattle.elaboration_laws.specs.name_resolution.Abstract.{Expression}
use Rattle.elaboration_laws.specs.Placed.{IsPlacedEntry, ArePlaced}
use Rattle.elaboration_laws.proofs.PlacedOutcomes.{outcome_placed}
use Rattle.theory_states.specs.States.{StateTree, with_declaration, with_declarations}
use Rattle.elaboration_laws.specs.TypedStates.{state_setting}
use Rattle.theories.specs.declaring.Declared.{with_proposed, proposition_in, known_by, with_named, IsDeclared}

declarations_keep : (ds : List DeclarationTree) (c : StateTree) → (with_declarations ds c).symbols ≡ c.symbols
declarations_keep [] c = refl
declarations_keep (d ∷ ds) c = declarations_keep ds (with_declaration d c)

proposed_keeps : (k : PropKind) (vars : List Word) (rigid : List ℕ) (ds : List DeclarationTree) (c : StateTree) → (with_proposed k vars rigid ds c).symbols ≡ c.symbols
proposed_keeps k vars rigid [] c = refl
proposed_keeps kind.Axiom vars rigid (d ∷ ds) c = refl
proposed_keeps kind.Lemma vars rigid (d ∷ ds) c = refl
proposed_keeps kind.Goal vars rigid (d ∷ ds) c = refl

known_keeps : (p : Option (PropKind × Expression)) (rigid : List ℕ) (ds : List DeclarationTree) (c : StateTree) → (known_by p rigid ds c).symbols ≡ c.symbols
known_keeps None rigid ds c = declarations_keep ds c
known_keeps (Some p) rigid ds c = proposed_keeps p.0 _ rigid ds c

pub declared_placed : (d : SyntaxDeclaration) (c c' : StateTree) → is_empty c.opened.path ≡ false → IsDeclared d c c' → ArePlaced c.symbols → ArePlaced c'.symbols
declared_placed d c c' n h p =
    let e : c'.symbols ≡ c.symbols ++ h.outcome.symbols = ap (λ (z : StateTree). z.symbols) h.known ∙ known_keeps (proposition_in d) h.outcome.rigid h.outcome.decls (with_named d h.outcome c) in
    subst ArePlaced (sym e) (All-append IsPlacedEntry c.symbols h.outcome.symbols p (outcome_placed (state_setting c) n h.parts h.outcome h.is))
