-- After a declaration of a theory names are still words.
use Rattle.std.proofs.Common.{ℕ, List, [], ◌∷◌, length, All, Option, Some, None, sym, subst}
use Rattle.std.specs.Option.{IfSome}
use Rattle.std.proofs.lemmas.List.Elements.{All-append, All-push}
use Rattle.tasks.specs.Task.{DeclarationTree}
use Rattle.surface.specs.Lexeme.{Word}
use Rattle.surface.specs.Declarations.{write_decl}
use Rattle.surface.specs.Declarations as source
use Rattle.surface.specs.declared.declarations.PropKind.{PropKind}
use Rattle.surface.specs.declared.declarations.PropKind.TheVariants as kind
use Rattle.elaboration_laws.specs.name_resolution.Abstract.{Expression}
use Rattle.elaboration_laws.specs.elab_groups.parts.Declarations.{Declaration, declaration}
use Rattle.elaboration_laws.specs.elab_declarations.Outcomes.{proposition_seen}
use Rattle.theory_states.specs.declared.states.AxiomAt.{AxiomAt}
use Rattle.theory_states.specs.States.{StateTree, with_declaration, with_declarations}
use Rattle.elaboration_laws.specs.TypedStates.{state_setting}
use Rattle.theories.specs.declaring.Declared.{with_proposed, proposition_in, known_by, with_named, IsDeclared}
use Rattle.tasks.specs.Words.{IsScopedName}
use Rattle.theories.specs.Lexemes.{AreWordLexemes}
use Rattle.theories.specs.Names.{HasWordNames}
use Rattle.theories.proofs.Tuples.{HasWord}
use Rattle.theories.proofs.Written.{IsNamed, names_written}
use Rattle.theories.proofs.Outcomes.{outcome_words}

abbrev pub HasWordVariables : AxiomAt → Type 0
HasWordVariables a = All IsScopedName a.vars

-- ---- what becomes known
declarations_words : (ds : List DeclarationTree) (c : StateTree) → HasWordNames c → HasWordNames (with_declarations ds c)
declarations_words [] c h = h
declarations_words (d ∷ ds) c h = declarations_words ds (with_declaration d c) (record { symbols = h.symbols; within = h.within; axioms = h.axioms; known = h.known })

proposed_words : (k : PropKind) (vars : List Word) (rigid : List ℕ) (ds : List DeclarationTree) (c : StateTree) → All IsScopedName vars → HasWordNames c → HasWordNames (with_proposed k vars rigid ds c)
proposed_words k vars rigid [] c w h = h
proposed_words kind.Axiom vars rigid (d ∷ ds) c w h = record {
  symbols = h.symbols;
  within = h.within;
  axioms = All-push HasWordVariables c.opened.axioms (record { decl = length c.decls; vars = vars }) h.axioms w;
  known = h.known;
}
proposed_words kind.Lemma vars rigid (d ∷ ds) c w h = record { symbols = h.symbols; within = h.within; axioms = h.axioms; known = h.known }
proposed_words kind.Goal vars rigid (d ∷ ds) c w h = record { symbols = h.symbols; within = h.within; axioms = h.axioms; known = h.known }

abbrev Seen : Option (PropKind × Expression) → Type 0
Seen o = IfSome o (λ (p : PropKind × Expression). All IsScopedName (proposition_seen p.1).vars)

known_words : (o : Option (PropKind × Expression)) (rigid : List ℕ) (ds : List DeclarationTree) (c : StateTree) → Seen o → HasWordNames c → HasWordNames (known_by o rigid ds c)
known_words None rigid ds c w h = declarations_words ds c h
known_words (Some p) rigid ds c w h = proposed_words p.0 (proposition_seen p.1).vars rigid ds c w h

proposition_words : (d : source.SyntaxDeclaration) → IfSome (declaration d) IsNamed → Seen (proposition_in d)
proposition_words (source.prop_decl a k c e) h = h
proposition_words (source.type_decl a n vs f) h = tt
proposition_words (source.algebraic_decl a ts) h = tt
proposition_words (source.function_decl a c ps f y ms) h = tt
proposition_words (source.predicate_decl a c ps y ms) h = tt
proposition_words (source.constant_decl a c f y) h = tt
proposition_words (source.inductive_decl a ds) h = tt
proposition_words (source.use_decl a l p n) h = tt
proposition_words (source.clone_decl a l p n es) h = tt
proposition_words (source.scope_decl a n ds) h = tt

-- ---- a declaration
pub declared_words : (d : source.SyntaxDeclaration) (c c' : StateTree) → AreWordLexemes (write_decl d) → IsDeclared d c c' → HasWordNames c → HasWordNames c'
declared_words d c c' q e h =
    let names = names_written d q in
    let own : IsNamed e.parts = subst (λ (o : Option Declaration). IfSome o IsNamed) e.of names in
    let made = outcome_words (state_setting c) h.within e.parts e.outcome e.is own in
    let named : HasWordNames (with_named d e.outcome c) = record { symbols = All-append HasWord c.symbols e.outcome.symbols h.symbols made; within = h.within; axioms = h.axioms; known = h.known } in
    subst HasWordNames (sym e.known) (known_words (proposition_in d) e.outcome.rigid e.outcome.decls (with_named d e.outcome c) (proposition_words d names) named)
