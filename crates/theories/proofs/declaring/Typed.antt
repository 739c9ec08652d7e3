-- All that is known stays typed as a declaration becomes known.
use Rattle.std.proofs.Common.{ℕ, List, [], ◌∷◌, Option, Some, None, IfSome, option_map}
use Rattle.std.proofs.lemmas.List.Elements.{All-nil, All-cons, All-append}
use Rattle.tasks.specs.Task.{DeclarationTree}
use Rattle.tasks.specs.Vocabulary.{Vocabulary, of_signature}
use Rattle.elab_groups.specs.scopes.Names.{find_name, number_of}
use Rattle.elab_groups.specs.name_resolution.Where.{MeaningTree, NamesTree}
use Rattle.elab_groups.specs.scopes.declared.Table.{Table}
use Rattle.elab_groups.specs.scopes.declared.Table.TheVariants.{Types, Symbols, Propositions, Scopes}
use Rattle.elab_groups.specs.scopes.declared.Referent.TheVariants as stands
use Rattle.surface.specs.Lexeme.{Word}
use Rattle.surface.specs.Declarations as source
use Rattle.surface.specs.declared.declarations.PropKind.{PropKind}
use Rattle.surface.specs.declared.declarations.PropKind.TheVariants as kind
use Rattle.theory_states.specs.declared.moves.Move.TheVariants.{Brings}
use Rattle.elab_groups.specs.name_resolution.Abstract.{Expression}
use Rattle.elab_groups.specs.parts.Declarations.{Declaration, declaration, Made, makes, binds_names, made_names}
use Rattle.elab_declarations.specs.Outcomes.{proposition_seen}
use Rattle.elaboration_laws.specs.Scopes.{IsTypedThing, AreTypedScopes}
use Rattle.elaboration_laws.proofs.Scopes.{found_thing}
use Rattle.elaboration_laws.specs.Valid.{IsTypedSetting}
use Rattle.elaboration_laws.specs.theory_states.goal_tasks.Theories.{GoalTree}
use Rattle.elaboration_laws.specs.Moves.{IsTypedMove, AreTypedMoves}
use Rattle.theories.specs.declaring.Made.{thing_named, brought_as, moves_made, moves_of, moves_declared}
use Rattle.theory_states.specs.declared.states.AxiomAt.{AxiomAt}
use Rattle.theory_states.specs.States.{StateTree, with_declaration, with_declarations}
use Rattle.elaboration_laws.specs.TypedStates.{state_setting, IsTypedState}
use Rattle.theories.specs.declaring.Declared.{with_declared_goal, with_proposition, with_proposed, known_by}

-- ---- moves of names of a typed scope
module _ (v : Vocabulary) (names : NamesTree) (h : AreTypedScopes v names) where
  number_typed : (table : Table) (o : Option MeaningTree) → ((t : MeaningTree) → IsTypedThing v table t → IsTypedThing v table (stands.Entry (number_of t))) → IfSome o (IsTypedThing v table) → IfSome (option_map stands.Entry (option_map number_of o)) (IsTypedThing v table)
  number_typed table None f x = tt
  number_typed table (Some t) f x = f t x

  symbol_typed : (t : MeaningTree) → IsTypedThing v Symbols t → IsTypedThing v Symbols (stands.Entry (number_of t))
  symbol_typed (stands.Entry k) z = z
  symbol_typed (stands.Alias vars ty) z = absurd z

  thing_typed : (table : Table) (x : Word) → IfSome (thing_named names table x) (IsTypedThing v table)
  thing_typed Types x = found_thing (IsTypedThing v) names h Types (x ∷ [])
  thing_typed Symbols x = number_typed Symbols (find_name names Symbols (x ∷ [])) symbol_typed (found_thing (IsTypedThing v) names h Symbols (x ∷ []))
  thing_typed Propositions x = number_typed Propositions (find_name names Propositions (x ∷ [])) (λ t z. tt) (found_thing (IsTypedThing v) names h Propositions (x ∷ []))
  thing_typed Scopes x = number_typed Scopes (find_name names Scopes (x ∷ [])) (λ t z. tt) (found_thing (IsTypedThing v) names h Scopes (x ∷ []))

  brought_typed : (table : Table) (x : Word) (o : Option MeaningTree) → IfSome o (IsTypedThing v table) → AreTypedMoves v (brought_as table x o)
  brought_typed table x None z = All-nil (IsTypedMove v)
  brought_typed table x (Some t) z = All-cons (IsTypedMove v) (Brings table x t) [] z (All-nil (IsTypedMove v))

  made_typed : (ms : List Made) → AreTypedMoves v (moves_made names ms)
  made_typed [] = All-nil (IsTypedMove v)
  made_typed (makes table c ∷ ms) = All-append (IsTypedMove v) (brought_as table c.name (thing_named names table c.name)) (moves_made names ms) (brought_typed table c.name (thing_named names table c.name) (thing_typed table c.name)) (made_typed ms)
  made_typed (binds_names cs ∷ ms) = made_typed ms

  of_typed : (o : Option Declaration) → AreTypedMoves v (moves_of names o)
  of_typed None = All-nil (IsTypedMove v)
  of_typed (Some d) = made_typed (made_names d)

  pub declared_typed : (d : source.SyntaxDeclaration) → AreTypedMoves v (moves_declared names d)
  declared_typed d = of_typed (declaration d)

-- ---- states
pub setting_typed : (c : StateTree) → IsTypedState c → IsTypedSetting (of_signature c.symbols) (state_setting c)
setting_typed c h = record { theory = h.theory; source = h.source; signature = h.theories.signature; scopes = h.scopes }

-- with other declarations, axioms and goals
others_typed : (c : StateTree) (ds : List DeclarationTree) (visible : List ℕ) (axioms : List AxiomAt) (goals : List GoalTree) → IsTypedState c → IsTypedState (record c { decls = ds; opened = record c.opened { visible = visible; axioms = axioms; goals = goals } })
others_typed c ds visible axioms goals h = record {
  theories = record { signature = h.theories.signature; built = h.theories.built; known = h.theories.known };
  theory = h.theory;
  source = h.source;
  scopes = h.scopes;
  moves = h.moves;
}

declaration_typed : (d : DeclarationTree) (c : StateTree) → IsTypedState c → IsTypedState (with_declaration d c)
declaration_typed d c h = let e = with_declaration d c in others_typed c e.decls e.opened.visible e.opened.axioms e.opened.goals h

declarations_typed : (ds : List DeclarationTree) (c : StateTree) → IsTypedState c → IsTypedState (with_declarations ds c)
declarations_typed [] c h = h
declarations_typed (d ∷ ds) c h = declarations_typed ds (with_declaration d c) (declaration_typed d c h)

goal_typed : (k : PropKind) (rigid : List ℕ) (d : DeclarationTree) (c : StateTree) → IsTypedState c → IsTypedState (with_declared_goal k rigid d c)
goal_typed k rigid d c h = let e = with_declared_goal k rigid d c in others_typed c e.decls e.opened.visible e.opened.axioms e.opened.goals h

proposition_typed : (k : PropKind) (vars : List Word) (rigid : List ℕ) (d : DeclarationTree) (c : StateTree) → IsTypedState c → IsTypedState (with_proposition k vars rigid d c)
proposition_typed kind.Axiom vars rigid d c h =
    let e = with_proposition kind.Axiom vars rigid d c in
    others_typed c e.decls e.opened.visible e.opened.axioms e.opened.goals h
proposition_typed kind.Lemma vars rigid d c h = declaration_typed d (with_declared_goal kind.Lemma rigid d c) (goal_typed kind.Lemma rigid d c h)
proposition_typed kind.Goal vars rigid d c h = goal_typed kind.Goal rigid d c h

proposed_typed : (k : PropKind) (vars : List Word) (rigid : List ℕ) (ds : List DeclarationTree) (c : StateTree) → IsTypedState c → IsTypedState (with_proposed k vars rigid ds c)
proposed_typed k vars rigid [] c h = h
proposed_typed k vars rigid (d ∷ ds) c h = proposition_typed k vars rigid d c h

pub known_typed : (p : Option (PropKind × Expression)) (rigid : List ℕ) (ds : List DeclarationTree) (c : StateTree) → IsTypedState c → IsTypedState (known_by p rigid ds c)
known_typed None rigid ds c h = declarations_typed ds c h
known_typed (Some p) rigid ds c h = proposed_typed p.0 (proposition_seen p.1).vars rigid ds c h
