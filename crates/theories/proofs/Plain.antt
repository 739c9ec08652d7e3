-- Theories stay plain as a theory begins and ends, is used, has scopes and is declared further.
use Rattle.std.proofs.Common.{◌≡◌, ℕ, List, [], ◌∷◌, ◌++◌, length, get_or, All, Option, Some, None, sym, subst, arith, length-append}
use Rattle.std.proofs.lemmas.List.Elements.{All-nil, All-cons, All-push}
use Rattle.tasks.specs.Task.{SymbolTree, DeclarationTree}
use Rattle.elaboration_laws.specs.name_resolution.Where.{NamesTree}
use Rattle.theory_states.specs.Moves.{MoveTree}
use Rattle.surface.specs.Lexeme.{Word}
use Rattle.surface.specs.declared.names.Name.{Name}
use Rattle.surface.specs.declared.names.Path.{Path}
use Rattle.surface.specs.declared.declarations.Link.{Link}
use Rattle.surface.specs.declared.declarations.PropKind.{PropKind}
use Rattle.surface.specs.declared.declarations.PropKind.TheVariants as kind
use Rattle.surface.specs.Declarations as source
use Rattle.elaboration_laws.specs.name_resolution.Abstract.{Expression, expression}
use Rattle.elaboration_laws.specs.elab_groups.parts.Declarations.{Declaration, proposition_declaration, declaration, symbol}
use Rattle.elaboration_laws.specs.elab_groups.parts.Outcomes.{Setting, Outcome}
use Rattle.elaboration_laws.specs.elab_declarations.Outcomes.{proposition_seen, IsOutcome}
use Rattle.theory_states.specs.declared.states.AxiomAt.{AxiomAt}
use Rattle.theory_states.specs.States.{KnownTree, StateTree, opened_empty, known_as, with_declaration, with_declarations}
use Rattle.theory_states.specs.Uses.{IsTheoryUsed}
use Rattle.elaboration_laws.specs.TypedStates.{state_setting}
use Rattle.theories.specs.declaring.Declared.{with_declared_goal, with_axiom, with_proposition, proposition_in, known_by, with_named, IsDeclared}
use Rattle.theories.specs.Plain.{IsSaid, IsPlainAxiom, ArePlainAxioms, ArePlainTheories, IsPlainState}
use Rattle.theories.proofs.KnownLists.{last_at, plain_more}

-- ---- more declarations
pub axioms_more : (decls new : List DeclarationTree) (as_ : List AxiomAt) → ArePlainAxioms decls as_ → ArePlainAxioms (decls ++ new) as_
axioms_more decls new as_ h = λ k a l. plain_more decls new (get_or as_ k a) (h k a l)

pub known_more : (decls new : List DeclarationTree) (ts : List KnownTree) → ArePlainTheories decls ts → ArePlainTheories (decls ++ new) ts
known_more decls new ts h = λ i t l. axioms_more decls new (get_or ts i t).axioms (h i t l)

-- ---- a theory begins and ends
pub begins_plain : (symbols : List SymbolTree) (decls : List DeclarationTree) (ts : List KnownTree) (path : List ℕ) (number : ℕ) → ArePlainTheories decls ts
    → IsPlainState (record { symbols = symbols; decls = decls; known = ts; opened = opened_empty path; number = number })
begins_plain symbols decls ts path number h = record { known = h; opened = All-nil (IsPlainAxiom decls) }

pub ends_plain : (c : StateTree) → IsPlainState c → ArePlainTheories c.decls (c.known ++ known_as c.opened ∷ [])
ends_plain c h = All-push (λ (t : KnownTree). ArePlainAxioms c.decls t.axioms) c.known (known_as c.opened) h.known h.opened

-- ---- uses and scopes
pub scopes_plain : (c : StateTree) (within : List ℕ) (names : NamesTree) (moves : List MoveTree) (number : ℕ) → IsPlainState c
    → IsPlainState (record c { opened = record c.opened { within = within; scope = names; moves = c.opened.moves ++ moves }; number = number })
scopes_plain c within names moves number h = record { known = h.known; opened = h.opened }

pub uses_plain : (link : Link) (p : Path) (alias : Option Name) (c c' : StateTree) → IsPlainState c → IsTheoryUsed link p alias c c' → IsPlainState c'
uses_plain link p alias c c' h u = subst IsPlainState (sym u.is) (record { known = h.known; opened = h.opened })

-- ---- a declaration
declaration_plain : (d : DeclarationTree) (c : StateTree) → IsPlainState c → IsPlainState (with_declaration d c)
declaration_plain d c h = record { known = known_more c.decls (d ∷ []) c.known h.known; opened = axioms_more c.decls (d ∷ []) c.opened.axioms h.opened }

declarations_plain : (ds : List DeclarationTree) (c : StateTree) → IsPlainState c → IsPlainState (with_declarations ds c)
declarations_plain [] c h = h
declarations_plain (d ∷ ds) c h = declarations_plain ds (with_declaration d c) (declaration_plain d c h)

goal_plain : (k : PropKind) (rigid : List ℕ) (d : DeclarationTree) (c : StateTree) → IsPlainState c → IsPlainState (with_declared_goal k rigid d c)
goal_plain k rigid d c h = record { known = h.known; opened = h.opened }

axiom_plain : (vars : List Word) (d : DeclarationTree) (c : StateTree) → IsSaid d.body → IsPlainState c → IsPlainState (with_axiom (record { decl = length c.decls; vars = vars }) (with_declaration d c))
axiom_plain vars d c said h =
    let x : AxiomAt = record { decl = length c.decls; vars = vars } in
    let own : IsPlainAxiom (c.decls ++ d ∷ []) x = record {
      there = let n = length-append c.decls (d ∷ []) in omega (arith, n);
      said = λ e q. subst (λ (y : DeclarationTree). IsSaid y.body) (last_at c.decls d e q) said;
    } in
    record {
      known = known_more c.decls (d ∷ []) c.known h.known;
      opened = All-push (IsPlainAxiom (c.decls ++ d ∷ [])) c.opened.axioms x (axioms_more c.decls (d ∷ []) c.opened.axioms h.opened) own;
    }

proposition_plain : (k : PropKind) (vars : List Word) (rigid : List ℕ) (d : DeclarationTree) (c : StateTree) → IsSaid d.body → IsPlainState c → IsPlainState (with_proposition k vars rigid d c)
proposition_plain kind.Axiom vars rigid d c said h = axiom_plain vars d c said h
proposition_plain kind.Lemma vars rigid d c said h = declaration_plain d (with_declared_goal kind.Lemma rigid d c) (goal_plain kind.Lemma rigid d c h)
proposition_plain kind.Goal vars rigid d c said h = goal_plain kind.Goal rigid d c h

abbrev AreSaid : List DeclarationTree → Type 0
AreSaid ds = All (λ (d : DeclarationTree). IsSaid d.body) ds

abbrev AreSaidBy : Option (PropKind × Expression) → List DeclarationTree → Type 0
AreSaidBy None ds = Unit {0}
AreSaidBy (Some p) ds = AreSaid ds

known_plain : (p : Option (PropKind × Expression)) (rigid : List ℕ) (ds : List DeclarationTree) (c : StateTree) → AreSaidBy p ds → IsPlainState c → IsPlainState (known_by p rigid ds c)
known_plain None rigid ds c s h = declarations_plain ds c h
known_plain (Some p) rigid [] c s h = h
known_plain (Some p) rigid (d ∷ ds) c s h = proposition_plain p.0 (proposition_seen p.1).vars rigid d c (s 0 d (omega arith)) h

said_by : (d : source.SyntaxDeclaration) (x : Declaration) (c : Setting) (o : Outcome) → declaration d ≡ Some x → IsOutcome c x o → AreSaidBy (proposition_in d) o.decls
said_by (source.prop_decl a k y e) x c o q h =
    let same : x ≡ proposition_declaration k (symbol y) (expression e) = cc in
    let z = subst (λ (i : Declaration). IsOutcome c i o) same h in
    subst AreSaid (sym z.decls) (All-cons (λ (d : DeclarationTree). IsSaid d.body) _ [] tt (All-nil (λ (d : DeclarationTree). IsSaid d.body)))
said_by _ x c o q h = tt

pub declared_plain : (d : source.SyntaxDeclaration) (c c' : StateTree) → IsDeclared d c c' → IsPlainState c → IsPlainState c'
declared_plain d c c' h p =
    let o = h.outcome in
    let named : IsPlainState (with_named d o c) = record { known = p.known; opened = p.opened } in
    subst IsPlainState (sym h.known) (known_plain (proposition_in d) o.rigid o.decls (with_named d o c) (said_by d h.parts (state_setting c) o h.of h.is) named)
