-- Faults of a declaration.
use Rattle.std.proofs.Common.{◌≡◌, List, [], ◌∷◌, map, All, Option, Some, None, IfSome, refl, subst}
use Rattle.std.proofs.lemmas.List.Elements.{All-nil, All-cons, All-head, All-tail}
use Rattle.tasks.specs.trees.Tree.{Tree}
use Rattle.tasks.specs.Task.{SymbolTree}
use Rattle.surface.specs.Declarations as source
use Rattle.elab_groups.specs.open_types.declared.draft.MatchAt.{MatchAt}
use Rattle.elab_groups.specs.open_types.Drafts.{MatchHeld, match_at}
use Rattle.elab_groups.specs.parts.Declarations.{Declaration, declaration}
use Rattle.elab_declarations.specs.Outcomes.{IsLogical}
use Rattle.theories.specs.side_conditions.Sides.{IsMatch}
use Rattle.elaboration_laws.specs.TaskTyped.{IsFitMatch}
use Rattle.theory_states.specs.declared.fault.SourceFault.{SourceFault}
use Rattle.theory_states.specs.declared.fault.SourceFault.TheVariants.{Memory}
use Rattle.theory_states.specs.States.{StateTree}
use Rattle.theory_states.specs.Uses.{OrMemory}
use Rattle.elaboration_laws.specs.TypedStates.{state_setting}
use Rattle.theories.specs.declaring.Declared.{IsDeclaredFault, of_elaboration}
use Rattle.theories.specs.declaring.Steps.{IsRefusedBy}

pub or_memory : (Is : SourceFault → Type 0) (f : SourceFault) → Is f → OrMemory Is f
or_memory Is Memory h = tt
or_memory Is f h = h

-- a declaration that is no use, clone or scope has parts
pub logical_parts : (d : source.SyntaxDeclaration) → IsLogical d → (x : Declaration) × (declaration d ≡ Some x)
logical_parts (source.type_decl a n vs None) l = (_, refl)
logical_parts (source.type_decl a n vs (Some f)) l = (_, refl)
logical_parts (source.algebraic_decl a ts) l = (_, refl)
logical_parts (source.function_decl a c ps f e ms) l = (_, refl)
logical_parts (source.predicate_decl a c ps e ms) l = (_, refl)
logical_parts (source.constant_decl a c f e) l = (_, refl)
logical_parts (source.inductive_decl a ds) l = (_, refl)
logical_parts (source.prop_decl a k c e) l = (_, refl)
logical_parts (source.use_decl a k p n) l = absurd l
logical_parts (source.clone_decl a k p n es) l = absurd l
logical_parts (source.scope_decl a n ds) l = absurd l

pub told : (P : Declaration → Type 0) (d : source.SyntaxDeclaration) (x : Declaration) → declaration d ≡ Some x → IfSome (declaration d) P → P x
told P d x q h = let Q : Option Declaration → Type 0 = λ o. IfSome o P in subst Q q h

pub refused_by : (d : source.SyntaxDeclaration) (c : StateTree) (f : SourceFault) → IsLogical d → IfSome (declaration d) (λ x. IsRefusedBy (state_setting c) x f) → OrMemory (IsDeclaredFault d c) f
refused_by d c f l h =
    let p = logical_parts d l in
    let r = told (λ x. IsRefusedBy (state_setting c) x f) d p.0 p.1 h in
    or_memory (IsDeclaredFault d c) f (of_elaboration p.0 r.0 p.1 r.1 r.2)

-- the matches of what is elaborated can be tested
pub matches_are : (s : List Tree) (symbols : List SymbolTree) (ms : List MatchAt) → All (MatchHeld s) ms → All (IsFitMatch symbols) (map (match_at s) ms) → All (IsMatch s symbols) ms
matches_are s symbols [] h f = All-nil (IsMatch s symbols)
matches_are s symbols (m ∷ ms) h f =
    let one : IsFitMatch symbols (match_at s m) = All-head (IsFitMatch symbols) (match_at s m) (map (match_at s) ms) f in
    All-cons (IsMatch s symbols) m ms (record { held = All-head (MatchHeld s) m ms h; patterns = one.patterns; one_type = one.one_type })
    (matches_are s symbols ms (All-tail (MatchHeld s) m ms h) (All-tail (IsFitMatch symbols) (match_at s m) (map (match_at s) ms) f))
