use Rattle.std.proofs.Common.{◌≡◌, [], None, Err, length, sym, ap, subst, ◌∙◌}
use Rattle.tasks.specs.Meaning.{symbols_at}
use Rattle.name_resolution.specs.scopes.Names.{ScopeNames}
use Rattle.name_resolution.specs.Naming.{where_at, Tells, scope_at}
use Rattle.name_resolution.specs.Where.{Where}
use Rattle.elab_groups.specs.parts.Declarations.{made_by_inductives, made_fault, inductives_fault}
use Rattle.elab_groups.specs.parts.Elaborated.{IsTypingFault}
use Rattle.elab_groups.specs.parts.Entries.{AreScopes}
use Rattle.elab_groups.specs.parts.Outcomes.{over, setting, declared_in, IsKept}
use Rattle.elab_groups.proofs.parts.Refused.{no_fault, made_refusal, used_refusal, typing_refusal}
use Rattle.elab_groups.specs.Groups.{most_variables, bodies_pieces, pieces_notes}
use Rattle.elab_declarations.specs.inductive_declarations.Inductives.{formula_members, clause_signatures, with_inductives, within_inductives, inductives_used, inductive_group_fault, inductive_notes, IsInductiveElaborated, IsInductiveRefusal}
use Rattle.elab_declarations.specs.inductive_declarations.Sources.{predicates_at}
use Rattle.elab_declarations.proofs.Over.{made_at, told_at}
use Rattle.elab_declarations.proofs.inductive_declarations.InductivesMade.{inside_is, scopes_after, signature_after, resolved_after, inductives_elaborated, inductives_kept}
use Rattle.elab_declarations.proofs.inductive_declarations.inductives.elaborate_inductives.Goals as goal

pub type_inductives-requires-clause-world : goal.type_inductives-requires-clause-world
type_inductives-requires-clause-world c =
    let p = c.args.place.now in
    let s = c.args.store.now in
    let g = c.args.sig.now in
    let names = c.args.scope.now in
    let ds = predicates_at c.args.inductives.now in
    let st = setting p s g names in
    let s1 = c.enter_group.new.store in
    let g1 = c.enter_group.new.sig in
    let it = c.in_ok-entered.entered in
    let grows = c.in_ok-entered.ensures.grows in
    let e = c.in_ok-entered.ensures.entered in
    let after : c.declare_group.new.scope ≡ with_inductives p.decl it.number ds names = c.in-Ok.ensures.ok in
    let scopes : AreScopes s1 (length g1.symbols) c.declare_group.new.scope = subst (AreScopes s1 (length g1.symbols)) (sym after) (scopes_after p s s1 grows g g1 names ds it c.requires.signature c.requires.scopes e) in
    let world = c.world_over-world.result in
    let is : where_at s1 world ≡ within_inductives st ds =
    c.world_over-world.ensures.names s1 ∙ (ap (λ (ns : ScopeNames). over (symbols_at s1 g1.symbols) (scope_at s1 ns) []) after ∙ inside_is p s s1 grows g g1 names ds it c.requires.signature c.requires.scopes e) in
    let right : inductives_used st ds ≡ None = subst (λ (w : Where). inductives_fault w ds ≡ None) is (c.in-Ok-check_inductives.ensures s1) in
    let signature = signature_after p s s1 grows g g1 names ds it c.requires.signature c.requires.scopes e right in
    c.world_over-world.ensures.held s1 signature scopes

pub type_inductives-requires-clause-scoped : goal.type_inductives-requires-clause-scoped
type_inductives-requires-clause-scoped c =
    let p = c.args.place.now in
    let s = c.args.store.now in
    let g = c.args.sig.now in
    let names = c.args.scope.now in
    let ds = predicates_at c.args.inductives.now in
    let st = setting p s g names in
    let s1 = c.enter_group.new.store in
    let g1 = c.enter_group.new.sig in
    let it = c.in_ok-entered.entered in
    let grows = c.in_ok-entered.ensures.grows in
    let e = c.in_ok-entered.ensures.entered in
    let after : c.declare_group.new.scope ≡ with_inductives p.decl it.number ds names = c.in-Ok.ensures.ok in
    let scopes : AreScopes s1 (length g1.symbols) c.declare_group.new.scope = subst (AreScopes s1 (length g1.symbols)) (sym after) (scopes_after p s s1 grows g g1 names ds it c.requires.signature c.requires.scopes e) in
    let world = c.world_over-world.result in
    let is : where_at s1 world ≡ within_inductives st ds =
    c.world_over-world.ensures.names s1 ∙ (ap (λ (ns : ScopeNames). over (symbols_at s1 g1.symbols) (scope_at s1 ns) []) after ∙ inside_is p s s1 grows g g1 names ds it c.requires.signature c.requires.scopes e) in
    let right : inductives_used st ds ≡ None = subst (λ (w : Where). inductives_fault w ds ≡ None) is (c.in-Ok-check_inductives.ensures s1) in
    let signature = signature_after p s s1 grows g g1 names ds it c.requires.signature c.requires.scopes e right in
    c.world_over-world.ensures.scoped s1 signature scopes

pub type_inductives-requires-clause-resolved : goal.type_inductives-requires-clause-resolved
type_inductives-requires-clause-resolved c =
    let p = c.args.place.now in
    let s = c.args.store.now in
    let g = c.args.sig.now in
    let names = c.args.scope.now in
    let ds = predicates_at c.args.inductives.now in
    let st = setting p s g names in
    let s1 = c.enter_group.new.store in
    let g1 = c.enter_group.new.sig in
    let it = c.in_ok-entered.entered in
    let grows = c.in_ok-entered.ensures.grows in
    let e = c.in_ok-entered.ensures.entered in
    let after : c.declare_group.new.scope ≡ with_inductives p.decl it.number ds names = c.in-Ok.ensures.ok in
    let scopes : AreScopes s1 (length g1.symbols) c.declare_group.new.scope = subst (AreScopes s1 (length g1.symbols)) (sym after) (scopes_after p s s1 grows g g1 names ds it c.requires.signature c.requires.scopes e) in
    let world = c.world_over-world.result in
    let is : where_at s1 world ≡ within_inductives st ds =
    c.world_over-world.ensures.names s1 ∙ (ap (λ (ns : ScopeNames). over (symbols_at s1 g1.symbols) (scope_at s1 ns) []) after ∙ inside_is p s s1 grows g g1 names ds it c.requires.signature c.requires.scopes e) in
    let right : inductives_used st ds ≡ None = subst (λ (w : Where). inductives_fault w ds ≡ None) is (c.in-Ok-check_inductives.ensures s1) in
    resolved_after p s s1 grows g g1 names ds it c.requires.signature c.requires.scopes e right (where_at s1 world) is

pub returns-in-Ok-type_inductives-clause-ok : goal.returns-in-Ok-type_inductives-clause-ok
returns-in-Ok-type_inductives-clause-ok c =
    let p = c.args.place.now in
    let s = c.args.store.now in
    let g = c.args.sig.now in
    let names = c.args.scope.now in
    let ds = predicates_at c.args.inductives.now in
    let st = setting p s g names in
    let s1 = c.enter_group.new.store in
    let g1 = c.enter_group.new.sig in
    let it = c.in_ok-entered.entered in
    let grows = c.in_ok-entered.ensures.grows in
    let e = c.in_ok-entered.ensures.entered in
    let after : c.declare_group.new.scope ≡ with_inductives p.decl it.number ds names = c.in-Ok.ensures.ok in
    let scopes : AreScopes s1 (length g1.symbols) c.declare_group.new.scope = subst (AreScopes s1 (length g1.symbols)) (sym after) (scopes_after p s s1 grows g g1 names ds it c.requires.signature c.requires.scopes e) in
    let free : made_fault (declared_in names) [] (made_by_inductives ds) ≡ None = c.in-Ok.ensures.told in
    let world = c.world_over-world.result in
    let is : where_at s1 world ≡ within_inductives st ds =
    c.world_over-world.ensures.names s1 ∙ (ap (λ (ns : ScopeNames). over (symbols_at s1 g1.symbols) (scope_at s1 ns) []) after ∙ inside_is p s s1 grows g g1 names ds it c.requires.signature c.requires.scopes e) in
    let right : inductives_used st ds ≡ None = subst (λ (w : Where). inductives_fault w ds ≡ None) is (c.in-Ok-check_inductives.ensures s1) in
    let s2 = c.type_inductives.new.store in
    let made = c.in-Ok-type_inductives.made in
    subst (λ (ns : ScopeNames). IsInductiveElaborated st ds g s2 g1 ns made) (sym after)
    (inductives_elaborated p s s1 grows g g1 names ds it c.requires.signature c.requires.scopes e right s2 c.in-Ok-type_inductives.ensures.grows (where_at s1 world) is made c.in-Ok-type_inductives.ensures.ok free)

pub returns-in-Ok-type_inductives-clause-kept : goal.returns-in-Ok-type_inductives-clause-kept
returns-in-Ok-type_inductives-clause-kept c =
    let p = c.args.place.now in
    let s = c.args.store.now in
    let g = c.args.sig.now in
    let names = c.args.scope.now in
    let ds = predicates_at c.args.inductives.now in
    let st = setting p s g names in
    let s1 = c.enter_group.new.store in
    let g1 = c.enter_group.new.sig in
    let it = c.in_ok-entered.entered in
    let grows = c.in_ok-entered.ensures.grows in
    let e = c.in_ok-entered.ensures.entered in
    let after : c.declare_group.new.scope ≡ with_inductives p.decl it.number ds names = c.in-Ok.ensures.ok in
    let scopes : AreScopes s1 (length g1.symbols) c.declare_group.new.scope = subst (AreScopes s1 (length g1.symbols)) (sym after) (scopes_after p s s1 grows g g1 names ds it c.requires.signature c.requires.scopes e) in
    let world = c.world_over-world.result in
    let is : where_at s1 world ≡ within_inductives st ds =
    c.world_over-world.ensures.names s1 ∙ (ap (λ (ns : ScopeNames). over (symbols_at s1 g1.symbols) (scope_at s1 ns) []) after ∙ inside_is p s s1 grows g g1 names ds it c.requires.signature c.requires.scopes e) in
    let right : inductives_used st ds ≡ None = subst (λ (w : Where). inductives_fault w ds ≡ None) is (c.in-Ok-check_inductives.ensures s1) in
    let s2 = c.type_inductives.new.store in
    let made = c.in-Ok-type_inductives.made in
    subst (λ (ns : ScopeNames). IsKept s2 g1 ns made) (sym after) (inductives_kept p s s1 grows g g1 names ds it c.requires.signature c.requires.scopes e right s2 c.in-Ok-type_inductives.ensures.grows (where_at s1 world) is made c.in-Ok-type_inductives.ensures.ok)

pub returns-in-Ok-check_inductives-clause-err : goal.returns-in-Ok-check_inductives-clause-err
returns-in-Ok-check_inductives-clause-err c =
    let p = c.args.place.now in
    let s = c.args.store.now in
    let g = c.args.sig.now in
    let names = c.args.scope.now in
    let ds = predicates_at c.args.inductives.now in
    let st = setting p s g names in
    let s1 = c.enter_group.new.store in
    let g1 = c.enter_group.new.sig in
    let it = c.in_ok-entered.entered in
    let grows = c.in_ok-entered.ensures.grows in
    let e = c.in_ok-entered.ensures.entered in
    let after : c.declare_group.new.scope ≡ with_inductives p.decl it.number ds names = c.in-Ok.ensures.ok in
    let scopes : AreScopes s1 (length g1.symbols) c.declare_group.new.scope = subst (AreScopes s1 (length g1.symbols)) (sym after) (scopes_after p s s1 grows g g1 names ds it c.requires.signature c.requires.scopes e) in
    let free : made_fault (declared_in (scope_at s names)) [] (made_by_inductives ds) ≡ None = made_at s names (made_by_inductives ds) ∙ c.in-Ok.ensures.told in
    let world = c.world_over-world.result in
    let is : where_at s1 world ≡ within_inductives st ds =
    c.world_over-world.ensures.names s1 ∙ (ap (λ (ns : ScopeNames). over (symbols_at s1 g1.symbols) (scope_at s1 ns) []) after ∙ inside_is p s s1 grows g g1 names ds it c.requires.signature c.requires.scopes e) in
    let right : inductives_used st ds ≡ None = subst (λ (w : Where). inductives_fault w ds ≡ None) is (c.in-Ok-check_inductives.ensures s1) in
    let f = c.in-Err-type_inductives.fault in
    let r = most_variables (clause_signatures ds) in
    let fault : IsTypingFault r (inductive_notes st ds) f = subst (λ (w : Where). IsTypingFault r (pieces_notes (bodies_pieces w (formula_members ds) (clause_signatures ds))) f) is c.in-Err-type_inductives.ensures.err in
    subst (IsInductiveRefusal st ds) (sym c.typing_fault.ensures)
    (typing_refusal p.decl r (inductive_notes st ds) (inductive_group_fault st ds) f (no_fault (made_fault (declared_in (scope_at s names)) [] (made_by_inductives ds)) (inductives_used st ds) free right) fault)

pub returns-in-Ok-clause-err : goal.returns-in-Ok-clause-err
returns-in-Ok-clause-err c =
    let p = c.args.place.now in
    let s = c.args.store.now in
    let g = c.args.sig.now in
    let names = c.args.scope.now in
    let ds = predicates_at c.args.inductives.now in
    let st = setting p s g names in
    let s1 = c.enter_group.new.store in
    let g1 = c.enter_group.new.sig in
    let it = c.in_ok-entered.entered in
    let grows = c.in_ok-entered.ensures.grows in
    let e = c.in_ok-entered.ensures.entered in
    let after : c.declare_group.new.scope ≡ with_inductives p.decl it.number ds names = c.in-Ok.ensures.ok in
    let scopes : AreScopes s1 (length g1.symbols) c.declare_group.new.scope = subst (AreScopes s1 (length g1.symbols)) (sym after) (scopes_after p s s1 grows g g1 names ds it c.requires.signature c.requires.scopes e) in
    let free : made_fault (declared_in (scope_at s names)) [] (made_by_inductives ds) ≡ None = made_at s names (made_by_inductives ds) ∙ c.in-Ok.ensures.told in
    let world = c.world_over-world.result in
    let is : where_at s1 world ≡ within_inductives st ds =
    c.world_over-world.ensures.names s1 ∙ (ap (λ (ns : ScopeNames). over (symbols_at s1 g1.symbols) (scope_at s1 ns) []) after ∙ inside_is p s s1 grows g g1 names ds it c.requires.signature c.requires.scopes e) in
    let f = c.in-Err-check_inductives.fault in
    let told : Tells (Err f) (inductives_used st ds) = subst (λ (w : Where). Tells (Err f) (inductives_fault w ds)) is (c.in-Err-check_inductives.ensures s1) in
    subst (IsInductiveRefusal st ds) (sym c.naming_fault.ensures)
    (used_refusal p.decl (most_variables (clause_signatures ds)) (inductive_notes st ds) (made_fault (declared_in (scope_at s names)) [] (made_by_inductives ds)) (inductives_used st ds) f free told)

pub returns-clause-err : goal.returns-clause-err
returns-clause-err c =
    let p = c.args.place.now in
    let s = c.args.store.now in
    let g = c.args.sig.now in
    let names = c.args.scope.now in
    let ds = predicates_at c.args.inductives.now in
    let st = setting p s g names in
    let f = c.in-Err.fault in
    subst (IsInductiveRefusal st ds) (sym c.naming_fault-in-Err.ensures)
    (made_refusal p.decl (most_variables (clause_signatures ds)) (inductive_notes st ds) (made_fault (declared_in (scope_at s names)) [] (made_by_inductives ds)) (inductives_used st ds) f (told_at s names (made_by_inductives ds) f c.in-Err.ensures.told))
