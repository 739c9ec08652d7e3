use Rattle.std.proofs.Common.{◌≡◌, ℕ, ◌++◌, [], List, None, Err, map, length, sym, ap, subst, ◌∙◌}
use Rattle.std.proofs.Math.ListN.{length-map}
use Rattle.tasks.specs.Meaning.{symbols_at}
use Rattle.name_resolution.specs.scopes.declared.Table.TheVariants.{Symbols}
use Rattle.name_resolution.specs.scopes.Names.{ScopeNames}
use Rattle.name_resolution.specs.Naming.{where_at, scope_at, Tells}
use Rattle.name_resolution.specs.Where.{Where}
use Rattle.name_resolution.specs.variables.Seen.{SeenTree}
use Rattle.elab_groups.specs.parts.Declarations.{made_by_members, made_fault}
use Rattle.elab_groups.specs.parts.Elaborated.{unseen, IsTypingFault}
use Rattle.elab_groups.specs.parts.Entries.{wanting_tuples, AreScopes}
use Rattle.elab_groups.specs.parts.Outcomes.{over, setting, declared_in, IsKept}
use Rattle.elab_groups.proofs.parts.Refused.{no_fault, made_refusal, used_refusal, typing_refusal}
use Rattle.elab_groups.specs.members.Members.{SignatureTree, members_seen, with_members, members_fault, members_made}
use Rattle.elab_groups.specs.members.Sources.{member_at, members_at, signed_at, IsEntered}
use Rattle.elab_groups.proofs.members.NamesMade.{made_told}
use Rattle.elab_groups.specs.Groups.{most_variables, bodies_pieces, pieces_notes, before_group, group_signatures, within_group, group_used, group_fault, group_notes, IsGroupElaborated, IsGroupRefusal}
use Rattle.elab_groups.proofs.GroupMade.{inside_is, scopes_after, each, signature_after, own_after, resolved_after, group_elaborated, group_kept}
use Rattle.elab_groups.proofs.groups.elaborate_group.Goals as goal

pub type_group-requires-clause-world : goal.type_group-requires-clause-world
type_group-requires-clause-world c =
    let p = c.args.place.now in
    let s = c.args.store.now in
    let g = c.args.sig.now in
    let names = c.args.scope.now in
    let ms = members_at c.args.members.now in
    let st = setting p s g names in
    let s1 = c.push_group.new.store in
    let g1 = c.push_group.new.sig in
    let it = c.in_ok-entered.entered in
    let grows = c.in_ok-entered.ensures.grows in
    let seen = rw (c.new.ensures, c.new-2.ensures) at c.in_ok-enter_members.ensures in
    let widths : c.as_slice-widths.result.now ≡ (members_seen unseen ms).widths = c.as_slice-widths.ensures ∙ ap (λ (x : SeenTree). x.widths) seen in
    let e : IsEntered st (before_group st ms) ms g s1 g1 it = subst (λ (ws : List ℕ). IsEntered st (symbols_at s g.symbols ++ wanting_tuples (symbols_at s g.symbols) ws) ms g s1 g1 it) widths c.in_ok-entered.ensures.entered in
    let after : c.declare_members.new.scope ≡ with_members it.number ms names = c.in-Ok.ensures.ok in
    let scopes : AreScopes s1 (length g1.symbols) c.declare_members.new.scope = subst (AreScopes s1 (length g1.symbols)) (sym after) (scopes_after p s s1 grows g g1 names ms it c.requires.signature c.requires.scopes e) in
    let free : made_fault (declared_in (scope_at s names)) [] (made_by_members ms) ≡ None = made_told s names ms ∙ (rw c.new-before.ensures.items at c.in-Ok.ensures.told) in
    let world = c.world_over-world.result in
    let is : where_at s1 world ≡ within_group st ms =
    c.world_over-world.ensures.names s1 ∙ (ap (λ (ns : ScopeNames). over (symbols_at s1 g1.symbols) (scope_at s1 ns) []) after ∙ inside_is p s s1 grows g g1 names ms it c.requires.signature c.requires.scopes e) in
    let right : group_used st ms ≡ None = subst (λ (w : Where). members_fault w ms ≡ None) is (c.in-Ok-check_members.ensures s1) in
    let signature = signature_after p s s1 grows g g1 names ms it c.requires.signature c.requires.scopes e right in
    c.world_over-world.ensures.held s1 signature scopes

pub type_group-requires-clause-scoped : goal.type_group-requires-clause-scoped
type_group-requires-clause-scoped c =
    let p = c.args.place.now in
    let s = c.args.store.now in
    let g = c.args.sig.now in
    let names = c.args.scope.now in
    let ms = members_at c.args.members.now in
    let st = setting p s g names in
    let s1 = c.push_group.new.store in
    let g1 = c.push_group.new.sig in
    let it = c.in_ok-entered.entered in
    let grows = c.in_ok-entered.ensures.grows in
    let seen = rw (c.new.ensures, c.new-2.ensures) at c.in_ok-enter_members.ensures in
    let widths : c.as_slice-widths.result.now ≡ (members_seen unseen ms).widths = c.as_slice-widths.ensures ∙ ap (λ (x : SeenTree). x.widths) seen in
    let e : IsEntered st (before_group st ms) ms g s1 g1 it = subst (λ (ws : List ℕ). IsEntered st (symbols_at s g.symbols ++ wanting_tuples (symbols_at s g.symbols) ws) ms g s1 g1 it) widths c.in_ok-entered.ensures.entered in
    let after : c.declare_members.new.scope ≡ with_members it.number ms names = c.in-Ok.ensures.ok in
    let scopes : AreScopes s1 (length g1.symbols) c.declare_members.new.scope = subst (AreScopes s1 (length g1.symbols)) (sym after) (scopes_after p s s1 grows g g1 names ms it c.requires.signature c.requires.scopes e) in
    let free : made_fault (declared_in (scope_at s names)) [] (made_by_members ms) ≡ None = made_told s names ms ∙ (rw c.new-before.ensures.items at c.in-Ok.ensures.told) in
    let world = c.world_over-world.result in
    let is : where_at s1 world ≡ within_group st ms =
    c.world_over-world.ensures.names s1 ∙ (ap (λ (ns : ScopeNames). over (symbols_at s1 g1.symbols) (scope_at s1 ns) []) after ∙ inside_is p s s1 grows g g1 names ms it c.requires.signature c.requires.scopes e) in
    let right : group_used st ms ≡ None = subst (λ (w : Where). members_fault w ms ≡ None) is (c.in-Ok-check_members.ensures s1) in
    let signature = signature_after p s s1 grows g g1 names ms it c.requires.signature c.requires.scopes e right in
    c.world_over-world.ensures.scoped s1 signature scopes

pub type_group-requires-clause-signed : goal.type_group-requires-clause-signed
type_group-requires-clause-signed c = c.in_ok-entered.ensures.entered.held

pub type_group-requires-clause-own : goal.type_group-requires-clause-own
type_group-requires-clause-own c =
    let p = c.args.place.now in
    let s = c.args.store.now in
    let g = c.args.sig.now in
    let names = c.args.scope.now in
    let ms = members_at c.args.members.now in
    let st = setting p s g names in
    let s1 = c.push_group.new.store in
    let g1 = c.push_group.new.sig in
    let it = c.in_ok-entered.entered in
    let grows = c.in_ok-entered.ensures.grows in
    let seen = rw (c.new.ensures, c.new-2.ensures) at c.in_ok-enter_members.ensures in
    let widths : c.as_slice-widths.result.now ≡ (members_seen unseen ms).widths = c.as_slice-widths.ensures ∙ ap (λ (x : SeenTree). x.widths) seen in
    let e : IsEntered st (before_group st ms) ms g s1 g1 it = subst (λ (ws : List ℕ). IsEntered st (symbols_at s g.symbols ++ wanting_tuples (symbols_at s g.symbols) ws) ms g s1 g1 it) widths c.in_ok-entered.ensures.entered in
    let after : c.declare_members.new.scope ≡ with_members it.number ms names = c.in-Ok.ensures.ok in
    let scopes : AreScopes s1 (length g1.symbols) c.declare_members.new.scope = subst (AreScopes s1 (length g1.symbols)) (sym after) (scopes_after p s s1 grows g g1 names ms it c.requires.signature c.requires.scopes e) in
    let free : made_fault (declared_in (scope_at s names)) [] (made_by_members ms) ≡ None = made_told s names ms ∙ (rw c.new-before.ensures.items at c.in-Ok.ensures.told) in
    let world = c.world_over-world.result in
    let is : where_at s1 world ≡ within_group st ms =
    c.world_over-world.ensures.names s1 ∙ (ap (λ (ns : ScopeNames). over (symbols_at s1 g1.symbols) (scope_at s1 ns) []) after ∙ inside_is p s s1 grows g g1 names ms it c.requires.signature c.requires.scopes e) in
    let right : group_used st ms ≡ None = subst (λ (w : Where). members_fault w ms ≡ None) is (c.in-Ok-check_members.ensures s1) in
    let signature = signature_after p s s1 grows g g1 names ms it c.requires.signature c.requires.scopes e right in
    own_after p s s1 grows g g1 names ms it c.requires.signature c.requires.scopes e right

pub type_group-requires-clause-resolved : goal.type_group-requires-clause-resolved
type_group-requires-clause-resolved c =
    let p = c.args.place.now in
    let s = c.args.store.now in
    let g = c.args.sig.now in
    let names = c.args.scope.now in
    let ms = members_at c.args.members.now in
    let st = setting p s g names in
    let s1 = c.push_group.new.store in
    let g1 = c.push_group.new.sig in
    let it = c.in_ok-entered.entered in
    let grows = c.in_ok-entered.ensures.grows in
    let seen = rw (c.new.ensures, c.new-2.ensures) at c.in_ok-enter_members.ensures in
    let widths : c.as_slice-widths.result.now ≡ (members_seen unseen ms).widths = c.as_slice-widths.ensures ∙ ap (λ (x : SeenTree). x.widths) seen in
    let e : IsEntered st (before_group st ms) ms g s1 g1 it = subst (λ (ws : List ℕ). IsEntered st (symbols_at s g.symbols ++ wanting_tuples (symbols_at s g.symbols) ws) ms g s1 g1 it) widths c.in_ok-entered.ensures.entered in
    let after : c.declare_members.new.scope ≡ with_members it.number ms names = c.in-Ok.ensures.ok in
    let scopes : AreScopes s1 (length g1.symbols) c.declare_members.new.scope = subst (AreScopes s1 (length g1.symbols)) (sym after) (scopes_after p s s1 grows g g1 names ms it c.requires.signature c.requires.scopes e) in
    let free : made_fault (declared_in (scope_at s names)) [] (made_by_members ms) ≡ None = made_told s names ms ∙ (rw c.new-before.ensures.items at c.in-Ok.ensures.told) in
    let world = c.world_over-world.result in
    let is : where_at s1 world ≡ within_group st ms =
    c.world_over-world.ensures.names s1 ∙ (ap (λ (ns : ScopeNames). over (symbols_at s1 g1.symbols) (scope_at s1 ns) []) after ∙ inside_is p s s1 grows g g1 names ms it c.requires.signature c.requires.scopes e) in
    let right : group_used st ms ≡ None = subst (λ (w : Where). members_fault w ms ≡ None) is (c.in-Ok-check_members.ensures s1) in
    let signature = signature_after p s s1 grows g g1 names ms it c.requires.signature c.requires.scopes e right in
    resolved_after p s s1 grows g g1 names ms it c.requires.signature c.requires.scopes e right (where_at s1 world) is

pub type_group-requires-clause-each : goal.type_group-requires-clause-each
type_group-requires-clause-each c =
    let p = c.args.place.now in
    let s = c.args.store.now in
    let g = c.args.sig.now in
    let names = c.args.scope.now in
    let ms = members_at c.args.members.now in
    let st = setting p s g names in
    let s1 = c.push_group.new.store in
    let g1 = c.push_group.new.sig in
    let it = c.in_ok-entered.entered in
    let grows = c.in_ok-entered.ensures.grows in
    let seen = rw (c.new.ensures, c.new-2.ensures) at c.in_ok-enter_members.ensures in
    let widths : c.as_slice-widths.result.now ≡ (members_seen unseen ms).widths = c.as_slice-widths.ensures ∙ ap (λ (x : SeenTree). x.widths) seen in
    let e : IsEntered st (before_group st ms) ms g s1 g1 it = subst (λ (ws : List ℕ). IsEntered st (symbols_at s g.symbols ++ wanting_tuples (symbols_at s g.symbols) ws) ms g s1 g1 it) widths c.in_ok-entered.ensures.entered in
    let after : c.declare_members.new.scope ≡ with_members it.number ms names = c.in-Ok.ensures.ok in
    let scopes : AreScopes s1 (length g1.symbols) c.declare_members.new.scope = subst (AreScopes s1 (length g1.symbols)) (sym after) (scopes_after p s s1 grows g g1 names ms it c.requires.signature c.requires.scopes e) in
    let free : made_fault (declared_in (scope_at s names)) [] (made_by_members ms) ≡ None = made_told s names ms ∙ (rw c.new-before.ensures.items at c.in-Ok.ensures.told) in
    let world = c.world_over-world.result in
    let is : where_at s1 world ≡ within_group st ms =
    c.world_over-world.ensures.names s1 ∙ (ap (λ (ns : ScopeNames). over (symbols_at s1 g1.symbols) (scope_at s1 ns) []) after ∙ inside_is p s s1 grows g g1 names ms it c.requires.signature c.requires.scopes e) in
    each p s s1 grows g g1 names ms it c.requires.signature c.requires.scopes e ∙ length-map c.args.members.now member_at

pub returns-in-Ok-type_group-clause-ok : goal.returns-in-Ok-type_group-clause-ok
returns-in-Ok-type_group-clause-ok c =
    let p = c.args.place.now in
    let s = c.args.store.now in
    let g = c.args.sig.now in
    let names = c.args.scope.now in
    let ms = members_at c.args.members.now in
    let st = setting p s g names in
    let s1 = c.push_group.new.store in
    let g1 = c.push_group.new.sig in
    let it = c.in_ok-entered.entered in
    let grows = c.in_ok-entered.ensures.grows in
    let seen = rw (c.new.ensures, c.new-2.ensures) at c.in_ok-enter_members.ensures in
    let widths : c.as_slice-widths.result.now ≡ (members_seen unseen ms).widths = c.as_slice-widths.ensures ∙ ap (λ (x : SeenTree). x.widths) seen in
    let e : IsEntered st (before_group st ms) ms g s1 g1 it = subst (λ (ws : List ℕ). IsEntered st (symbols_at s g.symbols ++ wanting_tuples (symbols_at s g.symbols) ws) ms g s1 g1 it) widths c.in_ok-entered.ensures.entered in
    let after : c.declare_members.new.scope ≡ with_members it.number ms names = c.in-Ok.ensures.ok in
    let scopes : AreScopes s1 (length g1.symbols) c.declare_members.new.scope = subst (AreScopes s1 (length g1.symbols)) (sym after) (scopes_after p s s1 grows g g1 names ms it c.requires.signature c.requires.scopes e) in
    let free : made_fault (declared_in (scope_at s names)) [] (made_by_members ms) ≡ None = made_told s names ms ∙ (rw c.new-before.ensures.items at c.in-Ok.ensures.told) in
    let world = c.world_over-world.result in
    let is : where_at s1 world ≡ within_group st ms =
    c.world_over-world.ensures.names s1 ∙ (ap (λ (ns : ScopeNames). over (symbols_at s1 g1.symbols) (scope_at s1 ns) []) after ∙ inside_is p s s1 grows g g1 names ms it c.requires.signature c.requires.scopes e) in
    let right : group_used st ms ≡ None = subst (λ (w : Where). members_fault w ms ≡ None) is (c.in-Ok-check_members.ensures s1) in
    let signature = signature_after p s s1 grows g g1 names ms it c.requires.signature c.requires.scopes e right in
    let s2 = c.type_group.new.store in
    let made = c.in-Ok-type_group.made in
    subst (λ (ns : ScopeNames). IsGroupElaborated st ms g s2 g1 ns made) (sym after)
    (group_elaborated p s s1 grows g g1 names ms it c.requires.signature c.requires.scopes e right s2 c.in-Ok-type_group.ensures.grows (where_at s1 world) is made c.in-Ok-type_group.ensures.ok free)

pub returns-in-Ok-type_group-clause-kept : goal.returns-in-Ok-type_group-clause-kept
returns-in-Ok-type_group-clause-kept c =
    let p = c.args.place.now in
    let s = c.args.store.now in
    let g = c.args.sig.now in
    let names = c.args.scope.now in
    let ms = members_at c.args.members.now in
    let st = setting p s g names in
    let s1 = c.push_group.new.store in
    let g1 = c.push_group.new.sig in
    let it = c.in_ok-entered.entered in
    let grows = c.in_ok-entered.ensures.grows in
    let seen = rw (c.new.ensures, c.new-2.ensures) at c.in_ok-enter_members.ensures in
    let widths : c.as_slice-widths.result.now ≡ (members_seen unseen ms).widths = c.as_slice-widths.ensures ∙ ap (λ (x : SeenTree). x.widths) seen in
    let e : IsEntered st (before_group st ms) ms g s1 g1 it = subst (λ (ws : List ℕ). IsEntered st (symbols_at s g.symbols ++ wanting_tuples (symbols_at s g.symbols) ws) ms g s1 g1 it) widths c.in_ok-entered.ensures.entered in
    let after : c.declare_members.new.scope ≡ with_members it.number ms names = c.in-Ok.ensures.ok in
    let scopes : AreScopes s1 (length g1.symbols) c.declare_members.new.scope = subst (AreScopes s1 (length g1.symbols)) (sym after) (scopes_after p s s1 grows g g1 names ms it c.requires.signature c.requires.scopes e) in
    let free : made_fault (declared_in (scope_at s names)) [] (made_by_members ms) ≡ None = made_told s names ms ∙ (rw c.new-before.ensures.items at c.in-Ok.ensures.told) in
    let world = c.world_over-world.result in
    let is : where_at s1 world ≡ within_group st ms =
    c.world_over-world.ensures.names s1 ∙ (ap (λ (ns : ScopeNames). over (symbols_at s1 g1.symbols) (scope_at s1 ns) []) after ∙ inside_is p s s1 grows g g1 names ms it c.requires.signature c.requires.scopes e) in
    let right : group_used st ms ≡ None = subst (λ (w : Where). members_fault w ms ≡ None) is (c.in-Ok-check_members.ensures s1) in
    let signature = signature_after p s s1 grows g g1 names ms it c.requires.signature c.requires.scopes e right in
    let s2 = c.type_group.new.store in
    let made = c.in-Ok-type_group.made in
    subst (λ (ns : ScopeNames). IsKept s2 g1 ns made) (sym after) (group_kept p s s1 grows g g1 names ms it c.requires.signature c.requires.scopes e right s2 c.in-Ok-type_group.ensures.grows (where_at s1 world) is made c.in-Ok-type_group.ensures.ok)

pub returns-in-Ok-check_members-clause-err : goal.returns-in-Ok-check_members-clause-err
returns-in-Ok-check_members-clause-err c =
    let p = c.args.place.now in
    let s = c.args.store.now in
    let g = c.args.sig.now in
    let names = c.args.scope.now in
    let ms = members_at c.args.members.now in
    let st = setting p s g names in
    let s1 = c.push_group.new.store in
    let g1 = c.push_group.new.sig in
    let it = c.in_ok-entered.entered in
    let grows = c.in_ok-entered.ensures.grows in
    let seen = rw (c.new.ensures, c.new-2.ensures) at c.in_ok-enter_members.ensures in
    let widths : c.as_slice-widths.result.now ≡ (members_seen unseen ms).widths = c.as_slice-widths.ensures ∙ ap (λ (x : SeenTree). x.widths) seen in
    let e : IsEntered st (before_group st ms) ms g s1 g1 it = subst (λ (ws : List ℕ). IsEntered st (symbols_at s g.symbols ++ wanting_tuples (symbols_at s g.symbols) ws) ms g s1 g1 it) widths c.in_ok-entered.ensures.entered in
    let after : c.declare_members.new.scope ≡ with_members it.number ms names = c.in-Ok.ensures.ok in
    let scopes : AreScopes s1 (length g1.symbols) c.declare_members.new.scope = subst (AreScopes s1 (length g1.symbols)) (sym after) (scopes_after p s s1 grows g g1 names ms it c.requires.signature c.requires.scopes e) in
    let free : made_fault (declared_in (scope_at s names)) [] (made_by_members ms) ≡ None = made_told s names ms ∙ (rw c.new-before.ensures.items at c.in-Ok.ensures.told) in
    let world = c.world_over-world.result in
    let is : where_at s1 world ≡ within_group st ms =
    c.world_over-world.ensures.names s1 ∙ (ap (λ (ns : ScopeNames). over (symbols_at s1 g1.symbols) (scope_at s1 ns) []) after ∙ inside_is p s s1 grows g g1 names ms it c.requires.signature c.requires.scopes e) in
    let right : group_used st ms ≡ None = subst (λ (w : Where). members_fault w ms ≡ None) is (c.in-Ok-check_members.ensures s1) in
    let signature = signature_after p s s1 grows g g1 names ms it c.requires.signature c.requires.scopes e right in
    let f = c.in-Err-type_group.fault in
    let r = most_variables (group_signatures st ms) in
    let fault : IsTypingFault r (group_notes st ms) f =
    subst (λ (gs : List SignatureTree). IsTypingFault (most_variables gs) (pieces_notes (bodies_pieces (within_group st ms) ms gs)) f) e.signed
    (subst (λ (w : Where). IsTypingFault (most_variables (map (signed_at s1) it.list.items)) (pieces_notes (bodies_pieces w ms (map (signed_at s1) it.list.items))) f) is c.in-Err-type_group.ensures.err) in
    subst (IsGroupRefusal st ms) (sym c.typing_fault.ensures)
    (typing_refusal p.decl r (group_notes st ms) (group_fault st ms) f (no_fault (made_fault (declared_in (scope_at s names)) [] (made_by_members ms)) (group_used st ms) free right) fault)

pub returns-in-Ok-clause-err : goal.returns-in-Ok-clause-err
returns-in-Ok-clause-err c =
    let p = c.args.place.now in
    let s = c.args.store.now in
    let g = c.args.sig.now in
    let names = c.args.scope.now in
    let ms = members_at c.args.members.now in
    let st = setting p s g names in
    let s1 = c.push_group.new.store in
    let g1 = c.push_group.new.sig in
    let it = c.in_ok-entered.entered in
    let grows = c.in_ok-entered.ensures.grows in
    let seen = rw (c.new.ensures, c.new-2.ensures) at c.in_ok-enter_members.ensures in
    let widths : c.as_slice-widths.result.now ≡ (members_seen unseen ms).widths = c.as_slice-widths.ensures ∙ ap (λ (x : SeenTree). x.widths) seen in
    let e : IsEntered st (before_group st ms) ms g s1 g1 it = subst (λ (ws : List ℕ). IsEntered st (symbols_at s g.symbols ++ wanting_tuples (symbols_at s g.symbols) ws) ms g s1 g1 it) widths c.in_ok-entered.ensures.entered in
    let after : c.declare_members.new.scope ≡ with_members it.number ms names = c.in-Ok.ensures.ok in
    let scopes : AreScopes s1 (length g1.symbols) c.declare_members.new.scope = subst (AreScopes s1 (length g1.symbols)) (sym after) (scopes_after p s s1 grows g g1 names ms it c.requires.signature c.requires.scopes e) in
    let free : made_fault (declared_in (scope_at s names)) [] (made_by_members ms) ≡ None = made_told s names ms ∙ (rw c.new-before.ensures.items at c.in-Ok.ensures.told) in
    let world = c.world_over-world.result in
    let is : where_at s1 world ≡ within_group st ms =
    c.world_over-world.ensures.names s1 ∙ (ap (λ (ns : ScopeNames). over (symbols_at s1 g1.symbols) (scope_at s1 ns) []) after ∙ inside_is p s s1 grows g g1 names ms it c.requires.signature c.requires.scopes e) in
    let f = c.in-Err-check_members.fault in
    let told : Tells (Err f) (group_used st ms) = subst (λ (w : Where). Tells (Err f) (members_fault w ms)) is (c.in-Err-check_members.ensures s1) in
    subst (IsGroupRefusal st ms) (sym c.naming_fault.ensures)
    (used_refusal p.decl (most_variables (group_signatures st ms)) (group_notes st ms) (made_fault (declared_in (scope_at s names)) [] (made_by_members ms)) (group_used st ms) f free told)

pub returns-clause-err : goal.returns-clause-err
returns-clause-err c =
    let p = c.args.place.now in
    let s = c.args.store.now in
    let g = c.args.sig.now in
    let names = c.args.scope.now in
    let ms = members_at c.args.members.now in
    let st = setting p s g names in
    let f = c.in-Err.fault in
    let members : Tells (Err f) (members_made (declared_in names Symbols) [] ms) = rw c.new-before.ensures.items at c.in-Err.ensures.told in
    let told : Tells (Err f) (made_fault (declared_in (scope_at s names)) [] (made_by_members ms)) = rw (made_told s names ms) members in
    subst (IsGroupRefusal st ms) (sym c.naming_fault-in-Err.ensures)
    (made_refusal p.decl (most_variables (group_signatures st ms)) (group_notes st ms) (made_fault (declared_in (scope_at s names)) [] (made_by_members ms)) (group_used st ms) f told)
