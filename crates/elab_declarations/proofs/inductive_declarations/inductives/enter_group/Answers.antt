use Rattle.std.proofs.Common.{◌≡◌, ◌++◌, ℕ, List, IfOk, ap, subst, ◌∙◌}
use Rattle.tasks.specs.Meaning.{symbols_at}
use Rattle.name_resolution.specs.variables.Seen.{SeenTree}
use Rattle.elab_groups.specs.parts.Declarations.{GroupMember}
use Rattle.elab_groups.specs.parts.Elaborated.{unseen}
use Rattle.elab_groups.specs.parts.Entries.{wanting_tuples}
use Rattle.elab_groups.specs.parts.Outcomes.{setting}
use Rattle.elab_groups.specs.members.Sources.{members_at, IsEntered}
use Rattle.elab_declarations.specs.inductive_declarations.Inductives.{inductives_seen, as_members}
use Rattle.elab_declarations.specs.inductive_declarations.Sources.{predicates_at}
use Rattle.elab_declarations.proofs.inductive_declarations.inductives.enter_group.Goals as goal

pub returns-clause-entered : goal.returns-clause-entered
returns-clause-entered c =
    let s = c.args.store.now in
    let g = c.args.sig.now in
    let st = setting c.args.place.now s g c.args.scope.now in
    let ds = predicates_at c.args.inductives.now in
    let s1 = c.push_group.new.store in
    let g1 = c.push_group.new.sig in
    let r = c.push_group.result in
    let es = symbols_at s g.symbols in
    let seen = rw (c.new.ensures, c.new-2.ensures) at c.in_ok-enter_inductives.ensures in
    let widths : c.as_slice-widths.result.now ≡ (inductives_seen unseen ds).widths = c.as_slice-widths.ensures ∙ ap (λ (x : SeenTree). x.widths) seen in
    let pushed : members_at c.push_predicates.new.list.items ≡ as_members ds = rw c.new-members.ensures.items at c.in_ok-push_predicates.ensures in
    let members : members_at c.as_slice.result.now ≡ as_members ds = ap members_at c.as_slice.ensures.value ∙ pushed in
    subst (λ (ws : List ℕ). IfOk r (IsEntered st (es ++ wanting_tuples es ws) (as_members ds) g s1 g1)) widths
    (subst (λ (ms : List GroupMember). IfOk r (IsEntered st (es ++ wanting_tuples es c.as_slice-widths.result.now) ms g s1 g1)) members c.push_group.ensures.entered)
