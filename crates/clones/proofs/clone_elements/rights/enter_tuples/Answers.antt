use Rattle.std.proofs.Common.{◌≡◌, ℕ, List, OnOk, ap, subst, ◌∙◌}
use Rattle.tasks.proofs.trees.Nodes.{Grows_refl}
use Rattle.tasks.specs.Meaning.{symbols_at}
use Rattle.name_resolution.specs.Abstract.{type_expression_of}
use Rattle.name_resolution.specs.variables.Seen.{SeenTree, form_seen}
use Rattle.name_resolution.specs.variables.Entered.{seen_at}
use Rattle.elab_groups.specs.parts.Elaborated.{unseen}
use Rattle.elab_groups.specs.parts.Entries.{wanting_tuples, IsExtended}
use Rattle.clones.proofs.clone_elements.rights.enter_tuples.Goals as goal
use Rattle.tasks.proofs.outside.Passed.{no_ok}

pub push_tuples-requires : goal.push_tuples-requires
push_tuples-requires c = c.requires

pub returns-clause-entries : goal.returns-clause-entries
returns-clause-entries c =
    let s = c.args.store.now in
    let g = c.args.sig.now in
    let q : seen_at c.enter_form.new.seen ≡ form_seen unseen (type_expression_of c.args.ty.now) = rw (c.new.ensures, c.new-2.ensures) at c.in_ok-enter_form.ensures in
    subst (λ (ws : List ℕ). OnOk c.push_tuples.result (IsExtended s g c.push_tuples.new.store c.push_tuples.new.sig (wanting_tuples (symbols_at s g.symbols) ws))) (c.as_slice.ensures ∙ ap (λ (v : SeenTree). v.widths) q) c.push_tuples.ensures.entries

pub returns-clause-grows : goal.returns-clause-grows
returns-clause-grows c = c.push_tuples.ensures.grows

pub returns-in_err-enter_form-clause-entries : goal.returns-in_err-enter_form-clause-entries
returns-in_err-enter_form-clause-entries c = no_ok _ _ c.from_residual.result c.from_residual.ensures.1

pub returns-in_err-enter_form-clause-grows : goal.returns-in_err-enter_form-clause-grows
returns-in_err-enter_form-clause-grows c = Grows_refl c.args.store.now
