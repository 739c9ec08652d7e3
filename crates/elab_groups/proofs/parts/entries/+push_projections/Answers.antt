use Rattle.std.proofs.Common.{suc, ◌∷◌, [], length, ap, arith, add-one}
use Rattle.std.proofs.lemmas.Result.{on_ok_weaker}
use Rattle.tasks.specs.trees.Node.{tree_at}
use Rattle.tasks.specs.trees.Facts.{TyVarsBelow}
use Rattle.tasks.specs.Meaning.{trees_at}
use Rattle.open_types.specs.Drafts.{HoldsType}
use Rattle.elab_groups.specs.parts.Entries.{first_word, other_words, field_entry, field_entries}
use Rattle.elab_groups.proofs.parts.Entering.{extended_both}
use Rattle.elab_groups.proofs.parts.Putting.{all_first, all_rest}
use Rattle.elab_groups.proofs.parts.entries.+push_projections.Goals as goal

pub push_projection-requires-clause-field : goal.push_projection-requires-clause-field
push_projection-requires-clause-field t c = all_first (HoldsType c.args.store.now) c.args.fields.now c.in-Some.field.now c.in-Some.rest.now c.in-Some.ensures.cases.0 c.requires.fields

pub push_projection-requires-clause-field_below : goal.push_projection-requires-clause-field_below
push_projection-requires-clause-field_below t c =
    let s = c.args.store.now in
    all_first (TyVarsBelow c.args.of.now.vars) (trees_at s c.args.fields.now) (tree_at s c.in-Some.field.now) (trees_at s c.in-Some.rest.now) (ap (trees_at s) c.in-Some.ensures.cases.0) c.requires.fields_below

pub push_projections-requires : goal.push_projections-requires
push_projections-requires t c =
    let s = c.args.store.now in
    let l = ap length c.in-Some.ensures.cases.0 in (
      omega (arith, l),
      (
        c.in_ok-push_projection.ensures.signature,
        (
          c.requires.ty,
          (
            c.requires.ty_below,
            (
              all_rest (HoldsType s) c.args.fields.now c.in-Some.field.now c.in-Some.rest.now c.in-Some.ensures.cases.0 c.requires.fields,
              (all_rest (TyVarsBelow c.args.of.now.vars) (trees_at s c.args.fields.now) (tree_at s c.in-Some.field.now) (trees_at s c.in-Some.rest.now) (ap (trees_at s) c.in-Some.ensures.cases.0) c.requires.fields_below, omega (arith, l, c.requires.count)),
            ),
          ),
        ),
      ),
    )

pub returns : goal.returns
returns t c =
    let s = c.args.store.now in
    let of = c.args.of.now in
    let ty = tree_at s of.ty in
    let one = field_entry of.theory.now of.within.now of.name.now of.vars ty c.args.number (first_word c.args.words.now) (tree_at s c.in-Some.field.now) ∷ [] in
    let rest = field_entries of.theory.now of.within.now of.name.now of.vars ty (suc c.args.number) (other_words c.args.words.now) (trees_at s c.in-Some.rest.now) in
    rw c.in-Some.ensures.cases.0 (on_ok_weaker c.push_projections.result (λ h. extended_both one rest (rw c.split_words.ensures.first at c.in_ok-push_projection.ensures) h) (rw (add-one, c.split_words.ensures.others) at c.push_projections.ensures))
