use Rattle.std.proofs.Common.{◌≡◌, List, subst, sym, ap, ◌∙◌}
use Rattle.trees.specs.Tree.{Tree}
use Rattle.trees.specs.declared.Sort.TheVariants.{Term}
use Rattle.trees.specs.Node.{tree_at}
use Rattle.trees.specs.Sorts.{IsList}
use Rattle.trees.specs.Binding.{inst_types, inst_many}
use Rattle.tasks.specs.Typing.{members}
use Rattle.evidence.specs.Laws.{AddsTrees_trans, AddsTrees_extends}
use Rattle.congruence.proofs.Later.{tree_later, held_later}
use Rattle.checks.specs.decl_checks.Structure.{defining_body}
use Rattle.inlining.specs.Inlining.{use_body}
use Rattle.tr_inline.specs.Definitions.{body_in, unfolding_rule}
use Rattle.tr_inline.proofs.Unfolded.{use_rule, use_lists, body_of}
use Rattle.tr_inline.proofs.unfolding.unfolded_use.Goals as goal

pub put_types-requires-clause-types : goal.put_types-requires-clause-types
put_types-requires-clause-types c =
    let d = c.args.draft.now in
    (use_lists c.args.def.symbol (tree_at d.trees c.args.e) (tree_at d.trees c.args.at.types) (tree_at d.trees c.args.at.args) c.requires.used.is c.requires.sorted).0

pub put_arguments-requires-clause-args_held : goal.put_arguments-requires-clause-args_held
put_arguments-requires-clause-args_held c = held_later c.args.draft.now c.put_types.new.g (AddsTrees_extends _ _ c.in_ok-typed.ensures.grows) c.args.at.args c.requires.used.args_held

pub put_arguments-requires-clause-args : goal.put_arguments-requires-clause-args
put_arguments-requires-clause-args c =
    let d = c.args.draft.now in
    let l = use_lists c.args.def.symbol (tree_at d.trees c.args.e) (tree_at d.trees c.args.at.types) (tree_at d.trees c.args.at.args) c.requires.used.is c.requires.sorted in
    subst (IsList Term) (sym (tree_later d c.put_types.new.g (AddsTrees_extends _ _ c.in_ok-typed.ensures.grows) c.args.at.args c.requires.used.args_held)) l.1

pub returns-clause-tree : goal.returns-clause-tree
returns-clause-tree c =
    let d = c.args.draft.now in
    let k = c.args.def.symbol in
    let zs = tree_at d.trees c.args.at.types in
    let ts = tree_at d.trees c.args.at.args in
    let made = c.in_ok-made.ensures.tree in
    let typed = c.in_ok-typed.ensures.tree in
    let body : tree_at d.trees c.defining_body-body.result ≡ body_in d.task k = subst (λ (z : List Tree). tree_at z c.defining_body-body.result ≡ defining_body (tree_at z c.args.def.equation)) c.store.ensures c.defining_body-body.ensures.tree ∙ sym (body_of d c.args.def c.requires.defined) in
    let args = tree_later d c.put_types.new.g (AddsTrees_extends _ _ c.in_ok-typed.ensures.grows) c.args.at.args c.requires.used.args_held in
    made ∙ ap (λ (z : Tree). inst_many z (members (tree_at c.put_types.new.g.trees c.args.at.args))) (typed ∙ ap (λ (z : Tree). inst_types z (members zs)) body)
    ∙ ap (λ (z : Tree). use_body (body_in d.task k) zs z) args ∙ sym (use_rule k (body_in d.task k) (tree_at d.trees c.args.e) zs ts c.requires.used.is)

pub returns-in_err-made-clause-grows : goal.returns-in_err-made-clause-grows
returns-in_err-made-clause-grows c = AddsTrees_trans _ _ _ c.in_ok-typed.ensures.grows c.put_arguments.ensures.grows

pub returns-clause-grows : goal.returns-clause-grows
returns-clause-grows c = AddsTrees_trans _ _ _ c.in_ok-typed.ensures.grows c.in_ok-made.ensures.grows
