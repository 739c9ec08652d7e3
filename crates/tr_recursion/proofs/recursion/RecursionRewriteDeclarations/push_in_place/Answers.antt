use Rattle.std.proofs.Common.{◌∙◌}
use Rattle.std.proofs.lemmas.Result.{on_ok_weaker}
use Rattle.tasks.proofs.Growth.{decl_held_later}
use Rattle.tr_inline.specs.inlining.branch_equations.Branches.{recursion_facts}
use Rattle.tr_define.proofs.Placed.{all_held, placed}
use Rattle.tr_recursion.proofs.recursion.RecursionRewriteDeclarations.push_in_place.Goals as goal

pub push_in_place-requires-clause-decl : goal.push_in_place-requires-clause-decl
push_in_place-requires-clause-decl c = decl_held_later c.args.store.now c.recursions_said.new.store c.recursions_said.ensures.grows c.args.decl.now c.requires.valid.held

pub push_in_place-requires-clause-held : goal.push_in_place-requires-clause-held
push_in_place-requires-clause-held c = all_held c.args.store.now c.recursions_said.new.store c.recursions_said.ensures.grows c.args.decls.now.items c.requires.held

pub returns-clause-decls : goal.returns-clause-decls
returns-clause-decls c = on_ok_weaker c.push_in_place.result (λ h.
    h ∙ placed c.args.store.now c.recursions_said.new.store c.recursions_said.ensures.grows recursion_facts c.args.sig.now.symbols c.requires.valid.symbols c.args.decl.now c.requires.valid.held c.args.decls.now.items c.requires.held _ c.in_ok-said.ensures.said) c.push_in_place.ensures.decls
