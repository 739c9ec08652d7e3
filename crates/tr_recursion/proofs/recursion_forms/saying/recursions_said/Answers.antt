use Rattle.std.proofs.Common.{◌≡◌, All, sym, subst}
use Rattle.trees.specs.Node.{Holds}
use Rattle.tasks.specs.declared.declaration.Body.{Body}
use Rattle.tasks.specs.declared.declaration.Def.{Def}
use Rattle.tr_recursion.specs.recursion_forms.Made.{DefinitionIsFit}
use Rattle.tr_recursion.proofs.recursion_forms.Fit.{body_fit}
use Rattle.tr_recursion.proofs.recursion_forms.saying.recursions_said.Goals as goal

pub push_members-requires-clause-fit : goal.push_members-requires-clause-fit
push_members-requires-clause-fit c =
    let s = c.args.store.now in
    let infos = c.args.sig.now.symbols in
    subst (All (DefinitionIsFit s infos)) (sym c.as_slice-in-Defs.ensures) (body_fit s infos c.args.decl.now c.requires.valid c.in-Defs.defs c.in-Defs.is)
