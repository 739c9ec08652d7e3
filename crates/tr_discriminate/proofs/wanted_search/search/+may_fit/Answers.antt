use Rattle.std.proofs.Common.{◌≡◌, Some, None, slice_get, sym, ap, ◌∙◌}
use Rattle.std.proofs.lemmas.Option.{slice_get-get_or, slice_get_past}
use Rattle.trees.specs.Node.{tree_at}
use Rattle.tr_discriminate.proofs.wanted_search.Tests.{known_told, none_told}
use Rattle.tr_discriminate.proofs.wanted_search.search.+may_fit.Goals as goal

pub returns-in-Some : goal.returns-in-Some
returns-in-Some t c =
    let s = c.args.store.now in
    let ty = c.in-Some.ty.now in
    let found : slice_get c.args.known.now c.in-TyVar.number ≡ Some ty = slice_get-get_or c.args.known.now c.in-TyVar.number ty c.in-Some.ensures.lookup.3.0 ∙ ap Some (sym c.in-Some.ensures.lookup.1) in
    rw c.in-TyVar.ensures.tree (known_told s c.args.known.now c.in-TyVar.number ty (tree_at s c.args.ground) c.same.result found c.same.ensures.trees)

pub returns-in-None : goal.returns-in-None
returns-in-None t c =
    let s = c.args.store.now in
    let found : slice_get c.args.known.now c.in-TyVar.number ≡ None = slice_get_past c.args.known.now c.in-TyVar.number c.in-None.ensures.lookup.3 in
    rw c.in-TyVar.ensures.tree (none_told s c.args.known.now c.in-TyVar.number (tree_at s c.args.ground) found)
