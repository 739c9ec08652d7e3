use Rattle.std.proofs.Common.{[], ◌∷◌, sym, subst, arith}
use Rattle.trees.specs.declared.Sort.TheVariants.{Term}
use Rattle.trees.specs.binders.Visits.{HoldTerms}
use Rattle.tr_recursion.proofs.recursion_forms.Numbers.{held_append, held_split}
use Rattle.tr_recursion.proofs.recursion_forms.equations.+push_bound.Goals as goal

pub push_bound-requires : goal.push_bound-requires
push_bound-requires t c =
    let s = c.args.store.now in
    let n = c.in-Cell.ensures in
    let own = held_split Term s c.args.own.now c.in-Some.term.now c.in-Some.others.now c.in-Some.ensures.cases.0 c.requires.own in
    let terms = held_append Term s c.args.terms.now.items (c.in-Some.term.now ∷ []) c.requires.terms (own.0, tt) in
    (omega (arith, n.below.1), (omega (arith, n.below.1, c.requires.fields), (own.1, subst (HoldTerms s) (sym c.in_ok-push-in-PatVar.ensures.items) terms)))
