use Rattle.std.proofs.Common.{◌<◌, suc, length, arith, ap}
use Rattle.tasks.specs.trees.Node.{tree_at}
use Rattle.tasks.specs.Meaning.{trees_at, declarations_at}
use Rattle.tr_discriminate.specs.Origins.{HasOrigin}
use Rattle.tr_discriminate.proofs.Searching.{holds_all, after_missed, after_other, from_next, instance_here, types_good}
use Rattle.tr_discriminate.proofs.citing.+origin_from.Goals as goal

pub returns-then-found-clause-held : goal.returns-then-found-clause-held
returns-then-found-clause-held t c = holds_all c.args.store.now c.in_ok-types-in-Prop.types.items c.in_ok-types-in-Prop.ensures.held

pub returns-then-found-clause-there : goal.returns-then-found-clause-there
returns-then-found-clause-there t c =
    let s = c.args.store.now in
    let e = tree_at s c.args.formula in
    let tys = trees_at s c.in_ok-types-in-Prop.types.items in
    let told = rw c.deref.ensures.value at c.is_inst_types-found.ensures in
    rw c.in-Some.ensures.cases.0 (λ ps h. instance_here s e c.in-Some.first.now c.in-Some.rest.now c.in-Prop.a c.in-Prop.is c.is_inst_types-found.result tys told c.if-found.true c.in_ok-types-in-Prop.ensures.trees ps c.args.place h)

pub returns-then-found-clause-types : goal.returns-then-found-clause-types
returns-then-found-clause-types t c =
    let s = c.args.store.now in
    types_good s (tree_at s c.in-Prop.a) (tree_at s c.args.formula) c.in-Some.first.now.vars (trees_at s c.in_ok-types-in-Prop.types.items) c.in_ok-types-in-Prop.ensures.trees

pub origin_from-requires : goal.origin_from-requires
origin_from-requires t c =
    let s = c.args.store.now in
    let e = tree_at s c.args.formula in
    let tys = trees_at s c.in_ok-types-in-Prop.types.items in
    let told = rw c.deref.ensures.value at c.is_inst_types-found.ensures in
    let had = rw c.in-Some.ensures.cases.0 at c.requires.origin in
    let left : HasOrigin (declarations_at s c.in-Some.rest.now) e =
    after_missed s e c.in-Some.first.now c.in-Some.rest.now c.in-Prop.a c.in-Prop.is c.is_inst_types-found.result tys told c.if-found.false c.in_ok-types-in-Prop.ensures.trees had in
    let cases = c.in-Some.ensures.cases.0 in
    let less : length c.in-Some.rest.now < length c.args.decls.now = omega (arith, ap length cases) in
    let all = rw cases at c.requires.held in
    (omega (arith, less), (λ k d l. all (suc k) d (omega (arith, l)), (c.requires.formula, (omega (arith, less, c.requires.fits), left))))

pub origin_from-requires-in_default : goal.origin_from-requires-in_default
origin_from-requires-in_default t c =
    let s = c.args.store.now in
    let e = tree_at s c.args.formula in
    let had = rw c.in-Some.ensures.cases.0 at c.requires.origin in
    let left : HasOrigin (declarations_at s c.in-Some.rest.now) e = after_other s e c.in-Some.first.now c.in-Some.rest.now c.in_default.not-Prop had in
    let cases = c.in-Some.ensures.cases.0 in
    let less : length c.in-Some.rest.now < length c.args.decls.now = omega (arith, ap length cases) in
    let all = rw cases at c.requires.held in
    (omega (arith, less), (λ k d l. all (suc k) d (omega (arith, l)), (c.requires.formula, (omega (arith, less, c.requires.fits), left))))

pub returns-in_ok-next-in-Prop-clause-there : goal.returns-in_ok-next-in-Prop-clause-there
returns-in_ok-next-in-Prop-clause-there t c =
    let s = c.args.store.now in
    let e = tree_at s c.args.formula in
    rw c.in-Some.ensures.cases.0 (λ ps h. c.in_ok-next-in-Prop.ensures.there ps (from_next s e c.in-Some.first.now c.in-Some.rest.now c.in-Prop.a c.in-Prop.is ps c.args.place h))
