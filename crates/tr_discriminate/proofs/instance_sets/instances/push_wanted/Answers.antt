use Rattle.std.proofs.Common.{◌≡◌, List, map, All, refl, sym, ap, subst, ◌∙◌, arith}
use Rattle.std.proofs.lemmas.List.{length-map}
use Rattle.tasks.specs.trees.Node.{tree_at}
use Rattle.tasks.specs.Task.{DeclarationTree}
use Rattle.tasks.specs.Meaning.{trees_at, declaration_at}
use Rattle.name_tables.specs.Seen.{seen_occurrences}
use Rattle.tr_discriminate.specs.wanted_instances.Wanted.{wanted_types}
use Rattle.tr_discriminate.specs.wanted_instances.Discriminated.{proposition_of}
use Rattle.tr_discriminate.specs.instance_sets.Made.{IsTypeTree, AreTypeLists, IsAboveAllowed, instances_of}
use Rattle.tr_discriminate.proofs.instance_sets.Puts.{size_positive, too_many, few_enough, type_lists, puts_as, fault_passed}
use Rattle.tr_discriminate.proofs.instance_sets.instances.push_wanted.Goals as goal

pub nonzero_div-many : goal.nonzero_div-many
nonzero_div-many c = omega (arith, c.size-size.ensures, size_positive (tree_at c.args.store.now c.args.saying.now.formula))

pub returns-then-count-most-clause-fault : goal.returns-then-count-most-clause-fault
returns-then-count-most-clause-fault c =
    let s = c.args.store.now in
    let a = tree_at s c.args.saying.now.formula in
    let yss = c.in_ok-wanted.wanted.items in
    too_many a (declaration_at s c.args.saying.now.decl.now) (wanted_types (seen_occurrences s c.args.ranked.now.keys.now) (proposition_of c.args.saying.now.decl.now.vars a)) (map (trees_at s) yss) c.args.allowed c.size-size.result _ c.in_ok-wanted.ensures.are
    (omega (arith, length-map yss (trees_at s))) (omega (arith, c.size-size.ensures)) (omega (arith, c.size-size.ensures, size_positive a)) refl

pub push_instances-requires-clause-types : goal.push_instances-requires-clause-types
push_instances-requires-clause-types c =
    let s = c.args.store.now in
    let a = tree_at s c.args.saying.now.formula in
    let all = wanted_types (seen_occurrences s c.args.ranked.now.keys.now) (proposition_of c.args.saying.now.decl.now.vars a) in
    let yss = c.in_ok-wanted.wanted.items in
    let whole : map (trees_at s) yss ≡ all = few_enough all (map (trees_at s) yss) _ c.in_ok-wanted.ensures.are (omega (arith, length-map yss (trees_at s))) in
    subst (AreTypeLists s) (sym c.as_slice.ensures.value) (type_lists s yss c.in_ok-wanted.ensures.held (subst (All (All IsTypeTree)) (sym whole) c.requires.ready.kinds))

pub returns-in_err-left-clause-fault : goal.returns-in_err-left-clause-fault
returns-in_err-left-clause-fault c =
    let s = c.args.store.now in
    let a = tree_at s c.args.saying.now.formula in
    let all = wanted_types (seen_occurrences s c.args.ranked.now.keys.now) (proposition_of c.args.saying.now.decl.now.vars a) in
    let yss = c.in_ok-wanted.wanted.items in
    let whole : map (trees_at s) yss ≡ all = few_enough all (map (trees_at s) yss) _ c.in_ok-wanted.ensures.are (omega (arith, length-map yss (trees_at s))) in
    fault_passed c.from_residual-in_err-left.result c.in_err-left.field-0.0 _ c.from_residual-in_err-left.ensures.1
    (subst (λ (z : List DeclarationTree). IsAboveAllowed c.args.allowed z c.in_err-left.field-0.0) (ap (λ z. instances_of (declaration_at s c.args.saying.now.decl.now) a (map (trees_at s) z)) c.as_slice.ensures.value ∙ ap (instances_of (declaration_at s c.args.saying.now.decl.now) a) whole) c.in_err-left.ensures.fault)

pub returns-clause-puts : goal.returns-clause-puts
returns-clause-puts c =
    let s = c.args.store.now in
    let a = tree_at s c.args.saying.now.formula in
    let all = wanted_types (seen_occurrences s c.args.ranked.now.keys.now) (proposition_of c.args.saying.now.decl.now.vars a) in
    let yss = c.in_ok-wanted.wanted.items in
    let whole : map (trees_at s) yss ≡ all = few_enough all (map (trees_at s) yss) _ c.in_ok-wanted.ensures.are (omega (arith, length-map yss (trees_at s))) in
    puts_as s c.push_instances.new.store c.args.decls.now c.push_instances.new.decls c.args.allowed c.in_ok-left.left _ _
    (ap (λ z. instances_of (declaration_at s c.args.saying.now.decl.now) a (map (trees_at s) z)) c.as_slice.ensures.value ∙ ap (instances_of (declaration_at s c.args.saying.now.decl.now) a) whole) c.in_ok-left.ensures.puts
