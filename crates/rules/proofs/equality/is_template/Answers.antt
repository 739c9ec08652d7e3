use Rattle.std.proofs.Common.{rules, ◌≡◌, ◌≤◌, arith}
use Rattle.trees.specs.declared.Sort.TheVariants.{Formula}
use Rattle.trees.specs.Tree.{loose}
use Rattle.trees.specs.Node.{tree_at}
use Rattle.trees.specs.Sorts.{sort_of}
use Rattle.tasks.specs.Valid.{IsGround}
use Rattle.rules.specs.Meaning.{task_of}
use Rattle.rules.proofs.Templates.{template_is, template_can}
use Rattle.rules.proofs.equality.is_template.Goals as goal
use Rattle.tasks.proofs.Declared.{no}

pub returns-then-loose-gt1 : goal.returns-then-loose-gt1
returns-then-loose-gt1 c =
    let s = c.args.x.now.store.now in
    no (λ h. let l = (template_can (task_of c.args.x.now) (tree_at s c.args.ty) (tree_at s c.args.e) h).0 in omega (arith, l, c.loose.ensures, c.if-loose-gt1.true))

pub returns : goal.returns
returns c =
    let s = c.args.x.now.store.now in
    let t = task_of c.args.x.now in
    let ty = tree_at s c.args.ty in
    let e = tree_at s c.args.e in
    let sort : sort_of e ≡ Formula = search rules in
    let ground : IsGround e = search rules in
    let low : loose e ≤ 1 = omega (arith, c.loose.ensures, c.if-loose-gt1.false) in
    (λ v. template_is t ty e c.requires.open sort low ground (c.variable_has_type.ensures.0 v), λ h. c.variable_has_type.ensures.1 (template_can t ty e h).1)
