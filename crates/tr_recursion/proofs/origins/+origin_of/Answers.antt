use Rattle.std.proofs.Common.{◌∙◌, ◌+◌, ℕ, ap}
use Rattle.tasks.specs.Meaning.{declaration_at, declarations_at}
use Rattle.declarations.proofs.Places.{origin_here, origin_after}
use Rattle.tr_define.specs.declarations.spelled_groups.Spelled.{spelling_said}
use Rattle.tr_inline.specs.inlining.branch_equations.Branches.{recursion_facts}
use Rattle.tr_recursion.proofs.origins.+origin_of.Goals as goal

pub returns-in-Here : goal.returns-in-Here
returns-in-Here t c = λ symbols.
    let s = c.args.store.now in
    rw c.in-Some.ensures.cases.0 (origin_here (spelling_said recursion_facts) symbols c.args.place (declaration_at s c.in-Some.first.now) (declarations_at s c.in-Some.rest.now) c.args.k c.in-Here.name (c.in-Here.ensures symbols))

pub returns-in-After : goal.returns-in-After
returns-in-After t c = λ symbols.
    let s = c.args.store.now in
    rw c.in-Some.ensures.cases.0
    (c.origin_of.ensures symbols ∙ origin_after (spelling_said recursion_facts) symbols c.args.place (declaration_at s c.in-Some.first.now) (declarations_at s c.in-Some.rest.now) c.args.k c.in-After.left (c.args.place + c.said_in.result) (c.in-After.ensures symbols) (ap (λ (n : ℕ). c.args.place + n) c.said_in.ensures.said))
