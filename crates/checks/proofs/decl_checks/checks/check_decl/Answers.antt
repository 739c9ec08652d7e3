use Rattle.tasks.specs.Meaning.{symbols_at, body_at}
use Rattle.checks.proofs.decl_checks.Exact.{exact_right, exact_refused, exact_memory}
use Rattle.checks.proofs.decl_checks.checks.check_decl.Goals as goal

pub returns-clause-right : goal.returns-clause-right
returns-clause-right c =
    let s = c.args.store.now in
    exact_right (symbols_at s c.args.sig.now.symbols) (body_at s c.args.decl.now.body) c.check_body.result c.check_body.ensures

pub returns-clause-refused : goal.returns-clause-refused
returns-clause-refused c =
    let s = c.args.store.now in
    exact_refused (symbols_at s c.args.sig.now.symbols) (body_at s c.args.decl.now.body) c.check_body.result c.check_body.ensures

pub returns-clause-memory : goal.returns-clause-memory
returns-clause-memory c =
    let s = c.args.store.now in
    exact_memory (symbols_at s c.args.sig.now.symbols) (body_at s c.args.decl.now.body) c.check_body.result c.check_body.ensures
