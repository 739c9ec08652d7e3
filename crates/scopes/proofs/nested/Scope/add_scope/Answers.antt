use Rattle.std.proofs.Common.{◌∷◌, [], ◌++◌, List, ap, ◌∙◌, length}
use Rattle.scopes.specs.Names.{ScopeEntry}
use Rattle.scopes.proofs.Inside.{scoped, read_at}
use Rattle.scopes.specs.declared.Table.TheVariants.{Scopes}
use Rattle.scopes.specs.declared.Referent.TheVariants as stands
use Rattle.scopes.proofs.nested.Scope.add_scope.Goals as goal

pub returns-clause-ok : goal.returns-clause-ok
returns-clause-ok c =
    let is_pushed = c.in-Ok.ensures.items ∙ ap (λ (es : List ScopeEntry). c.self.inside.scopes.items ++ es ∷ []) c.new.ensures in
    scoped c.self.inside.scopes.items c.push-2.new.self.items c.self.inside.outer.items c.push.new.self.items c.self.inside.current (length c.as_slice-number.result.now) c.args.name.now c.in_ok-name.name.items c.args.declared c.add.new.self c.args.self.now
    c.self.view_is c.self.invariant.0
    is_pushed
    (c.in-Ok-add.ensures.ok
    ∙ ap (λ (es : List ScopeEntry). let entry : ScopeEntry = record { table = Scopes; name = c.in_ok-name.name.items; thing = stands.Entry (length c.as_slice-number.result.now); declared = c.args.declared } in entry ∷ es)
    (read_at c.self.inside.scopes.items c.push-2.new.self.items c.self.inside.current c.index_mut-entries.result.now c.self.invariant.0 is_pushed c.index_mut-entries.ensures.value))
    c.in_ok-push.ensures.items
    (ap length c.as_slice-number.ensures.value)
    c.in_ok-name.ensures.items
