use Rattle.std.proofs.Common.{◌≡◌, Bool, false, if◌then◌else◌, [], map, sym, subst, ◌∙◌}
use Rattle.tasks.specs.Looking.{fact_name}
use Rattle.tasks.specs.Meaning.{declaration_at}
use Rattle.declarations.specs.Said.{own_said, IsFactSearch}
use Rattle.tr_remove.specs.Remove.{is_removed}
use Rattle.tr_remove.proofs.removing.RemoveRewriteDeclarations.origin.Goals as goal

pub returns : goal.returns
returns c = λ symbols.
    let s = c.args.store.now in
    let d = declaration_at s c.args.decl.now in
    let r : is_removed c.args.self.now.props d ≡ false = sym (rw c.as_slice.ensures at (c.is_removed.ensures s)) ∙ c.if-is_removed.false in
    subst (λ (b : Bool). IsFactSearch (map fact_name (if b then [] else own_said c.args.place d d.body)) c.args.k c.own_origin.result) (sym r) (c.own_origin.ensures s)
