use Rattle.std.proofs.Common.{◌∷◌, List, ap, ◌∙◌, sym, length, drop, arith, ◌-◌, ℕ}
use Rattle.scopes.specs.Names.{ScopeEntry}
use Rattle.scopes.specs.Kept.{brought_entry}
use Rattle.scopes.proofs.Listed.{drop-brought_before, brought_before-snoc, length-brought_before}
use Rattle.scopes.proofs.entries.Entries.bring_all.Goals as goal

pub overflow_sub-len : goal.overflow_sub-len
overflow_sub-len c =
    let same = ap length (c.in-Err.ensures.err ∙ c.loop-item.invariant) in
    omega (arith, c.len.ensures, c.len-before.ensures, same, length-brought_before c.args.self.now c.loop-item.yielded)

pub returns-in-Err-clause-err : goal.returns-in-Err-clause-err
returns-in-Err-clause-err c =
    let now = c.in-Err.ensures.err ∙ c.loop-item.invariant in
    c.remove_many.ensures
    ∙ ap (λ (n : ℕ). drop (n - c.len-before.result) c.add.new.self) c.len.ensures
    ∙ ap (λ (n : ℕ). drop (length c.add.new.self - n) c.add.new.self) c.len-before.ensures
    ∙ ap (λ (es : List ScopeEntry). drop (length es - length c.args.self.now) es) now
    ∙ drop-brought_before c.args.self.now c.loop-item.yielded

pub loop-item-preserved : goal.loop-item-preserved
loop-item-preserved c =
    let e : ScopeEntry = brought_entry c.in-Some.item in
    c.in_default.ensures.ok ∙ ap (λ (es : List ScopeEntry). e ∷ es) c.loop-item.invariant ∙ sym (brought_before-snoc c.args.self.now c.loop-item.yielded c.in-Some.item)
