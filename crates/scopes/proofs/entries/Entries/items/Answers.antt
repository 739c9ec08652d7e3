use Rattle.std.proofs.Common.{◌≡◌, List, ℕ, ap, ◌∙◌, sym, take, ◌+◌, ◌++◌, ◌∷◌, [], false}
use Rattle.std.proofs.lemmas.List.{take_more}
use Rattle.scopes.specs.Names.{ScopeEntry}
use Rattle.scopes.specs.declared.entries.Stored.{Stored}
use Rattle.scopes.specs.declared.entries.Item.{Item}
use Rattle.scopes.proofs.Listed.{items_more}
use Rattle.scopes.proofs.entries.Entries.items.Goals as goal

pub loop-stored-preserved : goal.loop-stored-preserved
loop-stored-preserved c =
    let xs = c.deref-stored-items.result.now in
    let x = c.stored-item.result in
    let it : Item = record { table = x.table; name = c.in_ok-from_slice.field-0; thing = x.thing } in
    let named : c.in_ok-from_slice.field-0.items ≡ x.name.items = c.in_ok-from_slice.ensures.items ∙ c.as_slice.ensures.value in
    items_more (take (c.loop-stored.stored-index + 1) xs) (take c.loop-stored.stored-index xs) c.loop-stored.items.items c.push.new.self.items x it
    (take_more xs c.loop-stored.stored-index x c.loop-stored-test.true ∙ ap (λ (y : Stored). take c.loop-stored.stored-index xs ++ y ∷ []) (sym c.stored-item.is))
    c.in_ok-push.ensures.items
    (ap (λ (n : List ℕ). let e : ScopeEntry = record { table = x.table; name = n; thing = x.thing; declared = false } in e) named)
    c.loop-stored.invariant
