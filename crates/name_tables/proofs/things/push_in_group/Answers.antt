use Rattle.std.proofs.Common.{◌≡◌, ℕ, List, [], ◌∷◌, ◌++◌, get_or, set, sym, ap, subst, ◌∙◌, arith, rules}
use Rattle.std.proofs.lemmas.List.{get_or_read}
use Rattle.name_tables.specs.Groups.{IsKeyPushed}
use Rattle.name_tables.proofs.Grouped.{told_ground, pushed_here, pushed_later}
use Rattle.name_tables.proofs.things.push_in_group.Goals as goal

pub returns : goal.returns
returns c =
    let s = c.args.store.now in
    let key = c.args.key in
    let middle = c.fill_groups.new.groups.items in
    let group = c.index_mut.result.now in
    let e : get_or middle key.0 [] ≡ group = sym (get_or_read middle key.0 group c.in_ok-fill_groups.ensures.within c.index_mut.ensures.value []) in
    let here = pushed_here s middle key group c.in_ok-fill_groups.ensures.within e (told_ground key s c.above_type_variables.result c.above_type_variables.ensures c.if-above_type_variables-ne0.false) c.requires.held in
    let new : c.push.new.self ≡ group ++ key ∷ [] = c.in_ok-push.ensures.ok in
    pushed_later s c.args.groups.now.items middle _ key c.in_ok-fill_groups.ensures (subst (λ (z : List (ℕ × ℕ)). IsKeyPushed s middle (set middle key.0 z) key) (sym new) here)
