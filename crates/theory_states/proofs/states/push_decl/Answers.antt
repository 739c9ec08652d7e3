use Rattle.std.proofs.Common.{◌≡◌, List, length, nat_eq, refl, ap, ◌∙◌}
use Rattle.indexmap.specs.IndexSet.{insert_key}
use Rattle.tasks.specs.declared.declaration.Decl.{Decl}
use Rattle.theory_states.specs.declared.states.Opened.{Opened}
use Rattle.theory_states.specs.declared.states.Typed.{Typed}
use Rattle.theory_states.proofs.Pushing.{state_pushed, held_pushed}
use Rattle.theory_states.proofs.states.push_decl.Goals as goal

pub returns-clause-state : goal.returns-clause-state
returns-clause-state c = λ s.
    let t = c.args.typed.now in
    let o = c.args.open.now in
    let t' : Typed = record t { decls = c.push.new.self } in
    let o' : Opened = record o { visible = c.insert.new.self } in
    let is : c.insert.new.self.keys ≡ insert_key nat_eq o.visible.keys (length t.decls) = c.in_ok-insert.ensures.keys ∙ ap (insert_key nat_eq o.visible.keys) c.len-place.ensures in
    state_pushed t o c.args.decl c.insert.new.self.keys c.requires is s t' o' (ap (λ (ds : List Decl). let it : Typed = record t { decls = ds } in it) c.in_ok-push.ensures.ok) refl refl

pub returns-clause-held : goal.returns-clause-held
returns-clause-held c = λ s h d.
    let t = c.args.typed.now in
    let o = c.args.open.now in
    let t' : Typed = record t { decls = c.push.new.self } in
    let o' : Opened = record o { visible = c.insert.new.self } in
    let is : c.insert.new.self.keys ≡ insert_key nat_eq o.visible.keys (length t.decls) = c.in_ok-insert.ensures.keys ∙ ap (insert_key nat_eq o.visible.keys) c.len-place.ensures in
    held_pushed t o c.args.decl c.insert.new.self.keys c.requires is s d h t' o' (ap (λ (ds : List Decl). let it : Typed = record t { decls = ds } in it) c.in_ok-push.ensures.ok) refl refl
