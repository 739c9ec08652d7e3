use Rattle.std.proofs.Common.{◌≡◌, ◌∷◌, [], List, ℕ, cond, Some, ap, ◌∙◌, sym}
use Rattle.std.specs.Str.{bytes_eq}
use Rattle.scopes.specs.declared.entries.Stored.{Stored}
use Rattle.scopes.specs.declared.entries.Meaning.{Meaning}
use Rattle.scopes.specs.Names.{same_table, ScopeEntry}
use Rattle.scopes.specs.Kept.{latest_meaning, meaning_in, meanings_of, stored_entry, latest_first}
use Rattle.scopes.proofs.Listed.{updates_name, kept_push, entries_before-snoc}
use Rattle.scopes.proofs.entries.Entries.add.Goals as goal

pub invariant_of-self-in-Ok : goal.invariant_of-self-in-Ok
invariant_of-self-in-Ok c =
    let x : Stored = record { table = c.args.table; name = c.args.name; thing = c.args.thing; declared = c.args.declared; before = c.in_table-before.result } in
    let key_is : c.in_ok-key.key.items ≡ c.args.name.items = c.in_ok-key.ensures.items ∙ c.as_slice.ensures.value in
    let updates = updates_name c.in_ok-key.key.items c.self.inside.meanings c.insert.new.self _ c.in-Ok.ensures.updates in
    rw c.in_ok-push.ensures.items
    (kept_push c.self.inside.stored.items x c.self.inside.meanings c.insert.new.self c.meanings_of-known.result c.with_meaning.result
    c.self.invariant
    (λ t. c.meanings_of-known.ensures t ∙ ap (λ (n : List ℕ). latest_meaning t n c.args.self.now) c.as_slice-2.ensures.value ∙ ap (latest_meaning t c.args.name.items) (sym c.self.view_is))
    (λ t. c.with_meaning.ensures t ∙ ap (λ (m : Meaning). cond (same_table t c.args.table) (Some m) (meaning_in t c.meanings_of-known.result)) c.meaning_after-meaning.ensures)
    c.in_table-before.ensures
    (λ q. updates q ∙ ap (λ (n : List ℕ). cond (bytes_eq n q) (Some c.with_meaning.result) (meanings_of c.self.inside.meanings q)) key_is))

pub returns-clause-ok : goal.returns-clause-ok
returns-clause-ok c =
    let x : Stored = record { table = c.args.table; name = c.args.name; thing = c.args.thing; declared = c.args.declared; before = c.in_table-before.result } in
    ap latest_first c.in_ok-push.ensures.items ∙ entries_before-snoc [] c.self.inside.stored.items x ∙ ap (λ (es : List ScopeEntry). stored_entry x ∷ es) c.self.view_is
