use Rattle.std.proofs.Common.{◌≡◌, ℕ, ◌+◌, length, sym, ap, subst, ◌∙◌}
use Rattle.trees.specs.Node.{Grows}
use Rattle.trees.proofs.Nodes.{Grows_trans}
use Rattle.tasks.specs.Meaning.{algebraics_at}
use Rattle.open_types.specs.Patterns.{no_notes}
use Rattle.name_resolution.specs.Naming.{scope_at}
use Rattle.elab_groups.specs.parts.Declarations.{made_type_names, types_fault}
use Rattle.elab_groups.specs.parts.Outcomes.{setting}
use Rattle.elab_groups.proofs.parts.Entering.{signature_grows}
use Rattle.elab_groups.proofs.parts.Refused.{made_refusal}
use Rattle.elab_declarations.specs.type_declarations.Algebraics.{algebraics_of, group_count, inside_types, group_made, IsTypesRefusal}
use Rattle.elab_declarations.proofs.Over.{told_at}
use Rattle.elab_declarations.proofs.type_declarations.Counted.{types_counted}
use Rattle.elab_declarations.proofs.type_declarations.Made.{all_scopes, group_refused, group_elaborated, group_kept}
use Rattle.elab_declarations.proofs.type_declarations.group.elaborate_algebraic.Goals as goal

pub make_types-requires-clause-scopes : goal.make_types-requires-clause-scopes
make_types-requires-clause-scopes c =
    let p = c.args.place.now in
    let s = c.args.store.now in
    let s1 = c.push_symbols.new.store in
    let g = c.args.sig.now in
    let g1 = c.push_symbols.new.sig in
    let names = c.args.scope.now in
    let after = c.declare_group.new.scope in
    let ts = algebraics_of c.args.types.now in
    let symbol = c.in_ok-symbol.symbol in
    let number = c.len-number.result in
    let grows = c.push_symbols.ensures.grows in
    let following : length g1.symbols ≡ symbol + length ts = c.in_ok-symbol.ensures.following ∙ ap (λ (n : ℕ). symbol + n) (sym (types_counted c.args.types.now)) in
    (number + group_count ts, all_scopes p s s1 grows g g1 names after ts symbol number c.requires.scopes c.in_ok-symbol.ensures.entries c.in_ok-symbol.ensures.first following c.len-number.ensures c.in-Ok.ensures.scope s1 grows)

pub make_group-requires-clause-signature : goal.make_group-requires-clause-signature
make_group-requires-clause-signature c = signature_grows c.push_symbols.new.store c.make_types.new.store c.make_types.ensures.grows c.push_symbols.new.sig.symbols c.in_ok-symbol.ensures.entries.signature

pub returns-in_ok-elaborated-in-Ok-make_types-clause-ok : goal.returns-in_ok-elaborated-in-Ok-make_types-clause-ok
returns-in_ok-elaborated-in-Ok-make_types-clause-ok c =
    let p = c.args.place.now in
    let s = c.args.store.now in
    let s1 = c.push_symbols.new.store in
    let g = c.args.sig.now in
    let g1 = c.push_symbols.new.sig in
    let names = c.args.scope.now in
    let after = c.declare_group.new.scope in
    let ts = algebraics_of c.args.types.now in
    let symbol = c.in_ok-symbol.symbol in
    let number = c.len-number.result in
    let grows = c.push_symbols.ensures.grows in
    let following : length g1.symbols ≡ symbol + length ts = c.in_ok-symbol.ensures.following ∙ ap (λ (n : ℕ). symbol + n) (sym (types_counted c.args.types.now)) in
    let s2 = c.make_types.new.store in
    let s3 = c.make_group.new.store in
    let more = c.make_types.ensures.grows in
    let ys = algebraics_at s2 c.in-Ok-make_types.made in
    let it = c.in_ok-elaborated-in-Ok-make_types.ensures in
    let made = c.in_ok-elaborated-in-Ok-make_types.elaborated in
    let all : Grows s s3 = Grows_trans s s1 s3 grows (Grows_trans s1 s2 s3 more c.make_group.ensures.grows) in
    group_elaborated p s s1 grows g g1 names after ts symbol number c.requires.scopes c.in_ok-symbol.ensures.entries c.in_ok-symbol.ensures.first following c.len-number.ensures c.in-Ok.ensures.scope s2 s3 more c.make_group.new.sig made ys c.in-Ok-make_types.ensures.types it.entries all c.in-Ok.ensures.told c.in-Ok-make_types.ensures.free it.decls it.rigid it.matches

pub returns-in_ok-elaborated-in-Ok-make_types-clause-kept : goal.returns-in_ok-elaborated-in-Ok-make_types-clause-kept
returns-in_ok-elaborated-in-Ok-make_types-clause-kept c =
    let p = c.args.place.now in
    let s = c.args.store.now in
    let s1 = c.push_symbols.new.store in
    let g = c.args.sig.now in
    let g1 = c.push_symbols.new.sig in
    let names = c.args.scope.now in
    let after = c.declare_group.new.scope in
    let ts = algebraics_of c.args.types.now in
    let symbol = c.in_ok-symbol.symbol in
    let number = c.len-number.result in
    let grows = c.push_symbols.ensures.grows in
    let following : length g1.symbols ≡ symbol + length ts = c.in_ok-symbol.ensures.following ∙ ap (λ (n : ℕ). symbol + n) (sym (types_counted c.args.types.now)) in
    let s2 = c.make_types.new.store in
    let s3 = c.make_group.new.store in
    let more = c.make_types.ensures.grows in
    let ys = algebraics_at s2 c.in-Ok-make_types.made in
    let it = c.in_ok-elaborated-in-Ok-make_types.ensures in
    let made = c.in_ok-elaborated-in-Ok-make_types.elaborated in
    let all : Grows s s3 = Grows_trans s s1 s3 grows (Grows_trans s1 s2 s3 more c.make_group.ensures.grows) in
    group_kept p s s1 grows g g1 names after ts symbol number c.requires.scopes c.in_ok-symbol.ensures.entries c.in_ok-symbol.ensures.first following c.len-number.ensures c.in-Ok.ensures.scope s2 s3 more c.make_group.new.sig made ys c.in-Ok-make_types.ensures.types it.entries all it.held it.matches

pub returns-in-Err-make_types-clause-err : goal.returns-in-Err-make_types-clause-err
returns-in-Err-make_types-clause-err c =
    let p = c.args.place.now in
    let s = c.args.store.now in
    let s1 = c.push_symbols.new.store in
    let g = c.args.sig.now in
    let g1 = c.push_symbols.new.sig in
    let names = c.args.scope.now in
    let after = c.declare_group.new.scope in
    let ts = algebraics_of c.args.types.now in
    let symbol = c.in_ok-symbol.symbol in
    let number = c.len-number.result in
    let grows = c.push_symbols.ensures.grows in
    let following : length g1.symbols ≡ symbol + length ts = c.in_ok-symbol.ensures.following ∙ ap (λ (n : ℕ). symbol + n) (sym (types_counted c.args.types.now)) in
    subst (IsTypesRefusal (setting p s g names) ts) (sym c.naming_fault.ensures) (group_refused p s s1 grows g g1 names after ts symbol number c.requires.scopes c.in_ok-symbol.ensures.entries c.in_ok-symbol.ensures.first following c.len-number.ensures c.in-Ok.ensures.scope c.in-Err-make_types.fault c.in-Ok.ensures.told c.in-Err-make_types.ensures.err)

pub returns-in-Err-clause-err : goal.returns-in-Err-clause-err
returns-in-Err-clause-err c =
    let p = c.args.place.now in
    let s = c.args.store.now in
    let g = c.args.sig.now in
    let names = c.args.scope.now in
    let ts = algebraics_of c.args.types.now in
    subst (IsTypesRefusal (setting p s g names) ts) (sym c.naming_fault-in-Err.ensures)
    (made_refusal p.decl 0 no_notes (group_made (scope_at s names) ts) (types_fault (inside_types (setting p s g names) ts) ts) c.in-Err.fault (told_at s names (made_type_names ts) c.in-Err.fault c.in-Err.ensures.told))
