use Rattle.std.proofs.Common.{◌≡◌, ◌++◌, ◌∷◌, [], sym, ap, subst, ◌∙◌}
use Rattle.std.specs.List.{All}
use Rattle.std.proofs.lemmas.List.Elements.{All-nil, All-cons}
use Rattle.tasks.specs.Meaning.{declarations_at, DeclHeld}
use Rattle.tasks.specs.declared.declaration.Body.TheVariants.{Algebraics}
use Rattle.tasks.specs.declared.declaration.Decl.{Decl}
use Rattle.surface.specs.Lexeme.{Word}
use Rattle.elab_declarations.proofs.type_declarations.Made.{group_same}
use Rattle.elab_declarations.proofs.type_declarations.Typed.{algs_grow, algs_stay, algs_held}
use Rattle.elab_declarations.proofs.type_declarations.group.make_group.Goals as goal

pub returns-clause-decls : goal.returns-clause-decls
returns-clause-decls c =
    let s = c.args.store.now in
    let s1 = c.push_entries.new.store in
    let g = c.push_entries.ensures.grows in
    let within = c.args.place.now.within.now in
    let d : Decl = record { theory = c.in_ok-from_slice.field-0; name = c.in_ok-join_words.field-0; vars = c.first_vars.result; body = Algebraics c.args.made } in
    let all : c.push.new.self ≡ d ∷ [] = rw c.new-decls.ensures at c.in_ok-push.ensures.ok in
    ap (declarations_at s1) all ∙ group_same c.in_ok-from_slice.ensures (c.in_ok-join_words.ensures ∙ ap (λ (x : Word). within ++ x) c.first_name.ensures) c.first_vars.ensures (algs_stay s s1 g c.args.made c.requires.typed)

pub returns-clause-held : goal.returns-clause-held
returns-clause-held c =
    let s = c.args.store.now in
    let s1 = c.push_entries.new.store in
    let g = c.push_entries.ensures.grows in
    let d : Decl = record { theory = c.in_ok-from_slice.field-0; name = c.in_ok-join_words.field-0; vars = c.first_vars.result; body = Algebraics c.args.made } in
    let all : c.push.new.self ≡ d ∷ [] = rw c.new-decls.ensures at c.in_ok-push.ensures.ok in
    subst (All (DeclHeld s1)) (sym all) (All-cons (DeclHeld s1) d [] (algs_held s1 c.args.made (algs_grow s s1 g c.args.made c.requires.typed)) (All-nil (DeclHeld s1)))
