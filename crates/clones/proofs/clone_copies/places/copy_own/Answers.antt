use Rattle.std.proofs.Common.{◌≡◌, ℕ, cond, Bool, false, List, get_or, sym, ap, ◌∙◌}
use Rattle.std.proofs.lemmas.List.{get_or-map}
use Rattle.std.proofs.lemmas.Result.{on_ok_weaker}
use Rattle.tasks.proofs.trees.Nodes.{Grows_refl, Grows_trans}
use Rattle.tasks.specs.trees.Node.{Grows}
use Rattle.tasks.specs.declared.declaration.Decl.{Decl}
use Rattle.tasks.specs.Task.{DeclarationTree}
use Rattle.tasks.specs.Meaning.{declaration_at, declarations_at}
use Rattle.theory_states.specs.Meaning.{state_at}
use Rattle.theory_states.proofs.Growing.{state_stays, state_grows}
use Rattle.clones.specs.Meaning.{map_at}
use Rattle.clones.proofs.Steps.{known_later, ok_any}
use Rattle.clones.specs.Copies.{declaration_copied}
use Rattle.clones.specs.clone_elements.Left.{decl_or, no_declaration}
use Rattle.clones.specs.clone_elements.Replacements.{is_replaced}
use Rattle.clones.specs.clone_copies.Places.{Copying, with_copy, copy_of}
use Rattle.clones.specs.clone_copies.Meaning.{copying_at}
use Rattle.clones.proofs.clone_copies.Pushed.{copying_stays}
use Rattle.clones.proofs.clone_copies.places.copy_own.Goals as goal
use Rattle.tasks.proofs.outside.Passed.{no_ok}

pub push_copy-requires-clause-held : goal.push_copy-requires-clause-held
push_copy-requires-clause-held c = state_grows c.args.store.now c.copy_decl.new.store c.copy_decl.ensures.grows c.args.typed.now c.args.open.now c.requires.held

pub returns-clause-state : goal.returns-clause-state
returns-clause-state c =
    let s = c.args.store.now in
    let s1 = c.copy_decl.new.store in
    let w : Grows s s1 = c.copy_decl.ensures.grows in
    let j = c.args.given.now in
    let x = copying_at s j in
    let k = c.args.place in
    let typed = c.args.typed.now in
    let open_ = c.args.open.now in
    let ds = typed.decls in
    let decl = c.index-as_slice-place.result in
    let old = state_at s typed open_ in
    let got : decl ≡ get_or ds k decl = c.index-as_slice-place.is ∙ ap (λ (z : List Decl). get_or z k decl) c.as_slice.ensures in
    let there : decl_or (declarations_at s ds) k ≡ declaration_at s decl = get_or-map (declaration_at s) ds k decl no_declaration c.requires.within ∙ ap (declaration_at s) (sym got) in
    let copied : declaration_at s1 c.in_ok-copy.copy ≡ copy_of x old k =
    c.in_ok-copy.ensures.tree ∙ (ap (λ (p : List ℕ). declaration_copied x.mapping p x.within (declaration_at s decl)) c.as_slice-2.ensures ∙ ap (declaration_copied x.mapping open_.path x.within) (sym there)) in
    let free : is_replaced (x.effects k) ≡ false = sym c.is_replaced.ensures ∙ c.if-is_replaced.false in
    on_ok_weaker c.push_copy.result (λ h. h
    ∙ (ap (λ (y : Copying). with_copy y k (y.axioms k) (declaration_at s1 c.in_ok-copy.copy) (state_at s1 typed open_)) (copying_stays s s1 w j c.requires.map_held)
    ∙ (ap (λ (d : DeclarationTree). with_copy x k (x.axioms k) d (state_at s1 typed open_)) copied
    ∙ (ap (with_copy x k (x.axioms k) (copy_of x old k)) (state_stays s s1 w typed open_ c.requires.held)
    ∙ sym (ap (λ (b : Bool). cond b old (with_copy x k (x.axioms k) (copy_of x old k) old)) free))))) c.push_copy.ensures.state

pub returns-clause-known : goal.returns-clause-known
returns-clause-known c = ok_any c.push_copy.result (known_later (map_at c.args.store.now c.args.given.now.morphism.now) c.copy_decl.new.store c.push_copy.new.store c.copy_decl.new.known c.push_copy.ensures.grows c.in_ok-copy.ensures.new_known)

pub returns-in_err-copy-clause-state : goal.returns-in_err-copy-clause-state
returns-in_err-copy-clause-state c = no_ok _ _ c.from_residual.result c.from_residual.ensures.1

pub returns-in_err-copy-clause-held : goal.returns-in_err-copy-clause-held
returns-in_err-copy-clause-held c = no_ok _ _ c.from_residual.result c.from_residual.ensures.1

pub returns-in_err-copy-clause-known : goal.returns-in_err-copy-clause-known
returns-in_err-copy-clause-known c = no_ok _ _ c.from_residual.result c.from_residual.ensures.1

pub push_copy-requires-clause-copy_held : goal.push_copy-requires-clause-copy_held
push_copy-requires-clause-copy_held c = c.in_ok-copy.ensures.new_held

pub copy_decl-requires-clause-map_held : goal.copy_decl-requires-clause-map_held
copy_decl-requires-clause-map_held c = c.requires.map_held

pub copy_decl-requires-clause-known : goal.copy_decl-requires-clause-known
copy_decl-requires-clause-known c = c.requires.known

pub returns-clause-held : goal.returns-clause-held
returns-clause-held c = c.push_copy.ensures.held

pub returns-clause-grows : goal.returns-clause-grows
returns-clause-grows c = Grows_trans c.args.store.now c.copy_decl.new.store c.push_copy.new.store c.copy_decl.ensures.grows c.push_copy.ensures.grows

pub returns-in_err-copy-clause-grows : goal.returns-in_err-copy-clause-grows
returns-in_err-copy-clause-grows c = c.copy_decl.ensures.grows

pub returns-then-is_replaced-clause-held : goal.returns-then-is_replaced-clause-held
returns-then-is_replaced-clause-held c = c.requires.held

pub returns-then-is_replaced-clause-known : goal.returns-then-is_replaced-clause-known
returns-then-is_replaced-clause-known c = c.requires.known

pub returns-then-is_replaced-clause-grows : goal.returns-then-is_replaced-clause-grows
returns-then-is_replaced-clause-grows c = Grows_refl c.args.store.now
