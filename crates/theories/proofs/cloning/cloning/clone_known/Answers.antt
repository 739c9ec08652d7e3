use Rattle.std.proofs.Common.{◌≡◌, ℕ, List, All, map, get_or, sym, ap, subst, ◌∙◌}
use Rattle.std.proofs.Math.ListN.{length-map}
use Rattle.std.specs.Option.{option_copied}
use Rattle.tasks.specs.declared.declaration.Decl.{Decl}
use Rattle.tasks.specs.Meaning.{symbol_at, symbols_at, declarations_at, DeclHeld}
use Rattle.tasks.specs.Vocabulary.{of_signature}
use Rattle.surface.specs.SurfaceDeclarations.{element_of}
use Rattle.elab_groups.specs.parts.Entries.{AreScopes}
use Rattle.elab_groups.proofs.parts.Solving.{if_err}
use Rattle.elaboration_laws.proofs.Settings.{scopes_of}
use Rattle.theory_states.specs.declared.states.KnownTheory.{KnownTheory}
use Rattle.theory_states.specs.States.{KnownTree}
use Rattle.theory_states.specs.Meaning.{known_at, state_at}
use Rattle.theory_states.specs.Uses.{OrMemory}
use Rattle.clones.specs.clone_elements.Left.{Origin}
use Rattle.clones.specs.clone_elements.Origins.{origin_at}
use Rattle.clones.specs.clone_copies.Origins.{origin_of}
use Rattle.theories.specs.cloning.Cloned.{within_of, IsCloneFault}
use Rattle.theories.specs.cloning.Owned.{IsOwnOf, known_theory_at}
use Rattle.theories.specs.cloning.ReadElements.{IsElementsFault}
use Rattle.theories.proofs.cloning.Faults.{or_weaker, read_fault}
use Rattle.theories.proofs.cloning.Stages.{theory_is, origin_is}
use Rattle.theories.proofs.cloning.Begun.{ready, is_cloned}
use Rattle.theories.proofs.cloning.cloning.clone_known.Goals as goal
use Rattle.tasks.proofs.outside.Passed.{no_ok}

pub read_elements-requires-clause-scopes : goal.read_elements-requires-clause-scopes
read_elements-requires-clause-scopes c =
    let s = c.args.store.now in
    let is = c.args.typed.now.sig.symbols in
    let symbols = symbols_at s is in
    let scope = c.args.open.now.scope in
    subst (λ (n : ℕ). AreScopes s n scope) (length-map is (symbol_at s)) (scopes_of (of_signature symbols) s scope c.requires.held.opened.scope c.requires.typed.scopes)

pub read_elements-requires-clause-decls : goal.read_elements-requires-clause-decls
read_elements-requires-clause-decls c = subst (λ (ds : List Decl). All (DeclHeld c.args.store.now) ds) (sym (c.source_of-source.ensures.decls ∙ c.as_slice-3.ensures)) c.requires.held.typed.decls

pub copy_theory-requires : goal.copy_theory-requires
copy_theory-requires c =
    let s = c.args.store.now in
    let t = c.args.typed.now in
    let k = c.args.theory in
    let known = c.index-as_slice-theory.result in
    let got : known ≡ get_or t.known k known = c.index-as_slice-theory.is ∙ ap (λ (ks : List KnownTheory). get_or ks k known) c.as_slice.ensures in
    let there : known_theory_at s t k ≡ known_at s known = theory_is s t k known c.requires.there got in
    let is_own : IsOwnOf (declarations_at s t.decls) (known_theory_at s t k) c.in_ok-own.own =
    subst (λ (ds : List Decl). IsOwnOf (declarations_at s ds) (known_theory_at s t k) c.in_ok-own.own) c.as_slice-2.ensures (subst (λ (z : KnownTree). IsOwnOf (declarations_at s c.as_slice-2.result.now) z c.in_ok-own.own) (sym there) (c.in_ok-own.ensures s)) in
    let decls_are : c.source_of-source.result.decls.now ≡ t.decls = c.source_of-source.ensures.decls ∙ c.as_slice-3.ensures in
    let same : origin_at s c.source_of-source.result ≡ origin_of (declarations_at s t.decls) (known_theory_at s t k) =
    origin_is s (known_theory_at s t k) c.in_ok-own.own c.source_of-source.result (declarations_at s t.decls) (ap (declarations_at s) decls_are) c.source_of-source.ensures.own c.source_of-source.ensures.axioms is_own in
    ready c.args.store.now c.read_elements.new.store c.read_elements.ensures.grows c.args.typed.now c.args.open.now c.requires.held c.requires.typed c.requires.placed c.args.theory c.requires.there c.in_ok-own.own is_own (map element_of c.args.elements.now) c.read_elements.new.sig c.in_ok-replacement.ensures.entries (origin_at s c.source_of-source.result) same c.in_ok-replacement.replacement c.in_ok-replacement.ensures.read (within_of c.args.link c.last_part.result.now (option_copied c.alias_text.result) c.args.open.now.within.items)

pub returns-clause-ok : goal.returns-clause-ok
returns-clause-ok c =
    let s = c.args.store.now in
    let t = c.args.typed.now in
    let k = c.args.theory in
    let known = c.index-as_slice-theory.result in
    let got : known ≡ get_or t.known k known = c.index-as_slice-theory.is ∙ ap (λ (ks : List KnownTheory). get_or ks k known) c.as_slice.ensures in
    let there : known_theory_at s t k ≡ known_at s known = theory_is s t k known c.requires.there got in
    let is_own : IsOwnOf (declarations_at s t.decls) (known_theory_at s t k) c.in_ok-own.own =
    subst (λ (ds : List Decl). IsOwnOf (declarations_at s ds) (known_theory_at s t k) c.in_ok-own.own) c.as_slice-2.ensures (subst (λ (z : KnownTree). IsOwnOf (declarations_at s c.as_slice-2.result.now) z c.in_ok-own.own) (sym there) (c.in_ok-own.ensures s)) in
    let decls_are : c.source_of-source.result.decls.now ≡ t.decls = c.source_of-source.ensures.decls ∙ c.as_slice-3.ensures in
    let same : origin_at s c.source_of-source.result ≡ origin_of (declarations_at s t.decls) (known_theory_at s t k) =
    origin_is s (known_theory_at s t k) c.in_ok-own.own c.source_of-source.result (declarations_at s t.decls) (ap (declarations_at s) decls_are) c.source_of-source.ensures.own c.source_of-source.ensures.axioms is_own in
    let x = c.copy_theory in
    is_cloned c.args.store.now c.read_elements.new.store c.read_elements.ensures.grows c.args.typed.now c.args.open.now c.requires.held c.requires.typed c.requires.placed c.args.theory c.requires.there c.in_ok-own.own is_own (map element_of c.args.elements.now) c.read_elements.new.sig c.in_ok-replacement.ensures.entries (origin_at s c.source_of-source.result) same c.in_ok-replacement.replacement c.in_ok-replacement.ensures.read c.args.path.now c.args.alias.now c.requires.variables c.requires.found c.args.link c.last_part.result.now (option_copied c.alias_text.result) c.last_part.ensures c.alias_text.ensures
    (state_at x.new.store x.new.typed x.new.open) c.in_ok-copy_theory.ensures.copied

pub returns-in_err-replacement-clause-err : goal.returns-in_err-replacement-clause-err
returns-in_err-replacement-clause-err c =
    let s = c.args.store.now in
    let t = c.args.typed.now in
    let k = c.args.theory in
    let known = c.index-as_slice-theory.result in
    let got : known ≡ get_or t.known k known = c.index-as_slice-theory.is ∙ ap (λ (ks : List KnownTheory). get_or ks k known) c.as_slice.ensures in
    let there : known_theory_at s t k ≡ known_at s known = theory_is s t k known c.requires.there got in
    let is_own : IsOwnOf (declarations_at s t.decls) (known_theory_at s t k) c.in_ok-own.own =
    subst (λ (ds : List Decl). IsOwnOf (declarations_at s ds) (known_theory_at s t k) c.in_ok-own.own) c.as_slice-2.ensures (subst (λ (z : KnownTree). IsOwnOf (declarations_at s c.as_slice-2.result.now) z c.in_ok-own.own) (sym there) (c.in_ok-own.ensures s)) in
    let decls_are : c.source_of-source.result.decls.now ≡ t.decls = c.source_of-source.ensures.decls ∙ c.as_slice-3.ensures in
    let same : origin_at s c.source_of-source.result ≡ origin_of (declarations_at s t.decls) (known_theory_at s t k) =
    origin_is s (known_theory_at s t k) c.in_ok-own.own c.source_of-source.result (declarations_at s t.decls) (ap (declarations_at s) decls_are) c.source_of-source.ensures.own c.source_of-source.ensures.axioms is_own in
    let before = state_at s t c.args.open.now in
    let es = map element_of c.args.elements.now in
    let told = or_weaker _ (IsCloneFault c.args.path.now es before) (read_fault c.args.path.now es before (known_theory_at s t k) c.requires.variables c.requires.found) c.in_err-replacement.field-0.0
    (subst (λ (o : Origin). OrMemory (IsElementsFault before.number before.symbols before.opened.scope o es) c.in_err-replacement.field-0.0) same c.in_err-replacement.ensures.err) in
    if_err c.from_residual-in_err-replacement.result _ (OrMemory (IsCloneFault c.args.path.now es before)) c.from_residual-in_err-replacement.ensures.1 (λ e h. rw h told)

pub returns-in_err-own-clause-ok : goal.returns-in_err-own-clause-ok
returns-in_err-own-clause-ok c = no_ok _ _ c.from_residual.result c.from_residual.ensures.1

pub returns-in_err-own-clause-held : goal.returns-in_err-own-clause-held
returns-in_err-own-clause-held c = no_ok _ _ c.from_residual.result c.from_residual.ensures.1

pub returns-in_err-replacement-clause-ok : goal.returns-in_err-replacement-clause-ok
returns-in_err-replacement-clause-ok c = no_ok _ _ c.from_residual-in_err-replacement.result c.from_residual-in_err-replacement.ensures.1

pub returns-in_err-replacement-clause-held : goal.returns-in_err-replacement-clause-held
returns-in_err-replacement-clause-held c = no_ok _ _ c.from_residual-in_err-replacement.result c.from_residual-in_err-replacement.ensures.1

pub returns-in_err-copy_theory-clause-ok : goal.returns-in_err-copy_theory-clause-ok
returns-in_err-copy_theory-clause-ok c = no_ok _ _ c.from_residual-in_err-copy_theory.result c.from_residual-in_err-copy_theory.ensures.1

pub returns-in_err-copy_theory-clause-held : goal.returns-in_err-copy_theory-clause-held
returns-in_err-copy_theory-clause-held c = no_ok _ _ c.from_residual-in_err-copy_theory.result c.from_residual-in_err-copy_theory.ensures.1
