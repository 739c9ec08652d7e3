use Rattle.std.proofs.Common.{◌≡◌, ℕ, ◌++◌, ap, subst, ◌∙◌, refl, Result, Ok, Err, IfOk, sym}
use Rattle.std.proofs.lemmas.Result.{IfErr-weaker}
use Rattle.std.proofs.Math.ListN.{length-map}
use Rattle.tasks.specs.Meaning.{symbol_at, symbols_at}
use Rattle.tasks.specs.Vocabulary.{of_signature}
use Rattle.surface.specs.SurfaceDeclarations.{decl_of}
use Rattle.elab_groups.specs.parts.Declarations.{Declaration}
use Rattle.elab_groups.specs.parts.Entries.{AreScopes}
use Rattle.elab_groups.proofs.parts.Solving.{if_err}
use Rattle.elab_declarations.specs.Outcomes.{IsElaborated}
use Rattle.elaboration_laws.proofs.Settings.{scopes_of}
use Rattle.elaboration_laws.proofs.Typed.{matches_fitting}
use Rattle.theories.specs.side_conditions.Sides.{IsSideFault, bodies}
use Rattle.theory_states.specs.declared.states.Opened.{Opened}
use Rattle.theory_states.specs.Meaning.{state_at}
use Rattle.theory_states.specs.Uses.{OrMemory}
use Rattle.elaboration_laws.specs.TypedStates.{state_setting}
use Rattle.theories.specs.declaring.Declared.{IsDeclaredFault, of_sides}
use Rattle.theories.specs.declaring.Faults.{side_fault}
use Rattle.theories.proofs.declaring.Typed.{setting_typed}
use Rattle.theories.proofs.declaring.Refused.{or_memory, logical_parts, told, refused_by, matches_are}
use Rattle.theories.proofs.declaring.typing.elaborate_checked.Goals as goal
use Rattle.tasks.proofs.outside.Passed.{no_value}

all_ok : {T E : Type 0} (r : Result T E) (x : T) (A B : Type 0) (P : T → Type 0) → IfOk r (λ v. v ≡ x) → IfOk r (λ _. A) → IfOk r (λ _. B) → (A → B → P x) → IfOk r P
all_ok (Ok v) x A B P e a b f = subst P (sym e) (f a b)
all_ok (Err e) x A B P q a b f = tt

pub elaborate_next-requires-clause-scopes : goal.elaborate_next-requires-clause-scopes
elaborate_next-requires-clause-scopes c =
    let s = c.args.store.now in
    let is = c.args.typed.now.sig.symbols in
    let symbols = symbols_at s is in
    let scope = c.args.open.now.scope in
    subst (λ (n : ℕ). AreScopes s n scope) (length-map is (symbol_at s)) (scopes_of (of_signature symbols) s scope c.requires.state.opened.scope c.requires.typed.scopes)

pub returns-in_err-made-clause-err : goal.returns-in_err-made-clause-err
returns-in_err-made-clause-err c =
    let d = decl_of c.args.decl.now in
    let before = state_at c.args.store.now c.args.typed.now c.args.open.now in
    let k = refused_by d before c.in_err-made.field-0.0 c.requires.logical c.in_err-made.ensures.err in
    if_err c.from_residual.result _ (OrMemory (IsDeclaredFault d before)) c.from_residual.ensures.1 (λ e h. rw h k)

pub check_made-requires-clause-matches : goal.check_made-requires-clause-matches
check_made-requires-clause-matches c =
    let d = decl_of c.args.decl.now in
    let before = state_at c.args.store.now c.args.typed.now c.args.open.now in
    let sig = c.args.typed.now.sig in
    let s1 = c.elaborate_next.new.store in
    let sig1 = c.elaborate_next.new.sig in
    let names = c.elaborate_next.new.open.scope in
    let made = c.in_ok-made.made in
    let p = logical_parts d c.requires.logical in
    let e : IsElaborated (state_setting before) p.0 sig s1 sig1 names made = told (λ (x : Declaration). IsElaborated (state_setting before) x sig s1 sig1 names made) d p.0 p.1 c.in_ok-made.ensures.ok in
    matches_are s1 (symbols_at s1 sig1.symbols) made.matches c.in_ok-made.ensures.kept.matches (matches_fitting (state_setting before) p.0 sig s1 sig1 names made (setting_typed before c.requires.typed) e)

pub returns-in_err-made-clause-ok : goal.returns-in_err-made-clause-ok
returns-in_err-made-clause-ok c = no_value _ _ c.from_residual.result c.from_residual.ensures.1

pub elaborate_next-requires-clause-signature : goal.elaborate_next-requires-clause-signature
elaborate_next-requires-clause-signature c = c.requires.state.typed.signature

pub elaborate_next-requires-clause-logical : goal.elaborate_next-requires-clause-logical
elaborate_next-requires-clause-logical c = c.requires.logical

pub returns-in_err-made-clause-count : goal.returns-in_err-made-clause-count
returns-in_err-made-clause-count c = ap (λ (i : Opened). i.count) c.elaborate_next.ensures.opened

pub returns-in_err-made-clause-grows : goal.returns-in_err-made-clause-grows
returns-in_err-made-clause-grows c = c.elaborate_next.ensures.grows

pub check_made-requires-clause-held : goal.check_made-requires-clause-held
check_made-requires-clause-held c = c.in_ok-made.ensures.kept.decls

pub returns-clause-ok : goal.returns-clause-ok
returns-clause-ok c =
    let d = decl_of c.args.decl.now in
    let before = state_at c.args.store.now c.args.typed.now c.args.open.now in
    let sig = c.args.typed.now.sig in
    let s1 = c.elaborate_next.new.store in
    let sig1 = c.elaborate_next.new.sig in
    let names = c.elaborate_next.new.open.scope in
    let made = c.in_ok-made.made in
    let p = logical_parts d c.requires.logical in
    all_ok c.check_made.result made _ _ _ c.check_made.ensures.same c.check_made.ensures.covered c.check_made.ensures.checked (λ a b. record {
      parts = p.0;
      of = p.1;
      elaborated = told (λ (x : Declaration). IsElaborated (state_setting before) x sig s1 sig1 names made) d p.0 p.1 c.in_ok-made.ensures.ok;
      kept = c.in_ok-made.ensures.kept;
      covered = a;
      checked = b;
      typed = refl;
      opened = c.elaborate_next.ensures.opened;
    })

pub returns-clause-err : goal.returns-clause-err
returns-clause-err c =
    let d = decl_of c.args.decl.now in
    let before = state_at c.args.store.now c.args.typed.now c.args.open.now in
    let sig = c.args.typed.now.sig in
    let s1 = c.elaborate_next.new.store in
    let sig1 = c.elaborate_next.new.sig in
    let names = c.elaborate_next.new.open.scope in
    let made = c.in_ok-made.made in
    let p = logical_parts d c.requires.logical in
    let e : IsElaborated (state_setting before) p.0 sig s1 sig1 names made = told (λ (x : Declaration). IsElaborated (state_setting before) x sig s1 sig1 names made) d p.0 p.1 c.in_ok-made.ensures.ok in
    let o = e.outcome in
    let number : c.elaborate_next.new.open.count ≡ c.args.open.now.count = ap (λ (i : Opened). i.count) c.elaborate_next.ensures.opened in
    IfErr-weaker c.check_made.result _ (OrMemory (IsDeclaredFault d before)) (λ f x.
    let side : IsSideFault (before.symbols ++ o.symbols) o.matches (bodies o.decls) x.0 = rw (e.symbols_are, e.matches, e.decls) at x.1 in
    or_memory (IsDeclaredFault d before) f (of_sides p.0 o x.0 p.1 e.is e.named side (x.2 ∙ ap (λ (n : ℕ). side_fault n x.0) number))) c.check_made.ensures.refused

pub returns-clause-count : goal.returns-clause-count
returns-clause-count c = ap (λ (i : Opened). i.count) c.elaborate_next.ensures.opened

pub returns-clause-grows : goal.returns-clause-grows
returns-clause-grows c = c.elaborate_next.ensures.grows
