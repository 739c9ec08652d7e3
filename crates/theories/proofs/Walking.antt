-- A walk over declarations: what is typed so far, and what the rest leaves to say.
use Rattle.std.proofs.Common.{◌≡◌, ℕ, zero, suc, ◌<◌, ◌≤◌, ◌+◌, List, [], ◌∷◌, map, length, get_or, drop, refl, sym, ap, subst, ◌∙◌, inl, inr, arith, add-one, Result, Ok, Err, IfErr}
use Rattle.std.proofs.lemmas.List.{drop_all}
use Rattle.surface.specs.declared.declarations.DeclTree.{DeclTree}
use Rattle.surface.specs.Declarations.{SyntaxDeclaration, SyntaxDeclarations, type_decl, algebraic_decl, function_decl, predicate_decl, constant_decl, inductive_decl, prop_decl, use_decl, clone_decl, scope_decl, more_decls}
use Rattle.surface.specs.SurfaceDeclarations.{decl_of, decls}
use Rattle.elaboration_laws.specs.elab_declarations.Outcomes.{IsLogical}
use Rattle.theory_states.specs.declared.fault.SourceFault.{SourceFault}
use Rattle.theory_states.specs.States.{StateTree}
use Rattle.theory_states.specs.Uses.{OrMemory}
use Rattle.theories.specs.declaring.Declared.{IsDeclaredFault}
use Rattle.theories.specs.Typing.{ThenStep, IsPassed, IsDeclarationFault, AreFaulty}
use Rattle.theories.specs.Sound.{IsSoundlyDeclared, IsSoundlyTyped, AreSoundlyTyped}
use Rattle.theories.proofs.Forgetting.{decl_forgotten}
use Rattle.theories.proofs.cloning.Faults.{or_weaker as or_memory}

-- what is typed from the start of all declarations, where the rest is typed from here, and so their faults
pub record Walk (c0 c : StateTree) (rest all : SyntaxDeclarations) : Type 0 where
  pub ok : (c' : StateTree) → AreSoundlyTyped rest c c' → AreSoundlyTyped all c0 c'
  pub err : (f : SourceFault) → AreFaulty rest c f → AreFaulty all c0 f

pub walk_begins : (c : StateTree) (all : SyntaxDeclarations) → Walk c c all all
walk_begins c all = record { ok = λ c' h. h; err = λ f h. h }

drop_next : (ds : List DeclTree) (i : ℕ) (d : DeclTree) → i < length ds → decls (map decl_of (drop i ds)) ≡ more_decls (decl_of (get_or ds i d)) (decls (map decl_of (drop (suc i) ds)))
drop_next [] i d h = absurd (omega arith)
drop_next (x ∷ ds) zero d h = refl
drop_next (x ∷ ds) (suc i) d h = drop_next ds i d (omega arith)

module _ (c0 c : StateTree) (ds : List DeclTree) (i : ℕ) (d : DeclTree) (l : i < length ds) (q : d ≡ get_or ds i d) (w : Walk c0 c (decls (map decl_of (drop i ds))) (decls (map decl_of ds))) where
  split : decls (map decl_of (drop i ds)) ≡ more_decls (decl_of d) (decls (map decl_of (drop (i + 1) ds)))
  split = drop_next ds i d l ∙ ap (λ (n : ℕ). more_decls (decl_of (get_or ds i d)) (decls (map decl_of (drop n ds)))) (sym (add-one i)) ∙ ap (λ (x : DeclTree). more_decls (decl_of x) (decls (map decl_of (drop (i + 1) ds)))) (sym q)

  -- the next one is typed
  pub walk_next : (c' : StateTree) → IsSoundlyTyped (decl_of d) c c' → Walk c0 c' (decls (map decl_of (drop (i + 1) ds))) (decls (map decl_of ds))
  walk_next c' h = record {
    ok = λ x k. w.ok x (subst (λ (r : SyntaxDeclarations). AreSoundlyTyped r c x) (sym split) (record { between = c'; first = h; second = k }));
    err = λ f k. w.err f (subst (λ (r : SyntaxDeclarations). AreFaulty r c f) (sym split) (inr (record { between = c'; first = decl_forgotten (decl_of d) c c' h; fault = k })));
  }

  -- or is at fault
  pub walk_fails : (f : SourceFault) → IsDeclarationFault (decl_of d) c f → AreFaulty (decls (map decl_of ds)) c0 f
  walk_fails f h = w.err f (subst (λ (r : SyntaxDeclarations). AreFaulty r c f) (sym split) (inl h))

pub walk_ends : (c0 c : StateTree) (ds : List DeclTree) (i : ℕ) → length ds ≤ i → Walk c0 c (decls (map decl_of (drop i ds))) (decls (map decl_of ds)) → AreSoundlyTyped (decls (map decl_of ds)) c0 c
walk_ends c0 c ds i h w = w.ok c (subst (λ (xs : List DeclTree). AreSoundlyTyped (decls (map decl_of xs)) c c) (sym (drop_all i ds h)) refl)

-- a declaration that is no use, clone or scope
pub logical_typed : (d : SyntaxDeclaration) → IsLogical d → (c c' : StateTree) → ThenStep (IsSoundlyDeclared d) IsPassed c c' → IsSoundlyTyped d c c'
logical_typed (type_decl a n vs f) l c c' h = h
logical_typed (algebraic_decl a ts) l c c' h = h
logical_typed (function_decl a x ps f e ms) l c c' h = h
logical_typed (predicate_decl a x ps e ms) l c c' h = h
logical_typed (constant_decl a x f e) l c c' h = h
logical_typed (inductive_decl a ds) l c c' h = h
logical_typed (prop_decl a k x e) l c c' h = h
logical_typed (use_decl a k p n) l c c' h = absurd l
logical_typed (clone_decl a k p n es) l c c' h = absurd l
logical_typed (scope_decl a n ds) l c c' h = absurd l

pub logical_fault : (d : SyntaxDeclaration) → IsLogical d → (c : StateTree) (f : SourceFault) → IsDeclaredFault d c f → IsDeclarationFault d c f
logical_fault (type_decl a n vs f) l c e h = h
logical_fault (algebraic_decl a ts) l c e h = h
logical_fault (function_decl a x ps f b ms) l c e h = h
logical_fault (predicate_decl a x ps b ms) l c e h = h
logical_fault (constant_decl a x f b) l c e h = h
logical_fault (inductive_decl a ds) l c e h = h
logical_fault (prop_decl a k x b) l c e h = h
logical_fault (use_decl a k p n) l c e h = absurd l
logical_fault (clone_decl a k p n es) l c e h = absurd l
logical_fault (scope_decl a n ds) l c e h = absurd l

-- ---- faults

-- another fault's meaning follows, of a fault and of an answer
pub fault_so : {P Q : SourceFault → Type 0} → ((f : SourceFault) → P f → Q f) → (f : SourceFault) → OrMemory P f → OrMemory Q f
fault_so {P} {Q} k f h = or_memory P Q k f h

pub answer_so : {A : Type 0} (P Q : SourceFault → Type 0) → ((f : SourceFault) → P f → Q f) → (r : Result A SourceFault) → IfErr r (OrMemory P) → IfErr r (OrMemory Q)
answer_so P Q k (Ok a) h = tt
answer_so P Q k (Err f) h = or_memory P Q k f h
