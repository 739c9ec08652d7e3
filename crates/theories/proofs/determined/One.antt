-- From a state each step goes to at most one state, or has at most one first fault, and not both: so a source has at most one list of
-- theories, or one first fault.
use Rattle.std.proofs.Common.{◌≡◌, ◌≢◌, ℕ, Bool, true, false, List, [], ◌∷◌, ◌++◌, length, Option, Some, None, sym, ap, ap₂, subst, subst₂, ◌∙◌, ◌⊎◌, inl, inr}
use Rattle.surface.specs.declared.names.Name.{Name}
use Rattle.surface.specs.declared.names.Path.{Path}
use Rattle.surface.specs.declared.declarations.Link.{Link}
use Rattle.surface.specs.Declarations.{SyntaxDeclaration, SyntaxDeclarations, SyntaxTheory, Element, type_decl, algebraic_decl, function_decl, predicate_decl, constant_decl, inductive_decl, prop_decl, use_decl, clone_decl, scope_decl, no_decls, more_decls}
use Rattle.surface.specs.declared.declarations.File.{File}
use Rattle.surface.specs.SurfaceDeclarations.{file_of}
use Rattle.parser.specs.std_theories.Library.{library}
use Rattle.elaboration_laws.specs.scopes.declared.Table.TheVariants.{Scopes}
use Rattle.elaboration_laws.specs.name_resolution.declared.NamingFault.{NamingFault}
use Rattle.elaboration_laws.specs.elab_groups.declared.parts.ElabFault.{ElabFault}
use Rattle.elaboration_laws.specs.elab_groups.declared.parts.ElabFault.TheVariants as elab
use Rattle.elaboration_laws.specs.elab_groups.parts.Declarations.{Declaration, declaration}
use Rattle.elaboration_laws.specs.theory_states.goal_tasks.Theories.{TheoriesTree}
use Rattle.elaboration_laws.specs.clones.clone_elements.Rights.{all_variables_fault}
use Rattle.elaboration_laws.specs.clones.clone_elements.Replacements.{no_effects, tried_map}
use Rattle.theories.specs.declared.side_conditions.sides.SideFault.{SideFault}
use Rattle.theories.specs.declared.side_conditions.sides.SideFault.TheVariants as side
use Rattle.theories.specs.side_conditions.Sides.{IsSideFault, bodies}
use Rattle.theories.specs.declaring.Faults.{elaboration_fault, side_fault}
use Rattle.theories.specs.declaring.Declared.{proposition_in}
use Rattle.theory_states.specs.declared.fault.SourceFault.{SourceFault}
use Rattle.theory_states.specs.declared.fault.SourceFault.TheVariants.{Memory}
use Rattle.theory_states.specs.declared.fault.SourceFault.TheVariants as fault
use Rattle.theory_states.specs.Uses.{path_text, last_part, alias_text}
use Rattle.theories.specs.cloning.Cloned.{naming, IsNamesFault}
use Rattle.theories.proofs.determined.Sides.{side_or, one_side}
use Rattle.theories.proofs.determined.Told.{told_once}
use Rattle.theories.proofs.determined.Library.{AreSameFiles, one_files}
use Rattle.elaboration_laws.specs.scopes.Names.{is_declared, entries_of, innermost}
use Rattle.elab_groups.specs.parts.Outcomes.{Outcome}
use Rattle.elab_declarations.specs.Outcomes.{IsOutcome, IsRefusal}
use Rattle.elaboration_laws.specs.TypedStates.{state_setting}
use Rattle.elaboration_laws.specs.clones.clone_elements.Rights.{rights_fault}
use Rattle.elaboration_laws.specs.clones.clone_copies.Origins.{origin_of}
use Rattle.theory_states.specs.States.{KnownTree, StateTree, known_named}
use Rattle.theory_states.specs.Uses.{theory_used, IsTheoryUsed, IsUnknownTheory}
use Rattle.theories.specs.declaring.Declared.{known_by, with_named, IsDeclared, IsDeclaredFault, of_elaboration, of_sides}
use Rattle.theories.specs.cloning.Cloned.{symbols_tupled, sides_in, state_cloned, AreTold, IsCloned, IsCloneFault, of_variables, of_path, of_clone_names, of_elements}
use Rattle.theories.specs.Typing.{ThenStep, FaultThen, Steps, FirstFault, IsPassed, IsOpened, IsLeft, IsTwice, IsDeclarationTyped, AreDeclarationsTyped, IsDeclarationFault, AreFaulty}
use Rattle.theories.specs.Files.{IsTheoryBegun, IsEnded, IsTypedTheoryBy, IsTheoryFault, is_path_taken, IsNewTheory, IsNewFault, twice, inside, AreTypedIn, AreFaultyIn, IsRestarted, IsEmbedded, AreEmbeddedIn, AreEmbeddedFaultyIn, AreEmbeddedBy, AreEmbeddedFaulty, nothing_known, IsLibraryTyped, theories_of, TheoriesOf, IsLibraryFault, IsFirstSourceFault}
use Rattle.theories.proofs.determined.OneOutcome.{one_outcome, one_elaboration_fault, refusal_or}
use Rattle.tasks.proofs.plain_laws.Options.{same_some as one_token}

abbrev pub GoesOnce : (StateTree → StateTree → Type 0) → Type 0
GoesOnce R = (c a b : StateTree) → R c a → R c b → a ≡ b

pub record IsOnce (R : StateTree → StateTree → Type 0) (Is : StateTree → SourceFault → Type 0) : Type 0 where
  pub same : GoesOnce R
  pub apart : (c a : StateTree) (f : SourceFault) → R c a → Is c f → f ≢ Memory → ⊥
  pub one : (c : StateTree) (f g : SourceFault) → Is c f → Is c g → f ≢ Memory → g ≢ Memory → f ≡ g

-- ---- steps after one another
module _ (R S : StateTree → StateTree → Type 0) where
  then_once : GoesOnce R → GoesOnce S → GoesOnce (ThenStep R S)
  then_once r s c a b x y = s y.between a b (subst (λ (z : StateTree). S z a) (r c x.between y.between x.first y.first) x.second) y.second

  -- the first step alone has a fault
  first_once : (Is : StateTree → SourceFault → Type 0) → IsOnce R Is → GoesOnce S → IsOnce (ThenStep R S) Is
  first_once Is r s = record { same = then_once r.same s; apart = λ c a f x y n. r.apart c x.between f x.first y n; one = r.one }

  -- the fault of the second step, where the first one goes on
  later_apart : (So : StateTree → SourceFault → Type 0) → GoesOnce R → IsOnce S So → (c a : StateTree) (f : SourceFault) → ThenStep R S c a → FaultThen R So c f → f ≢ Memory → ⊥
  later_apart So r s c a f x y n = s.apart y.between a f (subst (λ (z : StateTree). S z a) (r c x.between y.between x.first y.first) x.second) y.fault n

  later_one : (So : StateTree → SourceFault → Type 0) → GoesOnce R → IsOnce S So → (c : StateTree) (f g : SourceFault) → FaultThen R So c f → FaultThen R So c g → f ≢ Memory → g ≢ Memory → f ≡ g
  later_one So r s c f g x y n m = s.one y.between f g (subst (λ (z : StateTree). So z f) (r c x.between y.between x.first y.first) x.fault) y.fault n m

  -- the second step alone has a fault
  second_once : (So : StateTree → SourceFault → Type 0) → GoesOnce R → IsOnce S So → IsOnce (ThenStep R S) (FaultThen R So)
  second_once So r s = record { same = then_once r s.same; apart = later_apart So r s; one = later_one So r s }

  -- each has
  module _ (Is So : StateTree → SourceFault → Type 0) (r : IsOnce R Is) (s : IsOnce S So) where
    abbrev IsEither : StateTree → SourceFault → Type 0
    IsEither c f = ◌⊎◌ (Is c f) (FaultThen R So c f)

    either_apart : (c a : StateTree) (f : SourceFault) → ThenStep R S c a → IsEither c f → f ≢ Memory → ⊥
    either_apart c a f x (inl y) n = r.apart c x.between f x.first y n
    either_apart c a f x (inr y) n = later_apart So r.same s c a f x y n

    either_one : (c : StateTree) (f g : SourceFault) → IsEither c f → IsEither c g → f ≢ Memory → g ≢ Memory → f ≡ g
    either_one c f g (inl x) (inl y) n m = r.one c f g x y n m
    either_one c f g (inl x) (inr y) n m = absurd (r.apart c y.between f y.first x n)
    either_one c f g (inr x) (inl y) n m = absurd (r.apart c x.between g x.first y m)
    either_one c f g (inr x) (inr y) n m = later_one So r.same s c f g x y n m

    pub either_once : IsOnce (ThenStep R S) IsEither
    either_once = record { same = then_once r.same s.same; apart = either_apart; one = either_one }

stays_once : (c a b : StateTree) → c ≡ a → c ≡ b → a ≡ b
stays_once c a b x y = sym x ∙ y

module _ {X : Type 0} (R : X → StateTree → StateTree → Type 0) (Is : X → StateTree → SourceFault → Type 0) (each : (x : X) → IsOnce (R x) (Is x)) where
  steps_once : (xs : List X) → IsOnce (Steps R xs) (FirstFault R Is xs)
  steps_once [] = record { same = stays_once; apart = λ c a f x y n. y; one = λ c f g x y n m. absurd x }
  steps_once (x ∷ xs) = either_once (R x) (Steps R xs) (Is x) (FirstFault R Is xs) (each x) (steps_once xs)

-- ---- small facts
one_part : {X : Type 0} (o : Option X) (x y : X) → o ≡ Some x → o ≡ Some y → x ≡ y
one_part o x y e f = cc

none_or : {X : Type 0} (o : Option X) (x : X) → o ≡ None → o ≡ Some x → ⊥
none_or o x n y = cc

true_or : (b : Bool) → b ≡ false → b ≡ true → ⊥
true_or b e f = cc

no_memory : (f : SourceFault) (g : ElabFault) → f ≡ elaboration_fault g → f ≢ Memory → g ≢ elab.Memory
no_memory f g e n q = n (e ∙ ap elaboration_fault q)

no_side_memory : (number : ℕ) (f : SourceFault) (g : SideFault) → f ≡ side_fault number g → f ≢ Memory → g ≢ side.Memory
no_side_memory number f g e n q = n (e ∙ ap (side_fault number) q)

-- ---- a declaration
module _ (d : SyntaxDeclaration) where
  module _ (c : StateTree) (x y : Declaration) (e : declaration d ≡ Some x) (f : declaration d ≡ Some y) (o q : Outcome) (a : IsOutcome (state_setting c) x o) (b : IsOutcome (state_setting c) y q) where
    outcomes : o ≡ q
    outcomes = one_outcome (state_setting c) y o q (subst (λ (z : Declaration). IsOutcome (state_setting c) z o) (one_part (declaration d) x y e f) a) b

    sides_there : (g : SideFault) → IsSideFault (c.symbols ++ q.symbols) q.matches (bodies q.decls) g → IsSideFault (c.symbols ++ o.symbols) o.matches (bodies o.decls) g
    sides_there g w = subst (λ (z : Outcome). IsSideFault (c.symbols ++ z.symbols) z.matches (bodies z.decls) g) (sym outcomes) w

  refused_there : (c : StateTree) (x y : Declaration) (g : ElabFault) → declaration d ≡ Some x → declaration d ≡ Some y → IsRefusal (state_setting c) x g → IsRefusal (state_setting c) y g
  refused_there c x y g e f r = subst (λ (z : Declaration). IsRefusal (state_setting c) z g) (one_part (declaration d) x y e f) r

  declared_same : GoesOnce (IsDeclared d)
  declared_same c a b x y =
      let same : x.outcome ≡ y.outcome = outcomes c x.parts y.parts x.of y.of x.outcome y.outcome x.is y.is in
      x.known ∙ ap (λ (z : Outcome). known_by (proposition_in d) z.rigid z.decls (with_named d z c)) same ∙ sym y.known

  declared_apart : (c a : StateTree) (f : SourceFault) → IsDeclared d c a → IsDeclaredFault d c f → f ≢ Memory → ⊥
  declared_apart c a f x (of_elaboration y g of r is) n = refusal_or (state_setting c) x.parts x.outcome g (refused_there c y x.parts g of x.of r) (no_memory f g is n) x.named x.is
  declared_apart c a f x (of_sides y q g of b named w is) n =
      side_or (c.symbols ++ x.outcome.symbols) x.outcome.matches (bodies x.outcome.decls) g x.covered x.checked (sides_there c x.parts y x.of of x.outcome q x.is b g w) (no_side_memory c.number f g is n)

  declared_one : (c : StateTree) (f f' : SourceFault) → IsDeclaredFault d c f → IsDeclaredFault d c f' → f ≢ Memory → f' ≢ Memory → f ≡ f'
  declared_one c f f' (of_elaboration y g of r is) (of_elaboration y' g' of' r' is') n n' =
      is ∙ ap elaboration_fault (one_elaboration_fault (state_setting c) y g g' r (refused_there c y' y g' of' of r') (no_memory f g is n) (no_memory f' g' is' n')) ∙ sym is'
  declared_one c f f' (of_elaboration y g of r is) (of_sides y' q g' of' b named w is') n n' =
      absurd (refusal_or (state_setting c) y' q g (refused_there c y y' g of of' r) (no_memory f g is n) named b)
  declared_one c f f' (of_sides y o g of a named w is) (of_elaboration y' g' of' r' is') n n' =
      absurd (refusal_or (state_setting c) y o g' (refused_there c y' y g' of' of r') (no_memory f' g' is' n') named a)
  declared_one c f f' (of_sides y o g of a named w is) (of_sides y' q g' of' b named' w' is') n n' =
      let there : IsSideFault (c.symbols ++ o.symbols) o.matches (bodies o.decls) g' = sides_there c y y' of of' o q a b g' w' in
      let one : g ≡ g' = one_side (c.symbols ++ o.symbols) o.matches (bodies o.decls) g g' w there (no_side_memory c.number f g is n) (no_side_memory c.number f' g' is' n') in
      is ∙ ap (side_fault c.number) one ∙ sym is'

  declared_once : IsOnce (IsDeclared d) (IsDeclaredFault d)
  declared_once = record { same = declared_same; apart = declared_apart; one = declared_one }

-- ---- a theory that is used
module _ (link : Link) (p : Path) (alias : Option Name) where
  used_same : GoesOnce (IsTheoryUsed link p alias)
  used_same c a b x y =
      x.is ∙ ap (λ (t : KnownTree). let z : StateTree = record c { opened = theory_used link (last_part p.parts) (alias_text alias) t c.opened } in z) (one_part (known_named c.known (path_text p.parts)) x.theory y.theory x.found y.found) ∙ sym y.is

  used_once : IsOnce (IsTheoryUsed link p alias) (λ (c : StateTree) (f : SourceFault). IsUnknownTheory p c.known c.number f)
  used_once = record {
    same = used_same;
    apart = λ c a f x y n. none_or (known_named c.known (path_text p.parts)) x.theory y.unknown x.found;
    one = λ c f g x y n m. x.is ∙ sym y.is;
  }

-- ---- a clone
one_name : (n : ℕ) (o : Option NamingFault) (f g : SourceFault) → IsNamesFault n o f → IsNamesFault n o g → f ≡ g
one_name n o f g a b = a.is ∙ ap (naming n) (one_part o a.fault b.fault a.first b.first) ∙ sym b.is

token_or : (i : ℕ) → None ≡ Some i → ⊥
token_or i e = cc

module _ (p : Path) (es : List Element) where
  abbrev path : List ℕ
  path = path_text p.parts

  module _ (c : StateTree) (k j : KnownTree) (e : known_named c.known path ≡ Some k) (f : known_named c.known path ≡ Some j) where
    told_there : (o : Option ℕ) → AreTold c j es o → AreTold c k es o
    told_there o told = subst (λ (t : KnownTree). AreTold c t es o) (one_part (known_named c.known path) j k f e) told

    elements_once : (x y : Option ℕ) → AreTold c k es x → AreTold c j es y → x ≡ y
    elements_once x y a b =
        told_once (symbols_tupled c es) (origin_of c.decls k) (tried_map (symbols_tupled c es) (origin_of c.decls k) (sides_in c k es)) no_effects (sides_in c k es) x y a (told_there y b)

  module _ (l : Link) (alias : Option Name) where
    cloned_same : GoesOnce (IsCloned l p alias es)
    cloned_same c a b x y = x.is ∙ ap (λ (t : KnownTree). state_cloned l (last_part p.parts) (alias_text alias) es t c) (one_part (known_named c.known path) x.theory y.theory x.found y.found) ∙ sym y.is

    clone_apart : (c a : StateTree) (f : SourceFault) → IsCloned l p alias es c a → IsCloneFault p es c f → ⊥
    clone_apart c a f x (of_variables y) = none_or (all_variables_fault es) y.fault x.variables y.first
    clone_apart c a f x (of_path none y) = none_or (known_named c.known path) x.theory y.unknown x.found
    clone_apart c a f x (of_clone_names t none found y) = none_or (rights_fault c.symbols c.opened.scope es) y.fault x.names y.first
    clone_apart c a f x (of_elements t none found right y) = token_or y.token (elements_once c x.theory t x.found found None (Some y.token) x.right y.told)

    clone_one : (c : StateTree) (f g : SourceFault) → IsCloneFault p es c f → IsCloneFault p es c g → f ≡ g
    clone_one c f g (of_variables x) (of_variables y) = one_name c.number (all_variables_fault es) f g x y
    clone_one c f g (of_variables x) (of_path none y) = absurd (none_or (all_variables_fault es) x.fault none x.first)
    clone_one c f g (of_variables x) (of_clone_names t none found y) = absurd (none_or (all_variables_fault es) x.fault none x.first)
    clone_one c f g (of_variables x) (of_elements t none found right y) = absurd (none_or (all_variables_fault es) x.fault none x.first)
    clone_one c f g (of_path none x) (of_variables y) = absurd (none_or (all_variables_fault es) y.fault none y.first)
    clone_one c f g (of_path none x) (of_path other y) = x.is ∙ sym y.is
    clone_one c f g (of_path none x) (of_clone_names t other found y) = absurd (none_or (known_named c.known path) t x.unknown found)
    clone_one c f g (of_path none x) (of_elements t other found right y) = absurd (none_or (known_named c.known path) t x.unknown found)
    clone_one c f g (of_clone_names t none found x) (of_variables y) = absurd (none_or (all_variables_fault es) y.fault none y.first)
    clone_one c f g (of_clone_names t none found x) (of_path other y) = absurd (none_or (known_named c.known path) t y.unknown found)
    clone_one c f g (of_clone_names t none found x) (of_clone_names k other there y) = one_name c.number (rights_fault c.symbols c.opened.scope es) f g x y
    clone_one c f g (of_clone_names t none found x) (of_elements k other there right y) = absurd (none_or (rights_fault c.symbols c.opened.scope es) x.fault right x.first)
    clone_one c f g (of_elements t none found right x) (of_variables y) = absurd (none_or (all_variables_fault es) y.fault none y.first)
    clone_one c f g (of_elements t none found right x) (of_path other y) = absurd (none_or (known_named c.known path) t y.unknown found)
    clone_one c f g (of_elements t none found right x) (of_clone_names k other there y) = absurd (none_or (rights_fault c.symbols c.opened.scope es) y.fault right y.first)
    clone_one c f g (of_elements t none found right x) (of_elements k other there rest y) =
        let same : x.token ≡ y.token = one_token x.token y.token (elements_once c t k found there (Some x.token) (Some y.token) x.told y.told) in
        x.is ∙ ap (fault.BadSubstitution c.number) same ∙ sym y.is

    clone_once : IsOnce (IsCloned l p alias es) (IsCloneFault p es)
    clone_once = record { same = cloned_same; apart = λ c a f x y n. clone_apart c a f x y; one = λ c f g x y n m. clone_one c f g x y }

-- ---- declarations
passed_once : GoesOnce IsPassed
passed_once c a b x y = x ∙ sym y

module _ (n : Name) (T : StateTree → StateTree → Type 0) (Is : StateTree → SourceFault → Type 0) (t : IsOnce T Is) where
  abbrev IsScope : StateTree → StateTree → Type 0
  IsScope c c' = ThenStep (IsOpened n) (ThenStep T (IsLeft c.opened.within)) c c'

  abbrev IsScopeFault : StateTree → SourceFault → Type 0
  IsScopeFault c f = ◌⊎◌ (IsTwice n c f) (FaultThen (IsOpened n) Is c f)

  opened_once : GoesOnce (IsOpened n)
  opened_once c a b x y = x.is ∙ sym y.is

  inner_once : (outer : List ℕ) → IsOnce (ThenStep T (IsLeft outer)) Is
  inner_once outer = first_once T (IsLeft outer) Is t (λ c a b x y. x ∙ sym y)

  scope_same : GoesOnce IsScope
  scope_same c a b x y = then_once (IsOpened n) (ThenStep T (IsLeft c.opened.within)) opened_once (inner_once c.opened.within).same c a b x y

  scope_apart : (c a : StateTree) (f : SourceFault) → IsScope c a → IsScopeFault c f → f ≢ Memory → ⊥
  scope_apart c a f x (inl y) m = true_or (is_declared Scopes n.text (entries_of c.opened.scope (innermost c.opened.scope))) x.first.new y.declared
  scope_apart c a f x (inr y) m = later_apart (IsOpened n) (ThenStep T (IsLeft c.opened.within)) Is opened_once (inner_once c.opened.within) c a f x y m

  scope_one : (c : StateTree) (f g : SourceFault) → IsScopeFault c f → IsScopeFault c g → f ≢ Memory → g ≢ Memory → f ≡ g
  scope_one c f g (inl x) (inl y) m k = x.is ∙ sym y.is
  scope_one c f g (inl x) (inr y) m k = absurd (true_or (is_declared Scopes n.text (entries_of c.opened.scope (innermost c.opened.scope))) y.first.new x.declared)
  scope_one c f g (inr x) (inl y) m k = absurd (true_or (is_declared Scopes n.text (entries_of c.opened.scope (innermost c.opened.scope))) x.first.new y.declared)
  scope_one c f g (inr x) (inr y) m k = later_one (IsOpened n) T Is opened_once t c f g x y m k

  scope_once : IsOnce IsScope IsScopeFault
  scope_once = record { same = scope_same; apart = scope_apart; one = scope_one }

logical_once : (d : SyntaxDeclaration) → IsOnce (ThenStep (IsDeclared d) IsPassed) (IsDeclaredFault d)
logical_once d = first_once (IsDeclared d) IsPassed (IsDeclaredFault d) (declared_once d) passed_once

mutual
  decl_once : (d : SyntaxDeclaration) → IsOnce (IsDeclarationTyped d) (IsDeclarationFault d)
  decl_once (type_decl a n vs f) = logical_once (type_decl a n vs f)
  decl_once (algebraic_decl a ts) = logical_once (algebraic_decl a ts)
  decl_once (function_decl a x ps f e ms) = logical_once (function_decl a x ps f e ms)
  decl_once (predicate_decl a x ps e ms) = logical_once (predicate_decl a x ps e ms)
  decl_once (constant_decl a x f e) = logical_once (constant_decl a x f e)
  decl_once (inductive_decl a ds) = logical_once (inductive_decl a ds)
  decl_once (prop_decl a k x e) = logical_once (prop_decl a k x e)
  decl_once (use_decl a l p n) = first_once (IsTheoryUsed l p n) IsPassed (λ (c : StateTree) (f : SourceFault). IsUnknownTheory p c.known c.number f) (used_once l p n) passed_once
  decl_once (clone_decl a l p n es) = first_once (IsCloned l p n es) IsPassed (IsCloneFault p es) (clone_once p es l n) passed_once
  decl_once (scope_decl a n ds) = scope_once n (AreDeclarationsTyped ds) (AreFaulty ds) (decls_once ds)

  decls_once : (ds : SyntaxDeclarations) → IsOnce (AreDeclarationsTyped ds) (AreFaulty ds)
  decls_once no_decls = record { same = stays_once; apart = λ c a f x y n. y; one = λ c f g x y n m. absurd x }
  decls_once (more_decls d ds) = either_once (IsDeclarationTyped d) (AreDeclarationsTyped ds) (IsDeclarationFault d) (AreFaulty ds) (decl_once d) (decls_once ds)

-- ---- theories
theory_once : (path : List ℕ) (ds : SyntaxDeclarations) → IsOnce (IsTypedTheoryBy AreDeclarationsTyped path ds) (IsTheoryFault path ds)
theory_once path ds =
    second_once (IsTheoryBegun path) (ThenStep (AreDeclarationsTyped ds) IsEnded) (AreFaulty ds) (λ c a b x y. x ∙ sym y)
    (first_once (AreDeclarationsTyped ds) IsEnded (AreFaulty ds) (decls_once ds) (λ c a b x y. x ∙ sym y))

module _ (path : List ℕ) (token : ℕ) (ds : SyntaxDeclarations) where
  new_apart : (c a : StateTree) (f : SourceFault) → IsNewTheory path ds c a → IsNewFault path token ds c f → f ≢ Memory → ⊥
  new_apart c a f x (twice taken is) n = true_or (is_path_taken path c.known) x.new taken
  new_apart c a f x (inside new y) n = (theory_once path ds).apart c a f x.typed y n

  new_one : (c : StateTree) (f g : SourceFault) → IsNewFault path token ds c f → IsNewFault path token ds c g → f ≢ Memory → g ≢ Memory → f ≡ g
  new_one c f g (twice taken is) (twice other was) n m = is ∙ sym was
  new_one c f g (twice taken is) (inside new y) n m = absurd (true_or (is_path_taken path c.known) new taken)
  new_one c f g (inside new x) (twice taken was) n m = absurd (true_or (is_path_taken path c.known) new taken)
  new_one c f g (inside new x) (inside other y) n m = (theory_once path ds).one c f g x y n m

  new_once : IsOnce (IsNewTheory path ds) (IsNewFault path token ds)
  new_once = record { same = λ c a b x y. (theory_once path ds).same c a b x.typed y.typed; apart = new_apart; one = new_one }

-- ---- a file, and the library
file_once : (file : List SyntaxTheory) → IsOnce (AreTypedIn file) (AreFaultyIn file)
file_once file =
    steps_once (λ (t : SyntaxTheory). IsNewTheory t.name.text t.decls) (λ (t : SyntaxTheory). IsNewFault t.name.text t.name.at t.decls) (λ (t : SyntaxTheory). new_once t.name.text t.name.at t.decls) file

embedded_once : (path : List ℕ) (file : List SyntaxTheory) → IsOnce (AreEmbeddedIn path file) (AreEmbeddedFaultyIn path file)
embedded_once path file =
    steps_once (IsEmbedded path) (λ (t : SyntaxTheory). IsNewFault path t.name.at t.decls)
    (λ (t : SyntaxTheory). first_once (IsNewTheory path t.decls) IsRestarted (IsNewFault path t.name.at t.decls) (new_once path t.name.at t.decls) (λ c a b x y. x ∙ sym y)) file

library_once : (files : List (List ℕ × File)) → IsOnce (AreEmbeddedBy AreDeclarationsTyped files) (AreEmbeddedFaulty files)
library_once files =
    steps_once (λ (f : List ℕ × File). AreEmbeddedIn f.0 (file_of f.1)) (λ (f : List ℕ × File). AreEmbeddedFaultyIn f.0 (file_of f.1)) (λ (f : List ℕ × File). embedded_once f.0 (file_of f.1)) files

-- what is typed of one list of files is typed of another one with the same paths and trees
files_there : (fs gs : List (List ℕ × File)) (c c' : StateTree) → AreSameFiles fs gs → AreEmbeddedBy AreDeclarationsTyped fs c c' → AreEmbeddedBy AreDeclarationsTyped gs c c'
files_there [] [] c c' h a = a
files_there [] (g ∷ gs) c c' h a = absurd h
files_there (f ∷ fs) [] c c' h a = absurd h
files_there (f ∷ fs) (g ∷ gs) c c' h a = record {
  between = a.between;
  first = subst₂ (λ (path : List ℕ) (ts : List SyntaxTheory). AreEmbeddedIn path ts c a.between) h.0 h.1 a.first;
  second = files_there fs gs a.between c' h.2 a.second;
}

faulty_there : (fs gs : List (List ℕ × File)) (c : StateTree) (x : SourceFault) → AreSameFiles fs gs → AreEmbeddedFaulty fs c x → AreEmbeddedFaulty gs c x
faulty_there [] [] c x h a = a
faulty_there [] (g ∷ gs) c x h a = absurd h
faulty_there (f ∷ fs) [] c x h a = absurd h
faulty_there (f ∷ fs) (g ∷ gs) c x h (inl a) = inl (subst₂ (λ (path : List ℕ) (ts : List SyntaxTheory). AreEmbeddedFaultyIn path ts c x) h.0 h.1 a)
faulty_there (f ∷ fs) (g ∷ gs) c x h (inr a) = inr (record {
  between = a.between;
  first = subst₂ (λ (path : List ℕ) (ts : List SyntaxTheory). AreEmbeddedIn path ts c a.between) h.0 h.1 a.first;
  fault = faulty_there fs gs a.between x h.2 a.fault;
})

library_same : (c d : StateTree) → IsLibraryTyped c → IsLibraryTyped d → c ≡ d
library_same c d a b = (library_once b.files).same nothing_known c d (files_there a.files b.files nothing_known c (one_files library a.files b.files a.are b.are) a.typed) b.typed

library_apart : (c : StateTree) (f : SourceFault) → IsLibraryTyped c → IsLibraryFault f → f ≢ Memory → ⊥
library_apart c f a b n = (library_once b.files).apart nothing_known c f (files_there a.files b.files nothing_known c (one_files library a.files b.files a.are b.are) a.typed) b.fault n

library_one : (f g : SourceFault) → IsLibraryFault f → IsLibraryFault g → f ≢ Memory → g ≢ Memory → f ≡ g
library_one f g a b n m = (library_once b.files).one nothing_known f g (faulty_there a.files b.files nothing_known f (one_files library a.files b.files a.are b.are) a.fault) b.fault n m

-- ---- a source
module _ (file : List SyntaxTheory) where
  pub one_theories : (a b : TheoriesTree) → TheoriesOf file a → TheoriesOf file b → a ≡ b
  one_theories a b x y =
      let before : x.before ≡ y.before = library_same x.before y.before x.library y.library in
      let after : x.after ≡ y.after = (file_once file).same y.before x.after y.after (subst (λ (z : StateTree). AreTypedIn file z x.after) before x.typed) y.typed in
      x.are ∙ ap₂ (λ (c d : StateTree). theories_of (length c.known) d) before after ∙ sym y.are

  pub theories_apart : (a : TheoriesTree) (f : SourceFault) → TheoriesOf file a → IsFirstSourceFault file f → f ≢ Memory → ⊥
  theories_apart a f x (inl y) n = library_apart x.before f x.library y n
  theories_apart a f x (inr y) n = (file_once file).apart y.before x.after f (subst (λ (z : StateTree). AreTypedIn file z x.after) (library_same x.before y.before x.library y.library) x.typed) y.fault n

  pub one_fault : (f g : SourceFault) → IsFirstSourceFault file f → IsFirstSourceFault file g → f ≢ Memory → g ≢ Memory → f ≡ g
  one_fault f g (inl x) (inl y) n m = library_one f g x y n m
  one_fault f g (inl x) (inr y) n m = absurd (library_apart y.before f y.library x n)
  one_fault f g (inr x) (inl y) n m = absurd (library_apart x.before g x.library y m)
  one_fault f g (inr x) (inr y) n m =
      (file_once file).one y.before f g (subst (λ (z : StateTree). AreFaultyIn file z f) (library_same x.before y.before x.library y.library) x.fault) y.fault n m
