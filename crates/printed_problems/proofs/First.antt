-- The first fault of a list, one after the other.
use Rattle.std.proofs.Common.{◌≡◌, ℕ, ◌+◌, ◌<◌, ◌≤◌, ◌==◌, true, not, if◌then◌else◌, List, [], ◌∷◌, ◌++◌, map, length, get_or, drop, Option, Some, None, refl, sym, ap, subst, ◌∙◌, Result, Ok, Err, OnOk, IfOk, IsErrAnd}
use Rattle.std.proofs.lemmas.List.{drop_more, drop_all, map-append}
use Rattle.trees.specs.declared.TermId.{TermId}
use Rattle.trees.specs.Tree.{Tree, above_ty_vars}
use Rattle.trees.specs.Node.{tree_at}
use Rattle.tasks.specs.declared.declaration.Decl.{Decl}
use Rattle.tasks.specs.Task.{TaskTree}
use Rattle.tasks.specs.Meaning.{trees_at, declaration_at, declarations_at}
use Rattle.name_tables.specs.Occurrences.{occurrences}
use Rattle.drivers.specs.driver_items.Syntaxes.{syntax_of}
use Rattle.drivers.specs.declared.driver_parts.driver.Driver.{Driver}
use Rattle.printed_problems.specs.declared.fault.PrintFault.{PrintFault}
use Rattle.printed_problems.specs.Faults.{has_forms, syntax_fault, print_fault_or_else, first_print_fault, printed_body_fault, printed_type_fault, formula_fault, declaration_faults, print_fault}
use Rattle.printed_problems.specs.declared.fault.PrintFault.TheVariants.{Memory, Polymorphic, Unprintable, NoSyntax}
use Rattle.printed_problems.specs.Checks.{IsDueFault, MeetsFault}

first_join : (xs ys : List (Option PrintFault)) → first_print_fault (xs ++ ys) ≡ print_fault_or_else (first_print_fault xs) (first_print_fault ys)
first_join [] ys = refl
first_join (None ∷ xs) ys = first_join xs ys
first_join (Some f ∷ xs) ys = refl

-- over trees, from a place on
abbrev pub faults_from : (Tree → Option PrintFault) → List Tree → List TermId → Option PrintFault
faults_from f s ids = first_print_fault (map f (trees_at s ids))

module _ (f : Tree → Option PrintFault) (s : List Tree) (ids : List TermId) (i : ℕ) (d : TermId) (all : Option PrintFault) where
  pub fault_later : i < length ids → f (tree_at s (get_or ids i d)) ≡ None → faults_from f s (drop i ids) ≡ all → faults_from f s (drop (i + 1) ids) ≡ all
  fault_later l none so = sym (ap (λ g. print_fault_or_else g (faults_from f s (drop (i + 1) ids))) none) ∙ ap (faults_from f s) (sym (drop_more ids i d l)) ∙ so

  pub fault_here : (g : PrintFault) → i < length ids → f (tree_at s (get_or ids i d)) ≡ Some g → faults_from f s (drop i ids) ≡ all → all ≡ Some g
  fault_here g l some so = sym so ∙ ap (faults_from f s) (drop_more ids i d l) ∙ ap (λ g. print_fault_or_else g (faults_from f s (drop (i + 1) ids))) some

  pub fault_end : length ids ≤ i → faults_from f s (drop i ids) ≡ all → all ≡ None
  fault_end l so = sym so ∙ ap (faults_from f s) (drop_all i ids l)

-- over declarations, from a place on
abbrev pub declarations_from : Driver → TaskTree → List Tree → ℕ → List Decl → Option PrintFault
declarations_from d t s n ds = first_print_fault (declaration_faults d t n (declarations_at s ds))

module _ (d : Driver) (t : TaskTree) (s : List Tree) (ds : List Decl) (i : ℕ) (x : Decl) (all : Option PrintFault) where
  pub declaration_later : i < length ds → printed_body_fault d t i (declaration_at s (get_or ds i x)).body ≡ None → declarations_from d t s i (drop i ds) ≡ all → declarations_from d t s (i + 1) (drop (i + 1) ds) ≡ all
  declaration_later l none so = sym (ap (λ g. print_fault_or_else g (declarations_from d t s (i + 1) (drop (i + 1) ds))) none) ∙ ap (declarations_from d t s i) (sym (drop_more ds i x l)) ∙ so

  pub declaration_here : (g : PrintFault) → i < length ds → printed_body_fault d t i (declaration_at s (get_or ds i x)).body ≡ Some g → declarations_from d t s i (drop i ds) ≡ all → all ≡ Some g
  declaration_here g l some so = sym so ∙ ap (declarations_from d t s i) (drop_more ds i x l) ∙ ap (λ g. print_fault_or_else g (declarations_from d t s (i + 1) (drop (i + 1) ds))) some

  pub declaration_end : length ds ≤ i → declarations_from d t s i (drop i ds) ≡ all → all ≡ None
  declaration_end l so = sym so ∙ ap (declarations_from d t s i) (drop_all i ds l)

-- part after part
pub parts_of_task : (d : Driver) (t : TaskTree) → print_fault d t ≡ print_fault_or_else (first_print_fault (declaration_faults d t 0 t.decls))
    (print_fault_or_else (first_print_fault (map (printed_type_fault d t) t.params)) (print_fault_or_else (first_print_fault (map (formula_fault d t (length t.decls)) t.locals)) (print_fault_or_else (formula_fault d t (length t.decls) t.goal) None)))
parts_of_task d t =
    let F = formula_fault d t (length t.decls) in
    first_join (declaration_faults d t 0 t.decls) (map (printed_type_fault d t) t.params ++ map F (t.locals ++ t.goal ∷ []))
    ∙ ap (print_fault_or_else (first_print_fault (declaration_faults d t 0 t.decls))) (first_join (map (printed_type_fault d t) t.params) (map F (t.locals ++ t.goal ∷ []))
    ∙ ap (print_fault_or_else (first_print_fault (map (printed_type_fault d t) t.params))) (ap first_print_fault (map-append F t.locals (t.goal ∷ [])) ∙ first_join (map F t.locals) (F t.goal ∷ [])))

pub else_none : (f : Option PrintFault) → print_fault_or_else f None ≡ f
else_none None = refl
else_none (Some f) = refl

-- a fault that is handed on, and one that matters to no clause
pub meets_fault : {X : Type 0} (r : Result X PrintFault) (due : Option PrintFault) (f : PrintFault) → IsErrAnd r (λ e. e ≡ f) → IsDueFault f due → MeetsFault r due
meets_fault (Ok x) due f h m = absurd h
meets_fault (Err e) due f h m = subst (λ g. IsDueFault g due) (sym h) m

-- what is said of a formula whose forms are there and that has no type variable
pub formula_rest : (d : Driver) (t : TaskTree) (n : ℕ) (e : Tree) → has_forms (syntax_of d.printer) e ≡ true → above_ty_vars e ≡ 0 → formula_fault d t n e ≡ syntax_fault d t (occurrences e)
formula_rest d t n e h k = (λ i. if not (h i) then Some (Unprintable n) else (if not (k i == 0) then Some (Polymorphic n) else syntax_fault d t (occurrences e)))

pub meets_same : {X : Type 0} (r : Result X PrintFault) (due other : Option PrintFault) → due ≡ other → MeetsFault r due → MeetsFault r other
meets_same r due other e m = subst (MeetsFault r) e m

-- a fault that is told of one value is told of another that tells the same
pub same_fault : (f : PrintFault) (due other : Option PrintFault) → ((g : PrintFault) → due ≡ Some g → other ≡ Some g) → IsDueFault f due → IsDueFault f other
same_fault Memory due other h m = tt
same_fault (Polymorphic n) due other h m = h (Polymorphic n) m
same_fault (Unprintable n) due other h m = h (Unprintable n) m
same_fault (NoSyntax n) due other h m = h (NoSyntax n) m

-- the first one that is there
pub else_first : (f rest : Option PrintFault) (g : PrintFault) → f ≡ Some g → print_fault_or_else f rest ≡ Some g
else_first f rest g e = ap (λ z. print_fault_or_else z rest) e

pub else_next : (f rest : Option PrintFault) → f ≡ None → print_fault_or_else f rest ≡ rest
else_next f rest e = ap (λ z. print_fault_or_else z rest) e

module _ (d : Driver) (t : TaskTree) where
  abbrev first_part : Option PrintFault
  first_part = first_print_fault (declaration_faults d t 0 t.decls)

  abbrev second_part : Option PrintFault
  second_part = first_print_fault (map (printed_type_fault d t) t.params)

  abbrev third_part : Option PrintFault
  third_part = first_print_fault (map (formula_fault d t (length t.decls)) t.locals)

  abbrev last_part : Option PrintFault
  last_part = formula_fault d t (length t.decls) t.goal

  -- a fault of a part where the parts before have none
  pub task_first : (f : PrintFault) (due : Option PrintFault) → due ≡ first_part → IsDueFault f due → IsDueFault f (print_fault d t)
  task_first f due e = same_fault f due (print_fault d t) (λ g h. parts_of_task d t ∙ else_first first_part _ g (sym e ∙ h))

  pub task_second : (f : PrintFault) (due : Option PrintFault) → first_part ≡ None → due ≡ second_part → IsDueFault f due → IsDueFault f (print_fault d t)
  task_second f due a e = same_fault f due (print_fault d t) (λ g h. parts_of_task d t ∙ else_next first_part _ a ∙ else_first second_part _ g (sym e ∙ h))

  pub task_third : (f : PrintFault) (due : Option PrintFault) → first_part ≡ None → second_part ≡ None → due ≡ third_part → IsDueFault f due → IsDueFault f (print_fault d t)
  task_third f due a b e = same_fault f due (print_fault d t) (λ g h. parts_of_task d t ∙ else_next first_part _ a ∙ else_next second_part _ b ∙ else_first third_part _ g (sym e ∙ h))

  pub task_last : (due : Option PrintFault) → first_part ≡ None → second_part ≡ None → third_part ≡ None → due ≡ last_part → due ≡ print_fault d t
  task_last due a b k e = e ∙ sym (parts_of_task d t ∙ else_next first_part _ a ∙ else_next second_part _ b ∙ else_next third_part _ k ∙ else_none last_part)
