-- The formulas and the types of parameters of a task that is printed.
use Rattle.std.proofs.Common.{◌≡◌, ℕ, suc, ◌+◌, ◌==◌, not, Bool, true, false, if◌then◌else◌, List, [], ◌∷◌, ◌++◌, map, length, flat_map, All, Option, Some, None, refl, sym, ap, ◌∙◌, arith}
use Rattle.std.proofs.lemmas.Bool.Decides.{Decides-eqb}
use Rattle.tasks.specs.trees.declared.Sort.TheVariants.{Formula}
use Rattle.tasks.specs.trees.Tree.{Tree, Leaf, One, Two, Three, Head, HParam, above_ty_vars}
use Rattle.tasks.specs.trees.Sorts.{sort_of}
use Rattle.printed_problems.specs.drivers.declared.driver_items.kinds.Syntax.{Syntax}
use Rattle.printed_problems.specs.drivers.driver_items.Syntaxes.{syntax_of}
use Rattle.printed_problems.specs.drivers.declared.driver_items.kinds.Syntax.TheVariants.{Smt}
use Rattle.printed_problems.specs.drivers.declared.driver_parts.driver.Driver.{Driver}
use Rattle.tasks.specs.Task.{TaskTree, DeclarationTree, BodyTree, MakesType, Makes, Defines, Induces, Constructs, Says, PropositionTree, said_by, props_of, props}
use Rattle.tasks.specs.Vocabulary.{of_task}
use Rattle.tasks.specs.Typing.{TypedUnder}
use Rattle.tasks.specs.Valid.{OneOf, ParametersOf, IsFormulaOver, IsFormula, IsTypeOver, IsValidBody, IsValidDecl, IsValid}
use Rattle.name_tables.specs.Occurrences.{Occurrence, in_type, in_proposition, occurrences, task_occurrences}
use Rattle.name_tables.specs.Tables.{problem_things}
use Rattle.name_tables.specs.Seen.{AreIn}
use Rattle.printed_problems.specs.declared.fault.PrintFault.{PrintFault}
use Rattle.printed_problems.specs.declared.fault.PrintFault.TheVariants.{Unprintable, Polymorphic}
use Rattle.printed_problems.specs.Problems.{formula_of, problem_of}
use Rattle.printed_problems.specs.Faults.{has_forms, syntax_fault, formula_fault, printed_body_fault, print_fault_or_else, first_print_fault, declaration_faults, printed_type_fault}
use Rattle.part_texts.specs.smt_law.Plain.{Words}
use Rattle.part_texts.specs.smt_law.Law.{NumbersFit, IsPrinted}
use Rattle.part_texts.proofs.smt_law.Found.{in_first, in_rest}
use Rattle.part_texts.proofs.smt_law.Inputs.{Input}
use Rattle.part_texts.proofs.smt_law.Tables.{known}
use Rattle.part_texts.proofs.smt_law.Standing.{AreGood, good_join, good_types, good_occurrences, task_stands}
use Rattle.tasks.proofs.Ground.{above_ground}

-- ---- each element of a list
abbrev pub EachOf : {X : Type 0} → (X → Type 0) → List X → Type 0
EachOf P [] = Unit {0}
EachOf P (x ∷ xs) = P x × EachOf P xs

module _ {X : Type 0} where
  pub each_from_all : (P : X → Type 0) (xs : List X) → All P xs → EachOf P xs
  each_from_all P [] a = tt
  each_from_all P (x ∷ xs) a = (a 0 x (omega arith), each_from_all P xs (λ k d l. a (suc k) d (omega arith)))

  each_join : (P : X → Type 0) (xs ys : List X) → EachOf P xs → EachOf P ys → EachOf P (xs ++ ys)
  each_join P [] ys a b = b
  each_join P (x ∷ xs) ys a b = (a.0, each_join P xs ys a.1 b)

  each_left : (P : X → Type 0) (xs ys : List X) → EachOf P (xs ++ ys) → EachOf P xs
  each_left P [] ys a = tt
  each_left P (x ∷ xs) ys a = (a.0, each_left P xs ys a.1)

  each_right : (P : X → Type 0) (xs ys : List X) → EachOf P (xs ++ ys) → EachOf P ys
  each_right P [] ys a = a
  each_right P (x ∷ xs) ys a = each_right P xs ys a.1

  pub each_both : (P Q R : X → Type 0) → ((x : X) → P x → Q x → R x) → (xs : List X) → EachOf P xs → EachOf Q xs → EachOf R xs
  each_both P Q R f [] a b = tt
  each_both P Q R f (x ∷ xs) a b = (f x a.0 b.0, each_both P Q R f xs a.1 b.1)

  pub each_one : (P Q : X → Type 0) → ((x : X) → P x → Q x) → (xs : List X) → EachOf P xs → EachOf Q xs
  each_one P Q f [] a = tt
  each_one P Q f (x ∷ xs) a = (f x a.0, each_one P Q f xs a.1)

  in_each : (os : List Occurrence) (f : X → List Occurrence) (xs : List X) → AreIn os (flat_map f xs) → EachOf (λ x. AreIn os (f x)) xs
  in_each os f [] h = tt
  in_each os f (x ∷ xs) h = (in_first os (f x) (flat_map f xs) h, in_each os f xs (in_rest os (f x) (flat_map f xs) h))

  good_each : (t : TaskTree) (valid : IsValid t) (f : X → List Occurrence) (xs : List X) → EachOf (λ x. AreGood t valid (f x)) xs → AreGood t valid (flat_map f xs)
  good_each t valid f [] h = tt
  good_each t valid f (x ∷ xs) h = good_join t valid (f x) (flat_map f xs) h.0 (good_each t valid f xs h.1)

module _ {X Y : Type 0} where
  pub each_of_map : (P : Y → Type 0) (f : X → Y) (xs : List X) → EachOf (λ x. P (f x)) xs → EachOf P (map f xs)
  each_of_map P f [] a = tt
  each_of_map P f (x ∷ xs) a = (a.0, each_of_map P f xs a.1)

  map_each : (P : Y → Type 0) (f : X → Y) (xs : List X) → EachOf P (map f xs) → EachOf (λ x. P (f x)) xs
  map_each P f [] a = tt
  map_each P f (x ∷ xs) a = (a.0, map_each P f xs a.1)

-- ---- faults

no_first : (f g : Option PrintFault) → print_fault_or_else f g ≡ None → (f ≡ None) × (g ≡ None)
no_first None g h = (refl, h)
no_first (Some f) g h = absurd (cc)

none_each : (fs : List (Option PrintFault)) → first_print_fault fs ≡ None → EachOf (λ f. f ≡ None) fs
none_each [] h = tt
none_each (f ∷ fs) h = let n = no_first f (first_print_fault fs) h in (n.0, none_each fs n.1)

-- ---- grounds

none_of : (types : List Tree) (h : Head) (a : Tree) → OneOf [] h a → OneOf types h a
none_of types (HParam n) a o = absurd (cc)
none_of types _ a o = tt

no_parameters : (types : List Tree) (e : Tree) → ParametersOf [] e → ParametersOf types e
no_parameters types (Leaf h) p = tt
no_parameters types (One h a) p = (none_of types h a p.0, no_parameters types a p.1)
no_parameters types (Two h a b) p = (no_parameters types a p.0, no_parameters types b p.1)
no_parameters types (Three h a b c) p = (no_parameters types a p.0, no_parameters types b p.1, no_parameters types c p.2)

module _ (d : Driver) (words : Words) (t : TaskTree) (smt : syntax_of d.printer ≡ Smt) (p : IsPrinted d t) where
  pub record IsFormed (e : Tree) : Type 0 where
    pub sort : sort_of e ≡ Formula
    pub typed : TypedUnder (of_task t) [] e
    pub parameters : ParametersOf t.params e
    pub forms : has_forms Smt e ≡ true
    pub ground : above_ty_vars e ≡ 0

  ground_told : (n : ℕ) (e : Tree) (b : Bool) → (above_ty_vars e == 0) ≡ b → (if not b then Some (Polymorphic n) else syntax_fault d t (occurrences e)) ≡ None → above_ty_vars e ≡ 0
  ground_told n e true k h = (Decides-eqb (above_ty_vars e) 0).0 k
  ground_told n e false k h = absurd (cc)

  forms_told : (n : ℕ) (e : Tree) (b : Bool) → has_forms (syntax_of d.printer) e ≡ b → (if not b then Some (Unprintable n) else (if not (above_ty_vars e == 0) then Some (Polymorphic n) else syntax_fault d t (occurrences e))) ≡ None
      → (has_forms Smt e ≡ true) × (above_ty_vars e ≡ 0)
  forms_told n e true k h = (ap (λ (x : Syntax). has_forms x e) (sym smt) ∙ k, ground_told n e (above_ty_vars e == 0) refl h)
  forms_told n e false k h = absurd (cc)

  formed : (n : ℕ) (params : List Tree) (vars : ℕ) (e : Tree) → IsFormulaOver (of_task t) params vars e → ParametersOf t.params e → formula_fault d t n e ≡ None → IsFormed e
  formed n params vars e f q h =
      let told = forms_told n e (has_forms (syntax_of d.printer) e) refl h in
      record { sort = f.sort; typed = f.typed; parameters = q; forms = told.0; ground = told.1 }

  body_formed : (n : ℕ) (x : DeclarationTree) (b : BodyTree) → IsValidBody (of_task t) x.vars b → printed_body_fault d t n b ≡ None → EachOf (λ (q : PropositionTree). IsFormed q.formula) (said_by x b)
  body_formed n x (Says e) v h = (formed n [] x.vars e v (let q = v.parameters in no_parameters t.params e q) h, tt)
  body_formed n x (MakesType k) v h = tt
  body_formed n x (Makes k) v h = tt
  body_formed n x (Defines ds) v h = tt
  body_formed n x (Induces is) v h = tt
  body_formed n x (Constructs ts) v h = tt

  decls_formed : (n : ℕ) (xs : List DeclarationTree) → EachOf (IsValidDecl (of_task t)) xs → EachOf (λ f. f ≡ None) (declaration_faults d t n xs) → EachOf (λ (q : PropositionTree). IsFormed q.formula) (props_of xs)
  decls_formed n [] v h = tt
  decls_formed n (x ∷ xs) v h = each_join (λ (q : PropositionTree). IsFormed q.formula) (said_by x x.body) (props_of xs) (body_formed n x x.body v.0 h.0) (decls_formed (n + 1) xs v.1 h.1)

  abbrev last : ℕ
  last = length t.decls

  faults : EachOf (λ f. f ≡ None) (declaration_faults d t 0 t.decls ++ (map (printed_type_fault d t) t.params ++ map (formula_fault d t last) (t.locals ++ t.goal ∷ [])))
  faults = none_each (declaration_faults d t 0 t.decls ++ (map (printed_type_fault d t) t.params ++ map (formula_fault d t last) (t.locals ++ t.goal ∷ []))) p.printed

  props_formed : EachOf (λ (q : PropositionTree). IsFormed q.formula) (props t)
  props_formed =
      decls_formed 0 t.decls (each_from_all (IsValidDecl (of_task t)) t.decls p.valid.decls)
      (each_left (λ f. f ≡ None) (declaration_faults d t 0 t.decls) (map (printed_type_fault d t) t.params ++ map (formula_fault d t last) (t.locals ++ t.goal ∷ [])) faults)

  ends : EachOf (λ e. formula_fault d t last e ≡ None) (t.locals ++ t.goal ∷ [])
  ends =
      map_each (λ f. f ≡ None) (formula_fault d t last) (t.locals ++ t.goal ∷ [])
      (each_right (λ f. f ≡ None) (map (printed_type_fault d t) t.params) (map (formula_fault d t last) (t.locals ++ t.goal ∷ []))
      (each_right (λ f. f ≡ None) (declaration_faults d t 0 t.decls) (map (printed_type_fault d t) t.params ++ map (formula_fault d t last) (t.locals ++ t.goal ∷ [])) faults))

  locals_formed : EachOf IsFormed t.locals
  locals_formed =
      each_both (IsFormula t t.params 0) (λ e. formula_fault d t last e ≡ None) IsFormed (λ e v h. formed last t.params 0 e v (let q = v.parameters in q) h) t.locals
      (each_from_all (IsFormula t t.params 0) t.locals p.valid.locals) (each_left (λ e. formula_fault d t last e ≡ None) t.locals (t.goal ∷ []) ends)

  goal_formed : IsFormed t.goal
  goal_formed = formed last t.params 0 t.goal p.valid.goal p.valid.goal.parameters (each_right (λ e. formula_fault d t last e ≡ None) t.locals (t.goal ∷ []) ends).0

  types_valid : EachOf (IsTypeOver t 0) t.params
  types_valid = each_from_all (IsTypeOver t 0) t.params p.valid.params

  -- ---- what occurs
  formed_good : (e : Tree) → IsFormed e → AreGood t p.valid (occurrences e)
  formed_good e f = good_occurrences t p.valid [] e f.typed f.ground

  all_good : AreGood t p.valid (task_occurrences t)
  all_good =
      good_join t p.valid (flat_map in_proposition (props t)) (flat_map in_type t.params ++ (flat_map occurrences t.locals ++ occurrences t.goal))
      (good_each t p.valid in_proposition (props t) (each_one (λ (q : PropositionTree). IsFormed q.formula) (λ (q : PropositionTree). AreGood t p.valid (in_proposition q)) (λ q f. formed_good q.formula f) (props t) props_formed))
      (good_join t p.valid (flat_map in_type t.params) (flat_map occurrences t.locals ++ occurrences t.goal)
      (good_each t p.valid in_type t.params (each_one (IsTypeOver t 0) (λ e. AreGood t p.valid (in_type e)) (λ e v. good_types t p.valid [] e v.typed (above_ground e v.variables)) t.params types_valid))
      (good_join t p.valid (flat_map occurrences t.locals) (occurrences t.goal)
      (good_each t p.valid occurrences t.locals (each_one IsFormed (λ e. AreGood t p.valid (occurrences e)) formed_good t.locals locals_formed))
      (formed_good t.goal goal_formed)))

  all_there : AreIn (problem_things t) (task_occurrences t)
  all_there = task_stands t p.valid all_good

  rest_there : AreIn (problem_things t) (flat_map in_type t.params ++ (flat_map occurrences t.locals ++ occurrences t.goal))
  rest_there = in_rest (problem_things t) (flat_map in_proposition (props t)) (flat_map in_type t.params ++ (flat_map occurrences t.locals ++ occurrences t.goal)) all_there

  ends_there : AreIn (problem_things t) (flat_map occurrences t.locals ++ occurrences t.goal)
  ends_there = in_rest (problem_things t) (flat_map in_type t.params) (flat_map occurrences t.locals ++ occurrences t.goal) rest_there

  pub types_there : EachOf (λ e. AreIn (problem_things t) (in_type e)) t.params
  types_there = in_each (problem_things t) in_type t.params (in_first (problem_things t) (flat_map in_type t.params) (flat_map occurrences t.locals ++ occurrences t.goal) rest_there)

  -- ---- each formula
  pub record IsSound (e : Tree) : Type 0 where
    pub sort : sort_of e ≡ Formula
    pub input : Input (known d words t) 0 [] e

  input_of : (e : Tree) → IsFormed e → AreIn (problem_things t) (occurrences e) → NumbersFit e → IsSound e
  input_of e f i n = record {
    sort = f.sort;
    input = record {
      depth = refl;
      typed = f.typed;
      parameters = f.parameters;
      there = i;
      forms = f.forms;
      ground = f.ground;
      low = let h = n.height in omega (arith, h);
      literals = n.literals;
    };
  }

  pub facts_sound : EachOf IsSound (problem_of d t).facts
  facts_sound =
      each_of_map IsSound formula_of (props t)
      (each_both (λ (q : PropositionTree). IsFormed q.formula × AreIn (problem_things t) (occurrences q.formula)) (λ (q : PropositionTree). NumbersFit q.formula) (λ (q : PropositionTree). IsSound q.formula) (λ q f n. input_of q.formula f.0 f.1 n) (props t)
      (each_both (λ (q : PropositionTree). IsFormed q.formula) (λ (q : PropositionTree). AreIn (problem_things t) (occurrences q.formula)) (λ (q : PropositionTree). IsFormed q.formula × AreIn (problem_things t) (occurrences q.formula)) (λ q f i. (f, i)) (props t) props_formed
      (in_each (problem_things t) in_proposition (props t) (in_first (problem_things t) (flat_map in_proposition (props t)) (flat_map in_type t.params ++ (flat_map occurrences t.locals ++ occurrences t.goal)) all_there)))
      (map_each NumbersFit formula_of (props t) (each_from_all NumbersFit (problem_of d t).facts p.facts)))

  pub locals_sound : EachOf IsSound t.locals
  locals_sound =
      each_both (λ e. IsFormed e × AreIn (problem_things t) (occurrences e)) NumbersFit IsSound (λ e f n. input_of e f.0 f.1 n) t.locals
      (each_both IsFormed (λ e. AreIn (problem_things t) (occurrences e)) (λ e. IsFormed e × AreIn (problem_things t) (occurrences e)) (λ e f i. (f, i)) t.locals locals_formed
      (in_each (problem_things t) occurrences t.locals (in_first (problem_things t) (flat_map occurrences t.locals) (occurrences t.goal) ends_there)))
      (each_from_all NumbersFit t.locals p.locals)

  pub goal_sound : IsSound t.goal
  goal_sound = input_of t.goal goal_formed (in_rest (problem_things t) (flat_map occurrences t.locals) (occurrences t.goal) ends_there) p.goal

  pub premises_sound : EachOf IsSound ((problem_of d t).facts ++ (problem_of d t).locals)
  premises_sound = each_join IsSound (problem_of d t).facts (problem_of d t).locals facts_sound locals_sound

  -- ---- each type of a parameter
  pub record IsSoundType (e : Tree) : Type 0 where
    pub valid : IsTypeOver t 0 e
    pub there : AreIn (problem_things t) (in_type e)

  pub types_sound : EachOf IsSoundType t.params
  types_sound = each_both (IsTypeOver t 0) (λ e. AreIn (problem_things t) (in_type e)) IsSoundType (λ e v i. record { valid = v; there = i }) t.params types_valid types_there
