-- The problems and the texts of parts, one after another.
use Rattle.std.proofs.Common.{◌≡◌, ◌∙◌, ◌<◌, ◌≤◌, ◌+◌, ◌++◌, ℕ, List, [], ◌∷◌, length, map, get_or, take, drop, Option, Some, None, sym, ap, subst, arith, append_assoc}
use Rattle.std.specs.List.{flat_map}
use Rattle.std.proofs.lemmas.List.{append-nil, length-map, map-append, get_or-map, get_or_past, take_more, drop_more, drop_all}
use Rattle.tasks.specs.trees.Tree.{Tree}
use Rattle.tasks.specs.declared.task.Task.{Task}
use Rattle.tasks.specs.declared.signature.SymbolInfo.{SymbolInfo}
use Rattle.tasks.specs.Task.{SymbolTree, int_symbol, TaskTree, symbol_or}
use Rattle.tasks.specs.Meaning.{symbol_at, symbols_at, task_at, tasks_at}
use Rattle.drivers.specs.declared.driver_parts.driver.Driver.{Driver}
use Rattle.name_tables.specs.declared.name_entries.names.NameEntry.{NameEntry}
use Rattle.printed_problems.specs.declared.fault.PrintFault.{PrintFault}
use Rattle.printed_problems.specs.declared.printed.Problem.{Problem}
use Rattle.printed_problems.specs.Faults.{print_fault}
use Rattle.printed_problems.specs.Problems.{ProblemTree, problem_of}
use Rattle.printed_problems.specs.Made.{IsProblem, ProblemHeld, problem_at}
use Rattle.part_texts.specs.declared.fault.PartFault.{PartFault}
use Rattle.part_texts.specs.declared.fault.PartFault.TheVariants as part_fault
use Rattle.part_texts.specs.Problems.{part_fault_at, or_later, first_fault, IsPartFault, AreProblems}
use Rattle.part_texts.specs.Texts.{part_text, texts_from}
use Rattle.part_texts.specs.Names.{name_text, names_from}
use Rattle.tasks.proofs.plain_laws.Lists.{drop_at as left_at}

pub flat_step : {X : Type 0} (f : X → List ℕ) (xs : List X) (i : ℕ) (x : X) (old new all : List ℕ) → x ≡ get_or xs i x → i < length xs → new ≡ old ++ f x
    → old ++ flat_map f (drop i xs) ≡ all → new ++ flat_map f (drop (i + 1) xs) ≡ all
flat_step f xs i x old new all is l e so =
    ap (λ z. z ++ flat_map f (drop (i + 1) xs)) e ∙ append_assoc old (f x) (flat_map f (drop (i + 1) xs)) ∙ ap (λ ys. old ++ flat_map f ys) (sym (left_at xs i x is l)) ∙ so

pub texts_step : (s : List Tree) (d : Driver) (tasks : List Task) (i : ℕ) (t : Task) (old new all : List ℕ) → t ≡ get_or tasks i t → i < length tasks
    → new ≡ old ++ part_text d (i + 1) (length tasks) (task_at s t)
    → old ++ texts_from d (i + 1) (length tasks) (tasks_at s (drop i tasks)) ≡ all
    → new ++ texts_from d (i + 1 + 1) (length tasks) (tasks_at s (drop (i + 1) tasks)) ≡ all
texts_step s d tasks i t old new all is l e so =
    let n = length tasks in
    let rest = texts_from d (i + 1 + 1) n (tasks_at s (drop (i + 1) tasks)) in
    ap (λ z. z ++ rest) e ∙ append_assoc old (part_text d (i + 1) n (task_at s t)) rest
    ∙ ap (λ (ts : List Task). old ++ texts_from d (i + 1) n (tasks_at s ts)) (sym (left_at tasks i t is l)) ∙ so

pub names_step : (s : List Tree) (d : Driver) (tasks : List Task) (i : ℕ) (t : Task) (symbols : List SymbolTree) (names : List NameEntry) (old new all : List ℕ) → t ≡ get_or tasks i t → i < length tasks
    → names ≡ (problem_of d (task_at s t)).names → symbols ≡ (task_at s t).symbols
    → new ≡ old ++ name_text (i + 1) (length tasks) symbols names
    → old ++ names_from d (i + 1) (length tasks) (tasks_at s (drop i tasks)) ≡ all
    → new ++ names_from d (i + 1 + 1) (length tasks) (tasks_at s (drop (i + 1) tasks)) ≡ all
names_step s d tasks i t symbols names old new all is l its their e so =
    let n = length tasks in
    let rest = names_from d (i + 1 + 1) n (tasks_at s (drop (i + 1) tasks)) in
    let own = name_text (i + 1) n (task_at s t).symbols (problem_of d (task_at s t)).names in
    let f : new ≡ old ++ own = e ∙ ap (λ (ks : List SymbolTree). old ++ name_text (i + 1) n ks names) their ∙ ap (λ (ns : List NameEntry). old ++ name_text (i + 1) n (task_at s t).symbols ns) its in
    ap (λ z. z ++ rest) f ∙ append_assoc old own rest
    ∙ ap (λ (ts : List Task). old ++ names_from d (i + 1) n (tasks_at s ts)) (sym (left_at tasks i t is l)) ∙ so

-- there are as many problems as tasks
pub as_many : (s : List Tree) (d : Driver) (tasks : List Task) (ps : List Problem) → AreProblems s d (tasks_at s tasks) ps → length ps ≡ length tasks
as_many s d tasks ps a = sym (length-map ps (problem_at s)) ∙ ap length a.are ∙ length-map (tasks_at s tasks) (problem_of d) ∙ length-map tasks (task_at s)

-- the problem at a place is that of the task there
pub problem_there : (s : List Tree) (d : Driver) (tasks : List Task) (ps : List Problem) (i : ℕ) (t : Task) (p : Problem) → AreProblems s d (tasks_at s tasks) ps
    → t ≡ get_or tasks i t → p ≡ get_or ps i p → i < length tasks → IsProblem s (problem_of d (task_at s t)) p
problem_there s d tasks ps i t p a t_is p_is l =
    let n : length ps ≡ length tasks = as_many s d tasks ps a in
    let m : i < length ps = omega (arith, n, l) in
    let k : i < length (tasks_at s tasks) = omega (arith, length-map tasks (task_at s), l) in
    let due = problem_of d (task_at s t) in
    let left : get_or (map (problem_at s) ps) i due ≡ problem_at s p = get_or-map (problem_at s) ps i p due m ∙ ap (problem_at s) (sym p_is) in
    let right : get_or (map (problem_of d) (tasks_at s tasks)) i due ≡ due =
    get_or-map (problem_of d) (tasks_at s tasks) i (task_at s t) due k ∙ ap (problem_of d) (get_or-map (task_at s) tasks i t (task_at s t) l ∙ ap (task_at s) (sym t_is)) in
    record {
      held = subst (λ (q : Problem). ProblemHeld s q) (sym p_is) (a.held i p m);
      is = sym left ∙ ap (λ (qs : List ProblemTree). get_or qs i due) a.are ∙ right;
    }

pub names_there : (s : List Tree) (d : Driver) (t : TaskTree) (p : Problem) → IsProblem s (problem_of d t) p → p.names ≡ (problem_of d t).names
names_there s d t p h = ap (λ (q : ProblemTree). q.names) h.is

-- one problem more
pub problems_more : (s : List Tree) (d : Driver) (tasks : List Task) (i : ℕ) (t : Task) (ps : List Problem) (p : Problem) → t ≡ get_or tasks i t → i < length tasks
    → IsProblem s (problem_of d (task_at s t)) p → map (problem_at s) ps ≡ map (problem_of d) (tasks_at s (take i tasks))
    → map (problem_at s) (ps ++ p ∷ []) ≡ map (problem_of d) (tasks_at s (take (i + 1) tasks))
problems_more s d tasks i t ps p is l h so =
    let front : take (i + 1) tasks ≡ take i tasks ++ t ∷ [] = take_more tasks i t l ∙ ap (λ z. take i tasks ++ z ∷ []) (sym is) in
    let here : tasks_at s (take (i + 1) tasks) ≡ tasks_at s (take i tasks) ++ task_at s t ∷ [] = ap (tasks_at s) front ∙ map-append (task_at s) (take i tasks) (t ∷ []) in
    map-append (problem_at s) ps (p ∷ []) ∙ ap (λ (qs : List ProblemTree). qs ++ problem_at s p ∷ []) so ∙ ap (λ (q : ProblemTree). map (problem_of d) (tasks_at s (take i tasks)) ++ q ∷ []) h.is
    ∙ sym (ap (map (problem_of d)) here ∙ map-append (problem_of d) (tasks_at s (take i tasks)) (task_at s t ∷ []))

pub fault_step : (s : List Tree) (d : Driver) (tasks : List Task) (i : ℕ) (t : Task) (all : Option PartFault) → t ≡ get_or tasks i t → i < length tasks → print_fault d (task_at s t) ≡ None
    → first_fault d (i + 1) (tasks_at s (drop i tasks)) ≡ all → first_fault d (i + 1 + 1) (tasks_at s (drop (i + 1) tasks)) ≡ all
fault_step s d tasks i t all is l none so =
    let rest = first_fault d (i + 1 + 1) (tasks_at s (drop (i + 1) tasks)) in
    let here : first_fault d (i + 1) (tasks_at s (drop i tasks)) ≡ or_later (part_fault_at (i + 1) (print_fault d (task_at s t))) rest = ap (λ (ts : List Task). first_fault d (i + 1) (tasks_at s ts)) (left_at tasks i t is l) in
    sym (here ∙ ap (λ (f : Option PrintFault). or_later (part_fault_at (i + 1) f) rest) none) ∙ so

pub fault_first : (due later : Option PartFault) (e : PartFault) → IsPartFault due e → IsPartFault (or_later due later) e
fault_first None later part_fault.Memory h = tt
fault_first None later (part_fault.Polymorphic part decl) h = absurd (cc)
fault_first None later (part_fault.Unprintable part decl) h = absurd (cc)
fault_first None later (part_fault.NoSyntax part symbol) h = absurd (cc)
fault_first (Some f) later e h = h

pub fault_here : (s : List Tree) (d : Driver) (tasks : List Task) (i : ℕ) (t : Task) (all : Option PartFault) (e : PartFault) → t ≡ get_or tasks i t → i < length tasks
    → IsPartFault (part_fault_at (i + 1) (print_fault d (task_at s t))) e → first_fault d (i + 1) (tasks_at s (drop i tasks)) ≡ all → IsPartFault all e
fault_here s d tasks i t all e is l f so =
    let rest = first_fault d (i + 1 + 1) (tasks_at s (drop (i + 1) tasks)) in
    let here : first_fault d (i + 1) (tasks_at s (drop i tasks)) ≡ or_later (part_fault_at (i + 1) (print_fault d (task_at s t))) rest = ap (λ (ts : List Task). first_fault d (i + 1) (tasks_at s ts)) (left_at tasks i t is l) in
    subst (λ (o : Option PartFault). IsPartFault o e) (sym here ∙ so) (fault_first (part_fault_at (i + 1) (print_fault d (task_at s t))) rest e f)

-- the symbol of an entry
pub symbol_there : (s : List Tree) (infos : List SymbolInfo) (k : ℕ) (x : SymbolInfo) → x ≡ get_or infos k x → k < length infos → symbol_or (symbols_at s infos) k ≡ symbol_at s x
symbol_there s infos k x is l = get_or-map (symbol_at s) infos k x int_symbol l ∙ ap (symbol_at s) (sym is)

pub symbol_past : (s : List Tree) (infos : List SymbolInfo) (k : ℕ) → length infos ≤ k → symbol_or (symbols_at s infos) k ≡ int_symbol
symbol_past s infos k l = get_or_past (symbols_at s infos) k int_symbol (omega (arith, length-map infos (symbol_at s), l))

pub flat_done : {X : Type 0} (f : X → List ℕ) (xs : List X) (i : ℕ) (old head following out : List ℕ) → length xs ≤ i → following ≡ old ++ head → out ++ flat_map f (drop i xs) ≡ following ++ flat_map f xs
    → out ≡ old ++ (head ++ flat_map f xs)
flat_done f xs i old head following out l e so =
    let none : out ++ flat_map f (drop i xs) ≡ out = ap (λ ys. out ++ flat_map f ys) (drop_all i xs l) ∙ append-nil out in
    sym none ∙ so ∙ ap (λ z. z ++ flat_map f xs) e ∙ append_assoc old head (flat_map f xs)
