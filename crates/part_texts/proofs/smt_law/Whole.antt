-- The law of texts.
use Rattle.std.proofs.Common.{◌≡◌, ℕ, false, subst, List, [], ◌∷◌, ◌++◌, map, drop, codes, flat_map, Option, sym, ap, ◌∙◌, append_assoc}
use Rattle.std.proofs.lemmas.List.Concat.{flat_map-append}
use Rattle.tasks.specs.trees.Tree.{Tree, Leaf, HEnd}
use Rattle.tasks.specs.trees.declared.ints.Ints.{Ints}
use Rattle.printed_problems.specs.drivers.driver_items.Syntaxes.{syntax_of}
use Rattle.printed_problems.specs.drivers.declared.driver_items.kinds.Syntax.TheVariants.{Smt}
use Rattle.printed_problems.specs.drivers.declared.driver_parts.driver.Driver.{Driver}
use Rattle.tasks.specs.Task.{SymbolTree, TaskTree}
use Rattle.tasks.specs.Vocabulary.{Vocabulary}
use Rattle.name_tables.specs.declared.name_entries.names.NameEntry.{NameEntry}
use Rattle.name_tables.specs.Occurrences.{Occurrence}
use Rattle.name_tables.specs.Tables.{problem_things, problem_names}
use Rattle.printed_problems.specs.Problems.{is_sort, is_declared_symbol, places_from, preludes, problem_of}
use Rattle.printed_problems.specs.printed_terms.Texts.{Printing}
use Rattle.printed_problems.specs.printed_terms.Problems.{line, printing_of}
use Rattle.part_texts.specs.smt_texts.Text.{smt_head_line, smt_sort_line, smt_symbol_line, smt_parameter_lines, smt_goal_line, smt_text}
use Rattle.part_texts.specs.smt_texts.Text as text
use Rattle.part_texts.specs.smt_law.s_expressions.Sexps.{Sexp, lines, AllOne}
use Rattle.part_texts.proofs.smt_law.s_expressions.Lines.{same_lines}
use Rattle.part_texts.specs.smt_law.Plain.{Words, ArePlain}
use Rattle.part_texts.specs.smt_law.Law.{IsPrinted, AreAlike, TellTheSame, LawOfTexts}
use Rattle.part_texts.proofs.smt_law.Forms.{Known}
use Rattle.part_texts.proofs.smt_law.Back.{type_called, back}
use Rattle.part_texts.proofs.smt_law.Tables.{known}
use Rattle.part_texts.proofs.smt_law.Commands.{type_word, parameter_commands, assertions, ending, commands, lines_join}
use Rattle.part_texts.proofs.smt_law.Same.{same_premises, same_goal, same_sorts}
use Rattle.part_texts.proofs.smt_law.Telling.{parameter_lines_are, assertions_are, ending_is, commands_proper, premises_back, types_back, premises_told, goal_told, types_told}

-- ---- lists
cancel : (xs ys zs : List ℕ) → xs ++ ys ≡ xs ++ zs → ys ≡ zs
cancel [] ys zs h = h
cancel (x ∷ xs) ys zs h = cancel xs ys zs (ap (drop 1) h)

regroup : (p a f o g k : List ℕ) → ((((p ++ a) ++ f) ++ o) ++ g) ++ k ≡ p ++ (a ++ ((f ++ o) ++ (g ++ k)))
regroup p a f o g k =
    append_assoc (((p ++ a) ++ f) ++ o) g k ∙ append_assoc ((p ++ a) ++ f) o (g ++ k) ∙ append_assoc (p ++ a) f (o ++ (g ++ k)) ∙ append_assoc p a (f ++ (o ++ (g ++ k)))
    ∙ ap (λ z. p ++ (a ++ z)) (sym (append_assoc f o (g ++ k)))

-- ---- what is before the parameters depends on the table, the preludes and the part alone
abbrev task_like : List SymbolTree → Option Ints → TaskTree
task_like symbols ints = record { symbols = symbols; ints = ints; rigid = []; decls = []; params = []; locals = []; goal = Leaf HEnd }

abbrev printing : Driver → List Occurrence → List NameEntry → Printing
printing d things names = record { driver = d; things = things; names = names }

abbrev front : Driver → ℕ → ℕ → List (List ℕ) → List Occurrence → List NameEntry → List SymbolTree → Option Ints → List ℕ
front d k n texts things names symbols ints =
    smt_head_line k n ++ flat_map line texts ++ flat_map (smt_sort_line (printing d things names)) (places_from (is_sort d (task_like symbols ints)) 0 things)
    ++ flat_map (smt_symbol_line (printing d things names) symbols) (places_from (is_declared_symbol d (task_like symbols ints)) 0 things)

abbrev front_of : Driver → ℕ → ℕ → TaskTree → List ℕ
front_of d k n t = front d k n (preludes d t) (problem_things t) (problem_names t) t.symbols t.ints

same_front : (d : Driver) (k n : ℕ) (t u : TaskTree) → AreAlike d t u → front_of d k n t ≡ front_of d k n u
same_front d k n t u a = λ i. front d k n (a.preludes i) (a.things i) (a.names i) (a.symbols i) (a.ints i)

-- ---- what a reader makes of expressions depends on the table and the signature alone
abbrev silent : List SymbolTree → Vocabulary
silent symbols = record { symbols = symbols; rigid = (λ _. false); usable = (λ _. false); matched = (λ _. false) }

abbrev reader_of : Driver → Words → List Occurrence → List NameEntry → List SymbolTree → List Tree → Known
reader_of d words things names symbols params = record { printing = printing d things names; words = words; vocabulary = silent symbols; params = params }

abbrev back_of : Driver → Words → List Occurrence → List NameEntry → List SymbolTree → List Tree → Sexp → Tree
back_of d words things names symbols params s = (back (reader_of d words things names symbols params) s).one []

abbrev type_of_word : Driver → Words → List Occurrence → List NameEntry → List SymbolTree → List ℕ → Tree
type_of_word d words things names symbols w = type_called (reader_of d words things names symbols []) w

-- ---- the text of one problem
abbrev premises_of : Driver → TaskTree → List Tree
premises_of d t = (problem_of d t).facts ++ (problem_of d t).locals

abbrev commands_of : Driver → Words → TaskTree → List Sexp
commands_of d words t = commands (known d words t) t.params (premises_of d t) t.goal

module _ (d : Driver) (words : Words) (t : TaskTree) (smt : syntax_of d.printer ≡ Smt) (plain : ArePlain d t.symbols (problem_names t) words) (p : IsPrinted d t) where
  text_is : (k n : ℕ) → smt_text d t (problem_of d t) k n ≡ front_of d k n t ++ lines (commands_of d words t)
  text_is k n =
      let c = known d words t in
      let facts = (problem_of d t).facts in
      let prints = printing_of d t (problem_of d t) in
      let said : flat_map (text.assertion prints) facts ++ flat_map (text.assertion prints) t.locals ≡ lines (assertions c (premises_of d t)) =
      sym (flat_map-append (text.assertion prints) facts t.locals) ∙ assertions_are c (premises_of d t) (premises_told d words t smt plain p) in
      let all : lines (commands_of d words t) ≡ lines (parameter_commands c 0 t.params) ++ (lines (assertions c (premises_of d t)) ++ lines (ending c t.goal)) =
      lines_join (parameter_commands c 0 t.params) (assertions c (premises_of d t) ++ ending c t.goal) ∙ ap (λ z. lines (parameter_commands c 0 t.params) ++ z) (lines_join (assertions c (premises_of d t)) (ending c t.goal)) in
      regroup (front_of d k n t) (smt_parameter_lines prints 0 t.params) (flat_map (text.assertion prints) facts) (flat_map (text.assertion prints) t.locals) (smt_goal_line prints t.goal) (codes "(check-sat)\n")
      ∙ (λ i. front_of d k n t ++ (parameter_lines_are c 0 t.params (types_told d words t smt plain p) i ++ (said i ++ ending_is c t.goal (goal_told d words t smt plain p) i)))
      ∙ ap (λ z. front_of d k n t ++ z) (sym all)

  proper : AllOne (commands_of d words t)
  proper = commands_proper (known d words t) t.params (premises_of d t) t.goal p.params (types_told d words t smt plain p) (premises_told d words t smt plain p) (goal_told d words t smt plain p)

-- ---- two problems
module _ (d : Driver) (words : Words) (t u : TaskTree) (k n : ℕ) (smt : syntax_of d.printer ≡ Smt) (plain : ArePlain d t.symbols (problem_names t) words) (p : IsPrinted d t) (q : IsPrinted d u) (a : AreAlike d t u)
    (same : smt_text d t (problem_of d t) k n ≡ smt_text d u (problem_of d u) k n) where
  plain_too : ArePlain d u.symbols (problem_names u) words
  plain_too = subst (λ (s : List SymbolTree). ArePlain d s (problem_names u) words) a.symbols (subst (λ (ns : List NameEntry). ArePlain d t.symbols ns words) a.names plain)

  same_commands : commands_of d words t ≡ commands_of d words u
  same_commands =
      same_lines (commands_of d words t) (commands_of d words u) (proper d words t smt plain p) (proper d words u smt plain_too q)
      (cancel (front_of d k n t) (lines (commands_of d words t)) (lines (commands_of d words u))
      (sym (text_is d words t smt plain p k n) ∙ same ∙ text_is d words u smt plain_too q k n ∙ ap (λ z. z ++ lines (commands_of d words u)) (sym (same_front d k n t u a))))

  sorts : map (type_word (known d words t)) t.params ≡ map (type_word (known d words u)) u.params
  sorts = same_sorts (known d words t) (known d words u) t.params (premises_of d t) t.goal u.params (premises_of d u) u.goal same_commands

  same_params : t.params ≡ u.params
  same_params =
      sym (types_back (known d words t) t.params (types_told d words t smt plain p))
      ∙ (λ i. map (type_of_word d words (a.things i) (a.names i) (a.symbols i)) (sorts i))
      ∙ types_back (known d words u) u.params (types_told d words u smt plain_too q)

  pub tell : TellTheSame d t u
  tell = record {
    premises =
        sym (premises_back (known d words t) (premises_of d t) (premises_told d words t smt plain p))
        ∙ (λ i. map (back_of d words (a.things i) (a.names i) (a.symbols i) (same_params i)) (same_premises (known d words t) (known d words u) t.params (premises_of d t) t.goal u.params (premises_of d u) u.goal same_commands i))
        ∙ premises_back (known d words u) (premises_of d u) (premises_told d words u smt plain_too q);
    goal =
        sym (goal_told d words t smt plain p).back
        ∙ (λ i. back_of d words (a.things i) (a.names i) (a.symbols i) (same_params i) (same_goal (known d words t) (known d words u) t.params (premises_of d t) t.goal u.params (premises_of d u) u.goal same_commands i))
        ∙ (goal_told d words u smt plain_too q).back;
  }

pub law : LawOfTexts
law d words t u k n smt plain p q a same = tell d words t u k n smt plain p q a same
