-- The text of a problem by lines of expressions, and what a reader makes of these.
use Rattle.std.proofs.Common.{◌≡◌, ℕ, ◌+◌, ◌≤◌, ◌^◌, List, [], ◌∷◌, ◌++◌, map, length, codes, flat_map, refl, ap, ◌∙◌, arith, inr}
use Rattle.tasks.specs.trees.Tree.{Tree}
use Rattle.printed_problems.specs.drivers.driver_items.Syntaxes.{syntax_of}
use Rattle.printed_problems.specs.drivers.declared.driver_items.kinds.Syntax.TheVariants.{Smt}
use Rattle.printed_problems.specs.drivers.declared.driver_parts.driver.Driver.{Driver}
use Rattle.tasks.specs.Task.{TaskTree}
use Rattle.name_tables.specs.Tables.{problem_names}
use Rattle.printed_problems.specs.Problems.{problem_of}
use Rattle.printed_problems.specs.printed_terms.Texts.{formula_text, sort_text}
use Rattle.part_texts.specs.smt_texts.Text.{smt_parameter_line, smt_parameter_lines, smt_goal_line}
use Rattle.part_texts.specs.smt_texts.Text as text
use Rattle.part_texts.specs.smt_law.s_expressions.Sexps.{Sexp, write_sexp, lines, IsWord, IsOne, AllOne}
use Rattle.part_texts.specs.smt_law.Plain.{Words, ArePlain}
use Rattle.part_texts.specs.smt_law.Reading.{tree_as_read}
use Rattle.part_texts.specs.smt_law.Law.{IsPrinted}
use Rattle.part_texts.proofs.smt_law.Forms.{Known}
use Rattle.part_texts.proofs.smt_law.Back.{type_called, back}
use Rattle.part_texts.proofs.smt_law.Words.{parameter_word}
use Rattle.part_texts.proofs.smt_law.Found.{IsReader, sort_is}
use Rattle.part_texts.proofs.smt_law.Formulas.{told}
use Rattle.part_texts.proofs.smt_law.Tables.{known, reader}
use Rattle.tasks.proofs.Ground.{above_ground}
use Rattle.part_texts.proofs.smt_law.Sound.{EachOf, each_one, IsSound, IsSoundType, premises_sound, goal_sound, types_sound}
use Rattle.part_texts.proofs.smt_law.Commands.{formula_read, type_word, parameter_commands, assertions, ending, commands, parameter_line_is, assertion_is, goal_is}

-- a formula that is read again, and a type whose sort is
pub record IsTold (c : Known) (e : Tree) : Type 0 where
  pub text : formula_text c.printing e ≡ write_sexp (formula_read c e)
  pub proper : IsOne (formula_read c e)
  pub back : (back c (formula_read c e)).one [] ≡ tree_as_read e

pub record IsToldType (c : Known) (e : Tree) : Type 0 where
  pub text : sort_text c.printing e ≡ type_word c e
  pub proper : IsWord (type_word c e)
  pub back : type_called c (type_word c e) ≡ e

module _ (c : Known) where
  -- ---- lines
  pub parameter_lines_are : (n : ℕ) (es : List Tree) → EachOf (IsToldType c) es → smt_parameter_lines c.printing n es ≡ lines (parameter_commands c n es)
  parameter_lines_are n [] t = refl
  parameter_lines_are n (e ∷ es) t =
      (λ i. smt_parameter_line n (t.0.text i) ++ parameter_lines_are (n + 1) es t.1 i) ∙ ap (λ z. z ++ lines (parameter_commands c (n + 1) es)) (parameter_line_is n (type_word c e))

  pub assertions_are : (es : List Tree) → EachOf (IsTold c) es → flat_map (text.assertion c.printing) es ≡ lines (assertions c es)
  assertions_are [] t = refl
  assertions_are (e ∷ es) t =
      (λ i. (codes "(assert " ++ t.0.text i ++ codes ")\n") ++ assertions_are es t.1 i) ∙ ap (λ z. z ++ lines (assertions c es)) (assertion_is (formula_read c e))

  pub ending_is : (goal : Tree) → IsTold c goal → smt_goal_line c.printing goal ++ codes "(check-sat)\n" ≡ lines (ending c goal)
  ending_is goal t = ap (λ z. (codes "(assert (not " ++ z ++ codes "))\n") ++ codes "(check-sat)\n") t.text ∙ ap (λ z. z ++ codes "(check-sat)\n") (goal_is (formula_read c goal))

  -- ---- each is an expression
  all_join : (ss us : List Sexp) → AllOne ss → AllOne us → AllOne (ss ++ us)
  all_join [] us a b = b
  all_join (s ∷ ss) us a b = (a.0, all_join ss us a.1 b)

  pub parameters_proper : (n : ℕ) (es : List Tree) → n + length es ≤ 2 ^ 64 → EachOf (IsToldType c) es → AllOne (parameter_commands c n es)
  parameters_proper n [] l t = tt
  parameters_proper n (e ∷ es) l t =
      ((record { some = omega arith; whole = refl }, ((parameter_word n (omega (arith, l))).proper, (tt, (t.0.proper, tt)))), parameters_proper (n + 1) es (omega (arith, l)) t.1)

  pub assertions_proper : (es : List Tree) → EachOf (IsTold c) es → AllOne (assertions c es)
  assertions_proper [] t = tt
  assertions_proper (e ∷ es) t = ((record { some = omega arith; whole = refl }, (t.0.proper, tt)), assertions_proper es t.1)

  pub ending_proper : (goal : Tree) → IsTold c goal → AllOne (ending c goal)
  ending_proper goal t = (
    (record { some = omega arith; whole = refl }, ((record { some = omega arith; whole = refl }, (t.proper, tt)), tt)),
    ((record { some = omega arith; whole = refl }, tt), tt),
  )

  pub commands_proper : (params premises : List Tree) (goal : Tree) → length params ≤ 2 ^ 64 → EachOf (IsToldType c) params → EachOf (IsTold c) premises → IsTold c goal → AllOne (commands c params premises goal)
  commands_proper params premises goal l a b g =
      all_join (parameter_commands c 0 params) (assertions c premises ++ ending c goal) (parameters_proper 0 params (omega (arith, l)) a)
      (all_join (assertions c premises) (ending c goal) (assertions_proper premises b) (ending_proper goal g))

  -- ---- what is read again
  pub premises_back : (es : List Tree) → EachOf (IsTold c) es → map (λ s. (back c s).one []) (map (formula_read c) es) ≡ map tree_as_read es
  premises_back [] t = refl
  premises_back (e ∷ es) t = (λ i. t.0.back i ∷ premises_back es t.1 i)

  pub types_back : (es : List Tree) → EachOf (IsToldType c) es → map (type_called c) (map (type_word c) es) ≡ es
  types_back [] t = refl
  types_back (e ∷ es) t = (λ i. t.0.back i ∷ types_back es t.1 i)

-- ---- the problem of a task
module _ (d : Driver) (words : Words) (t : TaskTree) (smt : syntax_of d.printer ≡ Smt) (plain : ArePlain d t.symbols (problem_names t) words) (p : IsPrinted d t) where
  abbrev pub knows : Known
  knows = known d words t

  reads : IsReader knows
  reads = reader d words t smt plain p

  formula_told : (e : Tree) → IsSound d words t smt p e → IsTold knows e
  formula_told e s =
      let x = told knows reads 0 [] e s.input in
      let o = x.one (inr s.sort) in
      record { text = x.text.text; proper = o.proper; back = o.back }

  type_told : (e : Tree) → IsSoundType d words t smt p e → IsToldType knows e
  type_told e s =
      let v = s.valid in
      let x = sort_is knows reads [] e v.typed v.sort (above_ground e v.variables) s.there in
      record { text = x.text; proper = x.free.proper; back = x.told }

  pub premises_told : EachOf (IsTold knows) ((problem_of d t).facts ++ (problem_of d t).locals)
  premises_told = each_one (IsSound d words t smt p) (IsTold knows) formula_told ((problem_of d t).facts ++ (problem_of d t).locals) (premises_sound d words t smt p)

  pub goal_told : IsTold knows t.goal
  goal_told = formula_told t.goal (goal_sound d words t smt p)

  pub types_told : EachOf (IsToldType knows) t.params
  types_told = each_one (IsSoundType d words t smt p) (IsToldType knows) type_told t.params (types_sound d words t smt p)
