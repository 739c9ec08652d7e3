-- The text of the problem of a task in TPTP TFF0, as part k of n: the driver's preludes, the types
-- and the symbols that are declared, the parameters, an axiom for each fact and each local, counted
-- through, and the goal as the conjecture.
use Rattle.std.specs.Prelude.{ℕ, ◌+◌, List, [], ◌∷◌, ◌++◌, slice_get, codes, Option, Some, None}
use Rattle.std.specs.Fmt.{decimal}
use Rattle.std.specs.List.{flat_map}
use Rattle.trees.specs.Tree.{Tree}
use Rattle.tasks.specs.Task.{SymbolTree, TaskTree}
use Rattle.name_tables.specs.declared.name_entries.names.NameEntry.{NameEntry}
use Rattle.drivers.specs.declared.driver_parts.driver.Driver.{Driver}
use Rattle.printed_problems.specs.Problems.{ProblemTree}
use Rattle.printed_problems.specs.printed_terms.Texts.{Printing, name_at, joined, sort_text, formula_text, parameter}
use Rattle.printed_problems.specs.printed_terms.Ranks.{sort_at, rank_of, sorts_at}
use Rattle.printed_problems.specs.declared.printed_terms.ranks.Rank.{Rank}
use Rattle.printed_problems.specs.printed_terms.Problems.{printing_of, line}

abbrev pub tff_head_line : ℕ → ℕ → List ℕ
tff_head_line k n = codes "% " ++ decimal k ++ codes " of " ++ decimal n ++ codes "\n"

-- the begin of the line that tells the type of a name
abbrev pub tff_typed : List ℕ → List ℕ
tff_typed name = codes "tff(" ++ name ++ codes ", type, " ++ name ++ codes ": "

abbrev pub tff_sort_line : Printing → ℕ → List ℕ
tff_sort_line p place = tff_typed (name_at p place) ++ codes "$tType).\n"

-- the types of the arguments before that of the result
abbrev pub arguments_text : List (List ℕ) → List ℕ
arguments_text [] = []
arguments_text (a ∷ []) = a ++ codes " > "
arguments_text (a ∷ b ∷ more) = codes "(" ++ joined (codes " * ") (a ∷ b ∷ more) ++ codes ") > "

-- the type of a result, which is `$o` of a predicate
abbrev pub tff_result_text : Printing → Option ℕ → List ℕ
tff_result_text p None = codes "$o"
tff_result_text p (Some place) = sort_at p place

abbrev pub tff_rank_line : Printing → List ℕ → Rank → List ℕ
tff_rank_line p name r = tff_typed name ++ arguments_text (sorts_at p r.args)
    ++ tff_result_text p r.result ++ codes ").\n"

abbrev pub tff_entry_line : Printing → List SymbolTree → Option NameEntry → List ℕ
tff_entry_line p symbols None = []
tff_entry_line p symbols (Some e) = tff_rank_line p e.name (rank_of p.names symbols e)

-- what is at a place of the table
abbrev pub tff_symbol_line : Printing → List SymbolTree → ℕ → List ℕ
tff_symbol_line p symbols place = tff_entry_line p symbols (slice_get p.names place)

abbrev pub tff_parameter_line : ℕ → List ℕ → List ℕ
tff_parameter_line n sort = tff_typed (parameter n) ++ sort ++ codes ").\n"

-- those of parameters, counted from a number on
abbrev pub tff_parameter_lines : Printing → ℕ → List Tree → List ℕ
tff_parameter_lines p n [] = []
tff_parameter_lines p n (type ∷ types) =
    tff_parameter_line n (sort_text p type) ++ tff_parameter_lines p (n + 1) types

abbrev pub axiom_line : Printing → ℕ → Tree → List ℕ
axiom_line p n e =
    codes "tff(ax_" ++ decimal n ++ codes ", axiom, " ++ formula_text p e ++ codes ").\n"

-- those of formulas, counted from a number on
abbrev pub axiom_lines : Printing → ℕ → List Tree → List ℕ
axiom_lines p n [] = []
axiom_lines p n (e ∷ es) = axiom_line p n e ++ axiom_lines p (n + 1) es

abbrev pub tff_goal_line : Printing → Tree → List ℕ
tff_goal_line p e = codes "tff(goal, conjecture, " ++ formula_text p e ++ codes ").\n"

abbrev pub tff_text_by : Printing → TaskTree → ProblemTree → ℕ → ℕ → List ℕ
tff_text_by p t q k n =
    tff_head_line k n ++ flat_map line q.preludes
    ++ flat_map (tff_sort_line p) q.sorts ++ flat_map (tff_symbol_line p t.symbols) q.symbols
    ++ tff_parameter_lines p 0 t.params
    ++ axiom_lines p 0 (q.facts ++ q.locals) ++ tff_goal_line p q.goal

abbrev pub tff_text : Driver → TaskTree → ProblemTree → ℕ → ℕ → List ℕ
tff_text d t q k n = tff_text_by (printing_of d t q) t q k n
