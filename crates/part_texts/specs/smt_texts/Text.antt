-- The text of the problem of a task in SMT-LIB 2.6 (section 3.9), as part k of n: the driver's
-- preludes, the types and the symbols that are declared, the parameters, an assertion for each fact
-- and each local, and the negated goal.
use Rattle.std.specs.Prelude.{ℕ, ◌+◌, List, [], ◌∷◌, ◌++◌, slice_get, codes, Option, Some, None}
use Rattle.std.specs.Fmt.{decimal}
use Rattle.std.specs.List.{flat_map}
use Rattle.trees.specs.Tree.{Tree}
use Rattle.tasks.specs.Task.{SymbolTree, TaskTree}
use Rattle.name_tables.specs.declared.name_entries.names.NameEntry.{NameEntry}
use Rattle.drivers.specs.declared.driver_parts.driver.Driver.{Driver}
use Rattle.printed_problems.specs.Problems.{ProblemTree}
use Rattle.printed_problems.specs.printed_terms.Texts.{Printing, name_at, joined, sort_text, formula_text, parameter}
use Rattle.printed_problems.specs.printed_terms.Ranks.{sort_at, rank_of, sorts_at}
use Rattle.printed_problems.specs.printed_terms.Problems.{printing_of, line}
use Rattle.printed_problems.specs.declared.printed_terms.ranks.Rank.{Rank}

abbrev pub smt_head_line : ℕ → ℕ → List ℕ
smt_head_line k n = codes "; " ++ decimal k ++ codes " of " ++ decimal n ++ codes "\n"

abbrev pub smt_sort_line : Printing → ℕ → List ℕ
smt_sort_line p place = codes "(declare-sort " ++ name_at p place ++ codes " 0)\n"

abbrev pub function_line : List ℕ → List (List ℕ) → List ℕ → List ℕ
function_line name args result =
    codes "(declare-fun " ++ name ++ codes " (" ++ joined (codes " ") args ++ codes ") " ++ result
    ++ codes ")\n"

-- the sort of a result, which is `Bool` of a predicate
abbrev pub smt_result_text : Printing → Option ℕ → List ℕ
smt_result_text p None = codes "Bool"
smt_result_text p (Some place) = sort_at p place

abbrev pub smt_rank_line : Printing → List ℕ → Rank → List ℕ
smt_rank_line p name r = function_line name (sorts_at p r.args) (smt_result_text p r.result)

abbrev pub smt_entry_line : Printing → List SymbolTree → Option NameEntry → List ℕ
smt_entry_line p symbols None = []
smt_entry_line p symbols (Some e) = smt_rank_line p e.name (rank_of p.names symbols e)

-- what is at a place of the table
abbrev pub smt_symbol_line : Printing → List SymbolTree → ℕ → List ℕ
smt_symbol_line p symbols place = smt_entry_line p symbols (slice_get p.names place)

abbrev pub smt_parameter_line : ℕ → List ℕ → List ℕ
smt_parameter_line n sort =
    codes "(declare-fun " ++ parameter n ++ codes " () " ++ sort ++ codes ")\n"

-- those of parameters, counted from a number on
abbrev pub smt_parameter_lines : Printing → ℕ → List Tree → List ℕ
smt_parameter_lines p n [] = []
smt_parameter_lines p n (type ∷ types) =
    smt_parameter_line n (sort_text p type) ++ smt_parameter_lines p (n + 1) types

abbrev pub assertion : Printing → Tree → List ℕ
assertion p e = codes "(assert " ++ formula_text p e ++ codes ")\n"

abbrev pub smt_goal_line : Printing → Tree → List ℕ
smt_goal_line p e = codes "(assert (not " ++ formula_text p e ++ codes "))\n"

abbrev pub smt_text_by : Printing → TaskTree → ProblemTree → ℕ → ℕ → List ℕ
smt_text_by p t q k n =
    smt_head_line k n ++ flat_map line q.preludes
    ++ flat_map (smt_sort_line p) q.sorts ++ flat_map (smt_symbol_line p t.symbols) q.symbols
    ++ smt_parameter_lines p 0 t.params
    ++ flat_map (assertion p) q.facts ++ flat_map (assertion p) q.locals ++ smt_goal_line p q.goal
    ++ codes "(check-sat)\n"

abbrev pub smt_text : Driver → TaskTree → ProblemTree → ℕ → ℕ → List ℕ
smt_text d t q k n = smt_text_by (printing_of d t q) t q k n
