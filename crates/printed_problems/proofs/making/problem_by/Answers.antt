use Rattle.std.proofs.Common.{List, All, map, ap, refl, subst, sym, ◌∙◌}
use Rattle.trees.specs.declared.TermId.{TermId}
use Rattle.trees.specs.Node.{Holds}
use Rattle.tasks.specs.declared.declaration.Decl.{Decl}
use Rattle.tasks.specs.Task.{props_of}
use Rattle.tasks.specs.Meaning.{trees_at, declarations_at, task_at}
use Rattle.name_tables.specs.Tables.{names_of}
use Rattle.name_tables.specs.Seen.{seen_occurrences}
use Rattle.printed_problems.specs.Problems.{is_sort, is_declared_symbol, places_from, formula_of}
use Rattle.printed_problems.specs.declared.fault.PrintFault.TheVariants.{Memory}
use Rattle.printed_problems.proofs.First.{meets_fault}
use Rattle.printed_problems.proofs.making.problem_by.Goals as goal
use Rattle.tasks.proofs.outside.Passed.{no_value}

pub returns : goal.returns
returns c =
    let s = c.args.store.now in
    let d = c.args.driver.now in
    let t = task_at s c.args.task.now in
    let os = seen_occurrences s c.args.things.now in
    let things = c.requires.things in
    let names = c.from_vec.ensures ∙ c.in_ok-names.ensures.names ∙ ap (names_of t) things in
    let sorts = c.from_vec-2.ensures ∙ c.in_ok-sorts.ensures s ∙ ap (places_from (is_sort d t) 0) things in
    let symbols = c.from_vec-3.ensures ∙ c.in_ok-symbols.ensures s ∙ ap (places_from (is_declared_symbol d t) 0) things in
    let facts = c.in_ok-facts.ensures.are ∙ ap (λ (z : List Decl). map formula_of (props_of (declarations_at s z))) c.as_slice.ensures in
    let same = c.in_ok-locals.ensures ∙ c.as_slice-2.ensures in
    record {
      problem = (λ i. record {
        names = names i;
        preludes = c.in_ok-preludes.ensures s i;
        sorts = sorts i;
        symbols = symbols i;
        facts = facts i;
        locals = trees_at s (same i);
        goal = t.goal;
      });
      held = record {
        facts = c.in_ok-facts.ensures.held;
        locals = subst (λ (z : List TermId). All (Holds s) z) (sym same) c.requires.held.locals;
        goal = c.requires.held.goal;
      };
      memory = refl;
    }

pub returns-in_err-symbols : goal.returns-in_err-symbols
returns-in_err-symbols c =
    let r = c.from_residual in
    record { problem = no_value _ _ r.result r.ensures.1; held = no_value _ _ r.result r.ensures.1; memory = meets_fault r.result _ Memory r.ensures.1 tt }

pub returns-in_err-sorts : goal.returns-in_err-sorts
returns-in_err-sorts c =
    let r = c.from_residual-in_err-sorts in
    record { problem = no_value _ _ r.result r.ensures.1; held = no_value _ _ r.result r.ensures.1; memory = meets_fault r.result _ Memory r.ensures.1 tt }

pub returns-in_err-facts : goal.returns-in_err-facts
returns-in_err-facts c =
    let r = c.from_residual-in_err-facts in
    record { problem = no_value _ _ r.result r.ensures.1; held = no_value _ _ r.result r.ensures.1; memory = meets_fault r.result _ Memory r.ensures.1 tt }

pub returns-in_err-locals : goal.returns-in_err-locals
returns-in_err-locals c =
    let r = c.from_residual-in_err-locals in
    record { problem = no_value _ _ r.result r.ensures.1; held = no_value _ _ r.result r.ensures.1; memory = meets_fault r.result _ Memory r.ensures.1 tt }

pub returns-in_err-names : goal.returns-in_err-names
returns-in_err-names c =
    let r = c.from_residual-in_err-names in
    record { problem = no_value _ _ r.result r.ensures.1; held = no_value _ _ r.result r.ensures.1; memory = meets_fault r.result _ Memory r.ensures.1 tt }

pub returns-in_err-preludes : goal.returns-in_err-preludes
returns-in_err-preludes c =
    let r = c.from_residual-in_err-preludes in
    record { problem = no_value _ _ r.result r.ensures.1; held = no_value _ _ r.result r.ensures.1; memory = meets_fault r.result _ Memory r.ensures.1 tt }
