-- Texts that grow piece by piece.
use Rattle.std.proofs.Common.{◌≡◌, ℕ, ◌+◌, ◌<◌, List, ◌++◌, length, get_or, drop, sym, ap, ◌∙◌, append_assoc}
use Rattle.std.proofs.lemmas.List.{drop_more}
use Rattle.trees.specs.declared.TermId.{TermId}
use Rattle.trees.specs.Tree.{Tree}
use Rattle.trees.specs.Node.{tree_at}
use Rattle.tasks.specs.Meaning.{trees_at}
use Rattle.printed_problems.specs.printed_terms.Texts.{Printing, sort_text}
use Rattle.part_texts.specs.tff_texts.Text.{tff_parameter_line, tff_parameter_lines, axiom_line, axiom_lines}
pub use Rattle.part_texts.proofs.smt_texts.Joins.{last_piece}

pub parameter_step : (p : Printing) (s : List Tree) (ids : List TermId) (i : ℕ) (d : TermId) (old new all : List ℕ) → i < length ids → new ≡ old ++ tff_parameter_line i (sort_text p (tree_at s (get_or ids i d)))
    → old ++ tff_parameter_lines p i (trees_at s (drop i ids)) ≡ all → new ++ tff_parameter_lines p (i + 1) (trees_at s (drop (i + 1) ids)) ≡ all
parameter_step p s ids i d old new all h e so =
    let rest = tff_parameter_lines p (i + 1) (trees_at s (drop (i + 1) ids)) in
    ap (λ z. z ++ rest) e ∙ append_assoc old (tff_parameter_line i (sort_text p (tree_at s (get_or ids i d)))) rest ∙ ap (λ z. old ++ z) (ap (λ (z : List TermId). tff_parameter_lines p i (trees_at s z)) (sym (drop_more ids i d h))) ∙ so

pub axiom_step : (p : Printing) (s : List Tree) (ids : List TermId) (i : ℕ) (d : TermId) (old new all : List ℕ) → i < length ids → new ≡ old ++ axiom_line p i (tree_at s (get_or ids i d))
    → old ++ axiom_lines p i (trees_at s (drop i ids)) ≡ all → new ++ axiom_lines p (i + 1) (trees_at s (drop (i + 1) ids)) ≡ all
axiom_step p s ids i d old new all h e so =
    let rest = axiom_lines p (i + 1) (trees_at s (drop (i + 1) ids)) in
    ap (λ z. z ++ rest) e ∙ append_assoc old (axiom_line p i (tree_at s (get_or ids i d))) rest ∙ ap (λ z. old ++ z) (ap (λ (z : List TermId). axiom_lines p i (trees_at s z)) (sym (drop_more ids i d h))) ∙ so
