-- Matches, by the numbers of their terms and branches.
use Rattle.std.proofs.Common.{◌≡◌, ◌≤◌, List, [], ◌∷◌, length, map, drop, get_or, IfSome, All, Option, Some, None, refl, sym, ap, subst, ◌∙◌, arith}
use Rattle.std.specs.Borrow.{Bor}
use Rattle.std.specs.Option.{option_map, option_and_then}
use Rattle.std.proofs.lemmas.List.Elements.{All-cons, All-nil}
use Rattle.trees.specs.declared.TermId.{TermId}
use Rattle.trees.specs.declared.Node.TheVariants as node
use Rattle.trees.specs.Tree.{Tree, Two, HCase, HCell}
use Rattle.trees.specs.Node.{tree_at, node_tree, Holds, Grows}
use Rattle.trees.specs.Sorts.{WellSorted}
use Rattle.tasks.specs.Task.{TaskTree}
use Rattle.tasks.specs.Meaning.{trees_at}
use Rattle.name_tables.specs.declared.name_entries.names.NameEntry.{NameEntry}
use Rattle.tasks.proofs.Growth.{tree_later}
use Rattle.step_lines.specs.tree_lines.Words.{LineWord, texts, at_number, pairs}
use Rattle.step_lines.specs.tree_lines.Named.{cells}
use Rattle.step_lines.specs.tree_lines.Lines.{Earlier, arm_list, match_tree, match_by_words}
use Rattle.step_lines.specs.tree_lines.Made.{IsTreeMade, PairsHeld, pairs_in, branch_at}
use Rattle.step_lines.proofs.tree_lines.Making.{at_trees, at_held}

arms_same : (s : List Tree) (ps : List (TermId × TermId)) → cells (map (branch_at s) ps) ≡ arm_list (pairs_in s ps)
arms_same s [] = refl
arms_same s (p ∷ ps) = ap (λ (l : Tree). cells_onto (branch_at s p) l) (arms_same s ps) where
  cells_onto : Tree → Tree → Tree
  cells_onto e l = Two HCell e l

module _ (s0 s : List Tree) (g : Grows s0 s) (e : TermId) (ps : List (TermId × TermId)) (o : Option TermId) (made : IsTreeMade s (Some (cells (map (branch_at s0) ps))) o) where
  pub case_list : (l : TermId) → o ≡ Some l → IsTreeMade s (Some (cells (map (branch_at s0) ps))) (Some l)
  case_list l is = subst (IsTreeMade s (Some (cells (map (branch_at s0) ps)))) is made

  pub case_made : Holds s0 e → (l : TermId) → o ≡ Some l → Some (node_tree s (node.Case e l)) ≡ Some (match_tree (tree_at s0 e) (pairs_in s0 ps))
  case_made h l is =
      let m = (case_list l is).0 in
      let t : tree_at s l ≡ cells (map (branch_at s0) ps) = cc in
      ap (λ x. Some (Two HCase x (tree_at s l))) (tree_later s0 s g e h) ∙ ap (λ x. Some (Two HCase (tree_at s0 e) x)) (t ∙ arms_same s0 ps)

  pub case_refused : o ≡ None → (x : Tree) → Some (match_tree (tree_at s0 e) (pairs_in s0 ps)) ≡ Some x → WellSorted x → ⊥
  case_refused none x is w =
      let whole : match_tree (tree_at s0 e) (pairs_in s0 ps) ≡ x = cc in
      let n : IsTreeMade s (Some (cells (map (branch_at s0) ps))) None = subst (IsTreeMade s (Some (cells (map (branch_at s0) ps)))) none made in
      n _ refl (subst WellSorted (sym (arms_same s0 ps)) (subst WellSorted (sym whole) w).2)

module _ (s : List Tree) (ps es : List TermId) where
  abbrev both : Option TermId → Option TermId → Option (List (TermId × TermId)) → Option (List (TermId × TermId))
  both a b rest = option_and_then (λ x. option_and_then (λ y. option_map (λ l. (x, y) ∷ l) rest) b) a

  both_trees : (a b : Option TermId) (rest : Option (List (TermId × TermId))) → option_and_then (λ x. option_and_then (λ y. option_map (λ l. (x, y) ∷ l) (option_map (pairs_in s) rest)) (option_map (tree_at s) b)) (option_map (tree_at s) a) ≡ option_map (pairs_in s) (both a b rest)
  both_trees None b rest = refl
  both_trees (Some x) None rest = refl
  both_trees (Some x) (Some y) None = refl
  both_trees (Some x) (Some y) (Some l) = refl

  pub pairs_trees : (ws : List LineWord) → pairs (at_number (trees_at s ps)) (at_number (trees_at s es)) ws ≡ option_map (pairs_in s) (pairs (at_number ps) (at_number es) ws)
  pairs_trees [] = refl
  pairs_trees (w ∷ []) = refl
  pairs_trees (w ∷ v ∷ ws) = rw (at_trees s ps w, at_trees s es v, pairs_trees ws) (both_trees (at_number ps w) (at_number es v) (pairs (at_number ps) (at_number es) ws))

  both_held : (a b : Option TermId) (rest : Option (List (TermId × TermId))) → IfSome a (Holds s) → IfSome b (Holds s) → IfSome rest (PairsHeld s) → IfSome (both a b rest) (PairsHeld s)
  both_held None b rest h k r = tt
  both_held (Some x) None rest h k r = tt
  both_held (Some x) (Some y) None h k r = tt
  both_held (Some x) (Some y) (Some l) h k r = All-cons (λ p. Holds s p.0 × Holds s p.1) (x, y) l (h, k) r

  pub pairs_held : All (Holds s) ps → All (Holds s) es → (ws : List LineWord) → IfSome (pairs (at_number ps) (at_number es) ws) (PairsHeld s)
  pairs_held h k [] = All-nil (λ p. Holds s p.0 × Holds s p.1)
  pairs_held h k (w ∷ []) = tt
  pairs_held h k (w ∷ v ∷ ws) = both_held (at_number ps w) (at_number es v) (pairs (at_number ps) (at_number es) ws) (at_held s ps w h) (at_held s es v k) (pairs_held h k ws)

-- the words of a match: its term, and its branches
module _ (t : TaskTree) (names : List NameEntry) (r : Earlier) where
  pub match_made : (ws : List (Bor LineWord)) (d : Bor LineWord) (e : Tree) (bs : List (Tree × Tree)) → 1 ≤ length ws → Some e ≡ at_number r.expressions (get_or ws 0 d).now → Some bs ≡ pairs (at_number r.patterns) (at_number r.expressions) (texts (drop 1 ws)) → Some (match_tree e bs) ≡ match_by_words t names r (texts ws)
  match_made [] d e bs some h k = absurd (omega arith)
  match_made (w ∷ ws) d e bs some h k = rw (sym h, sym k) refl

  pub match_missing : (ws : List (Bor LineWord)) (d : Bor LineWord) (e : Tree) → 1 ≤ length ws → Some e ≡ at_number r.expressions (get_or ws 0 d).now → None ≡ pairs (at_number r.patterns) (at_number r.expressions) (texts (drop 1 ws)) → None ≡ match_by_words t names r (texts ws)
  match_missing [] d e some h k = absurd (omega arith)
  match_missing (w ∷ ws) d e some h k = rw (sym h, sym k) refl
