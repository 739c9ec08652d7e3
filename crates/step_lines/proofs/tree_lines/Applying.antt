-- Uses of symbols, by the numbers of their types and parts.
use Rattle.std.proofs.Common.{◌≡◌, ℕ, ◌-◌, min, List, length, take, drop, All, Option, Some, None, slice_get, refl, sym, ap, subst, ◌∙◌}
use Rattle.std.specs.Option.{option_map, option_and_then}
use Rattle.std.specs.Borrow.{Bor}
use Rattle.trees.specs.declared.TermId.{TermId}
use Rattle.trees.specs.declared.Node.TheVariants as node
use Rattle.trees.specs.declared.Sort.TheVariants.{Kind}
use Rattle.trees.specs.Tree.{Tree, Two, HPred}
use Rattle.trees.specs.Node.{tree_at, node_tree, Holds, Grows}
use Rattle.trees.specs.Sorts.{WellSorted}
use Rattle.trees.specs.Binding.{inst_types}
use Rattle.trees.proofs.Nodes.{Grows_trans}
use Rattle.trees.specs.binders.Visits.{HoldTypes, trees_stay}
use Rattle.tasks.specs.Task.{TaskTree, SymbolTree}
use Rattle.tasks.specs.Meaning.{trees_at}
use Rattle.tasks.proofs.Growth.{held_later, tree_later, all_held_later, trees_later}
use Rattle.name_tables.specs.declared.name_entries.names.NameOf.TheVariants.{Symbol}
use Rattle.name_tables.specs.declared.name_entries.names.NameEntry.{NameEntry}
use Rattle.step_lines.specs.tree_lines.Words.{LineWord, texts, each}
use Rattle.step_lines.specs.tree_lines.Named.{NameMeaning, cells}
use Rattle.step_lines.specs.tree_lines.Lines.{Earlier, SymbolUse, use_by, meaning_types, use_of, named_use, symbol_number}
use Rattle.step_lines.specs.tree_lines.Made.{IsTreeMade, AreTrees}
use Rattle.step_lines.proofs.tree_lines.Making.{words_taken, words_left}

-- a list of types, and then one of parts
module _ (s0 s1 s2 : List Tree) (g1 : Grows s0 s1) (g2 : Grows s1 s2) (tys ps : List TermId) (types : TermId) (o : Option TermId) (parts_held : All (Holds s0) ps)
    (there : Holds s1 types) (tree : tree_at s1 types ≡ cells (trees_at s0 tys)) (made : IsTreeMade s2 (Some (cells (trees_at s1 ps))) o) where
  pub types_tree : tree_at s2 types ≡ cells (trees_at s0 tys)
  types_tree = tree_later s1 s2 g2 types there ∙ tree

  parts_same : cells (trees_at s1 ps) ≡ cells (trees_at s0 ps)
  parts_same = ap cells (trees_later s0 s1 g1 ps parts_held)

  parts_some : (a : TermId) → o ≡ Some a → IsTreeMade s2 (Some (cells (trees_at s1 ps))) (Some a)
  parts_some a is = subst (IsTreeMade s2 (Some (cells (trees_at s1 ps)))) is made

  pub parts_there : (a : TermId) → o ≡ Some a → Holds s2 a
  parts_there a is = (parts_some a is).1

  pub parts_tree : (a : TermId) → o ≡ Some a → tree_at s2 a ≡ cells (trees_at s0 ps)
  parts_tree a is =
      let m : Some (cells (trees_at s1 ps)) ≡ Some (tree_at s2 a) = (parts_some a is).0 in
      let t : tree_at s2 a ≡ cells (trees_at s1 ps) = cc in
      t ∙ parts_same

  pub parts_refused : o ≡ None → WellSorted (cells (trees_at s0 ps)) → ⊥
  parts_refused none w =
      let n : IsTreeMade s2 (Some (cells (trees_at s1 ps))) None = subst (IsTreeMade s2 (Some (cells (trees_at s1 ps)))) none made in
      n (cells (trees_at s1 ps)) refl (subst WellSorted (sym parts_same) w)

  pub formula_made : (k : ℕ) (a : TermId) → o ≡ Some a → Some (node_tree s2 (node.Pred k types a)) ≡ Some (Two (HPred k) (cells (trees_at s0 tys)) (cells (trees_at s0 ps)))
  formula_made k a is = ap (λ x. Some (Two (HPred k) x (tree_at s2 a))) types_tree ∙ ap (λ y. Some (Two (HPred k) (cells (trees_at s0 tys)) y)) (parts_tree a is)

  pub formula_refused : (k : ℕ) → o ≡ None → (e : Tree) → Some (Two (HPred k) (cells (trees_at s0 tys)) (cells (trees_at s0 ps))) ≡ Some e → WellSorted e → ⊥
  formula_refused k none e is w =
      let whole : Two (HPred k) (cells (trees_at s0 tys)) (cells (trees_at s0 ps)) ≡ e = cc in
      parts_refused none (subst WellSorted (sym whole) w).2

abbrev use_by_result : List Tree → List TermId → List TermId → Option TermId → Option (Tree × Tree × Tree)
use_by_result s tys ps result = option_map (λ ty. (cells (trees_at s tys), cells (trees_at s ps), inst_types ty (trees_at s tys))) (option_map (tree_at s) result)

-- the result first, then the lists
module _ (s0 s1 s2 s3 : List Tree) (g1 : Grows s0 s1) (g2 : Grows s1 s2) (g3 : Grows s2 s3) (tys ps : List TermId) (result : Option TermId) (r ty types : TermId) (o : Option TermId)
    (types_held : HoldTypes s0 tys) (parts_held : All (Holds s0) ps) (is : result ≡ Some r) (ty_there : Holds s1 ty) (ty_tree : tree_at s1 ty ≡ inst_types (tree_at s0 r) (trees_at s0 tys))
    (there : Holds s2 types) (tree : tree_at s2 types ≡ cells (trees_at s1 tys)) (made : IsTreeMade s3 (Some (cells (trees_at s2 ps))) o) where
  held1 : All (Holds s1) ps
  held1 = all_held_later s0 s1 g1 ps parts_held

  pub use_made : (a : TermId) → o ≡ Some a → AreTrees s3 (use_by_result s0 tys ps result) (Some (types, a, ty))
  use_made a some =
      let t : tree_at s3 types ≡ cells (trees_at s0 tys) = types_tree s1 s2 s3 g2 g3 tys ps types o held1 there tree made ∙ ap cells (trees_stay Kind s0 s1 tys g1 types_held) in
      let p : tree_at s3 a ≡ cells (trees_at s0 ps) = parts_tree s1 s2 s3 g2 g3 tys ps types o held1 there tree made a some ∙ ap cells (trees_later s0 s1 g1 ps parts_held) in
      let y : tree_at s3 ty ≡ inst_types (tree_at s0 r) (trees_at s0 tys) = tree_later s1 s3 (Grows_trans s1 s2 s3 g2 g3) ty ty_there ∙ ty_tree in
      let mk : Tree → Tree → Tree → Option (Tree × Tree × Tree) = λ x z w. Some (x, z, w) in
      let e : use_by_result s0 tys ps (Some r) ≡ Some (tree_at s3 types, tree_at s3 a, tree_at s3 ty) =
      ap (λ x. mk x (cells (trees_at s0 ps)) (inst_types (tree_at s0 r) (trees_at s0 tys))) (sym t) ∙ ap (λ z. mk (tree_at s3 types) z (inst_types (tree_at s0 r) (trees_at s0 tys))) (sym p) ∙ ap (mk (tree_at s3 types) (tree_at s3 a)) (sym y) in (
        ap (use_by_result s0 tys ps) is ∙ e,
        held_later s2 s3 g3 types there,
        parts_there s1 s2 s3 g2 g3 tys ps types o held1 there tree made a some,
        held_later s1 s3 (Grows_trans s1 s2 s3 g2 g3) ty ty_there,
      )

  pub use_refused : o ≡ None → (q : Tree × Tree × Tree) → use_by_result s0 tys ps result ≡ Some q → WellSorted q.1 → ⊥
  use_refused none q e w =
      let e' : use_by_result s0 tys ps (Some r) ≡ Some q = ap (use_by_result s0 tys ps) (sym is) ∙ e in
      let whole : (cells (trees_at s0 ps)) ≡ q.1 = second_same (cells (trees_at s0 tys)) (cells (trees_at s0 ps)) (inst_types (tree_at s0 r) (trees_at s0 tys)) q e' in
      parts_refused s1 s2 s3 g2 g3 tys ps types o held1 there tree made none (subst WellSorted (sym (ap cells (trees_later s0 s1 g1 ps parts_held))) (subst WellSorted (sym whole) w)) where
        or_leaf : Tree → Option (Tree × Tree × Tree) → Tree
        or_leaf d None = d
        or_leaf d (Some t) = t.1

        second_same : (a b c : Tree) (t : Tree × Tree × Tree) → ◌≡◌ {A = Option (Tree × Tree × Tree)} (Some (a, b, c)) (Some t) → b ≡ t.1
        second_same a b c t h = ap (or_leaf b) h

-- a symbol's use by the words after its name
module _ (t : TaskTree) (names : List NameEntry) (r : Earlier) (part : LineWord → Option Tree) (n : NameMeaning) (ws : List (Bor LineWord)) (k : ℕ) (e : SymbolTree) (c : ℕ) (cut : c ≡ min (e.vars - length n.types) (length ws)) where
  abbrev lacking : ℕ
  lacking = e.vars - length n.types

  abbrev with_parts : List Tree → Option SymbolUse
  with_parts types = option_map (use_by k e types) (each part (drop lacking (texts ws)))

  pub uses_no_types : None ≡ meaning_types t names r n (texts (take c ws)) → None ≡ use_of t names r part n (texts ws) k e
  uses_no_types h = ap (option_and_then with_parts) (h ∙ ap (meaning_types t names r n) (words_taken lacking ws c cut))

  pub uses_made : (types parts : List Tree) → Some types ≡ meaning_types t names r n (texts (take c ws)) → Some parts ≡ each part (texts (drop c ws)) → Some (use_by k e types parts) ≡ use_of t names r part n (texts ws) k e
  uses_made types parts h p =
      ap (option_map (use_by k e types)) (p ∙ ap (each part) (words_left lacking ws c cut)) ∙ ap (option_and_then with_parts) (h ∙ ap (meaning_types t names r n) (words_taken lacking ws c cut))

  pub uses_no_parts : (types : List Tree) → Some types ≡ meaning_types t names r n (texts (take c ws)) → None ≡ each part (texts (drop c ws)) → None ≡ use_of t names r part n (texts ws) k e
  uses_no_parts types h p =
      ap (option_map (use_by k e types)) (p ∙ ap (each part) (words_left lacking ws c cut)) ∙ ap (option_and_then with_parts) (h ∙ ap (meaning_types t names r n) (words_taken lacking ws c cut))

-- what a name stands for, where it is a symbol
pub meaning_used : (t : TaskTree) (names : List NameEntry) (r : Earlier) (part : LineWord → Option Tree) (ws : List LineWord) (n : NameMeaning) (k : ℕ) (e : SymbolTree) → n.symbol ≡ Symbol k → Some e ≡ slice_get t.symbols k → use_of t names r part n ws k e ≡ named_use t names r part ws n
meaning_used t names r part ws n k e is there =
    ap (option_and_then (use_of t names r part n ws k)) there ∙ ap (λ o. option_and_then (λ j. option_and_then (use_of t names r part n ws j) (slice_get t.symbols j)) (symbol_number o)) (sym is)

pub meaning_unused : (t : TaskTree) (names : List NameEntry) (r : Earlier) (part : LineWord → Option Tree) (ws : List LineWord) (n : NameMeaning) (k : ℕ) → n.symbol ≡ Symbol k → None ≡ slice_get t.symbols k → None ≡ named_use t names r part ws n
meaning_unused t names r part ws n k is there =
    ap (option_and_then (use_of t names r part n ws k)) there ∙ ap (λ o. option_and_then (λ j. option_and_then (use_of t names r part n ws j) (slice_get t.symbols j)) (symbol_number o)) (sym is)
