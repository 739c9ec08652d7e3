-- Lines of trees whose parts don't fit.
use Rattle.std.proofs.Common.{◌≡◌, ◌-◌, ◌≤◌, true, false, List, [], ◌∷◌, length, take, drop, get_or, Option, Some, None, refl, sym, subst, arith}
use Rattle.std.specs.Prelude.{codes}
use Rattle.std.proofs.lemmas.Option.{none-some}
use Rattle.std.specs.Option.{option_map}
use Rattle.std.specs.Borrow.{Bor}
use Rattle.std.specs.Str.{bytes_eq}
use Rattle.trees.specs.declared.TermId.{TermId}
use Rattle.trees.specs.Tree.{Tree}
use Rattle.trees.specs.Sorts.{WellSorted}
use Rattle.tasks.specs.Task.{TaskTree}
use Rattle.name_tables.specs.declared.name_entries.names.NameEntry.{NameEntry}
use Rattle.step_lines.specs.tree_lines.Words.{LineWord, texts}
use Rattle.step_lines.specs.tree_lines.Lines.{Earlier, pattern_of_line, expression_of_line}
use Rattle.step_lines.specs.tree_lines.Made.{IsTreeMade}
use Rattle.step_lines.proofs.tree_lines.Making.{slice_left}
use Rattle.step_lines.specs.Steps.{Thing, PatternOf, ExpressionOf, line_made}
use Rattle.step_lines.specs.Made.{ThingFits}

thing_refused : (f : Tree → Thing) → ((e : Tree) → ThingFits (f e) → WellSorted e) → (o : Option Tree) → ((e : Tree) → o ≡ Some e → WellSorted e → ⊥) → (x : Thing) → option_map f o ≡ Some x → ThingFits x → ⊥
thing_refused f fits None h x e w = none-some x e
thing_refused f fits (Some a) h x e w =
    let k : f a ≡ x = cc in
    h a refl (fits a (subst ThingFits (sym k) w))

module _ (t : TaskTree) (names : List NameEntry) (r : Earlier) (s : List Tree) (o : Option TermId) (none : o ≡ None) where
  refused_rest : (f : List LineWord → Option Tree) (w : Bor LineWord) (ws : List (Bor LineWord)) → IsTreeMade s (f (texts (take (length (w ∷ ws) - 1) (drop 1 (w ∷ ws))))) o → (e : Tree) → f (texts ws) ≡ Some e → WellSorted e → ⊥
  refused_rest f w ws m = subst (IsTreeMade s (f (texts ws))) none (subst (λ (l : List (Bor LineWord)). IsTreeMade s (f (texts l)) o) (slice_left 1 (w ∷ ws)) m)

  pub pattern_refused : (ws : List (Bor LineWord)) (d : Bor LineWord) → 1 ≤ length ws → bytes_eq (get_or ws 0 d).now (codes "y") ≡ false → bytes_eq (get_or ws 0 d).now (codes "p") ≡ true
      → IsTreeMade s (pattern_of_line t names r (texts (take (length ws - 1) (drop 1 ws)))) o → (x : Thing) → line_made t names r (texts ws) ≡ Some x → ThingFits x → ⊥
  pattern_refused [] d some y p m x e = absurd (omega arith)
  pattern_refused (w ∷ ws) d some y p m x e =
      let k = rw (y, p) at e in
      thing_refused PatternOf (λ a b. b) (pattern_of_line t names r (texts ws)) (refused_rest (pattern_of_line t names r) w ws m) x k

  pub expression_refused : (ws : List (Bor LineWord)) (d : Bor LineWord) → 1 ≤ length ws → bytes_eq (get_or ws 0 d).now (codes "y") ≡ false → bytes_eq (get_or ws 0 d).now (codes "p") ≡ false → bytes_eq (get_or ws 0 d).now (codes "e") ≡ true
      → IsTreeMade s (expression_of_line t names r (texts (take (length ws - 1) (drop 1 ws)))) o → (x : Thing) → line_made t names r (texts ws) ≡ Some x → ThingFits x → ⊥
  expression_refused [] d some y p e' m x e = absurd (omega arith)
  expression_refused (w ∷ ws) d some y p e' m x e =
      let k = rw (y, p, e') at e in
      thing_refused ExpressionOf (λ a b. b) (expression_of_line t names r (texts ws)) (refused_rest (expression_of_line t names r) w ws m) x k
