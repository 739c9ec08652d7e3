-- What the search for missed shapes needs at each step, over tables in code.
use Rattle.std.proofs.Common.{◌≡◌, ◌≢◌, ◌↔◌, ℕ, zero, suc, ◌+◌, ◌-◌, ◌<◌, ◌≤◌, ◌==◌, Bool, true, false, List, [], ◌∷◌, ◌++◌, length, map, get_or, take, All, Contains, Option, Some, None, option_map, refl, sym, ap, ◌∙◌, subst, arith}
use Rattle.std.proofs.lemmas.Bool.{eqb-true, eqb-false}
use Rattle.std.proofs.lemmas.List.Elements.{All-more, All-nil}
use Rattle.trees.specs.declared.TermId.{TermId}
use Rattle.trees.specs.Tree.{Tree}
use Rattle.trees.specs.Node.{Holds}
use Rattle.tasks.specs.Task.{SymbolTree, symbol_or}
use Rattle.tasks.specs.Meaning.{trees_at}
use Rattle.checks.specs.declared.match_cover.shape.ValueShape.{ValueShape as StoredShape}
use Rattle.checks.specs.match_cover.Shapes.{ShapeTree, unspecified, built, Shapes, no_shapes, more_shapes, Meets, IsPattern, HaveOneType, AreExhaustive, Escapes}
use Rattle.checks.specs.match_cover.Tables.{IsTable, Answered, unknowns, specialized, tails, Splits, effort}
use Rattle.checks.specs.match_cover.Meaning.{shape_of, shapes_of, first_shapes, shapes_after, table_at, TableHeld, single_pattern}
use Rattle.checks.proofs.match_cover.Shapes.{count_shapes, only_shape, some_shape}
use Rattle.checks.proofs.match_cover.Tables.{tails_at, table_some, table_none, table_alone, alone_held}
use Rattle.checks.proofs.match_cover.Answering.{answered_empty, answered_narrow, answered_plain, answered_covered, answered_missed, PartCovers, is_split, tails_table, tails_smaller, part_table, part_smaller, part_long, alone, alone_table, covers_exhaustive, cover_left, escapes_not}

pub empty_is : {X : Type 0} (xs : List X) (b : Bool) → b ≡ (length xs == 0) → b ≡ true → xs ≡ []
empty_is [] b e t = refl
empty_is (x ∷ xs) b e t = absurd (let z : length (x ∷ xs) ≡ 0 = eqb-true (length (x ∷ xs)) 0 (sym e ∙ t) in omega (arith, z))

pub empty_not : {X : Type 0} (xs : List X) (b : Bool) → b ≡ (length xs == 0) → b ≡ false → xs ≢ []
empty_not xs b e f z = eqb-false (length xs) 0 (sym e ∙ f) (ap length z)

take_all : (xs : List ℕ) (i : ℕ) → length xs ≤ i → take i xs ≡ xs
take_all [] zero l = refl
take_all [] (suc i) l = refl
take_all (x ∷ xs) zero l = absurd (omega arith)
take_all (x ∷ xs) (suc i) l = ap (λ y. x ∷ y) (take_all xs i (omega arith))

module _ (symbols : List SymbolTree) (s : List Tree) (at : ℕ) (rows : List (List TermId)) (w : ℕ) where
  abbrev table : List (List Tree)
  table = table_at s at rows

  pub answer_empty : (b : Bool) (xs : List StoredShape) → b ≡ (length rows == 0) → b ≡ true → shapes_of xs ≡ unknowns w → Answered symbols w table (Some (shapes_of xs))
  answer_empty b xs e t u = answered_empty symbols w table (shapes_of xs) (table_none s at rows (empty_is rows b e t)) u

  pub answer_narrow : rows ≢ [] → w ≡ 0 → Answered symbols w table None
  answer_narrow n z = subst (λ v. Answered symbols v table None) (sym z) (answered_narrow symbols table (table_some s at rows n))

  -- ---- the next column
  pub next_table : 0 < w → IsTable symbols w table → IsTable symbols (w - 1) (table_at s (at + 1) rows)
  next_table l x = subst (IsTable symbols (w - 1)) (sym (tails_at s at rows)) (tails_table symbols w table l x)

  pub next_smaller : 0 < w → rows ≢ [] → IsTable symbols w table → effort symbols (table_at s (at + 1) rows) < effort symbols table
  next_smaller l n x = subst (λ t. effort symbols t < effort symbols table) (sym (tails_at s at rows)) (tails_smaller symbols w table l x (table_some s at rows n))

  pub answer_plain : (ks : List ℕ) (o p : Option Shapes) → 0 < w → ks ≡ [] → Splits symbols table ks → Answered symbols (w - 1) (table_at s (at + 1) rows) o → p ≡ option_map (more_shapes unspecified) o → Answered symbols w table p
  answer_plain ks o p l z d h e =
      let t : Answered symbols (w - 1) (tails table) o = subst (λ y. Answered symbols (w - 1) y o) (tails_at s at rows) h in
      subst (Answered symbols w table) (sym e) (answered_plain symbols w table ks o l z d t)

  -- ---- the part of a constructor
  module _ (ks : List ℕ) (k n m : ℕ) (left : List (List TermId)) (long : n ≡ length (symbol_or symbols k).args) (wide : m ≡ n + (w - 1)) (is : table_at s 0 left ≡ specialized k n table) where
    left_is : table_at s 0 left ≡ specialized k (length (symbol_or symbols k).args) table
    left_is = is ∙ ap (λ j. specialized k j table) long

    wide_is : m ≡ length (symbol_or symbols k).args + (w - 1)
    wide_is = omega (arith, wide, long)

    pub left_table : 0 < w → ks ≢ [] → Splits symbols table ks → Contains ks k → IsTable symbols w table → IsTable symbols m (table_at s 0 left)
    left_table l z d c x =
        let t = part_table symbols w table ks k l x (is_split symbols table ks z d) c in
        let q = subst (λ v. IsTable symbols v (specialized k (length (symbol_or symbols k).args) table)) (sym wide_is) t in
        subst (IsTable symbols m) (sym left_is) q

    pub left_smaller : 0 < w → rows ≢ [] → ks ≢ [] → Splits symbols table ks → Contains ks k → IsTable symbols w table → effort symbols (table_at s 0 left) < effort symbols table
    left_smaller l r z d c x =
        subst (λ t. effort symbols t < effort symbols table) (sym left_is) (part_smaller symbols w table ks k l x (table_some s at rows r) (is_split symbols table ks z d) c)

    part_answer : (o : Option Shapes) → Answered symbols m (table_at s 0 left) o → Answered symbols (length (symbol_or symbols k).args + (w - 1)) (specialized k (length (symbol_or symbols k).args) table) o
    part_answer o h =
        let q = subst (λ v. Answered symbols v (table_at s 0 left) o) wide_is h in
        subst (λ t. Answered symbols (length (symbol_or symbols k).args + (w - 1)) t o) left_is q

    pub enough : (xs : List StoredShape) → IsTable symbols m (table_at s 0 left) → Answered symbols m (table_at s 0 left) (Some (shapes_of xs)) → n ≤ length xs
    enough xs x h =
        let y : IsTable symbols (n + (w - 1)) (table_at s 0 left) = subst (λ v. IsTable symbols v (table_at s 0 left)) wide x in
        let g : Answered symbols (n + (w - 1)) (table_at s 0 left) (Some (shapes_of xs)) = subst (λ v. Answered symbols v (table_at s 0 left) (Some (shapes_of xs))) wide h in
        omega (arith, part_long symbols (w - 1) n (table_at s 0 left) (shapes_of xs) y g, count_shapes xs)

    pub answer_missed : (xs ys : List StoredShape) → 0 < w → Splits symbols table ks → Contains ks k → Answered symbols m (table_at s 0 left) (Some (shapes_of xs))
        → shapes_of ys ≡ more_shapes (built k (first_shapes n (shapes_of xs))) (shapes_after n (shapes_of xs)) → Answered symbols w table (Some (shapes_of ys))
    answer_missed xs ys l d c h e =
        let a = answered_missed symbols w table ks k (shapes_of xs) l d c (part_answer (Some (shapes_of xs)) h) in
        let f : shapes_of ys ≡ more_shapes (built k (first_shapes (length (symbol_or symbols k).args) (shapes_of xs))) (shapes_after (length (symbol_or symbols k).args) (shapes_of xs)) =
        subst (λ j. shapes_of ys ≡ more_shapes (built k (first_shapes j (shapes_of xs))) (shapes_after j (shapes_of xs))) long e in
        subst (λ y. Answered symbols w table (Some y)) (sym f) a

    pub parts_more : (i : ℕ) → i < length ks → k ≡ get_or ks i k → Answered symbols m (table_at s 0 left) None → All (PartCovers symbols w table) (take i ks) → All (PartCovers symbols w table) (take (i + 1) ks)
    parts_more i l e h a = All-more (PartCovers symbols w table) ks i k l a (subst (PartCovers symbols w table) e (part_answer None h))

  pub answer_covered : (ks : List ℕ) (i : ℕ) → 0 < w → ks ≢ [] → Splits symbols table ks → length ks ≤ i → All (PartCovers symbols w table) (take i ks) → Answered symbols w table None
  answer_covered ks i l z d e a = answered_covered symbols w table ks l z d (subst (All (PartCovers symbols w table)) (take_all ks i e) a)

pub in_list : (ks : List ℕ) (i k : ℕ) → i < length ks → k ≡ get_or ks i k → Contains ks k
in_list ks i k l e = (i, l, sym e)

-- ---- the cover of patterns
no_items : (xs : List StoredShape) → length xs ≡ 0 → xs ≡ []
no_items [] e = refl
no_items (x ∷ xs) e = absurd (omega (arith, e))

pub empty_escapes : (symbols : List SymbolTree) (ps : List Tree) → HaveOneType ps → ps ≡ [] → Escapes symbols ps unspecified
empty_escapes symbols ps h e = record {
  type = h.type;
  have = h.have;
  is = tt;
  unmet = subst (All (λ p. Meets unspecified p → ⊥)) (sym e) (All-nil (λ p. Meets unspecified p → ⊥));
}

pub some_iff : {X : Type 0} (symbols : List SymbolTree) (ps : List Tree) (s : ShapeTree) (x : X) → Escapes symbols ps s → (◌≡◌ {A = Option X} (Some x) None) ↔ AreExhaustive symbols ps
some_iff symbols ps s x w = (λ e. absurd (cc), λ h. absurd (escapes_not symbols ps s w h))

module _ (symbols : List SymbolTree) (s : List Tree) (ps : List TermId) (rows : List (List TermId)) (are : rows ≡ map single_pattern ps) where
  rows_are : table_at s 0 rows ≡ alone (trees_at s ps)
  rows_are = ap (table_at s 0) are ∙ table_alone s ps

  pub rows_held : All (Holds s) ps → TableHeld s rows
  rows_held h = subst (TableHeld s) (sym are) (alone_held s ps h)

  pub rows_table : All (IsPattern symbols) (trees_at s ps) → HaveOneType (trees_at s ps) → IsTable symbols 1 (table_at s 0 rows)
  rows_table a h = subst (IsTable symbols 1) (sym rows_are) (alone_table symbols (trees_at s ps) a h)

  pub none_exhaustive : All (IsPattern symbols) (trees_at s ps) → Answered symbols 1 (table_at s 0 rows) None → AreExhaustive symbols (trees_at s ps)
  none_exhaustive a h = covers_exhaustive symbols (trees_at s ps) a (subst (λ t. Answered symbols 1 t None) rows_are h)

  module _ (a : All (IsPattern symbols) (trees_at s ps)) (h : HaveOneType (trees_at s ps)) (all : List StoredShape) (g : Answered symbols 1 (table_at s 0 rows) (Some (shapes_of all))) where
    left : (x : ShapeTree) × (shapes_of all ≡ more_shapes x no_shapes) × Escapes symbols (trees_at s ps) x
    left = cover_left symbols (trees_at s ps) (shapes_of all) a h (subst (λ t. Answered symbols 1 t (Some (shapes_of all))) rows_are g)

    pub escapes_last : (rest : List StoredShape) (last : StoredShape) → all ≡ rest ++ last ∷ [] → Escapes symbols (trees_at s ps) (shape_of last)
    escapes_last rest last e = subst (Escapes symbols (trees_at s ps)) (sym (only_shape all rest last left.0 left.1 e)) left.2

    pub never_empty : length all ≡ 0 → ⊥
    never_empty z = some_shape all left.0 left.1 (no_items all z)

pub read_same : (xs : List ℕ) (i : ℕ) → i < length xs → get_or xs i 0 ≡ get_or xs i (get_or xs i 0)
read_same [] i l = absurd (omega arith)
read_same (x ∷ xs) zero l = refl
read_same (x ∷ xs) (suc i) l = read_same xs i (omega arith)
