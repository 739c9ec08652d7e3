-- Lines of trees that are written one after another.
use Rattle.std.proofs.Common.{◌≡◌, ℕ, Bool, zero, suc, ◌+◌, ◌<◌, ◌≤◌, ◌⊎◌, inl, inr, List, [], ◌∷◌, ◌++◌, map, length, get_or, slice_get, Option, Some, None, sym, refl, ap, subst, ◌∙◌, take, append_assoc, append-nil, arith}
use Rattle.std.specs.Option.{option_and_then}
use Rattle.std.specs.Prelude.{Vec, IfSome, IsSome, IsTrue, false, true}
use Rattle.std.specs.Option.{is_some}
use Rattle.std.proofs.lemmas.List.{take_more}
use Rattle.std.proofs.lemmas.List.{length-append, map_push, length-map, get_or-map}
use Rattle.tasks.specs.trees.declared.TermId.{TermId}
use Rattle.tasks.specs.trees.declared.Sort.{Sort}
use Rattle.tasks.specs.trees.declared.Sort.TheVariants as sort
use Rattle.tasks.specs.trees.Tree.{Tree, Leaf, HEnd}
use Rattle.tasks.specs.trees.Node.{tree_at, Holds}
use Rattle.tasks.specs.trees.Sorts.{sort_of}
use Rattle.tasks.specs.Task.{TaskTree}
use Rattle.tasks.specs.Meaning.{trees_at}
use Rattle.name_tables.specs.declared.name_entries.names.NameEntry.{NameEntry}
use Rattle.step_lines.specs.tree_lines.Words.{LineWord}
use Rattle.step_lines.specs.tree_lines.Lines.{Earlier}
use Rattle.step_lines.specs.tree_lines.Named.{cells}
use Rattle.name_tables.specs.declared.name_entries.names.NameOf.{NameOf}
use Rattle.step_writing.specs.declared.tree_writing.spelling.Spelling.{Spelling}
use Rattle.step_writing.specs.tree_writing.Spelt.{IsSpelt, Spells}
use Rattle.step_writing.specs.tree_writing.Referring.{words_of}
use Rattle.step_writing.proofs.tree_writing.Partly.{words_end}
use Rattle.step_writing.specs.declared.tree_writing.writer.LineKind.{LineKind}
use Rattle.step_writing.specs.declared.tree_writing.writer.LineKind.TheVariants as kind
use Rattle.step_writing.specs.declared.tree_writing.writer.Writing.{Writing}
use Rattle.step_writing.specs.declared.tree_writing.writer.Trees.{Trees}
use Rattle.step_writing.specs.tree_writing.Referring.{AreLines, line_at, trees_of_sort}
use Rattle.step_writing.specs.tree_writing.Parts.{StandsIn, IsMarked}
use Rattle.step_writing.specs.tree_writing.Text.{spaced, line_text, whole_text}
use Rattle.step_writing.specs.tree_writing.Whole.{kind_of_sort, IsOfKind, letter, LineBack, tree_by, with_tree, nothing_before, TreeLine, line_bytes, ReadTrees, of_kind, Differ, HaveLesser, HaveLines, count_of, AreCounted, CountsLine, TreesHeld, IsNextLine, next_tree, IsWritingOf}

further : {X : Type 0} (xs ys : List X) (i : ℕ) (a : X) → slice_get xs i ≡ Some a → slice_get (xs ++ ys) i ≡ Some a
further [] ys i a h = absurd (cc)
further (x ∷ xs) ys zero a h = h
further (x ∷ xs) ys (suc i) a h = further xs ys i a h

last : {X : Type 0} (xs : List X) (a : X) (n : ℕ) → n ≡ length xs → slice_get (xs ++ a ∷ []) n ≡ Some a
last [] a zero e = refl
last [] a (suc n) e = absurd (omega (arith, e))
last (x ∷ xs) a zero e = absurd (omega (arith, e))
last (x ∷ xs) a (suc n) e = last xs a n (omega (arith, e))

-- a place of a longer list is one of the shorter, or the last one
place_of_more : {X : Type 0} (xs : List X) (a b : X) (i : ℕ) → slice_get (xs ++ a ∷ []) i ≡ Some b → (slice_get xs i ≡ Some b) ⊎ ((i ≡ length xs) × (a ≡ b))
place_of_more [] a b zero h = inr (refl, let e : a ≡ b = cc in e)
place_of_more [] a b (suc i) h = absurd (cc)
place_of_more (x ∷ xs) a b zero h = inl h
place_of_more (x ∷ xs) a b (suc i) h = elim (place_of_more xs a b i h) [ inl e ↦ inl e | inr p ↦ inr (ap suc p.0, p.1) ]

sort_list : (x : Sort) (k : LineKind) (r : Earlier) → kind_of_sort x ≡ Some k → trees_of_sort x r ≡ of_kind k r
sort_list sort.Kind k r e = let s : kind.Type ≡ k = cc in ap (λ (j : LineKind). of_kind j r) s
sort_list sort.Pattern k r e = let s : kind.Pattern ≡ k = cc in ap (λ (j : LineKind). of_kind j r) s
sort_list sort.Term k r e = let s : kind.Expression ≡ k = cc in ap (λ (j : LineKind). of_kind j r) s
sort_list sort.Formula k r e = let s : kind.Expression ≡ k = cc in ap (λ (j : LineKind). of_kind j r) s
sort_list sort.List k r e = absurd (cc)
sort_list sort.Branch k r e = absurd (cc)

own_more : (k : LineKind) (r : Earlier) (e : Tree) → of_kind k (with_tree k r e) ≡ of_kind k r ++ e ∷ []
own_more kind.Type r e = refl
own_more kind.Pattern r e = refl
own_more kind.Expression r e = refl

-- what holds of each kind holds with one more tree
each_more : (P : List Tree → Type 0) (k : LineKind) (r : Earlier) (e : Tree) → ((j : LineKind) → P (of_kind j r)) → P (of_kind k r ++ e ∷ []) → (j : LineKind) → P (of_kind j (with_tree k r e))
each_more P kind.Type r e h own kind.Type = own
each_more P kind.Type r e h own kind.Pattern = h kind.Pattern
each_more P kind.Type r e h own kind.Expression = h kind.Expression
each_more P kind.Pattern r e h own kind.Type = h kind.Type
each_more P kind.Pattern r e h own kind.Pattern = own
each_more P kind.Pattern r e h own kind.Expression = h kind.Expression
each_more P kind.Expression r e h own kind.Type = h kind.Type
each_more P kind.Expression r e h own kind.Pattern = h kind.Pattern
each_more P kind.Expression r e h own kind.Expression = own

-- a tree that isn't there yet
differ_more : (es : List Tree) (e : Tree) → Differ es → ((i : ℕ) → slice_get es i ≡ Some e → ⊥) → Differ (es ++ e ∷ [])
differ_more es e h none i j a p q = elim (place_of_more es e a i p) [
  | inl x ↦ elim (place_of_more es e a j q) [ inl y ↦ h i j a x y | inr y ↦ absurd (none i (x ∙ ap (λ (t : Tree). Some t) (sym y.1))) ]
  | inr x ↦ elim (place_of_more es e a j q) [ inl y ↦ absurd (none j (y ∙ ap (λ (t : Tree). Some t) (sym x.1))) | inr y ↦ x.0 ∙ sym y.0 ]
]

lesser_later : (s : List Tree) (n : ℕ) (es : List Tree) → HaveLesser s n es → HaveLesser s (n + 1) es
lesser_later s n es h i e p = let b = h i e p in (b.0, omega (arith, b.1), b.2)

lesser_more : (s : List Tree) (n : ℕ) (es : List Tree) (e : Tree) → get_or s n (Leaf HEnd) ≡ e → HaveLesser s n es → HaveLesser s (n + 1) (es ++ e ∷ [])
lesser_more s n es e is h i a p = elim (place_of_more es e a i p) [ inl x ↦ lesser_later s n es h i a x | inr x ↦ (n, omega arith, is ∙ x.1) ]

no_trees : (k : LineKind) (i : ℕ) (e : Tree) → slice_get (of_kind k nothing_before) i ≡ Some e → ⊥
no_trees kind.Type i e h = cc
no_trees kind.Pattern i e h = cc
no_trees kind.Expression i e h = cc

-- what stood at a place still does
kept_types : (k : LineKind) (r : Earlier) (e a : Tree) (n : ℕ) → slice_get r.types n ≡ Some a → slice_get (with_tree k r e).types n ≡ Some a
kept_types kind.Type r e a n h = further r.types (e ∷ []) n a h
kept_types kind.Pattern r e a n h = h
kept_types kind.Expression r e a n h = h

kept_patterns : (k : LineKind) (r : Earlier) (e a : Tree) (n : ℕ) → slice_get r.patterns n ≡ Some a → slice_get (with_tree k r e).patterns n ≡ Some a
kept_patterns kind.Type r e a n h = h
kept_patterns kind.Pattern r e a n h = further r.patterns (e ∷ []) n a h
kept_patterns kind.Expression r e a n h = h

kept_expressions : (k : LineKind) (r : Earlier) (e a : Tree) (n : ℕ) → slice_get r.expressions n ≡ Some a → slice_get (with_tree k r e).expressions n ≡ Some a
kept_expressions kind.Type r e a n h = h
kept_expressions kind.Pattern r e a n h = h
kept_expressions kind.Expression r e a n h = further r.expressions (e ∷ []) n a h

kept : (x : Sort) (k : LineKind) (r : Earlier) (e a : Tree) (n : ℕ) → slice_get (trees_of_sort x r) n ≡ Some a → slice_get (trees_of_sort x (with_tree k r e)) n ≡ Some a
kept sort.Kind k r e a n h = kept_types k r e a n h
kept sort.Pattern k r e a n h = kept_patterns k r e a n h
kept _ k r e a n h = kept_expressions k r e a n h

module _ (s : List Tree) where
  no_some : (numbers : List (Option ℕ)) (o : Option ℕ) (id : TermId) (n : ℕ) → line_at (numbers ++ o ∷ []) id ≡ Some n → (line_at numbers id ≡ Some n) ⊎ ((id.0 ≡ length numbers) × (o ≡ Some n))
  no_some numbers o id n h = at (slice_get (numbers ++ o ∷ []) id.0) refl h where
    found : (p : Option ℕ) → slice_get (numbers ++ o ∷ []) id.0 ≡ Some p → p ≡ Some n → (line_at numbers id ≡ Some n) ⊎ ((id.0 ≡ length numbers) × (o ≡ Some n))
    found p e is = elim (place_of_more numbers o p id.0 e) [ inl x ↦ inl (ap (option_and_then (λ (q : Option ℕ). q)) x ∙ is) | inr x ↦ inr (x.0, x.1 ∙ is) ]

    at : (p : Option (Option ℕ)) → slice_get (numbers ++ o ∷ []) id.0 ≡ p → option_and_then (λ (q : Option ℕ). q) p ≡ Some n → (line_at numbers id ≡ Some n) ⊎ ((id.0 ≡ length numbers) × (o ≡ Some n))
    at None e is = absurd (cc)
    at (Some p) e is = found p e is

  lines_past : (numbers : List (Option ℕ)) (r : Earlier) → AreLines s numbers r → AreLines s (numbers ++ None ∷ []) r
  lines_past numbers r are id n h = elim (no_some numbers None id n h) [ inl x ↦ are id n x | inr x ↦ absurd (none x.1) ] where
    none : None ≡ Some n → ⊥
    none e = cc

  lines_more : (numbers : List (Option ℕ)) (r : Earlier) (k : LineKind) (m : ℕ) → m ≡ length (of_kind k r) → IsOfKind k (get_or s (length numbers) (Leaf HEnd)) → AreLines s numbers r → AreLines s (numbers ++ Some m ∷ []) (with_tree k r (get_or s (length numbers) (Leaf HEnd)))
  lines_more numbers r k m is o are id n h = elim (no_some numbers (Some m) id n h) [ inl x ↦ old x | inr x ↦ new x.0 x.1 ] where
    e : Tree
    e = get_or s (length numbers) (Leaf HEnd)

    old : line_at numbers id ≡ Some n → slice_get (trees_of_sort (sort_of (tree_at s id)) (with_tree k r e)) n ≡ Some (tree_at s id)
    old x = kept (sort_of (tree_at s id)) k r e (tree_at s id) n (are id n x)

    here : (i : ℕ) → i ≡ length numbers → slice_get (trees_of_sort (sort_of (get_or s i (Leaf HEnd))) (with_tree k r e)) m ≡ Some (get_or s i (Leaf HEnd))
    here i same = subst (λ (j : ℕ). slice_get (trees_of_sort (sort_of (get_or s j (Leaf HEnd))) (with_tree k r e)) m ≡ Some (get_or s j (Leaf HEnd))) (sym same)
        (ap (λ (l : List Tree). slice_get l m) (sort_list (sort_of e) k (with_tree k r e) o ∙ own_more k r e) ∙ last (of_kind k r) e m is)

    new : id.0 ≡ length numbers → Some m ≡ Some n → slice_get (trees_of_sort (sort_of (tree_at s id)) (with_tree k r e)) n ≡ Some (tree_at s id)
    new same f = let g : m ≡ n = cc in subst (λ (j : ℕ). slice_get (trees_of_sort (sort_of (tree_at s id)) (with_tree k r e)) j ≡ Some (tree_at s id)) g (here id.0 same)

reads_more : (t : TaskTree) (table : List NameEntry) (roots : List Tree) (r : Earlier) (ls : List TreeLine) (end : Earlier) (l : TreeLine) (e : Tree) → ReadTrees t table roots r ls end → tree_by t table end l.kind l.words ≡ Some e → StandsIn roots e → ReadTrees t table roots r (ls ++ l ∷ []) (with_tree l.kind end e)
reads_more t table roots r [] end l e h m p = (e, subst (λ (x : Earlier). tree_by t table x l.kind l.words ≡ Some e) (sym h) m, p, ap (λ (x : Earlier). with_tree l.kind x e) h)
reads_more t table roots r (k ∷ ls) end l e h m p = (h.0, h.1, h.2, reads_more t table roots (with_tree k.kind r h.0) ls end l e h.3 m p)

pub whole_more : (ls : List (List ℕ)) (l : List ℕ) → whole_text (ls ++ l ∷ []) ≡ whole_text ls ++ (l ++ (10 ∷ []))
whole_more [] l = refl
whole_more (m ∷ ms) l = ap (λ (z : List ℕ). m ++ (10 ∷ z)) (whole_more ms l) ∙ sym (append_assoc m (10 ∷ whole_text ms) (l ++ (10 ∷ [])))

abbrev line_of : LineKind → List LineWord → TreeLine
line_of k ws = record { kind = k; words = ws }

counted_more : (k : LineKind) (r : Earlier) (e : Tree) (old new : Writing) → CountsLine k old new → AreCounted r old → (length (with_tree k r e).types ≡ new.types) × (length (with_tree k r e).patterns ≡ new.patterns) × (length (with_tree k r e).expressions ≡ new.expressions)
counted_more kind.Type r e old new c h = (
  length-append r.types (e ∷ []) ∙ ap (λ (n : ℕ). n + 1) h.types ∙ sym c.own,
  h.patterns ∙ sym (c.others kind.Pattern (λ (f : kind.Pattern ≡ kind.Type). absurd (cc))),
  h.expressions ∙ sym (c.others kind.Expression (λ (f : kind.Expression ≡ kind.Type). absurd (cc))),
)
counted_more kind.Pattern r e old new c h = (
  h.types ∙ sym (c.others kind.Type (λ (f : kind.Type ≡ kind.Pattern). absurd (cc))),
  length-append r.patterns (e ∷ []) ∙ ap (λ (n : ℕ). n + 1) h.patterns ∙ sym c.own,
  h.expressions ∙ sym (c.others kind.Expression (λ (f : kind.Expression ≡ kind.Pattern). absurd (cc))),
)
counted_more kind.Expression r e old new c h = (
  h.types ∙ sym (c.others kind.Type (λ (f : kind.Type ≡ kind.Expression). absurd (cc))),
  h.patterns ∙ sym (c.others kind.Pattern (λ (f : kind.Pattern ≡ kind.Expression). absurd (cc))),
  length-append r.expressions (e ∷ []) ∙ ap (λ (n : ℕ). n + 1) h.expressions ∙ sym c.own,
)

counted_same : (r : Earlier) (old mid : Writing) → mid.types ≡ old.types → mid.patterns ≡ old.patterns → mid.expressions ≡ old.expressions → length old.numbers.items ≤ length mid.numbers.items → AreCounted r old → AreCounted r mid
counted_same r old mid a b c l h = record {
  types = h.types ∙ sym a;
  patterns = h.patterns ∙ sym b;
  expressions = h.expressions ∙ sym c;
  few = few;
} where
  few : (k : LineKind) → count_of k mid ≤ length mid.numbers.items
  few kind.Type = omega (arith, h.few kind.Type, a, l)
  few kind.Pattern = omega (arith, h.few kind.Pattern, b, l)
  few kind.Expression = omega (arith, h.few kind.Expression, c, l)

kind_count : (k : LineKind) (r : Earlier) (w : Writing) → AreCounted r w → count_of k w ≡ length (of_kind k r)
kind_count kind.Type r w h = sym h.types
kind_count kind.Pattern r w h = sym h.patterns
kind_count kind.Expression r w h = sym h.expressions

-- nothing has been written
pub writing_none : (x : Trees) (w : Writing) → w.text.items ≡ [] → w.numbers.items ≡ [] → w.types ≡ 0 → w.patterns ≡ 0 → w.expressions ≡ 0 → IsWritingOf x w
writing_none x w text numbers a b c = record {
  written = record {
    lines = [];
    earlier = nothing_before;
    is = text;
    numbered = λ id n h. absurd (nothing id n (ap (λ (l : List (Option ℕ)). line_at l id) (sym numbers) ∙ h));
    once = λ k i j e h g. absurd (no_trees k i e h);
    back = λ t u. refl;
  };
  counted = record {
    types = sym a;
    patterns = sym b;
    expressions = sym c;
    few = few;
  };
  lesser = λ k i e h. absurd (no_trees k i e h);
  there = λ i k l. absurd (omega (arith, l, ap (λ (z : List (Option ℕ)). length z) numbers));
} where
  nothing : (id : TermId) (n : ℕ) → line_at [] id ≡ Some n → ⊥
  nothing id n h = cc

  few : (k : LineKind) → count_of k w ≤ length w.numbers.items
  few kind.Type = omega (arith, a)
  few kind.Pattern = omega (arith, b)
  few kind.Expression = omega (arith, c)

below_or : (i n : ℕ) → i < n + 1 → (i < n) ⊎ (i ≡ n)
below_or zero zero l = inr refl
below_or zero (suc n) l = inl (omega arith)
below_or (suc i) zero l = absurd (omega arith)
below_or (suc i) (suc n) l = elim (below_or i n (omega arith)) [ inl h ↦ inl (omega (arith, h)) | inr e ↦ inr (ap suc e) ]

-- the next tree has no line
pub writing_past : (x : Trees) (old new : Writing) → new.text.items ≡ old.text.items → new.numbers.items ≡ old.numbers.items ++ None ∷ [] → new.types ≡ old.types → new.patterns ≡ old.patterns → new.expressions ≡ old.expressions
    → ((k : LineKind) → IsNextLine x (length old.numbers.items) k → ⊥) → IsWritingOf x old → IsWritingOf x new
writing_past x old new text numbers a b c none h = record {
  written = record {
    lines = h.written.lines;
    earlier = h.written.earlier;
    is = text ∙ h.written.is;
    numbered = subst (λ (l : List (Option ℕ)). AreLines x.store.now l h.written.earlier) (sym numbers) (lines_past x.store.now old.numbers.items h.written.earlier h.written.numbered);
    once = h.written.once;
    back = h.written.back;
  };
  counted = counted_same h.written.earlier old new a b c (omega (arith, long)) h.counted;
  lesser = λ k. subst (λ (n : ℕ). HaveLesser x.store.now n (of_kind k h.written.earlier)) (sym long) (lesser_later x.store.now (length old.numbers.items) (of_kind k h.written.earlier) (h.lesser k));
  there = λ i k l next. at i k next (below_or i (length old.numbers.items) (omega (arith, l, long)));
} where
  long : length new.numbers.items ≡ length old.numbers.items + 1
  long = ap (λ (l : List (Option ℕ)). length l) numbers ∙ length-append old.numbers.items (None ∷ [])

  at : (i : ℕ) (k : LineKind) → IsNextLine x i k → (i < length old.numbers.items) ⊎ (i ≡ length old.numbers.items) → (n : ℕ) × (slice_get new.numbers.items i ≡ Some (Some n))
  at i k next (inl l) = let p = h.there i k l next in (p.0, ap (λ (z : List (Option ℕ)). slice_get z i) numbers ∙ further old.numbers.items (None ∷ []) i (Some p.0) p.1)
  at i k next (inr e) = absurd (none k (subst (λ (j : ℕ). IsNextLine x j k) e next))

-- the line of the next tree has been written
pub writing_more : (x : Trees) (old mid new : Writing) (k : LineKind) (m : ℕ) (words : List LineWord) → TreesHeld x → ((a b : TermId) → Holds x.store.now a → Holds x.store.now b → tree_at x.store.now a ≡ tree_at x.store.now b → a ≡ b) → IsNextLine x (length old.numbers.items) k → m ≡ count_of k old → mid.text.items ≡ old.text.items ++ line_text (letter k) words → mid.numbers.items ≡ old.numbers.items ++ Some m ∷ []
    → mid.types ≡ old.types → mid.patterns ≡ old.patterns → mid.expressions ≡ old.expressions → CountsLine k mid new → LineBack x.store.now x.table.now old.numbers.items k (next_tree x old) words → IsWritingOf x old → IsWritingOf x new
writing_more x old mid new k m words held apart next count text numbers a b c counts back h = record {
  written = record {
    lines = h.written.lines ++ line_of k words ∷ [];
    earlier = with_tree k h.written.earlier (next_tree x old);
    is = counts.text ∙ text ∙ ap (λ (l : List ℕ). l ++ line_text (letter k) words) h.written.is ∙ sym (ap whole_text (map_push line_bytes h.written.lines (line_of k words)) ∙ whole_more (map line_bytes h.written.lines) (line_bytes (line_of k words)));
    numbered = subst (λ (l : List (Option ℕ)). AreLines x.store.now l (with_tree k h.written.earlier (next_tree x old))) (sym all)
        (lines_more x.store.now old.numbers.items h.written.earlier k m (count ∙ kind_count k h.written.earlier old h.counted) next.kind h.written.numbered);
    once = each_more Differ k h.written.earlier (next_tree x old) h.written.once (differ_more (of_kind k h.written.earlier) (next_tree x old) (h.written.once k) new_tree);
    back = λ t u. reads_more t x.table.now (trees_at x.store.now x.roots.now) nothing_before h.written.lines h.written.earlier (line_of k words) (next_tree x old) (h.written.back t u) (back t h.written.earlier (u (next_tree x old) stands) h.written.numbered) stands;
  };
  lesser = λ j. subst (λ (n : ℕ). HaveLesser x.store.now n (of_kind j (with_tree k h.written.earlier (next_tree x old)))) (sym long)
      (each_more (HaveLesser x.store.now (length old.numbers.items + 1)) k h.written.earlier (next_tree x old)
      (λ i. lesser_later x.store.now (length old.numbers.items) (of_kind i h.written.earlier) (h.lesser i))
      (lesser_more x.store.now (length old.numbers.items) (of_kind k h.written.earlier) (next_tree x old) refl (h.lesser k)) j);
  counted = record { types = now.0; patterns = now.1; expressions = now.2; few = λ j. omega (arith, counts.few j, few j, long) };
  there = λ i j l n. at i j n (below_or i (length old.numbers.items) (omega (arith, l, long)));
} where
  all : new.numbers.items ≡ old.numbers.items ++ Some m ∷ []
  all = counts.numbers ∙ numbers

  long : length new.numbers.items ≡ length old.numbers.items + 1
  long = ap (λ (l : List (Option ℕ)). length l) all ∙ length-append old.numbers.items (Some m ∷ [])

  between : length old.numbers.items ≤ length mid.numbers.items
  between = omega (arith, ap (λ (l : List (Option ℕ)). length l) numbers ∙ length-append old.numbers.items (Some m ∷ []))

  now : (length (with_tree k h.written.earlier (next_tree x old)).types ≡ new.types) × (length (with_tree k h.written.earlier (next_tree x old)).patterns ≡ new.patterns) × (length (with_tree k h.written.earlier (next_tree x old)).expressions ≡ new.expressions)
  now = counted_more k h.written.earlier (next_tree x old) mid new counts (counted_same h.written.earlier old mid a b c between h.counted)

  few : (j : LineKind) → count_of j mid ≤ length old.numbers.items
  few kind.Type = omega (arith, h.counted.few kind.Type, a)
  few kind.Pattern = omega (arith, h.counted.few kind.Pattern, b)
  few kind.Expression = omega (arith, h.counted.few kind.Expression, c)

  -- the next tree has no line yet
  new_tree : (i : ℕ) → slice_get (of_kind k h.written.earlier) i ≡ Some (next_tree x old) → ⊥
  new_tree i e =
      let b = h.lesser k i (next_tree x old) e in
      let next_held = held.marks.first.held (length old.numbers.items) next.mark in
      let same = apart (record { 0 = b.0 }) (record { 0 = length old.numbers.items }) (omega (arith, b.1, next_held)) next_held b.2 in
      let equal : b.0 ≡ length old.numbers.items = ap (λ (id : TermId). id.0) same in
      omega (arith, b.1, equal)

  stands : StandsIn (trees_at x.store.now x.roots.now) (next_tree x old)
  stands = held.marks.first.parts (length old.numbers.items) next.mark

  at : (i : ℕ) (j : LineKind) → IsNextLine x i j → (i < length old.numbers.items) ⊎ (i ≡ length old.numbers.items) → (n : ℕ) × (slice_get new.numbers.items i ≡ Some (Some n))
  at i j n (inl l) = let p = h.there i j l n in (p.0, ap (λ (z : List (Option ℕ)). slice_get z i) all ∙ further old.numbers.items (Some m ∷ []) i (Some p.0) p.1)
  at i j n (inr e) = (m, ap (λ (z : List (Option ℕ)). slice_get z i) all ∙ last old.numbers.items (Some m) i e)

no_mark : (marks : List Bool) (i : ℕ) → IsMarked marks i → i < length marks
no_mark [] i h = cc
no_mark (m ∷ ms) zero h = omega arith
no_mark (m ∷ ms) (suc i) h = let l = no_mark ms i h in omega (arith, l)

-- all trees have been written
pub lines_there : (x : Trees) (w : Writing) → TreesHeld x → length w.numbers.items ≡ length x.marks.now → IsWritingOf x w → HaveLines x.store.now w.numbers.items (trees_at x.store.now x.roots.now)
lines_there x w held all h i d l k o =
    let r = get_or x.roots.now i no_id in
    let lt : i < length x.roots.now = omega (arith, l, length-map x.roots.now (tree_at x.store.now)) in
    let is : get_or (trees_at x.store.now x.roots.now) i d ≡ tree_at x.store.now r = get_or-map (tree_at x.store.now) x.roots.now i no_id d lt in
    let mark = held.marks.first.own i no_id lt in
    let n = h.there r.0 k (omega (arith, no_mark x.marks.now r.0 mark, all)) (record { mark = mark; kind = subst (IsOfKind k) is o }) in
    record { id = r; held = held.marks.first.held r.0 mark; is = sym is; number = n.0; line = ap (option_and_then (λ (q : Option ℕ). q)) n.1 }
  where
    no_id : TermId
    no_id = record { 0 = 0 }

-- whether a name was found
pub found_iff : (table : List NameEntry) (symbol : NameOf) (types : List Tree) (list : Tree) (o : Option Spelling) (b : Bool) → b ≡ is_some o → list ≡ cells types → IfSome o (λ (w : Spelling). (ts : List Tree) → list ≡ cells ts → Spells table symbol ts w.name.now w.whole)
    → ((ts : List Tree) → list ≡ cells ts → IsSpelt table symbol ts → IsSome o) → (IsTrue b → IsSpelt table symbol types) × (IsSpelt table symbol types → IsTrue b)
found_iff table symbol types list None b e is spells found = (λ t. let f : false ≡ true = sym e ∙ t in absurd (cc), λ h. let f : false ≡ true = found types is h in absurd (cc))
found_iff table symbol types list (Some w) b e is spells found = (λ t. record { name = w.name.now; whole = w.whole; spells = spells types is }, λ h. e)

-- one word more
spaced_end : (vs : List LineWord) (w : LineWord) → spaced (vs ++ w ∷ []) ≡ spaced vs ++ (32 ∷ w)
spaced_end [] w = ap (λ (l : List ℕ). 32 ∷ l) (append-nil w)
spaced_end (v ∷ vs) w = ap (λ (l : List ℕ). 32 ∷ (v ++ l)) (spaced_end vs w) ∙ ap (λ (l : List ℕ). 32 ∷ l) (sym (append_assoc v (spaced vs) (32 ∷ w)))

pub line_more : {Y : Type 0} (words : List (Vec ℕ Y)) (i : ℕ) (w : Vec ℕ Y) (start old between new bytes : List ℕ) → i < length words → w ≡ get_or words i w → old ≡ start ++ spaced (words_of (take i words)) → between ≡ old ++ 32 ∷ [] → bytes ≡ w.items → new ≡ between ++ bytes
    → new ≡ start ++ spaced (words_of (take (i + 1) words))
line_more {Y} words i w start old between new bytes lt is e f g h =
    let more : take (i + 1) words ≡ take i words ++ w ∷ [] = take_more words i w lt ∙ ap (λ (v : Vec ℕ Y). take i words ++ v ∷ []) (sym is) in
    let all : spaced (words_of (take (i + 1) words)) ≡ spaced (words_of (take i words)) ++ (32 ∷ w.items) = ap (λ (l : List (Vec ℕ Y)). spaced (words_of l)) more ∙ ap spaced (words_end (take i words) w) ∙ spaced_end (words_of (take i words)) w.items in
    h ∙ ap (λ (l : List ℕ). l ++ bytes) (f ∙ ap (λ (l : List ℕ). l ++ 32 ∷ []) e) ∙ append_assoc (start ++ spaced (words_of (take i words))) (32 ∷ []) bytes
    ∙ ap (λ (l : List ℕ). (start ++ spaced (words_of (take i words))) ++ (32 ∷ l)) g ∙ append_assoc start (spaced (words_of (take i words))) (32 ∷ w.items) ∙ ap (λ (l : List ℕ). start ++ l) (sym all)

pub count_same : (k : LineKind) (old mid : Writing) → mid.types ≡ old.types → mid.patterns ≡ old.patterns → mid.expressions ≡ old.expressions → count_of k mid ≡ count_of k old
count_same kind.Type old mid a b c = a
count_same kind.Pattern old mid a b c = b
count_same kind.Expression old mid a b c = c
