-- Lines of symbols with their types and parts are read back.
use Rattle.std.proofs.Common.{◌≡◌, ℕ, suc, ◌-◌, Bool, true, false, List, [], ◌∷◌, ◌++◌, length, take, drop, Option, Some, None, slice_get, codes, sym, refl, ap, ◌∙◌, arith, IsSomeAnd}
use Rattle.std.specs.Option.{option_map, option_and_then}
use Rattle.tasks.specs.trees.declared.TermId.{TermId}
use Rattle.tasks.specs.trees.declared.Node.{Node}
use Rattle.tasks.specs.trees.declared.Node.TheVariants as node
use Rattle.tasks.specs.trees.Node.{node_tree}
use Rattle.tasks.specs.trees.declared.Sort.{Sort}
use Rattle.tasks.specs.trees.declared.Sort.TheVariants.{Kind, Term, Pattern}
use Rattle.tasks.specs.trees.Tree.{Tree, One, Two, Three, HPred, HFun, HPatCon, HPatAny, HPatVar, HPatAlias}
use Rattle.tasks.specs.trees.Binding.{inst_types}
use Rattle.tasks.specs.trees.Sorts.{IsList, sort_of, WellSorted}
use Rattle.tasks.specs.declared.signature.SymbolKind.{SymbolKind}
use Rattle.tasks.specs.declared.signature.SymbolKind.TheVariants as kind
use Rattle.tasks.specs.Task.{TaskTree, SymbolTree}
use Rattle.tasks.specs.Typing.{members, MakesTerms, HasResult}
use Rattle.name_tables.specs.declared.name_entries.names.NameOf.TheVariants.{Symbol}
use Rattle.name_tables.specs.declared.name_entries.names.NameEntry.{NameEntry}
use Rattle.step_lines.specs.tree_lines.Words.{LineWord, each, at_number}
use Rattle.step_lines.specs.tree_lines.Named.{cells, meaning, meaning_by}
use Rattle.step_lines.specs.tree_lines.Lines.{Earlier, use_by, use_of, used_on, named_use, meaning_types, pattern_of_line, expression_of_line, application_tree, applied_as, term_of, constructor_pattern_tree, use_trees}
use Rattle.step_writing.specs.tree_writing.Spelt.{types_under}
use Rattle.step_writing.specs.tree_writing.Referring.{AreLines, trees_of_sort}
use Rattle.step_writing.specs.tree_writing.Naming.{types_after, PushesSymbol}
use Rattle.step_writing.specs.tree_writing.Plain.{IsOneWord}
use Rattle.step_writing.specs.tree_writing.Used.{PushesParts, AreUseWords, HasPatternForm, IsApplied}
use Rattle.step_writing.proofs.tree_writing.Cells.{is_cells}
use Rattle.step_writing.proofs.tree_writing.Reading.{each_through, types_back}
use Rattle.step_writing.proofs.tree_writing.PlainBack.{of_kind, of_pattern}

pub are_use_words : (s : List Tree) (table : List NameEntry) (lines : List (Option ℕ)) (word : LineWord) (k : ℕ) (types parts : Tree) (between ws : List LineWord) → PushesSymbol s table lines (Symbol k) (members types) (word ∷ []) between → PushesParts s lines parts between ws → AreUseWords s table lines word k types parts ws
are_use_words s table lines word k types parts between ws p q = record {
  name = p.name;
  whole = p.whole;
  more = p.more;
  ns = p.ns;
  last = q.more;
  ms = q.ns;
  is = q.is ∙ ap (λ l. l ++ q.more) p.is;
  spells = p.spells;
  numbers = p.numbers;
  refer = p.refer;
  last_numbers = q.numbers;
  last_refer = q.refer;
}

each_length : {A B : Type 0} (f : A → Option B) (xs : List A) (ys : List B) → each f xs ≡ Some ys → length xs ≡ length ys
each_length f [] ys e = let none : [] ≡ ys = cc in ap length none
each_length {A} {B} f (x ∷ xs) ys e = at (f x) (each f xs) refl e (λ zs k. each_length f xs zs k) where
  at : (o : Option B) (rest : Option (List B)) → each f xs ≡ rest → option_and_then (λ y. option_map (λ zs. y ∷ zs) rest) o ≡ Some ys → ((zs : List B) → each f xs ≡ Some zs → length xs ≡ length zs) → length (x ∷ xs) ≡ length ys
  at None rest is k more = absurd (cc)
  at (Some y) None is k more = absurd (cc)
  at (Some y) (Some zs) is k more =
      let same : y ∷ zs ≡ ys = cc in
      ap suc (more zs is) ∙ ap length same

pub take_front : {A : Type 0} (xs ys : List A) → take (length xs) (xs ++ ys) ≡ xs
take_front [] ys = refl
take_front (x ∷ xs) ys = ap (λ l. x ∷ l) (take_front xs ys)

pub drop_front : {A : Type 0} (xs ys : List A) → drop (length xs) (xs ++ ys) ≡ ys
drop_front [] ys = refl
drop_front (x ∷ xs) ys = drop_front xs ys

-- how many types follow a name
follow : (whole : Bool) (types : List Tree) (vars : ℕ) → length types ≡ vars → vars - length (types_under whole types) ≡ length (types_after whole types)
follow true types vars h = omega arith
follow false types vars h = omega arith

module _ (t : TaskTree) (table : List NameEntry) (r : Earlier) (part : LineWord → Option Tree) where
  -- a symbol's use is read back
  pub use_back : (name : LineWord) (whole : Bool) (types parts : List Tree) (more last : List LineWord) (k : ℕ) (e : SymbolTree) → meaning table name ≡ Some (meaning_by (Symbol k) (types_under whole types)) → slice_get t.symbols k ≡ Some e → length types ≡ e.vars
      → each (at_number r.types) more ≡ Some (types_after whole types) → each part last ≡ Some parts → used_on t table r part (name ∷ more ++ last) ≡ Some (use_by k e types parts)
  use_back name whole types parts more last k e means there many first second =
      let n = meaning_by (Symbol k) (types_under whole types) in
      let count : e.vars - length (types_under whole types) ≡ length more = follow whole types e.vars many ∙ sym (each_length (at_number r.types) more (types_after whole types) first) in
      ap (option_and_then (named_use t table r part (more ++ last))) means
      ∙ ap (option_and_then (use_of t table r part n (more ++ last) k)) there
      ∙ ap (λ (c : ℕ). option_and_then (λ ts. option_map (use_by k e ts) (each part (drop c (more ++ last)))) (meaning_types t table r n (take c (more ++ last)))) count
      ∙ ap (λ l. option_and_then (λ ts. option_map (use_by k e ts) (each part (drop (length more) (more ++ last)))) (meaning_types t table r n l)) (take_front more last)
      ∙ ap (λ l. option_and_then (λ ts. option_map (use_by k e ts) (each part l)) (meaning_types t table r n more)) (drop_front more last)
      ∙ ap (option_and_then (λ ts. option_map (use_by k e ts) (each part last))) (types_back t table r (Symbol k) whole types more first)
      ∙ ap (option_map (use_by k e types)) second

module _ (s : List Tree) (table : List NameEntry) (lines : List (Option ℕ)) (t : TaskTree) (r : Earlier) (are : AreLines s lines r) (word : LineWord) (k : ℕ) (a b : Tree) (ws : List LineWord) (e : SymbolTree)
    (there : slice_get t.symbols k ≡ Some e) (many : length (members a) ≡ e.vars) (h : AreUseWords s table lines word k a b ws) where
  used_back : (sort : Sort) → IsList sort b → used_on t table r (at_number (trees_of_sort sort r)) (h.name ∷ h.more ++ h.last) ≡ Some (use_by k e (members a) (members b))
  used_back sort l = use_back t table r (at_number (trees_of_sort sort r)) h.name h.whole (members a) (members b) h.more h.last k e h.spells there many
      (each_through r.types h.more h.ns (types_after h.whole (members a)) h.numbers (h.refer r are))
      (each_through (trees_of_sort sort r) h.last h.ms (members b) h.last_numbers (h.last_refer sort l r are))

  gives_trees : (c : Tree) → HasResult e a c → use_trees (use_by k e (members a) (members b)) ≡ Some (cells (members a), cells (members b), c)
  gives_trees c g = at e.result g where
    at : (o : Option Tree) → option_map (λ x. inst_types x (members a)) o ≡ Some c → option_map {U = Tree × Tree × Tree} (λ ty. (cells (members a), cells (members b), inst_types ty (members a))) o ≡ Some (cells (members a), cells (members b), c)
    at None g = absurd (cc)
    at (Some ty) g =
        let same : inst_types ty (members a) ≡ c = cc in
        ap (λ (x : Tree). Some (cells (members a), cells (members b), x)) same

  module _ (wa : WellSorted a) (la : IsList Kind a) (wb : WellSorted b) where
    pub con_back : (c : Tree) → IsList Pattern b → word ≡ codes "con" → HasResult e a c → pattern_of_line t table r ws ≡ Some (Three (HPatCon k) a b c)
    con_back c l is g =
        ap (pattern_of_line t table r) (h.is ∙ ap (λ w. w ∷ h.name ∷ h.more ++ h.last) is)
        ∙ ap (option_and_then constructor_pattern_tree) (used_back Pattern l)
        ∙ ap (option_map (λ (p : Tree × Tree × Tree). Three (HPatCon k) p.0 p.1 p.2)) (gives_trees c g)
        ∙ ap (λ (x : Tree). Some (Three (HPatCon k) x (cells (members b)) c)) (sym (is_cells a wa la.0))
        ∙ ap (λ (x : Tree). Some (Three (HPatCon k) a x c)) (sym (is_cells b wb l.0))

    pub pred_back : IsList Term b → word ≡ codes "sym" → e.kind ≡ kind.Predicate → expression_of_line t table r ws ≡ Some (Two (HPred k) a b)
    pred_back l is predicate =
        ap (expression_of_line t table r) (h.is ∙ ap (λ w. w ∷ h.name ∷ h.more ++ h.last) is)
        ∙ ap (option_and_then application_tree) (used_back Term l)
        ∙ at e.kind predicate
        ∙ ap (λ (x : Tree). Some (Two (HPred k) x (cells (members b)))) (sym (is_cells a wa la.0))
        ∙ ap (λ (x : Tree). Some (Two (HPred k) a x)) (sym (is_cells b wb l.0)) where
          at : (x : SymbolKind) → x ≡ kind.Predicate → applied_as x (use_by k e (members a) (members b)) ≡ Some (Two (HPred k) (cells (members a)) (cells (members b)))
          at x p = ap (λ (y : SymbolKind). applied_as y (use_by k e (members a) (members b))) p

    pub fun_back : (c : Tree) → IsList Term b → word ≡ codes "sym" → MakesTerms e.kind → HasResult e a c → expression_of_line t table r ws ≡ Some (Three (HFun k) a b c)
    fun_back c l is makes g =
        ap (expression_of_line t table r) (h.is ∙ ap (λ w. w ∷ h.name ∷ h.more ++ h.last) is)
        ∙ ap (option_and_then application_tree) (used_back Term l)
        ∙ at e.kind makes
        ∙ ap (option_map (λ (p : Tree × Tree × Tree). Three (HFun k) p.0 p.1 p.2)) (gives_trees c g)
        ∙ ap (λ (x : Tree). Some (Three (HFun k) x (cells (members b)) c)) (sym (is_cells a wa la.0))
        ∙ ap (λ (x : Tree). Some (Three (HFun k) a x c)) (sym (is_cells b wb l.0)) where
          at : (x : SymbolKind) → MakesTerms x → applied_as x (use_by k e (members a) (members b)) ≡ term_of (use_by k e (members a) (members b))
          at kind.Kind m = absurd m
          at kind.Predicate m = absurd m
          at kind.Function m = refl
          at kind.Constructor m = refl
          at kind.Projection m = refl

-- patterns of one part
module _ (s : List Tree) (lines : List (Option ℕ)) (t : TaskTree) (table : List NameEntry) (r : Earlier) (are : AreLines s lines r) (a : Tree) (ws : List LineWord) where
  pub any_back : sort_of a ≡ Kind → IsOneWord s lines (codes "any") a ws → pattern_of_line t table r ws ≡ Some (One HPatAny a)
  any_back f h = ap (pattern_of_line t table r) h.is ∙ ap (option_map (λ x. One HPatAny x)) (of_kind s lines r h.first a are f h.a_there)

  pub var_back : sort_of a ≡ Kind → IsOneWord s lines (codes "var") a ws → pattern_of_line t table r ws ≡ Some (One HPatVar a)
  var_back f h = ap (pattern_of_line t table r) h.is ∙ ap (option_map (λ x. One HPatVar x)) (of_kind s lines r h.first a are f h.a_there)

  pub alias_back : sort_of a ≡ Pattern → IsOneWord s lines (codes "as") a ws → pattern_of_line t table r ws ≡ Some (One HPatAlias a)
  alias_back f h = ap (pattern_of_line t table r) h.is ∙ ap (option_map (λ x. One HPatAlias x)) (of_pattern s lines r h.first a are f h.a_there)

pub no_other_pattern : (s : List Tree) (n : Node) → HasPatternForm (node_tree s n) → ((a : TermId) → n ≡ node.PatAny a → ⊥) → ((a : TermId) → n ≡ node.PatVar a → ⊥) → ((k : ℕ) (a b c : TermId) → n ≡ node.PatCon k a b c → ⊥) → ((a : TermId) → n ≡ node.PatAlias a → ⊥) → ⊥
no_other_pattern s (node.PatAny a) h n1 n2 n3 n4 = n1 a refl
no_other_pattern s (node.PatVar a) h n1 n2 n3 n4 = n2 a refl
no_other_pattern s (node.PatCon k a b c) h n1 n2 n3 n4 = n3 k a b c refl
no_other_pattern s (node.PatAlias a) h n1 n2 n3 n4 = n4 a refl
no_other_pattern s _ h n1 n2 n3 n4 = h

pub no_other_use : (s : List Tree) (n : Node) → IsApplied (node_tree s n) → ((k : ℕ) (a b c : TermId) → n ≡ node.Fun k a b c → ⊥) → ((k : ℕ) (a b : TermId) → n ≡ node.Pred k a b → ⊥) → ⊥
no_other_use s (node.Fun k a b c) h n1 n2 = n1 k a b c refl
no_other_use s (node.Pred k a b) h n1 n2 = n2 k a b refl
no_other_use s _ h n1 n2 = h
