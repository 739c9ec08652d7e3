-- What is written is read back.
use Rattle.std.proofs.Common.{◌≡◌, ℕ, zero, suc, Result, Ok, Err, IfOk, OnOk, Bool, true, false, List, [], ◌∷◌, ◌++◌, All, Option, Some, None, Vec, slice_get, sym, refl, ap, subst, ◌∙◌, append-nil, append_assoc, arith}
use Rattle.std.specs.Option.{option_map, option_and_then}
use Rattle.tasks.specs.trees.declared.TermId.{TermId}
use Rattle.tasks.specs.trees.declared.Node.{Node}
use Rattle.tasks.specs.trees.declared.Node.TheVariants.{TyRigid, TyApp}
use Rattle.tasks.specs.trees.declared.Sort.TheVariants.{Kind}
use Rattle.tasks.specs.trees.Tree.{Tree, Leaf, One, HEnd, HTyRigid, HTyApp}
use Rattle.tasks.specs.trees.Sorts.{WellSorted, IsList}
use Rattle.tasks.specs.trees.Node.{node_tree}
use Rattle.tasks.specs.Task.{TaskTree}
use Rattle.tasks.specs.Typing.{members}
use Rattle.name_tables.specs.declared.name_entries.names.NameOf.{NameOf}
use Rattle.name_tables.specs.declared.name_entries.names.NameEntry.{NameEntry}
use Rattle.step_lines.specs.tree_lines.Words.{LineWord, number, each, at_number}
use Rattle.name_tables.specs.declared.name_entries.names.NameOf.TheVariants.{Rigid}
use Rattle.step_lines.specs.tree_lines.Named.{meaning_by, named_type_at, cells}
use Rattle.step_lines.specs.tree_lines.Lines.{Earlier, meaning_types, type_of_line}
use Rattle.step_writing.specs.tree_writing.Spelt.{Spells, IsSpelt, types_under}
use Rattle.step_writing.proofs.tree_writing.Cells.{is_cells}
use Rattle.step_writing.proofs.tree_writing.Partly.{words_end}
use Rattle.step_writing.specs.tree_writing.Referring.{words_of, PushesNumbers, AreLines, ReferAll}
use Rattle.step_writing.specs.tree_writing.Naming.{types_after, type_name, PushesSymbol, TypeSpelt}

-- words that write numbers refer to what is at these
pub each_through : (things : List Tree) (ws : List LineWord) (ns : List ℕ) (es : List Tree) → each number ws ≡ Some ns → each (slice_get things) ns ≡ Some es → each (at_number things) ws ≡ Some es
each_through things [] ns es e h =
    let none : [] ≡ ns = cc in
    ap (each (slice_get things)) none ∙ h
each_through things (w ∷ ws) ns es e h = at (number w) (each number ws) refl e (λ ms fs k l. each_through things ws ms fs k l) where
  at : (o : Option ℕ) (rest : Option (List ℕ)) → each number ws ≡ rest → option_and_then (λ n. option_map (λ ms. n ∷ ms) rest) o ≡ Some ns
      → ((ms : List ℕ) (fs : List Tree) → each number ws ≡ Some ms → each (slice_get things) ms ≡ Some fs → each (at_number things) ws ≡ Some fs)
      → option_and_then (λ y. option_map (λ ys. y ∷ ys) (each (at_number things) ws)) (option_and_then (slice_get things) o) ≡ Some es
  at None rest is k more = absurd (cc)
  at (Some n) None is k more = absurd (cc)
  at (Some n) (Some ms) is k more = by (slice_get things n) (each (slice_get things) ms) refl (ap (each (slice_get things)) (let j : n ∷ ms ≡ ns = cc in j) ∙ h) (λ fs l. more ms fs is l) where
    by : (o : Option Tree) (rest : Option (List Tree)) → each (slice_get things) ms ≡ rest → option_and_then (λ y. option_map (λ ys. y ∷ ys) rest) o ≡ Some es
        → ((fs : List Tree) → each (slice_get things) ms ≡ Some fs → each (at_number things) ws ≡ Some fs)
        → option_and_then (λ y. option_map (λ ys. y ∷ ys) (each (at_number things) ws)) o ≡ Some es
    by None rest was k more = absurd (cc)
    by (Some y) None was k more = absurd (cc)
    by (Some y) (Some fs) was k more = ap (option_map (λ ys. y ∷ ys)) (more fs was) ∙ k

joined : (whole : Bool) (types : List Tree) → types_under whole types ++ types_after whole types ≡ types
joined true types = refl
joined false types = append-nil types

-- the types at which a name stands, with those that follow it
pub types_back : (t : TaskTree) (table : List NameEntry) (r : Earlier) (symbol : NameOf) (whole : Bool) (types : List Tree) (more : List LineWord) → each (at_number r.types) more ≡ Some (types_after whole types)
    → meaning_types t table r (meaning_by symbol (types_under whole types)) more ≡ Some types
types_back t table r symbol whole types more e = ap (option_map (λ ts. types_under whole types ++ ts)) e ∙ ap Some (joined whole types)

pub type_back : (s : List Tree) (t : TaskTree) (table : List NameEntry) (lines : List (Option ℕ)) (r : Earlier) (symbol : NameOf) (types : List Tree) (ty : Tree) (ws : List LineWord) → AreLines s lines r → PushesSymbol s table lines symbol types [] ws → named_type_at symbol types ≡ Some ty
    → type_of_line t table r ws ≡ Some ty
type_back s t table lines r symbol types ty ws are p e =
    ap (type_of_line t table r) p.is
    ∙ ap (option_and_then (λ n. option_and_then (named_type_at n.symbol) (meaning_types t table r n p.more))) p.spells
    ∙ ap (option_and_then (named_type_at symbol)) (types_back t table r symbol p.whole types p.more (each_through r.types p.more p.ns (types_after p.whole types) p.numbers (p.refer r are)))
    ∙ e

pub no_other_type : (table : List NameEntry) (s : List Tree) (n : Node) → TypeSpelt table (node_tree s n) → ((k : ℕ) → n ≡ TyRigid k → ⊥) → ((k : ℕ) (a : TermId) → n ≡ TyApp k a → ⊥) → ⊥
no_other_type table s (TyRigid k) h rigid app = rigid k refl
no_other_type table s (TyApp k a) h rigid app = app k a refl
no_other_type table s _ h rigid app = h

-- the parts of a type
pub rigid_same : (k : ℕ) (end : Tree) → end ≡ Leaf HEnd → named_type_at (Rigid k) (members end) ≡ Some (Leaf (HTyRigid k))
rigid_same k end e = ap (λ x. named_type_at (Rigid k) (members x)) e

pub rigid_spelt : (table : List NameEntry) (k : ℕ) (end : Tree) → end ≡ Leaf HEnd → IsSpelt table (Rigid k) [] → IsSpelt table (Rigid k) (members end)
rigid_spelt table k end e h = subst (λ (x : Tree). IsSpelt table (Rigid k) (members x)) (sym e) h

pub empty_list : (P : Tree → Type 0) (end : Tree) → end ≡ Leaf HEnd → All P (members end)
empty_list P end e = subst (λ (x : Tree). All P (members x)) (sym e) (λ k d lt. absurd (omega arith))

app_type : (k : ℕ) (types : List Tree) → named_type_at (type_name k) types ≡ Some (One (HTyApp k) (cells types))
app_type zero types = refl
app_type (suc k) types = refl

pub app_same : (k : ℕ) (list : Tree) → WellSorted list → IsList Kind list → named_type_at (type_name k) (members list) ≡ Some (One (HTyApp k) list)
app_same k list w h = app_type k (members list) ∙ ap (λ x. Some (One (HTyApp k) x)) (sym (is_cells list w h.0))

pub if_ok : {A E : Type 0} {P Q : A → Type 0} (r : Result A E) → IfOk r P → ((v : A) → P v → Q v) → IfOk r Q
if_ok (Ok v) h f = f v h
if_ok (Err e) h f = tt

pub on_ok : {A E : Type 0} {P Q : Type 0} (r : Result A E) → OnOk r P → (P → Q) → OnOk r Q
on_ok (Ok v) h f = f h
on_ok (Err e) h f = tt

-- a name, and then the words of numbers
pub pushes_symbol : {Y : Type 0} (s : List Tree) (table : List NameEntry) (lines : List (Option ℕ)) (symbol : NameOf) (types : List Tree) (old between : List (Vec ℕ Y)) (new : List LineWord) (word : Vec ℕ Y) (name : LineWord) (whole : Bool) (ns : List ℕ)
    → Spells table symbol types name whole → word.items ≡ name → between ≡ old ++ word ∷ [] → ReferAll s lines Kind ns (types_after whole types) → PushesNumbers (words_of between) new ns
    → PushesSymbol s table lines symbol types (words_of old) new
pushes_symbol s table lines symbol types old between new word name whole ns spells named pushed refer p = record {
  name = name;
  whole = whole;
  more = p.more;
  ns = ns;
  is = p.is ∙ ap (λ l. l ++ p.more) (ap words_of pushed ∙ words_end old word ∙ ap (λ w. words_of old ++ w ∷ []) named) ∙ append_assoc (words_of old) (name ∷ []) p.more;
  spells = spells;
  numbers = p.numbers;
  refer = refer;
}
