-- Lines of matches are read back.
use Rattle.std.proofs.Common.{◌≡◌, ℕ, List, [], ◌∷◌, ◌++◌, map, Option, Some, None, codes, sym, refl, ap, subst, ◌∙◌, append_assoc, append-nil}
use Rattle.std.specs.Option.{option_map, option_and_then}
use Rattle.tasks.specs.trees.declared.TermId.{TermId}
use Rattle.tasks.specs.trees.declared.Node.{Node}
use Rattle.tasks.specs.trees.declared.Node.TheVariants.{Arm, Cell}
use Rattle.tasks.specs.trees.Tree.{Tree, Leaf, One, Two, Three, Head, HEnd, HCell, HArm, HCase, HLet, HIf, HNum, HTrue, HFalse, HBound, HParam, HNot, HPatAny, HPatVar, HPatAlias}
use Rattle.tasks.specs.trees.Node.{node_tree}
use Rattle.step_lines.specs.tree_lines.Words.{LineWord, pairs, at_number}
use Rattle.step_lines.specs.tree_lines.Lines.{Earlier}
use Rattle.tasks.specs.trees.declared.Sort.{Sort}
use Rattle.tasks.specs.trees.declared.Sort.TheVariants.{Branch, Term}
use Rattle.tasks.specs.trees.Sorts.{leaf_sort, one_sort, two_sort, three_sort, yield, WellSorted, IsList, sort_of}
use Rattle.tasks.specs.Typing.{members}
use Rattle.name_tables.specs.declared.name_entries.names.NameEntry.{NameEntry}
use Rattle.step_lines.specs.tree_lines.Named.{cells}
use Rattle.step_lines.specs.tree_lines.Lines.{arm_list, match_tree, expression_of_line}
use Rattle.step_writing.specs.tree_writing.Referring.{AreLines, Refers, PushesNumbers}
use Rattle.step_writing.specs.tree_writing.Plain.{IsOneWord, ReadsBack}
use Rattle.step_writing.specs.tree_writing.Branches.{branch_list, IsArm, PushesBranches, BranchLines}
use Rattle.step_writing.proofs.tree_writing.Cells.{is_cells}
use Rattle.step_writing.proofs.tree_writing.Partly.{rest_list}
use Rattle.step_writing.proofs.tree_writing.PlainBack.{two_numbers, word_refers, of_pattern, of_expression, of_term}

pub no_arm : (s : List Tree) (n : Node) → ((a b : TermId) → n ≡ Arm a b → ⊥) → IsArm (node_tree s n) → ⊥
no_arm s (Arm a b) h k = h a b refl
no_arm s _ h k = k

no_branch_head : (h : Head) (a b rest : Tree) → (IsArm (Two h a b) → ⊥) → branch_list (Two HCell (Two h a b) rest) ≡ []
no_branch_head HArm a b rest h = absurd (h tt)
no_branch_head _ a b rest h = refl

pub no_branch : (a rest : Tree) → (IsArm a → ⊥) → branch_list (Two HCell a rest) ≡ []
no_branch (Leaf h) rest k = refl
no_branch (One h a) rest k = refl
no_branch (Two h a b) rest k = no_branch_head h a b rest k
no_branch (Three h a b c) rest k = refl

pub no_branches : (s : List Tree) (n : Node) → ((a b : TermId) → n ≡ Cell a b → ⊥) → branch_list (node_tree s n) ≡ []
no_branches s (Cell a b) h = absurd (h a b refl)
no_branches s _ h = refl

pub pairs_end : {A B : Type 0} (p : LineWord → Option A) (q : LineWord → Option B) (ws : List LineWord) (w v : LineWord) (ps : List (A × B)) (a : A) (b : B) → pairs p q ws ≡ Some ps → p w ≡ Some a → q v ≡ Some b → pairs p q (ws ++ w ∷ v ∷ []) ≡ Some (ps ++ (a, b) ∷ [])
pairs_end {A} {B} p q [] w v ps a b e k l =
    let none : [] ≡ ps = cc in
    ap (option_and_then (λ x. option_and_then (λ y. option_map {U = List (A × B)} (λ zs. (x, y) ∷ zs) (Some [])) (q v))) k
    ∙ ap (option_and_then (λ y. option_map {U = List (A × B)} (λ zs. (a, y) ∷ zs) (Some []))) l
    ∙ ap (λ (zs : List (A × B)). Some (zs ++ (a, b) ∷ [])) none
pairs_end p q (x ∷ []) w v ps a b e k l = absurd (cc)
pairs_end {A} {B} p q (x ∷ y ∷ ws) w v ps a b e k l = at (p x) (q y) (pairs p q ws) refl e (λ zs m. pairs_end p q ws w v zs a b m k l) where
  at : (o : Option A) (n : Option B) (rest : Option (List (A × B))) → pairs p q ws ≡ rest → option_and_then (λ i. option_and_then (λ j. option_map {U = List (A × B)} (λ zs. (i, j) ∷ zs) rest) n) o ≡ Some ps
      → ((zs : List (A × B)) → pairs p q ws ≡ Some zs → pairs p q (ws ++ w ∷ v ∷ []) ≡ Some (zs ++ (a, b) ∷ []))
      → option_and_then (λ i. option_and_then (λ j. option_map {U = List (A × B)} (λ zs. (i, j) ∷ zs) (pairs p q (ws ++ w ∷ v ∷ []))) n) o ≡ Some (ps ++ (a, b) ∷ [])
  at None n rest is m more = absurd (cc)
  at (Some i) None rest is m more = absurd (cc)
  at (Some i) (Some j) None is m more = absurd (cc)
  at (Some i) (Some j) (Some zs) is m more =
      let same : (i, j) ∷ zs ≡ ps = cc in
      ap (option_map {U = List (A × B)} (λ us. (i, j) ∷ us)) (more zs is) ∙ ap (λ (us : List (A × B)). Some (us ++ (a, b) ∷ [])) same

-- the branches of a list so far
pub record BranchesSoFar (s : List Tree) (lines : List (Option ℕ)) (list rest : Tree) (old new : List LineWord) : Type 0 where
  pub done : List (Tree × Tree)
  pub more : List LineWord
  pub all : branch_list list ≡ done ++ branch_list rest
  pub is : new ≡ old ++ more
  pub refer : (r : Earlier) → AreLines s lines r → pairs (at_number r.patterns) (at_number r.expressions) more ≡ Some done

pub branches_start : (s : List Tree) (lines : List (Option ℕ)) (list : Tree) (old : List LineWord) → BranchesSoFar s lines list list old old
branches_start s lines list old = record { done = []; more = []; all = refl; is = sym (append-nil old); refer = λ r are. refl }

pub branches_more : (s : List Tree) (lines : List (Option ℕ)) (list rest p b others : Tree) (old between new : List LineWord) (n m : ℕ) → WellSorted rest → rest ≡ Two HCell (Two HArm p b) others → Refers s lines (sort_of p) n p → Refers s lines (sort_of b) m b
    → PushesNumbers between new (n ∷ m ∷ []) → BranchesSoFar s lines list rest old between → BranchesSoFar s lines list others old new
branches_more s lines list rest p b others old between new n m w e first second h k =
    let v = subst WellSorted e w in
    let f = v.1.0.0 in
    let t = two_numbers h.more n m h.numbers in
    record {
      done = k.done ++ (p, b) ∷ [];
      more = k.more ++ t.first ∷ t.second ∷ [];
      all = k.all ∙ ap (λ (x : Tree). k.done ++ branch_list x) e ∙ sym (append_assoc k.done ((p, b) ∷ []) (branch_list others));
      is = h.is ∙ ap (λ (l : List LineWord). l ++ h.more) k.is ∙ append_assoc old k.more h.more ∙ ap (λ (l : List LineWord). old ++ (k.more ++ l)) t.is;
      refer = λ r are. pairs_end (at_number r.patterns) (at_number r.expressions) k.more t.first t.second k.done p b (k.refer r are)
          (of_pattern s lines r t.first p are f.0 (word_refers s lines t.first n p t.n_there first))
          (of_expression s lines r t.second b are f.1 (word_refers s lines t.second m b t.m_there second));
    }

pub branches_all : (s : List Tree) (lines : List (Option ℕ)) (list rest : Tree) (old new : List LineWord) → branch_list rest ≡ [] → BranchesSoFar s lines list rest old new → PushesBranches s lines list old new
branches_all s lines list rest old new none k = record {
  more = k.more;
  is = k.is;
  refer = λ r are. k.refer r are ∙ ap Some (sym (k.all ∙ ap (λ (l : List (Tree × Tree)). k.done ++ l) none ∙ append-nil k.done));
}

pub lines_there : (s : List Tree) (lines : List (Option ℕ)) (rest p b others : Tree) → rest ≡ Two HCell (Two HArm p b) others → BranchLines s lines rest → BranchLines s lines (Two HCell (Two HArm p b) others)
lines_there s lines rest p b others e h = subst (BranchLines s lines) e h

-- a list of branches is made of them
leaf_other : (h : Head) → leaf_sort h ≡ Branch → ⊥
leaf_other (HNum z) e = absurd (cc)
leaf_other HTrue e = absurd (cc)
leaf_other HFalse e = absurd (cc)
leaf_other _ e = absurd (cc)

one_other : (h : Head) → one_sort h ≡ Branch → ⊥
one_other (HBound i) e = absurd (cc)
one_other (HParam n) e = absurd (cc)
one_other HNot e = absurd (cc)
one_other HPatAny e = absurd (cc)
one_other HPatVar e = absurd (cc)
one_other HPatAlias e = absurd (cc)
one_other _ e = absurd (cc)

two_other : (h : Head) (a b : Sort) → (a ≡ Branch → ⊥) → (b ≡ Branch → ⊥) → two_sort h a b ≡ Branch → ⊥
two_other HCell a b p q e = p e
two_other HLet a b p q e = q e
two_other HCase a b p q e = q e
two_other HArm a b p q e = q e
two_other _ a b p q e = absurd (cc)

three_other : (h : Head) (b : Sort) → (b ≡ Branch → ⊥) → three_sort h b ≡ Branch → ⊥
three_other HIf b q e = q e
three_other _ b q e = absurd (cc)

no_yield : (e : Tree) → yield e ≡ Branch → ⊥
no_yield (Leaf h) e = leaf_other h e
no_yield (One h a) e = one_other h e
no_yield (Two h a b) e = two_other h (yield a) (yield b) (no_yield a) (no_yield b) e
no_yield (Three h a b c) e = three_other h (yield b) (no_yield b) e

pub leaf_arm : (h : Head) → WellSorted (Leaf h) → sort_of (Leaf h) ≡ Branch → ⊥
leaf_arm HEnd w e = absurd (cc)
leaf_arm HCell w e = w
leaf_arm HArm w e = w
leaf_arm (HNum z) w e = absurd (cc)
leaf_arm HTrue w e = absurd (cc)
leaf_arm HFalse w e = absurd (cc)
leaf_arm _ w e = absurd (cc)

pub one_arm : (h : Head) (a : Tree) → WellSorted (One h a) → sort_of (One h a) ≡ Branch → ⊥
one_arm HEnd a w e = w.0
one_arm HCell a w e = w.0
one_arm HArm a w e = w.0
one_arm _ a w e = absurd (cc)

pub two_is_arm : (h : Head) (a b : Tree) → WellSorted (Two h a b) → sort_of (Two h a b) ≡ Branch → h ≡ HArm
two_is_arm HArm a b w e = refl
two_is_arm HEnd a b w e = absurd w.0.0
two_is_arm HCell a b w e = absurd (cc)
two_is_arm HLet a b w e = absurd (no_yield b e)
two_is_arm HCase a b w e = absurd (no_yield b e)
two_is_arm _ a b w e = absurd (cc)

pub three_arm : (h : Head) (a b c : Tree) → WellSorted (Three h a b c) → sort_of (Three h a b c) ≡ Branch → ⊥
three_arm HEnd a b c w e = w.0
three_arm HCell a b c w e = w.0
three_arm HArm a b c w e = w.0
three_arm HIf a b c w e = no_yield b e
three_arm _ a b c w e = absurd (cc)

cell_arms : (a rest : Tree) → WellSorted a → sort_of a ≡ Branch → map (λ (b : Tree × Tree). Two HArm b.0 b.1) (branch_list rest) ≡ members rest → map (λ (b : Tree × Tree). Two HArm b.0 b.1) (branch_list (Two HCell a rest)) ≡ a ∷ members rest
cell_arms (Leaf h) rest w e k = absurd (leaf_arm h w e)
cell_arms (One h a) rest w e k = absurd (one_arm h a w e)
cell_arms (Two h a b) rest w e k =
    let is : h ≡ HArm = two_is_arm h a b w e in
    subst (λ (x : Head). map (λ (b : Tree × Tree). Two HArm b.0 b.1) (branch_list (Two HCell (Two x a b) rest)) ≡ Two x a b ∷ members rest) (sym is) (ap (λ l. Two HArm a b ∷ l) k)
cell_arms (Three h a b c) rest w e k = absurd (three_arm h a b c w e)

two_arms : (h : Head) (a b : Tree) → WellSorted (Two h a b) → IsList Branch (Two h a b) → (IsList Branch b → map (λ (b : Tree × Tree). Two HArm b.0 b.1) (branch_list b) ≡ members b) → map (λ (b : Tree × Tree). Two HArm b.0 b.1) (branch_list (Two h a b)) ≡ members (Two h a b)
two_arms HCell a b w l k = let p = rest_list Branch a b w l in cell_arms a b w.1 p.0 (k p.1)
two_arms _ a b w l k = refl

arms : (e : Tree) → WellSorted e → IsList Branch e → map (λ (b : Tree × Tree). Two HArm b.0 b.1) (branch_list e) ≡ members e
arms (Leaf h) w l = refl
arms (One h a) w l = refl
arms (Two h a b) w l = two_arms h a b w l (λ k. arms b w.2 k)
arms (Three h a b c) w l = refl

pub arm_list_back : (e : Tree) → WellSorted e → IsList Branch e → arm_list (branch_list e) ≡ e
arm_list_back e w l = ap cells (arms e w l) ∙ sym (is_cells e w l.0)

pub match_back : (s : List Tree) (table : List NameEntry) (lines : List (Option ℕ)) (e list : Tree) (between ws : List LineWord) → sort_of e ≡ Term → WellSorted list → IsList Branch list → IsOneWord s lines (codes "match") e between → PushesBranches s lines list between ws → ReadsBack s table lines (Two HCase e list) ws
match_back s table lines e list between ws k w l h p t r are =
    ap (expression_of_line t table r) (p.is ∙ ap (λ (x : List LineWord). x ++ p.more) h.is)
    ∙ ap (option_and_then (λ (x : Tree). option_map (match_tree x) (pairs (at_number r.patterns) (at_number r.expressions) p.more))) (of_term s lines r h.first e are k h.a_there)
    ∙ ap (option_map (match_tree e)) (p.refer r are)
    ∙ ap (λ (x : Tree). Some (Two HCase e x)) (arm_list_back list w l)
