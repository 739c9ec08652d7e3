-- Lines with a word and the numbers of parts are read back.
use Rattle.std.proofs.Common.{◌≡◌, ℕ, ℤ, inl, inr, List, [], ◌∷◌, Option, Some, None, slice_get, codes, sym, refl, ap, subst, ◌∙◌}
use Rattle.std.specs.Option.{option_map, option_and_then}
use Rattle.tasks.specs.trees.declared.Op.{Op}
use Rattle.tasks.specs.trees.declared.Op.TheVariants.{And, AndThen, Or, OrElse, Imp, Iff}
use Rattle.tasks.specs.trees.declared.Sort.{Sort}
use Rattle.tasks.specs.trees.declared.Sort.TheVariants.{Kind, Term, Formula, Pattern}
use Rattle.tasks.specs.trees.declared.TermId.{TermId}
use Rattle.tasks.specs.trees.declared.Node.{Node}
use Rattle.tasks.specs.trees.declared.Node.TheVariants as node
use Rattle.tasks.specs.trees.Node.{node_tree}
use Rattle.tasks.specs.trees.Tree.{Tree, Leaf, One, Two, Three, HNum, HTrue, HFalse, HBound, HParam, HNot, HJoin, HForall, HExists, HLet, HEq, HIf}
use Rattle.tasks.specs.trees.Sorts.{sort_of, IsExpression}
use Rattle.tasks.specs.Task.{TaskTree}
use Rattle.name_tables.specs.declared.name_entries.names.NameEntry.{NameEntry}
use Rattle.step_lines.specs.tree_lines.Words.{LineWord, number, each, at_number, two, three}
use Rattle.step_lines.specs.tree_lines.Lines.{Earlier, expression_of_line}
use Rattle.step_writing.specs.tree_writing.Referring.{AreLines, Refers, PushesNumbers, trees_of_sort}
use Rattle.step_writing.specs.tree_writing.Plain.{op_word, WordRefers, IsOneWord, AreVariableWords, AreTwoWords, AreThreeWords, IsIntegerWord, IsPlain, ReadsBack}

pub record TwoNumbers (ws : List LineWord) (n m : ℕ) : Type 0 where
  pub first : LineWord
  pub second : LineWord
  pub is : ws ≡ first ∷ second ∷ []
  pub n_there : number first ≡ Some n
  pub m_there : number second ≡ Some m

pub no_more : (ws : List LineWord) → each number ws ≡ Some [] → ws ≡ []
no_more [] e = refl
no_more (w ∷ ws) e = at (number w) (each number ws) e where
  at : (o : Option ℕ) (rest : Option (List ℕ)) → option_and_then (λ y. option_map (λ ys. y ∷ ys) rest) o ≡ Some [] → w ∷ ws ≡ []
  at None rest k = absurd (cc)
  at (Some y) None k = absurd (cc)
  at (Some y) (Some ys) k = absurd (cc)

pub record OneMore (ws : List LineWord) (n : ℕ) (ns : List ℕ) : Type 0 where
  pub first : LineWord
  pub rest : List LineWord
  pub is : ws ≡ first ∷ rest
  pub there : number first ≡ Some n
  pub others : each number rest ≡ Some ns

pub one_more : (ws : List LineWord) (n : ℕ) (ns : List ℕ) → each number ws ≡ Some (n ∷ ns) → OneMore ws n ns
one_more [] n ns e = absurd (cc)
one_more (w ∷ ws) n ns e = at (number w) (each number ws) refl refl e where
  at : (o : Option ℕ) (rest : Option (List ℕ)) → number w ≡ o → each number ws ≡ rest → option_and_then (λ y. option_map (λ ys. y ∷ ys) rest) o ≡ Some (n ∷ ns) → OneMore (w ∷ ws) n ns
  at None rest a b k = absurd (cc)
  at (Some y) None a b k = absurd (cc)
  at (Some y) (Some ys) a b k = record { first = w; rest = ws; is = refl; there = a ∙ (let j : Some y ≡ Some n = cc in j); others = b ∙ (let j : Some ys ≡ Some ns = cc in j) }

pub two_numbers : (ws : List LineWord) (n m : ℕ) → each number ws ≡ Some (n ∷ m ∷ []) → TwoNumbers ws n m
two_numbers ws n m e =
    let p = one_more ws n (m ∷ []) e in
    let q = one_more p.rest m [] p.others in
    record {
      first = p.first;
      second = q.first;
      is = p.is ∙ ap (λ l. p.first ∷ l) (q.is ∙ ap (λ l. q.first ∷ l) (no_more q.rest q.others));
      n_there = p.there;
      m_there = q.there;
    }

-- a word that writes a number refers to what is there
pub word_refers : (s : List Tree) (lines : List (Option ℕ)) (w : LineWord) (n : ℕ) (e : Tree) → number w ≡ Some n → Refers s lines (sort_of e) n e → WordRefers s lines w e
word_refers s lines w n e is refers r are = ap (option_and_then (slice_get (trees_of_sort (sort_of e) r))) is ∙ refers r are

pub are_two_words : (s : List Tree) (lines : List (Option ℕ)) (word : LineWord) (a b : Tree) (n m : ℕ) (ws : List LineWord) → Refers s lines (sort_of a) n a → Refers s lines (sort_of b) m b → PushesNumbers (word ∷ []) ws (n ∷ m ∷ []) → AreTwoWords s lines word a b ws
are_two_words s lines word a b n m ws p q h =
    let t = two_numbers h.more n m h.numbers in
    record {
      first = t.first;
      second = t.second;
      is = h.is ∙ ap (λ l. word ∷ l) t.is;
      a_there = word_refers s lines t.first n a t.n_there p;
      b_there = word_refers s lines t.second m b t.m_there q;
    }

-- what a word refers to, of a sort
pub of_kind : (s : List Tree) (lines : List (Option ℕ)) (r : Earlier) (w : LineWord) (e : Tree) → AreLines s lines r → sort_of e ≡ Kind → WordRefers s lines w e → at_number r.types w ≡ Some e
of_kind s lines r w e are k h = subst (λ (x : Sort). at_number (trees_of_sort x r) w ≡ Some e) k (h r are)

pub of_pattern : (s : List Tree) (lines : List (Option ℕ)) (r : Earlier) (w : LineWord) (e : Tree) → AreLines s lines r → sort_of e ≡ Pattern → WordRefers s lines w e → at_number r.patterns w ≡ Some e
of_pattern s lines r w e are k h = subst (λ (x : Sort). at_number (trees_of_sort x r) w ≡ Some e) k (h r are)

pub of_term : (s : List Tree) (lines : List (Option ℕ)) (r : Earlier) (w : LineWord) (e : Tree) → AreLines s lines r → sort_of e ≡ Term → WordRefers s lines w e → at_number r.expressions w ≡ Some e
of_term s lines r w e are k h = subst (λ (x : Sort). at_number (trees_of_sort x r) w ≡ Some e) k (h r are)

of_formula : (s : List Tree) (lines : List (Option ℕ)) (r : Earlier) (w : LineWord) (e : Tree) → AreLines s lines r → sort_of e ≡ Formula → WordRefers s lines w e → at_number r.expressions w ≡ Some e
of_formula s lines r w e are k h = subst (λ (x : Sort). at_number (trees_of_sort x r) w ≡ Some e) k (h r are)

two_back : {A B C : Type 0} (p : LineWord → Option A) (q : LineWord → Option B) (f : A → B → C) (w v : LineWord) (a : A) (b : B) → p w ≡ Some a → q v ≡ Some b → two p q f (w ∷ v ∷ []) ≡ Some (f a b)
two_back p q f w v a b e k = ap (option_and_then (λ x. option_map (f x) (q v))) e ∙ ap (option_map (f a)) k

pub is_one_word : (s : List Tree) (lines : List (Option ℕ)) (word : LineWord) (a : Tree) (n : ℕ) (ws : List LineWord) → Refers s lines (sort_of a) n a → PushesNumbers (word ∷ []) ws (n ∷ []) → IsOneWord s lines word a ws
is_one_word s lines word a n ws p h =
    let q = one_more h.more n [] h.numbers in
    record {
      first = q.first;
      is = h.is ∙ ap (λ l. word ∷ l) (q.is ∙ ap (λ l. q.first ∷ l) (no_more q.rest q.others));
      a_there = word_refers s lines q.first n a q.there p;
    }

pub are_variable_words : (s : List Tree) (lines : List (Option ℕ)) (word : LineWord) (n : ℕ) (a : Tree) (m : ℕ) (ws : List LineWord) → Refers s lines (sort_of a) m a → PushesNumbers (word ∷ []) ws (n ∷ m ∷ []) → AreVariableWords s lines word n a ws
are_variable_words s lines word n a m ws q h =
    let t = two_numbers h.more n m h.numbers in
    record {
      first = t.first;
      second = t.second;
      is = h.is ∙ ap (λ l. word ∷ l) t.is;
      n_there = t.n_there;
      a_there = word_refers s lines t.second m a t.m_there q;
    }

pub are_three_words : (s : List Tree) (lines : List (Option ℕ)) (word : LineWord) (a b c : Tree) (n m k : ℕ) (ws : List LineWord) → Refers s lines (sort_of a) n a → Refers s lines (sort_of b) m b → Refers s lines (sort_of c) k c → PushesNumbers (word ∷ []) ws (n ∷ m ∷ k ∷ []) → AreThreeWords s lines word a b c ws
are_three_words s lines word a b c n m k ws p q o h =
    let f = one_more h.more n (m ∷ k ∷ []) h.numbers in
    let t = two_numbers f.rest m k f.others in
    record {
      first = f.first;
      second = t.first;
      third = t.second;
      is = h.is ∙ ap (λ l. word ∷ l) (f.is ∙ ap (λ l. f.first ∷ l) t.is);
      a_there = word_refers s lines f.first n a f.there p;
      b_there = word_refers s lines t.first m b t.n_there q;
      c_there = word_refers s lines t.second k c t.m_there o;
    }

-- what a word refers to, of a term or a formula
pub of_expression : (s : List Tree) (lines : List (Option ℕ)) (r : Earlier) (w : LineWord) (e : Tree) → AreLines s lines r → IsExpression (sort_of e) → WordRefers s lines w e → at_number r.expressions w ≡ Some e
of_expression s lines r w e are (inl k) h = of_term s lines r w e are k h
of_expression s lines r w e are (inr k) h = of_formula s lines r w e are k h

three_back : {A B C D : Type 0} (p : LineWord → Option A) (q : LineWord → Option B) (o : LineWord → Option C) (f : A → B → C → D) (w v u : LineWord) (a : A) (b : B) (c : C) → p w ≡ Some a → q v ≡ Some b → o u ≡ Some c → three p q o f (w ∷ v ∷ u ∷ []) ≡ Some (f a b c)
three_back p q o f w v u a b c e k l = ap (option_and_then (λ x. option_and_then (λ y. option_map (f x y) (o u)) (q v))) e ∙ ap (option_and_then (λ y. option_map (f a y) (o u))) k ∙ ap (option_map (f a b)) l

pub integer_back : (s : List Tree) (table : List NameEntry) (lines : List (Option ℕ)) (n : ℤ) (ws : List LineWord) → IsIntegerWord n ws → ReadsBack s table lines (Leaf (HNum n)) ws
integer_back s table lines n ws h t r are = ap (expression_of_line t table r) h.is ∙ ap (option_map (λ z. Leaf (HNum z))) h.there

pub true_back : (s : List Tree) (table : List NameEntry) (lines : List (Option ℕ)) (ws : List LineWord) → PushesNumbers (codes "true" ∷ []) ws [] → ReadsBack s table lines (Leaf HTrue) ws
true_back s table lines ws h t r are = ap (expression_of_line t table r) (h.is ∙ ap (λ l. codes "true" ∷ l) (no_more h.more h.numbers))

pub false_back : (s : List Tree) (table : List NameEntry) (lines : List (Option ℕ)) (ws : List LineWord) → PushesNumbers (codes "false" ∷ []) ws [] → ReadsBack s table lines (Leaf HFalse) ws
false_back s table lines ws h t r are = ap (expression_of_line t table r) (h.is ∙ ap (λ l. codes "false" ∷ l) (no_more h.more h.numbers))

pub no_other_plain : (s : List Tree) (n : Node) → IsPlain (node_tree s n) → ((i : ℕ) (a : TermId) → n ≡ node.Bound i a → ⊥) → ((i : ℕ) (a : TermId) → n ≡ node.Param i a → ⊥) → ((z : ℤ) → n ≡ node.Num z → ⊥) → (n ≡ node.True → ⊥) → (n ≡ node.False → ⊥) → ((a : TermId) → n ≡ node.Not a → ⊥)
    → ((a b : TermId) → n ≡ node.Eq a b → ⊥) → ((op : Op) (a b : TermId) → n ≡ node.Join op a b → ⊥) → ((a b : TermId) → n ≡ node.Forall a b → ⊥) → ((a b : TermId) → n ≡ node.Exists a b → ⊥) → ((a b : TermId) → n ≡ node.Let a b → ⊥) → ((a b c : TermId) → n ≡ node.If a b c → ⊥) → ⊥
no_other_plain s (node.Bound i a) h n1 n2 n3 n4 n5 n6 n7 n8 n9 n10 n11 n12 = n1 i a refl
no_other_plain s (node.Param i a) h n1 n2 n3 n4 n5 n6 n7 n8 n9 n10 n11 n12 = n2 i a refl
no_other_plain s (node.Num z) h n1 n2 n3 n4 n5 n6 n7 n8 n9 n10 n11 n12 = n3 z refl
no_other_plain s node.True h n1 n2 n3 n4 n5 n6 n7 n8 n9 n10 n11 n12 = n4 refl
no_other_plain s node.False h n1 n2 n3 n4 n5 n6 n7 n8 n9 n10 n11 n12 = n5 refl
no_other_plain s (node.Not a) h n1 n2 n3 n4 n5 n6 n7 n8 n9 n10 n11 n12 = n6 a refl
no_other_plain s (node.Eq a b) h n1 n2 n3 n4 n5 n6 n7 n8 n9 n10 n11 n12 = n7 a b refl
no_other_plain s (node.Join op a b) h n1 n2 n3 n4 n5 n6 n7 n8 n9 n10 n11 n12 = n8 op a b refl
no_other_plain s (node.Forall a b) h n1 n2 n3 n4 n5 n6 n7 n8 n9 n10 n11 n12 = n9 a b refl
no_other_plain s (node.Exists a b) h n1 n2 n3 n4 n5 n6 n7 n8 n9 n10 n11 n12 = n10 a b refl
no_other_plain s (node.Let a b) h n1 n2 n3 n4 n5 n6 n7 n8 n9 n10 n11 n12 = n11 a b refl
no_other_plain s (node.If a b c) h n1 n2 n3 n4 n5 n6 n7 n8 n9 n10 n11 n12 = n12 a b c refl
no_other_plain s _ h n1 n2 n3 n4 n5 n6 n7 n8 n9 n10 n11 n12 = h

module _ (s : List Tree) (lines : List (Option ℕ)) (a b : Tree) (ws : List LineWord) (t : TaskTree) (table : List NameEntry) (r : Earlier) (are : AreLines s lines r) where
  pub join_back : (op : Op) → sort_of a ≡ Formula → sort_of b ≡ Formula → AreTwoWords s lines (op_word op) a b ws → expression_of_line t table r ws ≡ Some (Two (HJoin op) a b)
  join_back And f g h = ap (expression_of_line t table r) h.is ∙ two_back (at_number r.expressions) (at_number r.expressions) (λ x y. Two (HJoin And) x y) h.first h.second a b (of_formula s lines r h.first a are f h.a_there) (of_formula s lines r h.second b are g h.b_there)
  join_back AndThen f g h = ap (expression_of_line t table r) h.is ∙ two_back (at_number r.expressions) (at_number r.expressions) (λ x y. Two (HJoin AndThen) x y) h.first h.second a b (of_formula s lines r h.first a are f h.a_there) (of_formula s lines r h.second b are g h.b_there)
  join_back Or f g h = ap (expression_of_line t table r) h.is ∙ two_back (at_number r.expressions) (at_number r.expressions) (λ x y. Two (HJoin Or) x y) h.first h.second a b (of_formula s lines r h.first a are f h.a_there) (of_formula s lines r h.second b are g h.b_there)
  join_back OrElse f g h = ap (expression_of_line t table r) h.is ∙ two_back (at_number r.expressions) (at_number r.expressions) (λ x y. Two (HJoin OrElse) x y) h.first h.second a b (of_formula s lines r h.first a are f h.a_there) (of_formula s lines r h.second b are g h.b_there)
  join_back Imp f g h = ap (expression_of_line t table r) h.is ∙ two_back (at_number r.expressions) (at_number r.expressions) (λ x y. Two (HJoin Imp) x y) h.first h.second a b (of_formula s lines r h.first a are f h.a_there) (of_formula s lines r h.second b are g h.b_there)
  join_back Iff f g h = ap (expression_of_line t table r) h.is ∙ two_back (at_number r.expressions) (at_number r.expressions) (λ x y. Two (HJoin Iff) x y) h.first h.second a b (of_formula s lines r h.first a are f h.a_there) (of_formula s lines r h.second b are g h.b_there)

  pub forall_back : sort_of a ≡ Kind → sort_of b ≡ Formula → AreTwoWords s lines (codes "forall") a b ws → expression_of_line t table r ws ≡ Some (Two HForall a b)
  forall_back f g h = ap (expression_of_line t table r) h.is ∙ two_back (at_number r.types) (at_number r.expressions) (λ x y. Two HForall x y) h.first h.second a b (of_kind s lines r h.first a are f h.a_there) (of_formula s lines r h.second b are g h.b_there)

  pub exists_back : sort_of a ≡ Kind → sort_of b ≡ Formula → AreTwoWords s lines (codes "exists") a b ws → expression_of_line t table r ws ≡ Some (Two HExists a b)
  exists_back f g h = ap (expression_of_line t table r) h.is ∙ two_back (at_number r.types) (at_number r.expressions) (λ x y. Two HExists x y) h.first h.second a b (of_kind s lines r h.first a are f h.a_there) (of_formula s lines r h.second b are g h.b_there)

  pub eq_back : sort_of a ≡ Term → sort_of b ≡ Term → AreTwoWords s lines (codes "eq") a b ws → expression_of_line t table r ws ≡ Some (Two HEq a b)
  eq_back f g h = ap (expression_of_line t table r) h.is ∙ two_back (at_number r.expressions) (at_number r.expressions) (λ x y. Two HEq x y) h.first h.second a b (of_term s lines r h.first a are f h.a_there) (of_term s lines r h.second b are g h.b_there)

  pub let_back : sort_of a ≡ Term → IsExpression (sort_of b) → AreTwoWords s lines (codes "let") a b ws → expression_of_line t table r ws ≡ Some (Two HLet a b)
  let_back f g h = ap (expression_of_line t table r) h.is ∙ two_back (at_number r.expressions) (at_number r.expressions) (λ x y. Two HLet x y) h.first h.second a b (of_term s lines r h.first a are f h.a_there) (of_expression s lines r h.second b are g h.b_there)

  pub if_back : (c : Tree) → sort_of a ≡ Formula → IsExpression (sort_of b) → sort_of c ≡ sort_of b → AreThreeWords s lines (codes "if") a b c ws → expression_of_line t table r ws ≡ Some (Three HIf a b c)
  if_back c f g k h = ap (expression_of_line t table r) h.is
      ∙ three_back (at_number r.expressions) (at_number r.expressions) (at_number r.expressions) (λ x y z. Three HIf x y z) h.first h.second h.third a b c (of_formula s lines r h.first a are f h.a_there) (of_expression s lines r h.second b are g h.b_there)
      (of_expression s lines r h.third c are (subst IsExpression (sym k) g) h.c_there)

  pub not_back : sort_of a ≡ Formula → IsOneWord s lines (codes "not") a ws → expression_of_line t table r ws ≡ Some (One HNot a)
  not_back f h = ap (expression_of_line t table r) h.is ∙ ap (option_map (λ x. One HNot x)) (of_formula s lines r h.first a are f h.a_there)

  pub bound_back : (i : ℕ) → sort_of a ≡ Kind → AreVariableWords s lines (codes "bound") i a ws → expression_of_line t table r ws ≡ Some (One (HBound i) a)
  bound_back i f h = ap (expression_of_line t table r) h.is ∙ two_back number (at_number r.types) (λ x y. One (HBound x) y) h.first h.second i a h.n_there (of_kind s lines r h.second a are f h.a_there)

  pub param_back : (i : ℕ) → sort_of a ≡ Kind → AreVariableWords s lines (codes "param") i a ws → expression_of_line t table r ws ≡ Some (One (HParam i) a)
  param_back i f h = ap (expression_of_line t table r) h.is ∙ two_back number (at_number r.types) (λ x y. One (HParam x) y) h.first h.second i a h.n_there (of_kind s lines r h.second a are f h.a_there)
