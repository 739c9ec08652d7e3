-- An application, argument after argument: what is known before and after one argument is replaced.
use Rattle.std.proofs.Common.{◌≡◌, List, [], ◌∷◌, ◌++◌, All, sym, ap, subst, ◌∙◌}
use Rattle.std.proofs.lemmas.List.{map-append}
use Rattle.std.proofs.lemmas.List.Elements.{All-cons, All-nil, All-head, All-tail, All-append}
use Rattle.trees.specs.declared.TermId.{TermId}
use Rattle.trees.specs.declared.Sort.TheVariants.{Term}
use Rattle.trees.specs.Tree.{Tree, Leaf, One, Two, Three, HEnd, HCell}
use Rattle.trees.specs.Node.{tree_at, trees_at, Holds}
use Rattle.trees.specs.Sorts.{sort_of}
use Rattle.tasks.specs.Vocabulary.{of_task}
use Rattle.tasks.specs.Typing.{TypedUnder}
use Rattle.tasks.proofs.Closing.{typed_sorted}
use Rattle.evidence.specs.Drafts.{DraftTree, Extends}
use Rattle.images.specs.Templates.{listed}
use Rattle.congruence.specs.declared.applications.SymbolAt.{SymbolAt}
use Rattle.congruence.specs.Applications.{applied}
use Rattle.congruence.specs.Alike.{ArePair}
use Rattle.congruence.proofs.Later.{held_later, tree_later}
use Rattle.congruence.proofs.Lists.{first_term, listed_terms, listed_one_more}
use Rattle.congruence.proofs.ApplicationLaws.{applied_list}
use Rattle.congruence.proofs.ApplicationHoles.{symbol_later, listed_later}
use Rattle.agreement.specs.declared.questions.Link.{Link}
use Rattle.agreement.specs.Agreement.{ArePaired}
use Rattle.agreement.specs.Questions.{CanReplace, IsShownLink, links_at}
use Rattle.agreement.proofs.PartLists.{Pairs}
use Rattle.agreement.proofs.Shapes.{cell_in, first_pairs, no_first, sides_same}
use Rattle.agreement.proofs.QuestionsLater.{links_later, same_links}

-- two lists with a first pair
pub record FirstPair (l r x y : Tree) (ps : Pairs) : Type 0 where
  pub m : Tree
  pub o : Tree
  pub left : l ≡ Two HCell x m
  pub right : r ≡ Two HCell y o
  pub others : ArePaired m o ps

paired_more : (l r x y : Tree) (ps : Pairs) → ArePaired l r ((x, y) ∷ ps) → FirstPair l r x y ps
paired_more (Two HCell a m) r x y ps p =
    let c = cell_in r (λ z. (qs : Pairs) × (((x, y) ∷ ps ≡ (a, z.0) ∷ qs) × ArePaired m z.1 qs)) p in
    let n = c.1.1.1 in
    let f = first_pairs (x, y) (a, c.0) ps n.0 n.1.0 in
    let s = sides_same x y a c.0 f.0 in
    record {
      m = m;
      o = c.1.0;
      left = ap (λ (z : Tree). Two HCell z m) (sym s.0);
      right = c.1.1.0 ∙ ap (λ (z : Tree). Two HCell z c.1.0) (sym s.1);
      others = subst (ArePaired m c.1.0) (sym f.1) n.1.1;
    }
paired_more (Two _ a m) r x y ps p = absurd p
paired_more (Leaf HEnd) r x y ps p = absurd (no_first (x, y) ps p.1)
paired_more (Leaf _) r x y ps p = absurd p
paired_more (One h a) r x y ps p = absurd p
paired_more (Three h a b c) r x y ps p = absurd p

pub paired_none : (l r : Tree) → ArePaired l r [] → l ≡ r
paired_none (Two HCell a m) r p = let c = cell_in r (λ z. (qs : Pairs) × (([] ≡ (a, z.0) ∷ qs) × ArePaired m z.1 qs)) p in absurd (no_first (a, c.0) c.1.1.1.0 (sym c.1.1.1.1.0))
paired_none (Two _ a m) r p = absurd p
paired_none (Leaf HEnd) r p = sym p.0
paired_none (Leaf _) r p = absurd p
paired_none (One h a) r p = absurd p
paired_none (Three h a b c) r p = absurd p

second_same : (a b x y : Tree) → Two HCell a b ≡ Two HCell x y → (a ≡ x) × (b ≡ y)
second_same a b x y e = (cc, cc)

module _ (d : DraftTree) (k : SymbolAt) (before : List TermId) (left list other : TermId) (w : Link) (ws ls : List Link) (q : ls ≡ w ∷ ws) (can : CanReplace d k before left list other ls) where
  abbrev A : Tree
  A = tree_at d.trees w.left

  abbrev B : Tree
  B = tree_at d.trees w.right

  first : FirstPair (tree_at d.trees list) (tree_at d.trees other) A B (links_at d.trees ws)
  first = paired_more (tree_at d.trees list) (tree_at d.trees other) A B (links_at d.trees ws) (subst (λ (z : List Link). ArePaired (tree_at d.trees list) (tree_at d.trees other) (links_at d.trees z)) q can.paired)

  links : All (IsShownLink d) (w ∷ ws)
  links = subst (All (IsShownLink d)) q can.linked

  pub link : IsShownLink d w
  link = All-head (IsShownLink d) w ws links

  pub list_cell : (x : Tree) × ((y : Tree) × (tree_at d.trees list ≡ Two HCell x y))
  list_cell = (A, (first.m, first.left))

  pub other_cell : (x : Tree) × ((y : Tree) × (tree_at d.trees other ≡ Two HCell x y))
  other_cell = (B, (first.o, first.right))

  module _ (a rest b rest2 : TermId) (e : tree_at d.trees list ≡ Two HCell (tree_at d.trees a) (tree_at d.trees rest)) (f : tree_at d.trees other ≡ Two HCell (tree_at d.trees b) (tree_at d.trees rest2)) (hr : Holds d.trees rest) (hr2 : Holds d.trees rest2) where
    abbrev R : Tree
    R = tree_at d.trees rest

    abbrev R2 : Tree
    R2 = tree_at d.trees rest2

    rest_is : first.m ≡ R
    rest_is = (second_same A first.m (tree_at d.trees a) R (sym first.left ∙ e)).1

    rest2_is : first.o ≡ R2
    rest2_is = (second_same B first.o (tree_at d.trees b) R2 (sym first.right ∙ f)).1

    pub left_is : tree_at d.trees left ≡ applied d.trees k (listed (trees_at d.trees before) (Two HCell A R))
    left_is = can.is ∙ ap (λ (z : Tree). applied d.trees k (listed (trees_at d.trees before) z)) (first.left ∙ ap (λ (z : Tree). Two HCell A z) rest_is)

    pub other_is : tree_at d.trees other ≡ Two HCell B R2
    other_is = first.right ∙ ap (λ (z : Tree). Two HCell B z) rest2_is

    pub argument_term : sort_of A ≡ Term
    argument_term =
        let x : TypedUnder (of_task d.task) [] (applied d.trees k (listed (trees_at d.trees before) (Two HCell A R))) = subst (TypedUnder (of_task d.task) []) left_is can.whole.ground.typed in
        let l = applied_list d.trees (of_task d.task) [] k (listed (trees_at d.trees before) (Two HCell A R)) x in
        let s = typed_sorted (of_task d.task) [] (listed (trees_at d.trees before) (Two HCell A R)) l.0 in
        first_term Term A R (listed_terms d.trees before (Two HCell A R) s l.1).1

    -- after the argument is replaced
    module _ (d1 : DraftTree) (x : Extends d d1) (more : List TermId) (p : more ≡ before ++ w.right ∷ []) where
      more_held : All (Holds d.trees) more
      more_held = subst (All (Holds d.trees)) (sym p) (All-append (Holds d.trees) before (w.right ∷ []) can.before_held (All-cons (Holds d.trees) w.right [] link.pair.right.held (All-nil (Holds d.trees))))

      more_listed : (z : Tree) → listed (trees_at d.trees more) z ≡ listed (trees_at d.trees before) (Two HCell B z)
      more_listed z = ap (λ (n : List TermId). listed (trees_at d.trees n) z) p ∙ ap (λ (n : List Tree). listed n z) (map-append (tree_at d.trees) before (w.right ∷ [])) ∙ listed_one_more (trees_at d.trees before) B z

      pub go_on : (right : TermId) → ArePair d1 left right → tree_at d1.trees right ≡ applied d.trees k (listed (trees_at d.trees before) (Two HCell B R)) → CanReplace d1 k more right rest rest2 ws
      go_on right pair is = record {
        symbol_held = symbol_later d d1 x k can.symbol_held;
        before_held = λ j z l. held_later d d1 x _ (more_held j z l);
        whole = pair.right;
        list_held = held_later d d1 x rest hr;
        other_held = held_later d d1 x rest2 hr2;
        is = is ∙ sym (listed_later d d1 x k more rest can.symbol_held more_held hr ∙ ap (applied d.trees k) (more_listed R));
        linked = links_later d d1 x ws (All-tail (IsShownLink d) w ws links);
        paired = subst (λ (z : Tree). ArePaired z (tree_at d1.trees rest2) (links_at d1.trees ws)) (sym (tree_later d d1 x rest hr)) (subst (λ (z : Tree). ArePaired R z (links_at d1.trees ws)) (sym (tree_later d d1 x rest2 hr2)) (subst (ArePaired R R2) (sym (same_links d d1 x ws (All-tail (IsShownLink d) w ws links)))
            (subst (λ (z : Tree). ArePaired z R2 (links_at d.trees ws)) rest_is (subst (λ (z : Tree). ArePaired first.m z (links_at d.trees ws)) rest2_is first.others))));
      }

      pub right_after : (t : Tree) → t ≡ applied d1.trees k (listed (trees_at d1.trees more) (tree_at d1.trees rest2)) → t ≡ applied d.trees k (listed (trees_at d.trees before) (tree_at d.trees other))
      right_after t e2 = e2 ∙ listed_later d d1 x k more rest2 can.symbol_held more_held hr2 ∙ ap (applied d.trees k) (more_listed R2 ∙ ap (listed (trees_at d.trees before)) (sym other_is))

-- where no link is left
pub none_left : (d : DraftTree) (k : SymbolAt) (before : List TermId) (left list other : TermId) (ls : List Link) → ls ≡ [] → CanReplace d k before left list other ls → tree_at d.trees left ≡ applied d.trees k (listed (trees_at d.trees before) (tree_at d.trees other))
none_left d k before left list other ls q can =
    can.is ∙ ap (λ (z : Tree). applied d.trees k (listed (trees_at d.trees before) z)) (paired_none (tree_at d.trees list) (tree_at d.trees other) (subst (λ (z : List Link). ArePaired (tree_at d.trees list) (tree_at d.trees other) (links_at d.trees z)) q can.paired))
