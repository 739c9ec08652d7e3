-- The arguments of two applications of one symbol, place by place, are pairs of closed terms, asked before the whole is answered.
use Rattle.std.proofs.Common.{◌≡◌, ℕ, ◌<◌, ◌≤◌, inl, inr, List, [], ◌∷◌, ◌++◌, map, Option, Some, None, IsSomeAnd, refl, sym, ap, subst, ◌∙◌, append_assoc, arith}
use Rattle.std.proofs.lemmas.List.{append-nil}
use Rattle.std.proofs.lemmas.List.Elements.{All-cons, All-nil}
use Rattle.trees.specs.declared.TermId.{TermId}
use Rattle.trees.specs.declared.Sort.TheVariants.{Term}
use Rattle.trees.specs.Tree.{Tree, Leaf, Two, Three, HEnd, HCell, HFun, above_params}
use Rattle.trees.specs.Node.{tree_at, Holds}
use Rattle.trees.specs.Sorts.{type_of, IsList}
use Rattle.tasks.specs.Task.{TaskTree}
use Rattle.tasks.specs.Vocabulary.{Vocabulary, of_task}
use Rattle.tasks.specs.Typing.{TypedUnder, members, entry}
use Rattle.tasks.specs.Valid.{IsGround}
use Rattle.evidence.specs.Drafts.{DraftTree}
use Rattle.congruence.specs.declared.applications.SymbolAt.{SymbolAt}
use Rattle.congruence.specs.declared.applications.SymbolAt.TheVariants as symbol
use Rattle.congruence.specs.Applications.{applied}
use Rattle.congruence.specs.Alike.{ArePair}
use Rattle.congruence.proofs.Lists.{first_term, other_terms}
use Rattle.congruence.proofs.ApplicationLaws.{applied_list, ground_list, above_list}
use Rattle.agreement.specs.declared.questions.Question.{Question}
use Rattle.agreement.specs.Ranks.{rank, zero_ranks, ranks_put}
use Rattle.agreement.specs.Agreement.{ArePaired, ArePartsOf, number_under}
use Rattle.agreement.specs.Questions.{IsAsked, IsLower, AreQuestions, AreLists, AddsQuestions, questions_at}
use Rattle.agreement.proofs.PartLists.{Pairs}
use Rattle.agreement.proofs.Shapes.{cell_in, function_in, predicate_in}
use Rattle.agreement.proofs.PlainParts.{question, rank_zeros}

both_of : {A : Type 0} (o : Option A) (P Q : A → Type 0) → IsSomeAnd o P → IsSomeAnd o Q → (x : A) × (P x × Q x)
both_of None P Q p q = absurd p
both_of (Some x) P Q p q = (x, (p, q))

heads : (a b : Option Tree) (x y : List (Option Tree)) → a ∷ x ≡ b ∷ y → (a ≡ b) × (x ≡ y)
heads a b x y q = (cc, cc)

-- ---- lists
pub paired_cell : (a m r : Tree) (ps : Pairs) → ArePaired (Two HCell a m) r ps → (b : Tree) × ((e : Tree) × (r ≡ Two HCell b e))
paired_cell a m r ps p = let c = cell_in r (λ x. (qs : Pairs) × ((ps ≡ (a, x.0) ∷ qs) × ArePaired m x.1 qs)) p in (c.0, (c.1.0, c.1.1.0))

module _ (d : DraftTree) (q : Question) (list other : TermId) (l : AreLists d q list other) where
  module _ (a m : TermId) (e : tree_at d.trees list ≡ Two HCell (tree_at d.trees a) (tree_at d.trees m)) where
    abbrev A : Tree
    A = tree_at d.trees a

    abbrev M : Tree
    M = tree_at d.trees m

    pub other_cell : (x : Tree) × ((y : Tree) × (tree_at d.trees other ≡ Two HCell x y))
    other_cell = paired_cell A M (tree_at d.trees other) l.paired.0 (subst (λ (z : Tree). ArePaired z (tree_at d.trees other) l.paired.0) e l.paired.1)

    module _ (b r : TermId) (f : tree_at d.trees other ≡ Two HCell (tree_at d.trees b) (tree_at d.trees r)) (ha : a.0 < list.0) (hm : m.0 < list.0) (hb : Holds d.trees b) (hr : Holds d.trees r) where
      abbrev B : Tree
      B = tree_at d.trees b

      abbrev R : Tree
      R = tree_at d.trees r

      abbrev p : Question
      p = question a b q.number

      tl : TypedUnder (of_task d.task) [] (Two HCell A M)
      tl = subst (TypedUnder (of_task d.task) []) e l.typed.0

      tr : TypedUnder (of_task d.task) [] (Two HCell B R)
      tr = subst (TypedUnder (of_task d.task) []) f l.typed.1

      ll : IsList Term (Two HCell A M)
      ll = subst (λ (z : Tree). IsList Term z) e l.terms.0

      lr : IsList Term (Two HCell B R)
      lr = subst (λ (z : Tree). IsList Term z) f l.terms.1

      gl : IsGround (Two HCell A M)
      gl = subst IsGround e l.ground.0

      gr : IsGround (Two HCell B R)
      gr = subst IsGround f l.ground.1

      al : above_params (Two HCell A M) ≤ q.number
      al = subst (λ (z : Tree). above_params z ≤ q.number) e l.above.0

      ar : above_params (Two HCell B R) ≤ q.number
      ar = subst (λ (z : Tree). above_params z ≤ q.number) f l.above.1

      rl : rank (Two HCell A M) zero_ranks 0 ≤ rank (tree_at d.trees q.left) zero_ranks 0
      rl = subst (λ (z : Tree). rank z zero_ranks 0 ≤ rank (tree_at d.trees q.left) zero_ranks 0) e l.ranked

      same_types : type_of A ∷ map type_of (members M) ≡ type_of B ∷ map type_of (members R)
      same_types = sym (ap (λ (z : Tree). map type_of (members z)) e) ∙ l.types ∙ ap (λ (z : Tree). map type_of (members z)) f

      both : (qs : Pairs) × ((l.paired.0 ≡ (A, B) ∷ qs) × ArePaired M R qs)
      both = subst (λ (z : Tree). ArePaired (Two HCell A M) z l.paired.0) f (subst (λ (z : Tree). ArePaired z (tree_at d.trees other) l.paired.0) e l.paired.1)

      first_pair : ArePair d a b
      first_pair =
          let sa = first_term Term A M ll in
          let sb = first_term Term B R lr in
          record {
            left = record { held = omega (arith, ha, l.held.0); ground = record { sort = inl sa; typed = tl.2; ground = gl.0 } };
            right = record { held = hb; ground = record { sort = inl sb; typed = tr.2; ground = gr.0 } };
            sort = sb ∙ sym sa;
            type = sym (heads (type_of A) (type_of B) (map type_of (members M)) (map type_of (members R)) same_types).0;
          }

      first_asked : IsAsked d p
      first_asked = record { pair = first_pair; left_above = omega (arith, al); right_above = omega (arith, ar) }

      first_lower : IsLower d.trees p q
      first_lower = inr (omega (arith, rl), omega (arith, ha, l.below))

      pub others_lists : AreLists d q m r
      others_lists =
          let z = rank_zeros M 0 (ranks_put 0 0 zero_ranks) in
          record {
            held = (omega (arith, hm, l.held.0), hr);
            terms = (other_terms Term A M tl.0 ll, other_terms Term B R tr.0 lr);
            typed = (tl.3, tr.3);
            ground = (gl.1, gr.1);
            above = (omega (arith, al), omega (arith, ar));
            types = (heads (type_of A) (type_of B) (map type_of (members M)) (map type_of (members R)) same_types).1;
            below = omega (arith, hm, l.below);
            ranked = omega (arith, rl, z);
            paired = (both.0, both.1.1);
          }

      pub more_added : (old mid new : List Question) → mid ≡ old ++ p ∷ [] → AddsQuestions d q mid new (ArePaired M R) → AddsQuestions d q old new (ArePaired (tree_at d.trees list) (tree_at d.trees other))
      more_added old mid new pushed n = record {
        more = p ∷ n.more;
        is = n.is ∙ ap (λ (z : List Question). z ++ n.more) pushed ∙ append_assoc old (p ∷ []) n.more;
        asked = All-cons (IsAsked d) p n.more first_asked n.asked;
        numbers = All-cons (λ (z : Question). z.number ≡ q.number) p n.more refl n.numbers;
        lower = All-cons (λ (z : Question). IsLower d.trees z q) p n.more first_lower n.lower;
        pairs = subst (λ (z : Tree). ArePaired z (tree_at d.trees other) (questions_at d.trees (p ∷ n.more))) (sym e) (subst (λ (z : Tree). ArePaired (Two HCell A M) z (questions_at d.trees (p ∷ n.more))) (sym f) (questions_at d.trees n.more, (refl, n.pairs)));
      }

  -- where they end
  pub none_added : (old : List Question) → tree_at d.trees list ≡ Leaf HEnd → AddsQuestions d q old old (ArePaired (tree_at d.trees list) (tree_at d.trees other))
  none_added old e =
      let w : ArePaired (Leaf HEnd) (tree_at d.trees other) l.paired.0 = subst (λ (z : Tree). ArePaired z (tree_at d.trees other) l.paired.0) e l.paired.1 in
      record {
        more = [];
        is = sym (append-nil old);
        asked = All-nil (IsAsked d);
        numbers = All-nil (λ (z : Question). z.number ≡ q.number);
        lower = All-nil (λ (z : Question). IsLower d.trees z q);
        pairs = subst (λ (z : Tree). ArePaired z (tree_at d.trees other) []) (sym e) (w.0, refl);
      }

-- ---- applications
applied_number : (s : List Tree) (k : SymbolAt) (n : ℕ) (x : Tree) → number_under n (applied s k x) ≡ n
applied_number s (symbol.Function f ts ty) n x = refl
applied_number s (symbol.Predicate p ts) n x = refl

applied_rank : (s : List Tree) (k : SymbolAt) (x : Tree) → rank x zero_ranks 0 ≤ rank (applied s k x) zero_ranks 0
applied_rank s (symbol.Function f ts ty) x = omega arith
applied_rank s (symbol.Predicate p ts) x = let z = rank_zeros x 0 (ranks_put 0 0 zero_ranks) in omega (arith, z)

applied_parts : (s : List Tree) (t : TaskTree) (n : ℕ) (k : SymbolAt) (x y : Tree) (ps : Pairs) → ArePaired x y ps → ArePartsOf t n (applied s k x) (applied s k y) ps
applied_parts s t n (symbol.Function f ts ty) x y ps p = (refl, (refl, p))
applied_parts s t n (symbol.Predicate g ts) x y ps p = (refl, (refl, p))

applied_types : (s : List Tree) (v : Vocabulary) (k : SymbolAt) (x y : Tree) → TypedUnder v [] (applied s k x) → TypedUnder v [] (applied s k y) → map type_of (members x) ≡ map type_of (members y)
applied_types s v (symbol.Function f ts ty) x y h g = let w = both_of (entry v f) _ _ h.1.1 g.1.1 in w.1.0.1.fit ∙ sym w.1.1.1.fit
applied_types s v (symbol.Predicate p ts) x y h g = let w = both_of (entry v p) _ _ h.1.1 g.1.1 in w.1.0.1.fit ∙ sym w.1.1.1.fit

result_same : (f g : ℕ) (ts us x y a b : Tree) → type_of (Three (HFun g) us y b) ≡ type_of (Three (HFun f) ts x a) → b ≡ a
result_same f g ts us x y a b q = let e : Some b ≡ Some a = q in cc

module _ (d : DraftTree) (q : Question) (i : IsAsked d q) (x : Tree) where
  pub symbol_right : (k : SymbolAt) (ps : Pairs) → tree_at d.trees q.left ≡ applied d.trees k x → ArePartsOf d.task q.number (tree_at d.trees q.left) (tree_at d.trees q.right) ps
      → (y : Tree) × ((tree_at d.trees q.right ≡ applied d.trees k y) × ArePaired x y ps)
  symbol_right (symbol.Function f ts ty) ps e h =
      let TS = tree_at d.trees ts in
      let TY = tree_at d.trees ty in
      let w = function_in (tree_at d.trees q.right) (λ p. (p.0 ≡ f) × ((p.1 ≡ TS) × ArePaired x p.2 ps)) (subst (λ (z : Tree). ArePartsOf d.task q.number z (tree_at d.trees q.right) ps) e h) in
      let n = w.1.1.1 in
      let s : n.0 ≡ TY = result_same f w.0 TS w.1.0 x w.1.1.0 TY n.0 (sym (ap type_of n.1.0) ∙ i.pair.type ∙ ap type_of e) in
      (w.1.1.0, (n.1.0 ∙ cc (n.1.1.0, n.1.1.1.0, s), n.1.1.1.1))
  symbol_right (symbol.Predicate f ts) ps e h =
      let TS = tree_at d.trees ts in
      let w = predicate_in (tree_at d.trees q.right) (λ p. (p.0 ≡ f) × ((p.1 ≡ TS) × ArePaired x p.2 ps)) (subst (λ (z : Tree). ArePartsOf d.task q.number z (tree_at d.trees q.right) ps) e h) in
      let n = w.1.1.1 in
      (w.1.1.0, (n.0 ∙ cc (n.1.0, n.1.1.0), n.1.1.1))

  -- the right one known
  pub symbol_paired : (k : SymbolAt) (ps : Pairs) (y : Tree) → tree_at d.trees q.left ≡ applied d.trees k x → tree_at d.trees q.right ≡ applied d.trees k y → ArePartsOf d.task q.number (tree_at d.trees q.left) (tree_at d.trees q.right) ps → ArePaired x y ps
  symbol_paired k ps y e f h =
      let w = symbol_right k ps e h in
      subst (λ (z : Tree). ArePaired x z ps) (one_list d.trees k w.0 y (sym w.1.0 ∙ f)) w.1.1
    where
      one_list : (s : List Tree) (k : SymbolAt) (a b : Tree) → applied s k a ≡ applied s k b → a ≡ b
      one_list s (symbol.Function f ts ty) a b q = cc
      one_list s (symbol.Predicate p ts) a b q = cc

module _ (d : DraftTree) (q : Question) (i : IsAsked d q) (k : SymbolAt) (a b : TermId) (e : tree_at d.trees q.left ≡ applied d.trees k (tree_at d.trees a)) (f : tree_at d.trees q.right ≡ applied d.trees k (tree_at d.trees b)) where
  pub symbol_lists : (ps : Pairs) → a.0 < q.left.0 → Holds d.trees b → ArePartsOf d.task q.number (tree_at d.trees q.left) (tree_at d.trees q.right) ps → AreLists d q a b
  symbol_lists ps below hb h =
      let X = tree_at d.trees a in
      let Y = tree_at d.trees b in
      let tx = subst (TypedUnder (of_task d.task) []) e i.pair.left.ground.typed in
      let ty = subst (TypedUnder (of_task d.task) []) f i.pair.right.ground.typed in
      let wx = applied_list d.trees (of_task d.task) [] k X tx in
      let wy = applied_list d.trees (of_task d.task) [] k Y ty in
      let r = applied_rank d.trees k X in
      let re : rank (tree_at d.trees q.left) zero_ranks 0 ≡ rank (applied d.trees k X) zero_ranks 0 = ap (λ (z : Tree). rank z zero_ranks 0) e in
      record {
        held = (omega (arith, below, i.pair.left.held), hb);
        terms = (wx.1, wy.1);
        typed = (wx.0, wy.0);
        ground = (ground_list d.trees 0 k X (subst IsGround e i.pair.left.ground.ground), ground_list d.trees 0 k Y (subst IsGround f i.pair.right.ground.ground));
        above = (above_list d.trees q.number k X (subst (λ (z : Tree). above_params z ≤ q.number) e i.left_above), above_list d.trees q.number k Y (subst (λ (z : Tree). above_params z ≤ q.number) f i.right_above));
        types = applied_types d.trees (of_task d.task) k X Y tx ty;
        below = below;
        ranked = omega (arith, r, re);
        paired = (ps, symbol_paired d q i X k ps Y e f h);
      }

  pub symbol_questions : (out : List Question) → AddsQuestions d q [] out (ArePaired (tree_at d.trees a) (tree_at d.trees b)) → AreQuestions d q out
  symbol_questions out n =
      let X = tree_at d.trees a in
      let Y = tree_at d.trees b in
      let u : number_under q.number (tree_at d.trees q.left) ≡ q.number = ap (number_under q.number) e ∙ applied_number d.trees k q.number X in
      subst (AreQuestions d q) (sym n.is)
      (record {
        asked = n.asked;
        numbers = λ j z l. n.numbers j z l ∙ sym u;
        parts = subst (λ (z : Tree). ArePartsOf d.task q.number z (tree_at d.trees q.right) (questions_at d.trees n.more)) (sym e) (subst (λ (z : Tree). ArePartsOf d.task q.number (applied d.trees k X) z (questions_at d.trees n.more)) (sym f) (applied_parts d.trees d.task q.number k X Y (questions_at d.trees n.more) n.pairs));
        lower = n.lower;
      })
