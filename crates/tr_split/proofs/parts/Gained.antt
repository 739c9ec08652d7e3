-- How lists of formulas that gain others compose.
use Rattle.std.proofs.Common.{◌≡◌, ℕ, ◌<◌, ◌≤◌, ◌+◌, List, [], ◌∷◌, ◌++◌, length, map, take, get_or, All, sym, ap, subst, ◌∙◌, append_assoc, arith}
use Rattle.std.proofs.lemmas.List.{append-nil, map-append, length-map, get_or-map, take_more, take_all}
use Rattle.std.proofs.lemmas.List.Elements.{All-append, All-push, All-cons, All-nil}
use Rattle.trees.specs.declared.TermId.{TermId}
use Rattle.trees.specs.Tree.{Tree, Two, Head}
use Rattle.trees.specs.Node.{tree_at, Holds, Grows}
use Rattle.tasks.specs.Meaning.{trees_at}
use Rattle.tasks.proofs.Growth.{trees_later, all_held_later}
use Rattle.tr_split.specs.parts.Split.{imp, split}
use Rattle.tr_split.specs.parts.Parts.{IsSentence, GainsFormulas, Wraps}

pub gains_none : (a b : List Tree) (p : List TermId) → Grows a b → All (Holds a) p → GainsFormulas a b p p []
gains_none a b p g h = record {
  trees = trees_later a b g p h ∙ sym (append-nil (trees_at a p));
  held = all_held_later a b g p h;
  sentences = All-nil IsSentence;
}

pub gains_one : (a b : List Tree) (p : List TermId) (id : TermId) (e : Tree) → Grows a b → All (Holds a) p → Holds b id → tree_at b id ≡ e → IsSentence e → GainsFormulas a b p (p ++ id ∷ []) (e ∷ [])
gains_one a b p id e g h k t s =
    let old = trees_later a b g p h in
    record {
      trees = map-append (tree_at b) p (id ∷ []) ∙ cc (old, t);
      held = All-push (Holds b) p id (all_held_later a b g p h) k;
      sentences = All-cons IsSentence e [] s (All-nil IsSentence);
    }

pub gains_both : (a b c : List Tree) (p q r : List TermId) (xs ys : List Tree) → GainsFormulas a b p q xs → GainsFormulas b c q r ys → GainsFormulas a c p r (xs ++ ys)
gains_both a b c p q r xs ys g h = record {
  trees = h.trees ∙ ap (λ (z : List Tree). z ++ ys) g.trees ∙ append_assoc (trees_at a p) xs ys;
  held = h.held;
  sentences = All-append IsSentence xs ys g.sentences h.sentences;
}

pub sentence_at : (s : List Tree) (ids : List TermId) (i : ℕ) (d : TermId) → All IsSentence (trees_at s ids) → i < length ids → IsSentence (tree_at s (get_or ids i d))
sentence_at s ids i d a l =
    let m : i < length (trees_at s ids) = omega (arith, length-map ids (tree_at s)) in
    subst IsSentence (get_or-map (tree_at s) ids i d (tree_at s d) l) (a i (tree_at s d) m)

-- one formula more is wrapped
pub gains_wrapped : (a b c : List Tree) (p q r ids : List TermId) (i : ℕ) (id first d : TermId) (h : Head) → Grows a b → Grows b c → Holds a first → All (Holds a) ids → All IsSentence (trees_at a ids)
    → Wraps h (tree_at a first) → i < length ids → GainsFormulas a b p q (map (Two h (tree_at a first)) (trees_at a (take i ids)))
    → r ≡ q ++ id ∷ [] → Holds c id → tree_at c id ≡ Two h (tree_at b first) (tree_at b (get_or ids i d)) → GainsFormulas a c p r (map (Two h (tree_at a first)) (trees_at a (take (i + 1) ids)))
gains_wrapped a b c p q r ids i id first d h ab bc f is ss w l g pushed k t =
    let x = tree_at a first in
    let y = tree_at a (get_or ids i d) in
    let e : map (Two h x) (trees_at a (take (i + 1) ids)) ≡ map (Two h x) (trees_at a (take i ids)) ++ Two h x y ∷ [] =
    ap (λ (z : List TermId). map (Two h x) (trees_at a z)) (take_more ids i d l)
    ∙ ap (map (Two h x)) (map-append (tree_at a) (take i ids) (get_or ids i d ∷ []))
    ∙ map-append (Two h x) (trees_at a (take i ids)) (y ∷ []) in
    let u : tree_at b first ≡ x = ab.same first.0 f in
    let v : tree_at b (get_or ids i d) ≡ y = ab.same (get_or ids i d).0 (is i d l) in
    let one = gains_one b c q id (Two h x y) bc g.held k (t ∙ cc (u, v)) (w.sentence y (sentence_at a ids i d ss l)) in
    subst (λ (z : List Tree). GainsFormulas a c p r z) (sym e) (subst (λ (z : List TermId). GainsFormulas a c p z (map (Two h x) (trees_at a (take i ids)) ++ Two h x y ∷ [])) (sym pushed) (gains_both a b c p q (q ++ id ∷ []) _ _ g one))

-- all are
pub gains_all : (a b : List Tree) (p q ids : List TermId) (i : ℕ) (f : Tree → Tree) → length ids ≤ i → GainsFormulas a b p q (map f (trees_at a (take i ids))) → GainsFormulas a b p q (map f (trees_at a ids))
gains_all a b p q ids i f l g = subst (λ (z : List TermId). GainsFormulas a b p q (map f (trees_at a z))) (take_all i ids l) g

pub gains_then : (a b c : List Tree) (p q r : List TermId) (xs ys zs whole : List Tree) → GainsFormulas a b p q xs → GainsFormulas b c q r zs → zs ≡ ys → whole ≡ xs ++ ys → GainsFormulas a c p r whole
gains_then a b c p q r xs ys zs whole g h e w =
    subst (λ (z : List Tree). GainsFormulas a c p r z) (sym (w ∙ ap (λ (z : List Tree). xs ++ z) (sym e))) (gains_both a b c p q r xs zs g h)

pub gains_grown : (a b c : List Tree) (p q : List TermId) (xs : List Tree) → GainsFormulas a b p q xs → Grows b c → GainsFormulas a c p q xs
gains_grown a b c p q xs g h = record {
  trees = trees_later b c h q g.held ∙ g.trees;
  held = all_held_later b c h q g.held;
  sentences = g.sentences;
}

pub split_later : (s s' : List Tree) (id : TermId) → Grows s s' → Holds s id → split (tree_at s' id) ≡ split (tree_at s id)
split_later s s' id g h = ap split (g.same id.0 h)

pub imp_later : (s s' : List Tree) (id : TermId) (x y : Tree) → x ≡ y → Grows s s' → Holds s id → map (imp x) (split (tree_at s' id)) ≡ map (imp y) (split (tree_at s id))
imp_later s s' id x y e g h = ap (λ (z : Tree). map (imp z) (split (tree_at s' id))) e ∙ ap (λ (z : Tree). map (imp y) (split z)) (g.same id.0 h)

pub gains_before : (a b c : List Tree) (p r : List TermId) (xs : List Tree) → Grows a b → All (Holds a) p → GainsFormulas b c p r xs → GainsFormulas a c p r xs
gains_before a b c p r xs g h m = record {
  trees = m.trees ∙ ap (λ (z : List Tree). z ++ xs) (trees_later a b g p h);
  held = m.held;
  sentences = m.sentences;
}

-- what was gained in a list of its own, wrapped
pub gains_under : (a b c : List Tree) (p r empty inner ds : List TermId) (first : TermId) (h : Head) (xs : List Tree) → Grows a b → All (Holds a) p → Holds a first → empty ≡ [] → GainsFormulas a b empty inner xs
    → ds ≡ inner → GainsFormulas b c p r (map (Two h (tree_at b first)) (trees_at b ds)) → GainsFormulas a c p r (map (Two h (tree_at a first)) xs)
gains_under a b c p r empty inner ds first h xs g k f none m e w =
    let all : trees_at b ds ≡ xs = ap (trees_at b) e ∙ m.trees ∙ ap (λ (z : List TermId). trees_at a z ++ xs) none in
    let t : map (Two h (tree_at b first)) (trees_at b ds) ≡ map (Two h (tree_at a first)) xs =
    ap (λ (z : Tree). map (Two h z) (trees_at b ds)) (g.same first.0 f) ∙ ap (map (Two h (tree_at a first))) all in
    gains_before a b c p r _ g k (subst (λ (z : List Tree). GainsFormulas b c p r z) t w)
