-- How scripts are followed: line by line, over drafts that grow.
use Rattle.std.proofs.Common.{◌≡◌, ℕ, zero, suc, ◌+◌, ◌<◌, ◌≤◌, List, [], ◌∷◌, ◌++◌, map, length, slice_get, take, drop, All, Option, Some, refl, sym, ap, subst, ◌∙◌, append_assoc, arith}
use Rattle.std.proofs.lemmas.List.{map-append, length-map, length-append, append-nil}
use Rattle.std.proofs.lemmas.List.Elements.{All-append}
use Rattle.std.proofs.lemmas.Option.{slice_get_within}
use Rattle.tasks.specs.Valid.{IsGroundFormula}
use Rattle.trees.specs.declared.TermId.{TermId}
use Rattle.trees.specs.Tree.{Tree}
use Rattle.trees.specs.Node.{tree_at, Holds}
use Rattle.tasks.specs.Task.{TaskTree, neg}
use Rattle.tasks.specs.Meaning.{trees_at}
use Rattle.rules.specs.Trees.{RuleTree, RCut, RForall, RLetDef, RIfDef, RMatchDef, RNotExists, RReplace, RRefl, RProject}
use Rattle.rules.specs.Forms.{negated, connected}
use Rattle.rules.specs.Rows.{IsRuleRow, where_true, where_false}
use Rattle.evidence.specs.Drafts.{DraftTree, Extends, Refutes, RefuteAll, AreFormulas, RefutesAt}
use Rattle.evidence.specs.Rules.{RefuteAdded}
use Rattle.evidence.proofs.Rules.{refutes_later, some_map}
use Rattle.evidence.proofs.Formulas.{same, formulas_later, formula_later, both_formulas, after_ids}
use Rattle.evidence.specs.declared.proof_scripts.line.Word.{Word}
use Rattle.evidence.specs.declared.proof_scripts.line.Word.TheVariants as word
use Rattle.evidence.specs.declared.proof_scripts.line.Formulas.{Formulas}
use Rattle.evidence.specs.declared.proof_scripts.line.Places.{Places}
use Rattle.evidence.specs.declared.proof_scripts.line.Places.TheVariants as places
use Rattle.evidence.specs.declared.proof_scripts.line.Line.{Line}
use Rattle.evidence.specs.declared.proof_scripts.line.Line.TheVariants as line
use Rattle.evidence.specs.proof_scripts.Scripts.{LineTree, GivenLine, KeptLine, HoldingLine, FailingLine, CutLine, TailLine, MadeLine, branch_line, branches_line, field_line, word_rule, WordHeld, ids_of, added_ids, added_at, script_line_at, lines_at, LineHeld, LinesHeld, sequents_under, adds, IsOfTail, IsGiven, places_of, PlacesFit, IsByRule, Follows, CanFollow}
use Rattle.evidence.specs.proof_scripts.Derived.{AreAdded, all_added, Consumes, RefuteUnder, AreByLines}
use Rattle.evidence.proofs.proof_scripts.Later.{comparable_later}
use Rattle.tasks.proofs.plain_laws.Lists.{All-left, All-right}

abbrev cut_line : Tree → LineTree
cut_line a = CutLine a

abbrev tail_line : RuleTree → LineTree
tail_line r = TailLine r

abbrev word_rule_cut : Tree → RuleTree
word_rule_cut e = RCut e

abbrev word_rule_forall : ℕ → Tree → RuleTree
word_rule_forall i e = RForall i e

abbrev word_rule_let : Tree → RuleTree
word_rule_let e = RLetDef e

abbrev word_rule_if : Tree → RuleTree
word_rule_if e = RIfDef e

abbrev word_rule_match : Tree → RuleTree
word_rule_match e = RMatchDef e

abbrev word_rule_not_exists : ℕ → Tree → RuleTree
word_rule_not_exists i e = RNotExists i e

abbrev word_rule_refl : Tree → RuleTree
word_rule_refl e = RRefl e

abbrev word_rule_project : Tree → RuleTree
word_rule_project e = RProject e

abbrev word_rule_replace : ℕ → ℕ → Tree → RuleTree
word_rule_replace i j e = RReplace i j e

map_drop : {A B : Type 0} (f : A → B) (n : ℕ) (xs : List A) → map f (drop n xs) ≡ drop n (map f xs)
map_drop f zero xs = refl
map_drop f (suc n) [] = refl
map_drop f (suc n) (x ∷ xs) = map_drop f n xs

abbrev nothing_of : (A : Type 0) → List A
nothing_of A = []

drop_none : {A : Type 0} (n m : ℕ) → drop n (nothing_of A) ≡ drop m (nothing_of A)
drop_none zero zero = refl
drop_none zero (suc m) = refl
drop_none (suc n) zero = refl
drop_none (suc n) (suc m) = refl

drop_drop : {A : Type 0} (n m : ℕ) (xs : List A) → drop n (drop m xs) ≡ drop (m + n) xs
drop_drop n zero xs = let e : 0 + n ≡ n = omega arith in ap (λ k. drop k xs) (sym e)
drop_drop n (suc m) [] = drop_none n (suc m + n)
drop_drop n (suc m) (x ∷ xs) = let e : suc m + n ≡ suc (m + n) = omega arith in drop_drop n m xs ∙ ap (λ k. drop k (x ∷ xs)) (sym e)

-- ---- lists

take_drop : {A : Type 0} (n : ℕ) (xs : List A) → take n xs ++ drop n xs ≡ xs
take_drop zero xs = refl
take_drop (suc n) [] = refl
take_drop (suc n) (x ∷ xs) = ap (λ z. x ∷ z) (take_drop n xs)

lines_dropped : (s : List Tree) (ls following : List Line) (m : ℕ) → following ≡ drop m ls → drop m (lines_at s ls) ≡ lines_at s following
lines_dropped s ls following m q = sym (map_drop (script_line_at s) m ls) ∙ ap (lines_at s) (sym q)

-- ---- over a draft that has grown
module _ (d d1 : DraftTree) (x : Extends d d1) where
  given_later : (f t : List Tree) (k n : ℕ) → IsGiven d f t k n → IsGiven d1 f t k n
  given_later f t k n g = record { before = g.before; last = g.last; is = g.is; as_many = g.as_many; refutes = refutes_later d d1 x k _ g.refutes }

  kept_later : (s : List Tree) (ps : List ℕ) (k : ℕ) → RefutesAt d s ps k → RefutesAt d1 s ps k
  kept_later s ps k g = record { kept = g.kept; are = g.are; refutes = refutes_later d d1 x k _ g.refutes }

  by_rule_later : (s : List Tree) (r : RuleTree) (added : List (List Tree)) → IsByRule d.task s r added → IsByRule d1.task s r added
  by_rule_later s r added g = subst (λ (t : TaskTree). IsByRule t s r added) (sym x.task) g

  of_tail_later : (s : List Tree) (r : RuleTree) → IsOfTail d.task s r → IsOfTail d1.task s r
  of_tail_later s r g = subst (λ (t : TaskTree). IsOfTail t s r) (sym x.task) g

  pub follows_later : (f : List Tree) (ls : List LineTree) (ts : List (List Tree)) → Follows d f ls ts → Follows d1 f ls ts
  follows_later f [] [] h = tt
  follows_later f [] (t ∷ ts) h = h
  follows_later f (GivenLine k n ∷ ls) [] h = h
  follows_later f (KeptLine k ps ∷ ls) [] h = h
  follows_later f (MadeLine r a ∷ ls) [] h = h
  follows_later f (HoldingLine op i ∷ ls) [] h = h
  follows_later f (FailingLine op i ∷ ls) [] h = h
  follows_later f (CutLine a ∷ ls) [] h = h
  follows_later f (TailLine r ∷ ls) [] h = h
  follows_later f (GivenLine k n ∷ ls) (t ∷ ts) h = (given_later f t k n h.0, follows_later f ls ts h.1)
  follows_later f (KeptLine k ps ∷ ls) (t ∷ ts) h = (kept_later t ps k h.0, follows_later f ls ts h.1)
  follows_later f (MadeLine r a ∷ ls) (t ∷ ts) h = (by_rule_later (f ++ t) r ((a ∷ []) ∷ []) h.0, follows_later f ls ((t ++ a ∷ []) ∷ ts) h.1)
  follows_later f (TailLine r ∷ ls) (t ∷ ts) h = (of_tail_later t r h.0, h.1, follows_later f ls (sequents_under t (adds t r) ++ ts) h.2)
  follows_later f (HoldingLine op i ∷ ls) (t ∷ ts) h =
      some_map (connected (slice_get t i)) _ _ (λ p z. (z.0, follows_later f ls (sequents_under t (where_true op p.1 p.2) ++ ts) z.1)) h
  follows_later f (FailingLine op i ∷ ls) (t ∷ ts) h =
      some_map (connected (negated (slice_get t i))) _ _ (λ p z. (z.0, follows_later f ls (sequents_under t (where_false op p.1 p.2) ++ ts) z.1)) h
  follows_later f (CutLine a ∷ ls) (t ∷ ts) h = follows_later f ls (sequents_under t ((a ∷ []) ∷ (neg a ∷ []) ∷ []) ++ ts) h

  held_later : (id : TermId) → Holds d.trees id → Holds d1.trees id
  held_later id h = omega (arith, h, x.trees.longer)

  pub word_later : (w : Word) → WordHeld d.trees w → WordHeld d1.trees w
  word_later (word.NotTrue i) h = tt
  word_later (word.Clash i j) h = tt
  word_later (word.Holding op i) h = tt
  word_later (word.Failing op i) h = tt
  word_later (word.Cut a) h = held_later a h
  word_later (word.Forall i t) h = held_later t h
  word_later (word.NotForall i n) h = tt
  word_later (word.LetDef e) h = held_later e h
  word_later (word.IfDef e) h = held_later e h
  word_later (word.MatchDef e) h = held_later e h
  word_later (word.NotNot i) h = tt
  word_later (word.Irrefl i) h = tt
  word_later (word.Exists i n) h = tt
  word_later (word.NotExists i t) h = held_later t h
  word_later (word.Replace i j e) h = held_later e h
  word_later (word.False i) h = tt
  word_later (word.Refl e) h = held_later e h
  word_later (word.Distinct i) h = tt
  word_later (word.Project e) h = held_later e h

  pub word_same : (w : Word) → WordHeld d.trees w → word_rule d1.trees w ≡ word_rule d.trees w
  word_same (word.NotTrue i) h = refl
  word_same (word.Clash i j) h = refl
  word_same (word.Holding op i) h = refl
  word_same (word.Failing op i) h = refl
  word_same (word.Cut a) h = ap (λ e. word_rule_cut e) (x.trees.same a.0 h)
  word_same (word.Forall i t) h = ap (λ e. word_rule_forall i e) (x.trees.same t.0 h)
  word_same (word.NotForall i n) h = refl
  word_same (word.LetDef e) h = ap (λ z. word_rule_let z) (x.trees.same e.0 h)
  word_same (word.IfDef e) h = ap (λ z. word_rule_if z) (x.trees.same e.0 h)
  word_same (word.MatchDef e) h = ap (λ z. word_rule_match z) (x.trees.same e.0 h)
  word_same (word.NotNot i) h = refl
  word_same (word.Irrefl i) h = refl
  word_same (word.Exists i n) h = refl
  word_same (word.NotExists i t) h = ap (λ z. word_rule_not_exists i z) (x.trees.same t.0 h)
  word_same (word.Replace i j e) h = ap (λ z. word_rule_replace i j z) (x.trees.same e.0 h)
  word_same (word.False i) h = refl
  word_same (word.Refl e) h = ap (λ z. word_rule_refl z) (x.trees.same e.0 h)
  word_same (word.Distinct i) h = refl
  word_same (word.Project e) h = ap (λ z. word_rule_project z) (x.trees.same e.0 h)

  pub all_later : (fs : List Formulas) → AreAdded d fs → AreAdded d1 fs
  all_later fs a = λ k z l. formulas_later d d1 x _ (a k z l)

  pub all_same : (fs : List Formulas) → AreAdded d fs → all_added d1.trees fs ≡ all_added d.trees fs
  all_same [] a = refl
  all_same (f ∷ fs) a = cc (same d d1 x (ids_of f) (a 0 [] (omega arith)), all_same fs (λ k z l. a (suc k) z (omega arith)))

  line_later : (l : Line) → LineHeld d l → LineHeld d1 l
  line_later (line.Given k n) h = tt
  line_later (line.Kept k ps) h = tt
  line_later (line.Holding op i) h = tt
  line_later (line.Failing op i) h = tt
  line_later (line.Cut a) h = formula_later d d1 x a h
  line_later (line.Rule w) h = (word_later w h.0, h.1)
  line_later (line.Branch w a) h = comparable_later d d1 x w a h
  line_later (line.Branches w c a b) h = (formula_later d d1 x c h.0, comparable_later d d1 x w a h.1, comparable_later d d1 x w b h.2)
  line_later (line.Field w a) h = comparable_later d d1 x w a h

  line_same : (l : Line) → LineHeld d l → script_line_at d1.trees l ≡ script_line_at d.trees l
  line_same (line.Given k n) h = refl
  line_same (line.Kept k ps) h = refl
  line_same (line.Holding op i) h = refl
  line_same (line.Failing op i) h = refl
  line_same (line.Cut a) h = ap cut_line (x.trees.same a.0 h.held)
  line_same (line.Rule w) h = ap tail_line (word_same w h.0)
  line_same (line.Branch w a) h = ap (λ z. branch_line z (tree_at d1.trees a)) (x.trees.same w.0 h.left.held) ∙ ap (branch_line (tree_at d.trees w)) (x.trees.same a.0 h.right.held)
  line_same (line.Branches w c a b) h =
      ap (λ z. branches_line z (tree_at d1.trees c) (tree_at d1.trees a) (tree_at d1.trees b)) (x.trees.same w.0 h.1.left.held)
      ∙ ap (λ z. branches_line (tree_at d.trees w) z (tree_at d1.trees a) (tree_at d1.trees b)) (x.trees.same c.0 h.0.held)
      ∙ ap (λ z. branches_line (tree_at d.trees w) (tree_at d.trees c) z (tree_at d1.trees b)) (x.trees.same a.0 h.1.right.held) ∙ ap (branches_line (tree_at d.trees w) (tree_at d.trees c) (tree_at d.trees a)) (x.trees.same b.0 h.2.right.held)
  line_same (line.Field w a) h = ap (λ z. field_line z (tree_at d1.trees a)) (x.trees.same w.0 h.left.held) ∙ ap (field_line (tree_at d.trees w)) (x.trees.same a.0 h.right.held)

  pub lines_later : (ls : List Line) → LinesHeld d ls → LinesHeld d1 ls
  lines_later ls h = λ k z l. line_later _ (h k z l)

  pub lines_same : (ls : List Line) → LinesHeld d ls → lines_at d1.trees ls ≡ lines_at d.trees ls
  lines_same [] h = refl
  lines_same (l ∷ ls) h = cc (line_same l (h 0 l (omega arith)), lines_same ls (λ k z q. h (suc k) z (omega arith)))

  pub refute_later : (ks : List ℕ) (qs : List (List Tree)) → RefuteAll d ks qs → RefuteAll d1 ks qs
  refute_later [] [] r = tt
  refute_later [] (q ∷ qs) r = absurd r
  refute_later (k ∷ ks) [] r = absurd r
  refute_later (k ∷ ks) (q ∷ qs) r = (refutes_later d d1 x k q r.0, refute_later ks qs r.1)

-- ---- the first line
module _ (d : DraftTree) (f t : List Tree) (ts : List (List Tree)) (s : List Tree) (ls rest : List Line) (l : Line) (q : ls ≡ l ∷ rest) where
  pub opened : Follows d f (lines_at s ls) (t ∷ ts) → Follows d f (script_line_at s l ∷ lines_at s rest) (t ∷ ts)
  opened h = subst (λ (z : List Line). Follows d f (lines_at s z) (t ∷ ts)) q h

  pub given_here : (k n : ℕ) → l ≡ line.Given k n → Follows d f (lines_at s ls) (t ∷ ts) → IsGiven d f t k n × Follows d f (lines_at s rest) ts
  given_here k n e h = subst (λ (z : Line). Follows d f (script_line_at s z ∷ lines_at s rest) (t ∷ ts)) e (opened h)

  pub kept_here : (k : ℕ) (ps : Places) → l ≡ line.Kept k ps → Follows d f (lines_at s ls) (t ∷ ts) → RefutesAt d t (places_of ps) k × Follows d f (lines_at s rest) ts
  kept_here k ps e h = subst (λ (z : Line). Follows d f (script_line_at s z ∷ lines_at s rest) (t ∷ ts)) e (opened h)

  pub first_held : LinesHeld d ls → LineHeld d l
  first_held h = subst (LinesHeld d) q h 0 l (omega arith)

  pub rest_held : LinesHeld d ls → LinesHeld d rest
  rest_held h = λ k z m. subst (LinesHeld d) q h (suc k) z (omega arith)

-- nothing is used
pub consumes_none : (f : List Tree) (ls : List LineTree) → Consumes f ls [] 0
consumes_none f ls = record { left = λ d r h. h }

-- without premises nothing is used
pub none_derived : (d : DraftTree) (s f t : List Tree) (ls : List LineTree) (fs : List Formulas) (steps : List ℕ) → length fs ≡ 0 → AreByLines d f (sequents_under t (all_added s fs)) ls steps steps 0
none_derived d s f t ls [] steps e = record {
  refute = record { more = []; is = sym (append-nil steps); refute = tt };
  consumes = consumes_none f ls;
  within = omega arith;
}
none_derived d s f t ls (x ∷ fs) steps e = absurd (omega (arith, e))

-- one line is used, and others after it
pub consumes_more : (f t : List Tree) (s : List Tree) (ls rest : List Line) (l : Line) (q : ls ≡ l ∷ rest) (n : ℕ) (us : List (List Tree))
    → ((d : DraftTree) (r : List (List Tree)) → Follows d f (lines_at s ls) (t ∷ r) → Follows d f (lines_at s rest) (us ++ r)) → Consumes f (lines_at s rest) us n → Consumes f (lines_at s ls) (t ∷ []) (suc n)
consumes_more f t s ls rest l q n us step c =
    let e : drop (suc n) (lines_at s ls) ≡ drop n (lines_at s rest) = ap (λ (z : List Line). drop (suc n) (lines_at s z)) q in
    record { left = λ d r h. subst (λ (z : List LineTree). Follows d f z r) (sym e) (c.left d r (step d r h)) }

pub one_line_more : (s : List Tree) (ls rest : List Line) (l : Line) → ls ≡ l ∷ rest → length (lines_at s ls) ≡ length (lines_at s rest) + 1
one_line_more s ls rest l q = let e : length (lines_at s ls) ≡ suc (length (lines_at s rest)) = ap (λ (z : List Line). length (lines_at s z)) q in omega arith

pub some_line : (s : List Tree) (ls rest : List Line) (l : Line) → ls ≡ l ∷ rest → 1 ≤ length (lines_at s ls)
some_line s ls rest l q = omega (arith, one_line_more s ls rest l q)

-- ---- what premises add, one after the other
-- two premises as a list
module _ (d : DraftTree) (a b : Option Formulas) (fs : List Formulas) (e : map ids_of fs ≡ added_ids a ++ added_ids b) where
  pub listed_held : All (AreFormulas d) (added_ids a) → All (AreFormulas d) (added_ids b) → AreAdded d fs
  listed_held x y = subst (All (AreFormulas d)) (sym e) (All-append (AreFormulas d) (added_ids a) (added_ids b) x y)

  pub listed_same : all_added d.trees fs ≡ added_at d.trees a ++ added_at d.trees b
  listed_same = ap (map (trees_at d.trees)) e ∙ map-append (trees_at d.trees) (added_ids a) (added_ids b)

pub under_listed : (t : List Tree) (xs ys zs : List (List Tree)) → zs ≡ xs ++ ys → sequents_under t xs ++ sequents_under t ys ≡ sequents_under t zs
under_listed t xs ys zs e = sym (map-append (λ x. t ++ x) xs ys) ∙ ap (sequents_under t) (sym e)

-- the first of them, and the others
module _ (d : DraftTree) (fs rest : List Formulas) (f : Formulas) (q : fs ≡ f ∷ rest) where
  pub first_added : AreAdded d fs → AreFormulas d (ids_of f)
  first_added a = subst (AreAdded d) q a 0 (ids_of f) (omega arith)

  pub rest_added : AreAdded d fs → AreAdded d rest
  rest_added a = λ k z l. subst (AreAdded d) q a (suc k) z (omega arith)

  pub sequents_are : (t : List Tree) → sequents_under t (all_added d.trees fs) ≡ (t ++ trees_at d.trees (ids_of f)) ∷ sequents_under t (all_added d.trees rest)
  sequents_are t = ap (λ (z : List Formulas). sequents_under t (all_added d.trees z)) q

-- one and then the other
pub consumes_both : (f : List Tree) (s : List Tree) (ls following : List Line) (ts us : List (List Tree)) (m n : ℕ) → following ≡ drop m ls → Consumes f (lines_at s ls) ts m
    → Consumes f (lines_at s following) us n → Consumes f (lines_at s ls) (ts ++ us) (m + n)
consumes_both f s ls following ts us m n q a b = record {
  left = λ d r h.
      let first : Follows d f (drop m (lines_at s ls)) (us ++ r) = a.left d (us ++ r) (subst (Follows d f (lines_at s ls)) (append_assoc ts us r) h) in
      let moved : drop m (lines_at s ls) ≡ lines_at s following = lines_dropped s ls following m q in
      let second : Follows d f (drop n (lines_at s following)) r = b.left d r (subst (λ (z : List LineTree). Follows d f z (us ++ r)) moved first) in
      subst (λ (z : List LineTree). Follows d f z r) (ap (drop n) (sym moved) ∙ drop_drop n m (lines_at s ls)) second;
}

-- what is left for a first premise, and for a second one
pub first_follows : (d : DraftTree) (f : List Tree) (ls : List LineTree) (ts us : List (List Tree)) → CanFollow d f ls (ts ++ us) → CanFollow d f ls ts
first_follows d f ls ts us c = record { rest = us ++ c.rest; follows = subst (Follows d f ls) (append_assoc ts us c.rest) c.follows }

pub second_follows : (d : DraftTree) (f : List Tree) (s : List Tree) (ls following : List Line) (ts us : List (List Tree)) (m : ℕ) → following ≡ drop m ls → Consumes f (lines_at s ls) ts m
    → (c : CanFollow d f (lines_at s ls) (ts ++ us)) → Follows d f (lines_at s following) (us ++ c.rest)
second_follows d f s ls following ts us m q a c =
    subst (λ (z : List LineTree). Follows d f z (us ++ c.rest)) (lines_dropped s ls following m q) (a.left d (us ++ c.rest) (subst (Follows d f (lines_at s ls)) (append_assoc ts us c.rest) c.follows))

pub after_held : (d : DraftTree) (ls following : List Line) (m : ℕ) → following ≡ drop m ls → LinesHeld d ls → LinesHeld d following
after_held d ls following m q h = subst (LinesHeld d) (sym q) (All-right (LineHeld d) (take m ls) (drop m ls) (subst (LinesHeld d) (sym (take_drop m ls)) h))

-- ---- the tail with what a premise adds
module _ (d : DraftTree) (front tail w ids : List TermId) (e : w ≡ tail ++ ids) where
  pub wider_trees : trees_at d.trees w ≡ trees_at d.trees tail ++ trees_at d.trees ids
  wider_trees = ap (trees_at d.trees) e ∙ map-append (tree_at d.trees) tail ids

  pub wider_formulas : AreFormulas d tail → AreFormulas d ids → AreFormulas d w
  wider_formulas t a = both_formulas d tail ids w e t a

  pub wider_follows : (f : List Tree) (ls : List LineTree) → CanFollow d f ls ((trees_at d.trees tail ++ trees_at d.trees ids) ∷ []) → CanFollow d f ls (trees_at d.trees w ∷ [])
  wider_follows f ls c = subst (λ (t : List Tree). CanFollow d f ls (t ∷ [])) (sym wider_trees) c

  pub wider_consumes : (f : List Tree) (ls : List LineTree) (n : ℕ) → Consumes f ls (trees_at d.trees w ∷ []) n → Consumes f ls ((trees_at d.trees tail ++ trees_at d.trees ids) ∷ []) n
  wider_consumes f ls n c = subst (λ (t : List Tree). Consumes f ls (t ∷ []) n) wider_trees c

-- ---- what a rule needs
after_front : (f t : List Tree) (added : List (List Tree)) → map (λ x. f ++ x) (sequents_under t added) ≡ sequents_under (f ++ t) added
after_front f t [] = refl
after_front f t (a ∷ added) = let e : f ++ (t ++ a) ≡ (f ++ t) ++ a = sym (append_assoc f t a) in cc (e, after_front f t added)

pub rule_added : (d d1 : DraftTree) (f t : List Tree) (r : RuleTree) (added : List (List Tree)) (none steps : List ℕ) → d1.task ≡ d.task → none ≡ [] → IsByRule d.task (f ++ t) r added
    → RefuteUnder d1 none steps f (sequents_under t added) → RefuteAdded d1 (f ++ t) r steps
rule_added d d1 f t r added none steps k n g u =
    let all : steps ≡ u.more = u.is ∙ ap (λ z. z ++ u.more) n in
    let refuted : RefuteAll d1 u.more (sequents_under (f ++ t) added) = subst (RefuteAll d1 u.more) (after_front f t added) u.refute in
    record {
      sequents = sequents_under (f ++ t) added;
      refuted = subst (λ (ks : List ℕ). RefuteAll d1 ks (sequents_under (f ++ t) added)) (sym all) refuted;
      row = subst (λ (z : TaskTree). IsRuleRow z (f ++ t) r (sequents_under (f ++ t) added)) (sym k) g.row;
    }

-- a step for the first tail, and then steps for the others
pub one_more : (d1 d2 : DraftTree) (x : Extends d1 d2) (f t : List Tree) (ts : List (List Tree)) (k : ℕ) (old mid new : List ℕ) → mid ≡ old ++ k ∷ [] → Refutes d1 k (f ++ t) → RefuteUnder d2 mid new f ts → RefuteUnder d2 old new f (t ∷ ts)
one_more d1 d2 x f t ts k old mid new p r u = record {
  more = k ∷ u.more;
  is = u.is ∙ ap (λ z. z ++ u.more) p ∙ append_assoc old (k ∷ []) u.more;
  refute = (refutes_later d1 d2 x k _ r, u.refute);
}

-- ---- places of the tail
within_tail : (t : List Tree) (i : ℕ) (a : Tree) → Some a ≡ slice_get t i → i < length t
within_tail t i a e = slice_get_within t i a (sym e)

-- so many formulas before the tail and its places are no more than a number can tell
pub kept_fits : (n m : ℕ) (t : List Tree) (p : Places) (kept : List Tree) → length t ≡ m → n + m ≤ 18446744073709551615 → map Some kept ≡ map (slice_get t) (places_of p) → PlacesFit n p
kept_fits n m t (places.One i) (a ∷ []) q l e = let x : Some a ≡ slice_get t i = cc in let w = within_tail t i a x in omega arith
kept_fits n m t (places.One i) [] q l e = absurd (cc)
kept_fits n m t (places.One i) (a ∷ b ∷ r) q l e = absurd (cc)
kept_fits n m t (places.Two i j) (a ∷ b ∷ []) q l e =
    let x : Some a ≡ slice_get t i = cc in
    let y : Some b ≡ slice_get t j = cc in
    let v = within_tail t i a x in
    let w = within_tail t j b y in
    (omega arith, omega arith)
kept_fits n m t (places.Two i j) [] q l e = absurd (cc)
kept_fits n m t (places.Two i j) (a ∷ []) q l e = absurd (cc)
kept_fits n m t (places.Two i j) (a ∷ b ∷ c ∷ r) q l e = absurd (cc)
kept_fits n m t (places.Three i j k) (a ∷ b ∷ c ∷ []) q l e =
    let x : Some a ≡ slice_get t i = cc in
    let y : Some b ≡ slice_get t j = cc in
    let z : Some c ≡ slice_get t k = cc in
    let u = within_tail t i a x in
    let v = within_tail t j b y in
    let w = within_tail t k c z in
    (omega arith, omega arith, omega arith)
kept_fits n m t (places.Three i j k) [] q l e = absurd (cc)
kept_fits n m t (places.Three i j k) (a ∷ []) q l e = absurd (cc)
kept_fits n m t (places.Three i j k) (a ∷ b ∷ []) q l e = absurd (cc)
kept_fits n m t (places.Three i j k) (a ∷ b ∷ c ∷ d ∷ r) q l e = absurd (cc)

-- the formulas at places of the tail are those at the later places of the sequent
places_following : (d : DraftTree) (front : List TermId) (t : List Tree) (ps : List ℕ) → map (slice_get (trees_at d.trees front ++ t)) (map (λ i. length front + i) ps) ≡ map (slice_get t) ps
places_following d front t [] = refl
places_following d front t (i ∷ ps) = cc (after_ids d front t i, places_following d front t ps)

pub kept_after : (d : DraftTree) (front tail ids : List TermId) (ps qs : List ℕ) (k : ℕ) → ids ≡ front ++ tail → qs ≡ map (λ i. length front + i) ps → RefutesAt d (trees_at d.trees tail) ps k → RefutesAt d (trees_at d.trees ids) qs k
kept_after d front tail ids ps qs k e q g =
    let T = trees_at d.trees tail in
    let s : trees_at d.trees ids ≡ trees_at d.trees front ++ T = ap (trees_at d.trees) e ∙ map-append (tree_at d.trees) front tail in
    rw (s, q) (record { kept = g.kept; are = g.are ∙ sym (places_following d front T ps); refutes = g.refutes })

-- ---- the end of the tail
module _ (d : DraftTree) (f : List Tree) (tail before last : List TermId) (k n at : ℕ) (g : IsGiven d f (trees_at d.trees tail) k n) where
  pub given_count : n ≤ length tail
  given_count = omega (arith, g.as_many, ap length g.is, length-append g.before g.last, length-map tail (tree_at d.trees))

  same_back : (xs ys us vs : List Tree) → xs ++ ys ≡ us ++ vs → length ys ≡ length vs → ys ≡ vs
  same_back [] ys [] vs e q = e
  same_back [] ys (u ∷ us) vs e q = absurd (omega (arith, ap length e, length-append (u ∷ us) vs, q))
  same_back (x ∷ xs) ys [] vs e q = absurd (omega (arith, ap length e, length-append (x ∷ xs) ys, q))
  same_back (x ∷ xs) ys (u ∷ us) vs e q = same_back xs ys us vs (ap (drop 1) e) q

  pub given_last : tail ≡ before ++ last → length last ≡ n → Refutes d k (f ++ trees_at d.trees last)
  given_last e q =
      let whole : trees_at d.trees before ++ trees_at d.trees last ≡ g.before ++ g.last = sym (ap (trees_at d.trees) e ∙ map-append (tree_at d.trees) before last) ∙ g.is in
      let same : trees_at d.trees last ≡ g.last = same_back (trees_at d.trees before) (trees_at d.trees last) g.before g.last whole (omega (arith, g.as_many, q, length-map last (tree_at d.trees))) in
      subst (λ (t : List Tree). Refutes d k (f ++ t)) (sym same) g.refutes

-- ---- a list in two parts
pub split_is : (ids before last : List TermId) (n : ℕ) → before ≡ take n ids → last ≡ drop n ids → ids ≡ before ++ last
split_is ids before last n e q = sym (ap (λ (z : List TermId). z ++ last) e ∙ ap (λ (z : List TermId). take n ids ++ z) q ∙ take_drop n ids)

formulas_by : (d : DraftTree) (xs ys ids : List TermId) → ids ≡ xs ++ ys → AreFormulas d ids → AreFormulas d xs × AreFormulas d ys
formulas_by d xs ys ids e f =
    let g : AreFormulas d (xs ++ ys) = subst (AreFormulas d) e f in
    let t : trees_at d.trees (xs ++ ys) ≡ trees_at d.trees xs ++ trees_at d.trees ys = map-append (tree_at d.trees) xs ys in
    let ground : All (IsGroundFormula d.task) (trees_at d.trees xs ++ trees_at d.trees ys) = subst (All (IsGroundFormula d.task)) t g.ground in (
      record { held = All-left (Holds d.trees) xs ys g.held; ground = All-left (IsGroundFormula d.task) (trees_at d.trees xs) (trees_at d.trees ys) ground },
      record { held = All-right (Holds d.trees) xs ys g.held; ground = All-right (IsGroundFormula d.task) (trees_at d.trees xs) (trees_at d.trees ys) ground },
    )

pub front_formulas : (d : DraftTree) (ids before : List TermId) (n : ℕ) → before ≡ take n ids → AreFormulas d ids → AreFormulas d before
front_formulas d ids before n e f = (formulas_by d before (drop n ids) ids (split_is ids before (drop n ids) n e refl) f).0

pub back_formulas : (d : DraftTree) (ids last : List TermId) (n : ℕ) → last ≡ drop n ids → AreFormulas d ids → AreFormulas d last
back_formulas d ids last n e f = (formulas_by d (take n ids) last ids (split_is ids (take n ids) last n refl e) f).1

-- ---- what is said of a value doesn't matter after a fault
