-- Lines that are put one after another are read back.
use Rattle.std.proofs.Common.{◌≡◌, ◌≢◌, ℕ, ◌+◌, ◌<◌, ◌≤◌, ◌==◌, false, suc, List, [], ◌∷◌, ◌++◌, map, take, length, get_or, All, Option, Some, refl, sym, ap, subst, ◌∙◌, arith, append_assoc}
use Rattle.std.specs.Prelude.{codes, IsSomeAnd}
use Rattle.std.proofs.lemmas.Bool.Decides.{nat_tests}
use Rattle.std.proofs.lemmas.List.{append-nil, map_push, take_more, take_all, get_or-map, length-map}
use Rattle.std.proofs.lemmas.List.Elements.{All-cons, All-nil, All-append}
use Rattle.std.proofs.lemmas.List.Splits.{slice_split_none, slice_split_at}
use Rattle.std.specs.Option.{option_map}
use Rattle.std.specs.List.{onto_first}
use Rattle.kernel.specs.trees.Tree.{Tree}
use Rattle.kernel.specs.tasks.Task.{TaskTree}
use Rattle.kernel.specs.rules.declared.rule.Step.{Step}
use Rattle.kernel.specs.rules.Trees.{StepTree, no_step, step_or}
use Rattle.kernel.specs.rules.Meaning.{step_at, steps_at}
use Rattle.kernel.specs.Right.{last_starts}
use Rattle.name_tables.specs.declared.name_entries.names.NameEntry.{NameEntry}
use Rattle.step_lines.specs.tree_lines.Words.{LineWord}
use Rattle.step_lines.specs.tree_lines.Lines.{Earlier}
use Rattle.step_lines.specs.Steps.{Thing, TypeOf, PatternOf, ExpressionOf, StepOf, line_made}
use Rattle.step_reading.specs.Words.{lines_of, words_in_line}
use Rattle.step_reading.specs.Lines.{Reading, nothing_read, line_thing, IsGood, IsGoodTree, reading_with, AreRead, StepsOf}
use Rattle.step_writing.specs.declared.tree_writing.writer.LineKind.{LineKind}
use Rattle.step_writing.specs.declared.tree_writing.writer.LineKind.TheVariants as kind
use Rattle.step_writing.specs.tree_writing.Used.{IsUsed}
use Rattle.step_writing.specs.tree_writing.Parts.{StandsIn}
use Rattle.step_writing.specs.tree_writing.Text.{spaced, line_text, whole_text}
use Rattle.step_writing.specs.tree_writing.Whole.{letter, tree_by, with_tree, nothing_before, TreeLine, line_bytes, ReadTrees, IsWritten}
use Rattle.step_writing.specs.declared.words.Lines.{Lines}
use Rattle.kernel.specs.tasks.Words.{IsLineWord}
use Rattle.step_writing.specs.Named.{AreWords}
use Rattle.step_writing.specs.Words.{PushesStep}
use Rattle.step_writing.specs.Written.{joined_words, ReadsTo, IsText, read_with, AddsSteps, AddsFirst}
use Rattle.step_writing.proofs.Plain.{line_plain}
use Rattle.step_writing.proofs.tree_writing.Whole.{whole_more}
use Rattle.step_lines.proofs.rule_words.ReadBack.{first_of, rest_of}

-- no line feed
abbrev NoFeed : List ℕ → Type 0
NoFeed l = All (λ c. c ≢ 10) l

no_space : (w : List ℕ) → IsLineWord w → All (λ c. (c == 32) ≡ false) w
no_space w a k d h = let n = (a k d h).0 in grind (arith, nat_tests)

words_back : (w : List ℕ) (ws : List LineWord) → IsLineWord w → All IsLineWord ws → words_in_line (w ++ spaced ws) ≡ w ∷ ws
words_back w [] h a = ap words_in_line (append-nil w) ∙ slice_split_none (λ c. c == 32) w (no_space w h)
words_back w (v ∷ vs) h a =
    slice_split_at (λ c. c == 32) w 32 (v ++ spaced vs) (no_space w h) refl
    ∙ ap (λ l. w ∷ l) (words_back v vs (first_of IsLineWord v vs a) (rest_of IsLineWord v vs a))

line_front : (l rest : List ℕ) → NoFeed l → lines_of (l ++ (10 ∷ rest)) ≡ l ∷ lines_of rest
line_front [] rest a = refl
line_front (c ∷ cs) rest a =
    let n = first_of (λ (x : ℕ). x ≢ 10) c cs a in
    let e : (c == 10) ≡ false = grind (arith, nat_tests) in
    rw e (ap (onto_first c) (line_front cs rest (rest_of (λ x. x ≢ 10) c cs a)))

lines_back : (ls : List (List ℕ)) → All NoFeed ls → lines_of (whole_text ls) ≡ ls
lines_back [] a = refl
lines_back (l ∷ ls) a = line_front l (whole_text ls) (first_of NoFeed l ls a) ∙ ap (λ m. l ∷ m) (lines_back ls (rest_of NoFeed l ls a))

word_feed : (w : List ℕ) → IsLineWord w → NoFeed w
word_feed w a k d h = (a k d h).1

spaced_feed : (ws : List LineWord) → All IsLineWord ws → NoFeed (spaced ws)
spaced_feed [] a = All-nil (λ c. c ≢ 10)
spaced_feed (w ∷ ws) a =
    All-cons (λ c. c ≢ 10) 32 (w ++ spaced ws) (λ e. omega (arith, e))
    (All-append (λ c. c ≢ 10) w (spaced ws) (word_feed w (first_of IsLineWord w ws a)) (spaced_feed ws (rest_of IsLineWord w ws a)))

module _ (t : TaskTree) (table : List NameEntry) (tallest : Option ℕ) where
  reads_more : (r : Reading) (ls : List (List LineWord)) (e : Reading) (ws : List LineWord) (x : Thing) → ReadsTo t table tallest r ls e → line_made t table e.earlier ws ≡ Some x → IsGood t tallest e.steps x → ReadsTo t table tallest r (ls ++ ws ∷ []) (reading_with e x)
  reads_more r [] e ws x h m g = (x, subst (λ (q : Reading). line_made t table q.earlier ws ≡ Some x) (sym h) m, subst (λ (q : Reading). IsGood t tallest q.steps x) (sym h) g, ap (λ (q : Reading). reading_with q x) h)
  reads_more r (l ∷ ls) e ws x h m g = (h.0, h.1, h.2, reads_more (reading_with r h.0) ls e ws x h.3 m g)

  -- one line more
  text_more : (old new : List ℕ) (r : Reading) (w : LineWord) (ws : List LineWord) (x : Thing) → IsText t table tallest old r → new ≡ old ++ line_text w ws → line_made t table r.earlier (w ∷ ws) ≡ Some x → IsGood t tallest r.steps x → IsText t table tallest new (reading_with r x)
  text_more old new r w ws x h e m g = record {
    lines = h.lines ++ (w ∷ ws) ∷ [];
    is = e ∙ ap (λ (l : List ℕ). l ++ line_text w ws) h.is ∙ sym (ap whole_text (map_push joined_words h.lines (w ∷ ws)) ∙ whole_more (map joined_words h.lines) (joined_words (w ∷ ws)));
    read = reads_more nothing_read h.lines r (w ∷ ws) x h.read m g;
  }

  module _ (words : AreWords table) where
    -- the words of a line that makes something
    line_words : (r : Earlier) (ws : List LineWord) (x : Thing) → line_made t table r ws ≡ Some x → (words_in_line (joined_words ws) ≡ ws) × NoFeed (joined_words ws)
    line_words r [] x m = absurd (cc)
    line_words r (w ∷ ws) x m =
        let p = line_plain t table r words (w ∷ ws) x m in
        let a = first_of IsLineWord w ws p in
        let b = rest_of IsLineWord w ws p in
        (words_back w ws a b, All-append (λ c. c ≢ 10) w (spaced ws) (word_feed w a) (spaced_feed ws b))

    no_feeds : (r : Reading) (ls : List (List LineWord)) (end : Reading) → ReadsTo t table tallest r ls end → All NoFeed (map joined_words ls)
    no_feeds r [] end h = All-nil NoFeed
    no_feeds r (l ∷ ls) end h = All-cons NoFeed (joined_words l) (map joined_words ls) (line_words r.earlier l h.0 h.1).1 (no_feeds (reading_with r h.0) ls end h.3)

    lines_read : (r : Reading) (ls : List (List LineWord)) (end : Reading) → ReadsTo t table tallest r ls end → last_starts t end.steps → AreRead t table tallest r (map joined_words ls) end.steps
    lines_read r [] end e h = (sym (ap (λ (q : Reading). q.steps) e), subst (λ (q : Reading). last_starts t q.steps) (sym e) h)
    lines_read r (l ∷ ls) end m h =
        let made : line_thing t table r.earlier (joined_words l) ≡ Some m.0 = ap (line_made t table r.earlier) (line_words r.earlier l m.0 m.1).0 ∙ m.1 in
        subst (λ (o : Option Thing). IsSomeAnd o (λ x. IsGood t tallest r.steps x × AreRead t table tallest (reading_with r x) (map joined_words ls) end.steps)) (sym made) (m.2, lines_read (reading_with r m.0) ls end m.3 h)

    pub text_read : (text : List ℕ) (r : Reading) → IsText t table tallest text r → last_starts t r.steps → StepsOf t table tallest text r.steps
    text_read text r h s =
        subst (λ (ls : List (List ℕ)). AreRead t table tallest nothing_read ls r.steps) (sym (ap lines_of h.is ∙ lines_back (map joined_words h.lines) (no_feeds nothing_read h.lines r h.read))) (lines_read nothing_read h.lines r h.read s)

  -- lines of trees
  abbrev words_with : TreeLine → List LineWord
  words_with l = letter l.kind ∷ l.words

  abbrev thing_by : LineKind → Tree → Thing
  thing_by kind.Type e = TypeOf e
  thing_by kind.Pattern e = PatternOf e
  thing_by kind.Expression e = ExpressionOf e

  made_by : (k : LineKind) (r : Earlier) (ws : List LineWord) (e : Tree) → tree_by t table r k ws ≡ Some e → line_made t table r (letter k ∷ ws) ≡ Some (thing_by k e)
  made_by kind.Type r ws e h = ap (option_map TypeOf) h
  made_by kind.Pattern r ws e h = ap (option_map PatternOf) h
  made_by kind.Expression r ws e h = ap (option_map ExpressionOf) h

  good_by : (k : LineKind) (e : Tree) → IsGoodTree t tallest e → IsGood t tallest [] (thing_by k e)
  good_by kind.Type e g = g
  good_by kind.Pattern e g = g
  good_by kind.Expression e g = g

  after_by : (k : LineKind) (r : Earlier) (e : Tree) → reading_with (read_with r []) (thing_by k e) ≡ read_with (with_tree k r e) []
  after_by kind.Type r e = refl
  after_by kind.Pattern r e = refl
  after_by kind.Expression r e = refl

  trees_read : (roots : List Tree) (r : Earlier) (ls : List TreeLine) (end : Earlier) → ((e : Tree) → StandsIn roots e → IsGoodTree t tallest e) → ReadTrees t table roots r ls end → ReadsTo t table tallest (read_with r []) (map words_with ls) (read_with end [])
  trees_read roots r [] end good h = ap (λ (q : Earlier). read_with q []) h
  trees_read roots r (l ∷ ls) end good h = (
    thing_by l.kind h.0,
    made_by l.kind r l.words h.0 h.1,
    good_by l.kind h.0 (good h.0 h.2),
    subst (λ (q : Reading). ReadsTo t table tallest q (map words_with ls) (read_with end [])) (sym (after_by l.kind r h.0)) (trees_read roots (with_tree l.kind r h.0) ls end good h.3),
  )

  same_bytes : (ls : List TreeLine) → map line_bytes ls ≡ map joined_words (map words_with ls)
  same_bytes [] = refl
  same_bytes (l ∷ ls) = ap (λ (m : List (List ℕ)). line_bytes l ∷ m) (same_bytes ls)

  pub trees_text : (s : List Tree) (roots : List Tree) (text : List ℕ) (numbers : List (Option ℕ)) (w : IsWritten s table roots text numbers) → ((e : Tree) → StandsIn roots e → IsUsed t e) → ((e : Tree) → StandsIn roots e → IsGoodTree t tallest e) → IsText t table tallest text (read_with w.earlier [])
  trees_text s roots text numbers w used good = record {
    lines = map words_with w.lines;
    is = w.is ∙ ap whole_text (same_bytes w.lines);
    read = trees_read roots nothing_before w.lines w.earlier good (w.back t used);
  }

-- no step's line was appended
pub first_none : (x : Lines) (steps : List Step) (text : List ℕ) → AddsFirst x steps 0 text text
first_none x steps text t tallest r are right h = h

-- the line of the next step was appended
pub first_more : (x : Lines) (steps : List Step) (i : ℕ) (st : Step) (start old new : List ℕ) → i < length steps → st ≡ get_or steps i st → AreWords x.table.now → PushesStep x old new st → AddsFirst x steps i start old → AddsFirst x steps (i + 1) start new
first_more x steps i st start old new lt is words p h t tallest r are right k =
    let s = x.store.now in
    let all = steps_at s steps in
    let there : step_at s st ≡ step_or all i = ap (step_at s) is ∙ sym (get_or-map (step_at s) steps i st no_step lt) in
    let long : i < length all = omega (arith, lt, length-map steps (step_at s)) in
    let good = subst (λ (q : StepTree). IsGood t tallest (take i all) (StepOf q)) (sym there) (right i long) in
    let made : line_made t x.table.now r (codes "s" ∷ p.words) ≡ Some (StepOf (step_at s st)) = ap (option_map StepOf) (p.back words t r are) in
    let now = text_more t x.table.now tallest old new (read_with r (take i all)) (codes "s") p.words (StepOf (step_at s st)) (h t tallest r are right k) p.is made good in
    subst (λ (l : List StepTree). IsText t x.table.now tallest new (read_with r l)) (ap (λ (q : StepTree). take i all ++ q ∷ []) there ∙ sym (take_more all i no_step long)) now

pub first_all : (x : Lines) (steps : List Step) (i : ℕ) (start new : List ℕ) → length steps ≤ i → AddsFirst x steps i start new → AddsSteps x steps start new
first_all x steps i start new lt h t tallest r are right k =
    let all = steps_at x.store.now steps in
    subst (λ (l : List StepTree). IsText t x.table.now tallest new (read_with r l)) (take_all i all (omega (arith, lt, length-map steps (step_at x.store.now)))) (h t tallest r are right k)
