-- The words of arguments, of sequents and of rules, put one after another into a text.
use Rattle.std.proofs.Common.{◌≡◌, Bool, true, false, suc, ℕ, ℤ, ◌+◌, ◌<◌, ◌≤◌, List, [], ◌∷◌, ◌++◌, take, length, get_or, All, Some, refl, sym, ap, subst, ◌∙◌, append_assoc, append-nil, arith}
use Rattle.std.specs.Prelude.{codes, IsTrue}
use Rattle.std.proofs.lemmas.List.Elements.{All-cons, All-nil}
use Rattle.std.proofs.lemmas.List.{take_more, take_all, map_push, get_or-map, length-map}
use Rattle.kernel.specs.trees.declared.TermId.{TermId}
use Rattle.kernel.specs.trees.declared.Sort.TheVariants.{Kind}
use Rattle.kernel.specs.trees.Tree.{Tree}
use Rattle.kernel.specs.trees.Node.{tree_at}
use Rattle.kernel.specs.trees.Sorts.{sort_of, IsExpression}
use Rattle.kernel.specs.tasks.Task.{TaskTree}
use Rattle.kernel.specs.tasks.Meaning.{trees_at}
use Rattle.name_tables.specs.declared.name_entries.names.NameOf.TheVariants.{Symbol}
use Rattle.name_tables.specs.declared.name_entries.names.NameEntry.{NameEntry}
use Rattle.step_lines.specs.word_tables.integers.Integers.{integer}
use Rattle.kernel.specs.rules.declared.rule.Step.{Step}
use Rattle.kernel.specs.rules.Trees.{RuleTree}
use Rattle.kernel.specs.rules.Meaning.{rule_at}
use Rattle.step_lines.specs.declared.rule_words.argument.Argument.{Argument}
use Rattle.step_lines.specs.declared.rule_words.argument.Argument.TheVariants as made
use Rattle.step_lines.specs.declared.rule_words.name.RuleName.{RuleName}
use Rattle.step_lines.specs.rule_words.Arguments.{ArgumentTree, ANumber, ASymbol, AInteger, AExpression, AType, argument_at, arguments_at, ArgumentHeld, ArgumentsHeld, have_kinds}
use Rattle.step_lines.specs.rule_words.Forms.{argument_kinds}
use Rattle.step_lines.specs.rule_words.Rules.{rule_row, name_by_word, rule_from}
use Rattle.step_lines.specs.tree_lines.Words.{LineWord, number, at_number}
use Rattle.step_lines.specs.tree_lines.Lines.{Earlier}
use Rattle.step_writing.specs.tree_writing.Spelt.{IsSpelt, Spells}
use Rattle.step_writing.specs.tree_writing.Referring.{AreLines, Refers}
use Rattle.step_writing.specs.tree_writing.Text.{spaced}
use Rattle.step_writing.proofs.tree_writing.Partly.{each_end}
use Rattle.step_writing.proofs.tree_writing.PlainBack.{word_refers, of_expression, of_kind}
use Rattle.step_writing.specs.declared.words.Lines.{Lines}
use Rattle.step_writing.specs.Named.{AreWords}
use Rattle.step_writing.specs.Words.{WritesArgument, WriteArguments, IsLineOf, IsTypeLine, IsArgumentReady, PushesNumber, PushesNumbers, PushesArguments, NoColon, PushesReference, PushesSequent, PushesRule, RuleReady, PushesStep}
use Rattle.step_writing.proofs.RuleParts.{expressions_in, types_in, symbols_in, rule_parts}
use Rattle.step_writing.proofs.StepBack.{numbers_no_colon, arguments_no_colon, rule_back, word_no_colon, step_back}

-- words after words in a text
spaced_both : (vs ws : List LineWord) → spaced (vs ++ ws) ≡ spaced vs ++ spaced ws
spaced_both [] ws = refl
spaced_both (v ∷ vs) ws = ap (λ (l : List ℕ). 32 ∷ (v ++ l)) (spaced_both vs ws) ∙ ap (λ (l : List ℕ). 32 ∷ l) (sym (append_assoc v (spaced vs) (spaced ws)))

text_both : (old between new : List ℕ) (vs ws : List LineWord) → between ≡ old ++ spaced vs → new ≡ between ++ spaced ws → new ≡ old ++ spaced (vs ++ ws)
text_both old between new vs ws e f = f ∙ ap (λ (l : List ℕ). l ++ spaced ws) e ∙ append_assoc old (spaced vs) (spaced ws) ∙ ap (λ (l : List ℕ). old ++ l) (sym (spaced_both vs ws))

-- a word
pub word_text : (old between new : List ℕ) (word : LineWord) → between ≡ old ++ 32 ∷ [] → new ≡ between ++ word → new ≡ old ++ spaced (word ∷ [])
word_text old between new word e f = f ∙ ap (λ (l : List ℕ). l ++ word) e ∙ append_assoc old (32 ∷ []) word ∙ ap (λ (l : List ℕ). old ++ (32 ∷ l)) (sym (append-nil word))

-- numbers
pub numbers_none : (old : List ℕ) → PushesNumbers old old []
numbers_none old = record { more = []; is = sym (append-nil old); numbers = refl }

pub numbers_more : (old between new : List ℕ) (ns : List ℕ) (i : ℕ) → i < length ns → PushesNumber between new (get_or ns i 0) → PushesNumbers old between (take i ns) → PushesNumbers old new (take (i + 1) ns)
numbers_more old between new ns i lt h p = record {
  more = p.more ++ h.word ∷ [];
  is = text_both old between new p.more (h.word ∷ []) p.is h.is;
  numbers = each_end number p.more h.word (take i ns) (get_or ns i 0) p.numbers h.writes ∙ ap Some (sym (take_more ns i 0 lt));
}

-- the word of one number
pub reference_pushed : (x : Lines) (old new : List ℕ) (n : ℕ) (e : Tree) → PushesNumber old new n → Refers x.store.now x.numbers.now (sort_of e) n e → PushesReference x old new e
reference_pushed x old new n e p refers = record { word = p.word; number = n; is = p.is; writes = p.writes; refers = refers }

-- one argument
one_pushed : (x : Lines) (old new : List ℕ) (w : LineWord) (a : ArgumentTree) → new ≡ old ++ spaced (w ∷ []) → ((r : Earlier) → AreLines x.store.now x.numbers.now r → WritesArgument x.table.now r a w) → PushesArguments x old new (a ∷ [])
one_pushed x old new w a e back = record { more = w ∷ []; is = e; back = λ r are. (back r are, tt) }

pub number_pushed : (x : Lines) (old new : List ℕ) (n : ℕ) → PushesNumber old new n → PushesArguments x old new (ANumber n ∷ [])
number_pushed x old new n p = one_pushed x old new p.word (ANumber n) p.is (λ r are. p.writes)

pub integer_pushed : (x : Lines) (old new : List ℕ) (w : LineWord) (z : ℤ) → new ≡ old ++ spaced (w ∷ []) → integer w ≡ Some z → PushesArguments x old new (AInteger z ∷ [])
integer_pushed x old new w z e h = one_pushed x old new w (AInteger z) e (λ r are. h)

pub symbol_pushed : (x : Lines) (old new : List ℕ) (w : LineWord) (k : ℕ) (whole : Bool) → new ≡ old ++ spaced (w ∷ []) → Spells x.table.now (Symbol k) [] w whole → PushesArguments x old new (ASymbol k ∷ [])
symbol_pushed x old new w k true e h = one_pushed x old new w (ASymbol k) e (λ r are. h)
symbol_pushed x old new w k false e h = one_pushed x old new w (ASymbol k) e (λ r are. h)

pub expression_pushed : (x : Lines) (old new : List ℕ) (e : Tree) → IsExpression (sort_of e) → PushesReference x old new e → PushesArguments x old new (AExpression e ∷ [])
expression_pushed x old new e k p = one_pushed x old new p.word (AExpression e) p.is (λ r are. of_expression x.store.now x.numbers.now r p.word e are k (word_refers x.store.now x.numbers.now p.word p.number e p.writes p.refers))

pub type_pushed : (x : Lines) (old new : List ℕ) (e : Tree) → sort_of e ≡ Kind → PushesReference x old new e → PushesArguments x old new (AType e ∷ [])
type_pushed x old new e k p = one_pushed x old new p.word (AType e) p.is (λ r are. of_kind x.store.now x.numbers.now r p.word e are k (word_refers x.store.now x.numbers.now p.word p.number e p.writes p.refers))

-- arguments one after another
write_both : (table : List NameEntry) (r : Earlier) (xs ys : List ArgumentTree) (vs ws : List LineWord) → WriteArguments table r xs vs → WriteArguments table r ys ws → WriteArguments table r (xs ++ ys) (vs ++ ws)
write_both table r [] ys [] ws h k = k
write_both table r [] ys (v ∷ vs) ws h k = absurd h
write_both table r (a ∷ xs) ys [] ws h k = absurd h
write_both table r (a ∷ xs) ys (v ∷ vs) ws h k = (h.0, write_both table r xs ys vs ws h.1 k)

pub arguments_none : (x : Lines) (old : List ℕ) → PushesArguments x old old []
arguments_none x old = record { more = []; is = sym (append-nil old); back = λ r are. tt }

pub arguments_more : (x : Lines) (old between new : List ℕ) (args : List Argument) (i : ℕ) (d : Argument) → i < length args → PushesArguments x between new (argument_at x.store.now (get_or args i d) ∷ []) → PushesArguments x old between (arguments_at x.store.now (take i args)) → PushesArguments x old new (arguments_at x.store.now (take (i + 1) args))
arguments_more x old between new args i d lt h p =
    let s = x.store.now in
    let all : arguments_at s (take (i + 1) args) ≡ arguments_at s (take i args) ++ argument_at s (get_or args i d) ∷ [] = ap (arguments_at s) (take_more args i d lt) ∙ map_push (argument_at s) (take i args) (get_or args i d) in
    subst (PushesArguments x old new) (sym all) (record {
      more = p.more ++ h.more;
      is = text_both old between new p.more h.more p.is h.is;
      back = λ r are. write_both x.table.now r (arguments_at s (take i args)) (argument_at s (get_or args i d) ∷ []) p.more h.more (p.back r are) (h.back r are);
    })

pub arguments_all : (x : Lines) (old new : List ℕ) (args : List Argument) (i : ℕ) → length args ≤ i → PushesArguments x old new (arguments_at x.store.now (take i args)) → PushesArguments x old new (arguments_at x.store.now args)
arguments_all x old new args i lt p = subst (λ (l : List Argument). PushesArguments x old new (arguments_at x.store.now l)) (take_all i args lt) p

-- a sequent
pub sequent_none : (x : Lines) (old : List ℕ) → PushesSequent x old old []
sequent_none x old = record { more = []; ns = []; is = sym (append-nil old); numbers = refl; back = λ r are. refl }

pub sequent_more : (x : Lines) (old between new : List ℕ) (ids : List TermId) (i : ℕ) (d : TermId) → i < length ids → IsExpression (sort_of (tree_at x.store.now (get_or ids i d))) → PushesReference x between new (tree_at x.store.now (get_or ids i d)) → PushesSequent x old between (trees_at x.store.now (take i ids))
    → PushesSequent x old new (trees_at x.store.now (take (i + 1) ids))
sequent_more x old between new ids i d lt k h p =
    let s = x.store.now in
    let e = tree_at s (get_or ids i d) in
    let all : trees_at s (take (i + 1) ids) ≡ trees_at s (take i ids) ++ e ∷ [] = ap (trees_at s) (take_more ids i d lt) ∙ map_push (tree_at s) (take i ids) (get_or ids i d) in
    subst (PushesSequent x old new) (sym all) (record {
      more = p.more ++ h.word ∷ [];
      ns = p.ns ++ h.number ∷ [];
      is = text_both old between new p.more (h.word ∷ []) p.is h.is;
      numbers = each_end number p.more h.word p.ns h.number p.numbers h.writes;
      back = λ r are. each_end (at_number r.expressions) p.more h.word (trees_at s (take i ids)) e (p.back r are) (of_expression s x.numbers.now r h.word e are k (word_refers s x.numbers.now h.word h.number e h.writes h.refers));
    })

pub sequent_all : (x : Lines) (old new : List ℕ) (ids : List TermId) (i : ℕ) → length ids ≤ i → PushesSequent x old new (trees_at x.store.now (take i ids)) → PushesSequent x old new (trees_at x.store.now ids)
sequent_all x old new ids i lt p = subst (λ (l : List TermId). PushesSequent x old new (trees_at x.store.now l)) (take_all i ids lt) p

-- what the arguments of a rule refer to is there
ready_each : (x : Lines) (args : List Argument) → ArgumentsHeld x.store.now args → All (IsLineOf x.store.now x.numbers.now) (expressions_in (arguments_at x.store.now args)) → All (IsTypeLine x.store.now x.numbers.now) (types_in (arguments_at x.store.now args)) → All (λ k. IsSpelt x.table.now (Symbol k) []) (symbols_in (arguments_at x.store.now args)) → All (IsArgumentReady x) args
unfolding argument_at ArgumentHeld
ready_each x [] h e y s = All-nil (IsArgumentReady x)
ready_each x (made.Number n ∷ args) h e y s = All-cons (IsArgumentReady x) (made.Number n) args tt (ready_each x args h.1 e y s)
ready_each x (made.Symbol k ∷ args) h e y s = All-cons (IsArgumentReady x) (made.Symbol k) args (s 0 k (omega arith)) (ready_each x args h.1 e y (λ i d l. s (suc i) d (omega (arith, l))))
ready_each x (made.Integer n ∷ args) h e y s = All-cons (IsArgumentReady x) (made.Integer n) args tt (ready_each x args h.1 e y s)
ready_each x (made.Expression a ∷ args) h e y s = All-cons (IsArgumentReady x) (made.Expression a) args (h.0, e 0 (tree_at x.store.now a) (omega arith)) (ready_each x args h.1 (λ i d l. e (suc i) d (omega (arith, l))) y s)
ready_each x (made.Type a ∷ args) h e y s = All-cons (IsArgumentReady x) (made.Type a) args (h.0, y 0 (tree_at x.store.now a) (omega arith)) (ready_each x args h.1 e (λ i d l. y (suc i) d (omega (arith, l))) s)

pub arguments_ready : (x : Lines) (name : RuleName) (args : List Argument) (rule : RuleTree) → ArgumentsHeld x.store.now args → rule_from name (arguments_at x.store.now args) ≡ Some rule → RuleReady x rule → All (IsArgumentReady x) args
arguments_ready x name args rule h e r =
    let p = rule_parts name (arguments_at x.store.now args) rule e in
    ready_each x args h (subst (All (IsLineOf x.store.now x.numbers.now)) (sym p.expressions) r.expressions) (subst (All (IsTypeLine x.store.now x.numbers.now)) (sym p.types) r.types)
    (subst (All (λ k. IsSpelt x.table.now (Symbol k) [])) (sym p.symbols) r.symbols)

-- a rule
pub rule_pushed : (x : Lines) (old between new : List ℕ) (word : LineWord) (name : RuleName) (args : List ArgumentTree) (rule : RuleTree) → between ≡ old ++ spaced (word ∷ []) → name_by_word word ≡ Some name → IsTrue (have_kinds (argument_kinds (rule_row name).form).first (argument_kinds (rule_row name).form).repeated args) → rule_from name args ≡ Some rule
    → PushesArguments x between new args → PushesRule x old new rule
rule_pushed x old between new word name args rule e m k f p = record {
  more = word ∷ p.more;
  is = text_both old between new (word ∷ []) p.more e p.is;
  plain = plain;
  back = λ words t r are. rule_back t x.table.now r words word name rule args p.more m k (p.back r are) f;
} where
  plain : AreWords x.table.now → (t : TaskTree) (r : Earlier) → AreLines x.store.now x.numbers.now r → NoColon (word ∷ p.more)
  plain words t r are = (word_no_colon t x.table.now r words word name m, arguments_no_colon t x.table.now r words args p.more (p.back r are))

-- the line of a step
pub step_pushed : (x : Lines) (st : Step) (old first one two three four five new : List ℕ) → first ≡ old ++ codes "s" → PushesSequent x first one (trees_at x.store.now st.sequent) → two ≡ one ++ spaced (codes ":" ∷ []) → PushesRule x two three (rule_at x.store.now st.rule)
    → four ≡ three ++ spaced (codes ":" ∷ []) → PushesNumbers four five st.premises → new ≡ five ++ 10 ∷ [] → PushesStep x old new st
step_pushed x st old first one two three four five new b q e u f n g =
    let colon : List LineWord = codes ":" ∷ [] in
    let ws : List LineWord = q.more ++ (codes ":" ∷ (u.more ++ (codes ":" ∷ n.more))) in
    let all : (((q.more ++ colon) ++ u.more) ++ colon) ++ n.more ≡ ws =
    append_assoc ((q.more ++ colon) ++ u.more) colon n.more ∙ append_assoc (q.more ++ colon) u.more (codes ":" ∷ n.more) ∙ append_assoc q.more colon (u.more ++ (codes ":" ∷ n.more)) in
    let text : five ≡ first ++ spaced ws =
    text_both first four five (((q.more ++ colon) ++ u.more) ++ colon) n.more
    (text_both first three four ((q.more ++ colon) ++ u.more) colon (text_both first two three (q.more ++ colon) u.more (text_both first one two q.more colon q.is e) u.is) f) n.is
    ∙ ap (λ (l : List LineWord). first ++ spaced l) all in
    record {
      words = ws;
      is = g ∙ ap (λ (l : List ℕ). l ++ 10 ∷ []) (text ∙ ap (λ (l : List ℕ). l ++ spaced ws) b ∙ append_assoc old (codes "s") (spaced ws)) ∙ append_assoc old (codes "s" ++ spaced ws) (10 ∷ []);
      back = λ words t r are.
          step_back t x.table.now r words (trees_at x.store.now st.sequent) (rule_at x.store.now st.rule) st.premises q.more u.more n.more (numbers_no_colon q.more q.ns q.numbers) (u.plain words t r are) (q.back r are) (u.back words t r are) n.numbers;
    }

pub line_at_place : (x : Lines) (ids : List TermId) (i : ℕ) (d : TermId) → i < length ids → All (IsLineOf x.store.now x.numbers.now) (trees_at x.store.now ids) → IsLineOf x.store.now x.numbers.now (tree_at x.store.now (get_or ids i d))
line_at_place x ids i d lt a =
    let s = x.store.now in
    let e = tree_at s d in
    subst (IsLineOf s x.numbers.now) (get_or-map (tree_at s) ids i d e lt) (a i e (omega (arith, lt, length-map ids (tree_at s))))
