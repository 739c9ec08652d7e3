-- The words of a line that makes something have no space and no line feed.
use Rattle.std.proofs.Common.{◌≡◌, ◌≢◌, ℕ, ◌+◌, ◌*◌, ◌-◌, ◌<◌, ◌≤◌, ◌==◌, ◌&&◌, nat_le, nat_lt, Bool, true, false, suc, if◌then◌else◌, List, [], ◌∷◌, ◌++◌, take, drop, length, All, Option, Some, None, slice_get, refl, sym, ap, subst, ◌∙◌, arith}
use Rattle.std.specs.Prelude.{codes, ℤ, pos}
use Rattle.std.specs.Option.{option_and_then, option_map}
use Rattle.std.specs.Str.{bytes_eq}
use Rattle.std.specs.List.{list_all, position_from}
use Rattle.std.proofs.lemmas.Bool.Decides.{nat_tests}
use Rattle.std.proofs.lemmas.Slice.Eq.{bytes_eq-Decides}
use Rattle.std.proofs.lemmas.List.Elements.{All-cons, All-nil, All-append}
use Rattle.std.proofs.lemmas.List.{take-append-drop}
use Rattle.kernel.specs.trees.Tree.{Tree, Leaf, Three, HNum, HTrue, HFalse, HIf}
use Rattle.kernel.specs.tasks.Task.{TaskTree, SymbolTree}
use Rattle.kernel.specs.rules.Trees.{RuleTree, StepTree}
use Rattle.name_tables.specs.declared.name_entries.names.NameEntry.{NameEntry}
use Rattle.step_lines.specs.word_tables.integers.Integers.{number_from, number_below, negative, integer}
use Rattle.word_tables.specs.Words.{is_same_word, place_in_words}
use Rattle.step_lines.specs.declared.rule_words.argument.ArgumentKind.{ArgumentKind}
use Rattle.step_lines.specs.declared.rule_words.argument.ArgumentKind.TheVariants as arg
use Rattle.step_lines.specs.declared.rule_words.name.RuleName.{RuleName}
use Rattle.step_lines.specs.rule_words.Arguments.{ArgumentTree, ANumber, ASymbol, AInteger, AExpression, AType}
use Rattle.step_lines.specs.rule_words.Forms.{argument_kinds}
use Rattle.step_lines.specs.rule_words.Rules.{rule_row, rule_names, rule_words, name_by_word, rule_from}
use Rattle.step_lines.specs.declared.tree_lines.kinds.NodeWord.{NodeWord}
use Rattle.step_lines.specs.declared.tree_lines.kinds.NodeWord.TheVariants as word
use Rattle.step_lines.specs.tree_lines.Words.{LineWord, number, at_number, each, pairs, one, two, three, alone}
use Rattle.step_lines.specs.tree_lines.Named.{NameMeaning, entry_named, meaning, named_type_at}
use Rattle.step_lines.specs.tree_lines.Lines.{Earlier, SymbolUse, use_by, symbol_number, application_tree, constructor_pattern_tree, pattern_words, pattern_node_words, pattern_word, expression_words, expression_names, expression_word, one_tree, two_tree, variable_tree, match_tree, type, pattern_at, expression_at, meaning_types, use_of, named_use, used_on, type_of_line, pattern_by, pattern_of_line, match_by_words, plain_by, expression_by, expression_of_line}
use Rattle.step_lines.specs.Steps.{Thing, TypeOf, PatternOf, ExpressionOf, StepOf, is_colon, before_colon, after_colon, step_by, argument, then_argument, arguments, rule_arguments, own_types, rule_named, rule_of_words, step_ended, step_of_line, line_made}
use Rattle.kernel.specs.tasks.Words.{IsLineWord}
use Rattle.step_writing.specs.Named.{AreWords}
use Rattle.step_writing.proofs.StepBack.{name_found, found_name}
use Rattle.tasks.proofs.plain_laws.Bools.{and_both as both, same_number}

-- what a step in a chain was
pub then_some : {A B : Type 0} (f : A → Option B) (o : Option A) (y : B) → option_and_then f o ≡ Some y → (x : A) × (o ≡ Some x) × (f x ≡ Some y)
then_some f None y e = absurd (cc)
then_some f (Some x) y e = (x, refl, e)

pub map_some : {A B : Type 0} (f : A → B) (o : Option A) (y : B) → option_map f o ≡ Some y → (x : A) × (o ≡ Some x) × (f x ≡ y)
map_some f None y e = absurd (cc)
map_some f (Some x) y e = (x, refl, let k : f x ≡ y = cc in k)

abbrev Bytes : ℕ → Type 0
Bytes c = (c ≢ 32) × (c ≢ 10)

digit : (bound n c : ℕ) → ((nat_le 48 c && nat_le c 57) && nat_lt (n * 10 + (c - 48)) bound) ≡ true → 48 ≤ c
digit bound n c e = grind (arith, nat_tests)

digits_plain : (bound n : ℕ) (cs : List ℕ) (m : ℕ) → number_from bound n cs ≡ Some m → IsLineWord cs
digits_plain bound n [] m e = All-nil Bytes
digits_plain bound n (c ∷ cs) m e = at ((nat_le 48 c && nat_le c 57) && nat_lt (n * 10 + (c - 48)) bound) refl e (λ k. digits_plain bound (n * 10 + (c - 48)) cs m k) where
  at : (b : Bool) → ((nat_le 48 c && nat_le c 57) && nat_lt (n * 10 + (c - 48)) bound) ≡ b → (if b then number_from bound (n * 10 + (c - 48)) cs else None) ≡ Some m → (number_from bound (n * 10 + (c - 48)) cs ≡ Some m → IsLineWord cs) → IsLineWord (c ∷ cs)
  at false q k more = absurd (cc)
  at true q k more = let low = digit bound n c q in All-cons Bytes c cs ((λ z. omega (arith, low, z)), (λ z. omega (arith, low, z))) (more k)

below_plain : (bound : ℕ) (w : LineWord) (m : ℕ) → number_below bound w ≡ Some m → IsLineWord w
below_plain bound [] m e = absurd (cc)
below_plain bound (c ∷ []) m e = digits_plain bound 0 (c ∷ []) m e
below_plain bound (c ∷ d ∷ cs) m e = at (c == 48) e where
  at : (b : Bool) → (if b then None else number_from bound 0 (c ∷ d ∷ cs)) ≡ Some m → IsLineWord (c ∷ d ∷ cs)
  at true k = absurd (cc)
  at false k = digits_plain bound 0 (c ∷ d ∷ cs) m k

number_plain : (w : LineWord) (n : ℕ) → number w ≡ Some n → IsLineWord w
number_plain w n e = below_plain 18446744073709551616 w n e

integer_plain : (w : LineWord) (n : ℤ) → integer w ≡ Some n → IsLineWord w
integer_plain [] n e = absurd (cc)
integer_plain (c ∷ cs) n e = at (c == 45) refl e where
  minus : (c == 45) ≡ true → c ≡ 45
  minus q = grind (arith, nat_tests)

  at : (b : Bool) → (c == 45) ≡ b → (if b then option_map negative (number_below 170141183460469231731687303715884105729 cs) else option_map pos (number_below 170141183460469231731687303715884105728 (c ∷ cs))) ≡ Some n → IsLineWord (c ∷ cs)
  at true q k = let m = map_some negative (number_below 170141183460469231731687303715884105729 cs) n k in let f = minus q in All-cons Bytes c cs ((λ z. omega (arith, f, z)), (λ z. omega (arith, f, z))) (below_plain 170141183460469231731687303715884105729 cs m.0 m.1)
  at false q k = let m = map_some pos (number_below 170141183460469231731687303715884105728 (c ∷ cs)) n k in below_plain 170141183460469231731687303715884105728 (c ∷ cs) m.0 m.1

at_plain : {A : Type 0} (things : List A) (w : LineWord) (x : A) → at_number things w ≡ Some x → IsLineWord w
at_plain things w x e = let m = then_some (slice_get things) (number w) x e in number_plain w m.0 m.1

-- words past the space
abbrev past_space : List ℕ → Bool
past_space w = list_all (λ c. nat_lt 32 c) w

above : (c : ℕ) → nat_lt 32 c ≡ true → 32 < c
above c e = grind (arith, nat_tests)

pub past_plain : (w : List ℕ) → past_space w ≡ true → IsLineWord w
past_plain [] e = All-nil Bytes
past_plain (c ∷ cs) e =
    let b = both (nat_lt 32 c) (past_space cs) e in
    let low = above c b.0 in
    All-cons Bytes c cs ((λ z. omega (arith, low, z)), (λ z. omega (arith, low, z))) (past_plain cs b.1)

abbrev all_past : List (List ℕ) → Bool
all_past ws = list_all past_space ws

same_word : (v w : LineWord) → is_same_word v w ≡ true → v ≡ w
same_word [] [] e = refl
same_word [] (y ∷ ys) e = absurd (cc)
same_word (x ∷ xs) [] e = absurd (cc)
same_word (x ∷ xs) (y ∷ ys) e =
    let b = both (x == y) (is_same_word xs ys) e in
    ap (λ (z : ℕ). z ∷ xs) (same_number x y b.0) ∙ ap (λ (l : List ℕ). y ∷ l) (same_word xs ys b.1)

found_plain : (w : LineWord) (words : List LineWord) (k i : ℕ) → all_past words ≡ true → position_from (λ v. is_same_word v w) k words ≡ Some i → IsLineWord w
found_plain w [] k i p e = absurd (cc)
found_plain w (v ∷ vs) k i p e = at (is_same_word v w) refl e (λ m. found_plain w vs (k + 1) i (both (past_space v) (all_past vs) p).1 m) where
  at : (b : Bool) → is_same_word v w ≡ b → (if b then Some k else position_from (λ u. is_same_word u w) (k + 1) vs) ≡ Some i → (position_from (λ u. is_same_word u w) (k + 1) vs ≡ Some i → IsLineWord w) → IsLineWord w
  at true q m more = subst IsLineWord (same_word v w q) (past_plain v (both (past_space v) (all_past vs) p).0)
  at false q m more = more m

pattern_word_plain : (w : LineWord) (n : NodeWord) → pattern_word w ≡ Some n → IsLineWord w
pattern_word_plain w n e = let m = then_some (slice_get pattern_node_words) (place_in_words w pattern_words) n e in found_plain w pattern_words 0 m.0 refl m.1

expression_word_plain : (w : LineWord) (n : NodeWord) → expression_word w ≡ Some n → IsLineWord w
expression_word_plain w n e = let m = then_some (slice_get expression_names) (place_in_words w expression_words) n e in found_plain w expression_words 0 m.0 refl m.1

rule_word_plain : (w : LineWord) (n : RuleName) → name_by_word w ≡ Some n → IsLineWord w
rule_word_plain w n e = let m = then_some (slice_get rule_names) (place_in_words w rule_words) n e in found_plain w rule_words 0 m.0 refl m.1

-- words by which things are made
module _ {A C : Type 0} (p : LineWord → Option A) (hp : (w : LineWord) (x : A) → p w ≡ Some x → IsLineWord w) where
  one_plain : (f : A → C) (ws : List LineWord) (y : C) → one p f ws ≡ Some y → All IsLineWord ws
  one_plain f [] y e = absurd (cc)
  one_plain f (w ∷ []) y e = let m = map_some f (p w) y e in All-cons IsLineWord w [] (hp w m.0 m.1) (All-nil IsLineWord)
  one_plain f (w ∷ v ∷ ws) y e = absurd (cc)

each_plain : {A : Type 0} (p : LineWord → Option A) → ((w : LineWord) (x : A) → p w ≡ Some x → IsLineWord w) → (ws : List LineWord) (xs : List A) → each p ws ≡ Some xs → All IsLineWord ws
each_plain p hp [] xs e = All-nil IsLineWord
each_plain p hp (w ∷ ws) xs e =
    let m = then_some (λ y. option_map (λ ys. y ∷ ys) (each p ws)) (p w) xs e in
    let n = map_some (λ ys. m.0 ∷ ys) (each p ws) xs m.2 in
    All-cons IsLineWord w ws (hp w m.0 m.1) (each_plain p hp ws n.0 n.1)

alone_plain : {C : Type 0} (c : C) (ws : List LineWord) (y : C) → alone c ws ≡ Some y → All IsLineWord ws
alone_plain c [] y e = All-nil IsLineWord
alone_plain c (w ∷ ws) y e = absurd (cc)

module _ {A B C : Type 0} (p : LineWord → Option A) (q : LineWord → Option B) (hp : (w : LineWord) (x : A) → p w ≡ Some x → IsLineWord w) (hq : (w : LineWord) (x : B) → q w ≡ Some x → IsLineWord w) where
  two_plain : (f : A → B → C) (ws : List LineWord) (y : C) → two p q f ws ≡ Some y → All IsLineWord ws
  two_plain f [] y e = absurd (cc)
  two_plain f (w ∷ []) y e = absurd (cc)
  two_plain f (w ∷ v ∷ []) y e =
      let m = then_some (λ x. option_map (f x) (q v)) (p w) y e in
      let n = map_some (f m.0) (q v) y m.2 in
      All-cons IsLineWord w (v ∷ []) (hp w m.0 m.1) (All-cons IsLineWord v [] (hq v n.0 n.1) (All-nil IsLineWord))
  two_plain f (w ∷ v ∷ u ∷ ws) y e = absurd (cc)

pairs_plain : {A B : Type 0} (p : LineWord → Option A) (q : LineWord → Option B) → ((w : LineWord) (x : A) → p w ≡ Some x → IsLineWord w) → ((w : LineWord) (x : B) → q w ≡ Some x → IsLineWord w) → (ws : List LineWord) (ps : List (A × B)) → pairs p q ws ≡ Some ps → All IsLineWord ws
pairs_plain p q hp hq [] ps e = All-nil IsLineWord
pairs_plain p q hp hq (w ∷ []) ps e = absurd (cc)
pairs_plain {A} {B} p q hp hq (w ∷ v ∷ ws) ps e =
    let m = then_some (λ x. option_and_then (λ y. option_map {U = List (A × B)} (λ zs. (x, y) ∷ zs) (pairs p q ws)) (q v)) (p w) ps e in
    let n = then_some (λ y. option_map {U = List (A × B)} (λ zs. (m.0, y) ∷ zs) (pairs p q ws)) (q v) ps m.2 in
    let o = map_some (λ zs. (m.0, n.0) ∷ zs) (pairs p q ws) ps n.2 in
    All-cons IsLineWord w (v ∷ ws) (hp w m.0 m.1) (All-cons IsLineWord v ws (hq v n.0 n.1) (pairs_plain p q hp hq ws o.0 o.1))

three_plain : {A C : Type 0} (p : LineWord → Option A) → ((w : LineWord) (x : A) → p w ≡ Some x → IsLineWord w) → (f : A → A → A → C) (ws : List LineWord) (y : C) → three p p p f ws ≡ Some y → All IsLineWord ws
three_plain p hp f [] y e = absurd (cc)
three_plain p hp f (w ∷ []) y e = absurd (cc)
three_plain p hp f (w ∷ v ∷ []) y e = absurd (cc)
three_plain p hp f (w ∷ v ∷ u ∷ []) y e =
    let m = then_some (λ x. option_and_then (λ z. option_map (f x z) (p u)) (p v)) (p w) y e in
    let n = then_some (λ z. option_map (f m.0 z) (p u)) (p v) y m.2 in
    let o = map_some (f m.0 n.0) (p u) y n.2 in
    All-cons IsLineWord w (v ∷ u ∷ []) (hp w m.0 m.1) (All-cons IsLineWord v (u ∷ []) (hp v n.0 n.1) (All-cons IsLineWord u [] (hp u o.0 o.1) (All-nil IsLineWord)))
three_plain p hp f (w ∷ v ∷ u ∷ x ∷ ws) y e = absurd (cc)

taken_plain : (n : ℕ) (ws : List LineWord) → All IsLineWord (take n ws) → All IsLineWord (drop n ws) → All IsLineWord ws
taken_plain n ws a b = subst (All IsLineWord) (take-append-drop n ws) (All-append IsLineWord (take n ws) (drop n ws) a b)

-- over a table whose names are words
module _ (t : TaskTree) (table : List NameEntry) (r : Earlier) (words : AreWords table) where
  name_plain : (w : LineWord) (m : NameMeaning) → meaning table w ≡ Some m → IsLineWord w
  name_plain w m e = let f = name_found table w m e in (found_name table w f.0 words f.1).word

  type_plain : (w : LineWord) (e : Tree) → type t table r w ≡ Some e → IsLineWord w
  type_plain w e h = at_plain r.types w e h

  pattern_plain : (w : LineWord) (e : Tree) → pattern_at t table r w ≡ Some e → IsLineWord w
  pattern_plain w e h = at_plain r.patterns w e h

  expression_plain : (w : LineWord) (e : Tree) → expression_at t table r w ≡ Some e → IsLineWord w
  expression_plain w e h = at_plain r.expressions w e h

  types_plain : (n : NameMeaning) (ws : List LineWord) (es : List Tree) → meaning_types t table r n ws ≡ Some es → All IsLineWord ws
  types_plain n ws es h = let m = map_some (λ types. n.types ++ types) (each (type t table r) ws) es h in each_plain (type t table r) type_plain ws m.0 m.1

  module _ (part : LineWord → Option Tree) (hp : (w : LineWord) (e : Tree) → part w ≡ Some e → IsLineWord w) where
    use_plain : (n : NameMeaning) (ws : List LineWord) (k : ℕ) (e : SymbolTree) (u : SymbolUse) → use_of t table r part n ws k e ≡ Some u → All IsLineWord ws
    use_plain n ws k e u h =
        let d = e.vars - length n.types in
        let m = then_some (λ types. option_map (use_by k e types) (each part (drop d ws))) (meaning_types t table r n (take d ws)) u h in
        let o = map_some (use_by k e m.0) (each part (drop d ws)) u m.2 in
        taken_plain d ws (types_plain n (take d ws) m.0 m.1) (each_plain part hp (drop d ws) o.0 o.1)

    used_plain : (ws : List LineWord) (u : SymbolUse) → used_on t table r part ws ≡ Some u → All IsLineWord ws
    used_plain [] u h = absurd (cc)
    used_plain (w ∷ ws) u h =
        let m = then_some (named_use t table r part ws) (meaning table w) u h in
        let k = then_some (λ k. option_and_then (use_of t table r part m.0 ws k) (slice_get t.symbols k)) (symbol_number m.0.symbol) u m.2 in
        let e = then_some (use_of t table r part m.0 ws k.0) (slice_get t.symbols k.0) u k.2 in
        All-cons IsLineWord w ws (name_plain w m.0 m.1) (use_plain m.0 ws k.0 e.0 u e.2)

  type_line_plain : (ws : List LineWord) (e : Tree) → type_of_line t table r ws ≡ Some e → All IsLineWord ws
  type_line_plain [] e h = absurd (cc)
  type_line_plain (w ∷ ws) e h =
      let m = then_some (λ n. option_and_then (named_type_at n.symbol) (meaning_types t table r n ws)) (meaning table w) e h in
      let o = then_some (named_type_at m.0.symbol) (meaning_types t table r m.0 ws) e m.2 in
      All-cons IsLineWord w ws (name_plain w m.0 m.1) (types_plain m.0 ws o.0 o.1)

  pattern_by_plain : (n : NodeWord) (ws : List LineWord) (e : Tree) → pattern_by t table r n ws ≡ Some e → All IsLineWord ws
  pattern_by_plain word.Con ws e h = let m = then_some constructor_pattern_tree (used_on t table r (pattern_at t table r) ws) e h in used_plain (pattern_at t table r) pattern_plain ws m.0 m.1
  pattern_by_plain word.As ws e h = one_plain (pattern_at t table r) pattern_plain (one_tree word.As) ws e h
  pattern_by_plain n ws e h = one_plain (type t table r) type_plain (one_tree n) ws e h

  pattern_line_plain : (ws : List LineWord) (e : Tree) → pattern_of_line t table r ws ≡ Some e → All IsLineWord ws
  pattern_line_plain [] e h = absurd (cc)
  pattern_line_plain (w ∷ ws) e h =
      let m = then_some (λ n. pattern_by t table r n ws) (pattern_word w) e h in
      All-cons IsLineWord w ws (pattern_word_plain w m.0 m.1) (pattern_by_plain m.0 ws e m.2)

  match_plain : (ws : List LineWord) (e : Tree) → match_by_words t table r ws ≡ Some e → All IsLineWord ws
  match_plain [] e h = absurd (cc)
  match_plain (w ∷ ws) e h =
      let m = then_some (λ x. option_map (match_tree x) (pairs (pattern_at t table r) (expression_at t table r) ws)) (expression_at t table r w) e h in
      let o = map_some (match_tree m.0) (pairs (pattern_at t table r) (expression_at t table r) ws) e m.2 in
      All-cons IsLineWord w ws (expression_plain w m.0 m.1) (pairs_plain (pattern_at t table r) (expression_at t table r) pattern_plain expression_plain ws o.0 o.1)

  plain_by_plain : (n : NodeWord) (ws : List LineWord) (e : Tree) → plain_by t table r n ws ≡ Some e → All IsLineWord ws
  plain_by_plain word.Bound ws e h = two_plain number (type t table r) number_plain type_plain (variable_tree word.Bound) ws e h
  plain_by_plain word.Param ws e h = two_plain number (type t table r) number_plain type_plain (variable_tree word.Param) ws e h
  plain_by_plain word.Num ws e h = one_plain integer integer_plain (λ n. Leaf (HNum n)) ws e h
  plain_by_plain word.True ws e h = alone_plain (Leaf HTrue) ws e h
  plain_by_plain word.False ws e h = alone_plain (Leaf HFalse) ws e h
  plain_by_plain word.Not ws e h = one_plain (expression_at t table r) expression_plain (one_tree word.Not) ws e h
  plain_by_plain word.Forall ws e h = two_plain (type t table r) (expression_at t table r) type_plain expression_plain (two_tree word.Forall) ws e h
  plain_by_plain word.Exists ws e h = two_plain (type t table r) (expression_at t table r) type_plain expression_plain (two_tree word.Exists) ws e h
  plain_by_plain word.If ws e h = three_plain (expression_at t table r) expression_plain (Three HIf) ws e h
  plain_by_plain n ws e h = two_plain (expression_at t table r) (expression_at t table r) expression_plain expression_plain (two_tree n) ws e h

  expression_by_plain : (n : NodeWord) (ws : List LineWord) (e : Tree) → expression_by t table r n ws ≡ Some e → All IsLineWord ws
  expression_by_plain word.Sym ws e h = let m = then_some application_tree (used_on t table r (expression_at t table r) ws) e h in used_plain (expression_at t table r) expression_plain ws m.0 m.1
  expression_by_plain word.Match ws e h = match_plain ws e h
  expression_by_plain n ws e h = plain_by_plain n ws e h

  expression_line_plain : (ws : List LineWord) (e : Tree) → expression_of_line t table r ws ≡ Some e → All IsLineWord ws
  expression_line_plain [] e h = absurd (cc)
  expression_line_plain (w ∷ ws) e h =
      let m = then_some (λ n. expression_by t table r n ws) (expression_word w) e h in
      All-cons IsLineWord w ws (expression_word_plain w m.0 m.1) (expression_by_plain m.0 ws e m.2)

  -- the words of a step
  argument_plain : (k : ArgumentKind) (w : LineWord) (a : ArgumentTree) → argument t table r k w ≡ Some a → IsLineWord w
  argument_plain arg.Number w a h = let m = map_some ANumber (number w) a h in number_plain w m.0 m.1
  argument_plain arg.Symbol w a h =
      let m = map_some ASymbol (option_and_then (λ e. symbol_number e.symbol) (entry_named table w)) a h in
      let n = then_some (λ e. symbol_number e.symbol) (entry_named table w) m.0 m.1 in
      (found_name table w n.0 words n.1).word
  argument_plain arg.Integer w a h = let m = map_some AInteger (integer w) a h in integer_plain w m.0 m.1
  argument_plain arg.Expression w a h = let m = map_some AExpression (at_number r.expressions w) a h in at_plain r.expressions w m.0 m.1
  argument_plain arg.Type w a h = let m = map_some AType (at_number r.types w) a h in at_plain r.types w m.0 m.1

  then_plain : (k : ArgumentKind) (w : LineWord) (ws : List LineWord) (o : Option (List ArgumentTree)) (args : List ArgumentTree) → ((xs : List ArgumentTree) → o ≡ Some xs → All IsLineWord ws) → then_argument t table r k w o ≡ Some args → All IsLineWord (w ∷ ws)
  then_plain k w ws o args more h =
      let m = then_some (λ a. option_map (λ args. a ∷ args) o) (argument t table r k w) args h in
      let n = map_some (λ args. m.0 ∷ args) o args m.2 in
      All-cons IsLineWord w ws (argument_plain k w m.0 m.1) (more n.0 n.1)

  arguments_plain : (ks again : List ArgumentKind) (ws : List LineWord) (args : List ArgumentTree) → arguments t table r ks again ws ≡ Some args → All IsLineWord ws
  arguments_plain [] again [] args h = All-nil IsLineWord
  arguments_plain (k ∷ ks) again [] args h = absurd (cc)
  arguments_plain (k ∷ ks) again (w ∷ ws) args h = then_plain k w ws (arguments t table r ks again ws) args (λ xs e. arguments_plain ks again ws xs e) h
  arguments_plain [] [] (w ∷ ws) args h = absurd (cc)
  arguments_plain [] (k ∷ ks) (w ∷ ws) args h = then_plain k w ws (arguments t table r ks (k ∷ ks) ws) args (λ xs e. arguments_plain ks (k ∷ ks) ws xs e) h

  rule_plain : (ws : List LineWord) (rule : RuleTree) → rule_of_words t table r ws ≡ Some rule → All IsLineWord ws
  rule_plain [] rule h = absurd (cc)
  rule_plain (w ∷ ws) rule h =
      let n = then_some (rule_named t table r ws) (name_by_word w) rule h in
      let ks = argument_kinds (rule_row n.0).form in
      let m = then_some (rule_from n.0) (rule_arguments t table r ks ws) rule n.2 in
      let f = then_some (λ first. option_map (λ rest. first ++ (own_types t table r ks.first ws ++ rest)) (arguments t table r [] ks.repeated (drop (length ks.first) ws))) (arguments t table r ks.first [] (take (length ks.first) ws)) m.0 m.1 in
      let o = map_some (λ rest. f.0 ++ (own_types t table r ks.first ws ++ rest)) (arguments t table r [] ks.repeated (drop (length ks.first) ws)) m.0 f.2 in
      All-cons IsLineWord w ws (rule_word_plain w n.0 n.1) (taken_plain (length ks.first) ws (arguments_plain ks.first [] (take (length ks.first) ws) f.0 f.1) (arguments_plain [] ks.repeated (drop (length ks.first) ws) o.0 o.1))

  colon_plain : (ws rest : List LineWord) → after_colon ws ≡ Some rest → All IsLineWord (before_colon ws) → All IsLineWord rest → All IsLineWord ws
  colon_plain [] rest h a b = absurd (cc)
  colon_plain (w ∷ ws) rest h a b = at (is_colon w) refl h a (λ k c. colon_plain ws rest k c b) where
    at : (c : Bool) → is_colon w ≡ c → (if c then Some ws else after_colon ws) ≡ Some rest → All IsLineWord (if c then [] else w ∷ before_colon ws) → (after_colon ws ≡ Some rest → All IsLineWord (before_colon ws) → All IsLineWord ws) → All IsLineWord (w ∷ ws)
    at true q k f more = let same : ws ≡ rest = cc in All-cons IsLineWord w ws (subst IsLineWord (sym ((bytes_eq-Decides w (codes ":")).0 q)) (past_plain (codes ":") refl)) (subst (All IsLineWord) (sym same) b)
    at false q k f more = All-cons IsLineWord w ws (f 0 w (omega arith)) (more k (λ i d l. f (suc i) d (omega (arith, l))))

  step_plain : (ws : List LineWord) (st : StepTree) → step_of_line t table r ws ≡ Some st → All IsLineWord ws
  step_plain ws st h =
      let rest = then_some (λ rest. option_and_then (λ sequent. step_ended t table r sequent rest) (each (at_number r.expressions) (before_colon ws))) (after_colon ws) st h in
      let q = then_some (λ sequent. step_ended t table r sequent rest.0) (each (at_number r.expressions) (before_colon ws)) st rest.2 in
      let last = then_some (λ last. option_and_then (λ rule. option_map (step_by q.0 rule) (each number last)) (rule_of_words t table r (before_colon rest.0))) (after_colon rest.0) st q.2 in
      let rule = then_some (λ rule. option_map (step_by q.0 rule) (each number last.0)) (rule_of_words t table r (before_colon rest.0)) st last.2 in
      let ns = map_some (step_by q.0 rule.0) (each number last.0) st rule.2 in
      colon_plain ws rest.0 rest.1 (each_plain (at_number r.expressions) (λ w e k. at_plain r.expressions w e k) (before_colon ws) q.0 q.1)
      (colon_plain rest.0 last.0 last.1 (rule_plain (before_colon rest.0) rule.0 rule.1) (each_plain number number_plain last.0 ns.0 ns.1))

  letter_plain : (w v : LineWord) → past_space v ≡ true → bytes_eq w v ≡ true → IsLineWord w
  letter_plain w v p e = subst IsLineWord (sym ((bytes_eq-Decides w v).0 e)) (past_plain v p)

  pub line_plain : (ws : List LineWord) (x : Thing) → line_made t table r ws ≡ Some x → All IsLineWord ws
  line_plain [] x h = absurd (cc)
  line_plain (w ∷ ws) x h = at (bytes_eq w (codes "y")) (bytes_eq w (codes "p")) (bytes_eq w (codes "e")) (bytes_eq w (codes "s")) refl refl refl refl h where
    at : (a b c d : Bool) → bytes_eq w (codes "y") ≡ a → bytes_eq w (codes "p") ≡ b → bytes_eq w (codes "e") ≡ c → bytes_eq w (codes "s") ≡ d
        → (if a then option_map TypeOf (type_of_line t table r ws) else (if b then option_map PatternOf (pattern_of_line t table r ws) else (if c then option_map ExpressionOf (expression_of_line t table r ws) else (if d then option_map StepOf (step_of_line t table r ws) else None)))) ≡ Some x
        → All IsLineWord (w ∷ ws)
    at true b c d p q u v k = let m = map_some TypeOf (type_of_line t table r ws) x k in All-cons IsLineWord w ws (letter_plain w (codes "y") refl p) (type_line_plain ws m.0 m.1)
    at false true c d p q u v k = let m = map_some PatternOf (pattern_of_line t table r ws) x k in All-cons IsLineWord w ws (letter_plain w (codes "p") refl q) (pattern_line_plain ws m.0 m.1)
    at false false true d p q u v k = let m = map_some ExpressionOf (expression_of_line t table r ws) x k in All-cons IsLineWord w ws (letter_plain w (codes "e") refl u) (expression_line_plain ws m.0 m.1)
    at false false false true p q u v k = let m = map_some StepOf (step_of_line t table r ws) x k in All-cons IsLineWord w ws (letter_plain w (codes "s") refl v) (step_plain ws m.0 m.1)
    at false false false false p q u v k = absurd (cc)
