-- The line of a step makes the step.
use Rattle.std.proofs.Common.{◌≡◌, Bool, true, false, ◌&&◌, ℕ, suc, arith, if◌then◌else◌, List, [], ◌∷◌, ◌++◌, length, take, drop, Option, Some, None, refl, sym, ap, ap₂, subst, ◌∙◌}
use Rattle.std.specs.Prelude.{codes, IsTrue}
use Rattle.std.proofs.lemmas.Slice.Eq.{bytes_eq-Decides}
use Rattle.std.specs.Option.{option_and_then, option_map}
use Rattle.std.specs.Str.{bytes_eq}
use Rattle.kernel.specs.trees.Tree.{Tree}
use Rattle.kernel.specs.tasks.Task.{TaskTree}
use Rattle.kernel.specs.rules.Trees.{RuleTree}
use Rattle.name_tables.specs.declared.name_entries.names.NameOf.TheVariants.{Symbol}
use Rattle.name_tables.specs.declared.name_entries.names.NameEntry.{NameEntry}
use Rattle.step_lines.specs.word_tables.integers.Integers.{integer}
use Rattle.step_lines.specs.declared.rule_words.argument.ArgumentKind.{ArgumentKind}
use Rattle.step_lines.specs.declared.rule_words.argument.ArgumentKind.TheVariants as kind
use Rattle.step_lines.specs.declared.rule_words.name.RuleName.{RuleName}
use Rattle.step_lines.specs.rule_words.Arguments.{ArgumentTree, ANumber, ASymbol, AInteger, AExpression, AType, has_kind, have_kinds}
use Rattle.step_lines.specs.rule_words.Forms.{KindsOf, argument_kinds}
use Rattle.step_lines.specs.rule_words.Rules.{rule_row, name_by_word, rule_from}
use Rattle.step_lines.specs.tree_lines.Words.{LineWord, number, at_number, each}
use Rattle.step_lines.specs.tree_lines.Named.{NameMeaning, meaning, meaning_by, entry_meaning, entry_types, entry_named}
use Rattle.step_lines.specs.tree_lines.Lines.{Earlier, symbol_number}
use Rattle.step_lines.specs.Steps.{is_colon, before_colon, after_colon, step_by, types_named, own_types, argument, then_argument, arguments, rule_arguments, rule_named, rule_of_words, step_ended, step_of_line}
use Rattle.step_writing.specs.Named.{IsName, AreWords}
use Rattle.step_writing.specs.Words.{WritesArgument, WriteArguments, NoColon}
use Rattle.step_writing.proofs.tree_writing.UsedBack.{drop_front, take_front}

before_back : (us vs : List LineWord) → NoColon us → before_colon (us ++ codes ":" ∷ vs) ≡ us
before_back [] vs h = refl
before_back (w ∷ us) vs h = ap (λ b. if b then [] else w ∷ before_colon (us ++ codes ":" ∷ vs)) h.0 ∙ ap (λ l. w ∷ l) (before_back us vs h.1)

after_back : (us vs : List LineWord) → NoColon us → after_colon (us ++ codes ":" ∷ vs) ≡ Some vs
after_back [] vs h = refl
after_back (w ∷ us) vs h = ap (λ b. if b then Some (us ++ codes ":" ∷ vs) else after_colon (us ++ codes ":" ∷ vs)) h.0 ∙ after_back us vs h.1

-- a word that makes something, where a colon makes nothing, is no colon
no_colon : {A : Type 0} (f : LineWord → Option A) → f (codes ":") ≡ None → (w : LineWord) (x : A) → f w ≡ Some x → is_colon w ≡ false
no_colon f none w x h = at (is_colon w) refl where
  at : (b : Bool) → is_colon w ≡ b → is_colon w ≡ false
  at false e = e
  at true e = let same = ap f ((bytes_eq-Decides w (codes ":")).0 e) in absurd (cc)

both : (a b : Bool) → IsTrue (a && b) → IsTrue a × IsTrue b
both true b h = (refl, h)
both false b h = absurd (cc)

-- numbers are no colons
pub numbers_no_colon : (ws : List LineWord) (ns : List ℕ) → each number ws ≡ Some ns → NoColon ws
numbers_no_colon [] ns e = tt
numbers_no_colon (w ∷ ws) ns e = at (number w) (each number ws) refl refl e (λ ms k. numbers_no_colon ws ms k) where
  at : (o : Option ℕ) (rest : Option (List ℕ)) → number w ≡ o → each number ws ≡ rest → option_and_then (λ y. option_map (λ ys. y ∷ ys) rest) o ≡ Some ns → ((ms : List ℕ) → each number ws ≡ Some ms → NoColon ws) → NoColon (w ∷ ws)
  at None rest q k l more = absurd (cc)
  at (Some n) None q k l more = absurd (cc)
  at (Some n) (Some ms) q k l more = (no_colon number refl w n q, more ms k)

-- the entry of a name that stands for something
pub name_found : (table : List NameEntry) (w : LineWord) (m : NameMeaning) → meaning table w ≡ Some m → (e : NameEntry) × (entry_named table w ≡ Some e) × (e.symbol ≡ m.symbol)
name_found table w m h = at (entry_named table w) refl h where
  by : (e : NameEntry) (o : Option (List Tree)) → option_map (meaning_by e.symbol) o ≡ Some m → e.symbol ≡ m.symbol
  by e None k = absurd (cc)
  by e (Some types) k = let same : meaning_by e.symbol types ≡ m = cc in ap (λ (x : NameMeaning). x.symbol) same

  at : (o : Option NameEntry) → entry_named table w ≡ o → option_and_then (entry_meaning table) o ≡ Some m → (e : NameEntry) × (entry_named table w ≡ Some e) × (e.symbol ≡ m.symbol)
  at None q k = absurd (cc)
  at (Some e) q k = (e, q, by e (entry_types table e.types) k)

-- a name that is found is in the table
pub found_name : (table : List NameEntry) (w : LineWord) (e : NameEntry) → AreWords table → entry_named table w ≡ Some e → IsName w
found_name [] w e a h = absurd (cc)
found_name (n ∷ ns) w e a h = at (bytes_eq n.name w) refl h (λ k. found_name ns w e (λ i d l. a (suc i) d (omega (arith, l))) k) where
  at : (b : Bool) → bytes_eq n.name w ≡ b → (if b then Some n else entry_named ns w) ≡ Some e → (entry_named ns w ≡ Some e → IsName w) → IsName w
  at true q k more = subst IsName ((bytes_eq-Decides n.name w).0 q) (a 0 n (omega arith))
  at false q k more = more k

module _ (t : TaskTree) (table : List NameEntry) (r : Earlier) (words : AreWords table) where
  no_name_colon : (w : LineWord) → IsName w → is_colon w ≡ false
  no_name_colon w n = at (is_colon w) refl where
    at : (b : Bool) → is_colon w ≡ b → is_colon w ≡ false
    at false e = e
    at true e = absurd (n.no_colon ((bytes_eq-Decides w (codes ":")).0 e))

  argument_no_colon : (a : ArgumentTree) (w : LineWord) → WritesArgument table r a w → is_colon w ≡ false
  argument_no_colon (ANumber n) w h = no_colon number refl w n h
  argument_no_colon (ASymbol k) w h = let f = name_found table w (meaning_by (Symbol k) []) h in no_name_colon w (found_name table w f.0 words f.1)
  argument_no_colon (AInteger z) w h = no_colon integer refl w z h
  argument_no_colon (AExpression e) w h = no_colon (at_number r.expressions) refl w e h
  argument_no_colon (AType y) w h = no_colon (at_number r.types) refl w y h

  pub arguments_no_colon : (args : List ArgumentTree) (ws : List LineWord) → WriteArguments table r args ws → NoColon ws
  arguments_no_colon [] [] h = tt
  arguments_no_colon [] (w ∷ ws) h = absurd h
  arguments_no_colon (a ∷ args) [] h = absurd h
  arguments_no_colon (a ∷ args) (w ∷ ws) h = (argument_no_colon a w h.0, arguments_no_colon args ws h.1)

  symbol_back : (k : ℕ) (w : LineWord) → meaning table w ≡ Some (meaning_by (Symbol k) []) → option_and_then (λ e. symbol_number e.symbol) (entry_named table w) ≡ Some k
  symbol_back k w h = let f = name_found table w (meaning_by (Symbol k) []) h in ap (option_and_then (λ e. symbol_number e.symbol)) f.1 ∙ ap symbol_number f.2

  argument_back : (k : ArgumentKind) (a : ArgumentTree) (w : LineWord) → IsTrue (has_kind k a) → WritesArgument table r a w → argument t table r k w ≡ Some a
  argument_back kind.Number (ANumber n) w k h = ap (option_map ANumber) h
  argument_back kind.Symbol (ASymbol n) w k h = ap (option_map ASymbol) (symbol_back n w h)
  argument_back kind.Integer (AInteger n) w k h = ap (option_map AInteger) h
  argument_back kind.Expression (AExpression n) w k h = ap (option_map AExpression) h
  argument_back kind.Type (AType n) w k h = ap (option_map AType) h
  argument_back _ _ w k h = absurd (cc)

  one_argument : (k : ArgumentKind) (a : ArgumentTree) (w : LineWord) (o : Option (List ArgumentTree)) (args : List ArgumentTree) → IsTrue (has_kind k a) → WritesArgument table r a w → o ≡ Some args → then_argument t table r k w o ≡ Some (a ∷ args)
  one_argument k a w o args h i e = ap (option_and_then (λ a. option_map (λ args. a ∷ args) o)) (argument_back k a w h i) ∙ ap (option_map (λ args. a ∷ args)) e

  arguments_back : (ks again : List ArgumentKind) (args : List ArgumentTree) (ws : List LineWord) → IsTrue (have_kinds ks again args) → WriteArguments table r args ws → arguments t table r ks again ws ≡ Some args
  arguments_back [] again [] [] h a = refl
  arguments_back [] again [] (w ∷ ws) h a = absurd a
  arguments_back (k ∷ ks) again [] ws h a = absurd (cc)
  arguments_back (k ∷ ks) again (x ∷ args) [] h a = absurd a
  arguments_back (k ∷ ks) again (x ∷ args) (w ∷ ws) h a =
      let b = both (has_kind k x) (have_kinds ks again args) h in
      one_argument k x w (arguments t table r ks again ws) args b.0 a.0 (arguments_back ks again args ws b.1 a.1)
  arguments_back [] [] (x ∷ args) ws h a = absurd (cc)
  arguments_back [] (k ∷ ks) (x ∷ args) [] h a = absurd a
  arguments_back [] (k ∷ ks) (x ∷ args) (w ∷ ws) h a =
      let b = both (has_kind k x) (have_kinds ks (k ∷ ks) args) h in
      one_argument k x w (arguments t table r ks (k ∷ ks) ws) args b.0 a.0 (arguments_back ks (k ∷ ks) args ws b.1 a.1)

  -- the first arguments and the others
  record Split (ks again : List ArgumentKind) (args : List ArgumentTree) (ws : List LineWord) : Type 0 where
    pub first : List ArgumentTree
    pub rest : List ArgumentTree
    pub fs : List LineWord
    pub rs : List LineWord
    pub args_are : args ≡ first ++ rest
    pub words_are : ws ≡ fs ++ rs
    pub long : length ks ≡ length fs
    pub first_back : arguments t table r ks [] fs ≡ Some first
    pub rest_back : arguments t table r [] again rs ≡ Some rest

  split : (ks again : List ArgumentKind) (args : List ArgumentTree) (ws : List LineWord) → IsTrue (have_kinds ks again args) → WriteArguments table r args ws → Split ks again args ws
  split [] again args ws h a = record { first = []; rest = args; fs = []; rs = ws; args_are = refl; words_are = refl; long = refl; first_back = refl; rest_back = arguments_back [] again args ws h a }
  split (k ∷ ks) again [] ws h a = absurd (cc)
  split (k ∷ ks) again (x ∷ args) [] h a = absurd a
  split (k ∷ ks) again (x ∷ args) (w ∷ ws) h a =
      let b = both (has_kind k x) (have_kinds ks again args) h in
      let p = split ks again args ws b.1 a.1 in
      record {
        first = x ∷ p.first;
        rest = p.rest;
        fs = w ∷ p.fs;
        rs = p.rs;
        args_are = ap (λ (l : List ArgumentTree). x ∷ l) p.args_are;
        words_are = ap (λ (l : List LineWord). w ∷ l) p.words_are;
        long = ap suc p.long;
        first_back = one_argument k x w (arguments t table r ks [] p.fs) p.first b.0 a.0 p.first_back;
        rest_back = p.rest_back;
      }

  -- the name in a rule is whole
  own_none : (ks again : List ArgumentKind) (args : List ArgumentTree) (ws : List LineWord) → IsTrue (have_kinds ks again args) → WriteArguments table r args ws → own_types t table r ks ws ≡ []
  own_none [] again args ws h a = refl
  own_none (kind.Symbol ∷ ks) again [] ws h a = absurd (cc)
  own_none (kind.Symbol ∷ ks) again (x ∷ args) [] h a = absurd a
  own_none (kind.Symbol ∷ ks) again (ASymbol n ∷ args) (w ∷ ws) h a = ap types_named a.0
  own_none (kind.Symbol ∷ ks) again (_ ∷ args) (w ∷ ws) h a = absurd (cc)
  own_none (_ ∷ ks) again args ws h a = refl

  pub rule_arguments_back : (ks : KindsOf) (args : List ArgumentTree) (ws : List LineWord) → IsTrue (have_kinds ks.first ks.repeated args) → WriteArguments table r args ws → rule_arguments t table r ks ws ≡ Some args
  rule_arguments_back ks args ws h a =
      let p = split ks.first ks.repeated args ws h a in
      let own = own_none ks.first ks.repeated args ws h a in
      ap (λ l. option_and_then (λ first. option_map (λ rest. first ++ (l ++ rest)) (arguments t table r [] ks.repeated (drop (length ks.first) ws))) (arguments t table r ks.first [] (take (length ks.first) ws))) own
      ∙ ap₂ (λ n l. option_and_then (λ first. option_map (λ rest. first ++ rest) (arguments t table r [] ks.repeated (drop n l))) (arguments t table r ks.first [] (take n l))) p.long p.words_are
      ∙ ap₂ (λ l m. option_and_then (λ first. option_map (λ rest. first ++ rest) (arguments t table r [] ks.repeated m)) (arguments t table r ks.first [] l)) (take_front p.fs p.rs) (drop_front p.fs p.rs)
      ∙ ap (option_and_then (λ first. option_map (λ rest. first ++ rest) (arguments t table r [] ks.repeated p.rs))) p.first_back
      ∙ ap (option_map (λ rest. p.first ++ rest)) p.rest_back
      ∙ ap Some (sym p.args_are)

  -- a rule by its word and its arguments
  pub rule_back : (w : LineWord) (n : RuleName) (rule : RuleTree) (args : List ArgumentTree) (ws : List LineWord) → name_by_word w ≡ Some n → IsTrue (have_kinds (argument_kinds (rule_row n).form).first (argument_kinds (rule_row n).form).repeated args) → WriteArguments table r args ws → rule_from n args ≡ Some rule
      → rule_of_words t table r (w ∷ ws) ≡ Some rule
  rule_back w n rule args ws m h a e = ap (option_and_then (rule_named t table r ws)) m ∙ ap (option_and_then (rule_from n)) (rule_arguments_back (argument_kinds (rule_row n).form) args ws h a) ∙ e

  pub word_no_colon : (w : LineWord) (n : RuleName) → name_by_word w ≡ Some n → is_colon w ≡ false
  word_no_colon w n h = no_colon name_by_word refl w n h

  -- a step by the words of its sequent, of its rule and of its premises
  pub step_back : (sequent : List Tree) (rule : RuleTree) (premises : List ℕ) (us vs ps : List LineWord) → NoColon us → NoColon vs → each (at_number r.expressions) us ≡ Some sequent → rule_of_words t table r vs ≡ Some rule → each number ps ≡ Some premises
      → step_of_line t table r (us ++ (codes ":" ∷ (vs ++ (codes ":" ∷ ps)))) ≡ Some (step_by sequent rule premises)
  step_back sequent rule premises us vs ps nu nv hs hr hp =
      let rest = vs ++ codes ":" ∷ ps in
      ap₂ (λ o l. option_and_then (λ rest. option_and_then (λ sequent. step_ended t table r sequent rest) (each (at_number r.expressions) l)) o) (after_back us rest nu) (before_back us rest nu)
      ∙ ap (option_and_then (λ sequent. step_ended t table r sequent rest)) hs
      ∙ ap₂ (λ o l. option_and_then (λ last. option_and_then (λ rule. option_map (step_by sequent rule) (each number last)) (rule_of_words t table r l)) o) (after_back vs ps nv) (before_back vs ps nv)
      ∙ ap (option_and_then (λ rule. option_map (step_by sequent rule) (each number ps))) hr
      ∙ ap (option_map (step_by sequent rule)) hp
