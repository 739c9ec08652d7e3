-- What the public calls of the readers need: which tokens begin a tree, where they go wrong, where the longest tree ends, that
-- it is the only one, and what completes it; for files and for expressions at once.
use Rattle.grammar.proofs.reading.Common.{zero, suc, ◌≡◌, ℕ, ◌+◌, ◌≤◌, Bool, true, false, ◌&&◌, List, [], ◌∷◌, ◌++◌, Option, Some, None, map, take, length, refl, sym, ap, ◌∙◌, subst, append-nil, Terminal, kind_by, terminal_of, Symbol, run, accepts, complete, is_safe, is_tail, is_taken, no_false, begun_completes, accepted_begins, Lexeme, Word, rest, said, terminals, IsLevel, IsPlacedTree, write, write_file, IsLevelFile, PlacedFile, Val, read, AllStand, Begins, IsLeastFault, IsLongestTree, IsNone, IsOnly}
use Rattle.tokens_why.specs.declared.terminal.Terminal.TheVariants as t
use Rattle.tokens_why.specs.declared.token.Token.{Token}
use Rattle.tokens_why.proofs.KindLemmas.{terminal_of-kind_by}
use Rattle.tokens_why.specs.Tokens.{text_of}
use Rattle.grammar.specs.declared.symbols.Symbol.TheVariants as s
use Rattle.grammar.specs.Ends as ends
use Rattle.grammar.proofs.reading.TreesRead.{reads_alone}
use Rattle.grammar.proofs.reading.Good.{AllProper, Good, Is, Piece, Proper, writes}
use Rattle.grammar.proofs.reading.ValuesBuilt.{built}
use Rattle.grammar.proofs.reading.DeclsRead.{reads_file}
use Rattle.grammar.proofs.reading.Erasure.{has}
use Rattle.grammar.proofs.reading.Erases.{accepted}
use Rattle.grammar.proofs.reading.PlacedTerms.{tree_at}
use Rattle.grammar.proofs.reading.PlacedDecls.{file_at}
use Rattle.grammar.proofs.reading.Samples.{can_stand, sample, string}

-- A rule whose right trees are read from their tokens, where these begin at token i and the trees say so; and each right tree
-- can be placed there.
pub record Whole (a : Symbol) (i : ℕ) (is placed : Val a → Type 0) (write : Val a → List Lexeme) : Type 0 where
  pub reads : (v : Val a) → is v → placed v → read (write v) i false (a ∷ []) ≡ Some (v, tt)
  pub right : (v : Val a) → Is a i v → is v × placed v
  pub same : (v : Val a) → writes a v ≡ write v
  pub at : (v : Val a) → is v → (u : Val a) × is u × placed u × (write u ≡ write v)
  pub safe : is_safe (a ∷ []) None ≡ true
  pub rule : is_tail a ≡ false

pub terminals_append : (xs ys : List Lexeme) → terminals (xs ++ ys) ≡ terminals xs ++ terminals ys
terminals_append [] ys = refl
terminals_append (x ∷ xs) ys = ap (λ v. x.terminal ∷ v) (terminals_append xs ys)

pub take_terminals : (n : ℕ) (xs : List Lexeme) → terminals (take n xs) ≡ take n (terminals xs)
take_terminals zero xs = refl
take_terminals (suc n) [] = refl
take_terminals (suc n) (x ∷ xs) = ap (λ v. x.terminal ∷ v) (take_terminals n xs)

pub length_terminals : (xs : List Lexeme) → length (terminals xs) ≡ length xs
length_terminals [] = refl
length_terminals (x ∷ xs) = ap suc (length_terminals xs)

-- The tokens of a text have a text of their own only where their terminal has several.
pub proper_by : (x : Terminal) (w : Word) → Proper x (said x w)
proper_by t.Lident w = tt
proper_by t.Uident w = tt
proper_by t.TyVar w = tt
proper_by t.Int w = tt
proper_by t.Operator1 w = tt
proper_by t.Operator2 w = tt
proper_by t.Operator3 w = tt
proper_by t.Operator4 w = tt
proper_by t.PrefixOperator w = tt
proper_by _ w = refl

pub proper_rest : (text : List ℕ) (ts : List Token) (i : ℕ) → AllProper (rest text ts i)
proper_rest text ts zero = whole ts
  where
    whole : (ts : List Token) → AllProper (rest text ts 0)
    whole [] = tt
    whole (k ∷ ts) = (proper_by (terminal_of k.kind) (text_of text k), whole ts)
proper_rest text [] (suc i) = tt
proper_rest text (k ∷ ts) (suc i) = proper_rest text ts i

pub proper_take : (n : ℕ) (xs : List Lexeme) → AllProper xs → AllProper (take n xs)
proper_take zero xs h = tt
proper_take (suc n) [] h = tt
proper_take (suc n) (x ∷ xs) h = (h.0, proper_take n xs h.1)

-- tokens of given terminals
abbrev samples : List Terminal → List Lexeme
samples = map sample

samples_terminals : (xs : List Terminal) → terminals (samples xs) ≡ xs
samples_terminals [] = refl
samples_terminals (x ∷ xs) = ap (λ v. v ∷ terminals (samples xs)) (terminal_of-kind_by x) ∙ ap (λ v. x ∷ v) (samples_terminals xs)

samples_stand : (xs : List Terminal) → AllStand (samples xs)
samples_stand [] = tt
samples_stand (x ∷ xs) = (can_stand x, samples_stand xs)

proper_samples : (xs : List Lexeme) (ys : List Terminal) → AllProper xs → AllProper (xs ++ samples ys)
proper_samples [] [] h = tt
proper_samples [] (y ∷ ys) h = (proper_by (terminal_of (kind_by y)) (string y), proper_samples [] ys tt)
proper_samples (x ∷ xs) ys h = (h.0, proper_samples xs ys h.1)

proper_one : (xs : List Lexeme) (x : Lexeme) → AllProper xs → Proper x.terminal x.text → AllProper (xs ++ x ∷ [])
proper_one [] x h p = (p, tt)
proper_one (y ∷ xs) x h p = (h.0, proper_one xs x h.1 p)

some_of : {A : Type 0} → (o : Option A) → has o ≡ true → (v : A) × (o ≡ Some v)
some_of None h = absurd (no_false h)
some_of (Some v) h = (v, refl)

stack_of : (o : Option (List Symbol)) → is_taken o ≡ true → (j : List Symbol) × (o ≡ Some j)
stack_of None h = absurd (no_false h)
stack_of (Some j) h = (j, refl)

no_stack : (l : List Symbol) → ◌≡◌ {A = Option (List Symbol)} None (Some l) → ⊥
no_stack l e = cc

abbrev pub value_or : (a : Symbol) → Val a → Option (Val a × Unit {0}) → Val a
value_or a v None = v
value_or a v (Some u) = u.0

module _ (a : Symbol) (i : ℕ) (is placed : Val a → Type 0) (write : Val a → List Lexeme) (w : Whole a i is placed write) where
  -- a right tree's tokens are accepted
  pub tree_accepted : (v : Val a) → is v → accepts (a ∷ []) (terminals (write v)) ≡ true
  tree_accepted v m = let u = w.at v m in ap (λ xs. accepts (a ∷ []) (terminals xs)) (sym u.3) ∙ sym (accepted (write u.0) i (a ∷ [])) ∙ ap has (w.reads u.0 u.1 u.2)

  -- what is accepted is read
  pub read_accepted : (xs : List Lexeme) → accepts (a ∷ []) (terminals xs) ≡ true → (v : Val a) × (read xs i false (a ∷ []) ≡ Some (v, tt))
  read_accepted xs h = let r = some_of (read xs i false (a ∷ [])) (accepted xs i (a ∷ []) ∙ h) in (r.0.0, r.1)

  -- What is read is the one right tree of the tokens.
  pub only_read : (xs : List Lexeme) (v : Val a) → AllProper xs → read xs i false (a ∷ []) ≡ Some (v, tt) → IsOnly is placed write xs v
  only_read xs v p r = let g : Piece false a (λ c j ys. Good c [] j ys tt) i xs v = subst (λ b. Piece (b && false) a (λ c j ys. Good c [] j ys tt) i xs v) w.rule (built xs i false (a ∷ []) (v, tt) p r) in
      let m = w.right v g.1 in
      record {
        of = record { right = m.0; tokens = sym (g.2 ∙ ap (λ q. writes a v ++ q) g.3 ∙ append-nil (writes a v) ∙ w.same v) };
        placed = m.1;
        only = λ u m q. ap (value_or a u) (sym (w.reads u m.right q) ∙ ap (λ ys. read ys i false (a ∷ [])) m.tokens ∙ r);
      }

  -- What is not accepted are the tokens of none.
  pub none_accepted : (xs : List Lexeme) → accepts (a ∷ []) (terminals xs) ≡ false → IsNone is write xs
  none_accepted xs h v m = let q : true ≡ false = sym (tree_accepted v m.right) ∙ ap (λ u. accepts (a ∷ []) (terminals u)) m.tokens ∙ h in no_false (sym q)

  -- Tokens begin a tree's where the stack takes them, and nowhere else.
  pub taken_begins : (xs : List Lexeme) (j : List Symbol) → AllProper xs → run (a ∷ []) (terminals xs) ≡ Some j → Begins is write xs
  taken_begins xs j p h = let r = read_accepted (xs ++ samples (complete j)) (ap (accepts (a ∷ [])) (terminals_append xs (samples (complete j)) ∙ ap (λ v. terminals xs ++ v) (samples_terminals (complete j))) ∙ begun_completes (a ∷ []) j (terminals xs) w.safe h) in
      record { tree = r.0; following = samples (complete j); stand = samples_stand (complete j); of = (only_read (xs ++ samples (complete j)) r.0 (proper_samples xs (complete j) p) r.1).of }

  pub begins_taken : (xs : List Lexeme) → Begins is write xs → (j : List Symbol) × (run (a ∷ []) (terminals xs) ≡ Some j)
  begins_taken xs b = accepted_begins (a ∷ []) (terminals xs) (terminals b.following) (ap (accepts (a ∷ [])) (sym (ap terminals b.of.tokens ∙ terminals_append xs b.following)) ∙ tree_accepted b.tree b.of.right)

  begins_not : (xs : List Lexeme) → run (a ∷ []) (terminals xs) ≡ None → Begins is write xs → ⊥
  begins_not xs h b = let u = begins_taken xs b in no_stack u.0 (sym h ∙ u.1)

  -- The place of a fault is that of the first token that the stack doesn't take, or the end.
  pub least_fault : (xs : List Lexeme) (other : Terminal) (n : ℕ) (b : Bool) → AllProper xs → ends.IsFault (a ∷ []) (terminals xs) other n b → IsLeastFault is write xs n
  least_fault xs other n b p h = record {
    high = subst (λ m. n ≤ m) (length_terminals xs) h.takes.within;
    none = none_accepted xs h.none;
    begins = taken_begins (take n xs) h.takes.stack (proper_take n xs p) (ap (run (a ∷ [])) (take_terminals n xs) ∙ h.takes.taken);
    stops = λ l. begins_not (take (n + 1) xs) (ap (run (a ∷ [])) (take_terminals (n + 1) xs) ∙ h.takes.stuck (rw (length_terminals xs) l));
  }

  -- Whether one more token may be at that place, as `scope` for a program's word.
  pub may_stand : (xs : List Lexeme) (other : Lexeme) (n : ℕ) (b : Bool) → AllProper xs → Proper other.terminal other.text → ends.IsFault (a ∷ []) (terminals xs) other.terminal n b → b ≡ true → Begins is write (take n xs ++ other ∷ [])
  may_stand xs other n b p q h e = let j = stack_of (run (a ∷ []) (take n (terminals xs) ++ other.terminal ∷ [])) (sym h.other_stands ∙ e) in
      taken_begins (take n xs ++ other ∷ []) j.0 (proper_one (take n xs) other (proper_take n xs p) q) (ap (run (a ∷ [])) (terminals_append (take n xs) (other ∷ []) ∙ ap (λ v. v ++ other.terminal ∷ []) (take_terminals n xs)) ∙ j.1)

  pub may_not_stand : (xs : List Lexeme) (other : Lexeme) (n : ℕ) (b : Bool) → ends.IsFault (a ∷ []) (terminals xs) other.terminal n b → b ≡ false → Begins is write (take n xs ++ other ∷ []) → ⊥
  may_not_stand xs other n b h e g = let u = begins_taken (take n xs ++ other ∷ []) g in
      let q : true ≡ false = ap is_taken (sym (sym (ap (run (a ∷ [])) (terminals_append (take n xs) (other ∷ []) ∙ ap (λ v. v ++ other.terminal ∷ []) (take_terminals n xs))) ∙ u.1)) ∙ sym h.other_stands ∙ e in no_false (sym q)

  not_taken : (xs : List Lexeme) (n m : ℕ) → n ≡ length xs → ((k : ℕ) → k ≤ n → accepts (a ∷ []) (take k (terminals xs)) ≡ false) → m ≤ length xs → IsNone is write (take m xs)
  not_taken xs n m e h l = none_accepted (take m xs) (ap (accepts (a ∷ [])) (take_terminals m xs) ∙ h m (subst (λ k. m ≤ k) (sym e) l))

  -- The longest tree ends where the stack may end for the last time.
  pub longest_read : (xs : List Lexeme) (n : ℕ) → AllProper xs → ends.IsLongest (a ∷ []) (terminals xs) (length (terminals xs)) (Some n) → (v : Val a) × (read (take n xs) i false (a ∷ []) ≡ Some (v, tt)) × IsLongestTree is placed write xs v n
  longest_read xs n p h = let r = read_accepted (take n xs) (ap (accepts (a ∷ [])) (take_terminals n xs) ∙ h.1) in (
    r.0,
    r.1,
    record {
      high = subst (λ m. n ≤ m) (length_terminals xs) h.0;
      only = only_read (take n xs) r.0 (proper_take n xs p) r.1;
      longest = λ m l o. none_accepted (take m xs) (ap (accepts (a ∷ [])) (take_terminals m xs) ∙ h.2 m l (subst (λ k. m ≤ k) (sym (length_terminals xs)) o));
    },
  )

  -- and no tree is there where it never may end
  pub none_read : (xs : List Lexeme) → ends.IsLongest (a ∷ []) (terminals xs) (length (terminals xs)) None → (m : ℕ) → m ≤ length xs → IsNone is write (take m xs)
  none_read xs h m l = not_taken xs (length (terminals xs)) m (length_terminals xs) h l

-- It holds of files and of expressions.
pub whole_file : (i : ℕ) → Whole s.File i IsLevelFile (PlacedFile i) write_file
whole_file i = record { reads = λ v m p. reads_file v i m p; right = λ v m. m; same = λ v. refl; at = λ v m. (let u = file_at i v m in (u.value, u.right, u.placed, u.tokens)); safe = refl; rule = refl }

pub whole_expr : (i : ℕ) → Whole (s.Expr 0) i IsLevel (IsPlacedTree i) write
whole_expr i = record { reads = λ v m p. reads_alone v i m p; right = λ v m. (m.0, m.1); same = λ v. refl; at = λ v m. (let u = tree_at i v m in (u.tree, u.right, u.placed, u.tokens)); safe = refl; rule = refl }
