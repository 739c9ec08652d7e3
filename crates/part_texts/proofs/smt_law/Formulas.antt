-- A term or formula is printed as an S-expression, of which a reader makes it again.
use Rattle.std.proofs.Common.{◌≡◌, ℕ, zero, suc, ◌+◌, ◌-◌, ◌<◌, ◌^◌, true, false, if◌then◌else◌, List, [], ◌∷◌, ◌++◌, length, map, get_or, slice_get, codes, Option, Some, None, option_map, bytes_eq, refl, sym, ap, subst, ◌∙◌, arith, inl, inr, ◌⊎◌}
use Rattle.std.specs.Fmt.{decimal, signed_decimal}
use Rattle.std.specs.Str.Parse.{digits_value}
use Rattle.std.proofs.lemmas.List.{length-map}
use Rattle.std.proofs.lemmas.Option.{get_or_from_slice_get, slice_get_within}
use Rattle.tasks.specs.trees.declared.Op.{Op}
use Rattle.tasks.specs.trees.declared.Op.TheVariants.{And, AndThen, Or, OrElse, Imp, Iff}
use Rattle.tasks.specs.trees.declared.Sort.{Sort}
use Rattle.tasks.specs.trees.declared.Sort.TheVariants.{Kind, Term, Formula, Pattern, Branch}
use Rattle.tasks.specs.trees.declared.Sort.TheVariants as sorts
use Rattle.tasks.specs.trees.Tree.{Tree, Leaf, One, Two, Three, Head, HEnd, HCell, HBound, HParam, HNum, HFun, HPred, HEq, HTrue, HFalse, HNot, HJoin, HForall, HExists, HLet, HIf, HCase, HArm, HPatAny, HPatVar, HPatCon, HPatAlias}
use Rattle.tasks.specs.trees.Sorts.{yield, sort_of, type_of, IsExpression, IsList}
use Rattle.tasks.proofs.trees.Types.{expression_yield}
use Rattle.tasks.specs.declared.signature.SymbolKind.TheVariants as kinds
use Rattle.tasks.specs.Task.{symbol_or}
use Rattle.tasks.specs.Typing.{members, option_list, bound_types, IsUse, HasResult, MakesTerms}
use Rattle.tasks.specs.Equations.{cells}
use Rattle.tasks.proofs.Closing.{typed_sorted}
use Rattle.printed_problems.specs.drivers.declared.driver_items.kinds.Syntax.{Syntax}
use Rattle.printed_problems.specs.drivers.declared.driver_items.kinds.Syntax.TheVariants.{Smt}
use Rattle.name_tables.specs.Occurrences.{occurrence, in_type, in_types_of, occurrences, of_two}
use Rattle.name_tables.specs.Tables.{thing_of}
use Rattle.printed_problems.specs.Problems.{is_kind}
use Rattle.printed_problems.specs.printed_terms.Words.{truth_text}
use Rattle.printed_problems.specs.declared.printed_terms.words.Form.TheVariants.{Negation, Connected, Conditional}
use Rattle.printed_problems.specs.declared.printed_terms.words.Binder.TheVariants.{ForAll, ThereIs, LetIn}
use Rattle.printed_problems.specs.printed_terms.Texts.{symbol_text, equality_text, form_text, bound_text, variable_text, parameter, leaf_text, one_text, two_text, three_text, printed, depth_under}
use Rattle.printed_problems.proofs.printed_terms.Members.{printed_members}
use Rattle.part_texts.specs.smt_law.s_expressions.Sexps.{Sexp, SexpWord, Group, Nothing, Then, IsWord, IsOne, IsProperList}
use Rattle.part_texts.specs.smt_law.Plain.{arity}
use Rattle.part_texts.specs.smt_law.Reading.{read_op, tree_as_read}
use Rattle.part_texts.proofs.smt_law.Forms.{Known, called, two_called, word_of, bound_read, op_word, leaf_read, one_read, two_read, three_read, read}
use Rattle.part_texts.proofs.smt_law.Back.{is_formula_sort, is_formula, equation, word_tree, group_tree, back}
use Rattle.part_texts.proofs.smt_law.Words.{number_word, variable_word, parameter_word, decimal_value, free_role}
use Rattle.part_texts.proofs.smt_law.Kept.{sort_kept, type_kept}
use Rattle.part_texts.proofs.smt_law.Found.{IsReader, IsThere, IsSort, sort_is, entry_has, in_first, in_rest, equality_free}
use Rattle.part_texts.proofs.smt_law.Texts.{Writes, texts_of, symbol_is, equality_is, negation_is, connected_is, conditional_is, bound_is}
use Rattle.part_texts.proofs.smt_law.Inputs.{Input, input_one, input_left, input_right, input_first, input_second, input_third}
use Rattle.part_texts.proofs.smt_law.Symbols.{IsUsed, used_by, term_no_type, symbol_proper, predicate_back, function_back}
use Rattle.std.proofs.lemmas.Bool.{or_right}
use Rattle.tasks.proofs.plain_laws.Lists.{bytes_same as its_word}

-- ---- sorts
kind_no : {X : Type 0} → IsExpression Kind → X
kind_no (inl e) = absurd (cc)
kind_no (inr e) = absurd (cc)

list_no : {X : Type 0} → IsExpression sorts.List → X
list_no (inl e) = absurd (cc)
list_no (inr e) = absurd (cc)

branch_no : {X : Type 0} → IsExpression Branch → X
branch_no (inl e) = absurd (cc)
branch_no (inr e) = absurd (cc)

pattern_no : {X : Type 0} → IsExpression Pattern → X
pattern_no (inl e) = absurd (cc)
pattern_no (inr e) = absurd (cc)

no_list : (s : Sort) → IsExpression s → s ≡ sorts.List → ⊥
no_list s x e = list_no (subst IsExpression e x)

first_term : (s : Sort) → (Some s ≡ None) ⊎ (Some s ≡ Some Term) → s ≡ Term
first_term s (inl e) = absurd (cc)
first_term s (inr e) = cc

-- ---- what is told of each
pub record IsRead (c : Known) (types : List Tree) (e : Tree) (s : Sexp) : Type 0 where
  pub proper : IsOne s
  pub back : (back c s).one (map tree_as_read types) ≡ tree_as_read e

pub record AreRead (c : Known) (types : List Tree) (e : Tree) (s : Sexp) : Type 0 where
  pub proper : IsProperList s
  pub back : cells ((back c s).list (map tree_as_read types)) ≡ tree_as_read e

pub record Told (c : Known) (d : ℕ) (types : List Tree) (e : Tree) : Type 0 where
  pub text : Writes (printed c.printing d e) (read c d e)
  pub one : IsExpression (sort_of e) → IsRead c types e (read c d e).one
  pub list : IsList Term e → AreRead c types e (read c d e).members

module _ (c : Known) (r : IsReader c) (d : ℕ) (types : List Tree) where
  abbrev bound : List Tree
  bound = map tree_as_read types

  -- ---- leaves
  leaf_writes : (h : Head) → Writes (leaf_text c.printing h) (leaf_read h)
  leaf_writes HTrue = record { text = ap (λ (x : Syntax). truth_text x true) r.smt; members = refl }
  leaf_writes HFalse = record { text = ap (λ (x : Syntax). truth_text x false) r.smt; members = refl }
  leaf_writes (HNum z) = record { text = refl; members = refl }
  leaf_writes _ = record { text = refl; members = refl }

  leaf_one : (h : Head) → Input c d types (Leaf h) → IsExpression (sort_of (Leaf h)) → IsRead c types (Leaf h) (leaf_read h).one
  leaf_one HTrue i x = record { proper = record { some = omega arith; whole = refl }; back = refl }
  leaf_one HFalse i x = record { proper = record { some = omega arith; whole = refl }; back = refl }
  leaf_one (HNum z) i x =
      let n = number_word z i.literals in
      record { proper = n.proper; back = ap (word_tree c (signed_decimal z) bound) n.told ∙ ap (λ v. Leaf (HNum v)) n.value }
  leaf_one HEnd i x = list_no x
  leaf_one HCell i x = list_no x
  leaf_one HArm i x = branch_no x
  leaf_one _ i x = kind_no x

  leaf_list : (h : Head) → Input c d types (Leaf h) → IsList Term (Leaf h) → AreRead c types (Leaf h) (leaf_read h).members
  leaf_list HEnd i l = record { proper = tt; back = refl }
  leaf_list HCell i l = absurd i.typed.0
  leaf_list (HNum z) i l = let e = l.0 in absurd (cc)
  leaf_list _ i l = let e = l.0 in absurd (cc)

  leaf_told : (h : Head) → Input c d types (Leaf h) → Told c d types (Leaf h)
  leaf_told h i = record { text = leaf_writes h; one = leaf_one h i; list = leaf_list h i }

  -- ---- one child
  one_writes : (h : Head) (a : Tree) → Writes (printed c.printing d a) (read c d a) → Writes (one_text c.printing d h (printed c.printing d a)) (one_read d h (read c d a))
  one_writes (HBound k) a t = record { text = ap (λ (x : Syntax). variable_text x (d - suc k)) r.smt; members = refl }
  one_writes (HParam n) a t = record { text = refl; members = refl }
  one_writes HNot a t = record { text = (λ j. form_text (r.smt j) Negation (t.text j ∷ [])) ∙ negation_is (read c d a).one; members = refl }
  one_writes _ a t = record { text = refl; members = refl }

  type_read : (ts : List Tree) (k : ℕ) (a : Tree) → slice_get ts k ≡ Some a → get_or (map tree_as_read ts) k (Leaf HEnd) ≡ tree_as_read a
  type_read [] k a e = absurd (cc)
  type_read (t ∷ ts) zero a e = let s : t ≡ a = cc in ap tree_as_read s
  type_read (t ∷ ts) (suc k) a e = type_read ts k a e

  variable_is : (k : ℕ) (a : Tree) → slice_get types k ≡ Some a → d ≡ length types → d < 2 ^ 64 → IsRead c types (One (HBound k) a) (SexpWord (variable_text Smt (d - suc k)))
  variable_is k a e depth low =
      let within = slice_get_within types k a e in
      let n : ℕ = d - suc k in
      let w = variable_word n (omega arith) in
      let v = decimal_value n (omega arith) in
      let many : length bound ≡ d = length-map types tree_as_read ∙ sym depth in
      let place : length bound - suc (digits_value 10 (decimal n)) ≡ k = omega (arith, many, v, within, depth) in
      record {
        proper = w.proper;
        back = ap (word_tree c (variable_text Smt n) bound) w.told ∙ (λ j. One (HBound (place j)) (get_or bound (place j) (Leaf HEnd))) ∙ ap (One (HBound k)) (type_read types k a e);
      }

  parameter_is : (n : ℕ) (a : Tree) → slice_get c.params n ≡ Some a → IsRead c types (One (HParam n) a) (SexpWord (parameter n))
  parameter_is n a e =
      let within = slice_get_within c.params n a e in
      let few = r.params in
      let w = parameter_word n (omega arith) in
      let v = decimal_value n (omega arith) in
      record {
        proper = w.proper;
        back = ap (word_tree c (parameter n) bound) w.told ∙ (λ j. One (HParam (v j)) (tree_as_read (get_or c.params (v j) (Leaf HEnd)))) ∙ ap (λ z. One (HParam n) (tree_as_read z)) (get_or_from_slice_get c.params n a (Leaf HEnd) e);
      }

  one_one : (h : Head) (a : Tree) → Input c d types (One h a) → Told c d types a → IsExpression (sort_of (One h a)) → IsRead c types (One h a) (one_read d h (read c d a)).one
  one_one (HBound k) a i t x = variable_is k a i.typed.1 i.depth (let l = i.low in omega (arith, l))
  one_one (HParam n) a i t x = parameter_is n a i.parameters.0
  one_one HNot a i t x =
      let s = t.one (inr i.typed.0) in
      record { proper = (record { some = omega arith; whole = refl }, (s.proper, tt)); back = ap (One HNot) s.back }
  one_one HEnd a i t x = list_no x
  one_one HCell a i t x = list_no x
  one_one HArm a i t x = branch_no x
  one_one HPatAny a i t x = pattern_no x
  one_one HPatVar a i t x = pattern_no x
  one_one HPatAlias a i t x = pattern_no x
  one_one _ a i t x = kind_no x

  one_list : (h : Head) (a : Tree) → Input c d types (One h a) → IsList Term (One h a) → AreRead c types (One h a) (one_read d h (read c d a)).members
  one_list HEnd a i l = absurd i.typed.0
  one_list HCell a i l = absurd i.typed.0
  one_list _ a i l = let e = l.0 in absurd (cc)

  one_told : (h : Head) (a : Tree) → Input c d types (One h a) → Told c d types a → Told c d types (One h a)
  one_told h a i t = record { text = one_writes h a t.text; one = one_one h a i t; list = one_list h a i }

  -- ---- symbols
  predicate_used : (k : ℕ) (ts args : Tree) → Input c d types (Two (HPred k) ts args) → ((symbol_or c.vocabulary.symbols k).kind ≡ kinds.Predicate) × IsUse (symbol_or c.vocabulary.symbols k) ts args
  predicate_used k ts args i = entry_has c.vocabulary.symbols k (λ e. (e.kind ≡ kinds.Predicate) × IsUse e ts args) i.typed.1.1

  predicate_is_used : (k : ℕ) (ts args : Tree) → Input c d types (Two (HPred k) ts args) → IsUsed c k ts args
  predicate_is_used k ts args i = let u = predicate_used k ts args i in used_by c k ts args (ap is_kind u.0) u.1

  function_used : (k : ℕ) (ts args type : Tree) → Input c d types (Three (HFun k) ts args type) → MakesTerms (symbol_or c.vocabulary.symbols k).kind × IsUse (symbol_or c.vocabulary.symbols k) ts args × HasResult (symbol_or c.vocabulary.symbols k) ts type
  function_used k ts args type i = entry_has c.vocabulary.symbols k (λ e. MakesTerms e.kind × IsUse e ts args × HasResult e ts type) i.typed.1.1

  function_is_used : (k : ℕ) (ts args type : Tree) → Input c d types (Three (HFun k) ts args type) → IsUsed c k ts args
  function_is_used k ts args type i = let u = function_used k ts args type i in used_by c k ts args (term_no_type (symbol_or c.vocabulary.symbols k).kind u.0) u.1

  symbol_writes : (k : ℕ) (ts args : Tree) → IsUsed c k ts args → Writes (printed c.printing d args) (read c d args)
      → symbol_text c.printing (occurrence k ts) (printed c.printing d args).members ≡ Rattle.part_texts.specs.smt_law.s_expressions.Sexps.write_sexp (called (word_of c (occurrence k ts)) (read c d args).members)
  symbol_writes k ts args u t =
      let n : length (texts_of (read c d args).members) ≡ arity c.vocabulary.symbols k =
      ap length (sym t.members) ∙ ap length (printed_members c.printing d args) ∙ length-map (members args) (λ e. (printed c.printing d e).text) ∙ u.fit in
      ap (symbol_text c.printing (occurrence k ts)) t.members ∙ symbol_is c r (occurrence k ts) (read c d args).members (λ _. n)

  predicate_there : (k : ℕ) (ts args : Tree) → Input c d types (Two (HPred k) ts args) → IsThere c (occurrence k ts)
  predicate_there k ts args i =
      let own = in_first c.printing.things (of_two (HPred k) ts args) (occurrences ts ++ occurrences args) i.there in
      (in_rest c.printing.things (in_type ts) (occurrence k ts ∷ []) (in_rest c.printing.things (in_types_of args) (in_type ts ++ occurrence k ts ∷ []) own)).0

  function_there : (k : ℕ) (ts args type : Tree) → Input c d types (Three (HFun k) ts args type) → IsThere c (occurrence k ts)
  function_there k ts args type i =
      let own = in_first c.printing.things (in_types_of args ++ (in_type type ++ (in_type ts ++ occurrence k ts ∷ []))) (occurrences ts ++ (occurrences args ++ occurrences type)) i.there in
      (in_rest c.printing.things (in_type ts) (occurrence k ts ∷ []) (in_rest c.printing.things (in_type type) (in_type ts ++ occurrence k ts ∷ []) (in_rest c.printing.things (in_types_of args) (in_type type ++ (in_type ts ++ occurrence k ts ∷ [])) own))).0

  -- ---- two children
  sort_of_type : (h : Head) (a b : Tree) → sort_of a ≡ Kind → of_two h a b ≡ in_type a → Input c d types (Two h a b) → IsSort c r a
  sort_of_type h a b k e i =
      let own = in_first c.printing.things (of_two h a b) (occurrences a ++ occurrences b) i.there in
      let left = input_left c d types h a b i in
      sort_is c r types a left.typed k left.ground (subst (λ z. Rattle.name_tables.specs.Seen.AreIn c.printing.things z) e own)

  two_writes : (h : Head) (a b : Tree) → Input c d types (Two h a b) → Writes (printed c.printing d a) (read c d a) → Writes (printed c.printing (depth_under h d) b) (read c (depth_under h d) b)
      → Writes (two_text c.printing d h a (printed c.printing d a) (printed c.printing (depth_under h d) b)) (two_read c d h a (read c d a) (read c (depth_under h d) b))
  two_writes HCell a b i s t = record { text = refl; members = (λ j. s.text j ∷ t.members j) }
  two_writes (HPred k) a b i s t = record { text = symbol_writes k a b (predicate_is_used k a b i) t; members = refl }
  two_writes HEq a b i s t = record { text = (λ j. equality_text c.printing.driver (s.text j ∷ t.text j ∷ [])) ∙ equality_is c r (read c d a).one (read c d b).one; members = refl }
  two_writes (HJoin op) a b i s t = record { text = (λ j. form_text (r.smt j) (Connected op) (s.text j ∷ t.text j ∷ [])) ∙ connected_is op (read c d a).one (read c d b).one; members = refl }
  two_writes HForall a b i s t =
      let k = sort_of_type HForall a b i.typed.0.0.0 refl i in
      record { text = (λ j. bound_text (r.smt j) ForAll d (k.text j) (t.text j)) ∙ bound_is ForAll d (SexpWord (word_of c (thing_of a))) (read c (d + 1) b).one; members = refl }
  two_writes HExists a b i s t =
      let k = sort_of_type HExists a b i.typed.0.0.0 refl i in
      record { text = (λ j. bound_text (r.smt j) ThereIs d (k.text j) (t.text j)) ∙ bound_is ThereIs d (SexpWord (word_of c (thing_of a))) (read c (d + 1) b).one; members = refl }
  two_writes HLet a b i s t = record { text = (λ j. bound_text (r.smt j) LetIn d (s.text j) (t.text j)) ∙ bound_is LetIn d (read c d a).one (read c (d + 1) b).one; members = refl }
  two_writes _ a b i s t = record { text = refl; members = refl }

  -- ---- what a reader makes of forms
  connected_back : (op : Op) (s u : Sexp) (x y : Tree) → (back c s).one bound ≡ x → (back c u).one bound ≡ y → is_formula x ≡ true → (back c (two_called (op_word op) s u)).one bound ≡ Two (HJoin (read_op op)) x y
  connected_back And s u x y p q f = λ j. Two (HJoin And) (p j) (q j)
  connected_back AndThen s u x y p q f = λ j. Two (HJoin And) (p j) (q j)
  connected_back Or s u x y p q f = λ j. Two (HJoin Or) (p j) (q j)
  connected_back OrElse s u x y p q f = λ j. Two (HJoin Or) (p j) (q j)
  connected_back Imp s u x y p q f = λ j. Two (HJoin Imp) (p j) (q j)
  connected_back Iff s u x y p q f = (λ j. equation (p j) (q j)) ∙ ap (λ b. if b then Two (HJoin Iff) x y else Two HEq x y) f

  word_proper : (op : Op) → IsWord (op_word op)
  word_proper And = record { some = omega arith; whole = refl }
  word_proper AndThen = record { some = omega arith; whole = refl }
  word_proper Or = record { some = omega arith; whole = refl }
  word_proper OrElse = record { some = omega arith; whole = refl }
  word_proper Imp = record { some = omega arith; whole = refl }
  word_proper Iff = record { some = omega arith; whole = refl }

  formula_kept : (a : Tree) → sort_of a ≡ Formula → is_formula (tree_as_read a) ≡ true
  formula_kept a e = ap is_formula_sort (sort_kept a ∙ e)

  term_kept : (a : Tree) → sort_of a ≡ Term → is_formula (tree_as_read a) ≡ false
  term_kept a e = ap is_formula_sort (sort_kept a ∙ e)

  equality_back : (s u : Sexp) (x y : Tree) → (back c s).one bound ≡ x → (back c u).one bound ≡ y → is_formula x ≡ false → (back c (two_called c.words.of_equality s u)).one bound ≡ Two HEq x y
  equality_back s u x y p q f =
      let w = c.words.of_equality in
      let whole = Then (SexpWord w) (Then s (Then u Nothing)) in
      ap (group_tree c w whole bound (back c whole).list) (free_role w (equality_free c r))
      ∙ ap (λ b. if b then equation ((back c s).one bound) ((back c u).one bound) else Rattle.part_texts.proofs.smt_law.Back.symbol_tree c w ((back c s).one bound ∷ (back c u).one bound ∷ [])) (or_right (bytes_eq w (codes "=")) (bytes_eq w w) (its_word w))
      ∙ (λ j. equation (p j) (q j)) ∙ ap (λ b. if b then Two (HJoin Iff) x y else Two HEq x y) f

  -- the variable of a binder here
  binder_word : d < 2 ^ 64 → IsWord (variable_text Smt d)
  binder_word low = (variable_word d (omega arith)).proper

  list_read : (t : Option Tree) → option_list (option_map tree_as_read t) ++ map tree_as_read types ≡ map tree_as_read (option_list t ++ types)
  list_read None = refl
  list_read (Some t) = refl

  let_back : (value body : Sexp) (a : Tree) → d < 2 ^ 64 → (back c value).one bound ≡ tree_as_read a → (back c (bound_read (codes "let") d value body)).one bound ≡ Two HLet (tree_as_read a) ((back c body).one (map tree_as_read (option_list (type_of a) ++ types)))
  let_back value body a low p =
      let x = variable_text Smt d in
      let binding = Then (SexpWord x) (Then value Nothing) in
      let told : (back c (Group binding)).one bound ≡ tree_as_read a = ap (group_tree c x binding bound (back c binding).list) (variable_word d (omega arith)).told ∙ p in
      (λ j. Two HLet (told j) ((back c body).one (option_list (type_of (told j)) ++ bound)))
      ∙ ap (λ z. Two HLet (tree_as_read a) ((back c body).one z)) (ap (λ t. option_list t ++ bound) (type_kept a) ∙ list_read (type_of a))

  two_one : (h : Head) (a b : Tree) → Input c d types (Two h a b) → Told c d types a → Told c (depth_under h d) (bound_types h a ++ types) b → IsExpression (sort_of (Two h a b))
      → IsRead c types (Two h a b) (two_read c d h a (read c d a) (read c (depth_under h d) b)).one
  two_one HCell a b i s t x = list_no x
  two_one (HPred k) a b i s t x =
      let u = predicate_used k a b i in
      let there = predicate_there k a b i in
      let usage = predicate_is_used k a b i in
      let sorted = typed_sorted c.vocabulary types a i.typed.2 in
      let args = t.list i.typed.0.0.1 in
      record {
        proper = symbol_proper c r k a b there usage sorted i.typed.0.0.0 (read c d b).members args.proper;
        back = predicate_back c r k a b there usage sorted i.typed.0.0.0 (read c d b).members bound args.proper args.back u.0;
      }
  two_one HEq a b i s t x =
      let p = s.one (inl i.typed.0.0.0) in
      let q = t.one (inl i.typed.0.0.1) in
      record { proper = ((equality_free c r).proper, (p.proper, (q.proper, tt))); back = equality_back (read c d a).one (read c d b).one (tree_as_read a) (tree_as_read b) p.back q.back (term_kept a i.typed.0.0.0) }
  two_one (HJoin op) a b i s t x =
      let p = s.one (inr i.typed.0.0.0) in
      let q = t.one (inr i.typed.0.0.1) in
      record { proper = (word_proper op, (p.proper, (q.proper, tt))); back = connected_back op (read c d a).one (read c d b).one (tree_as_read a) (tree_as_read b) p.back q.back (formula_kept a i.typed.0.0.0) }
  two_one HForall a b i s t x =
      let k = sort_of_type HForall a b i.typed.0.0.0 refl i in
      let q = t.one (inr i.typed.0.0.1) in
      let low = i.low in
      record {
        proper = (record { some = omega arith; whole = refl }, (((binder_word (omega arith), (k.free.proper, tt)), tt), (q.proper, tt)));
        back = (λ j. Two HForall (tree_as_read (k.told j)) ((back c (read c (d + 1) b).one).one (tree_as_read (k.told j) ∷ bound))) ∙ ap (Two HForall (tree_as_read a)) q.back;
      }
  two_one HExists a b i s t x =
      let k = sort_of_type HExists a b i.typed.0.0.0 refl i in
      let q = t.one (inr i.typed.0.0.1) in
      let low = i.low in
      record {
        proper = (record { some = omega arith; whole = refl }, (((binder_word (omega arith), (k.free.proper, tt)), tt), (q.proper, tt)));
        back = (λ j. Two HExists (tree_as_read (k.told j)) ((back c (read c (d + 1) b).one).one (tree_as_read (k.told j) ∷ bound))) ∙ ap (Two HExists (tree_as_read a)) q.back;
      }
  two_one HLet a b i s t x =
      let p = s.one (inl i.typed.0.0.0) in
      let q = t.one i.typed.0.0.1 in
      let low = i.low in
      record {
        proper = (record { some = omega arith; whole = refl }, (((binder_word (omega arith), (p.proper, tt)), tt), (q.proper, tt)));
        back = let_back (read c d a).one (read c (d + 1) b).one a (omega arith) p.back ∙ ap (Two HLet (tree_as_read a)) q.back;
      }
  two_one HCase a b i s t x = let f = i.forms in absurd (cc)
  two_one HArm a b i s t x = branch_no x
  two_one _ a b i s t x = absurd i.typed.0.0

  two_list : (h : Head) (a b : Tree) → Input c d types (Two h a b) → Told c d types a → Told c (depth_under h d) (bound_types h a ++ types) b → IsList Term (Two h a b)
      → AreRead c types (Two h a b) (two_read c d h a (read c d a) (read c (depth_under h d) b)).members
  two_list HCell a b i s t l =
      let k = first_term (sort_of a) l.1 in
      let p = s.one (inl k) in
      let q = t.list (subst (λ z. IsList z b) k i.typed.0.0.1) in
      record { proper = (p.proper, q.proper); back = (λ j. Two HCell (p.back j) (q.back j)) }
  two_list HLet a b i s t l = absurd (no_list (yield b) (expression_yield b i.typed.0.0.1) l.0)
  two_list HCase a b i s t l = let f = i.forms in absurd (cc)
  two_list (HPred k) a b i s t l = let e = l.0 in absurd (cc)
  two_list HEq a b i s t l = let e = l.0 in absurd (cc)
  two_list (HJoin op) a b i s t l = let e = l.0 in absurd (cc)
  two_list HForall a b i s t l = let e = l.0 in absurd (cc)
  two_list HExists a b i s t l = let e = l.0 in absurd (cc)
  two_list HArm a b i s t l = let e = l.0 in absurd (cc)
  two_list _ a b i s t l = absurd i.typed.0.0

  two_told : (h : Head) (a b : Tree) → Input c d types (Two h a b) → Told c d types a → Told c (depth_under h d) (bound_types h a ++ types) b → Told c d types (Two h a b)
  two_told h a b i s t = record { text = two_writes h a b i s.text t.text; one = two_one h a b i s t; list = two_list h a b i s t }

  -- an arm of a match is no expression and no list
  arm_list : (a b : Tree) → IsList Term (Two HArm a b) → AreRead c types (Two HArm a b) Nothing
  arm_list a b l = let e = l.0 in absurd (cc)

  arm_told : (a b : Tree) → Told c d types (Two HArm a b)
  arm_told a b = record { text = record { text = refl; members = refl }; one = (λ x. branch_no x); list = arm_list a b }

  -- ---- three children
  three_writes : (h : Head) (x y z : Tree) → Input c d types (Three h x y z) → Writes (printed c.printing d x) (read c d x) → Writes (printed c.printing d y) (read c d y) → Writes (printed c.printing d z) (read c d z)
      → Writes (three_text c.printing h x (printed c.printing d x) (printed c.printing d y) (printed c.printing d z)) (three_read c h x (read c d x) (read c d y) (read c d z))
  three_writes (HFun k) x y z i p q s = record { text = symbol_writes k x y (function_is_used k x y z i) q; members = refl }
  three_writes HIf x y z i p q s = record { text = (λ j. form_text (r.smt j) Conditional (p.text j ∷ q.text j ∷ s.text j ∷ [])) ∙ conditional_is (read c d x).one (read c d y).one (read c d z).one; members = refl }
  three_writes _ x y z i p q s = record { text = refl; members = refl }

  three_one : (h : Head) (x y z : Tree) → Input c d types (Three h x y z) → Told c d types x → Told c d types y → Told c d types z → IsExpression (sort_of (Three h x y z))
      → IsRead c types (Three h x y z) (three_read c h x (read c d x) (read c d y) (read c d z)).one
  three_one (HFun k) x y z i p q s e =
      let u = function_used k x y z i in
      let there = function_there k x y z i in
      let usage = function_is_used k x y z i in
      let sorted = typed_sorted c.vocabulary types x i.typed.2 in
      let args = q.list i.typed.0.1 in
      record {
        proper = symbol_proper c r k x y there usage sorted i.typed.0.0 (read c d y).members args.proper;
        back = function_back c r k x y there usage sorted i.typed.0.0 (read c d y).members bound z args.proper args.back u.0 u.2;
      }
  three_one HIf x y z i p q s e =
      let a = p.one (inr i.typed.0.0) in
      let b = q.one i.typed.0.1 in
      let n = s.one (subst IsExpression (sym i.typed.0.2) i.typed.0.1) in
      record { proper = (record { some = omega arith; whole = refl }, (a.proper, (b.proper, (n.proper, tt)))); back = (λ j. Three HIf (a.back j) (b.back j) (n.back j)) }
  three_one (HPatCon k) x y z i p q s e = pattern_no e
  three_one _ x y z i p q s e = absurd i.typed.0

  three_list : (h : Head) (x y z : Tree) → Input c d types (Three h x y z) → IsList Term (Three h x y z) → AreRead c types (Three h x y z) (three_read c h x (read c d x) (read c d y) (read c d z)).members
  three_list (HFun k) x y z i l = let e = l.0 in absurd (cc)
  three_list HIf x y z i l = absurd (no_list (yield y) (expression_yield y i.typed.0.1) l.0)
  three_list (HPatCon k) x y z i l = let e = l.0 in absurd (cc)
  three_list _ x y z i l = absurd i.typed.0

  three_told : (h : Head) (x y z : Tree) → Input c d types (Three h x y z) → Told c d types x → Told c d types y → Told c d types z → Told c d types (Three h x y z)
  three_told h x y z i p q s = record { text = three_writes h x y z i p.text q.text s.text; one = three_one h x y z i p q s; list = three_list h x y z i }

-- ---- all
pub told : (c : Known) → IsReader c → (d : ℕ) (types : List Tree) (e : Tree) → Input c d types e → Told c d types e
told c r d types (Leaf h) i = leaf_told c r d types h i
told c r d types (One h a) i = one_told c r d types h a i (told c r d types a (input_one c d types h a i))
told c r d types (Two HArm a b) i = arm_told c r d types a b
told c r d types (Two h a b) i = two_told c r d types h a b i (told c r d types a (input_left c d types h a b i)) (told c r (depth_under h d) (bound_types h a ++ types) b (input_right c d types h a b refl i))
told c r d types (Three h x y z) i =
    three_told c r d types h x y z i (told c r d types x (input_first c d types h x y z i)) (told c r d types y (input_second c d types h x y z i)) (told c r d types z (input_third c d types h x y z i))
