-- Symbols on arguments, and what a reader makes of them.
use Rattle.std.proofs.Common.{◌≡◌, ℕ, false, if◌then◌else◌, List, [], ◌∷◌, length, codes, Some, bytes_eq, option_map, refl, sym, ap, ◌∙◌}
use Rattle.std.proofs.lemmas.List.{length-map}
use Rattle.tasks.specs.trees.declared.Sort.TheVariants.{Kind}
use Rattle.tasks.specs.trees.Tree.{Tree, Two, Three, HFun, HPred}
use Rattle.tasks.specs.trees.Sorts.{type_of, IsList, WellSorted}
use Rattle.tasks.specs.trees.Binding.{inst_types}
use Rattle.tasks.specs.declared.signature.SymbolKind.{SymbolKind}
use Rattle.tasks.specs.declared.signature.SymbolKind.TheVariants as kinds
use Rattle.tasks.specs.Task.{SymbolTree, symbol_or}
use Rattle.tasks.specs.Typing.{members, IsUse, HasResult, MakesTerms}
use Rattle.tasks.specs.Equations.{cells}
use Rattle.name_tables.specs.Occurrences.{Occurrence, occurrence}
use Rattle.printed_problems.specs.Problems.{is_kind}
use Rattle.part_texts.specs.smt_law.s_expressions.Sexps.{Sexp, SexpWord, Group, Nothing, Then, IsWord, IsOne, IsProperList}
use Rattle.part_texts.specs.smt_law.Plain.{is_type, arity, arity_of}
use Rattle.part_texts.specs.smt_law.Reading.{tree_as_read}
use Rattle.part_texts.proofs.smt_law.Forms.{Known, called, word_of}
use Rattle.part_texts.proofs.smt_law.Back.{Free, role, is_predicate, or_end, made, symbol_tree, is_equality_word, equation, free_tree, word_tree, group_tree, back}
use Rattle.part_texts.proofs.smt_law.Words.{free_role, other_word, or_false}
use Rattle.part_texts.proofs.smt_law.Kept.{members_cells, as_many_members}
use Rattle.part_texts.proofs.smt_law.Found.{IsReader, IsThere, plain_thing, no_equality, symbol_found, at_none_by}

-- a symbol that is no type, at as many types and on as many arguments as it has
pub record IsUsed (c : Known) (k : ℕ) (types args : Tree) : Type 0 where
  pub kind : is_type c.vocabulary.symbols k ≡ false
  pub as_many : length (members types) ≡ (symbol_or c.vocabulary.symbols k).vars
  pub fit : length (members args) ≡ arity c.vocabulary.symbols k

used : (e : SymbolTree) (types args : Tree) → is_kind e.kind ≡ false → IsUse e types args → length (members args) ≡ arity_of e
used e types args k u =
    sym (length-map (members args) type_of) ∙ ap length u.fit ∙ length-map e.args (λ a. Some (inst_types a (members types)))
    ∙ ap (λ b. if b then e.vars else length e.args) (sym k)

pub used_by : (c : Known) (k : ℕ) (types args : Tree) → is_kind (symbol_or c.vocabulary.symbols k).kind ≡ false → IsUse (symbol_or c.vocabulary.symbols k) types args → IsUsed c k types args
used_by c k types args n u = record { kind = n; as_many = u.as_many; fit = used (symbol_or c.vocabulary.symbols k) types args n u }

-- what makes terms is no type and no predicate
pub term_no_type : (k : SymbolKind) → MakesTerms k → is_kind k ≡ false
term_no_type kinds.Kind m = absurd m
term_no_type _ m = refl

pub term_no_predicate : (k : SymbolKind) → MakesTerms k → is_predicate k ≡ false
term_no_predicate kinds.Predicate m = absurd m
term_no_predicate _ m = refl

-- a word alone or on arguments
pub called_proper : (w : List ℕ) (s : Sexp) → IsWord w → IsProperList s → IsOne (called w s)
called_proper w (SexpWord v) p m = absurd m
called_proper w (Group s) p m = absurd m
called_proper w Nothing p m = p
called_proper w (Then a rest) p m = (p, m)

module _ (c : Known) (types : List Tree) where
  pub called_back : (w : List ℕ) (s : Sexp) → IsProperList s → role w ≡ Free → (back c (called w s)).one types ≡ free_tree c w ((back c s).list types)
  called_back w (SexpWord v) m f = absurd m
  called_back w (Group s) m f = absurd m
  called_back w Nothing m f = ap (word_tree c w types) f
  called_back w (Then a rest) m f = ap (group_tree c w (Then (SexpWord w) (Then a rest)) types (back c (Then (SexpWord w) (Then a rest))).list) f

  no_equation : (w : List ℕ) (args : List Tree) → (length args ≡ 2 → is_equality_word c w ≡ false) → free_tree c w args ≡ symbol_tree c w args
  no_equation w [] h = refl
  no_equation w (a ∷ []) h = refl
  no_equation w (a ∷ b ∷ []) h = ap (λ t. if t then equation a b else symbol_tree c w (a ∷ b ∷ [])) (h refl)
  no_equation w (a ∷ b ∷ x ∷ more) h = refl

module _ (c : Known) (r : IsReader c) (k : ℕ) (types args : Tree) (there : IsThere c (occurrence k types)) (u : IsUsed c k types args) (sorted : WellSorted types) (kinds_alone : IsList Kind types) where
  abbrev thing : Occurrence
  thing = occurrence k types

  no_equality_word : arity c.vocabulary.symbols k ≡ 2 → is_equality_word c (word_of c thing) ≡ false
  no_equality_word n =
      or_false (bytes_eq (word_of c thing) (codes "=")) (bytes_eq (word_of c thing) c.words.of_equality) (other_word (word_of c thing) (codes "=") (plain_thing c r thing there).no_equals)
      (other_word (word_of c thing) c.words.of_equality (no_equality c r thing there u.kind n))

  as_many_read : (es : List Tree) → cells es ≡ tree_as_read args → length es ≡ arity c.vocabulary.symbols k
  as_many_read es e = ap length (sym (members_cells es) ∙ ap members e) ∙ as_many_members args ∙ u.fit

  symbol_back : (s : Sexp) (bound : List Tree) → IsProperList s → cells ((back c s).list bound) ≡ tree_as_read args → (back c (called (word_of c thing) s)).one bound ≡ made c thing ((back c s).list bound)
  symbol_back s bound m e =
      let free = (plain_thing c r thing there).free in
      let n = as_many_read ((back c s).list bound) e in
      called_back c bound (word_of c thing) s m (free_role (word_of c thing) free)
      ∙ no_equation c bound (word_of c thing) ((back c s).list bound) (λ two. no_equality_word (sym n ∙ two))
      ∙ ap (λ (o : Occurrence). made c o ((back c s).list bound)) (symbol_found c r thing (length ((back c s).list bound)) there u.kind (sym n) (at_none_by c r k types sorted kinds_alone u.as_many))

  pub symbol_proper : (s : Sexp) → IsProperList s → IsOne (called (word_of c thing) s)
  symbol_proper s m = called_proper (word_of c thing) s (plain_thing c r thing there).free.proper m

  pub predicate_back : (s : Sexp) (bound : List Tree) → IsProperList s → cells ((back c s).list bound) ≡ tree_as_read args → (symbol_or c.vocabulary.symbols k).kind ≡ kinds.Predicate
      → (back c (called (word_of c thing) s)).one bound ≡ Two (HPred k) (tree_as_read types) (tree_as_read args)
  predicate_back s bound m e p =
      let es = (back c s).list bound in
      let entry = symbol_or c.vocabulary.symbols k in
      symbol_back s bound m e
      ∙ ap (λ b. if b then Two (HPred k) (tree_as_read types) (cells es) else Three (HFun k) (tree_as_read types) (cells es) (tree_as_read (or_end (option_map (λ x. inst_types x (members types)) entry.result)))) (ap is_predicate p)
      ∙ ap (Two (HPred k) (tree_as_read types)) e

  pub function_back : (s : Sexp) (bound : List Tree) (type : Tree) → IsProperList s → cells ((back c s).list bound) ≡ tree_as_read args → MakesTerms (symbol_or c.vocabulary.symbols k).kind → HasResult (symbol_or c.vocabulary.symbols k) types type
      → (back c (called (word_of c thing) s)).one bound ≡ Three (HFun k) (tree_as_read types) (tree_as_read args) (tree_as_read type)
  function_back s bound type m e t g =
      let es = (back c s).list bound in
      let entry = symbol_or c.vocabulary.symbols k in
      symbol_back s bound m e
      ∙ ap (λ b. if b then Two (HPred k) (tree_as_read types) (cells es) else Three (HFun k) (tree_as_read types) (cells es) (tree_as_read (or_end (option_map (λ x. inst_types x (members types)) entry.result)))) (term_no_predicate entry.kind t)
      ∙ (λ i. Three (HFun k) (tree_as_read types) (e i) (tree_as_read (or_end (g i))))
