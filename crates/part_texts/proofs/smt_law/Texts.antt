-- Where templates are plain, a text is that of an S-expression.
use Rattle.std.proofs.Common.{◌≡◌, ℕ, true, if◌then◌else◌, List, [], ◌∷◌, ◌++◌, length, codes, Option, Some, None, refl, sym, ap, subst, ◌∙◌, append_assoc, append-nil}
use Rattle.std.specs.Option.{is_some}
use Rattle.std.specs.Fmt.{decimal}
use Rattle.tasks.specs.trees.declared.Op.{Op}
use Rattle.tasks.specs.trees.declared.Op.TheVariants.{And, AndThen, Or, OrElse, Imp, Iff}
use Rattle.printed_problems.specs.drivers.declared.driver_items.kinds.Piece.{Piece}
use Rattle.printed_problems.specs.drivers.declared.driver_items.kinds.Syntax.{Syntax}
use Rattle.printed_problems.specs.drivers.driver_items.Syntaxes.{syntax_of}
use Rattle.printed_problems.specs.drivers.declared.driver_items.kinds.Syntax.TheVariants.{Smt}
use Rattle.printed_problems.specs.Templates.{template_of, has_template}
use Rattle.printed_problems.specs.declared.printed_terms.words.Form.TheVariants.{Negation, Connected, Equality, Conditional}
use Rattle.printed_problems.specs.declared.printed_terms.words.Binder.{Binder}
use Rattle.printed_problems.specs.declared.printed_terms.words.Binder.TheVariants.{ForAll, ThereIs, LetIn}
use Rattle.printed_problems.specs.printed_terms.Texts.{Printed, printed_name, each_after, joined, form_text, application_text, by_template, symbol_text, equality_text, bound_text}
use Rattle.name_tables.specs.Occurrences.{Occurrence}
use Rattle.part_texts.specs.smt_law.s_expressions.Sexps.{Sexp, SexpWord, Group, Nothing, Then, written_sexp, write_sexp}
use Rattle.part_texts.specs.smt_law.Plain.{arity, EqualityIsPlain}
use Rattle.part_texts.proofs.smt_law.Forms.{Known, Read, called, two_called, word_of, bound_read, op_word}
use Rattle.part_texts.proofs.smt_law.Found.{IsReader}

-- the texts of members
abbrev pub texts_of : Sexp → List (List ℕ)
texts_of (SexpWord w) = []
texts_of (Group s) = []
texts_of Nothing = []
texts_of (Then a rest) = write_sexp a ∷ texts_of rest

later_is : (s : Sexp) → (written_sexp s).later ≡ each_after (codes " ") (texts_of s)
later_is (SexpWord w) = refl
later_is (Group s) = refl
later_is Nothing = refl
later_is (Then a rest) = ap (λ z. 32 ∷ write_sexp a ++ z) (later_is rest)

-- a word with arguments after it, in parentheses
pub group_is : (w : List ℕ) (a rest : Sexp) → 40 ∷ w ++ 32 ∷ [] ++ joined (codes " ") (write_sexp a ∷ texts_of rest) ++ 41 ∷ [] ≡ write_sexp (Group (Then (SexpWord w) (Then a rest)))
group_is w a rest =
    ap (λ z. 40 ∷ z ++ 41 ∷ []) (append_assoc w (32 ∷ []) (joined (codes " ") (write_sexp a ∷ texts_of rest)) ∙ ap (λ z. w ++ 32 ∷ (write_sexp a ++ z)) (sym (later_is rest)))

pub applied_is : (w : List ℕ) (s : Sexp) → application_text Smt w (texts_of s) ≡ write_sexp (called w s)
applied_is w (SexpWord v) = refl
applied_is w (Group s) = refl
applied_is w Nothing = refl
applied_is w (Then a rest) = group_is w a rest

pub two_is : (w : List ℕ) (a b : Sexp) → 40 ∷ w ++ 32 ∷ [] ++ joined (codes " ") (write_sexp a ∷ write_sexp b ∷ []) ++ 41 ∷ [] ≡ write_sexp (two_called w a b)
two_is w a b = group_is w a (Then b Nothing)

-- what is printed is what is written
pub record Writes (p : Printed) (r : Read) : Type 0 where
  pub text : p.text ≡ write_sexp r.one
  pub members : p.members ≡ texts_of r.members

-- ---- symbols and equality
module _ (c : Known) (r : IsReader c) where
  symbol_by : (o : Occurrence) (t : Option (List Piece)) → template_of c.printing.driver o.symbol ≡ t → (s : Sexp) → (is_some t ≡ true → length (texts_of s) ≡ arity c.vocabulary.symbols o.symbol)
      → by_template t (texts_of s) (application_text (syntax_of c.printing.driver.printer) (printed_name c.printing o) (texts_of s)) ≡ write_sexp (called (if is_some t then c.words.of_symbol o.symbol else printed_name c.printing o) s)
  symbol_by o None e s n = ap (λ (x : Syntax). application_text x (printed_name c.printing o) (texts_of s)) r.smt ∙ applied_is (printed_name c.printing o) s
  symbol_by o (Some pieces) e s n = (r.plain.each o.symbol pieces e).shape (texts_of s) (n refl) ∙ applied_is (c.words.of_symbol o.symbol) s

  pub symbol_is : (o : Occurrence) (s : Sexp) → (has_template c.printing.driver o.symbol ≡ true → length (texts_of s) ≡ arity c.vocabulary.symbols o.symbol) → symbol_text c.printing o (texts_of s) ≡ write_sexp (called (word_of c o) s)
  symbol_is o s n = symbol_by o (template_of c.printing.driver o.symbol) refl s n

  equality_by : (t : Option (List Piece)) → c.printing.driver.eq_template ≡ t → (a b : Sexp) → by_template t (write_sexp a ∷ write_sexp b ∷ []) (form_text (syntax_of c.printing.driver.printer) Equality (write_sexp a ∷ write_sexp b ∷ [])) ≡ write_sexp (two_called c.words.of_equality a b)
  equality_by None e a b =
      let word : c.words.of_equality ≡ codes "=" = subst (λ t. EqualityIsPlain c.printing.names c.words.of_equality t) e r.plain.equality in
      ap (λ (x : Syntax). form_text x Equality (write_sexp a ∷ write_sexp b ∷ [])) r.smt ∙ two_is (codes "=") a b ∙ ap (λ w. write_sexp (two_called w a b)) (sym word)
  equality_by (Some pieces) e a b =
      let shape = subst (λ t. EqualityIsPlain c.printing.names c.words.of_equality t) e r.plain.equality in
      shape.0 (write_sexp a ∷ write_sexp b ∷ []) refl ∙ applied_is c.words.of_equality (Then a (Then b Nothing))

  pub equality_is : (a b : Sexp) → equality_text c.printing.driver (write_sexp a ∷ write_sexp b ∷ []) ≡ write_sexp (two_called c.words.of_equality a b)
  equality_is a b = equality_by c.printing.driver.eq_template refl a b

-- ---- forms and binders
pub negation_is : (a : Sexp) → form_text Smt Negation (write_sexp a ∷ []) ≡ write_sexp (Group (Then (SexpWord (codes "not")) (Then a Nothing)))
negation_is a = group_is (codes "not") a Nothing

pub connected_is : (op : Op) (a b : Sexp) → form_text Smt (Connected op) (write_sexp a ∷ write_sexp b ∷ []) ≡ write_sexp (two_called (op_word op) a b)
connected_is And a b = two_is (codes "and") a b
connected_is AndThen a b = two_is (codes "and") a b
connected_is Or a b = two_is (codes "or") a b
connected_is OrElse a b = two_is (codes "or") a b
connected_is Imp a b = two_is (codes "=>") a b
connected_is Iff a b = two_is (codes "=") a b

pub conditional_is : (a b c : Sexp) → form_text Smt Conditional (write_sexp a ∷ write_sexp b ∷ write_sexp c ∷ []) ≡ write_sexp (Group (Then (SexpWord (codes "ite")) (Then a (Then b (Then c Nothing)))))
conditional_is a b c = group_is (codes "ite") a (Then b (Then c Nothing))

abbrev pub binder_word : Binder → List ℕ
binder_word ForAll = codes "forall"
binder_word ThereIs = codes "exists"
binder_word LetIn = codes "let"

bound_parts : (v bound body : List ℕ) → ((((v ++ 32 ∷ bound) ++ 41 ∷ []) ++ 41 ∷ []) ++ 32 ∷ body) ++ 41 ∷ [] ≡ v ++ 32 ∷ (bound ++ 41 ∷ 41 ∷ 32 ∷ (body ++ 41 ∷ []))
bound_parts v bound body =
    let tail : List ℕ = 32 ∷ (body ++ 41 ∷ []) in
    append_assoc (((v ++ 32 ∷ bound) ++ 41 ∷ []) ++ 41 ∷ []) (32 ∷ body) (41 ∷ []) ∙ append_assoc ((v ++ 32 ∷ bound) ++ 41 ∷ []) (41 ∷ []) tail
    ∙ append_assoc (v ++ 32 ∷ bound) (41 ∷ []) (41 ∷ tail) ∙ append_assoc v (32 ∷ bound) (41 ∷ 41 ∷ tail)

bound_whole : (v bound body : List ℕ) → (((((v ++ 32 ∷ (bound ++ [])) ++ 41 ∷ []) ++ []) ++ 41 ∷ []) ++ 32 ∷ (body ++ [])) ++ 41 ∷ [] ≡ v ++ 32 ∷ (bound ++ 41 ∷ 41 ∷ 32 ∷ (body ++ 41 ∷ []))
bound_whole v bound body =
    (λ i. (((append-nil ((v ++ 32 ∷ append-nil bound i) ++ 41 ∷ []) i) ++ 41 ∷ []) ++ 32 ∷ append-nil body i) ++ 41 ∷ []) ∙ bound_parts v bound body

bound_printed : (v bound body : List ℕ) → ((((v ++ (32 ∷ [])) ++ bound) ++ (41 ∷ 41 ∷ 32 ∷ [])) ++ body) ++ (41 ∷ []) ≡ v ++ 32 ∷ (bound ++ 41 ∷ 41 ∷ 32 ∷ (body ++ 41 ∷ []))
bound_printed v bound body =
    let tail : List ℕ = 41 ∷ 41 ∷ 32 ∷ (body ++ 41 ∷ []) in
    append_assoc (((v ++ (32 ∷ [])) ++ bound) ++ (41 ∷ 41 ∷ 32 ∷ [])) body (41 ∷ []) ∙ append_assoc ((v ++ (32 ∷ [])) ++ bound) (41 ∷ 41 ∷ 32 ∷ []) (body ++ 41 ∷ [])
    ∙ append_assoc (v ++ (32 ∷ [])) bound tail ∙ append_assoc v (32 ∷ []) (bound ++ tail)

bound_both : (v bound body : List ℕ) → ((((v ++ (32 ∷ [])) ++ bound) ++ (41 ∷ 41 ∷ 32 ∷ [])) ++ body) ++ (41 ∷ []) ≡ (((((v ++ 32 ∷ (bound ++ [])) ++ 41 ∷ []) ++ []) ++ 41 ∷ []) ++ 32 ∷ (body ++ [])) ++ 41 ∷ []
bound_both v bound body = bound_printed v bound body ∙ sym (bound_whole v bound body)

pub bound_is : (b : Binder) (d : ℕ) (bound body : Sexp) → bound_text Smt b d (write_sexp bound) (write_sexp body) ≡ write_sexp (bound_read (binder_word b) d bound body)
bound_is ForAll d bound body = ap (λ z. codes "(forall ((x" ++ z) (bound_both (decimal d) (write_sexp bound) (write_sexp body))
bound_is ThereIs d bound body = ap (λ z. codes "(exists ((x" ++ z) (bound_both (decimal d) (write_sexp bound) (write_sexp body))
bound_is LetIn d bound body = ap (λ z. codes "(let ((x" ++ z) (bound_both (decimal d) (write_sexp bound) (write_sexp body))
