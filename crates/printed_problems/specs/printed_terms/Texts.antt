-- The text of types, terms and formulas in both syntaxes, under a table of names and a driver's
-- templates: by cases on trees. A symbol is printed by its template where it has one, and else by
-- its name; a variable is named by the number of binders around its own. A `match` has no text, and
-- in TFF0 a `let` and an `if` have none.
use Rattle.std.specs.Prelude.{ℕ, suc, ◌+◌, ◌-◌, true, false, List, [], ◌∷◌, ◌++◌, slice_get, codes, Option, Some, None}
use Rattle.std.specs.Fmt.{decimal, signed_decimal}
use Rattle.std.specs.List.{flat_map}
use Rattle.trees.specs.Tree.{Tree, Leaf, One, Two, Three, Head, HTyApp, HTyRigid, HCell, HBound, HParam, HNum, HFun, HPred, HEq, HTrue, HFalse, HNot, HJoin, HForall, HExists, HLet, HIf}
use Rattle.name_tables.specs.declared.name_entries.names.NameEntry.{NameEntry}
use Rattle.drivers.specs.declared.driver_items.kinds.Piece.{Piece}
use Rattle.drivers.specs.declared.driver_parts.driver.Driver.{Driver}
use Rattle.drivers.specs.declared.driver_items.kinds.Syntax.{Syntax}
use Rattle.drivers.specs.driver_items.Syntaxes.{syntax_of}
use Rattle.name_tables.specs.Occurrences.{Occurrence, occurrence, whole_occurrence}
use Rattle.name_tables.specs.Tables.{occurrence_place}
use Rattle.printed_problems.specs.Templates.{template_of, by_pieces}
use Rattle.printed_problems.specs.declared.printed_terms.words.Form.{Form}
use Rattle.printed_problems.specs.declared.printed_terms.words.Form.TheVariants.{Negation, Connected, Equality, Conditional}
use Rattle.printed_problems.specs.declared.printed_terms.words.Binder.{Binder}
use Rattle.printed_problems.specs.declared.printed_terms.words.Binder.TheVariants.{ForAll, ThereIs, LetIn}
use Rattle.printed_problems.specs.printed_terms.Words.{truth_text, opening, part_separator, binder_opening, before_bound, before_body, variable_letter, before_name, after_name, between_arguments}

-- how a task is printed: its driver, what is in its table, and the names of that
pub record Printing : Type 0 where
  pub driver : Driver
  pub things : List Occurrence
  pub names : List NameEntry

-- the syntax of its driver's printer
abbrev pub printing_syntax : Printing → Syntax
printing_syntax p = syntax_of p.driver.printer

abbrev pub text_of_entry : Option NameEntry → List ℕ
text_of_entry None = []
text_of_entry (Some e) = e.name

-- the name at a place of the table
abbrev pub name_at : Printing → ℕ → List ℕ
name_at p place = text_of_entry (slice_get p.names place)

-- the name of a symbol at types
abbrev pub printed_name : Printing → Occurrence → List ℕ
printed_name p o = name_at p (occurrence_place p.things o)

-- texts one after another, each after a text
abbrev pub each_after : List ℕ → List (List ℕ) → List ℕ
each_after separator texts = flat_map (λ x. separator ++ x) texts

-- texts one after another, with a text between any two
abbrev pub joined : List ℕ → List (List ℕ) → List ℕ
joined separator [] = []
joined separator (a ∷ more) = a ++ each_after separator more

-- a form with its parts
abbrev pub form_text : Syntax → Form → List (List ℕ) → List ℕ
form_text syntax form parts =
    opening syntax form ++ joined (part_separator syntax form) parts ++ codes ")"

-- a name alone, or with arguments
abbrev pub application_text : Syntax → List ℕ → List (List ℕ) → List ℕ
application_text syntax name [] = name
application_text syntax name (a ∷ more) =
    before_name syntax ++ name ++ after_name syntax ++ joined (between_arguments syntax) (a ∷ more)
    ++ codes ")"

-- by the template where there is one
abbrev pub by_template : Option (List Piece) → List (List ℕ) → List ℕ → List ℕ
by_template None args other = other
by_template (Some pieces) args other = by_pieces pieces args

-- a symbol at types, with arguments
abbrev pub symbol_text : Printing → Occurrence → List (List ℕ) → List ℕ
symbol_text p o args = by_template (template_of p.driver o.symbol) args
    (application_text (printing_syntax p) (printed_name p o) args)

abbrev pub equality_text : Driver → List (List ℕ) → List ℕ
equality_text d sides =
    by_template d.eq_template sides (form_text (syntax_of d.printer) Equality sides)

-- the sort of a type symbol that is at a place of the table; the arguments are part of what the
-- name stands for
abbrev pub sort_by : Printing → ℕ → ℕ → List (List ℕ) → List ℕ
sort_by p k place args = by_template (template_of p.driver k) args (name_at p place)

-- the text of a type, term or formula, or the texts of the members of a list
pub record Printed : Type 0 where
  pub text : List ℕ
  pub members : List (List ℕ)

abbrev pub printed_text : List ℕ → Printed
printed_text text = record { text = text; members = [] }

abbrev pub printed_nothing : Printed
printed_nothing = printed_text []

-- a list with one member more
abbrev pub with_member : Printed → Printed → Printed
with_member a more = record { text = []; members = a.text ∷ more.members }

abbrev pub leaf_sort_text : Printing → Head → Printed
leaf_sort_text p (HTyRigid k) =
    printed_text (sort_by p k (occurrence_place p.things (whole_occurrence k)) [])
leaf_sort_text p _ = printed_nothing

abbrev pub one_sort_text : Printing → Head → Tree → Printed → Printed
one_sort_text p (HTyApp k) types args =
    printed_text (sort_by p k (occurrence_place p.things (occurrence k types)) args.members)
one_sort_text p _ types args = printed_nothing

abbrev pub two_sort_text : Head → Printed → Printed → Printed
two_sort_text HCell a more = with_member a more
two_sort_text _ a more = printed_nothing

-- the sort of a type, or those of a list of types
abbrev pub printed_sort : Printing → Tree → Printed
printed_sort p (Leaf h) = leaf_sort_text p h
printed_sort p (One h a) = one_sort_text p h a (printed_sort p a)
printed_sort p (Two h a b) = two_sort_text h (printed_sort p a) (printed_sort p b)
printed_sort p (Three h a b c) = printed_nothing

abbrev pub sort_text : Printing → Tree → List ℕ
sort_text p type = (printed_sort p type).text

-- the variable of the binder with so many binders around it
abbrev pub variable_text : Syntax → ℕ → List ℕ
variable_text syntax d = variable_letter syntax ++ decimal d

abbrev pub parameter : ℕ → List ℕ
parameter n = codes "c" ++ decimal n

-- a binder under so many others, with its variable's sort or value, and its body
abbrev pub bound_text : Syntax → Binder → ℕ → List ℕ → List ℕ → List ℕ
bound_text syntax b d bound body =
    binder_opening syntax b ++ variable_text syntax d ++ before_bound syntax ++ bound
    ++ before_body syntax ++ body ++ codes ")"

abbrev pub leaf_text : Printing → Head → Printed
leaf_text p HTrue = printed_text (truth_text (printing_syntax p) true)
leaf_text p HFalse = printed_text (truth_text (printing_syntax p) false)
leaf_text p (HNum z) = printed_text (signed_decimal z)
leaf_text p _ = printed_nothing

abbrev pub one_text : Printing → ℕ → Head → Printed → Printed
one_text p d (HBound i) a = printed_text (variable_text (printing_syntax p) (d - suc i))
one_text p d (HParam n) a = printed_text (parameter n)
one_text p d HNot a = printed_text (form_text (printing_syntax p) Negation (a.text ∷ []))
one_text p d _ a = printed_nothing

-- the second child is under the binder, where there is one
abbrev pub two_text : Printing → ℕ → Head → Tree → Printed → Printed → Printed
two_text p d HCell first a b = with_member a b
two_text p d (HPred k) types a b = printed_text (symbol_text p (occurrence k types) b.members)
two_text p d HEq left a b = printed_text (equality_text p.driver (a.text ∷ b.text ∷ []))
two_text p d (HJoin op) left a b =
    printed_text (form_text (printing_syntax p) (Connected op) (a.text ∷ b.text ∷ []))
two_text p d HForall type a b =
    printed_text (bound_text (printing_syntax p) ForAll d (sort_text p type) b.text)
two_text p d HExists type a b =
    printed_text (bound_text (printing_syntax p) ThereIs d (sort_text p type) b.text)
two_text p d HLet value a b = printed_text (bound_text (printing_syntax p) LetIn d a.text b.text)
two_text p d _ first a b = printed_nothing

abbrev pub three_text : Printing → Head → Tree → Printed → Printed → Printed → Printed
three_text p (HFun k) types a b c = printed_text (symbol_text p (occurrence k types) b.members)
three_text p HIf condition a b c =
    printed_text (form_text (printing_syntax p) Conditional (a.text ∷ b.text ∷ c.text ∷ []))
three_text p _ first a b c = printed_nothing

-- how many binders are around the second child
abbrev pub depth_under : Head → ℕ → ℕ
depth_under HForall d = d + 1
depth_under HExists d = d + 1
depth_under HLet d = d + 1
depth_under _ d = d

-- a term or formula under so many binders, or a list of them
abbrev pub printed : Printing → ℕ → Tree → Printed
printed p d (Leaf h) = leaf_text p h
printed p d (One h a) = one_text p d h (printed p d a)
printed p d (Two h a b) = two_text p d h a (printed p d a) (printed p (depth_under h d) b)
printed p d (Three h a b c) = three_text p h a (printed p d a) (printed p d b) (printed p d c)

abbrev pub term_text : Printing → ℕ → Tree → List ℕ
term_text p d e = (printed p d e).text

-- the text of a closed formula
abbrev pub formula_text : Printing → Tree → List ℕ
formula_text p e = term_text p 0 e
