-- The words of two syntaxes: SMT-LIB 2.6 (section 3.6 and the theory Core) and TPTP's typed
-- first-order form, TFF0. Both conjunctions are one word, and both disjunctions.
use Rattle.std.specs.Prelude.{ℕ, Bool, true, false, List, [], codes}
use Rattle.trees.specs.declared.Op.TheVariants.{And, AndThen, Or, OrElse, Imp, Iff}
use Rattle.drivers.specs.declared.driver_items.kinds.Syntax.{Syntax}
use Rattle.drivers.specs.declared.driver_items.kinds.Syntax.TheVariants.{Smt, Tff}
use Rattle.printed_problems.specs.declared.printed_terms.words.Form.{Form}
use Rattle.printed_problems.specs.declared.printed_terms.words.Form.TheVariants.{Negation, Connected, Equality, Conditional}
use Rattle.printed_problems.specs.declared.printed_terms.words.Binder.{Binder}
use Rattle.printed_problems.specs.declared.printed_terms.words.Binder.TheVariants.{ForAll, ThereIs, LetIn}

abbrev pub truth_text : Syntax → Bool → List ℕ
truth_text Smt true = codes "true"
truth_text Smt false = codes "false"
truth_text Tff true = codes "$true"
truth_text Tff false = codes "$false"

-- what is before the parts of a form; after them stands `)`
abbrev pub opening : Syntax → Form → List ℕ
opening Smt Negation = codes "(not "
opening Smt (Connected And) = codes "(and "
opening Smt (Connected AndThen) = codes "(and "
opening Smt (Connected Or) = codes "(or "
opening Smt (Connected OrElse) = codes "(or "
opening Smt (Connected Imp) = codes "(=> "
opening Smt (Connected Iff) = codes "(= "
opening Smt Equality = codes "(= "
opening Smt Conditional = codes "(ite "
opening Tff Negation = codes "(~ "
opening Tff _ = codes "("

-- what is between two parts of a form
abbrev pub part_separator : Syntax → Form → List ℕ
part_separator Smt _ = codes " "
part_separator Tff (Connected And) = codes " & "
part_separator Tff (Connected AndThen) = codes " & "
part_separator Tff (Connected Or) = codes " | "
part_separator Tff (Connected OrElse) = codes " | "
part_separator Tff (Connected Imp) = codes " => "
part_separator Tff (Connected Iff) = codes " <=> "
part_separator Tff Equality = codes " = "
part_separator Tff _ = []

-- what is before a binder's variable, between it and its sort or value, and before its body
abbrev pub binder_opening : Syntax → Binder → List ℕ
binder_opening Smt ForAll = codes "(forall (("
binder_opening Smt ThereIs = codes "(exists (("
binder_opening Smt LetIn = codes "(let (("
binder_opening Tff ForAll = codes "(! ["
binder_opening Tff ThereIs = codes "(? ["
binder_opening Tff LetIn = []

abbrev pub before_bound : Syntax → List ℕ
before_bound Smt = codes " "
before_bound Tff = codes ": "

abbrev pub before_body : Syntax → List ℕ
before_body Smt = codes ")) "
before_body Tff = codes "] : "

-- a bound variable's letter
abbrev pub variable_letter : Syntax → List ℕ
variable_letter Smt = codes "x"
variable_letter Tff = codes "X"

-- what is before and after the name of a symbol with arguments, and between these
abbrev pub before_name : Syntax → List ℕ
before_name Smt = codes "("
before_name Tff = []

abbrev pub after_name : Syntax → List ℕ
after_name Smt = codes " "
after_name Tff = codes "("

abbrev pub between_arguments : Syntax → List ℕ
between_arguments Smt = codes " "
between_arguments Tff = codes ","
