-- Terms and formulas as S-expressions, where the templates of a driver have these words.
use Rattle.std.proofs.Common.{ℕ, suc, ◌-◌, if◌then◌else◌, List, codes}
use Rattle.std.specs.Fmt.{signed_decimal}
use Rattle.tasks.specs.trees.declared.Op.{Op}
use Rattle.tasks.specs.trees.declared.Op.TheVariants.{And, AndThen, Or, OrElse, Imp, Iff}
use Rattle.tasks.specs.trees.Tree.{Tree, Leaf, One, Two, Three, Head, HCell, HBound, HParam, HNum, HFun, HPred, HEq, HTrue, HFalse, HNot, HJoin, HForall, HExists, HLet, HIf}
use Rattle.tasks.specs.Vocabulary.{Vocabulary}
use Rattle.printed_problems.specs.drivers.declared.driver_items.kinds.Syntax.TheVariants.{Smt}
use Rattle.name_tables.specs.Occurrences.{Occurrence, occurrence}
use Rattle.name_tables.specs.Tables.{thing_of}
use Rattle.printed_problems.specs.Templates.{has_template}
use Rattle.printed_problems.specs.printed_terms.Texts.{Printing, printed_name, variable_text, parameter, depth_under}
use Rattle.part_texts.specs.smt_law.s_expressions.Sexps.{Sexp, SexpWord, Group, Nothing, Then}
use Rattle.part_texts.specs.smt_law.Plain.{Words}

-- what a reader of a text knows: how it was printed, the words of templates, the signature, and the types of the parameters
pub record Known : Type 0 where
  pub printing : Printing
  pub words : Words
  pub vocabulary : Vocabulary
  pub params : List Tree

-- an expression, or the members of a list
pub record Read : Type 0 where
  pub one : Sexp
  pub members : Sexp

abbrev pub one_of : Sexp → Read
one_of s = record { one = s; members = Nothing }

abbrev pub none : Read
none = one_of Nothing

abbrev pub one_more : Read → Read → Read
one_more a rest = record { one = Nothing; members = Then a.one rest.members }

-- a word alone, or with arguments
abbrev pub called : List ℕ → Sexp → Sexp
called w (Then a rest) = Group (Then (SexpWord w) (Then a rest))
called w _ = SexpWord w

abbrev pub two_called : List ℕ → Sexp → Sexp → Sexp
two_called w a b = Group (Then (SexpWord w) (Then a (Then b Nothing)))

-- the word of a symbol at types: that of its template, or its name
abbrev pub word_of : Known → Occurrence → List ℕ
word_of c o = if has_template c.printing.driver o.symbol then c.words.of_symbol o.symbol else printed_name c.printing o

-- `((x S))` or `((x t))`, and the body
abbrev pub bound_read : List ℕ → ℕ → Sexp → Sexp → Sexp
bound_read word d bound body = two_called word (Group (Then (Group (Then (SexpWord (variable_text Smt d)) (Then bound Nothing))) Nothing)) body

abbrev pub op_word : Op → List ℕ
op_word And = codes "and"
op_word AndThen = codes "and"
op_word Or = codes "or"
op_word OrElse = codes "or"
op_word Imp = codes "=>"
op_word Iff = codes "="

abbrev pub leaf_read : Head → Read
leaf_read HTrue = one_of (SexpWord (codes "true"))
leaf_read HFalse = one_of (SexpWord (codes "false"))
leaf_read (HNum z) = one_of (SexpWord (signed_decimal z))
leaf_read _ = none

abbrev pub one_read : ℕ → Head → Read → Read
one_read d (HBound i) a = one_of (SexpWord (variable_text Smt (d - suc i)))
one_read d (HParam n) a = one_of (SexpWord (parameter n))
one_read d HNot a = one_of (Group (Then (SexpWord (codes "not")) (Then a.one Nothing)))
one_read d _ a = none

abbrev pub two_read : Known → ℕ → Head → Tree → Read → Read → Read
two_read c d HCell first a b = one_more a b
two_read c d (HPred k) types a b = one_of (called (word_of c (occurrence k types)) b.members)
two_read c d HEq left a b = one_of (two_called c.words.of_equality a.one b.one)
two_read c d (HJoin op) left a b = one_of (two_called (op_word op) a.one b.one)
two_read c d HForall type a b = one_of (bound_read (codes "forall") d (SexpWord (word_of c (thing_of type))) b.one)
two_read c d HExists type a b = one_of (bound_read (codes "exists") d (SexpWord (word_of c (thing_of type))) b.one)
two_read c d HLet value a b = one_of (bound_read (codes "let") d a.one b.one)
two_read c d _ first a b = none

abbrev pub three_read : Known → Head → Tree → Read → Read → Read → Read
three_read c (HFun k) types x y z = one_of (called (word_of c (occurrence k types)) y.members)
three_read c HIf condition x y z = one_of (Group (Then (SexpWord (codes "ite")) (Then x.one (Then y.one (Then z.one Nothing)))))
three_read c _ first x y z = none

-- a term or formula under so many binders, or a list of them
abbrev pub read : Known → ℕ → Tree → Read
read c d (Leaf h) = leaf_read h
read c d (One h a) = one_read d h (read c d a)
read c d (Two h a b) = two_read c d h a (read c d a) (read c (depth_under h d) b)
read c d (Three h x y z) = three_read c h x (read c d x) (read c d y) (read c d z)
