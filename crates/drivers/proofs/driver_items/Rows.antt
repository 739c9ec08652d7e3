-- Worked rows by computation: templates, words, and what names stand for.
use Rattle.std.specs.Prelude.{◌≡◌, [], ◌∷◌, codes, Some, None, refl}
use Rattle.drivers.specs.declared.driver_tokens.terminal.NameKind.TheVariants as n
use Rattle.drivers.specs.declared.driver_items.kinds.Piece.TheVariants.{Literal, Argument}
use Rattle.drivers.specs.declared.driver_items.kinds.Trans.TheVariants as t
use Rattle.drivers.specs.declared.driver_items.symbols.Target.TheVariants.{Int}
use Rattle.drivers.specs.driver_items.Names.{printer_of, trans_of}
use Rattle.drivers.specs.driver_items.Symbols.{target_of}
use Rattle.drivers.specs.driver_items.Templates.{template_pieces}

minus : template_pieces (codes "(- %1)") 1 ≡ Some (Literal (codes "(- ") ∷ Argument 0 ∷ Literal (codes ")") ∷ [])
minus = refl

twice : template_pieces (codes "%1%1") 1 ≡ None
twice = refl

-- `int` has no argument
an_argument_of_int : template_pieces (codes "%1") 0 ≡ None
an_argument_of_int = refl

no_percent : template_pieces (codes "50%") 0 ≡ None
no_percent = refl

split : trans_of (codes "split_goal_right") ≡ Some t.SplitGoalRight
split = refl

no_transformation : trans_of (codes "x") ≡ None
no_transformation = refl

no_printer : printer_of (codes "smtv3") ≡ None
no_printer = refl

int : target_of [] (codes "BuiltIn") n.Type (codes "int") ≡ Some (Int, 0)
int = refl

no_real : target_of [] (codes "BuiltIn") n.Type (codes "real") ≡ None
no_real = refl
