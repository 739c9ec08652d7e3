-- What may follow in each state of the machine, as trees, and the terminals that it writes: the rest of a line and the lines after.
use Rattle.std.proofs.Common.{◌≡◌, Bool, true, false, List, [], ◌∷◌, ◌++◌, map, Option, Some, None}
use Rattle.drivers.specs.declared.driver_tokens.terminal.DriverWord.{DriverWord}
use Rattle.drivers.specs.declared.driver_tokens.terminal.DriverWord.TheVariants as w
use Rattle.drivers.specs.declared.driver_tokens.terminal.NameKind.{NameKind}
use Rattle.drivers.specs.declared.driver_tokens.terminal.DriverTerminal.{DriverTerminal}
use Rattle.drivers.specs.declared.driver_tokens.terminal.DriverTerminal.TheVariants as t
use Rattle.drivers.specs.declared.driver_tokens.machine.Owner.{Owner}
use Rattle.drivers.specs.declared.driver_tokens.machine.Owner.TheVariants as o
use Rattle.drivers.specs.declared.driver_tokens.machine.DriverState.{DriverState}
use Rattle.drivers.specs.declared.driver_tokens.machine.DriverState.TheVariants as q
use Rattle.drivers.specs.driver_tokens.Grammar.{DriverName, write_name, Value, write_value, MetaArgument, write_argument, write_more, write_arguments, MetaName, write_meta_name, write_driver_path, GrammarLine, write_line, are_lines}

pub record Lines (b : Bool) : Type 0 where
  pub lines : List GrammarLine
  pub are : are_lines b lines ≡ true

abbrev pub After : Owner → Type 0
After o.Syntax = Lines true
After o.Remove = Lines true
After (o.Meta b) = List MetaArgument × Lines b

abbrev pub Rest : DriverState → Type 0
Rest (q.Lines b) = Lines b
Rest q.PathWord = DriverWord × List DriverWord × Lines true
Rest q.Path = List DriverWord × Lines true
Rest (q.LineText b) = Lines b
Rest (q.MetaName b) = MetaName × List MetaArgument × Lines b
Rest (q.Arguments b) = List MetaArgument × Lines b
Rest (q.Argument b) = MetaArgument × List MetaArgument × Lines b
Rest (q.MoreArguments b) = List MetaArgument × Lines b
Rest q.Value = Value × List Value × Lines false
Rest q.Values = List Value × Lines false
Rest q.NameKind = NameKind × DriverName × Lines true
Rest q.Removal = Option DriverName × Lines true
Rest (q.Name x) = DriverName × After x
Rest (q.NameDot x) = Option DriverName × After x
Rest (q.Operator x) = Bool × After x
Rest (q.OperatorEnd x) = Bool × After x
Rest (q.OperatorClose x) = After x

abbrev pub Cut : Type 0
Cut = List DriverTerminal × List (List DriverTerminal)

abbrev pub cut_of : List DriverTerminal → List (List DriverTerminal) → Cut
cut_of xs ls = (xs, ls)

abbrev pub after_of : {b : Bool} → Lines b → List (List DriverTerminal)
after_of r = map write_line r.lines

abbrev pub written_after : (x : Owner) → After x → Cut
written_after o.Syntax r = cut_of (t.Text ∷ []) (after_of r)
written_after o.Remove r = cut_of [] (after_of r)
written_after (o.Meta b) r = cut_of (write_more r.0) (after_of r.1)

abbrev pub join : List DriverTerminal → Cut → Cut
join xs c = cut_of (xs ++ c.0) c.1

abbrev pub write_removed : Option DriverName → List DriverTerminal
write_removed (Some n) = t.Word w.Prop ∷ write_name n
write_removed None = t.Word w.Allprops ∷ []

abbrev pub write_dotted : Option DriverName → List DriverTerminal
write_dotted (Some n) = t.Dot ∷ write_name n
write_dotted None = []

abbrev pub write_close : Bool → List DriverTerminal
write_close true = t.Word w.Line ∷ t.Close ∷ []
write_close false = t.Close ∷ []

abbrev pub written : (s : DriverState) → Rest s → Cut
written (q.Lines b) r = cut_of [] (after_of r)
written q.PathWord r = cut_of (t.Word r.0 ∷ write_driver_path r.1) (after_of r.2)
written q.Path r = cut_of (write_driver_path r.0) (after_of r.1)
written (q.LineText b) r = cut_of (t.Text ∷ []) (after_of r)
written (q.MetaName b) r = cut_of (write_meta_name r.0 ∷ write_arguments r.1) (after_of r.2)
written (q.Arguments b) r = cut_of (write_arguments r.0) (after_of r.1)
written (q.Argument b) r = cut_of (write_argument r.0 ++ write_more r.1) (after_of r.2)
written (q.MoreArguments b) r = cut_of (write_more r.0) (after_of r.1)
written q.Value r = cut_of (write_value r.0 ∷ map write_value r.1) (after_of r.2)
written q.Values r = cut_of (map write_value r.0) (after_of r.1)
written q.NameKind r = cut_of (t.Word (w.Kind r.0) ∷ (write_name r.1 ++ t.Text ∷ [])) (after_of r.2)
written q.Removal r = cut_of (write_removed r.0) (after_of r.1)
written (q.Name x) r = join (write_name r.0) (written_after x r.1)
written (q.NameDot x) r = join (write_dotted r.0) (written_after x r.1)
written (q.Operator x) r = join (t.Operator ∷ write_close r.0) (written_after x r.1)
written (q.OperatorEnd x) r = join (write_close r.0) (written_after x r.1)
written (q.OperatorClose x) r = join (t.Close ∷ []) (written_after x r)
