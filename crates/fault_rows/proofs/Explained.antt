-- Each fault of a refusal has a row in the table of explanations, with as many numbers: by its form.
use Rattle.std.proofs.Common.{refl}
use Rattle.statuses.specs.declared.fault_order.faults.Fault.TheVariants.{Lexical, BigLiteral, Syntax, TooDeep, ProgramDecl, TooLong, Unknown, Duplicate, WrongKind, Arity, Clash, Undetermined, NotExhaustive, BadClause, NotPositive, NotStructural, GroupTooWide, Uninhabited, BadSubstitution, DriverSyntax, UnknownTransformation, BadTemplate, UnknownSymbol, ImportCycle, UnknownPrinter, NoTheory, NoGoal, Misplaced, TooLarge, Polymorphic, Unprintable, NoSyntax, PartCount, WrongLine}
use Rattle.fault_rows.specs.Explained.{EachIsExplained}

pub explained : EachIsExplained
explained (Lexical byte) = refl
explained (BigLiteral byte) = refl
explained (Syntax token) = refl
explained (TooDeep token) = refl
explained (ProgramDecl token) = refl
explained (TooLong file) = refl
explained (Unknown decl token) = refl
explained (Duplicate decl token) = refl
explained (WrongKind decl token) = refl
explained (Arity decl token) = refl
explained (Clash decl k) = refl
explained (Undetermined decl token) = refl
explained (NotExhaustive decl token) = refl
explained (BadClause decl clause) = refl
explained (NotPositive decl clause) = refl
explained (NotStructural decl) = refl
explained (GroupTooWide decl) = refl
explained (Uninhabited decl) = refl
explained (BadSubstitution decl token) = refl
explained (DriverSyntax file byte) = refl
explained (UnknownTransformation file byte) = refl
explained (BadTemplate file byte) = refl
explained (UnknownSymbol file byte) = refl
explained (ImportCycle file byte) = refl
explained (UnknownPrinter file byte) = refl
explained NoTheory = refl
explained NoGoal = refl
explained (Misplaced stage decl) = refl
explained (TooLarge stage) = refl
explained (Polymorphic part decl) = refl
explained (Unprintable part decl) = refl
explained (NoSyntax part symbol) = refl
explained (PartCount want have) = refl
explained (WrongLine part line) = refl
