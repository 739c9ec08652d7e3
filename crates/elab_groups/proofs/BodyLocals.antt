-- The variables of a member's body are its parameters.
use Rattle.std.proofs.Common.{◌≡◌, List, [], ◌∷◌, ◌++◌, map, length, Option, Some, None, option_map, refl, ap, ◌∙◌, arith}
use Rattle.std.specs.List.{All}
use Rattle.std.specs.Option.{is_none}
use Rattle.std.proofs.lemmas.List.Elements.{All-append, All-cons, All-nil}
use Rattle.tasks.specs.trees.declared.TermId.{TermId}
use Rattle.tasks.specs.trees.Tree.{Tree}
use Rattle.tasks.specs.trees.Node.{tree_at}
use Rattle.name_resolution.specs.surface.Lexeme.{Word}
use Rattle.open_types.specs.declared.locals.Local.{Local}
use Rattle.open_types.specs.Patterns.{LocalTree}
use Rattle.open_types.specs.Drafts.{HoldsType, local_at, local_name, is_due}
use Rattle.elab_groups.specs.Groups.{typed_locals}

abbrev name_of : LocalTree → Word
name_of l = l.name

names_typed : (xs : List Word) (ts : List Tree) → length ts ≡ length xs → map name_of (typed_locals xs ts) ≡ xs
names_typed [] ts h = refl
names_typed (x ∷ xs) [] h = absurd (omega arith)
names_typed (x ∷ xs) (t ∷ ts) h = ap (λ ys. x ∷ ys) (names_typed xs ts (omega arith))

names_at : (s : List Tree) (ls : List Local) → map local_name ls ≡ map name_of (map (local_at s) ls)
names_at s [] = refl
names_at s (l ∷ ls) = ap (λ ys. local_name l ∷ ys) (names_at s ls)

-- variables with these names and types have these names
pub names_are : (s : List Tree) (ls : List Local) (xs : List Word) (ts : List Tree) → map (local_at s) ls ≡ typed_locals xs ts → length ts ≡ length xs → map local_name ls ≡ xs
names_are s ls xs ts h l = names_at s ls ∙ (ap (map name_of) h ∙ names_typed xs ts l)

-- a variable after others
pub locals_held : (s : List Tree) (ls : List Local) (l : Local) → All (λ (x : Local). HoldsType s x.ty) ls → HoldsType s l.ty → All (λ (x : Local). HoldsType s x.ty) (ls ++ l ∷ [])
locals_held s ls l h k = All-append (λ (x : Local). HoldsType s x.ty) ls (l ∷ []) h (All-cons (λ (x : Local). HoldsType s x.ty) l [] k (All-nil (λ (x : Local). HoldsType s x.ty)))

-- a formula is due where a signature has no result
pub due_kind : (s : List Tree) (t : Option TermId) → is_due t ≡ is_none (option_map (tree_at s) t)
due_kind s None = refl
due_kind s (Some id) = refl
