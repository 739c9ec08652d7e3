-- Scopes inside one another: a further one, and the walks of the search.
use Rattle.std.proofs.Common.{◌≡◌, ℕ, ◌+◌, ◌<◌, Bool, List, [], ◌∷◌, ◌++◌, length, get_or, set, take, reverse, refl, ap, ◌∙◌, arith}
use Rattle.std.proofs.lemmas.Grind.{common_steps}
use Rattle.std.proofs.lemmas.List.{get_or_default, length-append, take_more, reverse-append, set-append_left}
use Rattle.scopes.specs.declared.Table.{Table}
use Rattle.scopes.specs.declared.Table.TheVariants.{Scopes}
use Rattle.scopes.specs.declared.Referent.TheVariants as stands
use Rattle.scopes.specs.Names.{ScopeEntry, ScopeNames, latest, first_found, or_else, with_scope}

pub reverse-snoc : (xs : List ℕ) (x : ℕ) → reverse (xs ++ x ∷ []) ≡ x ∷ reverse xs
reverse-snoc xs x = reverse-append xs (x ∷ [])

set_before : (es : List (List ScopeEntry)) (i : ℕ) (v : List ScopeEntry) → i < length es → set (es ++ [] ∷ []) i v ≡ set es i v ++ [] ∷ []
set_before es i v within = set-append_left es ([] ∷ []) i v within

get_before : (es : List (List ScopeEntry)) (i : ℕ) → i < length es → get_or (es ++ [] ∷ []) i [] ≡ get_or es i []
get_before es i within = grind (arith, common_steps)

-- what is read of a scope that is there
pub read_at : (entries pushed : List (List ScopeEntry)) (i : ℕ) (v : List ScopeEntry) → i < length entries → pushed ≡ entries ++ [] ∷ [] → v ≡ get_or pushed i v → v ≡ get_or pushed i []
read_at entries pushed i v within is_pushed is_read =
    let longer : length (entries ++ [] ∷ []) ≡ length entries + 1 = simp length-append refl in
    let same = ap length is_pushed in
    let inside : i < length pushed = omega (arith, longer, same) in
    is_read ∙ get_or_default pushed i v [] inside

-- a further scope, in the form of the code
pub scoped : (entries pushed : List (List ScopeEntry)) (outer outer' : List ℕ) (i number : ℕ) (name name' : List ℕ) (declared : Bool) (added : List ScopeEntry) (now : ScopeNames)
    → (let view : ScopeNames = record { entries = entries; nested = i ∷ reverse outer } in view ≡ now)
    → i < length entries → pushed ≡ entries ++ [] ∷ []
    → added ≡ record { table = Scopes; name = name'; thing = stands.Entry number; declared = declared } ∷ get_or pushed i []
    → outer' ≡ outer ++ i ∷ [] → number ≡ length entries → name' ≡ name
    → (let made : ScopeNames = record { entries = set pushed i added; nested = number ∷ reverse outer' } in made ≡ with_scope name declared now)
scoped entries pushed outer outer' i number name name' declared added now is_now within is_pushed is_added is_outer is_number is_name =
    let inner = reverse-snoc outer i in
    let before = get_before entries i within in
    let entry : ScopeEntry = record { table = Scopes; name = name; thing = stands.Entry (length entries); declared = declared } in
    let written = set_before entries i (entry ∷ get_or entries i []) within in
    rw (is_added, is_pushed, is_outer, is_number, is_name, ← is_now) (cc (inner, before, written))

-- one step of the search through the open scopes
pub first_found-take : (table : Table) (name : List ℕ) (entries : List (List ScopeEntry)) (numbers : List ℕ) (left : ℕ) → left < length numbers
    → first_found table name entries (reverse (take (left + 1) numbers)) ≡ or_else (latest table name (get_or entries (get_or numbers left 0) [])) (first_found table name entries (reverse (take left numbers)))
first_found-take table name entries numbers left within =
    ap (λ (ns : List ℕ). first_found table name entries ns) (ap reverse (take_more numbers left 0 within) ∙ reverse-snoc (take left numbers) (get_or numbers left 0))
