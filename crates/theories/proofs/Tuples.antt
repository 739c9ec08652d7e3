-- The entries of constructors and of tuples have words as names.
use Rattle.std.proofs.Common.{ℕ, suc, zero, codes, List, [], ◌∷◌, ◌++◌, length, Option, Some, None, refl, sym, subst, arith}
use Rattle.std.specs.Fmt.{decimal}
use Rattle.std.specs.List.{AllByRecursion}
use Rattle.std.proofs.lemmas.List.{append_assoc}
use Rattle.std.proofs.lemmas.List.Elements.{All-nil, All-cons, All-append}
use Rattle.tasks.specs.trees.Tree.{Tree}
use Rattle.tasks.specs.declared.signature.SymbolKind.TheVariants.{Constructor, Projection}
use Rattle.tasks.specs.Task.{SymbolTree, symbol_or}
use Rattle.tasks.specs.Equations.{type_variables}
use Rattle.tasks.specs.Valid.{own_type}
use Rattle.surface.specs.Lexeme.{Word}
use Rattle.elaboration_laws.specs.elab_groups.parts.Entries.{builtin, type_entry, projection_name, projections, constructor_entries, first_word, other_words, field_name, field_entry, field_entries, named_entries, tuple_entries, tuple_in, wanting_tuple, wanting_tuples}
use Rattle.tasks.specs.Words.{IsScopedName}
use Rattle.theories.specs.Names.{HaveWords}
use Rattle.theories.proofs.Words.{written_name, joined, number_after, numbered}

abbrev pub HasWord : SymbolTree → Type 0
HasWord e = IsScopedName e.name

projection_word : (constructor : Word) (i : ℕ) → IsScopedName constructor → IsScopedName (projection_name constructor i)
projection_word constructor i h = subst IsScopedName (sym (append_assoc constructor (codes "'") (decimal i))) (joined constructor (codes "'" ++ decimal i) h (numbered (codes "'") i refl (number_after 39 i refl)))

projections_words : (theory constructor : Word) (vars : ℕ) (type : Tree) (i : ℕ) (fs : List Tree) → IsScopedName constructor → HaveWords (projections theory constructor vars type i fs)
projections_words theory constructor vars type i [] h = All-nil HasWord
projections_words theory constructor vars type i (f ∷ fs) h =
    All-cons HasWord (record { theory = theory; name = projection_name constructor i; kind = Projection; vars = vars; args = type ∷ []; result = Some f }) (projections theory constructor vars type (suc i) fs)
    (projection_word constructor i h) (projections_words theory constructor vars type (suc i) fs h)

pub constructor_words : (theory name : Word) (vars : ℕ) (type : Tree) (fields : List Tree) → IsScopedName name → HaveWords (constructor_entries theory name vars type fields)
constructor_words theory name vars type fields h =
    All-cons HasWord (record { theory = theory; name = name; kind = Constructor; vars = vars; args = fields; result = Some type }) (projections theory name vars type 1 fields) h (projections_words theory name vars type 1 fields h)

-- of a constructor with fields, of which some have names
field_word : (within constructor : Word) (i : ℕ) (w : Word) → IsScopedName within → IsScopedName (within ++ constructor) → IsScopedName w → IsScopedName (field_name within constructor i w)
field_word within constructor i [] inner h k = projection_word (within ++ constructor) i h
field_word within constructor i (x ∷ xs) inner h k = joined within (x ∷ xs) inner k

first_named : (ws : List Word) → AllByRecursion IsScopedName ws → IsScopedName (first_word ws) × AllByRecursion IsScopedName (other_words ws)
first_named [] h = (written_name [] refl, tt)
first_named (w ∷ ws) h = (h.0, h.1)

fields_words : (theory within constructor : Word) (vars : ℕ) (type : Tree) (i : ℕ) (ws : List Word) (fs : List Tree) → IsScopedName within → IsScopedName (within ++ constructor) → AllByRecursion IsScopedName ws → HaveWords (field_entries theory within constructor vars type i ws fs)
fields_words theory within constructor vars type i ws [] inner h k = All-nil HasWord
fields_words theory within constructor vars type i ws (f ∷ fs) inner h k =
    let s = first_named ws k in
    All-cons HasWord (field_entry theory within constructor vars type i (first_word ws) f) (field_entries theory within constructor vars type (suc i) (other_words ws) fs)
    (field_word within constructor i (first_word ws) inner h s.0) (fields_words theory within constructor vars type (suc i) (other_words ws) fs inner h s.1)

pub named_words : (theory within constructor : Word) (vars : ℕ) (type : Tree) (ws : List Word) (fs : List Tree) → IsScopedName within → IsScopedName (within ++ constructor) → AllByRecursion IsScopedName ws → HaveWords (named_entries theory within constructor vars type ws fs)
named_words theory within constructor vars type ws fs inner h k =
    All-cons HasWord (record { theory = theory; name = within ++ constructor; kind = Constructor; vars = vars; args = fs; result = Some type }) (field_entries theory within constructor vars type 1 ws fs) h (fields_words theory within constructor vars type 1 ws fs inner h k)

tuple_words : (k n : ℕ) → HaveWords (tuple_entries k n)
tuple_words k n =
    All-cons HasWord (type_entry builtin (codes "tuple" ++ decimal n) n) (constructor_entries builtin (codes "Tuple" ++ decimal n) n (own_type k n) (type_variables 0 n))
    (numbered (codes "tuple") n refl (number_after 101 n refl))
    (constructor_words builtin (codes "Tuple" ++ decimal n) n (own_type k n) (type_variables 0 n) (numbered (codes "Tuple") n refl (number_after 101 n refl)))

wanting_words : (symbols : List SymbolTree) (n : ℕ) (o : Option ℕ) → HaveWords (wanting_tuple symbols n o)
wanting_words symbols n None = tuple_words (length symbols) n
wanting_words symbols n (Some k) = All-nil HasWord

pub tuples_words : (ns : List ℕ) (symbols : List SymbolTree) → HaveWords (wanting_tuples symbols ns)
tuples_words [] symbols = All-nil HasWord
tuples_words (n ∷ ns) symbols =
    let more = wanting_tuple symbols n (tuple_in symbols n) in
    All-append HasWord more (wanting_tuples (symbols ++ more) ns) (wanting_words symbols n (tuple_in symbols n)) (tuples_words ns (symbols ++ more))

-- an entry of a signature, or `int`
pub symbol_word : (symbols : List SymbolTree) (k : ℕ) → HaveWords symbols → IsScopedName (symbol_or symbols k).name
symbol_word [] k h = written_name (codes "int") refl
symbol_word (e ∷ es) zero h = h 0 e (omega arith)
symbol_word (e ∷ es) (suc k) h = symbol_word es k (λ j d l. h (suc j) d (omega (arith, l)))
