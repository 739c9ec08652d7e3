-- So many types, the words of names, and answers that pass on an error.
use Rattle.std.proofs.Common.{◌≡◌, suc, List, [], ◌∷◌, map, length, refl, ap, Result, Ok, Err, IfErr, Option}
use Rattle.std.specs.Result.{IsErrAnd}
use Rattle.surface.specs.declared.names.Name.{Name}
use Rattle.surface.specs.Lexeme.{Word}
use Rattle.surface.specs.declared.declarations.AlgTree.{AlgTree}
use Rattle.name_resolution.specs.Abstract.{texts_of_names}
use Rattle.name_resolution.specs.Naming.{Tells}
use Rattle.name_resolution.specs.declared.NamingFault.{NamingFault}
use Rattle.elab_groups.specs.parts.Declarations.{AlgebraicType, word, words}
use Rattle.elab_declarations.specs.type_declarations.Algebraics.{algebraics_of, type_entries}

pub words_texts : (ns : List Name) → words (map word ns) ≡ texts_of_names ns
words_texts [] = refl
words_texts (n ∷ ns) = ap (λ ws. n.text ∷ ws) (words_texts ns)

pub handed : {A : Type 0} (r : Result A NamingFault) (g : NamingFault) (x : Option NamingFault) → IsErrAnd r (λ (e : NamingFault). e ≡ g) → Tells (Err g) x → IfErr r (λ (e : NamingFault). Tells (Err e) x)
handed (Ok v) g x h k = tt
handed (Err e) g x h k = rw h k

pub types_counted : (as_ : List AlgTree) → length (algebraics_of as_) ≡ length as_
types_counted [] = refl
types_counted (a ∷ as_) = ap suc (types_counted as_)

pub entries_counted : (theory within : Word) (ts : List AlgebraicType) → length (type_entries theory within ts) ≡ length ts
entries_counted theory within [] = refl
entries_counted theory within (a ∷ ts) = ap suc (entries_counted theory within ts)
