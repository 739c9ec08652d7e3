-- The files of entries, one after another.
use Rattle.std.proofs.Common.{◌≡◌, [], ◌∷◌, ◌++◌, ℕ, ◌+◌, ◌<◌, ◌≤◌, List, map, length, get_or, take, sym, ap, subst, ◌∙◌, Bor}
use Rattle.std.proofs.lemmas.List.{map_more, take_all}
use Rattle.surface.specs.declared.declarations.File.{File}
use Rattle.parser.specs.std_theories.Library.{LibraryEntry, AreFilesOf, IsFileOfText, IsFilePushed, library_entry, library}

pub files_more : (es : List LibraryEntry) (fs : List (List ℕ × File)) (e : LibraryEntry) (f : List ℕ × File) → AreFilesOf es fs → f.0 ≡ e.0 → IsFileOfText e.1 f.1 → AreFilesOf (es ++ e ∷ []) (fs ++ f ∷ [])
files_more [] [] e f h p q = (p, q, tt)
files_more [] (x ∷ fs) e f h p q = absurd h
files_more (x ∷ es) [] e f h p q = absurd h
files_more (x ∷ es) (y ∷ fs) e f h p q = (h.0, h.1, files_more es fs e f h.2 p q)

-- one entry more of a list
pub files_next : (xs : List (Bor (List ℕ) × Bor (List ℕ))) (i : ℕ) (d : Bor (List ℕ) × Bor (List ℕ)) (old new : List (List ℕ × File)) → i < length xs → AreFilesOf (map library_entry (take i xs)) old
    → IsFilePushed (library_entry (get_or xs i d)) old new → AreFilesOf (map library_entry (take (i + 1) xs)) new
files_next xs i d old new l h p =
    subst (λ (es : List LibraryEntry). AreFilesOf es new) (sym (map_more library_entry xs i d l))
    (subst (AreFilesOf (map library_entry (take i xs) ++ library_entry (get_or xs i d) ∷ [])) (sym p.is) (files_more (map library_entry (take i xs)) old (library_entry (get_or xs i d)) p.file h p.path p.written))

-- all entries of a list
pub files_all : (xs : List (Bor (List ℕ) × Bor (List ℕ))) (i : ℕ) (fs : List (List ℕ × File)) → length xs ≤ i → AreFilesOf (map library_entry (take i xs)) fs → map library_entry xs ≡ library → AreFilesOf library fs
files_all xs i fs l h e = subst (λ (es : List LibraryEntry). AreFilesOf es fs) (ap (map library_entry) (take_all i xs l) ∙ e) h
