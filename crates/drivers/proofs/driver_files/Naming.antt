-- Names of imported files: the folder of the importing file, and the string after it.
use Rattle.std.proofs.Common.{◌≡◌, ◌<◌, ◌+◌, ◌-◌, ◌∙◌, ◌⊎◌, inl, inr, ℕ, suc, Bool, true, false, cond, ◌||◌, nat_eq, List, [], ◌∷◌, ◌++◌, length, take, get_or, slice_range, refl, sym, ap, subst, arith}
use Rattle.std.specs.List.{list_any}
use Rattle.std.specs.Str.{IsUtf8}
use Rattle.std.proofs.lemmas.Bool.Decides.{nat_tests}
use Rattle.std.proofs.lemmas.Str.{IsUtf8-nil, IsUtf8-append, IsUtf8-take, IsCharBoundary-after_ascii, utf8_lossy-IsUtf8}
use Rattle.drivers.specs.driver_files.Reading.{folder, name_from}
use Rattle.std.proofs.lemmas.Bool.{or_parts as neither}
use Rattle.word_tables.proofs.SearchLemmas.{bool-cases as either}

abbrev slashes : List ℕ → Bool
slashes bs = list_any (λ b. nat_eq b 47) bs

first : (p q : Bool) → (p || q) ≡ true → q ≡ false → p ≡ true
first true q e h = refl
first false q e h = absurd (cc)

no-folder : (bs : List ℕ) → slashes bs ≡ false → folder bs ≡ []
no-folder [] e = refl
no-folder (a ∷ bs) e = ap (λ v. cond v (a ∷ folder bs) []) e

more-folder : (a : ℕ) (bs : List ℕ) → slashes (a ∷ bs) ≡ true → folder (a ∷ bs) ≡ a ∷ folder bs
more-folder a bs e = ap (λ v. cond v (a ∷ folder bs) []) e

-- where the last `/` ends, from a place on
abbrev pub ends : ℕ → ℕ → List ℕ → ℕ
ends best at [] = best
ends best at (a ∷ bs) = ends (cond (nat_eq a 47) (at + 1) best) (at + 1) bs

none-ends : (bs : List ℕ) (best at : ℕ) → slashes bs ≡ false → ends best at bs ≡ best
none-ends [] best at e = refl
none-ends (a ∷ bs) best at e =
    let n = neither (nat_eq a 47) (slashes bs) e in
    ap (λ v. ends (cond v (at + 1) best) (at + 1) bs) n.0 ∙ none-ends bs best (at + 1) n.1

some-ends : (bs : List ℕ) (best at : ℕ) → slashes bs ≡ true → ends best at bs ≡ at + length (folder bs)
some-ends [] best at e = absurd (cc)
some-ends (a ∷ bs) best at e =
    let more : length (folder (a ∷ bs)) ≡ suc (length (folder bs)) = ap length (more-folder a bs e) in
    elim (either (slashes bs)) [
      | inl h ↦ let rest : ends (cond (nat_eq a 47) (at + 1) best) (at + 1) bs ≡ at + 1 + length (folder bs) = some-ends bs (cond (nat_eq a 47) (at + 1) best) (at + 1) h in omega (arith, rest, more)
      | inr h ↦ let last : ends (cond (nat_eq a 47) (at + 1) best) (at + 1) bs ≡ at + 1 =
          ap (λ v. ends (cond v (at + 1) best) (at + 1) bs) (first (nat_eq a 47) (slashes bs) e h) ∙ none-ends bs (at + 1) (at + 1) h in
          let empty : length (folder bs) ≡ 0 = ap length (no-folder bs h) in
          omega (arith, last, more, empty)
    ]

-- all bytes are passed
pub folder-ends : (name : List ℕ) → ends 0 0 name ≡ length (folder name)
folder-ends name = elim (either (slashes name)) [
  | inl h ↦ let all : ends 0 0 name ≡ 0 + length (folder name) = some-ends name 0 0 h in omega (arith, all)
  | inr h ↦ none-ends name 0 0 h ∙ sym (ap length (no-folder name h))
]

front : (name : List ℕ) → take (length (folder name)) name ≡ folder name
front [] = refl
front (a ∷ bs) = elim (either (slashes (a ∷ bs))) [
  | inl h ↦ ap (λ v. take (length v) (a ∷ bs)) (more-folder a bs h) ∙ ap (λ v. a ∷ v) (front bs) ∙ sym (more-folder a bs h)
  | inr h ↦ ap (λ v. take (length v) (a ∷ bs)) (no-folder (a ∷ bs) h) ∙ sym (no-folder (a ∷ bs) h)
]

pub folder-range : (name : List ℕ) (end : ℕ) → end ≡ length (folder name) → slice_range name 0 end ≡ folder name
folder-range name end e = let n : end - 0 ≡ length (folder name) = omega (arith, e) in ap (λ v. take v name) n ∙ front name

-- the last `/`
last : (name : List ℕ) → slashes name ≡ true → (k : ℕ) × (k < length name) × (get_or name k 0 ≡ 47) × (length (folder name) ≡ k + 1)
last [] e = absurd (cc)
last (a ∷ bs) e =
    let more : length (folder (a ∷ bs)) ≡ suc (length (folder bs)) = ap length (more-folder a bs e) in
    elim (either (slashes bs)) [
      | inl h ↦ let r = last bs h in (suc r.0, omega (arith, r.1), r.2, omega (arith, more, r.3))
      | inr h ↦ let slash : nat_eq a 47 ≡ true = first (nat_eq a 47) (slashes bs) e h in
          let empty : length (folder bs) ≡ 0 = ap length (no-folder bs h) in
          (0, omega arith, is-slash a slash, omega (arith, more, empty))
    ]
  where
    is-slash : (a : ℕ) → nat_eq a 47 ≡ true → a ≡ 47
    is-slash a e = grind (arith, nat_tests)

folder-utf8 : (name : List ℕ) → IsUtf8 name → IsUtf8 (folder name)
folder-utf8 name u = elim (either (slashes name)) [
  | inl h ↦ let r = last name h in
      subst IsUtf8 (ap (λ v. take v name) (sym r.3) ∙ front name) (IsUtf8-take name (r.0 + 1) u (IsCharBoundary-after_ascii name r.0 u r.1 (omega (arith, r.2))))
  | inr h ↦ subst IsUtf8 (sym (no-folder name h)) IsUtf8-nil
]

-- The name of an imported file is the folder with the string after it, where both are UTF-8.
pub name-plain : (importer string : List ℕ) → IsUtf8 importer → IsUtf8 string → name_from importer string ≡ folder importer ++ string
name-plain importer string u v = utf8_lossy-IsUtf8 (folder importer ++ string) (IsUtf8-append (folder importer) string (folder-utf8 importer u) v)
