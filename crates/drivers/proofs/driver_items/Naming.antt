-- A name, from the bytes of its tokens.
use Rattle.std.proofs.Common.{◌≡◌, ℕ, zero, suc, ◌-◌, List, [], ◌∷◌, ◌++◌, length, map, slice_get, drop, ◌≤◌, refl, sym, ap, ◌∙◌, arith, append-nil}
use Rattle.std.specs.List.{flat_map}
use Rattle.std.specs.Option.{option_map}
use Rattle.drivers.specs.declared.driver_tokens.token.DriverToken.{DriverToken}
use Rattle.drivers.specs.driver_tokens.Tokens.{DriverLexeme, lexeme_in}
use Rattle.drivers.specs.driver_items.Items.{name_bytes, prefix_mark, written_name}

get-map : (f : DriverToken → DriverLexeme) (ts : List DriverToken) (i : ℕ) → slice_get (map f ts) i ≡ option_map f (slice_get ts i)
get-map f [] i = refl
get-map f (t ∷ ts) zero = refl
get-map f (t ∷ ts) (suc i) = get-map f ts i

length-of : (f : DriverToken → DriverLexeme) (ts : List DriverToken) → length (map f ts) ≡ length ts
length-of f [] = refl
length-of f (t ∷ ts) = ap suc (length-of f ts)

abbrev pub bytes_of : List DriverLexeme → List ℕ
bytes_of xs = flat_map (λ x. name_bytes x.terminal x.text) xs

pub whole-name : (text : List ℕ) (ts : List DriverToken) (front more : List ℕ) → front ≡ bytes_of (map (lexeme_in text) ts) → more ≡ front ++ prefix_mark (option_map (lexeme_in text) (slice_get ts (length ts - 2))) → more ≡ written_name (map (lexeme_in text) ts)
whole-name text ts front more e h =
    let f = lexeme_in text in
    h
    ∙ ap (λ v. v ++ prefix_mark (option_map f (slice_get ts (length ts - 2)))) e
    ∙ ap (λ v. bytes_of (map f ts) ++ prefix_mark v) (sym (get-map f ts (length ts - 2)) ∙ ap (λ v. slice_get (map f ts) (v - 2)) (sym (length-of f ts)))

drop-end : (ts : List DriverToken) (i : ℕ) → length ts ≤ i → drop i ts ≡ []
drop-end [] zero le = refl
drop-end [] (suc i) le = refl
drop-end (t ∷ ts) zero le = absurd (omega arith)
drop-end (t ∷ ts) (suc i) le = drop-end ts i (omega arith)

-- all tokens have given their bytes
pub all-bytes : (text : List ℕ) (ts : List DriverToken) (name : List ℕ) (i : ℕ) → length ts ≤ i → name ++ bytes_of (map (lexeme_in text) (drop i ts)) ≡ bytes_of (map (lexeme_in text) ts) → name ≡ bytes_of (map (lexeme_in text) ts)
all-bytes text ts name i le h =
    sym (append-nil name) ∙ ap (λ v. name ++ bytes_of (map (lexeme_in text) v)) (sym (drop-end ts i le)) ∙ h
