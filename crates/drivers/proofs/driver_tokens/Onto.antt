-- The lines that were found so far, a line that has begun, and what the machine answers on the rest.
use Rattle.std.proofs.Common.{◌≡◌, ℕ, ◌+◌, ◌-◌, ◌<◌, ◌≤◌, Bool, true, false, cond, List, [], ◌∷◌, ◌++◌, length, take, drop, slice_range, nat_lt, get_or, length-take, length-drop, Result, Ok, Err, refl, sym, ap, ◌∙◌, arith, append_assoc, append-nil}
use Rattle.std.proofs.lemmas.List.{map-append, take_more, get_or-drop, drop_more}
use Rattle.std.proofs.lemmas.Bool.Decides.{nat_tests}
use Rattle.drivers.specs.declared.driver_tokens.terminal.DriverTerminal.{DriverTerminal}
use Rattle.drivers.specs.declared.driver_tokens.token.DriverToken.{DriverToken}
use Rattle.drivers.specs.declared.driver_tokens.file.DriverLine.{DriverLine}
use Rattle.drivers.specs.declared.driver_tokens.machine.DriverState.{DriverState}
use Rattle.drivers.specs.declared.driver_tokens.machine.Transition.TheVariants as m
use Rattle.drivers.specs.driver_tokens.Machine.{machine_step, within, begins, moves_from, runs, put, put_all, cut}
use Rattle.drivers.specs.driver_tokens.File.{with_line, tokens_of_lines}
use Rattle.drivers.proofs.driver_tokens.Cutting.{Ends}

abbrev pub onto : {A : Type 0} → List (List A) → List A → Ends A → Result (List (List A)) (List A)
onto done line (Ok c) = Ok (done ++ put (line ++ c.0) c.1)
onto done line (Err e) = Err e

pub onto-first : {A : Type 0} (r : Ends A) → put_all r ≡ onto [] [] r
onto-first (Ok c) = refl
onto-first (Err e) = refl

pub onto-within : {A : Type 0} (done : List (List A)) (line : List A) (x : A) (r : Ends A) → onto done line (within x r) ≡ onto done (line ++ x ∷ []) r
onto-within done line x (Ok c) = ap (λ v. Ok (done ++ put v c.1)) (sym (append_assoc line (x ∷ []) c.0))
onto-within done line x (Err e) = refl

put-append : {A : Type 0} (line : List A) (ls : List (List A)) → put line ls ≡ put line [] ++ ls
put-append [] ls = refl
put-append (x ∷ line) ls = refl

pub onto-begins : {A : Type 0} (done : List (List A)) (line : List A) (x : A) (r : Ends A) → onto done line (begins x r) ≡ onto (done ++ put line []) (x ∷ []) r
onto-begins done line x (Ok c) =
    ap (λ v. Ok (done ++ put v ((x ∷ c.0) ∷ c.1))) (append-nil line)
    ∙ ap (λ v. Ok (done ++ v)) (put-append line ((x ∷ c.0) ∷ c.1))
    ∙ ap Ok (sym (append_assoc done (put line []) ((x ∷ c.0) ∷ c.1)))
onto-begins done line x (Err e) = refl

abbrev pub terminal : DriverToken → DriverTerminal
terminal x = x.terminal

-- one token more
pub slice-more : (ts : List DriverToken) (first i : ℕ) (d : DriverToken) → first ≤ i → i < length ts → slice_range ts first (i + 1) ≡ slice_range ts first i ++ get_or ts i d ∷ []
slice-more ts first i d le lt =
    let k : i + 1 - first ≡ (i - first) + 1 = omega arith in
    let there : first + (i - first) ≡ i = omega arith in
    ap (λ v. take v (drop first ts)) k
    ∙ take_more (drop first ts) (i - first) d (omega (arith, length-drop first ts))
    ∙ ap (λ v. slice_range ts first i ++ v ∷ []) (get_or-drop first ts (i - first) d ∙ ap (λ v. get_or ts v d) there)

-- no token
pub slice-none : (ts : List DriverToken) (i : ℕ) → slice_range ts i i ≡ []
slice-none ts i = let e : i - i ≡ 0 = omega arith in ap (λ v. take v (drop i ts)) e

-- one token alone
pub slice-one : (ts : List DriverToken) (i : ℕ) (d : DriverToken) → i < length ts → slice_range ts i (i + 1) ≡ get_or ts i d ∷ []
slice-one ts i d lt = slice-more ts i i d (omega arith) lt ∙ ap (λ v. v ++ get_or ts i d ∷ []) (slice-none ts i)

put-some : (line : List DriverToken) → 0 < length line → put line [] ≡ line ∷ []
put-some [] lt = absurd (omega arith)
put-some (x ∷ line) lt = refl

slice-some : (ts : List DriverToken) (first i : ℕ) → first < i → i ≤ length ts → 0 < length (slice_range ts first i)
slice-some ts first i lt le = omega (arith, length-take (i - first) (drop first ts), length-drop first ts)

-- a line is put at the end where it has tokens
pub parts-with : (ts : List DriverToken) (lines : List DriverLine) (first i : ℕ) → first ≤ i → i ≤ length ts → tokens_of_lines ts (with_line lines first i) ≡ tokens_of_lines ts lines ++ put (slice_range ts first i) []
parts-with ts lines first i le within = by_bool (nat_lt first i) refl
  where
    by_bool : (b : Bool) → nat_lt first i ≡ b → tokens_of_lines ts (cond b (lines ++ record { first = first; end = i } ∷ []) lines) ≡ tokens_of_lines ts lines ++ put (slice_range ts first i) []
    by_bool true e =
        let lt : first < i = grind (arith, nat_tests) in
        map-append _ lines (record { first = first; end = i } ∷ [])
        ∙ ap (λ v. tokens_of_lines ts lines ++ v) (sym (put-some (slice_range ts first i) (slice-some ts first i lt within)))
    by_bool false e =
        let same : first ≡ i = grind (arith, nat_tests) in
        let none : slice_range ts first i ≡ [] = ap (λ v. slice_range ts v i) same ∙ slice-none ts i in
        sym (ap (λ v. tokens_of_lines ts lines ++ put v []) none ∙ append-nil (tokens_of_lines ts lines))

-- a token that goes on in the line
pub turn-within : (ts : List DriverToken) (lines : List DriverLine) (s n : DriverState) (first i : ℕ) (d : DriverToken) → first ≤ i → i < length ts → m.Within n ≡ machine_step s (get_or ts i d).terminal → cut terminal ts ≡ onto (tokens_of_lines ts lines) (slice_range ts first i) (runs terminal s (drop i ts)) → cut terminal ts ≡ onto (tokens_of_lines ts lines) (slice_range ts first (i + 1)) (runs terminal n (drop (i + 1) ts))
turn-within ts lines s n first i d le lt e h =
    let x = get_or ts i d in
    let rest = drop (i + 1) ts in
    h
    ∙ ap (λ v. onto (tokens_of_lines ts lines) (slice_range ts first i) (runs terminal s v)) (drop_more ts i d lt)
    ∙ ap (λ v. onto (tokens_of_lines ts lines) (slice_range ts first i) (moves_from x rest v (λ k. runs terminal k rest))) (sym e)
    ∙ onto-within (tokens_of_lines ts lines) (slice_range ts first i) x (runs terminal n rest)
    ∙ ap (λ v. onto (tokens_of_lines ts lines) v (runs terminal n rest)) (sym (slice-more ts first i d le lt))

-- a token that begins a line
pub turn-begins : (ts : List DriverToken) (lines more : List DriverLine) (s n : DriverState) (first i : ℕ) (d : DriverToken) → first ≤ i → i < length ts → more ≡ with_line lines first i → m.Begins n ≡ machine_step s (get_or ts i d).terminal → cut terminal ts ≡ onto (tokens_of_lines ts lines) (slice_range ts first i) (runs terminal s (drop i ts)) → cut terminal ts ≡ onto (tokens_of_lines ts more) (slice_range ts i (i + 1)) (runs terminal n (drop (i + 1) ts))
turn-begins ts lines more s n first i d le lt p e h =
    let x = get_or ts i d in
    let rest = drop (i + 1) ts in
    h
    ∙ ap (λ v. onto (tokens_of_lines ts lines) (slice_range ts first i) (runs terminal s v)) (drop_more ts i d lt)
    ∙ ap (λ v. onto (tokens_of_lines ts lines) (slice_range ts first i) (moves_from x rest v (λ k. runs terminal k rest))) (sym e)
    ∙ onto-begins (tokens_of_lines ts lines) (slice_range ts first i) x (runs terminal n rest)
    ∙ ap (λ v. onto v (x ∷ []) (runs terminal n rest)) (sym (parts-with ts lines first i le (omega arith)) ∙ ap (tokens_of_lines ts) (sym p))
    ∙ ap (λ v. onto (tokens_of_lines ts more) v (runs terminal n rest)) (sym (slice-one ts i d lt))
