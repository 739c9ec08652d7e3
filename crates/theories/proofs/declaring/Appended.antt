-- The moves of names after others.
use Rattle.std.proofs.Common.{◌≡◌, ℕ, List, [], ◌∷◌, ◌++◌, map, Option, Some, None, Result, Ok, Err, OnOk, refl, sym, ap, ◌∙◌, append_assoc, append-nil}
use Rattle.std.proofs.lemmas.List.{map-append}
use Rattle.elab_groups.specs.scopes.Names.{ScopeNames}
use Rattle.elab_groups.specs.scopes.declared.Table.{Table}
use Rattle.elab_groups.specs.scopes.declared.Table.TheVariants.{Types, Symbols}
use Rattle.theory_states.specs.declared.moves.Move.{Move}
use Rattle.surface.specs.declared.names.At.{At}
use Rattle.surface.specs.declared.names.Name.{Name}
use Rattle.surface.specs.Forms.{SyntaxForm}
use Rattle.surface.specs.Declarations.{type_decl}
use Rattle.elab_groups.specs.parts.Declarations.{TokenName, Made, makes, binds_names, word}
use Rattle.theories.specs.declaring.Made.{thing_named, brought_as, moves_made, moves_declared}

pub on_ok : {E : Type 0} (r : Result Unit E) (P Q : Type 0) → (P → Q) → OnOk r P → OnOk r Q
on_ok (Ok u) P Q f h = f h
on_ok (Err e) P Q f h = tt

moves_made-append : (names : ScopeNames) (xs ys : List Made) → moves_made names (xs ++ ys) ≡ moves_made names xs ++ moves_made names ys
moves_made-append names [] ys = refl
moves_made-append names (makes table c ∷ xs) ys =
    let first = brought_as table c.name (thing_named names table c.name) in
    ap (λ (ms : List (Move ℕ)). first ++ ms) (moves_made-append names xs ys) ∙ sym (append_assoc first (moves_made names xs) (moves_made names ys))
moves_made-append names (binds_names cs ∷ xs) ys = moves_made-append names xs ys

-- a name of a symbol, and others after it
pub name_before : (names : ScopeNames) (table : Table) (c : TokenName) (xs : List Made) (old one new : List (Move ℕ)) → one ≡ old ++ moves_made names (makes table c ∷ []) → new ≡ one ++ moves_made names xs → new ≡ old ++ moves_made names (makes table c ∷ xs)
name_before names table c xs old one new p q =
    let first = brought_as table c.name (thing_named names table c.name) in
    let more = moves_made names xs in
    q ∙ (ap (λ (ms : List (Move ℕ)). ms ++ more) p ∙ (append_assoc old (first ++ []) more ∙ ap (λ (ms : List (Move ℕ)). old ++ (ms ++ more)) (append-nil first)))

pub names_both : (names : ScopeNames) (cs ds : List TokenName) (old one new : List (Move ℕ)) → one ≡ old ++ moves_made names (map (makes Symbols) cs) → new ≡ one ++ moves_made names (map (makes Symbols) ds)
    → new ≡ old ++ moves_made names (map (makes Symbols) (cs ++ ds))
names_both names cs ds old one new p q =
    let xs = map (makes Symbols) cs in
    let ys = map (makes Symbols) ds in
    q ∙ (ap (λ (ms : List (Move ℕ)). ms ++ moves_made names ys) p ∙ (append_assoc old (moves_made names xs) (moves_made names ys)
    ∙ ap (λ (ms : List (Move ℕ)). old ++ ms) (sym (moves_made-append names xs ys) ∙ ap (moves_made names) (sym (map-append (makes Symbols) cs ds)))))

-- a name, and others after it
pub name_then : (names : ScopeNames) (table : Table) (c : TokenName) (vs : List TokenName) (xs : List Made) (old one new : List (Move ℕ)) → one ≡ old ++ moves_made names (makes table c ∷ []) → new ≡ one ++ moves_made names xs → new ≡ old ++ moves_made names (makes table c ∷ binds_names vs ∷ xs)
name_then names table c vs xs old one new p q = name_before names table c xs old one new p q

pub name_then_both : (names : ScopeNames) (table : Table) (c : TokenName) (vs : List TokenName) (xs ys : List Made) (old one two new : List (Move ℕ)) → one ≡ old ++ moves_made names (makes table c ∷ []) → two ≡ one ++ moves_made names xs → new ≡ two ++ moves_made names ys
    → new ≡ old ++ moves_made names (makes table c ∷ binds_names vs ∷ (xs ++ ys))
name_then_both names table c vs xs ys old one two new p q r =
    let both : new ≡ one ++ moves_made names (xs ++ ys) = r ∙ (ap (λ (ms : List (Move ℕ)). ms ++ moves_made names ys) q ∙ (append_assoc one (moves_made names xs) (moves_made names ys) ∙ ap (λ (ms : List (Move ℕ)). one ++ ms) (sym (moves_made-append names xs ys)))) in
    name_then names table c vs (xs ++ ys) old one new p both

-- of a type with or without a definition
pub type_moves : (names : ScopeNames) (a : At) (n : Name) (vs : List Name) (f : Option SyntaxForm) → moves_declared names (type_decl a n vs f) ≡ moves_made names (makes Types (word n) ∷ [])
type_moves names a n vs None = refl
type_moves names a n vs (Some f) = refl
