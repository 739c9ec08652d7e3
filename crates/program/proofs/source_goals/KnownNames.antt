-- The names of propositions in theories: one more after others, and in code as in trees.
use Rattle.std.proofs.Common.{◌≡◌, ◌∙◌, ◌<◌, ◌+◌, ◌++◌, ℕ, List, [], ◌∷◌, Option, Some, None, map, length, get_or, take, slice_get, option_to_list, if◌then◌else◌, refl, sym, ap, ap₂}
use Rattle.std.specs.Str.{bytes_eq}
use Rattle.std.proofs.lemmas.List.{append_assoc, append-nil, length-map, take_more}
use Rattle.std.proofs.lemmas.List.Concat.{flat_map-append}
use Rattle.tasks.specs.trees.Tree.{Tree}
use Rattle.tasks.specs.trees.Node.{tree_at}
use Rattle.tasks.specs.declared.declaration.Body.{Body}
use Rattle.tasks.specs.declared.declaration.Body.TheVariants as body
use Rattle.tasks.specs.declared.declaration.Decl.{Decl}
use Rattle.tasks.specs.declared.signature.SymbolInfo.{SymbolInfo}
use Rattle.tasks.specs.Meaning.{symbol_at, symbols_at, body_at, declaration_at, declarations_at}
use Rattle.drivers.specs.driver_items.Symbols.{NamedTheories as NamedTheories}
use Rattle.theories.specs.theory_states.declared.goal_tasks.theories.Theories.{Theories}
use Rattle.theories.specs.theory_states.declared.goal_tasks.theories.Theory.{Theory}
use Rattle.theories.specs.theory_states.goal_tasks.Meaning.{placed, theory_at, theories_at}
use Rattle.program.specs.source_goals.Known.{said_name, own_proposition_name, own_names, known_theory, known_of, named_bytes, AskedSymbol, asked_of, asked_in, IsKnownAs, said_names, own_in, own_names_at, names_in, theory_in}
use Rattle.theories.proofs.theory_states.goal_tasks.Placed.{placed-append, placed_more}

module _ (path : List ℕ) where
  names_at : (o : Option Decl) → names_in path (option_to_list o) ≡ own_names_at path o
  names_at None = refl
  names_at (Some d) = append-nil (own_in path d)

  -- the names at one more place
  pub names_more : (ds : List Decl) (ks : List ℕ) (i k : ℕ) → i < length ks → k ≡ get_or ks i 0
      → names_in path (placed ds (take (i + 1) ks)) ≡ names_in path (placed ds (take i ks)) ++ own_names_at path (slice_get ds k)
  names_more ds ks i k h e =
      ap (names_in path) (placed_more ds ks i k h e) ∙ flat_map-append (own_in path) (placed ds (take i ks)) (option_to_list (slice_get ds k))
      ∙ ap (λ (z : List (List ℕ)). names_in path (placed ds (take i ks)) ++ z) (names_at (slice_get ds k))

module _ (s : List Tree) where
  said_same : (name : List ℕ) (b : Body) → said_names name b ≡ said_name name (body_at s b)
  said_same name (body.TypeSymbol k) = refl
  said_same name (body.Symbol k) = refl
  said_same name (body.Defs ds) = refl
  said_same name (body.Inductives is) = refl
  said_same name (body.Algebraics ts) = refl
  said_same name (body.Prop a) = refl

  own_same : (path : List ℕ) (d : Decl) → own_in path d ≡ own_proposition_name path (declaration_at s d)
  own_same path d = ap (λ (z : List (List ℕ)). if bytes_eq d.theory path then z else []) (said_same d.name d.body)

  names_same : (path : List ℕ) (ds : List Decl) → names_in path ds ≡ own_names path (declarations_at s ds)
  names_same path [] = refl
  names_same path (d ∷ ds) =
      ap (λ (z : List (List ℕ)). z ++ names_in path ds) (own_same path d) ∙ ap (λ (z : List (List ℕ)). own_proposition_name path (declaration_at s d) ++ z) (names_same path ds)

  -- theories in code tell what their trees tell
  pub theories_same : (ds : List Decl) (ts : List Theory) → map (theory_in ds) ts ≡ map known_theory (map (theory_at s ds) ts)
  theories_same ds [] = refl
  theories_same ds (t ∷ ts) =
      let first : theory_in ds t ≡ known_theory (theory_at s ds t) = ap (λ (z : List (List ℕ)). ((known_theory (theory_at s ds t)).0, z)) (names_same t.path (placed ds t.visible)) in
      ap (λ z. z ∷ map (theory_in ds) ts) first ∙ ap (λ z. known_theory (theory_at s ds t) ∷ z) (theories_same ds ts)

-- what a driver asks of entries in code
module _ (s : List Tree) where
  asked_with : SymbolInfo → ℕ → AskedSymbol
  asked_with e n = record { theory = e.theory; name = e.name; kind = e.kind; vars = e.vars; count = n }

  asked_one : (e : SymbolInfo) → asked_in e ≡ asked_of (symbol_at s e)
  unfolding asked_with
  asked_one e = ap (asked_with e) (sym (length-map e.args (tree_at s)))

  asked_same : (es : List SymbolInfo) → map asked_in es ≡ map asked_of (symbols_at s es)
  asked_same [] = refl
  asked_same (e ∷ es) = ap₂ (λ (x : AskedSymbol) (xs : List AskedSymbol). x ∷ xs) (asked_one e) (asked_same es)

-- what the signature and the theories in code tell is known
pub are_known : (s : List Tree) (all : Theories) (infos : List SymbolInfo) (named : NamedTheories) → infos ≡ all.sig.value.symbols → map named_bytes named ≡ map (theory_in all.decls) all.list
    → IsKnownAs (known_of (theories_at s all)) infos named
are_known s all infos named same told = record {
  symbols = ap (map asked_in) same ∙ asked_same s all.sig.value.symbols;
  theories = told ∙ theories_same s all.decls all.list;
}
