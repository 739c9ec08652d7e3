-- The texts of the library are sources, each by computation.
use Rattle.std.proofs.Common.{◌≡◌, ℕ, zero, suc, ◌+◌, ◌<◌, ◌≤◌, ◌&&◌, nat_le, Bool, true, false, List, [], ◌∷◌, map, length, take, get_or, All, Option, Some, None, refl, sym, subst, arith}
use Rattle.std.proofs.lemmas.Bool.Decides.{nat_tests}
use Rattle.std.proofs.lemmas.List.{get_or-map, length-map}
use Rattle.std.proofs.lemmas.List.Elements.{All-nil, All-cons}
use Rattle.tokens_why.specs.declared.token.Token.{Token}
use Rattle.tokens_why.specs.Tokens.{AreTokens}
use Rattle.surface.specs.Lexeme.{rest}
use Rattle.tokens_why.specs.declared.terminal.Terminal.{Terminal}
use Rattle.grammar.specs.recognise.Depth.{nesting, nested, counters, depth, most_nested, IsShallow}
use Rattle.grammar.specs.recognise.Sources.{IsSyntaxRefusal}
use Rattle.grammar.specs.declared.recognise.fault.SyntaxFault.{SyntaxFault}
use Rattle.grammar.specs.declared.recognise.fault.SyntaxFault.TheVariants as fault
use Rattle.grammar.specs.declared.symbols.Symbol.TheVariants.{File}
use Rattle.grammar.proofs.recognise.Common.{accepts, terminals_of}
use Rattle.grammar.proofs.recognise.Answering.{is_source}
use Rattle.grammar.proofs.recognise.SpanLemmas.{rest_terminals}
use Rattle.parser.specs.std_theories.Library.{LibraryEntry, IsSourceText, library}
use Rattle.parser.proofs.std_theories.Readings.{one_tokens}
use Rattle.parser.proofs.std_theories.Cut.{tokens_of}
use Rattle.parser.proofs.std_theories.CutTokens.{are_tokens}
use Rattle.plain_laws.proofs.Bools.{and_both as both}

-- ---- how deep tokens are nested
abbrev shallow : List ℕ → List Terminal → Bool
shallow ns [] = true
shallow ns (x ∷ xs) = let inner = nested (nesting x) ns in nat_le (depth inner) most_nested && shallow inner xs

below : (n m : ℕ) → nat_le n m ≡ true → n ≤ m
below n m e = grind (arith, nat_tests)

none_deep : (ns : List ℕ) (xs : List Terminal) → shallow ns xs ≡ true → (j : ℕ) → j < length xs → depth (counters ns (take (j + 1) xs)) ≤ most_nested
none_deep ns [] h j l = absurd (omega arith)
none_deep ns (x ∷ xs) h zero l = below (depth (nested (nesting x) ns)) most_nested (both (nat_le (depth (nested (nesting x) ns)) most_nested) (shallow (nested (nesting x) ns) xs) h).0
none_deep ns (x ∷ xs) h (suc j) l =
    let inner = nested (nesting x) ns in
    let more : suc j + 1 ≡ suc (j + 1) = omega arith in
    let P : ℕ → Type 0 = λ n. depth (counters ns (take n (x ∷ xs))) ≤ most_nested in
    subst P (sym more) (none_deep inner xs (both (nat_le (depth inner) most_nested) (shallow inner xs) h).1 j (omega arith))

-- ---- what is computed of a text
abbrev is_read : Option (List Token) → Bool
is_read None = false
is_read (Some ts) = accepts (File ∷ []) (terminals_of ts) && shallow [] (terminals_of ts)

source_text : (text : List ℕ) (o : Option (List Token)) → tokens_of text ≡ o → is_read o ≡ true → IsSourceText text
source_text text None e h = absurd (cc)
source_text text (Some ts) e h =
    let m = both (accepts (File ∷ []) (terminals_of ts)) (shallow [] (terminals_of ts)) h in
    record {
      tokens = ts;
      are = are_tokens text ts e;
      shallow = subst IsShallow (sym (rest_terminals text ts 0)) (none_deep [] (terminals_of ts) m.1);
      source = is_source text ts (terminals_of ts) refl m.0;
    }

-- ---- each text
abbrev are_read : List LibraryEntry → Bool
are_read [] = true
are_read (e ∷ es) = is_read (tokens_of e.1) && are_read es

source_texts : (es : List LibraryEntry) → are_read es ≡ true → All (λ (e : LibraryEntry). IsSourceText e.1) es
source_texts [] h = All-nil (λ (e : LibraryEntry). IsSourceText e.1)
source_texts (e ∷ es) h =
    let m = both (is_read (tokens_of e.1)) (are_read es) h in
    All-cons (λ (x : LibraryEntry). IsSourceText x.1) e es (source_text e.1 (tokens_of e.1) refl m.0) (source_texts es m.1)

pub all_sources : All (λ (e : LibraryEntry). IsSourceText e.1) library
all_sources = source_texts library refl

-- the text of an entry of the code's table
pub entry_source : {X : Type 0} (f : X → LibraryEntry) (xs : List X) (i : ℕ) (d : X) → map f xs ≡ library → i < length xs → IsSourceText (f (get_or xs i d)).1
entry_source f xs i d e l =
    let P : LibraryEntry → Type 0 = λ x. IsSourceText x.1 in
    let all : All P (map f xs) = subst (All P) (sym e) all_sources in
    subst P (get_or-map f xs i d (f d) l) (all i (f d) (omega (arith, l, length-map xs f)))

-- ---- reading one is refused for want of memory alone
module _ (text : List ℕ) (h : IsSourceText text) where
  tokens_refused : (x : SyntaxFault) → IsSyntaxRefusal (rest text h.tokens 0) x → x ≡ fault.Memory
  tokens_refused fault.Memory r = refl
  tokens_refused (fault.TooDeep i) r = let l = h.shallow i r.within in let d = r.deep in absurd (omega (arith, l, d))
  tokens_refused (fault.Syntax i) r = absurd (r.1.none h.source.file h.source.only.of)
  tokens_refused (fault.ProgramDecl i) r = absurd (r.1.none h.source.file h.source.only.of)

  pub memory_alone : (ts : List Token) → AreTokens text ts → (x : SyntaxFault) → IsSyntaxRefusal (rest text ts 0) x → x ≡ fault.Memory
  memory_alone ts are x r = tokens_refused x (subst (λ (us : List Token). IsSyntaxRefusal (rest text us 0) x) (one_tokens text ts h.tokens are h.are) r)
