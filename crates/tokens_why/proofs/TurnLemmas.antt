-- How the reading of a text goes on: what has been found is the beginning of every reading.
use Rattle.tokens_why.proofs.Common.{◌≡◌, ℕ, ◌-◌, ◌<◌, List, [], ◌∷◌, ◌++◌, slice_range, Some, None, refl, sym, ap, ◌∙◌, subst, arith, append_assoc, append-nil, next, kind_of, IsToken, TokenBegins, LiteralFits, Exceeds, Stop, whole, lexical, big, Stops, Reads, Token, TokenKind}

-- one token begins at a byte
same-end : (text : List ℕ) (t u : Token) → t.start ≡ u.start → IsToken text t → IsToken text u → t.end < u.end → ⊥
same-end text t u e it iu lt =
    let n : kind_of (slice_range text t.start u.end) ≡ None = it.longest u.end lt iu.within in
    let k : kind_of (slice_range text t.start u.end) ≡ Some u.kind = ap (λ v. kind_of (slice_range text v u.end)) e ∙ iu.kind in
    cc

some-inj : (k l : TokenKind) → Some k ≡ Some l → k ≡ l
some-inj k l e = cc

pub one-token : (text : List ℕ) (t u : Token) → t.start ≡ u.start → IsToken text t → IsToken text u → t ≡ u
one-token text t u e it iu =
    let above : (t.end < u.end → ⊥) = same-end text t u e it iu in
    let below : (u.end < t.end → ⊥) = same-end text u t (sym e) iu it in
    let ends : t.end ≡ u.end = omega arith in
    let k : t.kind ≡ u.kind = some-inj _ _ (sym it.kind ∙ ap (λ v. kind_of (slice_range text v t.end)) e ∙ ap (λ v. kind_of (slice_range text u.start v)) ends ∙ iu.kind) in
    let p : TokenKind → Token = λ v. record { kind = v; start = t.start; end = t.end } in
    let q : ℕ → Token = λ v. record { kind = u.kind; start = v; end = t.end } in
    let r : ℕ → Token = λ v. record { kind = u.kind; start = u.start; end = v } in
    ap p k ∙ ap q e ∙ ap r ends

-- no token that fits begins where a reading stops
no-more : (text : List ℕ) (stop : Stop) (at : ℕ) (t : Token) → Stops text stop at → t.start ≡ at → IsToken text t → LiteralFits text t → ⊥
no-more text whole at t s e is fits = let some = is.some in let within = is.within in let n : ⊥ = omega (arith, s) in n
no-more text (lexical b) at t s e is fits = s.none t (e ∙ s.here, is)
no-more text (big b) at t s e is fits =
    let same : s.token ≡ t = one-token text s.token t (s.begins.0 ∙ sym s.here ∙ sym e) s.begins.1 is in
    let x : Exceeds text t = subst (Exceeds text) same s.exceeds in
    let f = fits x.0 in
    let g = x.1 in
    let n : ⊥ = omega arith in n

-- a reading stops in one way
one-stop : (text : List ℕ) (stop other : Stop) (at : ℕ) → Stops text stop at → Stops text other at → other ≡ stop
one-stop text whole whole at s o = refl
one-stop text whole (lexical b) at s o = let h = o.here in let w = o.within in let n : ⊥ = omega (arith, s) in absurd n
one-stop text whole (big b) at s o = let h = o.here in let e = o.begins.0 in let i = o.begins.1.some in let w = o.begins.1.within in let n : ⊥ = omega (arith, s) in absurd n
one-stop text (lexical b) whole at s o = let h = s.here in let w = s.within in let n : ⊥ = omega (arith, o) in absurd n
one-stop text (lexical b) (lexical c) at s o = ap lexical (sym o.here ∙ s.here)
one-stop text (lexical b) (big c) at s o = absurd (s.none o.token (o.begins.0 ∙ sym o.here ∙ s.here, o.begins.1))
one-stop text (big b) whole at s o = let h = s.here in let e = s.begins.0 in let i = s.begins.1.some in let w = s.begins.1.within in let n : ⊥ = omega (arith, o) in absurd n
one-stop text (big b) (lexical c) at s o = absurd (o.none s.token (s.begins.0 ∙ sym s.here ∙ o.here, s.begins.1))
one-stop text (big b) (big c) at s o = ap big (sym o.here ∙ s.here)

-- a turn of the loop: up to a byte these tokens have been found
pub record Turn (text : List ℕ) (at : ℕ) (found : List Token) : Type 0 where
  pub made : (stop : Stop) (more : List Token) → Reads text stop at more → Reads text stop 0 (found ++ more)
  pub only : (stop : Stop) (all : List Token) → Reads text stop 0 all → (more : List Token) × (all ≡ found ++ more) × Reads text stop at more

pub first : (text : List ℕ) → Turn text 0 []
first text = record { made = λ stop more r. r; only = λ stop all r. (all, refl, r) }

only-more : (text : List ℕ) (at : ℕ) (t : Token) (stop : Stop) → TokenBegins text (next text at) t → LiteralFits text t → (more : List Token) → Reads text stop at more → (rest : List Token) × (more ≡ t ∷ rest) × Reads text stop t.end rest
only-more text at t stop b fits [] r = absurd (no-more text stop (next text at) t r b.0 b.1 fits)
only-more text at t stop b fits (u ∷ us) r =
    let same : u ≡ t = one-token text u t (r.0 ∙ sym b.0) r.1 b.1 in
    (us, ap (λ v. v ∷ us) same, subst (λ v. Reads text stop v.end us) same r.3)

pub turn : (text : List ℕ) (at : ℕ) (t : Token) (found found' : List Token) → TokenBegins text (next text at) t → LiteralFits text t → found' ≡ found ++ (t ∷ []) → Turn text at found → Turn text t.end found'
turn text at t found found' b fits is h = record {
  made = λ stop more r.
      subst (Reads text stop 0) (sym (ap (λ v. v ++ more) is ∙ append_assoc found (t ∷ []) more)) (h.made stop (t ∷ more) (b.0, b.1, fits, r));
  only = λ stop all r.
      let p = h.only stop all r in
      let q = only-more text at t stop b fits p.0 p.2 in
      (q.0, p.1 ∙ ap (λ v. found ++ v) q.1 ∙ sym (append_assoc found (t ∷ []) q.0) ∙ ap (λ v. v ++ q.0) (sym is), q.2);
}

-- the one reading of a text
pub record Reading (text : List ℕ) (stop : Stop) (found : List Token) : Type 0 where
  pub reads : Reads text stop 0 found
  pub only : (other : Stop) (all : List Token) → Reads text other 0 all → (other ≡ stop) × (all ≡ found)

nothing-more : (text : List ℕ) (at : ℕ) (stop other : Stop) → Stops text stop (next text at) → (more : List Token) → Reads text other at more → (other ≡ stop) × (more ≡ [])
nothing-more text at stop other s [] r = (one-stop text stop other (next text at) s r, refl)
nothing-more text at stop other s (u ∷ us) r = absurd (no-more text stop (next text at) u s r.0 r.1 r.2)

pub stopped : (text : List ℕ) (at : ℕ) (stop : Stop) (found : List Token) → Stops text stop (next text at) → Turn text at found → Reading text stop found
stopped text at stop found s h = record {
  reads = subst (Reads text stop 0) (append-nil found) (h.made stop [] s);
  only = λ other all r.
      let p = h.only other all r in
      let q = nothing-more text at stop other s p.0 p.2 in
      (q.0, p.1 ∙ ap (λ v. found ++ v) q.1 ∙ append-nil found);
}
