-- How reading goes on after expressions that end open or not.
use Rattle.parser.proofs.parse_terms.Common.{◌≡◌, ℕ, ◌+◌, ◌≤◌, true, false, List, [], ◌∷◌, Some, refl, sym, ap, ◌∙◌, subst, arith, Symbol, Lexeme, SyntaxTree, ends_open, more, none, trees, Chain, attach, first_token, stop, Val, Vals, at_end, values_over, read, blanked, plain, Begun, Climb, IsExpr, lexemes_from}
use Rattle.grammar.specs.declared.symbols.Symbol.TheVariants as s
use Rattle.parser.proofs.parse_terms.Steps.{many}

pub trees_many : (es : List SyntaxTree) → many more es none ≡ trees es
trees_many [] = refl
trees_many (e ∷ es) = ap (more e) (trees_many es)

-- so many tokens further at least
pub sure : {xs : List Lexeme} {n : ℕ} {from : List Symbol → List Symbol} {i : ℕ} {to : List Symbol → List Symbol} {act : (k : List Symbol) → Vals (to k) → Vals (from k)} {j : ℕ} (p : ℕ) → Begun xs n from i to act j → i + p ≤ j → Begun xs p from i to act j
sure p g h = record { ahead = h; within = g.within; can = g.can; reads = g.reads }

-- after a seal
unseal : (zs : List Lexeme) (j : ℕ) (k : List Symbol) (vs : Val s.Seal × Vals k) → read zs j false (s.Seal ∷ k) ≡ Some vs → read zs j true k ≡ Some vs.1
unseal [] j k vs h = (blanked s.Seal k tt (at_end k) vs h).1
unseal (x ∷ xs) j k vs h = (blanked s.Seal k tt (values_over (λ k'. read xs (j + 1) false k') j x true k) vs h).1

hush : (zs : List Lexeme) (j m u : ℕ) (k : List Symbol) (v : Vals k) → read zs j true k ≡ Some v → read zs j true (s.Tail m u ∷ k) ≡ Some (stop, v)
hush [] j m u k v h = rw h refl
hush (x ∷ xs) j m u k v h = rw h refl

pub silent : (zs : List Lexeme) (j m p : ℕ) (k : List Symbol) (vs : Chain × Vals k) → read zs j true (s.Tail m p ∷ k) ≡ Some vs → (vs.0 ≡ stop) × (read zs j true k ≡ Some vs.1)
silent [] j m p k vs h = blanked (s.Tail m p) k stop (at_end k) vs h
silent (x ∷ xs) j m p k vs h = blanked (s.Tail m p) k stop (values_over (λ k'. read xs (j + 1) false k') j x true k) vs h

-- A tree made of the expression that follows, then operators.
pub under : (f : SyntaxTree → SyntaxTree) {xs : List Lexeme} {m i p u j : ℕ} {e : SyntaxTree} {q : ℕ} → Begun xs 1 (λ k. s.Expr m ∷ k) i (λ k. s.Expr p ∷ s.Tail m u ∷ k) (λ k us. (attach (f us.0) us.1.0, us.1.1)) j → first_token (f e) ≡ i → ends_open (f e) ≡ ends_open e → IsExpr xs p j e q → Climb xs m i (f e) u q
under f {xs} {m} {i} {p} {u} {j} {e} {q} g h o r = let l = g.ahead in let a = r.ahead in record {
  ahead = omega arith;
  within = r.within;
  first = h;
  can = (let w = g.reads g.can.following g.can.values g.can.reads in (g.can.following, w.0.1, subst (λ b. read (lexemes_from xs q) q b (s.Tail m u ∷ g.can.following) ≡ Some w.0.1) (sym o) (r.reads (s.Tail m u ∷ g.can.following) w.0 w.1).1));
  reads = λ k vs y. (let w = g.reads k vs y in let z = r.reads (s.Tail m u ∷ k) w.0 w.1 in
      (w.0.1.0, ap (λ v. v.0) (sym w.2) ∙ ap (λ v. attach (f v) w.0.1.0) z.0, subst (λ b. read (lexemes_from xs q) q b (s.Tail m u ∷ k) ≡ Some (w.0.1.0, vs.1)) (sym o) (z.1 ∙ ap (λ v. Some (w.0.1.0, v.1)) w.2)));
}

-- An open form whose last part follows: no operator comes after it.
pub sealed_expr : {xs : List Lexeme} {m i j : ℕ} {act : (k : List Symbol) → Vals (s.Expr 0 ∷ s.Seal ∷ k) → Vals (s.Expr m ∷ k)} {e : SyntaxTree} {q : ℕ} → Begun xs 1 (λ k. s.Expr m ∷ k) i (λ k. s.Expr 0 ∷ s.Seal ∷ k) act j → IsExpr xs 0 j e q → (v : SyntaxTree) → ((k : List Symbol) (us : Vals k) → act k (e, (tt, us)) ≡ (v, us)) → first_token v ≡ i → ends_open v ≡ true → Climb xs m i v 0 q
sealed_expr {xs} {m} {i} {j} {act} {e} {q} g r v f h o = let l = g.ahead in let a = r.ahead in record {
  ahead = omega arith;
  within = r.within;
  first = h;
  can = (let y = parts g.can.following g.can.values g.can.reads in (g.can.following, (stop, g.can.values.1), subst (λ b. read (lexemes_from xs q) q b (s.Tail m 0 ∷ g.can.following) ≡ Some (stop, g.can.values.1)) (sym o) (hush (lexemes_from xs q) q m 0 g.can.following g.can.values.1 y.1)));
  reads = λ k vs y. (let z = parts k vs y in (stop, z.0, subst (λ b. read (lexemes_from xs q) q b (s.Tail m 0 ∷ k) ≡ Some (stop, vs.1)) (sym o) (hush (lexemes_from xs q) q m 0 k vs.1 z.1)));
}
  where
    parts : (k : List Symbol) (vs : SyntaxTree × Vals k) → read (lexemes_from xs i) i false (s.Expr m ∷ k) ≡ Some vs → (vs.0 ≡ v) × (read (lexemes_from xs q) q true k ≡ Some vs.1)
    parts k vs y = let w = g.reads k vs y in let z = r.reads (s.Seal ∷ k) w.0 w.1 in
        let x : act k w.0 ≡ (v, w.0.1.1) = ap (λ u. act k (u, w.0.1)) z.0 ∙ f k w.0.1.1 in
        (ap (λ u. u.0) (sym w.2 ∙ x), unseal (lexemes_from xs q) q k w.0.1 (plain (lexemes_from xs q) q (ends_open e) s.Seal k w.0.1 refl z.1) ∙ ap (λ u. Some u.1) (sym x ∙ w.2))
