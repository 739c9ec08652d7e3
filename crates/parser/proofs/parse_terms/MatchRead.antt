-- What follows where a match is read.
use Rattle.parser.proofs.parse_terms.Common.{◌≡◌, ℕ, ◌+◌, ◌≤◌, Bool, true, false, List, [], ◌∷◌, ◌++◌, refl, ap, ◌∙◌, arith, append-nil, sym, append_assoc, same, Lexeme, at, SyntaxForm, SyntaxForms, more_forms, no_forms, Branches, SyntaxTree, branch, accessed, cases, more, no_branch, Arm, branches, forms, trees, ArmPart, branch_of, row, branch_own, Begun, CanRead, IsRead, terminal_at, IsAlternative, IsBranch}
use Rattle.tokens_why.specs.declared.terminal.Terminal.TheVariants as t
use Rattle.grammar.specs.declared.symbols.Symbol.TheVariants as s
use Rattle.parser.proofs.parse_terms.Steps.{again, expand, extended_due, follow, many, many_more, missed, next, only, start, unexpand}
use Rattle.parser.proofs.parse_terms.TermSteps.{sure, trees_many}
use Rattle.parser.proofs.parse_terms.FormsRead.{forms_many}

-- alternatives
abbrev pub Patterned : List Lexeme → ℕ → SyntaxForm → List SyntaxForm → ℕ → Type 0
Patterned xs i p fs j = Begun xs 1 (λ k. s.Pat ∷ s.Arm ∷ k) i (λ k. s.Arm ∷ k) (λ k us. (p, (record { patterns = many more_forms fs us.0.patterns; alternatives = us.0.alternatives; body = us.0.body; others = us.0.others }, us.1))) j

module _ (xs : List Lexeme) (i : ℕ) (p : SyntaxForm) (fs : List SyntaxForm) (j : ℕ) (g : Patterned xs i p fs j) where
  pub patterned_more : (f : SyntaxForm) (m : ℕ) → same t.Comma (terminal_at xs j) ≡ true → IsRead xs s.Pat (j + 1) f m → Patterned xs i p (fs ++ f ∷ []) m
  patterned_more f m l r = let q = expand g t.Comma l refl refl in let w = next q r in
      again w 1 refl (λ k us. ap (λ v. (p, (part us.0 v, us.1))) (many_more more_forms fs f us.0.patterns))
    where
      part : ArmPart → SyntaxForms → ArmPart
      part a ps = record { patterns = ps; alternatives = a.alternatives; body = a.body; others = a.others }

  pub alternative_done : same t.Comma (terminal_at xs j) ≡ false → IsAlternative xs i (more_forms p (forms fs)) j
  alternative_done n = record { first = p; others = fs; spelled = refl; ends = n; is = again (by_test (same t.Bar (terminal_at xs j)) refl) 1 refl (λ k us. ap (λ v. (p, (part us.0 v, us.1))) (forms_many fs)) }
    where
      part : ArmPart → SyntaxForms → ArmPart
      part a ps = record { patterns = ps; alternatives = a.alternatives; body = a.body; others = a.others }

      further : i + 1 ≤ j
      further = g.ahead

      by_test : (b : Bool) → same t.Bar (terminal_at xs j) ≡ b → Begun xs 1 (λ k. s.Pat ∷ s.Arm ∷ k) i (λ k. s.Arm ∷ k) (λ k us. (p, (record { patterns = many more_forms fs no_forms; alternatives = us.0.alternatives; body = us.0.body; others = us.0.others }, us.1))) j
      by_test true l = let q = expand g t.Bar l refl refl in sure 1 (unexpand s.Arm (λ k. k) (λ k us. (p, (record { patterns = many more_forms fs no_forms; alternatives = us.0.alternatives; body = us.0.body; others = us.0.others }, us.1))) j t.Bar l refl refl (omega arith) q) further
      by_test false l = let f = only g t.Arrow (t.Comma ∷ t.Bar ∷ []) refl refl (n, (l, tt)) in let q = expand g t.Arrow f refl refl in sure 1 (unexpand s.Arm (λ k. k) (λ k us. (p, (record { patterns = many more_forms fs no_forms; alternatives = us.0.alternatives; body = us.0.body; others = us.0.others }, us.1))) j t.Arrow f refl refl (omega arith) q) further

-- branches
pub record Alternatives (xs : List Lexeme) (i : ℕ) (pss : List SyntaxForms) (j : ℕ) : Type 0 where
  pub first : SyntaxForm
  pub patterns : SyntaxForms
  pub others : List SyntaxForms
  pub spelled : more_forms first patterns ∷ others ≡ pss
  pub ends : same t.Comma (terminal_at xs j) ≡ false
  pub is : Begun xs 1 (λ k. s.Pat ∷ s.Arm ∷ k) i (λ k. s.Arm ∷ k) (λ k us. (first, (record { patterns = patterns; alternatives = others ++ us.0.alternatives; body = us.0.body; others = us.0.others }, us.1))) j

module _ (xs : List Lexeme) (i : ℕ) (pss : List SyntaxForms) (j : ℕ) (g : Alternatives xs i pss j) where
  pub alternatives_more : (fs : SyntaxForms) (m : ℕ) → same t.Bar (terminal_at xs j) ≡ true → IsAlternative xs (j + 1) fs m → Alternatives xs i (pss ++ fs ∷ []) m
  alternatives_more fs m l r = let p = expand g.is t.Bar l refl refl in let w = follow r.is p in record {
    first = g.first;
    patterns = g.patterns;
    others = g.others ++ fs ∷ [];
    spelled = ap (λ v. v ++ fs ∷ []) g.spelled;
    ends = r.ends;
    is = again w 1 refl (λ k us. ap (λ v. (g.first, (part us.0 (g.others ++ v ∷ us.0.alternatives), us.1))) r.spelled ∙ ap (λ v. (g.first, (part us.0 v, us.1))) (sym (append_assoc g.others (fs ∷ []) us.0.alternatives)));
  }
    where
      part : ArmPart → List SyntaxForms → ArmPart
      part a vs = record { patterns = g.patterns; alternatives = vs; body = a.body; others = a.others }

  module _ (n : same t.Bar (terminal_at xs j) ≡ false) where
    pub body_start : Begun xs 1 (λ k. s.Pat ∷ s.Arm ∷ k) i (λ k. s.Expr 0 ∷ s.Branches ∷ k) (λ k us. (g.first, (record { patterns = g.patterns; alternatives = g.others; body = us.0; others = us.1.0 }, us.1.1))) (j + 1)
    body_start = let p = expand g.is t.Arrow (only g.is t.Arrow (t.Comma ∷ t.Bar ∷ []) refl refl (g.ends, (n, tt))) refl refl in
        again p 1 refl (λ k us. ap (λ v. (g.first, (part us.0 us.1.0 v, us.1.1))) (append-nil g.others))
      where
        part : SyntaxTree → Branches → List SyntaxForms → ArmPart
        part e bs vs = record { patterns = g.patterns; alternatives = vs; body = e; others = bs }

-- scrutinees
abbrev pub Matched : List Lexeme → ℕ → List SyntaxTree → ℕ → Type 0
Matched xs i es j = Begun xs 1 (λ k. s.Atom ∷ k) i (λ k. s.Scrutinees ∷ s.Dots ∷ k) (λ k us. (accessed i (cases (at i) (many more es us.0.others) us.0.bar us.0.branches) us.1.0, us.1.1)) j

module _ {xs : List Lexeme} {i : ℕ} (c : CanRead xs s.Atom i) (e : same t.MatchWord (terminal_at xs i) ≡ true) where
  pub match_start : Begun xs 1 (λ k. s.Atom ∷ k) i (λ k. s.Expr 0 ∷ s.Scrutinees ∷ s.Dots ∷ k) (λ k us. (accessed i (cases (at i) (more us.0 us.1.0.others) us.1.0.bar us.1.0.branches) us.1.1.0, us.1.1.1)) (i + 1)
  match_start = let p = expand (start c) t.MatchWord e refl refl in again p 1 refl (λ k us. refl)

abbrev pub with_arm : Arm → Branches → Branches
with_arm b bs = branch b.alternatives b.body bs

pub branches_many : (bs : List Arm) → many with_arm bs no_branch ≡ branches bs
branches_many [] = refl
branches_many (b ∷ bs) = ap (with_arm b) (branches_many bs)

-- a branch is to be read after others
abbrev pub Branching : List Lexeme → ℕ → List SyntaxTree → Bool → List Arm → ℕ → Type 0
Branching xs i es bar bs j = Begun xs 1 (λ k. s.Atom ∷ k) i (λ k. s.Pat ∷ s.Arm ∷ s.Dots ∷ k) (λ k us. (accessed i (cases (at i) (trees es) bar (many with_arm bs (branch_of us.0 us.1.0))) us.1.1.0, us.1.1.1)) j

abbrev pub Branched : List Lexeme → ℕ → List SyntaxTree → Bool → List Arm → ℕ → Type 0
Branched xs i es bar bs j = Begun xs 1 (λ k. s.Atom ∷ k) i (λ k. s.Branches ∷ s.Dots ∷ k) (λ k us. (accessed i (cases (at i) (trees es) bar (many with_arm bs us.0)) us.1.0, us.1.1)) j

module _ (xs : List Lexeme) (i : ℕ) (es : List SyntaxTree) (j : ℕ) (g : Matched xs i es j) where
  module _ (n : same t.Comma (terminal_at xs j) ≡ false) where
    pub with_start : Begun xs 1 (λ k. s.Atom ∷ k) i (λ k. s.Branch ∷ s.Dots ∷ k) (λ k us. (accessed i (cases (at i) (trees es) us.0.bar us.0.branches) us.1.0, us.1.1)) (j + 1)
    with_start = let p = expand g t.WithWord (only g t.WithWord (t.Comma ∷ []) refl refl (n, tt)) refl refl in again p 1 refl (λ k us. ap (λ v. (accessed i (cases (at i) v us.0.bar us.0.branches) us.1.0, us.1.1)) (trees_many es))

    pub barred_start : same t.Bar (terminal_at xs (j + 1)) ≡ true → Branching xs i es true [] (j + 1 + 1)
    barred_start l = let p = expand with_start t.Bar l refl refl in again p 1 refl (λ k us. refl)

    pub bare_start : same t.Bar (terminal_at xs (j + 1)) ≡ false → Branching xs i es false [] (j + 1)
    bare_start l = let p = extended_due with_start s.Pat (s.Arm ∷ []) (λ v vs. record { bar = false; branches = branch_of v vs.0 }) branch_own refl refl (missed (row s.Branch t.Bar (s.Pat ∷ s.Arm ∷ []) (λ i w vs. record { bar = true; branches = branch_of vs.0 vs.1.0 })) [] (terminal_at xs (j + 1)) l refl) in again p 1 refl (λ k us. refl)

module _ (xs : List Lexeme) (i : ℕ) (es : List SyntaxTree) (bar : Bool) (bs : List Arm) (j : ℕ) where
  pub branched_more : (b : Arm) (m : ℕ) → Branching xs i es bar bs j → IsBranch xs j b m → Branched xs i es bar (bs ++ b ∷ []) m
  branched_more b m g r = let p = follow {K = λ k. s.Dots ∷ k} r.is g in again p 1 refl (λ k us. ap (λ v. (accessed i (cases (at i) (trees es) bar (many with_arm bs (branch v b.body us.0))) us.1.0, us.1.1)) r.spelled ∙ ap (λ v. (accessed i (cases (at i) (trees es) bar v) us.1.0, us.1.1)) (many_more with_arm bs b us.0))

  module _ (g : Branched xs i es bar bs j) where
    pub branch_start : same t.Bar (terminal_at xs j) ≡ true → Branching xs i es bar bs (j + 1)
    branch_start l = let p = expand g t.Bar l refl refl in again p 1 refl (λ k us. refl)
