-- What a clone makes: the declarations of other theories among it, and that its symbols are made right.
use Rattle.std.proofs.Common.{◌≡◌, ◌≢◌, ℕ, ◌<◌, not, suc, cond, Bool, true, false, List, [], ◌∷◌, ◌++◌, length, All, Contains, refl, sym, ap, ◌∙◌, arith}
use Rattle.std.specs.Str.{bytes_eq}
use Rattle.std.proofs.lemmas.List.Elements.{All-nil, All-cons, All-head, All-tail, All-append}
use Rattle.elab_groups.specs.tasks.Task.{SymbolTree, DeclarationTree, made_by}
use Rattle.clones.specs.Mapped.{Map}
use Rattle.clones.specs.Copies.{declaration_copied}
use Rattle.elaboration_laws.proofs.Words.{self_word}
use Rattle.elaboration_laws.specs.Joined.{has_theory, fresh}
use Rattle.elaboration_laws.specs.Sound.{others}
use Rattle.elaboration_laws.proofs.Used.{theory_other, other_is}
use Rattle.elaboration_laws.specs.Cloning.{IsMadeRight}
use Rattle.elaboration_laws.specs.Steps.{CopyStep, copies, leaves, joins, declarations_of, taken_of, made_from, StepFits}
use Rattle.elaboration_laws.proofs.CopiedSignatures.{copied_right}

-- ---- declarations of other theories
module _ (m : Map) (theory within : List ℕ) (first : List DeclarationTree) where
  other_copy : (d : DeclarationTree) (ds : List DeclarationTree) → d.theory ≡ theory → others theory (d ∷ ds) ≡ others theory ds
  other_copy d ds q =
      let z : bytes_eq d.theory theory ≡ true = ap (λ (t : List ℕ). bytes_eq t theory) q ∙ self_word theory in
      ap (λ (b : Bool). cond (not b) (d ∷ others theory ds) (others theory ds)) z

  other_kept : (d : DeclarationTree) (ds : List DeclarationTree) → d.theory ≢ theory → others theory (d ∷ ds) ≡ d ∷ others theory ds
  other_kept d ds n = ap (λ (b : Bool). cond b (d ∷ others theory ds) (others theory ds)) (other_is theory d n)

  pub others_made : (ss : List CopyStep) → ((d : DeclarationTree) → Contains (taken_of ss) d → d.theory ≢ theory) → others theory (made_from m theory within first ss) ≡ fresh (others theory first) (taken_of ss)
  others_made [] n = refl
  others_made (copies d ∷ ss) n = other_copy (declaration_copied m theory within d) (made_from m theory within first ss) refl ∙ others_made ss n
  others_made (leaves d ∷ ss) n = others_made ss n
  others_made (joins d ∷ ss) n = of (has_theory first d.theory) refl (others_made ss (λ x c. n x (suc c.0, let l = c.1 in omega (arith, l), c.2)))
    where
      apart : d.theory ≢ theory
      apart = n d (0, omega arith, refl)

      same : has_theory (others theory first) d.theory ≡ has_theory first d.theory
      same = theory_other theory first d.theory apart

      of : (b : Bool) → has_theory first d.theory ≡ b → others theory (made_from m theory within first ss) ≡ fresh (others theory first) (taken_of ss)
          → others theory (cond b [] (d ∷ []) ++ made_from m theory within first ss) ≡ fresh (others theory first) (d ∷ taken_of ss)
      of true q z = z ∙ sym (ap (λ (b : Bool). cond (not b) (d ∷ fresh (others theory first) (taken_of ss)) (fresh (others theory first) (taken_of ss))) (same ∙ q))
      of false q z =
          other_kept d (made_from m theory within first ss) apart ∙ ap (λ (ds : List DeclarationTree). d ∷ ds) z
          ∙ sym (ap (λ (b : Bool). cond (not b) (d ∷ fresh (others theory first) (taken_of ss)) (fresh (others theory first) (taken_of ss))) (same ∙ q))

  -- ---- symbols made right
  module _ (xs symbols : List SymbolTree) where
    abbrev Right : List SymbolTree → DeclarationTree → Type 0
    Right es d = All (IsMadeRight es d) (made_by d.body)

    pub made_right_of : (ss : List CopyStep) → All (Right xs) (declarations_of ss) → All (Right symbols) (declarations_of ss) → All (λ (d : DeclarationTree). (k : ℕ) → Contains (made_by d.body) k → k < length xs) (declarations_of ss)
        → All (StepFits xs m symbols theory within first) ss → All (Right symbols) (made_from m theory within first ss)
    made_right_of [] r s l f = All-nil (Right symbols)
    made_right_of (copies d ∷ ss) r s l f =
        let fit = All-head (StepFits xs m symbols theory within first) (copies d) ss f in
        All-append (Right symbols) (declaration_copied m theory within d ∷ []) (made_from m theory within first ss)
        (copied_right xs symbols m theory within d (All-head (λ (d : DeclarationTree). (k : ℕ) → Contains (made_by d.body) k → k < length xs) d (declarations_of ss) l) (λ i k n. (fit.0 i k n).0) (All-head (Right xs) d (declarations_of ss) r))
        (made_right_of ss (All-tail (Right xs) d (declarations_of ss) r) (All-tail (Right symbols) d (declarations_of ss) s) (All-tail (λ (d : DeclarationTree). (k : ℕ) → Contains (made_by d.body) k → k < length xs) d (declarations_of ss) l) (All-tail (StepFits xs m symbols theory within first) (copies d) ss f))
    made_right_of (leaves d ∷ ss) r s l f =
        made_right_of ss (All-tail (Right xs) d (declarations_of ss) r) (All-tail (Right symbols) d (declarations_of ss) s) (All-tail (λ (d : DeclarationTree). (k : ℕ) → Contains (made_by d.body) k → k < length xs) d (declarations_of ss) l) (All-tail (StepFits xs m symbols theory within first) (leaves d) ss f)
    made_right_of (joins d ∷ ss) r s l f =
        of (has_theory first d.theory) (All-head (Right symbols) d (declarations_of ss) s)
        (made_right_of ss (All-tail (Right xs) d (declarations_of ss) r) (All-tail (Right symbols) d (declarations_of ss) s) (All-tail (λ (d : DeclarationTree). (k : ℕ) → Contains (made_by d.body) k → k < length xs) d (declarations_of ss) l) (All-tail (StepFits xs m symbols theory within first) (joins d) ss f))
      where
        of : (b : Bool) → Right symbols d → All (Right symbols) (made_from m theory within first ss) → All (Right symbols) (cond b [] (d ∷ []) ++ made_from m theory within first ss)
        of true x y = y
        of false x y = All-cons (Right symbols) d (made_from m theory within first ss) x y
