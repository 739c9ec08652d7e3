-- The longest token in front of a text, and the text as a whole.
use Rattle.tokens_why.proofs.Common.{◌≡◌, ℕ, ◌-◌, ◌≤◌, List, length, take, drop, Some, None, sym, ap, ◌∙◌, arith, take_all, Token, kind_of, IsLongestTokenAt, HasNone}

whole : (bs : List ℕ) → take (length bs) bs ≡ bs
whole bs = take_all (length bs) bs (omega arith)

pub none_whole : (bs : List ℕ) → HasNone (drop 0 bs) → kind_of bs ≡ None
none_whole bs h = ap kind_of (sym (whole bs)) ∙ h (length bs) (omega arith)

pub some_whole : (bs : List ℕ) (t : Token) → IsLongestTokenAt bs 0 t → t.end ≡ length bs → kind_of bs ≡ Some t.kind
some_whole bs t h e =
    let n : t.end - 0 ≡ length bs = omega (arith, e) in
    ap kind_of (sym (whole bs)) ∙ ap (λ v. kind_of (take v bs)) (sym n) ∙ h.longest.kind

pub shorter : (bs : List ℕ) (t : Token) → IsLongestTokenAt bs 0 t → (t.end ≡ length bs → ⊥) → kind_of bs ≡ None
shorter bs t h e =
    let within : t.end - 0 ≤ length bs = h.longest.within in
    ap kind_of (sym (whole bs)) ∙ h.longest.longest (length bs) (omega (arith, within, e)) (omega arith)
