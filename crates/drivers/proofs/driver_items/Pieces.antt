-- Turns of the reading of a template.
use Rattle.std.proofs.Common.{◌≡◌, ℕ, ◌+◌, ◌-◌, ◌<◌, Bool, true, false, ◌&&◌, nat_eq, nat_le, cond, List, [], ◌∷◌, ◌++◌, length, get_or, drop, Option, Some, None, refl, sym, ap, subst, ◌∙◌, append_assoc}
use Rattle.std.proofs.lemmas.List.{drop_more}
use Rattle.drivers.specs.declared.driver_items.kinds.Piece.{Piece}
use Rattle.drivers.specs.declared.driver_items.kinds.Piece.TheVariants.{Argument}
use Rattle.drivers.specs.driver_items.Templates.{literal_pieces, pieces_from, pieces_onto, GoesOnPlain, GoesOnEscaped, GoesOn}

pub onto-none : (r : Option (List Piece)) → pieces_onto [] r ≡ r
onto-none None = refl
onto-none (Some ps) = refl

onto-twice : (a b : List Piece) (r : Option (List Piece)) → pieces_onto a (pieces_onto b r) ≡ pieces_onto (a ++ b) r
onto-twice a b None = refl
onto-twice a b (Some ps) = ap Some (sym (append_assoc a b ps))

-- a digit after `%` ends the literal
pub digit-turn : (a : ℕ) (old new : List Piece) (before after : List ℕ) → nat_eq a 37 ≡ false → (nat_le 49 a && nat_le a 57) ≡ true → new ≡ (old ++ literal_pieces before) ++ Argument (a - 49) ∷ [] → after ≡ [] → GoesOnEscaped a old before new after true
digit-turn a old new before after p d e n = λ bs.
    ap (λ v. pieces_onto old (cond v (pieces_from false (before ++ 37 ∷ []) bs) (cond (nat_le 49 a && nat_le a 57) (pieces_onto (literal_pieces before) (pieces_onto (Argument (a - 49) ∷ []) (pieces_from false [] bs))) None))) p
    ∙ ap (λ v. pieces_onto old (cond v (pieces_onto (literal_pieces before) (pieces_onto (Argument (a - 49) ∷ []) (pieces_from false [] bs))) None)) d
    ∙ onto-twice old (literal_pieces before) _
    ∙ onto-twice (old ++ literal_pieces before) (Argument (a - 49) ∷ []) (pieces_from false [] bs)
    ∙ ap (λ v. pieces_onto v (pieces_from false [] bs)) (sym e)
    ∙ ap (λ v. pieces_onto new (pieces_from false v bs)) (sym n)

-- a byte by whether a `%` is before it
pub plain-byte : (percent next : Bool) (byte : ℕ) (old : List Piece) (before after : List ℕ) → percent ≡ false → GoesOnPlain byte before after next → GoesOn percent byte old before old after (Some next)
plain-byte percent next byte old before after e g = λ bs. ap (λ (v : Bool). pieces_onto old (pieces_from v before (byte ∷ bs))) e ∙ ap (pieces_onto old) (g bs)

pub escaped-byte : (percent stands : Bool) (byte : ℕ) (old new : List Piece) (before after : List ℕ) → percent ≡ true → stands ≡ true → GoesOnEscaped byte old before new after stands → GoesOn percent byte old before new after (Some false)
escaped-byte percent stands byte old new before after e q g =
    let h : GoesOnEscaped byte old before new after true = subst (GoesOnEscaped byte old before new after) q g in
    λ bs. ap (λ (v : Bool). pieces_onto old (pieces_from v before (byte ∷ bs))) e ∙ h bs

pub refused-byte : (percent stands : Bool) (byte : ℕ) (old new : List Piece) (before after : List ℕ) → percent ≡ true → stands ≡ false → GoesOnEscaped byte old before new after stands → GoesOn percent byte old before new after None
refused-byte percent stands byte old new before after e q g =
    let h : GoesOnEscaped byte old before new after false = subst (GoesOnEscaped byte old before new after) q g in
    λ bs. ap (λ (v : Bool). pieces_from v before (byte ∷ bs)) e ∙ h bs

-- one byte more of a template
module _ (template : List ℕ) (i d : ℕ) (percent : Bool) (old new : List Piece) (before after : List ℕ) (whole : Option (List Piece)) (lt : i < length template)
    (so_far : pieces_onto old (pieces_from percent before (drop i template)) ≡ whole) where
  rest : pieces_onto old (pieces_from percent before (get_or template i d ∷ drop (i + 1) template)) ≡ whole
  rest = ap (λ (v : List ℕ). pieces_onto old (pieces_from percent before v)) (sym (drop_more template i d lt)) ∙ so_far

  pub byte-more : (next : Bool) → GoesOn percent (get_or template i d) old before new after (Some next) → pieces_onto new (pieces_from next after (drop (i + 1) template)) ≡ whole
  byte-more next g = sym (g (drop (i + 1) template)) ∙ rest

  pub byte-ends : GoesOn percent (get_or template i d) old before new after None → None ≡ whole
  byte-ends g = sym (ap (pieces_onto old) (g (drop (i + 1) template))) ∙ rest
