-- What is left of a declaration says what it says itself.
use Rattle.std.proofs.Common.{◌≡◌, ◌∷◌, [], Bool, true, false, ◌||◌, if◌then◌else◌, ℕ, ◌+◌, ◌<◌, List, length, map, get_or, drop, refl, sym, ap, ◌∙◌}
use Rattle.std.specs.List.{Contains, list_any}
use Rattle.std.proofs.lemmas.List.{at_drop_more}
use Rattle.tasks.specs.Task.{props_of}
use Rattle.tasks.specs.Facts.{body_facts}
use Rattle.declarations.specs.Said.{content, AreSaid, AreOwnFacts, own_said}
use Rattle.declarations.specs.lemmas.Said.{own_props, own_facts, none_said}
use Rattle.tr_remove.specs.Remove.{is_removed, removal_rule, left_said}

pub left_props : (props : List (List ℕ × List ℕ)) → AreSaid (removal_rule props) (left_said props)
left_props props symbols n d = by (is_removed props d)
  where
    by : (r : Bool) → props_of (if r then [] else d ∷ []) ≡ map content (if r then [] else own_said n d d.body)
    by true = refl
    by false = own_props n d

pub left_facts : (props : List (List ℕ × List ℕ)) → AreOwnFacts (left_said props)
left_facts props symbols n d x = by (is_removed props d)
  where
    by : (r : Bool) → Contains (if r then [] else own_said n d d.body) x → Contains (body_facts symbols n d.vars d.body) x
    by true c = none_said x c
    by false c = own_facts symbols n d x c

-- ---- whether a name is among the rest of a list
pub any_here : {A : Type 0} (f : A → Bool) (xs : List A) (i : ℕ) (x : A) → i < length xs → x ≡ get_or xs i x → f x ≡ true → list_any f (drop i xs) ≡ true
any_here f xs i x l q t = at_drop_more (list_any f) xs i x l ∙ ap (λ z. f z || list_any f (drop (i + 1) xs)) (sym q) ∙ ap (λ b. b || list_any f (drop (i + 1) xs)) t

pub any_further : {A : Type 0} (f : A → Bool) (xs : List A) (i : ℕ) (x : A) → i < length xs → x ≡ get_or xs i x → f x ≡ false → list_any f (drop i xs) ≡ list_any f (drop (i + 1) xs)
any_further f xs i x l q t = at_drop_more (list_any f) xs i x l ∙ ap (λ z. f z || list_any f (drop (i + 1) xs)) (sym q) ∙ ap (λ b. b || list_any f (drop (i + 1) xs)) t
