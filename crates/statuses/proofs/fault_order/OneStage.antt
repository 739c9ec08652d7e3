-- Stages that have one answer at most.
use Rattle.std.proofs.Common.{◌≡◌, ◌⊎◌, ◌∙◌, Result, Ok, Err, inl, inr, sym, subst}
use Rattle.statuses.specs.fault_order.Order.{RunStop, Stage, Answer, After, HasOneAnswer}

pub one_answer : {A : Type 0} (its : Result A RunStop) → HasOneAnswer (Answer its)
one_answer its r q a b = a ∙ sym b

after_both : {A B : Type 0} (first : Stage A) (second : A → Stage B) → HasOneAnswer first → ((a : A) → HasOneAnswer (second a)) → (r q : Result B RunStop)
    → ((stop : RunStop) × first (Err stop) × (r ≡ Err stop)) ⊎ ((a : A) × first (Ok a) × second a r)
    → ((stop : RunStop) × first (Err stop) × (q ≡ Err stop)) ⊎ ((a : A) × first (Ok a) × second a q) → r ≡ q
after_both first second one each r q (inl x) (inl y) = let e : Err x.0 ≡ Err y.0 = one (Err x.0) (Err y.0) x.1 y.1 in x.2 ∙ cc (e, y.2)
after_both first second one each r q (inl x) (inr y) = let e = one (Err x.0) (Ok y.0) x.1 y.1 in absurd (cc)
after_both first second one each r q (inr x) (inl y) = let e = one (Ok x.0) (Err y.0) x.1 y.1 in absurd (cc)
after_both first second one each r q (inr x) (inr y) =
    let e : Ok x.0 ≡ Ok y.0 = one (Ok x.0) (Ok y.0) x.1 y.1 in
    let same : x.0 ≡ y.0 = cc in
    each y.0 r q (subst (λ a. second a r) same x.2) y.2

pub one_after : {A B : Type 0} (first : Stage A) (second : A → Stage B) → HasOneAnswer first → ((a : A) → HasOneAnswer (second a)) → HasOneAnswer (After first second)
one_after first second one each r q x y = after_both first second one each r q x y
