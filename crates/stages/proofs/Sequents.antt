-- Lists of steps that have the sequents of others.
use Rattle.std.proofs.Common.{◌≡◌, ◌∙◌, ℕ, ◌+◌, List, [], ◌∷◌, ◌++◌, length, take, drop, All, Result, Ok, Err, IfOk, ap, refl, sym, subst, arith}
use Rattle.std.proofs.lemmas.List.{length-append, get_or_append_left}
use Rattle.std.proofs.lemmas.List.Elements.{All-from_get_or, All-weaker, All-append}
use Rattle.std.proofs.Math.Seq.{get_or-append_seam, take-add}
use Rattle.tasks.specs.trees.Tree.{Tree}
use Rattle.kernel.specs.rules.Trees.{StepTree, no_step, step_or}
use Rattle.evidence.specs.Drafts.{DraftTree, Extends}
use Rattle.evidence.specs.Stages.{part_or, HasSequents as DraftHasSequents}
use Rattle.stages.specs.Lifted.{HasSequent, HandedHasSequents, OneHasSequent, ListsHaveSequents}

abbrev sequent_of_step : StepTree → List Tree
sequent_of_step st = st.sequent

-- the sequents of the given steps, in a draft that has grown
pub sequents_kept : (d d' : DraftTree) (handed : List (List StepTree)) → Extends d d' → All (DraftHasSequents d) handed → HandedHasSequents d'.steps handed
sequents_kept d d' handed x all = All-from_get_or (λ part. All (HasSequent d'.steps) part) handed [] (λ i l.
    All-from_get_or (HasSequent d'.steps) (part_or handed i) no_step (λ j m.
    let h = all i [] l j m in
    let e : step_or d'.steps h.0 ≡ step_or d.steps h.0 = ap (λ (z : List StepTree). step_or z h.0) x.steps ∙ get_or_append_left d.steps x.more no_step h.0 h.1.within in
    (h.0, omega (arith, ap length x.steps, length-append d.steps x.more, h.1.within), ap sequent_of_step e ∙ h.1.is)))

-- lists have their own sequents
pub have_own : (lists : List (List StepTree)) → ListsHaveSequents lists lists
have_own lists = All-from_get_or (λ part. All (OneHasSequent lists) part) lists [] (λ i l.
    All-from_get_or (OneHasSequent lists) (part_or lists i) no_step (λ j m. (i, l, (j, m, refl))))

one_among : (lists : List (List StepTree)) (steps : List StepTree) (st : StepTree) → OneHasSequent lists st → OneHasSequent (lists ++ steps ∷ []) st
one_among lists steps st h =
    let e : part_or (lists ++ steps ∷ []) h.0 ≡ part_or lists h.0 = get_or_append_left lists (steps ∷ []) [] h.0 h.1 in
    (h.0, omega (arith, length-append lists (steps ∷ []), h.1), subst (λ (p : List StepTree). HasSequent p st) (sym e) h.2)

one_last : (lists : List (List StepTree)) (steps : List StepTree) (st : StepTree) → HasSequent steps st → OneHasSequent (lists ++ steps ∷ []) st
one_last lists steps st h =
    let e : part_or (lists ++ steps ∷ []) (length lists) ≡ steps = get_or-append_seam lists steps [] [] in
    (length lists, omega (arith, length-append lists (steps ∷ [])), subst (λ (p : List StepTree). HasSequent p st) (sym e) h)

-- one list more
pub have_more : (lists handed : List (List StepTree)) (used count : ℕ) (steps : List StepTree) → ListsHaveSequents lists (take used handed) → HandedHasSequents steps (take count (drop used handed))
    → ListsHaveSequents (lists ++ steps ∷ []) (take (used + count) handed)
have_more lists handed used count steps h g =
    let all = lists ++ steps ∷ [] in
    let P : List StepTree → Type 0 = λ part. All (OneHasSequent all) part in
    let before : All P (take used handed) = All-weaker (λ part. All (OneHasSequent lists) part) P (λ part a. All-weaker (OneHasSequent lists) (OneHasSequent all) (one_among lists steps) part a) (take used handed) h in
    let next : All P (take count (drop used handed)) = All-weaker (λ part. All (HasSequent steps) part) P (λ part a. All-weaker (HasSequent steps) (OneHasSequent all) (one_last lists steps) part a) (take count (drop used handed)) g in
    subst (All P) (sym (take-add used count handed)) (All-append P (take used handed) (take count (drop used handed)) before next)

one_of_lists : (lists between : List (List StepTree)) (st : StepTree) → ListsHaveSequents lists between → OneHasSequent between st → OneHasSequent lists st
one_of_lists lists between st h o =
    let p = h o.0 [] o.1 o.2.0 no_step o.2.1 in
    (p.0, p.1, (p.2.0, p.2.1, p.2.2 ∙ o.2.2))

-- lists that have the sequents of lists that have those of others
pub lists_through : (lists between handed : List (List StepTree)) → ListsHaveSequents lists between → ListsHaveSequents between handed → ListsHaveSequents lists handed
lists_through lists between handed h g =
    All-weaker (λ part. All (OneHasSequent between) part) (λ part. All (OneHasSequent lists) part)
    (λ part a. All-weaker (OneHasSequent between) (OneHasSequent lists) (λ st o. one_of_lists lists between st h o) part a) handed g

one_alone : (steps : List StepTree) (st : StepTree) → OneHasSequent (steps ∷ []) st → HasSequent steps st
one_alone steps st o =
    let e : o.0 ≡ 0 = omega (arith, o.1) in
    subst (λ (i : ℕ). HasSequent (part_or (steps ∷ []) i) st) e o.2

-- one list that has them
pub have_alone : (steps : List StepTree) (handed : List (List StepTree)) → ListsHaveSequents (steps ∷ []) handed → HandedHasSequents steps handed
have_alone steps handed h =
    All-weaker (λ part. All (OneHasSequent (steps ∷ [])) part) (λ part. All (HasSequent steps) part)
    (λ part a. All-weaker (OneHasSequent (steps ∷ [])) (HasSequent steps) (one_alone steps) part a) handed h

pub either_way : {A E : Type 0} (r : Result A E) (P : Type 0) → P → IfOk r (λ _. P)
either_way (Ok a) P p = p
either_way (Err e) P p = tt
