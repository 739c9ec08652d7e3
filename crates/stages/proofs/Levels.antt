-- How the tasks of a level become those of the next one.
use Rattle.std.proofs.Common.{◌≡◌, ◌∙◌, ℕ, zero, suc, ◌<◌, ◌≤◌, ◌+◌, List, [], ◌∷◌, ◌++◌, length, map, get_or, take, drop, Ok, refl, ap, sym, subst, arith}
use Rattle.std.proofs.lemmas.List.{length-append, take_all, take_more, take-append-le, drop_all, drop_more, drop-append-le, map-append}
use Rattle.tasks.specs.Task.{TaskTree}
use Rattle.evidence.specs.Stages.{StageEquation, no_task}
use Rattle.stages.specs.declared.transformations.transformation.Transformation.{Transformation}
use Rattle.stages.specs.transformations.Transformations.{equation_of}
use Rattle.stages.specs.Levels.{LevelTree, BecomeEach, next_tasks, AreLevels}

-- ---- the tasks of a level
-- one task more
pub become_more : (f : StageEquation) (ts : List TaskTree) (ns : List ℕ) (us : List TaskTree) (t : TaskTree) (vs : List TaskTree) (n : ℕ) → BecomeEach f ts ns us → f t ≡ Ok vs → n ≡ length vs
    → BecomeEach f (ts ++ t ∷ []) (ns ++ n ∷ []) (us ++ vs)
become_more f [] [] us t vs n h e l =
    let none : us ≡ [] = h in
    let alone : BecomeEach f (t ∷ []) (n ∷ []) vs = (omega (arith, l), e ∙ ap (λ (z : List TaskTree). Ok z) (sym (take_all n vs (omega (arith, l)))), drop_all n vs (omega (arith, l))) in
    subst (λ (z : List TaskTree). BecomeEach f (t ∷ []) (n ∷ []) (z ++ vs)) (sym none) alone
become_more f (x ∷ xs) (m ∷ ms) us t vs n h e l =
    let rest : drop m us ++ vs ≡ drop m (us ++ vs) = sym (drop-append-le m us vs h.0) in (
      omega (arith, h.0, length-append us vs),
      h.1 ∙ ap (λ (z : List TaskTree). Ok z) (sym (take-append-le m us vs h.0)),
      subst (λ (z : List TaskTree). BecomeEach f (xs ++ t ∷ []) (ms ++ n ∷ []) z) rest (become_more f xs ms (drop m us) t vs n h.2 e l),
    )
become_more f [] (m ∷ ms) us t vs n h e l = absurd h
become_more f (x ∷ xs) [] us t vs n h e l = absurd h

pub become_length : (f : StageEquation) (ts : List TaskTree) (ns : List ℕ) (us : List TaskTree) → BecomeEach f ts ns us → length ns ≡ length ts
become_length f [] [] us h = refl
become_length f (t ∷ ts) (n ∷ ns) us h = let r = become_length f ts ns (drop n us) h.2 in omega (arith, r)
become_length f [] (n ∷ ns) us h = absurd h
become_length f (t ∷ ts) [] us h = absurd h

-- where no task is left
pub become_none : (f : StageEquation) (ns : List ℕ) (us : List TaskTree) → BecomeEach f [] ns us → us ≡ []
become_none f [] us h = h
become_none f (n ∷ ns) us h = absurd h

-- the first tasks up to the next one
pub taken_more : (ts : List TaskTree) (i : ℕ) (t : TaskTree) → i < length ts → drop i ts ≡ t ∷ drop (i + 1) ts → take (i + 1) ts ≡ take i ts ++ t ∷ []
taken_more ts i t l at =
    let first : get_or ts i no_task ≡ t = by_head (drop_more ts i no_task l) in
    take_more ts i no_task l ∙ ap (λ (z : TaskTree). take i ts ++ z ∷ []) first
  where
    by_head : drop i ts ≡ get_or ts i no_task ∷ drop (i + 1) ts → get_or ts i no_task ≡ t
    by_head d = cc

pub drop_twice : {A : Type 0} (m n : ℕ) (xs : List A) → drop n (drop m xs) ≡ drop (m + n) xs
drop_twice zero n xs = let e : n ≡ 0 + n = omega arith in ap (λ (k : ℕ). drop k xs) e
drop_twice (suc m) n [] = drop_all n [] (omega arith) ∙ sym (drop_all (suc m + n) [] (omega arith))
drop_twice (suc m) n (x ∷ xs) = let e : suc (m + n) ≡ suc m + n = omega arith in drop_twice m n xs ∙ ap (λ (k : ℕ). drop k (x ∷ xs)) e

-- ---- levels
pub next_more : (ls : List LevelTree) (l : LevelTree) (us vs : List TaskTree) → l.tasks ≡ us → next_tasks (ls ++ l ∷ []) vs ≡ next_tasks ls us
next_more [] l us vs e = e
next_more (m ∷ ms) l us vs e = refl

-- one level more
pub levels_more : (es : List StageEquation) (e : StageEquation) (ls : List LevelTree) (l : LevelTree) (us vs : List TaskTree) → l.tasks ≡ us → AreLevels es ls us → BecomeEach e l.tasks l.counts vs
    → AreLevels (es ++ e ∷ []) (ls ++ l ∷ []) vs
levels_more [] e [] l us vs q h b = (b, tt)
levels_more (x ∷ es) e (m ∷ ls) l us vs q h b = (subst (λ (z : List TaskTree). BecomeEach x m.tasks m.counts z) (sym (next_more ls l us vs q)) h.0, levels_more es e ls l us vs q h.1 b)
levels_more [] e (m ∷ ls) l us vs q h b = absurd h
levels_more (x ∷ es) e [] l us vs q h b = absurd h

pub levels_length : (es : List StageEquation) (ls : List LevelTree) (us : List TaskTree) → AreLevels es ls us → length ls ≡ length es
levels_length [] [] us h = refl
levels_length (e ∷ es) (l ∷ ls) us h = let r = levels_length es ls us h.1 in omega (arith, r)
levels_length [] (l ∷ ls) us h = absurd h
levels_length (e ∷ es) [] us h = absurd h

-- the last level, and those before it
pub levels_last : (es : List StageEquation) (e : StageEquation) (ls : List LevelTree) (l : LevelTree) (us : List TaskTree) → length es ≡ length ls → AreLevels (es ++ e ∷ []) (ls ++ l ∷ []) us
    → AreLevels es ls l.tasks × BecomeEach e l.tasks l.counts us
levels_last [] e [] l us n h = (tt, h.0)
levels_last (x ∷ es) e (m ∷ ls) l us n h =
    let r = levels_last es e ls l us (omega (arith, n)) h.1 in
    ((subst (λ (z : List TaskTree). BecomeEach x m.tasks m.counts z) (next_more ls l l.tasks us refl) h.0, r.0), r.1)
levels_last [] e (m ∷ ls) l us n h = absurd (omega (arith, n))
levels_last (x ∷ es) e [] l us n h = absurd (omega (arith, n))

-- the equations of the first stages up to the next one
pub equations_more : (stages : List Transformation) (n : ℕ) (x : Transformation) → x ≡ get_or stages n x → n < length stages → map equation_of (take (n + 1) stages) ≡ map equation_of (take n stages) ++ equation_of x ∷ []
equations_more stages n x is l =
    ap (map equation_of) (take_more stages n x l ∙ ap (λ (z : Transformation). take n stages ++ z ∷ []) (sym is)) ∙ map-append equation_of (take n stages) (x ∷ [])
