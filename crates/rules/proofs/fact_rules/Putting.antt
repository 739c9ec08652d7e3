-- What types make of the parts of an inversion formula.
use Rattle.std.proofs.Common.{◌≡◌, ◌↔◌, ℕ, ◌+◌, Bool, IsTrue, List, [], ◌∷◌, ◌++◌, length, get_or, refl, sym, ap, subst, ◌∙◌, append_assoc}
use Rattle.std.proofs.lemmas.List.{length-append, length-map}
use Rattle.std.proofs.Math.Seq.{get_or-append_seam}
use Rattle.trees.specs.declared.Op.{Op}
use Rattle.trees.specs.declared.Op.TheVariants.{And, Or, Imp}
use Rattle.trees.specs.Tree.{Tree, Two, Head, HCell, HJoin}
use Rattle.trees.specs.declared.TermId.{TermId}
use Rattle.trees.specs.Node.{tree_at}
use Rattle.trees.specs.Binding.{inst_types, TyVar}
use Rattle.trees.proofs.Instances.{inst_two}
use Rattle.tasks.specs.Equations.{cells, type_variables}
use Rattle.tasks.specs.Conjunctions.{conjunction}
use Rattle.tasks.specs.Inversion.{clause_parts, given_by, given_by_any}
use Rattle.tasks.specs.Meaning.{trees_at}
use Rattle.tasks.proofs.Conjunctions.{conjunction_more}

pub two_at : (tys : List Tree) (h : Head) (a b : Tree) → inst_types (Two h a b) tys ≡ Two h (inst_types a tys) (inst_types b tys)
two_at tys h a b = inst_two tys h a b

-- a predicate's own type variables become the types
types_from : (front tys : List Tree) → inst_types (cells (type_variables (length front) (length tys))) (front ++ tys) ≡ cells tys
types_from front [] = refl
types_from front (ty ∷ tys) =
    let here : get_or (front ++ ty ∷ tys) (length front) (TyVar (length front)) ≡ ty = get_or-append_seam front ty tys (TyVar (length front)) in
    let same : inst_types (cells (type_variables (length (front ++ ty ∷ [])) (length tys))) (front ++ ty ∷ tys) ≡ cells tys =
    subst (λ (l : List Tree). inst_types (cells (type_variables (length (front ++ ty ∷ [])) (length tys))) l ≡ cells tys) (append_assoc front (ty ∷ []) tys) (types_from (front ++ ty ∷ []) tys) in
    let rest : inst_types (cells (type_variables (length front + 1) (length tys))) (front ++ ty ∷ tys) ≡ cells tys =
    subst (λ (n : ℕ). inst_types (cells (type_variables n (length tys))) (front ++ ty ∷ tys) ≡ cells tys) (length-append front (ty ∷ [])) same in
    inst_two (front ++ ty ∷ tys) HCell (TyVar (length front)) (cells (type_variables (length front + 1) (length tys))) ∙ cc (here, rest)

pub types_are : (tys : List Tree) → inst_types (cells (type_variables 0 (length tys))) tys ≡ cells tys
types_are tys = types_from [] tys

-- a conjunction of more than one formula, at types
pub conjunction_at : (tys : List Tree) (a : Tree) (more : List Tree) → (more ≡ [] → ⊥) → inst_types (conjunction (a ∷ more)) tys ≡ Two (HJoin And) (inst_types a tys) (inst_types (conjunction more) tys)
conjunction_at tys a more n = ap (λ (e : Tree). inst_types e tys) (conjunction_more a more n) ∙ inst_two tys (HJoin And) a (conjunction more)

-- one whose first formula is another isn't it
pub first_not : (tys : List Tree) (m a u v : Tree) (more : List Tree) → (more ≡ [] → ⊥) → m ≡ Two (HJoin And) u v → (u ≡ inst_types a tys → ⊥) → m ≡ inst_types (conjunction (a ∷ more)) tys → ⊥
first_not tys m a u v more n e f h =
    let both : Two (HJoin And) u v ≡ Two (HJoin And) (inst_types a tys) (inst_types (conjunction more) tys) = sym e ∙ h ∙ conjunction_at tys a more n in
    let k : u ≡ inst_types a tys = cc in
    f k

-- the parts of a clause with a premise, where there are more after it
pub parts_at : (n : ℕ) (xs tys : List Tree) (op : Op) (clause a b : Tree) → clause ≡ Two (HJoin op) a b → op ≡ Imp → (clause_parts n xs b ≡ [] → ⊥)
    → inst_types (conjunction (clause_parts n xs clause)) tys ≡ Two (HJoin And) (inst_types a tys) (inst_types (conjunction (clause_parts n xs b)) tys)
parts_at n xs tys op clause a b e i m = rw (e, i) (conjunction_at tys a (clause_parts n xs b) m)

pub both_parts : (m u v a q w : Tree) (r : Bool) → m ≡ Two (HJoin And) u v → w ≡ Two (HJoin And) a q → u ≡ a → IsTrue r ↔ (v ≡ q) → IsTrue r ↔ (m ≡ w)
both_parts m u v a q w r e f g i = (λ h. let k : v ≡ q = i.0 h in cc, λ h. i.1 (let k : Two (HJoin And) u v ≡ Two (HJoin And) a q = sym e ∙ h ∙ f in cc))

pub types_of_store : (s : List Tree) (types : List TermId) → inst_types (cells (type_variables 0 (length types))) (trees_at s types) ≡ cells (trees_at s types)
types_of_store s types = ap (λ n. inst_types (cells (type_variables 0 n)) (trees_at s types)) (sym (length-map types (tree_at s))) ∙ types_are (trees_at s types)

-- the disjunction over clauses
pub any_more : (xs cs : List Tree) (c : Tree) (rest : List Tree) → cs ≡ c ∷ rest → (length rest ≡ 0 → ⊥) → given_by_any xs cs ≡ Two (HJoin Or) (given_by 0 xs c) (given_by_any xs rest)
any_more xs cs c [] e n = absurd (n refl)
any_more xs cs c (r ∷ rest) e n = rw e refl
