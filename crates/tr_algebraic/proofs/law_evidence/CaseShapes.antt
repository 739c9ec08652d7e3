-- The law of exhaustion of an algebraic type of a valid task says the cases of a value, at types.
use Rattle.std.proofs.Common.{◌≡◌, ℕ, ◌+◌, ◌≤◌, ◌==◌, zero, suc, if◌then◌else◌, List, [], ◌∷◌, ◌++◌, map, length, get_or, All, Option, Some, IfSome, inl, refl, sym, ap, subst, ◌∙◌, arith, append_assoc, length-append}
use Rattle.std.proofs.lemmas.List.Elements.{All-head, All-tail}
use Rattle.std.proofs.Math.Seq.{get_or-append_seam}
use Rattle.tasks.specs.trees.Tree.{Tree, Leaf, One, Two, Three, Head, HTyVar, HTyApp, HEnd, HCell, HFun, HEq, HForall, binders_over, loose}
use Rattle.tasks.specs.trees.Binding.{Param, TyVar, change, typing, inst, inst_types, leaf_by, one_by}
use Rattle.tasks.proofs.trees.Instances.{inst_two}
use Rattle.tasks.proofs.trees.Laws.{shift_closed, inst_closed}
use Rattle.tasks.proofs.trees.Types.{OnlyTypes, only_types, loose_types}
use Rattle.tasks.specs.Task.{TaskTree, symbol_or, ConstructorTree}
use Rattle.tasks.specs.Roles.{AlgebraicRole, role}
use Rattle.tasks.specs.Vocabulary.{Vocabulary, of_task}
use Rattle.tasks.specs.Typing.{members}
use Rattle.tasks.specs.Equations.{cells, type_variables}
use Rattle.tasks.specs.MatchTests.{result_at, field, fields, rebuilt}
use Rattle.tasks.specs.Valid.{own_type, IsTypeIn, IsSignatureOf, IsProjectionOf, AreProjections, IsConstructorOf}
use Rattle.tasks.proofs.Closing.{typed_sorted}
use Rattle.kernel.specs.rules.Forms.{equal}
use Rattle.declarations.specs.spelled_groups.Formulas.{members_cells}
use Rattle.tr_algebraic.specs.algebraic_forms.Formulas.{own_type_list, field_of, projected_fields, case_equation, disjunction, own_variable, exhaustion_law}
use Rattle.tr_algebraic.specs.law_evidence.Shapes.{disjuncts, cases_at, AreCases}

-- ---- types, and types at types
pub only_of : (v : Vocabulary) (n : ℕ) (e : Tree) → IsTypeIn v n e → OnlyTypes e
only_of v n e h = only_types e (typed_sorted v [] e h.typed) (inl h.sort)

only_cells : (zs : List Tree) → All OnlyTypes zs → OnlyTypes (cells zs)
only_cells [] h = tt
only_cells (z ∷ zs) h = (refl, All-head OnlyTypes z zs h, only_cells zs (All-tail OnlyTypes z zs h))

only_at : (zs : List Tree) (j : ℕ) (e : Tree) → All OnlyTypes zs → OnlyTypes e → OnlyTypes (get_or zs j e)
only_at [] j e h o = o
only_at (z ∷ zs) zero e h o = All-head OnlyTypes z zs h
only_at (z ∷ zs) (suc j) e h o = only_at zs j e (All-tail OnlyTypes z zs h) o

-- type variables from a number on become what is there in a list of types
list_from : (vars : ℕ) (front ys all : List Tree) → all ≡ front ++ ys → length ys ≡ vars → inst_types (cells (type_variables (length front) vars)) all ≡ cells ys
list_from vars front [] all e l = subst (λ (n : ℕ). inst_types (cells (type_variables (length front) n)) all ≡ Leaf HEnd) l refl
list_from zero front (y ∷ ys) all e l = absurd (omega (arith, l))
list_from (suc n) front (y ∷ ys) all e l =
    let here : get_or all (length front) (TyVar (length front)) ≡ y = ap (λ (z : List Tree). get_or z (length front) (TyVar (length front))) e ∙ get_or-append_seam front y ys (TyVar (length front)) in
    let m : length ys ≡ n = omega (arith, l) in
    let next : inst_types (cells (type_variables (length (front ++ y ∷ [])) n)) all ≡ cells ys = list_from n (front ++ y ∷ []) ys all (e ∙ sym (append_assoc front (y ∷ []) ys)) m in
    let rest : inst_types (cells (type_variables (length front + 1) n)) all ≡ cells ys = subst (λ (k : ℕ). inst_types (cells (type_variables k n)) all ≡ cells ys) (length-append front (y ∷ [])) next in
    inst_two all HCell (TyVar (length front)) (cells (type_variables (length front + 1) n)) ∙ cc (here, rest)

module _ (ys : List Tree) (kinds : All OnlyTypes ys) where
  leaf_put : (h : Head) → OnlyTypes (leaf_by (typing ys) h)
  leaf_put (HTyVar j) = only_at ys j (TyVar j) kinds tt
  leaf_put _ = tt

  only_put : (d : ℕ) (e : Tree) → OnlyTypes e → OnlyTypes (change (typing ys) d e)
  only_put d (Leaf h) o = leaf_put h
  only_put d (One h a) ((n, q), o) = subst (λ (g : Head). OnlyTypes (one_by (typing ys) d g (change (typing ys) d a))) (sym q) ((n, refl), only_put d a o)
  only_put d (Two h a b) (q, l, r) = (q, only_put d a l, only_put (d + binders_over h a) b r)
  only_put d (Three h a b c) o = absurd o

-- ---- the type of a result is a type
result_only : (v : Vocabulary) (k : ℕ) (ty : Tree) → IsSignatureOf v k → (symbol_or v.symbols k).result ≡ Some ty → OnlyTypes ty
result_only v k ty s e = only_of v (symbol_or v.symbols k).vars ty (subst (λ (o : Option Tree). IfSome o (IsTypeIn v (symbol_or v.symbols k).vars)) e s.types.result)

-- ---- the cases of a closed term
module _ (t : TaskTree) (type vars : ℕ) (ys : List Tree) (many : length ys ≡ vars) (kinds : All OnlyTypes ys) where
  list_at : inst_types (own_type_list vars) ys ≡ cells ys
  list_at = list_from vars [] ys ys refl many

  list_closed : loose (cells ys) ≤ 0
  list_closed = omega (arith, loose_types (cells ys) (only_cells ys kinds))

  result_is : (o : Option Tree) (r : Tree) → o ≡ Some r → OnlyTypes r → result_at o (cells ys) ≡ inst_types r ys
  result_is o r e l =
      ap (λ (z : Option Tree). result_at z (cells ys)) e ∙ ap (λ (n : ℕ). if n == 0 then inst_types r (members (cells ys)) else Leaf HEnd) (loose_types r l) ∙ ap (inst_types r) (members_cells ys)

  module _ (x : Tree) (closed : loose x ≤ 0) where
    abbrev put : Tree → Tree
    put e = inst (inst_types e ys) x

    list_put : put (own_type_list vars) ≡ cells ys
    list_put = ap (λ (z : Tree). inst z x) list_at ∙ inst_closed (cells ys) x list_closed

    type_put : (r : Tree) → OnlyTypes r → put r ≡ inst_types r ys
    type_put r o = inst_closed (inst_types r ys) x (omega (arith, loose_types (inst_types r ys) (only_put ys kinds 0 r o)))

    variable_put : put (own_variable type vars) ≡ x
    variable_put = shift_closed x 0 0 closed

    -- a function's type where it is applied is its result at the types
    applied_put : (k : ℕ) (ty : Tree) → IsSignatureOf (of_task t) k → (symbol_or t.symbols k).result ≡ Some ty → put ty ≡ result_at (symbol_or t.symbols k).result (cells ys)
    applied_put k ty s e =
        let o : OnlyTypes ty = result_only (of_task t) k ty s e in
        type_put ty o ∙ sym (result_is (symbol_or t.symbols k).result ty e o)

    field_put : (p : ℕ) (ty : Tree) → IsProjectionOf (of_task t) type vars ty p → put (field_of vars p ty (own_variable type vars)) ≡ field t p (cells ys) x
    field_put p ty h =
        ap (λ (z : Tree). Three (HFun p) z (Two HCell (put (own_variable type vars)) (Leaf HEnd)) (put ty)) list_put
        ∙ ap (λ (z : Tree). Three (HFun p) (cells ys) (Two HCell z (Leaf HEnd)) (put ty)) variable_put
        ∙ ap (Three (HFun p) (cells ys) (cells (x ∷ []))) (applied_put p ty h.signature h.result)

    fields_put : (ps : List ℕ) (types : List Tree) → AreProjections (of_task t) type vars types ps → put (cells (projected_fields vars ps types (own_variable type vars))) ≡ cells (fields t ps (cells ys) x)
    fields_put [] [] h = refl
    fields_put [] (ty ∷ types) h = absurd h
    fields_put (p ∷ ps) [] h = absurd h
    fields_put (p ∷ ps) (ty ∷ types) h =
        ap (λ (z : Tree). Two HCell z (put (cells (projected_fields vars ps types (own_variable type vars))))) (field_put p ty h.0) ∙ ap (Two HCell (field t p (cells ys) x)) (fields_put ps types h.1)

    case_put : (c : ConstructorTree) → IsConstructorOf (of_task t) type vars c → put (case_equation type vars (own_variable type vars) c) ≡ equal x (rebuilt t c.symbol c.projections (cells ys) x)
    case_put c h =
        let args = put (cells (projected_fields vars c.projections c.fields (own_variable type vars))) in
        ap (λ (z : Tree). Two HEq z (Three (HFun c.symbol) (put (own_type_list vars)) args (put (own_type type vars)))) variable_put
        ∙ ap (λ (z : Tree). Two HEq x (Three (HFun c.symbol) z args (put (own_type type vars)))) list_put
        ∙ ap (λ (z : Tree). Two HEq x (Three (HFun c.symbol) (cells ys) z (put (own_type type vars)))) (fields_put c.projections c.fields h.projections)
        ∙ ap (λ (z : Tree). Two HEq x (Three (HFun c.symbol) (cells ys) (cells (fields t c.projections (cells ys) x)) z)) (applied_put c.symbol (own_type type vars) h.signature h.result)

    abbrev AreMade : List ConstructorTree → Type 0
    AreMade cs = All (IsConstructorOf (of_task t) type vars) cs

    cases_put : (cs : List ConstructorTree) → AreMade cs → disjuncts (put (disjunction (map (case_equation type vars (own_variable type vars)) cs))) ≡ cases_at t (cells ys) cs x
    cases_put [] h = refl
    cases_put (c ∷ []) h = ap (λ (z : Tree). z ∷ []) (case_put c (All-head (IsConstructorOf (of_task t) type vars) c [] h))
    cases_put (c ∷ d ∷ cs) h =
        ap (λ (z : Tree). z ∷ disjuncts (put (disjunction (map (case_equation type vars (own_variable type vars)) (d ∷ cs))))) (case_put c (All-head (IsConstructorOf (of_task t) type vars) c (d ∷ cs) h))
        ∙ ap (λ (z : List Tree). equal x (rebuilt t c.symbol c.projections (cells ys) x) ∷ z) (cases_put (d ∷ cs) (All-tail (IsConstructorOf (of_task t) type vars) c (d ∷ cs) h))

  pub exhaustion_shape : (cs : List ConstructorTree) → role t type ≡ AlgebraicRole cs → All (IsConstructorOf (of_task t) type vars) cs → AreCases t (inst_types (exhaustion_law type vars cs) ys)
  exhaustion_shape cs r h =
      let D : Tree = disjunction (map (case_equation type vars (own_variable type vars)) cs) in
      record {
        symbol = type;
        types = cells ys;
        cons = cs;
        body = inst_types D ys;
        is = inst_two ys HForall (own_type type vars) D ∙ ap (λ (z : Tree). Two HForall (One (HTyApp type) z) (inst_types D ys)) list_at;
        made = r;
        cases = λ n. cases_put (Param n (One (HTyApp type) (cells ys))) list_closed cs h;
      }
