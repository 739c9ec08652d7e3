-- Terms put in for all variables of a branch, of the right types; and quantifiers over what is made.
use Rattle.std.proofs.Common.{◌≡◌, ℕ, ◌+◌, ◌-◌, ◌<◌, zero, suc, List, [], ◌∷◌, ◌++◌, map, take, drop, length, get_or, slice_get, All, Some, true, subst, refl, sym, ap, ◌∙◌, arith, drop-cons}
use Rattle.std.proofs.lemmas.List.{length-append, append-nil, take-append-drop}
use Rattle.std.specs.List.{list_all}
use Rattle.std.proofs.lemmas.List.Elements.{All-append}
use Rattle.plain_laws.proofs.Lists.{All-left, All-right}
use Rattle.tasks.specs.trees.declared.Sort.TheVariants.{Formula}
use Rattle.tasks.specs.trees.Tree.{Tree}
use Rattle.tasks.specs.trees.Binding.{inst_many}
use Rattle.tasks.specs.trees.Sorts.{sort_of, type_of}
use Rattle.trees.proofs.Many.{length_map}
use Rattle.tasks.specs.Vocabulary.{Vocabulary}
use Rattle.tasks.specs.Typing.{members, pattern_types}
use Rattle.tasks.specs.Equations.{for_all}
use Rattle.tasks.specs.Valid.{VariablesBelow, ParametersOf}
use Rattle.evidence.specs.images.typing_laws.HasTyping.{HasTyping}
use Rattle.images.proofs.typing_laws.Sorted.{has_sorts, has_further}
use Rattle.images.proofs.typing_laws.Changes.{many_has, many_type, many_sort, many_variables, many_parameters}
use Rattle.inlining.proofs.Bodies.{onto}
use Rattle.declarations.specs.spelled_groups.Spelled.{PatternsAreUsable}
use Rattle.inlining.specs.branch_equations.Branches.{ConstructorBranch, is_plain_field, field_type, parameters_before, parameters_after, variables_above, branch_types, branch_fields, built_term, branch_parameters, pattern_fields}
use Rattle.inlining.proofs.branch_equations.Terms.{IsBinderType, IsTermUnder, AreTermsUnder, terms_append, terms_for, terms_variables, terms_parameters, variables_under, onto_at, onto_append}
use Rattle.inlining.proofs.branch_equations.Matches.{IsTypedBranch}
use Rattle.inlining.proofs.branch_equations.Fields.{variable_types, fields_bind, fields_types, bound_under, built_under}

-- ---- a parameter, by the number of those after it
onto_get : (args more : List Tree) (i k : ℕ) (e : Tree) → k + i + 1 ≡ length args → slice_get (onto args more) i ≡ Some (get_or args k e)
onto_get [] more i k e n = absurd (omega (arith, n))
onto_get (a ∷ args) more i zero e n =
    let q : i ≡ length args + 0 = omega (arith, n) in
    ap (slice_get (onto args (a ∷ more))) q ∙ onto_at args (a ∷ more) 0
onto_get (a ∷ args) more i (suc k) e n = onto_get args (a ∷ more) i k e (omega (arith, n))

-- the parameters are those before it, it, and those after it
split_at : (args : List Tree) (i : ℕ) (ty : Tree) → i < length args → slice_get (onto args []) i ≡ Some ty → parameters_before args i ++ ty ∷ parameters_after args i ≡ args
split_at args i ty l at =
    let k = length args - 1 - i in
    let n : k + i + 1 ≡ length args = omega (arith, l) in
    let s : suc k ≡ length args - i = omega (arith, l) in
    let same : Some (get_or args k ty) ≡ Some ty = sym (onto_get args [] i k ty n) ∙ at in
    let here : get_or args k ty ≡ ty = cc in
    let rest : drop k args ≡ ty ∷ drop (length args - i) args =
    drop-cons args k ty (omega (arith, l)) ∙ ap (λ (z : Tree). z ∷ drop (suc k) args) here ∙ ap (λ (j : ℕ). ty ∷ drop j args) s in
    ap (λ (z : List Tree). take k args ++ z) (sym rest) ∙ take-append-drop k args

-- ---- terms put in for all variables of an expression
-- what is made has its sort and type
pub record IsPutIn (v : Vocabulary) (vars : ℕ) (bs : List Tree) (e made : Tree) : Type 0 where
  pub typed : HasTyping v bs made
  pub sort : sort_of made ≡ sort_of e
  pub type : type_of made ≡ type_of e
  pub parameters : ParametersOf [] made
  pub variables : VariablesBelow vars made

pub put_in : (v : Vocabulary) (vars : ℕ) (bs tys ts : List Tree) → AreTermsUnder v vars bs tys ts → (e : Tree) → HasTyping v (onto tys []) e → ParametersOf [] e → VariablesBelow vars e → IsPutIn v vars bs e (inst_many e ts)
put_in v vars bs tys ts a e x p n =
    let o = terms_for v vars bs tys ts a in
    let y = has_further v (onto tys []) bs e x in
    record {
      typed = many_has v bs (onto tys []) ts o e y;
      sort = many_sort v bs (onto tys []) ts o e y;
      type = many_type v bs (onto tys []) ts o e y;
      parameters = many_parameters ts [] (terms_parameters v vars bs tys ts a) e (has_sorts v (onto tys []) e x) p;
      variables = many_variables ts vars (terms_variables v vars bs tys ts a) e n;
    }

-- ---- the terms of a branch
module _ (v : Vocabulary) (usable : PatternsAreUsable v) (vars : ℕ) (args : List Tree) (kinds : All (IsBinderType v vars) args) (i : ℕ) (type first : Tree) (l : i < length args) (at : slice_get (onto args []) i ≡ Some type)
    (b : ConstructorBranch) (t : IsTypedBranch v vars (onto args []) type first b) where
  abbrev before : List Tree
  before = parameters_before args i

  abbrev after : List Tree
  after = parameters_after args i

  abbrev own : List Tree
  own = map field_type b.fields

  abbrev here : List Tree
  here = onto (branch_types args i b) []

  split : before ++ type ∷ after ≡ args
  split = split_at args i type l at

  parts : All (IsBinderType v vars) (before ++ type ∷ after)
  parts = subst (All (IsBinderType v vars)) (sym split) kinds

  before_kinds : All (IsBinderType v vars) before
  before_kinds = All-left (IsBinderType v vars) before (type ∷ after) parts

  after_kinds : All (IsBinderType v vars) after
  after_kinds = λ j d m. All-right (IsBinderType v vars) before (type ∷ after) parts (suc j) d (omega (arith, m))

  own_kinds : All (IsBinderType v vars) own
  own_kinds =
      subst (λ (z : List Tree). All (IsBinderType v vars) (map field_type z)) t.same
      (fields_types v vars (onto args []) t.fields t.pattern.3 t.pattern_variables.1 (subst (λ (z : List Tree). list_all is_plain_field z ≡ true) (sym t.same) t.plain))

  pub branch_kinds : All (IsBinderType v vars) (branch_types args i b)
  branch_kinds = All-append (IsBinderType v vars) before (own ++ after) before_kinds (All-append (IsBinderType v vars) own after own_kinds after_kinds)

  inside : here ≡ onto (own ++ after) (onto before [])
  inside = onto_append before (own ++ after) []

  befores : AreTermsUnder v vars here before (variables_above (length b.fields + length after) before)
  befores = variables_under v vars before (own ++ after) [] (length b.fields + length after) (omega (arith, length-append own after, length_map field_type b.fields)) before_kinds

  owns : AreTermsUnder v vars here own (branch_fields args i b)
  owns = subst (λ (z : List Tree). AreTermsUnder v vars z own (branch_fields args i b)) (sym inside) (variables_under v vars own after (onto before []) (length after) refl own_kinds)

  afters : AreTermsUnder v vars here after (variables_above 0 after)
  afters =
      let a = variables_under v vars after [] (onto own (onto before [])) 0 refl after_kinds in
      let e : onto (after ++ []) (onto own (onto before [])) ≡ here = ap (λ (z : List Tree). onto z (onto own (onto before []))) (append-nil after) ∙ sym (onto_append own after (onto before [])) ∙ sym inside in
      subst (λ (z : List Tree). AreTermsUnder v vars z after (variables_above 0 after)) e a

  built : IsTermUnder v vars here type (built_term args i b)
  built = built_under v usable vars (onto args []) here type first b t (branch_fields args i b) owns

  pub parameters_there : AreTermsUnder v vars here args (branch_parameters args i b)
  parameters_there =
      subst (λ (z : List Tree). AreTermsUnder v vars here z (branch_parameters args i b)) split
      (terms_append v vars here before (type ∷ after) (variables_above (length b.fields + length after) before) (built_term args i b ∷ variables_above 0 after) befores (built, afters))

  pub all_there : AreTermsUnder v vars here (args ++ variable_types b.fields) (branch_parameters args i b ++ pattern_fields args i b)
  all_there = terms_append v vars here args (variable_types b.fields) (branch_parameters args i b) (pattern_fields args i b) parameters_there (bound_under v vars here b.fields (branch_fields args i b) owns)

  -- the branch's body
  pub body_put : IsPutIn v vars here b.body (inst_many b.body (branch_parameters args i b ++ pattern_fields args i b))
  body_put =
      let p : list_all is_plain_field (members t.fields) ≡ true = subst (λ (z : List Tree). list_all is_plain_field z ≡ true) (sym t.same) t.plain in
      let e : pattern_types t.fields ++ onto args [] ≡ onto (args ++ variable_types b.fields) [] =
      fields_bind v (onto args []) t.fields (onto args []) t.pattern.0.1 t.pattern.3 p
      ∙ ap (λ (z : List Tree). onto (variable_types z) (onto args [])) t.same ∙ sym (onto_append args (variable_types b.fields) []) in
      put_in v vars here (args ++ variable_types b.fields) _ all_there b.body (subst (λ (z : List Tree). HasTyping v z b.body) e t.typed) t.parameters t.variables

-- ---- under quantifiers
pub record IsGood (v : Vocabulary) (vars : ℕ) (bs : List Tree) (e : Tree) : Type 0 where
  pub sort : sort_of e ≡ Formula
  pub typed : HasTyping v bs e
  pub parameters : ParametersOf [] e
  pub variables : VariablesBelow vars e

pub for_all_has : (v : Vocabulary) (vars : ℕ) (types more : List Tree) (e : Tree) → All (IsBinderType v vars) types → IsGood v vars (onto types more) e → IsGood v vars more (for_all types e)
for_all_has v vars [] more e k g = g
for_all_has v vars (ty ∷ types) more e k g =
    let a = k 0 ty (omega arith) in
    let r = for_all_has v vars types (ty ∷ more) e (λ j d l. k (suc j) d (omega (arith, l))) g in
    record {
      sort = refl;
      typed = (((a.sort, r.sort), tt), tt, a.typed more, r.typed);
      parameters = (a.parameters, r.parameters);
      variables = (a.variables, r.variables);
    }
