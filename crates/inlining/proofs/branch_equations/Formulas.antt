-- What recursive definitions say by branches are formulas over the vocabulary, where they aren't too large.
use Rattle.std.proofs.Common.{◌≡◌, ◌⊎◌, ℕ, ◌<◌, ◌≤◌, suc, Bool, true, false, if◌then◌else◌, List, [], ◌∷◌, map, length, All, Option, Some, None, inl, inr, subst, refl, sym, ap, ◌∙◌, arith}
use Rattle.std.specs.List.{flat_map}
use Rattle.std.proofs.lemmas.List.Elements.{All-cons, All-nil, All-append, All-weaker}
use Rattle.plain_laws.proofs.Lists.{All-left, All-right}
use Rattle.tasks.specs.trees.declared.Op.TheVariants.{Iff}
use Rattle.tasks.specs.trees.declared.Sort.{Sort}
use Rattle.tasks.specs.trees.Sorts.{sort_of}
use Rattle.tasks.specs.trees.Tree.{Tree, Two, Three, Head, HFun, HPred, HEq, HJoin, size}
use Rattle.tasks.specs.declared.signature.SymbolKind.{SymbolKind}
use Rattle.tasks.specs.declared.signature.SymbolKind.TheVariants.{Function, Predicate}
use Rattle.tasks.specs.Task.{SymbolTree, symbol_or, DefinitionTree, BodyTree, MakesType, Makes, Defines, Induces, Constructs, Says, made_by}
use Rattle.tasks.specs.Facts.{FactTree, equation_fact}
use Rattle.tasks.specs.Vocabulary.{Vocabulary}
use Rattle.tasks.specs.Equations.{equated, for_all}
use Rattle.tasks.specs.Valid.{VariablesBelow, ParametersOf, IsFormulaOver, IsTypeIn, IsDefinition, IsValidBody}
use Rattle.evidence.specs.images.typing_laws.HasTyping.{HasTyping}
use Rattle.images.proofs.typing_laws.Sorted.{typed_has, small_typed}
use Rattle.checks.specs.recursive_groups.Groups.{is_recursive}
use Rattle.checks.specs.decl_checks.Structure.{defining_body}
use Rattle.inlining.proofs.Bodies.{onto, under_typed, under_variables, under_parameters, under_body}
use Rattle.declarations.specs.Rewritten.{AreUsable}
use Rattle.declarations.specs.spelled_groups.Spelled.{IsSpellable, IsSayable, PatternsAreUsable, IsSpelling}
use Rattle.declarations.specs.spelled_groups.Inductives.{IsSmallTree}
use Rattle.inlining.specs.branch_equations.Branches.{ConstructorBranch, matched_parameter, quantifiers, below_quantifiers, HasSides, branch_types, branch_sides, branch_equation, branch_fact, facts_by, member_facts, recursion_facts, branch_parameters}
use Rattle.inlining.proofs.branch_equations.Terms.{IsBinderType}
use Rattle.inlining.proofs.branch_equations.Matches.{IsMatch, matched_is, IsTypedBranch, IsTypedMatch, match_typed}
use Rattle.inlining.proofs.branch_equations.Fields.{binder_type}
use Rattle.inlining.proofs.branch_equations.Sides.{put_in, branch_kinds, parameters_there, body_put, IsGood, for_all_has}

abbrev IsSmall : FactTree → Type 0
IsSmall f = IsSmallTree f.formula

-- ---- the two sides of an equation
pub record IsSided (body inner : Tree) : Type 0 where
  pub head : Head
  pub left : Tree
  pub is : inner ≡ Two head left body
  pub kind : (head ≡ HEq) ⊎ (head ≡ HJoin Iff)

some_tree : (a b : Tree) → Some a ≡ Some b → b ≡ a
some_tree a b q = cc

sided_of : (k : ℕ) (zs bs : Tree) (kind : SymbolKind) (result : Option Tree) (body inner : Tree) → equated kind k zs bs result body ≡ Some inner → IsSided body inner
sided_of k zs bs Function (Some ty) body inner q = record { head = HEq; left = Three (HFun k) zs bs ty; is = some_tree _ _ q; kind = inl refl }
sided_of k zs bs Predicate None body inner q = record { head = HJoin Iff; left = Two (HPred k) zs bs; is = some_tree _ _ q; kind = inr refl }
sided_of k zs bs _ result body inner q = absurd (cc)

below_all : (args : List Tree) (e : Tree) → below_quantifiers (for_all args e) ≡ below_quantifiers e
below_all [] e = refl
below_all (ty ∷ args) e = below_all args e

-- a definition's equation has a quantifier for each argument
none_counted : (left body : Tree) (h : Head) → (h ≡ HEq) ⊎ (h ≡ HJoin Iff) → quantifiers (Two h left body) ≡ 0
none_counted left body h (inl e) = ap (λ (g : Head). quantifiers (Two g left body)) e
none_counted left body h (inr e) = ap (λ (g : Head). quantifiers (Two g left body)) e

all_counted : (args : List Tree) (e : Tree) → quantifiers e ≡ 0 → quantifiers (for_all args e) ≡ length args
all_counted [] e q = q
all_counted (ty ∷ args) e q = ap suc (all_counted args e q)

below_sided : (left body : Tree) (h : Head) → (h ≡ HEq) ⊎ (h ≡ HJoin Iff) → (below_quantifiers (Two h left body) ≡ Two h left body) × (defining_body (Two h left body) ≡ body)
below_sided left body h (inl e) = subst (λ (g : Head). (below_quantifiers (Two g left body) ≡ Two g left body) × (defining_body (Two g left body) ≡ body)) (sym e) (refl, refl)
below_sided left body h (inr e) = subst (λ (g : Head). (below_quantifiers (Two g left body) ≡ Two g left body) × (defining_body (Two g left body) ≡ body)) (sym e) (refl, refl)

right_typed : (v : Vocabulary) (bs : List Tree) (h : Head) (left body : Tree) → (h ≡ HEq) ⊎ (h ≡ HJoin Iff) → HasTyping v bs (Two h left body) → HasTyping v bs body
right_typed v bs h left body (inl e) x = (subst (λ (g : Head). HasTyping v bs (Two g left body)) e x).3
right_typed v bs h left body (inr e) x = (subst (λ (g : Head). HasTyping v bs (Two g left body)) e x).3

sides_sorted : (v : Vocabulary) (bs : List Tree) (h : Head) (left body : Tree) (sort : Sort) → (h ≡ HEq) ⊎ (h ≡ HJoin Iff) → HasTyping v bs (Two h left body) → sort ≡ sort_of body → HasSides sort (Two h left body)
sides_sorted v bs h left body sort (inl e) x q = subst (λ (g : Head). HasSides sort (Two g left body)) (sym e) (let y = subst (λ (g : Head). HasTyping v bs (Two g left body)) e x in q ∙ y.0.0.1)
sides_sorted v bs h left body sort (inr e) x q = subst (λ (g : Head). HasSides sort (Two g left body)) (sym e) (let y = subst (λ (g : Head). HasTyping v bs (Two g left body)) e x in q ∙ y.0.0.1)

-- ---- the sides of a branch's equation
module _ (v : Vocabulary) (usable : PatternsAreUsable v) (vars : ℕ) (args : List Tree) (kinds : All (IsBinderType v vars) args) (i : ℕ) (within : i < length args) (left body : Tree) (xs : List ConstructorBranch)
    (m : IsTypedMatch v vars (onto args []) body i xs) (b : ConstructorBranch) (t : IsTypedBranch v vars (onto args []) m.type m.first b) where
  abbrev here : List Tree
  here = onto (branch_types args i b) []

  equal_sides : HasTyping v (onto args []) (Two HEq left body) → ParametersOf [] (Two HEq left body) → VariablesBelow vars (Two HEq left body) → IsGood v vars here (branch_sides args i b (Two HEq left body))
  equal_sides x p n =
      let l = put_in v vars here args (branch_parameters args i b) (parameters_there v usable vars args kinds i m.type m.first within m.there b t) left x.2 p.0 n.0 in
      let r = body_put v usable vars args kinds i m.type m.first within m.there b t in
      record {
        sort = refl;
        typed = (((l.sort ∙ x.0.0.0, r.sort ∙ t.sort ∙ sym m.sort ∙ x.0.0.1), tt), l.type ∙ x.1 ∙ m.given ∙ sym t.given ∙ sym r.type, l.typed, r.typed);
        parameters = (l.parameters, r.parameters);
        variables = (l.variables, r.variables);
      }

  alike_sides : HasTyping v (onto args []) (Two (HJoin Iff) left body) → ParametersOf [] (Two (HJoin Iff) left body) → VariablesBelow vars (Two (HJoin Iff) left body) → IsGood v vars here (branch_sides args i b (Two (HJoin Iff) left body))
  alike_sides x p n =
      let l = put_in v vars here args (branch_parameters args i b) (parameters_there v usable vars args kinds i m.type m.first within m.there b t) left x.2 p.0 n.0 in
      let r = body_put v usable vars args kinds i m.type m.first within m.there b t in
      record {
        sort = refl;
        typed = (((l.sort ∙ x.0.0.0, r.sort ∙ t.sort ∙ sym m.sort ∙ x.0.0.1), tt), tt, l.typed, r.typed);
        parameters = (l.parameters, r.parameters);
        variables = (l.variables, r.variables);
      }

  sides_good : (h : Head) → (h ≡ HEq) ⊎ (h ≡ HJoin Iff) → HasTyping v (onto args []) (Two h left body) → ParametersOf [] (Two h left body) → VariablesBelow vars (Two h left body) → IsGood v vars here (branch_sides args i b (Two h left body))
  sides_good h (inl e) x p n =
      subst (λ (g : Head). IsGood v vars here (branch_sides args i b (Two g left body))) (sym e)
      (equal_sides (subst (λ (g : Head). HasTyping v (onto args []) (Two g left body)) e x) (subst (λ (g : Head). ParametersOf [] (Two g left body)) e p) (subst (λ (g : Head). VariablesBelow vars (Two g left body)) e n))
  sides_good h (inr e) x p n =
      subst (λ (g : Head). IsGood v vars here (branch_sides args i b (Two g left body))) (sym e)
      (alike_sides (subst (λ (g : Head). HasTyping v (onto args []) (Two g left body)) e x) (subst (λ (g : Head). ParametersOf [] (Two g left body)) e p) (subst (λ (g : Head). VariablesBelow vars (Two g left body)) e n))

-- ---- the equation of a branch of a valid definition
argument_kinds : (v : Vocabulary) (vars : ℕ) (tys : List Tree) → All (IsTypeIn v vars) tys → All (IsBinderType v vars) tys
argument_kinds v vars tys a = All-weaker (IsTypeIn v vars) (IsBinderType v vars) (λ ty k. binder_type v vars [] ty k.sort (typed_has v [] ty k.typed) k.variables) tys a

small_formula : (v : Vocabulary) (vars : ℕ) (e : Tree) → IsGood v vars [] e → size e ≤ 1048576 → IsFormulaOver v [] vars e
small_formula v vars e g l = record { sort = g.sort; typed = small_typed v e g.typed l; parameters = g.parameters; variables = g.variables }

module _ (v : Vocabulary) (d : DefinitionTree) (a : IsDefinition v d) where
  abbrev own : SymbolTree
  own = symbol_or v.symbols d.symbol

  typed_inner : HasTyping v (onto own.args []) a.form.inner
  typed_inner = under_typed v own.args [] a.form.inner (subst (HasTyping v []) a.form.is (typed_has v [] d.equation a.formula.typed))

  sided : IsSided a.form.body a.form.inner
  sided = sided_of d.symbol _ _ own.kind own.result a.form.body a.form.inner a.form.equated

  below_is : (s : IsSided a.form.body a.form.inner) → below_quantifiers d.equation ≡ Two s.head s.left a.form.body
  below_is s = ap below_quantifiers a.form.is ∙ below_all own.args a.form.inner ∙ ap below_quantifiers s.is ∙ (below_sided s.left a.form.body s.head s.kind).0

  body_is : (s : IsSided a.form.body a.form.inner) → defining_body d.equation ≡ a.form.body
  body_is s = ap defining_body a.form.is ∙ under_body own.args a.form.inner ∙ ap defining_body s.is ∙ (below_sided s.left a.form.body s.head s.kind).1

  pub counted_is : quantifiers d.equation ≡ length own.args
  counted_is = let s = sided in ap quantifiers a.form.is ∙ all_counted own.args a.form.inner (ap quantifiers s.is ∙ none_counted s.left a.form.body s.head s.kind)

  branches_good : (usable : PatternsAreUsable v) (i : ℕ) (xs : List ConstructorBranch) → IsMatch (length own.args) (defining_body d.equation) i xs → All (λ (b : ConstructorBranch). IsGood v own.vars [] (branch_equation own.args d.equation i b)) xs
  branches_good usable i xs m =
      let s = sided in
      let e = s.is in
      let x = subst (HasTyping v (onto own.args [])) e typed_inner in
      let p = subst (ParametersOf []) e (under_parameters [] own.args a.form.inner (subst (ParametersOf []) a.form.is a.formula.parameters)) in
      let n = subst (VariablesBelow own.vars) e (under_variables own.vars own.args a.form.inner (subst (VariablesBelow own.vars) a.form.is a.formula.variables)) in
      let c = subst (λ (z : Tree). IsMatch (length own.args) z i xs) (body_is s) m in
      let kinds = argument_kinds v own.vars own.args a.signature.types.args in
      let t = match_typed v own.vars (onto own.args []) (length own.args) a.form.body i xs c (right_typed v (onto own.args []) s.head s.left a.form.body s.kind x) p.1 n.1 in
      All-weaker (IsTypedBranch v own.vars (onto own.args []) t.type t.first) (λ (b : ConstructorBranch). IsGood v own.vars [] (branch_equation own.args d.equation i b))
      (λ b w. for_all_has v own.vars (branch_types own.args i b) [] (branch_sides own.args i b (below_quantifiers d.equation))
      (branch_kinds v usable own.vars own.args kinds i t.type t.first c.within t.there b w)
      (subst (λ (z : Tree). IsGood v own.vars (onto (branch_types own.args i b) []) (branch_sides own.args i b z)) (sym (below_is s)) (sides_good v usable own.vars own.args kinds i c.within s.left a.form.body xs t b w s.head s.kind x p n)))
      xs t.branches

  -- each branch's body is of the sort of the two sides
  pub branches_sided : (p : ℕ × List ConstructorBranch) → matched_parameter (quantifiers d.equation) (defining_body d.equation) ≡ Some p → All (λ (b : ConstructorBranch). HasSides (sort_of b.body) (below_quantifiers d.equation)) p.1
  branches_sided p q =
      let s = sided in
      let e = s.is in
      let m = matched_is (length own.args) (defining_body d.equation) p (ap (λ (n : ℕ). matched_parameter n (defining_body d.equation)) (sym counted_is) ∙ q) in
      let x = subst (HasTyping v (onto own.args [])) e typed_inner in
      let k = subst (ParametersOf []) e (under_parameters [] own.args a.form.inner (subst (ParametersOf []) a.form.is a.formula.parameters)) in
      let n = subst (VariablesBelow own.vars) e (under_variables own.vars own.args a.form.inner (subst (VariablesBelow own.vars) a.form.is a.formula.variables)) in
      let c = subst (λ (z : Tree). IsMatch (length own.args) z p.0 p.1) (body_is s) m in
      let t = match_typed v own.vars (onto own.args []) (length own.args) a.form.body p.0 p.1 c (right_typed v (onto own.args []) s.head s.left a.form.body s.kind x) k.1 n.1 in
      All-weaker (IsTypedBranch v own.vars (onto own.args []) t.type t.first) (λ (b : ConstructorBranch). HasSides (sort_of b.body) (below_quantifiers d.equation))
      (λ b w. subst (HasSides (sort_of b.body)) (sym (below_is s)) (sides_sorted v (onto own.args []) s.head s.left a.form.body (sort_of b.body) s.kind x (w.sort ∙ sym t.sort))) p.1 t.branches

  facts_good : (i : ℕ) (xs : List ConstructorBranch) → All (λ (b : ConstructorBranch). IsGood v own.vars [] (branch_equation own.args d.equation i b)) xs → All IsSmall (map (branch_fact v.symbols d i) xs) → All (IsSayable v) (map (branch_fact v.symbols d i) xs)
  facts_good i [] g n = All-nil (IsSayable v)
  facts_good i (b ∷ xs) g n =
      All-cons (IsSayable v) (branch_fact v.symbols d i b) (map (branch_fact v.symbols d i) xs) (small_formula v own.vars (branch_equation own.args d.equation i b) (g 0 b (omega arith)) (n 0 (branch_fact v.symbols d i b) (omega arith)))
      (facts_good i xs (λ k c l. g (suc k) c (omega (arith, l))) (λ k c l. n (suc k) c (omega (arith, l))))

  member_good : PatternsAreUsable v → All IsSmall (member_facts v.symbols d) → All (IsSayable v) (member_facts v.symbols d)
  member_good usable n = by (matched_parameter (quantifiers d.equation) (defining_body d.equation)) refl n
    where
      by : (o : Option (ℕ × List ConstructorBranch)) → matched_parameter (quantifiers d.equation) (defining_body d.equation) ≡ o → All IsSmall (facts_by v.symbols d o) → All (IsSayable v) (facts_by v.symbols d o)
      by None q n = All-cons (IsSayable v) (equation_fact v.symbols d) [] a.formula (All-nil (IsSayable v))
      by (Some p) q n = facts_good p.0 p.1 (branches_good usable p.0 p.1 (matched_is (length own.args) (defining_body d.equation) p (ap (λ (m : ℕ). matched_parameter m (defining_body d.equation)) (sym counted_is) ∙ q))) n

-- ---- groups
members_good : (v : Vocabulary) → PatternsAreUsable v → (ds : List DefinitionTree) → All (IsDefinition v) ds → All IsSmall (flat_map (member_facts v.symbols) ds) → All (IsSayable v) (flat_map (member_facts v.symbols) ds)
members_good v usable [] a n = All-nil (IsSayable v)
members_good v usable (d ∷ ds) a n =
    All-append (IsSayable v) (member_facts v.symbols d) (flat_map (member_facts v.symbols) ds)
    (member_good v d (a 0 d (omega arith)) usable (All-left IsSmall (member_facts v.symbols d) (flat_map (member_facts v.symbols) ds) n))
    (members_good v usable ds (λ k e l. a (suc k) e (omega (arith, l))) (All-right IsSmall (member_facts v.symbols d) (flat_map (member_facts v.symbols) ds) n))

recursions_only : (symbols : List SymbolTree) (b : BodyTree) (fs : List FactTree) → recursion_facts symbols b ≡ Some fs → IsSpellable b
recursions_only symbols (Defines ds) fs q = tt
recursions_only symbols (Induces is) fs q = tt
recursions_only symbols (MakesType k) fs q = absurd (cc)
recursions_only symbols (Makes k) fs q = absurd (cc)
recursions_only symbols (Constructs ts) fs q = absurd (cc)
recursions_only symbols (Says e) fs q = absurd (cc)

chosen : (b : Bool) (fs gs : List FactTree) → (if b then Some fs else None) ≡ Some gs → gs ≡ fs
chosen true fs gs q = cc
chosen false fs gs q = absurd (cc)

recursions_valid : (v : Vocabulary) (vars : ℕ) (b : BodyTree) (fs : List FactTree) → PatternsAreUsable v → AreUsable v (made_by b) → IsValidBody v vars b → recursion_facts v.symbols b ≡ Some fs → All IsSmall fs → All (IsSayable v) fs
recursions_valid v vars (Defines ds) fs p u a q n =
    let e : fs ≡ flat_map (member_facts v.symbols) ds = chosen (is_recursive ds) _ fs q in
    subst (All (IsSayable v)) (sym e) (members_good v p ds a (subst (All IsSmall) e n))
recursions_valid v vars (Induces is) fs p u a q n = absurd (cc)
recursions_valid v vars (MakesType k) fs p u a q n = absurd (cc)
recursions_valid v vars (Makes k) fs p u a q n = absurd (cc)
recursions_valid v vars (Constructs ts) fs p u a q n = absurd (cc)
recursions_valid v vars (Says e) fs p u a q n = absurd (cc)

pub recursions_spelling : IsSpelling IsSmallTree recursion_facts
recursions_spelling = record { only = recursions_only; valid = recursions_valid }
