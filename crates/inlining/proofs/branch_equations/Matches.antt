-- A `match` that gives branch equations: what it is, and what its branches are in a typed body.
use Rattle.std.proofs.Common.{◌≡◌, ℕ, ◌<◌, nat_lt, Bool, true, false, if◌then◌else◌, List, [], ◌∷◌, ◌++◌, slice_get, All, Option, Some, None, subst, refl, sym, ap, ◌∙◌, arith}
use Rattle.std.specs.List.{list_all}
use Rattle.std.specs.Option.{option_map}
use Rattle.std.proofs.lemmas.Bool.Decides.{nat_tests}
use Rattle.std.proofs.lemmas.List.Elements.{All-cons, All-nil}
use Rattle.tasks.specs.trees.Tree.{Tree, Leaf, One, Two, Three, HEnd, HCell, HBound, HCase, HArm, HPatCon, head_of}
use Rattle.tasks.specs.trees.Sorts.{sort_of, type_of}
use Rattle.tasks.specs.Vocabulary.{Vocabulary}
use Rattle.tasks.specs.Typing.{members, pattern_types, BranchesFit, BranchFits, first_body}
use Rattle.tasks.specs.Valid.{VariablesBelow, ParametersOf}
use Rattle.images.proofs.Images.{expression_sort, expression_type}
use Rattle.evidence.specs.images.typing_laws.HasTyping.{HasTyping}
use Rattle.inlining.specs.branch_equations.Branches.{ConstructorBranch, is_plain_field, constructor_branch, add_branch, constructor_branches, are_different, if_different, matched_parameter}

-- ---- the form
pub record IsMatch (m : ℕ) (body : Tree) (i : ℕ) (bs : List ConstructorBranch) : Type 0 where
  pub type : Tree
  pub branches : Tree
  pub is : body ≡ Two HCase (One (HBound i) type) branches
  pub within : i < m
  pub are : constructor_branches branches ≡ Some bs
  pub different : are_different bs ≡ true

different_of : (o : Option (List ConstructorBranch)) (i : ℕ) (p : ℕ × List ConstructorBranch) → option_map (λ xs. (i, xs)) (if_different o) ≡ Some p → (i ≡ p.0) × ((o ≡ Some p.1) × (are_different p.1 ≡ true))
different_of None i p q = absurd (cc)
different_of (Some xs) i p q = by (are_different xs) refl q
  where
    by : (t : Bool) → are_different xs ≡ t → option_map (λ ys. (i, ys)) (if t then Some xs else None) ≡ Some p → (i ≡ p.0) × ((Some xs ≡ Some p.1) × (are_different p.1 ≡ true))
    by true e r = let s : (i, xs) ≡ p = cc in (ap (λ (z : ℕ × List ConstructorBranch). z.0) s, (ap (λ (z : ℕ × List ConstructorBranch). Some z.1) s, sym (ap (λ (z : ℕ × List ConstructorBranch). are_different z.1) s) ∙ e))
    by false e r = absurd (cc)

within_of : (m i : ℕ) (type branches : Tree) (p : ℕ × List ConstructorBranch) → matched_parameter m (Two HCase (One (HBound i) type) branches) ≡ Some p → IsMatch m (Two HCase (One (HBound i) type) branches) p.0 p.1
within_of m i type branches p q = by (nat_lt i m) refl q
  where
    by : (t : Bool) → nat_lt i m ≡ t → (if t then option_map (λ xs. (i, xs)) (if_different (constructor_branches branches)) else None) ≡ Some p → IsMatch m (Two HCase (One (HBound i) type) branches) p.0 p.1
    by true e r =
        let d = different_of (constructor_branches branches) i p r in
        let l : i < m = grind (arith, nat_tests) in
        record {
          type = type;
          branches = branches;
          is = ap (λ (j : ℕ). Two HCase (One (HBound j) type) branches) d.0;
          within = subst (λ (j : ℕ). j < m) d.0 l;
          are = d.1.0;
          different = d.1.1;
        }
    by false e r = absurd (cc)

asked_of : (m : ℕ) (a branches : Tree) (p : ℕ × List ConstructorBranch) → matched_parameter m (Two HCase a branches) ≡ Some p → IsMatch m (Two HCase a branches) p.0 p.1
asked_of m (One (HBound i) type) branches p q = within_of m i type branches p q
asked_of m _ branches p q = absurd (cc)

pub matched_is : (m : ℕ) (body : Tree) (p : ℕ × List ConstructorBranch) → matched_parameter m body ≡ Some p → IsMatch m body p.0 p.1
matched_is m (Two HCase a branches) p q = asked_of m a branches p q
matched_is m _ p q = absurd (cc)

-- ---- one branch
pub record IsBranch (arm : Tree) (b : ConstructorBranch) : Type 0 where
  pub fields : Tree
  pub is : arm ≡ Two HArm (Three (HPatCon b.symbol) b.types fields b.type) b.body
  pub same : members fields ≡ b.fields
  pub plain : list_all is_plain_field b.fields ≡ true

branch_is : (arm : Tree) (b : ConstructorBranch) → constructor_branch arm ≡ Some b → IsBranch arm b
branch_is (Two HArm (Three (HPatCon c) types ps ty) a) b q = by (list_all is_plain_field (members ps)) refl q
  where
    made : ConstructorBranch
    made = record { symbol = c; types = types; fields = members ps; type = ty; body = a }

    by : (t : Bool) → list_all is_plain_field (members ps) ≡ t → (if t then Some made else None) ≡ Some b → IsBranch (Two HArm (Three (HPatCon c) types ps ty) a) b
    by true e r = let s : made ≡ b = cc in subst (IsBranch (Two HArm (Three (HPatCon c) types ps ty) a)) s (record { fields = ps; is = refl; same = refl; plain = e })
    by false e r = absurd (cc)
branch_is _ b q = absurd (cc)

-- ---- the branches of a typed body
module _ (v : Vocabulary) (vars : ℕ) (bs : List Tree) (type first : Tree) where
  -- a branch, typed under the parameters of these types, for a term of this type
  pub record IsTypedBranch (b : ConstructorBranch) : Type 0 where
    pub fields : Tree
    pub same : members fields ≡ b.fields
    pub plain : list_all is_plain_field b.fields ≡ true
    pub pattern : HasTyping v bs (Three (HPatCon b.symbol) b.types fields b.type)
    pub pattern_parameters : ParametersOf [] (Three (HPatCon b.symbol) b.types fields b.type)
    pub pattern_variables : VariablesBelow vars (Three (HPatCon b.symbol) b.types fields b.type)
    pub asked : b.type ≡ type
    pub typed : HasTyping v (pattern_types fields ++ bs) b.body
    pub parameters : ParametersOf [] b.body
    pub variables : VariablesBelow vars b.body
    pub sort : sort_of b.body ≡ sort_of first
    pub given : type_of b.body ≡ type_of first

  some_type : (a c : Tree) → Some a ≡ Some c → a ≡ c
  some_type a c q = cc

  arm_typed : (arm : Tree) (b : ConstructorBranch) → IsBranch arm b → HasTyping v bs arm → ParametersOf [] arm → VariablesBelow vars arm → BranchFits (Some type) first arm → IsTypedBranch b
  arm_typed arm b i x p n f =
      let e = i.is in
      let y = subst (HasTyping v bs) e x in
      let q = subst (ParametersOf []) e p in
      let m = subst (VariablesBelow vars) e n in
      let g = subst (BranchFits (Some type) first) e f in
      record {
        fields = i.fields;
        same = i.same;
        plain = i.plain;
        pattern = y.2;
        pattern_parameters = q.0;
        pattern_variables = m.0;
        asked = some_type b.type type g.0;
        typed = y.3;
        parameters = q.1;
        variables = m.1;
        sort = g.1;
        given = g.2;
      }

  joined_typed : (b : Tree) (o : Option ConstructorBranch) (os : Option (List ConstructorBranch)) (xs : List ConstructorBranch) → constructor_branch b ≡ o → add_branch o os ≡ Some xs → ((c : ConstructorBranch) → IsBranch b c → IsTypedBranch c)
      → ((cs : List ConstructorBranch) → os ≡ Some cs → All IsTypedBranch cs) → All IsTypedBranch xs
  joined_typed b (Some c) (Some cs) xs d r f g = let s : c ∷ cs ≡ xs = cc in subst (All IsTypedBranch) s (All-cons IsTypedBranch c cs (f c (branch_is b c d)) (g cs refl))
  joined_typed b (Some c) None xs d r f g = absurd (cc)
  joined_typed b None os xs d r f g = absurd (cc)

  branches_typed : (e : Tree) (xs : List ConstructorBranch) → constructor_branches e ≡ Some xs → HasTyping v bs e → ParametersOf [] e → VariablesBelow vars e → BranchesFit (Some type) first e → All IsTypedBranch xs
  branches_typed (Leaf HEnd) xs q x p n f = let s : [] ≡ xs = cc in subst (All IsTypedBranch) s (All-nil IsTypedBranch)
  branches_typed (Two HCell b rest) xs q x p n f =
      joined_typed b (constructor_branch b) (constructor_branches rest) xs refl q (λ c w. arm_typed b c w x.2 p.0 n.0 f.0) (λ cs w. branches_typed rest cs w x.3 p.1 n.1 f.1)
  branches_typed _ xs q x p n f = absurd (cc)

-- ---- a `match` on a parameter, in a typed body
case_of : (v : Vocabulary) (bs : List Tree) (a e : Tree) (ty : Option Tree) → head_of e ≡ HCell → BranchesFit ty (first_body e) e → HasTyping v bs e
    → (sort_of (Two HCase a e) ≡ sort_of (first_body e)) × (type_of (Two HCase a e) ≡ type_of (first_body e))
case_of v bs a (Two HCell (Two HArm p b) rest) ty h f x = let k = x.2.0.0.1 in (expression_sort b k, sym (expression_type b k))
case_of v bs a (Two HCell (Leaf g) rest) ty h f x = absurd f.0
case_of v bs a (Two HCell (One g y) rest) ty h f x = absurd f.0
case_of v bs a (Two HCell (Three g y z w) rest) ty h f x = absurd f.0
case_of v bs a (Two HCell (Two _ y z) rest) ty h f x = absurd f.0
case_of v bs a (Leaf HCell) ty h f x = absurd x.0
case_of v bs a (One HCell y) ty h f x = absurd x.0
case_of v bs a (Three HCell y z w) ty h f x = absurd x.0
case_of v bs a _ ty h f x = absurd (cc)

-- the parameter has a type, and the body what its first branch gives
pub record IsTypedMatch (v : Vocabulary) (vars : ℕ) (bs : List Tree) (body : Tree) (i : ℕ) (xs : List ConstructorBranch) : Type 0 where
  pub type : Tree
  pub first : Tree
  pub there : slice_get bs i ≡ Some type
  pub branches : All (IsTypedBranch v vars bs type first) xs
  pub sort : sort_of body ≡ sort_of first
  pub given : type_of body ≡ type_of first

case_typed : (v : Vocabulary) (vars : ℕ) (bs : List Tree) (i : ℕ) (ty e : Tree) (xs : List ConstructorBranch) → constructor_branches e ≡ Some xs → HasTyping v bs (Two HCase (One (HBound i) ty) e) → ParametersOf [] (Two HCase (One (HBound i) ty) e)
    → VariablesBelow vars (Two HCase (One (HBound i) ty) e) → IsTypedMatch v vars bs (Two HCase (One (HBound i) ty) e) i xs
case_typed v vars bs i ty e xs q x p n =
    let s = case_of v bs (One (HBound i) ty) e (Some ty) x.0.1 x.1 x.3 in
    record {
      type = ty;
      first = first_body e;
      there = x.2.1;
      branches = branches_typed v vars bs ty (first_body e) e xs q x.3 p.1 n.1 x.1;
      sort = s.0;
      given = s.1;
    }

pub match_typed : (v : Vocabulary) (vars : ℕ) (bs : List Tree) (m : ℕ) (body : Tree) (i : ℕ) (xs : List ConstructorBranch) → IsMatch m body i xs → HasTyping v bs body → ParametersOf [] body → VariablesBelow vars body → IsTypedMatch v vars bs body i xs
match_typed v vars bs m body i xs h x p n =
    subst (λ (z : Tree). IsTypedMatch v vars bs z i xs) (sym h.is)
    (case_typed v vars bs i h.type h.branches xs h.are (subst (HasTyping v bs) h.is x) (subst (ParametersOf []) h.is p) (subst (VariablesBelow vars) h.is n))
