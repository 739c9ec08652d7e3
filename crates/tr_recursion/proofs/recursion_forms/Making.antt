-- The types, the terms and the sides of a branch's equation, as they are made.
use Rattle.std.proofs.Common.{◌≡◌, ℕ, suc, ◌+◌, ◌-◌, List, [], ◌∷◌, ◌++◌, take, drop, map, length, refl, sym, ap, ◌∙◌, append_assoc}
use Rattle.std.proofs.lemmas.List.{length-map, map-append, take-map, drop-map}
use Rattle.trees.specs.declared.TermId.{TermId}
use Rattle.trees.specs.declared.Sort.TheVariants.{Kind, Term}
use Rattle.trees.specs.Tree.{Tree, Leaf, One, Two, Three, Head, HFun}
use Rattle.trees.specs.Binding.{inst_many}
use Rattle.trees.specs.Node.{tree_at, trees_at, Holds, Grows}
use Rattle.trees.specs.binders.Visits.{AreHeldOfSort, trees_stay}
use Rattle.tasks.specs.Equations.{cells}
use Rattle.tr_inline.specs.inlining.branch_equations.Branches.{ConstructorBranch, field_type, parameters_before, parameters_after, variables_above, branch_types, branch_fields, branch_parameters, pattern_fields, branch_sides}
use Rattle.tr_recursion.specs.declared.recursion_forms.branches.Branch.{Branch}
use Rattle.tr_recursion.specs.recursion_forms.Read.{constructor_branch_at, IsBranchHeld}
use Rattle.tr_recursion.specs.recursion_forms.Made.{parameters_with, sides_with}
use Rattle.tr_recursion.proofs.recursion_forms.Numbers.{held_take, held_drop, one_more}

-- ---- the parameters before the matched one and after it
pub before_is : (s : List Tree) (args : List TermId) (i : ℕ) → trees_at s (take (length args - 1 - i) args) ≡ parameters_before (trees_at s args) i
before_is s args i = sym (take-map (tree_at s) (length args - 1 - i) args) ∙ ap (λ (n : ℕ). take (n - 1 - i) (trees_at s args)) (sym (length-map args (tree_at s)))

pub after_is : (s : List Tree) (args : List TermId) (i : ℕ) → trees_at s (drop (length args - i) args) ≡ parameters_after (trees_at s args) i
after_is s args i = sym (drop-map (tree_at s) (length args - i) args) ∙ ap (λ (n : ℕ). drop (n - i) (trees_at s args)) (sym (length-map args (tree_at s)))

pub after_count : (s : List Tree) (args : List TermId) (i : ℕ) → length (drop (length args - i) args) ≡ length (parameters_after (trees_at s args) i)
after_count s args i = sym (length-map (drop (length args - i) args) (tree_at s)) ∙ ap length (after_is s args i)

-- ---- the types of the variables
pub types_made : (s : List Tree) (args : List TermId) (i : ℕ) (b : ConstructorBranch) (one two three : List TermId) → one ≡ take (length args - 1 - i) args → trees_at s two ≡ trees_at s one ++ map field_type b.fields → three ≡ two ++ drop (length args - i) args
    → trees_at s three ≡ branch_types (trees_at s args) i b
types_made s args i b one two three p q r =
    let last = drop (length args - i) args in
    let own = map field_type b.fields in
    ap (trees_at s) r ∙ map-append (tree_at s) two last
    ∙ ap (λ (z : List Tree). z ++ trees_at s last) q
    ∙ append_assoc (trees_at s one) own (trees_at s last)
    ∙ ap (λ (ids : List TermId). trees_at s ids ++ (own ++ trees_at s last)) p
    ∙ ap (λ (z : List Tree). z ++ (own ++ trees_at s last)) (before_is s args i)
    ∙ ap (λ (z : List Tree). parameters_before (trees_at s args) i ++ (own ++ z)) (after_is s args i)

-- ---- the terms
-- those before the matched parameter, the constructor, and those after it, one after another
pub parameters_made : (s s1 s2 : List Tree) (g : Grows s s2) (h : Grows s1 s2) (args : List TermId) (i : ℕ) (b : ConstructorBranch) (zs : List Tree) (first second : List TermId) (built : TermId) (n : ℕ) (made : List Tree)
    → AreHeldOfSort Kind s args → AreHeldOfSort Term s1 first → n ≡ length zs + length (drop (length args - i) args) → trees_at s1 first ≡ variables_above n (trees_at s (take (length args - 1 - i) args)) → second ≡ first ++ built ∷ []
    → tree_at s2 built ≡ Three (HFun b.symbol) b.types (cells zs) b.type → made ≡ trees_at s2 second ++ variables_above 0 (trees_at s2 (drop (length args - i) args)) → made ≡ parameters_with (trees_at s args) i b zs
parameters_made s s1 s2 g h args i b zs first second built n made k held q f p e m =
    let last = drop (length args - i) args in
    let x = Three (HFun b.symbol) b.types (cells zs) b.type in
    let end : trees_at s2 last ≡ parameters_after (trees_at s args) i = trees_stay Kind s s2 last g (held_drop Kind s (length args - i) args k) ∙ after_is s args i in
    let start : trees_at s1 first ≡ variables_above (length zs + length (parameters_after (trees_at s args) i)) (parameters_before (trees_at s args) i) =
    f ∙ ap (λ (j : ℕ). variables_above j (trees_at s (take (length args - 1 - i) args))) (q ∙ ap (λ (j : ℕ). length zs + j) (after_count s args i))
    ∙ ap (variables_above (length zs + length (parameters_after (trees_at s args) i))) (before_is s args i) in
    m
    ∙ ap (λ (z : List Tree). z ++ variables_above 0 (trees_at s2 last)) (one_more Term s1 s2 h first second built x held p e)
    ∙ append_assoc (trees_at s1 first) (x ∷ []) (variables_above 0 (trees_at s2 last))
    ∙ ap (λ (z : List Tree). z ++ x ∷ variables_above 0 (trees_at s2 last)) start
    ∙ ap (λ (z : List Tree). variables_above (length zs + length (parameters_after (trees_at s args) i)) (parameters_before (trees_at s args) i) ++ x ∷ variables_above 0 z) end

-- a branch's constructor on terms
pub built_later : (s s1 : List Tree) → Grows s s1 → (b : Branch) → IsBranchHeld s b → (fields : List TermId) → AreHeldOfSort Term s fields → (e : Tree) → e ≡ Three (HFun b.symbol) (tree_at s1 b.types) (cells (trees_at s1 fields)) (tree_at s1 b.ty)
    → e ≡ Three (HFun b.symbol) (tree_at s b.types) (cells (trees_at s fields)) (tree_at s b.ty)
built_later s s1 g b h fields k e q =
    q
    ∙ ap (λ (z : Tree). Three (HFun b.symbol) z (cells (trees_at s1 fields)) (tree_at s1 b.ty)) (g.same b.types.0 h.types)
    ∙ ap (λ (z : List Tree). Three (HFun b.symbol) (tree_at s b.types) (cells z) (tree_at s1 b.ty)) (trees_stay Term s s1 fields g k)
    ∙ ap (Three (HFun b.symbol) (tree_at s b.types) (cells (trees_at s fields))) (g.same b.ty.0 h.type)

above_count : (n : ℕ) (types : List Tree) → length (variables_above n types) ≡ length types
above_count n [] = refl
above_count n (ty ∷ types) = ap (λ (k : ℕ). suc k) (above_count n types)

-- with the variables for the fields
pub with_fields : (args : List Tree) (i : ℕ) (b : ConstructorBranch) → parameters_with args i b (branch_fields args i b) ≡ branch_parameters args i b
with_fields args i b =
    let n : length (branch_fields args i b) ≡ length b.fields = above_count (length (parameters_after args i)) (map field_type b.fields) ∙ length-map b.fields field_type in
    ap (λ (k : ℕ). variables_above (k + length (parameters_after args i)) (parameters_before args i) ++ Three (HFun b.symbol) b.types (cells (branch_fields args i b)) b.type ∷ variables_above 0 (parameters_after args i)) n

-- ---- the sides
same_sides : (args : List Tree) (i : ℕ) (b : ConstructorBranch) (e : Tree) → sides_with e b.body (branch_parameters args i b) (branch_parameters args i b ++ pattern_fields args i b) ≡ branch_sides args i b e
same_sides args i b (Leaf h) = refl
same_sides args i b (One h x) = refl
same_sides args i b (Two h x y) = refl
same_sides args i b (Three h x y z) = refl

pub sides_made : (args : List Tree) (i : ℕ) (b : ConstructorBranch) (e made : Tree) (zs ps us : List Tree) → zs ≡ branch_fields args i b → ps ≡ parameters_with args i b zs → us ≡ ps ++ pattern_fields args i b → made ≡ sides_with e b.body ps us → made ≡ branch_sides args i b e
sides_made args i b e made zs ps us z p u m =
    let are : ps ≡ branch_parameters args i b = p ∙ ap (parameters_with args i b) z ∙ with_fields args i b in
    m ∙ ap (sides_with e b.body ps) u ∙ ap (λ (w : List Tree). sides_with e b.body w (w ++ pattern_fields args i b)) are ∙ same_sides args i b e

-- terms put in one after the other
pub sides_put : (s s1 s2 : List Tree) (g : Grows s s1) (k : Grows s1 s2) (h : Head) (sides first second : Tree) (body one other : TermId) (left right : List TermId) (e : Tree) → sides ≡ Two h first second → Holds s1 one → tree_at s1 one ≡ inst_many first (trees_at s left)
    → Holds s body → AreHeldOfSort Term s right → tree_at s2 other ≡ inst_many (tree_at s1 body) (trees_at s1 right) → e ≡ Two h (tree_at s2 one) (tree_at s2 other) → e ≡ sides_with sides (tree_at s body) (trees_at s left) (trees_at s right)
sides_put s s1 s2 g k h sides first second body one other left right e q l o b r p m =
    m
    ∙ ap (λ (z : Tree). Two h z (tree_at s2 other)) (k.same one.0 l ∙ o)
    ∙ ap (Two h (inst_many first (trees_at s left))) (p ∙ ap (λ (z : Tree). inst_many z (trees_at s1 right)) (g.same body.0 b) ∙ ap (inst_many (tree_at s body)) (trees_stay Term s s1 right g r))
    ∙ ap (λ (z : Tree). sides_with z (tree_at s body) (trees_at s left) (trees_at s right)) (sym q)
