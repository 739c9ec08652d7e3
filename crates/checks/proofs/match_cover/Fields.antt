-- The parts of a well-typed pattern are patterns for the fields of its constructor.
use Rattle.std.proofs.Common.{◌≡◌, ◌≢◌, ℕ, zero, suc, ◌+◌, ◌<◌, inl, inr, List, [], ◌∷◌, map, length, drop, get_or, slice_get, Option, Some, None, IsSomeAnd, option_map, subst, refl, sym, ap, ◌∙◌, arith, drop-cons}
use Rattle.std.proofs.lemmas.List.{drop_all}
use Rattle.std.proofs.lemmas.Option.{get_or_from_slice_get}
use Rattle.trees.specs.declared.Sort.{Sort}
use Rattle.trees.specs.declared.Sort.TheVariants.{Term, Formula, Pattern, Branch}
use Rattle.trees.specs.Tree.{Tree, Leaf, One, Two, Three, Head, HTyApp, HEnd, HCell, HFun, HIf, HNum, HTrue, HFalse, HBound, HParam, HNot, HLet, HCase, HArm, HPatAny, HPatVar, HPatCon, HPatAlias, head_of}
use Rattle.trees.specs.Sorts.{Fits, IsExpression, IsListOf, one_sort, first_sort, yield, yield_type, sort_of, top_sort, top_type, type_of}
use Rattle.trees.specs.Binding.{typing, change, inst_types, TyVar}
use Rattle.tasks.specs.Task.{SymbolTree, int_symbol}
use Rattle.tasks.specs.Equations.{cells, type_variables}
use Rattle.tasks.specs.Valid.{own_type}
use Rattle.tasks.specs.Vocabulary.{Vocabulary, of_signature}
use Rattle.tasks.specs.Typing.{members, IsUse, HasResult, TypedUnder}
use Rattle.checks.specs.match_cover.Shapes.{type_arguments, field_types, Builds, without_aliases}
use Rattle.checks.specs.match_cover.Tables.{BareFits, RowFits}
use Rattle.tasks.proofs.plain_laws.Options.{some_and as some_parts}

-- ---- what is of the sort of patterns is a pattern
expression_yield : (h : Head) (s : Sort) → IsExpression (top_sort h s) → top_sort h s ≡ s
expression_yield HEnd s (inl e) = absurd (cc)
expression_yield HEnd s (inr e) = absurd (cc)
expression_yield HCell s (inl e) = absurd (cc)
expression_yield HCell s (inr e) = absurd (cc)
expression_yield HArm s (inl e) = absurd (cc)
expression_yield HArm s (inr e) = absurd (cc)
expression_yield _ s x = refl

no_pattern : (s : Sort) → IsExpression s → s ≢ Pattern
no_pattern s (inl e) p = let z : Term ≡ Pattern = sym e ∙ p in cc
no_pattern s (inr e) p = let z : Formula ≡ Pattern = sym e ∙ p in cc

yields_no_pattern : (e : Tree) → IsExpression (sort_of e) → yield e ≢ Pattern
yields_no_pattern e x p = no_pattern (sort_of e) x (expression_yield (head_of e) (yield e) x ∙ p)

-- no tree yields a branch
one_never : (h : Head) → one_sort h ≢ Branch
one_never (HBound i) e = cc
one_never (HParam n) e = cc
one_never HNot e = cc
one_never HPatAny e = cc
one_never HPatVar e = cc
one_never HPatAlias e = cc
one_never _ e = cc

never_branch : (e : Tree) → yield e ≢ Branch
never_branch (Leaf (HNum z)) e = cc
never_branch (Leaf HTrue) e = cc
never_branch (Leaf HFalse) e = cc
never_branch (Leaf _) e = cc
never_branch (One h a) e = one_never h e
never_branch (Two HCell a b) e = never_branch a e
never_branch (Two HLet a b) e = never_branch b e
never_branch (Two HCase a b) e = never_branch b e
never_branch (Two HArm a b) e = never_branch b e
never_branch (Two _ a b) e = cc
never_branch (Three (HFun f) a b c) e = cc
never_branch (Three HIf a b c) e = never_branch b e
never_branch (Three _ a b c) e = cc

branch_head : (h : Head) (s : Sort) → s ≢ Branch → top_sort h s ≡ Branch → h ≡ HArm
branch_head HEnd s n e = absurd (cc)
branch_head HCell s n e = absurd (cc)
branch_head HArm s n e = refl
branch_head _ s n e = absurd (n e)

is_arm : (e : Tree) → sort_of e ≡ Branch → head_of e ≡ HArm
is_arm e k = branch_head (head_of e) (yield e) (never_branch e) k

branch_yields : (v : Vocabulary) (types : List Tree) (a : Tree) → sort_of a ≡ Branch → TypedUnder v types a → yield a ≢ Pattern
branch_yields v types (Leaf h) k x = absurd ((subst (λ g. Fits (Leaf g)) (is_arm (Leaf h) k) x.0))
branch_yields v types (One h a) k x = absurd ((subst (λ g. Fits (One g a)) (is_arm (One h a) k) x.0))
branch_yields v types (Two h a b) k x =
    let i : h ≡ HArm = is_arm (Two h a b) k in
    let f : Fits (Two HArm a b) = subst (λ g. Fits (Two g a b)) i x.0 in
    subst (λ g. yield (Two g a b) ≢ Pattern) (sym i) (yields_no_pattern b f.0.1)
branch_yields v types (Three h a b c) k x = absurd ((subst (λ g. Fits (Three g a b c)) (is_arm (Three h a b c) k) x.0))

branches_yield : (v : Vocabulary) (types : List Tree) (b : Tree) → IsListOf Branch (sort_of b) (first_sort b) → head_of b ≡ HCell → TypedUnder v types b → yield b ≢ Pattern
branches_yield v types (Leaf h) l c x = let f = subst (λ g. Fits (Leaf g)) c x.0 in absurd f
branches_yield v types (One h a) l c x = let f = subst (λ g. Fits (One g a)) c x.0 in absurd f
branches_yield v types (Two HCell a b) (l, inl f) c x = absurd (cc)
branches_yield v types (Two HCell a b) (l, inr f) c x = let k : sort_of a ≡ Branch = cc in branch_yields v types a k x.2
branches_yield v types (Two _ a b) l c x = absurd (cc)
branches_yield v types (Three h a b c) l d x = let f = subst (λ g. Fits (Three g a b c)) d x.0 in absurd f

-- ---- the type of a pattern is what it yields
pub pattern_top : (h : Head) (s : Sort) (o : Option Tree) → top_sort h s ≡ Pattern → top_type h o ≡ o
pattern_top HCell s o e = absurd (cc)
pattern_top HArm s o e = absurd (cc)
pattern_top _ s o e = refl

pattern_sort : (h : Head) (s : Sort) → top_sort h s ≡ Pattern → s ≡ Pattern
pattern_sort HEnd s e = absurd (cc)
pattern_sort HCell s e = absurd (cc)
pattern_sort HArm s e = absurd (cc)
pattern_sort _ s e = e

pub pattern_fits : (symbols : List SymbolTree) (t p : Tree) → sort_of p ≡ Pattern → TypedUnder (of_signature symbols) [] p → type_of p ≡ Some t → BareFits symbols t (without_aliases p)
pattern_fits symbols t (Leaf (HNum z)) k x e = absurd (cc)
pattern_fits symbols t (Leaf HTrue) k x e = absurd (cc)
pattern_fits symbols t (Leaf HFalse) k x e = absurd (cc)
pattern_fits symbols t (Leaf _) k x e = absurd (cc)
pattern_fits symbols t (One HPatAny a) k x e = tt
pattern_fits symbols t (One HPatVar a) k x e = tt
pattern_fits symbols t (One HPatAlias a) k x e =
    let q : sort_of a ≡ Pattern = x.0 in
    pattern_fits symbols t a q x.2 (pattern_top (head_of a) (yield a) (yield_type a) q ∙ e)
pattern_fits symbols t (One _ a) k x e = absurd (cc)
pattern_fits symbols t (Two HLet a b) k x e = absurd (yields_no_pattern b x.0.0.1 k)
pattern_fits symbols t (Two HCase a b) k x e = absurd (branches_yield (of_signature symbols) [] b x.0.0.1 x.0.1 x.3 k)
pattern_fits symbols t (Two _ a b) k x e = absurd (cc)
pattern_fits symbols t (Three (HPatCon c) a b d) k x e = (cc, x)
pattern_fits symbols t (Three HIf a b d) k x e = absurd (yields_no_pattern b x.0.1 k)
pattern_fits symbols t (Three _ a b d) k x e = absurd (cc)

-- ---- the types of a constructor's parts

-- a symbol's own type variables become the types that are put in
put_in : (tys : List Tree) (n from : ℕ) → from + n ≡ length tys → members (change (typing tys) 0 (cells (type_variables from n))) ≡ drop from tys
put_in tys zero from e = sym (drop_all from tys (omega arith))
put_in tys (suc n) from e =
    let l : from < length tys = omega arith in
    let r : members (change (typing tys) 0 (cells (type_variables (from + 1) n))) ≡ drop (from + 1) tys = put_in tys n (from + 1) (omega arith) in
    let n : from + 1 ≡ suc from = omega arith in
    ap (λ q. get_or tys from (TyVar from) ∷ q) (r ∙ ap (λ j. drop j tys) n) ∙ sym (drop-cons tys from (TyVar from) l)

-- the arguments of the type that a constructor builds are the types at which it is used
own_arguments : (h vars : ℕ) (types type a : Tree) → length (members types) ≡ vars → type ≡ One (HTyApp h) a → inst_types (own_type h vars) (members types) ≡ type → members a ≡ members types
own_arguments h vars types type a long is made =
    sym (ap type_arguments (made ∙ is)) ∙ put_in (members types) vars 0 (omega (arith, long))

row_from : (symbols : List SymbolTree) (tys : List Tree) (parts : Tree) (args : List Tree) → IsListOf Pattern (sort_of parts) (first_sort parts) → TypedUnder (of_signature symbols) [] parts
    → map type_of (members parts) ≡ map (λ x. Some (inst_types x tys)) args → RowFits symbols (map (λ x. inst_types x tys) args) (members parts)
row_from symbols tys (Two HCell p ps) [] l x e = absurd (cc)
row_from symbols tys (Two HCell p ps) (a ∷ args) (l, inl f) x e = absurd (cc)
row_from symbols tys (Two HCell p ps) (a ∷ args) (l, inr f) x e =
    let k : sort_of p ≡ Pattern = cc in
    let rest : IsListOf Pattern (sort_of ps) (first_sort ps) = subst (λ s. IsListOf s (sort_of ps) (first_sort ps)) k x.0.0.1 in
    (pattern_fits symbols (inst_types a tys) p k x.2 (cc), row_from symbols tys ps args rest x.3 (cc))
row_from symbols tys _ [] l x e = tt
row_from symbols tys _ (a ∷ args) l x e = absurd (cc)

fields_known : (symbols : List SymbolTree) (h : ℕ) (a : Tree) (k : ℕ) (e : SymbolTree) (types parts type : Tree) → slice_get symbols k ≡ Some e → e.result ≡ Some (own_type h e.vars)
    → IsUse e types parts → HasResult e types type → type ≡ One (HTyApp h) a → IsListOf Pattern (sort_of parts) (first_sort parts) → TypedUnder (of_signature symbols) [] parts
    → RowFits symbols (field_types symbols (One (HTyApp h) a) k) (members parts)
fields_known symbols h a k e types parts type is res used gives same l x =
    let tys = members types in
    let made : Some (inst_types (own_type h e.vars) tys) ≡ Some type = subst (λ r. option_map (λ y. inst_types y tys) r ≡ Some type) res gives in
    let args : members a ≡ tys = own_arguments h e.vars types type a used.as_many same (cc) in
    let row : RowFits symbols (map (λ y. inst_types y tys) e.args) (members parts) = row_from symbols tys parts e.args l x used.fit in
    let at : RowFits symbols (map (λ y. inst_types y (members a)) e.args) (members parts) = subst (λ q. RowFits symbols (map (λ y. inst_types y q) e.args) (members parts)) (sym args) row in
    subst (λ (f : SymbolTree). RowFits symbols (map (λ y. inst_types y (members a)) f.args) (members parts)) (sym (get_or_from_slice_get symbols k e int_symbol is)) at

pub fields_fit : (symbols : List SymbolTree) (t : Tree) (k c : ℕ) (types parts type : Tree) → BareFits symbols t (Three (HPatCon c) types parts type) → c ≡ k → Builds symbols t k
    → RowFits symbols (field_types symbols t k) (members parts)
fields_fit symbols (One (HTyApp h) a) k c types parts type x same b =
    let p = some_parts (slice_get symbols c) _ x.1.1.1 in
    let q = some_parts (slice_get symbols k) _ b in
    let is : slice_get symbols k ≡ Some p.0 = subst (λ j. slice_get symbols j ≡ Some p.0) same p.1 in
    let one : Some q.0 ≡ Some p.0 = sym q.1 ∙ is in
    let entry : q.0 ≡ p.0 = cc in
    let res : p.0.result ≡ Some (own_type h p.0.vars) = subst (λ (e : SymbolTree). e.result ≡ Some (own_type h e.vars)) entry q.2.1 in
    fields_known symbols h a k p.0 types parts type is res p.2.1 p.2.2 x.0 x.1.0.1 x.1.3
fields_fit symbols _ k c types parts type x same b = absurd b
