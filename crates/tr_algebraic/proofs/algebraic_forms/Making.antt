-- Terms, types and constructors stay as the store grows, and what is made of them, one step more.
use Rattle.std.proofs.Common.{◌≡◌, ◌+◌, ◌-◌, ◌==◌, Bool, true, false, ℕ, List, [], ◌∷◌, ◌++◌, length, map, All, refl, sym, ap, subst, ◌∙◌, append_assoc}
use Rattle.std.proofs.lemmas.List.{map-append, length-map}
use Rattle.std.proofs.lemmas.List.Elements.{All-weaker, All-push}
use Rattle.trees.specs.declared.TermId.{TermId}
use Rattle.trees.specs.declared.Sort.TheVariants.{Term}
use Rattle.trees.specs.Tree.{Tree, Two, HJoin}
use Rattle.trees.specs.declared.Op.TheVariants.{Or}
use Rattle.trees.specs.Binding.{Bound}
use Rattle.trees.specs.Node.{tree_at, trees_at, Holds, Grows}
use Rattle.trees.specs.Sorts.{sort_of, IsList}
use Rattle.tasks.specs.declared.declaration.Con.{Con}
use Rattle.tasks.specs.declared.declaration.Alg.{Alg}
use Rattle.tasks.specs.Task.{ConstructorTree}
use Rattle.tasks.specs.Equations.{for_all}
use Rattle.tasks.specs.Meaning.{con_at, cons_at, algebraic_at, algebraics_at}
use Rattle.tasks.proofs.Growth.{map_agree, held_later, all_held_later, tree_later, trees_later}
use Rattle.declarations.specs.spelled_groups.Making.{IsKindAt}
use Rattle.declarations.proofs.spelled_groups.Making.{kind_later, kinds_later, kind_trees}
use Rattle.tr_algebraic.specs.declared.algebraic_forms.terms.OwnType.{OwnType}
use Rattle.tr_algebraic.specs.algebraic_forms.Formulas.{variable_under, projection_law, projection_laws, all_projection_laws, distinctness_law, distinctness_laws, case_equation, disjunction}
use Rattle.tr_algebraic.specs.algebraic_forms.Making.{IsTermAt, AreTermsAt, IsOwnType, ConIsFit, AlgIsFit}
pub use Rattle.declarations.proofs.spelled_groups.Making.{own_step}

-- a type in its own words
pub own_itself : (s : List Tree) (symbol vars : ℕ) (own : OwnType) → IsOwnType s symbol vars own → IsOwnType s own.symbol own.vars own
own_itself s symbol vars own o = subst (λ (n : ℕ). IsOwnType s n own.vars own) (sym o.symbol_is) (subst (λ (n : ℕ). IsOwnType s symbol n own) (sym o.vars_are) o)

-- one, and then others
pub then_more : {X : Type 0} (old one new : List X) (x : X) (rest all : List X) → one ≡ old ++ x ∷ [] → new ≡ one ++ rest → all ≡ x ∷ rest → new ≡ old ++ all
then_more old one new x rest all p q e = q ∙ ap (λ z. z ++ rest) p ∙ append_assoc old (x ∷ []) rest ∙ ap (λ z. old ++ z) (sym e)

pub then_others : {X : Type 0} (old some new : List X) (xs ys : List X) → some ≡ old ++ xs → new ≡ some ++ ys → new ≡ old ++ (xs ++ ys)
then_others old some new xs ys p q = q ∙ ap (λ z. z ++ ys) p ∙ append_assoc old xs ys

module _ (s s1 : List Tree) (g : Grows s s1) where
  pub term_later : (id : TermId) → IsTermAt s id → IsTermAt s1 id
  term_later id k = record { held = held_later s s1 g id k.held; term = ap sort_of (tree_later s s1 g id k.held) ∙ k.term }

  pub terms_later : (id : TermId) → AreTermsAt s id → AreTermsAt s1 id
  terms_later id k = record { held = held_later s s1 g id k.held; terms = subst (IsList Term) (sym (tree_later s s1 g id k.held)) k.terms }

  pub own_later : (symbol vars : ℕ) (own : OwnType) → IsOwnType s symbol vars own → IsOwnType s1 symbol vars own
  own_later symbol vars own o = record {
    symbol_is = o.symbol_is;
    vars_are = o.vars_are;
    list_held = held_later s s1 g own.list o.list_held;
    list = subst (IsList _) (sym (tree_later s s1 g own.list o.list_held)) o.list;
    list_is = tree_later s s1 g own.list o.list_held ∙ o.list_is;
    type = kind_later s s1 g own.ty o.type;
    type_is = tree_later s s1 g own.ty o.type.held ∙ o.type_is;
  }

  pub con_fit_later : (c : Con) → ConIsFit s c → ConIsFit s1 c
  con_fit_later c h = kinds_later s s1 g c.fields h

  pub cons_fit_later : (cs : List Con) → All (ConIsFit s) cs → All (ConIsFit s1) cs
  cons_fit_later cs a = All-weaker (ConIsFit s) (ConIsFit s1) con_fit_later cs a

  pub algs_fit_later : (ts : List Alg) → All (AlgIsFit s) ts → All (AlgIsFit s1) ts
  algs_fit_later ts a = All-weaker (AlgIsFit s) (AlgIsFit s1) (λ t h. cons_fit_later t.cons h) ts a

  pub con_same : (c : Con) → ConIsFit s c → con_at s1 c ≡ con_at s c
  con_same c h = ap (λ (z : List Tree). record { symbol = c.symbol; fields = z; projections = c.projections }) (kind_trees s s1 g c.fields h)

  pub cons_same : (cs : List Con) → All (ConIsFit s) cs → cons_at s1 cs ≡ cons_at s cs
  cons_same cs a = map_agree (con_at s1) (con_at s) cs (All-weaker (ConIsFit s) (λ c. con_at s1 c ≡ con_at s c) con_same cs a)

  pub algs_same : (ts : List Alg) → All (AlgIsFit s) ts → algebraics_at s1 ts ≡ algebraics_at s ts
  algs_same ts a = map_agree (algebraic_at s1) (algebraic_at s) ts (All-weaker (AlgIsFit s) (λ t. algebraic_at s1 t ≡ algebraic_at s t) (λ t h. ap (λ (z : List ConstructorTree). record { symbol = t.symbol; cons = z }) (cons_same t.cons h)) ts a)

  -- one number more in a list
  pub one_more : (old new : List TermId) (id : TermId) (e : Tree) → All (Holds s) old → new ≡ old ++ id ∷ [] → tree_at s1 id ≡ e → trees_at s1 new ≡ trees_at s old ++ e ∷ []
  one_more old new id e a q p =
      ap (trees_at s1) q ∙ map-append (tree_at s1) old (id ∷ []) ∙ ap (λ (z : List Tree). z ++ tree_at s1 id ∷ []) (trees_later s s1 g old a) ∙ ap (λ (z : Tree). trees_at s old ++ z ∷ []) p

  pub pushed_held : (old new : List TermId) (id : TermId) → All (Holds s) old → new ≡ old ++ id ∷ [] → Holds s1 id → All (Holds s1) new
  pushed_held old new id a q h = subst (All (Holds s1)) (sym q) (All-push (Holds s1) old id (all_held_later s s1 g old a) h)

-- ---- one law more
module _ (s s1 : List Tree) (g : Grows s s1) (type vars : ℕ) where
  pub projections_more : (con : Con) → ConIsFit s con → (p : ℕ) (ps : List ℕ) (ty : TermId) (rest : List TermId) → All (IsKindAt s) rest → (old one : List TermId) (id : TermId) (new : List Tree) → All (Holds s) old → one ≡ old ++ id ∷ []
      → tree_at s1 id ≡ projection_law type vars (con_at s con) p (tree_at s ty) (Bound (0 + length rest) (tree_at s ty)) → new ≡ trees_at s1 one ++ projection_laws type vars (con_at s1 con) ps (trees_at s1 rest)
      → new ≡ trees_at s old ++ projection_laws type vars (con_at s con) (p ∷ ps) (trees_at s (ty ∷ rest))
  projections_more con f p ps ty rest k old one id new h q e r =
      let x = projection_law type vars (con_at s con) p (tree_at s ty) (variable_under 0 (tree_at s ty) (trees_at s rest)) in
      let ys = projection_laws type vars (con_at s con) ps (trees_at s rest) in
      let law : tree_at s1 id ≡ x = e ∙ ap (λ (n : ℕ). projection_law type vars (con_at s con) p (tree_at s ty) (Bound (0 + n) (tree_at s ty))) (sym (length-map rest (tree_at s))) in
      then_more (trees_at s old) (trees_at s1 one) new x ys (x ∷ ys) (one_more s s1 g old one id x h q law)
      (r ∙ ap (λ (z : ConstructorTree). trees_at s1 one ++ projection_laws type vars z ps (trees_at s1 rest)) (con_same s s1 g con f) ∙ ap (λ (z : List Tree). trees_at s1 one ++ projection_laws type vars (con_at s con) ps z) (kind_trees s s1 g rest k)) refl

  pub all_projections_more : (con : Con) (rest : List Con) → All (ConIsFit s) rest → (old some new : List Tree) → some ≡ old ++ projection_laws type vars (con_at s con) con.projections (trees_at s con.fields) → new ≡ some ++ all_projection_laws type vars (cons_at s1 rest)
      → new ≡ old ++ all_projection_laws type vars (cons_at s (con ∷ rest))
  all_projections_more con rest a old some new p q =
      then_others old some new (projection_laws type vars (con_at s con) con.projections (trees_at s con.fields)) (all_projection_laws type vars (cons_at s rest)) p
      (q ∙ ap (λ (z : List ConstructorTree). some ++ all_projection_laws type vars z) (cons_same s s1 g rest a))

  pub differences_more : (first : Con) → ConIsFit s first → (d : Con) (rest : List Con) → All (ConIsFit s) rest → (old one : List TermId) (id : TermId) (new : List Tree) → All (Holds s) old → one ≡ old ++ id ∷ []
      → tree_at s1 id ≡ distinctness_law type vars (con_at s first) (con_at s d) → new ≡ trees_at s1 one ++ map (distinctness_law type vars (con_at s1 first)) (cons_at s1 rest)
      → new ≡ trees_at s old ++ map (distinctness_law type vars (con_at s first)) (cons_at s (d ∷ rest))
  differences_more first f d rest a old one id new h q e r =
      let x = distinctness_law type vars (con_at s first) (con_at s d) in
      let ys = map (distinctness_law type vars (con_at s first)) (cons_at s rest) in
      then_more (trees_at s old) (trees_at s1 one) new x ys (x ∷ ys) (one_more s s1 g old one id x h q e)
      (r ∙ ap (λ (z : ConstructorTree). trees_at s1 one ++ map (distinctness_law type vars z) (cons_at s1 rest)) (con_same s s1 g first f) ∙ ap (λ (z : List ConstructorTree). trees_at s1 one ++ map (distinctness_law type vars (con_at s first)) z) (cons_same s s1 g rest a)) refl

  pub distinctness_more : (first : Con) (rest : List Con) → All (ConIsFit s) rest → (old some new : List Tree) → some ≡ old ++ map (distinctness_law type vars (con_at s first)) (cons_at s rest) → new ≡ some ++ distinctness_laws type vars (cons_at s1 rest)
      → new ≡ old ++ distinctness_laws type vars (cons_at s (first ∷ rest))
  distinctness_more first rest a old some new p q =
      then_others old some new (map (distinctness_law type vars (con_at s first)) (cons_at s rest)) (distinctness_laws type vars (cons_at s rest)) p
      (q ∙ ap (λ (z : List ConstructorTree). some ++ distinctness_laws type vars z) (cons_same s s1 g rest a))

pub for_all_append : (as_ bs : List Tree) (e : Tree) → for_all (as_ ++ bs) e ≡ for_all as_ (for_all bs e)
for_all_append [] bs e = refl
for_all_append (a ∷ as_) bs e = ap (for_all_over a) (for_all_append as_ bs e)
  where
    for_all_over : Tree → Tree → Tree
    for_all_over a z = for_all (a ∷ []) z

pub case_step : (s : List Tree) (type vars : ℕ) (x : Tree) (c : ConstructorTree) (cs : List Con) → (cs ≡ [] → ⊥) → disjunction (map (case_equation type vars x) (c ∷ cons_at s cs)) ≡ Two (HJoin Or) (case_equation type vars x c) (disjunction (map (case_equation type vars x) (cons_at s cs)))
case_step s type vars x c [] n = absurd (n refl)
case_step s type vars x c (d ∷ cs) n = refl

-- the laws of a type, one list after the other
pub laws_made : {X : Type 0} (p d : List X) (e : X) (l1 l2 l3 : List X) → l1 ≡ [] ++ p → l2 ≡ l1 ++ d → l3 ≡ l2 ++ e ∷ [] → l3 ≡ p ++ (d ++ e ∷ [])
laws_made p d e l1 l2 l3 a b c = c ∙ ap (λ z. z ++ e ∷ []) (b ∙ ap (λ z. z ++ d) a) ∙ append_assoc p d (e ∷ [])

pub some_cons : (cs : List Con) (b : Bool) → b ≡ (length cs == 0) → b ≡ false → cs ≡ [] → ⊥
some_cons cs b p q e = let r : (length cs == 0) ≡ true = ap (λ (z : List Con). length z == 0) e in let f : true ≡ false = sym r ∙ sym p ∙ q in absurd (cc)
