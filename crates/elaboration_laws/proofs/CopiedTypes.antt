-- Types under a map of symbols: they are types over what the map's symbols may name.
use Rattle.std.proofs.Common.{◌≡◌, ℕ, ◌<◌, zero, suc, Bool, true, false, List, [], ◌∷◌, map, All, length, get_or, Option, Some, None, IfSome, option_map, refl, sym, ap, subst, ◌∙◌, arith}
use Rattle.std.proofs.lemmas.List.{length-map}
use Rattle.std.proofs.lemmas.List.Elements.{All-map}
use Rattle.elab_groups.specs.trees.Tree.{Tree, Leaf, One, Two, Three, Head, HTyVar, HTyRigid, HTyApp, HEnd, HCell}
use Rattle.elab_groups.specs.trees.Binding.{inst_types, TyVar}
use Rattle.elab_groups.specs.trees.Sorts.{yield_type, type_of}
use Rattle.elab_groups.specs.trees.Facts.{TyVarsBelow}
use Rattle.elab_groups.proofs.trees.Many.{inst_types_inst_types}
use Rattle.elab_groups.specs.tasks.Task.{SymbolTree}
use Rattle.elab_groups.specs.tasks.Vocabulary.{Vocabulary}
use Rattle.elab_groups.specs.tasks.Typing.{members, IsTypeSymbol, pattern_types, BranchesFit}
use Rattle.elab_groups.specs.tasks.Valid.{VariablesBelow, IsTypeIn, HasTypes}
use Rattle.elab_groups.specs.tasks.Clauses.{IsFree, IsPremise}
use Rattle.clones.specs.Mapped.{Map, head_mapped, type_mapped, mapped}
use Rattle.elaboration_laws.specs.Morphisms.{HasMappedTypes, MapsTypes, TypeBecomes}
use Rattle.elaboration_laws.proofs.Over.{IsOver, AreOver, leaf_over, one_over, two_over, type_over, over_good}
use Rattle.elaboration_laws.proofs.Instances.{inst_over}
use Rattle.elab_groups.proofs.tasks.TypeInstances.{below}

-- ---- what a type isn't
module _ (w : Vocabulary) where
  pub over_members : (e : Tree) → IsOver w true e → members e ≡ []
  over_members (Leaf h) o = refl
  over_members (One h a) o = refl
  over_members (Two h a b) o = absurd o.0
  over_members (Three h a b c) o = absurd o

  leaf_no_type : (h : Head) → leaf_over w true h → yield_type (Leaf h) ≡ None
  leaf_no_type (HTyVar j) o = refl
  leaf_no_type (HTyRigid k) o = refl
  leaf_no_type _ o = absurd o

  one_no_type : (h : Head) (a : Tree) (n : ℕ) → one_over w true h n → yield_type (One h a) ≡ None
  one_no_type (HTyApp k) a n o = refl
  one_no_type _ a n o = absurd o

  pub over_yields : (e : Tree) → IsOver w true e → yield_type e ≡ None
  over_yields (Leaf h) o = leaf_no_type h o
  over_yields (One h a) o = one_no_type h a (length (members a)) o.0
  over_yields (Two h a b) o = absurd o.0
  over_yields (Three h a b c) o = absurd o

  leaf_untyped : (h : Head) → leaf_over w true h → type_of (Leaf h) ≡ None
  leaf_untyped (HTyVar j) o = refl
  leaf_untyped (HTyRigid k) o = refl
  leaf_untyped _ o = absurd o

  one_untyped : (h : Head) (a : Tree) (n : ℕ) → one_over w true h n → type_of (One h a) ≡ None
  one_untyped (HTyApp k) a n o = refl
  one_untyped _ a n o = absurd o

  pub over_untyped : (e : Tree) → IsOver w true e → type_of e ≡ None
  over_untyped (Leaf h) o = leaf_untyped h o
  over_untyped (One h a) o = one_untyped h a (length (members a)) o.0
  over_untyped (Two h a b) o = absurd o.0
  over_untyped (Three h a b c) o = absurd o

  one_no_variables : (h : Head) (a : Tree) (n : ℕ) → one_over w true h n → pattern_types (One h a) ≡ []
  one_no_variables (HTyApp k) a n o = refl
  one_no_variables _ a n o = absurd o

  pub over_variables : (e : Tree) → IsOver w true e → pattern_types e ≡ []
  over_variables (Leaf h) o = refl
  over_variables (One h a) o = one_no_variables h a (length (members a)) o.0
  over_variables (Two h a b) o = absurd o.0
  over_variables (Three h a b c) o = absurd o

  pub over_branches : (type : Option Tree) (first e : Tree) → IsOver w true e → BranchesFit type first e
  over_branches type first (Leaf h) o = tt
  over_branches type first (One h a) o = tt
  over_branches type first (Two h a b) o = absurd o.0
  over_branches type first (Three h a b c) o = absurd o

  cell_free : (group : List ℕ) (h : Head) (a b : Tree) → two_over false h → IsFree group a → IsFree group b → IsFree group (Two h a b)
  cell_free group HCell a b o x y = (tt, x, y)
  cell_free group _ a b o x y = absurd o

  pub over_free : (group : List ℕ) (k : Bool) (e : Tree) → IsOver w k e → IsFree group e
  over_free group k (Leaf h) o = tt
  over_free group k (One h a) o = over_free group false a o.1
  over_free group true (Two h a b) o = absurd o.0
  over_free group false (Two h a b) o = cell_free group h a b o.0 (over_free group true a o.1) (over_free group false b o.2)
  over_free group k (Three h a b c) o = absurd o

  pub over_premise : (group : List ℕ) (types e : Tree) → IsOver w true e → IsPremise group types e
  over_premise group types (Leaf h) o = tt
  over_premise group types (One h a) o = over_free group false a o.1
  over_premise group types (Two h a b) o = absurd o.0
  over_premise group types (Three h a b c) o = absurd o

  pub members_over : (b : Tree) → IsOver w false b → AreOver w (members b)
  members_over (Leaf h) o = tt
  members_over (One h a) o = absurd o.0
  members_over (Two HCell a b) o = (o.1, members_over b o.2)
  members_over (Two _ a b) o = absurd o.0
  members_over (Three h a b c) o = absurd o

  -- at types
  members_inst : (zs : List Tree) (b : Tree) → IsOver w false b → members (inst_types b zs) ≡ map (λ x. inst_types x zs) (members b)
  members_inst zs (Leaf HEnd) o = refl
  members_inst zs (Leaf _) o = absurd o
  members_inst zs (One h a) o = absurd o.0
  members_inst zs (Two HCell a b) o = ap (λ l. inst_types a zs ∷ l) (members_inst zs b o.2)
  members_inst zs (Two _ a b) o = absurd o.0
  members_inst zs (Three h a b c) o = absurd o

-- ---- type variables at types
abbrev AllBelow : ℕ → List Tree → Type 0
AllBelow n [] = Unit {0}
AllBelow n (t ∷ ts) = VariablesBelow n t × AllBelow n ts

got_below : (n : ℕ) (ts : List Tree) → AllBelow n ts → (j : ℕ) (d : Tree) → j < length ts → VariablesBelow n (get_or ts j d)
got_below n [] h j d l = absurd (omega arith)
got_below n (t ∷ ts) h zero d l = h.0
got_below n (t ∷ ts) h (suc j) d l = got_below n ts h.1 j d (omega arith)

members_below : (n : ℕ) (e : Tree) → VariablesBelow n e → AllBelow n (members e)
members_below n (Leaf h) x = tt
members_below n (One h a) x = tt
members_below n (Two HCell a b) x = (x.0, members_below n b x.1)
members_below n (Two _ a b) x = tt
members_below n (Three h a b c) x = tt

module _ (w : Vocabulary) (n : ℕ) (ts : List Tree) (all : AllBelow n ts) where
  leaf_put_below : (h : Head) → VariablesBelow (length ts) (Leaf h) → VariablesBelow n (inst_types (Leaf h) ts)
  leaf_put_below (HTyVar j) l = got_below n ts all j (TyVar j) l
  leaf_put_below _ l = tt

  put_below : (k : Bool) (e : Tree) → IsOver w k e → VariablesBelow (length ts) e → VariablesBelow n (inst_types e ts)
  put_below k (Leaf h) o x = leaf_put_below h x
  put_below true (One (HTyApp s) a) o x = put_below false a o.1 x
  put_below true (One _ a) o x = absurd o.0
  put_below false (One h a) o x = absurd o.0
  put_below true (Two h a b) o x = absurd o.0
  put_below false (Two HCell a b) o x = (put_below true a o.1 x.0, put_below false b o.2 x.1)
  put_below false (Two _ a b) o x = absurd o.0
  put_below k (Three h a b c) o x = absurd o

got_mapped : (m : Map) (zs : List Tree) (j : ℕ) (i : ℕ) → mapped m (get_or zs j (TyVar i)) ≡ get_or (map (mapped m) zs) j (TyVar i)
got_mapped m [] j i = refl
got_mapped m (z ∷ zs) zero i = refl
got_mapped m (z ∷ zs) (suc j) i = got_mapped m zs j i

module _ (v w : Vocabulary) (m : Map) (becomes : MapsTypes v w m) where
  pub lists : (e : Tree) → IsOver v false e → members (mapped m e) ≡ map (mapped m) (members e)
  lists (Leaf h) o = refl
  lists (One h a) o = absurd o.0
  lists (Two HCell a b) o = ap (λ l. mapped m a ∷ l) (lists b o.2)
  lists (Two _ a b) o = absurd o.0
  lists (Three h a b c) o = absurd o

  as_many : (a : Tree) → IsOver v false a → length (members (mapped m a)) ≡ length (members a)
  as_many a o = ap length (lists a o) ∙ length-map (members a) (mapped m)

  type_put : (n j : ℕ) (t : Option Tree) (b : Tree) → TypeBecomes w n j t → length (members b) ≡ n → IsOver w false b → IsOver w true (type_mapped t j b)
  type_put n j None b h q o = (subst (IsTypeSymbol w j) (sym q) h, o)
  type_put n j (Some t) b h q o = inst_over w true (members b) (members_over w b o) t (type_over w n t h)

  leaf_kept : (k : Bool) (h : Head) → leaf_over v k h → leaf_over w k h
  leaf_kept true (HTyVar j) o = tt
  leaf_kept true (HTyRigid k) o = becomes.rigid k o
  leaf_kept true _ o = absurd o
  leaf_kept false HEnd o = tt
  leaf_kept false _ o = absurd o

  one_kept : (k : Bool) (h : Head) (a : Tree) → one_over v k h (length (members a)) → IsOver v false a → IsOver w false (mapped m a) → IsOver w k (mapped m (One h a))
  one_kept true (HTyApp s) a o x y = type_put (length (members a)) (m.symbols s) (m.types s) (mapped m a) (becomes.types s (length (members a)) o) (as_many a x) y
  one_kept true _ a o x y = absurd o
  one_kept false _ a o x y = absurd o

  two_kept : (k : Bool) (h : Head) (a b : Tree) → two_over k h → IsOver w true a → IsOver w false b → IsOver w k (Two (head_mapped m.symbols h) a b)
  two_kept false HCell a b o x y = (tt, x, y)
  two_kept false _ a b o x y = absurd o
  two_kept true _ a b o x y = absurd o

  -- a type over the vocabulary becomes one over the other
  pub over_mapped : (k : Bool) (e : Tree) → IsOver v k e → IsOver w k (mapped m e)
  over_mapped k (Leaf h) o = leaf_kept k h o
  over_mapped k (One h a) o = one_kept k h a o.0 o.1 (over_mapped false a o.1)
  over_mapped k (Two h a b) o = two_kept k h (mapped m a) (mapped m b) o.0 (over_mapped true a o.1) (over_mapped false b o.2)
  over_mapped k (Three h a b c) o = absurd o

  -- at types
  module _ (zs : List Tree) where
    put_inst : (n j : ℕ) (t : Option Tree) (b : Tree) → TypeBecomes w n j t → length (members b) ≡ n → IsOver w false b
        → type_mapped t j (inst_types b (map (mapped m) zs)) ≡ inst_types (type_mapped t j b) (map (mapped m) zs)
    put_inst n j None b h q o = refl
    put_inst n j (Some t) b h q o =
        ap (inst_types t) (members_inst w (map (mapped m) zs) b o)
        ∙ sym (inst_types_inst_types (members b) (map (mapped m) zs) t (subst (λ (i : ℕ). TyVarsBelow i t) (sym q) (below n t h.variables)))

    leaf_inst : (h : Head) → mapped m (inst_types (Leaf h) zs) ≡ inst_types (Leaf h) (map (mapped m) zs)
    leaf_inst (HTyVar j) = got_mapped m zs j j
    leaf_inst _ = refl

    pub inst_mapped : (k : Bool) (e : Tree) → IsOver v k e → mapped m (inst_types e zs) ≡ inst_types (mapped m e) (map (mapped m) zs)
    inst_mapped k (Leaf h) o = leaf_inst h
    inst_mapped true (One (HTyApp s) a) o =
        ap (type_mapped (m.types s) (m.symbols s)) (inst_mapped false a o.1)
        ∙ put_inst (length (members a)) (m.symbols s) (m.types s) (mapped m a) (becomes.types s (length (members a)) o.0) (as_many a o.1) (over_mapped false a o.1)
    inst_mapped true (One _ a) o = absurd o.0
    inst_mapped false (One h a) o = absurd o.0
    inst_mapped true (Two h a b) o = absurd o.0
    inst_mapped false (Two HCell a b) o = cc (inst_mapped true a o.1, inst_mapped false b o.2)
    inst_mapped false (Two _ a b) o = absurd o.0
    inst_mapped k (Three h a b c) o = absurd o

  -- its type variables
  module _ (n : ℕ) where
    type_below : (i j : ℕ) (t : Option Tree) (b : Tree) → TypeBecomes w i j t → length (members b) ≡ i → VariablesBelow n b → VariablesBelow n (type_mapped t j b)
    type_below i j None b h q x = x
    type_below i j (Some t) b h q x =
        put_below w n (members b) (members_below n b x) true t (type_over w i t h) (subst (λ (l : ℕ). VariablesBelow l t) (sym q) h.variables)

    pub variables_over : (k : Bool) (e : Tree) → IsOver v k e → VariablesBelow n e → VariablesBelow n (mapped m e)
    variables_over k (Leaf h) o x = x
    variables_over true (One (HTyApp s) a) o x =
        type_below (length (members a)) (m.symbols s) (m.types s) (mapped m a) (becomes.types s (length (members a)) o.0) (as_many a o.1) (variables_over false a o.1 x)
    variables_over true (One _ a) o x = absurd o.0
    variables_over false (One h a) o x = absurd o.0
    variables_over true (Two h a b) o x = absurd o.0
    variables_over false (Two h a b) o x = (variables_over true a o.1 x.0, variables_over false b o.2 x.1)
    variables_over k (Three h a b c) o x = absurd o

  -- a type, and the types of an entry
  pub type_in_mapped : (n : ℕ) (t : Tree) → IsTypeIn v n t → IsTypeIn w n (mapped m t)
  type_in_mapped n t h =
      let o = over_mapped true t (type_over v n t h) in
      record { sort = (over_good w true [] (mapped m t) o).1; typed = (over_good w true [] (mapped m t) o).0.0; variables = variables_over n true t (type_over v n t h) h.variables }

  result_copied : (n : ℕ) (r : Option Tree) → IfSome r (IsTypeIn v n) → IfSome (option_map (mapped m) r) (IsTypeIn w n)
  result_copied n None h = tt
  result_copied n (Some t) h = type_in_mapped n t h

  pub types_copied : (e j : SymbolTree) → HasMappedTypes m e j → HasTypes v e → HasTypes w j
  types_copied e j q h = record {
    args =
        let a : All (IsTypeIn w e.vars) (map (mapped m) e.args) = All-map (IsTypeIn w e.vars) (mapped m) e.args (λ k d l. type_in_mapped e.vars (get_or e.args k d) (h.args k d l)) in
        subst (λ (l : List Tree). All (IsTypeIn w j.vars) l) (sym q.args) (subst (λ (n : ℕ). All (IsTypeIn w n) (map (mapped m) e.args)) (sym q.vars) a);
    result =
        subst (λ (r : Option Tree). IfSome r (IsTypeIn w j.vars)) (sym q.result)
        (subst (λ (n : ℕ). IfSome (option_map (mapped m) e.result) (IsTypeIn w n)) (sym q.vars) (result_copied e.vars e.result h.result));
  }
