-- The rule of a definition acts alike before and after a change of variables.
use Rattle.std.proofs.Common.{◌≡◌, ℕ, ◌+◌, ◌==◌, ◌⊎◌, inl, inr, Bool, true, false, if◌then◌else◌, List, ◌∷◌, map, Some, None, subst, refl, sym, ap, ◌∙◌, arith}
use Rattle.std.proofs.lemmas.Bool.Decides.{nat_tests}
use Rattle.tasks.specs.trees.declared.Sort.TheVariants.{Kind, Term}
use Rattle.tasks.specs.trees.Tree.{Tree, Leaf, One, Two, Three, Head, HTyVar, HCell, HBound, HParam, HFun, HPred}
use Rattle.tasks.specs.trees.Binding.{Change, change, leaf_by, inst_types, inst_many}
use Rattle.tasks.specs.trees.declared.Sort.{Sort}
use Rattle.tasks.specs.trees.Sorts.{sort_of, first_sort, IsList, IsListOf}
use Rattle.trees.proofs.Types.{AreKinds}
use Rattle.trees.proofs.Above.{types_left}
use Rattle.tasks.specs.declared.signature.SymbolKind.TheVariants.{Predicate}
use Rattle.tasks.specs.Vocabulary.{Vocabulary}
use Rattle.tasks.specs.Typing.{members, entry, IsUse, HasResult, MakesTerms}
use Rattle.tasks.proofs.TypeInstances.{IsSoundVocabulary}
use Rattle.evidence.specs.images.typing_laws.HasTyping.{HasTyping}
use Rattle.images.proofs.typing_laws.Sorted.{has_sorts, kinds_only}
use Rattle.inlining.specs.Inlining.{use_body, unfold_rule}
use Rattle.inlining.proofs.Bodies.{IsBody}
use Rattle.inlining.proofs.Uses.{member_terms, entry_is, use_closed}
use Rattle.inlining.proofs.AtTypes.{no_patterns}
use Rattle.inlining.proofs.OpenInstances.{IsNatural, many_changed}
use Rattle.inlining.proofs.ImageChanges.{IsNoVariable, ActsAlike}

module _ (v : Vocabulary) (sound : IsSoundVocabulary v) (k : ℕ) (body : Tree) (b : IsBody v k body) (g : Change) (natural : IsNatural g) where
  leaf_stays : (h : Head) → leaf_by g h ≡ Leaf h
  leaf_stays (HTyVar j) = natural.keeps.ty_var j
  leaf_stays _ = refl

  first_is_term : (x y : Tree) → IsList Term (Two HCell x y) → sort_of x ≡ Term
  first_is_term x y l = by (sort_of x) l.1
    where
      by : (r : Sort) → (Some r ≡ None) ⊎ (Some r ≡ Some Term) → r ≡ Term
      by r (inl n) = absurd (cc)
      by r (inr q) = cc

  rest_is_list : (types : List Tree) (x y : Tree) → IsList Term (Two HCell x y) → HasTyping v types (Two HCell x y) → IsList Term y
  rest_is_list types x y l t = subst (λ (z : Sort). IsListOf z (sort_of y) (first_sort y)) (first_is_term x y l) t.0.0.1

  members_changed : (types : List Tree) (d : ℕ) (ts : Tree) → IsList Term ts → HasTyping v types ts → members (change g d ts) ≡ map (change g d) (members ts)
  members_changed types d (Leaf h) l x = ap members (leaf_stays h)
  members_changed types d (One (HBound i) a) l x = absurd (let q = l.0 in cc)
  members_changed types d (One (HParam n) a) l x = ap members (natural.keeps.param d n (change g d a))
  members_changed types d (One _ a) l x = refl
  members_changed types d (Two HCell x y) l t =
      let n : d + 0 ≡ d = omega arith in
      ap (λ (m : ℕ). change g d x ∷ members (change g m y)) n ∙ ap (λ (z : List Tree). change g d x ∷ z) (members_changed types d y (rest_is_list types x y l t) t.3)
  members_changed types d (Two _ x y) l t = refl
  members_changed types d (Three h x y z) l t = refl

  types_stay : (types : List Tree) (d : ℕ) (zs : Tree) → AreKinds zs → HasTyping v types zs → change g d zs ≡ zs
  types_stay types d zs l x = types_left g natural.keeps.ty_var d zs (kinds_only zs (has_sorts v types zs x) l)

  use_changed : (types : List Tree) (d : ℕ) (zs ts : Tree) → IsUse b.symbol zs ts → IsList Kind zs → IsList Term ts → HasTyping v types zs → HasTyping v types ts
      → use_body body (change g d zs) (change g d ts) ≡ change g d (use_body body zs ts)
  use_changed types d zs ts u lz lt xz xt =
      ap (λ (z : Tree). use_body body z (change g d ts)) (types_stay types d zs (inr lz) xz)
      ∙ ap (inst_many (inst_types body (members zs))) (members_changed types d ts lt xt)
      ∙ sym (many_changed g natural (members ts) (no_patterns v types (members ts) (member_terms v types ts lt xt)) d (inst_types body (members zs)) (use_closed v types sound k body zs ts b u lz lt xz xt))

  pub function_changed : (types : List Tree) (d : ℕ) (zs ts ty : Tree) → HasTyping v types (Three (HFun k) zs ts ty) → use_body body (change g d zs) (change g d ts) ≡ change g d (use_body body zs ts)
  function_changed types d zs ts ty x =
      let p = entry_is v types (entry v k) b.symbol (λ e. MakesTerms e.kind × IsUse e zs ts × HasResult e zs ty) b.is x.1.1 in
      use_changed types d zs ts p.1 x.0.0 x.0.1 x.2 x.3

  pub predicate_changed : (types : List Tree) (d : ℕ) (zs ts : Tree) → HasTyping v types (Two (HPred k) zs ts) → use_body body (change g d zs) (change g d ts) ≡ change g d (use_body body zs ts)
  predicate_changed types d zs ts x =
      let p = entry_is v types (entry v k) b.symbol (λ e. (e.kind ≡ Predicate) × IsUse e zs ts) b.is x.1.1 in
      use_changed types d zs ts p.1 x.0.0.0 x.0.0.1 x.2 x.3

  choice : (d : ℕ) (r : Bool) (there here e : Tree) → (r ≡ true → there ≡ change g d here) → (if r then there else change g d e) ≡ change g d (if r then here else e)
  choice d true there here e q = q refl
  choice d false there here e q = refl

  -- at each node but variables
  rule_changed : (types : List Tree) (e : Tree) (d : ℕ) → IsNoVariable e → HasTyping v types e → unfold_rule k body (change g d e) ≡ change g d (unfold_rule k body e)
  rule_changed types (Leaf h) d n x = ap (unfold_rule k body) (leaf_stays h) ∙ sym (leaf_stays h)
  rule_changed types (One (HBound i) a) d n x = absurd n
  rule_changed types (One (HParam m) a) d n x = ap (unfold_rule k body) (natural.keeps.param d m (change g d a)) ∙ sym (natural.keeps.param d m (change g d a))
  rule_changed types (One _ a) d n x = refl
  rule_changed types (Two (HPred p) zs ts) d n x =
      let z : d + 0 ≡ d = omega arith in
      ap (λ (m : ℕ). if p == k then use_body body (change g d zs) (change g m ts) else change g d (Two (HPred p) zs ts)) z
      ∙ choice d (p == k) (use_body body (change g d zs) (change g d ts)) (use_body body zs ts) (Two (HPred p) zs ts)
      (λ q. let m : p ≡ k = grind (arith, nat_tests, q) in predicate_changed types d zs ts (subst (λ (i : ℕ). HasTyping v types (Two (HPred i) zs ts)) m x))
  rule_changed types (Two _ a c) d n x = refl
  rule_changed types (Three (HFun f) zs ts ty) d n x =
      choice d (f == k) (use_body body (change g d zs) (change g d ts)) (use_body body zs ts) (Three (HFun f) zs ts ty)
      (λ q. let m : f ≡ k = grind (arith, nat_tests, q) in function_changed types d zs ts ty (subst (λ (i : ℕ). HasTyping v types (Three (HFun i) zs ts ty)) m x))
  rule_changed types (Three _ a c e) d n x = refl

  pub rule_acts_alike : ActsAlike v (unfold_rule k body) g
  rule_acts_alike = record { variables = λ i a. refl; nodes = λ types e d n x. rule_changed types e d n x }
