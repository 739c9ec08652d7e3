-- A type that becomes one over a signature under a trial map becomes the same under the map of a clone.
use Rattle.std.proofs.Common.{◌≡◌, ℕ, ◌<◌, zero, suc, Bool, true, false, List, [], ◌∷◌, map, length, get_or, slice_get, All, Option, Some, None, IfSome, option_map, IsSomeAnd, refl, sym, ap, subst, ◌∙◌, arith}
use Rattle.std.proofs.lemmas.List.Elements.{All-head, All-tail}
use Rattle.elab_groups.specs.trees.Tree.{Tree, Leaf, One, Two, Three, Head, HTyVar, HTyApp, HCell}
use Rattle.elab_groups.specs.trees.Binding.{inst_types, TyVar}
use Rattle.elab_groups.specs.tasks.Task.{SymbolTree}
use Rattle.elab_groups.specs.tasks.Vocabulary.{Vocabulary}
use Rattle.elab_groups.specs.tasks.Typing.{members, IsTypeSymbol}
use Rattle.elab_groups.specs.tasks.Valid.{IsTypeIn, HasTypes}
use Rattle.clones.specs.Mapped.{Map, type_mapped, mapped}
use Rattle.elaboration_laws.proofs.Over.{IsOver, type_over}
use Rattle.elaboration_laws.specs.Morphisms.{HasMappedTypes}
use Rattle.elaboration_laws.specs.Trials.{AgreeOn}

abbrev one_below : ℕ → Head → Type 0
one_below n (HTyApp k) = k < n
one_below n _ = Unit {0}

-- each type symbol is below a number
abbrev AreBelow : ℕ → Tree → Type 0
AreBelow n (Leaf h) = Unit {0}
AreBelow n (One h a) = one_below n h × AreBelow n a
AreBelow n (Two h a b) = AreBelow n a × AreBelow n b
AreBelow n (Three h a b c) = AreBelow n a × AreBelow n b × AreBelow n c

below_entry : (es : List SymbolTree) (k : ℕ) (P : SymbolTree → Type 0) → IsSomeAnd (slice_get es k) P → k < length es
below_entry [] k P h = absurd h
below_entry (e ∷ es) zero P h = omega arith
below_entry (e ∷ es) (suc k) P h = let l = below_entry es k P h in omega arith

over_below : (w : Vocabulary) (b : Bool) (e : Tree) → IsOver w b e → AreBelow (length w.symbols) e
over_below w b (Leaf h) o = tt
over_below w true (One (HTyApp s) a) o = (below_entry w.symbols s _ o.0.1, over_below w false a o.1)
over_below w true (One _ a) o = absurd o.0
over_below w false (One h a) o = absurd o.0
over_below w true (Two h a b) o = absurd o.0
over_below w false (Two h a b) o = (over_below w true a o.1, over_below w false b o.2)
over_below w b (Three h a c d) o = absurd o

module _ (n : ℕ) (v : Vocabulary) (xs ys : List Tree) (same : (j : ℕ) → AreBelow n (get_or xs j (TyVar j)) → get_or xs j (TyVar j) ≡ get_or ys j (TyVar j)) where
  leaf_same : (h : Head) → AreBelow n (inst_types (Leaf h) xs) → inst_types (Leaf h) xs ≡ inst_types (Leaf h) ys
  leaf_same (HTyVar j) l = same j l
  leaf_same _ l = refl

  inst_same : (b : Bool) (t : Tree) → IsOver v b t → AreBelow n (inst_types t xs) → inst_types t xs ≡ inst_types t ys
  inst_same b (Leaf h) o l = leaf_same h l
  inst_same true (One (HTyApp s) a) o l = ap (One (HTyApp s)) (inst_same false a o.1 l.1)
  inst_same true (One _ a) o l = absurd o.0
  inst_same false (One h a) o l = absurd o.0
  inst_same true (Two h a b) o l = absurd o.0
  inst_same false (Two HCell a b) o l = cc (inst_same true a o.1 l.0, inst_same false b o.2 l.1)
  inst_same false (Two _ a b) o l = absurd o.0
  inst_same b (Three h a c d) o l = absurd o

module _ (n : ℕ) (m m' : Map) (agree : AgreeOn n m m') (v w : Vocabulary) (replaced : (k i : ℕ) (t : Tree) → IsTypeSymbol v k i → m.types k ≡ Some t → IsTypeIn w i t) where
  type_agrees : (s : ℕ) (a b : Tree) (o : Option Tree) → m.types s ≡ o → ((t : Tree) → o ≡ Some t → (i : ℕ) × IsTypeIn w i t) → (AreBelow n a → a ≡ b)
      → ((j : ℕ) → AreBelow n (get_or (members a) j (TyVar j)) → get_or (members a) j (TyVar j) ≡ get_or (members b) j (TyVar j)) → AreBelow n (type_mapped o (m.symbols s) a) → type_mapped o (m.symbols s) a ≡ type_mapped o (m'.symbols s) b
  type_agrees s a b None q f whole each l = ap (λ (j : ℕ). One (HTyApp j) a) (agree.symbols s q l.0) ∙ ap (One (HTyApp (m'.symbols s))) (whole l.1)
  type_agrees s a b (Some t) q f whole each l = let x = f t refl in inst_same n w (members a) (members b) each true t (type_over w x.0 t x.1) l

  mutual
    types_agree : (e : Tree) → IsOver v true e → AreBelow n (mapped m e) → mapped m e ≡ mapped m' e
    types_agree (Leaf h) o l = refl
    types_agree (One (HTyApp s) a) o l =
        type_agrees s (mapped m a) (mapped m' a) (m.types s) refl (λ t q. (length (members a), replaced s (length (members a)) t o.0 q)) (λ k. list_agrees a o.1 k) (λ j k. member_agrees a o.1 j (TyVar j) k) l
        ∙ ap (λ (p : Option Tree). type_mapped p (m'.symbols s) (mapped m' a)) (agree.types s)
    types_agree (One _ a) o l = absurd o.0
    types_agree (Two h a b) o l = absurd o.0
    types_agree (Three h a c d) o l = absurd o

    list_agrees : (e : Tree) → IsOver v false e → AreBelow n (mapped m e) → mapped m e ≡ mapped m' e
    list_agrees (Leaf h) o l = refl
    list_agrees (One h a) o l = absurd o.0
    list_agrees (Two HCell a b) o l = cc (types_agree a o.1 l.0, list_agrees b o.2 l.1)
    list_agrees (Two _ a b) o l = absurd o.0
    list_agrees (Three h a c d) o l = absurd o

    member_agrees : (e : Tree) → IsOver v false e → (j : ℕ) (d : Tree) → AreBelow n (get_or (members (mapped m e)) j d) → get_or (members (mapped m e)) j d ≡ get_or (members (mapped m' e)) j d
    member_agrees (Leaf h) o j d l = refl
    member_agrees (One h a) o j d l = absurd o.0
    member_agrees (Two HCell a b) o zero d l = types_agree a o.1 l
    member_agrees (Two HCell a b) o (suc j) d l = member_agrees b o.2 j d l
    member_agrees (Two _ a b) o j d l = absurd o.0
    member_agrees (Three h a c e) o j d l = absurd o

  list_of : (i : ℕ) (ts us : List Tree) → All (IsTypeIn v i) ts → map (mapped m) ts ≡ us → ((b : Tree) → IsOver w true b → AreBelow n b) → All (IsTypeIn w i) us → map (mapped m') ts ≡ us
  list_of i [] us h q f g = q
  list_of i (t ∷ ts) [] h q f g = absurd (cc)
  list_of i (t ∷ ts) (u ∷ us) h q f g =
      let first : mapped m t ≡ u = cc in
      let rest : map (mapped m) ts ≡ us = cc in
      let low : AreBelow n (mapped m t) = subst (AreBelow n) (sym first) (f u (type_over w i u (All-head (IsTypeIn w i) u us g))) in
      let same : mapped m' t ≡ u = sym (types_agree t (type_over v i t (All-head (IsTypeIn v i) t ts h)) low) ∙ first in
      cc (same, list_of i ts us (All-tail (IsTypeIn v i) t ts h) rest f (All-tail (IsTypeIn w i) u us g))

  result_of : (i : ℕ) (o p : Option Tree) → IfSome o (IsTypeIn v i) → option_map (mapped m) o ≡ p → ((b : Tree) → IsOver w true b → AreBelow n b) → IfSome p (IsTypeIn w i) → option_map (mapped m') o ≡ p
  result_of i None p h q f g = q
  result_of i (Some t) None h q f g = absurd (cc)
  result_of i (Some t) (Some u) h q f g =
      let first : mapped m t ≡ u = cc in
      let low : AreBelow n (mapped m t) = subst (AreBelow n) (sym first) (f u (type_over w i u g)) in
      ap (λ (z : Tree). Some z) (sym (types_agree t (type_over v i t h) low) ∙ first)

  pub signatures_agree : (e j : SymbolTree) → length w.symbols ≡ n → HasTypes v e → HasTypes w j → HasMappedTypes m e j → HasMappedTypes m' e j
  signatures_agree e j count h g x =
      let low : (b : Tree) → IsOver w true b → AreBelow n b = λ b o. subst (λ (k : ℕ). AreBelow k b) count (over_below w true b o) in
      record {
        vars = x.vars;
        args = sym (list_of e.vars e.args j.args h.args (sym x.args) low (subst (λ (i : ℕ). All (IsTypeIn w i) j.args) x.vars g.args));
        result = sym (result_of e.vars e.result j.result h.result (sym x.result) low (subst (λ (i : ℕ). IfSome j.result (IsTypeIn w i)) x.vars g.result));
      }
