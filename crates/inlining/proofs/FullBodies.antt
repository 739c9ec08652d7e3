-- Inlining in one pass, by full bodies, is inlining pass by pass.
use Rattle.std.proofs.Common.{◌≡◌, ℕ, ◌+◌, ◌==◌, Bool, true, false, if◌then◌else◌, List, [], get_or, Option, Some, None, subst, refl, sym, ap, ◌∙◌, arith}
use Rattle.std.proofs.lemmas.Bool.Decides.{nat_tests}
use Rattle.tasks.specs.trees.declared.Sort.TheVariants.{Kind}
use Rattle.tasks.specs.trees.Tree.{Tree, Leaf, One, Two, Three, Head, HTyVar, HBound, HParam, HFun, HPred, head_of}
use Rattle.tasks.specs.trees.Binding.{Change, change, leaf_by, inst_types, TyVar}
use Rattle.tasks.specs.trees.Sorts.{sort_of, type_of, IsExpression}
use Rattle.tasks.specs.declared.signature.SymbolKind.{SymbolKind}
use Rattle.tasks.specs.declared.signature.SymbolKind.TheVariants.{Function, Predicate}
use Rattle.tasks.specs.Vocabulary.{Vocabulary}
use Rattle.tasks.proofs.TypeInstances.{IsSoundVocabulary}
use Rattle.evidence.specs.images.Images.{image, IsOtherHead}
use Rattle.evidence.specs.images.typing_laws.HasTyping.{HasTyping, IsTypeAt, KeepsTyping, IsTypedRule}
use Rattle.images.proofs.typing_laws.TypeInstances.{at_one}
use Rattle.images.proofs.TypedImages.{image_keeps_typing}
use Rattle.inlining.specs.Inlining.{use_body}
use Rattle.inlining.specs.FullBodies.{use_rule}
use Rattle.inlining.proofs.Bodies.{IsBodyOf, IsBody}
use Rattle.inlining.proofs.Uses.{keeps_same, function_keeps, predicate_keeps, function_count, predicate_count}
use Rattle.inlining.proofs.AtTypes.{use_body_at_types}
use Rattle.inlining.proofs.OpenInstances.{IsNatural}
use Rattle.inlining.proofs.ImageChanges.{IsNoVariable, ActsAlike}
use Rattle.inlining.proofs.UsesChanged.{function_changed, predicate_changed}

-- a rule for nodes that keeps typing, and commutes with types put in and with changes of variables
pub record IsSteadyRule (v : Vocabulary) (f : Tree → Tree) : Type 0 where
  pub typed : IsTypedRule v f
  pub types : (ys : List Tree) → ((j : ℕ) → IsTypeAt v (get_or ys j (TyVar j))) → (types : List Tree) (e : Tree) → HasTyping v types e → f (inst_types e ys) ≡ inst_types (f e) ys
  pub changes : (g : Change) → IsNatural g → ActsAlike v f g

module _ (v : Vocabulary) (sound : IsSoundVocabulary v) where
  -- ---- the rule that does nothing
  same_types : (ys : List Tree) (e : Tree) → inst_types e ys ≡ inst_types e ys
  same_types ys e = refl

  pub nothing_steady : IsSteadyRule v (λ e. e)
  nothing_steady = record {
    typed = record { others = λ e h. refl; keeps = λ types e s x. keeps_same v types e x };
    types = λ ys each types e x. refl;
    changes = λ g n. record { variables = λ i a. refl; nodes = λ types e d m x. refl };
  }

  pub image_of_nothing : (e : Tree) → image (λ z. z) e ≡ e
  image_of_nothing (Leaf h) = refl
  image_of_nothing (One h a) = ap (λ (z : Tree). One h z) (image_of_nothing a)
  image_of_nothing (Two h a b) = let u = image_of_nothing a in let w = image_of_nothing b in cc (u, w)
  image_of_nothing (Three h a b c) = let u = image_of_nothing a in let w = image_of_nothing b in let z = image_of_nothing c in cc (u, w, z)

  module _ (f : Tree → Tree) (steady : IsSteadyRule v f) where
    -- ---- full bodies
    result_kept : (kind : SymbolKind) (out : Option Tree) (a m : Tree) → sort_of m ≡ sort_of a → type_of m ≡ type_of a → IsBodyOf kind out a → IsBodyOf kind out m
    result_kept Function (Some ty) a m p q r = (p ∙ r.0, q ∙ r.1)
    result_kept Predicate None a m p q r = (p ∙ r.0, q ∙ r.1)
    result_kept Function None a m p q r = absurd r
    result_kept Predicate (Some ty) a m p q r = absurd r
    result_kept _ out a m p q r = absurd r

    pub full_body : (k : ℕ) (body : Tree) → IsBody v k body → IsBody v k (image f body)
    full_body k body b =
        let m = image_keeps_typing v f steady.typed _ body b.typed in record {
          symbol = b.symbol;
          is = b.is;
          typed = m.typed;
          variables = m.variables b.symbol.vars b.variables;
          parameters = m.parameters [] b.parameters;
          result = result_kept b.symbol.kind b.symbol.result body (image f body) m.sort m.type b.result;
        }

    -- ---- with one definition more
    module _ (k : ℕ) (body : Tree) (b : IsBody v k body) where
      use_others : (e : Tree) → IsOtherHead (head_of e) → use_rule k body f e ≡ e
      use_others (Three (HFun s) zs ts ty) h = absurd h
      use_others (Two (HPred s) zs ts) h = absurd h
      use_others e h = steady.typed.others e h

      use_keeps : (types : List Tree) (e : Tree) → IsExpression (sort_of e) → HasTyping v types e → KeepsTyping v types e (use_rule k body f e)
      use_keeps types (Three (HFun s) zs ts ty) n x = by (s == k) refl
        where
          by : (r : Bool) → (s == k) ≡ r → KeepsTyping v types (Three (HFun s) zs ts ty) (if r then use_body body zs ts else f (Three (HFun s) zs ts ty))
          by true q =
              let m : k ≡ s = grind (arith, nat_tests) in
              subst (λ (i : ℕ). KeepsTyping v types (Three (HFun i) zs ts ty) (use_body body zs ts)) m (function_keeps v types sound k body b zs ts ty (subst (λ (i : ℕ). HasTyping v types (Three (HFun i) zs ts ty)) (sym m) x))
          by false q = steady.typed.keeps types (Three (HFun s) zs ts ty) n x
      use_keeps types (Two (HPred s) zs ts) n x = by (s == k) refl
        where
          by : (r : Bool) → (s == k) ≡ r → KeepsTyping v types (Two (HPred s) zs ts) (if r then use_body body zs ts else f (Two (HPred s) zs ts))
          by true q =
              let m : k ≡ s = grind (arith, nat_tests) in
              subst (λ (i : ℕ). KeepsTyping v types (Two (HPred i) zs ts) (use_body body zs ts)) m (predicate_keeps v types sound k body b zs ts (subst (λ (i : ℕ). HasTyping v types (Two (HPred i) zs ts)) (sym m) x))
          by false q = steady.typed.keeps types (Two (HPred s) zs ts) n x
      use_keeps types e n x = steady.typed.keeps types e n x

      pub use_typed_rule : IsTypedRule v (use_rule k body f)
      use_typed_rule = record { others = use_others; keeps = use_keeps }

      -- types put in
      kind_passes : (e : Tree) → sort_of e ≡ Kind → use_rule k body f e ≡ f e
      kind_passes (Three (HFun s) zs ts ty) q = absurd (cc)
      kind_passes (Two (HPred s) zs ts) q = absurd (cc)
      kind_passes e q = refl

      pick_types : (ys : List Tree) (r : Bool) (there here g h : Tree) → (r ≡ true → there ≡ inst_types here ys) → g ≡ inst_types h ys → (if r then there else g) ≡ inst_types (if r then here else h) ys
      pick_types ys true there here g h p q = p refl
      pick_types ys false there here g h p q = q

      use_types : (ys : List Tree) (each : (j : ℕ) → IsTypeAt v (get_or ys j (TyVar j))) (types : List Tree) (e : Tree) → HasTyping v types e → use_rule k body f (inst_types e ys) ≡ inst_types (use_rule k body f e) ys
      use_types ys each types (Leaf (HTyVar j)) x = kind_passes (get_or ys j (TyVar j)) (each j).0 ∙ steady.types ys each types (Leaf (HTyVar j)) x
      use_types ys each types (One h a) x =
          ap (use_rule k body f) (at_one v ys each h a) ∙ ap f (sym (at_one v ys each h a)) ∙ steady.types ys each types (One h a) x
      use_types ys each types (Three (HFun s) zs ts ty) x =
          pick_types ys (s == k) (use_body body (inst_types zs ys) (inst_types ts ys)) (use_body body zs ts) (f (inst_types (Three (HFun s) zs ts ty) ys)) (f (Three (HFun s) zs ts ty))
          (λ q. use_body_at_types v ys each types body zs ts (function_count v types k body b s zs ts ty q x) x.0.1 x.3) (steady.types ys each types (Three (HFun s) zs ts ty) x)
      use_types ys each types (Two (HPred s) zs ts) x =
          pick_types ys (s == k) (use_body body (inst_types zs ys) (inst_types ts ys)) (use_body body zs ts) (f (inst_types (Two (HPred s) zs ts) ys)) (f (Two (HPred s) zs ts))
          (λ q. use_body_at_types v ys each types body zs ts (predicate_count v types k body b s zs ts q x) x.0.0.1 x.3) (steady.types ys each types (Two (HPred s) zs ts) x)
      use_types ys each types e x = steady.types ys each types e x

      -- changes of variables
      module _ (g : Change) (natural : IsNatural g) where
        leaf_left : (h : Head) → leaf_by g h ≡ Leaf h
        leaf_left (HTyVar j) = natural.keeps.ty_var j
        leaf_left _ = refl

        pick_changed : (d : ℕ) (r : Bool) (there here m n : Tree) → (r ≡ true → there ≡ change g d here) → m ≡ change g d n → (if r then there else m) ≡ change g d (if r then here else n)
        pick_changed d true there here m n p q = p refl
        pick_changed d false there here m n p q = q

        use_nodes : (types : List Tree) (e : Tree) (d : ℕ) → IsNoVariable e → HasTyping v types e → use_rule k body f (change g d e) ≡ change g d (use_rule k body f e)
        use_nodes types (Leaf h) d n x = ap (use_rule k body f) (leaf_left h) ∙ ap f (sym (leaf_left h)) ∙ (steady.changes g natural).nodes types (Leaf h) d tt x
        use_nodes types (One (HBound i) a) d n x = absurd n
        use_nodes types (One (HParam m) a) d n x =
            ap (use_rule k body f) (natural.keeps.param d m (change g d a)) ∙ ap f (sym (natural.keeps.param d m (change g d a))) ∙ (steady.changes g natural).nodes types (One (HParam m) a) d tt x
        use_nodes types (Three (HFun s) zs ts ty) d n x =
            pick_changed d (s == k) (use_body body (change g d zs) (change g d ts)) (use_body body zs ts) (f (change g d (Three (HFun s) zs ts ty))) (f (Three (HFun s) zs ts ty))
            (λ q. let m : s ≡ k = grind (arith, nat_tests, q) in function_changed v sound k body b g natural types d zs ts ty (subst (λ (i : ℕ). HasTyping v types (Three (HFun i) zs ts ty)) m x))
            ((steady.changes g natural).nodes types (Three (HFun s) zs ts ty) d tt x)
        use_nodes types (Two (HPred s) zs ts) d n x =
            let z : d + 0 ≡ d = omega arith in
            ap (λ (m : ℕ). if s == k then use_body body (change g d zs) (change g m ts) else f (change g d (Two (HPred s) zs ts))) z
            ∙ pick_changed d (s == k) (use_body body (change g d zs) (change g d ts)) (use_body body zs ts) (f (change g d (Two (HPred s) zs ts))) (f (Two (HPred s) zs ts))
            (λ q. let m : s ≡ k = grind (arith, nat_tests, q) in predicate_changed v sound k body b g natural types d zs ts (subst (λ (i : ℕ). HasTyping v types (Two (HPred i) zs ts)) m x))
            ((steady.changes g natural).nodes types (Two (HPred s) zs ts) d tt x)
        use_nodes types e d n x = (steady.changes g natural).nodes types e d n x

        use_alike : ActsAlike v (use_rule k body f) g
        use_alike = record { variables = λ i a. (steady.changes g natural).variables i a; nodes = use_nodes }

      pub use_steady : IsSteadyRule v (use_rule k body f)
      use_steady = record { typed = use_typed_rule; types = use_types; changes = λ g n. use_alike g n }
