-- The rule at the type instance of a typed node is the type instance of the rule at the node.
use Rattle.std.proofs.Common.{◌≡◌, ℕ, ◌==◌, inl, Bool, true, false, if◌then◌else◌, List, [], ◌∷◌, map, length, get_or, refl, sym, ap, ◌∙◌}
use Rattle.tasks.specs.trees.declared.Sort.TheVariants.{Kind, Term}
use Rattle.tasks.specs.trees.Tree.{Tree, Leaf, One, Two, Three, HTyVar, HFun, HPred}
use Rattle.tasks.specs.trees.Binding.{inst_types, inst_many, TyVar, AreTypes, AreNoPatterns}
use Rattle.tasks.specs.trees.Sorts.{sort_of, IsList}
use Rattle.tasks.specs.trees.Facts.{Each}
use Rattle.tasks.specs.trees.laws.Sorts.{term_no_vars, kind_no_vars}
use Rattle.trees.proofs.Types.{loose_types}
use Rattle.trees.proofs.Many.{inst_types_inst_many, inst_types_inst_types}
use Rattle.tasks.specs.Vocabulary.{Vocabulary}
use Rattle.tasks.specs.Typing.{members}
use Rattle.tasks.specs.Valid.{VariablesBelow}
use Rattle.tasks.proofs.TypeInstances.{below}
use Rattle.evidence.specs.images.typing_laws.HasTyping.{HasTyping, IsTypeAt}
use Rattle.images.proofs.typing_laws.Sorted.{has_sorts, kinds_only}
use Rattle.images.proofs.typing_laws.TypeInstances.{at_one, members_at}
use Rattle.inlining.specs.Inlining.{use_body, unfold_rule}
use Rattle.inlining.proofs.Bodies.{IsBody}
use Rattle.inlining.proofs.Uses.{IsTermHere, member_terms, function_count, predicate_count}

-- a type is left as it is
kind_stays : (k : ℕ) (body e : Tree) → sort_of e ≡ Kind → unfold_rule k body e ≡ e
kind_stays k body (Three (HFun f) zs ts ty) q = absurd (cc)
kind_stays k body (Two (HPred p) zs ts) q = absurd (cc)
kind_stays k body _ q = refl

pub no_patterns : (v : Vocabulary) (types ms : List Tree) → Each (IsTermHere v types) ms → AreNoPatterns ms
no_patterns v types [] h = tt
no_patterns v types (m ∷ ms) h = (term_no_vars m h.0.0, no_patterns v types ms h.1)

module _ (v : Vocabulary) (ys : List Tree) (each : (j : ℕ) → IsTypeAt v (get_or ys j (TyVar j))) where
  pub are_types : AreTypes ys
  are_types = record {
    closed = λ j. loose_types (get_or ys j (TyVar j)) (kinds_only (get_or ys j (TyVar j)) (has_sorts v [] (get_or ys j (TyVar j)) (each j).1) (inl (each j).0));
    no_vars = λ j. kind_no_vars (get_or ys j (TyVar j)) (each j).0;
  }

  -- a body at a use, at types
  pub use_body_at_types : (types : List Tree) (body zs ts : Tree) → VariablesBelow (length (members zs)) body → IsList Term ts → HasTyping v types ts → use_body body (inst_types zs ys) (inst_types ts ys) ≡ inst_types (use_body body zs ts) ys
  use_body_at_types types body zs ts b l x =
      let p = inst_types_inst_many (inst_types body (members zs)) (members ts) ys are_types (no_patterns v types (members ts) (member_terms v types ts l x)) in
      let q = inst_types_inst_types (members zs) ys body (below (length (members zs)) body b) in
      let m : members (inst_types zs ys) ≡ map (λ z. inst_types z ys) (members zs) = members_at v ys each zs in
      let n : members (inst_types ts ys) ≡ map (λ z. inst_types z ys) (members ts) = members_at v ys each ts in
      ap (λ (z : List Tree). inst_many (inst_types body z) (members (inst_types ts ys))) m
      ∙ ap (λ (z : List Tree). inst_many (inst_types body (map (λ z. inst_types z ys) (members zs))) z) n
      ∙ ap (λ (z : Tree). inst_many z (map (λ z. inst_types z ys) (members ts))) (sym q) ∙ sym p

  -- a node that is a use has as many types as the body may have type variables, and terms for arguments
  abbrev IsUseOf : ℕ → Tree → List Tree → Tree → Tree → Type 0
  IsUseOf k body types zs ts = VariablesBelow (length (members zs)) body × (IsList Term ts × HasTyping v types ts)

  module _ (k : ℕ) (body : Tree) (b : IsBody v k body) (types : List Tree) where
    choice : (r : Bool) (zs ts e : Tree) → (r ≡ true → IsUseOf k body types zs ts) → (if r then use_body body (inst_types zs ys) (inst_types ts ys) else inst_types e ys) ≡ inst_types (if r then use_body body zs ts else e) ys
    choice true zs ts e u = let w = u refl in use_body_at_types types body zs ts w.0 w.1.0 w.1.1
    choice false zs ts e u = refl

    pub rule_at_types : (e : Tree) → HasTyping v types e → unfold_rule k body (inst_types e ys) ≡ inst_types (unfold_rule k body e) ys
    rule_at_types (Leaf (HTyVar j)) x = kind_stays k body (get_or ys j (TyVar j)) (each j).0
    rule_at_types (Leaf _) x = refl
    rule_at_types (One h a) x = ap (unfold_rule k body) (at_one v ys each h a) ∙ sym (at_one v ys each h a)
    rule_at_types (Two (HPred p) zs ts) x = choice (p == k) zs ts (Two (HPred p) zs ts) (λ q. (predicate_count v types k body b p zs ts q x, (x.0.0.1, x.3)))
    rule_at_types (Two _ a c) x = refl
    rule_at_types (Three (HFun f) zs ts ty) x = choice (f == k) zs ts (Three (HFun f) zs ts ty) (λ q. (function_count v types k body b f zs ts ty q x, (x.0.1, x.3)))
    rule_at_types (Three _ a c d) x = refl
