-- One pass by full bodies is the passes of the definitions, from the last to the first.
use Rattle.std.proofs.Common.{◌≡◌, ℕ, ◌+◌, ◌<◌, ◌==◌, ◌⊎◌, inl, inr, Bool, true, false, if◌then◌else◌, List, [], ◌∷◌, ◌++◌, map, length, get_or, zero, suc, All, Option, subst, refl, sym, ap, ◌∙◌, arith}
use Rattle.tasks.specs.trees.declared.Sort.{Sort}
use Rattle.tasks.specs.trees.declared.Sort.TheVariants.{Kind, Term}
use Rattle.tasks.specs.trees.declared.Sort.TheVariants as sort
use Rattle.tasks.specs.trees.Tree.{Tree, Leaf, One, Two, Three, Head, HBound, HParam, HNum, HTrue, HFalse, HNot, HPatAny, HPatVar, HPatAlias, HEnd, HCell, HArm, HLet, HCase, HIf, HFun, HPred, head_of}
use Rattle.tasks.specs.trees.Binding.{inst_types, inst_many, TyVar}
use Rattle.tasks.specs.trees.Sorts.{sort_of, yield, top_sort, first_sort, IsList, IsListOf}
use Rattle.tasks.specs.trees.Facts.{Each}
use Rattle.tasks.specs.Task.{DefinitionTree}
use Rattle.tasks.specs.Vocabulary.{Vocabulary}
use Rattle.tasks.specs.Typing.{members, bound_types}
use Rattle.tasks.specs.Valid.{IsDefinition}
use Rattle.tasks.proofs.TypeInstances.{IsSoundVocabulary}
use Rattle.checks.specs.decl_checks.Structure.{defining_body}
use Rattle.evidence.specs.images.Images.{image, IsOtherHead}
use Rattle.images.proofs.Images.{first_of}
use Rattle.evidence.specs.images.typing_laws.HasTyping.{HasTyping, IsTypeAt}
use Rattle.images.proofs.typing_laws.Sorted.{has_sorts}
use Rattle.images.proofs.typing_laws.TypeInstances.{has_types}
use Rattle.images.proofs.TypedImages.{image_type, image_keeps_typing, image_at_types, like}
use Rattle.inlining.specs.Inlining.{use_body, unfold_rule, inlined}
use Rattle.inlining.specs.FullBodies.{use_rule, next_rule, full_rule_from, full_rule}
use Rattle.inlining.proofs.Bodies.{onto, IsBody, defined_body}
use Rattle.inlining.proofs.Uses.{IsTermHere, member_terms, member_types, unfold_typed_rule}
use Rattle.inlining.proofs.AtTypes.{no_patterns}
use Rattle.inlining.proofs.Inlined.{inlined_keeps}
use Rattle.inlining.proofs.OpenInstances.{shifting_natural, many_natural}
use Rattle.inlining.proofs.ImageChanges.{image_of_many}
use Rattle.inlining.proofs.FullBodies.{IsSteadyRule, nothing_steady, image_of_nothing, full_body, use_typed_rule, use_steady}

-- ---- lists
yields_no_list : (e : Tree) → yield e ≡ sort.List → ⊥
yields_no_list (Leaf (HNum z)) q = cc
yields_no_list (Leaf HTrue) q = cc
yields_no_list (Leaf HFalse) q = cc
yields_no_list (Leaf _) q = cc
yields_no_list (One (HBound i) a) q = cc
yields_no_list (One (HParam n) a) q = cc
yields_no_list (One HNot a) q = cc
yields_no_list (One HPatAny a) q = cc
yields_no_list (One HPatVar a) q = cc
yields_no_list (One HPatAlias a) q = cc
yields_no_list (One _ a) q = cc
yields_no_list (Two HCell a b) q = yields_no_list a q
yields_no_list (Two HLet a b) q = yields_no_list b q
yields_no_list (Two HCase a b) q = yields_no_list b q
yields_no_list (Two HArm a b) q = yields_no_list b q
yields_no_list (Two _ a b) q = cc
yields_no_list (Three HIf a b c) q = yields_no_list b q
yields_no_list (Three (HFun k) a b c) q = cc
yields_no_list (Three _ a b c) q = cc

top_list : (h : Head) (s : Sort) → (s ≡ sort.List → ⊥) → top_sort h s ≡ sort.List → (h ≡ HEnd) ⊎ (h ≡ HCell)
top_list HEnd s n q = inl refl
top_list HCell s n q = inr refl
top_list HArm s n q = absurd (cc)
top_list _ s n q = absurd (n q)

list_head : (e : Tree) → sort_of e ≡ sort.List → (head_of e ≡ HEnd) ⊎ (head_of e ≡ HCell)
list_head e q = top_list (head_of e) (yield e) (yields_no_list e) q

module _ (v : Vocabulary) (sound : IsSoundVocabulary v) (f : Tree → Tree) (steady : IsSteadyRule v f) where
  other_list : (e : Tree) (h : Head) → head_of e ≡ h → (h ≡ HEnd) ⊎ (h ≡ HCell) → f e ≡ e
  other_list e h q (inl n) = steady.typed.others e (subst (λ (z : Head). IsOtherHead z) (sym (q ∙ n)) tt)
  other_list e h q (inr n) = steady.typed.others e (subst (λ (z : Head). IsOtherHead z) (sym (q ∙ n)) tt)

  -- the members of a list's image are the images of its members
  pub members_image : (types : List Tree) (ts : Tree) → IsList Term ts → HasTyping v types ts → members (image f ts) ≡ map (image f) (members ts)
  members_image types (Leaf h) l x = ap members (other_list (Leaf h) h refl (list_head (Leaf h) l.0))
  members_image types (One h a) l x = ap members (other_list (One h (image f a)) h refl (list_head (One h a) l.0))
  members_image types (Two HCell a b) l x =
      let p = first_of Term a b x.0 l in
      ap members (steady.typed.others (Two HCell (image f a) (image f b)) tt) ∙ ap (λ (z : List Tree). image f a ∷ z) (members_image types b p.1 x.3)
  members_image types (Two h a b) l x = ap members (other_list (Two h (image f a) (image f b)) h refl (list_head (Two h a b) l.0))
  members_image types (Three h a b c) l x = ap members (other_list (Three h (image f a) (image f b) (image f c)) h refl (list_head (Three h a b c) l.0))

  images_are_terms : (types ms : List Tree) → Each (IsTermHere v types) ms → Each (IsTermHere v types) (map (image f) ms)
  images_are_terms types [] h = tt
  images_are_terms types (m ∷ ms) h =
      let k = image_keeps_typing v f steady.typed types m h.0.1 in
      ((k.sort ∙ h.0.0, k.typed), images_are_terms types ms h.1)

  term_at : (types ms : List Tree) → Each (IsTermHere v types) ms → (j : ℕ) (e : Tree) → j < length ms → (ts : List Tree) × HasTyping v ts (get_or ms j e)
  term_at types [] h j e l = absurd (omega arith)
  term_at types (m ∷ ms) h zero e l = (types, h.0.1)
  term_at types (m ∷ ms) h (suc j) e l = term_at types ms h.1 j e (omega arith)

  -- a body at a use: its image is the body's image at the image of the arguments
  image_of_use : (types more : List Tree) (body zs ts : Tree) → HasTyping v more body → ((j : ℕ) → IsTypeAt v (get_or (members zs) j (TyVar j))) → (there : List Tree) → HasTyping v there (inst_types body (members zs))
      → IsList Term ts → HasTyping v types ts → image f (use_body body zs ts) ≡ use_body (image f body) zs (image f ts)
  image_of_use types more body zs ts xb each there xt l x =
      let ms = member_terms v types ts l x in
      image_of_many v f steady.typed (members ts) (no_patterns v types (members ts) ms) (no_patterns v types (map (image f) (members ts)) (images_are_terms types (members ts) ms))
      (steady.changes _ (many_natural (map (image f) (members ts)) (no_patterns v types (map (image f) (members ts)) (images_are_terms types (members ts) ms))))
      (λ d. steady.changes _ (shifting_natural d 0)) (term_at types (members ts) ms) there (inst_types body (members zs)) xt
      ∙ ap (λ (z : Tree). inst_many z (map (image f) (members ts))) (image_at_types v f steady.typed (members zs) each (λ us a y. steady.types (members zs) each us a y) more body xb)
      ∙ ap (inst_many (inst_types (image f body) (members zs))) (sym (members_image types ts l x))

  -- ---- one definition
  module _ (k : ℕ) (body : Tree) (b : IsBody v k body) where
    list_kept : (types : List Tree) (ts : Tree) → IsList Term ts → HasTyping v types ts → IsList Term (image (unfold_rule k body) ts) × HasTyping v types (image (unfold_rule k body) ts)
    list_kept types ts l x =
        let m = like v (unfold_rule k body) (unfold_typed_rule v sound k body b) types ts x in
        (subst (λ (s : Sort). IsListOf Term s (first_sort (image (unfold_rule k body) ts))) (sym m.sort) (subst (λ (o : Option Sort). IsListOf Term (sort_of ts) o) (sym m.first) l), m.typed)

    at_use : (types : List Tree) (zs ts : Tree) → IsList Kind zs → IsList Term ts → HasTyping v types zs → HasTyping v types ts
        → image f (image (unfold_rule k body) ts) ≡ image (use_rule k (image f body) f) ts
        → image f (use_body body (image (unfold_rule k body) zs) (image (unfold_rule k body) ts)) ≡ use_body (image f body) (image (use_rule k (image f body) f) zs) (image (use_rule k (image f body) f) ts)
    at_use types zs ts lz l xz x q =
        let u = image_type v (unfold_rule k body) (unfold_typed_rule v sound k body b) zs (has_sorts v types zs xz) (inr lz) in
        let w = image_type v (use_rule k (image f body) f) (use_typed_rule v sound f steady k (image f body) (full_body v sound f steady k body b)) zs (has_sorts v types zs xz) (inr lz) in
        let each : (j : ℕ) → IsTypeAt v (get_or (members zs) j (TyVar j)) = λ j. member_types v types zs lz xz j (TyVar j) (refl, (tt, tt)) in
        let n = list_kept types ts l x in
        ap (λ (z : Tree). image f (use_body body z (image (unfold_rule k body) ts))) u
        ∙ image_of_use types (onto b.symbol.args []) body zs (image (unfold_rule k body) ts) b.typed each _ (has_types v (members zs) each sound (onto b.symbol.args []) body b.typed) n.0 n.1
        ∙ ap (use_body (image f body) zs) q ∙ ap (λ (z : Tree). use_body (image f body) z (image (use_rule k (image f body) f) ts)) (sym w)

    pub one_step : (types : List Tree) (e : Tree) → HasTyping v types e → image f (image (unfold_rule k body) e) ≡ image (use_rule k (image f body) f) e
    one_step types (Leaf h) x = refl
    one_step types (One h a) x = ap (λ (z : Tree). f (One h z)) (one_step types a x.2)
    one_step types (Two (HPred s) zs ts) x = by (s == k) (one_step types zs x.2) (one_step types ts x.3)
      where
        by : (r : Bool) → image f (image (unfold_rule k body) zs) ≡ image (use_rule k (image f body) f) zs → image f (image (unfold_rule k body) ts) ≡ image (use_rule k (image f body) f) ts
            → image f (if r then use_body body (image (unfold_rule k body) zs) (image (unfold_rule k body) ts) else Two (HPred s) (image (unfold_rule k body) zs) (image (unfold_rule k body) ts))
            ≡ (if r then use_body (image f body) (image (use_rule k (image f body) f) zs) (image (use_rule k (image f body) f) ts) else f (Two (HPred s) (image (use_rule k (image f body) f) zs) (image (use_rule k (image f body) f) ts)))
        by true u w = at_use types zs ts x.0.0.0 x.0.0.1 x.2 x.3 w
        by false u w = ap (λ (z : Tree). f (Two (HPred s) z (image f (image (unfold_rule k body) ts)))) u ∙ ap (λ (z : Tree). f (Two (HPred s) (image (use_rule k (image f body) f) zs) z)) w
    one_step types (Two h a c) x =
        ap (λ (z : Tree). f (Two h z (image f (image (unfold_rule k body) c)))) (one_step types a x.2)
        ∙ ap (λ (z : Tree). f (Two h (image (use_rule k (image f body) f) a) z)) (one_step (bound_types h a ++ types) c x.3)
    one_step types (Three (HFun s) zs ts ty) x = by (s == k) (one_step types zs x.2) (one_step types ts x.3) (one_step types ty x.4)
      where
        by : (r : Bool) → image f (image (unfold_rule k body) zs) ≡ image (use_rule k (image f body) f) zs → image f (image (unfold_rule k body) ts) ≡ image (use_rule k (image f body) f) ts
            → image f (image (unfold_rule k body) ty) ≡ image (use_rule k (image f body) f) ty
            → image f (if r then use_body body (image (unfold_rule k body) zs) (image (unfold_rule k body) ts) else Three (HFun s) (image (unfold_rule k body) zs) (image (unfold_rule k body) ts) (image (unfold_rule k body) ty))
            ≡ (if r then use_body (image f body) (image (use_rule k (image f body) f) zs) (image (use_rule k (image f body) f) ts)
            else f (Three (HFun s) (image (use_rule k (image f body) f) zs) (image (use_rule k (image f body) f) ts) (image (use_rule k (image f body) f) ty)))
        by true u w z = at_use types zs ts x.0.0 x.0.1 x.2 x.3 w
        by false u w z =
            ap (λ (y : Tree). f (Three (HFun s) y (image f (image (unfold_rule k body) ts)) (image f (image (unfold_rule k body) ty)))) u
            ∙ ap (λ (y : Tree). f (Three (HFun s) (image (use_rule k (image f body) f) zs) y (image f (image (unfold_rule k body) ty)))) w
            ∙ ap (λ (y : Tree). f (Three (HFun s) (image (use_rule k (image f body) f) zs) (image (use_rule k (image f body) f) ts) y)) z
    one_step types (Three h a c m) x =
        ap (λ (z : Tree). f (Three h z (image f (image (unfold_rule k body) c)) (image f (image (unfold_rule k body) m)))) (one_step types a x.2)
        ∙ ap (λ (z : Tree). f (Three h (image (use_rule k (image f body) f) a) z (image f (image (unfold_rule k body) m)))) (one_step types c x.3)
        ∙ ap (λ (z : Tree). f (Three h (image (use_rule k (image f body) f) a) (image (use_rule k (image f body) f) c) z)) (one_step types m x.4)

-- ---- all definitions
module _ (v : Vocabulary) (sound : IsSoundVocabulary v) where
  next_steady : (f : Tree → Tree) → IsSteadyRule v f → (d : DefinitionTree) → IsDefinition v d → IsSteadyRule v (next_rule f d)
  next_steady f steady d p = use_steady v sound f steady d.symbol (image f (defining_body d.equation)) (full_body v sound f steady d.symbol (defining_body d.equation) (defined_body v d p))

  passes : (ds : List DefinitionTree) → All (IsDefinition v) ds → (f : Tree → Tree) → IsSteadyRule v f → (types : List Tree) (e : Tree) → HasTyping v types e → image f (inlined ds e) ≡ image (full_rule_from f ds) e
  passes [] a f steady types e x = refl
  passes (d ∷ ds) a f steady types e x =
      let rest : All (IsDefinition v) ds = λ j c l. a (suc j) c (omega arith) in
      let p = a 0 d (omega arith) in
      one_step v sound f steady d.symbol (defining_body d.equation) (defined_body v d p) types (inlined ds e) (inlined_keeps v sound ds rest types e x).typed
      ∙ passes ds rest (next_rule f d) (next_steady f steady d p) types e x

  -- the rule of all definitions keeps typing, and commutes with types put in and changes of variables
  pub steady_from : (ds : List DefinitionTree) → All (IsDefinition v) ds → (f : Tree → Tree) → IsSteadyRule v f → IsSteadyRule v (full_rule_from f ds)
  steady_from [] a f steady = steady
  steady_from (d ∷ ds) a f steady = steady_from ds (λ j c l. a (suc j) c (omega arith)) (next_rule f d) (next_steady f steady d (a 0 d (omega arith)))

  pub full_steady : (ds : List DefinitionTree) → All (IsDefinition v) ds → IsSteadyRule v (full_rule ds)
  full_steady ds a = steady_from ds a (λ e. e) (nothing_steady v sound)

  pub single_pass : (ds : List DefinitionTree) → All (IsDefinition v) ds → (types : List Tree) (e : Tree) → HasTyping v types e → inlined ds e ≡ image (full_rule ds) e
  single_pass ds a types e x = sym (image_of_nothing v sound (inlined ds e)) ∙ passes ds a (λ e. e) (nothing_steady v sound) types e x
