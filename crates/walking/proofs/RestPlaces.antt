-- The `match` with the branches after the first one, and a `match` over links of its branches, by their numbers in a draft.
use Rattle.std.proofs.Common.{◌≡◌, ℕ, ◌≤◌, List, [], ◌++◌, length, All, sym, ap, subst, ◌∙◌, arith}
use Rattle.std.proofs.lemmas.List.{map-append}
use Rattle.trees.specs.declared.TermId.{TermId}
use Rattle.trees.specs.declared.Sort.TheVariants.{Branch}
use Rattle.trees.specs.declared.Sort.TheVariants as sort
use Rattle.trees.specs.Tree.{Tree, Leaf, Two, HCase, HCell, HArm, HEnd, above_params, head_of}
use Rattle.trees.specs.Node.{tree_at, trees_at, Holds}
use Rattle.trees.specs.Binding.{inst_many}
use Rattle.trees.specs.Sorts.{Fits, sort_of, type_of, IsExpression, IsList}
use Rattle.tasks.specs.Vocabulary.{of_task}
use Rattle.tasks.specs.Typing.{TypedUnder, BranchesFit, first_body, pattern_types}
use Rattle.tasks.specs.Valid.{IsValid}
use Rattle.tasks.specs.MatchTests.{bind}
use Rattle.tasks.specs.MatchTests.{test as match_test}
use Rattle.tasks.specs.Task.{TaskTree}
use Rattle.evidence.specs.Drafts.{DraftTree, Extends}
use Rattle.images.specs.Open.{IsOpenUnder, IsAt}
use Rattle.congruence.specs.Alike.{ArePair}
use Rattle.congruence.specs.Conditionals.{IsMatchCases, IsLastBranch}
use Rattle.walking.specs.declared.linked.Linked.{Linked}
use Rattle.walking.specs.Places.{types_for, IsInstanceAt, IsLinkOf}
use Rattle.congruence.proofs.Later.{tree_later}
use Rattle.walking.specs.declared.matching.OpenedBranch.{OpenedBranch}
use Rattle.walking.specs.Opened.{IsOpenedBranch}
use Rattle.walking.proofs.PlacesLater.{trees_later, place_later}
use Rattle.walking.proofs.Places.{place_closed, place_sort}
use Rattle.walking.proofs.EqualPlaces.{place_type}
use Rattle.walking.proofs.IfPlaces.{image_sort, image_type}
use Rattle.walking.proofs.Branches.{case_sort, case_type, types_joined, types_same}
use Rattle.walking.proofs.BranchLinks.{HasBranch, fit_first, rest_own, rest_fits, rest_at, branch_open, last_made, more_made, more_fits}
use Rattle.walking.proofs.CasePlaces.{case_first}
use Rattle.walking.proofs.OpenedBranches.{others_at, terms_for}

module _ (d : DraftTree) (env : List TermId) (e left : TermId) (n : ℕ) (p : IsInstanceAt d env e left n) (v : IsValid d.task) (scrutinee pattern body others by under others_left : TermId)
    (qe : tree_at d.trees e ≡ Two HCase (tree_at d.trees scrutinee) (Two HCell (Two HArm (tree_at d.trees pattern) (tree_at d.trees body)) (tree_at d.trees others)))
    (ql : tree_at d.trees left ≡ Two HCase (tree_at d.trees by) (Two HCell (Two HArm (tree_at d.trees pattern) (tree_at d.trees under)) (tree_at d.trees others_left))) where
  abbrev E : List Tree
  E = trees_at d.trees env

  abbrev T : Tree
  T = tree_at d.trees scrutinee

  abbrev P : Tree
  P = tree_at d.trees pattern

  abbrev A : Tree
  A = tree_at d.trees body

  abbrev R : Tree
  R = tree_at d.trees others

  abbrev S : Tree
  S = tree_at d.trees by

  abbrev Y : Tree
  Y = tree_at d.trees under

  abbrev V : Tree
  V = tree_at d.trees others_left

  pub whole_at : IsAt d.task (types_for E) E (Two HCase T (Two HCell (Two HArm P A) R)) (tree_at d.trees left) n
  whole_at = subst (λ (z : Tree). IsAt d.task (types_for E) E z (tree_at d.trees left) n) qe p.at

  pub rest_is : IsAt d.task (types_for E) E R V n
  rest_is = others_at d env e left n p v scrutinee pattern body others by pattern under others_left qe ql

  whole_sort : sort_of (tree_at d.trees left) ≡ sort_of A
  whole_sort = place_sort d env e left n p ∙ ap sort_of qe ∙ case_sort T P A R whole_at.shape.typed.3.2.0.0.1

  whole_type : type_of (tree_at d.trees left) ≡ type_of A
  whole_type = place_type d env e left n p ∙ ap type_of qe ∙ case_type T P A R whole_at.shape.typed.3.2.0.0.1

  left_typed : TypedUnder (of_task d.task) [] (Two HCase S (Two HCell (Two HArm P Y) V))
  left_typed = subst (TypedUnder (of_task d.task) []) ql (place_closed d env e left n p).ground.typed

  -- ---- the other branches
  module _ (h : head_of R ≡ HCell) where
    pub rest_has : HasBranch R
    rest_has = fit_first (of_task d.task) (types_for E) (type_of T) A R rest_is.shape.typed whole_at.shape.typed.1.1 h

    pub rest_head : head_of V ≡ HCell
    rest_head = ap head_of rest_is.is ∙ ap (λ (z : Tree). head_of (inst_many z E)) rest_has.is

    pub rest_open_fits : Fits (Two HCase T R)
    rest_open_fits = rest_fits d.task (types_for E) E n T P A R S P Y V (tree_at d.trees left) whole_at ql rest_is h

    pub rest_left_fits : Fits (Two HCase S V)
    rest_left_fits = ((left_typed.0.0.0, left_typed.3.0.0.1), rest_head)

    rest_case : IsAt d.task (types_for E) E (Two HCase T R) (Two HCase S V) n
    rest_case = rest_at d.task (types_for E) E n T P A R S P Y V (tree_at d.trees left) whole_at ql rest_is h

    rest_sorts : (sort_of (Two HCase T R) ≡ sort_of A) × (type_of (Two HCase T R) ≡ type_of A)
    rest_sorts =
        let c = case_first (of_task d.task) (types_for E) T R rest_case.shape.typed in
        let o = rest_own d.task (types_for E) E n T P A R S P Y V (tree_at d.trees left) whole_at ql rest_is h in
        (c.0 ∙ o.0, c.1 ∙ o.1)

    pub rest_place : (m l : TermId) → Holds d.trees m → Holds d.trees l → tree_at d.trees m ≡ Two HCase T R → tree_at d.trees l ≡ Two HCase S V → IsInstanceAt d env m l n
    rest_place m l hm hl em el = record {
      env_held = p.env_held;
      open_held = hm;
      left_held = hl;
      sort = subst (λ (z : Tree). IsExpression (sort_of z)) (sym em) (subst IsExpression (sym rest_sorts.0) whole_at.shape.typed.3.2.0.0.1);
      own = subst (λ (z : Tree). above_params z ≤ length d.task.params) (sym em) (let o : above_params (Two HCase T (Two HCell (Two HArm P A) R)) ≤ length d.task.params = subst (λ (z : Tree). above_params z ≤ length d.task.params) qe p.own in omega (arith, o));
      order = p.order;
      at = subst (λ (z : Tree). IsAt d.task (types_for E) E z (tree_at d.trees l) n) (sym em) (subst (λ (z : Tree). IsAt d.task (types_for E) E (Two HCase T R) z n) (sym el) rest_case);
    }

    pub rest_pair : (m l : TermId) → IsInstanceAt d env m l n → tree_at d.trees m ≡ Two HCase T R → ArePair d left l
    rest_pair m l w em = record {
      left = place_closed d env e left n p;
      right = place_closed d env m l n w;
      sort = place_sort d env m l n w ∙ ap sort_of em ∙ rest_sorts.0 ∙ sym whole_sort;
      type = place_type d env m l n w ∙ ap type_of em ∙ rest_sorts.1 ∙ sym whole_type;
    }

  -- ---- the first body at the terms for the pattern's variables, and a link of it
  module _ (terms : List TermId) (qt : trees_at d.trees terms ≡ bind d.task P S) (inner : TermId) (pi : ArePair d left inner) (part : Linked) (k : IsLinkOf d (env ++ terms) inner n (tree_at d.trees part.image) part) where
    abbrev B : Tree
    B = tree_at d.trees part.image

    trees_longer' : trees_at d.trees (env ++ terms) ≡ E ++ bind d.task P S
    trees_longer' = map-append (tree_at d.trees) env terms ∙ ap (λ (z : List Tree). E ++ z) qt

    types_longer' : types_for (trees_at d.trees (env ++ terms)) ≡ pattern_types P ++ types_for E
    types_longer' =
        ap types_for trees_longer' ∙ types_joined E (bind d.task P S)
        ∙ ap (λ (z : List Tree). z ++ types_for E) (types_same (of_task d.task) (pattern_types P) (bind d.task P S) (terms_for d env e left n p v scrutinee pattern body others by pattern under others_left qe ql))

    part_at : IsAt d.task (pattern_types P ++ types_for E) (E ++ bind d.task P S) B (tree_at d.trees part.right) n
    part_at = subst (λ (z : List Tree). IsAt d.task z (E ++ bind d.task P S) B (tree_at d.trees part.right) n) types_longer'
        (subst (λ (z : List Tree). IsAt d.task (types_for (trees_at d.trees (env ++ terms))) z B (tree_at d.trees part.right) n) trees_longer' k.place.at)

    part_sort : sort_of B ≡ sort_of (tree_at d.trees left)
    part_sort = image_sort d (env ++ terms) inner n B part k ∙ pi.sort

    part_type : type_of B ≡ type_of (tree_at d.trees left)
    part_type = image_type d (env ++ terms) inner n B part k ∙ pi.type

    -- over other branches that fit it
    module _ (O : Tree) (lo : IsList Branch O) (oo : IsOpenUnder d.task (types_for E) O n) (fo : BranchesFit (type_of T) B O) where
      pub made_open : IsOpenUnder d.task (types_for E) (Two HCase T (Two HCell (Two HArm P B) O)) n
      made_open =
          branch_open d.task (types_for E) E n T P A R (tree_at d.trees left) S Y V whole_at ql (terms_for d env e left n p v scrutinee pattern body others by pattern under others_left qe ql) B (tree_at d.trees part.right) part_at k.place.sort O lo oo fo

      pub made_last : (right : Tree) → right ≡ inst_many (Two HCase T (Two HCell (Two HArm P B) O)) E → O ≡ Leaf HEnd → IsLastBranch d.task right (tree_at d.trees part.right)
      made_last =
          last_made d.task (types_for E) E n T P A R (tree_at d.trees left) S Y V whole_at ql (terms_for d env e left n p v scrutinee pattern body others by pattern under others_left qe ql) B (tree_at d.trees part.right) part_at k.place.sort O lo oo fo

      pub made_more : (right test' more : Tree) → right ≡ inst_many (Two HCase T (Two HCell (Two HArm P B) O)) E → test' ≡ match_test d.task P S → HasBranch O → more ≡ inst_many (Two HCase T O) E → IsMatchCases d.task right test' (tree_at d.trees part.right) more
      made_more =
          more_made d.task (types_for E) E n T P A R (tree_at d.trees left) S Y V whole_at ql (terms_for d env e left n p v scrutinee pattern body others by pattern under others_left qe ql) B (tree_at d.trees part.right) part_at k.place.sort O lo oo fo

    -- those of a link of the `match` with the other branches do
    pub others_fit : (rest : TermId) (more : Linked) (O : Tree) → ArePair d left rest → IsLinkOf d env rest n (tree_at d.trees more.image) more → tree_at d.trees more.image ≡ Two HCase T O → BranchesFit (type_of T) B O × IsList Branch O × HasBranch O
    others_fit rest more O q m em =
        let w : TypedUnder (of_task d.task) (types_for E) (Two HCase T O) = subst (TypedUnder (of_task d.task) (types_for E)) em m.place.at.shape.typed in
        more_fits (of_task d.task) (types_for E) T B O w (part_sort ∙ sym q.sort ∙ sym (image_sort d env rest n (tree_at d.trees more.image) more m) ∙ ap sort_of em) (part_type ∙ sym q.type ∙ sym (image_type d env rest n (tree_at d.trees more.image) more m) ∙ ap type_of em)

    -- the instance of what is made, and the link's right side
    pub made_pair : (d1 : DraftTree) (x : Extends d d1) (O : Tree) (m l : TermId) → IsInstanceAt d1 env m l n → tree_at d1.trees m ≡ Two HCase T (Two HCell (Two HArm P B) O) → ArePair d1 l part.right
    made_pair d1 x O m l w em =
        let q = place_later d d1 x (env ++ terms) part.image part.right n k.place in
        let b : tree_at d1.trees part.image ≡ B = tree_later d d1 x part.image k.place.open_held in
        record {
          left = place_closed d1 env m l n w;
          right = place_closed d1 (env ++ terms) part.image part.right n q;
          sort = place_sort d1 (env ++ terms) part.image part.right n q ∙ ap sort_of b ∙ sym (case_sort T P B O k.place.sort) ∙ ap sort_of (sym em) ∙ sym (place_sort d1 env m l n w);
          type = place_type d1 (env ++ terms) part.image part.right n q ∙ ap type_of b ∙ sym (case_type T P B O k.place.sort) ∙ ap type_of (sym em) ∙ sym (place_type d1 env m l n w);
        }

-- an instance that was made in a later draft
pub made_instance : (d d1 : DraftTree) (x : Extends d d1) (env : List TermId) (n : ℕ) (W : Tree) (m l : TermId) → All (Holds d.trees) env → IsInstanceAt d1 env m l n → tree_at d1.trees m ≡ W → tree_at d1.trees l ≡ inst_many W (trees_at d.trees env)
made_instance d d1 x env n W m l h w em = w.at.is ∙ ap (λ (z : Tree). inst_many z (trees_at d1.trees env)) em ∙ ap (inst_many W) (trees_later d d1 x env h)

-- a last branch, in a later draft
pub last_later : (d d1 : DraftTree) (x : Extends d d1) (whole inner : TermId) → Holds d.trees whole → Holds d.trees inner → IsLastBranch d.task (tree_at d.trees whole) (tree_at d.trees inner) → IsLastBranch d1.task (tree_at d1.trees whole) (tree_at d1.trees inner)
last_later d d1 x whole inner hw hi q =
    subst (λ (t : TaskTree). IsLastBranch t (tree_at d1.trees whole) (tree_at d1.trees inner)) (sym x.task)
    (subst (λ (z : Tree). IsLastBranch d.task z (tree_at d1.trees inner)) (sym (tree_later d d1 x whole hw)) (subst (IsLastBranch d.task (tree_at d.trees whole)) (sym (tree_later d d1 x inner hi)) q))

pub cases_later : (d d1 : DraftTree) (x : Extends d d1) (w c a b : TermId) → Holds d.trees w → Holds d.trees c → Holds d.trees a → Holds d.trees b → IsMatchCases d.task (tree_at d.trees w) (tree_at d.trees c) (tree_at d.trees a) (tree_at d.trees b)
    → IsMatchCases d1.task (tree_at d1.trees w) (tree_at d1.trees c) (tree_at d1.trees a) (tree_at d1.trees b)
cases_later d d1 x w c a b hw hc ha hb q =
    subst (λ (t : TaskTree). IsMatchCases t (tree_at d1.trees w) (tree_at d1.trees c) (tree_at d1.trees a) (tree_at d1.trees b)) (sym x.task)
    (subst (λ (z : Tree). IsMatchCases d.task z (tree_at d1.trees c) (tree_at d1.trees a) (tree_at d1.trees b)) (sym (tree_later d d1 x w hw))
    (subst (λ (z : Tree). IsMatchCases d.task (tree_at d.trees w) z (tree_at d1.trees a) (tree_at d1.trees b)) (sym (tree_later d d1 x c hc))
    (subst (λ (z : Tree). IsMatchCases d.task (tree_at d.trees w) (tree_at d.trees c) z (tree_at d1.trees b)) (sym (tree_later d d1 x a ha)) (subst (IsMatchCases d.task (tree_at d.trees w) (tree_at d.trees c) (tree_at d.trees a)) (sym (tree_later d d1 x b hb)) q))))

-- the branches of an open `match`
pub arms_open : (t : TaskTree) (types : List Tree) (n : ℕ) (x r : Tree) → IsOpenUnder t types (Two HCase x r) n → IsOpenUnder t types r n
arms_open t types n x r o = record { typed = o.typed.3; ground = o.ground.1; above = let a = o.above in omega (arith, a) }

-- the opened branch is the last one
pub opened_last : (d : DraftTree) (env : List TermId) (left pattern body : TermId) (n : ℕ) (o : OpenedBranch) → IsOpenedBranch d env left pattern body n o → tree_at d.trees o.others ≡ Leaf HEnd → IsLastBranch d.task (tree_at d.trees left) (tree_at d.trees o.inner)
opened_last d env left pattern body n o w q = record {
  scrutinee = tree_at d.trees o.by;
  pattern = tree_at d.trees pattern;
  body = tree_at d.trees o.under;
  is = w.left_is ∙ ap (λ (z : Tree). Two HCase (tree_at d.trees o.by) (Two HCell (Two HArm (tree_at d.trees pattern) (tree_at d.trees o.under)) z)) q;
  first = w.inner_is ∙ ap (inst_many (tree_at d.trees o.under)) w.terms;
}

-- or has others after it
pub opened_more : (d : DraftTree) (env : List TermId) (left pattern body : TermId) (n : ℕ) (o : OpenedBranch) (rest : TermId) → IsOpenedBranch d env left pattern body n o → head_of (tree_at d.trees o.others) ≡ HCell → tree_at d.trees rest ≡ Two HCase (tree_at d.trees o.by) (tree_at d.trees o.others)
    → IsMatchCases d.task (tree_at d.trees left) (tree_at d.trees o.test) (tree_at d.trees o.inner) (tree_at d.trees rest)
opened_more d env left pattern body n o rest w h q = record {
  scrutinee = tree_at d.trees o.by;
  pattern = tree_at d.trees pattern;
  body = tree_at d.trees o.under;
  rest = tree_at d.trees o.others;
  is = w.left_is;
  more = h;
  condition = w.test_is;
  first = w.inner_is ∙ ap (inst_many (tree_at d.trees o.under)) w.terms;
  others = q;
}

pub task_moved : (d d1 : DraftTree) (x : Extends d d1) (whole : Tree) (inner : TermId) → Holds d.trees inner → IsLastBranch d.task whole (tree_at d.trees inner) → IsLastBranch d1.task whole (tree_at d1.trees inner)
task_moved d d1 x whole inner hi q = subst (λ (t : TaskTree). IsLastBranch t whole (tree_at d1.trees inner)) (sym x.task) (subst (IsLastBranch d.task whole) (sym (tree_later d d1 x inner hi)) q)

pub cases_moved : (d d1 : DraftTree) (x : Extends d d1) (whole : Tree) (c a b : TermId) → Holds d.trees c → Holds d.trees a → Holds d.trees b → IsMatchCases d.task whole (tree_at d.trees c) (tree_at d.trees a) (tree_at d.trees b) → IsMatchCases d1.task whole (tree_at d1.trees c) (tree_at d1.trees a) (tree_at d1.trees b)
cases_moved d d1 x whole c a b hc ha hb q =
    subst (λ (t : TaskTree). IsMatchCases t whole (tree_at d1.trees c) (tree_at d1.trees a) (tree_at d1.trees b)) (sym x.task)
    (subst (λ (z : Tree). IsMatchCases d.task whole z (tree_at d1.trees a) (tree_at d1.trees b)) (sym (tree_later d d1 x c hc))
    (subst (λ (z : Tree). IsMatchCases d.task whole (tree_at d.trees c) z (tree_at d1.trees b)) (sym (tree_later d d1 x a ha)) (subst (IsMatchCases d.task whole (tree_at d.trees c) (tree_at d.trees a)) (sym (tree_later d d1 x b hb)) q)))

pub case_as : (l s y a r : Tree) → l ≡ Two HCase s y → l ≡ Two HCase a r → l ≡ Two HCase a y
case_as l s y a r p q = let w : Two HCase s y ≡ Two HCase a r = sym p ∙ q in let e : s ≡ a = cc (w) in p ∙ ap (λ (z : Tree). Two HCase z y) e

-- the branches of a `match` at an environment
pub case_branch : (d : DraftTree) (env : List TermId) (e left : TermId) (n : ℕ) → IsInstanceAt d env e left n → (scrutinee arms : TermId) → tree_at d.trees e ≡ Two HCase (tree_at d.trees scrutinee) (tree_at d.trees arms) → HasBranch (tree_at d.trees arms)
case_branch d env e left n p scrutinee arms q =
    let F = trees_at d.trees env in
    let w : TypedUnder (of_task d.task) (types_for F) (Two HCase (tree_at d.trees scrutinee) (tree_at d.trees arms)) = subst (TypedUnder (of_task d.task) (types_for F)) q p.at.shape.typed in
    fit_first (of_task d.task) (types_for F) (type_of (tree_at d.trees scrutinee)) (first_body (tree_at d.trees arms)) (tree_at d.trees arms) w.3 w.1 w.0.1

-- the list of the other branches is one
pub others_list : (d : DraftTree) (env : List TermId) (e left : TermId) (n : ℕ) → IsInstanceAt d env e left n → (T P A R : Tree) → tree_at d.trees e ≡ Two HCase T (Two HCell (Two HArm P A) R) → sort_of R ≡ sort.List
others_list d env e left n p T P A R q =
    let F = trees_at d.trees env in
    let w : TypedUnder (of_task d.task) (types_for F) (Two HCase T (Two HCell (Two HArm P A) R)) = subst (TypedUnder (of_task d.task) (types_for F)) q p.at.shape.typed in
    w.3.0.0.1.0

-- a pattern of a `match` at an environment
pub pattern_typed : (d : DraftTree) (env : List TermId) (e left : TermId) (n : ℕ) → IsInstanceAt d env e left n → (T P A R : Tree) → tree_at d.trees e ≡ Two HCase T (Two HCell (Two HArm P A) R) → TypedUnder (of_task d.task) (types_for (trees_at d.trees env)) P × (sort_of P ≡ sort.Pattern)
pattern_typed d env e left n p T P A R q =
    let F = trees_at d.trees env in
    let w : TypedUnder (of_task d.task) (types_for F) (Two HCase T (Two HCell (Two HArm P A) R)) = subst (TypedUnder (of_task d.task) (types_for F)) q p.at.shape.typed in
    (w.3.2.2, w.3.2.0.0.0)
