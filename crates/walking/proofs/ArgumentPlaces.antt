-- Lists of arguments at environments, by their numbers in a draft, and links of arguments.
use Rattle.std.proofs.Common.{◌≡◌, ℕ, ◌≤◌, inl, inr, List, [], ◌∷◌, ◌++◌, length, All, refl, sym, ap, subst, ◌∙◌, arith}
use Rattle.std.proofs.lemmas.List.{map-append}
use Rattle.std.proofs.lemmas.List.Elements.{All-append, All-cons, All-nil}
use Rattle.trees.specs.declared.TermId.{TermId}
use Rattle.trees.specs.declared.Sort.TheVariants.{Term}
use Rattle.trees.specs.Tree.{Tree, Leaf, Two, HCell, HEnd, above_params, head_of}
use Rattle.trees.specs.Node.{tree_at, trees_at, Holds}
use Rattle.trees.specs.Binding.{inst_many}
use Rattle.trees.specs.Sorts.{sort_of, IsList, IsExpression}
use Rattle.tasks.specs.Task.{TaskTree}
use Rattle.tasks.specs.Vocabulary.{Vocabulary, of_task}
use Rattle.tasks.specs.Typing.{TypedUnder}
use Rattle.evidence.specs.Drafts.{DraftTree, Extends}
use Rattle.evidence.specs.Laws.{Extends_trans}
use Rattle.images.specs.Images.{image, IsOtherHead}
use Rattle.images.specs.Open.{IsOpenUnder, IsAt}
use Rattle.images.specs.Templates.{listed}
use Rattle.images.proofs.Images.{others_type}
use Rattle.tasks.proofs.Closing.{typed_sorted}
use Rattle.images.proofs.Environments.{at_first, at_second}
use Rattle.congruence.specs.declared.alike.AlikeBy.{AlikeBy}
use Rattle.congruence.specs.declared.alike.AlikeBy.TheVariants as alike
use Rattle.congruence.specs.Alike.{IsClosedAt, ArePair, Shows}
use Rattle.congruence.proofs.Later.{held_later, tree_later, pair_later, shows_at}
use Rattle.walking.specs.declared.linked.Linked.{Linked}
use Rattle.congruence.specs.declared.applications.SymbolAt.{SymbolAt}
use Rattle.congruence.specs.declared.applications.SymbolAt.TheVariants as symbol
use Rattle.walking.specs.declared.linked.LinkedArguments.{LinkedArguments}
use Rattle.walking.specs.Places.{types_for, IsInstanceAt, IsLinkOf, over_images}
use Rattle.congruence.specs.Applications.{applied, IsSymbolHeld}
use Rattle.walking.specs.Arguments.{AreInstancesAt, AreLinksOf}
use Rattle.congruence.proofs.ApplicationHoles.{listed_later, symbol_later, applied_later}
use Rattle.congruence.proofs.CaseParts.{pair_through}
use Rattle.congruence.proofs.Lists.{cell_of_terms, listed_one_more, first_term, other_terms, terms_many}
use Rattle.congruence.proofs.ApplicationLaws.{applied_expression, applied_list, applied_instance, applied_above, above_list}
use Rattle.walking.proofs.Parts.{cell_made, application_made, application_list}
use Rattle.walking.proofs.PlacesLater.{all_later, trees_later}
use Rattle.walking.proofs.Places.{place_closed, place_sort}

-- ---- in a later draft
module _ (d d1 : DraftTree) (x : Extends d d1) where
  pub places_later : (env : List TermId) (e l : TermId) (n : ℕ) → AreInstancesAt d env e l n → AreInstancesAt d1 env e l n
  places_later env e l n p = record {
    env_held = all_later d d1 x env p.env_held;
    open_held = held_later d d1 x e p.open_held;
    left_held = held_later d d1 x l p.left_held;
    terms = subst (λ (z : Tree). IsList Term z) (sym (tree_later d d1 x e p.open_held)) p.terms;
    own = subst (λ (t : TaskTree). above_params (tree_at d1.trees e) ≤ length t.params) (sym x.task) (subst (λ (z : Tree). above_params z ≤ length d.task.params) (sym (tree_later d d1 x e p.open_held)) p.own);
    order = subst (λ (t : TaskTree). length t.params ≤ n) (sym x.task) p.order;
    at = subst (λ (t : TaskTree). IsAt t (types_for (trees_at d1.trees env)) (trees_at d1.trees env) (tree_at d1.trees e) (tree_at d1.trees l) n) (sym x.task)
        (subst (λ (z : List Tree). IsAt d.task (types_for z) z (tree_at d1.trees e) (tree_at d1.trees l) n) (sym (trees_later d d1 x env p.env_held))
        (subst (λ (z : Tree). IsAt d.task (types_for (trees_at d.trees env)) (trees_at d.trees env) z (tree_at d1.trees l) n) (sym (tree_later d d1 x e p.open_held))
        (subst (λ (z : Tree). IsAt d.task (types_for (trees_at d.trees env)) (trees_at d.trees env) (tree_at d.trees e) z n) (sym (tree_later d d1 x l p.left_held)) p.at)));
  }

  pub links_later : (env : List TermId) (k : SymbolAt) (before : List TermId) (left : TermId) (n : ℕ) (e : Tree) (m : LinkedArguments) → IsSymbolHeld d.trees k → All (Holds d.trees) before → AreLinksOf d env k before left n e m → AreLinksOf d1 env k before left n e m
  links_later env k before left n e m h hb p = record {
    is = tree_later d d1 x m.image p.places.open_held ∙ p.is;
    places = places_later env m.image m.list n p.places;
    pair = pair_later d d1 x left m.right p.pair;
    right = tree_later d d1 x m.right p.pair.right.held ∙ p.right ∙ sym (listed_later d d1 x k before m.list h hb p.places.left_held);
    shows = shows_at d d1 x m.alike left m.right p.pair.left.held p.pair.right.held p.shows;
  }

-- ---- lists of arguments
pub lists_made : (d : DraftTree) (env : List TermId) (a x b y e l : TermId) (n : ℕ) → IsInstanceAt d env a x n → AreInstancesAt d env b y n → sort_of (tree_at d.trees a) ≡ Term → Holds d.trees e → Holds d.trees l
    → tree_at d.trees e ≡ Two HCell (tree_at d.trees a) (tree_at d.trees b) → tree_at d.trees l ≡ Two HCell (tree_at d.trees x) (tree_at d.trees y) → AreInstancesAt d env e l n
lists_made d env a x b y e l n p w s he hl q r = record {
  env_held = p.env_held;
  open_held = he;
  left_held = hl;
  terms = subst (λ (z : Tree). IsList Term z) (sym q) (cell_of_terms (tree_at d.trees a) (tree_at d.trees b) s w.terms).1;
  own = subst (λ (z : Tree). above_params z ≤ length d.task.params) (sym q) (omega (arith, p.own, w.own));
  order = p.order;
  at = subst (λ (z : Tree). IsAt d.task (types_for (trees_at d.trees env)) (trees_at d.trees env) z (tree_at d.trees l) n) (sym q)
      (subst (λ (z : Tree). IsAt d.task (types_for (trees_at d.trees env)) (trees_at d.trees env) (Two HCell (tree_at d.trees a) (tree_at d.trees b)) z n) (sym r)
      (cell_made d.task (types_for (trees_at d.trees env)) (trees_at d.trees env) n (tree_at d.trees a) (tree_at d.trees x) (tree_at d.trees b) (tree_at d.trees y) p.at w.at s w.terms));
}

-- ---- an application over the links of its arguments
module _ (d d1 : DraftTree) (x : Extends d d1) (env : List TermId) (e left args : TermId) (k : SymbolAt) (n : ℕ) (p : IsInstanceAt d env e left n) (hk : IsSymbolHeld d.trees k) (qe : tree_at d.trees e ≡ applied d.trees k (tree_at d.trees args))
    (m : LinkedArguments) (w : AreLinksOf d env k [] left n (tree_at d.trees m.image) m) (image : TermId) (hi : Holds d1.trees image) (ei : tree_at d1.trees image ≡ applied d.trees k (tree_at d.trees m.image)) where
  abbrev E : List Tree
  E = trees_at d.trees env

  whole_shape : IsOpenUnder d.task (types_for E) (applied d.trees k (tree_at d.trees args)) n
  whole_shape = subst (λ (z : Tree). IsOpenUnder d.task (types_for E) z n) qe p.at.shape

  made_at : IsAt d.task (types_for E) E (applied d.trees k (tree_at d.trees m.image)) (applied d.trees k (tree_at d.trees m.list)) n
  made_at = application_made d.task (types_for E) E n d.trees k (tree_at d.trees m.image) (tree_at d.trees m.list) (tree_at d.trees args) w.places.at w.places.terms whole_shape (subst (TypedUnder (of_task d.task) []) w.right w.pair.right.ground.typed)

  made_place : IsInstanceAt d1 env image m.right n
  made_place =
      let tr : tree_at d1.trees m.right ≡ applied d.trees k (tree_at d.trees m.list) = tree_later d d1 x m.right w.pair.right.held ∙ w.right in
      let own : above_params (applied d.trees k (tree_at d.trees m.image)) ≤ length d.task.params =
      applied_above d.trees (length d.task.params) k (tree_at d.trees args) (tree_at d.trees m.image) (subst (λ (z : Tree). above_params z ≤ length d.task.params) qe p.own) w.places.own in
      record {
        env_held = all_later d d1 x env p.env_held;
        open_held = hi;
        left_held = held_later d d1 x m.right w.pair.right.held;
        sort = subst (λ (z : Tree). IsExpression (sort_of z)) (sym ei) (applied_expression d.trees k (tree_at d.trees m.image));
        own = subst (λ (t : TaskTree). above_params (tree_at d1.trees image) ≤ length t.params) (sym x.task) (subst (λ (z : Tree). above_params z ≤ length d.task.params) (sym ei) own);
        order = subst (λ (t : TaskTree). length t.params ≤ n) (sym x.task) p.order;
        at = subst (λ (t : TaskTree). IsAt t (types_for (trees_at d1.trees env)) (trees_at d1.trees env) (tree_at d1.trees image) (tree_at d1.trees m.right) n) (sym x.task)
            (subst (λ (z : List Tree). IsAt d.task (types_for z) z (tree_at d1.trees image) (tree_at d1.trees m.right) n) (sym (trees_later d d1 x env p.env_held))
            (subst (λ (z : Tree). IsAt d.task (types_for E) E z (tree_at d1.trees m.right) n) (sym ei) (subst (λ (z : Tree). IsAt d.task (types_for E) E (applied d.trees k (tree_at d.trees m.image)) z n) (sym tr) made_at)));
      }

  pub symbol_link : IsLinkOf d1 env left n (applied d.trees k (tree_at d.trees m.image)) (record { image = image; right = m.right; alike = m.alike })
  symbol_link =
      let q = pair_later d d1 x left m.right w.pair in
      record { is = ei; place = made_place; sort = q.sort; type = q.type; shows = shows_at d d1 x m.alike left m.right w.pair.left.held w.pair.right.held w.shows }

-- the node over images, by a rule that leaves types as they are
applied_over : (s : List Tree) (f : Tree → Tree) → ((z : Tree) → IsOtherHead (head_of z) → f z ≡ z) → (v : Vocabulary) (types : List Tree) (k : SymbolAt) (x : Tree) → TypedUnder v types (applied s k x) → over_images f (applied s k x) ≡ applied s k (image f x)
applied_over s f others v types (symbol.Function g ts ty) x h =
    cc (others_type f others (tree_at s ts) (typed_sorted v types (tree_at s ts) h.2) (inr h.0.0), others_type f others (tree_at s ty) (typed_sorted v types (tree_at s ty) h.4) (inl h.0.2))
applied_over s f others v types (symbol.Predicate p ts) x h = cc (others_type f others (tree_at s ts) (typed_sorted v types (tree_at s ts) h.2) (inr h.0.0.0))

-- ---- the parts of an application at an environment
module _ (d : DraftTree) (env : List TermId) (e left args : TermId) (k : SymbolAt) (n : ℕ) (p : IsInstanceAt d env e left n) (qe : tree_at d.trees e ≡ applied d.trees k (tree_at d.trees args)) where
  abbrev G : List Tree
  G = trees_at d.trees env

  at_application : IsAt d.task (types_for G) G (applied d.trees k (tree_at d.trees args)) (tree_at d.trees left) n
  at_application = subst (λ (z : Tree). IsAt d.task (types_for G) G z (tree_at d.trees left) n) qe p.at

  pub application_left : tree_at d.trees left ≡ applied d.trees k (inst_many (tree_at d.trees args) G)
  application_left = at_application.is ∙ applied_instance d.trees (of_task d.task) (types_for G) G k (tree_at d.trees args) at_application.shape.typed

  pub application_places : (from : TermId) → Holds d.trees args → Holds d.trees from → tree_at d.trees left ≡ applied d.trees k (tree_at d.trees from) → AreInstancesAt d env args from n
  application_places from ha hf q = record {
    env_held = p.env_held;
    open_held = ha;
    left_held = hf;
    terms = (applied_list d.trees (of_task d.task) (types_for G) k (tree_at d.trees args) at_application.shape.typed).1;
    own = above_list d.trees (length d.task.params) k (tree_at d.trees args) (subst (λ (z : Tree). above_params z ≤ length d.task.params) qe p.own);
    order = p.order;
    at = application_list d.task (types_for G) G n d.trees k (tree_at d.trees args) (tree_at d.trees left) (tree_at d.trees from) at_application q;
  }

  -- the node over images
  pub application_over : (f : Tree → Tree) → ((z : Tree) → IsOtherHead (head_of z) → f z ≡ z) → over_images f (tree_at d.trees e) ≡ applied d.trees k (image f (tree_at d.trees args))
  application_over f others = ap (over_images f) qe ∙ applied_over d.trees f others (of_task d.task) (types_for G) k (tree_at d.trees args) at_application.shape.typed

-- ---- the parts of a list at an environment
module _ (d : DraftTree) (env : List TermId) (list from a b x y : TermId) (n : ℕ) (w : AreInstancesAt d env list from n) (q : tree_at d.trees list ≡ Two HCell (tree_at d.trees a) (tree_at d.trees b))
    (r : tree_at d.trees from ≡ Two HCell (tree_at d.trees x) (tree_at d.trees y)) where
  abbrev H : List Tree
  H = trees_at d.trees env

  at_cell : IsAt d.task (types_for H) H (Two HCell (tree_at d.trees a) (tree_at d.trees b)) (tree_at d.trees from) n
  at_cell = subst (λ (z : Tree). IsAt d.task (types_for H) H z (tree_at d.trees from) n) q w.at

  cell_terms : IsList Term (Two HCell (tree_at d.trees a) (tree_at d.trees b))
  cell_terms = subst (λ (z : Tree). IsList Term z) q w.terms

  cell_own : above_params (Two HCell (tree_at d.trees a) (tree_at d.trees b)) ≤ length d.task.params
  cell_own = subst (λ (z : Tree). above_params z ≤ length d.task.params) q w.own

  pub list_first : Holds d.trees a → Holds d.trees x → IsInstanceAt d env a x n
  list_first ha hx = record {
    env_held = w.env_held;
    open_held = ha;
    left_held = hx;
    sort = inl (first_term Term (tree_at d.trees a) (tree_at d.trees b) cell_terms);
    own = let o = cell_own in omega (arith, o);
    order = w.order;
    at = at_first d.task (types_for H) H n HCell (tree_at d.trees a) (tree_at d.trees b) (tree_at d.trees from) (tree_at d.trees x) (tree_at d.trees y) refl refl at_cell r;
  }

  pub list_first_term : Holds d.trees a → Holds d.trees x → sort_of (tree_at d.trees x) ≡ Term
  list_first_term ha hx = place_sort d env a x n (list_first ha hx) ∙ first_term Term (tree_at d.trees a) (tree_at d.trees b) cell_terms

  pub list_others : Holds d.trees b → Holds d.trees y → AreInstancesAt d env b y n
  list_others hb hy = record {
    env_held = w.env_held;
    open_held = hb;
    left_held = hy;
    terms = other_terms Term (tree_at d.trees a) (tree_at d.trees b) at_cell.shape.typed.0 cell_terms;
    own = let o = cell_own in omega (arith, o);
    order = w.order;
    at = at_second d.task (types_for H) H n HCell (tree_at d.trees a) (tree_at d.trees b) (tree_at d.trees from) (tree_at d.trees x) (tree_at d.trees y) refl refl at_cell r;
  }

-- an instance of a list that has a member has one
pub list_instance : (d : DraftTree) (env : List TermId) (list from a b : TermId) (n : ℕ) → AreInstancesAt d env list from n → tree_at d.trees list ≡ Two HCell (tree_at d.trees a) (tree_at d.trees b)
    → tree_at d.trees from ≡ Two HCell (inst_many (tree_at d.trees a) (trees_at d.trees env)) (inst_many (tree_at d.trees b) (trees_at d.trees env))
list_instance d env list from a b n w q = w.at.is ∙ ap (λ (z : Tree). inst_many z (trees_at d.trees env)) q

-- the arguments after one more
pub arguments_after : (d : DraftTree) (k : SymbolAt) (before : List TermId) (left from x y : TermId) → tree_at d.trees left ≡ applied d.trees k (listed (trees_at d.trees before) (tree_at d.trees from)) → tree_at d.trees from ≡ Two HCell (tree_at d.trees x) (tree_at d.trees y)
    → tree_at d.trees left ≡ applied d.trees k (listed (trees_at d.trees (before ++ x ∷ [])) (tree_at d.trees y))
arguments_after d k before left from x y q r =
    q ∙ ap (λ (z : Tree). applied d.trees k (listed (trees_at d.trees before) z)) r ∙ ap (applied d.trees k) (sym (listed_one_more (trees_at d.trees before) (tree_at d.trees x) (tree_at d.trees y)))
    ∙ ap (λ (z : List Tree). applied d.trees k (listed z (tree_at d.trees y))) (sym (map-append (tree_at d.trees) before (x ∷ [])))

-- the instance of a list of terms is one
pub list_right_terms : (d : DraftTree) (env : List TermId) (e l : TermId) (n : ℕ) → AreInstancesAt d env e l n → IsList Term (tree_at d.trees l)
list_right_terms d env e l n w =
    subst (λ (z : Tree). IsList Term z) (sym w.at.is)
    (terms_many (of_task d.task) (types_for (trees_at d.trees env)) (trees_at d.trees env) w.at.around.terms (tree_at d.trees e) (typed_sorted (of_task d.task) (types_for (trees_at d.trees env)) (tree_at d.trees e) w.at.shape.typed) w.terms)

-- ---- the links of one argument and of those after it
pub one_pair : (d : DraftTree) (env : List TermId) (first : TermId) (n : ℕ) (one : Linked) → IsClosedAt d first → IsLinkOf d env first n (tree_at d.trees one.image) one → ArePair d first one.right
one_pair d env first n one c k = record { left = c; right = place_closed d env one.image one.right n k.place; sort = k.sort; type = k.type }

pub after_tree : (d d1 : DraftTree) (x : Extends d d1) (k : SymbolAt) (before : List TermId) (right first list : TermId) → IsSymbolHeld d.trees k → All (Holds d.trees) before → Holds d.trees first → Holds d.trees list → Holds d.trees right
    → tree_at d.trees right ≡ applied d.trees k (listed (trees_at d.trees (before ++ first ∷ [])) (tree_at d.trees list)) → tree_at d1.trees right ≡ applied d1.trees k (listed (trees_at d1.trees before) (Two HCell (tree_at d1.trees first) (tree_at d1.trees list)))
after_tree d d1 x k before right first list hk hb hf hl hr e =
    let more = before ++ first ∷ [] in
    let hm = All-append (Holds d.trees) before (first ∷ []) hb (All-cons (Holds d.trees) first [] hf (All-nil (Holds d.trees))) in
    tree_later d d1 x right hr ∙ e ∙ sym (listed_later d d1 x k more list hk hm hl) ∙ ap (λ (z : List Tree). applied d1.trees k (listed z (tree_at d1.trees list))) (map-append (tree_at d1.trees) before (first ∷ []))
    ∙ ap (applied d1.trees k) (listed_one_more (trees_at d1.trees before) (tree_at d1.trees first) (tree_at d1.trees list))

module _ (d d1 d2 d3 : DraftTree) (x1 : Extends d d1) (x2 : Extends d1 d2) (x3 : Extends d2 d3) (env : List TermId) (k : SymbolAt) (before : List TermId) (left : TermId) (n : ℕ) (one : Linked) (after : LinkedArguments) (hk : IsSymbolHeld d.trees k) (hb : All (Holds d.trees) before)
    (p : ArePair d left after.right) (hl : Holds d.trees after.list) (ho : Holds d.trees one.right) (image list : TermId) (w : AreInstancesAt d1 env image list n) (qi : tree_at d1.trees image ≡ Two HCell (tree_at d.trees one.image) (tree_at d.trees after.image))
    (ql : tree_at d1.trees list ≡ Two HCell (tree_at d.trees one.right) (tree_at d.trees after.list)) (right : TermId) (q : ArePair d2 after.right right)
    (er : tree_at d2.trees right ≡ applied d1.trees k (listed (trees_at d1.trees before) (Two HCell (tree_at d1.trees one.right) (tree_at d1.trees after.list)))) (by : AlikeBy) (s : Shows d3 by (tree_at d2.trees left) (tree_at d2.trees right)) where
  x13 : Extends d1 d3
  x13 = Extends_trans d1 d2 d3 x2 x3

  whole_pair : ArePair d2 left right
  whole_pair = pair_through d2 left after.right right (pair_later d d2 (Extends_trans d d1 d2 x1 x2) left after.right p) q

  whole_right : tree_at d3.trees right ≡ applied d3.trees k (listed (trees_at d3.trees before) (tree_at d3.trees list))
  whole_right =
      let hk1 = symbol_later d d1 x1 k hk in
      let hb1 = all_later d d1 x1 before hb in
      tree_later d2 d3 x3 right q.right.held ∙ er ∙ ap (λ (z : Tree). applied d1.trees k (listed (trees_at d1.trees before) z)) (cc (tree_later d d1 x1 one.right ho, tree_later d d1 x1 after.list hl, ql))
      ∙ sym (listed_later d1 d3 x13 k before list hk1 hb1 w.left_held)

  pub argument_link : AreLinksOf d3 env k before left n (Two HCell (tree_at d.trees one.image) (tree_at d.trees after.image)) (record { image = image; list = list; right = right; alike = by })
  argument_link = record {
    is = tree_later d1 d3 x13 image w.open_held ∙ qi;
    places = places_later d1 d3 x13 env image list n w;
    pair = pair_later d2 d3 x3 left right whole_pair;
    right = whole_right;
    shows = subst (λ (z : Tree). Shows d3 by z (tree_at d3.trees right)) (sym (tree_later d2 d3 x3 left whole_pair.left.held)) (subst (λ (z : Tree). Shows d3 by (tree_at d2.trees left) z) (sym (tree_later d2 d3 x3 right q.right.held)) s);
  }

-- links of what they made
pub links_again : (d : DraftTree) (env : List TermId) (k : SymbolAt) (before : List TermId) (left : TermId) (n : ℕ) (e : Tree) (m : LinkedArguments) → AreLinksOf d env k before left n e m → AreLinksOf d env k before left n (tree_at d.trees m.image) m
links_again d env k before left n e m w = record { is = refl; places = w.places; pair = w.pair; right = w.right; shows = w.shows }

-- no arguments
pub no_arguments : (d : DraftTree) (env : List TermId) (k : SymbolAt) (before : List TermId) (left list from : TermId) (n : ℕ) (f : Tree → Tree) → ((z : Tree) → IsOtherHead (head_of z) → f z ≡ z) → AreInstancesAt d env list from n → IsClosedAt d left
    → tree_at d.trees left ≡ applied d.trees k (listed (trees_at d.trees before) (tree_at d.trees from)) → tree_at d.trees list ≡ Leaf HEnd → AreLinksOf d env k before left n (image f (tree_at d.trees list)) (record { image = list; list = from; right = left; alike = alike.Same })
no_arguments d env k before left list from n f others w c q e = record {
  is = e ∙ sym (others (Leaf HEnd) tt) ∙ ap (image f) (sym e);
  places = w;
  pair = record { left = c; right = c; sort = refl; type = refl };
  right = q;
  shows = refl;
}

-- the image of a list with a member
pub cell_image : (f : Tree → Tree) → ((z : Tree) → IsOtherHead (head_of z) → f z ≡ z) → (e a b x y : Tree) → e ≡ Two HCell a b → x ≡ image f a → y ≡ image f b → Two HCell x y ≡ image f e
cell_image f others e a b x y q r s = cc (r, s) ∙ sym (others (Two HCell (image f a) (image f b)) tt) ∙ ap (image f) (sym q)

-- an application, in a later draft
pub application_later : (d d1 : DraftTree) (x : Extends d d1) (k : SymbolAt) (e args : TermId) → IsSymbolHeld d.trees k → Holds d.trees e → Holds d.trees args → tree_at d.trees e ≡ applied d.trees k (tree_at d.trees args) → tree_at d1.trees e ≡ applied d1.trees k (tree_at d1.trees args)
application_later d d1 x k e args h he ha q = tree_later d d1 x e he ∙ q ∙ sym (applied_later d d1 x k h (tree_at d.trees args)) ∙ ap (applied d1.trees k) (sym (tree_later d d1 x args ha))

-- one more term that is held
pub one_more_held : (d : DraftTree) (before : List TermId) (x : TermId) → All (Holds d.trees) before → Holds d.trees x → All (Holds d.trees) (before ++ x ∷ [])
one_more_held d before x h k = All-append (Holds d.trees) before (x ∷ []) h (All-cons (Holds d.trees) x [] k (All-nil (Holds d.trees)))
