-- Open expressions and atoms at environments, by their numbers in a draft.
use Rattle.std.proofs.Common.{◌≡◌, ℕ, ◌≤◌, inl, inr, List, [], ◌∷◌, length, Some, subst, sym, ap, ◌∙◌}
use Rattle.tasks.specs.trees.declared.TermId.{TermId}
use Rattle.tasks.specs.trees.Tree.{Tree, head_of, loose, above_params}
use Rattle.tasks.specs.trees.Node.{tree_at, trees_at, Holds}
use Rattle.tasks.specs.trees.Binding.{inst, inst_many}
use Rattle.tasks.specs.trees.Sorts.{sort_of, type_of, IsExpression}
use Rattle.tasks.specs.Task.{TaskTree}
use Rattle.tasks.specs.Vocabulary.{of_task}
use Rattle.tasks.specs.Typing.{TypedUnder}
use Rattle.tasks.specs.Valid.{IsGround}
use Rattle.evidence.specs.Drafts.{DraftTree, Extends}
use Rattle.evidence.specs.images.Open.{IsEnvironment, IsOpenUnder}
use Rattle.congruence.proofs.Later.{held_later, tree_later}
use Rattle.tr_if.specs.conditionals.Laws.{is_atom_head}
use Rattle.walking.specs.Places.{types_for, IsInstanceAt}
use Rattle.walking.proofs.PlacesLater.{all_later, trees_later, place_later}
use Rattle.tr_if.specs.declared.places.OpenAtom.{OpenAtom}
use Rattle.tr_if.specs.Firsts.{IsOpenAt, IsAtomAt, IsFirstOf, IsPartFor, IsHoleOf}
use Rattle.tr_if.specs.conditionals.Held.{CanPlace}
use Rattle.tr_if.specs.conditionals.Conditionals.{first_if, replace_first}
use Rattle.tr_if.proofs.Atoms.{put_open, put_own, put_atom, put_formula, put_sort}

-- what a place is of
pub place_open : (d : DraftTree) (env : List TermId) (e l : TermId) (n : ℕ) → IsInstanceAt d env e l n → IsOpenAt d env e n
place_open d env e l n p = record { env_held = p.env_held; held = p.open_held; sort = p.sort; own = p.own; order = p.order; around = p.at.around; shape = p.at.shape }

-- and it is a place, with its instance
pub open_place : (d : DraftTree) (env : List TermId) (e l : TermId) (n : ℕ) → IsOpenAt d env e n → Holds d.trees l → tree_at d.trees l ≡ inst_many (tree_at d.trees e) (trees_at d.trees env) → IsInstanceAt d env e l n
open_place d env e l n o h q = record { env_held = o.env_held; open_held = o.held; left_held = h; sort = o.sort; own = o.own; order = o.order; at = record { around = o.around; shape = o.shape; is = q } }

-- ---- in a later draft
module _ (d d1 : DraftTree) (x : Extends d d1) where
  pub around_later : (env : List TermId) (n : ℕ) → IsEnvironment d.task (types_for (trees_at d.trees env)) (trees_at d.trees env) n → IsEnvironment d1.task (types_for (trees_at d.trees env)) (trees_at d.trees env) n
  around_later env n a = subst (λ (t : TaskTree). IsEnvironment t (types_for (trees_at d.trees env)) (trees_at d.trees env) n) (sym x.task) a

  pub open_later : (env : List TermId) (e : TermId) (n : ℕ) → IsOpenAt d env e n → IsOpenAt d1 env e n
  open_later env e n o =
      let q : tree_at d1.trees e ≡ tree_at d.trees e = tree_later d d1 x e o.held in
      let r : trees_at d1.trees env ≡ trees_at d.trees env = trees_later d d1 x env o.env_held in
      record {
        env_held = all_later d d1 x env o.env_held;
        held = held_later d d1 x e o.held;
        sort = subst (λ (z : Tree). IsExpression (sort_of z)) (sym q) o.sort;
        own = subst (λ (t : TaskTree). above_params (tree_at d1.trees e) ≤ length t.params) (sym x.task) (subst (λ (z : Tree). above_params z ≤ length d.task.params) (sym q) o.own);
        order = subst (λ (t : TaskTree). length t.params ≤ n) (sym x.task) o.order;
        around = subst (λ (z : List Tree). IsEnvironment d1.task (types_for z) z n) (sym r) (around_later env n o.around);
        shape = subst (λ (z : List Tree). IsOpenUnder d1.task (types_for z) (tree_at d1.trees e) n) (sym r)
            (subst (λ (t : TaskTree). IsOpenUnder t (types_for (trees_at d.trees env)) (tree_at d1.trees e) n) (sym x.task) (subst (λ (z : Tree). IsOpenUnder d.task (types_for (trees_at d.trees env)) z n) (sym q) o.shape));
      }

  pub atom_later : (env : List TermId) (a : OpenAtom) (n : ℕ) → IsAtomAt d env a n → IsAtomAt d1 env a n
  atom_later env a n p = record { place = place_later d d1 x env a.formula a.left n p.place; atom = subst (λ (z : Tree). is_atom_head (head_of z)) (sym (tree_later d d1 x a.formula p.place.open_held)) p.atom }

  pub first_later : (e w : TermId) → Holds d.trees e → IsFirstOf d (tree_at d.trees e) w → IsFirstOf d1 (tree_at d1.trees e) w
  first_later e w he f = record { held = held_later d d1 x w f.held; first = ap first_if (tree_later d d1 x e he) ∙ f.first ∙ ap Some (sym (tree_later d d1 x w f.held)) }

  pub part_later : (env : List TermId) (w part : TermId) (n : ℕ) → Holds d.trees w → IsPartFor d env w part n → IsPartFor d1 env w part n
  part_later env w part n hw p =
      let q : tree_at d1.trees part ≡ tree_at d.trees part = tree_later d d1 x part p.place.held in
      record { place = open_later env part n p.place; term = ap sort_of q ∙ p.term; type = ap type_of q ∙ p.type ∙ ap type_of (sym (tree_later d d1 x w hw)) }

  pub hole_of_later : (env : List TermId) (e w : Tree) (hole : TermId) → IsHoleOf d env e w hole → trees_at d1.trees env ≡ trees_at d.trees env → IsHoleOf d1 env e w hole
  hole_of_later env e w hole p r =
      let q : tree_at d1.trees hole ≡ tree_at d.trees hole = tree_later d d1 x hole p.held in
      record {
        held = held_later d d1 x hole p.held;
        ty = p.ty;
        type = p.type;
        sort = ap sort_of q ∙ p.sort;
        typed = subst (λ (t : TaskTree). TypedUnder (of_task t) (p.ty ∷ []) (tree_at d1.trees hole)) (sym x.task) (subst (TypedUnder (of_task d.task) (p.ty ∷ [])) (sym q) p.typed);
        ground = subst IsGround (sym q) p.ground;
        fills = subst (λ (z : List Tree). (u : Tree) → loose (inst_many u z) ≡ 0 → inst (tree_at d1.trees hole) (inst_many u z) ≡ inst_many (replace_first e u) z) (sym r)
            (subst (λ (h : Tree). (u : Tree) → loose (inst_many u (trees_at d.trees env)) ≡ 0 → inst h (inst_many u (trees_at d.trees env)) ≡ inst_many (replace_first e u) (trees_at d.trees env)) (sym q) p.fills);
      }

-- ---- the atom with another term in the place of its first conditional
module _ (d : DraftTree) (env : List TermId) (a : OpenAtom) (w part : TermId) (n : ℕ) (p : IsAtomAt d env a n) (f : IsFirstOf d (tree_at d.trees a.formula) w) (k : IsPartFor d env w part n) where
  abbrev T : List Tree
  T = types_for (trees_at d.trees env)

  pub can_put : CanPlace d.trees a.formula part
  can_put = record {
    held = p.place.open_held;
    other_held = k.place.held;
    expression = inl k.term;
    sort = put_sort d.task T n 0 (tree_at d.trees a.formula) (tree_at d.trees w) (tree_at d.trees part) p.atom p.place.at.shape f.first k.place.shape k.term k.type;
  }

  pub put_at : (d1 : DraftTree) (x : Extends d d1) (formula : TermId) → Holds d1.trees formula → tree_at d1.trees formula ≡ replace_first (tree_at d.trees a.formula) (tree_at d.trees part) → IsOpenAt d1 env formula n
  put_at d1 x formula h q =
      let e = tree_at d.trees a.formula in
      let z = tree_at d.trees part in
      let m = length d.task.params in
      let r : trees_at d1.trees env ≡ trees_at d.trees env = trees_later d d1 x env p.place.env_held in
      record {
        env_held = all_later d d1 x env p.place.env_held;
        held = h;
        sort = inr (ap sort_of q ∙ put_formula d.task T n m e (tree_at d.trees w) z p.atom p.place.at.shape f.first k.place.shape k.term k.type);
        own = subst (λ (t : TaskTree). above_params (tree_at d1.trees formula) ≤ length t.params) (sym x.task)
            (subst (λ (u : Tree). above_params u ≤ m) (sym q) (put_own d.task T n m e (tree_at d.trees w) z p.atom p.place.at.shape f.first k.place.shape k.term k.type p.place.own k.place.own));
        order = subst (λ (t : TaskTree). length t.params ≤ n) (sym x.task) p.place.order;
        around = subst (λ (u : List Tree). IsEnvironment d1.task (types_for u) u n) (sym r) (around_later d d1 x env n p.place.at.around);
        shape = subst (λ (u : List Tree). IsOpenUnder d1.task (types_for u) (tree_at d1.trees formula) n) (sym r)
            (subst (λ (t : TaskTree). IsOpenUnder t T (tree_at d1.trees formula) n) (sym x.task)
            (subst (λ (u : Tree). IsOpenUnder d.task T u n) (sym q) (put_open d.task T n 0 e (tree_at d.trees w) z p.atom p.place.at.shape f.first k.place.shape k.term k.type)));
      }

  pub put_head : is_atom_head (head_of (replace_first (tree_at d.trees a.formula) (tree_at d.trees part)))
  put_head = put_atom d.task T n 0 (tree_at d.trees a.formula) (tree_at d.trees w) (tree_at d.trees part) p.atom p.place.at.shape f.first k.place.shape k.term k.type
