-- Links of branches: a `match` over the image of its first body and of its other branches.
use Rattle.std.proofs.Common.{◌≡◌, ℕ, ◌+◌, List, ◌++◌, Option, refl, sym, ap, subst, ◌∙◌, arith}
use Rattle.trees.specs.declared.Sort.TheVariants.{Term, Pattern, Branch}
use Rattle.trees.specs.Tree.{Tree, Leaf, One, Two, Three, HCase, HCell, HArm, HEnd, head_of, pat_vars}
use Rattle.trees.specs.Binding.{change, instantiating_many, inst_many}
use Rattle.trees.specs.Sorts.{Fits, sort_of, type_of, IsExpression, IsList}
use Rattle.trees.proofs.Types.{one_no_cell, three_no_cell}
use Rattle.tasks.specs.Task.{TaskTree}
use Rattle.tasks.specs.Vocabulary.{Vocabulary, of_task}
use Rattle.tasks.specs.Typing.{TypedUnder, BranchesFit, first_body, pattern_types}
use Rattle.tasks.specs.MatchTests.{test, bind}
use Rattle.congruence.specs.tasks.typed_trees.instances.Instances.{AreFor}
use Rattle.images.specs.Open.{IsOpenUnder, IsAt}
use Rattle.images.proofs.Images.{leaf_no_list}
use Rattle.congruence.specs.Conditionals.{IsMatchCases, IsLastBranch}
use Rattle.images.proofs.Images.{branches_alike}
use Rattle.walking.proofs.Branches.{case_open, case_instance, case_body}
use Rattle.walking.proofs.CasePlaces.{case_first}

-- ---- branches that fit have a first one where they are no end
pub record HasBranch (r : Tree) : Type 0 where
  pub pattern : Tree
  pub body : Tree
  pub others : Tree
  pub is : r ≡ Two HCell (Two HArm pattern body) others

pub fit_first : (v : Vocabulary) (types : List Tree) (ty : Option Tree) (one r : Tree) → TypedUnder v types r → BranchesFit ty one r → head_of r ≡ HCell → HasBranch r
fit_first v types ty one (Two HCell (Two HArm p e) b) w f q = record { pattern = p; body = e; others = b; is = refl }
fit_first v types ty one (Two HCell c b) w f q = absurd f.0
fit_first v types ty one (Two _ c b) w f q = absurd (cc)
fit_first v types ty one (Leaf h) w f q = absurd (leaf_no_list h w.0 q)
fit_first v types ty one (One h b) w f q = absurd (one_no_cell h b w.0 q)
fit_first v types ty one (Three h b c e) w f q = absurd (three_no_cell h b c e w.0 q)

-- the first body of such branches has the sort and type of the one that they fit, and they fit it
pub fit_own : (ty : Option Tree) (one r : Tree) → HasBranch r → BranchesFit ty one r → (sort_of (first_body r) ≡ sort_of one) × (type_of (first_body r) ≡ type_of one) × BranchesFit ty (first_body r) r
fit_own ty one r h f =
    let g : BranchesFit ty one (Two HCell (Two HArm h.pattern h.body) h.others) = subst (BranchesFit ty one) h.is f in
    let b : first_body r ≡ h.body = ap first_body h.is in
    let s : sort_of (first_body r) ≡ sort_of one = ap sort_of b ∙ g.0.1 in
    let t : type_of (first_body r) ≡ type_of one = ap type_of b ∙ g.0.2 in
    (s, t, branches_alike ty ty one (first_body r) r refl s t f)

-- ---- the `match` with the other branches
module _ (t : TaskTree) (types env : List Tree) (n : ℕ) (x p a r y q b s l : Tree) (k : IsAt t types env (Two HCase x (Two HCell (Two HArm p a) r)) l n) (el : l ≡ Two HCase y (Two HCell (Two HArm q b) s)) (or : IsAt t types env r s n) (h : head_of r ≡ HCell) where
  rest_branch : HasBranch r
  rest_branch = fit_first (of_task t) types (type_of x) a r or.shape.typed k.shape.typed.1.1 h

  pub rest_own : (sort_of (first_body r) ≡ sort_of a) × (type_of (first_body r) ≡ type_of a) × BranchesFit (type_of x) (first_body r) r
  rest_own = fit_own (type_of x) a r rest_branch k.shape.typed.1.1

  pub rest_fits : Fits (Two HCase x r)
  rest_fits = ((k.shape.typed.0.0.0, k.shape.typed.3.0.0.1), h)

  pub rest_at : IsAt t types env (Two HCase x r) (Two HCase y s) n
  rest_at =
      let w : Two HCase y (Two HCell (Two HArm q b) s) ≡ Two HCase (inst_many x env) (inst_many (Two HCell (Two HArm p a) r) env) = sym el ∙ k.is in
      record {
        around = k.around;
        shape = record { typed = (rest_fits, rest_own.2, k.shape.typed.2, or.shape.typed); ground = (k.shape.ground.0, or.shape.ground); above = omega (arith, k.shape.above, or.shape.above) };
        is = cc (w, or.is);
      }

-- ---- a `match` over the image of its first body
module _ (t : TaskTree) (types env : List Tree) (n : ℕ) (x p a r l s y v : Tree) (k : IsAt t types env (Two HCase x (Two HCell (Two HArm p a) r)) l n) (el : l ≡ Two HCase s (Two HCell (Two HArm p y) v)) (f : AreFor (of_task t) (pattern_types p) (bind t p s))
    (b br : Tree) (m : IsAt t (pattern_types p ++ types) (env ++ bind t p s) b br n) (eb : IsExpression (sort_of b)) (others : Tree) (lo : IsList Branch others) (oo : IsOpenUnder t types others n) (fo : BranchesFit (type_of x) b others) where
  sx : sort_of x ≡ Term
  sx = k.shape.typed.0.0.0

  ox : IsOpenUnder t types x n
  ox = record { typed = k.shape.typed.2; ground = k.shape.ground.0; above = omega (arith, k.shape.above) }

  op : IsOpenUnder t types p n
  op = record { typed = k.shape.typed.3.2.2; ground = k.shape.ground.1.0.0; above = omega (arith, k.shape.above) }

  sp : sort_of p ≡ Pattern
  sp = k.shape.typed.3.2.0.0.0

  qp : type_of p ≡ type_of x
  qp = k.shape.typed.1.0.0

  pub branch_open : IsOpenUnder t types (Two HCase x (Two HCell (Two HArm p b) others)) n
  branch_open = case_open t types env n x p b others k.around sx ox sp op qp eb m.shape lo oo fo

  asked : inst_many x env ≡ s
  asked =
      let w : Two HCase s (Two HCell (Two HArm p y) v) ≡ Two HCase (inst_many x env) (inst_many (Two HCell (Two HArm p a) r) env) = sym el ∙ k.is in
      cc (w)

  abbrev made_body : Tree
  made_body = change (instantiating_many env) (0 + pat_vars p) b

  pub branch_instance : inst_many (Two HCase x (Two HCell (Two HArm p b) others)) env ≡ Two HCase s (Two HCell (Two HArm p made_body) (inst_many others env))
  branch_instance = case_instance t types env n x p b others k.around sx ox sp op qp eb m.shape lo oo fo ∙ ap (λ (z : Tree). Two HCase z (Two HCell (Two HArm p made_body) (inst_many others env))) asked

  pub branch_inner : br ≡ inst_many made_body (bind t p s)
  branch_inner = m.is ∙ sym (case_body t types env n x p b others k.around sx ox sp op qp eb m.shape lo oo fo (bind t p s) f)

  -- where it is the last branch
  pub last_made : (right : Tree) → right ≡ inst_many (Two HCase x (Two HCell (Two HArm p b) others)) env → others ≡ Leaf HEnd → IsLastBranch t right br
  last_made right er q = record {
    scrutinee = s;
    pattern = p;
    body = made_body;
    is = er ∙ branch_instance ∙ ap (λ (z : Tree). Two HCase s (Two HCell (Two HArm p made_body) (inst_many z env))) q;
    first = branch_inner;
  }

  -- where there are others
  pub more_made : (right test' more_right : Tree) → right ≡ inst_many (Two HCase x (Two HCell (Two HArm p b) others)) env → test' ≡ test t p s → HasBranch others → more_right ≡ inst_many (Two HCase x others) env → IsMatchCases t right test' br more_right
  more_made right test' more_right er et h em = record {
    scrutinee = s;
    pattern = p;
    body = made_body;
    rest = inst_many others env;
    is = er ∙ branch_instance;
    more = ap (λ (z : Tree). head_of (inst_many z env)) h.is;
    condition = et;
    first = branch_inner;
    others = em ∙ ap (λ (z : Tree). Two HCase z (inst_many others env)) asked;
  }

-- ---- the other branches fit the image of the first body
pub more_fits : (v : Vocabulary) (types : List Tree) (x b others : Tree) → TypedUnder v types (Two HCase x others) → sort_of b ≡ sort_of (Two HCase x others) → type_of b ≡ type_of (Two HCase x others) → BranchesFit (type_of x) b others × IsList Branch others × HasBranch others
more_fits v types x b others w s q =
    let c = case_first v types x others w in (
      branches_alike (type_of x) (type_of x) (first_body others) b others refl (s ∙ c.0) (q ∙ c.1) w.1,
      w.0.0.1,
      fit_first v types (type_of x) (first_body others) others w.3 w.1 w.0.1,
    )
