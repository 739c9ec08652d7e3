-- Parts of open trees at environments, and trees at environments made of such parts: operators of three, applications, `let`s.
use Rattle.std.proofs.Common.{◌≡◌, ℕ, ◌≤◌, List, [], ◌∷◌, ◌++◌, Option, Some, refl, sym, ap, subst, ◌∙◌, arith}
use Rattle.trees.specs.declared.Sort.TheVariants.{Term}
use Rattle.trees.specs.Tree.{Tree, Two, Three, Head, HLet, HFun, HPred, HCell, above_params}
use Rattle.trees.specs.Node.{tree_at}
use Rattle.trees.specs.Binding.{change, instantiating_many, inst, inst_many}
use Rattle.trees.specs.Sorts.{sort_of, type_of, IsExpression, IsList}
use Rattle.trees.proofs.Many.{inst_under}
use Rattle.tasks.specs.Task.{TaskTree}
use Rattle.tasks.specs.Vocabulary.{of_task}
use Rattle.tasks.specs.Typing.{TypedUnder, option_list}
use Rattle.tasks.specs.Valid.{IsGround}
use Rattle.congruence.specs.tasks.typed_trees.instances.Instances.{IsTermOf}
use Rattle.images.specs.Open.{IsOpenUnder, IsAt}
use Rattle.images.proofs.Environments.{at_second, at_bound, at_body, closed_for}
use Rattle.congruence.specs.declared.applications.SymbolAt.{SymbolAt}
use Rattle.congruence.specs.declared.applications.SymbolAt.TheVariants as symbol
use Rattle.congruence.specs.Applications.{applied}
use Rattle.congruence.proofs.ApplicationLaws.{applied_instance, applied_open, applied_ground, applied_above}
use Rattle.congruence.proofs.Lists.{cell_of_terms}

module _ (t : TaskTree) (types env : List Tree) (n : ℕ) where
  -- ---- an operator of three
  module _ (h : Head) (a b c l x y z : Tree) (k : IsAt t types env (Three h a b c) l n) (q : l ≡ Three h x y z) where
    three_is : Three h x y z ≡ Three h (inst_many a env) (inst_many b env) (inst_many c env)
    three_is = sym q ∙ k.is

    pub three_first : IsAt t types env a x n
    three_first = record { around = k.around; shape = record { typed = k.shape.typed.2; ground = k.shape.ground.0; above = omega (arith, k.shape.above) }; is = cc (three_is) }

    pub three_second : IsAt t types env b y n
    three_second = record { around = k.around; shape = record { typed = k.shape.typed.3; ground = k.shape.ground.1; above = omega (arith, k.shape.above) }; is = cc (three_is) }

    pub three_third : IsAt t types env c z n
    three_third = record { around = k.around; shape = record { typed = k.shape.typed.4; ground = k.shape.ground.2; above = omega (arith, k.shape.above) }; is = cc (three_is) }

  -- ---- the arguments of an application
  pub application_list : (s : List Tree) (k : SymbolAt) (x l y : Tree) → IsAt t types env (applied s k x) l n → l ≡ applied s k y → IsAt t types env x y n
  application_list s (symbol.Function f ts ty) x l y w q = three_second (HFun f) (tree_at s ts) x (tree_at s ty) l (tree_at s ts) y (tree_at s ty) w q
  application_list s (symbol.Predicate p ts) x l y w q = at_second t types env n (HPred p) (tree_at s ts) x l (tree_at s ts) y refl refl w q

  -- an application to another list at the environment, where it is typed there
  pub application_made : (s : List Tree) (k : SymbolAt) (x y e : Tree) → IsAt t types env x y n → IsList Term x → IsOpenUnder t types (applied s k e) n → TypedUnder (of_task t) [] (applied s k y) → IsAt t types env (applied s k x) (applied s k y) n
  application_made s k x y e w l o u =
      let h = applied_open s (of_task t) types env w.around.terms k x (subst (λ (z : Tree). TypedUnder (of_task t) [] (applied s k z)) w.is u) w.shape.typed l in
      record {
        around = w.around;
        shape = record { typed = h; ground = applied_ground s 0 k e x (λ _. w.shape.ground) o.ground; above = applied_above s n k e x o.above w.shape.above };
        is = ap (applied s k) w.is ∙ sym (applied_instance s (of_task t) types env k x h);
      }

  -- ---- a member and the others
  pub cell_made : (a x b y : Tree) → IsAt t types env a x n → IsAt t types env b y n → sort_of a ≡ Term → IsList Term b → IsAt t types env (Two HCell a b) (Two HCell x y) n
  cell_made a x b y w u s l = record {
    around = w.around;
    shape = record { typed = ((cell_of_terms a b s l).0, tt, w.shape.typed, u.shape.typed); ground = (w.shape.ground, u.shape.ground); above = omega (arith, w.shape.above, u.shape.above) };
    is = cc (w.is, u.is);
  }

  -- ---- a `let`: its value, its body at a term of the value's type
  module _ (a b l x y ty : Tree) (q : type_of a ≡ Some ty) (k : IsAt t types env (Two HLet a b) l n) (r : l ≡ Two HLet x y) where
    pub let_value : IsAt t types env a x n
    let_value = at_bound t types env n HLet a b l x y ty (ap option_list q) refl k r

    pub let_body : (c z : Tree) → IsTermOf (of_task t) ty c → IsGround c → above_params c ≤ n → z ≡ inst y c → IsAt t (ty ∷ types) (env ++ c ∷ []) b z n
    let_body c z o g p w = at_body t types env n HLet a b l x y ty (ap option_list q) refl k r n c z (omega arith) o g p w

  -- made of such parts
  module _ (a x b z ty : Tree) (s : sort_of a ≡ Term) (q : type_of a ≡ Some ty) (w : IsAt t types env a x n) (u : IsAt t (ty ∷ types) (env ++ x ∷ []) b z n) (f : IsExpression (sort_of b)) where
    pub let_made : IsAt t types env (Two HLet a b) (inst_many (Two HLet a b) env) n
    let_made = record {
      around = w.around;
      shape = record {
        typed = (((s, f), tt), tt, w.shape.typed, subst (λ (o : Option Tree). TypedUnder (of_task t) (option_list o ++ types) b) (sym q) u.shape.typed);
        ground = (w.shape.ground, u.shape.ground);
        above = omega (arith, w.shape.above, u.shape.above);
      };
      is = refl;
    }

    pub let_instance : inst_many (Two HLet a b) env ≡ Two HLet x (change (instantiating_many env) 1 b)
    let_instance = cc (w.is)

    pub let_inner : (v : Tree) → inst_many (Two HLet a b) env ≡ Two HLet x v → z ≡ inst v x
    let_inner v e =
        let g : v ≡ change (instantiating_many env) 1 b = cc (let_instance, e) in
        u.is ∙ sym (inst_under env (closed_for (of_task t) types env w.around.terms) b x) ∙ ap (λ (m : Tree). inst m x) (sym g)
