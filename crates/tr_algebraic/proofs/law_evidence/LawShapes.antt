-- The laws of projections and of distinctness of an algebraic group have their shapes, at types.
use Rattle.std.proofs.Common.{◌≡◌, ◌≢◌, ℕ, IsTrue, List, [], ◌∷◌, ◌++◌, length, slice_get, Some, refl, ap, ◌∙◌}
use Rattle.tasks.specs.trees.Tree.{Tree, Leaf, Two, HEnd, HEq}
use Rattle.tasks.specs.trees.Binding.{typing, inst_types}
use Rattle.tasks.specs.Task.{TaskTree, ConstructorTree}
use Rattle.tasks.specs.Roles.{RoleTree, ProjectionRole, ConstructorRole, role, is_constructor}
use Rattle.tasks.specs.Typing.{members}
use Rattle.tasks.specs.Equations.{cells, for_all}
use Rattle.tasks.specs.Valid.{own_type}
use Rattle.tr_algebraic.specs.algebraic_forms.Formulas.{own_type_list, variable_under, variables_under, con_on, field_of, projection_law, different, distinctness_law}
use Rattle.tr_algebraic.specs.law_evidence.Shapes.{Quantified, IsProjected, AreApart}
use Rattle.tr_algebraic.proofs.law_evidence.Shapes.{quantified_stays, projected_stays, apart_stays}

pub all_quantified : (P : Tree → Type 0) (types : List Tree) (e : Tree) → P e → Quantified P (length types) (for_all types e)
all_quantified P [] e h = h
all_quantified P (ty ∷ types) e h = (ty, (for_all types e, (refl, all_quantified P types e h)))

-- the variables of quantifiers, by their places
variable_at : (before : List Tree) (ty : Tree) (types : List Tree) → slice_get (members (cells (variables_under 0 (before ++ ty ∷ types)))) (length before) ≡ Some (variable_under 0 ty types)
variable_at [] ty types = refl
variable_at (b ∷ before) ty types = variable_at before ty types

-- ---- projections
pub projection_shape : (t : TaskTree) (type vars : ℕ) (c : ConstructorTree) (before : List Tree) (p : ℕ) (ty : Tree) (types : List Tree) → c.fields ≡ before ++ ty ∷ types → role t p ≡ ProjectionRole c (length before)
    → (ys : List Tree) → (n : ℕ) × Quantified (IsProjected t) n (inst_types (projection_law type vars c p ty (variable_under 0 ty types)) ys)
projection_shape t type vars c before p ty types q r ys =
    let xs = variables_under 0 c.fields in
    let body = Two HEq (field_of vars p ty (con_on type vars c xs)) (variable_under 0 ty types) in
    let at : slice_get (members (cells xs)) (length before) ≡ Some (variable_under 0 ty types) = ap (λ (z : List Tree). slice_get (members (cells (variables_under 0 z))) (length before)) q ∙ variable_at before ty types in
    let h : IsProjected t body = record {
      projection = p;
      place = length before;
      con = c;
      types = own_type_list vars;
      rest = Leaf HEnd;
      type = ty;
      own = own_type_list vars;
      args = cells xs;
      result = own_type type vars;
      value = variable_under 0 ty types;
      is = refl;
      made = r;
      there = at;
    } in
    (length c.fields, quantified_stays (IsProjected t) (projected_stays t) (length c.fields) (for_all c.fields body) (all_quantified (IsProjected t) c.fields body h) (typing ys) 0)

-- ---- distinctness
constructs : (r : RoleTree) (c : ConstructorTree) → r ≡ ConstructorRole c → IsTrue (is_constructor r)
constructs r c e = ap is_constructor e

pub difference_shape : (t : TaskTree) (type vars : ℕ) (c d : ConstructorTree) → role t c.symbol ≡ ConstructorRole c → role t d.symbol ≡ ConstructorRole d → c.symbol ≢ d.symbol → (ys : List Tree) → (n : ℕ) × Quantified (AreApart t) n (inst_types (distinctness_law type vars c d) ys)
difference_shape t type vars c d rc rd n ys =
    let fs = c.fields ++ d.fields in
    let body = different type vars c d in
    let h : AreApart t body = record {
      first = c.symbol;
      second = d.symbol;
      types = own_type_list vars;
      args = cells (variables_under (length d.fields) c.fields);
      type = own_type type vars;
      own = own_type_list vars;
      others = cells (variables_under 0 d.fields);
      result = own_type type vars;
      is = refl;
      first_made = constructs (role t c.symbol) c rc;
      second_made = constructs (role t d.symbol) d rd;
      different = n;
    } in
    (length fs, quantified_stays (AreApart t) (apart_stays t) (length fs) (for_all fs body) (all_quantified (AreApart t) fs body h) (typing ys) 0)
