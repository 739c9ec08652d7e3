-- Where what is wanted at an earlier set has many nodes, so has the task in the end.
use Rattle.std.proofs.Common.{◌≡◌, ◌≤◌, ◌+◌, ℕ, Bool, true, false, if◌then◌else◌, List, [], ◌∷◌, map, refl, sym, ap, ◌∙◌, arith}
use Rattle.std.specs.List.{flat_map}
use Rattle.std.proofs.lemmas.List.Sums.{sum_by-cons, sum_by-append}
use Rattle.tasks.specs.trees.Tree.{Tree, size}
use Rattle.tasks.specs.Task.{BodyTree, MakesType, Makes, Defines, Induces, Constructs, Says, DeclarationTree, TaskTree, body_nodes, declaration_nodes, formula_nodes, props, nodes}
use Rattle.name_tables.specs.Occurrences.{Occurrence}
use Rattle.tr_discriminate.specs.wanted_instances.Instances.{inner_instances}
use Rattle.tr_discriminate.specs.wanted_instances.Wanted.{wanted_formulas}
use Rattle.tr_discriminate.specs.wanted_instances.Discriminated.{is_monomorphic, polymorphic, first_set, next_set, last_set, said_at, proposition_of, put_in_place, discriminated_decls, discriminated_at}
use Rattle.tr_discriminate.specs.wanted_instances.Growing.{GoesOn}
use Rattle.tr_discriminate.proofs.wanted_instances.Growing.{all_go_on, nodes_more}

pub said_nodes : (d : DeclarationTree) (es : List Tree) → declaration_nodes (map (said_at d) es) ≡ formula_nodes es
said_nodes d [] = refl
said_nodes d (e ∷ es) = sum_by-cons (λ (x : DeclarationTree). body_nodes x.body) (said_at d e) (map (said_at d) es) ∙ ap (λ (n : ℕ). size e + n) (said_nodes d es) ∙ sym (sum_by-cons size e es)

module _ (s u : List Occurrence) (g : GoesOn s u) where
  one_more : (d : DeclarationTree) (b : BodyTree) → declaration_nodes (put_in_place s d b) ≤ declaration_nodes (put_in_place u d b)
  one_more d (Says a) = by (is_monomorphic a)
    where
      by : (m : Bool) → declaration_nodes (if m then d ∷ [] else map (said_at d) (wanted_formulas s (proposition_of d.vars a))) ≤ declaration_nodes (if m then d ∷ [] else map (said_at d) (wanted_formulas u (proposition_of d.vars a)))
      by true = omega arith
      by false =
          let p = proposition_of d.vars a in
          omega (arith, said_nodes d (wanted_formulas s p), said_nodes d (wanted_formulas u p), nodes_more s u g p)
  one_more d (MakesType k) = omega arith
  one_more d (Makes k) = omega arith
  one_more d (Defines ds) = omega arith
  one_more d (Induces is) = omega arith
  one_more d (Constructs ts) = omega arith

  all_more : (ds : List DeclarationTree) → declaration_nodes (discriminated_decls s ds) ≤ declaration_nodes (discriminated_decls u ds)
  all_more [] = omega arith
  all_more (d ∷ ds) =
      let n = sum_by-append (λ (x : DeclarationTree). body_nodes x.body) (put_in_place s d d.body) (discriminated_decls s ds) in
      let m = sum_by-append (λ (x : DeclarationTree). body_nodes x.body) (put_in_place u d d.body) (discriminated_decls u ds) in
      omega (arith, n, m, one_more d d.body, all_more ds)

  pub task_more : (t : TaskTree) → nodes (discriminated_at s t) ≤ nodes (discriminated_at u t)
  task_more t = omega (arith, all_more t.decls)

-- the three sets go on, one where the other ends
pub first_goes_on : (t : TaskTree) → GoesOn (first_set t) (next_set (props t) (first_set t))
first_goes_on t = all_go_on (first_set t) (flat_map inner_instances (flat_map (wanted_formulas (first_set t)) (polymorphic (props t))))

pub second_goes_on : (t : TaskTree) → GoesOn (next_set (props t) (first_set t)) (last_set t)
second_goes_on t = all_go_on (next_set (props t) (first_set t)) (flat_map inner_instances (flat_map (wanted_formulas (next_set (props t) (first_set t))) (polymorphic (props t))))
