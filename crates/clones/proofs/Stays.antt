-- What parts of declarations stand for stays as a store grows.
use Rattle.std.proofs.Common.{◌≡◌, List, get_or, ap, arith}
use Rattle.trees.specs.declared.TermId.{TermId}
use Rattle.trees.specs.Tree.{Tree}
use Rattle.trees.specs.Node.{tree_at, Holds, Grows}
use Rattle.tasks.specs.declared.declaration.Def.{Def}
use Rattle.tasks.specs.declared.declaration.Ind.{Ind}
use Rattle.tasks.specs.declared.declaration.Con.{Con}
use Rattle.tasks.specs.declared.declaration.Alg.{Alg}
use Rattle.tasks.specs.Task.{DefinitionTree, InductiveTree, ConstructorTree, AlgebraicTree}
use Rattle.tasks.specs.Meaning.{definition_at, inductive_at, con_at, algebraic_at, InductiveHeld, ConHeld, AlgebraicHeld}
use Rattle.tasks.proofs.Growth.{map_agree, trees_later, all_held_later}
use Rattle.clones.specs.Copies.{DefHeld}

module _ (s t : List Tree) (w : Grows s t) where
  pub tree_stays : (id : TermId) → Holds s id → tree_at t id ≡ tree_at s id
  tree_stays id h = w.same id.0 h

  pub tree_held : (id : TermId) → Holds s id → Holds t id
  tree_held id h = omega (arith, h, w.longer)

  pub def_stays : (d : Def) → DefHeld s d → definition_at t d ≡ definition_at s d
  def_stays d h = let mk : Tree → DefinitionTree = λ e. record { symbol = d.symbol; equation = e } in ap mk (w.same d.equation.0 h)

  pub def_held : (d : Def) → DefHeld s d → DefHeld t d
  def_held d h = tree_held d.equation h

  pub ind_stays : (i : Ind) → InductiveHeld s i → inductive_at t i ≡ inductive_at s i
  ind_stays i h = let mk : List Tree → InductiveTree = λ cs. record { symbol = i.symbol; clauses = cs } in ap mk (trees_later s t w i.clauses h.clauses)

  pub ind_held : (i : Ind) → InductiveHeld s i → InductiveHeld t i
  ind_held i h = record { clauses = all_held_later s t w i.clauses h.clauses }

  pub con_stays : (c : Con) → ConHeld s c → con_at t c ≡ con_at s c
  con_stays c h = let mk : List Tree → ConstructorTree = λ fs. record { symbol = c.symbol; fields = fs; projections = c.projections } in ap mk (trees_later s t w c.fields h.fields)

  pub con_held : (c : Con) → ConHeld s c → ConHeld t c
  con_held c h = record { fields = all_held_later s t w c.fields h.fields }

  pub alg_stays : (a : Alg) → AlgebraicHeld s a → algebraic_at t a ≡ algebraic_at s a
  alg_stays a h =
      let mk : List ConstructorTree → AlgebraicTree = λ cs. record { symbol = a.symbol; cons = cs } in
      ap mk (map_agree (con_at t) (con_at s) a.cons (λ k d l. con_stays (get_or a.cons k d) (h.cons k d l)))

  pub alg_held : (a : Alg) → AlgebraicHeld s a → AlgebraicHeld t a
  alg_held a h = record { cons = λ k d l. con_held (get_or a.cons k d) (h.cons k d l) }
