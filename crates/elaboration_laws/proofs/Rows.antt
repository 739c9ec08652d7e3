-- A worked row: `c = 0` over a signature with a constant `c` of the type `int` is a formula by the law.
use Rattle.std.proofs.Common.{◌≡◌, ℕ, ◌+◌, ◌<◌, zero, suc, true, [], ◌∷◌, Some, None, codes, inl, refl, sym, ap, ◌∙◌, arith}
use Rattle.std.specs.Prelude.{pos}
use Rattle.elab_groups.specs.trees.Tree.{Tree, Leaf, Two, Three, HEnd, HNum, HFun, HEq}
use Rattle.elab_groups.specs.trees.Sorts.{int_type}
use Rattle.elab_groups.specs.tasks.declared.signature.SymbolKind.TheVariants.{Function, Constructor}
use Rattle.elab_groups.specs.tasks.Task.{SymbolTree, int_symbol, symbol_or}
use Rattle.elab_groups.specs.tasks.Vocabulary.{Vocabulary, of_signature}
use Rattle.elab_groups.specs.tasks.Valid.{IsTypeIn, HasTypes, IsFormulaOver}
use Rattle.elab_groups.specs.name_resolution.Abstract.{Expression, applied_expression, integer_expression, equality_expression, no_expressions}
use Rattle.elab_groups.specs.name_resolution.Records.{constructor_before}
use Rattle.elab_groups.specs.name_resolution.Where.{Where}
use Rattle.elab_groups.specs.scopes.declared.Referent.TheVariants as stands
use Rattle.elab_groups.specs.open_types.Pieces.{piece}
use Rattle.elab_groups.specs.parts.Elaborated.{IsSolved, IsFixedUnknown}
use Rattle.elaboration_laws.specs.Signature.{IsSymbol, IsWellFormed}
use Rattle.elaboration_laws.specs.Typed.{IsNamedExpression}
use Rattle.elaboration_laws.proofs.Solutions.{solved_formula}
use Rattle.std.proofs.lemmas.Option.{slice_get-get_or as some_at}

abbrev constant : SymbolTree
constant = record { theory = codes "T"; name = codes "c"; kind = Function; vars = 0; args = []; result = Some int_type }

abbrev here : Where
here = record { symbols = int_symbol ∷ constant ∷ []; types = λ qs x. Some (stands.Entry 0); names = λ qs x. Some 1; tuples = λ n. None; vars = [] }

abbrev signature : Vocabulary
signature = of_signature here.symbols

int_in : IsTypeIn signature 0 int_type
int_in = record { sort = refl; typed = ((refl, inl refl), (refl, (refl, refl)), (tt, tt)); variables = tt }

constant_types : HasTypes signature constant
constant_types = record { args = λ k d l. absurd (omega arith); result = int_in }

constant_is : IsSymbol signature 1
constant_is = record { usable = refl; signature = record { entry = omega arith; kind = λ e. cc; types = constant_types }; result = λ m. tt }

well_formed : IsWellFormed signature here
well_formed = record {
  int = refl;
  int_usable = refl;
  types = λ qs x. (refl, record { entry = omega arith; kind = refl; types = record { args = λ k d l. absurd (omega arith); result = tt } });
  names = λ qs x. constant_is;
  constructors = λ k z q. rw (some_at here.symbols k int_symbol z.signature.entry, q) refl;
  records = λ k z q. absurd (none k z.signature.entry q);
}
  where
    none : (k : ℕ) → k < 2 → (symbol_or here.symbols (constructor_before here.symbols k)).kind ≡ Constructor → ⊥
    none zero l q = absurd (cc (q))
    none (suc zero) l q = absurd (cc (q))
    none (suc (suc k)) l q = absurd (omega (arith, l))

abbrev source : Expression
source = equality_expression 1 true (applied_expression 0 [] (codes "c") no_expressions) (integer_expression 2 (pos 0))

abbrev formula : Tree
formula = Two HEq (Three (HFun 1) (Leaf HEnd) (Leaf HEnd) int_type) (Leaf (HNum (pos 0)))

named : IsNamedExpression signature here [] None source
named = record { signature = well_formed; tuples = (tt, tt); named = refl }

solved : IsSolved 0 (piece here [] 0 None source) formula []
solved = record {
  determined = record { solvable = (λ j. int_type, record { types = λ j. (((refl, inl refl), tt), refl); solves = (refl, (refl, tt)) }); fixed = fixed };
  tree = λ f s. let q : int_type ≡ f 0 = s.solves.0 in ap (λ (t : Tree). Two HEq (Three (HFun 1) (Leaf HEnd) (Leaf HEnd) t) (Leaf (HNum (pos 0)))) (sym q);
  matches = λ f s. refl;
}
  where
    fixed : (i : ℕ) → i < 1 → IsFixedUnknown 0 (piece here [] 0 None source).notes.equations (0 + i)
    fixed zero l = λ f g s t. sym s.solves.0 ∙ t.solves.0
    fixed (suc i) l = absurd (omega arith)

row : IsFormulaOver signature [] 0 formula
row = solved_formula signature here well_formed 0 0 source formula [] named solved ((tt, tt, (tt, tt)), tt)
