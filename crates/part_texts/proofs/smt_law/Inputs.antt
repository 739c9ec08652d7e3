-- What is known of a term or formula that is printed, and of its parts.
use Rattle.std.proofs.Common.{◌≡◌, ℕ, ◌+◌, ◌≤◌, ◌^◌, ◌&&◌, Bool, true, false, List, ◌++◌, length, arith}
use Rattle.std.proofs.lemmas.List.{length-append}
use Rattle.tasks.specs.trees.Tree.{Tree, One, Two, Three, Head, HArm, HForall, HExists, HLet, height, above_ty_vars, binders_over}
use Rattle.tasks.specs.Typing.{TypedUnder, bound_types}
use Rattle.tasks.specs.Valid.{ParametersOf}
use Rattle.tasks.proofs.Counts.{bound_count}
use Rattle.tasks.proofs.Closing.{typed_sorted}
use Rattle.printed_problems.specs.drivers.declared.driver_items.kinds.Syntax.TheVariants.{Smt}
use Rattle.name_tables.specs.Occurrences.{of_one, of_two, of_three, occurrences}
use Rattle.name_tables.specs.Seen.{AreIn}
use Rattle.printed_problems.specs.Faults.{has_head, has_forms}
use Rattle.printed_problems.specs.printed_terms.Texts.{depth_under}
use Rattle.part_texts.specs.smt_law.Law.{LiteralsFit}
use Rattle.part_texts.proofs.smt_law.Forms.{Known}
use Rattle.part_texts.proofs.smt_law.Found.{in_first, in_rest}
use Rattle.tasks.proofs.plain_laws.Bools.{and_first as and_left, and_second as and_right}

pub record Input (c : Known) (d : ℕ) (types : List Tree) (e : Tree) : Type 0 where
  pub depth : d ≡ length types
  pub typed : TypedUnder c.vocabulary types e
  pub parameters : ParametersOf c.params e
  pub there : AreIn c.printing.things (occurrences e)
  pub forms : has_forms Smt e ≡ true
  pub ground : above_ty_vars e ≡ 0
  pub low : d + height e ≤ 2 ^ 64
  pub literals : LiteralsFit e

abbrev pub is_arm : Head → Bool
is_arm HArm = true
is_arm _ = false

under_depth : (h : Head) (a : Tree) (types : List Tree) (d : ℕ) → is_arm h ≡ false → d ≡ length types → length (bound_types h a) ≡ binders_over h a → depth_under h d ≡ length (bound_types h a ++ types)
under_depth HArm a types d n e k = absurd (cc)
under_depth HForall a types d n e k = omega (arith, e)
under_depth HExists a types d n e k = omega (arith, e)
under_depth HLet a types d n e k = omega (arith, e, k, length-append (bound_types HLet a) types)
under_depth _ a types d n e k = e

under_low : (h : Head) (d : ℕ) → depth_under h d ≤ d + 1
under_low HForall d = omega arith
under_low HExists d = omega arith
under_low HLet d = omega arith
under_low _ d = omega arith

module _ (c : Known) (d : ℕ) (types : List Tree) where
  pub input_one : (h : Head) (a : Tree) → Input c d types (One h a) → Input c d types a
  input_one h a i = record {
    depth = i.depth;
    typed = i.typed.2;
    parameters = i.parameters.1;
    there = in_rest c.printing.things (of_one h a) (occurrences a) i.there;
    forms = and_right (has_head Smt h) (has_forms Smt a) i.forms;
    ground = i.ground;
    low = let l = i.low in omega (arith, l);
    literals = i.literals;
  }

  pub input_left : (h : Head) (a b : Tree) → Input c d types (Two h a b) → Input c d types a
  input_left h a b i = record {
    depth = i.depth;
    typed = i.typed.2;
    parameters = i.parameters.0;
    there = in_first c.printing.things (occurrences a) (occurrences b) (in_rest c.printing.things (of_two h a b) (occurrences a ++ occurrences b) i.there);
    forms = and_left (has_forms Smt a) (has_forms Smt b) (and_right (has_head Smt h) (has_forms Smt a && has_forms Smt b) i.forms);
    ground = let g = i.ground in omega (arith, g);
    low = let l = i.low in omega (arith, l);
    literals = i.literals.0;
  }

  pub input_right : (h : Head) (a b : Tree) → is_arm h ≡ false → Input c d types (Two h a b) → Input c (depth_under h d) (bound_types h a ++ types) b
  input_right h a b n i = record {
    depth = under_depth h a types d n i.depth (bound_count h a b i.typed.0 (typed_sorted c.vocabulary types a i.typed.2));
    typed = i.typed.3;
    parameters = i.parameters.1;
    there = in_rest c.printing.things (occurrences a) (occurrences b) (in_rest c.printing.things (of_two h a b) (occurrences a ++ occurrences b) i.there);
    forms = and_right (has_forms Smt a) (has_forms Smt b) (and_right (has_head Smt h) (has_forms Smt a && has_forms Smt b) i.forms);
    ground = let g = i.ground in omega (arith, g);
    low = let l = i.low in let u = under_low h d in omega (arith, l, u);
    literals = i.literals.1;
  }

  pub input_first : (h : Head) (x y z : Tree) → Input c d types (Three h x y z) → Input c d types x
  input_first h x y z i = record {
    depth = i.depth;
    typed = i.typed.2;
    parameters = i.parameters.0;
    there = in_first c.printing.things (occurrences x) (occurrences y ++ occurrences z) (in_rest c.printing.things (of_three h x y z) (occurrences x ++ (occurrences y ++ occurrences z)) i.there);
    forms = and_left (has_forms Smt x) (has_forms Smt y && has_forms Smt z) (and_right (has_head Smt h) (has_forms Smt x && (has_forms Smt y && has_forms Smt z)) i.forms);
    ground = let g = i.ground in omega (arith, g);
    low = let l = i.low in omega (arith, l);
    literals = i.literals.0;
  }

  pub input_second : (h : Head) (x y z : Tree) → Input c d types (Three h x y z) → Input c d types y
  input_second h x y z i = record {
    depth = i.depth;
    typed = i.typed.3;
    parameters = i.parameters.1;
    there = in_first c.printing.things (occurrences y) (occurrences z) (in_rest c.printing.things (occurrences x) (occurrences y ++ occurrences z) (in_rest c.printing.things (of_three h x y z) (occurrences x ++ (occurrences y ++ occurrences z)) i.there));
    forms = and_left (has_forms Smt y) (has_forms Smt z) (and_right (has_forms Smt x) (has_forms Smt y && has_forms Smt z) (and_right (has_head Smt h) (has_forms Smt x && (has_forms Smt y && has_forms Smt z)) i.forms));
    ground = let g = i.ground in omega (arith, g);
    low = let l = i.low in omega (arith, l);
    literals = i.literals.1;
  }

  pub input_third : (h : Head) (x y z : Tree) → Input c d types (Three h x y z) → Input c d types z
  input_third h x y z i = record {
    depth = i.depth;
    typed = i.typed.4;
    parameters = i.parameters.2;
    there = in_rest c.printing.things (occurrences y) (occurrences z) (in_rest c.printing.things (occurrences x) (occurrences y ++ occurrences z) (in_rest c.printing.things (of_three h x y z) (occurrences x ++ (occurrences y ++ occurrences z)) i.there));
    forms = and_right (has_forms Smt y) (has_forms Smt z) (and_right (has_forms Smt x) (has_forms Smt y && has_forms Smt z) (and_right (has_head Smt h) (has_forms Smt x && (has_forms Smt y && has_forms Smt z)) i.forms));
    ground = let g = i.ground in omega (arith, g);
    low = let l = i.low in omega (arith, l);
    literals = i.literals.2;
  }
