-- The task with laws declares the same and is valid, where no formula of the old one has a `match`;
-- it is no smaller.
use Rattle.std.specs.Prelude.{◌≡◌, ◌≤◌, ℕ, ◌+◌, suc, max, Bool, true, false, ◌&&◌, nat_le, if◌then◌else◌, List, [], ◌∷◌, ◌++◌, map, All, Ok, Err, refl}
use Rattle.std.specs.List.{flat_map}
use Rattle.std.proofs.Common.{inl, inr, sym, subst, ap, ◌∙◌, arith}
use Rattle.std.proofs.lemmas.Bool.Decides.{nat_tests}
use Rattle.std.proofs.lemmas.List.Elements.{All-cons, All-nil, All-append, All-weaker}
use Rattle.std.proofs.lemmas.List.Sums.{sum_by-cons}
use Rattle.plain_laws.proofs.Bools.{and_first, and_second}
use Rattle.tasks.specs.trees.Tree.{Tree, size}
use Rattle.tasks.specs.Task.{SymbolTree, AlgebraicTree, BodyTree, MakesType, Makes, Defines, Induces, Constructs, Says, DeclarationTree, TaskTree, made_by_cons, body_nodes, declaration_nodes, nodes}
use Rattle.tasks.specs.Vocabulary.{of_task}
use Rattle.tasks.specs.Valid.{IsFormulaOver, IsTypeIn, IsValid}
use Rattle.tasks.proofs.Closing.{typed_sorted}
use Rattle.evidence.specs.stage_limits.Limits.{TooLarge, body_height, declaration_height, task_height, are_small, limited}
use Rattle.evidence.specs.Stages.{Keeps}
use Rattle.declarations.specs.lemmas.Rewritten.{names_all, kept_over}
use Rattle.declarations.proofs.Within.{formula_there, type_there}
use Rattle.declarations.specs.spelled_groups.Spelled.{as_symbol}
use Rattle.tr_algebraic.specs.algebraic_forms.Groups.{LawTree, group_laws, group_symbols, group_place, as_type, as_law, algebraic_rule}
use Rattle.tr_algebraic.specs.algebraic_forms.NoMatch.{HasNoMatch, IsMatchFreeBody, IsMatchFree}
use Rattle.tr_algebraic.specs.algebraic_forms.lemmas.NoMatch.{kinds_match_none, matches_none, laws_have_no_match}
use Rattle.tr_algebraic.specs.algebraic_forms.lemmas.Kept.{algebraic_keeps, algebraic_valid}
use Rattle.tr_algebraic.specs.algebraic_tasks.Plain.{IsBodyWithoutMatches, AreDeclsWithoutMatches, IsTaskWithoutMatches, task_with_laws}

-- ---- numbers of nodes and heights
at_most : (n m : ℕ) → nat_le n m ≡ true → n ≤ m
at_most n m e = grind (arith, nat_tests)

small_of : (n m : ℕ) → n ≤ m → nat_le n m ≡ true
small_of n m l = grind (arith, nat_tests)

nodes_cons : (d : DeclarationTree) (ds : List DeclarationTree)
    → declaration_nodes (d ∷ ds) ≡ body_nodes d.body + declaration_nodes ds
nodes_cons d ds = sum_by-cons (λ (x : DeclarationTree). body_nodes x.body) d ds

nodes_append : (xs ys : List DeclarationTree)
    → declaration_nodes (xs ++ ys) ≡ declaration_nodes xs + declaration_nodes ys
nodes_append [] ys = omega arith
nodes_append (d ∷ xs) ys =
    omega (arith, nodes_cons d (xs ++ ys), nodes_cons d xs, nodes_append xs ys)

height_append : (xs ys : List DeclarationTree)
    → declaration_height (xs ++ ys) ≡ max (declaration_height xs) (declaration_height ys)
height_append [] ys = omega arith
height_append (d ∷ xs) ys =
    let e : declaration_height ((d ∷ xs) ++ ys)
    ≡ max (body_height d.body) (declaration_height (xs ++ ys)) = refl in
    let f : declaration_height (d ∷ xs) ≡ max (body_height d.body) (declaration_height xs) = refl in
    omega (arith, e, f, height_append xs ys)

-- what is put in the place of a declaration is no smaller than it
module _ (symbols : List SymbolTree) where
  alone_nodes : (d : DeclarationTree) → body_nodes d.body ≤ declaration_nodes (d ∷ [])
  alone_nodes d = omega (arith, nodes_cons d [])

  place_nodes : (d : DeclarationTree) (b : BodyTree) → d.body ≡ b
      → body_nodes d.body ≤ declaration_nodes (group_place symbols d b)
  place_nodes d (Constructs ts) q = let e : body_nodes d.body ≡ 0 =
      ap body_nodes q in omega (arith, e)
  place_nodes d (Says a) q = alone_nodes d
  place_nodes d (MakesType k) q = alone_nodes d
  place_nodes d (Makes k) q = alone_nodes d
  place_nodes d (Defines ds) q = alone_nodes d
  place_nodes d (Induces is) q = alone_nodes d

  alone_height : (d : DeclarationTree) → body_height d.body ≤ declaration_height (d ∷ [])
  alone_height d = let e : declaration_height (d ∷ []) ≡ max (body_height d.body) 0 =
      refl in omega (arith, e)

  place_height : (d : DeclarationTree) (b : BodyTree) → d.body ≡ b
      → body_height d.body ≤ declaration_height (group_place symbols d b)
  place_height d (Constructs ts) q = let e : body_height d.body ≡ 0 =
      ap body_height q in omega (arith, e)
  place_height d (Says a) q = alone_height d
  place_height d (MakesType k) q = alone_height d
  place_height d (Makes k) q = alone_height d
  place_height d (Defines ds) q = alone_height d
  place_height d (Induces is) q = alone_height d

  more_nodes : (ds : List DeclarationTree)
      → declaration_nodes ds ≤ declaration_nodes (flat_map (algebraic_rule symbols) ds)
  more_nodes [] = omega arith
  more_nodes (d ∷ ds) = omega (
    arith,
    nodes_cons d ds,
    place_nodes d d.body refl,
    more_nodes ds,
    nodes_append
        (algebraic_rule symbols d) (flat_map (algebraic_rule symbols) ds),
  )

  more_height : (ds : List DeclarationTree)
      → declaration_height ds ≤ declaration_height (flat_map (algebraic_rule symbols) ds)
  more_height [] = omega arith
  more_height (d ∷ ds) =
      let e : declaration_height (d ∷ ds)
      ≡ max (body_height d.body) (declaration_height ds) = refl in
      omega (
        arith,
        e,
        place_height d d.body refl,
        more_height ds,
        height_append
            (algebraic_rule symbols d) (flat_map (algebraic_rule symbols) ds),
      )

-- ---- a task alone, and its bounds
pub small_alone : (n h : ℕ) → (((nat_le n 1048576 && nat_le h 2000) && true)
    && nat_le (0 + n) 8388608) ≡ true → (n ≤ 1048576) × (h ≤ 2000)
small_alone n h e =
    let f = and_first ((nat_le n 1048576 && nat_le h 2000) && true) (nat_le (0 + n) 8388608) e in
    let g = and_first (nat_le n 1048576 && nat_le h 2000) true f in (
      at_most n 1048576 (and_first (nat_le n 1048576) (nat_le h 2000) g),
      at_most h 2000
          (and_second (nat_le n 1048576) (nat_le h 2000) g),
    )

all_small : (a b c : Bool) → a ≡ true → b ≡ true → c ≡ true → (((a && b) && true) && c) ≡ true
all_small true true true p q r = refl
all_small false b c p q r = absurd (cc)
all_small true false c p q r = absurd (cc)
all_small true true false p q r = absurd (cc)

pub small_limited : (ts : List TaskTree) → are_small ts ≡ true → limited ts ≡ Ok ts
small_limited ts e = ap (λ (b : Bool). if b then Ok ts else Err TooLarge) e

small_or_large : (ts : List TaskTree) (b : Bool) → are_small ts ≡ b → (are_small ts ≡ true → ⊥)
    → limited ts ≡ Err TooLarge
small_or_large ts true e n = absurd (n e)
small_or_large ts false e n = ap (λ (b : Bool). if b then Ok ts else Err TooLarge) e

not_small : (ts : List TaskTree) → limited ts ≡ Err TooLarge → are_small ts ≡ true → ⊥
not_small ts e s = let q : Ok ts ≡ Err TooLarge = sym (small_limited ts s) ∙ e in absurd (cc)

module _ (t : TaskTree) where
  abbrev w : TaskTree
  w = task_with_laws t

  nodes_more : nodes t ≤ nodes w
  nodes_more = omega (arith, more_nodes t.symbols t.decls)

  height_more : task_height t ≤ task_height w
  height_more = omega (arith, more_height t.symbols t.decls)

  -- where the task with laws is small, so is the old one
  pub small_before : are_small (w ∷ []) ≡ true → are_small (t ∷ []) ≡ true
  small_before e =
      let l = small_alone (nodes w) (task_height w) e in
      all_small (nat_le (nodes t) 1048576) (nat_le (task_height t) 2000)
      (nat_le (0 + nodes t) 8388608)
      (small_of (nodes t) 1048576 (omega (arith, nodes_more, l.0)))
      (small_of (task_height t) 2000 (omega (arith, height_more, l.1)))
      (small_of (0 + nodes t) 8388608 (omega (arith, nodes_more, l.0)))

  -- and it is too large where the old one is
  pub large_after : limited (t ∷ []) ≡ Err TooLarge → limited (w ∷ []) ≡ Err TooLarge
  large_after e =
      small_or_large (w ∷ []) (are_small (w ∷ [])) refl (λ s. not_small (t ∷ []) e (small_before s))

-- ---- declarations in which a pattern can name nothing
module _ (symbols : List SymbolTree) where
  free_laws : (d : DeclarationTree) (xs : List LawTree)
      → All (λ (x : LawTree). HasNoMatch x.formula) xs
      → declaration_nodes (map (as_law d) xs) ≤ 1048576 → All IsMatchFree (map (as_law d) xs)
  free_laws d [] a l = All-nil IsMatchFree
  free_laws d (x ∷ xs) a l =
      let e : declaration_nodes (map (as_law d) (x ∷ xs))
      ≡ size x.formula + declaration_nodes (map (as_law d) xs) =
      nodes_cons (as_law d x) (map (as_law d) xs) in
      All-cons IsMatchFree (as_law d x) (map (as_law d) xs)
      (omega (arith, e, l), a 0 x (omega arith))
      (free_laws d xs (λ k y m. a (suc k) y (omega arith)) (omega (arith, e, l)))

  free_constructors : (d : DeclarationTree) (ks : List ℕ)
      → All IsMatchFree (map (as_symbol symbols d) ks)
  free_constructors d [] = All-nil IsMatchFree
  free_constructors d (k ∷ ks) =
      All-cons IsMatchFree (as_symbol symbols d k) (map (as_symbol symbols d) ks) tt
      (free_constructors d ks)

  free_symbols : (d : DeclarationTree) (ts : List AlgebraicTree)
      → All IsMatchFree (group_symbols symbols d ts)
  free_symbols d [] = All-nil IsMatchFree
  free_symbols d (a ∷ ts) =
      let xs = map (as_symbol symbols d) (made_by_cons a.cons) in
      All-cons IsMatchFree (as_type symbols d a.symbol) (xs ++ group_symbols symbols d ts) tt
      (All-append IsMatchFree xs (group_symbols symbols d ts)
      (free_constructors d (made_by_cons a.cons)) (free_symbols d ts))

  alone_free : (d : DeclarationTree) → IsMatchFree d → All IsMatchFree (d ∷ [])
  alone_free d h = All-cons IsMatchFree d [] h (All-nil IsMatchFree)

  free_place : (d : DeclarationTree) (b : BodyTree) → d.body ≡ b → IsBodyWithoutMatches b
      → declaration_nodes (group_place symbols d b) ≤ 1048576
      → All IsMatchFree (group_place symbols d b)
  free_place d (Constructs ts) q k l =
      let xs = map (as_law d) (group_laws symbols ts) in
      All-append IsMatchFree (group_symbols symbols d ts) xs (free_symbols d ts)
      (free_laws d (group_laws symbols ts) (laws_have_no_match symbols ts)
      (omega (arith, l, nodes_append (group_symbols symbols d ts) xs)))
  free_place d (Says a) q k l =
      let f : body_nodes d.body ≡ size a = ap body_nodes q in
      alone_free d (subst IsMatchFreeBody (sym q) (omega (arith, nodes_cons d [], f, l), k))
  free_place d (MakesType k) q h l = alone_free d (subst IsMatchFreeBody (sym q) tt)
  free_place d (Makes k) q h l = alone_free d (subst IsMatchFreeBody (sym q) tt)
  free_place d (Defines ds) q h l = absurd h
  free_place d (Induces is) q h l = absurd h

  free_decls : (ds : List DeclarationTree) → AreDeclsWithoutMatches ds
      → declaration_nodes (flat_map (algebraic_rule symbols) ds) ≤ 1048576
      → All IsMatchFree (flat_map (algebraic_rule symbols) ds)
  free_decls [] a l = All-nil IsMatchFree
  free_decls (d ∷ ds) a l =
      let xs = algebraic_rule symbols d in
      let ys = flat_map (algebraic_rule symbols) ds in
      All-append IsMatchFree xs ys
      (free_place d d.body refl (a 0 d (omega arith)) (omega (arith, l, nodes_append xs ys)))
      (free_decls ds (λ k x m. a (suc k) x (omega arith))
      (omega (arith, l, nodes_append xs ys)))

-- ---- the task
module _ (t : TaskTree) (valid : IsValid t) (plain : IsTaskWithoutMatches t) where
  abbrev new : TaskTree
  new = task_with_laws t

  formula_kept : (e : Tree) → HasNoMatch e → IsFormulaOver (of_task t) t.params 0 e
      → IsFormulaOver (of_task new) t.params 0 e
  formula_kept e n f = formula_there (of_task t) (of_task new)
      (names_all algebraic_rule algebraic_keeps t) t.params 0 e
      (matches_none e (typed_sorted (of_task t) [] e f.typed) (inl (inr f.sort)) n) f

  type_kept : (e : Tree) → IsTypeIn (of_task t) 0 e → IsTypeIn (of_task new) 0 e
  type_kept e k = type_there (of_task t) (of_task new) (names_all algebraic_rule algebraic_keeps t)
      0 e (kinds_match_none e (typed_sorted (of_task t) [] e k.typed) (inl k.sort)) k

  locals_kept : (ls : List Tree) → All HasNoMatch ls → All (IsFormulaOver (of_task t) t.params 0) ls
      → All (IsFormulaOver (of_task new) t.params 0) ls
  locals_kept [] n a = All-nil (IsFormulaOver (of_task new) t.params 0)
  locals_kept (l ∷ ls) n a = All-cons (IsFormulaOver (of_task new) t.params 0) l ls
      (formula_kept l (n 0 l (omega arith)) (a 0 l (omega arith)))
      (locals_kept ls (λ k x m. n (suc k) x (omega arith)) (λ k x m. a (suc k) x (omega arith)))

  pub laws_keep : are_small (new ∷ []) ≡ true → Keeps t new
  laws_keep few =
      let l = (small_alone (nodes new) (task_height new) few).0 in
      kept_over algebraic_rule algebraic_keeps t IsMatchFree
      (algebraic_valid (of_task t) (of_task new)
      (names_all algebraic_rule algebraic_keeps t)) valid
      (free_decls t.symbols t.decls plain.decls (omega (arith, l)))
      (All-weaker (IsTypeIn (of_task t) 0) (IsTypeIn (of_task new) 0) type_kept t.params
      valid.params) (locals_kept t.locals plain.locals valid.locals)
      (formula_kept t.goal plain.goal valid.goal)
