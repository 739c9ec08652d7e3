-- What is valid over a vocabulary names what that may name: so it is valid over one that may name all that is in it.
use Rattle.std.proofs.Common.{◌≡◌, ℕ, ◌||◌, nat_eq, suc, Bool, true, false, List, [], ◌∷◌, ◌++◌, map, All, Option, Some, None, IfSome, IsTrue, refl, sym, subst, arith}
use Rattle.std.specs.List.{flat_map}
use Rattle.std.proofs.lemmas.List.Elements.{All-nil, All-cons}
use Rattle.std.proofs.lemmas.List.Folds.{list_any-append}
use Rattle.std.proofs.lemmas.List.Concat.{flat_map-append}
use Rattle.elab_groups.specs.trees.Tree.{Tree, Leaf, One, Two, Three, Head, HTyRigid, HTyApp, HPred, HFun, HPatCon}
use Rattle.elab_groups.specs.tasks.Task.{SymbolTree, symbol_or, DefinitionTree, InductiveTree, ConstructorTree, AlgebraicTree, BodyTree, MakesType, Makes, Defines, Induces, Constructs, Says, DeclarationTree, made_by, made_by_cons, made_by_types}
use Rattle.elab_groups.specs.tasks.Vocabulary.{Vocabulary}
use Rattle.elab_groups.specs.tasks.Typing.{LeafTyped, OneTyped, TwoTyped, ThreeTyped, TypedUnder, bound_types}
use Rattle.elab_groups.specs.tasks.Valid.{IsTypeIn, HasTypes, IsFormulaOver, IsDefinition, IsInductive, AreProjections, IsConstructorOf, IsAlgebraic, IsValidBody, IsValidDecl}
use Rattle.theory_states.specs.goal_tasks.Named.{head_named, named, all_named, option_named, signature_named, signatures_named, formulas_of, body_named, is_among}
use Rattle.elaboration_laws.specs.Named.{LeafNames, OneNames, TwoNames, ThreeNames, TreeNames, EntryNames, NumberNames, DefinitionNames, InductiveNames, ConNames, AlgebraicNames, BodyNames}
use Rattle.elaboration_laws.proofs.Moved.{declaration_moves, formula_moved}

pub same_number : (k : ℕ) → nat_eq k k ≡ true
same_number k = grind arith

pub or_left : (a b : Bool) → IsTrue a → IsTrue (a || b)
or_left true b h = refl
or_left false b h = absurd (let z : true ≡ false = sym h in cc)

pub or_right : (a b : Bool) → IsTrue b → IsTrue (a || b)
or_right true b h = refl
or_right false b h = h

module _ (ks : List ℕ) where
  -- these are among the others
  abbrev pub Within : List ℕ → Type 0
  Within xs = (k : ℕ) → IsTrue (is_among xs k) → IsTrue (is_among ks k)

  pub left_in : (xs ys : List ℕ) → Within (xs ++ ys) → Within xs
  left_in xs ys h k x = let e = list_any-append (nat_eq k) xs ys in h k (rw e (or_left (is_among xs k) (is_among ys k) x))

  pub right_in : (xs ys : List ℕ) → Within (xs ++ ys) → Within ys
  right_in xs ys h k x = let e = list_any-append (nat_eq k) xs ys in h k (rw e (or_right (is_among xs k) (is_among ys k) x))

  one_in : (k : ℕ) (xs : List ℕ) → Within (k ∷ xs) → IsTrue (is_among ks k)
  one_in k xs h = let e = same_number k in h k (rw e refl)

  module _ (v w : Vocabulary) (rigid : (k : ℕ) → IsTrue (v.rigid k) → IsTrue (w.rigid k)) (usable : (k : ℕ) → IsTrue (is_among ks k) → IsTrue (v.usable k) → IsTrue (w.usable k))
      (matched : (k : ℕ) → IsTrue (is_among ks k) → IsTrue (v.matched k) → IsTrue (w.matched k)) where
    leaf_names : (h : Head) → LeafTyped v h → LeafNames w h
    leaf_names (HTyRigid k) x = rigid k x.0
    leaf_names _ x = tt

    one_names : (types : List Tree) (h : Head) (a : Tree) → Within (head_named h) → OneTyped v types h a → OneNames w h
    one_names types (HTyApp k) a i x = usable k (one_in k [] i) x.0
    one_names types _ a i x = tt

    two_names : (h : Head) (a b : Tree) → Within (head_named h) → TwoTyped v h a b → TwoNames w h
    two_names (HPred k) a b i x = usable k (one_in k [] i) x.0
    two_names _ a b i x = tt

    three_names : (h : Head) (a b c : Tree) → Within (head_named h) → ThreeTyped v h a b c → ThreeNames w h
    three_names (HFun k) a b c i x = usable k (one_in k [] i) x.0
    three_names (HPatCon k) a b c i x = matched k (one_in k [] i) x.0
    three_names _ a b c i x = tt

    pub tree_names : (types : List Tree) (e : Tree) → Within (named e) → TypedUnder v types e → TreeNames w e
    tree_names types (Leaf h) i x = leaf_names h x.1
    tree_names types (One h a) i x = (one_names types h a (left_in (head_named h) (named a) i) x.1, tree_names types a (right_in (head_named h) (named a) i) x.2)
    tree_names types (Two h a b) i x =
        let j = right_in (head_named h) (named a ++ named b) i in
        (two_names h a b (left_in (head_named h) (named a ++ named b) i) x.1, tree_names types a (left_in (named a) (named b) j) x.2, tree_names (bound_types h a ++ types) b (right_in (named a) (named b) j) x.3)
    tree_names types (Three h a b c) i x =
        let rest = named b ++ named c in
        let j = right_in (head_named h) (named a ++ rest) i in
        let k = right_in (named a) rest j in
        (three_names h a b c (left_in (head_named h) (named a ++ rest) i) x.1, tree_names types a (left_in (named a) rest j) x.2, tree_names types b (left_in (named b) (named c) k) x.3, tree_names types c (right_in (named b) (named c) k) x.4)

    -- ---- entries
    types_names : (n : ℕ) (ts : List Tree) → Within (all_named ts) → All (IsTypeIn v n) ts → All (TreeNames w) ts
    types_names n [] i h = All-nil (TreeNames w)
    types_names n (t ∷ ts) i h =
        let x : IsTypeIn v n t = h 0 t (omega arith) in
        All-cons (TreeNames w) t ts (tree_names [] t (left_in (named t) (all_named ts) i) x.typed) (types_names n ts (right_in (named t) (all_named ts) i) (λ k d l. h (suc k) d (omega arith)))

    result_names : (n : ℕ) (r : Option Tree) → Within (option_named r) → IfSome r (IsTypeIn v n) → IfSome r (TreeNames w)
    result_names n None i h = tt
    result_names n (Some t) i h = tree_names [] t i h.typed

    entry_names : (e : SymbolTree) → Within (signature_named e) → HasTypes v e → EntryNames w e
    entry_names e i h = record {
      args = types_names e.vars e.args (left_in (all_named e.args) (option_named e.result) i) h.args;
      result = result_names e.vars e.result (right_in (all_named e.args) (option_named e.result) i) h.result;
    }

    abbrev S : List SymbolTree
    S = v.symbols

    abbrev Number : ℕ → Type 0
    Number k = NumberNames w S k

    number_names : (k : ℕ) (more : List ℕ) → Within (signatures_named S (k ∷ more)) → HasTypes v (symbol_or S k) → Number k
    number_names k more i h = entry_names (symbol_or S k) (left_in (signature_named (symbol_or S k)) (signatures_named S more) i) h

    more_numbers : (k : ℕ) (more : List ℕ) → Within (signatures_named S (k ∷ more)) → Within (signatures_named S more)
    more_numbers k more i = right_in (signature_named (symbol_or S k)) (signatures_named S more) i

    both_numbers : (xs ys : List ℕ) → Within (signatures_named S (xs ++ ys)) → Within (signatures_named S xs ++ signatures_named S ys)
    both_numbers xs ys i = let e = flat_map-append (λ (k : ℕ). signature_named (symbol_or S k)) xs ys in subst Within e i

    first_numbers : (xs ys : List ℕ) → Within (signatures_named S (xs ++ ys)) → Within (signatures_named S xs)
    first_numbers xs ys i = left_in (signatures_named S xs) (signatures_named S ys) (both_numbers xs ys i)

    last_numbers : (xs ys : List ℕ) → Within (signatures_named S (xs ++ ys)) → Within (signatures_named S ys)
    last_numbers xs ys i = right_in (signatures_named S xs) (signatures_named S ys) (both_numbers xs ys i)

    -- ---- declarations
    formula_names : (n : ℕ) (e : Tree) → Within (named e) → IsFormulaOver v [] n e → TreeNames w e
    formula_names n e i f = tree_names [] e i f.typed

    definitions_names : (ds : List DefinitionTree) → Within (signatures_named S (map (λ (d : DefinitionTree). d.symbol) ds)) → Within (all_named (map (λ (d : DefinitionTree). d.equation) ds)) → All (IsDefinition v) ds → All (DefinitionNames w S) ds
    definitions_names [] i j h = All-nil (DefinitionNames w S)
    definitions_names (d ∷ ds) i j h =
        let x : IsDefinition v d = h 0 d (omega arith) in
        let ms = map (λ (e : DefinitionTree). e.symbol) ds in
        let es = map (λ (e : DefinitionTree). e.equation) ds in
        All-cons (DefinitionNames w S) d ds (record { signature = number_names d.symbol ms i x.signature.types; equation = formula_names _ d.equation (left_in (named d.equation) (all_named es) j) x.formula })
        (definitions_names ds (more_numbers d.symbol ms i) (right_in (named d.equation) (all_named es) j) (λ k e l. h (suc k) e (omega arith)))

    clauses_names : (n : ℕ) (cs : List Tree) → Within (all_named cs) → All (IsFormulaOver v [] n) cs → All (TreeNames w) cs
    clauses_names n [] i h = All-nil (TreeNames w)
    clauses_names n (c ∷ cs) i h = All-cons (TreeNames w) c cs (formula_names n c (left_in (named c) (all_named cs) i) (h 0 c (omega arith))) (clauses_names n cs (right_in (named c) (all_named cs) i) (λ k e l. h (suc k) e (omega arith)))

    inductives_names : (group : List ℕ) (is : List InductiveTree) → Within (signatures_named S (map (λ (i : InductiveTree). i.symbol) is)) → Within (all_named (flat_map (λ (i : InductiveTree). i.clauses) is)) → All (IsInductive v group) is → All (InductiveNames w S) is
    inductives_names group [] i j h = All-nil (InductiveNames w S)
    inductives_names group (p ∷ is) i j h =
        let x : IsInductive v group p = h 0 p (omega arith) in
        let ms = map (λ (e : InductiveTree). e.symbol) is in
        let cs = flat_map (λ (e : InductiveTree). e.clauses) is in
        let e = flat_map-append named p.clauses cs in
        let k : Within (all_named p.clauses ++ all_named cs) = subst Within e j in
        All-cons (InductiveNames w S) p is (record { signature = number_names p.symbol ms i x.signature.types; clauses = clauses_names _ p.clauses (left_in (all_named p.clauses) (all_named cs) k) x.formulas })
        (inductives_names group is (more_numbers p.symbol ms i) (right_in (all_named p.clauses) (all_named cs) k) (λ n d l. h (suc n) d (omega arith)))

    projections_names : (type vars : ℕ) (fs : List Tree) (ps : List ℕ) → Within (signatures_named S ps) → AreProjections v type vars fs ps → All Number ps
    projections_names type vars [] [] i h = All-nil Number
    projections_names type vars [] (p ∷ ps) i h = absurd h
    projections_names type vars (f ∷ fs) [] i h = absurd h
    projections_names type vars (f ∷ fs) (p ∷ ps) i h = All-cons Number p ps (number_names p ps i h.0.signature.types) (projections_names type vars fs ps (more_numbers p ps i) h.1)

    cons_names : (type vars : ℕ) (cs : List ConstructorTree) → Within (signatures_named S (made_by_cons cs)) → All (IsConstructorOf v type vars) cs → All (ConNames w S) cs
    cons_names type vars [] i h = All-nil (ConNames w S)
    cons_names type vars (c ∷ cs) i h =
        let x : IsConstructorOf v type vars c = h 0 c (omega arith) in
        let own = first_numbers (c.symbol ∷ c.projections) (made_by_cons cs) i in
        All-cons (ConNames w S) c cs (record { signature = number_names c.symbol c.projections own x.signature.types; projections = projections_names type vars c.fields c.projections (more_numbers c.symbol c.projections own) x.projections })
        (cons_names type vars cs (last_numbers (c.symbol ∷ c.projections) (made_by_cons cs) i) (λ k d l. h (suc k) d (omega arith)))

    types_all : (ts : List AlgebraicTree) → Within (signatures_named S (made_by_types ts)) → All (IsAlgebraic v) ts → All (AlgebraicNames w S) ts
    types_all [] i h = All-nil (AlgebraicNames w S)
    types_all (a ∷ ts) i h =
        let x : IsAlgebraic v a = h 0 a (omega arith) in
        let own = first_numbers (a.symbol ∷ made_by_cons a.cons) (made_by_types ts) i in
        All-cons (AlgebraicNames w S) a ts (record { signature = number_names a.symbol (made_by_cons a.cons) own x.entry.types; cons = cons_names a.symbol _ a.cons (more_numbers a.symbol (made_by_cons a.cons) own) x.cons })
        (types_all ts (last_numbers (a.symbol ∷ made_by_cons a.cons) (made_by_types ts) i) (λ k d l. h (suc k) d (omega arith)))

    body_names : (n : ℕ) (b : BodyTree) → Within (body_named S b) → IsValidBody v n b → BodyNames w S b
    body_names n (MakesType k) i h = number_names k [] (left_in (signatures_named S (k ∷ [])) [] i) h.types
    body_names n (Makes k) i h = number_names k [] (left_in (signatures_named S (k ∷ [])) [] i) h.types
    body_names n (Defines ds) i h = let a = signatures_named S (made_by (Defines ds)) in let b = all_named (formulas_of (Defines ds)) in definitions_names ds (left_in a b i) (right_in a b i) h
    body_names n (Induces is) i h = let a = signatures_named S (made_by (Induces is)) in let b = all_named (formulas_of (Induces is)) in inductives_names _ is (left_in a b i) (right_in a b i) h
    body_names n (Constructs ts) i h = types_all ts (left_in (signatures_named S (made_by_types ts)) [] i) h
    body_names n (Says a) i h = formula_names n a (left_in (named a) [] i) h

    pub declaration_named : v.symbols ≡ w.symbols → (d : DeclarationTree) → Within (body_named S d.body) → IsValidDecl v d → IsValidDecl w d
    declaration_named same d i h = declaration_moves v w same d (body_names d.vars d.body i h) h

    pub formula_named : v.symbols ≡ w.symbols → (n : ℕ) (e : Tree) → Within (named e) → IsFormulaOver v [] n e → IsFormulaOver w [] n e
    formula_named same n e i f = formula_moved v w same [] n e (formula_names n e i f) f
