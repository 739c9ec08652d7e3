-- What making patterns' terms needs stays as a store grows, and is there for the parts of a pattern.
use Rattle.std.proofs.Common.{◌≡◌, ℕ, suc, ◌==◌, Bool, true, false, if◌then◌else◌, ◌+◌, ◌<◌, ◌⊎◌, inl, inr, List, [], ◌∷◌, ◌++◌, map, length, get_or, All, Some, None, Result, Ok, Err, OnOk, subst, refl, sym, ap, ◌∙◌, arith}
use Rattle.std.proofs.lemmas.Bool.{eqb-true}
use Rattle.std.proofs.lemmas.List.{length-map, map-append, append_assoc, append-nil}
use Rattle.trees.specs.declared.TermId.{TermId}
use Rattle.trees.specs.declared.Node.{Node}
use Rattle.trees.specs.declared.Node.TheVariants as node
use Rattle.trees.specs.declared.Op.TheVariants.{And}
use Rattle.trees.specs.declared.Sort.{Sort}
use Rattle.trees.specs.declared.Sort.TheVariants.{Kind, Term, Formula, Pattern}
use Rattle.trees.specs.declared.Sort.TheVariants as sorts
use Rattle.trees.specs.Tree.{Tree, Leaf, One, Two, Three, HEnd, HFun, HJoin, HEq, HCell, HPatVar, HPatAlias, HPatCon, loose}
use Rattle.trees.specs.Node.{tree_at, trees_at, node_tree, Holds, Grows}
use Rattle.trees.specs.Sorts.{Fits, sort_of, first_sort, type_of, IsListOf, IsList}
use Rattle.trees.specs.Binding.{inst_types}
use Rattle.trees.specs.binders.Visits.{AreHeldOfSort, HoldTerms, held_stays, trees_stay}
use Rattle.tasks.specs.declared.lookup.Lookup.{Lookup}
use Rattle.tasks.specs.Task.{TaskTree, symbol_or}
use Rattle.tasks.specs.Conjunctions.{conjunction}
use Rattle.tasks.specs.Looking.{LookupHeld}
use Rattle.tasks.specs.MatchTests.{result_at, constructor_projections, apply_list, field, fields, rebuilt, con_equation, tests, pattern_terms}
use Rattle.tasks.specs.Equations.{cells}
use Rattle.tasks.specs.Typing.{members, TypedUnder}
use Rattle.tasks.specs.Valid.{IsValid, AreProjections}
use Rattle.tasks.specs.Vocabulary.{Vocabulary, of_task}
use Rattle.trees.proofs.Nodes.{Grows_refl}
use Rattle.tasks.proofs.Growth.{task_held_later, task_later}
use Rattle.images.specs.PatternTerms.{HasClosedResult}
use Rattle.images.proofs.Constructors.{IsMadeCon, con_projections}
use Rattle.images.proofs.PatternTyping.{con_pattern}
use Rattle.images.proofs.PatternLaws.{constructor_results}
use Rattle.images.specs.declared.match_terms.applied.At.{At}
use Rattle.images.specs.match_terms.Asking.{task_under, AtHeld, IsCount, CanAsk, AreHeldBoth}
pub use Rattle.tasks.proofs.plain_laws.Options.{same_some as some_same}

first_is : (s k : Sort) → (Some s ≡ None) ⊎ (Some s ≡ Some k) → s ≡ k
first_is s k (inl q) = absurd (cc)
first_is s k (inr q) = cc

-- ---- more than one list of numbers
pub held_after : (sort : Sort) (s : List Tree) (ids : List TermId) (id : TermId) → AreHeldOfSort sort s ids → Holds s id → sort_of (tree_at s id) ≡ sort → AreHeldOfSort sort s (ids ++ id ∷ [])
held_after sort s [] id h k q = ((k, q), tt)
held_after sort s (i ∷ ids) id h k q = (h.0, held_after sort s ids id h.1 k q)

pub list_cell : (k : Sort) (e a b : Tree) → e ≡ Two HCell a b → Fits e → IsList k e → (sort_of a ≡ k) × IsList k b
list_cell k e a b q f l =
    let m : IsList k (Two HCell a b) = subst (IsList k) q l in
    let g : Fits (Two HCell a b) = subst Fits q f in
    let n : sort_of a ≡ k = first_is (sort_of a) k m.1 in
    (n, subst (λ (z : Sort). IsListOf z (sort_of b) (first_sort b)) n g.0.1)

module _ (s s' : List Tree) (g : Grows s s') where
  pub look_later : (l : Lookup) → LookupHeld s l → LookupHeld s' l
  look_later l h = record { task = task_held_later s s' g l.task.now h.task; index = h.index }

  pub under_later : (l : Lookup) → LookupHeld s l → task_under s' l ≡ task_under s l
  under_later l h = task_later s s' g l.task.now h.task

  pub at_later : (x : At) → AtHeld s x → AtHeld s' x
  at_later x h =
      let q : tree_at s' x.types ≡ tree_at s x.types = g.same x.types.0 h.types in
      record {
        look = look_later x.look h.look;
        types = omega (arith, h.types, g.longer);
        kinds = subst (IsList Kind) (sym q) h.kinds;
        each = held_stays Kind s s' x.members.now g h.each;
        are = trees_stay Kind s s' x.members.now g h.each ∙ h.are ∙ ap members (sym q);
      }

  pub results_later : (l : Lookup) (ks : List ℕ) → LookupHeld s l → All (HasClosedResult (task_under s l)) ks → All (HasClosedResult (task_under s' l)) ks
  results_later l ks h a = subst (λ t. All (HasClosedResult t) ks) (sym (under_later l h)) a

  pub both_later : (ts us : List TermId) → AreHeldBoth s ts us → AreHeldBoth s' ts us
  both_later ts us h = record { tests = held_stays _ s s' ts g h.tests; terms = held_stays Term s s' us g h.terms }

  pub ask_later : (l : Lookup) (p : TermId) (ts : List TermId) → CanAsk s l p ts → CanAsk s' l p ts
  ask_later l p ts h =
      let q : tree_at s' p ≡ tree_at s p = g.same p.0 h.pattern_held in
      let t : task_under s' l ≡ task_under s l = under_later l h.look_held in
      record {
        look_held = look_later l h.look_held;
        valid = subst IsValid (sym t) h.valid;
        pattern_held = omega (arith, h.pattern_held, g.longer);
        sort = subst (λ (e : Tree). (sort_of e ≡ Pattern) ⊎ IsList Pattern e) (sym q) h.sort;
        types = h.types;
        typed = subst (λ (e : Tree). TypedUnder (of_task (task_under s' l)) h.types e) (sym q) (subst (λ t. TypedUnder (of_task t) h.types (tree_at s p)) (sym t) h.typed);
        terms_held = held_stays Term s s' ts g h.terms_held;
        count = subst (λ (e : Tree). IsCount e (length ts)) (sym q) h.count;
      }

-- ---- lists of terms, and applications
no_list : (a : Sort) → a ≡ Term → a ≡ sorts.List → ⊥
no_list a q e = cc

pub cell_fits : (a b : Tree) → sort_of a ≡ Term → IsList Term b → Fits (Two HCell a b)
cell_fits a b q l = ((no_list (sort_of a) q, subst (λ (z : Sort). IsListOf z (sort_of b) (first_sort b)) (sym q) l), tt)

pub cells_step : (s s1 : List Tree) (g : Grows s s1) (ids rest : List TermId) (first tail : TermId) (e : Tree) → HoldTerms s ids → ids ≡ first ∷ rest → e ≡ Two HCell (tree_at s1 first) (tree_at s1 tail) → tree_at s1 tail ≡ cells (trees_at s rest)
    → e ≡ cells (trees_at s ids)
cells_step s s1 g ids rest first tail e h q m r =
    let f : HoldTerms s (first ∷ rest) = subst (HoldTerms s) q h in
    m ∙ ap (λ (z : Tree). Two HCell z (tree_at s1 tail)) (g.same first.0 f.0.0) ∙ ap (Two HCell (tree_at s first)) r ∙ ap (λ is. cells (trees_at s is)) (sym q)

pub empty_is : (ids : List TermId) (b : Bool) → b ≡ (length ids == 0) → b ≡ true → ids ≡ []
empty_is [] b e t = refl
empty_is (i ∷ ids) b e t = absurd (let z : length (i ∷ ids) ≡ 0 = eqb-true (length (i ∷ ids)) 0 (sym e ∙ t) in omega (arith, z))

pub not_empty : (n : ℕ) (b : Bool) → b ≡ (n == 0) → b ≡ false → n ≡ 0 → ⊥
not_empty n b p q z = let e : (n == 0) ≡ true = ap (λ (m : ℕ). m == 0) z in cc

longer_conjunction : (a : Tree) (s : List Tree) (rest : List TermId) → (length rest ≡ 0 → ⊥) → conjunction (a ∷ trees_at s rest) ≡ Two (HJoin And) a (conjunction (trees_at s rest))
longer_conjunction a s [] n = absurd (n refl)
longer_conjunction a s (i ∷ rest) n = refl

-- a conjunction of more than one formula
pub conjunction_step : (s s1 : List Tree) (g : Grows s s1) (ids rest : List TermId) (first more : TermId) (e : Tree) → AreHeldOfSort Formula s ids → ids ≡ first ∷ rest → (length rest ≡ 0 → ⊥) → e ≡ Two (HJoin And) (tree_at s1 first) (tree_at s1 more) → tree_at s1 more ≡ conjunction (trees_at s rest)
    → e ≡ conjunction (trees_at s ids)
conjunction_step s s1 g ids rest first more e h q n m r =
    let f : AreHeldOfSort Formula s (first ∷ rest) = subst (AreHeldOfSort Formula s) q h in
    m ∙ ap (λ (z : Tree). Two (HJoin And) z (tree_at s1 more)) (g.same first.0 f.0.0) ∙ ap (Two (HJoin And) (tree_at s first)) r ∙ sym (ap (λ is. conjunction (trees_at s is)) q ∙ longer_conjunction (tree_at s first) s rest n)

pub result_kind : (t : TaskTree) (k : ℕ) (e : Tree) → HasClosedResult t k → (symbol_or t.symbols k).result ≡ Some e → sort_of e ≡ Kind
result_kind t k e h q = ap sort_of (some_same e h.result (sym q ∙ h.is)) ∙ h.kind

pub applied_fits : (f : ℕ) (s s1 : List Tree) (g : Grows s s1) (types args : TermId) (c : Tree) → Holds s types → IsList Kind (tree_at s types) → Holds s args → IsList Term (tree_at s args) → sort_of c ≡ Kind
    → Fits (Three (HFun f) (tree_at s1 types) (tree_at s1 args) c)
applied_fits f s s1 g types args c ht kt ha ka q = (subst (IsList Kind) (sym (g.same types.0 ht)) kt, subst (IsList Term) (sym (g.same args.0 ha)) ka, q)

result_is : (t : TaskTree) (f : ℕ) (r types : Tree) → HasClosedResult t f → (symbol_or t.symbols f).result ≡ Some r → result_at (symbol_or t.symbols f).result types ≡ inst_types r (members types)
result_is t f r types h b =
    let z : loose r ≡ 0 = ap loose (some_same r h.result (sym b ∙ h.is)) ∙ h.closed in
    ap (λ o. result_at o types) b ∙ ap (λ (n : ℕ). if n == 0 then inst_types r (members types) else Leaf HEnd) z

pub applied_is : (t : TaskTree) (f : ℕ) (s s1 : List Tree) (g : Grows s s1) (x : At) (args : TermId) (e r ty : Tree) → AtHeld s x → HasClosedResult t f → Holds s args → e ≡ Three (HFun f) (tree_at s1 x.types) (tree_at s1 args) ty
    → ty ≡ inst_types r (trees_at s x.members.now) → (symbol_or t.symbols f).result ≡ Some r → e ≡ apply_list t f (tree_at s x.types) (tree_at s args)
applied_is t f s s1 g x args e r ty h c k q a b =
    q
    ∙ ap (λ (z : Tree). Three (HFun f) z (tree_at s1 args) ty) (g.same x.types.0 h.types)
    ∙ ap (λ (z : Tree). Three (HFun f) (tree_at s x.types) z ty) (g.same args.0 k)
    ∙ ap (Three (HFun f) (tree_at s x.types) (tree_at s args)) (a ∙ ap (inst_types r) h.are ∙ sym (result_is t f r (tree_at s x.types) c b))

-- ---- counts
pub count_one : (p : Tree) → sort_of p ≡ Pattern → IsCount p 1
count_one (Leaf h) k = tt
count_one (One HPatVar a) k = refl
count_one (One HPatAlias a) k = refl
count_one (One _ a) k = tt
count_one (Two HCell a b) k = absurd (cc)
count_one (Two _ a b) k = tt
count_one (Three (HPatCon n) a b c) k = refl
count_one (Three _ a b c) k = tt

count_list : (p : Tree) (n : ℕ) → IsList Pattern p → n ≡ length (members p) → IsCount p n
count_list (Leaf h) n l q = tt
count_list (One HPatVar a) n l q = absurd (let k = l.0 in cc)
count_list (One HPatAlias a) n l q = absurd (let k = l.0 in cc)
count_list (One _ a) n l q = tt
count_list (Two HCell a b) n l q = omega (arith, q)
count_list (Two _ a b) n l q = tt
count_list (Three (HPatCon k) a b c) n l q = absurd (let k = l.0 in cc)
count_list (Three _ a b c) n l q = tt

is_list : (a b : Tree) → (sort_of (Two HCell a b) ≡ Pattern) ⊎ IsList Pattern (Two HCell a b) → IsList Pattern (Two HCell a b)
is_list a b (inl q) = absurd (cc)
is_list a b (inr l) = l

projection_count : (v : Vocabulary) (type vars : ℕ) (fs : List Tree) (js : List ℕ) → AreProjections v type vars fs js → length js ≡ length fs
projection_count v type vars [] [] a = refl
projection_count v type vars (f ∷ fs) (j ∷ js) a = ap suc (projection_count v type vars fs js a.1)
projection_count v type vars [] (j ∷ js) a = absurd a
projection_count v type vars (f ∷ fs) [] a = absurd a

-- ---- the parts of a pattern
module _ (s : List Tree) (l : Lookup) (p : TermId) (ts : List TermId) (h : CanAsk s l p ts) where
  pub in_alias : (q : TermId) → Holds s q → tree_at s p ≡ One HPatAlias (tree_at s q) → CanAsk s l q ts × (length ts ≡ 1)
  in_alias q k e =
      let x : TypedUnder (of_task (task_under s l)) h.types (One HPatAlias (tree_at s q)) = subst (TypedUnder (of_task (task_under s l)) h.types) e h.typed in
      let n : length ts ≡ 1 = subst (λ (z : Tree). IsCount z (length ts)) e h.count in (
        record {
          look_held = h.look_held;
          valid = h.valid;
          pattern_held = k;
          sort = inl x.0;
          types = h.types;
          typed = x.2;
          terms_held = h.terms_held;
          count = subst (IsCount (tree_at s q)) (sym n) (count_one (tree_at s q) x.0);
        },
        n,
      )

  pub in_first : (a b : TermId) (t : TermId) (rest : List TermId) → Holds s a → Holds s b → tree_at s p ≡ Two HCell (tree_at s a) (tree_at s b) → ts ≡ t ∷ rest → CanAsk s l a (t ∷ []) × CanAsk s l b rest
  in_first a b t rest ka kb e q =
      let x : TypedUnder (of_task (task_under s l)) h.types (Two HCell (tree_at s a) (tree_at s b)) = subst (TypedUnder (of_task (task_under s l)) h.types) e h.typed in
      let n : length ts ≡ length (members (tree_at s b)) + 1 = subst (λ (z : Tree). IsCount z (length ts)) e h.count in
      let i : IsList Pattern (Two HCell (tree_at s a) (tree_at s b)) = is_list (tree_at s a) (tree_at s b) (subst (λ (z : Tree). (sort_of z ≡ Pattern) ⊎ IsList Pattern z) e h.sort) in
      let k : sort_of (tree_at s a) ≡ Pattern = first_is (sort_of (tree_at s a)) Pattern i.1 in
      let m : IsList Pattern (tree_at s b) = subst (λ (z : Sort). IsListOf z (sort_of (tree_at s b)) (first_sort (tree_at s b))) k x.0.0.1 in
      let held : HoldTerms s (t ∷ rest) = subst (HoldTerms s) q h.terms_held in
      let len : length ts ≡ suc (length rest) = ap length q in (
        record { look_held = h.look_held; valid = h.valid; pattern_held = ka; sort = inl k; types = h.types; typed = x.2; terms_held = (held.0, tt); count = count_one (tree_at s a) k },
        record { look_held = h.look_held; valid = h.valid; pattern_held = kb; sort = inr m; types = h.types; typed = x.3; terms_held = held.1; count = count_list (tree_at s b) (length rest) m (omega (arith, n, len)) },
      )

  module _ (k : ℕ) (a b c : Tree) (e : tree_at s p ≡ Three (HPatCon k) a b c) where
    con_typed : TypedUnder (of_task (task_under s l)) h.types (Three (HPatCon k) a b c)
    con_typed = subst (TypedUnder (of_task (task_under s l)) h.types) e h.typed

    pub con_single : length ts ≡ 1
    con_single = subst (λ (z : Tree). IsCount z (length ts)) e h.count

    pub con_results : All (HasClosedResult (task_under s l)) (k ∷ constructor_projections (task_under s l) k)
    con_results = constructor_results (task_under s l) h.valid k con_typed.1.0

    pub con_kinds : IsList Kind a
    con_kinds = con_typed.0.0

    pub fields_count : length (constructor_projections (task_under s l) k) ≡ length (members b)
    fields_count =
        let t = task_under s l in
        let g = con_pattern t h.valid h.types k a b c con_typed in
        let m : IsMadeCon t k = g.con in
        let f = ap length g.fit in
        ap length (con_projections t h.valid k m) ∙ projection_count (of_task t) m.known.type m.known.vars m.con.fields m.con.projections m.known.is.projections
        ∙ sym (sym (length-map (members b) type_of) ∙ f ∙ length-map m.con.fields (λ z. Some (inst_types z (members a))))

    pub in_parts : (q : TermId) (rs : List TermId) → Holds s q → tree_at s q ≡ b → HoldTerms s rs → length rs ≡ length (constructor_projections (task_under s l) k) → CanAsk s l q rs
    in_parts q rs kq z hr n =
        let x = con_typed in
        record {
          look_held = h.look_held;
          valid = h.valid;
          pattern_held = kq;
          sort = subst (λ (y : Tree). (sort_of y ≡ Pattern) ⊎ IsList Pattern y) (sym z) (inr x.0.1);
          types = h.types;
          typed = subst (TypedUnder (of_task (task_under s l)) h.types) (sym z) x.3;
          terms_held = hr;
          count = subst (λ (y : Tree). IsCount y (length rs)) (sym z) (count_list b (length rs) x.0.1 (n ∙ fields_count));
        }

-- ---- what is made one after another
pub pushed : (sort : Sort) (s s' : List Tree) (g : Grows s s') (ids more : List TermId) (id : TermId) → AreHeldOfSort sort s ids → more ≡ ids ++ id ∷ [] → trees_at s' more ≡ trees_at s ids ++ tree_at s' id ∷ []
pushed sort s s' g ids more id h q =
    ap (trees_at s') q ∙ map-append (tree_at s') ids (id ∷ []) ∙ ap (λ (es : List Tree). es ++ tree_at s' id ∷ []) (trees_stay sort s s' ids g h)

-- the applications of projections at a store
abbrev pub applied_at : List Tree → At → TermId → List ℕ → List Tree
applied_at s x args js = map (λ j. apply_list (task_under s x.look) j (tree_at s x.types) (tree_at s args)) js

pub applied_stay : (s s' : List Tree) (g : Grows s s') (x : At) (args : TermId) (js : List ℕ) → AtHeld s x → Holds s args → applied_at s' x args js ≡ applied_at s x args js
applied_stay s s' g x args js h k =
    ap (λ t. map (λ j. apply_list t j (tree_at s' x.types) (tree_at s' args)) js) (under_later s s' g x.look h.look)
    ∙ ap (λ (e : Tree). map (λ j. apply_list (task_under s x.look) j e (tree_at s' args)) js) (g.same x.types.0 h.types)
    ∙ ap (λ (e : Tree). map (λ j. apply_list (task_under s x.look) j (tree_at s x.types) e) js) (g.same args.0 k)

pub applied_step : (s s1 s2 : List Tree) (g : Grows s s1) (x : At) (args : TermId) (first : ℕ) (rest : List ℕ) (out more new : List TermId) (made : TermId) → AtHeld s x → Holds s args → HoldTerms s out
    → tree_at s1 made ≡ apply_list (task_under s x.look) first (tree_at s x.types) (tree_at s args) → more ≡ out ++ made ∷ [] → trees_at s2 new ≡ trees_at s1 more ++ applied_at s1 x args rest
    → trees_at s2 new ≡ trees_at s out ++ applied_at s x args (first ∷ rest)
applied_step s s1 s2 g x args first rest out more new made h k o e q r =
    r
    ∙ ap (λ (es : List Tree). es ++ applied_at s1 x args rest) (pushed Term s s1 g out more made o q ∙ ap (λ (z : Tree). trees_at s out ++ z ∷ []) e)
    ∙ ap (λ (es : List Tree). (trees_at s out ++ apply_list (task_under s x.look) first (tree_at s x.types) (tree_at s args) ∷ []) ++ es) (applied_stay s s1 g x args rest h k)
    ∙ append_assoc (trees_at s out) (apply_list (task_under s x.look) first (tree_at s x.types) (tree_at s args) ∷ []) (applied_at s x args rest)

pub fields_made : (s s1 s2 : List Tree) (g : Grows s s1) (x : At) (args term : TermId) (js : List ℕ) (new : List TermId) → AtHeld s x → tree_at s1 args ≡ cells (tree_at s term ∷ []) → trees_at s2 new ≡ applied_at s1 x args js
    → trees_at s2 new ≡ fields (task_under s x.look) js (tree_at s x.types) (tree_at s term)
fields_made s s1 s2 g x args term js new h q r =
    r
    ∙ ap (λ t. map (λ j. apply_list t j (tree_at s1 x.types) (tree_at s1 args)) js) (under_later s s1 g x.look h.look)
    ∙ ap (λ (e : Tree). map (λ j. apply_list (task_under s x.look) j e (tree_at s1 args)) js) (g.same x.types.0 h.types)
    ∙ ap (λ (e : Tree). map (λ j. apply_list (task_under s x.look) j (tree_at s x.types) e) js) q

pub rebuilt_made : (s s2 : List Tree) (g : Grows s s2) (x : At) (args : TermId) (k : ℕ) (js : List ℕ) (fs : List Tree) (e term : Tree) → AtHeld s x → e ≡ apply_list (task_under s2 x.look) k (tree_at s2 x.types) (tree_at s2 args)
    → tree_at s2 args ≡ cells fs → fs ≡ fields (task_under s x.look) js (tree_at s x.types) term → e ≡ rebuilt (task_under s x.look) k js (tree_at s x.types) term
rebuilt_made s s2 g x args k js fs e term h q r f =
    q
    ∙ ap (λ t. apply_list t k (tree_at s2 x.types) (tree_at s2 args)) (under_later s s2 g x.look h.look)
    ∙ ap (λ (z : Tree). apply_list (task_under s x.look) k z (tree_at s2 args)) (g.same x.types.0 h.types)
    ∙ ap (apply_list (task_under s x.look) k (tree_at s x.types)) (r ∙ ap cells f)

pub fields_stay : (s s' : List Tree) (g : Grows s s') (look : Lookup) (types term : TermId) (js : List ℕ) → LookupHeld s look → Holds s types → Holds s term
    → fields (task_under s' look) js (tree_at s' types) (tree_at s' term) ≡ fields (task_under s look) js (tree_at s types) (tree_at s term)
fields_stay s s' g look types term js h k l =
    ap (λ t. fields t js (tree_at s' types) (tree_at s' term)) (under_later s s' g look h)
    ∙ ap (λ (e : Tree). fields (task_under s look) js e (tree_at s' term)) (g.same types.0 k)
    ∙ ap (fields (task_under s look) js (tree_at s types)) (g.same term.0 l)

pub equation_is : (t : TaskTree) (k : ℕ) (js : List ℕ) (e l m types s : Tree) → e ≡ Two HEq l m → l ≡ s → m ≡ rebuilt t k js types s → js ≡ constructor_projections t k → e ≡ con_equation t k types s
equation_is t k js e l m types s q a b c = q ∙ ap (λ (z : Tree). Two HEq z m) a ∙ ap (Two HEq s) (b ∙ ap (λ is. rebuilt t k is types s) c)

-- the members of a list of types, put after none
pub members_held : (s store : List Tree) (types : TermId) (old new each : List TermId) → store ≡ s → old ≡ [] → each ≡ new → AreHeldOfSort Kind store new → trees_at store new ≡ trees_at store old ++ members (tree_at store types)
    → AreHeldOfSort Kind s each × (trees_at s each ≡ members (tree_at s types))
members_held s store types old new each p q r h e =
    let h' : AreHeldOfSort Kind s new = subst (λ z. AreHeldOfSort Kind z new) p h in
    let e' : trees_at s new ≡ trees_at s old ++ members (tree_at s types) = subst (λ z. trees_at z new ≡ trees_at z old ++ members (tree_at z types)) p e in
    (subst (AreHeldOfSort Kind s) (sym r) h', ap (trees_at s) r ∙ e' ∙ ap (λ ids. trees_at s ids ++ members (tree_at s types)) q)

-- ---- the cases of a pattern
-- what was made of it, after others
pub record IsMadeOf (s s' : List Tree) (look : Lookup) (p : Tree) (ss : List Tree) (made bound made' bound' : List TermId) : Type 0 where
  pub tests : trees_at s' made' ≡ trees_at s made ++ tests (task_under s look) p ss
  pub terms : trees_at s' bound' ≡ trees_at s bound ++ pattern_terms (task_under s look) p ss

single : (s : List Tree) (ids : List TermId) (d : TermId) → length ids ≡ 1 → trees_at s ids ≡ tree_at s (get_or ids 0 d) ∷ []
single s [] d q = absurd (omega (arith, q))
single s (i ∷ []) d q = refl
single s (i ∷ j ∷ ids) d q = absurd (omega (arith, q))

module _ (s : List Tree) (look : Lookup) (made bound : List TermId) where
  pub nothing_made : (p : Tree) (ss : List Tree) → tests (task_under s look) p ss ≡ [] → pattern_terms (task_under s look) p ss ≡ [] → IsMadeOf s s look p ss made bound made bound
  nothing_made p ss a b = record {
    tests = sym (append-nil (trees_at s made)) ∙ ap (λ (es : List Tree). trees_at s made ++ es) (sym a);
    terms = sym (append-nil (trees_at s bound)) ∙ ap (λ (es : List Tree). trees_at s bound ++ es) (sym b);
  }

  pub variable_made : (p a : Tree) (ts bound' : List TermId) (t d : TermId) → AreHeldBoth s made bound → p ≡ One HPatVar a → length ts ≡ 1 → t ≡ get_or ts 0 d → bound' ≡ bound ++ t ∷ [] → IsMadeOf s s look p (trees_at s ts) made bound made bound'
  variable_made p a ts bound' t d h e n q r =
      let x : trees_at s ts ≡ tree_at s t ∷ [] = single s ts d n ∙ ap (λ i. tree_at s i ∷ []) (sym q) in
      subst (λ (es : List Tree). IsMadeOf s s look p es made bound made bound') (sym x) (subst (λ (z : Tree). IsMadeOf s s look z (tree_at s t ∷ []) made bound made bound') (sym e) (record {
        tests = sym (append-nil (trees_at s made));
        terms = pushed Term s s (Grows_refl s) bound bound' t h.terms r;
      }))

  pub alias_made : (s1 : List Tree) → Grows s s1 → (p a : Tree) (ts made1 bound1 bound2 : List TermId) (t d : TermId) → AreHeldBoth s1 made1 bound1 → Holds s t → p ≡ One HPatAlias a → length ts ≡ 1 → t ≡ get_or ts 0 d → bound2 ≡ bound1 ++ t ∷ []
      → IsMadeOf s s1 look a (trees_at s ts) made bound made1 bound1 → IsMadeOf s s1 look p (trees_at s ts) made bound made1 bound2
  alias_made s1 g p a ts made1 bound1 bound2 t d h k e n q r m =
      let x : trees_at s ts ≡ tree_at s t ∷ [] = single s ts d n ∙ ap (λ i. tree_at s i ∷ []) (sym q) in
      let m' : IsMadeOf s s1 look a (tree_at s t ∷ []) made bound made1 bound1 = subst (λ (es : List Tree). IsMadeOf s s1 look a es made bound made1 bound1) x m in
      subst (λ (es : List Tree). IsMadeOf s s1 look p es made bound made1 bound2) (sym x) (subst (λ (z : Tree). IsMadeOf s s1 look z (tree_at s t ∷ []) made bound made1 bound2) (sym e) (record {
        tests = m'.tests;
        terms =
            pushed Term s1 s1 (Grows_refl s1) bound1 bound2 t h.terms r ∙ ap (λ (es : List Tree). es ++ tree_at s1 t ∷ []) m'.terms
            ∙ append_assoc (trees_at s bound) (pattern_terms (task_under s look) a (tree_at s t ∷ [])) (tree_at s1 t ∷ [])
            ∙ ap (λ (z : Tree). trees_at s bound ++ (pattern_terms (task_under s look) a (tree_at s t ∷ []) ++ z ∷ [])) (g.same t.0 k);
      }))

  pub cell_made : (s1 s2 : List Tree) → Grows s s1 → (p : Tree) (a b t : TermId) (ts rest made1 bound1 made2 bound2 : List TermId) → LookupHeld s look → Holds s b → HoldTerms s rest → p ≡ Two HCell (tree_at s a) (tree_at s b) → ts ≡ t ∷ rest
      → IsMadeOf s s1 look (tree_at s a) (tree_at s t ∷ []) made bound made1 bound1 → IsMadeOf s1 s2 look (tree_at s1 b) (trees_at s1 rest) made1 bound1 made2 bound2 → IsMadeOf s s2 look p (trees_at s ts) made bound made2 bound2
  cell_made s1 s2 g p a b t ts rest made1 bound1 made2 bound2 l k h e q m n =
      let u : task_under s1 look ≡ task_under s look = under_later s s1 g look l in
      let v : tree_at s1 b ≡ tree_at s b = g.same b.0 k in
      let w : trees_at s1 rest ≡ trees_at s rest = trees_stay Term s s1 rest g h in
      let nt : tests (task_under s1 look) (tree_at s1 b) (trees_at s1 rest) ≡ tests (task_under s look) (tree_at s b) (trees_at s rest) =
      ap (λ z. tests z (tree_at s1 b) (trees_at s1 rest)) u ∙ ap (λ (z : Tree). tests (task_under s look) z (trees_at s1 rest)) v ∙ ap (tests (task_under s look) (tree_at s b)) w in
      let nb : pattern_terms (task_under s1 look) (tree_at s1 b) (trees_at s1 rest) ≡ pattern_terms (task_under s look) (tree_at s b) (trees_at s rest) =
      ap (λ z. pattern_terms z (tree_at s1 b) (trees_at s1 rest)) u ∙ ap (λ (z : Tree). pattern_terms (task_under s look) z (trees_at s1 rest)) v ∙ ap (pattern_terms (task_under s look) (tree_at s b)) w in
      subst (λ ids. IsMadeOf s s2 look p (trees_at s ids) made bound made2 bound2) (sym q) (subst (λ (z : Tree). IsMadeOf s s2 look z (trees_at s (t ∷ rest)) made bound made2 bound2) (sym e) (record {
        tests =
            n.tests ∙ ap (λ (es : List Tree). es ++ tests (task_under s1 look) (tree_at s1 b) (trees_at s1 rest)) m.tests ∙ ap (λ (es : List Tree). (trees_at s made ++ tests (task_under s look) (tree_at s a) (tree_at s t ∷ [])) ++ es) nt
            ∙ append_assoc (trees_at s made) (tests (task_under s look) (tree_at s a) (tree_at s t ∷ [])) (tests (task_under s look) (tree_at s b) (trees_at s rest));
        terms =
            n.terms ∙ ap (λ (es : List Tree). es ++ pattern_terms (task_under s1 look) (tree_at s1 b) (trees_at s1 rest)) m.terms ∙ ap (λ (es : List Tree). (trees_at s bound ++ pattern_terms (task_under s look) (tree_at s a) (tree_at s t ∷ [])) ++ es) nb
            ∙ append_assoc (trees_at s bound) (pattern_terms (task_under s look) (tree_at s a) (tree_at s t ∷ [])) (pattern_terms (task_under s look) (tree_at s b) (trees_at s rest));
      }))

  pub con_made : (s1 s2 : List Tree) → Grows s s1 → (k : ℕ) (p types c : Tree) (b t d equation : TermId) (ts fs made1 made2 bound2 : List TermId) → AreHeldBoth s made bound → LookupHeld s look → Holds s b
      → p ≡ Three (HPatCon k) types (tree_at s b) c → length ts ≡ 1 → t ≡ get_or ts 0 d → made1 ≡ made ++ equation ∷ [] → tree_at s1 equation ≡ con_equation (task_under s look) k types (tree_at s t)
      → trees_at s1 fs ≡ fields (task_under s look) (constructor_projections (task_under s look) k) types (tree_at s t)
      → IsMadeOf s1 s2 look (tree_at s1 b) (trees_at s1 fs) made1 bound made2 bound2 → IsMadeOf s s2 look p (trees_at s ts) made bound made2 bound2
  con_made s1 s2 g k p types c b t d equation ts fs made1 made2 bound2 h l kb e n q r x f m =
      let u : task_under s1 look ≡ task_under s look = under_later s s1 g look l in
      let v : tree_at s1 b ≡ tree_at s b = g.same b.0 kb in
      let y : trees_at s ts ≡ tree_at s t ∷ [] = single s ts d n ∙ ap (λ i. tree_at s i ∷ []) (sym q) in
      let rs : List Tree = fields (task_under s look) (constructor_projections (task_under s look) k) types (tree_at s t) in
      let nt : tests (task_under s1 look) (tree_at s1 b) (trees_at s1 fs) ≡ tests (task_under s look) (tree_at s b) rs =
      ap (λ z. tests z (tree_at s1 b) (trees_at s1 fs)) u ∙ ap (λ (z : Tree). tests (task_under s look) z (trees_at s1 fs)) v ∙ ap (tests (task_under s look) (tree_at s b)) f in
      let nb : pattern_terms (task_under s1 look) (tree_at s1 b) (trees_at s1 fs) ≡ pattern_terms (task_under s look) (tree_at s b) rs =
      ap (λ z. pattern_terms z (tree_at s1 b) (trees_at s1 fs)) u ∙ ap (λ (z : Tree). pattern_terms (task_under s look) z (trees_at s1 fs)) v ∙ ap (pattern_terms (task_under s look) (tree_at s b)) f in
      let first : trees_at s1 made1 ≡ trees_at s made ++ con_equation (task_under s look) k types (tree_at s t) ∷ [] = pushed _ s s1 g made made1 equation h.tests r ∙ ap (λ (z : Tree). trees_at s made ++ z ∷ []) x in
      subst (λ (es : List Tree). IsMadeOf s s2 look p es made bound made2 bound2) (sym y) (subst (λ (z : Tree). IsMadeOf s s2 look z (tree_at s t ∷ []) made bound made2 bound2) (sym e) (record {
        tests =
            m.tests ∙ ap (λ (es : List Tree). es ++ tests (task_under s1 look) (tree_at s1 b) (trees_at s1 fs)) first ∙ ap (λ (es : List Tree). (trees_at s made ++ con_equation (task_under s look) k types (tree_at s t) ∷ []) ++ es) nt
            ∙ append_assoc (trees_at s made) (con_equation (task_under s look) k types (tree_at s t) ∷ []) (tests (task_under s look) (tree_at s b) rs);
        terms = m.terms ∙ ap (λ (es : List Tree). es ++ pattern_terms (task_under s1 look) (tree_at s1 b) (trees_at s1 fs)) (trees_stay Term s s1 bound g h.terms) ∙ ap (λ (es : List Tree). trees_at s bound ++ es) nb;
      }))

-- ---- the first term
pub first_held : (sort : Sort) (s : List Tree) (ids : List TermId) (t : TermId) → AreHeldOfSort sort s ids → length ids ≡ 1 → t ≡ get_or ids 0 t → Holds s t × (sort_of (tree_at s t) ≡ sort)
first_held sort s [] t h n q = absurd (omega (arith, n))
first_held sort s (i ∷ ids) t h n q = rw q h.0

pub var_single : (s : List Tree) (l : Lookup) (p : TermId) (ts : List TermId) (a : Tree) → CanAsk s l p ts → tree_at s p ≡ One HPatVar a → length ts ≡ 1
var_single s l p ts a h e = subst (λ (z : Tree). IsCount z (length ts)) e h.count

pub cell_some : (s : List Tree) (l : Lookup) (p : TermId) (ts : List TermId) (a b : Tree) → CanAsk s l p ts → tree_at s p ≡ Two HCell a b → 0 < length ts
cell_some s l p ts a b h e = let n : length ts ≡ length (members b) + 1 = subst (λ (z : Tree). IsCount z (length ts)) e h.count in omega (arith, n)

-- what is no cell has no members
pub no_members : (s : List Tree) (n : Node) → ((a b : TermId) → n ≡ node.Cell a b → ⊥) → members (node_tree s n) ≡ []
no_members s (node.Cell a b) l = absurd (l a b refl)
no_members s _ l = refl

-- what is of no form that has parts has no tests and no variables
pub no_part : (t : TaskTree) (s : List Tree) (n : Node) (ss : List Tree) → ((a : TermId) → n ≡ node.PatVar a → ⊥) → ((a : TermId) → n ≡ node.PatAlias a → ⊥) → ((a b : TermId) → n ≡ node.Cell a b → ⊥) → ((k : ℕ) (a b c : TermId) → n ≡ node.PatCon k a b c → ⊥)
    → (tests t (node_tree s n) ss ≡ []) × (pattern_terms t (node_tree s n) ss ≡ [])
no_part t s (node.PatVar a) ss v i l c = absurd (v a refl)
no_part t s (node.PatAlias a) ss v i l c = absurd (i a refl)
no_part t s (node.Cell a b) ss v i l c = absurd (l a b refl)
no_part t s (node.PatCon k a b d) ss v i l c = absurd (c k a b d refl)
no_part t s _ ss v i l c = (refl, refl)

pub fields_length : (s s' : List Tree) (ids : List TermId) (t : TaskTree) (js : List ℕ) (types term : Tree) → trees_at s' ids ≡ fields t js types term → length ids ≡ length js
fields_length s s' ids t js types term q = sym (length-map ids (tree_at s')) ∙ ap length q ∙ length-map js (λ j. field t j types term)

pub on_ok_both : {T E : Type 0} (P Q : Type 0) (r : Result T E) → OnOk r P → OnOk r Q → OnOk r (P × Q)
on_ok_both P Q (Ok x) p q = (p, q)
on_ok_both P Q (Err e) p q = tt
