-- In a valid task the test of a typed pattern is a typed formula, and the terms for its variables are terms of their types.
use Rattle.std.proofs.Common.{◌≡◌, ℕ, zero, suc, ◌+◌, ◌-◌, ◌<◌, ◌≤◌, ◌⊎◌, inl, inr, IsSomeAnd, List, [], ◌∷◌, ◌++◌, map, length, get_or, slice_get, Option, Some, None, option_map, subst, refl, sym, ap, ◌∙◌, arith}
use Rattle.std.proofs.lemmas.Bool.{cases_lt}
use Rattle.std.proofs.lemmas.Option.{slice_get-get_or}
use Rattle.trees.specs.declared.Sort.{Sort}
use Rattle.trees.specs.declared.Sort.TheVariants.{Term, Formula, Pattern}
use Rattle.trees.specs.Tree.{Tree, Leaf, One, Two, Three, Head, HCell, HArm, HEq, HPatVar, HPatAlias, HPatCon, head_of}
use Rattle.trees.specs.Sorts.{sort_of, type_of, yield, yield_type, top_sort, top_type, first_sort, IsListOf, IsList}
use Rattle.trees.specs.Binding.{inst_types}
use Rattle.trees.specs.Facts.{Each}
use Rattle.trees.proofs.Many.{left_at, right_at, length_joined}
use Rattle.tasks.specs.Task.{TaskTree, SymbolTree, int_symbol, symbol_or}
use Rattle.tasks.specs.declared.signature.SymbolKind.TheVariants.{Constructor}
use Rattle.tasks.specs.Vocabulary.{Vocabulary, of_task}
use Rattle.tasks.specs.Typing.{members, IsUse, HasResult, TypedUnder, pattern_types, option_list}
use Rattle.tasks.specs.Conjunctions.{conjunction}
use Rattle.tasks.specs.MatchTests.{fields, rebuilt, constructor_projections, tests, test, pattern_terms, bind}
use Rattle.tasks.specs.Valid.{IsValid, own_type}
use Rattle.tasks.specs.typed_trees.instances.Instances.{AreFor}
use Rattle.images.specs.OpenTerms.{AreOpenFor}
use Rattle.images.proofs.Images.{ArePatterns}
use Rattle.images.proofs.Templates.{term_has_type}
use Rattle.images.proofs.Slices.{slice_front, slice_after}
use Rattle.images.proofs.Constructors.{IsMadeCon, made_con, con_projections}
use Rattle.images.proofs.DataTerms.{IsTermUnder, con_fields_typed, con_fields_types, equation_typed}

-- ---- terms for the innermost variables
module _ (v : Vocabulary) (types : List Tree) where
  open_nil : AreOpenFor v types [] []
  open_nil = record { as_many = refl; each = λ i k ty e q n. absurd (omega arith) }

  open_one : (ty s : Tree) → IsTermUnder v types s → type_of s ≡ Some ty → AreOpenFor v types (ty ∷ []) (s ∷ [])
  open_one ty s h q = record { as_many = refl; each = by }
    where
      by : (i k : ℕ) (u e : Tree) → slice_get (ty ∷ []) i ≡ Some u → i + k + 1 ≡ 1 → (sort_of (get_or (s ∷ []) k e) ≡ Term) × ((type_of (get_or (s ∷ []) k e) ≡ Some u) × TypedUnder v types (get_or (s ∷ []) k e))
      by zero zero u e g n = (h.0, (q ∙ g, h.1))
      by zero (suc k) u e g n = absurd (omega arith)
      by (suc i) k u e g n = absurd (omega arith)

  open_join : (xs ts ys us : List Tree) → AreOpenFor v types xs ts → AreOpenFor v types ys us → AreOpenFor v types (ys ++ xs) (ts ++ us)
  open_join xs ts ys us a b = record { as_many = omega (arith, length_joined ts us, length_joined ys xs, a.as_many, b.as_many); each = λ i k ty e q n. by i k ty e q n (cases_lt i (length ys)) }
    where
      by : (i k : ℕ) (ty e : Tree) → slice_get (ys ++ xs) i ≡ Some ty → i + k + 1 ≡ length (ts ++ us) → (i < length ys) ⊎ (length ys ≤ i)
          → (sort_of (get_or (ts ++ us) k e) ≡ Term) × ((type_of (get_or (ts ++ us) k e) ≡ Some ty) × TypedUnder v types (get_or (ts ++ us) k e))
      by i k ty e q n (inl l) =
          let z = length_joined ts us in
          let r : k ≡ length ts + (k - length ts) = omega (arith, z, n, b.as_many) in
          let w = b.each i (k - length ts) ty e (sym (slice_front ys xs i l) ∙ q) (omega (arith, z, n, b.as_many)) in
          subst (λ (s : Tree). (sort_of s ≡ Term) × ((type_of s ≡ Some ty) × TypedUnder v types s)) (sym (right_at ts us k (k - length ts) e r)) w
      by i k ty e q n (inr l) =
          let z = length_joined ts us in
          let r : i ≡ length ys + (i - length ys) = omega (arith, l) in
          let w = a.each (i - length ys) k ty e (sym (slice_after ys xs i (i - length ys) r) ∙ q) (omega (arith, z, n, l, a.as_many, b.as_many)) in
          subst (λ (s : Tree). (sort_of s ≡ Term) × ((type_of s ≡ Some ty) × TypedUnder v types s)) (sym (left_at ts us k e (omega (arith, z, n, l, b.as_many)))) w

-- ---- conjunctions
abbrev pub IsFormulaUnder : Vocabulary → List Tree → Tree → Type 0
IsFormulaUnder v types e = (sort_of e ≡ Formula) × TypedUnder v types e

pub conjunction_typed : (v : Vocabulary) (types es : List Tree) → Each (IsFormulaUnder v types) es → IsFormulaUnder v types (conjunction es)
conjunction_typed v types [] h = (refl, (tt, tt))
conjunction_typed v types (a ∷ []) h = h.0
conjunction_typed v types (a ∷ b ∷ es) h = let r = conjunction_typed v types (b ∷ es) h.1 in (refl, (((h.0.0, r.0), tt), tt, h.0.1, r.1))

each_joined : (P : Tree → Type 0) (xs ys : List Tree) → Each P xs → Each P ys → Each P (xs ++ ys)
each_joined P [] ys a b = b
each_joined P (x ∷ xs) ys a b = (a.0, each_joined P xs ys a.1 b)

-- ---- terms of a pattern's types
abbrev Suit : Tree → List Tree → Type 0
Suit (One HPatVar a) ss = map type_of ss ≡ Some a ∷ []
Suit (One HPatAlias a) ss = map type_of ss ≡ type_of (One HPatAlias a) ∷ []
Suit (Two HCell a b) ss = map type_of ss ≡ type_of a ∷ map type_of (members b)
Suit (Three (HPatCon k) a b c) ss = map type_of ss ≡ Some c ∷ []
Suit _ ss = Unit {0}

suit_one : (p : Tree) (ss : List Tree) → sort_of p ≡ Pattern → map type_of ss ≡ type_of p ∷ [] → Suit p ss
suit_one (Leaf h) ss k q = tt
suit_one (One HPatVar a) ss k q = q
suit_one (One HPatAlias a) ss k q = q
suit_one (One _ a) ss k q = tt
suit_one (Two HCell a b) ss k q = absurd (cc)
suit_one (Two _ a b) ss k q = tt
suit_one (Three (HPatCon n) a b c) ss k q = q
suit_one (Three _ a b c) ss k q = tt

suit_list : (p : Tree) (ss : List Tree) → IsList Pattern p → map type_of ss ≡ map type_of (members p) → Suit p ss
suit_list (Leaf h) ss l q = tt
suit_list (One HPatVar a) ss l q = absurd (let k = l.0 in cc)
suit_list (One HPatAlias a) ss l q = absurd (let k = l.0 in cc)
suit_list (One _ a) ss l q = tt
suit_list (Two HCell a b) ss l q = q
suit_list (Two _ a b) ss l q = tt
suit_list (Three (HPatCon n) a b c) ss l q = absurd (let k = l.0 in cc)
suit_list (Three _ a b c) ss l q = tt

top_pattern : (h : Head) (s : Sort) (o : Option Tree) → top_sort h s ≡ Pattern → top_type h o ≡ o
top_pattern HCell s o q = absurd (cc)
top_pattern HArm s o q = absurd (cc)
top_pattern _ s o q = refl

pub one_typed_as : (ss : List Tree) (o : Option Tree) → map type_of ss ≡ o ∷ [] → (s : Tree) × ((ss ≡ s ∷ []) × (type_of s ≡ o))
one_typed_as [] o q = absurd (cc)
one_typed_as (s ∷ []) o q = (s, (refl, cc))
one_typed_as (s ∷ r ∷ ss) o q = absurd (cc)

-- ---- the walk of a pattern
module _ (t : TaskTree) (valid : IsValid t) (types : List Tree) where
  pub record AreMade (p : Tree) (ss : List Tree) : Type 0 where
    pub tests : Each (IsFormulaUnder (of_task t) types) (tests t p ss)
    pub terms : AreOpenFor (of_task t) types (pattern_types p) (pattern_terms t p ss)

  -- what is known of a constructor's pattern
  pub record IsConPattern (k : ℕ) (a p c : Tree) : Type 0 where
    pub con : IsMadeCon t k
    pub count : length (members a) ≡ con.known.vars
    pub type : Some c ≡ Some (inst_types (own_type con.known.type con.known.vars) (members a))
    pub fit : map type_of (members p) ≡ map (λ z. Some (inst_types z (members a))) con.con.fields

  pub con_pattern : (k : ℕ) (a p c : Tree) → TypedUnder (of_task t) types (Three (HPatCon k) a p c) → IsConPattern k a p c
  con_pattern k a p c x =
      let m : IsMadeCon t k = made_con t valid k x.1.0 in
      let is = m.known.is in
      let l : k < length t.symbols = subst (λ (n : ℕ). n < length t.symbols) m.symbol is.signature.entry in
      let h : (Constructor ≡ Constructor) × (IsUse (symbol_or t.symbols k) a p × HasResult (symbol_or t.symbols k) a c) =
      (let g = subst (λ (o : Option SymbolTree). IsSomeAnd o (λ e. (e.kind ≡ Constructor) × IsUse e a p × HasResult e a c)) (slice_get-get_or t.symbols k int_symbol l) x.1.1 in (refl, (g.1, g.2))) in
      let same : symbol_or t.symbols m.con.symbol ≡ symbol_or t.symbols k = ap (symbol_or t.symbols) m.symbol in
      let vars : (symbol_or t.symbols k).vars ≡ m.known.vars = sym (ap (λ (e : SymbolTree). e.vars) same) ∙ is.vars_are in
      let args : (symbol_or t.symbols k).args ≡ m.con.fields = sym (ap (λ (e : SymbolTree). e.args) same) ∙ is.args in
      let result : (symbol_or t.symbols k).result ≡ Some (own_type m.known.type m.known.vars) = sym (ap (λ (e : SymbolTree). e.result) same) ∙ is.result in
      record {
        con = m;
        count = h.1.0.as_many ∙ vars;
        type = sym h.1.1 ∙ ap (option_map (λ (r : Tree). inst_types r (members a))) result;
        fit = h.1.0.fit ∙ ap (map (λ (z : Tree). Some (inst_types z (members a)))) args;
      }

  var_made : (a : Tree) (ss : List Tree) → Each (IsTermUnder (of_task t) types) ss → map type_of ss ≡ Some a ∷ [] → AreMade (One HPatVar a) ss
  var_made a ss e q = by (one_typed_as ss (Some a) q) e
    where
      by : (s : Tree) × ((ss ≡ s ∷ []) × (type_of s ≡ Some a)) → Each (IsTermUnder (of_task t) types) ss → AreMade (One HPatVar a) ss
      by o e =
          let e' : Each (IsTermUnder (of_task t) types) (o.0 ∷ []) = subst (Each (IsTermUnder (of_task t) types)) o.1.0 e in
          subst (AreMade (One HPatVar a)) (sym o.1.0) (record { tests = tt; terms = open_one (of_task t) types a o.0 e'.0 o.1.1 })

  alias_made : (p : Tree) (ss : List Tree) → Each (IsTermUnder (of_task t) types) ss → sort_of p ≡ Pattern → map type_of ss ≡ type_of (One HPatAlias p) ∷ [] → AreMade p ss → AreMade (One HPatAlias p) ss
  alias_made p ss e k q m = by (one_typed_as ss (type_of (One HPatAlias p)) q) e m
    where
      by : (s : Tree) × ((ss ≡ s ∷ []) × (type_of s ≡ type_of (One HPatAlias p))) → Each (IsTermUnder (of_task t) types) ss → AreMade p ss → AreMade (One HPatAlias p) ss
      by o e m =
          let s : Tree = o.0 in
          let e' : Each (IsTermUnder (of_task t) types) (s ∷ []) = subst (Each (IsTermUnder (of_task t) types)) o.1.0 e in
          let m' : AreMade p (s ∷ []) = subst (AreMade p) o.1.0 m in
          let h = term_has_type (of_task t) types s e'.0.0 e'.0.1 in
          let g : type_of p ≡ Some h.0 = top_pattern (head_of p) (yield p) (yield_type p) k ∙ sym o.1.1 ∙ h.1 in
          subst (AreMade (One HPatAlias p)) (sym o.1.0) (record {
            tests = m'.tests;
            terms = subst (λ (z : Option Tree). AreOpenFor (of_task t) types (option_list z ++ pattern_types p) (pattern_terms t p (s ∷ []) ++ s ∷ [])) (sym g)
                (open_join (of_task t) types (pattern_types p) (pattern_terms t p (s ∷ [])) (h.0 ∷ []) (s ∷ []) m'.terms (open_one (of_task t) types h.0 s e'.0 h.1));
          })

  con_one : (k : ℕ) (a p c s : Tree) → TypedUnder (of_task t) types (Three (HPatCon k) a p c) → IsTermUnder (of_task t) types s → type_of s ≡ Some c
      → ((rs : List Tree) → Each (IsTermUnder (of_task t) types) rs → Suit p rs → AreMade p rs) → AreMade (Three (HPatCon k) a p c) (s ∷ [])
  con_one k a p c s x e q f =
      let g : IsConPattern k a p c = con_pattern k a p c x in
      let m : IsMadeCon t k = g.con in
      let n = m.known in
      let typed : type_of s ≡ Some (inst_types (own_type n.type n.vars) (members a)) = q ∙ g.type in
      let js : constructor_projections t k ≡ m.con.projections = con_projections t valid k m in
      let rs : List Tree = fields t m.con.projections a s in
      let each : Each (IsTermUnder (of_task t) types) rs = con_fields_typed t types a x.0.0 x.2 n.type n.vars s g.count e typed m.con n.is n.made in
      let tys : map type_of rs ≡ map (λ z. Some (inst_types z (members a))) m.con.fields = con_fields_types t types a x.0.0 x.2 n.type n.vars s g.count e typed m.con n.is n.made in
      let inner : AreMade p rs = f rs each (suit_list p rs x.0.1 (tys ∙ sym g.fit)) in
      let equation : TypedUnder (of_task t) types (Two HEq s (rebuilt t m.con.symbol m.con.projections a s)) = equation_typed t types a x.0.0 x.2 n.type n.vars s g.count e typed m.con n.is n.made in
      record {
        tests = (
          (refl, subst (λ (i : ℕ). TypedUnder (of_task t) types (Two HEq s (rebuilt t i (constructor_projections t k) a s))) m.symbol (subst (λ (is : List ℕ). TypedUnder (of_task t) types (Two HEq s (rebuilt t m.con.symbol is a s))) (sym js) equation)),
          subst (λ (is : List ℕ). Each (IsFormulaUnder (of_task t) types) (tests t p (fields t is a s))) (sym js) inner.tests,
        );
        terms = subst (λ (is : List ℕ). AreOpenFor (of_task t) types (pattern_types p) (pattern_terms t p (fields t is a s))) (sym js) inner.terms;
      }

  con_made : (k : ℕ) (a p c : Tree) (ss : List Tree) → TypedUnder (of_task t) types (Three (HPatCon k) a p c) → Each (IsTermUnder (of_task t) types) ss → map type_of ss ≡ Some c ∷ []
      → ((rs : List Tree) → Each (IsTermUnder (of_task t) types) rs → Suit p rs → AreMade p rs) → AreMade (Three (HPatCon k) a p c) ss
  con_made k a p c ss x e q f = by (one_typed_as ss (Some c) q) e
    where
      by : (s : Tree) × ((ss ≡ s ∷ []) × (type_of s ≡ Some c)) → Each (IsTermUnder (of_task t) types) ss → AreMade (Three (HPatCon k) a p c) ss
      by o e =
          let e' : Each (IsTermUnder (of_task t) types) (o.0 ∷ []) = subst (Each (IsTermUnder (of_task t) types)) o.1.0 e in
          subst (AreMade (Three (HPatCon k) a p c)) (sym o.1.0) (con_one k a p c o.0 x e'.0 o.1.1 f)

  nothing_made : (p : Tree) (ss : List Tree) → tests t p ss ≡ [] → pattern_terms t p ss ≡ [] → pattern_types p ≡ [] → AreMade p ss
  nothing_made p ss a b c = record {
    tests = subst (Each (IsFormulaUnder (of_task t) types)) (sym a) tt;
    terms = subst (λ (es : List Tree). AreOpenFor (of_task t) types (pattern_types p) es) (sym b) (subst (λ (es : List Tree). AreOpenFor (of_task t) types es []) (sym c) (open_nil (of_task t) types));
  }

  pub made_all : (p : Tree) (ss : List Tree) → TypedUnder (of_task t) types p → ArePatterns p → Each (IsTermUnder (of_task t) types) ss → Suit p ss → AreMade p ss
  made_all (Leaf h) ss x k e f = nothing_made (Leaf h) ss refl refl refl
  made_all (One HPatVar a) ss x k e f = var_made a ss e f
  made_all (One HPatAlias a) ss x k e f =
      let g : map type_of ss ≡ type_of a ∷ [] = f ∙ ap (λ (o : Option Tree). o ∷ []) (sym (top_pattern (head_of a) (yield a) (yield_type a) x.0)) in
      alias_made a ss e x.0 f (made_all a ss x.2 (inl x.0) e (suit_one a ss x.0 g))
  made_all (One h a) ss x k e f = nothing_made (One h a) ss refl refl refl
  made_all (Two HCell a b) [] x k e f = absurd (cc)
  made_all (Two HCell a b) (s ∷ ss) x k e f =
      let l : IsList Pattern (Two HCell a b) = list_of a b k in
      let p : sort_of a ≡ Pattern = first_pattern (sort_of a) l.1 in
      let first : type_of s ≡ type_of a = cc in
      let more : map type_of ss ≡ map type_of (members b) = cc in
      let lb : IsList Pattern b = subst (λ (z : Sort). IsListOf z (sort_of b) (first_sort b)) p x.0.0.1 in
      let m : AreMade a (s ∷ []) = made_all a (s ∷ []) x.2 (inl p) (e.0, tt) (suit_one a (s ∷ []) p (ap (λ (o : Option Tree). o ∷ []) first)) in
      let n : AreMade b ss = made_all b ss x.3 (inr lb) e.1 (suit_list b ss lb more) in
      record {
        tests = each_joined (IsFormulaUnder (of_task t) types) (tests t a (s ∷ [])) (tests t b ss) m.tests n.tests;
        terms = open_join (of_task t) types (pattern_types a) (pattern_terms t a (s ∷ [])) (pattern_types b) (pattern_terms t b ss) m.terms n.terms;
      }
    where
      list_of : (a b : Tree) → ArePatterns (Two HCell a b) → IsList Pattern (Two HCell a b)
      list_of a b (inl q) = absurd (cc)
      list_of a b (inr l) = l

      first_pattern : (s : Sort) → (Some s ≡ None) ⊎ (Some s ≡ Some Pattern) → s ≡ Pattern
      first_pattern s (inl q) = absurd (cc)
      first_pattern s (inr q) = cc
  made_all (Two h a b) ss x k e f = nothing_made (Two h a b) ss refl refl refl
  made_all (Three (HPatCon k) a p c) ss x l e f = con_made k a p c ss x e f (λ rs z w. made_all p rs x.3 (inr x.0.1) z w)
  made_all (Three h a b c) ss x k e f = nothing_made (Three h a b c) ss refl refl refl

  -- a pattern, asked of a term of its type
  pub made_of : (p s : Tree) → sort_of p ≡ Pattern → TypedUnder (of_task t) types p → sort_of s ≡ Term → TypedUnder (of_task t) types s → type_of s ≡ type_of p → AreMade p (s ∷ [])
  made_of p s k x j y q = made_all p (s ∷ []) x (inl k) ((j, y), tt) (suit_one p (s ∷ []) k (ap (λ (o : Option Tree). o ∷ []) q))

  pub test_typed : (p s : Tree) → AreMade p (s ∷ []) → IsFormulaUnder (of_task t) types (test t p s)
  test_typed p s m = conjunction_typed (of_task t) types (tests t p (s ∷ [])) m.tests

-- of a closed term
pub closed_for_terms : (t : TaskTree) → IsValid t → (p s : Tree) → sort_of p ≡ Pattern → TypedUnder (of_task t) [] p → sort_of s ≡ Term → TypedUnder (of_task t) [] s → type_of s ≡ type_of p → AreFor (of_task t) (pattern_types p) (bind t p s)
closed_for_terms t valid p s k x j y q =
    let m = (made_of t valid [] p s k x j y q).terms in
    record { as_many = m.as_many; each = λ i n ty e g l. let w = m.each i n ty e g l in record { sort = w.0; typed = w.1.1; type = w.1.0 } }
