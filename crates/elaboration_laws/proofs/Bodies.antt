-- The bodies of a group, or the clauses of inductive predicates, are well typed, each with its own type variables alone.
use Rattle.std.proofs.Common.{◌≡◌, Bool, cond, nat_lt, ℕ, ◌<◌, ◌≤◌, suc, true, false, List, [], ◌∷◌, ◌++◌, map, reverse, length, get_or, All, Option, Some, None, IfSome, option_map, refl, sym, ap, subst, ◌∙◌, arith}
use Rattle.std.specs.Option.{is_some, is_none}
use Rattle.std.specs.List.{AllByRecursion}
use Rattle.std.proofs.lemmas.List.Elements.{All-nil, All-cons}
use mathlib.Core.List.{reverse-cons}
use Rattle.elab_groups.specs.trees.Tree.{Tree, Leaf, One, Two, Three, Head, HTyVar}
use Rattle.elab_groups.specs.trees.Sorts.{int_type}
use Rattle.elab_groups.specs.trees.Facts.{IndicesFit}
use Rattle.elab_groups.specs.tasks.Task.{SymbolTree}
use Rattle.elab_groups.specs.tasks.Vocabulary.{Vocabulary}
use Rattle.elab_groups.specs.tasks.Valid.{IsTypeIn, VariablesBelow}
use Rattle.elab_groups.proofs.tasks.Closing.{typed_sorted}
use Rattle.elab_groups.specs.open_types.unify_types.Assigned.{Variable, assign}
use Rattle.elab_groups.specs.open_types.unify_types.Pairs.{IsKind, SolvesAll}
use Rattle.elab_groups.proofs.open_types.unify_types.Assigning.{assign-rigid, assign-unknown}
use Rattle.elab_groups.specs.surface.Lexeme.{Word}
use Rattle.elab_groups.specs.name_resolution.Abstract.{Expression}
use Rattle.elab_groups.specs.name_resolution.Faults.{fault}
use Rattle.elab_groups.specs.name_resolution.Where.{Where, NamesTree}
use Rattle.elab_groups.specs.name_resolution.variables.Seen.{SeenTree, has_width, type_seen}
use Rattle.elab_groups.specs.open_types.Patterns.{LocalTree}
use Rattle.elab_groups.specs.open_types.Pieces.{piece, unknown_after, names}
use Rattle.elab_groups.specs.open_types.Scoped.{IsScoped}
use Rattle.elab_groups.proofs.open_types.Below.{below_more}
use Rattle.elab_groups.specs.parts.Elaborated.{matches_assigned}
use Rattle.elab_groups.specs.parts.Entries.{tuple_in}
use Rattle.elab_groups.specs.parts.Declarations.{Parameter, GroupMember, params_seen}
use Rattle.elab_groups.specs.parts.Outcomes.{over}
use Rattle.elab_declarations.specs.elab_groups.members.Members.{SignatureTree, words_of_parameters, body_seen, members_seen, body_fault}
use Rattle.elab_declarations.specs.elab_groups.members.Sources.{AreResolved}
use Rattle.elab_declarations.specs.elab_groups.Bodies.{AreDefined}
use Rattle.elab_declarations.specs.elab_groups.Groups.{typed_locals, body_piece, member_piece, member_pieces, most_variables, pieces_notes, pieces_trees, BodiesSolved}
use Rattle.elaboration_laws.specs.Typed.{IsTypedIn, IsPatternOf, ArePatterns, local_types, assigned_types}
use Rattle.elaboration_laws.specs.Signature.{with_entries, IsWellFormed, HasTuple}
use Rattle.elaboration_laws.specs.Scopes.{IsTypedSignature, AreTypedScopes}
use Rattle.elaboration_laws.proofs.Over.{IsOver, type_over, over_good, over_assigned}
use Rattle.elaboration_laws.proofs.Signed.{int_over}
use Rattle.elaboration_laws.proofs.Forms.{TypedAs}
use Rattle.elaboration_laws.proofs.Fixed.{closed}
use Rattle.elaboration_laws.proofs.Sound.{LocalsOver, WantedOver, IsPatternAt, ArePatternsAt, AreNoted, none_noted, both_noted, IsSound, first_solved, rest_solved}
use Rattle.elaboration_laws.proofs.Alternatives.{names_reverse}
use Rattle.elaboration_laws.proofs.Expressions.{sound, reversed_over}
use Rattle.elaboration_laws.proofs.Solutions.{own_same, kept, kept_over, kept_kind, kept_solves}
use Rattle.elaboration_laws.proofs.Widths.{IsWithin, type_grows, grows, form_grows, tuples_seen}
use Rattle.elaboration_laws.proofs.Scopes.{over_well_formed}
use Rattle.elaboration_laws.proofs.Tuples.{tuple_of}
use Rattle.elaboration_laws.proofs.Settings.{of_below, over_scoped}
use Rattle.elaboration_laws.proofs.Owned.{leaf_in, VariablesIn, LocalsIn, EquationsIn, Takes, PieceIn, below_in, reversed_in, owned}
use Rattle.elab_groups.specs.trees.laws.Indices.{ltb_true as test_lt, ltb_false as test_le}
use Rattle.elab_groups.proofs.tasks.TypeInstances.{below as below_of}

-- ---- what is seen stays
pub params_grow : (ps : List Parameter) (s : SeenTree) → IsWithin s (params_seen s ps)
params_grow [] s = λ n z. z
params_grow (p ∷ ps) s = λ n z. params_grow ps _ n (form_grows p.of_type s n z)

pub body_grows : (b : Option Expression) (s : SeenTree) → IsWithin s (body_seen s b)
body_grows None s = λ n z. z
body_grows (Some e) s = grows e s

pub members_grow : (ms : List GroupMember) (s : SeenTree) → IsWithin s (members_seen s ms)
members_grow [] s = λ n z. z
members_grow (m ∷ ms) s = λ n z.
    members_grow ms _ n (body_grows m.body (type_seen (params_seen s m.params) m.result) n (type_grows m.result (params_seen s m.params) n (params_grow m.params s n z)))

-- each body is among what is seen
abbrev pub BodiesSeen : SeenTree → List GroupMember → Type 0
BodiesSeen all [] = Unit {0}
BodiesSeen all (m ∷ ms) = ((u : SeenTree) × IsWithin (body_seen u m.body) all) × BodiesSeen all ms

pub bodies_seen : (all : SeenTree) (ms : List GroupMember) (u : SeenTree) → IsWithin (members_seen u ms) all → BodiesSeen all ms
bodies_seen all [] u g = tt
bodies_seen all (m ∷ ms) u g =
    let one = type_seen (params_seen u m.params) m.result in
    let two = body_seen one m.body in
    ((one, λ n z. g n (members_grow ms two n z)), bodies_seen all ms two g)

-- ---- parameters as variables
locals_names : (xs : List Word) (ts : List Tree) → length ts ≡ length xs → names (typed_locals xs ts) ≡ xs
locals_names [] ts q = refl
locals_names (x ∷ xs) [] q = absurd (cc)
locals_names (x ∷ xs) (t ∷ ts) q = ap (λ (r : List Word). x ∷ r) (locals_names xs ts (omega (arith, q)))

locals_types : (xs : List Word) (ts : List Tree) → length ts ≡ length xs → local_types (typed_locals xs ts) ≡ ts
locals_types [] [] q = refl
locals_types [] (t ∷ ts) q = absurd (cc)
locals_types (x ∷ xs) [] q = absurd (cc)
locals_types (x ∷ xs) (t ∷ ts) q = ap (λ (r : List Tree). t ∷ r) (locals_types xs ts (omega (arith, q)))

types_both : (xs ys : List LocalTree) → local_types (xs ++ ys) ≡ local_types xs ++ local_types ys
types_both [] ys = refl
types_both (x ∷ xs) ys = ap (λ (r : List Tree). x.type ∷ r) (types_both xs ys)

types_reverse : (xs : List LocalTree) → local_types (reverse xs) ≡ reverse (local_types xs)
types_reverse [] = refl
types_reverse (x ∷ xs) = rw (reverse-cons x xs, reverse-cons x.type (local_types xs)) (types_both (reverse xs) (x ∷ []) ∙ ap (λ (r : List Tree). r ++ x.type ∷ []) (types_reverse xs))

params_over : (v : Vocabulary) (n : ℕ) (xs : List Word) (ts : List Tree) → All (IsTypeIn v n) ts → LocalsOver v (typed_locals xs ts)
params_over v n [] ts a = tt
params_over v n (x ∷ xs) [] a = tt
params_over v n (x ∷ xs) (t ∷ ts) a = (type_over v n t (a 0 t (omega arith)), params_over v n xs ts (λ k d l. a (suc k) d (omega arith)))

result_over : (v : Vocabulary) (n : ℕ) (r : Option Tree) → IfSome r (IsTypeIn v n) → WantedOver v r
result_over v n None x = tt
result_over v n (Some t) x = type_over v n t x

locals_kept : (r : ℕ) (f : ℕ → Tree) (v : Vocabulary) (xs : List Word) (ts : List Tree) → All (IsTypeIn v r) ts → assigned_types r f (typed_locals xs ts) ≡ local_types (typed_locals xs ts)
locals_kept r f v [] ts a = refl
locals_kept r f v (x ∷ xs) [] a = refl
locals_kept r f v (x ∷ xs) (t ∷ ts) a = let y : IsTypeIn v r t = a 0 t (omega arith) in cc (own_same r f t y.variables, locals_kept r f v xs ts (λ k d l. a (suc k) d (omega arith)))

at_both : (r : ℕ) (f : ℕ → Tree) (xs ys : List LocalTree) → assigned_types r f (xs ++ ys) ≡ assigned_types r f xs ++ assigned_types r f ys
at_both r f [] ys = refl
at_both r f (x ∷ xs) ys = ap (λ (l : List Tree). assign r f x.type ∷ l) (at_both r f xs ys)

at_reverse : (r : ℕ) (f : ℕ → Tree) (xs : List LocalTree) → assigned_types r f (reverse xs) ≡ reverse (assigned_types r f xs)
at_reverse r f [] = refl
at_reverse r f (x ∷ xs) = rw (reverse-cons x xs, reverse-cons (assign r f x.type) (assigned_types r f xs)) (at_both r f (reverse xs) (x ∷ []) ∙ ap (λ (l : List Tree). l ++ assign r f x.type ∷ []) (at_reverse r f xs))

result_kept : (r : ℕ) (f : ℕ → Tree) (v : Vocabulary) (t : Option Tree) → IfSome t (IsTypeIn v r) → option_map (assign r f) t ≡ t
result_kept r f v None x = refl
result_kept r f v (Some t) x = ap (λ (z : Tree). Some z) (own_same r f t x.variables)

-- ---- entries of members with their signatures
pub record IsSigned (v : Vocabulary) (m : GroupMember) (g : SignatureTree) : Type 0 where
  pub args : All (IsTypeIn v (length g.vars)) g.args
  pub result : IfSome g.result (IsTypeIn v (length g.vars))
  pub kind : is_none m.result ≡ is_none g.result

abbrev pub AreSigned : Vocabulary → List GroupMember → List SignatureTree → Type 0
AreSigned v (m ∷ ms) (g ∷ gs) = IsSigned v m g × AreSigned v ms gs
AreSigned v _ _ = Unit {0}

some_more : (v w : Vocabulary) (n : ℕ) (r : Option Tree) → ((t : Tree) → IsTypeIn v n t → IsTypeIn w n t) → IfSome r (IsTypeIn v n) → IfSome r (IsTypeIn w n)
some_more v w n None f x = tt
some_more v w n (Some t) f x = f t x

pub signed_more : (v w : Vocabulary) → ((n : ℕ) (t : Tree) → IsTypeIn v n t → IsTypeIn w n t) → (ms : List GroupMember) (gs : List SignatureTree) → AreSigned v ms gs → AreSigned w ms gs
signed_more v w f [] gs h = tt
signed_more v w f (m ∷ ms) [] h = tt
signed_more v w f (m ∷ ms) (g ∷ gs) h =
    (record { args = λ k d l. f (length g.vars) (get_or g.args k d) (h.0.args k d l); result = some_more v w (length g.vars) g.result (f (length g.vars)) h.0.result; kind = h.0.kind }, signed_more v w f ms gs h.1)

-- ---- fewer type variables
below_wider : (m n : ℕ) (e : Tree) → m ≤ n → VariablesBelow m e → VariablesBelow n e
below_wider m n e l x = of_below n e (below_more e m n l (below_of m e x))

type_wider : (v : Vocabulary) (m n : ℕ) (t : Tree) → m ≤ n → IsTypeIn v m t → IsTypeIn v n t
type_wider v m n t l x = record { sort = x.sort; typed = x.typed; variables = below_wider m n t l x.variables }

result_wider : (v : Vocabulary) (m n : ℕ) (r : Option Tree) → m ≤ n → IfSome r (IsTypeIn v m) → IfSome r (IsTypeIn v n)
result_wider v m n None l x = tt
result_wider v m n (Some t) l x = type_wider v m n t l x

-- each member has at most so many
abbrev AreFew : ℕ → List SignatureTree → Type 0
AreFew r gs = AllByRecursion (λ (g : SignatureTree). length g.vars ≤ r) gs

few : (gs : List SignatureTree) (r : ℕ) → most_variables gs ≤ r → AreFew r gs
few [] r l = tt
few (g ∷ gs) r l = (omega arith, few gs r (omega arith))

-- with `int` in place of further type variables
narrow : ℕ → Tree → Tree
narrow own t = assign own (λ j. int_type) t

narrow_below : (own : ℕ) (t : Tree) → VariablesBelow own (narrow own t)
unfolding narrow
narrow_below own t = closed own (λ j. int_type) (λ j. tt) t

narrow_own : (own j : ℕ) → j < own → narrow own (Variable j) ≡ Variable j
unfolding narrow
narrow_own own j l = assign-rigid own (λ i. int_type) j l

-- two assignments, of which one has the other's types narrowed at some unknowns
module _ (r own : ℕ) (f g : ℕ → Tree) where
  abbrev Narrows : ℕ → Type 0
  Narrows j = assign r g (Variable j) ≡ narrow own (assign r f (Variable j))

  own_narrows : own ≤ r → (j : ℕ) → j < own → Narrows j
  own_narrows l j k = assign-rigid r g j (omega arith) ∙ sym (ap (narrow own) (assign-rigid r f j (omega arith)) ∙ narrow_own own j k)

  unknown_narrows : (j : ℕ) → r ≤ j → g j ≡ narrow own (f j) → Narrows j
  unknown_narrows j l q = assign-unknown r g j l ∙ q ∙ sym (ap (narrow own) (assign-unknown r f j l))

  leaf_narrowed : (h : Head) → leaf_in Narrows h → assign r g (Leaf h) ≡ narrow own (assign r f (Leaf h))
  unfolding narrow
  leaf_narrowed (HTyVar j) x = x
  leaf_narrowed _ x = refl

  tree_narrowed : (e : Tree) → VariablesIn Narrows e → assign r g e ≡ narrow own (assign r f e)
  unfolding narrow
  tree_narrowed (Leaf h) x = leaf_narrowed h x
  tree_narrowed (One h a) x = ap (One h) (tree_narrowed a x)
  tree_narrowed (Two h a b) x = cc (tree_narrowed a x.0, tree_narrowed b x.1)
  tree_narrowed (Three h a b c) x = cc (tree_narrowed a x.0, tree_narrowed b x.1, tree_narrowed c x.2)

  solved_narrowed : (es : List (Tree × Tree)) → EquationsIn Narrows es → SolvesAll r f es → SolvesAll r g es
  solved_narrowed [] x s = tt
  solved_narrowed (e ∷ es) x s = (tree_narrowed e.0 x.0.0 ∙ ap (narrow own) s.0 ∙ sym (tree_narrowed e.1 x.0.1), solved_narrowed es x.1 s.1)

pub both_solved : (r : ℕ) (f : ℕ → Tree) (xs ys : List (Tree × Tree)) → SolvesAll r f xs → SolvesAll r f ys → SolvesAll r f (xs ++ ys)
both_solved r f [] ys x y = y
both_solved r f (e ∷ es) ys x y = (x.0, both_solved r f es ys x.1 y)

-- each body is of its member's type under its parameters
abbrev pub AreBodied : Vocabulary → List SignatureTree → List Tree → Type 0
AreBodied v (g ∷ gs) (b ∷ bs) = (IndicesFit b → IsTypedIn v (length g.vars) (reverse g.args) g.result b) × AreBodied v gs bs
AreBodied v _ _ = Unit {0}

typed_as : (v : Vocabulary) (xs types : List Tree) (o r : Option Tree) (e : Tree) (n : ℕ) → xs ≡ types → o ≡ r → TypedAs v xs o e → VariablesBelow n e → IsTypedIn v n types r e
typed_as v xs types o r e n q z x own =
    let y : TypedAs v types r e = rw (sym q, sym z) x in
    record { typed = record { typed = y.0.0; sort = y.1.0; type = y.1.1; parameters = y.0.1 }; variables = own }

-- ---- where the entries and names of a group are there
module _ (base : Vocabulary) (whole : List SymbolTree) (typed : IsTypedSignature base whole) (names' : NamesTree) (scopes : AreTypedScopes (with_entries base whole) names') (all_seen : SeenTree)
    (tuples : (n : ℕ) → has_width n all_seen.widths ≡ true → is_some (tuple_in whole n) ≡ true) where
  abbrev pub inner : List Word → Where
  inner vars = over whole names' vars

  abbrev v : Vocabulary
  v = with_entries base whole

  good : (vars : List Word) → IsWellFormed base (inner vars)
  good vars = over_well_formed base whole typed names' scopes vars

  scoped : (vars : List Word) → IsScoped (inner vars)
  scoped vars = over_scoped base whole names' vars typed (good vars)

  widths : (vars : List Word) (n : ℕ) → has_width n all_seen.widths ≡ true → HasTuple base (inner vars) n
  widths vars n z = tuple_of base whole typed n (tuples n z)

  module _ (rigid : ℕ) where
    abbrev params : GroupMember → SignatureTree → List LocalTree
    params m g = reverse (typed_locals (words_of_parameters m.params) g.args)

    abbrev BodySound : GroupMember → SignatureTree → ℕ → Option Expression → Type 0
    BodySound m g n None = Unit {0}
    BodySound m g n (Some e) = IsSound base (inner g.vars) (good g.vars) rigid (params m g) g.result (piece (inner g.vars) (params m g) n g.result e)

    body_sound : (m : GroupMember) (g : SignatureTree) (n : ℕ) (u : SeenTree) (b : Option Expression) → IsSigned v m g → length g.args ≡ length (words_of_parameters m.params) → body_fault (inner []) m g.vars b ≡ None → IsWithin (body_seen u b) all_seen → BodySound m g n b
    body_sound m g n u None s l r i = tt
    body_sound m g n u (Some e) s l r i =
        let xs = words_of_parameters m.params in
        let same : names (params m g) ≡ reverse xs = names_reverse (typed_locals xs g.args) ∙ ap reverse (locals_names xs g.args l) in
        let right : fault (inner g.vars) false (names (params m g)) (is_none g.result) e ≡ None = rw (same, sym s.kind) r in
        sound base (inner g.vars) (good g.vars) rigid e (params m g) n g.result (reversed_over base (inner g.vars) (good g.vars) rigid (typed_locals xs g.args) (params_over v (length g.vars) xs g.args s.args)) (result_over v (length g.vars) g.result s.result)
        (tuples_seen base (inner g.vars) e u (λ k z. widths g.vars k (i k z))) right

    -- its equations are over the signature, and the patterns of each match are of one type
    body_noted : (m : GroupMember) (g : SignatureTree) (n : ℕ) (b : Option Expression) → BodySound m g n b → AreNoted base (inner []) rigid (body_piece (inner g.vars) (params m g) n g.result b).notes
    body_noted m g n None x = none_noted base (inner []) rigid
    body_noted m g n (Some e) x = record { equations = x.notes.equations; matches = x.notes.matches }

    abbrev PiecesSound : List GroupMember → List SignatureTree → ℕ → Type 0
    PiecesSound (m ∷ ks) (g ∷ hs) n = BodySound m g n m.body × PiecesSound ks hs (unknown_after n (member_piece (inner []) n m g))
    PiecesSound _ _ n = Unit {0}

    pieces_sound : (ks : List GroupMember) (hs : List SignatureTree) (n : ℕ) → AreSigned v ks hs → AreResolved (inner []) ks hs → BodiesSeen all_seen ks → PiecesSound ks hs n
    pieces_sound [] hs n s r i = tt
    pieces_sound (m ∷ ks) [] n s r i = tt
    pieces_sound (m ∷ ks) (g ∷ hs) n s r i = (body_sound m g n i.0.0 m.body s.0 r.0.count r.0.right i.0.1, pieces_sound ks hs (unknown_after n (member_piece (inner []) n m g)) s.1 r.1 i.1)

    pieces_noted : (ks : List GroupMember) (hs : List SignatureTree) (n : ℕ) → PiecesSound ks hs n → AreNoted base (inner []) rigid (pieces_notes (member_pieces (inner []) n ks hs))
    pieces_noted [] hs n x = none_noted base (inner []) rigid
    pieces_noted (m ∷ ks) [] n x = none_noted base (inner []) rigid
    pieces_noted (m ∷ ks) (g ∷ hs) n x =
        let p = member_piece (inner []) n m g in
        both_noted base (inner []) rigid p.notes (pieces_notes (member_pieces (inner []) (unknown_after n p) ks hs)) (body_noted m g n m.body x.0) (pieces_noted ks hs (unknown_after n p) x.1)

    -- ---- type variables
    module _ (P : ℕ → Type 0) where
      params_owned : (n : ℕ) (xs : List Word) (ts : List Tree) → All (IsTypeIn v n) ts → ((j : ℕ) → j < n → P j) → LocalsIn P (typed_locals xs ts)
      params_owned n [] ts a o = tt
      params_owned n (x ∷ xs) [] a o = tt
      params_owned n (x ∷ xs) (t ∷ ts) a o =
          let y : IsTypeIn v n t = a 0 t (omega arith) in
          (below_in P n t o (below_of n t y.variables), params_owned n xs ts (λ k d l. a (suc k) d (omega arith)) o)

      result_owned : (n : ℕ) (r : Option Tree) → IfSome r (IsTypeIn v n) → ((j : ℕ) → j < n → P j) → IfSome r (VariablesIn P)
      result_owned n None x o = tt
      result_owned n (Some t) x o = below_in P n t o (below_of n t x.variables)

      body_owned : (m : GroupMember) (g : SignatureTree) (n : ℕ) (b : Option Expression) → IsSigned v m g → body_fault (inner []) m g.vars b ≡ None → ((j : ℕ) → j < length g.vars → P j)
          → Takes P n (unknown_after n (body_piece (inner g.vars) (params m g) n g.result b)) → PieceIn P (body_piece (inner g.vars) (params m g) n g.result b)
      body_owned m g n None s q o f = record { tree = tt; equations = tt }
      body_owned m g n (Some e) s q o f =
          let xs = words_of_parameters m.params in
          owned P (inner g.vars) (scoped g.vars) o e (params m g) n g.result (reverse xs) (is_none m.result)
          (reversed_in P (typed_locals xs g.args) (params_owned (length g.vars) xs g.args s.args o)) (result_owned (length g.vars) g.result s.result o) q f

    -- the type variables of the member that takes an unknown
    owner : List GroupMember → List SignatureTree → ℕ → ℕ → ℕ
    owner [] hs n j = 0
    owner (m ∷ ks) [] n j = 0
    owner (m ∷ ks) (g ∷ hs) n j = cond (nat_lt j (unknown_after n (member_piece (inner []) n m g))) (length g.vars) (owner ks hs (unknown_after n (member_piece (inner []) n m g)) j)

    owner_here : (m : GroupMember) (g : SignatureTree) (ks : List GroupMember) (hs : List SignatureTree) (n j : ℕ) → j < unknown_after n (member_piece (inner []) n m g) → owner (m ∷ ks) (g ∷ hs) n j ≡ length g.vars
    unfolding owner
    owner_here m g ks hs n j l =
        let p = unknown_after n (member_piece (inner []) n m g) in
        ap (λ (b : Bool). cond b (length g.vars) (owner ks hs p j)) (test_lt j p l)

    owner_past : (m : GroupMember) (g : SignatureTree) (ks : List GroupMember) (hs : List SignatureTree) (n j : ℕ) → unknown_after n (member_piece (inner []) n m g) ≤ j → owner (m ∷ ks) (g ∷ hs) n j ≡ owner ks hs (unknown_after n (member_piece (inner []) n m g)) j
    unfolding owner
    owner_past m g ks hs n j l =
        let p = unknown_after n (member_piece (inner []) n m g) in
        ap (λ (b : Bool). cond b (length g.vars) (owner ks hs p j)) (test_le j p l)

    -- at a solution by types over the signature
    module _ (f : ℕ → Tree) (over' : (j : ℕ) → IsOver v true (f j)) (all_ks : List GroupMember) (all_hs : List SignatureTree) where
      narrowed : ℕ → Tree
      narrowed j = narrow (owner all_ks all_hs rigid j) (f j)

      narrowed_over : (j : ℕ) → IsOver v true (narrowed j)
      unfolding narrowed narrow
      narrowed_over j = over_assigned v (owner all_ks all_hs rigid j) (λ i. int_type) (λ i. int_over base (inner []) (good [])) true (f j) (over' j)

      narrowed_kind : (j : ℕ) → IsKind (narrowed j)
      narrowed_kind j = let x = over_good v true [] (narrowed j) (narrowed_over j) in (typed_sorted v [] (narrowed j) x.0.0, x.1)

      narrowed_is : (j : ℕ) (o : ℕ) → owner all_ks all_hs rigid j ≡ o → narrowed j ≡ narrow o (f j)
      unfolding narrowed
      narrowed_is j o q = ap (λ (i : ℕ). narrow i (f j)) q

      -- the bodies of members after others
      abbrev Follows : List GroupMember → List SignatureTree → ℕ → Type 0
      Follows ks hs n = (j : ℕ) → n ≤ j → owner all_ks all_hs rigid j ≡ owner ks hs n j

      here_owned : (m : GroupMember) (g : SignatureTree) (ks : List GroupMember) (hs : List SignatureTree) (n : ℕ) → rigid ≤ n → Follows (m ∷ ks) (g ∷ hs) n → length g.vars ≤ rigid → IsSigned v m g → body_fault (inner []) m g.vars m.body ≡ None
          → PieceIn (Narrows rigid (length g.vars) f narrowed) (member_piece (inner []) n m g)
      here_owned m g ks hs n l o few' s q =
          let own = length g.vars in
          body_owned (Narrows rigid own f narrowed) m g n m.body s q (λ j k. own_narrows rigid own f narrowed few' j k)
          (λ j a b. unknown_narrows rigid own f narrowed j (omega arith) (narrowed_is j own (o j a ∙ owner_here m g ks hs n j b)))

      next_follows : (m : GroupMember) (g : SignatureTree) (ks : List GroupMember) (hs : List SignatureTree) (n : ℕ) → Follows (m ∷ ks) (g ∷ hs) n → Follows ks hs (unknown_after n (member_piece (inner []) n m g))
      next_follows m g ks hs n o = λ j a. o j (omega arith) ∙ owner_past m g ks hs n j a

      all_solved : (ks : List GroupMember) (hs : List SignatureTree) (n : ℕ) → rigid ≤ n → Follows ks hs n → AreFew rigid hs → AreSigned v ks hs → AreResolved (inner []) ks hs
          → SolvesAll rigid f (pieces_notes (member_pieces (inner []) n ks hs)).equations → SolvesAll rigid narrowed (pieces_notes (member_pieces (inner []) n ks hs)).equations
      all_solved [] hs n l o few' s r z = tt
      all_solved (m ∷ ks) [] n l o few' s r z = tt
      all_solved (m ∷ ks) (g ∷ hs) n l o few' s r z =
          let p = member_piece (inner []) n m g in
          let rest = pieces_notes (member_pieces (inner []) (unknown_after n p) ks hs) in
          both_solved rigid narrowed p.notes.equations rest.equations
          (solved_narrowed rigid (length g.vars) f narrowed p.notes.equations (here_owned m g ks hs n l o few'.0 s.0 r.0.right).equations (first_solved rigid f p.notes.equations rest.equations z))
          (all_solved ks hs (unknown_after n p) (omega arith) (next_follows m g ks hs n o) few'.1 s.1 r.1 (rest_solved rigid f p.notes.equations rest.equations z))

      body_typed : (m : GroupMember) (g : SignatureTree) (n : ℕ) (b : Option Expression) → is_some b ≡ true → IsSigned v m g → length g.args ≡ length (words_of_parameters m.params) → length g.vars ≤ rigid → BodySound m g n b
          → VariablesBelow (length g.vars) (assign rigid narrowed (body_piece (inner g.vars) (params m g) n g.result b).tree)
          → SolvesAll rigid narrowed (body_piece (inner g.vars) (params m g) n g.result b).notes.equations → IndicesFit (assign rigid narrowed (body_piece (inner g.vars) (params m g) n g.result b).tree)
          → IsTypedIn v (length g.vars) (reverse g.args) g.result (assign rigid narrowed (body_piece (inner g.vars) (params m g) n g.result b).tree)
      body_typed m g n None d s l e x own z i = absurd (cc)
      body_typed m g n (Some b) d s l e x own z i =
          let xs = words_of_parameters m.params in
          let p = piece (inner g.vars) (params m g) n g.result b in
          let args : All (IsTypeIn v rigid) g.args = λ j c k. type_wider v (length g.vars) rigid (get_or g.args j c) e (s.args j c k) in
          let types : assigned_types rigid narrowed (params m g) ≡ reverse g.args = at_reverse rigid narrowed (typed_locals xs g.args) ∙ ap reverse (locals_kept rigid narrowed v xs g.args args ∙ locals_types xs g.args l) in
          typed_as v (assigned_types rigid narrowed (params m g)) (reverse g.args) (option_map (assign rigid narrowed) g.result) g.result (assign rigid narrowed p.tree) (length g.vars) types
          (result_kept rigid narrowed v g.result (result_wider v (length g.vars) rigid g.result e s.result)) (x.typed narrowed narrowed_over z i) own

      bodies_typed : (ks : List GroupMember) (hs : List SignatureTree) (n : ℕ) → rigid ≤ n → Follows ks hs n → AreFew rigid hs → AreDefined ks → AreSigned v ks hs → AreResolved (inner []) ks hs → PiecesSound ks hs n
          → SolvesAll rigid narrowed (pieces_notes (member_pieces (inner []) n ks hs)).equations → AreBodied v hs (map (assign rigid narrowed) (pieces_trees (member_pieces (inner []) n ks hs)))
      bodies_typed [] [] n l o few' d s r x z = tt
      bodies_typed [] (g ∷ hs) n l o few' d s r x z = tt
      bodies_typed (m ∷ ks) [] n l o few' d s r x z = tt
      bodies_typed (m ∷ ks) (g ∷ hs) n l o few' d s r x z =
          let p = member_piece (inner []) n m g in
          let own = length g.vars in
          let rest = pieces_notes (member_pieces (inner []) (unknown_after n p) ks hs) in
          let below : VariablesBelow own (assign rigid narrowed p.tree) =
          subst (VariablesBelow own) (sym (tree_narrowed rigid own f narrowed p.tree (here_owned m g ks hs n l o few'.0 s.0 r.0.right).tree)) (narrow_below own (assign rigid f p.tree)) in (
            (λ i. body_typed m g n m.body d.0 s.0 r.0.count few'.0 x.0 below (first_solved rigid narrowed p.notes.equations rest.equations z) i),
            bodies_typed ks hs (unknown_after n p) (omega arith) (next_follows m g ks hs n o) few'.1 d.1 s.1 r.1 x.1 (rest_solved rigid narrowed p.notes.equations rest.equations z),
          )

  pub bodies_valid : (ks : List GroupMember) (hs : List SignatureTree) (bodies : List Tree) (matches : List (ℕ × List Tree)) → AreDefined ks → AreSigned v ks hs → AreResolved (inner []) ks hs → BodiesSeen all_seen ks
      → BodiesSolved (inner []) ks hs bodies matches → AreBodied v hs bodies
  bodies_valid ks hs bodies matches d s r i it =
      let rigid = most_variables hs in
      let w = inner [] in
      let sound' = pieces_sound rigid ks hs rigid s r i in
      let f = it.determined.solvable.0 in
      let solution = it.determined.solvable.1 in
      let notes = pieces_notes (member_pieces w rigid ks hs) in
      let x = kept base w (good []) rigid f solution.types in
      let over' = kept_over base w (good []) rigid f solution.types in
      let solves = kept_solves base w (good []) rigid f solution.types notes.equations (pieces_noted rigid ks hs rigid sound').equations solution.solves in
      let y = narrowed rigid x over' ks hs in
      let few' = few hs rigid (omega arith) in
      let solves' = all_solved rigid x over' ks hs ks hs rigid (omega arith) (λ j a. refl) few' s r solves in
      let are : map (assign rigid y) (pieces_trees (member_pieces w rigid ks hs)) ≡ bodies = it.trees_are y (record { types = narrowed_kind rigid x over' ks hs; solves = solves' }) in
      subst (λ (bs : List Tree). AreBodied v hs bs) are (bodies_typed rigid x over' ks hs ks hs rigid (omega arith) (λ j a. refl) few' d s r sound' solves')

  -- ---- matches: the patterns of each are well typed, and of one type
  module _ (r : ℕ) (f : ℕ → Tree) where
    as_patterns : (t : Tree) (es : List Tree) → AllByRecursion (IsPatternAt base (inner []) r t) es → All (IsPatternOf v t) es
    as_patterns t [] h = All-nil (IsPatternOf v t)
    as_patterns t (e ∷ es) h = All-cons (IsPatternOf v t) e es (record { typed = h.0.0.0; sort = h.0.1; type = h.0.2; parameters = h.0.0.1 }) (as_patterns t es h.1)

    as_matches : (ms : List (ℕ × List Tree)) → AllByRecursion (λ (m : ℕ × List Tree). ArePatternsAt base (inner []) r f m.1) ms → All (λ (m : ℕ × List Tree). ArePatterns v m.1) (matches_assigned r f ms)
    as_matches [] h = All-nil (λ (m : ℕ × List Tree). ArePatterns v m.1)
    as_matches (m ∷ ms) h =
        let x = over_good v true [] h.0.0 h.0.1 in
        All-cons (λ (i : ℕ × List Tree). ArePatterns v i.1) (m.0, map (assign r f) m.1) (matches_assigned r f ms)
        (record { type = h.0.0; over = record { sort = x.1; typed = x.0.0 }; patterns = as_patterns h.0.0 (map (assign r f) m.1) h.0.2 }) (as_matches ms h.1)

  pub bodies_patterns : (ks : List GroupMember) (hs : List SignatureTree) (bodies : List Tree) (matches : List (ℕ × List Tree)) → AreSigned v ks hs → AreResolved (inner []) ks hs → BodiesSeen all_seen ks
      → BodiesSolved (inner []) ks hs bodies matches → All (λ (m : ℕ × List Tree). ArePatterns v m.1) matches
  bodies_patterns ks hs bodies matches s r i it =
      let rigid = most_variables hs in
      let w = inner [] in
      let noted' = pieces_noted rigid ks hs rigid (pieces_sound rigid ks hs rigid s r i) in
      let f = it.determined.solvable.0 in
      let solution = it.determined.solvable.1 in
      let notes = pieces_notes (member_pieces w rigid ks hs) in
      let x = kept base w (good []) rigid f solution.types in
      let solves = kept_solves base w (good []) rigid f solution.types notes.equations noted'.equations solution.solves in
      let are : matches_assigned rigid x notes.matches ≡ matches = it.matches x (record { types = kept_kind base w (good []) rigid f solution.types; solves = solves }) in
      subst (λ (ms : List (ℕ × List Tree)). All (λ (m : ℕ × List Tree). ArePatterns v m.1) ms) are
      (as_matches rigid x notes.matches (noted'.matches x (kept_over base w (good []) rigid f solution.types) solves))
