-- Each piece is well typed at each solution of its equations, which are between types over the signature.
use Rattle.std.proofs.Common.{◌≡◌, ℕ, ◌+◌, suc, Bool, true, false, cond, List, [], ◌∷◌, ◌++◌, map, reverse, replicate, length, Option, Some, None, IfSome, option_map, refl, sym, ap, subst, ◌∙◌, append_assoc}
use Rattle.std.specs.Option.{is_none}
use Rattle.std.specs.List.{AllByRecursion}
use Rattle.std.proofs.lemmas.List.{map-append}
use mathlib.Core.List.{reverse-cons}
use Rattle.elab_groups.specs.tasks.Equations.{cells}
use Rattle.elab_groups.specs.trees.Tree.{Tree, Leaf, Two, HNum, HEq}
use Rattle.elab_groups.specs.trees.Sorts.{int_type}
use Rattle.elab_groups.specs.trees.Facts.{IndicesFit}
use Rattle.elab_groups.specs.open_types.unify_types.Assigned.{assign}
use Rattle.elab_groups.specs.open_types.unify_types.Pairs.{SolvesAll}
use Rattle.elab_groups.specs.surface.Lexeme.{Word}
use Rattle.elab_groups.specs.tasks.Vocabulary.{Vocabulary}
use Rattle.elab_groups.specs.name_resolution.Abstract.{TypeExpression, BoundNames, Expression, Expressions, MatchBranches, applied_expression, infix_expression, integer_expression, true_expression, false_expression, tuple_expression, cast_expression, field_expression, record_expression, not_expression, connected_expression, equality_expression, if_expression, let_expression, match_expression, quantified_expression, no_expressions, more_expressions, no_branches, more_branches, count_expressions, no_alternatives, more_alternatives}
use Rattle.elab_groups.specs.name_resolution.Faults.{first_of, name_fault, field_fault, record_fault, type_fault, binders_fault, bound_names, is_formula_trigger, token, fault, faults, triggers_fault, branches_fault, alternatives_fault, alternatives_names, has_alternative}
use Rattle.elab_groups.specs.name_resolution.Records.{record_named}
use Rattle.elab_groups.specs.name_resolution.Where.{Where}
use Rattle.elab_groups.specs.tasks.Task.{symbol_or}
use Rattle.elab_groups.proofs.name_resolution.Fielded.{is_fielded}
use Rattle.elab_groups.proofs.name_resolution.SameNames.{SameNames, same_both, same_reverse, same_names_self, fault_same}
use Rattle.elab_groups.specs.open_types.Patterns.{LocalTree, local, noted, taken, first_or_int, rest_of, place_types, alternatives_pieces, follow, no_notes, all_notes, pattern_trees, first_variables, arms}
use Rattle.elab_groups.specs.open_types.Pieces.{type_at, NotedTree, unknown_after, unknown, noted_before, piece, pieces, triggers_notes, branches_arms, Arms, use_of_name, field_use, tuple_use, record_use, field_places, values_placed, piece_under, use_vars, parameters, equality, binder_locals, binder_vars, binders_vars, bound, untyped, locals_of_type, quantify, names}
use Rattle.elab_groups.proofs.open_types.Walking.{none_both, in_cast, in_negation, in_joined, in_equated, in_choice, in_binding}
use Rattle.elab_groups.proofs.open_types.Below.{both_all}
use Rattle.elab_groups.proofs.open_types.Branching.{in_cases, first_names}
use Rattle.elab_groups.proofs.open_types.Quantified.{names_bound, in_quantified}
use Rattle.elaboration_laws.specs.Signature.{IsWellFormed, FormTuples, BindersTuples, HasTuples, HaveTuples, BranchesTuples}
use Rattle.elaboration_laws.specs.Typed.{assigned_types}
use Rattle.elaboration_laws.proofs.Over.{IsOver, AreOver, over_assigned}
use Rattle.elaboration_laws.proofs.Forms.{TypedAs, number_typed, truth_typed, falsity_typed, negation_typed, joined_typed, equality_typed, choice_typed, quantifier_typed, let_typed}
use Rattle.elaboration_laws.proofs.Instances.{cells_assigned}
use Rattle.elaboration_laws.proofs.Arms.{IsArm, AreArms, match_typed}
use Rattle.elaboration_laws.proofs.Alternatives.{names_reverse, alternatives_sound}
use Rattle.elaboration_laws.proofs.Signed.{int_over, form_over}
pub use Rattle.elaboration_laws.proofs.Placing.{split_all}
use Rattle.elaboration_laws.proofs.Placing.{new_among, all_among_named, fields_long, places_long, places_over, pieces_cells, pieces_count}
use Rattle.elaboration_laws.proofs.Sound.{IsPatternAt, AreNoted, noted_sound, both_noted, none_noted, suc_same, more_over, first_solved, rest_solved, LocalsOver, both_locals, WantedOver, first_over, rest_over, parameters_count, usable_over, sig, named_usable, field_usable, record_usable, values_sound, tuple_usable, IsSound, AreSound, no_arguments, more_arguments, one_argument, two_arguments, used_sound}
use Rattle.elab_groups.proofs.open_types.Arguments.{names_both}
use Rattle.elaboration_laws.proofs.Placing.{fit_members as cells_fit}

pub names_inside : (vs ls : List LocalTree) (ns : List Word) → names vs ≡ ns → names (reverse vs ++ ls) ≡ reverse ns ++ names ls
names_inside vs ls ns q = names_both (reverse vs) ls ∙ ap (λ (r : List Word). r ++ names ls) (names_reverse vs ∙ ap reverse q)

-- where variables have these names in some order
pub names_within : (vs ls : List LocalTree) (ns : List Word) → SameNames (names vs) ns → SameNames (names (reverse vs ++ ls)) (reverse ns ++ names ls)
names_within vs ls ns h =
    subst (λ (us : List Word). SameNames us (reverse ns ++ names ls)) (sym (names_inside vs ls (names vs) refl))
    (same_both (reverse (names vs)) (names ls) (reverse ns) (names ls) (same_reverse (names vs) ns h) (same_names_self (names ls)))

module _ (base : Vocabulary) (w : Where) (good : IsWellFormed base w) (rigid : ℕ) where
  pub reversed_over : (vs : List LocalTree) → LocalsOver (sig base w) vs → LocalsOver (sig base w) (reverse vs)
  reversed_over [] h = tt
  reversed_over (x ∷ xs) h = rw (reverse-cons x xs) (both_locals (sig base w) (reverse xs) (x ∷ []) (reversed_over xs h.1) (h.0, tt))

  -- ---- binders
  untyped_over : (n : ℕ) (xs : List Word) → LocalsOver (sig base w) (untyped n xs)
  untyped_over n [] = tt
  untyped_over n (x ∷ xs) = (tt, untyped_over (suc n) xs)

  typed_over : (t : Tree) (xs : List Word) → IsOver (sig base w) true t → LocalsOver (sig base w) (locals_of_type t xs)
  typed_over t [] o = tt
  typed_over t (x ∷ xs) o = (o, typed_over t xs o)

  binder_over : (n : ℕ) (xs : List Word) (f : Option TypeExpression) → type_fault w false f ≡ None → IfSome f (FormTuples base w) → LocalsOver (sig base w) (binder_locals w n xs f)
  binder_over n xs None h u = untyped_over n xs
  binder_over n xs (Some f) h u = typed_over (type_at w f) xs (form_over base w good f h u)

  bound_over : (n : ℕ) (bs : List BoundNames) → binders_fault w false bs ≡ None → BindersTuples base w bs → LocalsOver (sig base w) (bound w n bs)
  bound_over n [] h u = tt
  bound_over n (b ∷ bs) h u =
      let p = none_both (type_fault w false b.of_type) (binders_fault w false bs) h in
      let m = n + binder_vars b.names b.of_type in
      both_locals (sig base w) (binder_locals w n b.names b.of_type) (bound w m bs) (binder_over n b.names b.of_type p.0 u.0) (bound_over m bs p.1 u.1)

  -- a formula under quantifiers
  module _ (f : ℕ → Tree) (o : (j : ℕ) → IsOver (sig base w) true (f j)) where
    abbrev at : Tree → Tree
    at e = assign rigid f e

    abbrev Formula' : List LocalTree → Tree → Type 0
    Formula' ls e = TypedAs (sig base w) (assigned_types rigid f ls) None (at e)

    pub quantified_typed : (all : Bool) (vs ls : List LocalTree) (e : Tree) → LocalsOver (sig base w) vs → IndicesFit (at (quantify all vs e)) → (IndicesFit (at e) → Formula' (reverse vs ++ ls) e) → Formula' ls (quantify all vs e)
    quantified_typed all [] ls e h i g = g i
    quantified_typed true (l ∷ vs) ls e h i g =
        quantifier_typed (sig base w) (assigned_types rigid f ls) true (at l.type) (at (quantify true vs e)) (over_assigned (sig base w) rigid f o true l.type h.0)
        (quantified_typed true vs (l ∷ ls) e h.1 i.1 (λ j. rw (sym (append_assoc (reverse vs) (l ∷ []) ls), sym (reverse-cons l vs)) (g j)))
    quantified_typed false (l ∷ vs) ls e h i g =
        quantifier_typed (sig base w) (assigned_types rigid f ls) false (at l.type) (at (quantify false vs e)) (over_assigned (sig base w) rigid f o true l.type h.0)
        (quantified_typed false vs (l ∷ ls) e h.1 i.1 (λ j. rw (sym (append_assoc (reverse vs) (l ∷ []) ls), sym (reverse-cons l vs)) (g j)))

  equality_sound : (ls : List LocalTree) (same : Bool) (t : Tree) (p q : NotedTree) (f : ℕ → Tree) → ((j : ℕ) → IsOver (sig base w) true (f j)) → IsSound base w good rigid ls (Some t) p → IsSound base w good rigid ls (Some t) q
      → SolvesAll rigid f (p.notes.equations ++ q.notes.equations) → IndicesFit (assign rigid f (equality same p.tree q.tree)) → TypedAs (sig base w) (assigned_types rigid f ls) None (assign rigid f (equality same p.tree q.tree))
  equality_sound ls true t p q f o x y s i =
      equality_typed (sig base w) (assigned_types rigid f ls) (at f o t) (at f o p.tree) (at f o q.tree)
      (x.typed f o (first_solved rigid f p.notes.equations q.notes.equations s) i.0) (y.typed f o (rest_solved rigid f p.notes.equations q.notes.equations s) i.1)
  equality_sound ls false t p q f o x y s i =
      negation_typed (sig base w) (assigned_types rigid f ls) (Two HEq (at f o p.tree) (at f o q.tree))
      (equality_typed (sig base w) (assigned_types rigid f ls) (at f o t) (at f o p.tree) (at f o q.tree)
      (x.typed f o (first_solved rigid f p.notes.equations q.notes.equations s) i.1.0) (y.typed f o (rest_solved rigid f p.notes.equations q.notes.equations s) i.1.1))

  -- ---- branches
  pub record AreBranches (ls : List LocalTree) (s : Tree) (t : Option Tree) (a : Arms) : Type 0 where
    pub notes : AreNoted base w rigid a.notes
    pub patterns : (f : ℕ → Tree) → ((j : ℕ) → IsOver (sig base w) true (f j)) → SolvesAll rigid f a.notes.equations → AllByRecursion (IsPatternAt base w rigid (assign rigid f s)) (map (assign rigid f) a.patterns)
    pub typed : (f : ℕ → Tree) → ((j : ℕ) → IsOver (sig base w) true (f j)) → SolvesAll rigid f a.notes.equations → AllByRecursion IndicesFit (map (assign rigid f) a.trees)
        → AreArms (sig base w) (assigned_types rigid f ls) (assign rigid f s) (option_map (assign rigid f) t) (map (assign rigid f) a.trees)

  -- where a branch has an alternative, there is an arm
  has_arms : (f : ℕ → Tree) (o : (j : ℕ) → IsOver (sig base w) true (f j)) (bs : MatchBranches) (ls : List LocalTree) (n : ℕ) (s : Tree) (t : Option Tree) → has_alternative bs ≡ true → map (at f o) (branches_arms w ls n s t bs).trees ≡ [] → ⊥
  has_arms f o no_branches ls n s t h e = absurd (cc)
  has_arms f o (more_branches no_alternatives b bs) ls n s t h e = has_arms f o bs ls _ s t h e
  has_arms f o (more_branches (more_alternatives i p ps) b bs) ls n s t h e = absurd (cc)

  -- a trigger, which is a formula or a term
  either_sound : (ls : List LocalTree) (n : ℕ) (e : Expression) (b : Bool) → fault w false (names ls) b e ≡ None
      → (fault w false (names ls) true e ≡ None → AreNoted base w rigid (piece w ls n None e).notes)
      → (fault w false (names ls) false e ≡ None → AreNoted base w rigid (piece w ls (n + 1) (Some (unknown n)) e).notes)
      → AreNoted base w rigid (cond b (piece w ls n None e) (noted_before (noted [] (token e ∷ [])) (piece w ls (n + 1) (Some (unknown n)) e))).notes
  either_sound ls n e true h x y = x h
  either_sound ls n e false h x y = both_noted base w rigid (noted [] (token e ∷ [])) (piece w ls (n + 1) (Some (unknown n)) e).notes (noted_sound base w rigid [] (token e ∷ []) tt) (y h)

  -- ---- terms and formulas
  mutual
    pub sound : (e : Expression) (ls : List LocalTree) (n : ℕ) (t : Option Tree) → LocalsOver (sig base w) ls → WantedOver (sig base w) t → HasTuples base w e → fault w false (names ls) (is_none t) e ≡ None → IsSound base w good rigid ls t (piece w ls n t e)
    sound (applied_expression i qs x es) ls n t h k u q =
        let p = none_both (name_fault w (names ls) (is_none t) i qs x (count_expressions es)) (faults w false (names ls) es) q in
        let c = use_of_name w ls qs x in
        let z = named_usable base w good rigid ls (is_none t) i (count_expressions es) qs x h p.0 in
        used_sound base w good rigid ls n t i (count_expressions es) c (pieces w ls (n + use_vars c) (parameters n c) es) k z
        (all_sound es ls (n + use_vars c) (parameters n c) (parameters_count (sig base w) ls (is_none t) (count_expressions es) n c z) h (usable_over (sig base w) ls (is_none t) (count_expressions es) n c z) u p.1)
    sound (infix_expression i x a b) ls n t h k u q =
        let p = none_both (fault w false (names ls) false a) (first_of (name_fault w (names ls) (is_none t) i [] x 2) (fault w false (names ls) false b)) q in
        let r = none_both (name_fault w (names ls) (is_none t) i [] x 2) (fault w false (names ls) false b) p.1 in
        let c = use_of_name w ls [] x in
        let z = named_usable base w good rigid ls (is_none t) i 2 [] x h r.0 in
        let ts = parameters n c in
        let o = usable_over (sig base w) ls (is_none t) 2 n c z in
        let m = n + use_vars c in
        let left = piece w ls m (Some (first_or_int ts)) a in
        let right = piece w ls (unknown_after m left) (Some (first_or_int (rest_of ts))) b in
        used_sound base w good rigid ls n t i 2 c _ k z (two_arguments base w good rigid ls ts left right (parameters_count (sig base w) ls (is_none t) 2 n c z)
        (sound a ls m (Some (first_or_int ts)) h (first_over (sig base w) ts (int_over base w good) o) u.0 p.0)
        (sound b ls (unknown_after m left) (Some (first_or_int (rest_of ts))) h (first_over (sig base w) (rest_of ts) (int_over base w good) (rest_over (sig base w) ts o)) u.1 r.1))
    sound (integer_expression i z) ls n None h k u q = absurd (cc)
    sound (integer_expression i z) ls n (Some t) h k u q = record {
      notes = both_noted base w rigid (noted ((int_type, t) ∷ []) []) no_notes (noted_sound base w rigid ((int_type, t) ∷ []) [] ((int_over base w good, k), tt)) (none_noted base w rigid);
      typed = λ f o s x. subst (λ (c : Tree). TypedAs (sig base w) (assigned_types rigid f ls) (Some c) (Leaf (HNum z))) s.0 (number_typed (sig base w) (assigned_types rigid f ls) z);
    }
    sound (true_expression i) ls n None h k u q = record { notes = none_noted base w rigid; typed = λ f o s x. truth_typed (sig base w) (assigned_types rigid f ls) }
    sound (true_expression i) ls n (Some t) h k u q = absurd (cc)
    sound (false_expression i) ls n None h k u q = record { notes = none_noted base w rigid; typed = λ f o s x. falsity_typed (sig base w) (assigned_types rigid f ls) }
    sound (false_expression i) ls n (Some t) h k u q = absurd (cc)
    sound (tuple_expression i es) ls n None h k u q = absurd (cc)
    sound (tuple_expression i es) ls n (Some t) h k u q =
        let c = tuple_use w (count_expressions es) in
        let z = tuple_usable base w good rigid ls (count_expressions es) u.0 in
        used_sound base w good rigid ls n (Some t) i (count_expressions es) c (pieces w ls (n + use_vars c) (parameters n c) es) k z
        (all_sound es ls (n + use_vars c) (parameters n c) (parameters_count (sig base w) ls false (count_expressions es) n c z) h (usable_over (sig base w) ls false (count_expressions es) n c z) u.1 q)
    sound (cast_expression i e ty) ls n None h k u q = absurd (cc)
    sound (cast_expression i e ty) ls n (Some t) h k u q =
        let p = in_cast w false (names ls) false i e ty q in
        let o = form_over base w good ty p.2 u.1 in
        let x = sound e ls n (Some (type_at w ty)) h o u.0 p.1 in
        let e' = piece w ls n (Some (type_at w ty)) e in
        record {
          notes = both_noted base w rigid (noted ((type_at w ty, t) ∷ []) []) e'.notes (noted_sound base w rigid ((type_at w ty, t) ∷ []) [] ((o, k), tt)) x.notes;
          typed = λ f g s j. subst (λ (c : Tree). TypedAs (sig base w) (assigned_types rigid f ls) (Some c) (at f g e'.tree)) s.0 (x.typed f g s.1 j);
        }
    sound (field_expression i e c qs x) ls n t h k u q =
        let p = none_both (fault w false (names ls) false e) (field_fault w (is_none t) c (w.names qs x)) q in
        let d = field_use w qs x in
        let z = field_usable base w good rigid ls (is_none t) c qs x p.1 in
        let ts = parameters n d in
        used_sound base w good rigid ls n t i 1 d _ k z (one_argument base w good rigid ls ts (piece w ls (n + use_vars d) (Some (first_or_int ts)) e) (parameters_count (sig base w) ls (is_none t) 1 n d z)
        (sound e ls (n + use_vars d) (Some (first_or_int ts)) h (first_over (sig base w) ts (int_over base w good) (usable_over (sig base w) ls (is_none t) 1 n d z)) u p.0))
    sound (record_expression i fs es) ls n None h k u q = absurd (cc)
    sound (record_expression i fs es) ls n (Some t) h k u q =
        let p = none_both (record_fault w true i (count_expressions es) fs) (faults w false (names ls) es) q in
        let e = symbol_or w.symbols (record_named w.symbols w.names fs) in
        let d = record_use w fs in
        let z = record_usable base w good rigid ls true i (count_expressions es) fs p.0 in
        let it = is_fielded w true i (count_expressions es) fs p.0 in
        let ts = parameters n d in
        let places = field_places w fs in
        let o = usable_over (sig base w) ls false (length e.args) n d z in
        let m = n + use_vars d in
        let all = pieces w ls m (place_types places ts) es in
        let args : length ts ≡ length e.args = parameters_count (sig base w) ls false (length e.args) n d z in
        let long = fields_long w true (count_expressions es) fs it in
        used_sound base w good rigid ls n (Some t) i (length e.args) d (piece_under (values_placed places (length ts)) all) k z
        (values_sound base w good rigid ls places ts all (pieces_cells w ls m (place_types places ts) es) (new_among w true (count_expressions es) fs (length ts) it args) (long ∙ sym (pieces_count w ls m (place_types places ts) es))
        (all_among_named w (count_expressions es) fs (length ts) it args)
        (all_sound es ls m (place_types places ts) (places_long places ts ∙ long) h (places_over (sig base w) (int_over base w good) places ts o) u p.1))
    sound (not_expression i e) ls n None h k u q =
        let p = in_negation w false (names ls) true i e q in
        let x = sound e ls n None h tt u p.1 in
        record { notes = x.notes; typed = λ f o s j. negation_typed (sig base w) (assigned_types rigid f ls) _ (x.typed f o s j.1) }
    sound (not_expression i e) ls n (Some t) h k u q = absurd (cc)
    sound (connected_expression i a op b) ls n None h k u q =
        let p = in_joined w false (names ls) true i a b op q in
        let left = piece w ls n None a in
        let right = piece w ls (unknown_after n left) None b in
        let x = sound a ls n None h tt u.0 p.1 in
        let y = sound b ls (unknown_after n left) None h tt u.1 p.2 in
        record {
          notes = both_noted base w rigid left.notes right.notes x.notes y.notes;
          typed = λ f o s j. joined_typed (sig base w) (assigned_types rigid f ls) op (at f o left.tree) (at f o right.tree)
              (x.typed f o (first_solved rigid f left.notes.equations right.notes.equations s) j.0) (y.typed f o (rest_solved rigid f left.notes.equations right.notes.equations s) j.1);
        }
    sound (connected_expression i a op b) ls n (Some t) h k u q = let p = in_joined w false (names ls) false i a b op q in absurd (cc (p.0))
    sound (equality_expression i same a b) ls n None h k u q =
        let p = in_equated w false (names ls) true i same a b q in
        let left = piece w ls (n + 1) (Some (unknown n)) a in
        let right = piece w ls (unknown_after (n + 1) left) (Some (unknown n)) b in
        let x = sound a ls (n + 1) (Some (unknown n)) h tt u.0 p.1 in
        let y = sound b ls (unknown_after (n + 1) left) (Some (unknown n)) h tt u.1 p.2 in
        record {
          notes = both_noted base w rigid (noted [] (i ∷ [])) (follow left.notes right.notes) (noted_sound base w rigid [] (i ∷ []) tt) (both_noted base w rigid left.notes right.notes x.notes y.notes);
          typed = λ f o s j. equality_sound ls same (unknown n) left right f o x y s j;
        }
    sound (equality_expression i same a b) ls n (Some t) h k u q = let p = in_equated w false (names ls) false i same a b q in absurd (cc (p.0))
    sound (if_expression i c a b) ls n t h k u q =
        let p = in_choice w false (names ls) (is_none t) i c a b q in
        let test = piece w ls n None c in
        let left = piece w ls (unknown_after n test) t a in
        let right = piece w ls (unknown_after (unknown_after n test) left) t b in
        let z = sound c ls n None h tt u.0 p.0 in
        let x = sound a ls (unknown_after n test) t h k u.1 p.1 in
        let y = sound b ls (unknown_after (unknown_after n test) left) t h k u.2 p.2 in
        record {
          notes = both_noted base w rigid test.notes (follow left.notes right.notes) z.notes (both_noted base w rigid left.notes right.notes x.notes y.notes);
          typed = λ f o s j.
              let s' = rest_solved rigid f test.notes.equations (left.notes.equations ++ right.notes.equations) s in
              choice_typed (sig base w) (assigned_types rigid f ls) (option_map (at f o) t) (at f o test.tree) (at f o left.tree) (at f o right.tree)
              (z.typed f o (first_solved rigid f test.notes.equations (left.notes.equations ++ right.notes.equations) s) j.0)
              (x.typed f o (first_solved rigid f left.notes.equations right.notes.equations s') j.1) (y.typed f o (rest_solved rigid f left.notes.equations right.notes.equations s') j.2);
        }
    sound (let_expression i v a b) ls n t h k u q =
        let p = in_binding w false (names ls) (is_none t) i v a b q in
        let value = piece w ls (n + 1) (Some (unknown n)) a in
        let inside = local v (unknown n) ∷ ls in
        let body = piece w inside (unknown_after (n + 1) value) t b in
        let x = sound a ls (n + 1) (Some (unknown n)) h tt u.0 p.0 in
        let y = sound b inside (unknown_after (n + 1) value) t (tt, h) k u.1 p.1 in
        record {
          notes = both_noted base w rigid (noted [] (i ∷ [])) (follow value.notes body.notes) (noted_sound base w rigid [] (i ∷ []) tt) (both_noted base w rigid value.notes body.notes x.notes y.notes);
          typed = λ f o s j. let_typed (sig base w) (assigned_types rigid f ls) (option_map (at f o) t) (at f o (unknown n)) (at f o value.tree) (at f o body.tree)
              (x.typed f o (first_solved rigid f value.notes.equations body.notes.equations s) j.0) (y.typed f o (rest_solved rigid f value.notes.equations body.notes.equations s) j.1);
        }
    sound (match_expression i is_let e bs) ls n t h k u q =
        let p = in_cases w (names ls) (is_none t) i is_let e bs q in
        let subject = piece w ls (n + 1) (Some (unknown n)) e in
        let rest = branches_arms w ls (unknown_after (n + 1) subject) (unknown n) t bs in
        let x = sound e ls (n + 1) (Some (unknown n)) h tt u.0 p.0 in
        let y = branches_sound bs ls (unknown_after (n + 1) subject) (unknown n) t h tt k u.1 p.2 in
        record {
          notes = record {
            equations = more_over (sig base w) subject.notes.equations rest.notes.equations x.notes.equations y.notes.equations;
            matches = λ f o s. (
              (at f o (unknown n), over_assigned (sig base w) rigid f o true (unknown n) tt, y.patterns f o (rest_solved rigid f subject.notes.equations rest.notes.equations s)),
              (both_noted base w rigid subject.notes rest.notes x.notes y.notes).matches f o s,
            );
          };
          typed = λ f o s j.
              let c = cells_assigned rigid f rest.trees in
              let z : IndicesFit (cells (map (at f o) rest.trees)) = rw c at j.1 in
              rw c (match_typed (sig base w) (assigned_types rigid f ls) (at f o (unknown n)) (option_map (at f o) t) (at f o subject.tree) (map (at f o) rest.trees)
              (x.typed f o (first_solved rigid f subject.notes.equations rest.notes.equations s) j.0) (has_arms f o bs ls (unknown_after (n + 1) subject) (unknown n) t p.1)
              (y.typed f o (rest_solved rigid f subject.notes.equations rest.notes.equations s) (cells_fit (map (at f o) rest.trees) z)));
        }
    sound (quantified_expression i all bs gs b) ls n None h k u q =
        let p = in_quantified w (names ls) true i all bs gs b q in
        let vs = bound w n bs in
        let inside = reverse vs ++ ls in
        let m = n + binders_vars bs in
        let g = triggers_notes w inside m gs in
        let body = piece w inside (m + length g.takers) None b in
        let o = bound_over n bs p.0 u.0 in
        let h' = both_locals (sig base w) (reverse vs) ls (reversed_over vs o) h in
        let ns : reverse (bound_names bs) ++ names ls ≡ names inside = sym (names_inside vs ls (bound_names bs) (names_bound w n bs)) in
        let x = triggers_sound gs inside m h' u.1 (subst (λ (l : List Word). triggers_fault w false l gs ≡ None) ns p.1) in
        let y = sound b inside (m + length g.takers) None h' tt u.2 (subst (λ (l : List Word). fault w false l true b ≡ None) ns p.2) in
        record {
          notes = both_noted base w rigid (noted [] (replicate (binders_vars bs) i)) (follow g body.notes) (noted_sound base w rigid [] (replicate (binders_vars bs) i) tt) (both_noted base w rigid g body.notes x y.notes);
          typed = λ f z s j. quantified_typed f z all vs ls body.tree o j (λ l. y.typed f z (rest_solved rigid f g.equations body.notes.equations s) l);
        }
    sound (quantified_expression i all bs gs b) ls n (Some t) h k u q = absurd (cc)

    all_sound : (es : Expressions) (ls : List LocalTree) (n : ℕ) (ts : List Tree) → length ts ≡ count_expressions es → LocalsOver (sig base w) ls → AreOver (sig base w) ts → HaveTuples base w es → faults w false (names ls) es ≡ None → AreSound base w good rigid ls ts (pieces w ls n ts es)
    all_sound no_expressions ls n [] l h o u q = no_arguments base w good rigid ls
    all_sound no_expressions ls n (t ∷ ts) l h o u q = absurd (cc)
    all_sound (more_expressions e es) ls n [] l h o u q = absurd (cc)
    all_sound (more_expressions e es) ls n (t ∷ ts) l h o u q =
        let p = none_both (fault w false (names ls) false e) (faults w false (names ls) es) q in
        let one = piece w ls n (Some t) e in
        more_arguments base w good rigid ls t ts one (pieces w ls (unknown_after n one) ts es) (sound e ls n (Some t) h o.0 u.0 p.0) (all_sound es ls (unknown_after n one) ts (suc_same l) h o.1 u.1 p.1)

    triggers_sound : (gs : Expressions) (ls : List LocalTree) (n : ℕ) → LocalsOver (sig base w) ls → HaveTuples base w gs → triggers_fault w false (names ls) gs ≡ None → AreNoted base w rigid (triggers_notes w ls n gs)
    triggers_sound no_expressions ls n h u q = none_noted base w rigid
    triggers_sound (more_expressions e es) ls n h u q =
        let b = is_formula_trigger w (names ls) e in
        let p = none_both (fault w false (names ls) b e) (triggers_fault w false (names ls) es) q in
        let one = cond b (piece w ls n None e) (noted_before (noted [] (token e ∷ [])) (piece w ls (n + 1) (Some (unknown n)) e)) in
        both_noted base w rigid one.notes (triggers_notes w ls (unknown_after n one) es)
        (either_sound ls n e b p.0 (λ z. (sound e ls n None h tt u.0 z).notes) (λ z. (sound e ls (n + 1) (Some (unknown n)) h tt u.0 z).notes))
        (triggers_sound es ls (unknown_after n one) h u.1 p.1)

    branches_sound : (bs : MatchBranches) (ls : List LocalTree) (n : ℕ) (s : Tree) (t : Option Tree) → LocalsOver (sig base w) ls → IsOver (sig base w) true s → WantedOver (sig base w) t → BranchesTuples base w bs → branches_fault w false (names ls) (is_none t) bs ≡ None
        → AreBranches ls s t (branches_arms w ls n s t bs)
    branches_sound no_branches ls n s t h o k u q = record { notes = none_noted base w rigid; patterns = λ f g z. tt; typed = λ f g z j. tt }
    branches_sound (more_branches ps b bs) ls n s t h o k u q =
        let within = reverse (alternatives_names ps) ++ names ls in
        let p = none_both (alternatives_fault w ps) (first_of (fault w false within (is_none t) b) (branches_fault w false (names ls) (is_none t) bs)) q in
        let m = none_both (fault w false within (is_none t) b) (branches_fault w false (names ls) (is_none t) bs) p.1 in
        let ms = alternatives_pieces w n s ps in
        let a = alternatives_sound base w good rigid ps n s o u.0 p.0 in
        let c = n + taken (all_notes ms) in
        let vs = first_variables ms in
        let inside = reverse vs ++ ls in
        let body = piece w inside c t b in
        let rest = branches_arms w ls (unknown_after c body) s t bs in
        let h' = both_locals (sig base w) (reverse vs) ls (reversed_over vs a.variables) h in
        let ns : SameNames (names inside) within = names_within vs ls (alternatives_names ps) (first_names w n s ps p.0) in
        let x = sound b inside c t h' k u.1 (fault_same w b false (names inside) within (is_none t) ns ∙ m.0) in
        let y = branches_sound bs ls (unknown_after c body) s t h o k u.2 m.1 in
        let es = (all_notes ms).equations ++ body.notes.equations in
        record {
          notes = both_noted base w rigid (follow (all_notes ms) body.notes) rest.notes (both_noted base w rigid (all_notes ms) body.notes a.notes x.notes) y.notes;
          patterns = λ f g z.
              let z1 = first_solved rigid f es rest.notes.equations z in
              rw (map-append (at f g) (pattern_trees ms) rest.patterns) (both_all (IsPatternAt base w rigid (at f g s)) (map (at f g) (pattern_trees ms)) (map (at f g) rest.patterns)
              (a.patterns f g (first_solved rigid f (all_notes ms).equations body.notes.equations z1)) (y.patterns f g (rest_solved rigid f es rest.notes.equations z)));
          typed = λ f g z j.
              let z1 = first_solved rigid f es rest.notes.equations z in
              let z2 = rest_solved rigid f es rest.notes.equations z in
              let e = map-append (at f g) (arms body.tree ms) rest.trees in
              let i = split_all IndicesFit (map (at f g) (arms body.tree ms)) (map (at f g) rest.trees) (rw e at j) in
              rw e (both_all (IsArm (sig base w) (assigned_types rigid f ls) (at f g s) (option_map (at f g) t)) (map (at f g) (arms body.tree ms)) (map (at f g) rest.trees)
              (a.typed f g (first_solved rigid f (all_notes ms).equations body.notes.equations z1) ls (option_map (at f g) t) body.tree
              (λ l. x.typed f g (rest_solved rigid f (all_notes ms).equations body.notes.equations z1) l) i.0)
              (y.typed f g z2 i.1));
        }
