-- Notes after others.
use Rattle.std.proofs.Common.{◌≡◌, ℕ, ◌+◌, suc, zero, List, [], ◌∷◌, ◌++◌, map, slice_set, replicate, length, refl, sym, ap, ◌∙◌, arith, append_assoc, append-nil, length-append}
use Rattle.std.specs.List.{All}
use Rattle.std.proofs.lemmas.List.{replicate-append-replicate, map-set, set_at, length-map}
use Rattle.std.proofs.lemmas.List.Elements.{All-append, All-cons, All-nil, All-set}
use Rattle.trees.specs.declared.TermId.{TermId}
use Rattle.trees.specs.Tree.{Tree}
use Rattle.trees.specs.Node.{tree_at, Holds, Grows}
use Rattle.tasks.specs.Meaning.{trees_at}
use Rattle.open_types.specs.declared.unify_types.Equation.{Equation}
use Rattle.open_types.specs.unify_types.Pairs.{HoldsEquation, equations_at}
use Rattle.open_types.specs.declared.draft.Constraints.{Constraints}
use Rattle.open_types.specs.declared.draft.MatchAt.{MatchAt}
use Rattle.open_types.specs.Patterns.{Notes, noted, with_match, no_notes, follow, taken}
use Rattle.open_types.specs.Drafts.{HoldsType, IsReady, IsMade, IsNoted, MatchHeld, match_at, notes_at}
use Rattle.open_types.proofs.Growing.{ready_grows, notes_stay}

-- ---- notes
pub follow_all : (a b c : Notes) → follow (follow a b) c ≡ follow a (follow b c)
follow_all a b c = cc (append_assoc a.equations b.equations c.equations, append_assoc a.takers b.takers c.takers, append_assoc a.matches b.matches c.matches)

pub follow_nothing : (a : Notes) → follow a no_notes ≡ a
follow_nothing a = rw (append-nil a.equations, append-nil a.takers, append-nil a.matches) refl

pub taken_both : (a b : Notes) → taken (follow a b) ≡ taken a + taken b
taken_both a b = length-append a.takers b.takers

pub count_replicate : (k x : ℕ) → length (replicate k x) ≡ k
count_replicate zero x = refl
count_replicate (suc k) x = ap suc (count_replicate k x)

pub replicate_both : (j k x : ℕ) → replicate (j + k) x ≡ replicate j x ++ replicate k x
replicate_both j k x = sym (replicate-append-replicate j k x)

pub noted_both : (es fs : List (Tree × Tree)) (ts us : List ℕ) → follow (noted es ts) (noted fs us) ≡ noted (es ++ fs) (ts ++ us)
noted_both es fs ts us = refl

-- ---- of drafts
pub nothing_noted : (s : List Tree) (d : Constraints) → IsReady s d → IsNoted s d s d no_notes
nothing_noted s d r = record { notes = sym (follow_nothing (notes_at s d)); ready = r }

pub more_noted : {s s1 s2 : List Tree} {d d1 d2 : Constraints} {a b : Notes} → IsNoted s d s1 d1 a → IsNoted s1 d1 s2 d2 b → IsNoted s d s2 d2 (follow a b)
more_noted {s} {d = d} {a = a} {b = b} x y = record { notes = y.notes ∙ ap (λ (n : Notes). follow n b) x.notes ∙ follow_all (notes_at s d) a b; ready = y.ready }

-- where the store grew before
pub noted_after : {s s1 s2 : List Tree} {d d1 : Constraints} {a : Notes} → Grows s s1 → IsReady s d → IsNoted s1 d s2 d1 a → IsNoted s d s2 d1 a
noted_after {s} {s1} {d = d} {a = a} g r x = record { notes = x.notes ∙ ap (λ (n : Notes). follow n a) (notes_stay s s1 g d r); ready = x.ready }

-- where the store grows after
pub noted_before : {s s1 s2 : List Tree} {d d1 : Constraints} {a : Notes} → IsNoted s d s1 d1 a → Grows s1 s2 → IsNoted s d s2 d1 a
noted_before {s1 = s1} {s2 = s2} {d1 = d1} x g = record { notes = notes_stay s1 s2 g d1 x.ready ∙ x.notes; ready = ready_grows s1 s2 g d1 x.ready }

pub noted_as : {s s1 : List Tree} {d d1 : Constraints} {a : Notes} → IsNoted s d s1 d1 a → (b : Notes) → a ≡ b → IsNoted s d s1 d1 b
noted_as {s} {d = d} x b e = record { notes = x.notes ∙ ap (follow (notes_at s d)) e; ready = x.ready }

-- the next unknown after notes
pub next : {s s1 : List Tree} {d d1 : Constraints} {a : Notes} → IsNoted s d s1 d1 a → length d1.takers ≡ length d.takers + taken a
next {s} {d = d} {a = a} x = ap taken x.notes ∙ taken_both (notes_at s d) a

-- ---- one more
pairs_more : (s : List Tree) (es : List Equation) (e : Equation) → equations_at s (es ++ e ∷ []) ≡ equations_at s es ++ (tree_at s e.left, tree_at s e.right) ∷ []
pairs_more s [] e = refl
pairs_more s (x ∷ xs) e = cc (pairs_more s xs e)

pub unknown_noted : {s s1 : List Tree} {d d1 : Constraints} {e : Tree} {id : TermId} {token : ℕ} → IsMade s d s1 e id
    → d1.equations ≡ d.equations → d1.takers ≡ d.takers ++ token ∷ [] → d1.matches ≡ d.matches → IsNoted s d s1 d1 (noted [] (token ∷ []))
unknown_noted {s} {s1} {d} {d1} {token = token} m e t q = record {
  notes =
      let a : notes_at s1 d1 ≡ follow (notes_at s1 d) (noted [] (token ∷ [])) = cc (ap (equations_at s1) e ∙ sym (append-nil (equations_at s1 d.equations)), t, ap (map (match_at s1)) q ∙ sym (append-nil (map (match_at s1) d.matches))) in
      a ∙ ap (λ (n : Notes). follow n (noted [] (token ∷ []))) m.notes;
  ready = record { equations = rw e m.ready.equations; matches = rw q m.ready.matches };
}

pub equation_noted : {s : List Tree} {d d1 : Constraints} {left right : TermId} → IsReady s d → HoldsType s left → HoldsType s right
    → d1.equations ≡ d.equations ++ record { left = left; right = right } ∷ [] → d1.takers ≡ d.takers → d1.matches ≡ d.matches
    → IsNoted s d s d1 (noted ((tree_at s left, tree_at s right) ∷ []) [])
equation_noted {s} {d} {d1} {left} {right} r h k e t q = record {
  notes = cc (ap (equations_at s) e ∙ pairs_more s d.equations (record { left = left; right = right }), t ∙ sym (append-nil d.takers), ap (map (match_at s)) q ∙ sym (append-nil (map (match_at s) d.matches)));
  ready = record {
    equations = rw e (All-append (HoldsEquation s) d.equations (record { left = left; right = right } ∷ []) r.equations
        (All-cons (HoldsEquation s) (record { left = left; right = right }) [] (record { left_held = h.held; right_held = k.held; left_kind = h.kind; right_kind = k.kind }) (All-nil (HoldsEquation s))));
    matches = rw q r.matches;
  };
}

pub match_noted : {s : List Tree} {d d1 : Constraints} {token : ℕ} (ps : List TermId) → IsReady s d → ps ≡ [] → d1.equations ≡ d.equations → d1.takers ≡ d.takers
    → d1.matches ≡ d.matches ++ record { token = token; patterns = ps } ∷ [] → IsNoted s d s d1 (with_match token [])
match_noted {s} {d} {d1} {token} ps r z e t q = record {
  notes = cc (ap (equations_at s) e ∙ sym (append-nil (equations_at s d.equations)), t ∙ sym (append-nil d.takers), ap (map (match_at s)) (q ∙ ap (λ (x : List TermId). d.matches ++ record { token = token; patterns = x } ∷ []) z) ∙ matches_more d.matches (record { token = token; patterns = [] }));
  ready = record {
    equations = rw e r.equations;
    matches = rw (q, z) (All-append (MatchHeld s) d.matches (record { token = token; patterns = [] } ∷ []) r.matches (All-cons (MatchHeld s) (record { token = token; patterns = [] }) [] (All-nil (Holds s)) (All-nil (MatchHeld s))));
  };
}
  where
    matches_more : (ms : List MatchAt) (m : MatchAt) → map (match_at s) (ms ++ m ∷ []) ≡ map (match_at s) ms ++ match_at s m ∷ []
    matches_more [] m = refl
    matches_more (x ∷ xs) m = ap (λ (r : List (ℕ × List Tree)). match_at s x ∷ r) (matches_more xs m)

-- ---- a match whose patterns come later
put_among : (s : List Tree) (before : List (ℕ × List Tree)) (hole : ℕ × List Tree) (after : List (ℕ × List Tree)) (ms : List MatchAt) (m : MatchAt) (k : ℕ)
    → map (match_at s) ms ≡ before ++ hole ∷ after → length before ≡ k → map (match_at s) (slice_set ms k m) ≡ before ++ match_at s m ∷ after
put_among s before hole after ms m k h l = map-set (match_at s) ms k m ∙ (ap (λ (xs : List (ℕ × List Tree)). slice_set xs k (match_at s m)) h ∙ set_at before hole after (match_at s m) k l)

pub filled_noted : {s s1 : List Tree} {d d1 d2 : Constraints} (token place : ℕ) (ids : List TermId) (rest : Notes) → place ≡ length d.matches → IsNoted s d s1 d1 (follow (with_match token []) rest) → All (Holds s1) ids
    → d2.equations ≡ d1.equations → d2.takers ≡ d1.takers → d2.matches ≡ slice_set d1.matches place (record { token = token; patterns = ids })
    → IsNoted s d s1 d2 (follow (with_match token (trees_at s1 ids)) rest)
filled_noted {s} {s1} {d} {d1} {d2} token place ids rest p n h e t q =
    let m : MatchAt = record { token = token; patterns = ids } in
    let count : length (map (match_at s) d.matches) ≡ place = length-map d.matches (match_at s) ∙ sym p in
    let old : map (match_at s1) d1.matches ≡ map (match_at s) d.matches ++ (token, []) ∷ rest.matches = ap (λ (x : Notes). x.matches) n.notes in
    let new : map (match_at s1) d2.matches ≡ map (match_at s) d.matches ++ match_at s1 m ∷ rest.matches = ap (map (match_at s1)) q ∙ put_among s1 (map (match_at s) d.matches) (token, []) rest.matches d1.matches m place old count in
    record {
      notes = cc (ap (equations_at s1) e ∙ ap (λ (x : Notes). x.equations) n.notes, t ∙ ap (λ (x : Notes). x.takers) n.notes, new);
      ready = record { equations = rw e n.ready.equations; matches = rw q (All-set (MatchHeld s1) d1.matches place m h n.ready.matches) };
    }

-- a list without elements
pub no_elements : {A : Type 0} (xs : List A) → length xs ≡ 0 → xs ≡ []
no_elements [] h = refl
no_elements (x ∷ xs) h = absurd (omega (arith, h))

pub matches_more : {s s1 : List Tree} {d d1 : Constraints} {a : Notes} → IsNoted s d s1 d1 a → length d1.matches ≡ length d.matches + length a.matches
matches_more {s} {s1} {d} {d1} {a} n =
    let e : length (map (match_at s1) d1.matches) ≡ length (map (match_at s) d.matches ++ a.matches) = ap (λ (x : Notes). length x.matches) n.notes in
    omega (arith, e, length-map d1.matches (match_at s1), length-map d.matches (match_at s), length-append (map (match_at s) d.matches) a.matches)
