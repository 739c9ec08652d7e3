-- What the type equations of an expression decide is what its typings have in common.
use Rattle.std.proofs.Common.{◌≡◌, ℕ, ◌+◌, ◌<◌, zero, suc, List, [], ◌∷◌, take, length, get_or, slice_get, Option, Some, refl, sym, ap, subst, ◌∙◌, arith}
use Rattle.std.proofs.Math.ListN.{length-map}
use Rattle.elab_groups.specs.trees.Tree.{Tree}
use Rattle.elab_groups.specs.tasks.Vocabulary.{Vocabulary}
use Rattle.elab_groups.specs.open_types.unify_types.Assigned.{assign}
use Rattle.elab_groups.specs.open_types.unify_types.Pairs.{SolvesAll, IsSolution}
use Rattle.elab_groups.specs.name_resolution.Abstract.{Expression}
use Rattle.elab_groups.specs.name_resolution.Where.{Where}
use Rattle.elab_groups.specs.open_types.Patterns.{LocalTree}
use Rattle.elab_groups.specs.open_types.Pieces.{piece}
use Rattle.elab_groups.specs.declared.parts.solution.TypingFault.TheVariants.{Clash, Undetermined}
use Rattle.elab_groups.specs.parts.Elaborated.{IsSolved, IsTypingFault}
use Rattle.elaboration_laws.specs.Typed.{IsNamedExpression}
use Rattle.elaboration_laws.specs.Typings.{Choice, tokens, choices_from, chosen_types, ElaboratesTo, IsPieceAt, HasOwnTypes, IsFirstDifference, IsOnlyTyping}
use Rattle.elaboration_laws.proofs.TypingSolutions.{is_piece_at}
use Rattle.elaboration_laws.proofs.SolutionTypings.{has_typing}
pub use Rattle.elaboration_laws.proofs.TypingSolutions.{some_same}

pub tokens_from : (f : ℕ → Tree) (n : ℕ) (xs : List ℕ) → tokens (choices_from f n xs) ≡ xs
tokens_from f n [] = refl
tokens_from f n (x ∷ xs) = ap (λ (ys : List ℕ). x ∷ ys) (tokens_from f (n + 1) xs)

pub type_from : (f : ℕ → Tree) (n : ℕ) (xs : List ℕ) (j : ℕ) → j < length xs → slice_get (chosen_types (choices_from f n xs)) j ≡ Some (f (n + j))
type_from f n [] j l = absurd (omega arith)
type_from f n (x ∷ xs) zero l = let e : n ≡ n + 0 = omega arith in ap (λ (k : ℕ). Some (f k)) e
type_from f n (x ∷ xs) (suc j) l = let e : n + 1 + j ≡ n + suc j = omega arith in type_from f (n + 1) xs j (omega arith) ∙ ap (λ (k : ℕ). Some (f k)) e

pub there : (xs : List ℕ) (j x : ℕ) → slice_get xs j ≡ Some x → j < length xs
there [] j x h = absurd (cc (h))
there (y ∷ xs) zero x h = omega arith
there (y ∷ xs) (suc j) x h = let l = there xs j x h in omega (arith, l)

pub type_at : (cs : List Choice) (j : ℕ) (d : Choice) → j < length cs → slice_get (chosen_types cs) j ≡ Some (get_or cs j d).type
type_at [] j d l = absurd (omega arith)
type_at (c ∷ cs) zero d l = refl
type_at (c ∷ cs) (suc j) d l = type_at cs j d (omega arith)

pub first_solved : (r : ℕ) (f : ℕ → Tree) (k : ℕ) (es : List (Tree × Tree)) → SolvesAll r f es → SolvesAll r f (take k es)
first_solved r f zero es h = tt
first_solved r f (suc k) [] h = tt
first_solved r f (suc k) (e ∷ es) h = (h.0, first_solved r f k es h.1)

module _ (base : Vocabulary) (w : Where) (r : ℕ) (ls : List LocalTree) (t : Option Tree) (a : Expression) (h : IsNamedExpression base w ls t a) (o : HasOwnTypes w r ls t) where
  typing_at : (f : ℕ → Tree) → IsSolution r f (piece w ls r t a).notes.equations → ElaboratesTo w ls t a (assign r f (piece w ls r t a).tree) (choices_from f r (piece w ls r t a).notes.takers)
  typing_at f s = has_typing base w h.signature o.scoped r o.count f s.types ls t a o h.tuples h.named s.solves

  solution_of : (e : Tree) (cs : List Choice) → ElaboratesTo w ls t a e cs → IsPieceAt r (piece w ls r t a) e cs
  solution_of e cs d = is_piece_at w o.scoped r o.count cs d.types ls t a e o h.named d.typing

  pub only_typing : (e : Tree) (ms : List (ℕ × List Tree)) → IsSolved r (piece w ls r t a) e ms → IsOnlyTyping w ls t a e
  only_typing e ms s =
      let f = s.determined.solvable.0 in
      let g = s.determined.solvable.1 in
      let cs = choices_from f r (piece w ls r t a).notes.takers in
      record {
        chosen = choices_from f r (piece w ls r t a).notes.takers;
        typing = subst (λ (x : Tree). ElaboratesTo w ls t a x (choices_from f r (piece w ls r t a).notes.takers)) (s.tree f g) (typing_at f g);
        only = λ x ds d. let y = solution_of x ds d in sym y.tree ∙ s.tree y.assigned y.solution;
      }

  pub no_typing : (k : ℕ) → IsTypingFault r (piece w ls r t a).notes (Clash k) → (e : Tree) (cs : List Choice) → ElaboratesTo w ls t a e cs → ⊥
  no_typing k c e cs d =
      let y = solution_of e cs d in
      c.1 y.assigned (first_solved r y.assigned (k + 1) (piece w ls r t a).notes.equations y.solution.solves)

  pub first_open : (token : ℕ) → IsTypingFault r (piece w ls r t a).notes (Undetermined token) → IsFirstDifference w ls t a token
  first_open token c =
      let i = c.0 in
      let open_ = c.2 in
      let xs = (piece w ls r t a).notes.takers in
      let l : c.0 < length (piece w ls r t a).notes.takers = there (piece w ls r t a).notes.takers c.0 token c.1 in
      record {
        place = c.0;
        first_tree = assign r c.2.first (piece w ls r t a).tree;
        second_tree = assign r c.2.second (piece w ls r t a).tree;
        first = choices_from c.2.first r (piece w ls r t a).notes.takers;
        second = choices_from c.2.second r (piece w ls r t a).notes.takers;
        first_is = typing_at c.2.first c.2.first_solves;
        second_is = typing_at c.2.second c.2.second_solves;
        node = ap (λ (ys : List ℕ). slice_get ys c.0) (tokens_from c.2.first r (piece w ls r t a).notes.takers) ∙ c.1;
        differ = λ q. c.2.differ (some_same (c.2.first (r + c.0)) (c.2.second (r + c.0)) (sym (type_from c.2.first r (piece w ls r t a).notes.takers c.0 l) ∙ q ∙ type_from c.2.second r (piece w ls r t a).notes.takers c.0 l));
        before = λ x y cs ds d e j k.
            let p = solution_of x cs d in
            let q = solution_of y ds e in
            let d0 : Choice = record { token = 0; type = x } in
            let m : j < length cs = omega (arith, k, l, counted cs p.takers) in
            let n : j < length ds = omega (arith, k, l, counted ds q.takers) in
            type_at cs j (record { token = 0; type = x }) m ∙ ap (λ (z : Tree). Some z) (sym (p.types j (record { token = 0; type = x }) m) ∙ c.3 j k p.assigned q.assigned p.solution q.solution ∙ q.types j (record { token = 0; type = x }) n)
            ∙ sym (type_at ds j (record { token = 0; type = x }) n);
      }
    where
      counted : (cs : List Choice) → (piece w ls r t a).notes.takers ≡ tokens cs → length (piece w ls r t a).notes.takers ≡ length cs
      counted cs e = ap length e ∙ length-map cs (λ (c : Choice). c.token)
