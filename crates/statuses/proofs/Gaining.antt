-- What a sink gains by several pieces.
use Rattle.std.proofs.Common.{◌≡◌, ◌≤◌, ◌-◌, ◌+◌, ◌++◌, ◌∙◌, ℕ, List, [], Option, Some, None, Err, min, length, take, drop, sym, ap, arith, subst, append_assoc}
use Rattle.std.proofs.lemmas.List.{take-append-le, take_min, take-append-drop, append-nil}
use Rattle.std.proofs.Math.Seq.{take-append-add, take-add}
use Rattle.outside.specs.State.{SinkState, Gains, GainsPrefix, PutsBytes}
use Rattle.outside.specs.declared.traits.PutFault.{PutFault}
use Rattle.outside.specs.declared.traits.PutFault.TheVariants as put_fault

pub gains_more : (a b c : Option (List ℕ)) (p q : List ℕ) → Gains a p b → Gains b q c → Gains a (p ++ q) c
gains_more None b c p q one two = tt
gains_more (Some a) None c p q one two = absurd one
gains_more (Some a) (Some b) None p q one two = absurd two
gains_more (Some a) (Some b) (Some c) p q one two = two ∙ ap (λ x. x ++ q) one ∙ append_assoc a p q

pub gains_none : (a : Option (List ℕ)) → Gains a [] a
gains_none None = tt
gains_none (Some a) = sym (append-nil a)

front_more : (p q rest : List ℕ) (n : ℕ) → take (length p + min n (length q)) (p ++ (q ++ rest)) ≡ p ++ take n q
front_more p q rest n = take-append-add p (q ++ rest) (min n (length q)) ∙ ap (λ x. p ++ x) (take-append-le (min n (length q)) q rest (omega arith) ∙ take_min n q)

pub prefix_more : (a b c : Option (List ℕ)) (p q rest text : List ℕ) → p ++ (q ++ rest) ≡ text → Gains a p b → GainsPrefix b q c → GainsPrefix a text c
prefix_more a b c p q rest text whole one two = (
  length p + min two.0 (length q),
  subst (λ x. Gains a x c) (sym (front_more p q rest two.0) ∙ ap (λ x. take (length p + min two.0 (length q)) x) whole) (gains_more a b c p (take two.0 q) one two.1),
)

pub parted : (at k : ℕ) (text : List ℕ) → take at text ++ (take k (drop at text) ++ drop k (drop at text)) ≡ text
parted at k text = ap (λ x. take at text ++ x) (take-append-drop k (drop at text)) ∙ take-append-drop at text

pub front_to : (at end : ℕ) (text : List ℕ) → at ≤ end → take end text ≡ take at text ++ take (end - at) (drop at text)
front_to at end text less = let e : end ≡ at + (end - at) = omega arith in ap (λ n. take n text) e ∙ take-add at (end - at) text

-- a piece that is refused after others were taken
pub put_later : (s0 s1 s2 : SinkState) (text : List ℕ) (at k : ℕ) (e : PutFault) → Gains s0.written (take at text) s1.written → s1.faults ≡ s0.faults
    → PutsBytes s1 (take k (drop at text)) s2 (Err e) → PutsBytes s0 text s2 (Err e)
put_later s0 s1 s2 text at k put_fault.Memory one same two =
    (prefix_more s0.written s1.written s2.written (take at text) (take k (drop at text)) (drop k (drop at text)) text (parted at k text) one two.0, two.1 ∙ same)
put_later s0 s1 s2 text at k put_fault.Failed one same two =
    (prefix_more s0.written s1.written s2.written (take at text) (take k (drop at text)) (drop k (drop at text)) text (parted at k text) one two.0, omega arith, omega arith)
