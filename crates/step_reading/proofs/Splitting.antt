-- The parts of a file between line feeds, one byte after another; its lines are the parts less an empty last one.
use Rattle.std.proofs.Common.{◌≡◌, ℕ, ◌==◌, ◌<◌, Bool, true, false, cond, List, [], ◌∷◌, ◌++◌, length, refl, sym, ap, ◌∙◌, arith, rules}
use Rattle.std.proofs.lemmas.List.{append-nil, append_assoc}
use Rattle.std.proofs.lemmas.List.Splits.{length-slice_split}
use Rattle.std.specs.List.{onto_first}
use Rattle.step_reading.specs.Words.{lines_of, line_parts, all_but_last, ended_lines}

abbrev pub kept : List ℕ → List (List ℕ)
kept [] = []
kept (c ∷ cs) = (c ∷ cs) ∷ []

abbrev closed : List (List ℕ) → List (List ℕ)
closed [] = []
closed (x ∷ []) = kept x
closed (x ∷ y ∷ more) = x ∷ closed (y ∷ more)

closed_onto : (c : ℕ) (ps : List (List ℕ)) → 0 < length ps → onto_first c (closed ps) ≡ closed (onto_first c ps)
closed_onto c [] h = absurd (omega arith)
closed_onto c ([] ∷ []) h = refl
closed_onto c ((d ∷ ds) ∷ []) h = refl
closed_onto c (p ∷ q ∷ qs) h = refl

closed_more : (ps : List (List ℕ)) → 0 < length ps → [] ∷ closed ps ≡ closed ([] ∷ ps)
closed_more [] h = absurd (omega arith)
closed_more (p ∷ ps) h = refl

closed_cut : (c : ℕ) (b : Bool) (ls ps : List (List ℕ)) → 0 < length ps → ls ≡ closed ps → cond b ([] ∷ ls) (onto_first c ls) ≡ closed (cond b ([] ∷ ps) (onto_first c ps))
closed_cut c true ls ps h e = ap (λ l. [] ∷ l) e ∙ closed_more ps h
closed_cut c false ls ps h e = ap (onto_first c) e ∙ closed_onto c ps h

some_part : (bs : List ℕ) → 0 < length (line_parts bs)
some_part bs = omega (arith, length-slice_split (λ x. x == 10) bs)

lines_closed : (bs : List ℕ) → lines_of bs ≡ closed (line_parts bs)
lines_closed [] = refl
lines_closed (c ∷ cs) = closed_cut c (c == 10) (lines_of cs) (line_parts cs) (some_part cs) (lines_closed cs)

closed_end : (xs : List (List ℕ)) (last : List ℕ) → closed (xs ++ last ∷ []) ≡ xs ++ kept last
closed_end [] last = refl
closed_end (x ∷ []) last = refl
closed_end (x ∷ y ∷ ys) last = ap (λ l. x ∷ l) (closed_end (y ∷ ys) last)

less_end : (xs : List (List ℕ)) (last : List ℕ) → all_but_last (xs ++ last ∷ []) ≡ xs
less_end [] last = refl
less_end (x ∷ []) last = refl
less_end (x ∷ y ∷ ys) last = ap (λ l. x ∷ l) (less_end (y ∷ ys) last)

-- a byte that is no line feed goes to the last part
abbrev onto_last : ℕ → List (List ℕ) → List (List ℕ)
onto_last c [] = []
onto_last c (x ∷ []) = (x ++ c ∷ []) ∷ []
onto_last c (x ∷ y ∷ more) = x ∷ onto_last c (y ∷ more)

onto_end : (c : ℕ) (xs : List (List ℕ)) (last : List ℕ) → onto_last c (xs ++ last ∷ []) ≡ xs ++ (last ++ c ∷ []) ∷ []
onto_end c [] last = refl
onto_end c (x ∷ []) last = refl
onto_end c (x ∷ y ∷ ys) last = ap (λ l. x ∷ l) (onto_end c (y ∷ ys) last)

feed_first : (b : ℕ) (e : Bool) (ps : List (List ℕ)) → 0 < length ps → cond e ([] ∷ (ps ++ [] ∷ [])) (onto_first b (ps ++ [] ∷ [])) ≡ cond e ([] ∷ ps) (onto_first b ps) ++ [] ∷ []
feed_first b e [] h = absurd (omega arith)
feed_first b true (p ∷ ps) h = refl
feed_first b false (p ∷ ps) h = refl

other_first : (b c : ℕ) (e : Bool) (ps : List (List ℕ)) → 0 < length ps → cond e ([] ∷ onto_last c ps) (onto_first b (onto_last c ps)) ≡ onto_last c (cond e ([] ∷ ps) (onto_first b ps))
other_first b c e [] h = absurd (omega arith)
other_first b c true (p ∷ ps) h = refl
other_first b c false (p ∷ []) h = refl
other_first b c false (p ∷ q ∷ ps) h = refl

parts_feed : (bs : List ℕ) → line_parts (bs ++ 10 ∷ []) ≡ line_parts bs ++ [] ∷ []
parts_feed [] = refl
parts_feed (b ∷ bs) = ap (λ l. cond (b == 10) ([] ∷ l) (onto_first b l)) (parts_feed bs) ∙ feed_first b (b == 10) (line_parts bs) (some_part bs)

parts_other : (c : ℕ) → (c == 10) ≡ false → (bs : List ℕ) → line_parts (bs ++ c ∷ []) ≡ onto_last c (line_parts bs)
parts_other c n [] = ap (λ e. cond e ([] ∷ [] ∷ []) ((c ∷ []) ∷ [])) n
parts_other c n (b ∷ bs) = ap (λ l. cond (b == 10) ([] ∷ l) (onto_first b l)) (parts_other c n bs) ∙ other_first b c (b == 10) (line_parts bs) (some_part bs)

module _ (bs : List ℕ) (xs : List (List ℕ)) (last : List ℕ) (is : line_parts bs ≡ xs ++ last ∷ []) where
  -- the last part is ended by a line feed
  pub part_ended : line_parts (bs ++ 10 ∷ []) ≡ (xs ++ last ∷ []) ++ [] ∷ []
  part_ended = parts_feed bs ∙ ap (λ l. l ++ [] ∷ []) is

  -- any other byte goes to it
  pub part_longer : (c : ℕ) → (c == 10) ≡ false → line_parts (bs ++ c ∷ []) ≡ xs ++ (last ++ c ∷ []) ∷ []
  part_longer c n = parts_other c n bs ∙ ap (onto_last c) is ∙ onto_end c xs last

  pub ended_parts : ended_lines bs ≡ xs
  ended_parts = ap all_but_last is ∙ less_end xs last

  pub lines_parts : lines_of bs ≡ xs ++ kept last
  lines_parts = lines_closed bs ∙ ap closed is ∙ closed_end xs last

-- each file has parts, of which one is the last
pub record HasParts (bs : List ℕ) : Type 0 where
  pub front : List (List ℕ)
  pub last : List ℕ
  pub are : line_parts bs ≡ front ++ last ∷ []

cut_last : (ps : List (List ℕ)) → 0 < length ps → (xs : List (List ℕ)) × (last : List ℕ) × (ps ≡ xs ++ last ∷ [])
cut_last [] h = absurd (omega arith)
cut_last (p ∷ []) h = ([], p, refl)
cut_last (p ∷ q ∷ ps) h = let r = cut_last (q ∷ ps) (omega arith) in (p ∷ r.0, r.1, ap (λ l. p ∷ l) r.2)

pub has_parts : (bs : List ℕ) → HasParts bs
has_parts bs = let r = cut_last (line_parts bs) (some_part bs) in record { front = r.0; last = r.1; are = r.2 }

-- lines that are ended stay ended
pub record EndedMore (bs more : List ℕ) : Type 0 where
  pub others : List (List ℕ)
  pub are : ended_lines (bs ++ more) ≡ ended_lines bs ++ others

ended_byte : (bs : List ℕ) (c : ℕ) (e : Bool) → (c == 10) ≡ e → EndedMore bs (c ∷ [])
ended_byte bs c true y =
    let h = has_parts bs in
    let is10 : c ≡ 10 = search rules in
    record {
      others = h.last ∷ [];
      are = ap (λ d. ended_lines (bs ++ d ∷ [])) is10 ∙ ended_parts (bs ++ 10 ∷ []) (h.front ++ h.last ∷ []) [] (part_ended bs h.front h.last h.are)
          ∙ ap (λ l. l ++ h.last ∷ []) (sym (ended_parts bs h.front h.last h.are));
    }
ended_byte bs c false n =
    let h = has_parts bs in
    record {
      others = [];
      are = ended_parts (bs ++ c ∷ []) h.front (h.last ++ c ∷ []) (part_longer bs h.front h.last h.are c n) ∙ sym (ended_parts bs h.front h.last h.are) ∙ sym (append-nil (ended_lines bs));
    }

pub ended_more : (bs more : List ℕ) → EndedMore bs more
ended_more bs [] = record { others = []; are = ap ended_lines (append-nil bs) ∙ sym (append-nil (ended_lines bs)) }
ended_more bs (c ∷ more) =
    let one = ended_byte bs c (c == 10) refl in
    let rest = ended_more (bs ++ c ∷ []) more in
    record {
      others = one.others ++ rest.others;
      are = ap ended_lines (sym (append_assoc bs (c ∷ []) more)) ∙ rest.are ∙ ap (λ l. l ++ rest.others) one.are ∙ append_assoc (ended_lines bs) one.others rest.others;
    }
