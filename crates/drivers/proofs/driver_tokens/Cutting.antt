-- The machine over tokens of any kind: it goes by their terminals alone, and cuts the tokens without losing one.
use Rattle.std.proofs.Common.{◌≡◌, Bool, true, false, List, [], ◌∷◌, ◌++◌, map, Result, Ok, Err, refl, sym, ap, ◌∙◌, subst}
use Rattle.std.specs.List.{flat_map}
use Rattle.drivers.specs.declared.driver_tokens.terminal.DriverTerminal.{DriverTerminal}
use Rattle.drivers.specs.declared.driver_tokens.machine.DriverState.{DriverState}
use Rattle.drivers.specs.declared.driver_tokens.machine.DriverState.TheVariants as q
use Rattle.drivers.specs.declared.driver_tokens.machine.Transition.{Transition}
use Rattle.drivers.specs.declared.driver_tokens.machine.Transition.TheVariants as m
use Rattle.drivers.specs.driver_tokens.Machine.{machine_step, state_may_end, ending, within, begins, moves_from, runs, put, put_all, cut}
use Rattle.drivers.proofs.driver_tokens.Complete.{run, is_taken}

abbrev pub Ends : Type 0 → Type 0
Ends A = Result (List A × List (List A)) (List A)

abbrev pub cut_pair : {A : Type 0} → List A → List (List A) → List A × List (List A)
cut_pair xs ls = (xs, ls)

abbrev pub concat : {A : Type 0} → List (List A) → List A
concat ls = flat_map (λ l. l) ls

-- the image of an answer
abbrev pub image : {A B : Type 0} → (A → B) → Ends A → Ends B
image f (Ok c) = Ok (cut_pair (map f c.0) (map (map f) c.1))
image f (Err e) = Err (map f e)

image-within : {A B : Type 0} (f : A → B) (x : A) (r : Ends A) → within (f x) (image f r) ≡ image f (within x r)
image-within f x (Ok c) = refl
image-within f x (Err e) = refl

image-begins : {A B : Type 0} (f : A → B) (x : A) (r : Ends A) → begins (f x) (image f r) ≡ image f (begins x r)
image-begins f x (Ok c) = refl
image-begins f x (Err e) = refl

image-ending : {A B : Type 0} (f : A → B) (b : Bool) → ending b ≡ image f (ending {A = A} b)
image-ending f true = refl
image-ending f false = refl

image-moved : {A B : Type 0} (f : A → B) (g : B → DriverTerminal) (x : A) (xs : List A) (y : Transition) → ((s : DriverState) → runs g s (map f xs) ≡ image f (runs (λ a. g (f a)) s xs)) → moves_from (f x) (map f xs) y (λ s. runs g s (map f xs)) ≡ image f (moves_from x xs y (λ s. runs (λ a. g (f a)) s xs))
image-moved f g x xs m.Stuck h = refl
image-moved f g x xs (m.Within s) h = ap (within (f x)) (h s) ∙ image-within f x _
image-moved f g x xs (m.Begins s) h = ap (begins (f x)) (h s) ∙ image-begins f x _

-- what the machine answers on images is the image of its answer
pub runs-map : {A B : Type 0} (f : A → B) (g : B → DriverTerminal) (xs : List A) (s : DriverState) → runs g s (map f xs) ≡ image f (runs (λ a. g (f a)) s xs)
runs-map f g [] s = image-ending f (state_may_end s)
runs-map f g (x ∷ xs) s = image-moved f g x xs (machine_step s (g (f x))) (runs-map f g xs)

abbrev pub image_all : {A B : Type 0} → (A → B) → Result (List (List A)) (List A) → Result (List (List B)) (List B)
image_all f (Ok ls) = Ok (map (map f) ls)
image_all f (Err e) = Err (map f e)

put-map : {A B : Type 0} (f : A → B) (xs : List A) (ls : List (List A)) → put (map f xs) (map (map f) ls) ≡ map (map f) (put xs ls)
put-map f [] ls = refl
put-map f (x ∷ xs) ls = refl

put_all-map : {A B : Type 0} (f : A → B) (r : Ends A) → put_all (image f r) ≡ image_all f (put_all r)
put_all-map f (Ok c) = ap Ok (put-map f c.0 c.1)
put_all-map f (Err e) = refl

pub cut-map : {A B : Type 0} (f : A → B) (g : B → DriverTerminal) (xs : List A) → cut g (map f xs) ≡ image_all f (cut (λ a. g (f a)) xs)
cut-map f g xs = ap put_all (runs-map f g xs (q.Lines false)) ∙ put_all-map f _

within_ok : {A : Type 0} (x : A) (r : Ends A) (c : List A × List (List A)) → within x r ≡ Ok c → (d : List A × List (List A)) × (r ≡ Ok d) × (cut_pair (x ∷ d.0) d.1 ≡ c)
within_ok x (Ok d) c e = (d, refl, cc)
within_ok x (Err d) c e = cc

begins_ok : {A : Type 0} (x : A) (r : Ends A) (c : List A × List (List A)) → begins x r ≡ Ok c → (d : List A × List (List A)) × (r ≡ Ok d) × (cut_pair [] ((x ∷ d.0) ∷ d.1) ≡ c)
begins_ok x (Ok d) c e = (d, refl, cc)
begins_ok x (Err d) c e = cc

-- the parts of a cut one after another
abbrev pub flat : {A : Type 0} → List A × List (List A) → List A
flat c = c.0 ++ concat c.1

ending_flat : {A : Type 0} (b : Bool) (c : List A × List (List A)) → ending b ≡ Ok c → flat c ≡ []
ending_flat true c e = let d : cut_pair [] [] ≡ c = cc in ap flat (sym d)
ending_flat false c e = cc

abbrev Flat : {A : Type 0} → (A → DriverTerminal) → List A → Type 0
Flat {A} g xs = (s : DriverState) (c : List A × List (List A)) → runs g s xs ≡ Ok c → flat c ≡ xs

moved_flat : {A : Type 0} (g : A → DriverTerminal) (x : A) (xs : List A) → Flat g xs → (y : Transition) (c : List A × List (List A)) → moves_from x xs y (λ s. runs g s xs) ≡ Ok c → flat c ≡ x ∷ xs
moved_flat g x xs h m.Stuck c e = cc
moved_flat g x xs h (m.Within s) c e = let i = within_ok x (runs g s xs) c e in ap flat (sym i.2) ∙ ap (λ v. x ∷ v) (h s i.0 i.1)
moved_flat g x xs h (m.Begins s) c e = let i = begins_ok x (runs g s xs) c e in ap flat (sym i.2) ∙ ap (λ v. x ∷ v) (h s i.0 i.1)

-- no token is lost
pub runs_flat : {A : Type 0} (g : A → DriverTerminal) (xs : List A) → Flat g xs
runs_flat g [] s c e = ending_flat (state_may_end s) c e
runs_flat g (x ∷ xs) s c e = moved_flat g x xs (runs_flat g xs) (machine_step s (g x)) c e

-- Where the machine is stuck: after some tokens it is in a state that can't take the next one, or can't end.
abbrev pub IsStuck : {A : Type 0} → (A → DriverTerminal) → DriverState → List A → Type 0
IsStuck g s [] = state_may_end s ≡ false
IsStuck g s (x ∷ xs) = machine_step s (g x) ≡ m.Stuck

pub record Stuck {A : Type 0} (g : A → DriverTerminal) (s : DriverState) (xs after : List A) : Type 0 where
  pub before : List A
  pub state : DriverState
  pub tokens : before ++ after ≡ xs
  pub stuck : IsStuck g state after
  pub goes : (ys : List DriverTerminal) → is_taken (run s (map g before ++ ys)) ≡ is_taken (run state ys)

taken-within : (x : DriverTerminal) (r : Ends DriverTerminal) → is_taken (within x r) ≡ is_taken r
taken-within x (Ok c) = refl
taken-within x (Err e) = refl

taken-begins : (x : DriverTerminal) (r : Ends DriverTerminal) → is_taken (begins x r) ≡ is_taken r
taken-begins x (Ok c) = refl
taken-begins x (Err e) = refl

within_err : {A : Type 0} (x : A) (r : Ends A) (e : List A) → within x r ≡ Err e → r ≡ Err e
within_err x (Ok d) e h = cc
within_err x (Err d) e h = cc

begins_err : {A : Type 0} (x : A) (r : Ends A) (e : List A) → begins x r ≡ Err e → r ≡ Err e
begins_err x (Ok d) e h = cc
begins_err x (Err d) e h = cc

ending_stuck : {A : Type 0} (g : A → DriverTerminal) (s : DriverState) (b : Bool) (e : List A) → state_may_end s ≡ b → ending b ≡ Err e → Stuck g s [] e
ending_stuck g s true e i h = cc
ending_stuck g s false e i h = from_nil (sym nil)
  where
    nil : [] ≡ e
    nil = cc

    from_nil : e ≡ [] → Stuck g s [] e
    from_nil j = subst (λ v. Stuck g s [] v) (sym j) (record { before = []; state = s; tokens = refl; stuck = i; goes = λ ys. refl })

abbrev Stucks : {A : Type 0} → (A → DriverTerminal) → List A → Type 0
Stucks {A} g xs = (s : DriverState) (e : List A) → runs g s xs ≡ Err e → Stuck g s xs e

moved_stuck : {A : Type 0} (g : A → DriverTerminal) (x : A) (xs : List A) → Stucks g xs → (s : DriverState) (y : Transition) (e : List A) → machine_step s (g x) ≡ y → moves_from x xs y (λ n. runs g n xs) ≡ Err e → Stuck g s (x ∷ xs) e
moved_stuck g x xs h s m.Stuck e i j = from_all cc
  where
    from_all : e ≡ x ∷ xs → Stuck g s (x ∷ xs) e
    from_all k = subst (λ v. Stuck g s (x ∷ xs) v) (sym k) (record { before = []; state = s; tokens = refl; stuck = i; goes = λ ys. refl })
moved_stuck g x xs h s (m.Within n) e i j =
    let k = h n e (within_err x (runs g n xs) e j) in
    record {
      before = x ∷ k.before;
      state = k.state;
      tokens = ap (λ v. x ∷ v) k.tokens;
      stuck = k.stuck;
      goes = λ ys. ap (λ v. is_taken (moves_from (g x) (map g k.before ++ ys) v (λ o. run o (map g k.before ++ ys)))) i ∙ taken-within (g x) (run n (map g k.before ++ ys)) ∙ k.goes ys;
    }
moved_stuck g x xs h s (m.Begins n) e i j =
    let k = h n e (begins_err x (runs g n xs) e j) in
    record {
      before = x ∷ k.before;
      state = k.state;
      tokens = ap (λ v. x ∷ v) k.tokens;
      stuck = k.stuck;
      goes = λ ys. ap (λ v. is_taken (moves_from (g x) (map g k.before ++ ys) v (λ o. run o (map g k.before ++ ys)))) i ∙ taken-begins (g x) (run n (map g k.before ++ ys)) ∙ k.goes ys;
    }

pub runs_stuck : {A : Type 0} (g : A → DriverTerminal) (xs : List A) → Stucks g xs
runs_stuck g [] s e h = ending_stuck g s (state_may_end s) e refl h
runs_stuck g (x ∷ xs) s e h = moved_stuck g x xs (runs_stuck g xs) s (machine_step s (g x)) e refl h

-- what is stuck takes nothing that begins with the next token
pub stays_stuck : (s : DriverState) (x : DriverTerminal) (ys : List DriverTerminal) → machine_step s x ≡ m.Stuck → is_taken (run s (x ∷ ys)) ≡ false
stays_stuck s x ys e = ap (λ v. is_taken (moves_from x ys v (λ n. run n ys))) e

pub end_stuck : (s : DriverState) → state_may_end s ≡ false → is_taken (run s []) ≡ false
end_stuck s e = ap (λ v. is_taken (ending {A = DriverTerminal} v)) e

-- Two cuts of the same tokens with the same terminals are one.
lead : {A : Type 0} (f : A → DriverTerminal) (a b xs ys : List A) → map f a ≡ map f b → a ++ xs ≡ b ++ ys → (a ≡ b) × (xs ≡ ys)
lead f [] [] xs ys e h = (refl, h)
lead f [] (y ∷ b) xs ys e h = cc
lead f (x ∷ a) [] xs ys e h = cc
lead f (x ∷ a) (y ∷ b) xs ys e h = let i : map f a ≡ map f b = cc in let j : a ++ xs ≡ b ++ ys = cc in let k = lead f a b xs ys i j in let l : x ≡ y = cc in (cc (k.0, l), k.1)

pub one_cut : {A : Type 0} (f : A → DriverTerminal) (a b : List (List A)) → map (map f) a ≡ map (map f) b → concat a ≡ concat b → a ≡ b
one_cut f [] [] e h = refl
one_cut f [] (y ∷ b) e h = cc
one_cut f (x ∷ a) [] e h = cc
one_cut f (x ∷ a) (y ∷ b) e h =
    let i : map f x ≡ map f y = cc in
    let j : map (map f) a ≡ map (map f) b = cc in
    let k = lead f x y (concat a) (concat b) i h in
    let l = one_cut f a b j k.1 in
    cc (k.0, l)
