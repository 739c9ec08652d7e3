-- The names that a group makes, told member by member.
use Rattle.std.proofs.Common.{◌≡◌, ℕ, Bool, true, false, cond, List, [], ◌∷◌, ◌++◌, get_or, set, zero, suc, Option, Some, option_map, refl, sym, ap, ◌∙◌}
use Rattle.std.specs.Prelude.{◌||◌, ◌&&◌}
use Rattle.std.specs.Option.{is_some}
use Rattle.std.specs.Str.{bytes_eq}
use Rattle.scopes.specs.declared.Table.{Table}
use Rattle.scopes.specs.declared.Table.TheVariants.{Symbols}
use Rattle.scopes.specs.Names.{TypeName, ScopeNames, ScopeEntry, is_declared, innermost, with_name}
use Rattle.surface.specs.Lexeme.{Word}
use Rattle.name_resolution.specs.declared.NamingFault.{NamingFault}
use Rattle.name_resolution.specs.declared.NamingFault.TheVariants.{Duplicate}
use Rattle.tasks.specs.trees.Tree.{Tree}
use Rattle.name_resolution.specs.Faults.{first_of, fault_if}
use Rattle.name_resolution.specs.Naming.{scope_at}
use Rattle.name_resolution.specs.Where.{place_of}
use Rattle.name_resolution.proofs.Placed.{one_more}
use Rattle.elab_groups.specs.parts.Declarations.{GroupMember, Made, makes, binds_names, names_of_parameters, list_fault, made_before, made_by_members, made_fault}
use Rattle.elab_groups.specs.parts.Outcomes.{declared_in}
use Rattle.elab_groups.proofs.parts.AtScope.{declared_at}
use Rattle.elab_groups.specs.members.Members.{member_made, members_made}
use Rattle.scopes.proofs.outside.Bools.{or_grouped as or_assoc}
use Rattle.name_resolution.proofs.Told.{three as first_assoc}
use Rattle.std.proofs.lemmas.Bool.{or_right as or_true}

-- ---- what is declared and what is before count together
abbrev pub Same : (d d' : Word → Bool) (b b' : Word → Bool) → Type 0
Same d d' b b' = (x : Word) → (d x || b x) ≡ (d' x || b' x)

-- one more name on both sides
pub more_same : (d b d' b' e : Bool) → (d || b) ≡ (d' || b') → (d || (e || b)) ≡ (d' || (e || b'))
more_same d b d' b' true h = or_true d true refl ∙ sym (or_true d' true refl)
more_same d b d' b' false h = h

-- the first of two
pub among_first : (x y : Word) (ws : List Word) → is_some (place_of x (y ∷ ws)) ≡ (bytes_eq y x || is_some (place_of x ws))
among_first x y ws = at (bytes_eq y x)
  where
    at : (b : Bool) → is_some (cond b (Some 0) (option_map suc (place_of x ws))) ≡ (b || is_some (place_of x ws))
    at true = refl
    at false = one_more (place_of x ws)

or_swap : (a b : Bool) → (a || b) ≡ (b || a)
or_swap true true = refl
or_swap true false = refl
or_swap false true = refl
or_swap false false = refl

pub among_last : (x y : Word) (ws : List Word) → is_some (place_of x (ws ++ y ∷ [])) ≡ (bytes_eq y x || is_some (place_of x ws))
among_last x y [] = among_first x y []
among_last x y (w ∷ ws) =
    among_first x w (ws ++ y ∷ []) ∙ (ap (λ (b : Bool). bytes_eq w x || b) (among_last x y ws) ∙ (sym (or_assoc (bytes_eq w x) (bytes_eq y x) (is_some (place_of x ws)))
    ∙ (ap (λ (b : Bool). b || is_some (place_of x ws)) (or_swap (bytes_eq w x) (bytes_eq y x)) ∙ (or_assoc (bytes_eq y x) (bytes_eq w x) (is_some (place_of x ws)) ∙ ap (λ (b : Bool). bytes_eq y x || b) (sym (among_first x w ws))))))

-- ---- the definition, member by member

told_by : (declared : Table → Word → Bool) (d : Word → Bool) (before : List Made) (ws : List Word) → Same (declared Symbols) d (λ x. made_before Symbols x before) (λ x. is_some (place_of x ws))
    → (ms : List GroupMember) → made_fault declared before (made_by_members ms) ≡ members_made d ws ms
told_by declared d before ws h [] = refl
told_by declared d before ws h (m ∷ ms) =
    let c = m.called in
    let one : fault_if (declared Symbols c.name || made_before Symbols c.name before) (Duplicate c.at) ≡ fault_if (d c.name || is_some (place_of c.name ws)) (Duplicate c.at) = ap (λ (b : Bool). fault_if b (Duplicate c.at)) (h c.name) in
    let further : Same (declared Symbols) d (λ x. made_before Symbols x (binds_names (names_of_parameters m.params) ∷ makes Symbols c ∷ before)) (λ x. is_some (place_of x (ws ++ c.name ∷ []))) =
    λ x. more_same (declared Symbols x) (made_before Symbols x before) (d x) (is_some (place_of x ws)) (bytes_eq c.name x) (h x) ∙ ap (λ (b : Bool). d x || b) (sym (among_last x c.name ws)) in
    let rest = told_by declared d (binds_names (names_of_parameters m.params) ∷ makes Symbols c ∷ before) (ws ++ c.name ∷ []) further ms in
    ap (λ (a : Option NamingFault). first_of a (first_of (list_fault [] (names_of_parameters m.params)) (made_fault declared (binds_names (names_of_parameters m.params) ∷ makes Symbols c ∷ before) (made_by_members ms)))) one
    ∙ (ap (λ (r : Option NamingFault). first_of (fault_if (d c.name || is_some (place_of c.name ws)) (Duplicate c.at)) (first_of (list_fault [] (names_of_parameters m.params)) r)) rest
    ∙ sym (first_assoc (fault_if (d c.name || is_some (place_of c.name ws)) (Duplicate c.at)) (list_fault [] (names_of_parameters m.params)) (members_made d (ws ++ c.name ∷ []) ms)))

pub made_told : (s : List Tree) (names : ScopeNames) (ms : List GroupMember) → made_fault (declared_in (scope_at s names)) [] (made_by_members ms) ≡ members_made (declared_in names Symbols) [] ms
made_told s names ms =
    ap (λ (f : Table → Word → Bool). made_fault f [] (made_by_members ms)) (declared_at s names) ∙ told_by (declared_in names) (declared_in names Symbols) [] [] (λ x. refl) ms

-- ---- a name that is declared meanwhile
same_made : (d d' : Word → Bool) (ws : List Word) → Same d d' (λ x. is_some (place_of x ws)) (λ x. is_some (place_of x ws)) → (ms : List GroupMember) → members_made d ws ms ≡ members_made d' ws ms
same_made d d' ws h [] = refl
same_made d d' ws h (m ∷ ms) =
    let c = m.called in
    let further : Same d d' (λ x. is_some (place_of x (ws ++ c.name ∷ []))) (λ x. is_some (place_of x (ws ++ c.name ∷ []))) =
    λ x. ap (λ (b : Bool). d x || b) (among_last x c.name ws) ∙ (more_same (d x) (is_some (place_of x ws)) (d' x) (is_some (place_of x ws)) (bytes_eq c.name x) (h x) ∙ ap (λ (b : Bool). d' x || b) (sym (among_last x c.name ws))) in
    ap (λ (b : Bool). first_of (first_of (fault_if b (Duplicate c.at)) (list_fault [] (names_of_parameters m.params))) (members_made d (ws ++ c.name ∷ []) ms)) (h c.name)
    ∙ ap (first_of (member_made d' ws c m.params)) (same_made d d' (ws ++ c.name ∷ []) further ms)

-- the scope has the entries that it had, or one more
counts_once : (b d w : Bool) → (b ≡ true → w ≡ true) → (((b && true) || d) || w) ≡ (d || w)
counts_once true d w f = sym (or_true d w (f refl))
counts_once false d w f = refl

module _ (x y : Word) (thing : TypeName) (w : Bool) (f : bytes_eq y x ≡ true → w ≡ true) where
  abbrev e : ScopeEntry
  e = record { table = Symbols; name = y; thing = thing; declared = true }

  one_entry : (ess : List (List ScopeEntry)) (k : ℕ) → (is_declared Symbols x (get_or (set ess k (e ∷ get_or ess k [])) k []) || w) ≡ (is_declared Symbols x (get_or ess k []) || w)
  one_entry [] k = refl
  one_entry (es ∷ ess) zero = counts_once (bytes_eq y x) (is_declared Symbols x es) w f
  one_entry (es ∷ ess) (suc k) = one_entry ess k

among_same : (x y : Word) (ws : List Word) → bytes_eq y x ≡ true → is_some (place_of x (ws ++ y ∷ [])) ≡ true
among_same x y ws h = among_last x y ws ∙ ap (λ (b : Bool). b || is_some (place_of x ws)) h

-- a member's name is declared, and is among those before the others
pub made_next : (names : ScopeNames) (y : Word) (thing : TypeName) (ws : List Word) (ms : List GroupMember)
    → members_made (declared_in (with_name Symbols y thing true names) Symbols) (ws ++ y ∷ []) ms ≡ members_made (declared_in names Symbols) (ws ++ y ∷ []) ms
made_next names y thing ws ms =
    same_made (declared_in (with_name Symbols y thing true names) Symbols) (declared_in names Symbols) (ws ++ y ∷ [])
    (λ x. one_entry x y thing (is_some (place_of x (ws ++ y ∷ []))) (among_same x y ws) names.entries (innermost names)) ms
