-- After a clone names are still words: copies keep their names under those of scopes, and the goals of axioms have their type variables.
use Rattle.std.proofs.Common.{ℕ, ◌==◌, Bool, true, false, if◌then◌else◌, codes, List, [], ◌∷◌, ◌++◌, map, length, All, Option, Some, None, refl, sym, subst}
use Rattle.std.specs.Option.{IfSome}
use Rattle.std.proofs.lemmas.List.Elements.{All-nil, All-cons, All-append, All-push, All-head, All-tail}
use Rattle.tasks.specs.Task.{SymbolTree, BodyTree, MakesType, Makes, Defines, Induces, Constructs, Says, DeclarationTree, symbol_or}
use Rattle.tasks.specs.Rigid.{rigid_symbol}
use Rattle.surface.specs.Lexeme.{Word}
use Rattle.surface.specs.Declarations.{Element, type_element, symbol_element, prop_element, all_axioms}
use Rattle.surface.specs.declared.names.Name.{Name}
use Rattle.surface.specs.declared.names.Path.{Path}
use Rattle.surface.specs.declared.declarations.Link.{Link}
use Rattle.surface.specs.declared.declarations.Link.TheVariants as link
use Rattle.surface.specs.declared.declarations.PropKind.{PropKind}
use Rattle.surface.specs.declared.declarations.PropKind.TheVariants as kind
use Rattle.theory_states.specs.Moves.{name_or}
use Rattle.elaboration_laws.specs.clones.Mapped.{Map}
use Rattle.elaboration_laws.specs.clones.Copies.{entry_copied}
use Rattle.elaboration_laws.specs.name_resolution.Abstract.{type_expression}
use Rattle.elaboration_laws.specs.name_resolution.variables.Seen.{form_seen}
use Rattle.elaboration_laws.specs.elab_groups.parts.Elaborated.{unseen}
use Rattle.elaboration_laws.specs.clones.clone_elements.Rights.{right_tuples, rights_tuples}
use Rattle.elaboration_laws.specs.clones.clone_elements.Replacements.{effects_of, kept, kind_or, is_replaced}
use Rattle.theory_states.specs.declared.states.AxiomAt.{AxiomAt}
use Rattle.theory_states.specs.States.{KnownTree, StateTree, known_has_path, with_declaration}
use Rattle.theory_states.specs.Uses.{path_text, last_part, alias_text}
use Rattle.elaboration_laws.specs.clones.clone_copies.Origins.{Axioms, no_axioms, with_axioms, origin_of, is_own}
use Rattle.elaboration_laws.specs.clones.clone_copies.Entries.{entries_copied}
use Rattle.elaboration_laws.specs.clones.clone_copies.Places.{Copying, goal_with, with_copied_goal, with_kind, with_copy, copy_of, with_joined, with_own, with_place, with_places}
use Rattle.theories.specs.cloning.Cloned.{symbols_tupled, sides_in, map_in, within_of, copying_in, with_copied_entries, IsCloned}
use Rattle.tasks.specs.Words.{IsScopedName}
use Rattle.theories.specs.Names.{HaveWords, HaveWordVariables, HasWordNames}
use Rattle.theories.proofs.Words.{written_name, joined}
use Rattle.theories.proofs.Tuples.{HasWord, tuples_words, symbol_word}
use Rattle.theories.proofs.Outcomes.{rigid_words}
use Rattle.theories.proofs.Declared.{HasWordVariables}
use Rattle.theories.proofs.SourceLists.{found_has}

-- ---- the theory

-- the type variables of axioms by their places
abbrev Told : Axioms → Type 0
Told f = (k : ℕ) → IfSome (f k) (All IsScopedName)

told_more : (a : AxiomAt) (f : Axioms) → HasWordVariables a → Told f → Told (λ q. if a.decl == q then Some a.vars else f q)
told_more a f w h k = at (a.decl == k) (h k)
  where
    at : (b : Bool) → IfSome (f k) (All IsScopedName) → IfSome (if b then Some a.vars else f k) (All IsScopedName)
    at true m = w
    at false m = m

axioms_told : (as_ : List AxiomAt) (f : Axioms) → HaveWordVariables as_ → Told f → Told (with_axioms as_ f)
axioms_told [] f w h = h
axioms_told (a ∷ as_) f w h = axioms_told as_ (λ q. if a.decl == q then Some a.vars else f q) (All-tail HasWordVariables a as_ w) (told_more a f (All-head HasWordVariables a as_ w) h)

-- ---- entries
right_words : (symbols : List SymbolTree) (e : Element) → HaveWords (right_tuples symbols e)
right_words symbols (type_element i c vs f) = tuples_words (form_seen unseen (type_expression f)).widths symbols
right_words symbols (symbol_element i w c d) = All-nil HasWord
right_words symbols (prop_element i k c) = All-nil HasWord
right_words symbols (all_axioms i) = All-nil HasWord

rights_words : (es : List Element) (symbols : List SymbolTree) → HaveWords (rights_tuples symbols es)
rights_words [] symbols = All-nil HasWord
rights_words (e ∷ es) symbols = All-append HasWord (right_tuples symbols e) (rights_tuples (symbols ++ right_tuples symbols e) es) (right_words symbols e) (rights_words es (symbols ++ right_tuples symbols e))

copies_words : (symbols : List SymbolTree) (m : Map) (theory within : Word) (ks : List ℕ) → IsScopedName within → HaveWords symbols → HaveWords (entries_copied symbols m theory within ks)
copies_words symbols m theory within [] w h = All-nil HasWord
copies_words symbols m theory within (k ∷ ks) w h =
    All-cons HasWord (entry_copied m theory within (symbol_or symbols k)) (entries_copied symbols m theory within ks)
    (joined within (symbol_or symbols k).name w (symbol_word symbols k h)) (copies_words symbols m theory within ks w h)

entries_words : (c : StateTree) (t : KnownTree) (es : List Element) (within : Word) → IsScopedName within → HasWordNames c → HasWordNames (with_copied_entries c t es within)
entries_words c t es within w h =
    let tupled = symbols_tupled c es in
    let all = All-append HasWord c.symbols (rights_tuples c.symbols es) h.symbols (rights_words es c.symbols) in
    let ks = kept (origin_of c.decls t) (effects_of (sides_in c t es)) in
    record {
      symbols = All-append HasWord tupled (entries_copied tupled (map_in c t es) c.opened.path within ks) all (copies_words tupled (map_in c t es) c.opened.path within ks w all);
      within = h.within;
      axioms = h.axioms;
      known = h.known;
    }

-- ---- copies
visible_words : (d : DeclarationTree) (c : StateTree) → HasWordNames c → HasWordNames (with_declaration d c)
visible_words d c h = record { symbols = h.symbols; within = h.within; axioms = h.axioms; known = h.known }

goal_words : (vars : List Word) (name : Word) (b : BodyTree) (c : StateTree) → All IsScopedName vars → HasWordNames c → HasWordNames (goal_with vars name b c)
goal_words vars name (Says e) c w h = record { symbols = All-append HasWord c.symbols (map rigid_symbol vars) h.symbols (rigid_words vars w); within = h.within; axioms = h.axioms; known = h.known }
goal_words vars name (MakesType k) c w h = h
goal_words vars name (Makes k) c w h = h
goal_words vars name (Defines ds) c w h = h
goal_words vars name (Induces ds) c w h = h
goal_words vars name (Constructs ds) c w h = h

kind_words : (k : PropKind) (vars : List Word) (d : DeclarationTree) (c : StateTree) → All IsScopedName vars → HasWordNames c → HasWordNames (with_kind k vars d c)
kind_words kind.Axiom vars d c w h = record {
  symbols = h.symbols;
  within = h.within;
  axioms = All-push HasWordVariables c.opened.axioms (record { decl = length c.decls; vars = vars }) h.axioms w;
  known = h.known;
}
kind_words kind.Lemma vars d c w h = visible_words d (with_copied_goal vars d c) (goal_words vars d.name d.body c w h)
kind_words kind.Goal vars d c w h = goal_words vars d.name d.body c w h

module _ (x : Copying) (told : Told x.axioms) where
  copy_words : (k : ℕ) (o : Option (List Word)) (d : DeclarationTree) (c : StateTree) → IfSome o (All IsScopedName) → HasWordNames c → HasWordNames (with_copy x k o d c)
  copy_words k None d c w h = visible_words d c h
  copy_words k (Some vars) d c w h = kind_words (kind_or (x.effects k) x.all) vars d c w h

  own_words : (k : ℕ) (b : Bool) (c : StateTree) → HasWordNames c → HasWordNames (if b then c else with_copy x k (x.axioms k) (copy_of x c k) c)
  own_words k true c h = h
  own_words k false c h = copy_words k (x.axioms k) (copy_of x c k) c (told k) h

  place_words : (k : ℕ) (b : Bool) (c : StateTree) → HasWordNames c → HasWordNames (if b then with_own x k c else with_joined k c)
  place_words k true c h = own_words k (is_replaced (x.effects k)) c h
  place_words k false c h = record { symbols = h.symbols; within = h.within; axioms = h.axioms; known = h.known }

  places_words : (ks : List ℕ) (c : StateTree) → HasWordNames c → HasWordNames (with_places x ks c)
  places_words [] c h = h
  places_words (k ∷ ks) c h = places_words ks (with_place x k c) (place_words k (is_own c.decls x.path k) c h)

-- ---- the clone
scope_word : (last : Word) (alias : Option Word) (within : Word) → IsScopedName last → IfSome alias IsScopedName → IsScopedName within → IsScopedName (within ++ (name_or last alias ++ codes "."))
scope_word last None within w a h = joined within (last ++ codes ".") h (joined last (codes ".") w (written_name (codes ".") refl))
scope_word last (Some n) within w a h = joined within (n ++ codes ".") h (joined n (codes ".") a (written_name (codes ".") refl))

within_word : (l : Link) (last : Word) (alias : Option Word) (within : Word) → IsScopedName last → IfSome alias IsScopedName → IsScopedName within → IsScopedName (within_of l last alias within)
within_word link.Export last alias within w a h = h
within_word link.Import last alias within w a h = scope_word last alias within w a h
within_word link.Bare last alias within w a h = scope_word last alias within w a h

pub cloned_words : (l : Link) (p : Path) (alias : Option Name) (es : List Element) (c c' : StateTree) → IsScopedName (last_part p.parts) → IfSome (alias_text alias) IsScopedName → IsCloned l p alias es c c' → HasWordNames c → HasWordNames c'
cloned_words l p alias es c c' last other e h =
    let within = within_of l (last_part p.parts) (alias_text alias) c.opened.within in
    let inner = within_word l (last_part p.parts) (alias_text alias) c.opened.within last other h.within in
    let axioms : HaveWordVariables e.theory.axioms = found_has (λ (t : KnownTree). HaveWordVariables t.axioms) (known_has_path (path_text p.parts)) c.known e.theory h.known e.found in
    let told = axioms_told e.theory.axioms no_axioms axioms (λ k. tt) in
    let entered = with_copied_entries c e.theory es within in
    let x = copying_in c e.theory es within in
    let m = places_words x told e.theory.visible entered (entries_words c e.theory es within inner h) in
    subst HasWordNames (sym e.is) (record { symbols = m.symbols; within = m.within; axioms = m.axioms; known = m.known })
