-- What is typed only adds entries, so that those of int.Int stay where they are.
use Rattle.std.proofs.Common.{ℕ, Bool, true, false, if◌then◌else◌, List, [], ◌∷◌, ◌++◌, map, Option, Some, None, sym, subst}
use Rattle.tasks.specs.Task.{SymbolTree, BodyTree, MakesType, Makes, Defines, Induces, Constructs, Says, DeclarationTree}
use Rattle.tasks.specs.Rigid.{rigid_symbol}
use Rattle.tasks.specs.Valid.{AreInts}
use Rattle.surface.specs.Lexeme.{Word}
use Rattle.surface.specs.Declarations.{Element, SyntaxDeclaration, SyntaxDeclarations, SyntaxTheory, use_decl, clone_decl, scope_decl, no_decls, more_decls}
use Rattle.surface.specs.declared.names.Name.{Name}
use Rattle.surface.specs.declared.names.Path.{Path}
use Rattle.surface.specs.declared.declarations.File.{File}
use Rattle.surface.specs.declared.declarations.Link.{Link}
use Rattle.surface.specs.declared.declarations.PropKind.{PropKind}
use Rattle.surface.specs.declared.declarations.PropKind.TheVariants as kind
use Rattle.surface.specs.SurfaceDeclarations.{file_of}
use Rattle.elaboration_laws.specs.name_resolution.Abstract.{Expression}
use Rattle.elaboration_laws.specs.elab_declarations.Outcomes.{proposition_seen}
use Rattle.theory_states.specs.States.{StateTree, with_declaration, with_declarations}
use Rattle.theory_states.specs.Uses.{last_part, alias_text}
use Rattle.theories.specs.declaring.Declared.{with_proposed, proposition_in, known_by, with_named, IsDeclared}
use Rattle.elaboration_laws.specs.clones.clone_elements.Rights.{rights_tuples}
use Rattle.elaboration_laws.specs.clones.clone_elements.Replacements.{effects_of, kept, kind_or, is_replaced}
use Rattle.elaboration_laws.specs.clones.clone_copies.Origins.{origin_of, is_own}
use Rattle.elaboration_laws.specs.clones.clone_copies.Entries.{entries_copied}
use Rattle.elaboration_laws.specs.clones.clone_copies.Places.{Copying, goal_with, with_kind, with_copy, copy_of, with_joined, with_own, with_place, with_places}
use Rattle.theories.specs.cloning.Cloned.{symbols_tupled, sides_in, map_in, within_of, copying_in, with_copied_entries, IsCloned}
use Rattle.theories.specs.Ints.{int_entries}
use Rattle.theories.specs.Typing.{IsDeclarationTyped, AreDeclarationsTyped}
use Rattle.theories.specs.Files.{IsNewTheory, AreTypedIn, AreEmbeddedIn, AreEmbeddedBy}
use Rattle.elaboration_laws.proofs.Extended.{further as get_more}

abbrev pub HasInts : StateTree → Type 0
HasInts c = AreInts c.symbols int_entries

ints_more : (xs ys : List SymbolTree) → AreInts xs int_entries → AreInts (xs ++ ys) int_entries
ints_more xs ys h = record {
  neg = get_more xs ys 1 _ h.neg;
  add = get_more xs ys 2 _ h.add;
  sub = get_more xs ys 3 _ h.sub;
  mul = get_more xs ys 4 _ h.mul;
  lt = get_more xs ys 5 _ h.lt;
  le = get_more xs ys 6 _ h.le;
  gt = get_more xs ys 7 _ h.gt;
  ge = get_more xs ys 8 _ h.ge;
}

-- ---- a declaration
declarations_ints : (ds : List DeclarationTree) (c : StateTree) → HasInts c → HasInts (with_declarations ds c)
declarations_ints [] c h = h
declarations_ints (d ∷ ds) c h = declarations_ints ds (with_declaration d c) h

proposed_ints : (k : PropKind) (vars : List Word) (rigid : List ℕ) (ds : List DeclarationTree) (c : StateTree) → HasInts c → HasInts (with_proposed k vars rigid ds c)
proposed_ints k vars rigid [] c h = h
proposed_ints kind.Axiom vars rigid (d ∷ ds) c h = h
proposed_ints kind.Lemma vars rigid (d ∷ ds) c h = h
proposed_ints kind.Goal vars rigid (d ∷ ds) c h = h

known_ints : (o : Option (PropKind × Expression)) (rigid : List ℕ) (ds : List DeclarationTree) (c : StateTree) → HasInts c → HasInts (known_by o rigid ds c)
known_ints None rigid ds c h = declarations_ints ds c h
known_ints (Some p) rigid ds c h = proposed_ints p.0 (proposition_seen p.1).vars rigid ds c h

declared_ints : (d : SyntaxDeclaration) (c c' : StateTree) → IsDeclared d c c' → HasInts c → HasInts c'
declared_ints d c c' e h =
    subst HasInts (sym e.known) (known_ints (proposition_in d) e.outcome.rigid e.outcome.decls (with_named d e.outcome c) (ints_more c.symbols e.outcome.symbols h))

-- ---- a clone
goal_ints : (vars : List Word) (name : Word) (b : BodyTree) (c : StateTree) → HasInts c → HasInts (goal_with vars name b c)
goal_ints vars name (Says e) c h = ints_more c.symbols (map rigid_symbol vars) h
goal_ints vars name (MakesType k) c h = h
goal_ints vars name (Makes k) c h = h
goal_ints vars name (Defines ds) c h = h
goal_ints vars name (Induces ds) c h = h
goal_ints vars name (Constructs ds) c h = h

kind_ints : (k : PropKind) (vars : List Word) (d : DeclarationTree) (c : StateTree) → HasInts c → HasInts (with_kind k vars d c)
kind_ints kind.Axiom vars d c h = h
kind_ints kind.Lemma vars d c h = goal_ints vars d.name d.body c h
kind_ints kind.Goal vars d c h = goal_ints vars d.name d.body c h

module _ (x : Copying) where
  copy_ints : (k : ℕ) (o : Option (List Word)) (d : DeclarationTree) (c : StateTree) → HasInts c → HasInts (with_copy x k o d c)
  copy_ints k None d c h = h
  copy_ints k (Some vars) d c h = kind_ints (kind_or (x.effects k) x.all) vars d c h

  own_ints : (k : ℕ) (b : Bool) (c : StateTree) → HasInts c → HasInts (if b then c else with_copy x k (x.axioms k) (copy_of x c k) c)
  own_ints k true c h = h
  own_ints k false c h = copy_ints k (x.axioms k) (copy_of x c k) c h

  place_ints : (k : ℕ) (b : Bool) (c : StateTree) → HasInts c → HasInts (if b then with_own x k c else with_joined k c)
  place_ints k true c h = own_ints k (is_replaced (x.effects k)) c h
  place_ints k false c h = h

  places_ints : (ks : List ℕ) (c : StateTree) → HasInts c → HasInts (with_places x ks c)
  places_ints [] c h = h
  places_ints (k ∷ ks) c h = places_ints ks (with_place x k c) (place_ints k (is_own c.decls x.path k) c h)

cloned_ints : (l : Link) (p : Path) (alias : Option Name) (es : List Element) (c c' : StateTree) → IsCloned l p alias es c c' → HasInts c → HasInts c'
cloned_ints l p alias es c c' e h =
    let within = within_of l (last_part p.parts) (alias_text alias) c.opened.within in
    let tupled = symbols_tupled c es in
    let copies = entries_copied tupled (map_in c e.theory es) c.opened.path within (kept (origin_of c.decls e.theory) (effects_of (sides_in c e.theory es))) in
    let entered = ints_more tupled copies (ints_more c.symbols (rights_tuples c.symbols es) h) in
    subst HasInts (sym e.is) (places_ints (copying_in c e.theory es within) e.theory.visible (with_copied_entries c e.theory es within) entered)

-- ---- declarations
mutual
  typed_ints : (d : SyntaxDeclaration) (c c' : StateTree) → IsDeclarationTyped d c c' → HasInts c → HasInts c'
  typed_ints (use_decl a l p n) c c' s h = subst HasInts (sym s.second) (subst HasInts (sym s.first.is) h)
  typed_ints (clone_decl a l p n es) c c' s h = subst HasInts (sym s.second) (cloned_ints l p n es c s.between s.first h)
  typed_ints (scope_decl a n ds) c c' s h = subst HasInts (sym s.second.second) (all_typed_ints ds s.between s.second.between s.second.first (subst HasInts (sym s.first.is) h))
  typed_ints d c c' s h = subst HasInts (sym s.second) (declared_ints d c s.between s.first h)

  pub all_typed_ints : (ds : SyntaxDeclarations) (c c' : StateTree) → AreDeclarationsTyped ds c c' → HasInts c → HasInts c'
  all_typed_ints no_decls c c' s h = subst HasInts s h
  all_typed_ints (more_decls d ds) c c' s h = all_typed_ints ds s.between c' s.second (typed_ints d c s.between s.first h)

-- ---- theories and files
theory_ints : (path : List ℕ) (ds : SyntaxDeclarations) (c c' : StateTree) → IsNewTheory path ds c c' → HasInts c → HasInts c'
theory_ints path ds c c' u h =
    let x = u.typed in
    subst HasInts (sym x.second.second) (all_typed_ints ds x.between x.second.between x.second.first (subst HasInts (sym x.first) h))

pub source_ints : (hs : List SyntaxTheory) (c c' : StateTree) → AreTypedIn hs c c' → HasInts c → HasInts c'
source_ints [] c c' s h = subst HasInts s h
source_ints (x ∷ hs) c c' s h = source_ints hs s.between c' s.second (theory_ints x.name.text x.decls c s.between s.first h)

pub embedded_ints : (path : List ℕ) (hs : List SyntaxTheory) (c c' : StateTree) → AreEmbeddedIn path hs c c' → HasInts c → HasInts c'
embedded_ints path [] c c' s h = subst HasInts s h
embedded_ints path (x ∷ hs) c c' s h =
    embedded_ints path hs s.between c' s.second (subst HasInts (sym s.first.second) (theory_ints path x.decls c s.first.between s.first.first h))

pub files_ints : (fs : List (List ℕ × File)) (c c' : StateTree) → AreEmbeddedBy AreDeclarationsTyped fs c c' → HasInts c → HasInts c'
files_ints [] c c' s h = subst HasInts s h
files_ints (f ∷ fs) c c' s h = files_ints fs s.between c' s.second (embedded_ints f.0 (file_of f.1) c s.between s.first h)
