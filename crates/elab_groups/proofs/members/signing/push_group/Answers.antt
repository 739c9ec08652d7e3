use Rattle.std.proofs.Common.{◌≡◌, ◌++◌, List, [], map, length, slice_get, sym, ap, subst, ◌∙◌}
use Rattle.std.proofs.Math.ListN.{length-map}
use Rattle.std.specs.List.{All}
use Rattle.tasks.specs.Task.{SymbolTree}
use Rattle.tasks.specs.Meaning.{symbol_at, symbols_at}
use Rattle.name_resolution.specs.Naming.{scope_at}
use Rattle.name_resolution.specs.Where.{Where}
use Rattle.open_types.specs.Scoped.{IsScopedEntry}
use Rattle.elab_groups.specs.parts.Entries.{wanting_tuples, IsExtended}
use Rattle.elab_groups.specs.parts.Outcomes.{over}
use Rattle.elab_groups.proofs.parts.Entering.{extended_grows}
use Rattle.elab_groups.proofs.parts.Tupled.{over_extended, scoped_extended}
use Rattle.elab_groups.specs.members.Members.{SignatureTree, signature_of, signed_entries}
use Rattle.elab_groups.specs.members.Sources.{members_at, signed_at}
use Rattle.elab_groups.proofs.members.signing.push_group.Goals as goal

pub returns-clause-entered : goal.returns-clause-entered
returns-clause-entered c =
    let s = c.args.store.now in
    let g = c.args.sig.now in
    let names = c.args.scope.now in
    let ms = members_at c.args.members.now in
    let theory = c.args.place.now.theory.now in
    let within = c.args.place.now.within.now in
    let s1 = c.push_tuples.new.store in
    let g1 = c.push_tuples.new.sig in
    let s2 = c.sign_members.new.store in
    let grows = c.push_tuples.ensures.grows in
    let tuples : List SymbolTree = wanting_tuples (symbols_at s g.symbols) c.args.widths.now in
    let before : List SymbolTree = symbols_at s g.symbols ++ tuples in
    let ext : IsExtended s g s1 g1 tuples = c.in_ok-push_tuples.ensures.entries in
    let ext2 : IsExtended s g s2 g1 tuples = extended_grows tuples c.sign_members.ensures.grows ext in
    let is : over (symbols_at s1 g1.symbols) (scope_at s1 names) [] ≡ over before (scope_at s names) [] = over_extended s s1 grows g g1 tuples names c.requires.signature c.requires.scopes ext [] in
    let trees : List SignatureTree = map (signature_of (over before (scope_at s names) [])) ms in
    let signed : map (signed_at s2) c.in_ok-list.list.items ≡ trees = c.in_ok-list.ensures.signed ∙ ap (λ (w : Where). map (signature_of w) ms) is in
    let entries = rw (c.as_slice.ensures.value, signed) at c.in_ok-push_entries.ensures.entries in
    record {
      number = c.len-number.ensures ∙ (sym (length-map g1.symbols (symbol_at s1)) ∙ ap length ext.symbols);
      held = c.in_ok-list.ensures.held;
      signed = signed;
      symbols = entries ∙ ap (λ (es : List SymbolTree). es ++ signed_entries theory within ms trees) ext2.symbols;
      typed = c.in_ok-push_entries.ensures.typed (rw c.as_slice.ensures.value c.in_ok-list.ensures.held) ext2.signature.typed;
      ints = c.in_ok-push_entries.ensures.ints ∙ ext.ints;
      int = sym (ap (λ (es : List SymbolTree). slice_get es 0) ext.symbols) ∙ ext.signature.int;
      scoped = subst (All IsScopedEntry) ext.symbols ext.signature.scoped;
      outer = λ vars. scoped_extended s s1 grows g g1 tuples names c.requires.signature c.requires.scopes ext vars;
    }
