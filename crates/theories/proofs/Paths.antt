-- A path that is new is one that a theory may have.
use Rattle.std.proofs.Common.{◌≡◌, ℕ, false, List}
use Rattle.std.specs.Prelude.{◌||◌}
use Rattle.std.specs.Str.{bytes_eq}
use Rattle.std.specs.Option.{is_some}
use Rattle.tasks.specs.Vocabulary.{is_empty}
use Rattle.elaboration_laws.specs.elab_groups.parts.Entries.{builtin}
use Rattle.theory_states.specs.States.{KnownTree, known_named}
use Rattle.theories.specs.Files.{is_path_taken}
use Rattle.theories.specs.Right.{IsPath}
use Rattle.tasks.proofs.plain_laws.Bools.{or_first as or_left, or_second as or_right}

pub new_path : (path : List ℕ) (known : List KnownTree) → is_path_taken path known ≡ false → IsPath path
new_path path known h = record {
  named = or_left (is_empty path) (bytes_eq path builtin || is_some (known_named known path)) h;
  other = or_left (bytes_eq path builtin) (is_some (known_named known path)) (or_right (is_empty path) (bytes_eq path builtin || is_some (known_named known path)) h);
}
