-- Types on the right sides of elements are types over the signature.
use Rattle.std.proofs.Common.{◌≡◌, false, List, length, None, sym, ◌∙◌}
use Rattle.elab_groups.specs.tasks.Vocabulary.{Vocabulary}
use Rattle.elab_groups.specs.surface.Lexeme.{Word}
use Rattle.elab_groups.specs.name_resolution.Abstract.{TypeExpression}
use Rattle.elab_groups.specs.name_resolution.Faults.{form_fault}
use Rattle.elab_groups.specs.name_resolution.variables.Seen.{form_seen}
use Rattle.elab_groups.specs.parts.Elaborated.{unseen}
use Rattle.elab_groups.specs.parts.Outcomes.{Setting, around}
use Rattle.elab_groups.proofs.parts.Alike.{form_alike}
use Rattle.elaboration_laws.specs.Scopes.{NamesNew}
use Rattle.elaboration_laws.proofs.Widths.{form_tuples}
use Rattle.elaboration_laws.specs.Valid.{IsTypedSetting}
use Rattle.elaboration_laws.proofs.Settings.{inside_scopes, inside_typed, world, tuples, same_names, form_in}
use Rattle.elaboration_laws.specs.Rights.{with_tuples, IsTypedForm}

pub right_typed : (base : Vocabulary) (c : Setting) (vars : List Word) (f : TypeExpression) → IsTypedSetting base c → form_fault (around c vars) false f ≡ None → NamesNew base (length c.symbols) (with_tuples c f) → IsTypedForm base c vars f
right_typed base c vars f h q news =
    let seen = form_seen unseen f in
    let w = world base c h seen vars in
    let resolved : form_fault w false f ≡ None = sym (form_alike (around c vars) w (same_names base c h seen vars).forms false f) ∙ q in
    record {
      type = form_in base c h seen news vars f resolved (form_tuples base w f unseen (tuples base c h seen news vars));
      signature = inside_typed base c h seen news;
      scopes = inside_scopes base c h seen;
    }
