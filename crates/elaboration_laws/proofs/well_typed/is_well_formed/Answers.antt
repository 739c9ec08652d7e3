use Rattle.elab_groups.specs.parts.Entries.{wanting_tuples}
use Rattle.elaboration_laws.proofs.Extended.{scopes_extended}
use Rattle.elaboration_laws.proofs.Scopes.{over_well_formed}
use Rattle.elaboration_laws.proofs.Tuples.{tuples_typed, tuples_there, tuple_of}
use Rattle.elaboration_laws.proofs.well_typed.is_well_formed.Goals as goal
use Rattle.std.proofs.Common.{◌++◌}

pub returns : goal.returns
returns c = record {
  typed = λ v symbols widths news h. tuples_typed v symbols widths news h;
  formed = λ v symbols names vars h k. over_well_formed v symbols h names k vars;
  tuples = λ v symbols names vars widths n news h q. tuple_of v (symbols ++ wanting_tuples symbols widths) (tuples_typed v symbols widths news h) n (tuples_there symbols widths n q);
  scopes = λ v symbols more names h. scopes_extended v symbols more names h;
}
