use Rattle.theories.proofs.Plain as plain
use Rattle.theories.proofs.cloned_laws.stays_plain.Goals as goal

pub returns : goal.returns
returns u = record {
  begins = λ symbols decls ts path number h. plain.begins_plain symbols decls ts path number h;
  ends = λ c h. plain.ends_plain c h;
  used = λ link p alias c next h i. plain.uses_plain link p alias c next h i;
  scoped = λ c within names moves number h. plain.scopes_plain c within names moves number h;
  declared = λ d c next h p. plain.declared_plain d c next h p;
}
