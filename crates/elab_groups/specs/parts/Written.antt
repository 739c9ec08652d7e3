-- Names in code.
use Rattle.elab_groups.specs.declared.parts.names.NamedToken.{NamedToken}
use Rattle.elab_groups.specs.parts.Declarations.{TokenName, token_name}

abbrev pub written_token_name : NamedToken → TokenName
written_token_name w = token_name w.at w.text.now
