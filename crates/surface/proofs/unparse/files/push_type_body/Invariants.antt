use Rattle.surface.proofs.unparse.Common.{◌++◌, ◌∷◌, [], drop, map, terminals, field_tail, semicolon_after, write_type_body, constructor_of, param_of}
use Rattle.tokens_why.specs.declared.terminal.Terminal.TheVariants as t
use Rattle.surface.specs.Lexeme.{mark}
use Rattle.surface.proofs.unparse.files.push_type_body.Given as goal
use Rattle.surface.specs.unparse.Putting.{Leaves}

abbrev pub invariant-loop-field : goal.invariant-loop-field
invariant-loop-field l = Leaves l.fn.out l.out (terminals (field_tail (map param_of (drop l.field-index l.rest)) ++ (semicolon_after l.algebraic.semi ++ (mark t.RBrace ∷ [])))) (terminals (write_type_body l.fn.algebraic.bar (map constructor_of l.fn.algebraic.cons) (map param_of l.fn.algebraic.fields) l.fn.algebraic.semi))
