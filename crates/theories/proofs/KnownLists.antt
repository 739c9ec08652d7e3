-- Lists of declarations that grow, and a theory that is found by its path.
use Rattle.std.proofs.Common.{◌≡◌, List, [], ◌∷◌, ◌++◌, length, slice_get, Some, sym, ◌∙◌, arith, length-append}
use Rattle.tasks.specs.Task.{DeclarationTree}
use Rattle.theory_states.specs.declared.states.AxiomAt.{AxiomAt}
use Rattle.elaboration_laws.proofs.Places.{there, further}
use Rattle.theories.specs.Plain.{IsPlainAxiom}

pub last_at : (ds : List DeclarationTree) (d e : DeclarationTree) → slice_get (ds ++ d ∷ []) (length ds) ≡ Some e → d ≡ e
last_at [] d e q = cc
last_at (x ∷ ds) d e q = last_at ds d e q

-- an axiom of more declarations
pub plain_more : (decls new : List DeclarationTree) (a : AxiomAt) → IsPlainAxiom decls a → IsPlainAxiom (decls ++ new) a
plain_more decls new a h = record {
  there = let l = h.there in let n = length-append decls new in omega (arith, l, n);
  said = λ d q.
      let x = there decls a.decl h.there in
      let z : Some x.0 ≡ Some d = sym (further decls new a.decl x.0 x.1) ∙ q in
      h.said d (x.1 ∙ z);
}
