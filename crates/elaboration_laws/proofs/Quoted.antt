-- The type variables that are seen in a proposition of a source have their quotes.
use Rattle.std.proofs.Common.{◌≡◌, [], ◌∷◌, ◌++◌, All, Some, None, refl, subst}
use Rattle.std.proofs.lemmas.List.Elements.{All-weaker}
use Rattle.elab_groups.specs.tokens_why.declared.terminal.Terminal.{Terminal}
use Rattle.elab_groups.specs.tokens_why.declared.terminal.Terminal.TheVariants as t
use Rattle.elab_groups.specs.tasks.Valid.{IsQuoted}
use Rattle.elab_groups.specs.surface.Lexeme.{Word, mark}
use Rattle.elab_groups.specs.surface.Forms.{write_called}
use Rattle.elab_groups.specs.surface.Trees.{write}
use Rattle.elab_groups.specs.surface.Trees as tree
use Rattle.elab_groups.specs.surface.Declarations.{write_decl, prop_word}
use Rattle.elab_groups.specs.surface.Declarations as source
use Rattle.elab_groups.specs.surface.DeclarationRules.{IsLevelDecl}
use Rattle.elab_groups.specs.surface.declared.declarations.PropKind.{PropKind}
use Rattle.elab_groups.specs.parts.Declarations.{TokenName, proposition_declaration, declaration}
use Rattle.elab_declarations.specs.Outcomes.{proposition_seen}
use Rattle.elaboration_laws.specs.Lists.{IsGroupWhole}
use Rattle.elab_groups.specs.name_resolution.Abstract.{Expression, expression}
use Rattle.elaboration_laws.specs.Quoted.{QuotedAs, IsQuotedLexeme}
use Rattle.elaboration_laws.proofs.Variables.{VariableAs, IsVariable, tail_of, back_of, variables_told}

variable_quoted : (x : Terminal) (w : Word) → QuotedAs x w → VariableAs IsQuoted x w
variable_quoted t.TyVar w h = h
variable_quoted _ w h = tt

proposition_quoted : (e : tree.SyntaxTree) → All IsQuotedLexeme (write e) → All IsQuoted (proposition_seen (expression e)).vars
proposition_quoted e q = variables_told IsQuoted e (All-weaker IsQuotedLexeme (IsVariable IsQuoted) (λ l h. variable_quoted l.terminal l.text h) (write e) q)

-- ---- declarations
pub quoted_in : (d : source.SyntaxDeclaration) (k : PropKind) (x : TokenName) (e : Expression) → declaration d ≡ Some (proposition_declaration k x e) → All IsQuotedLexeme (write_decl d) → All IsQuoted (proposition_seen e).vars
quoted_in (source.prop_decl a k' c y) k x e d q =
    let same : expression y ≡ e = cc in
    let own = tail_of IsQuotedLexeme (mark (prop_word k')) (write_called c ++ (mark t.Colon ∷ write y)) q in
    let w = tail_of IsQuotedLexeme (mark t.Colon) (write y) (back_of IsQuotedLexeme (write_called c) (mark t.Colon ∷ write y) own) in
    subst (λ (i : Expression). All IsQuoted (proposition_seen i).vars) same (proposition_quoted y w)
quoted_in (source.type_decl a n vs None) k x e d q = absurd (cc)
quoted_in (source.type_decl a n vs (Some f)) k x e d q = absurd (cc)
quoted_in (source.algebraic_decl a ts) k x e d q = absurd (cc)
quoted_in (source.function_decl a c ps f y ms) k x e d q = absurd (cc)
quoted_in (source.predicate_decl a c ps y ms) k x e d q = absurd (cc)
quoted_in (source.constant_decl a c f y) k x e d q = absurd (cc)
quoted_in (source.inductive_decl a ds) k x e d q = absurd (cc)
quoted_in (source.use_decl a l p n) k x e d q = absurd (cc)
quoted_in (source.clone_decl a l p n es) k x e d q = absurd (cc)
quoted_in (source.scope_decl a n ds) k x e d q = absurd (cc)

pub whole_in : (d : source.SyntaxDeclaration) → IsLevelDecl d → IsGroupWhole d
whole_in (source.function_decl a c ps f None []) h = refl
whole_in (source.function_decl a c ps f None (m ∷ ms)) h = absurd h.3
whole_in (source.function_decl a c ps f (Some y) ms) h = tt
whole_in (source.predicate_decl a c ps None []) h = refl
whole_in (source.predicate_decl a c ps None (m ∷ ms)) h = absurd h.2
whole_in (source.predicate_decl a c ps (Some y) ms) h = tt
whole_in _ h = tt
