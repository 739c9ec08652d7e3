-- Declarations, theories and files, and their tokens.
use Rattle.std.specs.Prelude.{ℕ, Bool, true, false, List, [], ◌∷◌, ◌++◌, Option, Some, None}
use Rattle.surface.specs.Common.{Terminal, At, Name, Link}
use Rattle.tokens_why.specs.declared.terminal.Terminal.TheVariants as t
use Rattle.surface.specs.declared.names.Path.{Path}
use Rattle.surface.specs.declared.declarations.PropKind.{PropKind}
use Rattle.surface.specs.declared.declarations.PropKind.TheVariants as pk
use Rattle.surface.specs.declared.declarations.Link.TheVariants as lk
use Rattle.surface.specs.declared.declarations.SymbolWord.{SymbolWord}
use Rattle.surface.specs.declared.declarations.SymbolWord.TheVariants as sw
use Rattle.surface.specs.Lexeme.{Word, Lexeme, lx, mark}
use Rattle.surface.specs.Forms.{semicolon_after, Called, write_called, SyntaxForm, write_form}
use Rattle.surface.specs.Trees.{SyntaxTree, write, name_row, type_part, bar_before}

-- A parameter, or a field of a constructor, with names or, as a type alone, without.
pub record ParamGroup : Type 0 where
  pub names : List Name
  pub of_type : SyntaxForm

-- a member after `with`: a function where it has a result type, else a predicate
pub record Member : Type 0 where
  pub name : Called
  pub params : List ParamGroup
  pub result : Option SyntaxForm
  pub body : SyntaxTree

pub record Constructor : Type 0 where
  pub name : Name
  pub fields : List ParamGroup

-- an algebraic type by its constructors, or a record type by its fields, each with one name
pub record Algebraic : Type 0 where
  pub name : Name
  pub vars : List Name
  pub bar : Bool
  pub constructors : List Constructor
  pub fields : List ParamGroup
  pub semi : Bool

pub record Clause : Type 0 where
  pub name : Called
  pub prop : SyntaxTree

pub record Inductive : Type 0 where
  pub name : Called
  pub params : List ParamGroup
  pub bar : Bool
  pub clauses : List Clause

-- an element of a clone's substitution
pub data Element : Type 0 where
  type_element : ℕ → Called → List Name → SyntaxForm → Element
  symbol_element : ℕ → SymbolWord → Called → Called → Element
  prop_element : ℕ → PropKind → Called → Element
  all_axioms : ℕ → Element

mutual
  pub data SyntaxDeclaration : Type 0 where
    type_decl : At → Name → List Name → Option SyntaxForm → SyntaxDeclaration
    algebraic_decl : At → List Algebraic → SyntaxDeclaration
    function_decl : At → Called → List ParamGroup → SyntaxForm → Option SyntaxTree → List Member
        → SyntaxDeclaration
    predicate_decl : At → Called → List ParamGroup → Option SyntaxTree → List Member
        → SyntaxDeclaration
    constant_decl : At → Called → SyntaxForm → Option SyntaxTree → SyntaxDeclaration
    inductive_decl : At → List Inductive → SyntaxDeclaration
    prop_decl : At → PropKind → Called → SyntaxTree → SyntaxDeclaration
    use_decl : At → Link → Path → Option Name → SyntaxDeclaration
    clone_decl : At → Link → Path → Option Name → List Element → SyntaxDeclaration
    scope_decl : At → Name → SyntaxDeclarations → SyntaxDeclaration

  pub data SyntaxDeclarations : Type 0 where
    no_decls : SyntaxDeclarations
    more_decls : SyntaxDeclaration → SyntaxDeclarations → SyntaxDeclarations

pub record SyntaxTheory : Type 0 where
  pub at : At
  pub is_module : Bool
  pub name : Name
  pub decls : SyntaxDeclarations

-- type variables side by side
abbrev pub variable_row : List Name → List Lexeme
variable_row [] = []
variable_row (n ∷ ns) = lx t.TyVar n.text ∷ variable_row ns

abbrev pub typed_names : List Name → SyntaxForm → List Lexeme
typed_names [] f = write_form f
typed_names (n ∷ ns) f =
    mark t.LParen ∷ (name_row (n ∷ ns) ++ (mark t.Colon ∷ (write_form f ++ (mark t.RParen ∷ []))))

abbrev pub write_param : ParamGroup → List Lexeme
write_param p = typed_names p.names p.of_type

-- parameters side by side
abbrev pub param_row : List ParamGroup → List Lexeme
param_row [] = []
param_row (p ∷ ps) = write_param p ++ param_row ps

abbrev pub definition : Option SyntaxTree → List Lexeme
definition None = []
definition (Some e) = mark t.Equal ∷ write e

abbrev pub write_member : Member → List Lexeme
write_member d = write_called d.name
    ++ (param_row d.params ++ (type_part d.result ++ (mark t.Equal ∷ write d.body)))

-- each after `with`
abbrev pub other_members : List Member → List Lexeme
other_members [] = []
other_members (d ∷ ds) = mark t.WithWord ∷ (write_member d ++ other_members ds)

abbrev pub write_constructor : Constructor → List Lexeme
write_constructor c = lx t.Uident c.name.text ∷ param_row c.fields

abbrev pub constructor_tail : List Constructor → List Lexeme
constructor_tail [] = []
constructor_tail (c ∷ cs) = mark t.Bar ∷ (write_constructor c ++ constructor_tail cs)

abbrev pub constructor_list : List Constructor → List Lexeme
constructor_list [] = []
constructor_list (c ∷ cs) = write_constructor c ++ constructor_tail cs

-- the fields of a record, each with its type, and semicolons between
abbrev pub write_field : ParamGroup → List Lexeme
write_field p = name_row p.names ++ (mark t.Colon ∷ write_form p.of_type)

abbrev pub field_tail : List ParamGroup → List Lexeme
field_tail [] = []
field_tail (p ∷ ps) = mark t.Semi ∷ (write_field p ++ field_tail ps)

abbrev pub write_type_body : Bool → List Constructor → List ParamGroup → Bool → List Lexeme
write_type_body bar cs [] semi = bar_before bar ++ constructor_list cs
write_type_body bar cs (p ∷ ps) semi =
    mark t.LBrace ∷ (write_field p ++ (field_tail ps
    ++ (semicolon_after semi ++ (mark t.RBrace ∷ []))))

abbrev pub write_algebraic : Algebraic → List Lexeme
write_algebraic a = lx t.Lident a.name.text
    ∷ (variable_row a.vars
    ++ (mark t.Equal ∷ write_type_body a.bar a.constructors a.fields a.semi))

abbrev pub algebraic_tail : List Algebraic → List Lexeme
algebraic_tail [] = []
algebraic_tail (a ∷ as_) = mark t.WithWord ∷ (write_algebraic a ++ algebraic_tail as_)

abbrev pub algebraic_list : List Algebraic → List Lexeme
algebraic_list [] = []
algebraic_list (a ∷ as_) = write_algebraic a ++ algebraic_tail as_

abbrev pub write_clause : Clause → List Lexeme
write_clause c = write_called c.name ++ (mark t.Colon ∷ write c.prop)

abbrev pub clause_tail : List Clause → List Lexeme
clause_tail [] = []
clause_tail (c ∷ cs) = mark t.Bar ∷ (write_clause c ++ clause_tail cs)

abbrev pub clause_list : List Clause → List Lexeme
clause_list [] = []
clause_list (c ∷ cs) = write_clause c ++ clause_tail cs

abbrev pub write_inductive : Inductive → List Lexeme
write_inductive d = write_called d.name
    ++ (param_row d.params ++ (mark t.Equal ∷ (bar_before d.bar ++ clause_list d.clauses)))

abbrev pub inductive_tail : List Inductive → List Lexeme
inductive_tail [] = []
inductive_tail (d ∷ ds) = mark t.WithWord ∷ (write_inductive d ++ inductive_tail ds)

abbrev pub inductive_list : List Inductive → List Lexeme
inductive_list [] = []
inductive_list (d ∷ ds) = write_inductive d ++ inductive_tail ds

abbrev pub prop_word : PropKind → Terminal
prop_word pk.Axiom = t.AxiomWord
prop_word pk.Lemma = t.LemmaWord
prop_word pk.Goal = t.GoalWord

abbrev pub link_words : Link → List Lexeme
link_words lk.Bare = []
link_words lk.Import = mark t.ImportWord ∷ []
link_words lk.Export = mark t.ExportWord ∷ []

-- a path from its first part on: those before the last are in lower case
abbrev pub path_from : Word → List Word → List Lexeme
path_from w [] = lx t.Uident w ∷ []
path_from w (v ∷ ws) = lx t.Lident w ∷ mark t.Dot ∷ path_from v ws

abbrev pub write_path : List Word → List Lexeme
write_path [] = []
write_path (w ∷ ws) = path_from w ws

-- a theory's name after `as`
abbrev pub renamed : Option Name → List Lexeme
renamed None = []
renamed (Some n) = mark t.AsWord ∷ lx t.Uident n.text ∷ []

abbrev pub symbol_word : SymbolWord → Terminal
symbol_word sw.Function = t.FunctionWord
symbol_word sw.Constant = t.ConstantWord
symbol_word sw.Predicate = t.PredicateWord

abbrev pub write_element : Element → List Lexeme
write_element (type_element i c vs f) =
    mark t.TypeWord ∷ (write_called c ++ (variable_row vs ++ (mark t.Equal ∷ write_form f)))
write_element (symbol_element i s c d) =
    mark (symbol_word s) ∷ (write_called c ++ (mark t.Equal ∷ write_called d))
write_element (prop_element i k c) = mark (prop_word k) ∷ write_called c
write_element (all_axioms i) = mark t.AxiomWord ∷ mark t.Dot ∷ []

abbrev pub element_tail : List Element → List Lexeme
element_tail [] = []
element_tail (e ∷ es) = mark t.Comma ∷ (write_element e ++ element_tail es)

-- the elements after `with`, if there are any
abbrev pub substitution : List Element → List Lexeme
substitution [] = []
substitution (e ∷ es) = mark t.WithWord ∷ (write_element e ++ element_tail es)

abbrev pub type_equation : Option SyntaxForm → List Lexeme
type_equation None = []
type_equation (Some f) = mark t.Equal ∷ write_form f

abbrev mutual
  pub write_decl : SyntaxDeclaration → List Lexeme
  write_decl (type_decl a n vs f) =
      mark t.TypeWord ∷ lx t.Lident n.text ∷ (variable_row vs ++ type_equation f)
  write_decl (algebraic_decl a as_) = mark t.TypeWord ∷ algebraic_list as_
  write_decl (function_decl a c ps f e ds) =
      mark t.FunctionWord ∷ (write_called c
      ++ (param_row ps ++ (mark t.Colon ∷ (write_form f ++ (definition e ++ other_members ds)))))
  write_decl (predicate_decl a c ps e ds) =
      mark t.PredicateWord ∷ (write_called c
      ++ (param_row ps ++ (definition e ++ other_members ds)))
  write_decl (constant_decl a c f e) =
      mark t.ConstantWord ∷ (write_called c ++ (mark t.Colon ∷ (write_form f ++ definition e)))
  write_decl (inductive_decl a ds) = mark t.InductiveWord ∷ inductive_list ds
  write_decl (prop_decl a k c e) = mark (prop_word k) ∷ (write_called c ++ (mark t.Colon ∷ write e))
  write_decl (use_decl a l p n) =
      mark t.UseWord ∷ (link_words l ++ (write_path p.parts ++ renamed n))
  write_decl (clone_decl a l p n es) =
      mark t.CloneWord ∷ (link_words l ++ (write_path p.parts ++ (renamed n ++ substitution es)))
  write_decl (scope_decl a n ds) =
      mark t.ScopeWord ∷ lx t.Uident n.text ∷ (write_decls ds ++ (mark t.EndWord ∷ []))

  -- one after another
  pub write_decls : SyntaxDeclarations → List Lexeme
  write_decls no_decls = []
  write_decls (more_decls d ds) = write_decl d ++ write_decls ds

abbrev pub heading : Bool → Terminal
heading true = t.ModuleWord
heading false = t.TheoryWord

abbrev pub write_theory : SyntaxTheory → List Lexeme
write_theory h = mark (heading h.is_module) ∷ lx t.Uident h.name.text
    ∷ (write_decls h.decls ++ (mark t.EndWord ∷ []))

-- theories one after another
abbrev pub write_file : List SyntaxTheory → List Lexeme
write_file [] = []
write_file (h ∷ hs) = write_theory h ++ write_file hs
