-- The names that a declaration makes are texts of its tokens.
use Rattle.std.proofs.Common.{◌≡◌, Bool, true, false, ◌&&◌, append_assoc, subst, sym, codes, List, [], ◌∷◌, ◌++◌, map, All, Some, None, refl, arith}
use Rattle.std.specs.Option.{IfSome}
use Rattle.std.specs.List.{AllByRecursion}
use Rattle.std.proofs.lemmas.List.Elements.{All-weaker}
use Rattle.surface.specs.tokens_why.declared.terminal.Terminal.{Terminal}
use Rattle.surface.specs.tokens_why.declared.terminal.Terminal.TheVariants as t
use Rattle.surface.specs.Lexeme.{Word, Lexeme, mark, lx}
use Rattle.surface.specs.Forms.{Own, lower, upper, infix_op, prefix_op, star, scoped, write_own, write_called, write_form}
use Rattle.surface.specs.Forms as surface
use Rattle.surface.specs.Trees.{SyntaxTree, write, name_row, bar_before, type_part}
use Rattle.surface.specs.Declarations.{variable_row, param_row, definition, write_member, other_members, write_constructor, constructor_tail, constructor_list, write_algebraic, algebraic_tail, clause_list, write_inductive, inductive_tail, prop_word, write_decl}
use Rattle.surface.specs.Declarations as source
use Rattle.elaboration_laws.specs.name_resolution.Abstract.{expression, spelled, prefix_name, infix_name, text_of_own}
use Rattle.elaboration_laws.specs.elab_groups.parts.Declarations.{GroupMember, AlgebraicConstructor, AlgebraicType, Declaration, abstract_type, alias, algebraic, member_group, inductive, proposition_declaration, declaration, symbol, word, words, parameter_of, group_member, constructor, type_constructors, algebraic_type, inductive_predicate}
use Rattle.elaboration_laws.specs.elab_groups.members.Members.{parameter_words, words_of_parameters}
use Rattle.surface.specs.declared.names.Name.{Name}
use Rattle.elaboration_laws.specs.elab_declarations.inductive_declarations.Inductives.{as_members}
use Rattle.elaboration_laws.specs.elab_declarations.Outcomes.{proposition_seen}
use Rattle.tasks.specs.Words.{IsScopedName, has_no_number}
use Rattle.theories.specs.Lexemes.{SaysWord, IsWordLexeme, AreWordLexemes}
use Rattle.theories.proofs.Words.{written_name, joined}
use Rattle.elaboration_laws.proofs.Variables.{VariableAs, IsVariable, tail_of, front_of, back_of, variables_told}

-- ---- what is named
-- a field without a name has an empty word
pub record IsConstructorNamed (k : AlgebraicConstructor) : Type 0 where
  pub name : IsScopedName k.own
  pub fields : AllByRecursion IsScopedName (words_of_parameters k.fields)

abbrev pub ConstructorsNamed : List AlgebraicConstructor → Type 0
ConstructorsNamed ks = AllByRecursion IsConstructorNamed ks

pub record IsTypeNamed (a : AlgebraicType) : Type 0 where
  pub name : IsScopedName a.called.name
  pub constructors : ConstructorsNamed a.constructors

abbrev pub TypesNamed : List AlgebraicType → Type 0
TypesNamed ts = AllByRecursion IsTypeNamed ts

abbrev pub MembersNamed : List GroupMember → Type 0
MembersNamed ms = AllByRecursion (λ (m : GroupMember). IsScopedName m.called.name) ms

-- the entries that a declaration makes have words, a proposition's are its type variables
abbrev pub IsNamed : Declaration → Type 0
IsNamed (abstract_type x vs) = IsScopedName x.name
IsNamed (alias x vs f) = Unit {0}
IsNamed (algebraic ts) = TypesNamed ts
IsNamed (member_group ms) = MembersNamed ms
IsNamed (inductive ds) = MembersNamed (as_members ds)
IsNamed (proposition_declaration k x e) = All IsScopedName (proposition_seen e).vars

-- ---- lists of tokens
abbrev Are : List Lexeme → Type 0
Are = AreWordLexemes

tail_at : (x : Lexeme) (xs : List Lexeme) → Are (x ∷ xs) → Are xs
tail_at = tail_of IsWordLexeme

front_at : (xs ys : List Lexeme) → Are (xs ++ ys) → Are xs
front_at = front_of IsWordLexeme

back_at : (xs ys : List Lexeme) → Are (xs ++ ys) → Are ys
back_at = back_of IsWordLexeme

-- ---- names
spelled_word : (o : Terminal) (w : Word) → SaysWord o w → IsScopedName (spelled o w)
spelled_word t.Equal w h = written_name (codes "=") refl
spelled_word t.Minus w h = written_name (codes "-") refl
spelled_word t.Operator1 w h = h
spelled_word t.Operator2 w h = h
spelled_word t.Operator3 w h = h
spelled_word t.Operator4 w h = h
spelled_word t.PrefixOperator w h = h
spelled_word _ w h = written_name [] refl

prefix_word : (w : Word) → IsScopedName w → IsScopedName (prefix_name w)
prefix_word w h = joined w (codes "_") h (written_name (codes "_") refl)

infix_word : (o : Terminal) (w : Word) → SaysWord o w → IsScopedName (infix_name o w)
infix_word t.PrefixOperator w h = prefix_word w h
infix_word o w h = spelled_word o w h

own_word : (o : Own) → Are (write_own o) → IsScopedName (text_of_own o)
own_word (lower w) q = q 0 (lx t.Lident w) (omega arith)
own_word (upper w) q = q 0 (lx t.Uident w) (omega arith)
own_word (infix_op o w) q = infix_word o w (q 1 (lx o w) (omega arith))
own_word (prefix_op o w) q = prefix_word (spelled o w) (spelled_word o w (q 1 (lx o w) (omega arith)))
own_word star q = written_name (codes "*") refl

called_word : (c : surface.Called) → Are (write_called c) → IsScopedName (symbol c).name
called_word c q = own_word c.own (back_at (scoped c.scopes) (write_own c.own) q)

-- ---- type variables
variable_from : (x : Terminal) (w : Word) → SaysWord x w → VariableAs IsScopedName x w
variable_from t.TyVar w h = h
variable_from _ w h = tt

pub proposition_words : (e : SyntaxTree) → Are (write e) → All IsScopedName (proposition_seen (expression e)).vars
proposition_words e q = variables_told IsScopedName e (All-weaker IsWordLexeme (IsVariable IsScopedName) (λ l h. variable_from l.terminal l.text h) (write e) q)

-- ---- algebraic types
both_named : (us vs : List Word) → AllByRecursion IsScopedName us → AllByRecursion IsScopedName vs → AllByRecursion IsScopedName (us ++ vs)
both_named [] vs h k = k
both_named (u ∷ us) vs h k = (h.0, both_named us vs h.1 k)

names_are : (ns : List Name) (rest : List Lexeme) → Are (name_row ns ++ rest) → AllByRecursion IsScopedName (words (map word ns))
names_are [] rest q = tt
names_are (n ∷ ns) rest q = (q 0 (lx t.Lident n.text) (omega arith), names_are ns rest (tail_at (lx t.Lident n.text) (name_row ns ++ rest) q))

typed_are : (ns : List Name) (f : surface.SyntaxForm) (rest : List Lexeme) → Are (source.typed_names ns f ++ rest) → AllByRecursion IsScopedName (parameter_words (map word ns))
typed_are [] f rest q = (written_name [] refl, tt)
typed_are (n ∷ ns) f rest q =
    let last = mark t.Colon ∷ (write_form f ++ (mark t.RParen ∷ [])) in
    names_are (n ∷ ns) last (front_at (name_row (n ∷ ns) ++ last) rest (tail_at (mark t.LParen) ((name_row (n ∷ ns) ++ last) ++ rest) q))

params_are : (ps : List source.ParamGroup) → Are (param_row ps) → AllByRecursion IsScopedName (words_of_parameters (map parameter_of ps))
params_are [] q = tt
params_are (p ∷ ps) q =
    both_named (parameter_words (map word p.names)) (words_of_parameters (map parameter_of ps)) (typed_are p.names p.of_type (param_row ps) q) (params_are ps (back_at (source.write_param p) (param_row ps) q))

constructor_named : (c : source.Constructor) (rest : List Lexeme) → Are (write_constructor c ++ rest) → IsConstructorNamed (constructor c)
constructor_named c rest q = record {
  name = q 0 (lx t.Uident c.name.text) (omega arith);
  fields = params_are c.fields (front_at (param_row c.fields) rest (tail_at (lx t.Uident c.name.text) (param_row c.fields ++ rest) q));
}

others_named : (cs : List source.Constructor) → Are (constructor_tail cs) → ConstructorsNamed (map constructor cs)
others_named [] q = tt
others_named (c ∷ cs) q =
    let r = tail_at (mark t.Bar) (write_constructor c ++ constructor_tail cs) q in
    (constructor_named c (constructor_tail cs) r, others_named cs (back_at (write_constructor c) (constructor_tail cs) r))

constructors_named : (cs : List source.Constructor) → Are (constructor_list cs) → ConstructorsNamed (map constructor cs)
constructors_named [] q = tt
constructors_named (c ∷ cs) q = (constructor_named c (constructor_tail cs) q, others_named cs (back_at (write_constructor c) (constructor_tail cs) q))

-- fields of a record
field_words : (ns : List Name) (last : List Lexeme) → Are (name_row ns ++ last) → AllByRecursion IsScopedName (parameter_words (map word ns))
field_words [] last q = (written_name [] refl, tt)
field_words (n ∷ ns) last q = names_are (n ∷ ns) last q

record_words : (p : source.ParamGroup) (ps : List source.ParamGroup) → Are (source.write_field p ++ source.field_tail ps) → AllByRecursion IsScopedName (words_of_parameters (map parameter_of (p ∷ ps)))
record_words p [] q = both_named (parameter_words (map word p.names)) [] (field_words p.names (mark t.Colon ∷ write_form p.of_type) (front_at (source.write_field p) [] q)) tt
record_words p (f ∷ ps) q = both_named (parameter_words (map word p.names)) (words_of_parameters (map parameter_of (f ∷ ps))) (field_words p.names (mark t.Colon ∷ write_form p.of_type) (front_at (source.write_field p) (source.field_tail (f ∷ ps)) q))
    (record_words f ps (tail_at (mark t.Semi) (source.write_field f ++ source.field_tail ps) (back_at (source.write_field p) (source.field_tail (f ∷ ps)) q)))

-- `mk_` before a name
record_named : (x : Word) → IsScopedName x → IsScopedName (codes "mk_" ++ x)
record_named [] h = record { bytes = refl; parts = refl }
record_named (b ∷ bs) h = record { bytes = h.bytes; parts = right_of _ (has_no_number b bs) h.parts }
  where
    right_of : (c d : Bool) → (c && d) ≡ true → d ≡ true
    right_of true d e = e
    right_of false d e = absurd (cc)

body_named : (bar : Bool) (cs : List source.Constructor) (fs : List source.ParamGroup) (semi : Bool) (x : Word) → IsScopedName x → Are (source.write_type_body bar cs fs semi) → ConstructorsNamed (type_constructors x cs fs)
body_named bar cs [] semi x h q = constructors_named cs (back_at (bar_before bar) (constructor_list cs) q)
body_named bar cs (p ∷ ps) semi x h q =
    let last = surface.semicolon_after semi ++ (mark t.RBrace ∷ []) in
    let whole = source.write_field p ++ source.field_tail ps in
    let fields = subst Are (sym (append_assoc (source.write_field p) (source.field_tail ps) last)) (tail_at (mark t.LBrace) (source.write_field p ++ (source.field_tail ps ++ last)) q) in
    (record { name = record_named x h; fields = record_words p ps (front_at whole last fields) }, tt)

type_named : (a : source.Algebraic) → Are (write_algebraic a) → IsTypeNamed (algebraic_type a)
type_named a q =
    let last = source.write_type_body a.bar a.constructors a.fields a.semi in
    let name : IsScopedName a.name.text = q 0 (lx t.Lident a.name.text) (omega arith) in
    let r = back_at (variable_row a.vars) (mark t.Equal ∷ last) (tail_at (lx t.Lident a.name.text) (variable_row a.vars ++ (mark t.Equal ∷ last)) q) in
    record { name = name; constructors = body_named a.bar a.constructors a.fields a.semi a.name.text name (tail_at (mark t.Equal) last r) }

other_types_named : (as_ : List source.Algebraic) → Are (algebraic_tail as_) → TypesNamed (map algebraic_type as_)
other_types_named [] q = tt
other_types_named (a ∷ as_) q =
    let r = tail_at (mark t.WithWord) (write_algebraic a ++ algebraic_tail as_) q in
    (type_named a (front_at (write_algebraic a) (algebraic_tail as_) r), other_types_named as_ (back_at (write_algebraic a) (algebraic_tail as_) r))

-- ---- functions, predicates and constants
other_members_named : (ds : List source.Member) → Are (other_members ds) → MembersNamed (map group_member ds)
other_members_named [] q = tt
other_members_named (d ∷ ds) q =
    let r = tail_at (mark t.WithWord) (write_member d ++ other_members ds) q in
    let own = front_at (write_member d) (other_members ds) r in
    let params = param_row d.params ++ (type_part d.result ++ (mark t.Equal ∷ write d.body)) in
    (called_word d.name (front_at (write_called d.name) params own), other_members_named ds (back_at (write_member d) (other_members ds) r))

-- ---- inductive predicates
predicate_named : (d : source.Inductive) → Are (write_inductive d) → IsScopedName (inductive_predicate d).called.name
predicate_named d q = called_word d.name (front_at (write_called d.name) (param_row d.params ++ (mark t.Equal ∷ (bar_before d.bar ++ clause_list d.clauses))) q)

other_predicates_named : (ds : List source.Inductive) → Are (inductive_tail ds) → MembersNamed (as_members (map inductive_predicate ds))
other_predicates_named [] q = tt
other_predicates_named (d ∷ ds) q =
    let r = tail_at (mark t.WithWord) (write_inductive d ++ inductive_tail ds) q in
    (predicate_named d (front_at (write_inductive d) (inductive_tail ds) r), other_predicates_named ds (back_at (write_inductive d) (inductive_tail ds) r))

-- ---- declarations
pub names_written : (d : source.SyntaxDeclaration) → Are (write_decl d) → IfSome (declaration d) IsNamed
names_written (source.type_decl a n vs None) q = q 1 (lx t.Lident n.text) (omega arith)
names_written (source.type_decl a n vs (Some f)) q = tt
names_written (source.algebraic_decl a []) q = tt
names_written (source.algebraic_decl a (x ∷ xs)) q =
    let r = tail_at (mark t.TypeWord) (write_algebraic x ++ algebraic_tail xs) q in
    (type_named x (front_at (write_algebraic x) (algebraic_tail xs) r), other_types_named xs (back_at (write_algebraic x) (algebraic_tail xs) r))
names_written (source.function_decl a c ps f e ms) q =
    let last = definition e ++ other_members ms in
    let typed = mark t.Colon ∷ (write_form f ++ last) in
    let r = tail_at (mark t.FunctionWord) (write_called c ++ (param_row ps ++ typed)) q in
    let u = tail_at (mark t.Colon) (write_form f ++ last) (back_at (param_row ps) typed (back_at (write_called c) (param_row ps ++ typed) r)) in
    (called_word c (front_at (write_called c) (param_row ps ++ typed) r), other_members_named ms (back_at (definition e) (other_members ms) (back_at (write_form f) last u)))
names_written (source.predicate_decl a c ps e ms) q =
    let last = definition e ++ other_members ms in
    let r = tail_at (mark t.PredicateWord) (write_called c ++ (param_row ps ++ last)) q in
    let u = back_at (param_row ps) last (back_at (write_called c) (param_row ps ++ last) r) in
    (called_word c (front_at (write_called c) (param_row ps ++ last) r), other_members_named ms (back_at (definition e) (other_members ms) u))
names_written (source.constant_decl a c f e) q =
    let typed = mark t.Colon ∷ (write_form f ++ definition e) in
    (called_word c (front_at (write_called c) typed (tail_at (mark t.ConstantWord) (write_called c ++ typed) q)), tt)
names_written (source.inductive_decl a []) q = tt
names_written (source.inductive_decl a (x ∷ xs)) q =
    let r = tail_at (mark t.InductiveWord) (write_inductive x ++ inductive_tail xs) q in
    (predicate_named x (front_at (write_inductive x) (inductive_tail xs) r), other_predicates_named xs (back_at (write_inductive x) (inductive_tail xs) r))
names_written (source.prop_decl a k c e) q = proposition_words e (tail_at (mark t.Colon) (write e) (back_at (write_called c) (mark t.Colon ∷ write e) (tail_at (mark (prop_word k)) (write_called c ++ (mark t.Colon ∷ write e)) q)))
names_written (source.use_decl a l p n) q = tt
names_written (source.clone_decl a l p n es) q = tt
names_written (source.scope_decl a n ds) q = tt
