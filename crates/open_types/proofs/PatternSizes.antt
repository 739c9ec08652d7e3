-- The number of patterns in a pattern, itself counted.
use Rattle.std.proofs.Common.{◌≡◌, ℕ, ◌+◌, ◌≤◌, suc, Bool, List, [], ◌∷◌, map, length, get_or, refl, ap, ◌∙◌, arith}
use Rattle.surface.specs.declared.names.Name.{Name}
use Rattle.surface.specs.declared.names.QName.{QName}
use Rattle.surface.specs.declared.patterns.FieldPat.{FieldPat}
use Rattle.surface.specs.declared.patterns.Pat.{Pat}
use Rattle.surface.specs.declared.patterns.PatNode.TheVariants as pv
use Rattle.surface.specs.Forms.{SyntaxForm, SyntaxForms, wild, variable, type_variable, composed, enclosed, aliased, fielded_form, no_forms, more_forms}
use Rattle.surface.specs.Surface as code
use Rattle.surface.proofs.TreeLemmas.{pattern_is, pattern_of_node-Con, pattern_of_node-Group, pattern_of_node-Alias, pattern_of_node-Fields, form_part_of-fields}

abbrev mutual
  pub form_size : SyntaxForm → ℕ
  form_size (wild a) = 1
  form_size (variable a n) = 1
  form_size (type_variable a w) = 1
  form_size (composed a c fs) = suc (forms_size fs)
  form_size (enclosed a fs) = suc (forms_size fs)
  form_size (aliased a f n) = suc (form_size f)
  form_size (fielded_form a cs fs semi) = suc (forms_size fs)

  pub forms_size : SyntaxForms → ℕ
  forms_size no_forms = 0
  forms_size (more_forms f fs) = form_size f + forms_size fs

abbrev pub pattern_size : Pat → ℕ
pattern_size p = form_size (code.pattern_of p)

abbrev pub patterns_size : List Pat → ℕ
patterns_size [] = 0
patterns_size (p ∷ ps) = pattern_size p + patterns_size ps

pub some_pattern : (f : SyntaxForm) → 1 ≤ form_size f
some_pattern (wild a) = omega arith
some_pattern (variable a n) = omega arith
some_pattern (type_variable a w) = omega arith
some_pattern (composed a c fs) = omega arith
some_pattern (enclosed a fs) = omega arith
some_pattern (aliased a f n) = omega arith
some_pattern (fielded_form a cs fs semi) = omega arith

sizes_are : (ps : List Pat) → forms_size (code.patterns ps) ≡ patterns_size ps
sizes_are [] = refl
sizes_are (p ∷ ps) = ap (λ (n : ℕ). pattern_size p + n) (sizes_are ps)

pub pattern_size-Con : (p : Pat) (q : QName) (ps : List Pat) → p.node ≡ pv.Con q ps → pattern_size p ≡ suc (patterns_size ps)
pattern_size-Con p q ps is = ap form_size (pattern_is p (pv.Con q ps) is ∙ pattern_of_node-Con q ps p.at) ∙ ap suc (sizes_are ps)

pub pattern_size-Group : (p : Pat) (ps : List Pat) → p.node ≡ pv.Group ps → pattern_size p ≡ suc (patterns_size ps)
pattern_size-Group p ps is = ap form_size (pattern_is p (pv.Group ps) is ∙ pattern_of_node-Group ps p.at) ∙ ap suc (sizes_are ps)

pub pattern_size-Alias : (p a : Pat) (n : Name) → p.node ≡ pv.Alias a n → pattern_size p ≡ suc (pattern_size a)
pattern_size-Alias p a n is = ap form_size (pattern_is p (pv.Alias a n) is ∙ pattern_of_node-Alias a n p.at)

-- the patterns of fields
abbrev pub fields_size : List FieldPat → ℕ
fields_size [] = 0
fields_size (f ∷ fs) = pattern_size f.value + fields_size fs

fields_are : (fs : List FieldPat) → forms_size (code.form_values (map code.form_part_of fs)) ≡ fields_size fs
fields_are [] = refl
fields_are (f ∷ fs) =
    ap (λ (x : code.FormPart). form_size x.form + forms_size (code.form_values (map code.form_part_of fs))) (form_part_of-fields f) ∙ ap (λ (n : ℕ). pattern_size f.value + n) (fields_are fs)

pub pattern_size-Fields : (p : Pat) (fs : List FieldPat) (semi : Bool) → p.node ≡ pv.Fields fs semi → pattern_size p ≡ suc (fields_size fs)
pattern_size-Fields p fs semi is = ap form_size (pattern_is p (pv.Fields fs semi) is ∙ pattern_of_node-Fields fs semi p.at) ∙ ap suc (fields_are fs)

pub fields_split : (fs gs : List FieldPat) (f : FieldPat) → fs ≡ f ∷ gs → fields_size fs ≡ pattern_size f.value + fields_size gs
fields_split fs gs f e = ap fields_size e

-- one alone counts as itself
pub first_pattern : (ps : List Pat) (d : Pat) → length ps ≡ 1 → pattern_size (get_or ps 0 d) ≡ patterns_size ps
first_pattern [] d h = absurd (cc)
first_pattern (p ∷ []) d h = omega arith
first_pattern (p ∷ q ∷ qs) d h = absurd (cc)

pub parts_size : (ps qs : List Pat) (p : Pat) → ps ≡ p ∷ qs → patterns_size ps ≡ pattern_size p + patterns_size qs
parts_size ps qs p e = ap patterns_size e
