-- The checks that fail of the names that a declaration uses, in no order, and of those that it
-- makes (Why3 manual, "logical declarations").
use Rattle.std.specs.Prelude.{◌≡◌, Bool, true, false, ◌||◌, List, [], ◌∷◌, ◌++◌, reverse, Option, Some, None, ◌⊎◌}
use Rattle.std.specs.Option.{is_none, is_some}
use Rattle.elab_groups.specs.surface.Lexeme.{Word}
use Rattle.elab_groups.specs.name_resolution.Abstract.{Expression}
use Rattle.elab_groups.specs.name_resolution.declared.NamingFault.{NamingFault}
use Rattle.elab_groups.specs.name_resolution.declared.NamingFault.TheVariants.{Duplicate}
use Rattle.elab_groups.specs.name_resolution.Faults.{fault_if}
use Rattle.elab_groups.specs.scopes.declared.Table.{Table}
use Rattle.elab_groups.specs.name_resolution.Where.{Where, place_of}
use Rattle.elab_groups.specs.parts.Declarations.{TokenName, Made, makes, binds_names, made_before, Parameter, GroupMember, AlgebraicConstructor, AlgebraicType, InductiveClause, InductivePredicate, Declaration, alias, proposition_declaration, algebraic, member_group, inductive, words, with_vars, own_variables}
use Rattle.elab_groups.specs.parts.Outcomes.{Setting, around}
use Rattle.elab_groups.specs.members.Members.{words_of_parameters}
use Rattle.elab_groups.specs.Groups.{within_group}
use Rattle.elab_declarations.specs.type_declarations.Algebraics.{inside_types}
use Rattle.elab_declarations.specs.inductive_declarations.Inductives.{within_inductives}
use Rattle.elaboration_laws.specs.Checked.{FormFails, TypeFails, NamesFail}

-- where the declaration's own names are there
abbrev pub ParamsFail : Where → Bool → List Parameter → NamingFault → Type 0
ParamsFail w open_ [] g = ⊥
ParamsFail w open_ (p ∷ ps) g = FormFails w open_ p.of_type g ⊎ ParamsFail w open_ ps g

abbrev pub BodyFails : Where → GroupMember → List Word → Option Expression → NamingFault → Type 0
BodyFails w m vars None g = ⊥
BodyFails w m vars (Some e) g =
    NamesFail (with_vars w vars) false (reverse (words_of_parameters m.params))
    (is_none m.result) e g

abbrev pub MemberFails : Where → GroupMember → NamingFault → Type 0
MemberFails w m g = ParamsFail w true m.params g
    ⊎ (TypeFails w true m.result g ⊎ BodyFails w m (own_variables m) m.body g)

abbrev pub MembersFail : Where → List GroupMember → NamingFault → Type 0
MembersFail w [] g = ⊥
MembersFail w (m ∷ ms) g = MemberFails w m g ⊎ MembersFail w ms g

abbrev pub ConstructorsFail : Where → List AlgebraicConstructor → NamingFault → Type 0
ConstructorsFail w [] g = ⊥
ConstructorsFail w (c ∷ cs) g = ParamsFail w false c.fields g ⊎ ConstructorsFail w cs g

abbrev pub TypesFail : Where → List AlgebraicType → NamingFault → Type 0
TypesFail w [] g = ⊥
TypesFail w (a ∷ ts) g =
    ConstructorsFail (with_vars w (words a.vars)) a.constructors g ⊎ TypesFail w ts g

-- the parameters of an inductive predicate aren't variables of its clauses
abbrev pub ClausesFail : Where → List InductiveClause → NamingFault → Type 0
ClausesFail w [] g = ⊥
ClausesFail w (c ∷ cs) g = NamesFail w true [] true c.prop g ⊎ ClausesFail w cs g

abbrev pub InductivesFail : Where → List InductivePredicate → NamingFault → Type 0
InductivesFail w [] g = ⊥
InductivesFail w (d ∷ ds) g =
    ParamsFail w true d.params g ⊎ (ClausesFail w d.clauses g ⊎ InductivesFail w ds g)

-- of the names that a declaration uses
abbrev pub UsesFail : Setting → Declaration → NamingFault → Type 0
UsesFail c (alias x vs f) g = FormFails (around c (words vs)) false f g
UsesFail c (proposition_declaration k x e) g = NamesFail (around c []) true [] true e g
UsesFail c (algebraic ts) g = TypesFail (inside_types c ts) ts g
UsesFail c (member_group ms) g = MembersFail (within_group c ms) ms g
UsesFail c (inductive ds) g = InductivesFail (within_inductives c ds) ds g
UsesFail c _ g = ⊥

-- of names in a list, after these: the second of two equal ones
abbrev pub ListFails : List Word → List TokenName → NamingFault → Type 0
ListFails seen [] g = ⊥
ListFails seen (c ∷ cs) g = (fault_if (is_some (place_of c.name seen)) (Duplicate c.at) ≡ Some g)
    ⊎ ListFails (seen ++ c.name ∷ []) cs g

-- of the names that a declaration makes, after these: one that the scope declared or that was made
-- before, or twice in a list
abbrev pub MadeFails : (Table → Word → Bool) → List Made → List Made → NamingFault → Type 0
MadeFails declared before [] g = ⊥
MadeFails declared before (makes t c ∷ ms) g =
    (fault_if (declared t c.name || made_before t c.name before) (Duplicate c.at) ≡ Some g)
    ⊎ MadeFails declared (makes t c ∷ before) ms g
MadeFails declared before (binds_names cs ∷ ms) g =
    ListFails [] cs g ⊎ MadeFails declared (binds_names cs ∷ before) ms g
