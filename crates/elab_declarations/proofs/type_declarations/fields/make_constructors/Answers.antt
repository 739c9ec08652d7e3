use Rattle.std.proofs.Common.{◌≡◌, None, map, sym, ap, subst, ◌∙◌, Err}
use Rattle.tasks.specs.Meaning.{symbols_at, cons_at}
use Rattle.name_resolution.specs.Abstract.{texts_of_names}
use Rattle.name_resolution.specs.Naming.{where_at, Tells, scope_at}
use Rattle.name_resolution.specs.Where.{Where}
use Rattle.elab_groups.specs.parts.Declarations.{word, words, constructors_fault}
use Rattle.elab_groups.specs.parts.Outcomes.{over}
use Rattle.elab_declarations.specs.type_declarations.Algebraics.{constructors_in, constructor_trees}
use Rattle.elab_declarations.proofs.type_declarations.Counted.{words_texts, handed}
use Rattle.elab_declarations.proofs.type_declarations.fields.make_constructors.Goals as goal

pub returns-in_err-push_alternatives-clause-err : goal.returns-in_err-push_alternatives-clause-err
returns-in_err-push_alternatives-clause-err c =
    let s = c.args.store.now in
    let f = c.in_err-push_alternatives.field-0.0 in
    let ns = c.args.source.now.vars in
    let ks = constructors_in c.args.source.now in
    let there = over (symbols_at s c.args.sig.now.symbols) (scope_at s c.args.scope.now) in
    let vars : c.as_slice-2.result.now ≡ words (map word ns) = c.as_slice-2.ensures.value ∙ (c.in_ok-vars.ensures ∙ (ap texts_of_names c.as_slice.ensures ∙ sym (words_texts ns))) in
    let is : where_at s c.world_of-world.result ≡ there (words (map word ns)) = c.world_of-world.ensures.names s ∙ ap there vars in
    let told = subst (λ (w : Where). Tells (Err f) (constructors_fault w ks)) is c.in_err-push_alternatives.ensures.told in
    handed c.from_residual-in_err-push_alternatives.result f (constructors_fault (there (words (map word ns))) ks) c.from_residual-in_err-push_alternatives.ensures.1 told

pub returns-clause-cons : goal.returns-clause-cons
returns-clause-cons c =
    let s = c.args.store.now in
    let s1 = c.push_alternatives.new.store in
    let n = c.args.number.now in
    let ns = c.args.source.now.vars in
    let there = over (symbols_at s c.args.sig.now.symbols) (scope_at s c.args.scope.now) in
    let vars : c.as_slice-2.result.now ≡ words (map word ns) = c.as_slice-2.ensures.value ∙ (c.in_ok-vars.ensures ∙ (ap texts_of_names c.as_slice.ensures ∙ sym (words_texts ns))) in
    let is : where_at s c.world_of-world.result ≡ there (words (map word ns)) = c.world_of-world.ensures.names s ∙ ap there vars in
    let cons : cons_at s1 c.push_alternatives.new.made ≡ constructor_trees (where_at s c.world_of-world.result) n (constructors_in c.args.source.now) = rw c.new-made.ensures at c.in_ok-push_alternatives.ensures.cons in
    cons ∙ ap (λ (w : Where). constructor_trees w n (constructors_in c.args.source.now)) is

pub returns-clause-free : goal.returns-clause-free
returns-clause-free c =
    let s = c.args.store.now in
    let ns = c.args.source.now.vars in
    let there = over (symbols_at s c.args.sig.now.symbols) (scope_at s c.args.scope.now) in
    let vars : c.as_slice-2.result.now ≡ words (map word ns) = c.as_slice-2.ensures.value ∙ (c.in_ok-vars.ensures ∙ (ap texts_of_names c.as_slice.ensures ∙ sym (words_texts ns))) in
    let is : where_at s c.world_of-world.result ≡ there (words (map word ns)) = c.world_of-world.ensures.names s ∙ ap there vars in
    subst (λ (w : Where). constructors_fault w (constructors_in c.args.source.now) ≡ None) is c.in_ok-push_alternatives.ensures.told
