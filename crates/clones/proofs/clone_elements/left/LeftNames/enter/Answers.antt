use Rattle.std.proofs.Common.{◌≡◌, ℕ, cond, Bool, List, Option, Some, sym, ap, ◌∙◌}
use Rattle.std.proofs.lemmas.List.{get_or-map}
use Rattle.std.specs.Option.{option_map}
use Rattle.tasks.specs.Meaning.{symbols_at, declaration_at, declarations_at}
use Rattle.name_resolution.proofs.scopes.Listed.{updates_name}
use Rattle.clones.specs.clone_elements.Left.{left_key, is_key, decl_or, no_declaration}
use Rattle.clones.specs.clone_elements.Origins.{origin_at, place_at}
use Rattle.clones.proofs.clone_elements.left.LeftNames.enter.Goals as goal
use Rattle.tasks.proofs.outside.Passed.{no_ok}

pub returns-in_ok-insert : goal.returns-in_ok-insert
returns-in_ok-insert c = λ s x.
    let ds = c.args.source.now.decls.now in
    let k = c.args.place in
    let d = c.in-Some.decl.now in
    let name = c.in-Some-2.bytes.items in
    let symbols = symbols_at s c.args.sig.now.symbols in
    let o = origin_at s c.args.source.now in
    let there : decl_or (declarations_at s ds) k ≡ declaration_at s d = get_or-map (declaration_at s) ds k d no_declaration c.in-Some.ensures.lookup.3.0 ∙ ap (declaration_at s) (sym c.in-Some.ensures.lookup.1) in
    let keyed : Some name ≡ left_key symbols c.contains_key-assumed.result (declaration_at s d) = sym (ap (option_map (λ v. v.items)) c.in-Some-2.is) ∙ c.in_ok-bytes.ensures s in
    let whole : Some name ≡ left_key symbols (o.axioms k) (decl_or o.decls k) = keyed ∙ (ap (λ (b : Bool). left_key symbols b (declaration_at s d)) c.contains_key-assumed.ensures ∙ ap (left_key symbols (o.axioms k)) (sym there)) in
    updates_name name c.args.self.now.places c.insert.new.self _ c.in_ok-insert.ensures.updates x ∙ ap (λ (y : Option (List ℕ)). cond (is_key x y) (Some k) (place_at c.args.self.now x)) whole

pub returns-in_err-bytes : goal.returns-in_err-bytes
returns-in_err-bytes c = no_ok _ _ c.from_residual.result c.from_residual.ensures.1

pub returns-in_err-insert : goal.returns-in_err-insert
returns-in_err-insert c = no_ok _ _ c.from_residual-in_err-insert.result c.from_residual-in_err-insert.ensures.1
