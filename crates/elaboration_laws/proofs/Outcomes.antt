-- What each kind of declaration makes: every new entry is of a tuple, a rigid type variable, or made by the declaration.
use Rattle.std.proofs.Common.{◌≡◌, inr, ℕ, ◌+◌, ◌≤◌, zero, suc, List, [], ◌∷◌, ◌++◌, map, length, Option, Some, None, refl, sym, ap, ◌∙◌, arith, length-append, append-nil}
use Rattle.std.proofs.Math.ListN.{length-map}
use Rattle.elab_groups.specs.trees.Tree.{Tree}
use Rattle.elab_groups.specs.tasks.Rigid.{rigid_symbol}
use Rattle.elab_groups.specs.tasks.Task.{SymbolTree, InductiveTree, Constructs, DeclarationTree, made, made_by, made_by_types}
use Rattle.elab_groups.specs.open_types.unify_types.Assigned.{assign}
use Rattle.elab_groups.specs.surface.Lexeme.{Word}
use Rattle.elab_groups.specs.surface.declared.declarations.PropKind.{PropKind}
use Rattle.elab_groups.specs.name_resolution.Abstract.{TypeExpression, Expression}
use Rattle.elab_groups.specs.name_resolution.Where.{Where}
use Rattle.elab_groups.specs.open_types.Pieces.{unknown_after}
use Rattle.elab_groups.specs.parts.Entries.{type_entry}
use Rattle.elab_groups.specs.parts.Declarations.{TokenName, GroupMember, AlgebraicType, InductivePredicate, Declaration, abstract_type, alias, algebraic, member_group, inductive, proposition_declaration}
use Rattle.elab_groups.specs.parts.Outcomes.{Setting, Outcome, over, full_name, tuples_wanting}
use Rattle.elab_groups.specs.parts.Elaborated.{unseen}
use Rattle.elab_declarations.specs.elab_groups.members.Members.{SignatureTree, signed_entries, signature_trees, members_seen}
use Rattle.elab_declarations.specs.elab_groups.Groups.{member_piece, member_pieces, most_variables, pieces_trees, BodiesSolved, group_body, group_tuples, before_group, group_signatures, within_group, IsGroup}
use Rattle.elab_declarations.specs.inductive_declarations.Inductives.{as_member, as_members, inductives_seen, before_inductives, induced, IsInductiveGroup}
use Rattle.elab_declarations.specs.type_declarations.Algebraics.{group_seen, first_type, first_constructor, type_entries, group_trees, group_entries, group_outcome}
use Rattle.elab_declarations.specs.type_declarations.Algebraics as group
use Rattle.elab_declarations.specs.Outcomes.{type_outcome, alias_seen, alias_outcome, proposition_seen, rigid_names, IsProposition, IsOutcome}
use Rattle.elaboration_laws.proofs.Standing.{count_signed}
use Rattle.elaboration_laws.proofs.Made.{HasFrom, AreBetween, wider, no_numbers, one_between, AreNew, both_new, none_new, tuples_new, rigids_new, signed_new, signed_length, defined_from, induced_from, induced_between}
use Rattle.elaboration_laws.proofs.MadeTypes.{group_between, group_length, types_new, group_new, count_types}
use Rattle.elaboration_laws.proofs.Once.{body_between}

pub record IsMade (c : Setting) (o : Outcome) : Type 0 where
  pub new : AreNew o.decls (length c.symbols) o.symbols
  pub between : AreBetween (length c.symbols) (length (c.symbols ++ o.symbols)) (made o.decls)
  -- there is one declaration, or none
  pub single : length o.decls ≤ 1

-- where the first member of a group has no definition, it is the only one
abbrev pub IsAlone : Declaration → Type 0
IsAlone (member_group (m ∷ ms)) = m.body ≡ None → ms ≡ []
IsAlone _ = Unit {0}

type_made : (c : Setting) (x : TokenName) (n : ℕ) → IsMade c (type_outcome c x n)
type_made c x n =
    let k = length c.symbols in
    let e = type_entry c.theory (full_name c x) n in
    record {
      new = of k e;
      between = one_between k k (length (c.symbols ++ e ∷ [])) [] (omega arith) (omega (arith, length-append c.symbols (e ∷ []))) (no_numbers k (length (c.symbols ++ e ∷ [])));
      single = omega arith;
    }
  where
    of : (k : ℕ) (e : SymbolTree) → AreNew ((type_outcome c x n).decls) (length c.symbols) ((type_outcome c x n).symbols)
    of k e zero i z =
        let s : type_entry c.theory (full_name c x) n ≡ i = cc in
        inr (inr (record { made = (0, omega arith, omega arith); constructor = λ q. absurd (let y : (type_entry c.theory (full_name c x) n).kind ≡ i.kind = ap (λ (g : SymbolTree). g.kind) s in cc) }))
    of k e (suc j) i z = absurd (cc)

alias_made : (c : Setting) (x : TokenName) (vs : List TokenName) (f : TypeExpression) → IsMade c (alias_outcome c x vs f)
alias_made c x vs f = record {
  new = tuples_new [] (length c.symbols) c.symbols (alias_seen f).widths;
  between = no_numbers (length c.symbols) (length (c.symbols ++ tuples_wanting c (alias_seen f)));
  single = omega arith;
}

proposition_made : (c : Setting) (k : PropKind) (x : TokenName) (e : Expression) (o : Outcome) → IsProposition c k x e o → IsMade c o
proposition_made c k x e o p =
    let n = length c.symbols in
    let seen = proposition_seen e in
    let tuples = tuples_wanting c seen in
    let rigid = map rigid_symbol (rigid_names k seen.vars) in
    record {
      new = rw p.symbols (both_new o.decls n (n + length tuples) tuples rigid refl (tuples_new o.decls n c.symbols seen.widths) (rigids_new o.decls (n + length tuples) (rigid_names k seen.vars)));
      between = rw p.decls (no_numbers n (length (c.symbols ++ o.symbols)));
      single = let q = ap length p.decls in omega (arith, q);
    }

group_made : (c : Setting) (ts : List AlgebraicType) → IsMade c (group_outcome c ts)
group_made c ts =
    let o = group_outcome c ts in
    let n = length c.symbols in
    let tuples = tuples_wanting c (group_seen ts) in
    let T = type_entries c.theory c.within ts in
    let w = group.inside_types c ts in
    let i = first_type c ts in
    let m = first_constructor c ts in
    let G = group_entries c.theory c.within ts (group_trees c ts) in
    let d : DeclarationTree = record { theory = c.theory; name = c.within ++ group.first_name ts; vars = group.first_vars ts; body = Constructs (group_trees c ts) } in
    let before = length-append c.symbols tuples in
    let many = count_types c.theory c.within ts in
    let long = group_length c.theory c.within w i m ts in
    let own = both_new (d ∷ []) i m T G (omega (arith, many)) (types_new c.theory c.within w i m ts d refl) (group_new c.theory c.within w i m ts d refl (omega arith)) in
    let nil = append-nil (made_by_types (group_trees c ts)) in
    record {
      new = both_new (d ∷ []) n i tuples (T ++ G) (omega (arith, before)) (tuples_new (d ∷ []) n c.symbols (group_seen ts).widths) own;
      between = rw nil (group_between w n i m (length (c.symbols ++ o.symbols)) ts (omega (arith, before)) (omega (arith, before))
          (omega (arith, before, many, long, length-append c.symbols (tuples ++ (T ++ G)), length-append tuples (T ++ G), length-append T G))
          (omega (arith, before, many, long, length-append c.symbols (tuples ++ (T ++ G)), length-append tuples (T ++ G), length-append T G)));
      single = omega arith;
    }

-- ---- groups with bodies
pieces_count : (w : Where) (n : ℕ) (ms : List GroupMember) (gs : List SignatureTree) → length gs ≡ length ms → length (pieces_trees (member_pieces w n ms gs)) ≡ length gs
pieces_count w n [] [] q = refl
pieces_count w n [] (g ∷ gs) q = absurd (cc)
pieces_count w n (m ∷ ms) [] q = absurd (cc)
pieces_count w n (m ∷ ms) (g ∷ gs) q = ap suc (pieces_count w (unknown_after n (member_piece w n m g)) ms gs (omega (arith, q)))

bodies_count : (w : Where) (ms : List GroupMember) (gs : List SignatureTree) (bodies : List Tree) (matches : List (ℕ × List Tree)) → length gs ≡ length ms → BodiesSolved w ms gs bodies matches → length bodies ≡ length gs
bodies_count w ms gs bodies matches q it =
    let r = most_variables gs in
    let f = it.determined.solvable.0 in
    let trees = pieces_trees (member_pieces w r ms gs) in
    let are : map (assign r f) trees ≡ bodies = it.trees_are f it.determined.solvable.1 in
    ap length (sym are) ∙ (length-map trees (assign r f) ∙ pieces_count w r ms gs q)

-- the symbols of a group with or without bodies
body_from : (m : GroupMember) (ks : List GroupMember) (gs : List SignatureTree) (bs : List Tree) (k : ℕ) (b : Option Expression) → m.body ≡ b → (m.body ≡ None → ks ≡ []) → length gs ≡ length (m ∷ ks) → length bs ≡ length gs → HasFrom (made_by (group_body b k gs bs)) k (length gs)
body_from m ks gs bs k None z a q l =
    let alone = ap length (a z) in
    λ j h. (0, omega arith, omega (arith, alone, q, h))
body_from m ks gs bs k (Some e) z a q l = defined_from k gs bs l

module _ (c : Setting) (tuples : List SymbolTree) (theory within : Word) (ms : List GroupMember) (gs : List SignatureTree) (count : length gs ≡ length ms) (o : Outcome) (symbols : o.symbols ≡ tuples ++ signed_entries theory within ms gs)
    (built : AreNew o.decls (length c.symbols) tuples) (ks : List ℕ) (are : made o.decls ≡ ks) (one : length o.decls ≤ 1) (k : ℕ) (at : k ≡ length c.symbols + length tuples) where
  own_made : HasFrom ks k (length gs) → AreBetween k (k + length gs) ks → IsMade c o
  own_made h b =
      let n = length c.symbols in
      let own = signed_entries theory within ms gs in
      let long = signed_length theory within ms gs count in
      let has : HasFrom (made o.decls) k (length own) = rw (are, long) h in
      let all = ap length symbols in
      record {
        new = rw symbols (both_new o.decls n k tuples own at built (signed_new o.decls k theory within ms gs has));
        between = rw are (wider k n (k + length gs) (length (c.symbols ++ o.symbols)) ks (omega (arith, at)) (omega (arith, at, long, all, length-append c.symbols o.symbols, length-append tuples own)) b);
        single = one;
      }

members_made : (c : Setting) (ms : List GroupMember) (o : Outcome) → IsAlone (member_group ms) → IsGroup c ms o → IsMade c o
members_made c [] o a it =
    let n = length c.symbols in
    let tuples = group_tuples c [] in
    record {
      new = rw it.symbols (both_new o.decls n (n + length tuples) tuples [] refl (tuples_new o.decls n c.symbols (members_seen unseen []).widths) (none_new o.decls (n + length tuples)));
      between = rw it.decls (no_numbers n (length (c.symbols ++ o.symbols)));
      single = let q = ap length it.decls in omega (arith, q);
    }
members_made c (m ∷ ks) o a it =
    let ms = m ∷ ks in
    let n = length c.symbols in
    let gs = group_signatures c ms in
    let k = length (before_group c ms) in
    let tuples = group_tuples c ms in
    let count = count_signed (over (before_group c ms) c.scope []) ms in
    let bs = it.bodies in
    let bodies = bodies_count (within_group c ms) ms gs bs o.matches count it.solved in
    let list = made_by (group_body m.body k gs bs) in
    let are : made o.decls ≡ list = ap made it.decls ∙ append-nil list in
    own_made c tuples c.theory c.within ms gs count o it.symbols (tuples_new o.decls n c.symbols (members_seen unseen ms).widths) list are (let q = ap length it.decls in omega (arith, q)) k (length-append c.symbols tuples)
    (body_from m ks gs bs k m.body refl a count bodies) (body_between m ks gs bs k m.body count)

inductives_made : (c : Setting) (ds : List InductivePredicate) (o : Outcome) → IsInductiveGroup c ds o → IsMade c o
inductives_made c [] o it =
    let n = length c.symbols in
    let tuples = tuples_wanting c (inductives_seen unseen []) in
    record {
      new = rw it.symbols (both_new o.decls n (n + length tuples) tuples [] refl (tuples_new o.decls n c.symbols (inductives_seen unseen []).widths) (none_new o.decls (n + length tuples)));
      between = rw it.decls (no_numbers n (length (c.symbols ++ o.symbols)));
      single = let q = ap length it.decls in omega (arith, q);
    }
inductives_made c (d ∷ is) o it =
    let ds = d ∷ is in
    let ms = as_members ds in
    let n = length c.symbols in
    let gs = signature_trees c (before_inductives c ds) ms in
    let k = length (before_inductives c ds) in
    let tuples = tuples_wanting c (inductives_seen unseen ds) in
    let count = count_signed (over (before_inductives c ds) c.scope []) ms in
    let list = map (λ (i : InductiveTree). i.symbol) (induced k ds it.clauses) in
    let are : made o.decls ≡ list = ap made it.decls ∙ append-nil list in
    let many = length-map ds as_member in
    let same : length gs ≡ length ds = count ∙ many in
    own_made c tuples c.theory c.within ms gs count o it.symbols (tuples_new o.decls n c.symbols (inductives_seen unseen ds).widths) list are (let q = ap length it.decls in omega (arith, q)) k (length-append c.symbols tuples)
    (rw same (induced_from k ds it.clauses)) (induced_between k (k + length gs) ds it.clauses (omega (arith, same)))

pub outcome_made : (c : Setting) (d : Declaration) (o : Outcome) → IsAlone d → IsOutcome c d o → IsMade c o
outcome_made c (abstract_type x vs) o a e = rw e (type_made c x _)
outcome_made c (alias x vs f) o a e = rw e (alias_made c x vs f)
outcome_made c (proposition_declaration k x e) o a p = proposition_made c k x e o p
outcome_made c (algebraic ts) o a e = rw e (group_made c ts)
outcome_made c (member_group ms) o a e = members_made c ms o a e
outcome_made c (inductive ds) o a e = inductives_made c ds o e
