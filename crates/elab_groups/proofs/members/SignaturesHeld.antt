-- Signatures in a store that grows.
use Rattle.std.proofs.Common.{◌≡◌, List, [], ◌∷◌, ◌++◌, map, get_or, Option, IfSome, option_map, sym, ap, subst, ◌∙◌, append_assoc}
use Rattle.std.specs.List.{All}
use Rattle.std.proofs.lemmas.List.{map-append}
use Rattle.std.proofs.lemmas.List.Elements.{All-append, All-cons, All-nil}
use Rattle.trees.specs.declared.TermId.{TermId}
use Rattle.trees.specs.Tree.{Tree}
use Rattle.trees.specs.Node.{tree_at, Grows}
use Rattle.tasks.specs.Meaning.{trees_at}
use Rattle.tasks.specs.declared.signature.SymbolInfo.{SymbolInfo}
use Rattle.surface.specs.Lexeme.{Word}
use Rattle.name_resolution.specs.Where.{Where}
use Rattle.open_types.specs.Pieces.{type_at}
use Rattle.open_types.specs.Drafts.{HoldsType, SymbolTyped}
use Rattle.open_types.proofs.Growing.{types_stay, types_grow, wanted_stays, wanted_grows}
use Rattle.elab_groups.specs.parts.Declarations.{GroupMember, own_variables, with_vars}
use Rattle.elab_groups.specs.declared.members.signing.Signed.{Signed}
use Rattle.elab_groups.specs.members.Members.{SignatureTree, signature_of, parameter_types}
use Rattle.elab_groups.specs.members.Sources.{signed_at, SignedHeld}
use Rattle.tasks.proofs.Growth.{map_agree as map_same}

module _ (s s' : List Tree) (g : Grows s s') where
  pub signed_stays : (it : Signed) → SignedHeld s it → signed_at s' it ≡ signed_at s it
  signed_stays it h = cc (types_stay s s' g it.args h.args, wanted_stays s s' g it.result h.result)

  pub signed_grows : (it : Signed) → SignedHeld s it → SignedHeld s' it
  signed_grows it h = record { args = types_grow s s' g it.args h.args; result = wanted_grows s s' g it.result h.result }

  pub all_signed_stay : (its : List Signed) → All (SignedHeld s) its → map (signed_at s') its ≡ map (signed_at s) its
  all_signed_stay its h = map_same (signed_at s') (signed_at s) its (λ k e l. signed_stays (get_or its k e) (h k e l))

  pub all_signed_grow : (its : List Signed) → All (SignedHeld s) its → All (SignedHeld s') its
  all_signed_grow its h = λ k e l. signed_grows (get_or its k e) (h k e l)

-- one more after others
pub signed_more : (s s' : List Tree) → Grows s s' → (its : List Signed) (it : Signed) → All (SignedHeld s) its → SignedHeld s' it → All (SignedHeld s') (its ++ it ∷ [])
signed_more s s' g its it h k = All-append (SignedHeld s') its (it ∷ []) (all_signed_grow s s' g its h) (All-cons (SignedHeld s') it [] k (All-nil (SignedHeld s')))

pub signed_step : (s s1 : List Tree) → Grows s s1 → (its : List Signed) (it : Signed) (rest new : List SignatureTree) (one : SignatureTree) → All (SignedHeld s) its → signed_at s1 it ≡ one
    → new ≡ map (signed_at s1) (its ++ it ∷ []) ++ rest → new ≡ map (signed_at s) its ++ one ∷ rest
signed_step s s1 g its it rest new one h e q =
    let a : map (signed_at s1) (its ++ it ∷ []) ≡ map (signed_at s) its ++ signed_at s1 it ∷ [] = map-append (signed_at s1) its (it ∷ []) ∙ ap (λ (gs : List SignatureTree). gs ++ signed_at s1 it ∷ []) (all_signed_stay s s1 g its h) in
    q ∙ (rw (a, e) (append_assoc (map (signed_at s) its) (one ∷ []) rest))

-- a signature of these parts is the member's
pub signed_same : (w : Where) (m : GroupMember) (s : List Tree) (vars : List Word) (args : List TermId) (r : Option TermId) → vars ≡ own_variables m → trees_at s args ≡ parameter_types (with_vars w (own_variables m)) m.params
    → option_map (tree_at s) r ≡ option_map (type_at (with_vars w (own_variables m))) m.result → ◌≡◌ {A = SignatureTree} (record { vars = vars; args = trees_at s args; result = option_map (tree_at s) r }) (signature_of w m)
signed_same w m s vars args r p q h = cc

-- the entry of a signature after others
pub typed_more : (s : List Tree) (is new : List SymbolInfo) (i : SymbolInfo) (it : Signed) → i.args ≡ it.args → i.result ≡ it.result → new ≡ is ++ i ∷ [] → SignedHeld s it → All (SymbolTyped s) is → All (SymbolTyped s) new
typed_more s is new i it a r q held all =
    let one : SymbolTyped s i = record { args = subst (All (HoldsType s)) (sym a) held.args; result = subst (λ (x : Option TermId). IfSome x (HoldsType s)) (sym r) held.result } in
    subst (All (SymbolTyped s)) (sym q) (All-append (SymbolTyped s) is (i ∷ []) all (All-cons (SymbolTyped s) i [] one (All-nil (SymbolTyped s))))
