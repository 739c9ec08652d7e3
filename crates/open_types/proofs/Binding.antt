-- Variables after others.
use Rattle.std.proofs.Common.{◌≡◌, ℕ, ◌+◌, List, [], ◌∷◌, ◌++◌, map, replicate, refl, sym, ap, ◌∙◌, append_assoc, append-nil}
use Rattle.std.specs.List.{All}
use Rattle.std.proofs.lemmas.List.Elements.{All-append, All-cons, All-nil}
use Rattle.trees.specs.Tree.{Tree}
use Rattle.trees.specs.Node.{Grows}
use Rattle.open_types.specs.declared.draft.Constraints.{Constraints}
use Rattle.open_types.specs.declared.locals.Local.{Local}
use Rattle.open_types.specs.Patterns.{Notes, noted, follow, LocalTree}
use Rattle.open_types.specs.Drafts.{HoldsType, IsReady, IsNoted, IsBound, local_at}
use Rattle.open_types.proofs.Growing.{each_stays, each_grows}
use Rattle.open_types.proofs.Noting.{nothing_noted, more_noted, noted_as, noted_after, replicate_both}

pub mapped_both : (s : List Tree) (xs ys : List Local) → map (local_at s) (xs ++ ys) ≡ map (local_at s) xs ++ map (local_at s) ys
mapped_both s [] ys = refl
mapped_both s (x ∷ xs) ys = ap (λ (r : List LocalTree). local_at s x ∷ r) (mapped_both s xs ys)

pub bound_none : (s : List Tree) (d : Constraints) (ls : List Local) (token : ℕ) → IsReady s d → All (λ (l : Local). HoldsType s l.ty) ls → IsBound s d ls s d ls token 0 []
bound_none s d ls token r h = record { held = h; locals = sym (append-nil (map (local_at s) ls)); noted = nothing_noted s d r }

pub held_more : (s s' : List Tree) → Grows s s' → (ls : List Local) (l : Local) → All (λ (x : Local). HoldsType s x.ty) ls → HoldsType s' l.ty → All (λ (x : Local). HoldsType s' x.ty) (ls ++ l ∷ [])
held_more s s' g ls l h k = All-append (λ (x : Local). HoldsType s' x.ty) ls (l ∷ []) (each_grows s s' g ls h) (All-cons (λ (x : Local). HoldsType s' x.ty) l [] k (All-nil (λ (x : Local). HoldsType s' x.ty)))

-- a variable more before others
pub bound_first : {s s1 s2 : List Tree} {d d1 d2 : Constraints} {ls ls' : List Local} {token k : ℕ} {more : List LocalTree} (l : Local) (v : LocalTree) (m : Notes) (c : ℕ)
    → Grows s s1 → All (λ (x : Local). HoldsType s x.ty) ls → local_at s1 l ≡ v → IsNoted s d s1 d1 m → follow m (noted [] (replicate k token)) ≡ noted [] (replicate c token)
    → IsBound s1 d1 (ls ++ l ∷ []) s2 d2 ls' token k more → IsBound s d ls s2 d2 ls' token c (v ∷ more)
bound_first {s} {s1} {ls = ls} {token = token} {more = more} l v m c g h e n q b = record {
  held = b.held;
  locals = b.locals ∙ (rw (mapped_both s1 ls (l ∷ []), each_stays s s1 g ls h, e) (append_assoc (map (local_at s) ls) (v ∷ []) more));
  noted = noted_as (more_noted n b.noted) (noted [] (replicate c token)) q;
}

pub bound_both : {s s1 s2 : List Tree} {d d1 d2 : Constraints} {ls ls1 ls2 : List Local} {token j k : ℕ} {xs ys : List LocalTree}
    → IsBound s d ls s1 d1 ls1 token j xs → IsBound s1 d1 ls1 s2 d2 ls2 token k ys → IsBound s d ls s2 d2 ls2 token (j + k) (xs ++ ys)
bound_both {s} {ls = ls} {token = token} {j} {k} {xs} {ys} a b = record {
  held = b.held;
  locals = b.locals ∙ (rw a.locals (append_assoc (map (local_at s) ls) xs ys));
  noted = noted_as (more_noted a.noted b.noted) (noted [] (replicate (j + k) token)) (ap (noted []) (sym (replicate_both j k token)));
}

-- where the store grew before
pub bound_after : {s s1 s2 : List Tree} {d d1 : Constraints} {ls ls1 : List Local} {token : ℕ} {xs : List LocalTree} (token' : ℕ)
    → Grows s s1 → IsReady s d → All (λ (x : Local). HoldsType s x.ty) ls → IsBound s1 d ls s2 d1 ls1 token 0 xs → IsBound s d ls s2 d1 ls1 token' 0 xs
bound_after {s} {s1} {d = d} {ls = ls} {xs = xs} token' g r h b = record {
  held = b.held;
  locals = b.locals ∙ ap (λ (ys : List LocalTree). ys ++ xs) (each_stays s s1 g ls h);
  noted = noted_after g r b.noted;
}
