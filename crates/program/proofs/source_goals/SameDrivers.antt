-- The driver of a file is the same over every signature and every list of theories that tell the same.
use Rattle.std.proofs.Common.{◌≡◌, ◌∙◌, ◌&&◌, ◌||◌, ◌+◌, ℕ, zero, suc, Bool, true, false, List, [], ◌∷◌, length, map, Option, Some, None, Ok, Err, if◌then◌else◌, String, Global, string_bytes, ap, sym, refl}
use Rattle.std.specs.Option.{is_some}
use Rattle.program.specs.source_goals.Known.{KnownByDriver, named_bytes, AskedSymbol, asked_in, IsKnownAs}
use Rattle.std.specs.Prelude.{nat_eq}
use lib.Pointwise.{pointwise}
use Rattle.statuses.specs.outside.State.{Files}
use Rattle.tasks.specs.declared.signature.SymbolInfo.{SymbolInfo}
use Rattle.tasks.specs.declared.signature.SymbolKind.{SymbolKind}
use Rattle.tasks.specs.declared.signature.SymbolKind.TheVariants as kind
use Rattle.drivers.specs.declared.driver_tokens.terminal.NameKind.{NameKind}
use Rattle.drivers.specs.driver_tokens.Tokens.{DriverLexeme}
use Rattle.drivers.specs.driver_tokens.File.{driver_lines}
use Rattle.drivers.specs.declared.driver_items.symbols.Target.{Target}
use Rattle.drivers.specs.declared.driver_items.symbols.Target.TheVariants.{Entry}
use Rattle.drivers.specs.driver_items.Symbols.{NamedTheories, NamedTheory, is_builtin, is_path, theory_with_path, is_known, is_named_kind, is_symbol_named, by_kind, target_or_later, entry_from, builtin_of, target_of, among, among_those, has_proposition}
use Rattle.drivers.specs.declared.driver_parts.parts.DriverParts.{DriverParts}
use Rattle.drivers.specs.driver_parts.Items.{DriverItem, prelude, printer, transformation, file_import, block, end_of_block, template, removal, removal_of_all, silent, item_of}
use Rattle.drivers.specs.driver_parts.Steps.{targeted, removed, block_step, item_in_block, item_step, block_after}
use Rattle.drivers.specs.declared.driver_files.reading.Progress.{Progress}
use Rattle.drivers.specs.driver_files.Reading.{DriverOutcome, ◌then◌, Importer, ReadingPlace, reading_place, import, with_parts, one_file_more, no_import, no_progress, driver_with_printer, short_file, or_syntax, take_item, take_lines, take_bytes, take_file, read_from, driver_named, name_from}

-- two words of the same bytes
abbrev same_word : List ℕ → List ℕ → Bool
same_word = pointwise nat_eq

-- two signatures and lists of theories that tell a driver the same
pub record TellSame (ss rs : List SymbolInfo) (ts us : NamedTheories) : Type 0 where
  pub targets : (path : List ℕ) (k : NameKind) (name : List ℕ) → target_of ss path k name ≡ target_of rs path k name
  pub known : (path : List ℕ) → is_known ts path ≡ is_known us path
  pub propositions : (path name : List ℕ) → has_proposition ts path name ≡ has_proposition us path name

then_same : {A B : Type 0} (a b : DriverOutcome A) (f g : A → DriverOutcome B) → a ≡ b → ((x : A) → f x ≡ g x) → a then f ≡ b then g
then_same a (Ok x) f g e h = ap (λ z. z then f) e ∙ h x
then_same a (Err x) f g e h = ap (λ z. z then f) e

module _ (ss rs : List SymbolInfo) (ts us : NamedTheories) (k : TellSame ss rs ts us) where
  block_same : (file : ℕ) (path : List ℕ) (item : DriverItem) (parts : DriverParts) → block_step ss ts file path item parts ≡ block_step rs us file path item parts
  block_same file path (template n b name c text) parts = ap (targeted file b c text parts) (k.targets path n name)
  block_same file path (removal b name) parts = ap (removed file b parts path name) (k.propositions path name)
  block_same file path removal_of_all parts = refl
  block_same file path (prelude text) parts = refl
  block_same file path (printer b w) parts = refl
  block_same file path (transformation b w) parts = refl
  block_same file path (file_import b x) parts = refl
  block_same file path (block its) parts = refl
  block_same file path end_of_block parts = refl
  block_same file path silent parts = refl

  outside_same : (file : ℕ) (item : DriverItem) (parts : DriverParts) → item_in_block ss ts file None item parts ≡ item_in_block rs us file None item parts
  outside_same file (template n b name c text) parts = refl
  outside_same file (removal b name) parts = refl
  outside_same file removal_of_all parts = refl
  outside_same file (prelude text) parts = refl
  outside_same file (printer b w) parts = refl
  outside_same file (transformation b w) parts = refl
  outside_same file (file_import b x) parts = refl
  outside_same file (block its) parts = refl
  outside_same file end_of_block parts = refl
  outside_same file silent parts = refl

  in_block_same : (file : ℕ) (path : Option (List ℕ)) (item : DriverItem) (parts : DriverParts) → item_in_block ss ts file path item parts ≡ item_in_block rs us file path item parts
  in_block_same file None item parts = outside_same file item parts
  in_block_same file (Some path) item parts =
      ap (λ b. if b then block_step ss ts file path item parts else Ok parts) (k.known path) ∙ ap (λ r. if is_known us path then r else Ok parts) (block_same file path item parts)

  step_same : (file : ℕ) (path : Option (List ℕ)) (item : DriverItem) (parts : DriverParts) → item_step ss ts file path item parts ≡ item_step rs us file path item parts
  step_same file path (printer b w) parts = refl
  step_same file path (transformation b w) parts = refl
  step_same file path (template n b name c text) parts = in_block_same file path (template n b name c text) parts
  step_same file path (removal b name) parts = in_block_same file path (removal b name) parts
  step_same file path removal_of_all parts = in_block_same file path removal_of_all parts
  step_same file path (prelude text) parts = in_block_same file path (prelude text) parts
  step_same file path (file_import b x) parts = in_block_same file path (file_import b x) parts
  step_same file path (block its) parts = in_block_same file path (block its) parts
  step_same file path end_of_block parts = in_block_same file path end_of_block parts
  step_same file path silent parts = in_block_same file path silent parts

  module _ (f g : Importer) (h : (opened : List (List ℕ)) (name : List ℕ) (p : Progress) → f opened name p ≡ g opened name p) where
    import_same : (at : ReadingPlace) (byte : ℕ) (name : List ℕ) (p : Progress) → import f at byte name p ≡ import g at byte name p
    import_same at byte name p =
        let e = h at.opened name p in
        rw e refl

    item_same : (at : ReadingPlace) (path : Option (List ℕ)) (item : DriverItem) (p : Progress) → take_item ss ts f at path item p ≡ take_item rs us g at path item p
    item_same at path (file_import b x) p = import_same at b (name_from at.name x) p
    item_same at path (printer b w) p = refl
    item_same at path (transformation b w) p = refl
    item_same at path (template n b name c text) p = ap (with_parts p) (step_same at.file path (template n b name c text) p.parts)
    item_same at path (removal b name) p = ap (with_parts p) (step_same at.file path (removal b name) p.parts)
    item_same at path removal_of_all p = ap (with_parts p) (step_same at.file path removal_of_all p.parts)
    item_same at path (prelude text) p = ap (with_parts p) (step_same at.file path (prelude text) p.parts)
    item_same at path (block its) p = ap (with_parts p) (step_same at.file path (block its) p.parts)
    item_same at path end_of_block p = ap (with_parts p) (step_same at.file path end_of_block p.parts)
    item_same at path silent p = ap (with_parts p) (step_same at.file path silent p.parts)

    lines_same : (at : ReadingPlace) (path : Option (List ℕ)) (lines : List (List DriverLexeme)) (p : Progress) → take_lines ss ts f at path lines p ≡ take_lines rs us g at path lines p
    lines_same at path [] p = refl
    lines_same at path (l ∷ ls) p =
        then_same (take_item ss ts f at path (item_of l) p) (take_item rs us g at path (item_of l) p) (take_lines ss ts f at (block_after path (item_of l)) ls) (take_lines rs us g at (block_after path (item_of l)) ls)
        (item_same at path (item_of l) p) (λ q. lines_same at (block_after path (item_of l)) ls q)

    bytes_same : (at : ReadingPlace) (bytes : List ℕ) (p : Progress) → take_bytes ss ts f at bytes p ≡ take_bytes rs us g at bytes p
    bytes_same at bytes p =
        then_same _ _ _ _ (then_same (or_syntax at.file (driver_lines bytes)) (or_syntax at.file (driver_lines bytes)) (λ lines. take_lines ss ts f at None lines p) (λ lines. take_lines rs us g at None lines p) refl (λ lines. lines_same at None lines p))
        (λ q. refl)

    file_same : (room : ℕ) (files : Files) (limit : Option ℕ) (opened : List (List ℕ)) (name : List ℕ) (p : Progress) → take_file ss ts f room files limit opened name p ≡ take_file rs us g room files limit opened name p
    file_same room files limit opened name p =
        then_same (short_file p.next name files limit) (short_file p.next name files limit) (λ bytes. take_bytes ss ts f (reading_place room opened name p.next) bytes (one_file_more p)) (λ bytes. take_bytes rs us g (reading_place room opened name p.next) bytes (one_file_more p))
        refl (λ bytes. bytes_same (reading_place room opened name p.next) bytes (one_file_more p))

  from_same : (room : ℕ) (files : Files) (limit : Option ℕ) (opened : List (List ℕ)) (name : List ℕ) (p : Progress) → read_from ss ts room files limit opened name p ≡ read_from rs us room files limit opened name p
  unfolding read_from
  from_same zero files limit opened name p = file_same no_import no_import (λ o n q. refl) zero files limit opened name p
  from_same (suc room) files limit opened name p = file_same (read_from ss ts room files limit) (read_from rs us room files limit) (λ o n q. from_same room files limit o n q) (suc room) files limit opened name p

  pub driver_same : (name : List ℕ) (files : Files) (limit : Option ℕ) → driver_named ss ts name files limit ≡ driver_named rs us name files limit
  driver_same name files limit =
      then_same (read_from ss ts 31 files limit [] name no_progress) (read_from rs us 31 files limit [] name no_progress) (λ p. driver_with_printer p p.parts.printer) (λ p. driver_with_printer p p.parts.printer)
      (from_same 31 files limit [] name no_progress) (λ p. refl)

-- entries that stand for the same
by_same : (k l : SymbolKind) (a b : SymbolInfo) → k ≡ l → a.vars ≡ b.vars → length a.args ≡ length b.args → by_kind k a ≡ by_kind l b
by_same k kind.Kind a b e v n = rw e v
by_same k kind.Function a b e v n = rw e n
by_same k kind.Predicate a b e v n = rw e n
by_same k kind.Constructor a b e v n = rw e n
by_same k kind.Projection a b e v n = rw e n

symbol_named : (path : List ℕ) (k : NameKind) (name : List ℕ) (a b : SymbolInfo) → asked_in a ≡ asked_in b → is_symbol_named path k name a ≡ is_symbol_named path k name b
symbol_named path k name a b e = ap (λ (x : AskedSymbol). is_named_kind k x.kind x.name && same_word x.theory path && same_word x.name name) e

symbol_arity : (a b : SymbolInfo) → asked_in a ≡ asked_in b → by_kind a.kind a ≡ by_kind b.kind b
symbol_arity a b e = by_same a.kind b.kind a b (ap (λ (x : AskedSymbol). x.kind) e) (ap (λ (x : AskedSymbol). x.vars) e) (ap (λ (x : AskedSymbol). x.count) e)

entry_same : (path : List ℕ) (k : NameKind) (name : List ℕ) (n : ℕ) (ss rs : List SymbolInfo) → map asked_in ss ≡ map asked_in rs → entry_from path k name n ss ≡ entry_from path k name n rs
entry_same path k name n [] [] e = refl
entry_same path k name n [] (b ∷ bs) e = absurd (cc)
entry_same path k name n (a ∷ xs) [] e = absurd (cc)
entry_same path k name n (a ∷ xs) (b ∷ bs) e =
    let first : asked_in a ≡ asked_in b = cc in
    let later : map asked_in xs ≡ map asked_in bs = cc in
    let rest = entry_same path k name (n + 1) xs bs later in
    let test = symbol_named path k name a b first in
    let arity = symbol_arity a b first in
    ap (λ r. target_or_later (if is_symbol_named path k name a then Some (Entry n, by_kind a.kind a) else None) r) rest
    ∙ ap (λ c. target_or_later (if c then Some (Entry n, by_kind a.kind a) else None) (entry_from path k name (n + 1) bs)) test
    ∙ ap (λ (m : ℕ). target_or_later (if is_symbol_named path k name b then Some (Entry n, m) else None) (entry_from path k name (n + 1) bs)) arity

target_same : (ss rs : List SymbolInfo) → map asked_in ss ≡ map asked_in rs → (path : List ℕ) (k : NameKind) (name : List ℕ) → target_of ss path k name ≡ target_of rs path k name
target_same ss rs e path k name = ap (λ (r : Option (Target × ℕ)). if is_builtin path then builtin_of k name else r) (entry_same path k name 0 ss rs e)

-- the bytes of texts
abbrev texts_of : List (String Global) → List (List ℕ)
texts_of names = map string_bytes names

among_same : (names others : List (String Global)) (x : List ℕ) → texts_of names ≡ texts_of others → among names x ≡ among others x
among_same [] [] x e = refl
among_same [] (b ∷ bs) x e = absurd (cc)
among_same (a ∷ xs) [] x e = absurd (cc)
among_same (a ∷ xs) (b ∷ bs) x e =
    let first : string_bytes a ≡ string_bytes b = cc in
    let later : texts_of xs ≡ texts_of bs = cc in
    ap (λ (z : List ℕ). same_word z x || among xs x) first ∙ ap (λ (z : Bool). same_word (string_bytes b) x || z) (among_same xs bs x later)

pick_some : {A : Type 0} (b : Bool) (t u : A) (r q : Option A) → is_some r ≡ is_some q → is_some (if b then Some t else r) ≡ is_some (if b then Some u else q)
pick_some true t u r q e = refl
pick_some false t u r q e = e

pick_among : (b : Bool) (t u : NamedTheory) (r q : Option NamedTheory) (name : List ℕ) → among t.1.items name ≡ among u.1.items name → among_those r name ≡ among_those q name
    → among_those (if b then Some t else r) name ≡ among_those (if b then Some u else q) name
pick_among true t u r q name e f = e
pick_among false t u r q name e f = f

module _ (path : List ℕ) where
  found_same : (ts us : NamedTheories) → map named_bytes ts ≡ map named_bytes us → is_some (theory_with_path path ts) ≡ is_some (theory_with_path path us)
  found_same [] [] e = refl
  found_same [] (u ∷ us) e = absurd (cc)
  found_same (t ∷ ts) [] e = absurd (cc)
  found_same (t ∷ ts) (u ∷ us) e =
      let both : named_bytes t ≡ named_bytes u = cc in
      let first : string_bytes t.0 ≡ string_bytes u.0 = ap (λ (p : List ℕ × List (List ℕ)). p.0) both in
      let later : map named_bytes ts ≡ map named_bytes us = cc in
      ap (λ (z : List ℕ). is_some (if same_word z path then Some t else theory_with_path path ts)) first ∙ pick_some (is_path path u) t u (theory_with_path path ts) (theory_with_path path us) (found_same ts us later)

  has_same : (name : List ℕ) (ts us : NamedTheories) → map named_bytes ts ≡ map named_bytes us → among_those (theory_with_path path ts) name ≡ among_those (theory_with_path path us) name
  has_same name [] [] e = refl
  has_same name [] (u ∷ us) e = absurd (cc)
  has_same name (t ∷ ts) [] e = absurd (cc)
  has_same name (t ∷ ts) (u ∷ us) e =
      let both : named_bytes t ≡ named_bytes u = cc in
      let first : string_bytes t.0 ≡ string_bytes u.0 = ap (λ (p : List ℕ × List (List ℕ)). p.0) both in
      let names : texts_of t.1.items ≡ texts_of u.1.items = ap (λ (p : List ℕ × List (List ℕ)). p.1) both in
      let later : map named_bytes ts ≡ map named_bytes us = cc in
      ap (λ (z : List ℕ). among_those (if same_word z path then Some t else theory_with_path path ts) name) first
      ∙ pick_among (is_path path u) t u (theory_with_path path ts) (theory_with_path path us) name (among_same t.1.items u.1.items name names) (has_same name ts us later)

pub tell_same : (known : KnownByDriver) (ss rs : List SymbolInfo) (ts us : NamedTheories) → IsKnownAs known ss ts → IsKnownAs known rs us → TellSame ss rs ts us
tell_same known ss rs ts us a b =
    let names : map named_bytes ts ≡ map named_bytes us = a.theories ∙ sym b.theories in
    record {
      targets = target_same ss rs (a.symbols ∙ sym b.symbols);
      known = λ path. ap (λ (z : Bool). is_builtin path || z) (found_same path ts us names);
      propositions = λ path name. ap (λ (z : Bool). if is_builtin path then false else z) (has_same path name ts us names);
    }
