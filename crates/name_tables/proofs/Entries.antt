-- The entries of a table, one after another.
use Rattle.std.proofs.Common.{◌≡◌, ℕ, ◌<◌, ◌≤◌, ◌+◌, List, [], ◌∷◌, ◌++◌, map, length, get_or, drop, refl, sym, ap, ◌∙◌, arith, append_assoc, length-append}
use Rattle.std.proofs.lemmas.List.{append-nil, drop_all, drop_more, get_or-map, get_or_past, length-map}
use Rattle.trees.specs.Tree.{Tree}
use Rattle.tasks.specs.declared.signature.SymbolInfo.{SymbolInfo}
use Rattle.tasks.specs.Task.{SymbolTree, int_symbol, TaskTree, symbol_or}
use Rattle.tasks.specs.Meaning.{symbol_at, symbols_at}
use Rattle.name_tables.specs.declared.name_entries.names.NameEntry.{NameEntry}
use Rattle.name_tables.specs.Occurrences.{Occurrence}
use Rattle.name_tables.specs.Tables.{entry_at_place, entries_from}
use Rattle.name_tables.specs.Seen.{occurrence_at, seen_occurrences}

-- the table when these have been added too
abbrev pub WithEntries : TaskTree → List Occurrence → List Tree → List NameEntry → List (ℕ × ℕ) → List NameEntry
WithEntries t all s names keys = names ++ entries_from t all (length names) (seen_occurrences s keys)

pub entry_step : (t : TaskTree) (all : List Occurrence) (s : List Tree) (names new whole : List NameEntry) (keys : List (ℕ × ℕ)) (i : ℕ) (key : ℕ × ℕ) → i < length keys → key ≡ get_or keys i key
    → new ≡ names ++ entry_at_place t all (length names) (occurrence_at s key) ∷ [] → WithEntries t all s names (drop i keys) ≡ whole → WithEntries t all s new (drop (i + 1) keys) ≡ whole
entry_step t all s names new whole keys i key h is e so =
    let one = entry_at_place t all (length names) (occurrence_at s key) in
    let rest = seen_occurrences s (drop (i + 1) keys) in
    let n : length new ≡ length names + 1 = ap length e ∙ length-append names (one ∷ []) in
    ap (λ z. z ++ entries_from t all (length new) rest) e ∙ append_assoc names (one ∷ []) (entries_from t all (length new) rest)
    ∙ ap (λ m. names ++ one ∷ entries_from t all m rest) n ∙ ap (WithEntries t all s names) (ap (λ (z : ℕ × ℕ). z ∷ drop (i + 1) keys) is ∙ sym (drop_more keys i key h)) ∙ so

pub entries_end : (t : TaskTree) (all : List Occurrence) (s : List Tree) (names : List NameEntry) (keys : List (ℕ × ℕ)) (i : ℕ) → length keys ≤ i → WithEntries t all s names (drop i keys) ≡ names
entries_end t all s names keys i h = ap (WithEntries t all s names) (drop_all i keys h) ∙ append-nil names

-- the name of an entry, and what stands for one beyond them
pub name_within : (s : List Tree) (infos seen : List SymbolInfo) (k : ℕ) (i : SymbolInfo) → seen ≡ infos → k < length seen → (get_or seen k i).name ≡ (symbol_or (symbols_at s infos) k).name
name_within s infos seen k i same h =
    ap (λ (z : List SymbolInfo). (get_or z k i).name) same
    ∙ sym (ap (λ (z : SymbolTree). z.name) (get_or-map (symbol_at s) infos k i int_symbol (let e = ap length same in omega arith)))

pub name_past : (s : List Tree) (infos seen : List SymbolInfo) (k : ℕ) → seen ≡ infos → length seen ≤ k → int_symbol.name ≡ (symbol_or (symbols_at s infos) k).name
name_past s infos seen k same h =
    sym (ap (λ (z : SymbolTree). z.name) (get_or_past (symbols_at s infos) k int_symbol (let e = ap length same in let n : length (symbols_at s infos) ≡ length infos = length-map infos (symbol_at s) in omega arith)))
