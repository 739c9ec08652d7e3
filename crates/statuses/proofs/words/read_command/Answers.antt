use Rattle.std.proofs.Common.{rules, arith, ◌≡◌, ◌≤◌, ◌<◌, true, Option, None, List, [], ◌∷◌, map, string_bytes, String, Global, length, drop, get_or, refl, subst}
use Rattle.std.proofs.lemmas.List.{take_rest}
use Rattle.statuses.specs.Words.{command_of, is_plain_word, all_plain, command_named}
use Rattle.statuses.specs.declared.words.Command.{Command}
use Rattle.statuses.proofs.words.read_command.Goals as goal

few : (ws : List (String Global)) → length ws < 2 → None ≡ command_of (map string_bytes ws)
few [] short = refl
few (w ∷ []) short = refl
few (w ∷ v ∷ ws) short = absurd (omega arith)

many : (ws : List (String Global)) (name : String Global) (r : Option Command) → 2 ≤ length ws → name ≡ get_or ws 1 name
    → is_plain_word (string_bytes name) ≡ true → all_plain (map string_bytes (drop 2 ws)) ≡ true
    → r ≡ command_named (string_bytes name) (map string_bytes (drop 2 ws)) → r ≡ command_of (map string_bytes ws)
many [] name r long is plain all same = absurd (omega arith)
many (w ∷ []) name r long is plain all same = absurd (omega arith)
many (w ∷ v ∷ ws) name r long is plain all same =
    let plain_too : is_plain_word (string_bytes v) ≡ true = rw (← is) plain in
    rw (plain_too, all) (rw (← is) same)

pub returns-in_default : goal.returns-in_default
returns-in_default c = few c.args.words.now (omega arith)

pub returns-then-all_plain : goal.returns-then-all_plain
returns-then-all_plain c =
    let ws = c.args.words.now in
    let all = subst (λ (xs : List (String Global)). all_plain (map string_bytes xs) ≡ true) (take_rest ws 2) (search rules) in
    let same = subst (λ (xs : List (String Global)). c.read_named.result ≡ command_named (string_bytes c.name-item.result) (map string_bytes xs)) (take_rest ws 2) (search rules) in
    many ws c.name-item.result c.read_named.result (omega arith) c.name-item.is (search rules) all same
