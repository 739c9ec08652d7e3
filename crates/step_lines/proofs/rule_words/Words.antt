-- A rule's word is read back as its name.
use Rattle.std.specs.Prelude.{◌≡◌, Some, refl}
use Rattle.step_lines.specs.declared.rule_words.name.RuleName.{RuleName}
use Rattle.step_lines.specs.declared.rule_words.name.RuleName.TheVariants as name
use Rattle.step_lines.specs.rule_words.Rules.{rule_row, name_by_word}

pub word_read_back : (n : RuleName) → name_by_word (rule_row n).word ≡ Some n
word_read_back name.And = refl
word_read_back name.AndThen = refl
word_read_back name.Bound = refl
word_read_back name.Case = refl
word_read_back name.Clash = refl
word_read_back name.Clause = refl
word_read_back name.Cut = refl
word_read_back name.Def = refl
word_read_back name.Distinct = refl
word_read_back name.Exists = refl
word_read_back name.Fact = refl
word_read_back name.False = refl
word_read_back name.Forall = refl
word_read_back name.IfDef = refl
word_read_back name.Iff = refl
word_read_back name.Imp = refl
word_read_back name.Inject = refl
word_read_back name.Inv = refl
word_read_back name.Irrefl = refl
word_read_back name.Keep = refl
word_read_back name.LetDef = refl
word_read_back name.Linear = refl
word_read_back name.MatchDef = refl
word_read_back name.NotAnd = refl
word_read_back name.NotAndThen = refl
word_read_back name.NotExists = refl
word_read_back name.NotForall = refl
word_read_back name.NotIff = refl
word_read_back name.NotImp = refl
word_read_back name.NotNot = refl
word_read_back name.NotOr = refl
word_read_back name.NotOrElse = refl
word_read_back name.NotTrue = refl
word_read_back name.Or = refl
word_read_back name.OrElse = refl
word_read_back name.Project = refl
word_read_back name.Refl = refl
word_read_back name.Replace = refl
word_read_back name.Trichotomy = refl
