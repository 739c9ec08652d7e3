-- What the arguments of a rule refer to is what the rule names.
use Rattle.std.proofs.Common.{◌≡◌, ℕ, ℤ, List, [], ◌∷◌, ◌++◌, map, Option, Some, None, sym, refl, ap, subst, ◌∙◌, append-nil, append_assoc}
use Rattle.std.specs.Option.{option_and_then, option_map}
use Rattle.kernel.specs.trees.Tree.{Tree}
use Rattle.kernel.specs.rules.Trees.{RuleTree, RAnd, RAndThen, RBound, RCase, RClash, RClause, RCut, RDef, RDistinct, RExists, RFact, RFalse, RForall, RIfDef, RIff, RImp, RInject, RInv, RIrrefl, RKeep, RLetDef, RLinear, RMatchDef, RNotAnd, RNotAndThen, RNotExists, RNotForall, RNotIff, RNotImp, RNotNot, RNotOr, RNotOrElse, RNotTrue, ROr, ROrElse, RProject, RRefl, RReplace, RTrichotomy, rule_types}
use Rattle.step_lines.specs.declared.rule_words.name.RuleName.{RuleName}
use Rattle.step_lines.specs.declared.rule_words.name.RuleName.TheVariants as name
use Rattle.step_lines.specs.rule_words.Arguments.{ArgumentTree, ANumber, ASymbol, AInteger, AExpression, AType, number_in, symbol_in, integer_in, expression_in, type_in}
use Rattle.step_lines.specs.rule_words.Forms.{one_argument, two_arguments, three_arguments, each_from, each_argument, pairs_from, argument_pairs, one_then_types, two_then_types}
use Rattle.step_lines.specs.rule_words.Rules.{rule_from}
use Rattle.step_writing.specs.Named.{rule_expressions, rule_symbols, trees_in}

-- the terms and formulas, the types and the symbols among arguments, and all trees
abbrev pub expressions_in : List ArgumentTree → List Tree
expressions_in [] = []
expressions_in (AExpression e ∷ args) = e ∷ expressions_in args
expressions_in (_ ∷ args) = expressions_in args

abbrev pub types_in : List ArgumentTree → List Tree
types_in [] = []
types_in (AType y ∷ args) = y ∷ types_in args
types_in (_ ∷ args) = types_in args

abbrev pub symbols_in : List ArgumentTree → List ℕ
symbols_in [] = []
symbols_in (ASymbol k ∷ args) = k ∷ symbols_in args
symbols_in (_ ∷ args) = symbols_in args

pub record Parts (args : List ArgumentTree) (r : RuleTree) : Type 0 where
  pub expressions : expressions_in args ≡ rule_expressions r
  pub types : types_in args ≡ rule_types r
  pub symbols : symbols_in args ≡ rule_symbols r
  pub trees : trees_in args ≡ rule_expressions r ++ rule_types r

parts : (args : List ArgumentTree) (r : RuleTree) → expressions_in args ≡ rule_expressions r → types_in args ≡ rule_types r → symbols_in args ≡ rule_symbols r → trees_in args ≡ rule_expressions r ++ rule_types r → Parts args r
parts args r e y s t = record { expressions = e; types = y; symbols = s; trees = t }

number_is : (a : ArgumentTree) (i : ℕ) → number_in a ≡ Some i → a ≡ ANumber i
unfolding number_in
number_is (ANumber n) i e = let k : n ≡ i = cc in ap ANumber k
number_is _ i e = absurd (cc)

symbol_is : (a : ArgumentTree) (i : ℕ) → symbol_in a ≡ Some i → a ≡ ASymbol i
unfolding symbol_in
symbol_is (ASymbol n) i e = let k : n ≡ i = cc in ap ASymbol k
symbol_is _ i e = absurd (cc)

integer_is : (a : ArgumentTree) (i : ℤ) → integer_in a ≡ Some i → a ≡ AInteger i
unfolding integer_in
integer_is (AInteger n) i e = let k : n ≡ i = cc in ap AInteger k
integer_is _ i e = absurd (cc)

expression_is : (a : ArgumentTree) (i : Tree) → expression_in a ≡ Some i → a ≡ AExpression i
unfolding expression_in
expression_is (AExpression n) i e = let k : n ≡ i = cc in ap AExpression k
expression_is _ i e = absurd (cc)

type_is : (a : ArgumentTree) (i : Tree) → type_in a ≡ Some i → a ≡ AType i
unfolding type_in
type_is (AType n) i e = let k : n ≡ i = cc in ap AType k
type_is _ i e = absurd (cc)

one_parts : {A : Type 0} (p : ArgumentTree → Option A) (g : A → ArgumentTree) → ((a : ArgumentTree) (x : A) → p a ≡ Some x → a ≡ g x) → (f : A → RuleTree) → ((x : A) → Parts (g x ∷ []) (f x)) → (args : List ArgumentTree) (r : RuleTree) → one_argument p f args ≡ Some r → Parts args r
one_parts p g is f h [] r e = absurd (cc)
one_parts {A} p g is f h (a ∷ []) r e = at (p a) refl e where
  at : (o : Option A) → p a ≡ o → option_map f o ≡ Some r → Parts (a ∷ []) r
  at None q k = absurd (cc)
  at (Some x) q k = let l : f x ≡ r = cc in subst (λ (y : ArgumentTree). Parts (y ∷ []) r) (sym (is a x q)) (subst (Parts (g x ∷ [])) l (h x))
one_parts p g is f h (a ∷ b ∷ rest) r e = absurd (cc)

two_parts : {A B : Type 0} (p : ArgumentTree → Option A) (q : ArgumentTree → Option B) (g : A → ArgumentTree) (l : B → ArgumentTree) → ((a : ArgumentTree) (x : A) → p a ≡ Some x → a ≡ g x) → ((a : ArgumentTree) (x : B) → q a ≡ Some x → a ≡ l x)
    → (f : A → B → RuleTree) → ((x : A) (y : B) → Parts (g x ∷ l y ∷ []) (f x y)) → (args : List ArgumentTree) (r : RuleTree) → two_arguments p q f args ≡ Some r → Parts args r
two_parts p q g l ip iq f h [] r e = absurd (cc)
two_parts p q g l ip iq f h (a ∷ []) r e = absurd (cc)
two_parts {A} {B} p q g l ip iq f h (a ∷ b ∷ []) r e = at (p a) (q b) refl refl e where
  at : (o : Option A) (u : Option B) → p a ≡ o → q b ≡ u → two_arguments (λ (z : ArgumentTree). o) (λ (z : ArgumentTree). u) f (a ∷ b ∷ []) ≡ Some r → Parts (a ∷ b ∷ []) r
  at None None v w k = absurd (cc)
  at None (Some y) v w k = absurd (cc)
  at (Some x) None v w k = absurd (cc)
  at (Some x) (Some y) v w k =
      let m : f x y ≡ r = cc in
      subst (λ (z : ArgumentTree). Parts (z ∷ b ∷ []) r) (sym (ip a x v)) (subst (λ (z : ArgumentTree). Parts (g x ∷ z ∷ []) r) (sym (iq b y w)) (subst (Parts (g x ∷ l y ∷ [])) m (h x y)))
two_parts p q g l ip iq f h (a ∷ b ∷ c ∷ rest) r e = absurd (cc)

replace_parts : (args : List ArgumentTree) (r : RuleTree) → three_arguments number_in number_in expression_in RReplace args ≡ Some r → Parts args r
replace_parts [] r e = absurd (cc)
replace_parts (a ∷ []) r e = absurd (cc)
replace_parts (a ∷ b ∷ []) r e = absurd (cc)
replace_parts (a ∷ b ∷ c ∷ []) r e = at (number_in a) (number_in b) (expression_in c) refl refl refl e where
  at : (o u : Option ℕ) (m : Option Tree) → number_in a ≡ o → number_in b ≡ u → expression_in c ≡ m → three_arguments (λ (z : ArgumentTree). o) (λ (z : ArgumentTree). u) (λ (z : ArgumentTree). m) RReplace (a ∷ b ∷ c ∷ []) ≡ Some r → Parts (a ∷ b ∷ c ∷ []) r
  at None u m v w x k = absurd (cc)
  at (Some i) None m v w x k = absurd (cc)
  at (Some i) (Some j) None v w x k = absurd (cc)
  at (Some i) (Some j) (Some y) v w x k =
      let z : RReplace i j y ≡ r = cc in
      subst (λ (n : ArgumentTree). Parts (n ∷ b ∷ c ∷ []) r) (sym (number_is a i v)) (subst (λ (n : ArgumentTree). Parts (ANumber i ∷ n ∷ c ∷ []) r) (sym (number_is b j w))
      (subst (λ (n : ArgumentTree). Parts (ANumber i ∷ ANumber j ∷ n ∷ []) r) (sym (expression_is c y x)) (subst (Parts (ANumber i ∷ ANumber j ∷ AExpression y ∷ [])) z (parts (ANumber i ∷ ANumber j ∷ AExpression y ∷ []) (RReplace i j y) refl refl refl refl))))
replace_parts (a ∷ b ∷ c ∷ d ∷ rest) r e = absurd (cc)

-- what arguments of one kind are
each_is : {A : Type 0} (p : ArgumentTree → Option A) (g : A → ArgumentTree) → ((a : ArgumentTree) (x : A) → p a ≡ Some x → a ≡ g x) → (xs : List A) (args : List ArgumentTree) (ys : List A) → each_from p xs args ≡ Some ys → (zs : List A) × (args ≡ map g zs) × (ys ≡ xs ++ zs)
each_is p g is xs [] ys e = let k : xs ≡ ys = cc in ([], refl, sym k ∙ sym (append-nil xs))
each_is {A} p g is xs (a ∷ args) ys e = at (p a) refl e (λ x k. each_is p g is (xs ++ x ∷ []) args ys k) where
  at : (o : Option A) → p a ≡ o → option_and_then (λ x. each_from p (xs ++ x ∷ []) args) o ≡ Some ys → ((x : A) → each_from p (xs ++ x ∷ []) args ≡ Some ys → (zs : List A) × (args ≡ map g zs) × (ys ≡ (xs ++ x ∷ []) ++ zs)) → (zs : List A) × (a ∷ args ≡ map g zs) × (ys ≡ xs ++ zs)
  at None q k more = absurd (cc)
  at (Some x) q k more =
      let m = more x k in
      (x ∷ m.0, ap (λ (z : ArgumentTree). z ∷ args) (is a x q) ∙ ap (λ (l : List ArgumentTree). g x ∷ l) m.1, m.2 ∙ append_assoc xs (x ∷ []) m.0)

-- arguments that are numbers, and those that are types
record NoParts (args : List ArgumentTree) : Type 0 where
  pub expressions : expressions_in args ≡ []
  pub types : types_in args ≡ []
  pub symbols : symbols_in args ≡ []
  pub trees : trees_in args ≡ []

no_parts : NoParts []
no_parts = record { expressions = refl; types = refl; symbols = refl; trees = refl }

number_more : (i : ℕ) (args : List ArgumentTree) → NoParts args → NoParts (ANumber i ∷ args)
number_more i args h = record { expressions = h.expressions; types = h.types; symbols = h.symbols; trees = h.trees }

integer_more : (z : ℤ) (args : List ArgumentTree) → NoParts args → NoParts (AInteger z ∷ args)
integer_more z args h = record { expressions = h.expressions; types = h.types; symbols = h.symbols; trees = h.trees }

numbers_only : (ns : List ℕ) → NoParts (map ANumber ns)
numbers_only [] = no_parts
numbers_only (n ∷ ns) = number_more n (map ANumber ns) (numbers_only ns)

types_only : (ys : List Tree) → (expressions_in (map AType ys) ≡ []) × (types_in (map AType ys) ≡ ys) × (symbols_in (map AType ys) ≡ []) × (trees_in (map AType ys) ≡ ys)
types_only [] = (refl, refl, refl, refl)
types_only (y ∷ ys) = let h = types_only ys in (h.0, ap (λ (l : List Tree). y ∷ l) h.1, h.2, ap (λ (l : List Tree). y ∷ l) h.3)

keep_parts : (args : List ArgumentTree) (r : RuleTree) → option_map RKeep (each_argument number_in args) ≡ Some r → Parts args r
keep_parts args r e = at (each_argument number_in args) refl e where
  at : (o : Option (List ℕ)) → each_argument number_in args ≡ o → option_map RKeep o ≡ Some r → Parts args r
  at None q k = absurd (cc)
  at (Some ns) q k =
      let m = each_is number_in ANumber number_is [] args ns q in
      let l : RKeep ns ≡ r = cc in
      let n = numbers_only m.0 in
      subst (λ (z : List ArgumentTree). Parts z r) (sym m.1) (subst (Parts (map ANumber m.0)) l (parts (map ANumber m.0) (RKeep ns) n.expressions n.types n.symbols n.trees))

pairs_only : (ps : List (ℕ × ℤ)) (o : Option ℕ) (args : List ArgumentTree) (qs : List (ℕ × ℤ)) → pairs_from ps o args ≡ Some qs → NoParts args
pairs_only ps None [] qs e = no_parts
pairs_only ps (Some i) [] qs e = no_parts
pairs_only ps None (a ∷ args) qs e = at (number_in a) refl e (λ i k. pairs_only ps (Some i) args qs k) where
  at : (o : Option ℕ) → number_in a ≡ o → option_and_then (λ i. pairs_from ps (Some i) args) o ≡ Some qs → ((i : ℕ) → pairs_from ps (Some i) args ≡ Some qs → NoParts args) → NoParts (a ∷ args)
  at None q k more = absurd (cc)
  at (Some i) q k more = subst (λ (z : ArgumentTree). NoParts (z ∷ args)) (sym (number_is a i q)) (number_more i args (more i k))
pairs_only ps (Some i) (a ∷ args) qs e = at (integer_in a) refl e (λ z k. pairs_only (ps ++ (i, z) ∷ []) None args qs k) where
  at : (o : Option ℤ) → integer_in a ≡ o → option_and_then (λ m. pairs_from (ps ++ (i, m) ∷ []) None args) o ≡ Some qs → ((z : ℤ) → pairs_from (ps ++ (i, z) ∷ []) None args ≡ Some qs → NoParts args) → NoParts (a ∷ args)
  at None q k more = absurd (cc)
  at (Some z) q k more = subst (λ (y : ArgumentTree). NoParts (y ∷ args)) (sym (integer_is a z q)) (integer_more z args (more z k))

linear_parts : (args : List ArgumentTree) (r : RuleTree) → option_map RLinear (argument_pairs args) ≡ Some r → Parts args r
linear_parts args r e = at (argument_pairs args) refl e where
  at : (o : Option (List (ℕ × ℤ))) → argument_pairs args ≡ o → option_map RLinear o ≡ Some r → Parts args r
  at None q k = absurd (cc)
  at (Some ps) q k = let l : RLinear ps ≡ r = cc in let n = pairs_only [] None args ps q in subst (Parts args) l (parts args (RLinear ps) n.expressions n.types n.symbols n.trees)

-- one argument, and then types
then_types : (p : ArgumentTree → Option ℕ) (g : ℕ → ArgumentTree) → ((a : ArgumentTree) (x : ℕ) → p a ≡ Some x → a ≡ g x) → (f : ℕ → List Tree → RuleTree) → ((k : ℕ) (ys : List Tree) → Parts (g k ∷ map AType ys) (f k ys)) → (args : List ArgumentTree) (r : RuleTree) → one_then_types p f args ≡ Some r → Parts args r
then_types p g is f h [] r e = absurd (cc)
then_types p g is f h (a ∷ args) r e = at (p a) (each_argument type_in args) refl refl e where
  at : (o : Option ℕ) (u : Option (List Tree)) → p a ≡ o → each_argument type_in args ≡ u → two_arguments (λ (z : ArgumentTree). o) (λ (z : ArgumentTree). u) f (a ∷ a ∷ []) ≡ Some r → Parts (a ∷ args) r
  at None None v w k = absurd (cc)
  at None (Some y) v w k = absurd (cc)
  at (Some x) None v w k = absurd (cc)
  at (Some x) (Some ys) v w k =
      let m : f x ys ≡ r = cc in
      let n = each_is type_in AType type_is [] args ys w in
      let same : args ≡ map AType ys = n.1 ∙ ap (map AType) (sym n.2) in
      subst (λ (z : ArgumentTree). Parts (z ∷ args) r) (sym (is a x v)) (subst (λ (l : List ArgumentTree). Parts (g x ∷ l) r) (sym same) (subst (Parts (g x ∷ map AType ys)) m (h x ys)))

clause_parts : (args : List ArgumentTree) (r : RuleTree) → two_then_types RClause args ≡ Some r → Parts args r
clause_parts [] r e = absurd (cc)
clause_parts (a ∷ []) r e = absurd (cc)
clause_parts (a ∷ b ∷ args) r e = at (symbol_in a) (number_in b) (each_argument type_in args) refl refl refl e where
  at : (o u : Option ℕ) (m : Option (List Tree)) → symbol_in a ≡ o → number_in b ≡ u → each_argument type_in args ≡ m → three_arguments (λ (z : ArgumentTree). o) (λ (z : ArgumentTree). u) (λ (z : ArgumentTree). m) RClause (a ∷ a ∷ a ∷ []) ≡ Some r → Parts (a ∷ b ∷ args) r
  at None u m v w x k = absurd (cc)
  at (Some i) None m v w x k = absurd (cc)
  at (Some i) (Some j) None v w x k = absurd (cc)
  at (Some i) (Some j) (Some ys) v w x k =
      let z : RClause i j ys ≡ r = cc in
      let n = each_is type_in AType type_is [] args ys x in
      let same : args ≡ map AType ys = n.1 ∙ ap (map AType) (sym n.2) in
      let y = types_only ys in
      subst (λ (q : ArgumentTree). Parts (q ∷ b ∷ args) r) (sym (symbol_is a i v)) (subst (λ (q : ArgumentTree). Parts (ASymbol i ∷ q ∷ args) r) (sym (number_is b j w))
      (subst (λ (l : List ArgumentTree). Parts (ASymbol i ∷ ANumber j ∷ l) r) (sym same) (subst (Parts (ASymbol i ∷ ANumber j ∷ map AType ys)) z (parts (ASymbol i ∷ ANumber j ∷ map AType ys) (RClause i j ys) y.0 y.1 (ap (λ (l : List ℕ). i ∷ l) y.2) y.3))))

number_rule : (f : ℕ → RuleTree) → ((i : ℕ) → Parts (ANumber i ∷ []) (f i)) → (args : List ArgumentTree) (r : RuleTree) → one_argument number_in f args ≡ Some r → Parts args r
number_rule f h = one_parts number_in ANumber number_is f h

numbers_rule : (f : ℕ → ℕ → RuleTree) → ((i j : ℕ) → Parts (ANumber i ∷ ANumber j ∷ []) (f i j)) → (args : List ArgumentTree) (r : RuleTree) → two_arguments number_in number_in f args ≡ Some r → Parts args r
numbers_rule f h = two_parts number_in number_in ANumber ANumber number_is number_is f h

expression_rule : (f : Tree → RuleTree) → ((e : Tree) → Parts (AExpression e ∷ []) (f e)) → (args : List ArgumentTree) (r : RuleTree) → one_argument expression_in f args ≡ Some r → Parts args r
expression_rule f h = one_parts expression_in AExpression expression_is f h

placed_rule : (f : ℕ → Tree → RuleTree) → ((i : ℕ) (e : Tree) → Parts (ANumber i ∷ AExpression e ∷ []) (f i e)) → (args : List ArgumentTree) (r : RuleTree) → two_arguments number_in expression_in f args ≡ Some r → Parts args r
placed_rule f h = two_parts number_in expression_in ANumber AExpression number_is expression_is f h

pub rule_parts : (n : RuleName) (args : List ArgumentTree) (r : RuleTree) → rule_from n args ≡ Some r → Parts args r
rule_parts name.And args r e = number_rule RAnd (λ i. parts (ANumber i ∷ []) (RAnd i) refl refl refl refl) args r e
rule_parts name.AndThen args r e = number_rule RAndThen (λ i. parts (ANumber i ∷ []) (RAndThen i) refl refl refl refl) args r e
rule_parts name.Distinct args r e = number_rule RDistinct (λ i. parts (ANumber i ∷ []) (RDistinct i) refl refl refl refl) args r e
rule_parts name.False args r e = number_rule RFalse (λ i. parts (ANumber i ∷ []) (RFalse i) refl refl refl refl) args r e
rule_parts name.Iff args r e = number_rule RIff (λ i. parts (ANumber i ∷ []) (RIff i) refl refl refl refl) args r e
rule_parts name.Imp args r e = number_rule RImp (λ i. parts (ANumber i ∷ []) (RImp i) refl refl refl refl) args r e
rule_parts name.Inject args r e = number_rule RInject (λ i. parts (ANumber i ∷ []) (RInject i) refl refl refl refl) args r e
rule_parts name.Irrefl args r e = number_rule RIrrefl (λ i. parts (ANumber i ∷ []) (RIrrefl i) refl refl refl refl) args r e
rule_parts name.NotAnd args r e = number_rule RNotAnd (λ i. parts (ANumber i ∷ []) (RNotAnd i) refl refl refl refl) args r e
rule_parts name.NotAndThen args r e = number_rule RNotAndThen (λ i. parts (ANumber i ∷ []) (RNotAndThen i) refl refl refl refl) args r e
rule_parts name.NotIff args r e = number_rule RNotIff (λ i. parts (ANumber i ∷ []) (RNotIff i) refl refl refl refl) args r e
rule_parts name.NotImp args r e = number_rule RNotImp (λ i. parts (ANumber i ∷ []) (RNotImp i) refl refl refl refl) args r e
rule_parts name.NotNot args r e = number_rule RNotNot (λ i. parts (ANumber i ∷ []) (RNotNot i) refl refl refl refl) args r e
rule_parts name.NotOr args r e = number_rule RNotOr (λ i. parts (ANumber i ∷ []) (RNotOr i) refl refl refl refl) args r e
rule_parts name.NotOrElse args r e = number_rule RNotOrElse (λ i. parts (ANumber i ∷ []) (RNotOrElse i) refl refl refl refl) args r e
rule_parts name.NotTrue args r e = number_rule RNotTrue (λ i. parts (ANumber i ∷ []) (RNotTrue i) refl refl refl refl) args r e
rule_parts name.Or args r e = number_rule ROr (λ i. parts (ANumber i ∷ []) (ROr i) refl refl refl refl) args r e
rule_parts name.OrElse args r e = number_rule ROrElse (λ i. parts (ANumber i ∷ []) (ROrElse i) refl refl refl refl) args r e
rule_parts name.Clash args r e = numbers_rule RClash (λ i j. parts (ANumber i ∷ ANumber j ∷ []) (RClash i j) refl refl refl refl) args r e
rule_parts name.Exists args r e = numbers_rule RExists (λ i j. parts (ANumber i ∷ ANumber j ∷ []) (RExists i j) refl refl refl refl) args r e
rule_parts name.NotForall args r e = numbers_rule RNotForall (λ i j. parts (ANumber i ∷ ANumber j ∷ []) (RNotForall i j) refl refl refl refl) args r e
rule_parts name.Case args r e = expression_rule RCase (λ x. parts (AExpression x ∷ []) (RCase x) refl refl refl refl) args r e
rule_parts name.Cut args r e = expression_rule RCut (λ x. parts (AExpression x ∷ []) (RCut x) refl refl refl refl) args r e
rule_parts name.IfDef args r e = expression_rule RIfDef (λ x. parts (AExpression x ∷ []) (RIfDef x) refl refl refl refl) args r e
rule_parts name.LetDef args r e = expression_rule RLetDef (λ x. parts (AExpression x ∷ []) (RLetDef x) refl refl refl refl) args r e
rule_parts name.MatchDef args r e = expression_rule RMatchDef (λ x. parts (AExpression x ∷ []) (RMatchDef x) refl refl refl refl) args r e
rule_parts name.Project args r e = expression_rule RProject (λ x. parts (AExpression x ∷ []) (RProject x) refl refl refl refl) args r e
rule_parts name.Refl args r e = expression_rule RRefl (λ x. parts (AExpression x ∷ []) (RRefl x) refl refl refl refl) args r e
rule_parts name.Forall args r e = placed_rule RForall (λ i x. parts (ANumber i ∷ AExpression x ∷ []) (RForall i x) refl refl refl refl) args r e
rule_parts name.NotExists args r e = placed_rule RNotExists (λ i x. parts (ANumber i ∷ AExpression x ∷ []) (RNotExists i x) refl refl refl refl) args r e
rule_parts name.Bound args r e = two_parts expression_in integer_in AExpression AInteger expression_is integer_is RBound (λ x z. parts (AExpression x ∷ AInteger z ∷ []) (RBound x z) refl refl refl refl) args r e
rule_parts name.Trichotomy args r e = two_parts expression_in expression_in AExpression AExpression expression_is expression_is RTrichotomy (λ x y. parts (AExpression x ∷ AExpression y ∷ []) (RTrichotomy x y) refl refl refl refl) args r e
rule_parts name.Replace args r e = replace_parts args r e
rule_parts name.Keep args r e = keep_parts args r e
rule_parts name.Linear args r e = linear_parts args r e
rule_parts name.Fact args r e = then_types number_in ANumber number_is RFact (λ k ys. let y = types_only ys in parts (ANumber k ∷ map AType ys) (RFact k ys) y.0 y.1 y.2 y.3) args r e
rule_parts name.Def args r e = then_types symbol_in ASymbol symbol_is RDef (λ k ys. let y = types_only ys in parts (ASymbol k ∷ map AType ys) (RDef k ys) y.0 y.1 (ap (λ (l : List ℕ). k ∷ l) y.2) y.3) args r e
rule_parts name.Inv args r e = then_types symbol_in ASymbol symbol_is RInv (λ k ys. let y = types_only ys in parts (ASymbol k ∷ map AType ys) (RInv k ys) y.0 y.1 (ap (λ (l : List ℕ). k ∷ l) y.2) y.3) args r e
rule_parts name.Clause args r e = clause_parts args r e
