-- Going through a text on the grammar of statements, a step at a time: what is open from one place on, behind what was
-- open before.
use Rattle.std.proofs.Common.{Bool, true, false, ◌≡◌, ◌∙◌, sym, ◌<◌, ◌≤◌, ◌==◌, ◌&&◌, ◌||◌, if◌then◌else◌, ℕ, ◌+◌, List, [], ◌∷◌, ◌++◌, subst, nat_lt, nat_le, is_some, inl, inr, refl, arith}
use Rattle.std.proofs.lemmas.Bool.Decides.{nat_tests}
use Rattle.std.proofs.lemmas.Bool.{and_parts}
use Rattle.word_tokens.specs.Grammar.{Terminal, Nonterminal, AnyOf}
use Rattle.word_tokens.proofs.GrammarLaws.{here, open_part, close_part, open_sign, close_sign}
use Rattle.feature_expr.specs.ExprGrammar.{Part, Mark, Foreign, Outer, forms, fits}
use Rattle.word_tokens.specs.declared.token.Token.{Token}
use Rattle.query_parser.specs.Lexemes.{number_of, lexeme_at, is_name, op_of}
use Rattle.query_parser.specs.StatementGrammar.{takes, fitting, Form, outer, Goes}
use Rattle.query_parser.specs.declared.fault.ParseFault.{ParseFault}
use Rattle.query_parser.specs.declared.fault.ParseFault.TheVariants as fault
use Rattle.query_parser.specs.declared.lexeme.Lexeme.{Lexeme}
use Rattle.query_parser.specs.declared.lexeme.Lexeme.TheVariants as lexeme
use Rattle.feature_expr.specs.Nesting.{nesting_limit}

-- the numbers of the tokens that a sign of the grammar stands for
abbrev pub low : ℕ → ℕ
low sign = if sign == 100 then 25 else (if sign == 101 then 0 else (if sign == 102 then 41 else sign))

abbrev pub high : ℕ → ℕ
high sign = if sign == 100 then 28 else (if sign == 101 then 29 else (if sign == 102 then 46 else sign))

-- no token is both
abbrev pub apart : ℕ → ℕ → Bool
apart one other = nat_lt (high one) (low other) || nat_lt (high other) (low one)

name_range : (l : Lexeme) → is_name l ≡ (nat_le 25 (number_of l) && nat_le (number_of l) 28)
name_range lexeme.Or = refl
name_range _ = refl

op_range : (l : Lexeme) → is_some (op_of l) ≡ (nat_le 41 (number_of l) && nat_le (number_of l) 46)
op_range lexeme.Or = refl
op_range _ = refl

-- a sign stands for a range of tokens
ranged_by : (sign : ℕ) (l : Lexeme) (a b c : Bool) → (sign == 100) ≡ a → (sign == 101) ≡ b → (sign == 102) ≡ c → takes sign l ≡ true → (low sign ≤ number_of l) × (number_of l ≤ high sign)
ranged_by sign l true b c p q r is =
    let named : (nat_le 25 (number_of l) && nat_le (number_of l) 28) ≡ true = sym (name_range l) ∙ (rw p at is) in
    let parts = and_parts (nat_le 25 (number_of l)) (nat_le (number_of l) 28) named in
    rw p (grind (arith, nat_tests, parts.0), grind (arith, nat_tests, parts.1))
ranged_by sign l false true c p q r is = rw (p, q) (omega arith, grind (arith, nat_tests, rw (p, q) at is))
ranged_by sign l false false true p q r is =
    let compares : (nat_le 41 (number_of l) && nat_le (number_of l) 46) ≡ true = sym (op_range l) ∙ (rw (p, q, r) at is) in
    let parts = and_parts (nat_le 41 (number_of l)) (nat_le (number_of l) 46) compares in
    rw (p, q, r) (grind (arith, nat_tests, parts.0), grind (arith, nat_tests, parts.1))
ranged_by sign l false false false p q r is =
    let same : number_of l ≡ sign = grind (arith, nat_tests, rw (p, q, r) at is) in
    rw (p, q, r) (omega (arith, same), omega (arith, same))

pub ranged : (sign : ℕ) (l : Lexeme) → takes sign l ≡ true → (low sign ≤ number_of l) × (number_of l ≤ high sign)
ranged sign l is = ranged_by sign l (sign == 100) (sign == 101) (sign == 102) refl refl refl is

-- no token is two signs that are apart
pub not_both : (one other : ℕ) (l : Lexeme) → apart one other ≡ true → takes one l ≡ true → takes other l ≡ true → ⊥
not_both one other l is is_one is_other =
    let p = ranged one l is_one in let q = ranged other l is_other in
    grind (arith, nat_tests, is, p.0, p.1, q.0, q.1)

module _ (text : List ℕ) (tokens : List Token) where
  abbrev pub token_fits : Mark → ℕ → Type 0
  token_fits = fits (fitting text tokens) text tokens

  abbrev pub grammar : ℕ → Part → List Form
  grammar limit = forms (outer limit) limit

  abbrev pub Takes : ℕ → ℕ → Type 0
  Takes sign at = takes sign (lexeme_at text tokens at) ≡ true

  -- under each limit, what is open from one place on goes on where other symbols go on from another
  pub record Moves (s : Form) (at : ℕ) (s' : Form) (at' : ℕ) : Type 0 where
    pub order : at ≤ at'
    pub on : (limit to : ℕ) → nesting_limit ≤ limit → at' < to → Goes text tokens limit s at to → Goes text tokens limit s' at' to
    pub back : (limit to : ℕ) → nesting_limit ≤ limit → Goes text tokens limit s' at' to → Goes text tokens limit s at to

  pub stays : (s : Form) (at : ℕ) → Moves s at s at
  stays s at = record { order = omega arith; on = λ limit to h later m. m; back = λ limit to h m. m }

  pub chain : {s : Form} {at : ℕ} {s' : Form} {at' : ℕ} {s'' : Form} {at'' : ℕ} → Moves s at s' at' → Moves s' at' s'' at'' → Moves s at s'' at''
  chain m m' = record {
    order = omega (arith, m.order, m'.order);
    on = λ limit to h later g. m'.on limit to h later (m.on limit to h (omega (arith, m'.order, later)) g);
    back = λ limit to h g. m.back limit to h (m'.back limit to h g);
  }

  pub moved : {s s' : Form} {at at' : ℕ} (at'' : ℕ) → at' ≡ at'' → Moves s at s' at' → Moves s at s' at''
  moved {s} {s'} {at} {at'} at'' e m = subst (λ place. Moves s at s' place) e m

  -- from a place on these symbols take no token, under any limit
  abbrev pub Excluded : Form → ℕ → Type 0
  Excluded s at = (limit to : ℕ) → at < to → Goes text tokens limit s at to → ⊥

  -- they never begin with a sign
  abbrev pub Never : ℕ → Form → Type 0
  Never sign s = (at : ℕ) → Takes sign at → Excluded s at

  pub not_this : (sign : ℕ) (s : Form) (at : ℕ) → takes sign (lexeme_at text tokens at) ≡ false → Excluded (Terminal (Foreign sign) ∷ s) at
  not_this sign s at other limit to later m = let c = close_sign (grammar limit) token_fits (Foreign sign) s at to later m in cc (c.0, other)

  pub but_that : (one other : ℕ) (s : Form) (at : ℕ) → apart one other ≡ true → Takes one at → Excluded (Terminal (Foreign other) ∷ s) at
  but_that one other s at far is limit to later m =
      let c = close_sign (grammar limit) token_fits (Foreign other) s at to later m in not_both one other (lexeme_at text tokens at) far is c.0

  pub never_sign : (one other : ℕ) (s : Form) → apart one other ≡ true → Never one (Terminal (Foreign other) ∷ s)
  never_sign one other s far at is = but_that one other s at far is

  -- none of these forms takes a token
  abbrev pub NoneOf : Form → ℕ → List Form → Type 0
  NoneOf s at [] = Unit {0}
  NoneOf s at (form ∷ others) = Excluded (form ++ s) at × NoneOf s at others

  none_of : (s : Form) (at limit to : ℕ) (all : List Form) → at < to → NoneOf s at all → AnyOf (λ form. Goes text tokens limit (form ++ s) at to) all → ⊥
  none_of s at limit to [] later none any = any
  none_of s at limit to (form ∷ others) later none (inl m) = none.0 limit to later m
  none_of s at limit to (form ∷ others) later none (inr any) = none_of s at limit to others later none.1 any

  this_of : (s : Form) (at limit to : ℕ) (before : List Form) (form : Form) (after : List Form) → at < to → NoneOf s at before → NoneOf s at after → AnyOf (λ f. Goes text tokens limit (f ++ s) at to) (before ++ form ∷ after) → Goes text tokens limit (form ++ s) at to
  this_of s at limit to [] form after later none none' (inl m) = m
  this_of s at limit to [] form after later none none' (inr any) = absurd (none_of s at limit to after later none' any)
  this_of s at limit to (other ∷ before) form after later none none' (inl m) = absurd (none.0 limit to later m)
  this_of s at limit to (other ∷ before) form after later none none' (inr any) = this_of s at limit to before form after later none.1 none' any

  in_any : (s : Form) (at limit to : ℕ) (before : List Form) (form : Form) (after : List Form) → Goes text tokens limit (form ++ s) at to → AnyOf (λ f. Goes text tokens limit (f ++ s) at to) (before ++ form ∷ after)
  in_any s at limit to [] form after m = inl m
  in_any s at limit to (other ∷ before) form after m = inr (in_any s at limit to before form after m)

  -- a part whose forms take no token takes none
  pub no_part : (part n : ℕ) (all : ℕ → List Form) (s : Form) (at : ℕ) → ((limit : ℕ) → outer limit part n ≡ all limit) → ((limit : ℕ) → NoneOf s at (all limit)) → Excluded (Nonterminal (Outer part n) ∷ s) at
  no_part part n all s at is none limit to later m = none_of s at limit to (all limit) later (none limit) (rw (is limit) at (close_part (grammar limit) token_fits (Outer part n) s at to later m))

  -- the one form of a part that takes the token at a place
  pub choose : (part n : ℕ) (before : List Form) (form : Form) (after : List Form) (s : Form) (at : ℕ) → ((limit : ℕ) → nesting_limit ≤ limit → outer limit part n ≡ before ++ form ∷ after) → NoneOf s at before → NoneOf s at after → Moves (Nonterminal (Outer part n) ∷ s) at (form ++ s) at
  choose part n before form after s at is none none' = record {
    order = omega arith;
    on = λ limit to h later m. this_of s at limit to before form after later none none' (rw (is limit h) at (close_part (grammar limit) token_fits (Outer part n) s at to later m));
    back = λ limit to h m. open_part (grammar limit) token_fits (Outer part n) s at to (rw (is limit h) (in_any s at limit to before form after m));
  }

  -- and where the forms behind it hang on the limit
  pub choose_by : (part n : ℕ) (before : List Form) (form : Form) (after : ℕ → List Form) (s : Form) (at : ℕ) → ((limit : ℕ) → nesting_limit ≤ limit → outer limit part n ≡ before ++ form ∷ after limit) → NoneOf s at before → ((limit : ℕ) → NoneOf s at (after limit)) → Moves (Nonterminal (Outer part n) ∷ s) at (form ++ s) at
  choose_by part n before form after s at is none none' = record {
    order = omega arith;
    on = λ limit to h later m. this_of s at limit to before form (after limit) later none (none' limit) (rw (is limit h) at (close_part (grammar limit) token_fits (Outer part n) s at to later m));
    back = λ limit to h m. open_part (grammar limit) token_fits (Outer part n) s at to (rw (is limit h) (in_any s at limit to before form (after limit) m));
  }

  -- a token that stands for itself
  pub pass : (sign : ℕ) (s : Form) (at : ℕ) → Takes sign at → Moves (Terminal (Foreign sign) ∷ s) at s (at + 1)
  pass sign s at is = record {
    order = omega arith;
    on = λ limit to h later m. (close_sign (grammar limit) token_fits (Foreign sign) s at to (omega (arith, later)) m).1;
    back = λ limit to h m. open_sign (grammar limit) token_fits (Foreign sign) s at to is m;
  }

  -- to a place that has another name
  pub pass_to : (sign : ℕ) (s : Form) (at at' : ℕ) → at + 1 ≡ at' → Takes sign at → Moves (Terminal (Foreign sign) ∷ s) at s at'
  pass_to sign s at at' e is = moved at' e (pass sign s at is)

  -- what is open goes on up to a place, and not with the token there
  pub record Stops (limit : ℕ) (s : Form) (at place : ℕ) : Type 0 where
    pub order : at ≤ place
    pub before : Goes text tokens limit s at place
    pub never : (to : ℕ) → place < to → Goes text tokens limit s at to → ⊥

  pub record Reached (limit : ℕ) (s : Form) (at to : ℕ) : Type 0 where
    pub order : at ≤ to
    pub goes : Goes text tokens limit s at to

  -- why what is open from a place on doesn't go on
  abbrev pub Faulty : Form → ℕ → ParseFault → Type 0
  Faulty s at (fault.Syntax place) = (limit : ℕ) → nesting_limit ≤ limit → Stops limit s at place
  Faulty s at (fault.TooDeep place) = Stops nesting_limit s at place × ((limit : ℕ) → nesting_limit < limit → Reached limit s at (place + 1))
  Faulty s at (fault.UnknownFeature place) = Reached nesting_limit s at (place + 1)
  Faulty s at (fault.IntTooLarge place) = Reached nesting_limit s at (place + 1)
  Faulty s at (fault.TooManyParams place) = Reached nesting_limit s at (place + 1)
  Faulty s at (fault.NoParam place) = Reached nesting_limit s at (place + 1)
  Faulty s at fault.Memory = Unit {0}

  stops_behind : (limit : ℕ) (s : Form) (at : ℕ) (s' : Form) (at' place : ℕ) → nesting_limit ≤ limit → Moves s at s' at' → Stops limit s' at' place → Stops limit s at place
  stops_behind limit s at s' at' place h m f = record {
    order = omega (arith, m.order, f.order);
    before = m.back limit place h f.before;
    never = λ to later g. f.never to later (m.on limit to h (omega (arith, f.order, later)) g);
  }

  reached_behind : (limit : ℕ) (s : Form) (at : ℕ) (s' : Form) (at' to : ℕ) → nesting_limit ≤ limit → Moves s at s' at' → Reached limit s' at' to → Reached limit s at to
  reached_behind limit s at s' at' to h m r = record { order = omega (arith, m.order, r.order); goes = m.back limit to h r.goes }

  pub reaches : {s : Form} {at : ℕ} {s' : Form} {at' : ℕ} (limit : ℕ) → nesting_limit ≤ limit → Moves s at s' at' → Reached limit s at at'
  reaches {s} {at} {s'} {at'} limit h m = record { order = m.order; goes = m.back limit at' h (here (grammar limit) token_fits s' at') }

  -- a fault of what is open further on
  pub behind : {s : Form} {at : ℕ} {s' : Form} {at' : ℕ} (why : ParseFault) → Moves s at s' at' → Faulty s' at' why → Faulty s at why
  behind {s} {at} {s'} {at'} (fault.Syntax place) m f = λ limit h. stops_behind limit s at s' at' place h m (f limit h)
  behind {s} {at} {s'} {at'} (fault.TooDeep place) m f = (stops_behind nesting_limit s at s' at' place (omega arith) m f.0, λ limit h. reached_behind limit s at s' at' (place + 1) (omega (arith, h)) m (f.1 limit h))
  behind {s} {at} {s'} {at'} (fault.UnknownFeature place) m f = reached_behind nesting_limit s at s' at' (place + 1) (omega arith) m f
  behind {s} {at} {s'} {at'} (fault.IntTooLarge place) m f = reached_behind nesting_limit s at s' at' (place + 1) (omega arith) m f
  behind {s} {at} {s'} {at'} (fault.TooManyParams place) m f = reached_behind nesting_limit s at s' at' (place + 1) (omega arith) m f
  behind {s} {at} {s'} {at'} (fault.NoParam place) m f = reached_behind nesting_limit s at s' at' (place + 1) (omega arith) m f
  behind {s} {at} {s'} {at'} fault.Memory m f = tt

  -- no token can stand where these symbols are open
  pub stuck : (s : Form) (at : ℕ) → Excluded s at → Faulty s at (fault.Syntax at)
  stuck s at none = λ limit h. record { order = omega arith; before = here (grammar limit) token_fits s at; never = λ to later m. none limit to later m }

  pub missing : (sign : ℕ) (s : Form) (at : ℕ) → takes sign (lexeme_at text tokens at) ≡ false → Faulty (Terminal (Foreign sign) ∷ s) at (fault.Syntax at)
  missing sign s at other = stuck (Terminal (Foreign sign) ∷ s) at (not_this sign s at other)

  -- a token that could stand there if the text might nest deeper
  pub deep : (part n sign : ℕ) (others before after : List Form) (rest : Form) (s : Form) (at : ℕ) → nesting_limit ≤ n → Takes sign at → outer nesting_limit part n ≡ others → NoneOf s at others → ((limit : ℕ) → nesting_limit < limit → n < limit → outer limit part n ≡ before ++ (Terminal (Foreign sign) ∷ rest) ∷ after) → (n ≤ nesting_limit) → Faulty (Nonterminal (Outer part n) ∷ s) at (fault.TooDeep at)
  deep part n sign others before after rest s at low is none_is none some_is high = (
    record {
      order = omega arith;
      before = here (grammar nesting_limit) token_fits (Nonterminal (Outer part n) ∷ s) at;
      never = λ to later m. none_of s at nesting_limit to others later none (rw none_is at (close_part (grammar nesting_limit) token_fits (Outer part n) s at to later m));
    },
    λ limit h. record {
      order = omega arith;
      goes = open_part (grammar limit) token_fits (Outer part n) s at (at + 1) (rw (some_is limit h (omega (arith, h, high))) (in_any s at limit (at + 1) before (Terminal (Foreign sign) ∷ rest) after (open_sign (grammar limit) token_fits (Foreign sign) (rest ++ s) at (at + 1) is (here (grammar limit) token_fits (rest ++ s) (at + 1)))));
    },
  )
