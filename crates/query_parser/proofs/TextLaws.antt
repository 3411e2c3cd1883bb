-- A text is one list of statements alone, and then it has no fault, or it has one fault.
use Rattle.std.proofs.Common.{Bool, ◌≡◌, ◌≢◌, ℕ, List, Ok, Err, sym, ap, ◌∙◌, refl}
use Rattle.word_tokens.specs.declared.token.Token.{Token}
use Rattle.feature_expr.proofs.OneLaws.{one_tokens}
use Rattle.vra_syntax.specs.declared.statement.Statement.{Statement}
use Rattle.query_parser.specs.Texts.{IsText, Refusal, IsRefusedText, placed_at, GivesStatements, GivesTextFault}
use Rattle.query_parser.specs.declared.fault.ParseFault.{ParseFault}
use Rattle.query_parser.specs.declared.fault.ParseFault.TheVariants as fault
use Rattle.query_parser.specs.declared.refused.ParseRefused.{ParseRefused}
use Rattle.query_parser.specs.declared.refused.ParseRefused.TheVariants as refused
use Rattle.query_parser.proofs.ProgramStatements.{one_list, no_fault, one_fault}

module _ (names : List (List ℕ)) (with_params : Bool) (text : List ℕ) where
  pub one_text : (all other : List Statement) → IsText names with_params text all → IsText names with_params text other → all ≡ other
  one_text all other t u =
      let same : u.tokens ≡ t.tokens = one_tokens text u.tokens t.tokens u.are_tokens t.are_tokens in
      one_list with_params names text t.tokens all other t.spelled (rw same at u.spelled)

  -- a refusal that isn't for memory is a fault
  fault_stands : (why : ParseRefused) (tokens : List Token) (f : ParseFault) → why ≡ placed_at text tokens f → why ≢ refused.Memory → f ≢ fault.Memory
  fault_stands why tokens f placed other is = other (placed ∙ ap (placed_at text tokens) is)

  refusal_of : (why : ParseRefused) → IsRefusedText names with_params text why → why ≢ refused.Memory → Refusal names with_params text why
  refusal_of (refused.Syntax place) r other = r
  refusal_of (refused.UnknownFeature place) r other = r
  refusal_of (refused.IntTooLarge place) r other = r
  refusal_of (refused.TooDeep place) r other = r
  refusal_of (refused.TooManyParams place) r other = r
  refusal_of (refused.NoParam place) r other = r
  refusal_of refused.Memory r other = absurd (other refl)

  pub not_refused : (all : List Statement) (why : ParseRefused) → IsText names with_params text all → IsRefusedText names with_params text why → why ≢ refused.Memory → ⊥
  not_refused all why t r other =
      let q = refusal_of why r other in
      let same : q.tokens ≡ t.tokens = one_tokens text q.tokens t.tokens q.are_tokens t.are_tokens in
      no_fault with_params names text t.tokens all q.fault t.spelled (rw same at q.is_fault) (fault_stands why q.tokens q.fault q.placed other)

  pub one_refusal : (why other : ParseRefused) → IsRefusedText names with_params text why → IsRefusedText names with_params text other → why ≢ refused.Memory → other ≢ refused.Memory → why ≡ other
  one_refusal why other r s x y =
      let p = refusal_of why r x in
      let q = refusal_of other s y in
      let same : q.tokens ≡ p.tokens = one_tokens text q.tokens p.tokens q.are_tokens p.are_tokens in
      let is : p.fault ≡ q.fault = one_fault with_params names text p.tokens p.fault q.fault p.is_fault (rw same at q.is_fault) (fault_stands why p.tokens p.fault p.placed x) (fault_stands other q.tokens q.fault q.placed y) in
      p.placed ∙ (rw (is, sym same) (sym q.placed))

  -- a refusal, of a text that is statements
  refused_for_memory : (why : ParseRefused) (all : List Statement) → IsText names with_params text all → IsRefusedText names with_params text why → why ≡ refused.Memory
  refused_for_memory (refused.Syntax place) all t r = absurd (not_refused all (refused.Syntax place) t r (λ h. cc h))
  refused_for_memory (refused.UnknownFeature place) all t r = absurd (not_refused all (refused.UnknownFeature place) t r (λ h. cc h))
  refused_for_memory (refused.IntTooLarge place) all t r = absurd (not_refused all (refused.IntTooLarge place) t r (λ h. cc h))
  refused_for_memory (refused.TooDeep place) all t r = absurd (not_refused all (refused.TooDeep place) t r (λ h. cc h))
  refused_for_memory (refused.TooManyParams place) all t r = absurd (not_refused all (refused.TooManyParams place) t r (λ h. cc h))
  refused_for_memory (refused.NoParam place) all t r = absurd (not_refused all (refused.NoParam place) t r (λ h. cc h))
  refused_for_memory refused.Memory all t r = refl

  pub faultless : (all : List Statement) (why : ParseRefused) → IsText names with_params text all → IsRefusedText names with_params text why → why ≡ refused.Memory
  faultless all why t r = refused_for_memory why all t r

  pub gives_found : (found all : List Statement) → IsText names with_params text found → IsText names with_params text all → GivesStatements all (Ok found)
  gives_found found all t u = one_text found all t u

  pub gives_refused : (why : ParseRefused) (all : List Statement) → IsRefusedText names with_params text why → IsText names with_params text all → GivesStatements all (Err why)
  gives_refused why all r t = faultless all why t r

  pub fault_found : (found : List Statement) (why : ParseRefused) → IsText names with_params text found → IsRefusedText names with_params text why → why ≢ refused.Memory → GivesTextFault why (Ok found)
  fault_found found why t r other = not_refused found why t r other

  pub fault_refused : (found why : ParseRefused) → IsRefusedText names with_params text found → IsRefusedText names with_params text why → why ≢ refused.Memory → GivesTextFault why (Err found)
  fault_refused found why r s other x = one_refusal found why r s x other
