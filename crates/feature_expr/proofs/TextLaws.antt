-- Whole texts.
use Rattle.std.proofs.Common.{◌≡◌, ℕ, ◌+◌, List, [], ◌∷◌, refl, arith}
use Rattle.feature_expr.specs.declared.parse.ExprRefused.{ExprRefused}
use Rattle.feature_expr.specs.declared.parse.Fault.{Fault}
use Rattle.feature_expr.specs.declared.parse.Fault.TheVariants as fault
use Rattle.feature_expr.specs.declared.parse.Sign.TheVariants as sign
use Rattle.word_tokens.specs.declared.token.Token.{Token}
use Rattle.word_tokens.specs.Grammar.{Terminal, NeverFirst, IsFree}
use Rattle.word_tokens.specs.Tokens.{AreTokens}
use Rattle.feature_expr.specs.ExprGrammar.{Own, sign_at, Disjunction, forms, fits, IsRead, IsRefused, IsFirst}
use Rattle.feature_expr.specs.ExprTexts.{alone, none_fits, IsViable, IsFault, placed_at, IsRefusedText}
use Rattle.word_tokens.proofs.GrammarLaws.{here, open_sign, close_sign}

module _ (names : List (List ℕ)) (text : List ℕ) (tokens : List Token) (most : ℕ) where
  never_or : (limit : ℕ) → NeverFirst (forms alone limit) (fits none_fits text tokens) (Own sign.Or) (Terminal (Own sign.End) ∷ [])
  never_or limit at to fit order m = let c = close_sign (forms alone limit) (fits none_fits text tokens) (Own sign.End) [] at to order m in cc (fit, c.0)

  never_and : (limit : ℕ) → NeverFirst (forms alone limit) (fits none_fits text tokens) (Own sign.And) (Terminal (Own sign.End) ∷ [])
  never_and limit at to fit order m = let c = close_sign (forms alone limit) (fits none_fits text tokens) (Own sign.End) [] at to order m in cc (fit, c.0)

  pub end_free : (limit : ℕ) → IsFree (forms alone limit) (fits none_fits text tokens) (Own sign.Or ∷ Own sign.And ∷ []) (Terminal (Own sign.End) ∷ [])
  end_free limit = (never_or limit, (never_and limit, tt))

  pub is_fault : (f : Fault) → IsRefused names text tokens most (Disjunction 0) 0 f → IsFault names text tokens most f
  is_fault (fault.Syntax at) r = λ limit h. record {
    before = (r alone none_fits limit h).reaches.viable (Terminal (Own sign.End) ∷ []);
    never = λ to later m. (r alone none_fits limit h).never (Terminal (Own sign.End) ∷ []) to (end_free limit) later m;
  }
  is_fault (fault.TooDeep at) r = (
    record {
      before = (r.0 alone none_fits).reaches.viable (Terminal (Own sign.End) ∷ []);
      never = λ to later m. (r.0 alone none_fits).never (Terminal (Own sign.End) ∷ []) to (end_free most) later m;
    },
    λ limit h. (r.1 alone none_fits limit h (omega (arith, h))).viable (Terminal (Own sign.End) ∷ []),
  )
  is_fault (fault.UnknownFeature at) r = ((r.0 alone none_fits).viable (Terminal (Own sign.End) ∷ []), r.1, r.2)
  is_fault fault.Memory r = tt

  pub no_end : (end : ℕ) → IsRead text tokens most (Disjunction 0) 0 end → (sign_at text tokens end ≡ sign.End → ⊥) → IsFault names text tokens most (fault.Syntax end)
  no_end end read other limit h = record {
    before = (read alone none_fits limit h).back (Terminal (Own sign.End) ∷ []) end (here (forms alone limit) (fits none_fits text tokens) (Terminal (Own sign.End) ∷ []) end);
    never = λ to later m. other (close_sign (forms alone limit) (fits none_fits text tokens) (Own sign.End) [] end to later ((read alone none_fits limit h).on (Terminal (Own sign.End) ∷ []) to (end_free limit) later m)).0;
  }

  pub whole : (end : ℕ) → IsRead text tokens most (Disjunction 0) 0 end → sign_at text tokens end ≡ sign.End → IsViable text tokens most (end + 1)
  whole end read fit = (read alone none_fits most (omega arith)).back (Terminal (Own sign.End) ∷ []) (end + 1) (open_sign (forms alone most) (fits none_fits text tokens) (Own sign.End) [] end (end + 1) fit (here (forms alone most) (fits none_fits text tokens) [] (end + 1)))

  pub refused_text : (f : Fault) (why : ExprRefused) → AreTokens text tokens → IsFault names text tokens most f → IsFirst names text tokens 0 f → why ≡ placed_at text tokens f → IsRefusedText names text most why
  refused_text (fault.Syntax at) why are is first placed = rw placed (record { tokens = tokens; are_tokens = are; fault = fault.Syntax at; is_fault = is; is_first = first; placed = refl })
  refused_text (fault.UnknownFeature at) why are is first placed = rw placed (record { tokens = tokens; are_tokens = are; fault = fault.UnknownFeature at; is_fault = is; is_first = first; placed = refl })
  refused_text (fault.TooDeep at) why are is first placed = rw placed (record { tokens = tokens; are_tokens = are; fault = fault.TooDeep at; is_fault = is; is_first = first; placed = refl })
  refused_text fault.Memory why are is first placed = rw placed tt
