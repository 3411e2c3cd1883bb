-- What a text begins with from a place on, and which token stands there.
use Rattle.std.proofs.Common.{◌≡◌, ℕ, ◌+◌, List, [], ◌∷◌, ◌++◌, drop, true, refl, arith}
use Rattle.word_tokens.specs.Words.{is_word_of}
use Rattle.word_tokens.specs.Tokens.{AreTokens}
use Rattle.word_tokens.specs.declared.token.Token.{Token}
use Rattle.word_tokens.specs.declared.token.TokenKind.TheVariants as kind
use Rattle.word_tokens.proofs.StandLaws.{TokenIs, Stands, EndsWord, word_stands, space_stands, drop_past}

module _ (text : List ℕ) (tokens : List Token) where
  -- the tokens from one on stand from a place of the text on, where this is what is left of it
  pub record Here (k : ℕ) (rest : List ℕ) : Type 0 where
    pub place : ℕ
    pub left : drop place text ≡ rest
    pub stands : Stands text tokens k place

  pub at_start : AreTokens text tokens → Here 0 text
  at_start are = record { place = 0; left = refl; stands = record { within = omega arith; stand = are.stand } }

  pub word_here : (k : ℕ) (word post : List ℕ) → is_word_of word ≡ true → EndsWord post → Here k (word ++ post) → TokenIs text tokens k kind.Word word × Here (k + 1) post
  word_here k word post good ends h =
      let w = word_stands text tokens k h.place word post h.left good ends h.stands in
      (w.0, record { place = h.place + _; left = drop_past text h.place word post h.left; stands = w.1 })

  pub space_here : (k : ℕ) (post : List ℕ) → Here k (32 ∷ post) → Here k post
  space_here k post h = record { place = h.place + 1; left = drop_past text h.place (32 ∷ []) post h.left; stands = space_stands text tokens k h.place post h.left h.stands }
