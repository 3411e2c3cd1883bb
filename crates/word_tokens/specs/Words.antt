-- Words, reserved words and names.
use Rattle.std.specs.Prelude.{ℕ, ◌==◌, Bool, false, not, ◌&&◌, ◌||◌, List, [], ◌∷◌, length, map, codes, nat_le}
use Rattle.std.specs.List.{list_any, list_all}
use Rattle.std.specs.Str.{bytes_eq}
use Rattle.std.specs.Char.{is_ascii_alphabetic, is_ascii_alphanumeric, to_ascii_lowercase}

-- a letter or `_`, which is 95
abbrev pub starts_word : ℕ → Bool
starts_word byte = is_ascii_alphabetic byte || byte == 95

-- a letter, a digit or `_`
abbrev pub continues_word : ℕ → Bool
continues_word byte = is_ascii_alphanumeric byte || byte == 95

abbrev pub is_word_of : List ℕ → Bool
is_word_of [] = false
is_word_of (byte ∷ bytes) = starts_word byte && list_all continues_word bytes

-- the same but for ASCII case
abbrev pub same_word_as : List ℕ → List ℕ → Bool
same_word_as left right = bytes_eq (map to_ascii_lowercase left) (map to_ascii_lowercase right)

-- the words that are never a name, in any case
abbrev pub reserved_words : List (List ℕ)
reserved_words = codes "alter" ∷ codes "and" ∷ codes "as" ∷ codes "begin" ∷ codes "choice" ∷ codes "commit" ∷ codes "create" ∷ codes "delete" ∷ codes "empty" ∷ codes "except" ∷ codes "false" ∷ codes "from" ∷ codes "insert" ∷ codes "into" ∷ codes "join" ∷ codes "none" ∷ codes "not" ∷ codes "on" ∷ codes "or" ∷ codes "rollback" ∷ codes "select" ∷ codes "set" ∷ codes "true" ∷ codes "union" ∷ codes "update" ∷ codes "values" ∷ codes "when" ∷ codes "where" ∷ []

abbrev pub is_reserved_word : List ℕ → Bool
is_reserved_word bytes = list_any (λ word. same_word_as bytes word) reserved_words

-- the greatest length of a name, in bytes
abbrev pub name_limit : ℕ
name_limit = 63

-- a word of 1 to 63 bytes that isn't reserved
abbrev pub is_name_of : List ℕ → Bool
is_name_of bytes = nat_le (length bytes) name_limit && is_word_of bytes && not (is_reserved_word bytes)
