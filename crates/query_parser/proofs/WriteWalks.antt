-- Going through writes, other statements and whole texts.
use Rattle.std.proofs.Common.{Bool, true, false, ◌≡◌, ◌≢◌, sym, subst, ◌<◌, ◌==◌, ℕ, ◌+◌, ◌-◌, List, [], ◌∷◌, ◌++◌, length, Some, refl, arith}
use Rattle.std.proofs.lemmas.Bool.Decides.{nat_tests}
use Rattle.word_tokens.specs.declared.token.Token.{Token}
use Rattle.vra_syntax.specs.declared.cond.Operand.{Operand}
use Rattle.vra_syntax.specs.declared.write.SetItem.{SetItem}
use Rattle.query_parser.specs.Lexemes.{stands, name_at}
use Rattle.query_parser.specs.Statements.{NamesTo, one_name, another_name, ValuesTo, one_value, another_value, IsTuple, TuplesTo, one_tuple, another_tuple, IsSetItem, SetItemsTo, one_set_item, another_set_item}
use Rattle.query_parser.specs.StatementGrammar.{Form, closed_tuple, Sign, NAME, ValuePart, MoreNames, TuplePart, MoreValues, MoreTuples, SetPart, MoreSets}
use Rattle.query_parser.specs.WriteFaults.{NamesFault, names_memory, no_first_name, no_next_name, names_unclosed, TupleFault, tuple_memory, no_tuple, no_first_value, no_next_value, tuple_unclosed, another_count, TuplesFault, tuples_memory, in_first_tuple, in_next_tuple, SetItemFault, set_item_memory, no_set_column, no_equal, no_set_value, SetItemsFault, set_items_memory, in_first_set_item, in_next_set_item}
use Rattle.query_parser.specs.declared.fault.ParseFault.{ParseFault}
use Rattle.query_parser.specs.declared.fault.ParseFault.TheVariants as fault
use Rattle.query_parser.specs.declared.lexeme.Lexeme.TheVariants as lexeme
use Rattle.query_parser.proofs.SignLaws.{name_takes, no_name_takes}
use Rattle.query_parser.proofs.Walks.{Takes, Moves, chain, moved, Never, not_this, NoneOf, no_part, choose, pass, pass_to, Faulty, behind, stuck, missing}
use Rattle.query_parser.proofs.PartWalks.{but, moves_value, faulty_value}
use Rattle.query_parser.proofs.CondWalks.{skip, enter}

pub one_more : {X : Type 0} (xs : List X) (x : X) → length (xs ++ x ∷ []) ≡ length xs + 1
one_more [] x = refl
one_more (y ∷ xs) x = let rest = one_more xs x in omega (arith, rest)

module _ (text : List ℕ) (tokens : List Token) where
  -- names between brackets
  after_names : (s : Form) (at : ℕ) (s' : Form) (at' count count' : ℕ) → count ≡ count' → Moves text tokens s at (MoreNames count ∷ s') at' → Moves text tokens s at (MoreNames count' ∷ s') at'
  after_names s at s' at' count count' e m = subst (λ k. Moves text tokens s at (MoreNames k ∷ s') at') e m

  link_name : (count at : ℕ) (s : Form) → Takes text tokens 37 at → Moves text tokens (MoreNames count ∷ s) at (NAME ∷ MoreNames (count + 1) ∷ s) (at + 1)
  link_name count at s i =
      chain text tokens (choose text tokens 32 count [] (Sign lexeme.Comma ∷ NAME ∷ MoreNames (count + 1) ∷ []) ((Sign lexeme.Close ∷ Sign lexeme.Values ∷ TuplePart count ∷ MoreTuples count ∷ []) ∷ []) s at (λ limit h. refl) tt (but text tokens 37 34 (Sign lexeme.Values ∷ TuplePart count ∷ MoreTuples count ∷ s) at refl i, tt))
      (pass text tokens 37 (NAME ∷ MoreNames (count + 1) ∷ s) at i)

  pub reads_names : (at : ℕ) (columns : List (List ℕ)) (end : ℕ) (s : Form) → NamesTo text tokens at columns end → Moves text tokens (NAME ∷ MoreNames 1 ∷ s) at (MoreNames (length columns) ∷ s) end
  reads_names at columns end s (one_name name named) = pass text tokens 100 (MoreNames 1 ∷ s) at (name_takes text tokens at name named)
  reads_names at columns end s (another_name before place name b i named) =
      after_names (NAME ∷ MoreNames 1 ∷ s) at s (place + 2) (length before + 1) (length (before ++ name ∷ [])) (sym (one_more before name))
      (chain text tokens (reads_names at before place s b) (chain text tokens (link_name (length before) place s i) (pass_to text tokens 100 (MoreNames (length before + 1) ∷ s) (place + 1) (place + 2) (omega arith) (name_takes text tokens (place + 1) name named))))

  -- the bracket behind the names
  pub close_names : (count at : ℕ) (s : Form) → Takes text tokens 34 at → Moves text tokens (MoreNames count ∷ s) at (Sign lexeme.Values ∷ TuplePart count ∷ MoreTuples count ∷ s) (at + 1)
  close_names count at s i =
      chain text tokens (choose text tokens 32 count ((Sign lexeme.Comma ∷ NAME ∷ MoreNames (count + 1) ∷ []) ∷ []) (Sign lexeme.Close ∷ Sign lexeme.Values ∷ TuplePart count ∷ MoreTuples count ∷ []) [] s at (λ limit h. refl) (but text tokens 34 37 (NAME ∷ MoreNames (count + 1) ∷ s) at refl i, tt) tt)
      (pass text tokens 34 (Sign lexeme.Values ∷ TuplePart count ∷ MoreTuples count ∷ s) at i)

  pub fails_names : (at : ℕ) (why : ParseFault) (s : Form) → NamesFault text tokens at why → Faulty text tokens (NAME ∷ MoreNames 1 ∷ s) at why
  fails_names at why s names_memory = tt
  fails_names at why s (no_first_name none) = missing text tokens 100 (MoreNames 1 ∷ s) at (no_name_takes text tokens at none)
  fails_names at why s (no_next_name before place b i none) =
      behind text tokens why (chain text tokens (reads_names at before place s b) (link_name (length before) place s i)) (missing text tokens 100 (MoreNames (length before + 1) ∷ s) (place + 1) (no_name_takes text tokens (place + 1) none))
  fails_names at why s (names_unclosed before place b a c) =
      let count = length before in
      behind text tokens why (reads_names at before place s b)
      (stuck text tokens (MoreNames count ∷ s) place (no_part text tokens 32 count (λ limit. (Sign lexeme.Comma ∷ NAME ∷ MoreNames (count + 1) ∷ []) ∷ (Sign lexeme.Close ∷ Sign lexeme.Values ∷ TuplePart count ∷ MoreTuples count ∷ []) ∷ []) s place (λ limit. refl)
      (λ limit. (not_this text tokens 37 (NAME ∷ MoreNames (count + 1) ∷ s) place a, (not_this text tokens 34 (Sign lexeme.Values ∷ TuplePart count ∷ MoreTuples count ∷ s) place c, tt)))))

  -- values of a tuple: how many are still wanted, and one
  after_values : (s : Form) (at : ℕ) (s' : Form) (at' wanted wanted' : ℕ) → wanted ≡ wanted' → Moves text tokens s at (MoreValues wanted ∷ s') at' → Moves text tokens s at (MoreValues wanted' ∷ s') at'
  after_values s at s' at' wanted wanted' e m = subst (λ k. Moves text tokens s at (MoreValues k ∷ s') at') e m

  no_closing : (b : Bool) (at : ℕ) (s : Form) → Takes text tokens 37 at → NoneOf text tokens s at (closed_tuple b)
  no_closing true at s i = (but text tokens 37 34 s at refl i, tt)
  no_closing false at s i = tt

  link_value : (wanted at : ℕ) (s : Form) → Takes text tokens 37 at → Moves text tokens (MoreValues wanted ∷ s) at (ValuePart ∷ MoreValues (wanted - 1) ∷ s) (at + 1)
  link_value wanted at s i =
      chain text tokens (choose text tokens 34 wanted [] (Sign lexeme.Comma ∷ ValuePart ∷ MoreValues (wanted - 1) ∷ []) (closed_tuple (wanted == 1)) s at (λ limit h. refl) tt (no_closing (wanted == 1) at s i)) (pass text tokens 37 (ValuePart ∷ MoreValues (wanted - 1) ∷ s) at i)

  one_less : (count done more : ℕ) → more ≡ done + 1 → count + 1 - done - 1 ≡ count + 1 - more
  one_less count done more e = omega (arith, e)

  pub reads_values : (with_params : Bool) (count at : ℕ) (values : List Operand) (end : ℕ) (s : Form) → ValuesTo with_params text tokens at values end → Moves text tokens (ValuePart ∷ MoreValues count ∷ s) at (MoreValues (count + 1 - length values) ∷ s) end
  reads_values with_params count at values end s (one_value v is) =
      after_values (ValuePart ∷ MoreValues count ∷ s) at s (at + 1) count (count + 1 - 1) (omega arith) (moves_value text tokens with_params at v (MoreValues count ∷ s) is)
  reads_values with_params count at values end s (another_value before place v b i is) =
      let wanted = count + 1 - length before in
      after_values (ValuePart ∷ MoreValues count ∷ s) at s (place + 2) (wanted - 1) (count + 1 - length (before ++ v ∷ [])) (one_less count (length before) (length (before ++ v ∷ [])) (one_more before v))
      (chain text tokens (reads_values with_params count at before place s b) (chain text tokens (link_value wanted place s i) (moved text tokens (place + 2) (omega arith) (moves_value text tokens with_params (place + 1) v (MoreValues (wanted - 1) ∷ s) is))))

  open_tuple : (count at : ℕ) (s : Form) → Takes text tokens 33 at → Moves text tokens (TuplePart count ∷ s) at (ValuePart ∷ MoreValues count ∷ s) (at + 1)
  open_tuple count at s i = chain text tokens (choose text tokens 33 count [] (Sign lexeme.Open ∷ ValuePart ∷ MoreValues count ∷ []) [] s at (λ limit h. refl) tt tt) (pass text tokens 33 (ValuePart ∷ MoreValues count ∷ s) at i)

  close_tuple : (wanted at : ℕ) (s : Form) → wanted ≡ 1 → Takes text tokens 34 at → Moves text tokens (MoreValues wanted ∷ s) at s (at + 1)
  close_tuple wanted at s e i =
      chain text tokens (choose text tokens 34 wanted ((Sign lexeme.Comma ∷ ValuePart ∷ MoreValues (wanted - 1) ∷ []) ∷ []) (Sign lexeme.Close ∷ []) [] s at (λ limit h. rw (is_one wanted e) refl) (but text tokens 34 37 (ValuePart ∷ MoreValues (wanted - 1) ∷ s) at refl i, tt) tt) (pass text tokens 34 s at i)
    where
      is_one : (wanted : ℕ) → wanted ≡ 1 → (wanted == 1) ≡ true
      is_one wanted e = grind (arith, nat_tests, e)

  pub reads_tuple : (with_params : Bool) (count at : ℕ) (values : List Operand) (end : ℕ) (s : Form) → IsTuple with_params text tokens count at values end → Moves text tokens (TuplePart count ∷ s) at s end
  reads_tuple with_params count at values end s is =
      let done = is.complete in
      moved text tokens end (sym is.ends) (chain text tokens (open_tuple count at s is.opens) (chain text tokens (reads_values with_params count (at + 1) values is.close s is.listed) (close_tuple (count + 1 - length values) is.close s (omega (arith, done)) is.closes)))

  unclosed : (wanted at : ℕ) (s : Form) → stands text tokens at lexeme.Comma ≡ false → stands text tokens at lexeme.Close ≡ false → Faulty text tokens (MoreValues wanted ∷ s) at (fault.Syntax at)
  unclosed wanted at s a c =
      stuck text tokens (MoreValues wanted ∷ s) at (no_part text tokens 34 wanted (λ limit. (Sign lexeme.Comma ∷ ValuePart ∷ MoreValues (wanted - 1) ∷ []) ∷ closed_tuple (wanted == 1)) s at (λ limit. refl) (λ limit. (not_this text tokens 37 (ValuePart ∷ MoreValues (wanted - 1) ∷ s) at a, closing (wanted == 1))))
    where
      closing : (b : Bool) → NoneOf text tokens s at (closed_tuple b)
      closing true = (not_this text tokens 34 s at c, tt)
      closing false = tt

  -- a bracket where the tuple has another number of values
  closed_wrong : (wanted at : ℕ) (s : Form) → wanted ≢ 1 → Takes text tokens 34 at → Faulty text tokens (MoreValues wanted ∷ s) at (fault.Syntax at)
  closed_wrong wanted at s other i =
      stuck text tokens (MoreValues wanted ∷ s) at (no_part text tokens 34 wanted (λ limit. (Sign lexeme.Comma ∷ ValuePart ∷ MoreValues (wanted - 1) ∷ []) ∷ []) s at (λ limit. rw (isnt_one wanted other) refl) (λ limit. (but text tokens 34 37 (ValuePart ∷ MoreValues (wanted - 1) ∷ s) at refl i, tt)))
    where
      isnt_one : (wanted : ℕ) → wanted ≢ 1 → (wanted == 1) ≡ false
      isnt_one wanted other = grind (arith, nat_tests, other)

  pub fails_tuple : (with_params : Bool) (count at : ℕ) (why : ParseFault) (s : Form) → 0 < count → TupleFault with_params text tokens count at why → Faulty text tokens (TuplePart count ∷ s) at why
  fails_tuple with_params count at why s some tuple_memory = tt
  fails_tuple with_params count at why s some (no_tuple other) =
      behind text tokens why (choose text tokens 33 count [] (Sign lexeme.Open ∷ ValuePart ∷ MoreValues count ∷ []) [] s at (λ limit h. refl) tt tt) (missing text tokens 33 (ValuePart ∷ MoreValues count ∷ s) at other)
  fails_tuple with_params count at why s some (no_first_value w i is) = behind text tokens why (open_tuple count at s i) (faulty_value text tokens with_params (at + 1) why (MoreValues count ∷ s) is)
  fails_tuple with_params count at why s some (no_next_value before place w i b comma is) =
      let wanted = count + 1 - length before in
      behind text tokens why (chain text tokens (open_tuple count at s i) (chain text tokens (reads_values with_params count (at + 1) before place s b) (link_value wanted place s comma))) (faulty_value text tokens with_params (place + 1) why (MoreValues (wanted - 1) ∷ s) is)
  fails_tuple with_params count at why s some (tuple_unclosed before place i b a c) =
      behind text tokens why (chain text tokens (open_tuple count at s i) (reads_values with_params count (at + 1) before place s b)) (unclosed (count + 1 - length before) place s a c)
  fails_tuple with_params count at why s some (another_count before place i b close other) =
      behind text tokens why (chain text tokens (open_tuple count at s i) (reads_values with_params count (at + 1) before place s b)) (closed_wrong (count + 1 - length before) place s (λ e. other (omega (arith, e, some))) close)

  -- tuples
  link_tuple : (count at : ℕ) (s : Form) → Takes text tokens 37 at → Never text tokens 37 s → Moves text tokens (MoreTuples count ∷ s) at (TuplePart count ∷ MoreTuples count ∷ s) (at + 1)
  link_tuple count at s i free = enter text tokens 35 count 37 (TuplePart count ∷ MoreTuples count ∷ []) s at (λ limit. refl) i free

  pub reads_tuples : (with_params : Bool) (count at : ℕ) (rows : List (List Operand)) (end : ℕ) (s : Form) → TuplesTo with_params text tokens count at rows end → Never text tokens 37 s → Moves text tokens (TuplePart count ∷ MoreTuples count ∷ s) at (MoreTuples count ∷ s) end
  reads_tuples with_params count at rows end s (one_tuple values last is) free = reads_tuple with_params count at values end (MoreTuples count ∷ s) is
  reads_tuples with_params count at rows end s (another_tuple before place values last b i is) free =
      chain text tokens (reads_tuples with_params count at before place s b free) (chain text tokens (link_tuple count place s i free) (reads_tuple with_params count (place + 1) values end (MoreTuples count ∷ s) is))

  pub end_tuples : (count at : ℕ) (s : Form) → stands text tokens at lexeme.Comma ≡ false → Moves text tokens (MoreTuples count ∷ s) at s at
  end_tuples count at s other = skip text tokens 35 count 37 (TuplePart count ∷ MoreTuples count ∷ []) s at (λ limit. refl) other

  pub fails_tuples : (with_params : Bool) (count at : ℕ) (why : ParseFault) (s : Form) → 0 < count → TuplesFault with_params text tokens count at why → Never text tokens 37 s → Faulty text tokens (TuplePart count ∷ MoreTuples count ∷ s) at why
  fails_tuples with_params count at why s some tuples_memory free = tt
  fails_tuples with_params count at why s some (in_first_tuple w f) free = fails_tuple with_params count at why (MoreTuples count ∷ s) some f
  fails_tuples with_params count at why s some (in_next_tuple before place w b i f) free =
      behind text tokens why (chain text tokens (reads_tuples with_params count at before place s b free) (link_tuple count place s i free)) (fails_tuple with_params count (place + 1) why (MoreTuples count ∷ s) some f)

  -- the columns of an update
  open_set : (at : ℕ) (s : Form) → Moves text tokens (SetPart ∷ s) at (NAME ∷ Sign lexeme.Equal ∷ ValuePart ∷ s) at
  open_set at s = choose text tokens 36 0 [] (NAME ∷ Sign lexeme.Equal ∷ ValuePart ∷ []) [] s at (λ limit h. refl) tt tt

  to_equal : (at : ℕ) (column : List ℕ) (s : Form) → name_at text tokens at ≡ Some column → Moves text tokens (SetPart ∷ s) at (Sign lexeme.Equal ∷ ValuePart ∷ s) (at + 1)
  to_equal at column s named = chain text tokens (open_set at s) (pass text tokens 100 (Sign lexeme.Equal ∷ ValuePart ∷ s) at (name_takes text tokens at column named))

  to_set_value : (at : ℕ) (column : List ℕ) (s : Form) → name_at text tokens at ≡ Some column → Takes text tokens 41 (at + 1) → Moves text tokens (SetPart ∷ s) at (ValuePart ∷ s) (at + 2)
  to_set_value at column s named i = chain text tokens (to_equal at column s named) (pass_to text tokens 41 (ValuePart ∷ s) (at + 1) (at + 2) (omega arith) i)

  reads_set_item : (with_params : Bool) (at end : ℕ) (item : SetItem) (s : Form) → at + 3 ≡ end → IsSetItem with_params text tokens at item → Moves text tokens (SetPart ∷ s) at s end
  reads_set_item with_params at end item s e is = moved text tokens end (omega (arith, e)) (chain text tokens (to_set_value at item.column s is.named is.equals) (moves_value text tokens with_params (at + 2) item.value s is.valued))

  fails_set_item : (with_params : Bool) (at : ℕ) (why : ParseFault) (s : Form) → SetItemFault with_params text tokens at why → Faulty text tokens (SetPart ∷ s) at why
  fails_set_item with_params at why s set_item_memory = tt
  fails_set_item with_params at why s (no_set_column none) = behind text tokens why (open_set at s) (missing text tokens 100 (Sign lexeme.Equal ∷ ValuePart ∷ s) at (no_name_takes text tokens at none))
  fails_set_item with_params at why s (no_equal column named other) = behind text tokens why (to_equal at column s named) (missing text tokens 41 (ValuePart ∷ s) (at + 1) other)
  fails_set_item with_params at why s (no_set_value column w named i is) = behind text tokens why (to_set_value at column s named i) (faulty_value text tokens with_params (at + 2) why s is)

  link_set : (at : ℕ) (s : Form) → Takes text tokens 37 at → Never text tokens 37 s → Moves text tokens (MoreSets ∷ s) at (SetPart ∷ MoreSets ∷ s) (at + 1)
  link_set at s i free = enter text tokens 37 0 37 (SetPart ∷ MoreSets ∷ []) s at (λ limit. refl) i free

  pub reads_sets : (with_params : Bool) (at : ℕ) (items : List SetItem) (end : ℕ) (s : Form) → SetItemsTo with_params text tokens at items end → Never text tokens 37 s → Moves text tokens (SetPart ∷ MoreSets ∷ s) at (MoreSets ∷ s) end
  reads_sets with_params at items end s (one_set_item item is) free = reads_set_item with_params at (at + 3) item (MoreSets ∷ s) refl is
  reads_sets with_params at items end s (another_set_item before place item b i is) free =
      chain text tokens (reads_sets with_params at before place s b free) (chain text tokens (link_set place s i free) (reads_set_item with_params (place + 1) (place + 4) item (MoreSets ∷ s) (omega arith) is))

  pub end_sets : (at : ℕ) (s : Form) → stands text tokens at lexeme.Comma ≡ false → Moves text tokens (MoreSets ∷ s) at s at
  end_sets at s other = skip text tokens 37 0 37 (SetPart ∷ MoreSets ∷ []) s at (λ limit. refl) other

  pub fails_sets : (with_params : Bool) (at : ℕ) (why : ParseFault) (s : Form) → SetItemsFault with_params text tokens at why → Never text tokens 37 s → Faulty text tokens (SetPart ∷ MoreSets ∷ s) at why
  fails_sets with_params at why s set_items_memory free = tt
  fails_sets with_params at why s (in_first_set_item w f) free = fails_set_item with_params at why (MoreSets ∷ s) f
  fails_sets with_params at why s (in_next_set_item before place w b i f) free =
      behind text tokens why (chain text tokens (reads_sets with_params at before place s b free) (link_set place s i free)) (fails_set_item with_params (place + 1) why (MoreSets ∷ s) f)
