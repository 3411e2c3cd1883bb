-- Rows are parted one after the other.
use Rattle.std.proofs.Common.{◌≡◌, ℕ, suc, ◌+◌, ◌<◌, ◌≤◌, ◌==◌, Bool, true, false, true≢false, if◌then◌else◌, List, [], ◌∷◌, ◌++◌, length, refl, sym, ◌∙◌, ap, subst, append_assoc, append-nil, arith}
use Rattle.std.proofs.lemmas.Bool.Decides.{nat_tests}
use Rattle.std.proofs.lemmas.List.{length-append}
use Rattle.row_versions.specs.Marks.{end_row, is_end, marks_without, rows_ended}
use Rattle.row_versions.specs.declared.ended.EndedRow.{EndedRow}
use Rattle.row_versions.specs.declared.mark.Mark.{Mark}
use Rattle.table_changes.specs.Changes.{rows_without}
use Rattle.version_changes.specs.Changes.{ends_behind}
use Rattle.vtable.specs.declared.table.VRow.{VRow}

-- the next row

pub none_without : (place : ℕ) (rows : List VRow) → rows_without place [] rows ≡ rows
none_without place [] = refl
none_without place (row ∷ rows) = refl

row_by : (place e : ℕ) (ends : List ℕ) (row : VRow) (rows : List VRow) (b : Bool)
    → (if b then [] else row ∷ []) ++ rows_without (place + 1) (if b then ends else e ∷ ends) rows ≡ (if b then rows_without (place + 1) ends rows else row ∷ rows_without (place + 1) (e ∷ ends) rows)
row_by place e ends row rows true = refl
row_by place e ends row rows false = refl

pub next_row : (place : ℕ) (ends : List ℕ) (row : VRow) (rows : List VRow)
    → (if is_end place ends then [] else row ∷ []) ++ rows_without (place + 1) (ends_behind place ends) rows ≡ rows_without place ends (row ∷ rows)
next_row place [] row rows = ap (λ xs. row ∷ xs) (none_without (place + 1) rows)
next_row place (e ∷ ends) row rows = row_by place e ends row rows (e == place)

mark_by : (mark : Mark) (marks : List Mark) (b : Bool) → (if b then [] else mark ∷ []) ++ marks ≡ (if b then marks else mark ∷ marks)
mark_by mark marks true = refl
mark_by mark marks false = refl

end_by : (e : EndedRow) (ended : List EndedRow) (b : Bool) → (if b then e ∷ [] else []) ++ ended ≡ (if b then e ∷ ended else ended)
end_by e ended true = refl
end_by e ended false = refl

-- places that are left

left_by : (e : ℕ) (ends : List ℕ) (one : EndedRow) (b : Bool) → length (if b then one ∷ [] else []) + length (if b then ends else e ∷ ends) ≡ suc (length ends)
left_by e ends one true = omega arith
left_by e ends one false = omega arith

pub left : (place : ℕ) (ends : List ℕ) (one : EndedRow) → length (if is_end place ends then one ∷ [] else []) + length (ends_behind place ends) ≡ length ends
left place [] one = refl
left place (e ∷ ends) one = left_by e ends one (e == place)

some_left : (ends : List ℕ) (place : ℕ) → is_end place ends ≡ true → 0 < length ends
some_left [] place h = absurd (true≢false (sym h))
some_left (e ∷ ends) place h = omega arith

few_by : {A : Type 0} (x : A) (b : Bool) → length (if b then [] else x ∷ []) ≤ 1
few_by x true = omega arith
few_by x false = omega arith

pub record IsParting (k table place count : ℕ) (ends : List ℕ) (rows : List VRow) (marks : List Mark) (kept : List VRow) (kept_marks : List Mark) (ended : List EndedRow)
    (all_rows : List VRow) (all_marks : List Mark) (all_ended : List EndedRow) (rows_room marks_room ended_room : ℕ) : Type 0 where
  pub rows_are : kept ++ rows_without place ends rows ≡ all_rows
  pub marks_are : kept_marks ++ marks_without place ends marks ≡ all_marks
  pub ended_are : ended ++ rows_ended k table place ends marks rows ≡ all_ended
  pub marked : length marks ≡ length rows
  pub rows_fit : length kept + length rows ≤ rows_room
  pub marks_fit : length kept_marks + length rows ≤ marks_room
  pub ended_fit : length ended + length ends ≤ ended_room
  pub counted : place + length rows ≤ count

pub parted_one : (k table place count : ℕ) (ends : List ℕ) (row : VRow) (rows : List VRow) (mark : Mark) (marks : List Mark) (kept kept_new : List VRow) (kept_marks marks_new : List Mark) (ended ended_new : List EndedRow)
    (all_rows : List VRow) (all_marks : List Mark) (all_ended : List EndedRow) (rows_room marks_room ended_room : ℕ)
    → IsParting k table place count ends (row ∷ rows) (mark ∷ marks) kept kept_marks ended all_rows all_marks all_ended rows_room marks_room ended_room
    → kept_new ≡ kept ++ (if is_end place ends then [] else row ∷ [])
    → marks_new ≡ kept_marks ++ (if is_end place ends then [] else mark ∷ [])
    → ended_new ≡ ended ++ (if is_end place ends then end_row k table mark row ∷ [] else [])
    → IsParting k table (place + 1) count (ends_behind place ends) rows marks kept_new marks_new ended_new all_rows all_marks all_ended rows_room marks_room ended_room
parted_one k table place count ends row rows mark marks kept kept_new kept_marks marks_new ended ended_new all_rows all_marks all_ended rows_room marks_room ended_room h kept_is marks_is ended_is =
    let b : Bool = is_end place ends in
    let row_here : List VRow = if b then [] else row ∷ [] in
    let mark_here : List Mark = if b then [] else mark ∷ [] in
    let end_here : List EndedRow = if b then end_row k table mark row ∷ [] else [] in
    let many : length kept_new ≡ length kept + length row_here = ap length kept_is ∙ length-append kept row_here in
    let many_marks : length marks_new ≡ length kept_marks + length mark_here = ap length marks_is ∙ length-append kept_marks mark_here in
    let many_ended : length ended_new ≡ length ended + length end_here = ap length ended_is ∙ length-append ended end_here in
    let few = few_by row b in let few_marks = few_by mark b in
    let places = left place ends (end_row k table mark row) in
    let fit = h.rows_fit in let marks_fit = h.marks_fit in let ended_fit = h.ended_fit in let counted = h.counted in let marked = h.marked in
    record {
      rows_are = ap (λ xs. xs ++ rows_without (place + 1) (ends_behind place ends) rows) kept_is ∙ append_assoc kept row_here (rows_without (place + 1) (ends_behind place ends) rows) ∙ ap (λ xs. kept ++ xs) (next_row place ends row rows) ∙ h.rows_are;
      marks_are = ap (λ xs. xs ++ marks_without (place + 1) (ends_behind place ends) marks) marks_is ∙ append_assoc kept_marks mark_here (marks_without (place + 1) (ends_behind place ends) marks)
          ∙ ap (λ xs. kept_marks ++ xs) (mark_by mark (marks_without (place + 1) (ends_behind place ends) marks) b) ∙ h.marks_are;
      ended_are = ap (λ xs. xs ++ rows_ended k table (place + 1) (ends_behind place ends) marks rows) ended_is ∙ append_assoc ended end_here (rows_ended k table (place + 1) (ends_behind place ends) marks rows)
          ∙ ap (λ xs. ended ++ xs) (end_by (end_row k table mark row) (rows_ended k table (place + 1) (ends_behind place ends) marks rows) b) ∙ h.ended_are;
      marked = omega (arith, marked);
      rows_fit = omega (arith, many, few, fit);
      marks_fit = omega (arith, many_marks, few_marks, marks_fit);
      ended_fit = omega (arith, many_ended, places, ended_fit);
      counted = omega (arith, counted);
    }

pub parted_next : (k table place count : ℕ) (ends left : List ℕ) (old_rows : List VRow) (row : VRow) (rows : List VRow) (old_marks : List Mark) (mark : Mark) (marks : List Mark) (kept kept_new : List VRow)
    (kept_marks marks_new : List Mark) (ended ended_new : List EndedRow) (all_rows : List VRow) (all_marks : List Mark) (all_ended : List EndedRow) (rows_room marks_room ended_room : ℕ) (here : Bool)
    → IsParting k table place count ends old_rows old_marks kept kept_marks ended all_rows all_marks all_ended rows_room marks_room ended_room
    → old_rows ≡ row ∷ rows → old_marks ≡ mark ∷ marks → here ≡ is_end place ends → left ≡ ends_behind place ends
    → kept_new ≡ kept ++ (if here then [] else row ∷ [])
    → marks_new ≡ kept_marks ++ (if here then [] else mark ∷ [])
    → ended_new ≡ ended ++ (if here then end_row k table mark row ∷ [] else [])
    → IsParting k table (place + 1) count left rows marks kept_new marks_new ended_new all_rows all_marks all_ended rows_room marks_room ended_room
parted_next k table place count ends left old_rows row rows old_marks mark marks kept kept_new kept_marks marks_new ended ended_new all_rows all_marks all_ended rows_room marks_room ended_room here h rows_is marks_is here_is left_is kept_new_is marks_new_is ended_new_is =
    subst (λ left. IsParting k table (place + 1) count left rows marks kept_new marks_new ended_new all_rows all_marks all_ended rows_room marks_room ended_room) (sym left_is)
    (parted_one k table place count ends row rows mark marks kept kept_new kept_marks marks_new ended ended_new all_rows all_marks all_ended rows_room marks_room ended_room
    (subst (λ ms. IsParting k table place count ends (row ∷ rows) ms kept kept_marks ended all_rows all_marks all_ended rows_room marks_room ended_room) marks_is
    (subst (λ rs. IsParting k table place count ends rs old_marks kept kept_marks ended all_rows all_marks all_ended rows_room marks_room ended_room) rows_is h))
    (kept_new_is ∙ ap (λ b. kept ++ (if b then [] else row ∷ [])) here_is)
    (marks_new_is ∙ ap (λ b. kept_marks ++ (if b then [] else mark ∷ [])) here_is)
    (ended_new_is ∙ ap (λ b. ended ++ (if b then end_row k table mark row ∷ [] else [])) here_is))

-- Where none ends, all stay.

none_empty : (ends : List ℕ) → (length ends == 0) ≡ true → ends ≡ []
none_empty [] h = refl
none_empty (e ∷ ends) h = absurd (true≢false (sym h ∙ more (length ends))) where
  more : (n : ℕ) → (suc n == 0) ≡ false
  more n = grind (arith, nat_tests)

marks_all : (place : ℕ) (marks : List Mark) → marks_without place [] marks ≡ marks
marks_all place [] = refl
marks_all place (mark ∷ marks) = ap (λ xs. mark ∷ xs) (marks_all (place + 1) marks)

ended_none : (k table place : ℕ) (marks : List Mark) (rows : List VRow) → rows_ended k table place [] marks rows ≡ []
ended_none k table place [] rows = refl
ended_none k table place (mark ∷ marks) [] = refl
ended_none k table place (mark ∷ marks) (row ∷ rows) = ended_none k table (place + 1) marks rows

pub rows_stay : (ends : List ℕ) (rows : List VRow) → (length ends == 0) ≡ true → rows ≡ rows_without 0 ends rows
rows_stay ends rows h = sym (ap (λ es. rows_without 0 es rows) (none_empty ends h) ∙ none_without 0 rows)

pub marks_stay : (ends : List ℕ) (marks : List Mark) → (length ends == 0) ≡ true → marks ≡ marks_without 0 ends marks
marks_stay ends marks h = sym (ap (λ es. marks_without 0 es marks) (none_empty ends h) ∙ marks_all 0 marks)

pub ended_stay : (k table : ℕ) (ends : List ℕ) (marks : List Mark) (rows : List VRow) (ended : List EndedRow) → (length ends == 0) ≡ true → ended ≡ ended ++ rows_ended k table 0 ends marks rows
ended_stay k table ends marks rows ended h = sym (ap (λ es. ended ++ rows_ended k table 0 es marks rows) (none_empty ends h) ∙ ap (λ xs. ended ++ xs) (ended_none k table 0 marks rows) ∙ append-nil ended)

-- as many marks as rows stay, and no more than there were

same_by : (one : List Mark) (other : List VRow) (mark : Mark) (row : VRow) (b : Bool) → length one ≡ length other → length (if b then one else mark ∷ one) ≡ length (if b then other else row ∷ other)
same_by one other mark row true h = h
same_by one other mark row false h = omega (arith, h)

again_by : (other : List VRow) (row : VRow) (b : Bool) → (if b then other else row ∷ other) ≡ (if b then [] else row ∷ []) ++ other
again_by other row true = refl
again_by other row false = refl

pub still_marked : (place : ℕ) (ends : List ℕ) (marks : List Mark) (rows : List VRow) → length marks ≡ length rows → length (marks_without place ends marks) ≡ length (rows_without place ends rows)
still_marked place ends [] [] h = refl
still_marked place ends [] (row ∷ rows) h = let never : ⊥ = omega (arith, h) in absurd never
still_marked place ends (mark ∷ marks) [] h = let never : ⊥ = omega (arith, h) in absurd never
still_marked place ends (mark ∷ marks) (row ∷ rows) h =
    same_by (marks_without (place + 1) (ends_behind place ends) marks) (rows_without (place + 1) (ends_behind place ends) rows) mark row (is_end place ends) (still_marked (place + 1) (ends_behind place ends) marks rows (omega (arith, h)))
    ∙ ap length (again_by (rows_without (place + 1) (ends_behind place ends) rows) row (is_end place ends) ∙ next_row place ends row rows)

pub fewer : (place : ℕ) (ends : List ℕ) (rows : List VRow) → length (rows_without place ends rows) ≤ length rows
fewer place ends [] = omega arith
fewer place ends (row ∷ rows) =
    let is = ap length (sym (next_row place ends row rows)) ∙ length-append (if is_end place ends then [] else row ∷ []) (rows_without (place + 1) (ends_behind place ends) rows) in
    let one = few_by row (is_end place ends) in
    let rest = fewer (place + 1) (ends_behind place ends) rows in
    omega (arith, is, one, rest)
