-- A file that isn't among those that were looked at.
use Rattle.std.proofs.Common.{◌≡◌, ◌∙◌, ℕ, ◌+◌, ◌<◌, Bool, false, List, [], ◌∷◌, ◌++◌, length, take, get_or, refl, sym, ap}
use Rattle.std.specs.Str.{bytes_eq}
use Rattle.std.proofs.lemmas.List.{take_more}
use Rattle.std.proofs.lemmas.List.Folds.{list_any-append}
use Rattle.tool_tests.specs.MemFiles.{is_there}
use Rattle.tool_tests.specs.declared.mem_files.MemFile.{MemFile}

pub not_there_more : (files : List MemFile) (i : ℕ) (file : MemFile) (name : List ℕ) → i < length files → file ≡ get_or files i file → is_there (take i files) name ≡ false → bytes_eq file.name name ≡ false → is_there (take (i + 1) files) name ≡ false
not_there_more files i file name below is so_far isnt =
    ap (λ fs. is_there fs name) (take_more files i file below)
    ∙ ap (λ f. is_there (take i files ++ f ∷ []) name) (sym is)
    ∙ list_any-append (λ (f : MemFile). bytes_eq f.name name) (take i files) (file ∷ [])
    ∙ rw (so_far, isnt) refl
