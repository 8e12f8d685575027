-- The rows of an answer as text.
use Rattle.std.specs.Prelude.{◌++◌, ◌==◌, ◌||◌, ℕ, Bool, List, [], ◌∷◌, map, flat_map, if◌then◌else◌}
use Rattle.std.specs.List.{AllByRecursion, list_any}
use Rattle.values.specs.Text.{IsPrintable}
use Rattle.values.specs.declared.value.Value.{Value}
use Rattle.values.specs.Value.{text_of}
use Rattle.session.specs.Line.{line}

-- a comma or a double quote
abbrev pub is_mark : ℕ → Bool
is_mark byte = (byte == 44) || (byte == 34)

-- each double quote twice
abbrev pub doubled : List ℕ → List ℕ
doubled [] = []
doubled (byte ∷ bytes) = if byte == 34 then 34 ∷ 34 ∷ doubled bytes else byte ∷ doubled bytes

abbrev pub quoted : List ℕ → List ℕ
quoted text = 34 ∷ (doubled text ++ 34 ∷ [])

-- a field is quoted where it holds a comma or a double quote
abbrev pub field_text : List ℕ → List ℕ
field_text text = if list_any is_mark text then quoted text else text

-- fields behind the first, each behind a comma
abbrev pub more_fields : List (List ℕ) → List ℕ
more_fields [] = []
more_fields (field ∷ fields) = 44 ∷ (field_text field ++ more_fields fields)

-- the fields of a row; an only field that is empty is quoted too
abbrev pub fields_text : List (List ℕ) → List ℕ
fields_text [] = quoted []
fields_text ([] ∷ []) = quoted []
fields_text (field ∷ fields) = field_text field ++ more_fields fields

-- a value whose text is of printable bytes
abbrev pub IsShown : Value → Type 0
IsShown value = AllByRecursion IsPrintable (text_of value)

-- a row, a line of fields with commas between them
abbrev pub row_text : List Value → List ℕ
row_text row = line (fields_text (map text_of row))

-- rows, a line each
abbrev pub row_lines : List (List Value) → List ℕ
row_lines rows = flat_map row_text rows
