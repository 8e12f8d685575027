-- Encodings that stand first in bytes.
use Rattle.std.proofs.Common.{ℤ, ◌≡◌, ◌<◌, ◌≤◌, ◌^◌, ◌+◌, ◌-◌, ◌++◌, ◌∙◌, ℕ, zero, suc, List, [], ◌∷◌, length, get_or, take, drop, Option, Some, None, Ok, Err, inl, inr, refl, sym, ap, arith, append_assoc, sum_by}
use Rattle.std.specs.Int.{w64, cast_unsigned, cast_signed}
use Rattle.std.specs.Int.RustNames.{FitsSigned}
use Rattle.std.specs.List.{flat_map, AllByRecursion}
use Rattle.std.proofs.lemmas.Int.{ints, to_z-of_z, of_z-to_z}
use Rattle.std.proofs.lemmas.List.{take_at, drop_at, drop-drop, drop_all, drop_more, take-append-drop, take-take, get_or_at, get_or-drop, get_or-take, get_or_past, length-append, length-drop, length-take-le, append-nil}
use Rattle.std.proofs.lemmas.Nat.{be_bytes_8}
use Rattle.std.proofs.lemmas.Bool.{cases_lt, le-leb, lt-leb}
use Rattle.std.proofs.lemmas.List.Concat.{flat_map-cons, flat_map-append, length-flat_map}
use Rattle.std.proofs.lemmas.List.Sums.{sum_by-cons}
use Rattle.values.specs.Row.{value_bytes, row_bytes}
use Rattle.retro_base.specs.Fields.{field_bytes, number_at}
use Rattle.retro_base.specs.declared.refusal.Refusal.TheVariants.{RowTooLong}
use Rattle.retro_base.proofs.FieldLaws.{length-field_bytes, number_at-field, number_at-fits, number_at-same}
use Rattle.values.specs.declared.value.Value.{Value}
use Rattle.values.specs.declared.value.Value.TheVariants.{Int, Text}
use Rattle.row_codec.specs.RowCode.{value_code, row_code, encoded, IsValue, IsRow, IsEncoded, IsDecoded, IsFirstValue, AreFirstValues, OneRow, RowSize}

-- lists that begin with parts of one length have the same parts
pub same_parts : {A : Type 0} (a b x y : List A) → length a ≡ length b → a ++ x ≡ b ++ y → (a ≡ b) × (x ≡ y)
same_parts [] [] x y long e = (refl, e)
same_parts [] (b ∷ bs) x y long e = absurd cc
same_parts (a ∷ cs) [] x y long e = absurd cc
same_parts (a ∷ cs) (b ∷ bs) x y long e =
    let rest = same_parts cs bs x y (omega arith) cc in
    (cc (rest.0), rest.1)

-- a field tells its number
pub same_field : (m n : ℕ) (x y : List ℕ) → m < 2 ^ 64 → n < 2 ^ 64 → field_bytes 8 m ++ x ≡ field_bytes 8 n ++ y → (m ≡ n) × (x ≡ y)
same_field m n x y small less e =
    let parts = same_parts (field_bytes 8 m) (field_bytes 8 n) x y (length-field_bytes 8 m ∙ sym (length-field_bytes 8 n)) e in
    (sym (number_at-field 8 m 0 [] x refl small) ∙ ap (λ (bytes : List ℕ). number_at 8 bytes 0) e ∙ number_at-field 8 n 0 [] y refl less, parts.1)

-- a value that stands first in bytes is the only one
pub same_value : (v w : Value) (x y : List ℕ) → IsValue v → IsValue w → value_code v ++ x ≡ value_code w ++ y → (v ≡ w) × (x ≡ y)
same_value (Int m) (Int n) x y fits also e =
    let fields : field_bytes 8 (cast_unsigned w64 m) ++ x ≡ field_bytes 8 (cast_unsigned w64 n) ++ y = cc in
    let same = same_field (cast_unsigned w64 m) (cast_unsigned w64 n) x y (omega (arith, ints)) (omega (arith, ints)) fields in
    (ap Int (sym (to_z-of_z w64 m fits) ∙ ap (cast_signed w64) same.0 ∙ to_z-of_z w64 n also), same.1)
same_value (Int m) (Text t) x y fits also e = absurd cc
same_value (Text s) (Int n) x y fits also e = absurd cc
same_value (Text s) (Text t) x y fits also e =
    let long : length s ≡ length t = cc in
    let rest : s ++ x ≡ t ++ y = cc in
    let same = same_parts s t x y long rest in
    (ap Text same.0, same.1)

-- values that stand first in bytes begin any longer list of values that stand first
pub same_front : (vs ws : List Value) (x y : List ℕ) → length vs ≤ length ws → AllByRecursion IsValue vs → AllByRecursion IsValue ws → flat_map value_code vs ++ x ≡ flat_map value_code ws ++ y → (more : List Value) × (ws ≡ vs ++ more) × AllByRecursion IsValue more × (x ≡ flat_map value_code more ++ y)
same_front [] ws x y short fits also e = (ws, refl, also, e)
same_front (v ∷ vs) [] x y short fits also e = absurd (omega arith)
same_front (v ∷ vs) (w ∷ ws) x y short fits also e =
    let split : value_code v ++ (flat_map value_code vs ++ x) ≡ value_code w ++ (flat_map value_code ws ++ y) =
    sym (ap (λ (bytes : List ℕ). bytes ++ x) (flat_map-cons value_code v vs) ∙ append_assoc (value_code v) (flat_map value_code vs) x) ∙ e ∙ (ap (λ (bytes : List ℕ). bytes ++ y) (flat_map-cons value_code w ws) ∙ append_assoc (value_code w) (flat_map value_code ws) y) in
    let one = same_value v w _ _ fits.0 also.0 split in
    let more = same_front vs ws x y (omega arith) fits.1 also.1 one.1 in
    (more.0, cc (one.0, more.1), more.2, more.3)

-- rows of one length that spell the same bytes are one
pub same_rows : (r s : List Value) → length r ≡ length s → AllByRecursion IsValue r → AllByRecursion IsValue s → flat_map value_code r ≡ flat_map value_code s → r ≡ s
same_rows [] [] long fits also e = refl
same_rows [] (w ∷ ws) long fits also e = absurd cc
same_rows (v ∷ vs) [] long fits also e = absurd cc
same_rows (v ∷ vs) (w ∷ ws) long fits also e =
    let split : value_code v ++ flat_map value_code vs ≡ value_code w ++ flat_map value_code ws = sym (flat_map-cons value_code v vs) ∙ e ∙ flat_map-cons value_code w ws in
    let one = same_value v w _ _ fits.0 also.0 split in
    cc (one.0, same_rows vs ws (omega arith) fits.1 also.1 one.1)

value_size : (value : Value) → length (value_code value) ≡ value_bytes value
value_size (Int n) = omega (arith, length-field_bytes 8 (cast_unsigned w64 n))
value_size (Text t) = omega arith

values_size : (row : List Value) → sum_by (λ (value : Value). length (value_code value)) row ≡ sum_by value_bytes row
values_size [] = refl
values_size (value ∷ row) = omega (arith, sum_by-cons (λ (value : Value). length (value_code value)) value row, sum_by-cons value_bytes value row, value_size value, values_size row)

-- the encoding of a row is as long as the row counts
pub row_size : RowSize
row_size number row =
    omega (arith, length-append (field_bytes 8 number) (length row ∷ flat_map value_code row), length-field_bytes 8 number, length-flat_map value_code row, values_size row)

-- bytes that are not too long are the encoding
pub encoded_whole : (number : ℕ) (row : List Value) (bytes : List ℕ) → bytes ≡ row_code number row → length bytes ≤ 900 → encoded number row ≡ Ok bytes
encoded_whole number row bytes is short = rw (le-leb (row_bytes row) 900 (omega (arith, row_size number row, ap length is))) (ap Ok (sym is))

-- of bytes that are too long their number is told
pub encoded_long : (number : ℕ) (row : List Value) (bytes : List ℕ) → bytes ≡ row_code number row → 900 < length bytes → encoded number row ≡ Err (RowTooLong (length bytes))
encoded_long number row bytes is long =
    rw (lt-leb (row_bytes row) 900 (omega (arith, row_size number row, ap length is))) (ap (λ (n : ℕ). Err (RowTooLong n)) (sym (row_size number row) ∙ ap length (sym is)))

-- bytes are the encoding of one row alone
pub one_row : OneRow
one_row bytes m n r s p q =
    let e : field_bytes 8 m ++ (length r ∷ flat_map value_code r) ≡ field_bytes 8 n ++ (length s ∷ flat_map value_code s) = sym p.code ∙ q.code in
    let numbers = same_field m n _ _ p.fits q.fits e in
    let long : length r ≡ length s = cc (numbers.1) in
    let rest : flat_map value_code r ≡ flat_map value_code s = cc (numbers.1) in
    (numbers.0, same_rows r s long p.lawful.values q.lawful.values rest)

-- eight bytes are the field of their number
pub field_of : (bytes : List ℕ) (place : ℕ) → ((i : ℕ) → get_or bytes i 0 < 256) → place + 8 ≤ length bytes → field_bytes 8 (number_at 8 bytes place) ≡ take 8 (drop place bytes)
unfolding field_bytes number_at
field_of bytes place small room =
    let part = take 8 (drop place bytes) in
    let long : length part ≡ 8 = length-take-le 8 (drop place bytes) (omega (arith, length-drop place bytes)) in
    let fits : (i : ℕ) → get_or part i 0 < 256 = λ i.
    elim (cases_lt i 8) [
      | inl lt ↦ rw (get_or-take 8 (drop place bytes) i 0 lt, get_or-drop place bytes i 0) (small (place + i))
      | inr le ↦ rw (get_or_past part i 0 (omega arith)) (omega arith)
    ] in
    be_bytes_8 part _ long fits (number_at-same 8 bytes part place 0 (sym (take-take 8 8 (drop place bytes) (omega arith))) ∙ omega arith)

-- bytes behind the first
pub behind_first : (bytes : List ℕ) (b : ℕ) → 0 < length bytes → get_or bytes 0 0 ≡ b → bytes ≡ b ∷ drop 1 bytes
behind_first [] b some is = absurd (omega arith)
behind_first (a ∷ bytes) b some is = ap (λ (x : ℕ). x ∷ bytes) is

-- no integer stands in fewer than nine bytes
pub no_int : (bytes : List ℕ) → get_or bytes 0 0 ≡ 1 → length bytes < 9 → IsFirstValue bytes None
no_int bytes first short (Int n) rest is e =
    absurd (omega (arith, ap length e, length-append (field_bytes 8 (cast_unsigned w64 n)) rest, length-field_bytes 8 (cast_unsigned w64 n)))
no_int bytes first short (Text t) rest is e = absurd (omega (arith, ap (λ (b : List ℕ). get_or b 0 0) e))

-- an integer stands in nine bytes that begin with 1
pub an_int : (bytes : List ℕ) (z : ℤ) → ((i : ℕ) → get_or bytes i 0 < 256) → get_or bytes 0 0 ≡ 1 → 9 ≤ length bytes → FitsSigned w64 z → z ≡ cast_signed w64 (number_at 8 bytes 1) → IsFirstValue bytes (Some (Int z, 9))
an_int bytes z small first long fits is =
    let field : field_bytes 8 (cast_unsigned w64 z) ≡ take 8 (drop 1 bytes) = ap (λ (n : ℕ). field_bytes 8 n) (ap (cast_unsigned w64) is ∙ of_z-to_z w64 (number_at 8 bytes 1) (number_at-fits 8 bytes 1 (λ i. rw get_or-drop (small (1 + i))))) ∙ field_of bytes 1 small long in
    (fits, long, behind_first bytes 1 (omega arith) first ∙ ap (λ (b : List ℕ). 1 ∷ b) (sym (take-append-drop 8 (drop 1 bytes)) ∙ (rw (field, drop-drop 8 1 bytes) refl)))

-- the parts of a row's encoding
pub row_parts : (bytes : List ℕ) (number : ℕ) (row : List Value) → IsEncoded bytes number row → (9 ≤ length bytes) × (get_or bytes 8 0 ≡ length row) × (drop 9 bytes ≡ flat_map value_code row)
row_parts bytes number row is =
    let field = field_bytes 8 number in
    let eight = length-field_bytes 8 number in
    let rest : List ℕ = flat_map value_code row in
    let shown : field ++ (length row ∷ rest) ≡ (field ++ (length row ∷ [])) ++ rest = sym (append_assoc field (length row ∷ []) rest) in
    (omega (arith, ap length is.code, length-append field (length row ∷ rest)), rw is.code (get_or_at field (length row) rest 0 8 eight), rw is.code (rw shown (drop_at (field ++ (length row ∷ [])) rest 9 (omega (arith, length-append field (length row ∷ []))))))

-- bytes of these parts are a row's encoding
pub row_of_parts : (bytes : List ℕ) (row : List Value) → ((i : ℕ) → get_or bytes i 0 < 256) → 9 ≤ length bytes → length bytes ≤ 900 → IsRow row → get_or bytes 8 0 ≡ length row → drop 9 bytes ≡ flat_map value_code row → IsEncoded bytes (number_at 8 bytes 0) row
row_of_parts bytes row small long short lawful count values = record {
  fits = number_at-fits 8 bytes 0 small;
  lawful = lawful;
  code = sym (take-append-drop 8 bytes) ∙ (rw (field_of bytes 0 small (omega arith)) (ap (λ (b : List ℕ). take 8 bytes ++ b) (drop_more bytes 8 0 (omega arith) ∙ (rw (count, values) refl))));
  short = short;
}

-- where no value stands behind the values read so far, no more values stand there
pub no_more : (bytes rest : List ℕ) (count end : ℕ) (read row : List Value) → length read < count → AllByRecursion IsValue read → bytes ≡ flat_map value_code read ++ drop end bytes → IsFirstValue (drop end bytes) None → length row ≡ count → AllByRecursion IsValue row → bytes ≡ flat_map value_code row ++ rest → ⊥
no_more bytes rest count end read row short fits so_far none long also e =
    let front = same_front read row (drop end bytes) rest (omega arith) fits also (sym so_far ∙ e) in
    stuck front.0 (omega (arith, ap length front.1, length-append read front.0)) front.2 front.3
  where
    stuck : (more : List Value) → 0 < length more → AllByRecursion IsValue more → drop end bytes ≡ flat_map value_code more ++ rest → ⊥
    stuck [] some lawful is = omega arith
    stuck (v ∷ vs) some lawful is =
        none v (flat_map value_code vs ++ rest) lawful.0 (is ∙ ap (λ (b : List ℕ). b ++ rest) (flat_map-cons value_code v vs) ∙ append_assoc (value_code v) (flat_map value_code vs) rest)

-- bytes behind which the values are not those of a row are no encoding
pub not_values : (bytes : List ℕ) (number : ℕ) (row : List Value) → AreFirstValues (drop 9 bytes) (get_or bytes 8 0) None → IsEncoded bytes number row → ⊥
not_values bytes number row none is =
    let parts = row_parts bytes number row is in
    none row [] (sym parts.1) is.lawful.values (parts.2 ∙ sym (append-nil (flat_map value_code row)))

-- the values of a row's encoding reach to its end
pub whole_values : (bytes : List ℕ) (number end : ℕ) (row read : List Value) → AreFirstValues (drop 9 bytes) (get_or bytes 8 0) (Some (read, end)) → IsEncoded bytes number row → length bytes - 9 ≤ end
whole_values bytes number end row read are is =
    let parts = row_parts bytes number row is in
    let front = same_front read row (drop end (drop 9 bytes)) [] (omega (arith, parts.1, are.0)) are.1 is.lawful.values (sym are.3 ∙ parts.2 ∙ sym (append-nil (flat_map value_code row))) in
    let none : length front.0 ≡ 0 = omega (arith, ap length front.1, length-append read front.0, parts.1, are.0) in
    let over : length (drop end (drop 9 bytes)) ≡ 0 = ap length front.3 ∙ nothing front.0 none in
    omega (arith, length-drop end (drop 9 bytes), length-drop 9 bytes)
  where
    nothing : (more : List Value) → length more ≡ 0 → length (flat_map value_code more ++ []) ≡ 0
    nothing [] none = refl
    nothing (v ∷ vs) none = absurd cc

-- values that reach to the end are a row
pub row_read : (bytes : List ℕ) (end : ℕ) (row : List Value) → ((i : ℕ) → get_or bytes i 0 < 256) → 9 ≤ length bytes → length bytes ≤ 900 → 0 < get_or bytes 8 0 → get_or bytes 8 0 ≤ 16 → AreFirstValues (drop 9 bytes) (get_or bytes 8 0) (Some (row, end)) → length bytes - 9 ≤ end → IsEncoded bytes (number_at 8 bytes 0) row
row_read bytes end row small long short some few are reached =
    let none : drop end (drop 9 bytes) ≡ [] = drop_all end (drop 9 bytes) (omega (arith, length-drop 9 bytes)) in
    row_of_parts bytes row small long short (record { some = omega (arith, are.0); few = omega (arith, are.0); values = are.1 }) (sym are.0)
    (are.3 ∙ ap (λ (b : List ℕ). flat_map value_code row ++ b) none ∙ append-nil (flat_map value_code row))
