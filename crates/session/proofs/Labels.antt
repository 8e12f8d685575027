-- A label may be a text.
use Rattle.std.proofs.Common.{◌≡◌, ◌&&◌, refl, ℕ, Bool, true, false, List, [], ◌∷◌, length, arith}
use Rattle.std.specs.Prelude.{IsTrue, nat_le}
use Rattle.std.specs.List.{AllByRecursion, list_all}
use Rattle.std.proofs.lemmas.Bool.Decides.{nat_tests}
use Rattle.values.specs.Text.{IsPrintable, IsText}
use Rattle.history.specs.Label.{is_label, is_printable}

both : (a b : Bool) → (a && b) ≡ true → (a ≡ true) × (b ≡ true)
both true b e = (refl, e)
both false b e = cc

printable : (byte : ℕ) → is_printable byte ≡ true → IsPrintable byte
printable byte e = let p = both (nat_le 32 byte) (nat_le byte 126) e in (grind (arith, nat_tests, p.0), grind (arith, nat_tests, p.1))

all_printable : (bytes : List ℕ) → list_all is_printable bytes ≡ true → AllByRecursion IsPrintable bytes
all_printable [] e = tt
all_printable (byte ∷ bytes) e = let p = both (is_printable byte) (list_all is_printable bytes) e in (printable byte p.0, all_printable bytes p.1)

-- every label is a text
pub label_is_text : (bytes : List ℕ) → IsTrue (is_label bytes) → IsText bytes
label_is_text bytes e = let p = both (nat_le (length bytes) 64) (list_all is_printable bytes) e in (grind (arith, nat_tests, p.0), all_printable bytes p.1)
