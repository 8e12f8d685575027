-- What is printed of a line tells it, and the name tells whose it is.
use Rattle.std.proofs.Common.{◌≡◌, ◌+◌, ◌*◌, ◌++◌, ◌<◌, ◌^◌, ℕ, true, false, List, get_or, refl, ap, sym, arith}
use Rattle.std.specs.Prelude.{codes, nat_lt}
use Rattle.std.specs.List.{list_all}
use Rattle.std.specs.Fmt.{decimal}
use Rattle.std.proofs.Math.ListN.{drop}
use Rattle.std.proofs.lemmas.Fmt.{decimal_injective}
use Rattle.retro_base.specs.Device.{device_name}
use Rattle.retro_base.specs.declared.device.Device.{Device}
use Rattle.retro_base.specs.declared.device.Device.TheVariants as device
use Rattle.session.specs.Texts.{value_text}
use Rattle.transcript_laws.specs.Shown.{Shown, Done, RolledBack, Looked, LookedAll, Unlooked, DroppedBelow, RefusedBy, Faulted}
use Rattle.transcript_laws.proofs.Reading.{Above, above_append, above_by, above_less, cut_same, decimal_above, no_letter}
use Rattle.transcript_laws.proofs.Text.{said_text}

-- the number that is printed of it has 64 bits
abbrev pub IsSmall : Shown → Type 0
IsSmall (Looked snapshot) = snapshot < 2 ^ 64
IsSmall (DroppedBelow below) = below < 2 ^ 64
IsSmall (RefusedBy number) = number < 2 ^ 64
IsSmall (Faulted device count) = count < 2 ^ 64
IsSmall said = Unit {0}

-- ---- no line end within

number_above : (word : List ℕ) (n : ℕ) → list_all (nat_lt 10) word ≡ true → Above 10 (word ++ decimal n)
number_above word n is =
    above_append 10 word (decimal n) (above_by 10 word is) (above_less 10 32 (decimal n) (omega arith) (decimal_above n))

device_above : (d : Device) → Above 32 (device_name d)
device_above device.Log = above_by 32 (codes "log") refl
device_above device.Pages = above_by 32 (codes "pages") refl
device_above device.Pagelog = above_by 32 (codes "pagelog") refl
device_above device.Maplog = above_by 32 (codes "maplog") refl
device_above device.Cabinet = above_by 32 (codes "cabinet") refl

pub said_above : (newest : ℕ) (said : Shown) → Above 10 (said_text newest said)
said_above newest (Done false) = above_by 10 (codes "done") refl
said_above newest (Done true) = number_above (codes "done as ") (newest + 1) refl
said_above newest RolledBack = above_by 10 (codes "rolled back") refl
said_above newest (Looked snapshot) = number_above (codes "looked ") snapshot refl
said_above newest LookedAll = above_by 10 (codes "looked all") refl
said_above newest Unlooked = above_by 10 (codes "unlooked") refl
said_above newest (DroppedBelow below) = number_above (codes "dropped below ") below refl
said_above newest (RefusedBy number) = number_above (codes "refused ") number refl
said_above newest (Faulted d count) =
    above_append 10 (codes "fault ") (device_name d ++ value_text count) (above_by 10 (codes "fault ") refl)
    (above_append 10 (device_name d) (value_text count) (above_less 10 32 (device_name d) (omega arith) (device_above d))
    (number_above (codes " ") count refl))

-- ---- what is said

-- bytes by which words differ: three of them
abbrev tag : List ℕ → ℕ
tag text = (get_or text 0 0 * 256 + get_or text 1 0) * 256 + get_or text 4 0

tags : (xs ys : List ℕ) → xs ≡ ys → tag xs ≡ tag ys
tags xs ys e = ap tag e

device_same : (one other : Device) → device_name one ≡ device_name other → one ≡ other
device_same device.Log device.Log e = refl
device_same device.Pages device.Pages e = refl
device_same device.Pagelog device.Pagelog e = refl
device_same device.Maplog device.Maplog e = refl
device_same device.Cabinet device.Cabinet e = refl
device_same one other e = absurd (omega (arith, tags (device_name one) (device_name other) e))

fault_same : (one other : Device) (n m : ℕ) → n < 2 ^ 64 → m < 2 ^ 64
    → device_name one ++ value_text n ≡ device_name other ++ value_text m → Faulted one n ≡ Faulted other m
fault_same one other n m p q e =
    let cut = cut_same 32 (device_name one) (device_name other) (decimal n) (decimal m) (device_above one)
    (device_above other) e in
    let is = device_same one other cut.0 in
    let count = decimal_injective n m p q cut.1 in
    λ i. Faulted (is i) (count i)

pub said_same : (newest : ℕ) (one other : Shown) → IsSmall one → IsSmall other
    → said_text newest one ≡ said_text newest other → one ≡ other
said_same newest (Done false) (Done false) a b e = refl
said_same newest (Done true) (Done true) a b e = refl
said_same newest RolledBack RolledBack a b e = refl
said_same newest (Looked n) (Looked m) a b e = ap Looked (decimal_injective n m a b (ap (drop 7) e))
said_same newest (Looked n) LookedAll a b e =
    absurd (no_letter n 97 (codes "ll") a (omega arith) (ap (drop 7) e))
said_same newest LookedAll (Looked m) a b e =
    absurd (no_letter m 97 (codes "ll") b (omega arith) (ap (drop 7) (sym e)))
said_same newest LookedAll LookedAll a b e = refl
said_same newest Unlooked Unlooked a b e = refl
said_same newest (DroppedBelow n) (DroppedBelow m) a b e =
    ap DroppedBelow (decimal_injective n m a b (ap (drop 14) e))
said_same newest (RefusedBy n) (RefusedBy m) a b e = ap RefusedBy (decimal_injective n m a b (ap (drop 8) e))
said_same newest (Faulted one n) (Faulted other m) a b e = fault_same one other n m a b (ap (drop 6) e)
said_same newest (Done false) other a b e = absurd (omega (arith, tags (codes "done") (said_text newest other) e))
said_same newest (Done true) other a b e =
    absurd (omega (arith, tags (codes "done as " ++ decimal (newest + 1)) (said_text newest other) e))
said_same newest one (Done false) a b e = absurd (omega (arith, tags (said_text newest one) (codes "done") e))
said_same newest one (Done true) a b e =
    absurd (omega (arith, tags (said_text newest one) (codes "done as " ++ decimal (newest + 1)) e))
said_same newest one other a b e = absurd (omega (arith, tags (said_text newest one) (said_text newest other) e))
