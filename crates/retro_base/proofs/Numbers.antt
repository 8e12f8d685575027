-- Numbers and the bytes of their fields.
use Rattle.std.proofs.Common.{◌≡◌, ◌∙◌, ◌<◌, ◌≤◌, ◌+◌, ◌*◌, ◌%◌, ◌^◌, ℕ, zero, suc, List, [], ◌∷◌, length, take, drop, get_or, refl, sym, ap, arith, length-drop}
use Rattle.std.proofs.Math.Nat.{add-mul, mul_assoc, mul-add-mod_self_right, mod-eq_of_lt, pow-succ', add_assoc}
use Rattle.std.proofs.lemmas.Nat.{div-mul-add}
use Rattle.std.proofs.lemmas.List.{get_or-drop, get_or-take, length-take-le}
use Rattle.std.proofs.lemmas.Grind.{same_number_lists}
use Rattle.std.specs.Int.{byte_at, bytes_high_first}
use Rattle.byteorder.specs.Endian.{big_from}
use Rattle.byteorder.specs.Numbers.{big_from-cons, big_from-lt}
use Rattle.retro_base.specs.Fields.{number_at, field_bytes}
use Rattle.retro_base.proofs.FieldLaws.{number_at-same}

byte_at-digit : (n a b : ℕ) → b < 256 ^ n → byte_at n (a * 256 ^ n + b) ≡ a % 256
byte_at-digit zero a b lt = let one : a * 1 + b ≡ a = omega arith in ap (λ (x : ℕ). x % 256) one
byte_at-digit (suc n) a b lt = ap (λ (x : ℕ). x % 256) (div-mul-add a (256 ^ suc n) b lt)

small_rest : (x : ℕ) (xs : List ℕ) → ((i : ℕ) → get_or (x ∷ xs) i 0 < 256) → (i : ℕ) → get_or xs i 0 < 256
small_rest x xs small i = small (suc i)

-- the low bytes of a number do not depend on what stands above them
low_bytes : (n q : ℕ) (xs : List ℕ) → ((i : ℕ) → get_or xs i 0 < 256) → n ≤ length xs → bytes_high_first n (q * 256 ^ n + big_from 0 n xs) ≡ take n xs
low_bytes zero q xs small long = refl
low_bytes (suc n) q [] small long = absurd (omega arith)
low_bytes (suc n) q (x ∷ xs) small long =
    let rest = big_from 0 n xs in
    let below : rest < 256 ^ n = big_from-lt 0 n xs (small_rest x xs small) in
    let moved : big_from 1 n (x ∷ xs) ≡ rest = big_from-cons 0 n x xs in
    let digits : q * 256 ^ suc n + (x * 256 ^ n + rest) ≡ (q * 256 + x) * 256 ^ n + rest =
    ap (λ (p : ℕ). q * p + (x * 256 ^ n + rest)) (pow-succ' 256 n)
    ∙ ap (λ (p : ℕ). p + (x * 256 ^ n + rest)) (sym (mul_assoc q 256 (256 ^ n)))
    ∙ sym (add_assoc (q * 256 * 256 ^ n) (x * 256 ^ n) rest)
    ∙ ap (λ (p : ℕ). p + rest) (sym (add-mul (q * 256) x (256 ^ n))) in
    let whole : q * 256 ^ suc n + (x * 256 ^ n + big_from 1 n (x ∷ xs)) ≡ (q * 256 + x) * 256 ^ n + rest = ap (λ (r : ℕ). q * 256 ^ suc n + (x * 256 ^ n + r)) moved ∙ digits in
    let top : byte_at n ((q * 256 + x) * 256 ^ n + rest) ≡ x = byte_at-digit n (q * 256 + x) rest below ∙ mul-add-mod_self_right q 256 x ∙ mod-eq_of_lt (small 0) in
    let low : bytes_high_first n ((q * 256 + x) * 256 ^ n + rest) ≡ take n xs = low_bytes n (q * 256 + x) xs (small_rest x xs small) (omega arith) in
    ap (λ (v : ℕ). byte_at n v ∷ bytes_high_first n v) whole ∙ ap (λ (v : ℕ). v ∷ bytes_high_first n ((q * 256 + x) * 256 ^ n + rest)) top ∙ ap (λ (l : List ℕ). x ∷ l) low

-- a number's field holds the bytes that the number was read from
pub field_bytes-number_at : (width : ℕ) (bytes : List ℕ) (place : ℕ) → ((i : ℕ) → get_or bytes i 0 < 256) → place + width ≤ length bytes → field_bytes width (number_at width bytes place) ≡ take width (drop place bytes)
unfolding field_bytes number_at
field_bytes-number_at width bytes place small long =
    let none : 0 * 256 ^ width + big_from 0 width (drop place bytes) ≡ big_from 0 width (drop place bytes) = omega arith in
    ap (λ (v : ℕ). bytes_high_first width v) (sym none)
    ∙ low_bytes width 0 (drop place bytes) (λ i. let e = get_or-drop place bytes i 0 in omega (arith, e, small (place + i))) (omega (arith, length-drop place bytes))

-- a number is that of its bytes, wherever they stand
pub number_at-bytes : (width p q : ℕ) (xs ys : List ℕ) → p + width ≤ length xs → q + width ≤ length ys → ((i : ℕ) → i < width → get_or xs (p + i) 0 ≡ get_or ys (q + i) 0) → number_at width xs p ≡ number_at width ys q
number_at-bytes width p q xs ys here there same =
    let long : length (take width (drop p xs)) ≡ width = length-take-le width (drop p xs) (omega (arith, length-drop p xs)) in
    let tall : length (take width (drop q ys)) ≡ width = length-take-le width (drop q ys) (omega (arith, length-drop q ys)) in
    number_at-same width xs ys p q (same_number_lists (take width (drop p xs)) (take width (drop q ys)) (long ∙ sym tall) (λ i lt.
    let below : i < width = omega (arith, lt, long) in
    get_or-take width (drop p xs) i 0 below ∙ get_or-drop p xs i 0 ∙ same i below ∙ sym (get_or-take width (drop q ys) i 0 below ∙ get_or-drop q ys i 0)))
