-- Numbers of several bytes at the front of bytes.
use Rattle.std.proofs.Common.{◌≡◌, ◌<◌, ◌≤◌, ◌+◌, ◌^◌, ◌++◌, ℕ, List, [], ◌∷◌, length, take, drop, get_or, refl, ap, arith}
use Rattle.std.proofs.Math.Nat.{mod-eq_of_lt}
use Rattle.std.proofs.lemmas.List.{get_or-drop}
use Rattle.byteorder.specs.Numbers.{big_from-lt, big_number-reads_back}
use Rattle.retro_base.specs.Fields.{number_at, field_bytes}
use Rattle.retro_base.proofs.Numbers.{field_bytes-number_at}

abbrev pub IsBytes : List ℕ → Type 0
IsBytes bytes = (i : ℕ) → get_or bytes i 0 < 256

pub IsBytes-drop : (n : ℕ) (bytes : List ℕ) → IsBytes bytes → IsBytes (drop n bytes)
IsBytes-drop n bytes h i = rw get_or-drop (h (n + i))

-- the bytes of the number that stands in bytes are these bytes
pub field_of-number : (n : ℕ) (bytes : List ℕ) → n ≤ length bytes → IsBytes bytes → field_bytes n (number_at n bytes 0) ≡ take n bytes
field_of-number n bytes le h = field_bytes-number_at n bytes 0 h (omega (arith, le))

-- a number at a place is the one at the front of what stands there
pub number-drop : (n place : ℕ) (bytes : List ℕ) → number_at n bytes place ≡ number_at n (drop place bytes) 0
unfolding number_at
number-drop n place bytes = refl

pub number-lt : (n : ℕ) (bytes : List ℕ) → IsBytes bytes → number_at n bytes 0 < 256 ^ n
unfolding number_at
number-lt n bytes h = big_from-lt 0 n bytes h

pub number-again : (n value : ℕ) (rest : List ℕ) → value < 256 ^ n → number_at n (field_bytes n value ++ rest) 0 ≡ value
unfolding field_bytes number_at
number-again n value rest lt = big_number-reads_back n value rest lt

pub byte-is : (bytes : List ℕ) → number_at 1 bytes 0 ≡ get_or bytes 0 0
unfolding number_at
byte-is bytes = omega arith

pub byte_field : (value : ℕ) → value < 256 → field_bytes 1 value ≡ value ∷ []
unfolding field_bytes
byte_field value lt = ap (λ (b : ℕ). b ∷ []) (mod-eq_of_lt lt)
