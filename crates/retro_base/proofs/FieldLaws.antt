-- Laws of the numbers in a list of bytes.
use Rattle.std.proofs.Common.{◌≡◌, ◌<◌, ◌+◌, ◌-◌, ◌^◌, ◌++◌, ◌∙◌, ℕ, List, [], length, take, drop, slice_index, refl, sym, ap, arith}
use Rattle.std.proofs.lemmas.List.{append-nil, drop-drop, drop_all, drop_at, length-take}
use borrow.Rule.Slice.PartMut.{put_mid}
use Rattle.byteorder.specs.Endian.{big_number, big_bytes}
use Rattle.byteorder.specs.Numbers.{big_from-take, big_from-lt, big_number-reads_back, length-bytes_high_first}
use Rattle.retro_base.specs.Fields.{number_at, field_bytes}

-- a number has as many bytes as its field
pub length-field_bytes : (width value : ℕ) → length (field_bytes width value) ≡ width
unfolding field_bytes
length-field_bytes width value = length-bytes_high_first width value

-- a number of bytes fits its field
pub number_at-fits : (width : ℕ) (bytes : List ℕ) (place : ℕ) → ((i : ℕ) → slice_index (drop place bytes) i < 256) → number_at width bytes place < 256 ^ width
unfolding number_at
number_at-fits width bytes place small = big_from-lt 0 width (drop place bytes) small

-- a number depends on its own bytes alone
pub number_at-same : (width : ℕ) (xs ys : List ℕ) (p q : ℕ) → take width (drop p xs) ≡ take width (drop q ys) → number_at width xs p ≡ number_at width ys q
unfolding number_at
number_at-same width xs ys p q same =
    sym (big_from-take 0 width width (drop p xs) (omega arith))
    ∙ ap (big_number width) same
    ∙ big_from-take 0 width width (drop q ys) (omega arith)

-- a number reads back where its bytes stand
pub number_at-field : (width value place : ℕ) (front rest : List ℕ) → length front ≡ place → value < 256 ^ width → number_at width (front ++ (field_bytes width value ++ rest)) place ≡ value
unfolding number_at field_bytes
number_at-field width value place front rest long small =
    rw (drop_at front (big_bytes width value ++ rest) place long) (big_number-reads_back width value rest small)

-- what a part of a list that a number is written to leaves of the list
pub field_put : (width value place : ℕ) (old part : List ℕ) → part ≡ field_bytes width value ++ drop width (take (place + width - place) (drop place old)) → put_mid place (place + width - place) old part ≡ take place old ++ (field_bytes width value ++ drop (place + width) old)
field_put width value place old part written =
    let len : place + width - place ≡ width = omega arith in
    let none : drop width (take width (drop place old)) ≡ [] = drop_all width (take width (drop place old)) (omega (arith, length-take width (drop place old))) in
    let whole : part ≡ field_bytes width value = written ∙ (rw (len, none, append-nil) refl) in
    rw (whole, len, drop-drop) refl
