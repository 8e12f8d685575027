use Rattle.std.proofs.Common.{◌≡◌, ◌∙◌, ◌+◌, ◌-◌, ℕ, List, None, Some, subst, take, drop, arith}
use Rattle.retro_base.specs.Fields.{number_at}
use Rattle.row_codec.specs.RowCode.{IsDecoded, IsEncoded}
use Rattle.values.specs.declared.value.Value.{Value}
use Rattle.index_page.proofs.Packing.{short_for_entry, past_the_end, no_row_there, no_value_there, entry_there}
use Rattle.index_page.proofs.reading.first_entry.Goals as goal

pub returns-then-bytes-lt6-clause-found : goal.returns-then-bytes-lt6-clause-found
returns-then-bytes-lt6-clause-found c = short_for_entry c.args.bytes.now c.if-bytes-lt6.true

pub returns-then-end-bytes-clause-found : goal.returns-then-end-bytes-clause-found
returns-then-end-bytes-clause-found c =
    let n : c.from-end.result ≡ number_at 2 c.args.bytes.now 0 = c.from-end.ensures ∙ c.get_u16.ensures in
    past_the_end c.args.bytes.now (omega arith) (omega arith)

pub returns-in_default-clause-found : goal.returns-in_default-clause-found
returns-in_default-clause-found c =
    let bytes = c.args.bytes.now in
    let n : c.from-end.result ≡ number_at 2 bytes 0 = c.from-end.ensures ∙ c.get_u16.ensures in
    let long : 6 + c.from-end.result - 6 ≡ number_at 2 bytes 0 = omega arith in
    no_row_there bytes (subst (λ (k : ℕ). IsDecoded (take k (drop 6 bytes)) None) long (rw c.in_default.is at c.in_ok-number.ensures.decoded))

pub returns-in_default-only_value-clause-found : goal.returns-in_default-only_value-clause-found
returns-in_default-only_value-clause-found c =
    let bytes = c.args.bytes.now in
    let n : c.from-end.result ≡ number_at 2 bytes 0 = c.from-end.ensures ∙ c.get_u16.ensures in
    let long : 6 + c.from-end.result - 6 ≡ number_at 2 bytes 0 = omega arith in
    let row = subst (λ (k : ℕ). IsDecoded (take k (drop 6 bytes)) (Some (c.in-Some.number, c.in-Some.row))) long (rw c.in-Some.is at c.in_ok-number.ensures.decoded) in
    no_value_there bytes c.in-Some.number c.in-Some.row row (rw c.in_default-only_value.is at c.only_value.ensures)

pub returns-clause-found : goal.returns-clause-found
returns-clause-found c =
    let bytes = c.args.bytes.now in
    let n : c.from-end.result ≡ number_at 2 bytes 0 = c.from-end.ensures ∙ c.get_u16.ensures in
    let long : 6 + c.from-end.result - 6 ≡ number_at 2 bytes 0 = omega arith in
    let row = subst (λ (k : ℕ). IsDecoded (take k (drop 6 bytes)) (Some (c.in-Some.number, c.in-Some.row))) long (rw c.in-Some.is at c.in_ok-number.ensures.decoded) in
    let one = rw c.in-Some-only_value.is at c.only_value.ensures in
    rw (n, c.get_u32-page.ensures) (entry_there bytes c.in-Some.number c.in-Some-only_value.value (λ i. omega (arith, c.type_inv.bytes i)) (omega arith)
    (subst (λ (r : List Value). IsEncoded (take (number_at 2 bytes 0) (drop 6 bytes)) c.in-Some.number r) one row))
